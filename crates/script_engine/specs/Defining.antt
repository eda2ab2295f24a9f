-- What a bound statement needs of the definitions that it is executed on.
use Rattle.std.specs.Prelude.{◌≡◌, ◌≤◌, [], IsTrue, is_none, length, true}
use Rattle.std.specs.List.{list_all}
use Rattle.mdc_ast.specs.declared.bound.Bound.{Bound}
use Rattle.mdc_ast.specs.declared.bound.Bound.TheVariants as bound
use Rattle.mdc_ast.specs.declared.definition.IndexDef.{IndexDef}
use Rattle.mdc_ast.specs.declared.definition.TableDef.{TableDef}
use Rattle.mdc_ast.specs.declared.statement.Stmt.{Stmt}
use Rattle.statement_meaning.specs.Binding.{bound_of}
use Rattle.mdc_ast.specs.Definitions.{Definitions}
use Rattle.mdc_ast.specs.TableLimits.{is_given_name}
use Rattle.statement_meaning.specs.Judged.{judged_of}
use Rattle.statement_meaning.specs.Judging.{in_order}
use Rattle.statement_meaning.specs.Built.{is_built_step}
use Rattle.row_checks.specs.Served.{IsServed}
use Rattle.stored_catalog.specs.NewTables.{IsNewTableDef}

-- the definition of a new table: within the limits, with no generated column, no next row number and no roots yet
pub record IsPlainNewDef (def : TableDef) : Type 0 where
  pub limits : IsNewTableDef def
  pub none_made : IsTrue (list_all (λ column. is_none column.made) def.columns)
  pub next : def.next ≡ 0
  pub roots : def.roots ≡ record { map = 0; composite = 0; dims = [] }

-- a record index that is to be made: its name is given, it has a part, and no root yet
pub record IsNewIndex (index : IndexDef) : Type 0 where
  pub name : IsTrue (is_given_name index.name)
  pub some_parts : 1 ≤ length index.parts
  pub rootless : index.root ≡ 0

-- a table or a record index that is to be made is new
abbrev pub IsNewIfMade : Bound → Type 0
IsNewIfMade (bound.CreateTable def) = IsPlainNewDef def
IsNewIfMade (bound.CreateIndex place index) = IsNewIndex index
IsNewIfMade statement = Unit {0}

-- what executing needs of a bound statement
pub record MayBeExecuted (defs : Definitions) (statement : Bound) : Type 0 where
  pub served : IsServed defs statement
  pub new : IsNewIfMade statement

-- a statement of a form that is built, against which the definitions say nothing, is bound to this
pub record IsBoundOn (defs : Definitions) (stmt : Stmt) (statement : Bound) : Type 0 where
  pub built : is_built_step stmt ≡ true
  pub said : in_order (judged_of defs stmt) ≡ []
  pub is : statement ≡ bound_of defs stmt
