-- Which forms are built: those of statements, and those of tables (docs/SQL.md, "What is built").
use Rattle.std.specs.Prelude.{◌≡◌, List, Bool, true, false, is_none, Option, Some, None}
use Rattle.std.specs.List.{list_all}
use Rattle.mdc_ast.specs.declared.definition.TableDef.{TableDef}
use Rattle.mdc_ast.specs.declared.statement.ColumnText.{ColumnText}
use Rattle.mdc_ast.specs.declared.statement.RolloutMode.{RolloutMode}
use Rattle.mdc_ast.specs.declared.statement.RolloutMode.TheVariants as rollout
use Rattle.mdc_ast.specs.declared.statement.Stmt.{Stmt}
use Rattle.mdc_ast.specs.declared.statement.Stmt.TheVariants.{CreateIndex, CreateTable, DropIndex, DropTable, Insert, Update, Delete, Query, Reclaim}
use Rattle.mdc_ast.specs.Database.{Database, defs_of}
use Rattle.mdc_ast.specs.Definitions.{Definitions}
use Rattle.mdc_ast.specs.ValidDatabase.{AreValidDefs, IsValid}

-- ---- statements

-- no column is generated
abbrev pub has_no_generated : List ColumnText → Bool
has_no_generated columns = list_all (λ column. is_none column.made) columns

-- a form by which a database steps, and which is built; BEGIN, COMMIT, ROLLBACK, the settings, LIST BLOCKS and EXPLAIN, which are,
-- turn a session
abbrev pub is_built_step : Stmt → Bool
is_built_step (CreateTable name columns dims) = has_no_generated columns
is_built_step (CreateIndex name unique table parts) = true
is_built_step (DropTable name) = true
is_built_step (DropIndex name) = true
is_built_step (Insert name listed tuples) = true
is_built_step (Update name sets pred) = true
is_built_step (Delete name pred) = true
is_built_step (Query select) = true
is_built_step (Reclaim name) = true
is_built_step stmt = false

-- a way in which a DELETE gives blocks back that is built: row by row, or whole blocks at once; no block waits for a cleaner yet
abbrev pub is_built_mode : RolloutMode → Bool
is_built_mode rollout.None = true
is_built_mode rollout.Immediate = true
is_built_mode rollout.Deferred = false

-- ---- tables

-- a place has no table, or one with no generated column
abbrev pub is_built_place : Option TableDef → Bool
is_built_place None = true
is_built_place (Some def) = list_all (λ column. is_none column.made) def.columns

-- so has each place
abbrev pub are_built : Definitions → Bool
are_built defs = list_all is_built_place defs

-- valid definitions of built forms
pub record AreBuiltDefs (defs : Definitions) : Type 0 where
  pub valid : AreValidDefs defs
  pub built : are_built defs ≡ true

-- a valid database of tables of built forms
pub record IsBuiltDatabase (db : Database) : Type 0 where
  pub valid : IsValid db
  pub built : are_built (defs_of db) ≡ true
