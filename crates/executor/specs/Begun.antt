-- What the rows of a block are begun with.
use Rattle.std.specs.Prelude.{ℕ, Option}
use Rattle.mdc_ast.specs.declared.definition.TableDef.{TableDef}
use Rattle.mdc_ast.specs.declared.predicate.Pred.{Pred}

-- a sink as it is lent, by a reference of this name, for rows of a table that are judged by a predicate and by what is left of it
pub record Begun (K : Type 0) : Type 0 where
  pub name : ℕ
  pub sink : K
  pub def : TableDef
  pub pred : Option Pred
  pub left : Option Pred
