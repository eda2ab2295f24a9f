-- Which DELETEs are done by rollout: those without a WHERE, and those whose WHERE names dimension columns alone (docs/SQL.md, "DELETE").
use Rattle.std.specs.Prelude.{ℕ, Bool, true, ◌==◌, ◌&&◌, Option, Some, None}
use Rattle.std.specs.List.{list_any}
use Rattle.mdc_ast.specs.declared.definition.TableDef.{TableDef}
use Rattle.mdc_ast.specs.declared.predicate.Pred.{Pred}
use Rattle.mdc_ast.specs.declared.predicate.Pred.TheFolds.{fold-Pred}
use Rattle.mdc_ast.specs.declared.predicate.Pred.TheOpen.{Pred-F}
use Rattle.mdc_ast.specs.declared.predicate.Pred.TheOpen as layer
use Rattle.mdc_ast.specs.declared.predicate.Right.TheVariants as right
use Rattle.mdc_ast.specs.declared.predicate.Test.{Test}
use Rattle.mdc_ast.specs.declared.predicate.Test.TheVariants.{Compare}
use Rattle.mdc_ast.specs.Truth.{all_true}

-- some dimension has the column
abbrev pub is_dimension : TableDef → ℕ → Bool
is_dimension def column = list_any (λ dim. list_any (λ place. place == column) dim) def.dims

-- so has one the column that a test compares with, if it does with one
abbrev pub compares_with_dimension : TableDef → Test → Bool
compares_with_dimension def (Compare op (right.Column column)) = is_dimension def column
compares_with_dimension def test = true

-- One layer of a predicate, told of each of its parts whether it names dimension columns alone.
abbrev pub layer_names_dimensions : TableDef → Pred-F Bool → Bool
layer_names_dimensions def (layer.Atom atom) = is_dimension def atom.column && compares_with_dimension def atom.test
layer_names_dimensions def (layer.All parts) = all_true parts
layer_names_dimensions def (layer.Any parts) = all_true parts
layer_names_dimensions def (layer.Not part) = part

-- each column that a predicate names is a dimension column
abbrev pub names_dimensions : TableDef → Pred → Bool
names_dimensions def = fold-Pred Bool (layer_names_dimensions def)

-- there is no predicate, or it names dimension columns alone, so that all rows of a cell have one truth
abbrev pub applies_to : Option Pred → TableDef → Bool
applies_to None def = true
applies_to (Some pred) def = names_dimensions def pred
