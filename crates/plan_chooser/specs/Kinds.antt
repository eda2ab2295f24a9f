-- Predicates that compare columns with values of their kinds.
use Rattle.std.specs.Prelude.{ℕ, pos, ◌&&◌, List, [], map, Bool, true}
use Rattle.std.specs.List.{list_all}
use Rattle.mdc_values.specs.declared.value.ColType.{ColType}
use Rattle.mdc_values.specs.declared.value.ColType.TheVariants as column
use Rattle.mdc_values.specs.declared.value.Value.{Value}
use Rattle.mdc_values.specs.declared.value.Value.TheVariants.{Int, Text, Day}
use Rattle.mdc_ast.specs.declared.definition.ColumnDef.{ColumnDef}
use Rattle.mdc_ast.specs.declared.definition.TableDef.{TableDef}
use Rattle.mdc_ast.specs.declared.predicate.Pred.{Pred}
use Rattle.mdc_ast.specs.declared.predicate.Pred.TheFolds.{fold-Pred}
use Rattle.mdc_ast.specs.declared.predicate.Pred.TheOpen.{Pred-F}
use Rattle.mdc_ast.specs.declared.predicate.Pred.TheOpen as layer
use Rattle.mdc_ast.specs.declared.predicate.Right.TheVariants as right
use Rattle.mdc_ast.specs.declared.predicate.Test.{Test}
use Rattle.mdc_ast.specs.declared.predicate.Test.TheVariants.{Compare, Between, Within, IsNull}
use Rattle.mdc_ast.specs.Truth.{all_true}
use Rattle.key_codec.specs.Keys.{type_of_column}
use Rattle.key_codec.specs.Spans.{has_kind_of}

-- each literal of a test is such
abbrev pub literals_are : (Value → Bool) → Test → Bool
literals_are such (Compare op (right.Value value)) = such value
literals_are such (Compare op (right.Column column)) = true
literals_are such (Between low high) = such low && such high
literals_are such (Within values) = list_all such values
literals_are such IsNull = true

-- one layer of a predicate, told of each of its parts whether its literals are such beside their columns
abbrev pub layer_literals : (ℕ → Value → Bool) → Pred-F Bool → Bool
layer_literals such (layer.Atom atom) = literals_are (such atom.column) atom.test
layer_literals such (layer.All parts) = all_true parts
layer_literals such (layer.Any parts) = all_true parts
layer_literals such (layer.Not part) = part

-- each literal of a predicate is such beside the column that it is compared with
abbrev pub all_literals : (ℕ → Value → Bool) → Pred → Bool
all_literals such = fold-Pred Bool (layer_literals such)

-- each literal is of the kind of the column that it is compared with
abbrev pub has_kinds : TableDef → Pred → Bool
has_kinds def = all_literals (λ column. has_kind_of (type_of_column def.columns column))

-- a value that each column of a type may hold
abbrev pub sample : ColType → Value
sample column.Integer = Int (pos 0)
sample column.Bigint = Int (pos 0)
sample (column.Char n) = Text []
sample column.Date = Day 0

-- the values of a row of such columns
abbrev pub samples : List ColumnDef → List Value
samples columns = map (λ column. sample column.ty) columns
