-- Whether a predicate may be true of a row of a cell: of its values in the dimension columns alone (docs/SQL.md, "SELECT").
use Rattle.std.specs.Prelude.{ℕ, ◌==◌, ◌&&◌, if◌then◌else◌, List, [], ◌∷◌, flat_map, map, not, Bool, true, false, Option, Some, None}
use Rattle.std.specs.List.{list_any}
use Rattle.mdc_values.specs.declared.value.Value.{Value}
use Rattle.mdc_ast.specs.declared.definition.TableDef.{TableDef}
use Rattle.mdc_ast.specs.declared.predicate.Atom.{Atom}
use Rattle.mdc_ast.specs.declared.predicate.Pred.{Pred}
use Rattle.mdc_ast.specs.declared.predicate.Pred.TheFolds.{fold-Pred}
use Rattle.mdc_ast.specs.declared.predicate.Pred.TheOpen.{Pred-F}
use Rattle.mdc_ast.specs.declared.predicate.Pred.TheOpen as layer
use Rattle.mdc_ast.specs.declared.predicate.Right.TheVariants as right
use Rattle.mdc_ast.specs.declared.predicate.Test.{Test}
use Rattle.mdc_ast.specs.declared.predicate.Test.TheVariants.{Compare}
use Rattle.mdc_ast.specs.declared.row.Cell.{Cell}
use Rattle.mdc_ast.specs.Truth.{all_true, is_true, may_test, negated_if, test_truth}

-- the value that a cell has in a column, if that is one of its columns
abbrev pub value_in_cell : List ℕ → List Value → ℕ → Option Value
value_in_cell [] values column = None
value_in_cell (place ∷ places) [] column = None
value_in_cell (place ∷ places) (value ∷ values) column = if place == column then Some value else value_in_cell places values column

-- a test against literals alone
abbrev pub is_against_literals : Test → Bool
is_against_literals (Compare op (right.Column column)) = false
is_against_literals test = true

-- A test of a value that may be true, or its negation: one against literals of the value's kind is judged, and any other counts as true.
abbrev pub may_pass : Bool → Atom → Value → Bool
may_pass negated atom value =
    if is_against_literals atom.test && may_test [] value atom.test then is_true (negated_if negated (negated_if atom.negated (test_truth [] value atom.test))) else true

-- the same in a cell, where a test of another column counts as true
abbrev pub may_pass_in : Bool → Atom → Option Value → Bool
may_pass_in negated atom None = true
may_pass_in negated atom (Some value) = may_pass negated atom value

-- one of them is true
abbrev pub any_true : List Bool → Bool
any_true = list_any (λ b. b)

-- all of them are true, or one of them
abbrev pub joined_by : Bool → List Bool → Bool
joined_by true = all_true
joined_by false = any_true

-- One layer of a predicate, with what may be of each part and of its negation in its place. What stands under an odd number of NOTs
-- is negated, and under these AND is an OR, and OR an AND.
abbrev pub layer_may_hold : List ℕ → List Value → Pred-F (Bool → Bool) → Bool → Bool
layer_may_hold places values (layer.Atom atom) negated = may_pass_in negated atom (value_in_cell places values atom.column)
layer_may_hold places values (layer.All parts) negated = joined_by (not negated) (map (λ part. part negated) parts)
layer_may_hold places values (layer.Any parts) negated = joined_by negated (map (λ part. part negated) parts)
layer_may_hold places values (layer.Not part) negated = part (not negated)

-- the predicate, or its negation, may be true of a row that has these values in the columns of these places
abbrev pub may_hold_under : List ℕ → List Value → Pred → Bool → Bool
may_hold_under places values = fold-Pred (Bool → Bool) (layer_may_hold places values)

-- the predicate may be true of such a row
abbrev pub may_hold_at : List ℕ → List Value → Pred → Bool
may_hold_at places values pred = may_hold_under places values pred false

-- the predicate may be true of a row of this cell
abbrev pub may_hold : TableDef → Cell → Pred → Bool
may_hold def cell = may_hold_at (flat_map (λ dim. dim) def.dims) cell.values
