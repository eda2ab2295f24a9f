-- What the cell of a row settles of a predicate: all rows of a block have one cell (docs/FORMAT.md, "Placing").
use Rattle.std.specs.Prelude.{◌≡◌, ◌⊎◌, true, false, Contains, IsTrue, List, map, Bool, Option, Some, None}
use Rattle.mdc_values.specs.declared.value.Value.{Value}
use Rattle.mdc_ast.specs.declared.definition.TableDef.{TableDef}
use Rattle.mdc_ast.specs.declared.predicate.Atom.{Atom}
use Rattle.mdc_ast.specs.declared.predicate.Pred.{Pred}
use Rattle.mdc_ast.specs.declared.predicate.Pred.TheVariants as pred
use Rattle.mdc_ast.specs.Truth.{qualifies, all_true, is_true, may_judge, negated_if, truth}
use Rattle.cell_filter.specs.Cells.{is_against_literals, may_hold_at, may_hold_under}
use Rattle.row_filter.specs.Filtering.{may_filter}
use Rattle.table_trees.specs.RowCells.{cell_places, cell_values}
use Rattle.table_scan.specs.FoundRows.{MayHoldInCell}

-- On a row on which it may be judged, the predicate and its negation are true exactly where they may hold in the row's cell.
abbrev pub IsSettledOn : TableDef → List Value → Pred → Type 0
IsSettledOn def values pred =
    IsTrue (may_judge values pred) → (negated : Bool) → may_hold_under (cell_places def) (cell_values def values) pred negated ≡ is_true (negated_if negated (truth values pred))

-- so it is on each row
abbrev pub IsSettled : TableDef → Pred → Type 0
IsSettled def pred = (values : List Value) → IsSettledOn def values pred

-- so is a predicate, where there is one
abbrev pub IsSettledIfAny : TableDef → Option Pred → Type 0
IsSettledIfAny def None = Unit {0}
IsSettledIfAny def (Some pred) = IsSettled def pred

-- ---- what is open

-- a test that no cell settles: it compares columns, or is of one that is no dimension column
abbrev pub IsOpenTest : TableDef → Atom → Type 0
IsOpenTest def atom = (is_against_literals atom.test ≡ false) ⊎ (Contains (cell_places def) atom.column → ⊥)

-- the predicate has such a test
pub data HasOpenTest (def : TableDef) : Pred → Type 0 where
  in_atom : (atom : Atom) → IsOpenTest def atom → HasOpenTest def (pred.Atom atom)
  in_all : (parts : List Pred) (part : Pred) → Contains parts part → HasOpenTest def part → HasOpenTest def (pred.All parts)
  in_any : (parts : List Pred) (part : Pred) → Contains parts part → HasOpenTest def part → HasOpenTest def (pred.Any parts)
  in_not : (part : Pred) → HasOpenTest def part → HasOpenTest def (pred.Not part)

-- so has one that is there
abbrev pub HasOpenTestIfAny : TableDef → Option Pred → Type 0
HasOpenTestIfAny def None = ⊥
HasOpenTestIfAny def (Some pred) = HasOpenTest def pred

-- ---- what is left

-- a predicate, where there is one, may hold in the cell of a row of these values
abbrev pub MayHoldIfAny : TableDef → Option Pred → List Value → Type 0
MayHoldIfAny def None values = Unit {0}
MayHoldIfAny def (Some pred) values = MayHoldInCell def pred values

-- On a row in whose cell a predicate may hold, what is left of it is true exactly where the predicate is, and it may be judged where the predicate may.
pub record IsLeftOf (def : TableDef) (pred left : Option Pred) : Type 0 where
  pub same : (values : List Value) → IsTrue (may_filter pred values) → MayHoldIfAny def pred values → qualifies left values ≡ qualifies pred values
  pub judged : (values : List Value) → IsTrue (may_filter pred values) → IsTrue (may_filter left values)

-- all parts may be judged on a row of these values; all may hold in its cell; all are true of it
abbrev pub may_judge_all : List Value → List Pred → Bool
may_judge_all values parts = all_true (map (may_judge values) parts)

abbrev pub may_hold_all : TableDef → List Value → List Pred → Bool
may_hold_all def values parts = all_true (map (may_hold_at (cell_places def) (cell_values def values)) parts)

abbrev pub are_true : List Value → List Pred → Bool
are_true values parts = all_true (map (λ part. is_true (truth values part)) parts)

-- the same of parts that an AND joins
pub record AreLeftOf (def : TableDef) (parts left : List Pred) : Type 0 where
  pub same : (values : List Value) → IsTrue (may_judge_all values parts) → may_hold_all def values parts ≡ true → are_true values left ≡ are_true values parts
  pub judged : (values : List Value) → IsTrue (may_judge_all values parts) → IsTrue (may_judge_all values left)
