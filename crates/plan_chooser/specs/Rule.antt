-- The plan rule: which plan a predicate has in each mode.
use Rattle.std.specs.Prelude.{ℕ, List, [], ◌∷◌, map, Bool, true, false, not, Option, Some, None}
use Rattle.mdc_values.specs.declared.truth.Op.{Op}
use Rattle.mdc_values.specs.declared.truth.Op.TheVariants.{Equal, Unequal, AtMost, AtLeast}
use Rattle.mdc_values.specs.declared.value.Value.{Value}
use Rattle.mdc_ast.specs.declared.definition.TableDef.{TableDef}
use Rattle.mdc_ast.specs.declared.predicate.Atom.{Atom}
use Rattle.mdc_ast.specs.declared.predicate.Pred.{Pred}
use Rattle.mdc_ast.specs.declared.predicate.Pred.TheFolds.{fold-Pred}
use Rattle.mdc_ast.specs.declared.predicate.Pred.TheOpen.{Pred-F}
use Rattle.mdc_ast.specs.declared.predicate.Pred.TheOpen as layer
use Rattle.mdc_ast.specs.declared.predicate.Right.TheVariants as right
use Rattle.mdc_ast.specs.declared.predicate.Test.{Test}
use Rattle.mdc_ast.specs.declared.predicate.Test.TheVariants.{Compare, Between, Within, IsNull}
use Rattle.mdc_ast.specs.declared.span.Span.{Span}
use Rattle.mdc_ast.specs.declared.statement.PlanMode.{PlanMode}
use Rattle.mdc_ast.specs.declared.statement.PlanMode.TheVariants as mode
use Rattle.predicate.specs.Pushed.{op_if}
use Rattle.plan_chooser.specs.declared.cover.Cover.{Cover}
use Rattle.plan_chooser.specs.declared.plan.Plan.{Plan}
use Rattle.plan_chooser.specs.declared.plan.Plan.TheVariants as plan
use Rattle.plan_chooser.specs.declared.plan.Source.{Source}
use Rattle.plan_chooser.specs.Covers.{any_covers, joined, no_cover, plan_of_cover, span_cover}
use Rattle.plan_chooser.specs.Sources.{source_of}
use Rattle.plan_chooser.specs.Spans.{null_span, spans_of}

-- ---- tests

-- a column's values lie in one of the spans; nothing is known where no source lists them
abbrev pub spans_cover : Option Source → ℕ → List Span → Cover
spans_cover None column spans = no_cover
spans_cover (Some source) column spans = any_covers (map (λ span. span_cover (record { source = source; column = column; span = span })) spans)

-- it is `<>`
abbrev pub is_unequal : Op → Bool
is_unequal Unequal = true
is_unequal op = false

-- a comparison with a value: its spans
abbrev pub comparison_cover : TableDef → PlanMode → ℕ → Op → Value → Cover
comparison_cover def mode column op value = spans_cover (source_of def mode (is_unequal op) column) column (spans_of op value)

-- a test of a column, or its negation: BETWEEN is two comparisons joined by AND, and IN is equalities joined by OR; of a test against a column nothing is known
abbrev pub test_cover : TableDef → PlanMode → ℕ → (negated : Bool) → Test → Cover
test_cover def mode column negated (Compare op (right.Value value)) = comparison_cover def mode column (op_if negated op) value
test_cover def mode column negated (Compare op (right.Column other)) = no_cover
test_cover def mode column negated (Between low high) =
    joined (not negated) (comparison_cover def mode column (op_if negated AtLeast) low ∷ comparison_cover def mode column (op_if negated AtMost) high ∷ [])
test_cover def mode column negated (Within values) = joined negated (map (comparison_cover def mode column (op_if negated Equal)) values)
test_cover def mode column negated IsNull = spans_cover (source_of def mode false column) column (null_span negated ∷ [])

-- one NOT more, or none
abbrev pub turned : Bool → Bool → Bool
turned true b = not b
turned false b = b

-- a test with its own NOT, or its negation
abbrev pub atom_cover : TableDef → PlanMode → (negated : Bool) → Atom → Cover
atom_cover def mode negated atom = test_cover def mode atom.column (turned negated atom.negated) atom.test

-- ---- predicates

-- One layer of a predicate, with the covers of each part and of its negation in its place. Under an odd number of NOTs AND is an OR, and OR an AND.
abbrev pub layer_cover : TableDef → PlanMode → Pred-F (Bool → Cover) → Bool → Cover
layer_cover def mode (layer.Atom atom) negated = atom_cover def mode negated atom
layer_cover def mode (layer.All parts) negated = joined (not negated) (map (λ part. part negated) parts)
layer_cover def mode (layer.Any parts) negated = joined negated (map (λ part. part negated) parts)
layer_cover def mode (layer.Not part) negated = part (not negated)

-- the cover of a predicate, or of its negation
abbrev pub cover_under : TableDef → PlanMode → Pred → (negated : Bool) → Cover
cover_under def mode = fold-Pred (Bool → Cover) (layer_cover def mode)

-- in AUTO and BLOCK the cells of the rows decide; in RECORD and SCAN they don't
abbrev pub goes_by_cells : PlanMode → Bool
goes_by_cells mode.Auto = true
goes_by_cells mode.Block = true
goes_by_cells other = false

-- The plan of a predicate: that of its cover; in mode SCAN, and where there is no predicate, all rows.
abbrev pub plan_of : TableDef → PlanMode → Option Pred → Plan
plan_of def mode None = plan.Scan
plan_of def mode.Scan (Some pred) = plan.Scan
plan_of def mode (Some pred) = plan_of_cover (cover_under def mode pred false)
