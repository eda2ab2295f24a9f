-- The values of a row as columns are set one after the other.
use Rattle.std.proofs.Common.{◌≡◌, ◌≢◌, ◌<◌, ◌+◌, ℕ, zero, suc, List, [], ◌∷◌, ◌++◌, ◌∙◌, refl, sym, ap, length, take, get_or, arith, length-set}
use Rattle.std.specs.Prelude.{slice_set, nat_lt, IsTrue}
use Rattle.std.proofs.lemmas.Bool.Decides.{nat_tests}
use Rattle.std.proofs.lemmas.List.{take_more}
use Rattle.mdc_values.specs.declared.value.Value.{Value}
use Rattle.mdc_ast.specs.declared.bound.BoundSet.{BoundSet}
use Rattle.mdc_ast.specs.Database.{is_null}
use Rattle.statement_meaning.specs.Doing.{item_on, set_on}
use Rattle.mdc_ast.proofs.TestsLemmas.{both}
use Rattle.row_checks.specs.RowChange.{is_null_at, are_within, is_within, item_is_within}

-- a row keeps its width
pub length-set_on : (was : List Value) (sets : List BoundSet) (values : List Value) → length (set_on was sets values) ≡ length values
length-set_on was [] values = refl
length-set_on was (first ∷ sets) values = length-set_on was sets (slice_set values first.column (item_on was first.item)) ∙ length-set values first.column (item_on was first.item)

set_on-append : (was : List Value) (sets more : List BoundSet) (values : List Value) → set_on was (sets ++ more) values ≡ set_on was more (set_on was sets values)
set_on-append was [] more values = refl
set_on-append was (first ∷ sets) more values = set_on-append was sets more (slice_set values first.column (item_on was first.item))

-- one more column is set
pub set_on-more : (was : List Value) (sets : List BoundSet) (values : List Value) (i : ℕ) (next : BoundSet) → i < length sets → next ≡ get_or sets i next →
    set_on was (take (i + 1) sets) values ≡ slice_set (set_on was (take i sets) values) next.column (item_on was next.item)
set_on-more was sets values i next lt e =
    ap (λ xs. set_on was xs values) (take_more sets i next lt ∙ ap (λ s. take i sets ++ s ∷ []) (sym e)) ∙ set_on-append was (take i sets) (next ∷ []) values

same_at : (values : List Value) (i : ℕ) (value : Value) → i < length values → is_null_at i (slice_set values i value) ≡ is_null value
same_at [] i value lt = absurd (omega arith)
same_at (first ∷ values) zero value lt = refl
same_at (first ∷ values) (suc i) value lt =
    let below : i < length values = omega arith in
    same_at values i value below

-- a column that is set is null where its new value is
pub is_null_at-same : (values : List Value) (place column : ℕ) (value : Value) → column ≡ place → place < length values → is_null_at place (slice_set values column value) ≡ is_null value
is_null_at-same values place column value e lt = rw e (same_at values place value lt)

-- the others stay
pub is_null_at-other : (values : List Value) (place column : ℕ) (value : Value) → column ≢ place → is_null_at place (slice_set values column value) ≡ is_null_at place values
is_null_at-other [] place column value ne = refl
is_null_at-other (first ∷ values) zero zero value ne = absurd (ne refl)
is_null_at-other (first ∷ values) zero (suc column) value ne = refl
is_null_at-other (first ∷ values) (suc place) zero value ne = refl
is_null_at-other (first ∷ values) (suc place) (suc column) value ne = is_null_at-other values place column value (λ e. ne (ap suc e))

-- a column that is set is there
pub within_at : (n : ℕ) (sets : List BoundSet) (i : ℕ) (next : BoundSet) → i < length sets → next ≡ get_or sets i next → IsTrue (are_within n sets) → next.column < n
within_at n [] i next low at all = absurd (omega (arith, low))
within_at n (first ∷ sets) zero next low at all =
    let parts = both (is_within n first) (are_within n sets) all in
    let column = (both (nat_lt first.column n) (item_is_within n first.item) parts.0).0 in
    let same : next.column ≡ first.column = ap (λ (set : BoundSet). set.column) at in
    grind (arith, nat_tests, column, same)
within_at n (first ∷ sets) (suc i) next low at all = within_at n sets i next (omega (arith, low)) at (both (is_within n first) (are_within n sets) all).1
