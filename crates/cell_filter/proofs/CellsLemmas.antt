-- The value that a cell has in a column, place by place, and what may hold in the cell of a row.
use Rattle.std.proofs.Common.{◌≡◌, ◌∙◌, ℕ, ◌+◌, ◌<◌, ◌≤◌, List, [], ◌∷◌, ◌++◌, Bool, true, false, ◌==◌, add-one, ap, drop, drop-cons, get_or, length, map, not, refl, sym, Some, None, if◌then◌else◌}
use Rattle.std.proofs.lemmas.Bool.{eq-eqb, false≢true, ne_eqb}
use mathlib.Core.Bool.{beq}
use Rattle.std.proofs.lemmas.List.{drop_all}
use Rattle.std.proofs.lemmas.Option.{slice_get-get_or}
use Rattle.std.specs.Prelude.{slice_get}
use Rattle.mdc_values.specs.declared.value.Value.{Value}
use Rattle.mdc_ast.specs.declared.predicate.Atom.{Atom}
use Rattle.mdc_ast.specs.declared.predicate.Pred.{Pred}
use Rattle.mdc_ast.specs.declared.predicate.Pred.TheFolds.{fold-roll-Pred}
use Rattle.mdc_ast.specs.declared.predicate.Pred.TheOpen as layer
use Rattle.mdc_ast.specs.declared.predicate.Pred.TheVariants as pred
use Rattle.mdc_ast.specs.declared.predicate.Pred.TheVariants.{rolls-All, rolls-Any, rolls-Atom, rolls-Not}
use Rattle.cell_filter.specs.Cells.{joined_by, layer_may_hold, may_hold_under, may_pass_in, value_in_cell}

-- of places without a value there is none
value_in_cell-none : (places : List ℕ) (column : ℕ) → value_in_cell places [] column ≡ None
value_in_cell-none [] column = refl
value_in_cell-none (place ∷ places) column = refl

pub value_in_cell-past : (places : List ℕ) (values : List Value) (at column : ℕ) → length values ≤ at → value_in_cell places (drop at values) column ≡ None
value_in_cell-past places values at column past = ap (λ rest. value_in_cell places rest column) (drop_all at values past) ∙ value_in_cell-none places column

-- the next place is looked at beside the next value
pub value_in_cell-next : (places more : List ℕ) (values : List Value) (i at column d : ℕ) (v : Value) → i < length places → at < length values
    → value_in_cell (drop i places ++ more) (drop at values) column
    ≡ (if get_or places i d == column then Some (get_or values at v) else value_in_cell (drop (i + 1) places ++ more) (drop (at + 1) values) column)
value_in_cell-next places more values i at column d v lt below =
    let tail : drop i places ≡ get_or places i d ∷ drop (i + 1) places = rw (drop-cons places i d, add-one) refl in
    let rest : drop at values ≡ get_or values at v ∷ drop (at + 1) values = rw (drop-cons values at v, add-one) refl in
    ap (λ front. value_in_cell (front ++ more) (drop at values) column) tail
    ∙ ap (λ back. value_in_cell (get_or places i d ∷ (drop (i + 1) places ++ more)) back column) rest

-- the next place is the column
pub value_in_cell-here : (places more : List ℕ) (values : List Value) (i at column d : ℕ) (v : Value) → i < length places → at < length values
    → get_or places i d ≡ column → slice_get values at ≡ Some v → value_in_cell (drop i places ++ more) (drop at values) column ≡ Some v
value_in_cell-here places more values i at column d v lt below is found =
    value_in_cell-next places more values i at column d v lt below
    ∙ ap (λ b. if b then Some (get_or values at v) else value_in_cell (drop (i + 1) places ++ more) (drop (at + 1) values) column) (eq-eqb (get_or places i d) column is)
    ∙ sym (slice_get-get_or values at v below) ∙ found

-- the next place is another column
pub value_in_cell-behind : (places more : List ℕ) (values : List Value) (i at column d : ℕ) (v : Value) → i < length places → at < length values
    → (get_or places i d ≡ column → ⊥) → value_in_cell (drop i places ++ more) (drop at values) column ≡ value_in_cell (drop (i + 1) places ++ more) (drop (at + 1) values) column
value_in_cell-behind places more values i at column d v lt below other =
    value_in_cell-next places more values i at column d v lt below
    ∙ ap (λ b. if b then Some (get_or values at v) else value_in_cell (drop (i + 1) places ++ more) (drop (at + 1) values) column) (ne_eqb (get_or places i d) column other)

-- ---- what may hold, layer by layer

module _ (places : List ℕ) (values : List Value) where
  each_under : (negated : Bool) (preds : List Pred) → map (λ may. may negated) (map (may_hold_under places values) preds) ≡ map (λ part. may_hold_under places values part negated) preds
  each_under negated [] = refl
  each_under negated (part ∷ preds) = ap (λ rest. may_hold_under places values part negated ∷ rest) (each_under negated preds)

  pub may_hold_under-Atom : (atom : Atom) (negated : Bool) → may_hold_under places values (pred.Atom atom) negated ≡ may_pass_in negated atom (value_in_cell places values atom.column)
  may_hold_under-Atom atom negated =
      ap (λ p. may_hold_under places values p negated) (sym (rolls-Atom atom)) ∙ ap (λ may. may negated) (fold-roll-Pred (Bool → Bool) (layer_may_hold places values) (layer.Atom atom))

  pub may_hold_under-All : (preds : List Pred) (negated : Bool) → may_hold_under places values (pred.All preds) negated ≡ joined_by (not negated) (map (λ part. may_hold_under places values part negated) preds)
  may_hold_under-All preds negated =
      ap (λ p. may_hold_under places values p negated) (sym (rolls-All preds)) ∙ ap (λ may. may negated) (fold-roll-Pred (Bool → Bool) (layer_may_hold places values) (layer.All preds))
      ∙ ap (joined_by (not negated)) (each_under negated preds)

  pub may_hold_under-Any : (preds : List Pred) (negated : Bool) → may_hold_under places values (pred.Any preds) negated ≡ joined_by negated (map (λ part. may_hold_under places values part negated) preds)
  may_hold_under-Any preds negated =
      ap (λ p. may_hold_under places values p negated) (sym (rolls-Any preds)) ∙ ap (λ may. may negated) (fold-roll-Pred (Bool → Bool) (layer_may_hold places values) (layer.Any preds))
      ∙ ap (joined_by negated) (each_under negated preds)

  pub may_hold_under-Not : (part : Pred) (negated : Bool) → may_hold_under places values (pred.Not part) negated ≡ may_hold_under places values part (not negated)
  may_hold_under-Not part negated =
      ap (λ p. may_hold_under places values p negated) (sym (rolls-Not part)) ∙ ap (λ may. may negated) (fold-roll-Pred (Bool → Bool) (layer_may_hold places values) (layer.Not part))

-- ---- parts joined one after another

-- a part that doesn't settle it is past
pub joined_by-past : {X : Type 0} (by_and : Bool) (f : X → Bool) (xs : List X) (i : ℕ) (x : X) → i < length xs → f (get_or xs i x) ≡ by_and
    → joined_by by_and (map f (drop i xs)) ≡ joined_by by_and (map f (drop (i + 1) xs))
joined_by-past true f xs i x lt is = rw (drop-cons xs i x, add-one, is) refl
joined_by-past false f xs i x lt is = rw (drop-cons xs i x, add-one, is) refl

-- one that does
pub joined_by-here : {X : Type 0} (by_and : Bool) (f : X → Bool) (xs : List X) (i : ℕ) (x : X) → i < length xs → f (get_or xs i x) ≡ not by_and
    → joined_by by_and (map f (drop i xs)) ≡ not by_and
joined_by-here true f xs i x lt is = rw (drop-cons xs i x, is) refl
joined_by-here false f xs i x lt is = rw (drop-cons xs i x, is) refl

-- none did
pub joined_by-end : {X : Type 0} (by_and : Bool) (f : X → Bool) (xs : List X) (i : ℕ) → length xs ≤ i → joined_by by_and (map f (drop i xs)) ≡ by_and
joined_by-end true f xs i le = rw (drop_all i xs) refl
joined_by-end false f xs i le = rw (drop_all i xs) refl

-- two flags that are the same, or not
pub beq-same : (a b : Bool) → beq a b ≡ true → a ≡ b
beq-same true true same = refl
beq-same true false same = absurd (false≢true same)
beq-same false true same = absurd (false≢true same)
beq-same false false same = refl

pub beq-other : (a b : Bool) → not (beq a b) ≡ true → a ≡ not b
beq-other true true other = absurd (false≢true other)
beq-other true false other = refl
beq-other false true other = refl
beq-other false false other = absurd (false≢true other)
