-- What reads a predicate test by test, under NOT, AND and OR alone.
use Rattle.std.proofs.Common.{◌≡◌, ◌∙◌, List, [], ◌∷◌, Bool, true, false, map, not, refl, sym, ap, subst}
use Rattle.std.specs.Prelude.{◌&&◌, ◌||◌}
use Rattle.std.proofs.lemmas.Bool.{and_parts}
use Rattle.mdc_values.specs.declared.truth.Truth.{Truth}
use Rattle.mdc_values.specs.declared.truth.Truth.TheVariants.{True, False, Unknown}
use Rattle.mdc_values.specs.declared.value.Value.{Value}
use Rattle.mdc_ast.specs.declared.predicate.Atom.{Atom}
use Rattle.mdc_ast.specs.declared.predicate.Pred.{Pred}
use Rattle.mdc_ast.specs.declared.predicate.Pred.TheFolds.{ind-Pred, map-Pred}
use Rattle.mdc_ast.specs.declared.predicate.Pred.TheOpen.{Pred-F}
use Rattle.mdc_ast.specs.declared.predicate.Pred.TheOpen as layer
use Rattle.mdc_ast.specs.declared.predicate.Pred.TheVariants as pred
use Rattle.mdc_ast.specs.declared.predicate.Pred.TheVariants.{rolls-All, rolls-Any, rolls-Atom, rolls-Not}
use Rattle.mdc_ast.specs.declared.predicate.Pred.TheViews.{roll-Pred}
use Rattle.mdc_ast.proofs.PredLemmas.{truth-All, truth-Any, truth-Atom, truth-Not}
use Rattle.mdc_ast.specs.Truth.{all_of, all_true, and_of, any_of, atom_truth, is_true, negated_if, not_of, or_of, truth}
use Rattle.cell_filter.specs.Cells.{any_true, joined_by}

-- Predicates, or their negations, are read by what is read of their tests.
pub record Reads (f : Bool → Atom → Bool) (reads : Pred → Bool → Bool) : Type 0 where
  pub on_atom : (atom : Atom) (negated : Bool) → reads (pred.Atom atom) negated ≡ f negated atom
  pub on_all : (parts : List Pred) (negated : Bool) → reads (pred.All parts) negated ≡ joined_by (not negated) (map (λ part. reads part negated) parts)
  pub on_any : (parts : List Pred) (negated : Bool) → reads (pred.Any parts) negated ≡ joined_by negated (map (λ part. reads part negated) parts)
  pub on_not : (part : Pred) (negated : Bool) → reads (pred.Not part) negated ≡ reads part (not negated)

-- ---- parts

pub or_cases : (p q p' q' : Bool) → (p ≡ true → p' ≡ true) → (q ≡ true → q' ≡ true) → (p || q) ≡ true → (p' || q') ≡ true
or_cases true q p' q' hp hq h = ap (λ b. b || q') (hp refl)
or_cases false q true q' hp hq h = refl
or_cases false q false q' hp hq h = hq h

-- what holds of each part by itself holds of the parts joined
pub joined_imply : {X : Type 0} (by_and : Bool) (f g : X → Bool) (xs : List X) → ((x : X) → f x ≡ true → g x ≡ true) → joined_by by_and (map f xs) ≡ true → joined_by by_and (map g xs) ≡ true
joined_imply true f g [] each h = refl
joined_imply true f g (x ∷ xs) each h =
    let parts = and_parts (f x) (all_true (map f xs)) h in
    ap (λ b. b && all_true (map g xs)) (each x parts.0) ∙ joined_imply true f g xs each parts.1
joined_imply false f g [] each h = h
joined_imply false f g (x ∷ xs) each h = or_cases (f x) (any_true (map f xs)) (g x) (any_true (map g xs)) (each x) (joined_imply false f g xs each) h

-- ---- one reading after another

abbrev Implies : (Pred → Bool → Bool) → (Pred → Bool → Bool) → Pred → Type 0
Implies reads reads' pred = (negated : Bool) → reads pred negated ≡ true → reads' pred negated ≡ true

module _ (reads reads' : Pred → Bool → Bool) where
  preds_of : List ((pred : Pred) × Implies reads reads' pred) → List Pred
  preds_of = map (λ e. e.0)

  parts_imply : (by_and negated : Bool) (parts : List ((pred : Pred) × Implies reads reads' pred))
      → joined_by by_and (map (λ part. reads part negated) (preds_of parts)) ≡ true → joined_by by_and (map (λ part. reads' part negated) (preds_of parts)) ≡ true
  unfolding preds_of
  parts_imply true negated [] h = refl
  parts_imply true negated (part ∷ parts) h =
      let each = and_parts (reads part.0 negated) (all_true (map (λ part. reads part negated) (preds_of parts))) h in
      ap (λ b. b && all_true (map (λ part. reads' part negated) (preds_of parts))) (part.1 negated each.0) ∙ parts_imply true negated parts each.1
  parts_imply false negated [] h = h
  parts_imply false negated (part ∷ parts) h =
      or_cases (reads part.0 negated) (any_true (map (λ part. reads part negated) (preds_of parts))) (reads' part.0 negated) (any_true (map (λ part. reads' part negated) (preds_of parts)))
      (part.1 negated) (parts_imply false negated parts) h

module _ (f g : Bool → Atom → Bool) (reads reads' : Pred → Bool → Bool) (r : Reads f reads) (s : Reads g reads') (atoms : (negated : Bool) (atom : Atom) → f negated atom ≡ true → g negated atom ≡ true) where
  by_layer : (y : Pred-F ((pred : Pred) × Implies reads reads' pred)) → Implies reads reads' (roll-Pred (map-Pred _ Pred (λ e. e.0) y))
  unfolding preds_of
  by_layer (layer.Atom atom) = subst (Implies reads reads') (sym (rolls-Atom atom)) (λ negated h. s.on_atom atom negated ∙ atoms negated atom (sym (r.on_atom atom negated) ∙ h))
  by_layer (layer.All parts) =
      let preds = preds_of reads reads' parts in
      subst (Implies reads reads') (sym (rolls-All preds)) (λ negated h. s.on_all preds negated ∙ parts_imply reads reads' (not negated) negated parts (sym (r.on_all preds negated) ∙ h))
  by_layer (layer.Any parts) =
      let preds = preds_of reads reads' parts in
      subst (Implies reads reads') (sym (rolls-Any preds)) (λ negated h. s.on_any preds negated ∙ parts_imply reads reads' negated negated parts (sym (r.on_any preds negated) ∙ h))
  by_layer (layer.Not part) =
      subst (Implies reads reads') (sym (rolls-Not part.0)) (λ negated h. s.on_not part.0 negated ∙ part.1 (not negated) (sym (r.on_not part.0 negated) ∙ h))

  -- if it is so of each test, it is so of each predicate
  pub reads_imply : (pred : Pred) (negated : Bool) → reads pred negated ≡ true → reads' pred negated ≡ true
  reads_imply pred = ind-Pred (Implies reads reads') (λ x y is. subst (λ x. Implies reads reads' (roll-Pred x)) is (by_layer y)) pred

-- ---- truth is such a reading

true_and : (a b : Truth) → is_true (and_of a b) ≡ (is_true a && is_true b)
true_and True b = refl
true_and False b = refl
true_and Unknown True = refl
true_and Unknown False = refl
true_and Unknown Unknown = refl

true_or : (a b : Truth) → is_true (or_of a b) ≡ (is_true a || is_true b)
true_or True b = refl
true_or False b = refl
true_or Unknown True = refl
true_or Unknown False = refl
true_or Unknown Unknown = refl

not_and : (a b : Truth) → is_true (not_of (and_of a b)) ≡ (is_true (not_of a) || is_true (not_of b))
not_and True b = refl
not_and False b = refl
not_and Unknown True = refl
not_and Unknown False = refl
not_and Unknown Unknown = refl

not_or : (a b : Truth) → is_true (not_of (or_of a b)) ≡ (is_true (not_of a) && is_true (not_of b))
not_or True b = refl
not_or False b = refl
not_or Unknown True = refl
not_or Unknown False = refl
not_or Unknown Unknown = refl

pub true_all_of : {X : Type 0} (t : X → Truth) (negated : Bool) (xs : List X) → is_true (negated_if negated (all_of (map t xs))) ≡ joined_by (not negated) (map (λ x. is_true (negated_if negated (t x))) xs)
true_all_of t true [] = refl
true_all_of t false [] = refl
true_all_of t true (x ∷ xs) = not_and (t x) (all_of (map t xs)) ∙ ap (λ b. is_true (not_of (t x)) || b) (true_all_of t true xs)
true_all_of t false (x ∷ xs) = true_and (t x) (all_of (map t xs)) ∙ ap (λ b. is_true (t x) && b) (true_all_of t false xs)

pub true_any_of : {X : Type 0} (t : X → Truth) (negated : Bool) (xs : List X) → is_true (negated_if negated (any_of (map t xs))) ≡ joined_by negated (map (λ x. is_true (negated_if negated (t x))) xs)
true_any_of t true [] = refl
true_any_of t false [] = refl
true_any_of t true (x ∷ xs) = not_or (t x) (any_of (map t xs)) ∙ ap (λ b. is_true (not_of (t x)) && b) (true_any_of t true xs)
true_any_of t false (x ∷ xs) = true_or (t x) (any_of (map t xs)) ∙ ap (λ b. is_true (t x) || b) (true_any_of t false xs)

true_not_of : (negated : Bool) (t : Truth) → is_true (negated_if negated (not_of t)) ≡ is_true (negated_if (not negated) t)
true_not_of true True = refl
true_not_of true False = refl
true_not_of true Unknown = refl
true_not_of false t = refl

pub truth_reads : (values : List Value) → Reads (λ negated atom. is_true (negated_if negated (atom_truth values atom))) (λ pred negated. is_true (negated_if negated (truth values pred)))
truth_reads values = record {
  on_atom = λ atom negated. ap (λ t. is_true (negated_if negated t)) (truth-Atom values atom);
  on_all = λ parts negated. ap (λ t. is_true (negated_if negated t)) (truth-All values parts) ∙ true_all_of (truth values) negated parts;
  on_any = λ parts negated. ap (λ t. is_true (negated_if negated t)) (truth-Any values parts) ∙ true_any_of (truth values) negated parts;
  on_not = λ part negated. ap (λ t. is_true (negated_if negated t)) (truth-Not values part) ∙ true_not_of negated (truth values part);
}
