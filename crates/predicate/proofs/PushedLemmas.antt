-- Predicates joined by AND and OR, with the NOTs of all parts pushed.
use Rattle.std.proofs.Common.{◌≡◌, ◌<◌, ◌≤◌, ◌+◌, ℕ, List, [], ◌∷◌, ◌++◌, Bool, true, false, length, map, take, get_or, refl, sym, subst, ap, ◌∙◌}
use Rattle.std.specs.Prelude.{IsTrue, not, if◌then◌else◌}
use mathlib.Core.Bool.{beq}
use Rattle.std.proofs.lemmas.List.{take_all, take_more, map-append}
use Rattle.mdc_values.specs.declared.truth.Truth.{Truth}
use Rattle.mdc_ast.specs.declared.predicate.Atom.{Atom}
use Rattle.mdc_ast.specs.declared.predicate.Pred.{Pred}
use Rattle.mdc_ast.specs.declared.predicate.Pred.TheVariants as pred
use Rattle.mdc_ast.specs.Truth.{all_of, all_true, any_of, may_judge, negated_if, not_of, test_truth, truth, value_at}
use Rattle.predicate.specs.Pushed.{ArePushedFrom, IsPushedFrom, is_pushed}
use Rattle.predicate.proofs.OppositeLemmas.{all_of-not_of, any_of-not_of, not_of-not_of}
use Rattle.mdc_ast.proofs.PredLemmas.{may_judge-All, may_judge-Any, may_judge-Atom, may_judge-Not, truth-All, truth-Any, truth-Atom, truth-Not}
use Rattle.predicate.proofs.PredLemmas.{is_pushed-All, is_pushed-Any}

-- ---- the parts of a list

all_true-and_one : (tests : List Bool) (last : Bool) → IsTrue (all_true tests) → IsTrue last → IsTrue (all_true (tests ++ last ∷ []))
all_true-and_one [] true all h = refl
all_true-and_one [] false all h = h
all_true-and_one (true ∷ tests) last all h = all_true-and_one tests last all h
all_true-and_one (false ∷ tests) last all h = all

map-and_one : {X Y A : Type 0} (f : Y → A) (g : X → A) (ys : List Y) (xs : List X) (y : Y) (x : X) → map f ys ≡ map g xs → f y ≡ g x →
    map f (ys ++ y ∷ []) ≡ map g (xs ++ x ∷ [])
map-and_one f g ys xs y x all last =
    map-append f ys (y ∷ []) ∙ ap (λ front. front ++ f y ∷ []) all ∙ ap (λ end. map g xs ++ end ∷ []) last ∙ sym (map-append g xs (x ∷ []))

-- one part more
pushed_and_one : (negated : Bool) (preds parts : List Pred) (one part : Pred) → ArePushedFrom negated preds parts → IsPushedFrom negated one part →
    ArePushedFrom negated (preds ++ one ∷ []) (parts ++ part ∷ [])
pushed_and_one negated preds parts one part all last = record {
  form = subst (λ tests. IsTrue (all_true tests)) (sym (map-append is_pushed parts (part ∷ []))) (all_true-and_one (map is_pushed parts) (is_pushed part) all.form last.form);
  truths = λ values. map-and_one (truth values) (λ pred. negated_if negated (truth values pred)) parts preds part one (all.truths values) (last.truths values);
  judged = λ values. map-and_one (may_judge values) (may_judge values) parts preds part one (all.judged values) (last.judged values);
}

-- the next one of a list
pub pushed_more : (negated : Bool) (preds : List Pred) (i : ℕ) (one part : Pred) (parts new : List Pred) → i < length preds →
    one ≡ get_or preds i one → new ≡ parts ++ part ∷ [] → IsPushedFrom negated one part → ArePushedFrom negated (take i preds) parts →
    ArePushedFrom negated (take (i + 1) preds) new
pushed_more negated preds i one part parts new lt is e last all =
    rw (e, take_more preds i one lt) (pushed_and_one negated (take i preds) parts (get_or preds i one) part all (subst (λ one. IsPushedFrom negated one part) is last))

-- ---- the whole

All_pushed : (negated : Bool) (preds parts : List Pred) → ArePushedFrom negated preds parts →
    IsPushedFrom negated (pred.All preds) (if not negated then pred.All parts else pred.Any parts)
All_pushed false preds parts all = record {
  form = subst IsTrue (sym (is_pushed-All parts)) all.form;
  truths = λ values. truth-All values parts ∙ ap all_of (all.truths values) ∙ sym (truth-All values preds);
  judged = λ values. may_judge-All values parts ∙ ap all_true (all.judged values) ∙ sym (may_judge-All values preds);
}
All_pushed true preds parts all = record {
  form = subst IsTrue (sym (is_pushed-Any parts)) all.form;
  truths = λ values. truth-Any values parts ∙ ap any_of (all.truths values) ∙ any_of-not_of (truth values) preds ∙ ap not_of (sym (truth-All values preds));
  judged = λ values. may_judge-Any values parts ∙ ap all_true (all.judged values) ∙ sym (may_judge-All values preds);
}

Any_pushed : (negated : Bool) (preds parts : List Pred) → ArePushedFrom negated preds parts →
    IsPushedFrom negated (pred.Any preds) (if negated then pred.All parts else pred.Any parts)
Any_pushed false preds parts all = record {
  form = subst IsTrue (sym (is_pushed-Any parts)) all.form;
  truths = λ values. truth-Any values parts ∙ ap any_of (all.truths values) ∙ sym (truth-Any values preds);
  judged = λ values. may_judge-Any values parts ∙ ap all_true (all.judged values) ∙ sym (may_judge-Any values preds);
}
Any_pushed true preds parts all = record {
  form = subst IsTrue (sym (is_pushed-All parts)) all.form;
  truths = λ values. truth-All values parts ∙ ap all_of (all.truths values) ∙ all_of-not_of (truth values) preds ∙ ap not_of (sym (truth-Any values preds));
  judged = λ values. may_judge-All values parts ∙ ap all_true (all.judged values) ∙ sym (may_judge-Any values preds);
}

-- the parts of all of a list, joined
pub All_whole : (negated : Bool) (whole pushed : Pred) (preds items parts : List Pred) (i : ℕ) → whole ≡ pred.All preds → items ≡ preds →
    length items ≤ i → pushed ≡ (if not negated then pred.All parts else pred.Any parts) → ArePushedFrom negated (take i items) parts →
    IsPushedFrom negated whole pushed
All_whole negated whole pushed preds items parts i is same end e all =
    let of_items : ArePushedFrom negated items parts = subst (λ items. ArePushedFrom negated items parts) (take_all i items end) all in
    rw (is, e, ← same) (All_pushed negated items parts of_items)

pub Any_whole : (negated : Bool) (whole pushed : Pred) (preds items parts : List Pred) (i : ℕ) → whole ≡ pred.Any preds → items ≡ preds →
    length items ≤ i → pushed ≡ (if negated then pred.All parts else pred.Any parts) → ArePushedFrom negated (take i items) parts →
    IsPushedFrom negated whole pushed
Any_whole negated whole pushed preds items parts i is same end e all =
    let of_items : ArePushedFrom negated items parts = subst (λ items. ArePushedFrom negated items parts) (take_all i items end) all in
    rw (is, e, ← same) (Any_pushed negated items parts of_items)

-- ---- NOT, and the NOT of a test

pub negated_if-not : (negated : Bool) (t : Truth) → negated_if (not negated) t ≡ negated_if negated (not_of t)
negated_if-not true t = sym (not_of-not_of t)
negated_if-not false t = refl

-- what is pushed from the negation of a predicate is pushed from its NOT
Not_pushed : (negated : Bool) (inner part : Pred) → IsPushedFrom (not negated) inner part → IsPushedFrom negated (pred.Not inner) part
Not_pushed negated inner part pushed = record {
  form = pushed.form;
  truths = λ values. pushed.truths values ∙ negated_if-not negated (truth values inner) ∙ ap (negated_if negated) (sym (truth-Not values inner));
  judged = λ values. pushed.judged values ∙ sym (may_judge-Not values inner);
}

pub Not_whole : (negated : Bool) (whole inner held part : Pred) → whole ≡ pred.Not inner → held ≡ inner → IsPushedFrom (not negated) held part →
    IsPushedFrom negated whole part
Not_whole negated whole inner held part is same pushed = rw is (Not_pushed negated inner part (subst (λ inner. IsPushedFrom (not negated) inner part) same pushed))

negated_if-twice : (own negated : Bool) (t : Truth) → negated_if (not (beq own negated)) t ≡ negated_if negated (negated_if own t)
negated_if-twice true true t = sym (not_of-not_of t)
negated_if-twice true false t = refl
negated_if-twice false true t = refl
negated_if-twice false false t = refl

-- a test takes the NOT before it into its own
pub Atom_whole : (negated : Bool) (whole part : Pred) (atom : Atom) → whole ≡ pred.Atom atom →
    IsPushedFrom false (pred.Atom (record { column = atom.column; negated = not (beq atom.negated negated); test = atom.test })) part →
    IsPushedFrom negated whole part
Atom_whole negated whole part atom is pushed =
    let other : Atom = record { column = atom.column; negated = not (beq atom.negated negated); test = atom.test } in
    rw is (record {
      form = pushed.form;
      truths = λ values. pushed.truths values ∙ truth-Atom values other
          ∙ negated_if-twice atom.negated negated (test_truth values (value_at values atom.column) atom.test) ∙ ap (negated_if negated) (sym (truth-Atom values atom));
      judged = λ values. pushed.judged values ∙ may_judge-Atom values other ∙ sym (may_judge-Atom values atom);
    })
