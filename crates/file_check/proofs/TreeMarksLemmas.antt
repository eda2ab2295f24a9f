-- Marks of pages once one more was met.
use Rattle.std.proofs.Common.{◌≡◌, ◌≢◌, ◌<◌, ◌+◌, ℕ, List, length, get_or, refl, ap, arith, sym, ◌∙◌, subst, inl, inr, get_or-set_same, get_or-set_other, eq-eqb, ne_eqb}
use Rattle.std.specs.Prelude.{◌==◌, if◌then◌else◌, slice_set, sum_by}
use Rattle.std.proofs.lemmas.Bool.{cases_eq}
use Rattle.std.proofs.lemmas.List.{length-set}
use Rattle.std.proofs.lemmas.List.Sums.{sum_by-set}
use Rattle.entry_tree.specs.Forest.{once}
use Rattle.entry_tree.proofs.ForestLemmas.{once_least, once_other, once_same}
use Rattle.file_check.specs.TreeMarks.{AreMarks, MeetsPage, last_tree, met_here, times_met}
use Rattle.file_check.specs.declared.tree_marks.TreeMarks.{TreeMarks}

-- 0 for a page that was met in this tree, and else 1
abbrev pub one_unless_met : ℕ → ℕ → ℕ
one_unless_met tree last = if last == tree then 0 else 1

-- how many pages weren't met in this tree
abbrev pub unmet : TreeMarks → ℕ
unmet marks = sum_by (one_unless_met marks.tree) marks.last.items

unmet-met : (tree : ℕ) → one_unless_met tree tree ≡ 0
unmet-met tree = rw (eq-eqb tree tree refl)

unmet-other : (tree last : ℕ) → last ≢ tree → one_unless_met tree last ≡ 1
unmet-other tree last d = rw (ne_eqb last tree d)

module _ (p : ℕ) (old new : TreeMarks) (meets : MeetsPage p old new) where
  pub unmet-falls : unmet new < unmet old
  unmet-falls =
      let was : ℕ = get_or old.last.items p 0 in
      let low : was < old.tree = meets.first in
      let sums = sum_by-set (one_unless_met old.tree) old.last.items p old.tree 0 meets.within in
      let now : unmet new ≡ sum_by (one_unless_met old.tree) (slice_set old.last.items p old.tree) =
      ap (λ (t : ℕ). sum_by (one_unless_met t) new.last.items) meets.tree ∙ ap (sum_by (one_unless_met old.tree)) meets.last in
      omega (arith, sums, now, unmet-met old.tree, unmet-other old.tree was (omega arith))

  pub last-met : (n : ℕ) → n ≡ p → last_tree new n ≡ old.tree
  last-met n e = ap (λ (l : List ℕ). get_or l n 0) meets.last ∙ ap (λ (k : ℕ). get_or (slice_set old.last.items p old.tree) k 0) e ∙ get_or-set_same old.last.items p old.tree 0 meets.within

  pub last-other : (n : ℕ) → n ≢ p → last_tree new n ≡ last_tree old n
  last-other n d = ap (λ (l : List ℕ). get_or l n 0) meets.last ∙ get_or-set_other old.last.items p n old.tree 0 d

  pub met_here-more : (n : ℕ) → met_here new n ≡ met_here old n + once n p
  met_here-more n =
      elim (cases_eq n p) [
        | inl e ↦
            let low : last_tree old n < old.tree = subst (λ (k : ℕ). last_tree old k < old.tree) (sym e) meets.first in
            let now : met_here new n ≡ once old.tree old.tree = ap (λ (t : ℕ). once t (last_tree new n)) meets.tree ∙ ap (once old.tree) (last-met n e) in
            let here : once n p ≡ 1 = ap (λ (k : ℕ). once k p) e ∙ once_same p in
            omega (arith, now, once_same old.tree, here, once_other old.tree (last_tree old n) (omega arith))
        | inr d ↦
            let now : met_here new n ≡ met_here old n = ap (λ (t : ℕ). once t (last_tree new n)) meets.tree ∙ ap (once old.tree) (last-other n d) in
            omega (arith, now, once_other n p d)
      ]

  times_met-more : length old.times.items ≡ length old.last.items → (n : ℕ) → times_met new n ≡ times_met old n + once n p
  times_met-more long n =
      elim (cases_eq n p) [
        | inl e ↦
            let there : p < length old.times.items = omega (arith, meets.within) in
            let now : times_met new n ≡ times_met old p + 1 =
            ap (λ (l : List ℕ). get_or l n 0) meets.times ∙ ap (λ (k : ℕ). get_or (slice_set old.times.items p (times_met old p + 1)) k 0) e ∙ get_or-set_same old.times.items p (times_met old p + 1) 0 there in
            let here : once n p ≡ 1 = ap (λ (k : ℕ). once k p) e ∙ once_same p in
            let was : times_met old n ≡ times_met old p = ap (λ (k : ℕ). times_met old k) e in
            omega (arith, now, here, was)
        | inr d ↦
            let now : times_met new n ≡ times_met old n = ap (λ (l : List ℕ). get_or l n 0) meets.times ∙ get_or-set_other old.times.items p n (times_met old p + 1) 0 d in
            omega (arith, now, once_other n p d)
      ]

  pub counted-more : (count : ℕ) (start : TreeMarks) → AreMarks count old → ((n : ℕ) → times_met old n ≡ times_met start n + met_here old n) → (n : ℕ) → times_met new n ≡ times_met start n + met_here new n
  counted-more count start are counted n =
      let t = times_met-more (are.times ∙ sym are.last) n in
      omega (arith, t, met_here-more n, counted n)

  pub are_marks-more : (count : ℕ) → AreMarks count old → AreMarks count new
  are_marks-more count are = record {
    last = ap length meets.last ∙ length-set old.last.items p old.tree ∙ are.last;
    times = ap length meets.times ∙ length-set old.times.items p (times_met old p + 1) ∙ are.times;
    few = λ n.
        let t = times_met-more (are.times ∙ sym are.last) n in
        elim (cases_eq n p) [
          | inl e ↦
              let low : last_tree old n < old.tree = subst (λ (k : ℕ). last_tree old k < old.tree) (sym e) meets.first in
              omega (arith, t, are.few n, last-met n e, once_least n p)
          | inr d ↦ omega (arith, t, are.few n, last-other n d, once_other n p d)
        ];
    earlier = λ n.
        elim (cases_eq n p) [
          | inl e ↦ omega (arith, last-met n e, meets.tree)
          | inr d ↦ omega (arith, last-other n d, meets.tree, are.earlier n)
        ];
  }

-- a tree is begun
module _ (count : ℕ) (old new : TreeMarks) (begins : new ≡ record old { tree = old.tree + 1 }) (are : AreMarks count old) where
  pub next-begun : new.tree ≡ old.tree + 1
  next-begun = ap (λ (m : TreeMarks). m.tree) begins

  pub last-begun : (p : ℕ) → last_tree new p ≡ last_tree old p
  last-begun p = ap (λ (m : TreeMarks). last_tree m p) begins

  pub earlier-begun : (p : ℕ) → last_tree new p < new.tree
  earlier-begun p = omega (arith, next-begun, last-begun p, are.earlier p)

  pub counted-begun : (p : ℕ) → times_met new p ≡ times_met old p + met_here new p
  counted-begun p =
      let low : last_tree new p < new.tree = earlier-begun p in
      omega (arith, ap (λ (m : TreeMarks). times_met m p) begins, once_other new.tree (last_tree new p) (omega arith))

  pub are_marks-begun : AreMarks count new
  are_marks-begun = record {
    last = ap (λ (m : TreeMarks). length m.last.items) begins ∙ are.last;
    times = ap (λ (m : TreeMarks). length m.times.items) begins ∙ are.times;
    few = λ p. omega (arith, ap (λ (m : TreeMarks). times_met m p) begins, last-begun p, are.few p);
    earlier = λ p. omega (arith, earlier-begun p);
  }
