-- What was judged of a list item by item, as a loop does.
use Rattle.std.proofs.Common.{◌≡◌, ◌≤◌, ◌<◌, ◌+◌, ℕ, List, Option, sym, subst, ◌∙◌, length, take, get_or}
use Rattle.std.proofs.lemmas.List.{take_all, take_more}
use Rattle.file_check.specs.Judging.{Judges, JudgesEach, lower}
use Rattle.file_check.proofs.JudgingLemmas.{judges_next}

module _ {X : Type 0} (P : X → Type 0) (B : X → ℕ → Type 0) (items : List X) (i : ℕ) where
  -- one item more
  pub judged_more : (d : X) (found here low : Option ℕ) → i < length items → low ≡ lower found here → JudgesEach P B (take i items) found
      → Judges (P (get_or items i d)) (B (get_or items i d)) here → JudgesEach P B (take (i + 1) items) low
  judged_more d found here low within is so_far next =
      subst (JudgesEach P B (take (i + 1) items)) (sym is)
      (subst (λ (xs : List X). JudgesEach P B xs (lower found here)) (sym (take_more items i d within)) (judges_next P B (take i items) (get_or items i d) found here so_far next))

  -- none is left
  pub judged_all : (all : List X) (found : Option ℕ) → items ≡ all → length items ≤ i → JudgesEach P B (take i items) found → JudgesEach P B all found
  judged_all all found same past so_far = subst (λ (xs : List X). JudgesEach P B xs found) (take_all i items past ∙ same) so_far
