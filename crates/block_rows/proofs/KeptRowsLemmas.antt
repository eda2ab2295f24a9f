-- The elements of a list that pass a test, kept one after the other.
use Rattle.std.proofs.Common.{◌≡◌, List, [], ◌∷◌, ◌++◌, Bool, ap, sym, ◌∙◌, append_assoc}
use Rattle.std.specs.Prelude.{filter}
use Rattle.std.proofs.lemmas.List.{append-nil}
use Rattle.std.proofs.lemmas.List.Elements.{filter-append}

module _ {X : Type 0} (p : X → Bool) where
  -- the first of those that were left is kept or not
  pub kept_more : (items new left rest whole : List X) (x : X) → left ≡ x ∷ rest → new ≡ items ++ filter p (x ∷ []) → items ++ filter p left ≡ whole → new ++ filter p rest ≡ whole
  kept_more items new left rest whole x is pushed so_far =
      ap (λ front. front ++ filter p rest) pushed ∙ (append_assoc items (filter p (x ∷ [])) (filter p rest)
      ∙ (ap (λ back. items ++ back) (sym (ap (filter p) is ∙ filter-append p (x ∷ []) rest)) ∙ so_far))

  -- none was left
  pub kept_all : (items left whole : List X) → left ≡ [] → items ++ filter p left ≡ whole → items ≡ whole
  kept_all items left whole none so_far = sym (append-nil items) ∙ (ap (λ l. items ++ filter p l) (sym none) ∙ so_far)
