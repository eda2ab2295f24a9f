-- Entries of a list with one entry more.
use Rattle.std.proofs.Common.{◌≡◌, List, [], ◌∷◌, refl, ◌⊎◌, inl, inr}
use Rattle.std.specs.Prelude.{Bool, true, false, if◌then◌else◌}
use Rattle.mdc_words.specs.ByteOrder.{Entry, below}
use Rattle.entry_tree.specs.EntryBounds.{IsEntryOf, with_entry}

pub there_with : (x : Entry) (xs : List Entry) → IsEntryOf x (with_entry x xs)
there_with x [] = inl refl
there_with x (y ∷ ys) = go (below y x) (there_with x ys)
  where
    go : (b : Bool) → IsEntryOf x (with_entry x ys) → IsEntryOf x (if b then y ∷ with_entry x ys else x ∷ y ∷ ys)
    go true more = inr more
    go false more = inl refl

pub more_with : (x y : Entry) (xs : List Entry) → IsEntryOf x xs → IsEntryOf x (with_entry y xs)
more_with x y [] at = absurd at
more_with x y (z ∷ zs) at = go (below z y) at (more_with x y zs)
  where
    go : (b : Bool) → (x ≡ z) ⊎ IsEntryOf x zs → (IsEntryOf x zs → IsEntryOf x (with_entry y zs)) → IsEntryOf x (if b then z ∷ with_entry y zs else y ∷ z ∷ zs)
    go true (inl e) more = inl e
    go true (inr i) more = inr (more i)
    go false i more = inr i

pub with_cases : (x y : Entry) (xs : List Entry) → IsEntryOf x (with_entry y xs) → (x ≡ y) ⊎ IsEntryOf x xs
with_cases x y [] at = at
with_cases x y (z ∷ zs) at = go (below z y) at (with_cases x y zs)
  where
    go : (b : Bool) → IsEntryOf x (if b then z ∷ with_entry y zs else y ∷ z ∷ zs) → (IsEntryOf x (with_entry y zs) → (x ≡ y) ⊎ IsEntryOf x zs) → (x ≡ y) ⊎ IsEntryOf x (z ∷ zs)
    go true (inl e) more = inr (inl e)
    go true (inr i) more = elim (more i) [ inl e ↦ inl e | inr j ↦ inr (inr j) ]
    go false i more = i
