-- What a walk over the leaves of a tree goes over.
use Rattle.std.proofs.Common.{◌≡◌, List, [], ◌∷◌, ◌++◌, refl, ap, sym, ◌∙◌, subst, append-nil}
use Rattle.std.specs.Prelude.{Some, None, true, false, Bool, if◌then◌else◌}
use Rattle.mdc_words.specs.ByteOrder.{Entry, below}
use Rattle.entry_tree.specs.Reading.{AreUnder, IsLeafFrom, RestBegins, entries_from}
use Rattle.entry_tree.proofs.EntryBoundsLemmas.{AllBelow, below_trans, from_below}
use Rattle.entry_tree.proofs.ReadingLemmas.{entries_from-and, entries_from-below, entries_from-least}

-- the entries from a bound on, among those from a lower one on
pub entries_from-from : (low high : Entry) (xs : List Entry) → below low high ≡ true → entries_from high (entries_from low xs) ≡ entries_from high xs
entries_from-from low high [] l = refl
entries_from-from low high (x ∷ xs) l = go (below x low) refl (entries_from-from low high xs l)
  where
    go : (b : Bool) → below x low ≡ b → entries_from high (entries_from low xs) ≡ entries_from high xs
        → entries_from high (if b then entries_from low xs else x ∷ entries_from low xs) ≡ (if below x high then entries_from high xs else x ∷ entries_from high xs)
    go true e same = rw (below_trans x low high e l) same
    go false e same = ap (λ (r : List Entry). if below x high then r else x ∷ r) same

under_all : (s : Entry) (xs : List Entry) → AreUnder (Some s) xs → AllBelow s xs
under_all s [] h = tt
under_all s (x ∷ xs) h = (h.0, under_all s xs h.1)

-- the first of the entries from a bound on isn't below it
pub first_from : (bound x : Entry) (all more : List Entry) → entries_from bound all ≡ x ∷ more → below x bound ≡ false
first_from bound x [] more e = cc
first_from bound x (y ∷ ys) more e = go (below y bound) refl e (first_from bound x ys more)
  where
    go : (b : Bool) → below y bound ≡ b → (if b then entries_from bound ys else y ∷ entries_from bound ys) ≡ x ∷ more → (entries_from bound ys ≡ x ∷ more → below x bound ≡ false) → below x bound ≡ false
    go true p q f = f q
    go false p q f = let same : y ≡ x = cc in subst (λ (v : Entry). below v bound ≡ false) same p

-- a leaf that is given, and all that lies from its next bound on
pub leaf_and_rest : (all : List Entry) (bound next : Entry) (given : List Entry) → IsLeafFrom all bound given (Some next) → entries_from bound all ≡ given ++ entries_from next all
leaf_and_rest all bound next [] l = absurd (subst (RestBegins [] (Some next)) (l.some refl) l.begins)
leaf_and_rest all bound next (x ∷ given) l = l.whole ∙ ap (λ (r : List Entry). (x ∷ given) ++ r) (go l.rest l.whole l.begins)
  where
    go : (rest : List Entry) → entries_from bound all ≡ (x ∷ given) ++ rest → RestBegins (x ∷ given) (Some next) rest → rest ≡ entries_from next all
    go [] whole b = absurd b
    go (y ∷ ys) whole b =
        let above : below bound next ≡ true = from_below bound x next (first_from bound x all (given ++ y ∷ ys) whole) b.0.0 in
        sym (
        sym (entries_from-from bound next all above)
        ∙ ap (entries_from next) whole
        ∙ entries_from-and next (x ∷ given) (y ∷ ys)
        ∙ rw (entries_from-below next (x ∷ given) (under_all next (x ∷ given) b.0), entries_from-least next (y ∷ ys) b.1) refl
        )

-- or all that there is
pub leaf_alone : (all : List Entry) (bound : Entry) (given : List Entry) → IsLeafFrom all bound given None → entries_from bound all ≡ given
leaf_alone all bound given l = l.whole ∙ ap (λ (r : List Entry). given ++ r) l.begins ∙ append-nil given
