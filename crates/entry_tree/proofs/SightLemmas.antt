-- What a search sees at a place of a tree.
use Rattle.std.proofs.Common.{◌≡◌, ℕ, zero, suc, List, [], ◌∷◌, ◌++◌, refl, ap, arith, take, drop}
use Rattle.std.specs.Prelude.{Some, None}
use Rattle.mdc_words.specs.ByteOrder.{Entry}
use Rattle.entry_tree.specs.EntryBounds.{Bound, Climbs, Rises, with_entry, IsLeafPlace}
use Rattle.entry_tree.specs.Forest.{Forest, Fits}
use Rattle.entry_tree.specs.Forest.Forest.{Nil, Leaf, Fork}

-- entries that rise within bounds rise without them
pub Climbs-wide : (last : Entry) (high : Bound) (xs : List Entry) → Climbs last high xs → Climbs last None xs
Climbs-wide last high [] h = tt
Climbs-wide last high (x ∷ xs) h = (h.0, tt, Climbs-wide x high xs h.2)

pub Rises-wide : (low high : Bound) (xs : List Entry) → Rises low high xs → Rises None None xs
Rises-wide low high [] h = tt
Rises-wide low high (x ∷ xs) h = (tt, tt, Climbs-wide x high xs h.2)

-- the separators of a node rise
pub Fits-climbs : (s : Entry) (high : Bound) (seps : List Entry) (t : Forest) → Fits (Some s) high seps t → Climbs s None seps
Fits-climbs s high [] t h = tt
Fits-climbs s high (l ∷ seps) Nil h = absurd h
Fits-climbs s high (l ∷ seps) (Leaf page items next) h = (h.0, tt, Fits-climbs l high seps next h.2)
Fits-climbs s high (l ∷ seps) (Fork page inner kids next) h = (h.0, tt, Fits-climbs l high seps next h.2)

pub Fits-rises : (low high : Bound) (seps : List Entry) (t : Forest) → Fits low high seps t → Rises None None seps
Fits-rises low high [] t h = tt
Fits-rises low high (l ∷ seps) Nil h = absurd h
Fits-rises low high (l ∷ seps) (Leaf page items next) h = (tt, tt, Fits-climbs l high seps next h.2)
Fits-rises low high (l ∷ seps) (Fork page inner kids next) h = (tt, tt, Fits-climbs l high seps next h.2)

-- an entry put at its place is put where it belongs
pub put_at_place : (items : List Entry) (x : Entry) (i : ℕ) → IsLeafPlace items x i → take i items ++ x ∷ drop i items ≡ with_entry x items
put_at_place [] x zero p = refl
put_at_place [] x (suc i) p = refl
put_at_place (y ∷ items) x zero p = rw (p.after (omega arith))
put_at_place (y ∷ items) x (suc i) p =
    rw (p.before 0 (omega arith))
    (ap (λ (l : List Entry). y ∷ l)
    (put_at_place items x i
    (record {
      within = let w = p.within in omega arith;
      before = λ k l. p.before (suc k) (omega arith);
      after = λ l. p.after (omega arith);
    })))
