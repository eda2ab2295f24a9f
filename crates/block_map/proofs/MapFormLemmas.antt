-- What follows of a block map from its form: its states are below 3, and a block is named by one entry alone.
use Rattle.std.proofs.Common.{◌≡◌, ◌≢◌, ◌<◌, ◌≤◌, ℕ, suc, List, [], ◌∷◌, ap, arith, sym, ◌∙◌, subst, length, get_or, take, map, inl, inr}
use Rattle.std.specs.Prelude.{AllPairs}
use Rattle.std.specs.List.{AllByRecursion}
use Rattle.byteorder.specs.Numbers.{big_from-take}
use Rattle.mdc_words.specs.ByteOrder.{Entry}
use Rattle.entry_tree.specs.Amending.{HasOwnFront}
use Rattle.entry_tree.specs.EntryBounds.{IsEntryOf}
use Rattle.entry_tree.specs.Forest.{Forest, leaf_entries}
use Rattle.block_map.specs.BlockMaps.{IsMapForm}
use Rattle.block_map.specs.MapLines.{MapLine, map_line}

-- the state of an entry
state_there : (xs : List Entry) (x : Entry) → AllByRecursion (λ (line : MapLine). line.state ≤ 2) (map map_line xs) → IsEntryOf x xs → (map_line x).state ≤ 2
state_there [] x h i = absurd i
state_there (y ∷ ys) x h (inl e) = subst (λ (v : Entry). (map_line v).state ≤ 2) (sym e) h.0
state_there (y ∷ ys) x h (inr i) = state_there ys x h.1 i

pub form_state : (t : Forest) (x : Entry) → IsMapForm t → IsEntryOf x (leaf_entries t) → (map_line x).state ≤ 2
form_state t x f i = state_there (leaf_entries t) x f.states i

-- ---- blocks that differ

-- the block of an entry
abbrev named : List Entry → List ℕ
named xs = map (λ (line : MapLine). line.block) (map map_line xs)

pairs_behind : (n : ℕ) (xs : List ℕ) → AllPairs (λ a b. a ≢ b) (n ∷ xs) → AllPairs (λ a b. a ≢ b) xs
pairs_behind n xs h i j d l m = h (suc i) (suc j) d (omega (arith, l)) (omega (arith, m))

-- where an entry is named
place_of : (x : Entry) (xs : List Entry) → IsEntryOf x xs → (k : ℕ) × (k < length (named xs)) × ((d : ℕ) → get_or (named xs) k d ≡ (map_line x).block)
place_of x [] i = absurd i
place_of x (y ∷ ys) (inl e) = (0, omega arith, λ d. ap (λ (v : Entry). (map_line v).block) (sym e))
place_of x (y ∷ ys) (inr i) = let r = place_of x ys i in (suc r.0, omega (arith, r.1), r.2)

apart_behind : (y x : Entry) (ys : List Entry) → AllPairs (λ a b. a ≢ b) (named (y ∷ ys)) → IsEntryOf x ys → (map_line y).block ≢ (map_line x).block
apart_behind y x ys h i e =
    let r = place_of x ys i in
    h 0 (suc r.0) 0 (omega arith) (omega (arith, r.1)) (e ∙ sym (r.2 0))

only_one : (xs : List Entry) (x y : Entry) → AllPairs (λ a b. a ≢ b) (named xs) → IsEntryOf x xs → IsEntryOf y xs → (map_line x).block ≡ (map_line y).block → x ≡ y
only_one [] x y h i j e = absurd i
only_one (z ∷ zs) x y h (inl p) (inl q) e = p ∙ sym q
only_one (z ∷ zs) x y h (inl p) (inr j) e = absurd (apart_behind z y zs h j (ap (λ (v : Entry). (map_line v).block) (sym p) ∙ e))
only_one (z ∷ zs) x y h (inr i) (inl q) e = absurd (apart_behind z x zs h i (ap (λ (v : Entry). (map_line v).block) (sym q) ∙ sym e))
only_one (z ∷ zs) x y h (inr i) (inr j) e = only_one zs x y (pairs_behind (map_line z).block (named zs) h) i j e

-- entries with the same first four bytes name the same block
same_block : (x y : Entry) → take 4 y ≡ take 4 x → (map_line y).block ≡ (map_line x).block
same_block x y e = sym (big_from-take 0 4 4 y (omega arith)) ∙ ap (λ (v : Entry). (map_line v).block) e ∙ big_from-take 0 4 4 x (omega arith)

-- so the first four bytes of an entry begin no other one
pub stands_alone : (t : Forest) (x : Entry) → IsMapForm t → IsEntryOf x (leaf_entries t) → HasOwnFront x (leaf_entries t)
stands_alone t x f i y j e = only_one (leaf_entries t) y x f.once_each j i (same_block x y e)

-- two entries of one block are one
pub form_one : (t : Forest) (x y : Entry) → IsMapForm t → IsEntryOf x (leaf_entries t) → IsEntryOf y (leaf_entries t) → (map_line x).block ≡ (map_line y).block → x ≡ y
form_one t x y f i j e = only_one (leaf_entries t) x y f.once_each i j e
