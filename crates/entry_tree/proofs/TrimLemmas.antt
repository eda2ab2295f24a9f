-- Trees whose leaves hold entries.
use Rattle.std.proofs.Common.{◌≡◌, ◌<◌, ℕ, List, [], ◌∷◌, ◌++◌, refl, arith, length, length-append}
use Rattle.std.specs.Prelude.{Some, None}
use Rattle.mdc_words.specs.ByteOrder.{Entry}
use Rattle.entry_tree.specs.EntryBounds.{Bound}
use Rattle.entry_tree.specs.Forest.{Forest, Fits, EachNode, HoldsEntry, IsTrimTree, leaf_entries, heads, ◌&◌}
use Rattle.entry_tree.specs.Forest.Forest.{Nil, Leaf, Fork}
use Rattle.entry_tree.specs.TreePlaces.{AreMatched, Frame, plug, entries_behind, first_or, low_of, high_of}
use Rattle.entry_tree.proofs.ReadingLemmas.{RightRow, right_row}
use Rattle.entry_tree.proofs.TreePlacesLemmas.{EachNode-from_plug, Fits-plug}
use Rattle.entry_tree.proofs.ForestLemmas.{EachNode-from_and}
use Rattle.entry_tree.proofs.LeavesLemmas.{trim_fork}

-- there is an entry in it
pub filled_some : (low high : Bound) (seps : List Entry) (t : Forest) → Fits low high seps t → EachNode HoldsEntry t → 0 < length (leaf_entries t)
filled_some low high seps Nil h k = absurd h
filled_some low high seps (Leaf page [] next) h k = absurd k.0
filled_some low high seps (Leaf page (item ∷ items) next) h k = omega arith
filled_some low high [] (Fork page inner kids next) h k = omega (arith, filled_some low high inner kids h.1 k.1, length-append (leaf_entries kids) (leaf_entries next))
filled_some low high (s ∷ seps) (Fork page inner kids next) h k =
    omega (arith, filled_some low (Some s) inner kids h.1 k.1, length-append (leaf_entries kids) (leaf_entries next))

-- a node of a tree has children that hold entries
pub trim_children : (fs : List Frame) (page : ℕ) (seps : List Entry) (kids : Forest) → IsTrimTree (plug fs (Fork page seps kids Nil)) → EachNode HoldsEntry kids
trim_children fs page seps kids h = (EachNode-from_plug HoldsEntry fs (Fork page seps kids Nil) (trim_fork fs page seps kids h)).1

-- so a place with a bound behind it has an entry behind it
pub behind_some : (fs : List Frame) (t : Forest) (page : ℕ) (s : Entry) → AreMatched fs → heads t ≡ page ∷ [] → Fits None None [] (plug fs t) → IsTrimTree (plug fs t)
    → high_of None fs ≡ Some s → 0 < length (entries_behind fs)
behind_some [] t page s m e h k b = absurd (cc)
behind_some (f ∷ fs) t page s m e h k b =
    let u : Forest = Fork f.page (f.lows ++ f.highs) (f.left & (t & f.right)) Nil in
    let r = Fits-plug None None fs u f.page m.1 refl h in
    let filled = EachNode-from_and HoldsEntry f.left (t & f.right) (trim_children fs f.page (f.lows ++ f.highs) (f.left & (t & f.right)) k) in
    go f.highs (right_row (low_of None fs) (high_of None fs) f.lows f.highs f.left t f.right page m.0 e r.0.1) b (EachNode-from_and HoldsEntry t f.right filled.1).1
    (behind_some fs u f.page s m.1 refl h k)
  where
    go : (highs : List Entry) → RightRow highs (high_of None fs) f.right → first_or highs (high_of None fs) ≡ Some s → EachNode HoldsEntry f.right
        → (high_of None fs ≡ Some s → 0 < length (entries_behind fs)) → 0 < length (leaf_entries f.right ++ entries_behind fs)
    go [] r b k n = omega (arith, n b, length-append (leaf_entries f.right) (entries_behind fs))
    go (l ∷ highs) r b k n = omega (arith, filled_some (Some l) (high_of None fs) highs f.right r k, length-append (leaf_entries f.right) (entries_behind fs))
