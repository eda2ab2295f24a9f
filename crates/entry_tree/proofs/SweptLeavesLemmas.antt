-- A pass of sweeps takes at most one step a leaf and one step more: each step but the last leaves one leaf fewer from its next
-- bound on than there were from its bound on.
use Rattle.std.proofs.Common.{◌≡◌, ◌≤◌, ◌+◌, ℕ, List, [], ◌∷◌, ◌++◌, refl, ap, arith, ◌∙◌, length, length-append, cond}
use Rattle.std.specs.Prelude.{Some, Bool, true, false, if◌then◌else◌}
use Rattle.std.specs.List.{filter}
use Rattle.mdc_words.specs.ByteOrder.{Entry}
use Rattle.store_api.specs.declared.pages.Pages.{Ghosts}
use Rattle.store_api.specs.declared.shape.Shape.{Shape}
use Rattle.extent_map.specs.declared.kind.Kind.{Kind}
use Rattle.extent_map.specs.declared.space_notes.SpaceNotes.{SpaceNotes}
use Rattle.entry_tree.specs.EntryBounds.{Bound}
use Rattle.entry_tree.specs.Forest.{Forest, filled_leaf, filled_leaves, leaf_entries}
use Rattle.entry_tree.specs.Forest.Forest.{Fork, Leaf, Nil}
use Rattle.entry_tree.specs.Reading.{AreAtLeast, AreUnder, RestBegins, entries_from}
use Rattle.entry_tree.specs.Sweeping.{IsFirstLeaf, SweepsLeaf, leaves_from, one_if_any, unswept}
use Rattle.entry_tree.specs.TreePlaces.{Frame, entries_before, entries_behind, leaves_before, leaves_behind}
use Rattle.entry_tree.specs.declared.tree.Tree.{Tree}
use Rattle.entry_tree.proofs.ReadingLemmas.{AreAtLeast-down, AreAtLeast-from_and, AreUnder-from_and, AreUnder-up, entries_from-least}
use Rattle.entry_tree.proofs.OneLeafLemmas.{plain_leaves}
use Rattle.entry_tree.proofs.UnsweptLemmas.{none_from}

leaves_from-append : (bound : Entry) (xs ys : List (List Entry)) → leaves_from bound (xs ++ ys) ≡ leaves_from bound xs + leaves_from bound ys
leaves_from-append bound [] ys = omega arith
leaves_from-append bound (x ∷ xs) ys = omega (arith, leaves_from-append bound xs ys)

-- no entry lies from a bound on where each lies under it
entries_from-under : (bound : Entry) (xs : List Entry) → AreUnder (Some bound) xs → entries_from bound xs ≡ []
entries_from-under bound [] u = refl
entries_from-under bound (x ∷ xs) u = ap (λ (b : Bool). if b then entries_from bound xs else x ∷ entries_from bound xs) u.0 ∙ entries_from-under bound xs u.1

any_from-under : (bound : Entry) (items : List Entry) → AreUnder (Some bound) items → one_if_any (entries_from bound items) ≡ 0
any_from-under bound items u = ap one_if_any (entries_from-under bound items u)

any_from-least : (bound x : Entry) (items : List Entry) → AreAtLeast (Some bound) (x ∷ items) → one_if_any (entries_from bound (x ∷ items)) ≡ 1
any_from-least bound x items l = ap one_if_any (entries_from-least bound (x ∷ items) l)

any_few : (items : List Entry) → one_if_any items ≤ 1
any_few [] = omega arith
any_few (x ∷ items) = omega arith

-- a leaf that isn't all under a bound has an entry from it on
any_from-some : (bound : Entry) (items : List Entry) → (AreUnder (Some bound) items → ⊥) → one_if_any (entries_from bound items) ≡ 1
any_from-some bound items some = go (entries_from bound items) (λ none. some (none_from bound items none))
  where
    go : (xs : List Entry) → (xs ≡ [] → ⊥) → one_if_any xs ≡ 1
    go [] some = absurd (some refl)
    go (x ∷ xs) some = refl

-- the same of the leaves of a forest
filled-under : (bound : Entry) (items : List Entry) → AreUnder (Some bound) items → leaves_from bound (filled_leaf items) ≡ 0
filled-under bound [] u = refl
filled-under bound (x ∷ items) u = omega (arith, any_from-under bound (x ∷ items) u)

filled-least : (bound : Entry) (items : List Entry) → AreAtLeast (Some bound) items → leaves_from bound (filled_leaf items) ≡ length (filled_leaf items)
filled-least bound [] l = refl
filled-least bound (x ∷ items) l = omega (arith, any_from-least bound x items l)

filled-some : (bound : Entry) (items : List Entry) → (AreUnder (Some bound) items → ⊥) → leaves_from bound (filled_leaf items) ≡ 1
filled-some bound [] some = absurd (some tt)
filled-some bound (x ∷ items) some = omega (arith, any_from-some bound (x ∷ items) some)

forest-under : (bound : Entry) (t : Forest) → AreUnder (Some bound) (leaf_entries t) → leaves_from bound (filled_leaves t) ≡ 0
forest-under bound Nil u = refl
forest-under bound (Leaf page items next) u =
    let r = AreUnder-from_and (Some bound) items (leaf_entries next) u in
    omega (arith, leaves_from-append bound (filled_leaf items) (filled_leaves next), filled-under bound items r.0, forest-under bound next r.1)
forest-under bound (Fork page seps kids next) u =
    let r = AreUnder-from_and (Some bound) (leaf_entries kids) (leaf_entries next) u in
    omega (arith, leaves_from-append bound (filled_leaves kids) (filled_leaves next), forest-under bound kids r.0, forest-under bound next r.1)

forest-least : (bound : Entry) (t : Forest) → AreAtLeast (Some bound) (leaf_entries t) → leaves_from bound (filled_leaves t) ≡ length (filled_leaves t)
forest-least bound Nil l = refl
forest-least bound (Leaf page items next) l =
    let r = AreAtLeast-from_and (Some bound) items (leaf_entries next) l in
    omega (arith, leaves_from-append bound (filled_leaf items) (filled_leaves next), length-append (filled_leaf items) (filled_leaves next), filled-least bound items r.0, forest-least bound next r.1)
forest-least bound (Fork page seps kids next) l =
    let r = AreAtLeast-from_and (Some bound) (leaf_entries kids) (leaf_entries next) l in
    omega (arith, leaves_from-append bound (filled_leaves kids) (filled_leaves next), length-append (filled_leaves kids) (filled_leaves next), forest-least bound kids r.0, forest-least bound next r.1)

before-under : (bound : Entry) (fs : List Frame) → AreUnder (Some bound) (entries_before fs) → leaves_from bound (leaves_before fs) ≡ 0
before-under bound [] u = refl
before-under bound (f ∷ fs) u =
    let r = AreUnder-from_and (Some bound) (entries_before fs) (leaf_entries f.left) u in
    omega (arith, leaves_from-append bound (leaves_before fs) (filled_leaves f.left), before-under bound fs r.0, forest-under bound f.left r.1)

behind-least : (bound : Entry) (fs : List Frame) → AreAtLeast (Some bound) (entries_behind fs) → leaves_from bound (leaves_behind fs) ≡ length (leaves_behind fs)
behind-least bound [] l = refl
behind-least bound (f ∷ fs) l =
    let r = AreAtLeast-from_and (Some bound) (leaf_entries f.right) (entries_behind fs) l in
    omega (arith, leaves_from-append bound (filled_leaves f.right) (leaves_behind fs), length-append (filled_leaves f.right) (leaves_behind fs), forest-least bound f.right r.0, behind-least bound fs r.1)

-- a pass begins with no more leaves than the tree has
pub leaves_from-most : (bound : Entry) (leaves : List (List Entry)) → leaves_from bound leaves ≤ length leaves
leaves_from-most bound [] = omega arith
leaves_from-most bound (x ∷ xs) = omega (arith, leaves_from-most bound xs, any_few (entries_from bound x))

AreUnder-filter : (high : Bound) (p : Entry → Bool) (xs : List Entry) → AreUnder high xs → AreUnder high (filter p xs)
AreUnder-filter high p [] u = tt
AreUnder-filter high p (x ∷ xs) u = go (p x) (AreUnder-filter high p xs u.1)
  where
    go : (b : Bool) → AreUnder high (filter p xs) → AreUnder high (cond b (x ∷ filter p xs) (filter p xs))
    go true k = (u.0, k)
    go false k = k

-- where the rest begins at a bound, there is a rest
record BeginsThere (given : List Entry) (next : Entry) (rest : List Entry) : Type 0 where
  under : AreUnder (Some next) given
  least : AreAtLeast (Some next) rest
  some : rest ≡ [] → ⊥

begins_there : (given : List Entry) (next : Entry) (rest : List Entry) → RestBegins given (Some next) rest → BeginsThere given next rest
begins_there given next [] b = absurd b
begins_there given next (x ∷ rest) b = record { under = b.0; least = b.1; some = λ e. omega (arith, ap length e) }

-- from the next bound on there is one leaf fewer than from the bound on
first_fewer : {t : Forest} {bound next : Entry} (kept : List Entry) (after : List (List Entry)) → (f : IsFirstLeaf t bound (Some next)) → AreUnder (Some next) kept
    → after ≡ leaves_before f.above ++ (filled_leaf kept ++ leaves_behind f.above) → leaves_from next after + 1 ≡ leaves_from bound (filled_leaves t)
first_fewer {t} {bound} {next} kept after f low is =
    let b = begins_there (bound ∷ f.items) next (entries_behind f.above) f.begins in
    let was = plain_leaves f.above f.page f.items f.whole in
    omega (
      arith,
      ap (leaves_from next) is,
      leaves_from-append next (leaves_before f.above) (filled_leaf kept ++ leaves_behind f.above),
      leaves_from-append next (filled_leaf kept) (leaves_behind f.above),
      before-under next f.above (AreUnder-up (Some next) bound (entries_before f.above) b.under.0 f.before),
      filled-under next kept low,
      behind-least next f.above b.least,
      ap (leaves_from bound) was,
      leaves_from-append bound (leaves_before f.above) (filled_leaf f.items ++ leaves_behind f.above),
      leaves_from-append bound (filled_leaf f.items) (leaves_behind f.above),
      before-under bound f.above f.before,
      filled-some bound f.items (λ u. b.some (f.holds u)),
      behind-least bound f.above (AreAtLeast-down (Some bound) next (entries_behind f.above) b.under.0 b.least),
    )

-- The same of a sweep. So a pass ends after as many steps as leaves with an entry from its first bound on, and one more.
pub fewer_leaves : {S : Type 0} {g : Ghosts S} {shape : Shape} {before noted : SpaceNotes} {new : S} {tree : Tree} {owners : List Kind} {t : Forest} {bound next : Entry} {at removed : ℕ} {blocks : List ℕ}
    → (s : SweepsLeaf g shape before noted new tree owners t bound at blocks removed (Some next)) → leaves_from next (filled_leaves s.after) + 1 ≡ leaves_from bound (filled_leaves t)
fewer_leaves {bound = bound} {next} {at} {blocks = blocks} s =
    let b = begins_there (bound ∷ s.first.items) next (entries_behind s.first.above) s.first.begins in
    first_fewer (unswept bound (Some next) at blocks s.first.items) (filled_leaves s.after) s.first (AreUnder-filter (Some next) _ s.first.items b.under.1) s.others
