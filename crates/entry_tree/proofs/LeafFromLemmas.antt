-- What a walk is given from a leaf, or from the next one where the first has nothing to give.
use Rattle.std.proofs.Common.{◌≡◌, ◌<◌, List, [], ◌∷◌, ◌++◌, refl, ap, arith, sym, ◌∙◌, subst, append-nil, length}
use Rattle.std.specs.Prelude.{Some, None, true, false, Bool, if◌then◌else◌}
use Rattle.mdc_words.specs.ByteOrder.{Entry, below}
use Rattle.entry_tree.specs.EntryBounds.{Bound, Under, Room, Climbs, Rises}
use Rattle.entry_tree.specs.Forest.{Forest, Fits, IsTrimTree, leaf_entries}
use Rattle.entry_tree.specs.Forest.Forest.{Nil, Leaf, Fork}
use Rattle.entry_tree.specs.Reading.{AreAtLeast, AreUnder, IsLeafFrom, IsReadAt, RestBegins, entries_from}
use Rattle.entry_tree.specs.TreePlaces.{entries_before, entries_behind, low_of, high_of}
use Rattle.entry_tree.proofs.EntryBoundsLemmas.{AllBelow, Rises-down, Under-up, below_itself, below_trans, up_to}
use Rattle.entry_tree.proofs.FitsLemmas.{Fits-room}
use Rattle.entry_tree.proofs.TreePlacesLemmas.{Fits-plug, leaf_entries-plug}
use Rattle.entry_tree.proofs.DescentLemmas.{outside}
use Rattle.entry_tree.proofs.SightLemmas.{Rises-wide}
use Rattle.entry_tree.proofs.ReadingLemmas.{AreBehind, AreUnder-drop, Climbs-least, Rises-under, behind_place, entries_from-and, entries_from-below, entries_from-least, entries_from-plug}
use Rattle.entry_tree.proofs.SeparatorsLemmas.{IsSeparatorIn, high_is_separator, separator_leaf}
use Rattle.entry_tree.proofs.TrimLemmas.{behind_some}

pub begins_at : (given : List Entry) (next : Bound) (rest : List Entry) → AreBehind next rest → AreUnder next given → ((s : Entry) → next ≡ Some s → 0 < length rest) → RestBegins given next rest
begins_at given None rest b u n = b
begins_at given (Some s) [] b u n = absurd (let k = n s refl in omega (arith, k))
begins_at given (Some s) (x ∷ rest) b u n = (u, b)

-- what lies behind the leaf
rest_behind : (t : Forest) (x : Entry) (given : List Entry) (next : Bound) → Fits None None [] t → IsTrimTree t → (r : IsReadAt t x given next) → RestBegins given next (entries_behind r.above)
rest_behind t x given next f k r =
    let fit = subst (Fits None None []) r.whole f in
    let b = subst (λ (v : Bound). AreBehind v (entries_behind r.above)) r.next_is (behind_place r.above (Leaf r.page r.items Nil) r.page r.matched refl fit) in
    let u = subst (λ (v : Bound). Rises (low_of None r.above) v r.items) r.next_is (Fits-plug None None r.above (Leaf r.page r.items Nil) r.page r.matched refl fit).0.1 in
    begins_at given next (entries_behind r.above) b
    (subst (AreUnder next) (sym r.given_is) (AreUnder-drop next r.at r.items (Rises-under (low_of None r.above) next r.items u)))
    (λ s e. behind_some r.above (Leaf r.page r.items Nil) r.page s r.matched refl fit (subst IsTrimTree r.whole k) (r.next_is ∙ e))

-- the leaf of the bound, and what lies behind it
pub from_leaf : (t : Forest) (x : Entry) (given : List Entry) (next : Bound) → Fits None None [] t → (r : IsReadAt t x given next)
    → entries_from x (leaf_entries t) ≡ given ++ entries_behind r.above
from_leaf t x given next f r =
    let fit = subst (Fits None None []) r.whole f in
    let rises = Rises-wide (low_of None r.above) (high_of None r.above) r.items (Fits-plug None None r.above (Leaf r.page r.items Nil) r.page r.matched refl fit).0.1 in
    ap (λ (u : Forest). entries_from x (leaf_entries u)) r.whole
    ∙ entries_from-plug x r.above r.page r.page r.items r.at r.matched fit r.low r.high rises r.spot
    ∙ ap (λ (l : List Entry). l ++ entries_behind r.above) (sym r.given_is)

pub first_read : (t : Forest) (x : Entry) (given : List Entry) (next : Bound) → Fits None None [] t → IsTrimTree t → IsReadAt t x given next
    → (given ≡ [] → next ≡ None) → IsLeafFrom (leaf_entries t) x given next
first_read t x given next f k r n =
    let b = rest_behind t x given next f k r in
    record {
      rest = entries_behind r.above;
      whole = from_leaf t x given next f r;
      some = λ e. subst (λ (v : Bound). RestBegins given v (entries_behind r.above)) (n e) b;
      begins = b;
    }

all_below : (x s : Entry) (xs : List Entry) → AllBelow x xs → below x s ≡ true → AllBelow s xs
all_below x s [] h b = tt
all_below x s (y ∷ ys) h b = (below_trans y x s h.0 b, all_below x s ys h.1 b)

under_all : (s : Entry) (xs : List Entry) → AreUnder (Some s) xs → AllBelow s xs
under_all s [] h = tt
under_all s (y ∷ ys) h = (h.0, under_all s ys h.1)

-- what lies behind a place is all that is at or above its high bound
pub from_high : (t : Forest) (x s : Entry) (given : List Entry) → Fits None None [] t → (r : IsReadAt t x given (Some s)) → entries_from s (leaf_entries t) ≡ entries_behind r.above
from_high t x s given f r =
    let fit = subst (Fits None None []) r.whole f in
    let o = outside None None r.above (Leaf r.page r.items Nil) r.page x r.matched refl fit r.low r.high in
    let u = subst (λ (v : Bound). Under v x) r.next_is r.high in
    let b = subst (λ (v : Bound). AreBehind v (entries_behind r.above)) r.next_is (behind_place r.above (Leaf r.page r.items Nil) r.page r.matched refl fit) in
    let i = subst (λ (v : Bound). Rises (low_of None r.above) v r.items) r.next_is (Fits-plug None None r.above (Leaf r.page r.items Nil) r.page r.matched refl fit).0.1 in
    ap (λ (u : Forest). entries_from s (leaf_entries u)) r.whole
    ∙ ap (entries_from s) (leaf_entries-plug r.above (Leaf r.page r.items Nil))
    ∙ entries_from-and s (entries_before r.above) ((r.items ++ []) ++ entries_behind r.above)
    ∙ rw (
      entries_from-below s (entries_before r.above) (all_below x s (entries_before r.above) o.0 u),
      append-nil,
      entries_from-and s r.items (entries_behind r.above),
      entries_from-below s r.items (under_all s r.items (Rises-under (low_of None r.above) (Some s) r.items i)),
      entries_from-least s (entries_behind r.above) b,
    ) refl

-- The first leaf has nothing to give, and its high bound leads to the next one.
pub second_read : (t : Forest) (x s : Entry) (given : List Entry) (next : Bound) → Fits None None [] t → IsTrimTree t → IsReadAt t x [] (Some s) → IsReadAt t s given next
    → IsLeafFrom (leaf_entries t) x given next × (0 < length given)
second_read t x s given next f k r q =
    let fit = subst (Fits None None []) q.whole f in
    let i = subst (IsSeparatorIn s) (sym r.whole ∙ q.whole) (high_is_separator r.above (Leaf r.page r.items Nil) s r.next_is) in
    let some : 0 < length given = subst (λ (l : List Entry). 0 < length l) (sym q.given_is)
    (separator_leaf q.above q.page q.items s q.at q.matched fit (subst IsTrimTree q.whole k) q.low q.high i q.spot) in (
      record {
        rest = entries_behind q.above;
        whole = from_leaf t x [] (Some s) f r ∙ sym (from_high t x s [] f r) ∙ from_leaf t s given next f q;
        some = λ e. absurd (omega (arith, some, ap length e));
        begins = rest_behind t s given next f k q;
      },
      some,
    )

-- entries from a bound on are at or above another one where all are
from_least : (x s : Entry) (xs : List Entry) → AreAtLeast (Some s) xs → AreAtLeast (Some s) (entries_from x xs)
from_least x s [] h = tt
from_least x s (y ∷ ys) h = go (below y x) (from_least x s ys h.1)
  where
    go : (b : Bool) → AreAtLeast (Some s) (entries_from x ys) → AreAtLeast (Some s) (if b then entries_from x ys else y ∷ entries_from x ys)
    go true r = r
    go false r = (h.0, r)

-- the first of the entries from a bound on is the lowest of these
pub first_of_rising : (x e : Entry) (xs more : List Entry) → Rises None None xs → entries_from x xs ≡ e ∷ more → AreAtLeast (Some e) (e ∷ more)
first_of_rising x e [] more r q = absurd (cc)
first_of_rising x e (y ∷ ys) more r q = go (below y x) refl q (first_of_rising x e ys more (climbing ys r.2))
  where
    climbing : (zs : List Entry) → Climbs y None zs → Rises None None zs
    climbing [] h = tt
    climbing (z ∷ zs) h = (tt, tt, h.2)

    go : (b : Bool) → below y x ≡ b → (if b then entries_from x ys else y ∷ entries_from x ys) ≡ e ∷ more
        → (entries_from x ys ≡ e ∷ more → AreAtLeast (Some e) (e ∷ more)) → AreAtLeast (Some e) (e ∷ more)
    go true p q f = f q
    go false p q f =
        let same : y ≡ e = cc in
        let rest : entries_from x ys ≡ more = cc in
        (below_itself e, subst (AreAtLeast (Some e)) rest (subst (λ (v : Entry). AreAtLeast (Some v) (entries_from x ys)) same (from_least x y ys (Climbs-least (Some y) y None ys (below_itself y) r.2))))

-- entries of one part and then of the next
Climbs-join : (last s : Entry) (high : Bound) (xs ys : List Entry) → Climbs last (Some s) xs → below last s ≡ true → Room (Some s) high → Rises (Some s) high ys → Climbs last high (xs ++ ys)
Climbs-join last s high [] [] h b r k = tt
Climbs-join last s high [] (y ∷ ys) h b r k = (up_to last s y b k.0, k.1, k.2)
Climbs-join last s high (x ∷ xs) ys h b r k = (h.0, Under-up high s x r h.1, Climbs-join x s high xs ys h.2 h.1 r k)

Rises-join : (low : Bound) (s : Entry) (high : Bound) (xs ys : List Entry) → Rises low (Some s) xs → Room low (Some s) → Room (Some s) high → Rises (Some s) high ys → Rises low high (xs ++ ys)
Rises-join low s high [] ys h l r k = Rises-down low high s ys l k
Rises-join low s high (x ∷ xs) ys h l r k = (h.0, Under-up high s x r h.1, Climbs-join x s high xs ys h.2 h.1 r k)

-- the entries of a forest rise
pub Fits-entries : (low high : Bound) (seps : List Entry) (t : Forest) → Fits low high seps t → Rises low high (leaf_entries t)
Fits-entries low high seps Nil h = absurd h
Fits-entries low high [] (Leaf page items next) h = rw (h.2, append-nil) h.1
Fits-entries low high (s ∷ seps) (Leaf page items next) h =
    Rises-join low s high items (leaf_entries next) h.1 h.0 (Fits-room (Some s) high seps next h.2) (Fits-entries (Some s) high seps next h.2)
Fits-entries low high [] (Fork page inner kids next) h = rw (h.2, append-nil) (Fits-entries low high inner kids h.1)
Fits-entries low high (s ∷ seps) (Fork page inner kids next) h =
    Rises-join low s high (leaf_entries kids) (leaf_entries next) (Fits-entries low (Some s) inner kids h.1) h.0 (Fits-room (Some s) high seps next h.2) (Fits-entries (Some s) high seps next h.2)
