-- A walk over the rows of a block map: how it begins, its steps, and what it can't meet.
use Rattle.std.proofs.Common.{◌≡◌, ◌<◌, ◌≤◌, ◌+◌, ◌^◌, ℕ, zero, suc, List, [], ◌∷◌, ◌++◌, refl, ap, arith, sym, ◌∙◌, subst, append-nil, append_assoc, add-one, length, get_or, drop, drop-cons, map, take, ◌⊎◌, inl, inr}
use Rattle.std.specs.Prelude.{Bool, true, false, cond, ◌==◌, nat_lt, Contains, Some, None, if◌then◌else◌}
use Rattle.std.proofs.lemmas.Bool.{cases_lt}
use Rattle.std.proofs.lemmas.Bool.Decides.{nat_tests}
use Rattle.std.proofs.lemmas.List.{drop_all, map-append}
use Rattle.mdc_values.specs.Rising.{IsLower, IsRising, LastIsBefore}
use Rattle.mdc_words.specs.ByteOrder.{Entry, below}
use Rattle.entry_tree.specs.Entries.{AreOfWidth}
use Rattle.entry_tree.specs.EntryBounds.{Bound, Climbs, IsEntryOf, Rises}
use Rattle.entry_tree.specs.Forest.{Forest, leaf_entries}
use Rattle.entry_tree.specs.Reading.{AreAtLeast, IsLeafFrom, entries_from}
use Rattle.entry_tree.proofs.AmendingLemmas.{Rises-around}
use Rattle.entry_tree.proofs.EntryBoundsLemmas.{AllAbove, below_itself, below_trans, not_below}
use Rattle.entry_tree.proofs.ReadingLemmas.{entries_from-least}
use Rattle.entry_tree.proofs.WalksLemmas.{leaf_alone, leaf_and_rest}
use Rattle.entry_tree.proofs.ReadingLemmas.{from_entries_from, in_entries_from}
use Rattle.block_map.specs.BlockMaps.{FindsFree, IsLowestFreeBlock, IsMapForm}
use Rattle.block_map.specs.MapLines.{AreMapEntries, IsMapEntry, MapLine, blocks_in_state, blocks_of_state, free_blocks, lines_in_state, lines_of_state, map_entry, map_line}
use Rattle.block_map.specs.MapRows.{line_of, row_entry, state_number}
use Rattle.block_map.specs.Walking.{EndsBelow, GivesNext, IsWalking, IsWalkingFrom, entries_behind_bound, left_of_walk}
use Rattle.block_map.specs.declared.row.BlockRow.{BlockRow}
use Rattle.block_map.specs.declared.state.BlockState.{BlockState}
use Rattle.block_map.specs.declared.state.BlockState.TheVariants.{Free, Used, Pending}
use Rattle.block_map.specs.declared.walk.Walk.{Walk}
use Rattle.block_map.specs.contracts.state.BlockState.{the_type}
use denote.Enum.Bare.{sameb}
use Rattle.block_map.proofs.FindingLemmas.{not_below_own}
use Rattle.block_map.proofs.MapFormLemmas.{form_one, form_state}
use Rattle.block_map.proofs.MapLinesLemmas.{contains_cases, entry_small, in_state-row, in_state_named, lines_in_state-row, named_in_state, row_block, row_state}
use Rattle.block_map.proofs.MapOrderLemmas.{before_block, not_before_first, row_no_higher, rows_no_higher}

-- ---- rising lists

Climbs-down : (last x : Entry) (high : Bound) (xs : List Entry) → below last x ≡ true → Climbs x high xs → Climbs last high xs
Climbs-down last x high [] l h = tt
Climbs-down last x high (y ∷ ys) l h = (below_trans last x y l h.0, h.1, h.2)

Climbs-from : (last bound : Entry) (high : Bound) (xs : List Entry) → Climbs last high xs → Climbs last high (entries_from bound xs)
Climbs-from last bound high [] h = tt
Climbs-from last bound high (x ∷ xs) h = go (below x bound) (Climbs-from x bound high xs h.2)
  where
    go : (b : Bool) → Climbs x high (entries_from bound xs) → Climbs last high (if b then entries_from bound xs else x ∷ entries_from bound xs)
    go true r = Climbs-down last x high (entries_from bound xs) h.0 r
    go false r = (h.0, h.1, r)

-- entries from a bound on rise as all do
pub Rises-from : (bound : Entry) (xs : List Entry) → Rises None None xs → Rises None None (entries_from bound xs)
Rises-from bound [] h = tt
Rises-from bound (x ∷ xs) h = go (below x bound) (Climbs-from x bound None xs h.2)
  where
    rising : (ys : List Entry) → Climbs x None ys → Rises None None ys
    rising [] k = tt
    rising (y ∷ ys) k = (tt, tt, k.2)

    go : (b : Bool) → Climbs x None (entries_from bound xs) → Rises None None (if b then entries_from bound xs else x ∷ entries_from bound xs)
    go true r = rising (entries_from bound xs) r
    go false r = (tt, tt, r)

-- what stands behind an entry lies above it
all_above : (x z : Entry) (xs : List Entry) → AllAbove x xs → IsEntryOf z xs → below x z ≡ true
all_above x z [] h i = absurd i
all_above x z (y ∷ ys) h (inl e) = subst (λ (v : Entry). below x v ≡ true) (sym e) h.0
all_above x z (y ∷ ys) h (inr i) = all_above x z ys h.1 i

pub rises_behind : (front back : List Entry) (x z : Entry) → Rises None None (front ++ x ∷ back) → IsEntryOf z back → below x z ≡ true
rises_behind front back x z r i = all_above x z back (Rises-around None None front x back r).1 i

pub in_back : (x : Entry) (front back : List Entry) → IsEntryOf x back → IsEntryOf x (front ++ back)
in_back x [] back i = i
in_back x (y ∷ front) back i = inr (in_back x front back i)

-- ---- the walk

-- where a walk begins, all entries from there on are left
left_at_first : (start : Entry) (all : List Entry) (walk : Walk) → walk.leaf.entries ≡ [] → walk.leaf.next ≡ Some start → walk.at ≡ 0 → left_of_walk all walk ≡ entries_from start all
left_at_first start all walk e n a =
    ap (λ (xs : List Entry). drop walk.at xs ++ entries_behind_bound all walk.leaf.next) e ∙ ap (λ (b : Bound). drop walk.at [] ++ entries_behind_bound all b) n
    ∙ ap (λ (k : ℕ). drop k [] ++ entries_from start all) a

pub walking_begins : (start : Entry) (all : List Entry) (walk : Walk) → walk.leaf.entries ≡ [] → walk.leaf.next ≡ Some start → walk.at ≡ 0 → walk.lowest ≡ 0 → IsWalkingFrom start all walk
walking_begins start all walk e n a l = record { passed = []; whole = sym (left_at_first start all walk e n a); ends = inl l }

-- one row more was given
pub walking_goes : (start : Entry) (all : List Entry) (old new : Walk) (row : BlockRow) → IsWalkingFrom start all old → GivesNext all old new (Some row) → row.block < 2 ^ 32 → new.lowest ≡ row.block + 1
    → IsWalkingFrom start all new
walking_goes start all old new row w g small l = record {
  passed = w.passed ++ row_entry row ∷ [];
  whole = w.whole ∙ ap (λ (r : List Entry). w.passed ++ r) g ∙ sym (append_assoc w.passed (row_entry row ∷ []) (left_of_walk all new));
  ends = inr (record { front = w.passed; row = row; whole = refl; small = small; next = l });
}

-- what is left is in the tree
pub left_there : (all : List Entry) (walk : Walk) (x : Entry) (more : List Entry) → IsWalking all walk → left_of_walk all walk ≡ x ∷ more → IsEntryOf x all
left_there all walk x more (start, w) e =
    (from_entries_from start x all (subst (IsEntryOf x) (sym w.whole) (in_back x w.passed (left_of_walk all walk) (subst (IsEntryOf x) (sym e) (inl refl))))).0

-- a map of its form shows a walk no state above 2
pub walking_state : (t : Forest) (walk : Walk) (x : Entry) (more : List Entry) → IsMapForm t → IsWalking (leaf_entries t) walk → left_of_walk (leaf_entries t) walk ≡ x ∷ more → 2 < (map_line x).state → ⊥
walking_state t walk x more f w e l = omega (arith, l, form_state t x f (left_there (leaf_entries t) walk x more w e))

-- and no block that isn't above the one before
pub walking_rises : (t : Forest) (walk : Walk) (row : BlockRow) (more : List Entry) → IsMapForm t → Rises None None (leaf_entries t) → IsWalking (leaf_entries t) walk
    → left_of_walk (leaf_entries t) walk ≡ row_entry row ∷ more → row.block < 2 ^ 32 → row.block < walk.lowest → ⊥
walking_rises t walk row more f r (start, w) e small l = go w.ends
  where
    go : EndsBelow w.passed walk.lowest → ⊥
    go (inl n) = omega (arith, n, l)
    go (inr b) =
        let whole : entries_from start (leaf_entries t) ≡ b.front ++ row_entry b.row ∷ row_entry row ∷ more =
        w.whole ∙ ap (λ (p : List Entry). p ++ left_of_walk (leaf_entries t) walk) b.whole ∙ append_assoc b.front (row_entry b.row ∷ []) (left_of_walk (leaf_entries t) walk) ∙ ap (λ (q : List Entry). b.front ++ row_entry b.row ∷ q) e in
        let rises = subst (Rises None None) whole (Rises-from start (leaf_entries t) r) in
        let before = rises_behind b.front (row_entry row ∷ more) (row_entry b.row) (row_entry row) rises (inl refl) in
        let order = rows_no_higher b.row row b.small small before in
        let here = (from_entries_from start (row_entry b.row) (leaf_entries t) (subst (IsEntryOf (row_entry b.row)) (sym whole) (in_back (row_entry b.row) b.front (row_entry b.row ∷ row_entry row ∷ more) (inl refl)))).0 in
        let there = (from_entries_from start (row_entry row) (leaf_entries t) (subst (IsEntryOf (row_entry row)) (sym whole) (in_back (row_entry row) b.front (row_entry b.row ∷ row_entry row ∷ more) (inr (inl refl))))).0 in
        let equal : b.row.block ≡ row.block = omega (arith, order, l, b.next) in
        let one = form_one t (row_entry b.row) (row_entry row) f here there (row_block b.row b.small ∙ equal ∙ sym (row_block row small)) in
        let wrong : true ≡ false = sym before ∙ ap (λ (v : Entry). below v (row_entry row)) one ∙ below_itself (row_entry row) in cc

-- ---- leaves

-- a leaf that was read, and what lies behind it
pub loaded : (all : List Entry) (bound : Entry) (given : List Entry) (next : Bound) → IsLeafFrom all bound given next → given ++ entries_behind_bound all next ≡ entries_from bound all
loaded all bound given None l = append-nil given ∙ sym (leaf_alone all bound given l)
loaded all bound given (Some next) l = sym (leaf_and_rest all bound next given l)

-- a leaf without entries
pub nothing_loaded : (all : List Entry) (bound : Entry) (given : List Entry) (next : Bound) → IsLeafFrom all bound given next → length given ≤ 0 → entries_from bound all ≡ []
nothing_loaded all bound [] next l n = l.whole ∙ l.some refl
nothing_loaded all bound (x ∷ given) next l n = absurd (omega (arith, n))

-- ---- all entries

-- all entries of a map are those from the lowest entry of block 0 on
pub all_from_first : (xs : List Entry) → AreOfWidth 7 xs → entries_from (map_entry 0 0 0) xs ≡ xs
all_from_first xs h = entries_from-least (map_entry 0 0 0) xs (least xs h)
  where
    least : (ys : List Entry) → AreOfWidth 7 ys → AreAtLeast (Some (map_entry 0 0 0)) ys
    least [] h = tt
    least (y ∷ ys) h = (not_before_first y h.0, least ys h.1)

-- ---- the rows of a state

-- the rows so far are those of the entries that the walk passed
pub record IsListing (all : List Entry) (n : ℕ) (walk : Walk) (rows : List BlockRow) : Type 0 where
  pub walking : IsWalking all walk
  pub so_far : lines_in_state n all ≡ map line_of rows ++ lines_in_state n (left_of_walk all walk)

pub listing_begins : (all : List Entry) (n : ℕ) (walk : Walk) → AreOfWidth 7 all → walk.leaf.entries ≡ [] → walk.leaf.next ≡ Some (map_entry 0 0 0) → walk.at ≡ 0 → walk.lowest ≡ 0 → IsListing all n walk []
listing_begins all n walk wide e x a l =
    let w = walking_begins (map_entry 0 0 0) all walk e x a l in
    record { walking = (map_entry 0 0 0, w); so_far = ap (lines_in_state n) (sym (all_from_first all wide) ∙ sym (left_at_first (map_entry 0 0 0) all walk e x a)) }

pub listing_goes : (all : List Entry) (n : ℕ) (old new : Walk) (row : BlockRow) (rows more : List BlockRow) → IsListing all n old rows → GivesNext all old new (Some row) → row.block < 2 ^ 32 → row.rows < 2 ^ 16
    → new.lowest ≡ row.block + 1 → more ≡ rows ++ cond (state_number row.state == n) (row ∷ []) [] → IsListing all n new more
listing_goes all n old new row rows more k g small few l is = record {
  walking = (k.walking.0, walking_goes k.walking.0 all old new row k.walking.1 g small l);
  so_far = k.so_far ∙ ap (λ (r : List Entry). map line_of rows ++ lines_in_state n r) g ∙ ap (λ (r : List MapLine). map line_of rows ++ r) (lines_in_state-row n row (left_of_walk all new) small few)
      ∙ go (state_number row.state == n) (lines_in_state n (left_of_walk all new)) ∙ ap (λ (b : List BlockRow). map line_of b ++ lines_in_state n (left_of_walk all new)) (sym is);
}
  where
    go : (b : Bool) (rest : List MapLine) → map line_of rows ++ cond b (line_of row ∷ rest) rest ≡ map line_of (rows ++ cond b (row ∷ []) []) ++ rest
    go true rest = sym (append_assoc (map line_of rows) (line_of row ∷ []) rest) ∙ ap (λ (m : List MapLine). m ++ rest) (sym (map-append line_of rows (row ∷ [])))
    go false rest = ap (λ (m : List BlockRow). map line_of m ++ rest) (sym (append-nil rows))

pub listing_ends : (all : List Entry) (n : ℕ) (walk : Walk) (rows : List BlockRow) → IsListing all n walk rows → left_of_walk all walk ≡ [] → map line_of rows ≡ lines_in_state n all
listing_ends all n walk rows k e = sym (k.so_far ∙ ap (λ (r : List Entry). map line_of rows ++ lines_in_state n r) e ∙ append-nil (map line_of rows))

-- the blocks of rows
abbrev pub blocks_of_rows : List BlockRow → List ℕ
blocks_of_rows rows = map (λ row. row.block) rows

-- those of rows of a state are the blocks of that state
pub blocks_are : (n : ℕ) (t : Forest) (rows : List BlockRow) → map line_of rows ≡ lines_of_state n t → blocks_of_rows rows ≡ blocks_of_state n t
blocks_are n t rows e = blocks_there rows ∙ ap (map (λ (line : MapLine). line.block)) e
  where
    blocks_there : (some : List BlockRow) → blocks_of_rows some ≡ map (λ (line : MapLine). line.block) (map line_of some)
    blocks_there [] = refl
    blocks_there (row ∷ more) = ap (λ (b : List ℕ). row.block ∷ b) (blocks_there more)

-- what a rising list has at a place may be put behind what stands before that
pub last_of_front : {X : Type 0} (f : X → ℕ) (xs : List X) (i : ℕ) (d : X) → i < length xs → IsRising IsLower (map f xs) → LastIsBefore IsLower (f (get_or xs i d)) (map f (take i xs))
last_of_front f [] i d l rising = absurd (omega (arith, l))
last_of_front f (x ∷ xs) zero d l rising = tt
last_of_front f (x ∷ []) (suc i) d l rising = absurd (omega (arith, l))
last_of_front f (x ∷ y ∷ xs) (suc zero) d l rising = rising.0
last_of_front f (x ∷ y ∷ xs) (suc (suc i)) d l rising = last_of_front f (y ∷ xs) (suc i) d (omega (arith, l)) rising.1

-- what is put behind a rising list
pub last_pushed : (blocks : List ℕ) (b e : ℕ) → b < e → LastIsBefore IsLower e (blocks ++ b ∷ [])
last_pushed [] b e l = l
last_pushed (x ∷ []) b e l = l
last_pushed (x ∷ y ∷ xs) b e l = last_pushed (y ∷ xs) b e l

-- ---- the lowest Free block

-- no Free block was passed
pub record IsSeekingFree (all : List Entry) (from : ℕ) (walk : Walk) : Type 0 where
  pub walking : IsWalkingFrom (map_entry from 0 0) all walk
  pub none_yet : blocks_in_state 0 (entries_from (map_entry from 0 0) all) ≡ blocks_in_state 0 (left_of_walk all walk)

pub seeking_begins : (all : List Entry) (from : ℕ) (walk : Walk) → walk.leaf.entries ≡ [] → walk.leaf.next ≡ Some (map_entry from 0 0) → walk.at ≡ 0 → walk.lowest ≡ 0 → IsSeekingFree all from walk
seeking_begins all from walk e x a l = record {
  walking = walking_begins (map_entry from 0 0) all walk e x a l;
  none_yet = ap (blocks_in_state 0) (sym (left_at_first (map_entry from 0 0) all walk e x a));
}

pub seeking_goes : (all : List Entry) (from : ℕ) (old new : Walk) (row : BlockRow) → IsSeekingFree all from old → GivesNext all old new (Some row) → row.block < 2 ^ 32 → new.lowest ≡ row.block + 1
    → (state_number row.state == 0) ≡ false → IsSeekingFree all from new
seeking_goes all from old new row k g small l other = record {
  walking = walking_goes (map_entry from 0 0) all old new row k.walking g small l;
  none_yet = k.none_yet ∙ ap (blocks_in_state 0) g ∙ in_state-row 0 row (left_of_walk all new) small
      ∙ ap (λ (b : Bool). cond b (row.block ∷ blocks_in_state 0 (left_of_walk all new)) (blocks_in_state 0 (left_of_walk all new))) other;
}

-- an entry of a block from a number on isn't below the lowest entry of that number
not_below_from : (from : ℕ) (x : Entry) → from < 2 ^ 32 → IsMapEntry x → from ≤ (map_line x).block → below x (map_entry from 0 0) ≡ false
not_below_from from x small w l = elim (cases_lt from (map_line x).block) [
  | inl lower ↦
      let line = map_line x in
      not_below (map_entry from 0 0) x
      (subst (λ (e : Entry). below (map_entry from 0 0) e ≡ true) (sym w.bytes_are) (before_block from 0 0 line.block line.state line.rows small (entry_small x w) lower))
  | inr higher ↦
      let same : (map_line x).block ≡ from = omega (arith, l, higher) in
      subst (λ (b : ℕ). below x (map_entry b 0 0) ≡ false) same (not_below_own x w)
]

-- a Free block of the map from a number on is one of those that the walk goes over
free_reached : (t : Forest) (from other : ℕ) → from < 2 ^ 32 → AreMapEntries t → Contains (free_blocks t) other → from ≤ other → Contains (blocks_in_state 0 (entries_from (map_entry from 0 0) (leaf_entries t))) other
free_reached t from other small w c l =
    let r = named_in_state 0 (leaf_entries t) other c in
    let own = w r.entry r.there in
    let reached = not_below_from from r.entry small own (omega (arith, l, r.block_is)) in
    in_state_named 0 (entries_from (map_entry from 0 0) (leaf_entries t)) other (record {
      entry = r.entry;
      there = in_entries_from (map_entry from 0 0) r.entry (leaf_entries t) r.there reached;
      state = r.state;
      block_is = r.block_is;
    })

pub seeking_ends : (t : Forest) (from : ℕ) (walk : Walk) → from < 2 ^ 32 → AreMapEntries t → IsSeekingFree (leaf_entries t) from walk → left_of_walk (leaf_entries t) walk ≡ [] → FindsFree t from None
seeking_ends t from walk small w k e other c l =
    let found = free_reached t from other small w c l in
    let none = subst (λ (b : List ℕ). Contains b other) (k.none_yet ∙ ap (blocks_in_state 0) e) found in
    no_element other none
  where
    no_element : (x : ℕ) → Contains {X = ℕ} [] x → ⊥
    no_element x (i, l, e) = omega (arith, l)

pub seeking_finds : (t : Forest) (from : ℕ) (old new : Walk) (row : BlockRow) → from < 2 ^ 32 → AreMapEntries t → Rises None None (leaf_entries t) → IsSeekingFree (leaf_entries t) from old
    → GivesNext (leaf_entries t) old new (Some row) → row.block < 2 ^ 32 → state_number row.state ≡ 0 → IsLowestFreeBlock t from row.block
seeking_finds t from old new row from_small w r k g small free = record {
  free = in_state_named 0 (leaf_entries t) row.block (record { entry = row_entry row; there = in_all; state = ap (λ (n : ℕ). n == 0) (row_state row ∙ free); block_is = row_block row small });
  reached = reached;
  lowest = λ other c l. lowest other (free_reached t from other from_small w c l);
}
  where
    whole : entries_from (map_entry from 0 0) (leaf_entries t) ≡ k.walking.passed ++ row_entry row ∷ left_of_walk (leaf_entries t) new
    whole = k.walking.whole ∙ ap (λ (q : List Entry). k.walking.passed ++ q) g

    here : IsEntryOf (row_entry row) (entries_from (map_entry from 0 0) (leaf_entries t))
    here = subst (IsEntryOf (row_entry row)) (sym whole) (in_back (row_entry row) k.walking.passed (row_entry row ∷ left_of_walk (leaf_entries t) new) (inl refl))

    in_all : IsEntryOf (row_entry row) (leaf_entries t)
    in_all = (from_entries_from (map_entry from 0 0) (row_entry row) (leaf_entries t) here).0

    reached : from ≤ row.block
    reached = elim (cases_lt row.block from) [
      | inl lower ↦
          let b = before_block row.block (state_number row.state) row.rows from 0 0 small from_small lower in
          let wrong : true ≡ false = sym b ∙ (from_entries_from (map_entry from 0 0) (row_entry row) (leaf_entries t) here).1 in cc
      | inr higher ↦ higher
    ]

    lowest : (other : ℕ) → Contains (blocks_in_state 0 (entries_from (map_entry from 0 0) (leaf_entries t))) other → row.block ≤ other
    lowest other c = go (contains_cases other row.block (blocks_in_state 0 (left_of_walk (leaf_entries t) new)) (subst (λ (b : List ℕ). Contains b other) is c))
      where
        is : blocks_in_state 0 (entries_from (map_entry from 0 0) (leaf_entries t)) ≡ row.block ∷ blocks_in_state 0 (left_of_walk (leaf_entries t) new)
        is = k.none_yet ∙ ap (blocks_in_state 0) g ∙ in_state-row 0 row (left_of_walk (leaf_entries t) new) small
            ∙ ap (λ (n : ℕ). cond (n == 0) (row.block ∷ blocks_in_state 0 (left_of_walk (leaf_entries t) new)) (blocks_in_state 0 (left_of_walk (leaf_entries t) new))) free

        go : (row.block ≡ other) ⊎ Contains (blocks_in_state 0 (left_of_walk (leaf_entries t) new)) other → row.block ≤ other
        go (inl e) = omega (arith, e)
        go (inr q) =
            let n = named_in_state 0 (left_of_walk (leaf_entries t) new) other q in
            let rises = subst (Rises None None) whole (Rises-from (map_entry from 0 0) (leaf_entries t) r) in
            let before = rises_behind k.walking.passed (left_of_walk (leaf_entries t) new) (row_entry row) n.entry rises n.there in
            let there = (from_entries_from (map_entry from 0 0) n.entry (leaf_entries t) (subst (IsEntryOf n.entry) (sym whole) (in_back n.entry k.walking.passed (row_entry row ∷ left_of_walk (leaf_entries t) new) (inr n.there)))).0 in
            omega (arith, row_no_higher row n.entry (w n.entry there) small before, n.block_is)

-- ---- the next leaf

-- nothing is left of a leaf behind its end
left_of_done : (all entries : List Entry) (at : ℕ) (next : Bound) → length entries ≤ at → drop at entries ++ entries_behind_bound all next ≡ entries_behind_bound all next
left_of_done all entries at next h = ap (λ (l : List Entry). l ++ entries_behind_bound all next) (drop_all at entries h)

-- the next leaf has what was left behind the one that is done
pub load_goes : (all entries given : List Entry) (at : ℕ) (bound : Entry) (was next : Bound) → length entries ≤ at → was ≡ Some bound → IsLeafFrom all bound given next
    → given ++ entries_behind_bound all next ≡ drop at entries ++ entries_behind_bound all was
load_goes all entries given at bound was next h e l =
    loaded all bound given next l ∙ sym (left_of_done all entries at was h ∙ ap (entries_behind_bound all) e)

-- and where it has none, nothing was left
pub load_ends : (all entries given : List Entry) (at : ℕ) (bound : Entry) (was next : Bound) → length entries ≤ at → was ≡ Some bound → IsLeafFrom all bound given next → length given ≤ 0
    → drop at entries ++ entries_behind_bound all was ≡ []
load_ends all entries given at bound was next h e l n =
    left_of_done all entries at was h ∙ ap (entries_behind_bound all) e ∙ nothing_loaded all bound given next l n

-- nor is anything where no bound is
pub load_none : (all entries : List Entry) (at : ℕ) (was : Bound) → length entries ≤ at → was ≡ None → drop at entries ++ entries_behind_bound all was ≡ []
load_none all entries at was h e = left_of_done all entries at was h ∙ ap (entries_behind_bound all) e

-- the entry at hand is the first that is left
pub left_at_hand : (all : List Entry) (walk : Walk) → walk.at < length walk.leaf.entries
    → left_of_walk all walk ≡ get_or walk.leaf.entries walk.at [] ∷ (drop (walk.at + 1) walk.leaf.entries ++ entries_behind_bound all walk.leaf.next)
left_at_hand all walk h =
    let e : drop walk.at walk.leaf.entries ≡ get_or walk.leaf.entries walk.at [] ∷ drop (walk.at + 1) walk.leaf.entries = rw add-one (drop-cons walk.leaf.entries walk.at [] h) in
    ap (λ (l : List Entry). l ++ entries_behind_bound all walk.leaf.next) e

-- a count that isn't above 0
pub none_more : (n m : ℕ) → nat_lt 0 n ≡ false → n ≡ m → m ≤ 0
none_more n m e k = grind (arith, nat_tests, e, k)

-- an entry of a leaf has its width
pub wide_at : (w : ℕ) (xs : List Entry) (i : ℕ) → AreOfWidth w xs → i < length xs → length (get_or xs i []) ≡ w
wide_at w [] i h l = absurd (omega (arith, l))
wide_at w (x ∷ xs) zero h l = h.0
wide_at w (x ∷ xs) (suc i) h l = wide_at w xs i h.1 (omega (arith, l))

pub with_first : {x y : Entry} {more : List Entry} → x ≡ y → x ∷ more ≡ y ∷ more
with_first {x} {y} {more} e = ap (λ (v : Entry). v ∷ more) e

-- ---- states

-- the test of two states is that of their numbers
pub same_states : (a b : BlockState) → (state_number a == state_number b) ≡ sameb the_type a b
same_states Free Free = refl
same_states Free Used = refl
same_states Free Pending = refl
same_states Used Free = refl
same_states Used Used = refl
same_states Used Pending = refl
same_states Pending Free = refl
same_states Pending Used = refl
same_states Pending Pending = refl
