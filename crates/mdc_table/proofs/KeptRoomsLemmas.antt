-- The notes of rooms stay right where a row is put, taken out or written over.
use Rattle.std.proofs.Common.{◌≡◌, ◌≢◌, ◌<◌, ◌≤◌, ℕ, Bool, true, false, cond, List, length, get_or, set, refl, ap, arith, sym, ◌∙◌, subst, ◌⊎◌, inl, inr}
use Rattle.std.specs.Prelude.{AllPairs, Contains, IsTrue, nat_le, Option, Some, None, is_none, slice_index_or, slice_set}
use Rattle.std.specs.List.{AllZip, list_all}
use Rattle.std.specs.Str.{bytes_eq}
use Rattle.std.proofs.lemmas.Bool.{cases_eq, cases_lt}
use Rattle.std.proofs.lemmas.Bool.Decides.{nat_tests}
use Rattle.std.proofs.lemmas.List.{get_or-set_other, get_or-set_same, get_or_default, get_or_past, length-set}
use Rattle.std.proofs.lemmas.List.Elements.{AllZip-get_or}
use Rattle.std.proofs.lemmas.Slice.Eq.{bytes_eq-Decides}
use Rattle.std.proofs.lemmas.Slice.Zip.{AllZip-long}
use Rattle.mdc_words.specs.ByteOrder.{Entry}
use Rattle.mdc_values.specs.declared.rid.Rid.{Rid}
use Rattle.mdc_ast.specs.declared.definition.TableDef.{TableDef}
use Rattle.mdc_ast.specs.declared.row.Row.{Row}
use Rattle.row_page.specs.RowPage.{count_rows}
use Rattle.store_api.specs.declared.pages.Pages.{Ghosts}
use Rattle.store_api.specs.declared.shape.Shape.{Shape}
use Rattle.extent_map.specs.declared.kind.Kind.{Kind}
use Rattle.mdc_ast.specs.TableLimits.{IsTableDef}
use Rattle.block_map.specs.MapLines.{used_blocks}
use Rattle.mdc_sound.specs.BlockRules.{AreBlockRowsSound, IsOfOneCell}
use Rattle.table_trees.specs.RowCells.{AreOfOneCell}
use Rattle.mdc_ast.specs.FittingRows.{RowFits}
use Rattle.mdc_sound.specs.Placing.{AfterClaims, AfterReturns, HasRoomFor, IsRowAt, Spot, left_with}
use Rattle.mdc_sound.specs.Placing.Spot.{FreeBlock, FreeExtent, IndexExtent, OtherBlock, PendingBlock, UsedBlock}
use Rattle.mdc_sound.specs.StandingTable.{AreRightRooms, HoldsKey, RoomNote, StandsTable, TableForests, pages_of, spots_of}
use Rattle.mdc_sound.specs.TableRows.{PlacedRow, block_slots, rows_in_block}
use Rattle.mdc_sound.proofs.BlockRulesLemmas.{each_of}
use Rattle.mdc_sound.proofs.DefinitionTreesLemmas.{has_block_indexes}
use Rattle.mdc_sound.proofs.PlacingLemmas.{filled_below}
use Rattle.mdc_sound.proofs.TableSpotsLemmas.{used_of_spot}
use Rattle.table_blocks.specs.BlockChanges.{SameSpot}
use Rattle.table_blocks.proofs.ClearedSlotsLemmas.{left_used}
use Rattle.free_space.specs.FoundRoom.{cell_key_of}
use Rattle.free_space.specs.RoomNotes.{SaysNoMore, found_at, lowered_to, no_note}
use Rattle.mdc_table.specs.LoweredNotes.{LowersNoteOf}
use Rattle.free_space.proofs.CellKeysLemmas.{cell_key_of-same, one_cell}
use Rattle.mdc_sound.proofs.SlotRowsLemmas.{IsPlaced, placed_in_slot, some_row}

-- ---- lists

-- keys are the same or not
key_cases : (a b : Entry) → (a ≡ b) ⊎ (a ≢ b)
key_cases a b = go (bytes_eq a b) refl
  where
    go : (test : Bool) → bytes_eq a b ≡ test → (a ≡ b) ⊎ (a ≢ b)
    go true is = inl ((bytes_eq-Decides a b).0 is)
    go false is = inr (λ same. let yes = (bytes_eq-Decides a b).1 same in absurd (cc))

-- what holds of each element and each later one holds of any two
any_two : {X : Type 0} (R : X → X → Type 0) (xs : List X) (a b : X) → ((x : X) → R x x) → ((x y : X) → R x y → R y x) → AllPairs R xs → Contains xs a → Contains xs b → R a b
any_two {X} R xs a b alone turned pairs (i, li, ei) (j, lj, ej) =
    let at_b : get_or xs j a ≡ b = get_or_default xs j a b lj ∙ ej in
    let at_a : get_or xs i b ≡ a = get_or_default xs i b a li ∙ ei in
    elim (cases_lt i j) [
      | inl low ↦ subst (λ (y : X). R a y) at_b (subst (λ (x : X). R x (get_or xs j a)) ei (pairs i j a low lj))
      | inr high ↦ elim (cases_eq i j) [
        | inl same ↦
            let e : a ≡ b = sym ei ∙ ap (λ (n : ℕ). get_or xs n a) same ∙ at_b in
            subst (λ (y : X). R a y) e (alone a)
        | inr other ↦
            let low : j < i = omega (arith, high, other) in
            turned b a (subst (λ (y : X). R b y) at_a (subst (λ (x : X). R x (get_or xs i b)) ej (pairs j i b low li)))
      ]
    ]

-- an element of a list with one other
of_set : {X : Type 0} (xs : List X) (k : ℕ) (y x : X) → Contains (slice_set xs k y) x → (y ≡ x) ⊎ Contains xs x
of_set {X} xs k y x (i, li, ei) =
    let long = length-set xs k y in
    elim (cases_eq i k) [
      | inl same ↦
          let low : k < length xs = omega (arith, li, long, same) in
          inl (sym (get_or-set_same xs k y x low) ∙ ap (λ (n : ℕ). get_or (set xs k y) n x) (sym same) ∙ ei)
      | inr other ↦ inr (i, omega (arith, li, long), sym (get_or-set_other xs k i y x other) ∙ ei)
    ]

-- an element stays where another place is set
pub stays_in_set : {X : Type 0} (xs : List X) (k : ℕ) (y x was : X) → get_or xs k was ≡ was → (was ≢ x) → Contains xs x → Contains (slice_set xs k y) x
stays_in_set {X} xs k y x was at differ (i, li, ei) = elim (cases_eq i k) [
  | inl same ↦
      let wrong : was ≡ x = sym at ∙ get_or_default xs k was x (omega (arith, li, same)) ∙ ap (λ (n : ℕ). get_or xs n x) (sym same) ∙ ei in
      absurd (differ wrong)
  | inr other ↦ (i, omega (arith, li, length-set xs k y), get_or-set_other xs k i y x other ∙ ei)
]

pub in_set : {X : Type 0} (xs : List X) (k : ℕ) (y : X) → k < length xs → Contains (slice_set xs k y) y
in_set xs k y low = (k, omega (arith, low, length-set xs k y), get_or-set_same xs k y y low)

-- the row in a slot is one of the slots
pub in_slot : (slots : List (Option Row)) (k : ℕ) (row : Row) → slice_index_or slots k None ≡ Some row → Contains slots (Some row)
in_slot slots k row is = let low = filled_below slots k row is in (k, low, get_or_default slots k (Some row) None low ∙ is)

-- ---- spots

pub used_below : (spots : List Spot) (block : ℕ) (slots : List (Option Row)) → slice_index_or spots block OtherBlock ≡ UsedBlock slots → block < length spots
used_below spots block slots is = elim (cases_lt block (length spots)) [
  | inl low ↦ low
  | inr past ↦ let wrong = sym (get_or_past spots block OtherBlock past) ∙ is in absurd (cc)
]

-- a spot with room is a Used block
pub room_used : (def : TableDef) (row : Row) (spot : Spot) → HasRoomFor def row spot → (slots : List (Option Row)) × (spot ≡ UsedBlock slots) × HasRoomFor def row (UsedBlock slots)
room_used def row (UsedBlock slots) room = (slots, refl, room)
room_used def row FreeExtent room = absurd room
room_used def row IndexExtent room = absurd room
room_used def row OtherBlock room = absurd room
room_used def row FreeBlock room = absurd room
room_used def row PendingBlock room = absurd room

-- a spot that holds a row of a cell is a Used block
pub holds_used : (def : TableDef) (key : Entry) (spot : Spot) → HoldsKey def key spot → (slots : List (Option Row)) × (spot ≡ UsedBlock slots) × HoldsKey def key (UsedBlock slots)
holds_used def key (UsedBlock slots) holds = (slots, refl, holds)
holds_used def key FreeExtent holds = absurd holds
holds_used def key IndexExtent holds = absurd holds
holds_used def key OtherBlock holds = absurd holds
holds_used def key FreeBlock holds = absurd holds
holds_used def key PendingBlock holds = absurd holds

-- what is left is a Used block with these slots, if it is one
slots_left : (slots all : List (Option Row)) → left_with slots ≡ UsedBlock all → slots ≡ all
slots_left slots all is = go (list_all is_none slots) is
  where
    go : (none : Bool) → cond none FreeBlock (UsedBlock slots) ≡ UsedBlock all → slots ≡ all
    go true e = absurd (cc)
    go false e = cc

-- a relation of spots that makes no block a Used one, and leaves each that is one
record KeepsUsed (After : Spot → Spot → Type 0) : Type 0 where
  pub was : (a : Spot) (slots : List (Option Row)) → After a (UsedBlock slots) → a ≡ UsedBlock slots
  pub stays : (slots : List (Option Row)) (b : Spot) → After (UsedBlock slots) b → b ≡ UsedBlock slots

claims_keep : KeepsUsed AfterClaims
claims_keep = record { was = was; stays = λ slots b h. sym h }
  where
    was : (a : Spot) (slots : List (Option Row)) → AfterClaims a (UsedBlock slots) → a ≡ UsedBlock slots
    was FreeExtent slots h = h
    was IndexExtent slots h = h
    was OtherBlock slots h = h
    was FreeBlock slots h = h
    was PendingBlock slots h = h
    was (UsedBlock before) slots h = h

returns_keep : KeepsUsed AfterReturns
returns_keep = record { was = was; stays = λ slots b h. sym h }
  where
    was : (a : Spot) (slots : List (Option Row)) → AfterReturns a (UsedBlock slots) → a ≡ UsedBlock slots
    was FreeExtent slots h = h
    was IndexExtent slots h = h
    was OtherBlock slots h = h
    was FreeBlock slots h = h
    was PendingBlock slots h = h
    was (UsedBlock before) slots h = h

same_keeps : KeepsUsed SameSpot
same_keeps = record { was = λ a slots h. h; stays = λ slots b h. sym h }

module _ (After : Spot → Spot → Type 0) (keeps : KeepsUsed After) (old new : List Spot) (block : ℕ) (spot : Spot) (turned : AllZip After (slice_set old block spot) new) where
  used_before : (b : ℕ) (slots : List (Option Row)) → slice_index_or new b OtherBlock ≡ UsedBlock slots → (slice_index_or (slice_set old block spot) b OtherBlock ≡ UsedBlock slots) × (b < length old)
  used_before b slots is =
      let long = AllZip-long After (slice_set old block spot) new turned in
      let low : b < length (slice_set old block spot) = omega (arith, used_below new b slots is, long) in
      let at : After (slice_index_or (slice_set old block spot) b OtherBlock) (slice_index_or new b OtherBlock) = AllZip-get_or After (slice_set old block spot) new b OtherBlock OtherBlock turned low in (
        keeps.was (slice_index_or (slice_set old block spot) b OtherBlock) slots (subst (After (slice_index_or (slice_set old block spot) b OtherBlock)) is at),
        omega (arith, low, length-set old block spot),
      )

  -- a Used block elsewhere was one
  used_elsewhere : (b : ℕ) (slots : List (Option Row)) → b ≢ block → slice_index_or new b OtherBlock ≡ UsedBlock slots → slice_index_or old b OtherBlock ≡ UsedBlock slots
  used_elsewhere b slots other is = sym (get_or-set_other old block b spot OtherBlock other) ∙ (used_before b slots is).0

  -- a Used block with a row of a cell is one, where it is so in the changed spots
  holds_after : (def : TableDef) (key : Entry) (b : ℕ) → HoldsKey def key (slice_index_or (slice_set old block spot) b OtherBlock) → HoldsKey def key (slice_index_or new b OtherBlock)
  holds_after def key b holds =
      let used = holds_used def key (slice_index_or (slice_set old block spot) b OtherBlock) holds in
      let low : b < length (slice_set old block spot) = used_below (slice_set old block spot) b used.0 used.1 in
      let at : After (slice_index_or (slice_set old block spot) b OtherBlock) (slice_index_or new b OtherBlock) = AllZip-get_or After (slice_set old block spot) new b OtherBlock OtherBlock turned low in
      let is = keeps.stays used.0 (slice_index_or new b OtherBlock) (subst (λ (a : Spot). After a (slice_index_or new b OtherBlock)) used.1 at) in
      subst (HoldsKey def key) (sym is) used.2

  -- elsewhere
  holds_elsewhere : (def : TableDef) (key : Entry) (b : ℕ) → b ≢ block → HoldsKey def key (slice_index_or old b OtherBlock) → HoldsKey def key (slice_index_or new b OtherBlock)
  holds_elsewhere def key b other holds = holds_after def key b (subst (HoldsKey def key) (sym (get_or-set_other old block b spot OtherBlock other)) holds)

  -- and there
  holds_there : (def : TableDef) (key : Entry) → block < length old → HoldsKey def key spot → HoldsKey def key (slice_index_or new block OtherBlock)
  holds_there def key low holds = holds_after def key block (subst (HoldsKey def key) (sym (get_or-set_same old block spot OtherBlock low)) holds)

  -- and the one that was changed is what it was made
  used_there : (slots : List (Option Row)) → slice_index_or new block OtherBlock ≡ UsedBlock slots → spot ≡ UsedBlock slots
  used_there slots is = let before = used_before block slots is in sym (get_or-set_same old block spot OtherBlock before.1) ∙ before.0

-- ---- the rows of a Used block

module _ {S : Type 0} {g : Ghosts S} (shape : Shape) (s : S) (def : TableDef) (owners : List Kind) (forests : TableForests) (st : StandsTable g shape s def owners forests) where
  -- they fit
  pub row_fits : (block : ℕ) (slots : List (Option Row)) (row : Row) → slice_index_or (spots_of g shape s def owners forests) block OtherBlock ≡ UsedBlock slots → Contains slots (Some row) → RowFits def row
  row_fits block slots row is there =
      let spot = used_of_spot shape (pages_of g s) def owners forests.map st.map block slots is in
      let at : IsPlaced block row (rows_in_block shape (pages_of g s) def block) =
      placed_in_slot block 0 (block_slots shape (pages_of g s) def block) row (subst (λ (all : List (Option Row)). Contains all (Some row)) spot.1 there) in
      let sound = each_of (AreBlockRowsSound shape (pages_of g s) def) (used_blocks forests.map) block st.rows spot.0 in
      subst (RowFits def) at.row_is (each_of (λ (placed : PlacedRow). RowFits def placed.row) (rows_in_block shape (pages_of g s) def block) at.placed sound.rows at.there)

  -- and are of one cell
  same_cell : (block : ℕ) (slots : List (Option Row)) (a b : Row) → slice_index_or (spots_of g shape s def owners forests) block OtherBlock ≡ UsedBlock slots → Contains slots (Some a) → Contains slots (Some b)
      → AreOfOneCell def a.values b.values
  same_cell block slots a b is a_there b_there =
      let spot = used_of_spot shape (pages_of g s) def owners forests.map st.map block slots is in
      let at_a : IsPlaced block a (rows_in_block shape (pages_of g s) def block) =
      placed_in_slot block 0 (block_slots shape (pages_of g s) def block) a (subst (λ (all : List (Option Row)). Contains all (Some a)) spot.1 a_there) in
      let at_b : IsPlaced block b (rows_in_block shape (pages_of g s) def block) =
      placed_in_slot block 0 (block_slots shape (pages_of g s) def block) b (subst (λ (all : List (Option Row)). Contains all (Some b)) spot.1 b_there) in
      let pairs = each_of (IsOfOneCell shape (pages_of g s) def) (used_blocks forests.map) block st.cells spot.0 in
      let one : AreOfOneCell def at_a.placed.row.values at_b.placed.row.values =
      any_two (λ (x y : PlacedRow). AreOfOneCell def x.row.values y.row.values) (rows_in_block shape (pages_of g s) def block) at_a.placed at_b.placed (λ x. refl) (λ x y e. sym e) pairs at_a.there at_b.there in
      subst (λ (x : Row). AreOfOneCell def x.values b.values) at_a.row_is (subst (λ (y : Row). AreOfOneCell def at_a.placed.row.values y.values) at_b.row_is one)

-- ---- the notes

-- a note that says no more than another leads to no higher block
no_higher : (now note : RoomNote) → SaysNoMore now note → now.from ≤ note.from
no_higher now note (inl same) = omega (arith, ap (λ (n : RoomNote). n.from) same)
no_higher now note (inr none) = omega (arith, ap (λ (n : RoomNote). n.from) none)

-- and is the same where it is known to be of the cell
same_where_known : (now note : RoomNote) → SaysNoMore now note → IsTrue now.is_of_cell → now ≡ note
same_where_known now note (inl same) known = same
same_where_known now note (inr none) known = let wrong : IsTrue false = subst (λ (n : RoomNote). IsTrue n.is_of_cell) none known in absurd (cc)

-- a note that was lowered leads to no higher block, and to none above this one
lowered_below : (block : ℕ) (note : RoomNote) → ((lowered_to block note).from ≤ note.from) × ((lowered_to block note).from ≤ block)
lowered_below block note = go (nat_le block note.from) refl
  where
    go : (test : Bool) → nat_le block note.from ≡ test → ((cond test (record { from = block; is_of_cell = false }) note).from ≤ note.from) × ((cond test (record { from = block; is_of_cell = false }) note).from ≤ block)
    go true is = (grind (arith, nat_tests, is), omega arith)
    go false is = (omega arith, grind (arith, nat_tests, is))

-- and is what it was, below this one, where it is known to be of the cell
lowered_known : (block : ℕ) (note : RoomNote) → IsTrue (lowered_to block note).is_of_cell → (lowered_to block note ≡ note) × (note.from < block)
lowered_known block note known = go (nat_le block note.from) refl known
  where
    go : (test : Bool) → nat_le block note.from ≡ test → IsTrue (cond test (record { from = block; is_of_cell = false }) note).is_of_cell
        → (cond test (record { from = block; is_of_cell = false }) note ≡ note) × (note.from < block)
    go true is so = let wrong : false ≡ true = so in absurd (cc)
    go false is so = (refl, grind (arith, nat_tests, is))

-- where nothing is noted, the notes are right
pub rooms_forgotten : (def : TableDef) (now : Entry → RoomNote) (spots : List Spot) → ((key : Entry) → now key ≡ no_note) → AreRightRooms def now spots
rooms_forgotten def now spots none = record {
  full = λ block row slots is there low empty. omega (arith, low, ap (λ (n : RoomNote). n.from) (none (cell_key_of def row.values)));
  of_cell = λ key known. let wrong : IsTrue false = subst (λ (n : RoomNote). IsTrue n.is_of_cell) (none key) known in absurd (cc);
}

-- no block below the note of a row's cell has room for it
pub none_below : (def : TableDef) (from : Entry → RoomNote) (spots : List Spot) (row : Row) (block : ℕ) → AreRightRooms def from spots → block < (from (cell_key_of def row.values)).from
    → HasRoomFor def row (slice_index_or spots block OtherBlock) → ⊥
none_below def from spots row block right low room =
    let r = room_used def row (slice_index_or spots block OtherBlock) room in
    let other = r.2.0.0 in
    let same = cell_key_of-same def other.values row.values r.2.0.2 in
    right.full block other r.0 r.1 r.2.0.1 (subst (λ (key : Entry). block < (from key).from) (sym same) low) r.2.1

module _ {S : Type 0} {g : Ghosts S} (shape : Shape) (old new : S) (def : TableDef) (owners owners_now : List Kind) (forests forests_now : TableForests)
    (st : StandsTable g shape old def owners forests) (now_st : StandsTable g shape new def owners_now forests_now) (from : Entry → RoomNote) (right : AreRightRooms def from (spots_of g shape old def owners forests)) where
  -- a row was put into a block of its cell, below which none has room
  pub rooms_noted : (now : Entry → RoomNote) (row : Row) (block : ℕ) (slots : List (Option Row)) → IsTableDef def.number def → RowFits def row
      → AllZip AfterClaims (slice_set (spots_of g shape old def owners forests) block (UsedBlock slots)) (spots_of g shape new def owners_now forests_now) → Contains slots (Some row)
      → ((b : ℕ) → b < block → HasRoomFor def row (slice_index_or (spots_of g shape old def owners forests) b OtherBlock) → ⊥)
      → ((key : Entry) → HoldsKey def key (slice_index_or (spots_of g shape old def owners forests) block OtherBlock) → HoldsKey def key (UsedBlock slots))
      → block < length (spots_of g shape old def owners forests)
      → SaysNoMore (now (cell_key_of def row.values)) (found_at block) → ((other : Entry) → other ≢ cell_key_of def row.values → SaysNoMore (now other) (from other))
      → AreRightRooms def now (spots_of g shape new def owners_now forests_now)
  rooms_noted now row block slots defined fits turned has none holds within says others = record { full = full; of_cell = of_cell }
    where
      noted : (now (cell_key_of def row.values)).from ≤ block
      noted = no_higher (now (cell_key_of def row.values)) (found_at block) says

      still : (key : Entry) (b : ℕ) → HoldsKey def key (slice_index_or (spots_of g shape old def owners forests) b OtherBlock) → HoldsKey def key (slice_index_or (spots_of g shape new def owners_now forests_now) b OtherBlock)
      still key b was = elim (cases_eq b block) [
        | inl same ↦
            let there = holds key (subst (λ (n : ℕ). HoldsKey def key (slice_index_or (spots_of g shape old def owners forests) n OtherBlock)) same was) in
            subst (λ (n : ℕ). HoldsKey def key (slice_index_or (spots_of g shape new def owners_now forests_now) n OtherBlock)) (sym same)
            (holds_there AfterClaims claims_keep (spots_of g shape old def owners forests) (spots_of g shape new def owners_now forests_now) block (UsedBlock slots) turned def key within there)
        | inr other ↦ holds_elsewhere AfterClaims claims_keep (spots_of g shape old def owners forests) (spots_of g shape new def owners_now forests_now) block (UsedBlock slots) turned def key b other was
      ]

      of_cell : (key : Entry) → IsTrue (now key).is_of_cell → HoldsKey def key (slice_index_or (spots_of g shape new def owners_now forests_now) (now key).from OtherBlock)
      of_cell key known = elim (key_cases key (cell_key_of def row.values)) [
        | inl same ↦
            let at : now (cell_key_of def row.values) ≡ found_at block = same_where_known (now (cell_key_of def row.values)) (found_at block) says (subst (λ (k : Entry). IsTrue (now k).is_of_cell) same known) in
            let from_is : (now key).from ≡ block = ap (λ (k : Entry). (now k).from) same ∙ ap (λ (n : RoomNote). n.from) at in
            subst (λ (n : ℕ). HoldsKey def key (slice_index_or (spots_of g shape new def owners_now forests_now) n OtherBlock)) (sym from_is)
            (holds_there AfterClaims claims_keep (spots_of g shape old def owners forests) (spots_of g shape new def owners_now forests_now) block (UsedBlock slots) turned def key within (row, has, sym same))
        | inr differ ↦
            let at : now key ≡ from key = same_where_known (now key) (from key) (others key differ) known in
            let was = right.of_cell key (subst (λ (n : RoomNote). IsTrue n.is_of_cell) at known) in
            subst (λ (n : RoomNote). HoldsKey def key (slice_index_or (spots_of g shape new def owners_now forests_now) n.from OtherBlock)) (sym at) (still key (from key).from was)
      ]

      full : (b : ℕ) (r : Row) (all : List (Option Row)) → slice_index_or (spots_of g shape new def owners_now forests_now) b OtherBlock ≡ UsedBlock all → Contains all (Some r)
          → b < (now (cell_key_of def r.values)).from → Contains all None → ⊥
      full b r all is there low empty = elim (cases_eq b block) [
        | inl same ↦
            let here : slice_index_or (spots_of g shape new def owners_now forests_now) block OtherBlock ≡ UsedBlock all =
            subst (λ (n : ℕ). slice_index_or (spots_of g shape new def owners_now forests_now) n OtherBlock ≡ UsedBlock all) same is in
            let e = used_there AfterClaims claims_keep (spots_of g shape old def owners forests) (spots_of g shape new def owners_now forests_now) block (UsedBlock slots) turned all here in
            let slots_are : slots ≡ all = cc (e) in
            let one = same_cell shape new def owners_now forests_now now_st block all r row here there (subst (λ (xs : List (Option Row)). Contains xs (Some row)) slots_are has) in
            let below : b < (now (cell_key_of def row.values)).from = subst (λ (key : Entry). b < (now key).from) (cell_key_of-same def r.values row.values one) low in
            omega (arith, same, below, noted)
        | inr other ↦
            let was = used_elsewhere AfterClaims claims_keep (spots_of g shape old def owners forests) (spots_of g shape new def owners_now forests_now) block (UsedBlock slots) turned b all other is in
            elim (key_cases (cell_key_of def r.values) (cell_key_of def row.values)) [
              | inl key ↦
                  let below : b < (now (cell_key_of def row.values)).from = subst (λ (k : Entry). b < (now k).from) key low in
                  let fit = row_fits shape old def owners forests st b all r was there in
                  let one = one_cell def r.values row.values (has_block_indexes def.number def defined).composite.key fit.values fits.values key in
                  none b (omega (arith, below, noted)) (subst (HasRoomFor def row) (sym was) ((r, there, one), empty))
              | inr differ ↦ right.full b r all was there (omega (arith, low, no_higher (now (cell_key_of def r.values)) (from (cell_key_of def r.values)) (others (cell_key_of def r.values) differ))) empty
            ]
      ]

  -- a row was taken out
  pub rooms_lowered : (now : Entry → RoomNote) (rid : Rid) (row : Row) (slots : List (Option Row)) → IsRowAt (spots_of g shape old def owners forests) rid row slots
      → AllZip AfterReturns (slice_set (spots_of g shape old def owners forests) rid.block (left_with (slice_set slots rid.slot None))) (spots_of g shape new def owners_now forests_now)
      → LowersNoteOf def row rid.block from now → AreRightRooms def now (spots_of g shape new def owners_now forests_now)
  rooms_lowered now rid row slots lies turned lowers = record { full = full; of_cell = of_cell }
    where
      says : SaysNoMore (now (cell_key_of def row.values)) (lowered_to rid.block (from (cell_key_of def row.values)))
      says = lowers.cell

      others : (other : Entry) → other ≢ cell_key_of def row.values → SaysNoMore (now other) (from other)
      others = lowers.others

      cell : Entry
      cell = cell_key_of def row.values

      lowered : (now cell).from ≤ rid.block
      lowered = omega (arith, no_higher (now cell) (lowered_to rid.block (from cell)) says, (lowered_below rid.block (from cell)).1)

      kept : (key : Entry) → (now key).from ≤ (from key).from
      kept key = elim (key_cases key cell) [
        | inl same ↦
            let at : (now cell).from ≤ (from cell).from = omega (arith, no_higher (now cell) (lowered_to rid.block (from cell)) says, (lowered_below rid.block (from cell)).0) in
            subst (λ (k : Entry). (now k).from ≤ (from k).from) (sym same) at
        | inr differ ↦ no_higher (now key) (from key) (others key differ)
      ]

      -- a note that is known is the one that was, and names another block
      known_as : (key : Entry) → IsTrue (now key).is_of_cell → (now key ≡ from key) × ((from key).from ≢ rid.block)
      known_as key known = elim (key_cases key cell) [
        | inl same ↦
            let at : now cell ≡ lowered_to rid.block (from cell) = same_where_known (now cell) (lowered_to rid.block (from cell)) says (subst (λ (k : Entry). IsTrue (now k).is_of_cell) same known) in
            let low = lowered_known rid.block (from cell) (subst (λ (n : RoomNote). IsTrue n.is_of_cell) (ap now same ∙ at) known) in (
              ap now same ∙ at ∙ low.0 ∙ ap from (sym same),
              λ e. omega (arith, low.1, e, ap (λ (k : Entry). (from k).from) same),
            )
        | inr differ ↦
            let at : now key ≡ from key = same_where_known (now key) (from key) (others key differ) known in (
              at,
              λ e.
                  let was = right.of_cell key (subst (λ (n : RoomNote). IsTrue n.is_of_cell) at known) in
                  let there : HoldsKey def key (slice_index_or (spots_of g shape old def owners forests) rid.block OtherBlock) =
                  subst (λ (n : ℕ). HoldsKey def key (slice_index_or (spots_of g shape old def owners forests) n OtherBlock)) e was in
                  let holds : HoldsKey def key (UsedBlock slots) = subst (HoldsKey def key) (lies.block OtherBlock) there in
                  let one = same_cell shape old def owners forests st rid.block slots holds.0 row (lies.block OtherBlock) holds.1 (in_slot slots rid.slot row lies.slot) in
                  differ (sym holds.2 ∙ cell_key_of-same def holds.0.values row.values one),
            )
      ]

      of_cell : (key : Entry) → IsTrue (now key).is_of_cell → HoldsKey def key (slice_index_or (spots_of g shape new def owners_now forests_now) (now key).from OtherBlock)
      of_cell key known =
          let same = known_as key known in
          let was = right.of_cell key (subst (λ (n : RoomNote). IsTrue n.is_of_cell) same.0 known) in
          subst (λ (n : RoomNote). HoldsKey def key (slice_index_or (spots_of g shape new def owners_now forests_now) n.from OtherBlock)) (sym same.0)
          (holds_elsewhere AfterReturns returns_keep (spots_of g shape old def owners forests) (spots_of g shape new def owners_now forests_now) rid.block (left_with (slice_set slots rid.slot None)) turned def key (from key).from same.1 was)

      left : Spot
      left = left_with (slice_set slots rid.slot None)

      full : (b : ℕ) (r : Row) (all : List (Option Row)) → slice_index_or (spots_of g shape new def owners_now forests_now) b OtherBlock ≡ UsedBlock all → Contains all (Some r)
          → b < (now (cell_key_of def r.values)).from → Contains all None → ⊥
      full b r all is there low empty = elim (cases_eq b rid.block) [
        | inl same ↦
            let here : slice_index_or (spots_of g shape new def owners_now forests_now) rid.block OtherBlock ≡ UsedBlock all =
            subst (λ (n : ℕ). slice_index_or (spots_of g shape new def owners_now forests_now) n OtherBlock ≡ UsedBlock all) same is in
            let e = used_there AfterReturns returns_keep (spots_of g shape old def owners forests) (spots_of g shape new def owners_now forests_now) rid.block (left_with (slice_set slots rid.slot None)) turned all here in
            let slots_are = slots_left (slice_set slots rid.slot None) all e in
            let in_now : Contains (slice_set slots rid.slot None) (Some r) = subst (λ (xs : List (Option Row)). Contains xs (Some r)) (sym slots_are) there in
            let in_old : Contains slots (Some r) = elim (of_set slots rid.slot None (Some r) in_now) [ inl wrong ↦ absurd (cc (wrong)) | inr c ↦ c ] in
            let one = same_cell shape old def owners forests st rid.block slots r row (lies.block OtherBlock) in_old (in_slot slots rid.slot row lies.slot) in
            let below : b < (now (cell_key_of def row.values)).from = subst (λ (key : Entry). b < (now key).from) (cell_key_of-same def r.values row.values one) low in
            omega (arith, same, below, lowered)
        | inr other ↦
            let was = used_elsewhere AfterReturns returns_keep (spots_of g shape old def owners forests) (spots_of g shape new def owners_now forests_now) rid.block (left_with (slice_set slots rid.slot None)) turned b all other is in
            right.full b r all was there (omega (arith, low, kept (cell_key_of def r.values))) empty
      ]

  -- the rows of a block changed within their cell, and it has room only if it had: the notes are right as they were
  rooms_kept : (After : Spot → Spot → Type 0) → KeepsUsed After → (block : ℕ) (slots left : List (Option Row)) → slice_index_or (spots_of g shape old def owners forests) block OtherBlock ≡ UsedBlock slots
      → AllZip After (slice_set (spots_of g shape old def owners forests) block (UsedBlock left)) (spots_of g shape new def owners_now forests_now)
      → (row other : Row) → Contains slots (Some row) → Contains left (Some other) → AreOfOneCell def row.values other.values → (Contains left None → Contains slots None)
      → AreRightRooms def from (spots_of g shape new def owners_now forests_now)
  rooms_kept After keeps block slots left was turned row other row_there other_there one less = record { full = full; of_cell = of_cell }
    where
      of_cell : (key : Entry) → IsTrue (from key).is_of_cell → HoldsKey def key (slice_index_or (spots_of g shape new def owners_now forests_now) (from key).from OtherBlock)
      of_cell key known = elim (cases_eq (from key).from block) [
        | inl same ↦
            let there : HoldsKey def key (slice_index_or (spots_of g shape old def owners forests) block OtherBlock) =
            subst (λ (n : ℕ). HoldsKey def key (slice_index_or (spots_of g shape old def owners forests) n OtherBlock)) same (right.of_cell key known) in
            let holds : HoldsKey def key (UsedBlock slots) = subst (HoldsKey def key) was there in
            let both = same_cell shape old def owners forests st block slots row holds.0 was row_there holds.1 in
            let key_is : cell_key_of def other.values ≡ key = sym (cell_key_of-same def row.values other.values one) ∙ cell_key_of-same def row.values holds.0.values both ∙ holds.2 in
            subst (λ (n : ℕ). HoldsKey def key (slice_index_or (spots_of g shape new def owners_now forests_now) n OtherBlock)) (sym same)
            (holds_there After keeps (spots_of g shape old def owners forests) (spots_of g shape new def owners_now forests_now) block (UsedBlock left) turned def key
            (used_below (spots_of g shape old def owners forests) block slots was) (other, other_there, key_is))
        | inr differ ↦
            holds_elsewhere After keeps (spots_of g shape old def owners forests) (spots_of g shape new def owners_now forests_now) block (UsedBlock left) turned def key (from key).from
            differ (right.of_cell key known)
      ]

      full : (b : ℕ) (r : Row) (all : List (Option Row)) → slice_index_or (spots_of g shape new def owners_now forests_now) b OtherBlock ≡ UsedBlock all → Contains all (Some r)
          → b < (from (cell_key_of def r.values)).from → Contains all None → ⊥
      full b r all is there low empty = elim (cases_eq b block) [
        | inl same ↦
            let here : slice_index_or (spots_of g shape new def owners_now forests_now) block OtherBlock ≡ UsedBlock all =
            subst (λ (n : ℕ). slice_index_or (spots_of g shape new def owners_now forests_now) n OtherBlock ≡ UsedBlock all) same is in
            let e = used_there After keeps (spots_of g shape old def owners forests) (spots_of g shape new def owners_now forests_now) block (UsedBlock left) turned all here in
            let slots_are : left ≡ all = cc (e) in
            let both = same_cell shape new def owners_now forests_now now_st block all r other here there (subst (λ (xs : List (Option Row)). Contains xs (Some other)) slots_are other_there) in
            let key = cell_key_of-same def r.values row.values (both ∙ sym one) in
            let below : block < (from (cell_key_of def row.values)).from = subst (λ (n : ℕ). n < (from (cell_key_of def row.values)).from) same (subst (λ (k : Entry). b < (from k).from) key low) in
            right.full block row slots was row_there below (less (subst (λ (xs : List (Option Row)). Contains xs None) (sym slots_are) empty))
        | inr differ ↦
            let before_it = used_elsewhere After keeps (spots_of g shape old def owners forests) (spots_of g shape new def owners_now forests_now) block (UsedBlock left) turned b all differ is in
            right.full b r all before_it there low empty
      ]

  -- a row was taken out of a block that had room before, and others are left in it
  pub rooms_left : (rid : Rid) (row : Row) (slots : List (Option Row)) → IsRowAt (spots_of g shape old def owners forests) rid row slots
      → AllZip AfterReturns (slice_set (spots_of g shape old def owners forests) rid.block (left_with (slice_set slots rid.slot None))) (spots_of g shape new def owners_now forests_now)
      → Contains slots None → 0 < count_rows (slice_set slots rid.slot None) → AreRightRooms def from (spots_of g shape new def owners_now forests_now)
  rooms_left rid row slots lies turned empty others =
      let left = slice_set slots rid.slot None in
      let other = some_row left others in
      let was_there : Contains slots (Some other.0) = elim (of_set slots rid.slot None (Some other.0) other.1) [ inl wrong ↦ absurd (cc (wrong)) | inr c ↦ c ] in
      rooms_kept AfterReturns returns_keep rid.block slots left (lies.block OtherBlock)
      (subst (λ (spot : Spot). AllZip AfterReturns (slice_set (spots_of g shape old def owners forests) rid.block spot) (spots_of g shape new def owners_now forests_now)) (left_used left others) turned)
      other.0 other.0 was_there other.1 refl (λ still. empty)

  -- a row became another of its cell
  pub rooms_overwritten : (rid : Rid) (row now : Row) (slots : List (Option Row)) → IsRowAt (spots_of g shape old def owners forests) rid row slots → AreOfOneCell def row.values now.values
      → AllZip SameSpot (slice_set (spots_of g shape old def owners forests) rid.block (UsedBlock (slice_set slots rid.slot (Some now)))) (spots_of g shape new def owners_now forests_now)
      → AreRightRooms def from (spots_of g shape new def owners_now forests_now)
  rooms_overwritten rid row now slots lies one turned =
      rooms_kept SameSpot same_keeps rid.block slots (slice_set slots rid.slot (Some now)) (lies.block OtherBlock) turned
      row now (in_slot slots rid.slot row lies.slot) (in_set slots rid.slot (Some now) (filled_below slots rid.slot row lies.slot)) one
      (λ still. elim (of_set slots rid.slot (Some now) None still) [ inl wrong ↦ absurd (cc (wrong)) | inr c ↦ c ])
