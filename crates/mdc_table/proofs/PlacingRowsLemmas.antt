-- A row that was put into a block of its cell, or into one that came into use, as a call on a table says it.
use Rattle.std.proofs.Common.{◌≡◌, ◌≢◌, ◌<◌, ◌≤◌, ℕ, List, [], ◌∷◌, length, replicate, refl, ap, arith, sym, ◌∙◌, subst, inl, inr}
use Rattle.std.specs.Prelude.{Bool, true, false, Contains, IsTrue, Option, Some, None, slice_index_or, slice_set}
use Rattle.std.specs.List.{AllZip}
use Rattle.std.proofs.lemmas.Bool.{cases_lt}
use Rattle.std.proofs.lemmas.List.{get_or_default, length-replicate}
use Rattle.mdc_words.specs.ByteOrder.{Entry}
use Rattle.mdc_values.specs.declared.rid.Rid.{Rid}
use Rattle.mdc_ast.specs.declared.definition.TableDef.{TableDef}
use Rattle.mdc_ast.specs.declared.row.Row.{Row}
use Rattle.store_api.specs.declared.pages.Pages.{Ghosts}
use Rattle.store_api.specs.declared.shape.Shape.{Shape}
use Rattle.extent_map.specs.Owners.{HasNoFree}
use Rattle.extent_map.specs.declared.kind.Kind.{Kind}
use Rattle.extent_map.specs.declared.space_notes.SpaceNotes.{SpaceNotes}
use Rattle.mdc_ast.specs.TableLimits.{IsTableDef}
use Rattle.block_map.specs.BlockMaps.{HasRow}
use Rattle.block_map.specs.MapLines.{free_blocks}
use Rattle.block_map.specs.declared.row.BlockRow.{BlockRow}
use Rattle.block_map.specs.declared.state.BlockState.{BlockState}
use Rattle.block_map.specs.declared.state.BlockState.TheVariants as state
use Rattle.table_trees.specs.ToldPages.{PageList}
use Rattle.entry_tree.specs.Forest.{Forest}
use Rattle.mdc_ast.specs.FittingRows.{RowFits}
use Rattle.mdc_sound.specs.Placing.{AfterClaims, HasRoomFor, HoldsNowhere, IsFreeBlock, IsFreeExtent, IsLowestAt, PutsRow, Spot, begun_with, block_slot_count, table_spots}
use Rattle.mdc_sound.specs.Placing.Spot.{FreeBlock, FreeExtent, IndexExtent, OtherBlock, PendingBlock, UsedBlock}
use Rattle.mdc_sound.specs.RunningFull.{HasNoSpot}
use Rattle.mdc_sound.specs.StandingTable.{AreRightRooms, HoldsKey, IsReadyTable, PlacesRow, RoomNote, StandsTable, TableForests, pages_of, spots_of}
use Rattle.mdc_sound.proofs.ChangedRowsLemmas.{some_slots}
use Rattle.mdc_sound.proofs.TableSpotsLemmas.{free_block_of_spot, free_block_spot, free_of_spot, free_spot, length-spots}
use Rattle.table_blocks.specs.BlockChanges.{SameSpot}
use Rattle.table_blocks.specs.BlockSteps.{FillsSlot, HasRoomAt}
pub use Rattle.table_blocks.proofs.AlongLemmas.{changes_along}
use Rattle.table_blocks.proofs.AlongLemmas.{turns_along}
use Rattle.table_blocks.proofs.SpotChangesLemmas.{claims_change}
use Rattle.free_space.specs.FoundRoom.{FindsRoom, IsFirstRoom, cell_key_of}
use Rattle.free_space.specs.RoomNotes.{SaysNoMore, found_at}
use Rattle.mdc_table.specs.NextBlock.{BeginsNext, IsNextBlock}
use Rattle.mdc_table.proofs.KeptRoomsLemmas.{in_set, none_below, rooms_noted, stays_in_set, used_below}
use Rattle.mdc_table.proofs.StandingBlocksLemmas.{free_within}

-- ---- spots

-- the same spots, where trees may have taken extents
pub claims_none : (xs ys : List Spot) → AllZip SameSpot xs ys → AllZip AfterClaims xs ys
claims_none [] [] all = tt
claims_none [] (y ∷ ys) all = absurd all
claims_none (x ∷ xs) [] all = absurd all
claims_none (x ∷ xs) (y ∷ ys) all = (subst (AfterClaims x) all.0 (claims_change.stays x), claims_none xs ys all.1)

free_block_is : (spot : Spot) → IsFreeBlock spot → spot ≡ FreeBlock
free_block_is FreeBlock is = refl
free_block_is FreeExtent is = absurd is
free_block_is IndexExtent is = absurd is
free_block_is OtherBlock is = absurd is
free_block_is PendingBlock is = absurd is
free_block_is (UsedBlock slots) is = absurd is

free_extent_is : (spot : Spot) → IsFreeExtent spot → spot ≡ FreeExtent
free_extent_is FreeExtent is = refl
free_extent_is IndexExtent is = absurd is
free_extent_is OtherBlock is = absurd is
free_extent_is FreeBlock is = absurd is
free_extent_is PendingBlock is = absurd is
free_extent_is (UsedBlock slots) is = absurd is

-- what is so of no spot by its number is so nowhere
nowhere : (P : Spot → Type 0) (spots : List Spot) → ((k : ℕ) → P (slice_index_or spots k OtherBlock) → ⊥) → HoldsNowhere P spots
nowhere P spots none k d low holds = none k (subst P (get_or_default spots k d OtherBlock low) holds)

-- the lowest
lowest_at : (P : Spot → Type 0) (spots : List Spot) (block : ℕ) (spot : Spot) → block < length spots → slice_index_or spots block OtherBlock ≡ spot → P spot
    → ((k : ℕ) → k < block → P (slice_index_or spots k OtherBlock) → ⊥) → IsLowestAt P spots block spot
lowest_at P spots block spot low is holds none = record {
  within = low;
  is_it = λ d. get_or_default spots block d OtherBlock low ∙ is;
  holds = holds;
  lowest = λ k d less so. none k less (subst P (get_or_default spots k d OtherBlock (omega (arith, less, low))) so);
}

length-empty : (n : ℕ) (slot : Option Row) → length (replicate n slot) ≡ n
length-empty n slot = length-replicate n slot

-- a block that holds a row of a cell holds it once a row more is put into an empty slot
holds_filled : (def : TableDef) (key : Entry) (slots : List (Option Row)) (slot : ℕ) (row : Row) → slice_index_or slots slot None ≡ None → HoldsKey def key (UsedBlock slots)
    → HoldsKey def key (UsedBlock (slice_set slots slot (Some row)))
holds_filled def key slots slot row empty (other, there, is) = (other, stays_in_set slots slot (Some row) (Some other) None empty (λ e. absurd (cc (e))) there, is)

-- a note that is known to be of the cell, by its block
known_is : (note : RoomNote) → IsTrue note.is_of_cell → note ≡ found_at note.from
known_is note known = go note.from note.is_of_cell known
  where
    go : (block : ℕ) (test : Bool) → IsTrue test → record { from = block; is_of_cell = test } ≡ found_at block
    go block true so = refl
    go block false so = let wrong : false ≡ true = so in absurd (cc)

-- ---- what was found

-- below the block that was found none has room
none_before : (def : TableDef) (from : ℕ) (spots : List Spot) (row : Row) (block : ℕ) → ((b : ℕ) → b < from → HasRoomFor def row (slice_index_or spots b OtherBlock) → ⊥)
    → ((b : ℕ) → from ≤ b → b < block → HasRoomFor def row (slice_index_or spots b OtherBlock) → ⊥) → (b : ℕ) → b < block → HasRoomFor def row (slice_index_or spots b OtherBlock) → ⊥
none_before def from spots row block below lowest b low room = elim (cases_lt b from) [
  | inl less ↦ below b less room
  | inr high ↦ lowest b high low room
]

-- what putting a row there expects
pub room_at : {S : Type 0} {g : Ghosts S} (shape : Shape) (old mid : S) (def : TableDef) (owners : List Kind) (forests : TableForests) (row : Row) (from : ℕ) (found : BlockRow) → (g.state mid).work ≡ (g.state old).work
    → IsFirstRoom def (spots_of g shape old def owners forests) forests.map row from found → HasRoomAt g shape mid def (record { block = found.block; state = state.Used; rows = found.rows }) row owners forests
room_at shape old mid def owners forests row from found same first = record {
  line_there = subst (λ (s : BlockState). HasRow (record { block = found.block; state = s; rows = found.rows }) forests.map) first.used first.mapped;
  room = subst (λ (pages : PageList). HasRoomFor def row (slice_index_or (table_spots shape pages def owners forests.map) found.block OtherBlock)) (sym same) first.room;
}

module _ {S : Type 0} {g : Ghosts S} (shape : Shape) (noted : SpaceNotes) (old mid new : S) (def : TableDef) (owners : List Kind) (forests : TableForests) (row : Row) (from now : Entry → RoomNote)
    (defined : IsTableDef def.number def) (fits : RowFits def row) (told : (g.state mid).is_told ≡ (g.state old).is_told) (same : (g.state mid).work ≡ (g.state old).work)
    (ready : IsReadyTable g shape noted from old def owners forests) where
  -- the row went into a Used block of its cell that has room, and below which none has
  placed_in_block : (block : ℕ) (rid : Rid) → rid.block ≡ block → HasRoomFor def row (slice_index_or (spots_of g shape old def owners forests) block OtherBlock)
      → ((b : ℕ) → b < block → HasRoomFor def row (slice_index_or (spots_of g shape old def owners forests) b OtherBlock) → ⊥) → FillsSlot g shape noted mid new def rid row owners forests
      → SaysNoMore (now (cell_key_of def row.values)) (found_at block) → ((other : Entry) → other ≢ cell_key_of def row.values → SaysNoMore (now other) (from other))
      → PlacesRow g shape noted noted now old new def owners forests row rid
  placed_in_block block rid at room lowest fills says others =
      let spots = spots_of g shape old def owners forests in
      let was : slice_index_or spots rid.block OtherBlock ≡ UsedBlock fills.slots =
      subst (λ (pages : PageList). slice_index_or (table_spots shape pages def owners forests.map) rid.block OtherBlock ≡ UsedBlock fills.slots) same fills.was in
      let slots = slice_set fills.slots rid.slot (Some row) in
      let turns = turns_along shape noted noted old mid new def owners forests told same SameSpot rid.block (UsedBlock slots) owners fills.forests_now fills.turns in
      let claims = claims_none (slice_set spots rid.block (UsedBlock slots)) (spots_of g shape new def owners fills.forests_now) turns.spots in
      let none : (b : ℕ) → b < rid.block → HasRoomFor def row (slice_index_or spots b OtherBlock) → ⊥ = λ b low. lowest b (omega (arith, low, at)) in
      let here : HasRoomFor def row (slice_index_or spots rid.block OtherBlock) = subst (λ (n : ℕ). HasRoomFor def row (slice_index_or spots n OtherBlock)) (sym at) room in
      let within = used_below spots rid.block fills.slots was in
      record {
        owners_now = owners;
        forests_now = fills.forests_now;
        changes = turns.changes;
        records = turns.records;
        rooms =
            rooms_noted shape old new def owners owners forests fills.forests_now ready.stands turns.changes.stands from ready.rooms now row rid.block slots defined fits claims
            (in_set fills.slots rid.slot (Some row) fills.lowest.within) none (λ key holds. holds_filled def key fills.slots rid.slot row (fills.lowest.is_it None) (subst (HoldsKey def key) was holds)) within
            (subst (λ (n : ℕ). SaysNoMore (now (cell_key_of def row.values)) (found_at n)) (sym at) says) others;
        mid = slice_set spots rid.block (UsedBlock slots);
        puts = PutsRow.in_cell rid.block rid.slot fills.slots (lowest_at (HasRoomFor def row) spots rid.block (UsedBlock fills.slots) within was (subst (HasRoomFor def row) was here) none) fills.lowest refl;
        claims = claims;
      }

  -- it is the block that was found
  pub placed_in_cell : (found : BlockRow) (rid : Rid) (key : Entry) → key ≡ cell_key_of def row.values → IsFirstRoom def (spots_of g shape old def owners forests) forests.map row (from key).from found
      → rid.block ≡ found.block → FillsSlot g shape noted mid new def rid row owners forests → SaysNoMore (now key) (found_at found.block) → ((other : Entry) → other ≢ key → SaysNoMore (now other) (from other))
      → PlacesRow g shape noted noted now old new def owners forests row rid
  placed_in_cell found rid key is first at fills says others =
      let spots = spots_of g shape old def owners forests in
      let none : (b : ℕ) → b < found.block → HasRoomFor def row (slice_index_or spots b OtherBlock) → ⊥ =
      none_before def (from key).from spots row found.block (λ n less. none_below def from spots row n ready.rooms (subst (λ (k : Entry). n < (from k).from) is less)) first.lowest in
      placed_in_block found.block rid at first.room none fills (subst (λ (k : Entry). SaysNoMore (now k) (found_at found.block)) is says) (λ other differ. others other (λ e. differ (e ∙ is)))

-- the noted block, where it is known to be of the row's cell
module _ {S : Type 0} {g : Ghosts S} (shape : Shape) (notes : SpaceNotes) (old : S) (def : TableDef) (owners : List Kind) (forests : TableForests) (row : Row) (from : Entry → RoomNote)
    (defined : IsTableDef def.number def) (fits : RowFits def row) (ready : IsReadyTable g shape notes from old def owners forests) (key : Entry) (is : key ≡ cell_key_of def row.values)
    (note : RoomNote) (noted : note ≡ from key) (known : IsTrue note.is_of_cell) where
  -- the row went into it
  pub placed_where_noted : (new : S) (rid : Rid) → rid.block ≡ note.from → HasRoomFor def row (slice_index_or (spots_of g shape old def owners forests) note.from OtherBlock) → FillsSlot g shape notes old new def rid row owners forests
      → PlacesRow g shape notes notes from old new def owners forests row rid
  placed_where_noted new rid at room fills =
      let here : note ≡ found_at note.from = known_is note known in
      placed_in_block shape notes old old new def owners forests row from from defined fits refl refl ready note.from rid at room
      (λ b low. none_below def from (spots_of g shape old def owners forests) row b ready.rooms (subst (λ (k : Entry). b < (from k).from) is (omega (arith, low, ap (λ (n : RoomNote). n.from) noted))))
      fills (inl (subst (λ (k : Entry). from k ≡ found_at note.from) is (sym noted ∙ here))) (λ other differ. inl refl)

-- nothing found from the note on, and nothing below it
module _ {spots : List Spot} (map_tree : Forest) {def : TableDef} (row : Row) (from : Entry → RoomNote) (key : Entry) (is : key ≡ cell_key_of def row.values) (rooms : AreRightRooms def from spots)
    (found : FindsRoom def spots map_tree row (from key).from None) where
  pub no_room_at : (b : ℕ) → HasRoomFor def row (slice_index_or spots b OtherBlock) → ⊥
  no_room_at b room = elim (cases_lt b (from key).from) [
    | inl less ↦ none_below def from spots row b rooms (subst (λ (k : Entry). b < (from k).from) is less) room
    | inr high ↦ found b high room
  ]

  pub no_room_found : HoldsNowhere (HasRoomFor def row) spots
  no_room_found = nowhere (HasRoomFor def row) spots no_room_at

-- the block that comes into use next
module _ {S : Type 0} {g : Ghosts S} (shape : Shape) (s : S) (def : TableDef) (owners : List Kind) (forests : TableForests) (st : StandsTable g shape s def owners forests) where
  -- it is one of the extents
  next_within : (block : ℕ) → IsNextBlock owners forests.map block → block < length (spots_of g shape s def owners forests)
  next_within block (IsNextBlock.free_block lowest) = omega (arith, free_within shape s def owners forests st block lowest.free, length-spots shape (pages_of g s) def owners forests.map)
  next_within block (IsNextBlock.free_extent none lowest) = omega (arith, lowest.within, st.trees.map.count, length-spots shape (pages_of g s) def owners forests.map)

  -- and has no row
  next_unheld : (block : ℕ) → IsNextBlock owners forests.map block → (key : Entry) → HoldsKey def key (slice_index_or (spots_of g shape s def owners forests) block OtherBlock) → ⊥
  next_unheld block (IsNextBlock.free_block lowest) key holds = subst (HoldsKey def key) (free_block_spot shape (pages_of g s) def owners forests.map block OtherBlock st.map lowest.free) holds
  next_unheld block (IsNextBlock.free_extent none lowest) key holds =
      subst (HoldsKey def key) (free_spot shape (pages_of g s) def owners forests.map block OtherBlock (omega (arith, lowest.within, st.trees.map.count)) lowest.free) holds

-- where no block has room for a row
module _ {S : Type 0} {g : Ghosts S} (shape : Shape) (s : S) (def : TableDef) (owners : List Kind) (forests : TableForests) (st : StandsTable g shape s def owners forests) (row : Row)
    (no_room : HoldsNowhere (HasRoomFor def row) (spots_of g shape s def owners forests)) where
  -- no block is Free where the block map names none
  no_free_block : ((other : ℕ) → Contains (free_blocks forests.map) other → ⊥) → HoldsNowhere IsFreeBlock (spots_of g shape s def owners forests)
  no_free_block none = nowhere IsFreeBlock (spots_of g shape s def owners forests)
      (λ k holds. none k (free_block_of_spot shape (pages_of g s) def owners forests.map st.map k (free_block_is (slice_index_or (spots_of g shape s def owners forests) k OtherBlock) holds)))

  -- it goes into the next block
  pub puts_next : (block : ℕ) → IsNextBlock owners forests.map block
      → PutsRow def (block_slot_count shape def) (spots_of g shape s def owners forests) row (slice_set (spots_of g shape s def owners forests) block (begun_with (block_slot_count shape def) row)) (record { block = block; slot = 0 })
  puts_next block (IsNextBlock.free_block lowest) =
      PutsRow.in_free_block block no_room
      (lowest_at IsFreeBlock (spots_of g shape s def owners forests) block FreeBlock (omega (arith, free_within shape s def owners forests st block lowest.free, length-spots shape (pages_of g s) def owners forests.map))
      (free_block_spot shape (pages_of g s) def owners forests.map block OtherBlock st.map lowest.free) tt
      (λ k less holds.
      let free = free_block_of_spot shape (pages_of g s) def owners forests.map st.map k (free_block_is (slice_index_or (spots_of g shape s def owners forests) k OtherBlock) holds) in
      omega (arith, lowest.lowest k free (omega arith), less)))
      refl
  puts_next block (IsNextBlock.free_extent none lowest) =
      let low : block < shape.extents = omega (arith, lowest.within, st.trees.map.count) in
      PutsRow.in_free_extent block no_room (no_free_block none)
      (lowest_at IsFreeExtent (spots_of g shape s def owners forests) block FreeExtent (omega (arith, low, length-spots shape (pages_of g s) def owners forests.map))
      (free_spot shape (pages_of g s) def owners forests.map block OtherBlock low lowest.free) tt
      (λ k less holds.
      let free = free_of_spot shape (pages_of g s) def owners forests.map st.map k (free_extent_is (slice_index_or (spots_of g shape s def owners forests) k OtherBlock) holds) in
      lowest.lowest k less free.1))
      refl

  -- and where no extent is free either there is no spot for it
  pub no_spot : ((other : ℕ) → Contains (free_blocks forests.map) other → ⊥) → HasNoFree owners → HasNoSpot def (spots_of g shape s def owners forests) row
  no_spot none none_free = (
    no_room,
    no_free_block none,
    nowhere IsFreeExtent (spots_of g shape s def owners forests)
        (λ k holds.
        let free = free_of_spot shape (pages_of g s) def owners forests.map st.map k (free_extent_is (slice_index_or (spots_of g shape s def owners forests) k OtherBlock) holds) in
        none_free k (omega (arith, free.0, st.trees.map.count)) free.1),
  )

module _ {S : Type 0} {g : Ghosts S} (shape : Shape) (before noted : SpaceNotes) (old mid new : S) (def : TableDef) (owners : List Kind) (forests : TableForests) (row : Row) (from now : Entry → RoomNote)
    (defined : IsTableDef def.number def) (fits : RowFits def row) (told : (g.state mid).is_told ≡ (g.state old).is_told) (same : (g.state mid).work ≡ (g.state old).work)
    (ready : IsReadyTable g shape before from old def owners forests) where
  -- the row went into a block that came into use
  pub placed_in_next : (block : ℕ) (key : Entry) → key ≡ cell_key_of def row.values → FindsRoom def (spots_of g shape old def owners forests) forests.map row (from key).from None
      → BeginsNext g shape before noted mid new def block row owners forests → SaysNoMore (now key) (found_at block) → ((other : Entry) → other ≢ key → SaysNoMore (now other) (from other))
      → PlacesRow g shape before noted now old new def owners forests row (record { block = block; slot = 0 })
  placed_in_next block key is found next says others =
      let begins = next.begins in
      let spots = spots_of g shape old def owners forests in
      let no_room : (b : ℕ) → HasRoomFor def row (slice_index_or spots b OtherBlock) → ⊥ = no_room_at forests.map row from key is ready.rooms found in
      let turns = turns_along shape before noted old mid new def owners forests told same AfterClaims block (begun_with (block_slot_count shape def) row) begins.owners_now begins.forests_now begins.turns in
      record {
        owners_now = begins.owners_now;
        forests_now = begins.forests_now;
        changes = turns.changes;
        records = turns.records;
        rooms =
            rooms_noted shape old new def owners begins.owners_now forests begins.forests_now ready.stands turns.changes.stands from ready.rooms now row block
            (slice_set (replicate (block_slot_count shape def) None) 0 (Some row)) defined fits turns.spots
            (in_set (replicate (block_slot_count shape def) None) 0 (Some row) (omega (arith, some_slots shape def.number def defined, length-empty (block_slot_count shape def) None)))
            (λ b low. no_room b) (λ other holds. absurd (next_unheld shape old def owners forests ready.stands block (next.next ready.notes) other holds))
            (next_within shape old def owners forests ready.stands block (next.next ready.notes)) (subst (λ (k : Entry). SaysNoMore (now k) (found_at block)) is says) (λ other differ. others other (λ e. differ (e ∙ is)));
        mid = slice_set spots block (begun_with (block_slot_count shape def) row);
        puts = puts_next shape old def owners forests ready.stands row (nowhere (HasRoomFor def row) (spots_of g shape old def owners forests) no_room) block (next.next ready.notes);
        claims = turns.spots;
      }
