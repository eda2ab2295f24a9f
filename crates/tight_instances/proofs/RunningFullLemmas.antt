-- What runs full in the full file, and what doesn't.
use Rattle.std.proofs.Common.{◌≡◌, ◌<◌, ℕ, zero, suc, List, [], ◌∷◌, refl, arith, sym, subst, inl, inr}
use Rattle.std.specs.Prelude.{IsPermutation, Some, pos, slice_index_or}
use Rattle.std.proofs.lemmas.List.Sorted.{IsPermutation-cons, IsPermutation-middle}
use Rattle.mdc_values.specs.declared.value.Value.TheVariants.{Int, Null}
use Rattle.mdc_ast.specs.Database.{appended, changed_at, numbered, with_place}
use Rattle.mdc_ast.specs.Definitions.{with_index}
use Rattle.mdc_ast.specs.declared.row.Row.{Row}
use Rattle.store_api.specs.StoreState.{zero_page}
use Rattle.extent_map.specs.Map.{HoldsMap}
use Rattle.row_page.specs.Row.{column_value, row_in}
use Rattle.table_trees.specs.RowCells.{cell_values}
use Rattle.table_trees.specs.SpaceChanges.{RunsFull, SpaceChange}
use Rattle.table_trees.specs.SpaceChanges.SpaceChange.{ClaimBlock, MakeTree}
use Rattle.table_trees.specs.TableTrees.{TreePlace, map_place, record_place}
use Rattle.table_trees.specs.ToldPages.{told_pages}
use Rattle.mdc_sound.specs.Placing.{HasRoomFor, IsFreeBlock, IsFreeExtent, Spot, rows_from_spot}
use Rattle.mdc_sound.specs.RunningFull.{CreateRunsFull, HasNoSpot, IndexRunsFull, InsertRunsFull, InsertingChanges, ShowsTableSpots}
use Rattle.mdc_sound.specs.SmallDatabase.{def_t}
use Rattle.mdc_sound.specs.TableRows.{PlacedRow}
use Rattle.mdc_sound.specs.TightPages.{need}
use Rattle.sound_instances.proofs.InstancesLemmas.{each_pair}
use Rattle.tight_space.proofs.FullStatementsLemmas.{insert_beyond}
use Rattle.tight_instances.proofs.FullFileLemmas.{full_is_sound, full_stands}
use Rattle.tight_instances.proofs.FullRowsLemmas.{placed_null, placed_rows, placed_ten, placed_without}
use Rattle.tight_instances.proofs.FullSpaceLemmas.{lines_at_18, map_is_sound}
use Rattle.tight_instances.proofs.TightInstancesLemmas.{full_cells_are, full_is_tight, full_spots, full_spots_are, room_of_t}
use Rattle.tight_instances.specs.FullFile.{four_extents, full_database, full_owners, full_pages, full_table, one_more_index, one_more_table, row_of_new_cell, row_of_old_cell}

-- ---- what the pages show

has_extents : HoldsMap told_pages four_extents full_pages full_owners
has_extents = record { count = refl; pages = λ i low. (map_is_sound.each i low).held }

shows : ShowsTableSpots four_extents full_pages def_t full_spots
shows = record { owners = full_owners; map_tree = full_table.map; has_extents = has_extents; has_map = lines_at_18; spots_are = sym full_spots_are }

-- a block more, or a tree, is too much
block_too_much : (rest : List SpaceChange) → RunsFull four_extents full_pages (ClaimBlock 0 0 ∷ rest)
block_too_much rest = record {
  done = [];
  next = ClaimBlock 0 0;
  rest = rest;
  reached = full_pages;
  split = refl;
  goes = refl;
  short = record { owners = full_owners; has_map = has_extents; blocks = 1; asked = 0; asks = (refl, refl); short = omega arith };
}

tree_too_much : (place : TreePlace) (rest : List SpaceChange) → RunsFull four_extents full_pages (MakeTree place ∷ rest)
tree_too_much place rest = record {
  done = [];
  next = MakeTree place;
  rest = rest;
  reached = full_pages;
  split = refl;
  goes = refl;
  short = record { owners = full_owners; has_map = has_extents; blocks = 0; asked = 1; asks = (refl, refl); short = omega arith };
}

-- ---- an INSERT

-- a row of neither cell finds no room
no_room_for : (row : Row) → (cell_values def_t row.values ≡ Int (pos 1) ∷ [] → ⊥) → (cell_values def_t row.values ≡ Null ∷ [] → ⊥) → HasNoSpot def_t full_spots row
no_room_for row one none = (nowhere, no_free_block, no_free_extent)
  where
    nowhere : (k : ℕ) (d : Spot) → k < 4 → HasRoomFor def_t row (slice_index_or full_spots k d) → ⊥
    nowhere zero d low room = room
    nowhere (suc zero) d low room = room
    nowhere (suc (suc zero)) d low room = elim (room_of_t four_extents full_pages 2 3 full_cells_are row 0 room) [ inl is ↦ one is.1 | inr is ↦ none is.1 ]
    nowhere (suc (suc (suc zero))) d low room = elim (room_of_t four_extents full_pages 2 3 full_cells_are row 1 room) [ inl is ↦ one is.1 | inr is ↦ none is.1 ]
    nowhere (suc (suc (suc (suc k)))) d low room = omega (arith, low)

    no_free_block : (k : ℕ) (d : Spot) → k < 4 → IsFreeBlock (slice_index_or full_spots k d) → ⊥
    no_free_block zero d low free = free
    no_free_block (suc zero) d low free = free
    no_free_block (suc (suc zero)) d low free = free
    no_free_block (suc (suc (suc zero))) d low free = free
    no_free_block (suc (suc (suc (suc k)))) d low free = omega (arith, low)

    no_free_extent : (k : ℕ) (d : Spot) → k < 4 → IsFreeExtent (slice_index_or full_spots k d) → ⊥
    no_free_extent zero d low free = free
    no_free_extent (suc zero) d low free = free
    no_free_extent (suc (suc zero)) d low free = free
    no_free_extent (suc (suc (suc zero))) d low free = free
    no_free_extent (suc (suc (suc (suc k)))) d low free = omega (arith, low)

pub insert_runs_full : InsertRunsFull four_extents full_pages def_t (numbered def_t.next row_of_new_cell)
insert_runs_full = record {
  spots = full_spots;
  changes = ClaimBlock 0 0 ∷ [];
  shows = shows;
  inserting = InsertingChanges.stuck (no_room_for (record { number = 4; values = Int (pos 2) ∷ Int (pos 20) ∷ [] })
      (λ is. let wrong : Int (pos 2) ≡ Int (pos 1) = cc in let n : ◌≡◌ {A = ℕ} 2 1 = cc in absurd (omega (arith, n))) (λ is. absurd (cc)));
  full = block_too_much [];
}

pub insert_needs : need four_extents (changed_at full_database 0 (appended row_of_new_cell)) ≡ 5
insert_needs = refl

-- ---- a CREATE INDEX, and a CREATE TABLE

spot_rows_are : rows_from_spot 0 full_spots ≡ placed_rows
unfolding zero_page row_in column_value
spot_rows_are = refl

-- the rows by rising number
abbrev rising : List PlacedRow
rising = placed_ten ∷ placed_null ∷ placed_without ∷ []

pub index_runs_full : IndexRunsFull four_extents full_pages def_t one_more_index
index_runs_full = record {
  root = 0;
  spots = full_spots;
  rows = rising;
  shows = shows;
  same_rows = subst (IsPermutation rising) (sym spot_rows_are)
      (IsPermutation-cons placed_ten (placed_null ∷ placed_without ∷ []) (placed_without ∷ placed_null ∷ []) (IsPermutation-middle (placed_null ∷ []) placed_without []));
  rising = each_pair (λ (a b : PlacedRow). a.row.number < b.row.number) rising ((omega arith, (omega arith, tt)), ((omega arith, tt), (tt, tt)));
  full = tree_too_much (record_place def_t one_more_index) _;
}

pub index_needs : need four_extents (changed_at full_database 0 (λ one. record one { def = with_index one.def one_more_index })) ≡ 5
index_needs = refl

pub create_runs_full : CreateRunsFull four_extents full_pages one_more_table
create_runs_full = (record { map = 0; composite = 0; dims = [] }, tree_too_much (map_place one_more_table) _)

pub create_needs : need four_extents (with_place full_database 1 (Some (record { def = record one_more_table { number = 1 }; rows = [] }))) ≡ 6
create_needs = refl

-- ---- a row for which there is room

pub room_needs : need four_extents (changed_at full_database 0 (appended row_of_old_cell)) ≡ 4
room_needs = refl

pub room_is_left : InsertRunsFull four_extents full_pages def_t (numbered def_t.next row_of_old_cell) → ⊥
room_is_left full =
    let beyond = insert_beyond four_extents full_pages _ full_is_sound full_is_tight 0 full_table full_database row_of_old_cell refl full_stands (refl, tt) full in
    omega (arith, beyond, room_needs)
