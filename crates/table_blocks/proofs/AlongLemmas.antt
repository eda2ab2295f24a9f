-- Calls on a table behind ones that left the work as it was.
use Rattle.std.proofs.Common.{◌≡◌, ℕ, List, length, ap, ◌∙◌, subst}
use Rattle.std.specs.Prelude.{Option, None, Some, slice_index_or, slice_set}
use Rattle.std.specs.List.{AllZip}
use Rattle.mdc_values.specs.declared.rid.Rid.{Rid}
use Rattle.mdc_ast.specs.declared.definition.TableDef.{TableDef}
use Rattle.mdc_ast.specs.declared.row.Row.{Row}
use Rattle.store_api.specs.Frame.{NoPage}
use Rattle.store_api.specs.RunsOverPages.{RunsOverPages}
use Rattle.store_api.specs.declared.fault.StoreFault.{StoreFault}
use Rattle.store_api.specs.declared.pages.Pages.{Ghosts}
use Rattle.store_api.specs.declared.shape.Shape.{Shape}
use Rattle.store_api.proofs.RunsOverPagesLemmas.{runs_then, runs_wider}
use Rattle.extent_map.specs.declared.kind.Kind.{Kind}
use Rattle.extent_map.specs.declared.space_notes.SpaceNotes.{SpaceNotes}
use Rattle.extent_map.proofs.GrowthLemmas.{growth_along}
use Rattle.table_trees.specs.SpaceChanges.{MakesChanges}
use Rattle.table_trees.specs.ToldPages.{PageList}
use Rattle.table_trees.specs.TreesBeside.{GrowsPages}
use Rattle.mdc_sound.specs.Placing.{HasRoomFor, Spot, table_spots}
use Rattle.mdc_sound.specs.Placing.Spot.{OtherBlock, UsedBlock}
use Rattle.mdc_sound.specs.RunningFull.{block_changes}
use Rattle.mdc_sound.specs.StandingTable.{BreaksTable, ChangesTable, IsBlockOrMapPage, TableForests, pages_of, spots_of}
use Rattle.mdc_sound.proofs.StandingTableLemmas.{stands_same}
use Rattle.table_blocks.specs.BlockChanges.{SameSpot, TurnsSpot}
use Rattle.table_blocks.specs.BlockSteps.{FillsSlot}

module _ {S : Type 0} {g : Ghosts S} (shape : Shape) (before noted : SpaceNotes) (old mid new : S) (def : TableDef) (owners : List Kind) (forests : TableForests) (told : (g.state mid).is_told ≡ (g.state old).is_told)
    (same : (g.state mid).work ≡ (g.state old).work) where
  grows_along : GrowsPages g shape mid new → GrowsPages g shape old new
  grows_along grows = record {
    stated = growth_along told same grows.stated;
    whole = λ is. grows.whole (record { extents = is.extents; within = is.within; count = ap length same ∙ is.count });
  }

  pub changes_along : (owners_now : List Kind) (forests_now : TableForests) → ChangesTable g shape before noted mid new def owners forests owners_now forests_now → ChangesTable g shape before noted old new def owners forests owners_now forests_now
  changes_along owners_now forests_now changes = record {
    stands = changes.stands;
    others_blocks = changes.others_blocks;
    no_others_blocks = changes.no_others_blocks;
    others_pages = changes.others_pages;
    used_pages = changes.used_pages;
    pages = changes.pages;
    grows = grows_along changes.grows;
    notes = changes.notes;
  }

  -- a block that became another spot
  pub turns_along : (After : Spot → Spot → Type 0) (block : ℕ) (spot : Spot) (owners_now : List Kind) (forests_now : TableForests) → TurnsSpot g After shape before noted mid new def block spot owners forests owners_now forests_now
      → TurnsSpot g After shape before noted old new def block spot owners forests owners_now forests_now
  turns_along After block spot owners_now forests_now turns = record {
    changes = changes_along owners_now forests_now turns.changes;
    records = turns.records;
    spots = subst (λ (pages : PageList). AllZip After (slice_set (table_spots shape pages def owners forests.map) block spot) (spots_of g shape new def owners_now forests_now)) same turns.spots;
  }

module _ {S : Type 0} {g : Ghosts S} (shape : Shape) (old mid new : S) (def : TableDef) (row : Row) (owners : List Kind) (forests : TableForests) (told : (g.state mid).is_told ≡ (g.state old).is_told)
    (same : (g.state mid).work ≡ (g.state old).work) where
  -- a row that went into a slot
  pub fills_along : (noted : SpaceNotes) (rid : Rid) → FillsSlot g shape noted mid new def rid row owners forests → FillsSlot g shape noted old new def rid row owners forests
  fills_along noted rid fills = record {
    forests_now = fills.forests_now;
    slots = fills.slots;
    was = subst (λ (pages : PageList). slice_index_or (table_spots shape pages def owners forests.map) rid.block OtherBlock ≡ UsedBlock fills.slots) same fills.was;
    lowest = fills.lowest;
    turns = turns_along shape noted noted old mid new def owners forests told same SameSpot rid.block (UsedBlock (slice_set fills.slots rid.slot (Some row))) owners fills.forests_now fills.turns;
  }

module _ {S : Type 0} (g : Ghosts S) (shape : Shape) where
  -- the room of a block
  pub room_along : (old mid : S) (def : TableDef) (row : Row) (owners : List Kind) (forests : TableForests) → (g.state mid).work ≡ (g.state old).work → (block : ℕ)
      → HasRoomFor def row (slice_index_or (spots_of g shape mid def owners forests) block OtherBlock) → HasRoomFor def row (slice_index_or (spots_of g shape old def owners forests) block OtherBlock)
  room_along old mid def row owners forests same block room = subst (λ (pages : PageList). HasRoomFor def row (slice_index_or (table_spots shape pages def owners forests.map) block OtherBlock)) same room

  -- what a row changes in it
  pub makes_along : (old mid new : S) (def : TableDef) (row : Row) (owners : List Kind) (forests : TableForests) → (g.state mid).work ≡ (g.state old).work → (block : ℕ)
      → MakesChanges shape (pages_of g mid) (block_changes def row block (slice_index_or (spots_of g shape mid def owners forests) block OtherBlock)) (pages_of g new)
      → MakesChanges shape (pages_of g old) (block_changes def row block (slice_index_or (spots_of g shape old def owners forests) block OtherBlock)) (pages_of g new)
  makes_along old mid new def row owners forests same block makes =
      subst (λ (pages : PageList). MakesChanges shape pages (block_changes def row block (slice_index_or (table_spots shape pages def owners forests.map) block OtherBlock)) (pages_of g new)) same makes

-- a call on a block, behind one that looked
pub runs_along : {S : Type 0} {g : Ghosts S} (shape : Shape) (def : TableDef) (block : ℕ) {old mid new : S} {fault : Option StoreFault} → (g.state mid).work ≡ (g.state old).work
    → RunsOverPages g NoPage (IsBlockOrMapPage g shape old def block) (BreaksTable g shape old def) old mid None
    → RunsOverPages g (IsBlockOrMapPage g shape mid def block) (IsBlockOrMapPage g shape mid def block) (BreaksTable g shape mid def) mid new fault
    → RunsOverPages g (IsBlockOrMapPage g shape old def block) (IsBlockOrMapPage g shape old def block) (BreaksTable g shape old def) old new fault
runs_along {g = g} shape def block {old} {mid} same first second =
    let told = first.works.steady.is_told in
    let look : RunsOverPages g (IsBlockOrMapPage g shape old def block) (IsBlockOrMapPage g shape old def block) (BreaksTable g shape old def) old mid None =
    runs_wider first (λ p there none. absurd none) (λ p is. is) (λ damage b. b) in
    runs_then look second (λ p there is owners forests st. is owners forests (stands_same shape old mid def owners forests told same st))
    (λ p is owners forests st. is owners forests (stands_same shape old mid def owners forests told same st))
    (λ damage b. record { names = b.names; broken = λ owners forests st. b.broken owners forests (stands_same shape old mid def owners forests told same st) })
