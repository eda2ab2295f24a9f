-- The next block that comes into use, behind calls that left the work as it was, and the runs of such calls.
use Rattle.std.proofs.Common.{◌≡◌, ◌≤◌, ℕ, List, refl, arith, inl, inr}
use Rattle.std.specs.Prelude.{Contains, IfErr, IfOk, Option, None, Result, Ok, Err}
use Rattle.store_api.specs.Frame.{NoPage}
use Rattle.store_api.specs.RunsOverPages.{RunsOverPages}
use Rattle.store_api.specs.declared.fault.Damage.{Damage}
use Rattle.store_api.specs.declared.fault.StoreFault.{StoreFault}
use Rattle.store_api.specs.declared.pages.Pages.{Ghosts}
use Rattle.store_api.specs.declared.shape.Shape.{Shape}
use Rattle.store_api.proofs.RunsOverPagesLemmas.{runs_then, runs_wider}
use Rattle.extent_map.specs.Damages.{IfFull}
use Rattle.extent_map.specs.Owners.{AreRightNotes, IsLowestFree}
use Rattle.extent_map.specs.declared.fault.SpaceFault.{SpaceFault}
use Rattle.extent_map.specs.declared.fault.SpaceFault.TheVariants.{Full, Store}
use Rattle.extent_map.specs.declared.kind.Kind.{Kind}
use Rattle.extent_map.specs.declared.space_notes.SpaceNotes.{SpaceNotes}
use Rattle.mdc_words.specs.ByteOrder.{Entry}
use Rattle.mdc_ast.specs.declared.definition.TableDef.{TableDef}
use Rattle.mdc_ast.specs.declared.row.Row.{Row}
use Rattle.block_map.specs.BlockMaps.{FindsFree, IsLowestFreeBlock}
use Rattle.block_map.specs.MapLines.{free_blocks}
use Rattle.mdc_sound.specs.Placing.{AfterClaims, begun_with, block_slot_count, HasRoomFor, HoldsNowhere}
use Rattle.mdc_sound.specs.RunningFull.{RowRunsFull}
use Rattle.mdc_sound.specs.StandingTable.{BreaksExpected, BreaksTable, IsBlockOrMapPage, IsReadyTable, IsTableOrMapPage, IsTableSpace, IsTableTreePage, MeetsNoFree, NamesTablePart, RoomNote, StandsTable, TableForests, pages_of, spots_of}
use Rattle.mdc_sound.proofs.StandingTableLemmas.{stands_same}
use Rattle.table_blocks.specs.BlockSteps.{BeginsBlock}
use Rattle.table_blocks.proofs.AlongLemmas.{turns_along}
use Rattle.mdc_table.specs.NextBlock.{BeginsNext, FindsNoPlace, IsNextBlock}
use Rattle.mdc_table.proofs.KeptBlocksLemmas.{runs_of_block}
use Rattle.mdc_table.proofs.StandingBlocksLemmas.{free_within}

-- ---- the block

module _ {S : Type 0} {g : Ghosts S} (shape : Shape) (before noted : SpaceNotes) (old mid new : S) (def : TableDef) (owners : List Kind) (forests : TableForests) (told : (g.state mid).is_told ≡ (g.state old).is_told)
    (same : (g.state mid).work ≡ (g.state old).work) where
  begins_along : (block : ℕ) (row : Row) → BeginsBlock g shape before noted mid new def block row owners forests → BeginsBlock g shape before noted old new def block row owners forests
  begins_along block row begins = record {
    owners_now = begins.owners_now;
    forests_now = begins.forests_now;
    turns = turns_along shape before noted old mid new def owners forests told same AfterClaims block (begun_with (block_slot_count shape def) row) begins.owners_now begins.forests_now begins.turns;
  }

  -- a Free block that was found
  pub begins_free : (block : ℕ) (row : Row) → IsLowestFreeBlock forests.map 0 block → BeginsBlock g shape before noted mid new def block row owners forests → BeginsNext g shape before noted old new def block row owners forests
  begins_free block row lowest begins = record { next = λ notes. IsNextBlock.free_block lowest; begins = begins_along block row begins }

-- a free extent, where none was found
pub begins_new : {S : Type 0} (g : Ghosts S) (shape : Shape) (before noted : SpaceNotes) (old mid new : S) (def : TableDef) (row : Row) (result : Result ℕ SpaceFault)
    → (g.state mid).is_told ≡ (g.state old).is_told → (g.state mid).work ≡ (g.state old).work
    → ((owners : List Kind) (forests : TableForests) → StandsTable g shape old def owners forests → FindsFree forests.map 0 None)
    → IfOk result (λ block. (owners : List Kind) (forests : TableForests) → StandsTable g shape mid def owners forests → BeginsBlock g shape before noted mid new def block row owners forests)
    → IfOk result (λ block. (owners : List Kind) (forests : TableForests) → StandsTable g shape mid def owners forests → AreRightNotes shape before owners → IsLowestFree owners block)
    → IfOk result (λ block. (owners : List Kind) (forests : TableForests) → StandsTable g shape old def owners forests → BeginsNext g shape before noted old new def block row owners forests)
begins_new g shape before noted old mid new def row (Ok block) told same none begins lowest = λ owners forests st.
    let st_mid = stands_same shape old mid def owners forests told same st in
    record {
      next = λ notes. IsNextBlock.free_extent (λ other there. none owners forests st other there (omega arith)) (lowest owners forests st_mid notes);
      begins = begins_along shape before noted old mid new def owners forests told same block row (begins owners forests st_mid);
    }
begins_new g shape before noted old mid new def row (Err fault) told same none begins lowest = tt

-- no block that the block map names lies past the extents
pub past_breaks : {S : Type 0} (g : Ghosts S) (shape : Shape) (s : S) (def : TableDef) (block : ℕ) → shape.extents ≤ block
    → ((owners : List Kind) (forests : TableForests) → StandsTable g shape s def owners forests → Contains (free_blocks forests.map) block) → BreaksTable g shape s def (record { page = def.roots.map; rule = 6 })
past_breaks g shape s def block past free = record {
  names = NamesTablePart.block_map refl refl;
  broken = λ owners forests st. omega (arith, past, free_within shape s def owners forests st block (free owners forests st));
}

-- ---- full files

module _ {S : Type 0} (g : Ghosts S) (shape : Shape) (before : SpaceNotes) (old mid new : S) (def : TableDef) (told : (g.state mid).is_told ≡ (g.state old).is_told) (same : (g.state mid).work ≡ (g.state old).work) where
  pub full_along : (fault : SpaceFault)
      → IfFull fault (λ cap. (cap ≡ shape.extents) × ((owners : List Kind) (forests : TableForests) → StandsTable g shape mid def owners forests → AreRightNotes shape before owners → MeetsNoFree g shape new))
      → IfFull fault (λ cap. (cap ≡ shape.extents) × ((owners : List Kind) (forests : TableForests) → StandsTable g shape old def owners forests → AreRightNotes shape before owners → MeetsNoFree g shape new))
  full_along (Full cap) full = (full.0, λ owners forests st notes. full.1 owners forests (stands_same shape old mid def owners forests told same st) notes)
  full_along (Store fault) full = tt

  pub full_result_along : {X : Type 0} (result : Result X SpaceFault)
      → IfErr result (λ fault. IfFull fault (λ cap. (cap ≡ shape.extents) × ((owners : List Kind) (forests : TableForests) → StandsTable g shape mid def owners forests → AreRightNotes shape before owners → MeetsNoFree g shape new)))
      → IfErr result (λ fault. IfFull fault (λ cap. (cap ≡ shape.extents) × ((owners : List Kind) (forests : TableForests) → StandsTable g shape old def owners forests → AreRightNotes shape before owners → MeetsNoFree g shape new)))
  full_result_along (Ok x) full = tt
  full_result_along (Err fault) full = full_along fault full

-- and the same of a table whose notes are right
pub full_ready : {S : Type 0} (g : Ghosts S) (shape : Shape) (before : SpaceNotes) (old new : S) (def : TableDef) (from : Entry → RoomNote) (fault : SpaceFault)
    → IfFull fault (λ cap. (cap ≡ shape.extents) × ((owners : List Kind) (forests : TableForests) → StandsTable g shape old def owners forests → AreRightNotes shape before owners → MeetsNoFree g shape new))
    → IfFull fault (λ cap. (cap ≡ shape.extents) × ((owners : List Kind) (forests : TableForests) → IsReadyTable g shape before from old def owners forests → MeetsNoFree g shape new))
full_ready g shape before old new def from (Full cap) full = (full.0, λ owners forests ready. full.1 owners forests ready.stands ready.notes)
full_ready g shape before old new def from (Store fault) full = tt

-- and of one whose cells have no room
pub full_no_place : {S : Type 0} (g : Ghosts S) (shape : Shape) (before : SpaceNotes) (old new : S) (def : TableDef) (row : Row) (from : Entry → RoomNote) (fault : SpaceFault)
    → ((owners : List Kind) (forests : TableForests) → IsReadyTable g shape before from old def owners forests → HoldsNowhere (HasRoomFor def row) (spots_of g shape old def owners forests))
    → IfFull fault (λ cap. (cap ≡ shape.extents) × ((owners : List Kind) (forests : TableForests) → IsReadyTable g shape before from old def owners forests → MeetsNoFree g shape new))
    → IfFull fault (λ cap. (owners : List Kind) (forests : TableForests) → IsReadyTable g shape before from old def owners forests → RowRunsFull shape (pages_of g old) def (spots_of g shape old def owners forests) row)
    → IfFull fault (λ cap. (cap ≡ shape.extents) × ((owners : List Kind) (forests : TableForests) → IsReadyTable g shape before from old def owners forests → FindsNoPlace g shape old new def row owners forests))
full_no_place g shape before old new def row from (Full cap) no_room full runs =
    (full.0, λ owners forests ready. record { no_room = no_room owners forests ready; runs_full = runs owners forests ready; none_free = full.1 owners forests ready })
full_no_place g shape before old new def row from (Store fault) no_room full runs = tt

-- ---- runs

module _ {S : Type 0} {g : Ghosts S} (shape : Shape) (def : TableDef) where
  -- a call that reads trees
  pub runs_in_space : {old new : S} {fault : Option StoreFault} → RunsOverPages g NoPage (IsTableTreePage g shape old def) (BreaksTable g shape old def) old new fault
      → RunsOverPages g (IsTableSpace g shape old def) (IsTableSpace g shape old def) (BreaksTable g shape old def) old new fault
  runs_in_space run = runs_wider run (λ p there none. absurd none) (λ p is owners forests st. inl (is owners forests st)) (λ damage b. b)

  -- two calls that may claim, where the first left the work as it was
  pub runs_space_behind : {old mid new : S} {fault : Option StoreFault} → (g.state mid).work ≡ (g.state old).work
      → RunsOverPages g (IsTableSpace g shape old def) (IsTableSpace g shape old def) (BreaksTable g shape old def) old mid None
      → RunsOverPages g (IsTableSpace g shape mid def) (IsTableSpace g shape mid def) (BreaksTable g shape mid def) mid new fault
      → RunsOverPages g (IsTableSpace g shape old def) (IsTableSpace g shape old def) (BreaksTable g shape old def) old new fault
  runs_space_behind {old} {mid} {new} same first second =
      let told = first.works.steady.is_told in
      runs_then first second (λ p there is owners forests st. is owners forests (stands_same shape old mid def owners forests told same st))
      (λ p is owners forests st. is owners forests (stands_same shape old mid def owners forests told same st))
      (λ damage b. record { names = b.names; broken = λ owners forests st. b.broken owners forests (stands_same shape old mid def owners forests told same st) })

  -- a call that reads trees, and one behind it that may claim
  pub runs_space_then : {old mid new : S} {fault : Option StoreFault} → (g.state mid).work ≡ (g.state old).work
      → RunsOverPages g NoPage (IsTableTreePage g shape old def) (BreaksTable g shape old def) old mid None
      → RunsOverPages g (IsTableSpace g shape mid def) (IsTableSpace g shape mid def) (BreaksTable g shape mid def) mid new fault
      → RunsOverPages g (IsTableSpace g shape old def) (IsTableSpace g shape old def) (BreaksTable g shape old def) old new fault
  runs_space_then same first second = runs_space_behind same (runs_in_space {fault = None} first) second

  -- the same, where it expects more of the table than that it stands
  pub runs_space_expecting : {old mid new : S} {fault : Option StoreFault} (Expected : List Kind → TableForests → Type 0) → (g.state mid).work ≡ (g.state old).work
      → ((owners : List Kind) (forests : TableForests) → StandsTable g shape old def owners forests → Expected owners forests)
      → RunsOverPages g NoPage (IsTableTreePage g shape old def) (BreaksTable g shape old def) old mid None
      → RunsOverPages g (IsTableSpace g shape mid def) (IsTableSpace g shape mid def) (BreaksExpected g shape mid def Expected) mid new fault
      → RunsOverPages g (IsTableSpace g shape old def) (IsTableSpace g shape old def) (BreaksTable g shape old def) old new fault
  runs_space_expecting {old} {mid} {new} Expected same expected first second =
      let told = first.works.steady.is_told in
      runs_then (runs_in_space {fault = None} first) second (λ p there is owners forests st. is owners forests (stands_same shape old mid def owners forests told same st))
      (λ p is owners forests st. is owners forests (stands_same shape old mid def owners forests told same st))
      (λ damage b. record { names = b.names; broken = λ owners forests st. b.broken owners forests (stands_same shape old mid def owners forests told same st) (expected owners forests st) })

  -- a call on one block that claims nothing
  pub runs_of_place : {old new : S} {fault : Option StoreFault} {Breaks : Damage → Type 0} (block : ℕ)
      → RunsOverPages g (IsBlockOrMapPage g shape old def block) (IsBlockOrMapPage g shape old def block) Breaks old new fault
      → RunsOverPages g (IsTableSpace g shape old def) (IsTableSpace g shape old def) Breaks old new fault
  runs_of_place {old} {new} {fault} block run = runs_wider (runs_of_block shape def {fault = fault} block run) (λ p there is. in_space p is) in_space (λ damage b. b)
    where
      in_space : (p : ℕ) → IsTableOrMapPage g shape old def p → IsTableSpace g shape old def p
      in_space p is owners forests st = elim (is owners forests st) [
        | inl tree ↦ inl tree
        | inr rest ↦ elim rest [ inl block ↦ inr (inl block) | inr map ↦ inr (inr (inl (inr map))) ]
      ]
