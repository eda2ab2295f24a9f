-- A claimed block comes into the block map and gets its first row: what the calls that follow each other say together.
use Rattle.std.proofs.Common.{◌≡◌, ◌<◌, ◌+◌, ℕ, List, length, max, inl, inr, ap, sym, subst, ◌∙◌}
use Rattle.std.specs.Prelude.{Option, Some, None, replicate, slice_set}
use Rattle.mdc_ast.specs.declared.definition.TableDef.{TableDef}
use Rattle.mdc_ast.specs.declared.row.Row.{Row}
use Rattle.store_api.specs.Extents.{first_page_of}
use Rattle.store_api.specs.RunsOverPages.{RunsOverPages}
use Rattle.store_api.specs.declared.fault.StoreFault.{StoreFault}
use Rattle.store_api.specs.declared.pages.Pages.{Ghosts}
use Rattle.store_api.specs.declared.shape.Shape.{Shape}
use Rattle.store_api.proofs.RunsOverPagesLemmas.{runs_then, runs_wider}
use Rattle.extent_map.specs.Damages.{BreaksSpace, IfFull}
use Rattle.extent_map.specs.Map.{HoldsMap, IsSpacePage, StatesGrowth}
use Rattle.extent_map.specs.Owners.{AreRightNotes, IsLowestFree, owner_of, with_block}
use Rattle.extent_map.specs.declared.fault.SpaceFault.{SpaceFault}
use Rattle.extent_map.specs.declared.fault.SpaceFault.TheVariants.{Full, Store}
use Rattle.extent_map.specs.declared.kind.Kind.{Kind}
use Rattle.extent_map.specs.declared.kind.Kind.TheVariants.{Free}
use Rattle.extent_map.specs.declared.space_notes.SpaceNotes.{SpaceNotes}
use Rattle.row_page.specs.RowPage.{count_rows}
use Rattle.entry_tree.specs.Forest.{Forest}
use Rattle.entry_tree.specs.Standing.{AddsEntry, FindsFull, IsTreeSpace, StandsTree, with_pages}
use Rattle.entry_tree.specs.declared.tree.Tree.{Tree}
use Rattle.mdc_ast.specs.TableLimits.{IsTableDef}
use Rattle.block_map.specs.BlockMaps.{HasRow}
use Rattle.block_map.specs.Counting.{used_row}
use Rattle.block_map.specs.MapChanges.{BreaksEntering}
use Rattle.block_map.specs.MapRows.{row_entry}
use Rattle.block_map.specs.declared.row.BlockRow.{BlockRow}
use Rattle.mdc_ast.specs.FittingRows.{RowFits}
use Rattle.mdc_sound.specs.Placing.{AfterClaims, block_slot_count}
use Rattle.mdc_sound.specs.StandingTable.{BreaksTable, IsTreeSpaceOfTable, MeetsNoFree, StandsTable, TableForests}
use Rattle.mdc_sound.proofs.ChangedRowsLemmas.{some_slots}
use Rattle.table_blocks.specs.AroundBlock.{StandsAround}
use Rattle.table_blocks.specs.BlockChanges.{BreaksAround, IsSpaceAround}
use Rattle.table_blocks.specs.BlockNow.{IsOwnBlock, IsUnlisted, IsUnnamed, IsUsedNow}
use Rattle.table_blocks.specs.BlockSteps.{BeginsBlock, ClaimsBlock, FillsBegun, MovesLine}
use Rattle.table_blocks.proofs.BegunSlotsLemmas.{begun_cell, begun_count}
use Rattle.table_blocks.proofs.AroundLemmas.{around_then, own_still}
use Rattle.table_blocks.proofs.ClaimStepLemmas.{breaks_claiming, breaks_since_claim, claims_block, space_since_change, space_since_claim, turns_claimed}
use Rattle.table_blocks.proofs.LineStepLemmas.{breaks_entering, enters_line, map_around, space_of_map}
use Rattle.table_blocks.proofs.ListedCellsLemmas.{unlisted_still}
use Rattle.table_blocks.proofs.SpotChangesLemmas.{claims_change}

-- An extent was claimed as a block of the table, and this is its line.
pub record ClaimsNewBlock {S : Type 0} (g : Ghosts S) (shape : Shape) (before noted : SpaceNotes) (old new : S) (def : TableDef) (block : ℕ) (tree : Tree) (line : BlockRow) : Type 0 where
  pub defined : IsTableDef def.number def
  pub claims : (owners : List Kind) (forests : TableForests) → StandsTable g shape old def owners forests → ClaimsBlock g shape before noted old new def block owners forests
  pub lowest : (owners : List Kind) → HoldsMap g shape old owners → AreRightNotes shape before owners → IsLowestFree owners block
  pub count : length (g.state new).work ≡ max (length (g.state old).work) (first_page_of shape.extents shape.extent_pages (block + 1))
  pub run : RunsOverPages g (IsSpacePage shape) (IsSpacePage shape) (BreaksSpace g shape old) old new None
  pub root : tree.root ≡ def.roots.map
  pub width : tree.width ≡ 7
  pub line_is : line ≡ used_row block 1

-- That line came into the block map.
pub record EntersNewBlock {S : Type 0} (g : Ghosts S) (shape : Shape) (before noted : SpaceNotes) (old new : S) (tree : Tree) (line : BlockRow) : Type 0 where
  pub adds : (owners : List Kind) (t : Forest) → StandsTree g shape old tree owners t → AddsEntry g shape before noted old new tree (row_entry line) owners t
  pub run : RunsOverPages g (IsTreeSpace g shape old tree) (IsTreeSpace g shape old tree) (BreaksEntering g shape old tree line) old new None

-- ---- the claim

module _ {S : Type 0} {g : Ghosts S} (shape : Shape) (old mid : S) (def : TableDef) (block : ℕ) where
  -- what the claim says is so wherever the table stood
  pub where_claimed : (before mid_notes : SpaceNotes) → IsTableDef def.number def → block < shape.extents → ((owners : List Kind) → HoldsMap g shape old owners → owner_of owners block ≡ Free)
      → ((owners : List Kind) → HoldsMap g shape old owners → HoldsMap g shape mid (with_block owners block def.number))
      → ((owners : List Kind) → HoldsMap g shape old owners → AreRightNotes shape before owners → AreRightNotes shape mid_notes (with_block owners block def.number))
      → StatesGrowth g old mid → length (g.state mid).work ≡ max (length (g.state old).work) (first_page_of shape.extents shape.extent_pages (block + 1))
      → RunsOverPages g (IsSpacePage shape) (IsSpacePage shape) (BreaksSpace g shape old) old mid None
      → (owners : List Kind) (forests : TableForests) → StandsTable g shape old def owners forests → ClaimsBlock g shape before mid_notes old mid def block owners forests
  where_claimed before mid_notes defined low free claims notes stated count run owners forests st =
      claims_block shape before mid_notes old mid def block owners forests defined st low (free owners st.trees.map) (claims owners st.trees.map) (notes owners st.trees.map) stated count run.touches run.works.steady.is_told

module _ {S : Type 0} {g : Ghosts S} (shape : Shape) (old : S) (def : TableDef) where
  pub claim_run : {mid : S} {fault : Option StoreFault} → RunsOverPages g (IsSpacePage shape) (IsSpacePage shape) (BreaksSpace g shape old) old mid fault
      → RunsOverPages g (IsTreeSpaceOfTable g shape old def) (IsTreeSpaceOfTable g shape old def) (BreaksTable g shape old def) old mid fault
  claim_run run =
      runs_wider run (λ p low space owners forests st. inr (inl space)) (λ p space owners forests st. inr (inl space)) (breaks_claiming g shape old def)

-- ---- the line

module _ {S : Type 0} {g : Ghosts S} {shape : Shape} {before mid_notes : SpaceNotes} {old mid : S} {def : TableDef} {block : ℕ} {tree : Tree} {line : BlockRow} (is : ClaimsNewBlock g shape before mid_notes old mid def block tree line) where
  own_line : line.block ≡ block
  own_line = ap (λ (other : BlockRow). other.block) is.line_is

  pub enter_run : {two : S} {fault : Option StoreFault} → RunsOverPages g (IsTreeSpace g shape mid tree) (IsTreeSpace g shape mid tree) (BreaksEntering g shape mid tree line) mid two fault
      → RunsOverPages g (IsTreeSpaceOfTable g shape old def) (IsTreeSpaceOfTable g shape old def) (BreaksTable g shape old def) old two fault
  enter_run second =
      runs_then (claim_run shape old def {fault = None} is.run) second (λ p low mine. space p mine) space
      (λ damage breaks. breaks_since_claim g shape before mid_notes old mid def block (λ owners forests. IsUnnamed forests.map block) damage is.claims (λ owners forests st. (is.claims owners forests st).unnamed)
      (breaks_entering tree def is.root is.width shape mid block line damage own_line breaks))
    where
      space : (p : ℕ) → IsTreeSpace g shape mid tree p → IsTreeSpaceOfTable g shape old def p
      space p mine owners forests st = space_since_claim shape before mid_notes old mid def block owners forests is.defined st p (is.claims owners forests st) (space_of_map tree def is.root is.width shape mid block p mine)

  -- the tree met no free extent
  pub enter_full : (noted : SpaceNotes) (new : S) (fault : SpaceFault)
      → IfFull fault (λ cap. (cap ≡ shape.extents) × ((owners : List Kind) (t : Forest) → StandsTree g shape mid tree owners t → FindsFull g shape mid_notes noted mid new tree (row_entry line) owners t))
      → IfFull fault (λ cap. (cap ≡ shape.extents) × ((owners : List Kind) (forests : TableForests) → StandsTable g shape old def owners forests → AreRightNotes shape before owners → MeetsNoFree g shape new))
  enter_full noted new (Full cap) found = (
    found.0,
    λ owners forests st notes.
        let claim = is.claims owners forests st in
        let finds = found.1 (with_block owners block def.number) forests.map (map_around tree def is.root is.width shape mid (with_block owners block def.number) forests block claim.stands) in
        record {
          owners = with_pages shape (with_block owners block def.number) finds.meets.claimed;
          map = finds.meets.claims.map;
          none_free = (finds.meets.full (claim.notes notes)).no_free;
        },
  )
  enter_full noted new (Store fault) found = tt

  -- ---- the first row

  module _ {two_notes : SpaceNotes} {two : S} (enters : EntersNewBlock g shape mid_notes two_notes mid two tree line) where
    pub where_entered : (owners : List Kind) (forests : TableForests) → StandsTable g shape old def owners forests → MovesLine g AfterClaims shape mid_notes two_notes mid two def block line (with_block owners block def.number) forests
    where_entered owners forests st =
        let claim = is.claims owners forests st in
        enters_line tree def is.root is.width shape mid_notes two_notes mid two block line (with_block owners block def.number) forests claim.stands claim.own own_line claim.unnamed
        (enters.adds (with_block owners block def.number) forests.map (map_around tree def is.root is.width shape mid (with_block owners block def.number) forests block claim.stands)) enters.run.touches enters.run.works.steady.is_told enters.run.works.no_shorter

    pub own_then : (owners : List Kind) (forests : TableForests) (st : StandsTable g shape old def owners forests) → IsOwnBlock shape (where_entered owners forests st).owners_now def block
    own_then owners forests st =
        let moves = where_entered owners forests st in
        own_still shape mid_notes two_notes mid two def block (with_block owners block def.number) moves.owners_now forests moves.forests_now moves.changes (is.claims owners forests st).own

    unlisted_then : (owners : List Kind) (forests : TableForests) (st : StandsTable g shape old def owners forests) → IsUnlisted def (where_entered owners forests st).forests_now block
    unlisted_then owners forests st =
        let moves = where_entered owners forests st in
        unlisted_still def forests moves.forests_now block moves.composite moves.dims (is.claims owners forests st).unlisted

    pub fill_run : {new : S} {fault : Option StoreFault}
        → RunsOverPages g (IsSpaceAround g shape two def block) (IsSpaceAround g shape two def block) (BreaksAround g shape two def block (λ owners forests. IsUnlisted def forests block)) two new fault
        → RunsOverPages g (IsTreeSpaceOfTable g shape old def) (IsTreeSpaceOfTable g shape old def) (BreaksTable g shape old def) old new fault
    fill_run second =
        runs_then (enter_run {fault = None} enters.run) second (λ p low mine. space p mine) space
        (λ damage breaks. record {
          names = breaks.names;
          broken = λ owners forests st.
              let moves = where_entered owners forests st in
              breaks.broken moves.owners_now moves.forests_now moves.changes.stands (own_then owners forests st) (unlisted_then owners forests st);
        })
      where
        space : (p : ℕ) → IsSpaceAround g shape two def block p → IsTreeSpaceOfTable g shape old def p
        space p mine owners forests st =
            let moves = where_entered owners forests st in
            space_since_change shape before mid_notes old mid def block owners forests is.defined st (is.claims owners forests st) two_notes two moves.owners_now moves.forests_now moves.changes p mine

    pub fill_full : (new : S) (fault : SpaceFault)
        → IfFull fault (λ cap. (cap ≡ shape.extents) × ((owners : List Kind) (forests : TableForests) → StandsAround g shape two def owners forests block → IsOwnBlock shape owners def block → AreRightNotes shape two_notes owners → MeetsNoFree g shape new))
        → IfFull fault (λ cap. (cap ≡ shape.extents) × ((owners : List Kind) (forests : TableForests) → StandsTable g shape old def owners forests → AreRightNotes shape before owners → MeetsNoFree g shape new))
    fill_full new (Full cap) found = (
      found.0,
      λ owners forests st notes.
          let moves = where_entered owners forests st in
          found.1 moves.owners_now moves.forests_now moves.changes.stands (own_then owners forests st) (moves.changes.trees.notes ((is.claims owners forests st).notes notes)),
    )
    fill_full new (Store fault) found = tt

    pub begins_new : (row : Row) (noted : SpaceNotes) (new : S) → RowFits def row
        → ((owners : List Kind) (forests : TableForests) → StandsAround g shape two def owners forests block → IsOwnBlock shape owners def block → FillsBegun g shape two_notes noted two new def block row owners forests)
        → (owners : List Kind) (forests : TableForests) → StandsTable g shape old def owners forests → BeginsBlock g shape before noted old new def block row owners forests
    begins_new row noted new fits fills owners forests st =
        let claim = is.claims owners forests st in
        let moves = where_entered owners forests st in
        let own = own_then owners forests st in
        let fill = fills moves.owners_now moves.forests_now moves.changes.stands own in
        let n = block_slot_count shape def in
        let slots = slice_set (replicate n None) 0 (Some row) in
        let some : 0 < n = some_slots shape def.number def is.defined in
        let all = around_then claims_change shape mid_notes two_notes noted mid two new def block (with_block owners block def.number) moves.owners_now fill.owners_now forests moves.forests_now fill.forests_now moves.changes fill.changes in
        let is_line : line ≡ used_row block (count_rows slots) = is.line_is ∙ ap (used_row block) (sym (begun_count n row some)) in
        let now : IsUsedNow g shape new def fill.owners_now fill.forests_now block row.values slots = record {
          own = own_still shape two_notes noted two new def block moves.owners_now fill.owners_now moves.forests_now fill.forests_now fill.changes own;
          line = subst (λ (map_tree : Forest). HasRow (used_row block (count_rows slots)) map_tree) (sym fill.same_map) (subst (λ (other : BlockRow). HasRow other moves.forests_now.map) is_line moves.line_there);
          rows = fill.rows;
          cell = begun_cell def n row some fits;
          listed = fill.listed (unlisted_then owners forests st);
        } in
        record {
          owners_now = fill.owners_now;
          forests_now = fill.forests_now;
          turns = turns_claimed shape before mid_notes old mid def block owners forests is.defined st noted new fill.owners_now fill.forests_now row.values slots claim all now;
        }
