-- What a new block changes of space: the extent itself, its entry in the block map, and those in the block indexes.
use Rattle.std.proofs.Common.{◌≡◌, ◌<◌, ◌⊎◌, ◌+◌, ℕ, List, [], ◌∷◌, length, inl, inr, ap, arith, refl, sym, ◌∙◌, subst, get_or-set_same}
use Rattle.std.proofs.lemmas.Bool.{cases_lt}
use Rattle.mdc_ast.specs.declared.definition.TableDef.{TableDef}
use Rattle.mdc_ast.specs.declared.row.Row.{Row}
use Rattle.store_api.specs.Extents.{first_page_of}
use Rattle.store_api.specs.StoreState.{page_at}
use Rattle.store_api.specs.declared.pages.Pages.{Ghosts}
use Rattle.store_api.specs.declared.shape.Shape.{Shape}
use Rattle.extent_map.specs.Damages.{IfFull}
use Rattle.extent_map.specs.Map.{HoldsMap}
use Rattle.extent_map.specs.Owners.{AreRightNotes, HasNoFree, IsUsedPage, owner_of, with_block}
use Rattle.extent_map.specs.declared.fault.SpaceFault.{SpaceFault}
use Rattle.extent_map.specs.declared.fault.SpaceFault.TheVariants.{Full, Store}
use Rattle.extent_map.specs.declared.kind.Kind.{Kind}
use Rattle.extent_map.specs.declared.kind.Kind.TheVariants.{Block, Free}
use Rattle.extent_map.specs.declared.space_notes.SpaceNotes.{SpaceNotes}
use Rattle.extent_map.proofs.UsedPagesLemmas.{no_space_page, used_page_there}
use Rattle.entry_tree.specs.Forest.{Forest}
use Rattle.entry_tree.specs.Standing.{FindsFull, StandsTree}
use Rattle.entry_tree.specs.declared.tree.Tree.{Tree}
use Rattle.block_map.specs.MapLines.{map_entry}
use Rattle.block_map.specs.MapRows.{row_entry}
use Rattle.block_map.specs.declared.row.BlockRow.{BlockRow}
use Rattle.table_trees.specs.SpaceChanges.{AsksTooMuch, GrowsToExtent, MakesChange, MakesChanges, RunsFull, SpaceChange, added_entries}
use Rattle.table_trees.specs.SpaceChanges.SpaceChange.{AddEntry, ClaimBlock}
use Rattle.table_trees.specs.TableTrees.{map_place, place_of_tree}
use Rattle.table_trees.proofs.TableTreesLemmas.{same_tree_place}
use Rattle.mdc_sound.specs.Placing.Spot.{FreeExtent}
use Rattle.mdc_sound.specs.RunningFull.{block_changes, block_listings}
use Rattle.mdc_sound.specs.StandingTable.{StandsTable, TableForests, pages_of}
use Rattle.table_blocks.specs.AroundBlock.{StandsAround}
use Rattle.table_blocks.specs.BlockNow.{IsOwnBlock}
use Rattle.table_blocks.specs.BlockSteps.{NewBlockRunsFull}
use Rattle.table_blocks.proofs.LineStepLemmas.{map_around}
use Rattle.table_blocks.proofs.NewBlockLemmas.{ClaimsNewBlock, EntersNewBlock, own_then, where_entered}
use Rattle.table_trees.proofs.SpaceChainsLemmas.{asks_full, changes_then, full_then, one_change}
use Rattle.table_trees.proofs.SpaceStepsLemmas.{addition_asks, addition_makes, block_asks, block_makes}

-- no extent is free
pub claim_asks : {S : Type 0} (g : Ghosts S) (shape : Shape) (noted : SpaceNotes) (s : S) (def : TableDef) (row : Row) (fault : SpaceFault)
    → IfFull fault (λ cap. (owners : List Kind) → HoldsMap g shape s owners → AreRightNotes shape noted owners → HasNoFree owners)
    → IfFull fault (λ cap. (owners : List Kind) (forests : TableForests) → StandsTable g shape s def owners forests → AreRightNotes shape noted owners → NewBlockRunsFull shape (pages_of g s) def row owners)
claim_asks g shape noted s def row (Full cap) full = λ owners forests st notes.
    let none = full owners st.trees.map notes in
    NewBlockRunsFull.no_extent none (asks_full shape (pages_of g s) (ClaimBlock def.number 0) [] (block_asks shape s def.number 0 owners st.trees.map st.told none))
claim_asks g shape noted s def row (Store fault) full = tt

module _ {S : Type 0} {g : Ghosts S} {shape : Shape} {before mid_notes : SpaceNotes} {old mid : S} {def : TableDef} {block : ℕ} {tree : Tree} {line : BlockRow} (is : ClaimsNewBlock g shape before mid_notes old mid def block tree line) where
  -- ---- the claim

  -- the file grows to the end of the extent, where it ends before
  claim_grows : (owners : List Kind) → block < length owners → owner_of owners block ≡ Free
      → (length (g.state mid).work ≡ length (g.state old).work) ⊎ GrowsToExtent shape owners (with_block owners block def.number) (g.state old).work (g.state mid).work
  claim_grows owners low free = elim (cases_lt (length (g.state old).work) (first_page_of shape.extents shape.extent_pages (block + 1))) [
    | inl more ↦
        inr (record {
          longer = omega (arith, is.count, more);
          extent = block;
          was_free = free;
          is_taken = λ still. (let wrong : Block def.number ≡ Free = sym (get_or-set_same owners block (Block def.number) Free low) ∙ still in absurd cc);
          count = omega (arith, is.count, more);
        })
    | inr there ↦ inl (omega (arith, is.count, there))
  ]

  -- the extent becomes a block
  abbrev claimed : SpaceChange
  claimed = ClaimBlock def.number block

  -- each used index page stays as it is, since the map and page 0 alone are touched
  claim_makes : (owners : List Kind) (forests : TableForests) → StandsTable g shape old def owners forests → AreRightNotes shape before owners → MakesChange shape (pages_of g old) claimed (pages_of g mid)
  claim_makes owners forests st notes =
      let claim = is.claims owners forests st in
      let low = is.lowest owners st.trees.map notes in
      let stay : (p : ℕ) → IsUsedPage shape owners p → page_at (pages_of g mid) p ≡ page_at (pages_of g old) p = λ p used.
      (is.run.touches.others p (page_at (pages_of g old) p) (no_space_page shape p used.page) (record { is_told = st.told; within = used_page_there p st.trees.map used; bytes_are = refl })).bytes_are in
      block_makes shape old mid def.number block owners st.trees.map st.told is.run.works.steady.is_told low claim.stands.trees.map stay claim.longer (claim_grows owners low.within low.free)

  -- ---- its entry in the block map

  -- the entry of its line
  abbrev entered : SpaceChange
  entered = AddEntry (map_place def) (map_entry block 1 1)

  -- the tree of the handle is the block map
  entry_is : AddEntry (place_of_tree tree) (row_entry line) ≡ entered
  entry_is = ap (λ place. AddEntry place (row_entry line)) (same_tree_place (place_of_tree tree) (map_place def) is.root is.width) ∙ ap (λ (other : BlockRow). AddEntry (map_place def) (row_entry other)) is.line_is

  -- the block map has no room for it
  pub entry_asks : (row : Row) (noted : SpaceNotes) (new : S) (fault : SpaceFault)
      → IfFull fault (λ cap. (cap ≡ shape.extents) × ((owners : List Kind) (t : Forest) → StandsTree g shape mid tree owners t → FindsFull g shape mid_notes noted mid new tree (row_entry line) owners t))
      → IfFull fault (λ cap. (owners : List Kind) (forests : TableForests) → StandsTable g shape old def owners forests → AreRightNotes shape before owners → NewBlockRunsFull shape (pages_of g old) def row owners)
  entry_asks row noted new (Full cap) found = λ owners forests st notes.
      let claim = is.claims owners forests st in
      let now = with_block owners block def.number in
      let one = map_around tree def is.root is.width shape mid now forests block claim.stands in
      let asks : AsksTooMuch shape (pages_of g mid) entered =
      subst (AsksTooMuch shape (pages_of g mid)) entry_is (addition_asks shape mid_notes noted mid new tree (row_entry line) now forests.map one claim.stands.told (claim.notes notes) (found.1 now forests.map one)) in
      let rest = added_entries (block_listings def row block) in
      NewBlockRunsFull.at_entry block (is.lowest owners st.trees.map notes)
      (full_then shape (pages_of g old) (pages_of g mid) (claimed ∷ []) (entered ∷ rest) (one_change shape (pages_of g old) (pages_of g mid) claimed (claim_makes owners forests st notes))
      (asks_full shape (pages_of g mid) entered rest asks))
  entry_asks row noted new (Store fault) found = tt

  -- ---- its first row

  module _ {two_notes : SpaceNotes} {two : S} (enters : EntersNewBlock g shape mid_notes two_notes mid two tree line) where
    -- the block, and its entry
    both_made : (owners : List Kind) (forests : TableForests) → StandsTable g shape old def owners forests → AreRightNotes shape before owners
        → MakesChanges shape (pages_of g old) (claimed ∷ entered ∷ []) (pages_of g two)
    both_made owners forests st notes =
        let claim = is.claims owners forests st in
        let now = with_block owners block def.number in
        let one = map_around tree def is.root is.width shape mid now forests block claim.stands in
        let made : MakesChange shape (pages_of g mid) entered (pages_of g two) =
        subst (λ change. MakesChange shape (pages_of g mid) change (pages_of g two)) entry_is
        (addition_makes shape mid_notes two_notes mid two tree (row_entry line) now forests.map one claim.stands.told enters.run.works.steady.is_told (claim.notes notes) enters.run.touches (enters.adds now forests.map one)) in
        changes_then shape (pages_of g old) (pages_of g mid) (pages_of g two) (claimed ∷ []) (entered ∷ []) (one_change shape (pages_of g old) (pages_of g mid) claimed (claim_makes owners forests st notes))
        (one_change shape (pages_of g mid) (pages_of g two) entered made)

    -- what is said of the pages behind them
    behind_entry : {Said : Type 0} → ((owners : List Kind) (forests : TableForests) → StandsAround g shape two def owners forests block → IsOwnBlock shape owners def block → AreRightNotes shape two_notes owners → Said)
        → (owners : List Kind) (forests : TableForests) → StandsTable g shape old def owners forests → AreRightNotes shape before owners → Said
    behind_entry says owners forests st notes =
        let moves = where_entered is enters owners forests st in
        says moves.owners_now moves.forests_now moves.changes.stands (own_then is enters owners forests st)
        (moves.changes.trees.notes ((is.claims owners forests st).notes notes))

    -- it is filled
    pub new_makes : (row : Row) (new : S)
        → ((owners : List Kind) (forests : TableForests) → StandsAround g shape two def owners forests block → IsOwnBlock shape owners def block → AreRightNotes shape two_notes owners
        → MakesChanges shape (pages_of g two) (added_entries (block_listings def row block)) (pages_of g new))
        → (owners : List Kind) (forests : TableForests) → StandsTable g shape old def owners forests → AreRightNotes shape before owners
        → MakesChanges shape (pages_of g old) (block_changes def row block FreeExtent) (pages_of g new)
    new_makes row new makes owners forests st notes =
        let rest = added_entries (block_listings def row block) in
        changes_then shape (pages_of g old) (pages_of g two) (pages_of g new) (claimed ∷ entered ∷ []) rest (both_made owners forests st notes)
        (behind_entry makes owners forests st notes)

    -- or an entry asks for too much
    pub new_full : (row : Row) (fault : SpaceFault)
        → IfFull fault (λ cap. (owners : List Kind) (forests : TableForests) → StandsAround g shape two def owners forests block → IsOwnBlock shape owners def block → AreRightNotes shape two_notes owners
        → RunsFull shape (pages_of g two) (added_entries (block_listings def row block)))
        → IfFull fault (λ cap. (owners : List Kind) (forests : TableForests) → StandsTable g shape old def owners forests → AreRightNotes shape before owners → NewBlockRunsFull shape (pages_of g old) def row owners)
    new_full row (Full cap) full = λ owners forests st notes.
        let rest = added_entries (block_listings def row block) in
        NewBlockRunsFull.at_entry block (is.lowest owners st.trees.map notes)
        (full_then shape (pages_of g old) (pages_of g two) (claimed ∷ entered ∷ []) rest (both_made owners forests st notes)
        (behind_entry full owners forests st notes))
    new_full row (Store fault) full = tt
