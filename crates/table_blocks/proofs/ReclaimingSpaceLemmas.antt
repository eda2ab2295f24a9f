-- What giving a Free block back changes of space: its line goes, and its extent is free.
use Rattle.std.proofs.Common.{◌≡◌, ◌<◌, ◌^◌, ℕ, List, [], ◌∷◌, length, inr, refl, sym, subst, ◌∙◌}
use Rattle.std.specs.Prelude.{Contains, None}
use Rattle.mdc_words.specs.ByteOrder.{Entry}
use Rattle.mdc_ast.specs.TableLimits.{IsTableDef}
use Rattle.mdc_ast.specs.declared.definition.TableDef.{TableDef}
use Rattle.store_api.specs.Frame.{OnlyPage, Touches}
use Rattle.store_api.specs.RunsOverPages.{RunsOverPages}
use Rattle.store_api.specs.StoreState.{page_at}
use Rattle.store_api.specs.declared.pages.Pages.{Ghosts}
use Rattle.store_api.specs.declared.shape.Shape.{Shape}
use Rattle.extent_map.specs.Map.{HoldsMap, map_page_of}
use Rattle.extent_map.specs.Owners.{IsUsedPage, without_block}
use Rattle.extent_map.specs.declared.kind.Kind.{Kind}
use Rattle.extent_map.specs.declared.space_notes.SpaceNotes.{SpaceNotes}
use Rattle.extent_map.proofs.HoldsMapLemmas.{is_map_page}
use Rattle.extent_map.proofs.UsedPagesLemmas.{no_space_page, used_page_there}
use Rattle.entry_tree.specs.EntryBounds.{IsEntryOf}
use Rattle.entry_tree.specs.Forest.{Forest, leaf_entries}
use Rattle.entry_tree.specs.Pruning.{IsTreeOrMapPage}
use Rattle.entry_tree.specs.Standing.{StandsTree}
use Rattle.entry_tree.specs.declared.tree.Tree.{Tree}
use Rattle.block_map.specs.MapChanges.{BreaksLeaving, LeavesMap}
use Rattle.block_map.specs.MapLines.{free_blocks}
use Rattle.block_map.specs.MapRows.{row_entry}
use Rattle.block_map.proofs.MapLinesLemmas.{row_block}
use Rattle.table_trees.specs.SpaceChanges.{MakesChange, MakesChanges}
use Rattle.table_trees.specs.SpaceChanges.SpaceChange.{GiveBlock, RemoveEntry}
use Rattle.table_trees.specs.TableTrees.{map_place, place_of_tree}
use Rattle.table_trees.proofs.SpaceChainsLemmas.{changes_then, one_change}
use Rattle.table_trees.proofs.SpaceStepsLemmas.{giving_makes, removal_makes}
use Rattle.table_trees.proofs.TableTreesLemmas.{same_tree_place}
use Rattle.mdc_sound.specs.StandingTable.{StandsTable, TableForests, pages_of}
use Rattle.mdc_sound.proofs.MappedBlocksLemmas.{small_block}
use Rattle.table_blocks.specs.BlockNow.{free_line}
use Rattle.table_blocks.specs.BlockSteps.{reclaimed_changes}
use Rattle.table_blocks.proofs.ClosingLemmas.{row_of_block}
use Rattle.table_blocks.proofs.LineStepLemmas.{map_around}
use Rattle.table_blocks.proofs.OpeningLemmas.{around_block, free_now}
use Rattle.table_blocks.proofs.ReclaimingLemmas.{own_mid, unnames}
use Rattle.table_blocks.proofs.WithEntryLemmas.{there_with}

module _ {S : Type 0} {g : Ghosts S} (def : TableDef) (defined : IsTableDef def.number def) (tree : Tree) (root : tree.root ≡ def.roots.map) (width : tree.width ≡ 7) (shape : Shape) (before : SpaceNotes) (old : S) (block : ℕ)
    (mid_notes : SpaceNotes) (mid : S) (leaves : (owners : List Kind) (t : Forest) → StandsTree g shape old tree owners t → LeavesMap g shape before mid_notes mid tree block owners t)
    (count : length (g.state mid).work ≡ length (g.state old).work) (first : RunsOverPages g (IsTreeOrMapPage g shape old tree) (IsTreeOrMapPage g shape old tree) (BreaksLeaving g shape old tree block) old mid None) where
  -- the row that left was that of a Free block
  pub line_gone : (owners : List Kind) (forests : TableForests) → StandsTable g shape old def owners forests → Contains (free_blocks forests.map) block
      → MakesChange shape (pages_of g old) (RemoveEntry (map_place def) (row_entry (free_line block))) (pages_of g mid)
  line_gone owners forests st free =
      let around = around_block shape old def owners forests defined st block in
      let one = map_around tree def root width shape old owners forests block around in
      let now = free_now shape old def owners forests defined st block free in
      let left = leaves owners forests.map one in
      let there : IsEntryOf (row_entry left.0) (leaf_entries forests.map) = subst (IsEntryOf (row_entry left.0)) (sym left.2.takes) (there_with (row_entry left.0) (leaf_entries left.2.after)) in
      let same : row_entry (free_line block) ≡ row_entry left.0 =
      row_of_block shape old def owners forests (free_line block) (row_entry left.0) block around now.own.within now.line refl there (row_block left.0 (subst (λ b. b < 2 ^ 32) (sym left.1) (small_block shape block now.own.within)) ∙ left.1) in
      let made = removal_makes shape before mid_notes old mid tree (row_entry left.0) owners forests.map one st.told first.works.steady.is_told count first.touches left.2 in
      subst (λ (x : Entry). MakesChange shape (pages_of g old) (RemoveEntry (map_place def) x) (pages_of g mid)) (sym same)
      (subst (λ place. MakesChange shape (pages_of g old) (RemoveEntry place (row_entry left.0)) (pages_of g mid)) (same_tree_place (place_of_tree tree) (map_place def) root width) made)

  module _ (new : S) (gives : (owners : List Kind) → HoldsMap g shape mid owners → HoldsMap g shape new (without_block owners block)) (count_now : length (g.state new).work ≡ length (g.state mid).work)
      (touched : Touches g (OnlyPage (map_page_of block)) mid new) (told : (g.state new).is_told ≡ (g.state mid).is_told) where
    -- each used index page stays as it is, since a page of the map alone is touched
    pub reclaiming_space : (owners : List Kind) (forests : TableForests) → StandsTable g shape old def owners forests → Contains (free_blocks forests.map) block
        → MakesChanges shape (pages_of g old) (reclaimed_changes def block) (pages_of g new)
    reclaiming_space owners forests st free =
        let u = unnames def defined tree root width shape before old block mid_notes mid leaves count first owners forests st free in
        let own = own_mid def defined tree root width shape before old block mid_notes mid leaves count first owners forests st free in
        let map = u.changes.stands.trees.map in
        let stay : (p : ℕ) → IsUsedPage shape u.owners_now p → page_at (pages_of g new) p ≡ page_at (pages_of g mid) p = λ p used.
        (touched.others p (page_at (pages_of g mid) p) (λ is. no_space_page shape p used.page (inr (is_map_page shape block p own.within is))) (record { is_told = u.changes.stands.told; within = used_page_there p map used; bytes_are = refl })).bytes_are in
        let given = giving_makes shape mid new def.number block u.owners_now map u.changes.stands.told told own.owned (gives u.owners_now map) stay count_now in
        changes_then shape (pages_of g old) (pages_of g mid) (pages_of g new) (RemoveEntry (map_place def) (row_entry (free_line block)) ∷ []) (GiveBlock def.number block ∷ [])
        (one_change shape (pages_of g old) (pages_of g mid) (RemoveEntry (map_place def) (row_entry (free_line block))) (line_gone owners forests st free))
        (one_change shape (pages_of g mid) (pages_of g new) (GiveBlock def.number block) given)
