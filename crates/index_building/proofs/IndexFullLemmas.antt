-- When a CREATE INDEX runs full: its tree, or the entry of a row, asks for more than there is.
use Rattle.std.proofs.Common.{◌≡◌, ◌<◌, ◌∙◌, ℕ, List, [], ◌∷◌, Some, length, map, refl, ap, arith, sym, subst}
use Rattle.std.specs.Prelude.{IfSome, IsPermutation, IsTrue, slice_get}
use Rattle.std.specs.List.{AllZip}
use Rattle.std.proofs.lemmas.List.Sorted.{IsPermutation-trans}
use Rattle.mdc_ast.specs.declared.definition.IndexDef.{IndexDef}
use Rattle.mdc_ast.specs.declared.definition.TableDef.{TableDef}
use Rattle.mdc_ast.specs.Definitions.{Definitions, def_at, with_index}
use Rattle.store_api.specs.declared.pages.Pages.{Ghosts}
use Rattle.store_api.specs.declared.shape.Shape.{Shape}
use Rattle.extent_map.specs.Damages.{IfFull}
use Rattle.extent_map.specs.Map.{HoldsMap}
use Rattle.extent_map.specs.Owners.{AreRightNotes}
use Rattle.extent_map.specs.declared.fault.SpaceFault.{SpaceFault}
use Rattle.extent_map.specs.declared.fault.SpaceFault.TheVariants.{Full, Store}
use Rattle.extent_map.specs.declared.kind.Kind.{Kind}
use Rattle.extent_map.specs.declared.space_notes.SpaceNotes.{SpaceNotes}
use Rattle.entry_tree.specs.Standing.{with_pages}
use Rattle.table_trees.specs.SpaceChanges.{AsksTooMuch, MakesChanges, RunsFull}
use Rattle.table_trees.specs.SpaceChanges.SpaceChange.{AddEntry, MakeTree}
use Rattle.table_trees.specs.TableTrees.{TreePlace, record_entry, record_place, tree_places}
use Rattle.table_trees.specs.ToldPages.{HasTree, PageList}
use Rattle.table_trees.proofs.SpaceChainsLemmas.{asks_full, full_then, same_space_itself}
use Rattle.table_trees.proofs.ToldPagesLemmas.{map_of_told, told_of_map}
use Rattle.mdc_sound.specs.Placing.{table_spots}
use Rattle.mdc_sound.specs.RunningFull.{IndexRunsFull, indexing_changes}
use Rattle.mdc_sound.specs.SoundDatabase.{KeepAllRules}
use Rattle.mdc_sound.specs.SpaceRules.{DatabaseView, IsBlockMapSound}
use Rattle.mdc_sound.specs.TablePages.{DefinesTable}
use Rattle.mdc_sound.specs.TableRows.{PlacedRow, rows_in_table}
use Rattle.mdc_sound.specs.TableViews.{TableView, trees_of_table}
use Rattle.mdc_sound.proofs.SpaceRulesLemmas.{same_table, there_at}
use Rattle.mdc_sound.proofs.StandingTableLemmas.{map_of_rules}
use Rattle.mdc_sound.proofs.TableSpotRowsLemmas.{rows_of_spots}
use Rattle.record_index.specs.OneIndex.{AmongTrees}
use Rattle.record_index.specs.RecordIndexes.{entry_in_record_index, place_of_record_index}
use Rattle.record_index.proofs.IndexesLemmas.{parts_are, place_of_which}
use Rattle.stored_catalog.specs.NewTables.{empty_tree}
use Rattle.stored_catalog.specs.StoredDefinitions.{AreStored}
use Rattle.stored_catalog.specs.TreeRuns.{MakesTrees}
use Rattle.stored_catalog.proofs.LeftDefinitionsLemmas.{stored_at}
use Rattle.stored_catalog.proofs.OpenedTableLemmas.{defined_there}
use Rattle.index_building.specs.FilledIndexes.{entering_changes}
use Rattle.index_building.specs.IndexSteps.{AreRowsOf, ByRowNumber}
use Rattle.index_building.specs.IndexViews.{rooted_index}
use Rattle.index_building.proofs.AddingIndexRunsLemmas.{alone}
use Rattle.index_building.proofs.PutDefinitionsLemmas.{to_there}
use Rattle.index_building.proofs.RemovedLemmas.{at-behind}

-- the table that a view has in a place is the one whose rows are given
pub rows_there : (shape : Shape) (pages : PageList) (view : DatabaseView) (t : ℕ) (rows : List PlacedRow) (table : TableView) → slice_get view.places t ≡ Some (Some table) → AreRowsOf shape pages view t rows
    → IsPermutation rows (rows_in_table shape pages table.def table.map)
rows_there shape pages view t rows table at are =
    let same : are.table ≡ table = same_table are.table table (sym are.there ∙ at) in subst (λ (x : TableView). IsPermutation rows (rows_in_table shape pages x.def x.map)) same are.same

-- the changes of the new index are those of its rows
pub entering_are : (def : TableDef) (index : IndexDef) (root : ℕ) (rows : List PlacedRow)
    → entering_changes (with_index def (rooted_index index root)) (length def.indexes) rows ≡ map (λ (placed : PlacedRow). AddEntry (record_place def (rooted_index index root)) (record_entry def.columns index.parts placed.row.values placed.rid)) rows
entering_are def index root rows =
    let which = rooted_index index root in
    let now = with_index def which in
    let n = length def.indexes in
    let at : slice_get now.indexes n ≡ Some which = at-behind def.indexes (which ∷ []) n 0 which (omega arith) refl in
    ap (λ p. map (λ (placed : PlacedRow). AddEntry p (entry_in_record_index now n placed.row.values placed.rid)) rows) (place_of_which now n which at)
    ∙ ap (λ parts. map (λ (placed : PlacedRow). AddEntry (record_place def which) (record_entry def.columns parts placed.row.values placed.rid)) rows) (parts_are now n n which refl at)

-- the changes of a CREATE INDEX run full
pub index_full : (shape : Shape) (pages : PageList) (view : DatabaseView) (t : ℕ) (def : TableDef) (index : IndexDef) (rows : List PlacedRow) (root : ℕ) → KeepAllRules shape pages view → t < 16 → DefinesTable pages t def
    → AreRowsOf shape pages view t rows → ByRowNumber rows → RunsFull shape pages (indexing_changes def (rooted_index index root) rows) → IndexRunsFull shape pages def index
index_full shape pages view t def index rows root keeps low defines are rising full =
    let found = defined_there shape pages view t def keeps low defines in
    let table = found.table in
    let held = there_at (λ (other : TableView). AllZip (HasTree pages) (tree_places other.def) (trees_of_table other)) view.places t table found.there keeps.first.rule4 in
    let sound = there_at (λ (other : TableView). IsBlockMapSound shape view.owners other.def other.map) view.places t table found.there keeps.first.rule6 in
    subst (λ d. IndexRunsFull shape pages d index) found.same (record {
      root = root;
      spots = table_spots shape pages table.def view.owners table.map;
      rows = rows;
      shows = record { owners = view.owners; map_tree = table.map; has_extents = map_of_rules shape pages view keeps.first; has_map = held.0; spots_are = refl };
      same_rows = IsPermutation-trans rows (rows_in_table shape pages table.def table.map) _ (rows_there shape pages view t rows table found.there are) (rows_of_spots shape pages table.def view.owners table.map sound);
      rising = rising;
      full = subst (λ d. RunsFull shape pages (indexing_changes d (rooted_index index root) rows)) (sym found.same) full;
    })

module _ {S : Type 0} (g : Ghosts S) (shape : Shape) (before : SpaceNotes) (old : S) (defs : Definitions) (t : ℕ) (low : t < 16) (def : TableDef) (stands : def_at defs t ≡ Some def) (index : IndexDef) (rows : List PlacedRow) where
  -- it says of pages that are sound that it runs full
  abbrev pub SaysFull : Type 0
  SaysFull =
      IsTrue (g.state old).is_told → AreStored (g.state old).work defs → (view : DatabaseView) → KeepAllRules shape (g.state old).work view → AreRightNotes shape before view.owners
      → AreRowsOf shape (g.state old).work view t rows → ByRowNumber rows → IfSome (def_at defs t) (λ d. IndexRunsFull shape (g.state old).work d index)

  -- its tree asks for too much
  pub making_full : (fault : SpaceFault) → IfFull fault (λ cap. (cap ≡ shape.extents) × ((owners : List Kind) → HoldsMap g shape old owners → AreRightNotes shape before owners → (place : TreePlace) → AsksTooMuch shape (g.state old).work (MakeTree place)))
      → IfFull fault (λ cap. (cap ≡ shape.extents) × SaysFull)
  making_full (Store fault) says = tt
  making_full (Full most) says = (
    says.0,
    λ told stored view keeps right are rising.
        to_there (λ d. IndexRunsFull shape (g.state old).work d index) (def_at defs t) def stands
        (index_full shape (g.state old).work view t def index rows 0 keeps low (stored_at (g.state old).work defs t def stored stands) are rising
        (asks_full shape (g.state old).work (MakeTree (record_place def (rooted_index index 0))) _ (says.1 view.owners (told_of_map g old told shape view.owners (map_of_rules shape (g.state old).work view keeps.first)) right (record_place def (rooted_index index 0))))),
  )

  module _ (mid : SpaceNotes) (middle : S) (root : ℕ) (told_one : (g.state middle).is_told ≡ (g.state old).is_told)
      (made : (owners : List Kind) → HoldsMap g shape old owners → MakesTrees g shape before mid old middle owners (record_place def (rooted_index index root) ∷ [])) where
    place_is : place_of_record_index (with_index def (rooted_index index root)) (length def.indexes) ≡ record_place def (rooted_index index root)
    place_is = place_of_which (with_index def (rooted_index index root)) (length def.indexes) (rooted_index index root) (at-behind def.indexes (rooted_index index root ∷ []) (length def.indexes) 0 (rooted_index index root) (omega arith) refl)

    -- or an entry does
    entries_full : (fault : SpaceFault)
        → IfFull fault (λ cap. (cap ≡ shape.extents) × AmongTrees g shape middle (place_of_record_index (with_index def (rooted_index index root)) (length def.indexes)) (λ owners places trees i. IsTrue (g.state middle).is_told → AreRightNotes shape mid owners
        → RunsFull shape (g.state middle).work (entering_changes (with_index def (rooted_index index root)) (length def.indexes) rows)))
        → IfFull fault (λ cap. (cap ≡ shape.extents) × SaysFull)
    entries_full (Store fault) says = tt
    entries_full (Full most) says = (
      says.0,
      λ told stored view keeps right are rising.
          let held : HoldsMap g shape old view.owners = told_of_map g old told shape view.owners (map_of_rules shape (g.state old).work view keeps.first) in
          let it = made view.owners held in
          let place = record_place def (rooted_index index root) in
          let owners_one = with_pages shape view.owners (root ∷ []) in
          let told_mid : IsTrue (g.state middle).is_told = told_one ∙ told in
          let first : MakesChanges shape (g.state old).work (MakeTree place ∷ []) (g.state middle).work =
          record { reached = (g.state middle).work; goes = it.goes right; same = same_space_itself shape (g.state middle).work owners_one (map_of_told g middle told_mid shape owners_one it.extents) } in
          let full = says.1 owners_one (place ∷ []) (empty_tree root ∷ []) 0 (alone g shape old defs t def stands index rows before mid middle root made view.owners held) (ap Some (sym place_is)) told_mid (it.notes right) in
          to_there (λ d. IndexRunsFull shape (g.state old).work d index) (def_at defs t) def stands
          (index_full shape (g.state old).work view t def index rows root keeps low (stored_at (g.state old).work defs t def stored stands) are rising
          (full_then shape (g.state old).work (g.state middle).work (MakeTree place ∷ []) _ first (subst (RunsFull shape (g.state middle).work) (entering_are def index root rows) full))),
    )

    pub filling_full : (filled : TableDef) (n : ℕ) → filled ≡ with_index def (rooted_index index root) → n ≡ length def.indexes → (fault : SpaceFault)
        → IfFull fault (λ cap. (cap ≡ shape.extents) × AmongTrees g shape middle (place_of_record_index filled n) (λ owners places trees i. IsTrue (g.state middle).is_told → AreRightNotes shape mid owners
        → RunsFull shape (g.state middle).work (entering_changes filled n rows)))
        → IfFull fault (λ cap. (cap ≡ shape.extents) × SaysFull)
    filling_full filled n is count fault says =
        let Says : TableDef → ℕ → Type 0 =
        λ d k. IfFull fault (λ cap. (cap ≡ shape.extents) × AmongTrees g shape middle (place_of_record_index d k) (λ owners places trees i. IsTrue (g.state middle).is_told → AreRightNotes shape mid owners → RunsFull shape (g.state middle).work (entering_changes d k rows))) in
        entries_full fault (subst (λ d. Says d (length def.indexes)) is (subst (Says filled) count says))
