-- A record index is added to a sound database: its tree is made and filled, its table page is written, and all else stays.
use Rattle.std.proofs.Common.{◌≡◌, ◌≢◌, ◌<◌, ◌≤◌, ◌+◌, ◌∙◌, ℕ, List, [], ◌∷◌, ◌++◌, Option, Some, None, length, map, set, sum_by, refl, ap, arith, sym, subst, get_or-set_other, inl, inr}
use Rattle.std.specs.Prelude.{AllPairs, IsPermutation, IsTrue, slice_get}
use Rattle.std.specs.List.{AllByRecursion, AllZip, FoldsTo}
use Rattle.std.proofs.lemmas.Bool.{cases_eq, cases_lt}
use Rattle.std.proofs.lemmas.List.{length-set, map-append}
use Rattle.std.proofs.lemmas.List.Sums.{sum_by-cons}
use Rattle.std.proofs.lemmas.Option.{same_Some}
use Rattle.mdc_ast.specs.Definitions.{with_index}
use Rattle.mdc_ast.specs.declared.definition.IndexDef.{IndexDef}
use Rattle.mdc_ast.specs.declared.definition.TableDef.{TableDef}
use Rattle.mdc_ast.specs.Database.{Database, PlainTable, changed_at}
use Rattle.mdc_ast.specs.TableLimits.{IsTableDef}
use Rattle.store_api.specs.Frame.{Touches}
use Rattle.store_api.specs.declared.pages.Pages.{Ghosts}
use Rattle.store_api.specs.declared.shape.Shape.{Shape}
use Rattle.extent_map.specs.Map.{HoldsMap}
use Rattle.extent_map.specs.Owners.{AreRightNotes, IsUsedPage, extent_of, owner_of}
use Rattle.extent_map.specs.declared.kind.Kind.{Kind}
use Rattle.extent_map.specs.declared.kind.Kind.TheVariants.{Block}
use Rattle.extent_map.specs.declared.space_notes.SpaceNotes.{SpaceNotes}
use Rattle.extent_map.proofs.UsedPagesLemmas.{claimable-not_used}
use Rattle.entry_tree.specs.Forest.{Forest, leaf_entries, times}
use Rattle.entry_tree.specs.Standing.{IsIdlePage, IsMapSpace, with_pages}
use Rattle.entry_tree.proofs.ForestLemmas.{once_least, once_other}
use Rattle.entry_tree.proofs.StandingLemmas.{extent_not_space}
use Rattle.entry_tree.proofs.UsedPagesLemmas.{claims_idle, claims_used, used_after, used_not_idle}
use Rattle.table_page.specs.TablePage.{table_page}
use Rattle.table_trees.specs.SpaceChanges.{IsSameSpace, MakesChange, MakesChanges}
use Rattle.table_trees.specs.SpaceChanges.SpaceChange.{AddEntry, MakeTree}
use Rattle.table_trees.specs.TableTrees.{TreePlace, record_entry, record_place, tree_places}
use Rattle.table_trees.specs.ToldPages.{PageList}
use Rattle.table_trees.specs.TreesBeside.{GrowsPages, IsSpaceOfTrees, KeepsOwners, StandTrees, table_of_block}
use Rattle.table_trees.proofs.KeptOwnersLemmas.{idle_no_block, keeps_claims}
use Rattle.table_trees.proofs.PageCountLemmas.{grows_pages_with}
use Rattle.table_trees.proofs.SideBySideLemmas.{trees_still}
use Rattle.table_trees.proofs.TreeListsLemmas.{AllZip-both, times-one}
use Rattle.mdc_sound.specs.BlockRules.{AreNumbersSound, AreSoundIndexes, AreTableIndexesSound, AreTableKeysSound, AreUniqueKeysSound, IsSoundIndex, IsUniqueSound}
use Rattle.mdc_sound.specs.RunningFull.{indexing_changes}
use Rattle.mdc_sound.specs.SoundDatabase.{KeepAllRules, KeepFirstRules}
use Rattle.mdc_sound.specs.SpaceRules.{DatabaseView, tables_there}
use Rattle.mdc_sound.specs.StandingTable.{IsBlockPageOf, pages_of}
use Rattle.mdc_sound.specs.StandsForDatabase.{HoldsPlace, PagesStandFor, rootless, rootless_index}
use Rattle.mdc_sound.specs.TablePages.{DefinesTable}
use Rattle.mdc_sound.specs.TableRows.{PlacedRow, rows_in_table}
use Rattle.mdc_sound.specs.TableViews.{TableView, trees_of_table}
use Rattle.block_map.specs.MapLines.{pending_blocks}
use Rattle.mdc_sound.proofs.SpaceRulesLemmas.{there_at}
use Rattle.mdc_sound.proofs.StandingTableLemmas.{block_below, block_kept, number_of_place}
use Rattle.mdc_sound.proofs.TableRowsLemmas.{KeepsBlockPages}
use Rattle.record_index.specs.OneIndex.{AmongTrees}
use Rattle.record_index.specs.RecordIndexes.{entry_in_record_index, place_of_record_index}
use Rattle.record_index.proofs.IndexesLemmas.{parts_are, place_of_which}
use Rattle.stored_catalog.specs.AroundTable.{StandsBut, view_with, with_owners}
use Rattle.stored_catalog.specs.NewTables.{empty_tree}
use Rattle.stored_catalog.specs.StoredDefinitions.{with_stored}
use Rattle.stored_catalog.specs.TreeRuns.{IsMakingPage, MakesTrees}
use Rattle.stored_catalog.proofs.AroundDroppingLemmas.{trees_beside}
use Rattle.stored_catalog.proofs.AroundTableLemmas.{ChangesAround, around_kept, around_place_kept, page_around, page_written, root_grown, stands_for_but}
use Rattle.stored_catalog.proofs.ClosedTableLemmas.{IsWholeTable, KeepAllButKeys, closed_but_keys, closed_with}
use Rattle.stored_catalog.proofs.MakingTreesLemmas.{block_back, goes_then}
use Rattle.stored_catalog.proofs.OpenedTableLemmas.{IsDefinedThere, defined_there, opened_dropping}
use Rattle.index_building.specs.FilledIndexes.{FillsIndex, entering_changes}
use Rattle.index_building.specs.IndexSteps.{AddsIndex}
use Rattle.index_building.specs.IndexViews.{plain_with_index, rooted_index, view_with_index}
use Rattle.index_building.proofs.AddedIndexLemmas.{indexes_differ_with, places_with, sound_in_order, stands_turned, trees_with}
use Rattle.index_building.proofs.AroundIndexLemmas.{indexes_of, set_twice, tables_differ_still, trees_around}
use Rattle.index_building.proofs.FilledIndexesLemmas.{all_push}
use Rattle.index_building.proofs.OtherIndexesLemmas.{sound_indexes_other}
use Rattle.index_building.proofs.PairsInOrderLemmas.{unique_in_order}
use Rattle.index_building.proofs.RemovedLemmas.{at-behind}
use Rattle.index_building.proofs.StandingForLemmas.{held_other, held_there, put_is_changed}
use Rattle.index_building.proofs.WholeTableLemmas.{rows_same, whole_of}

-- what the filling of a record index of a definition made of trees side by side
pub record WasFilled {S : Type 0} (g : Ghosts S) (shape : Shape) (mid noted : SpaceNotes) (middle filled : S) (rows : List PlacedRow) (now : TableDef) (n : ℕ) : Type 0 where
  pub fills : AmongTrees g shape middle (place_of_record_index now n) (FillsIndex g shape mid noted filled now n rows)
  pub makes : AmongTrees g shape middle (place_of_record_index now n) (λ owners places trees i. IsTrue (g.state middle).is_told → AreRightNotes shape mid owners
      → FoldsTo (MakesChange shape) (g.state middle).work (entering_changes now n rows) (g.state filled).work)
  pub grows : AmongTrees g shape middle (place_of_record_index now n) (λ owners places trees i. GrowsPages g shape middle filled)
  pub touched : Touches g (IsSpaceOfTrees g shape middle (place_of_record_index now n ∷ [])) middle filled

-- it is that of the definition and the place that these are
pub filled_of : {S : Type 0} (g : Ghosts S) (shape : Shape) (mid noted : SpaceNotes) (middle filled : S) (rows : List PlacedRow) (now one : TableDef) (n k : ℕ) → one ≡ now → k ≡ n
    → WasFilled g shape mid noted middle filled rows one k → WasFilled g shape mid noted middle filled rows now n
filled_of g shape mid noted middle filled rows now one n k is count was =
    subst (λ d. WasFilled g shape mid noted middle filled rows d n) is (subst (WasFilled g shape mid noted middle filled rows one) count was)

-- what the making of a record index goes from and to: its tree is made, filled, and the table page is written
pub record MakesIndex {S : Type 0} (g : Ghosts S) (shape : Shape) (before mid noted : SpaceNotes) (old middle filled last : S) (t : ℕ) (def : TableDef) (index : IndexDef) (root : ℕ) (rows : List PlacedRow) : Type 0 where
  pub told : IsTrue (g.state old).is_told
  pub low : t < 16
  pub made : (owners : List Kind) → HoldsMap g shape old owners → MakesTrees g shape before mid old middle owners (record_place def (rooted_index index root) ∷ [])
  pub touched_one : Touches g (IsMapSpace g shape old) old middle
  pub told_one : (g.state middle).is_told ≡ (g.state old).is_told
  pub longer_one : length (g.state old).work ≤ length (g.state middle).work
  pub fill : WasFilled g shape mid noted middle filled rows (with_index def (rooted_index index root)) (length def.indexes)
  pub told_two : (g.state filled).is_told ≡ (g.state middle).is_told
  pub longer_two : length (g.state middle).work ≤ length (g.state filled).work
  pub touched : Touches g (IsMakingPage g shape old t) old last
  pub saved : pages_of g last ≡ with_stored (pages_of g filled) t (Some (with_index def (rooted_index index root)))
  pub defines : DefinesTable (pages_of g old) t def
  pub limits : IsTableDef t (with_index def (rooted_index index root))

module _ {S : Type 0} (g : Ghosts S) (shape : Shape) (before mid noted : SpaceNotes) (old middle filled last : S) (t : ℕ) (def : TableDef) (index : IndexDef) (root : ℕ) (rows : List PlacedRow)
    (m : MakesIndex g shape before mid noted old middle filled last t def index root rows) (view : DatabaseView) (keeps : KeepAllRules shape (pages_of g old) view) where
  pub found : IsDefinedThere view t def
  found = defined_there shape (pages_of g old) view t def keeps m.low m.defines

  abbrev table : TableView
  table = found.table

  abbrev which : IndexDef
  which = rooted_index index root

  abbrev now : TableDef
  now = with_index def which

  abbrev place : TreePlace
  place = record_place def which

  number : table.def.number ≡ t
  number = (number_of_place shape (pages_of g old) view keeps.first t table found.there).1

  abbrev view_but : DatabaseView
  view_but = view_with view view.owners t None

  abbrev trees : List Forest
  trees = trees_of_table table

  abbrev places : List TreePlace
  places = tree_places table.def

  stands_first : StandsBut shape (pages_of g old) view_but t places trees
  stands_first = opened_dropping shape (pages_of g old) view t table keeps found.there

  all_stand : StandTrees g shape old view.owners places trees
  all_stand = trees_beside g old m.told shape view_but t places trees stands_first

  -- its tree is made
  made : MakesTrees g shape before mid old middle view.owners (place ∷ [])
  made = m.made view.owners all_stand.map

  abbrev owners_one : List Kind
  owners_one = with_pages shape view.owners (root ∷ [])

  abbrev empty : Forest
  empty = empty_tree root

  kept_one : KeepsOwners shape view.owners trees owners_one (empty ∷ trees)
  kept_one = keeps_claims shape view.owners (root ∷ []) trees (empty ∷ trees) all_stand.map.count made.claims (λ p. omega (arith, sum_by-cons (times p) empty trees))

  off_space : (p : ℕ) → 0 < sum_by (times p) trees → IsMapSpace g shape old p → ⊥
  off_space p l mine = elim (mine view.owners all_stand.map) [ inl space ↦ extent_not_space shape p (all_stand.used p l).page space | inr idle ↦ used_not_idle shape view.owners p (all_stand.used p l) idle ]

  stand_one : StandTrees g shape middle owners_one (place ∷ places) (empty ∷ trees)
  stand_one = record {
    map = made.extents;
    held = (made.held.0, trees_still (IsMapSpace g shape old) old middle places trees all_stand.held m.touched_one m.told_one off_space);
    used = λ p l. elim (cases_lt 0 (sum_by (times p) trees)) [
      | inl some ↦ used_after shape view.owners (root ∷ []) p (all_stand.used p some)
      | inr none ↦ elim (cases_eq p root) [
        | inl here ↦ claims_used shape view.owners (root ∷ []) p all_stand.map.count made.claims (inl here)
        | inr other ↦ absurd (omega (arith, l, none, once_other p root other, sum_by-cons (times p) empty trees))
      ]
    ];
    apart = λ p. elim (cases_eq p root) [
      | inl here ↦ omega (arith, in_none p here, once_least p root, sum_by-cons (times p) empty trees)
      | inr other ↦ omega (arith, once_other p root other, all_stand.apart p, sum_by-cons (times p) empty trees)
    ];
  }
    where
      in_none : (p : ℕ) → p ≡ root → sum_by (times p) trees ≡ 0
      in_none p here = elim (cases_lt 0 (sum_by (times p) trees)) [
        | inl some ↦ absurd (claimable-not_used shape view.owners root made.claims.0 (subst (IsUsedPage shape view.owners) here (all_stand.used p some)))
        | inr not ↦ omega arith
      ]

  around_one : ChangesAround shape (pages_of g old) (pages_of g middle) view.owners t trees owners_one (place ∷ places) (empty ∷ trees)
  around_one =
      trees_around g shape old middle view_but t trees owners_one (place ∷ places) (empty ∷ trees) (IsMapSpace g shape old) m.told m.told_one
      (root_grown g shape old middle m.told stands_first.root m.longer_one (grows_pages_with shape old middle view.owners (root ∷ []) made.claims made.grows)) stand_one
      (λ p l. elim (cases_eq p root) [
        | inl here ↦ inr (claims_idle shape view.owners (root ∷ []) p made.claims (inl here))
        | inr other ↦ inl (omega (arith, l, once_other p root other, sum_by-cons (times p) empty trees))
      ]) kept_one m.touched_one
      (λ p space. elim (space view.owners all_stand.map) [ inl map_page ↦ inr (inr (inl map_page)) | inr idle ↦ inr (inr (inr (inl idle))) ])

  stands_one : StandsBut shape (pages_of g middle) (with_owners view_but owners_one) t (place ∷ places) (empty ∷ trees)
  stands_one = around_kept shape (pages_of g old) (pages_of g middle) view_but t places trees owners_one (place ∷ places) (empty ∷ trees) stands_first around_one

  -- and filled
  at_which : slice_get now.indexes (length def.indexes) ≡ Some which
  at_which = at-behind def.indexes (which ∷ []) (length def.indexes) 0 which (omega arith) refl

  place_is : place_of_record_index now (length def.indexes) ≡ place
  place_is = place_of_which now (length def.indexes) which at_which

  fills : FillsIndex g shape mid noted filled now (length def.indexes) rows owners_one (place ∷ places) (empty ∷ trees) 0
  fills = m.fill.fills owners_one (place ∷ places) (empty ∷ trees) 0 stand_one (ap Some (sym place_is))

  was_empty : leaf_entries fills.was ≡ []
  was_empty = ap leaf_entries (same_Some fills.was empty (sym fills.there))

  abbrev tree : Forest
  tree = fills.is

  abbrev owners_now : List Kind
  owners_now = fills.owners_now

  entries : IsSoundIndex now rows [] which tree
  entries = fills.entries which at_which was_empty

  told_mid : IsTrue (g.state middle).is_told
  told_mid = m.told_one ∙ m.told

  one_stands : StandTrees g shape middle owners_one (place ∷ []) (empty ∷ [])
  one_stands = record {
    map = made.extents;
    held = (made.held.0, tt);
    used = λ p l. stand_one.used p (omega (arith, l, sum_by-cons (times p) empty trees, times-one p empty));
    apart = λ p. omega (arith, stand_one.apart p, sum_by-cons (times p) empty trees, times-one p empty);
  }

  touched_two : Touches g (IsSpaceOfTrees g shape middle (place ∷ [])) middle filled
  touched_two = subst (λ q. Touches g (IsSpaceOfTrees g shape middle (q ∷ [])) middle filled) place_is m.fill.touched

  around_two : ChangesAround shape (pages_of g middle) (pages_of g filled) owners_one t (empty ∷ trees) owners_now (place ∷ places) (tree ∷ trees)
  around_two =
      trees_around g shape middle filled (with_owners view_but owners_one) t (empty ∷ trees) owners_now (place ∷ places) (tree ∷ trees) (IsSpaceOfTrees g shape middle (place ∷ [])) told_mid m.told_two
      (root_grown g shape middle filled told_mid stands_one.root m.longer_two (m.fill.grows owners_one (place ∷ places) (empty ∷ trees) 0 stand_one (ap Some (sym place_is)))) fills.changes.stand
      fills.changes.pages fills.changes.kept touched_two
      (λ p mine. elim (mine owners_one (empty ∷ []) one_stands) [
        | inl here ↦ inl (omega (arith, here, sum_by-cons (times p) empty trees, times-one p empty))
        | inr more ↦ elim more [ inl space ↦ inr (inr (inl space)) | inr idle ↦ inr (inr (inr (inl idle))) ]
      ])

  abbrev more : TableView
  more = view_with_index table which tree

  stands_two : StandsBut shape (pages_of g filled) (with_owners view_but owners_now) t (place ∷ places) (tree ∷ trees)
  stands_two = around_kept shape (pages_of g middle) (pages_of g filled) (with_owners view_but owners_one) t (place ∷ places) (empty ∷ trees) owners_now (place ∷ places) (tree ∷ trees) stands_one around_two

  same_place : record_place table.def which ≡ place
  same_place = ap (λ d. record_place d which) found.same

  stands_then : StandsBut shape (pages_of g filled) (with_owners view_but owners_now) t (tree_places more.def) (trees_of_table more)
  stands_then =
      subst (λ all. StandsBut shape (pages_of g filled) (with_owners view_but owners_now) t all (trees_of_table more)) (ap (λ p. places ++ p ∷ []) (sym same_place) ∙ sym (places_with table.def which))
      (subst (StandsBut shape (pages_of g filled) (with_owners view_but owners_now) t (places ++ place ∷ [])) (sym (trees_with table which tree))
      (stands_turned shape (pages_of g filled) (with_owners view_but owners_now) t place places tree trees stands_two))

  -- and its table page is written
  abbrev final : PageList
  final = with_stored (pages_of g filled) t (Some more.def)

  final_is : pages_of g last ≡ final
  final_is = m.saved ∙ ap (λ d. with_stored (pages_of g filled) t (Some (with_index d which))) (sym found.same)

  written : ChangesAround shape (pages_of g filled) final owners_now t (trees_of_table more) owners_now (tree_places more.def) (trees_of_table more)
  written = page_around shape (pages_of g filled) (with_owners view_but owners_now) t (tree_places more.def) (trees_of_table more) (table_page more.def) stands_then

  stands_last : StandsBut shape final (view_with view owners_now t None) t (tree_places more.def) (trees_of_table more)
  stands_last = around_kept shape (pages_of g filled) final (with_owners view_but owners_now) t (tree_places more.def) (trees_of_table more) owners_now (tree_places more.def) (trees_of_table more) stands_then written

  -- its blocks are those that they were, with their pages
  still : (e : ℕ) → owner_of view.owners e ≡ Block t → owner_of owners_now e ≡ Block t
  still e is = block_back (owner_of view.owners e) (owner_of owners_now e) t (sym (fills.changes.kept.blocks e ∙ kept_one.blocks e)) is

  back : (e : ℕ) → owner_of owners_now e ≡ Block t → owner_of view.owners e ≡ Block t
  back e is = block_back (owner_of owners_now e) (owner_of view.owners e) t (fills.changes.kept.blocks e ∙ kept_one.blocks e) is

  off_blocks : (p : ℕ) → IsBlockPageOf shape view.owners t p → IsMakingPage g shape old t p → ⊥
  off_blocks p of (inl own) = omega (arith, own, of.page.behind, m.low)
  off_blocks p of (inr space) = elim (space view.owners all_stand.map) [
    | inl on ↦ extent_not_space shape p of.page on
    | inr idle ↦ no_block_idle p of idle
  ]
    where
      no_block_idle : (p : ℕ) → IsBlockPageOf shape view.owners t p → IsIdlePage shape view.owners p → ⊥
      no_block_idle p of idle =
          let none : table_of_block (owner_of view.owners (extent_of shape p)) ≡ None = idle_no_block shape view.owners p idle in
          let some : table_of_block (owner_of view.owners (extent_of shape p)) ≡ Some t = ap table_of_block of.block in absurd cc

  kept : (e : ℕ) → owner_of view.owners e ≡ Block table.def.number → KeepsBlockPages shape (pages_of g old) final e
  kept e is =
      let own : owner_of view.owners e ≡ Block t = is ∙ ap Block number in
      subst (λ pages. KeepsBlockPages shape (pages_of g old) pages e) final_is
      (block_kept (IsMakingPage g shape old t) shape old last view.owners t e all_stand.map m.told m.touched off_blocks (omega (arith, block_below view.owners e t own, all_stand.map.count)) own)

  more_defined : DefinesTable final t more.def
  more_defined = record {
    limits = subst (λ d. IsTableDef t (with_index d which)) (sym found.same) m.limits;
    printed = page_written shape (pages_of g filled) (with_owners view_but owners_now) t (tree_places more.def) (trees_of_table more) (table_page more.def) stands_then;
  }

  rows_now : rows_in_table shape final table.def table.map ≡ rows_in_table shape (pages_of g old) table.def table.map
  rows_now =
      rows_same shape (pages_of g old) final view owners_now t table more.def.indexes more.indexes keeps found.there
      (λ e is. still e (is ∙ ap Block number) ∙ sym (ap Block number)) (λ e is. back e (is ∙ ap Block number) ∙ sym (ap Block number)) kept

  again : set (set view.places t None) t (Some more) ≡ set view.places t (Some more)
  again = set_twice view.places t None (Some more)

  -- its record indexes are sound, the new one too, where these are the rows of the table
  module _ (same_rows : IsPermutation rows (rows_in_table shape (pages_of g old) table.def table.map))
      (free : AllByRecursion (λ (other : IndexDef). other.name ≢ index.name) (indexes_of (tables_there view.places))) where
    abbrev all_rows : List PlacedRow
    all_rows = rows_in_table shape final table.def table.map

    new_sound : IsSoundIndex more.def all_rows (pending_blocks table.map) which tree
    new_sound =
        subst (λ (some : List PlacedRow). IsSoundIndex more.def some (pending_blocks table.map) which tree) (sym rows_now)
        (sound_in_order more.def rows (rows_in_table shape (pages_of g old) table.def table.map) (pending_blocks table.map) which tree same_rows
        (subst (λ d. IsSoundIndex (with_index d which) rows [] which tree) (sym found.same) entries))

    indexes_sound : AreTableIndexesSound shape final more
    indexes_sound =
        let were : AllZip (IsSoundIndex table.def all_rows (pending_blocks table.map)) table.def.indexes table.indexes =
        subst (λ (some : List PlacedRow). AllZip (IsSoundIndex table.def some (pending_blocks table.map)) table.def.indexes table.indexes) (sym rows_now)
        (there_at (AreTableIndexesSound shape (pages_of g old)) view.places t table found.there keeps.rule11) in
        AllZip-both (IsSoundIndex more.def all_rows (pending_blocks table.map)) table.def.indexes (which ∷ []) table.indexes (tree ∷ [])
        (sound_indexes_other shape (pages_of g old) table.def more.def.indexes all_rows (pending_blocks table.map) table.def.indexes table.indexes were) (new_sound, tt)

    whole_table : IsWholeTable shape final (view_with view owners_now t None) t more
    whole_table =
        whole_of shape (pages_of g old) final view owners_now t table more.def.indexes more.indexes keeps found.there
        (λ e is. still e (is ∙ ap Block number) ∙ sym (ap Block number)) (λ e is. back e (is ∙ ap Block number) ∙ sym (ap Block number)) kept more_defined
        (subst (λ all. AllPairs (λ (a b : TableDef). a.name ≢ b.name) (map (λ (x : TableView). x.def) (tables_there all))) (sym again) (tables_differ_still view.places t table more found.there refl keeps.first.rule3.tables_differ))
        (subst (λ all. AllPairs (λ (a b : IndexDef). a.name ≢ b.name) (indexes_of (tables_there all))) (sym again) (indexes_differ_with view.places t table which tree found.there free keeps.first.rule3.indexes_differ))
        indexes_sound

    whole : KeepAllButKeys shape final (view_with view owners_now t (Some more))
    whole =
        subst (λ all. KeepAllButKeys shape final (record { owners = owners_now; places = all })) again
        (closed_but_keys shape final (view_with view owners_now t None) t more stands_last whole_table)

    -- its keys are unique where those of these rows are
    keys_sound : IsUniqueSound rows index → AreTableKeysSound shape final more
    keys_sound unique =
        all_push (IsUniqueSound all_rows) table.def.indexes which
        (subst (λ (some : List PlacedRow). AllByRecursion (IsUniqueSound some) table.def.indexes) (sym rows_now) (there_at (AreTableKeysSound shape (pages_of g old)) view.places t table found.there keeps.rule12.unique))
        (subst (λ (some : List PlacedRow). IsUniqueSound some which) (sym rows_now)
        (unique_in_order rows (rows_in_table shape (pages_of g old) table.def table.map) index same_rows unique))

    whole_keys : IsUniqueSound rows index → AreUniqueKeysSound shape final (view_with view owners_now t (Some more))
    whole_keys unique =
        subst (λ all. AreUniqueKeysSound shape final (record { owners = owners_now; places = all })) again
        (closed_with shape final (view_with view owners_now t None) t more stands_last whole_table (keys_sound unique)).rule12.unique

    -- the page takes no space
    same_space : IsSameSpace shape (pages_of g filled) final
    same_space = record {
      owners = owners_now;
      had = stands_then.extents;
      has = written.extents;
      bytes = λ p used. get_or-set_other (pages_of g filled) (1 + t) p (table_page more.def) [] (λ same. omega (arith, used.page.behind, same, m.low));
      count = length-set (pages_of g filled) (1 + t) (table_page more.def);
    }

    changes_are : entering_changes now (length def.indexes) rows ≡ map (λ (placed : PlacedRow). AddEntry place (record_entry def.columns index.parts placed.row.values placed.rid)) rows
    changes_are =
        ap (λ p. map (λ (placed : PlacedRow). AddEntry p (entry_in_record_index now (length def.indexes) placed.row.values placed.rid)) rows) place_is
        ∙ ap (λ parts. map (λ (placed : PlacedRow). AddEntry place (record_entry def.columns parts placed.row.values placed.rid)) rows) (parts_are now (length def.indexes) (length def.indexes) which refl at_which)

    makes : AreRightNotes shape before view.owners → MakesChanges shape (pages_of g old) (indexing_changes def which rows) final
    makes right = record {
      reached = pages_of g filled;
      goes = subst (λ changes. FoldsTo (MakesChange shape) (pages_of g old) (MakeTree place ∷ changes) (pages_of g filled)) changes_are
          (goes_then shape (pages_of g old) (pages_of g middle) (pages_of g filled) (MakeTree place ∷ []) (entering_changes now (length def.indexes) rows) (made.goes right)
          (m.fill.makes owners_one (place ∷ places) (empty ∷ trees) 0 stand_one (ap Some (sym place_is)) told_mid (made.notes right)));
      same = same_space;
    }

    pub adds : AddsIndex shape before noted (pages_of g old) (pages_of g last) t which rows view
    adds = record {
      table = table;
      there = found.there;
      owners_now = owners_now;
      tree = tree;
      entries = subst (λ d. IsSoundIndex d rows [] which tree) (sym found.same) (record { has = entries.has; only = entries.only });
      first = subst (λ pages. KeepFirstRules shape pages (view_with view owners_now t (Some more))) (sym final_is) whole.first;
      rule11 = subst (λ pages. AreSoundIndexes shape pages (view_with view owners_now t (Some more))) (sym final_is) whole.rule11;
      numbers = subst (λ pages. AreNumbersSound shape pages (view_with view owners_now t (Some more))) (sym final_is) whole.numbers;
      unique = λ unique. subst (λ pages. AreUniqueKeysSound shape pages (view_with view owners_now t (Some more))) (sym final_is) (whole_keys unique);
      notes = λ right. fills.changes.notes (made.notes right);
      makes = λ right. subst (λ d. MakesChanges shape (pages_of g old) (indexing_changes d which rows) (pages_of g last)) (sym found.same)
          (subst (MakesChanges shape (pages_of g old) (indexing_changes def which rows)) (sym final_is) (makes right));
    }

  -- ---- the plain database

  place_kept : (u : ℕ) (other : Option PlainTable) → u < 16 → u ≢ t → HoldsPlace shape (pages_of g old) u other → HoldsPlace shape final u other
  place_kept u other few apart held =
      around_place_kept shape (pages_of g filled) final (with_owners view_but owners_now) t (tree_places more.def) (trees_of_table more) owners_now (tree_places more.def) (trees_of_table more) stands_then written u other few apart
      (around_place_kept shape (pages_of g middle) (pages_of g filled) (with_owners view_but owners_one) t (place ∷ places) (empty ∷ trees) owners_now (place ∷ places) (tree ∷ trees) stands_one around_two u other few apart
      (around_place_kept shape (pages_of g old) (pages_of g middle) view_but t places trees owners_one (place ∷ places) (empty ∷ trees) stands_first around_one u other few apart held))

  defined : DefinesTable (pages_of g old) t table.def
  defined = subst (λ d. DefinesTable (pages_of g old) t d) (sym found.same) m.defines

  more_named : (x : PlainTable) → x.def ≡ rootless table.def → (plain_with_index index x).def ≡ rootless more.def
  more_named x is = ap (λ d. with_index d (rootless_index index)) is ∙ ap (λ indexes. record (rootless table.def) { indexes = indexes }) (sym (map-append rootless_index table.def.indexes (which ∷ [])))

  pub stands_for_more : (db : Database) → PagesStandFor shape (pages_of g old) db → PagesStandFor shape (pages_of g last) (changed_at db t (plain_with_index index))
  stands_for_more db were =
      let here = held_there shape (pages_of g old) db t table.def m.low defined were in
      let y = plain_with_index index here.x in
      subst (λ pages. PagesStandFor shape pages (changed_at db t (plain_with_index index))) (sym final_is)
      (subst (PagesStandFor shape final) (put_is_changed db t here.x (plain_with_index index) here.at)
      (stands_for_but shape (pages_of g old) final db t (Some y) were place_kept
      (held_other shape (pages_of g old) final t table.def more.def.indexes table.map here.x y here.holds defined stands_first.held.0 more_defined stands_last.held.0 rows_now (more_named here.x) refl)))
