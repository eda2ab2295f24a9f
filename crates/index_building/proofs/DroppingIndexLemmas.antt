-- A record index is dropped from a sound database: its tree goes, its table page is written, and all else stays.
use Rattle.std.proofs.Common.{◌≡◌, ◌≢◌, ◌<◌, ◌+◌, ◌∙◌, ℕ, zero, suc, List, [], ◌∷◌, ◌++◌, Option, Some, None, length, set, sum_by, refl, ap, arith, sym, subst, inl, inr}
use Rattle.std.specs.Prelude.{AllPairs, IsTrue, map, remove, slice_get, zip}
use Rattle.std.specs.List.{AllByRecursion, AllZip}
use Rattle.std.proofs.lemmas.List.{length-map}
use Rattle.std.proofs.lemmas.Slice.Zip.{length-zip}
use Rattle.mdc_ast.specs.Definitions.{without_index}
use Rattle.mdc_ast.specs.declared.definition.IndexDef.{IndexDef}
use Rattle.mdc_ast.specs.declared.definition.TableDef.{TableDef}
use Rattle.mdc_ast.specs.Database.{Database, PlainTable, changed_at}
use Rattle.mdc_ast.specs.TableLimits.{IsTableDef}
use Rattle.store_api.specs.Frame.{Touches}
use Rattle.store_api.specs.declared.pages.Pages.{Ghosts}
use Rattle.store_api.specs.declared.shape.Shape.{Shape}
use Rattle.extent_map.specs.Map.{IsMapPage}
use Rattle.extent_map.specs.Owners.{IsExtentPage, owner_of}
use Rattle.extent_map.specs.declared.kind.Kind.{Kind}
use Rattle.extent_map.specs.declared.kind.Kind.TheVariants.{Block}
use Rattle.extent_map.specs.declared.space_notes.SpaceNotes.{SpaceNotes}
use Rattle.entry_tree.specs.Forest.{Forest, times}
use Rattle.entry_tree.specs.Forest.Forest.{Nil}
use Rattle.entry_tree.specs.Freeing.{FreesTree}
use Rattle.entry_tree.specs.Pruning.{without_pages}
use Rattle.entry_tree.proofs.StandingLemmas.{extent_not_space}
use Rattle.table_page.specs.TablePage.{table_page}
use Rattle.table_trees.specs.TableTrees.{TreePlace, dimension_place, dimension_places, map_place, composite_place, record_place, record_places, rising_parts, tree_places}
use Rattle.table_trees.specs.ToldPages.{told_pages}
use Rattle.table_trees.specs.TreesBeside.{HoldsTreeAt, KeepsOwners, StandTrees}
use Rattle.table_trees.proofs.KeptOwnersLemmas.{keeps_returns}
use Rattle.table_trees.proofs.SideBySideLemmas.{trees_still}
use Rattle.table_trees.proofs.TreeListsLemmas.{beside_at, times-one}
use Rattle.mdc_sound.specs.BlockRules.{AreTableIndexesSound, AreTableKeysSound, IsBlockIndexSound, IsSoundIndex, IsUniqueSound}
use Rattle.mdc_sound.specs.SoundDatabase.{KeepAllRules}
use Rattle.mdc_sound.specs.SpaceRules.{DatabaseView, tables_there}
use Rattle.mdc_sound.specs.StandingTable.{StandsTable, pages_of}
use Rattle.mdc_sound.specs.StandsForDatabase.{HoldsPlace, PagesStandFor, rootless, rootless_index}
use Rattle.mdc_sound.specs.TablePages.{DefinesTable}
use Rattle.mdc_sound.specs.TableRows.{rows_in_table}
use Rattle.block_map.specs.MapLines.{pending_blocks}
use Rattle.mdc_sound.specs.TableViews.{TableView, trees_of_table}
use Rattle.mdc_sound.proofs.DefinitionTreesLemmas.{has_block_indexes}
use Rattle.mdc_sound.proofs.SpaceRulesLemmas.{there_at}
use Rattle.mdc_sound.proofs.StandingTableLemmas.{forests_of, number_of_place, stands_of_rules}
use Rattle.mdc_sound.proofs.TableRowsLemmas.{KeepsBlockPages}
use Rattle.stored_catalog.specs.AroundTable.{StandsBut, view_with, with_owners}
use Rattle.stored_catalog.specs.StoredDefinitions.{with_stored}
use Rattle.stored_catalog.proofs.AroundDroppingLemmas.{trees_beside}
use Rattle.stored_catalog.proofs.AroundTableLemmas.{ChangesAround, around_kept, around_place_kept, page_around, page_written, root_still, stands_for_but}
use Rattle.stored_catalog.proofs.ClosedTableLemmas.{closed_with}
use Rattle.stored_catalog.proofs.MakingTreesLemmas.{block_back}
use Rattle.stored_catalog.proofs.OpenedTableLemmas.{IsDefinedThere, defined_there, opened_dropping}
use Rattle.index_building.specs.IndexSteps.{DropsIndex}
use Rattle.index_building.specs.IndexViews.{index_tree, plain_without_index, view_without_index}
use Rattle.index_building.proofs.AroundIndexLemmas.{indexes_of, set_twice, tables_differ_still, trees_around}
use Rattle.index_building.proofs.DroppedIndexLemmas.{indexes_differ_without, limits_without, places_without, trees_without}
use Rattle.index_building.proofs.OtherIndexesLemmas.{sound_indexes_other}
use Rattle.index_building.proofs.RemovedLemmas.{at-behind, at-index, each-remove, map-remove, pairs-remove, sum-remove, there-at}
use Rattle.index_building.proofs.StandingForLemmas.{held_other, held_there, put_is_changed}
use Rattle.index_building.proofs.WholeTableLemmas.{blocks_stay, rows_same, whole_of}

-- as many dimensions as trees of them
pairs_count : {A B : Type 0} (R : A → B → Type 0) (xs : List A) (ys : List B) → AllZip R xs ys → length xs ≡ length ys
pairs_count R [] [] all = refl
pairs_count R [] (y ∷ ys) all = absurd all
pairs_count R (x ∷ xs) [] all = absurd all
pairs_count R (x ∷ xs) (y ∷ ys) all = omega (arith, pairs_count R xs ys all.1)

behind_at : {X : Type 0} (xs ys : List X) (m n : ℕ) → m ≡ length xs + n → slice_get (xs ++ ys) m ≡ slice_get ys n
behind_at [] ys m n is = let same : m ≡ n = omega (arith, is) in ap (slice_get ys) same
behind_at (x ∷ xs) ys zero n is = absurd (omega (arith, is))
behind_at (x ∷ xs) ys (suc m) n is = behind_at xs ys m n (omega (arith, is))

module _ {S : Type 0} (g : Ghosts S) (shape : Shape) (before noted : SpaceNotes) (old new : S) (t place : ℕ) (def : TableDef) (told : IsTrue (g.state old).is_told) (low : t < 16) (there : place < length def.indexes)
    (count : length (g.state new).work ≡ length (g.state old).work) (same_told : (g.state new).is_told ≡ (g.state old).is_told) (touched : Touches g (IsMapPage shape) old new)
    (frees : (owners : List Kind) (at : TreePlace) (tree : Forest) → slice_get (record_places def) place ≡ Some at → StandTrees g shape old owners (at ∷ []) (tree ∷ []) → FreesTree g shape before noted new owners tree)
    (defines : DefinesTable (pages_of g old) t def) (view : DatabaseView) (keeps : KeepAllRules shape (pages_of g old) view) where
  pub found : IsDefinedThere view t def
  found = defined_there shape (pages_of g old) view t def keeps low defines

  abbrev table : TableView
  table = found.table

  number : table.def.number ≡ t
  number = (number_of_place shape (pages_of g old) view keeps.first t table found.there).1

  stood : StandsTable told_pages shape (pages_of g old) table.def view.owners (forests_of table)
  stood = stands_of_rules shape (pages_of g old) view keeps.first t table found.there

  limits : IsTableDef t table.def
  limits = subst (λ d. IsTableDef t d) (sym found.same) defines.limits

  inside : place < length table.def.indexes
  inside = omega (arith, there, ap (λ (d : TableDef). length d.indexes) found.same)

  -- the place is empty, and the trees of the table stand beside all others
  abbrev view_but : DatabaseView
  view_but = view_with view view.owners t None

  abbrev trees : List Forest
  trees = trees_of_table table

  stands_first : StandsBut shape (pages_of g old) view_but t (tree_places table.def) trees
  stands_first = opened_dropping shape (pages_of g old) view t table keeps found.there

  all_stand : StandTrees g shape old view.owners (tree_places table.def) trees
  all_stand = trees_beside g old told shape view_but t (tree_places table.def) trees stands_first

  dims_count : length (dimension_places table.def) ≡ length table.dims
  dims_count =
      let one = (has_block_indexes t table.def limits).one_each in
      length-map (zip table.def.dims table.def.roots.dims) (λ pair. dimension_place table.def pair.0 pair.1)
      ∙ (length-zip table.def.dims table.def.roots.dims
      ∙ (let both = pairs_count (λ dim index. IsBlockIndexSound table.def (rows_in_table shape (pages_of g old) table.def table.map) (rising_parts dim) index) table.def.dims table.dims stood.indexes.dims in omega (arith, one, both)))

  abbrev n : ℕ
  n = 2 + (length (dimension_places table.def) + place)

  -- the tree of the index among them
  at : (p : TreePlace) × (slice_get (record_places table.def) place ≡ Some p)
  at = there-at (record_places table.def) place (omega (arith, inside, length-map table.def.indexes (record_place table.def)))

  at_all : slice_get (tree_places table.def) n ≡ Some at.0
  at_all = at-behind (map_place table.def ∷ composite_place table.def ∷ dimension_places table.def) (record_places table.def) n place at.0 (omega arith) at.1

  tree : (y : Forest) × (slice_get trees n ≡ Some y) × HoldsTreeAt g old at.0 y
  tree = beside_at (HoldsTreeAt g old) (tree_places table.def) trees n at.0 all_stand.held at_all

  tree_is : tree.0 ≡ index_tree table place
  tree_is = sym (at-index table.indexes place Nil tree.0 (sym (behind_at (table.map ∷ table.composite ∷ table.dims) table.indexes n place (omega (arith, dims_count))) ∙ tree.1))

  rest_and_tree : (p : ℕ) → sum_by (times p) (remove trees n) + times p tree.0 ≡ sum_by (times p) trees
  rest_and_tree p = sum-remove (times p) trees n tree.0 tree.1

  one_stands : StandTrees g shape old view.owners (at.0 ∷ []) (tree.0 ∷ [])
  one_stands = record {
    map = all_stand.map;
    held = (tree.2, tt);
    used = λ p l. all_stand.used p (omega (arith, l, rest_and_tree p, times-one p tree.0));
    apart = λ p. omega (arith, all_stand.apart p, rest_and_tree p, times-one p tree.0);
  }

  -- it is given back
  freed : FreesTree g shape before noted new view.owners tree.0
  freed = frees view.owners at.0 tree.0 (subst (λ d. slice_get (record_places d) place ≡ Some at.0) found.same at.1) one_stands

  abbrev owners_now : List Kind
  owners_now = without_pages shape view.owners freed.given

  page_of : (p : ℕ) → 0 < sum_by (times p) trees → IsExtentPage shape p
  page_of p l = (all_stand.used p l).page

  kept_all : KeepsOwners shape view.owners trees owners_now (remove trees n)
  kept_all = keeps_returns shape view.owners freed.given trees (remove trees n) all_stand.map.count page_of (λ p. omega (arith, rest_and_tree p, freed.counts p))

  kept_one : KeepsOwners shape view.owners (tree.0 ∷ []) owners_now []
  kept_one = keeps_returns shape view.owners freed.given (tree.0 ∷ []) [] all_stand.map.count (λ p l. page_of p (omega (arith, l, rest_and_tree p, times-one p tree.0))) (λ p. omega (arith, freed.counts p, times-one p tree.0))

  off_map : (p : ℕ) → 0 < sum_by (times p) trees → IsMapPage shape p → ⊥
  off_map p l on = extent_not_space shape p (page_of p l) (inr on)

  stand_now : StandTrees g shape new owners_now (remove (tree_places table.def) n) (remove trees n)
  stand_now = record {
    map = freed.map;
    held = pairs-remove (HoldsTreeAt g new) (tree_places table.def) trees n (trees_still (IsMapPage shape) old new (tree_places table.def) trees all_stand.held touched same_told off_map);
    used = λ p l. kept_one.others p (all_stand.used p (omega (arith, l, rest_and_tree p))) (omega (arith, l, rest_and_tree p, all_stand.apart p, times-one p tree.0));
    apart = λ p. omega (arith, rest_and_tree p, all_stand.apart p);
  }

  -- which changes nothing around the table
  abbrev less : TableView
  less = view_without_index table place

  around : ChangesAround shape (pages_of g old) (pages_of g new) view.owners t trees owners_now (tree_places less.def) (trees_of_table less)
  around =
      subst (λ places. ChangesAround shape (pages_of g old) (pages_of g new) view.owners t trees owners_now places (trees_of_table less)) (sym (places_without table.def place n refl))
      (subst (ChangesAround shape (pages_of g old) (pages_of g new) view.owners t trees owners_now (remove (tree_places table.def) n)) (sym (trees_without table place n (omega (arith, dims_count))))
      (trees_around g shape old new view_but t trees owners_now (remove (tree_places table.def) n) (remove trees n) (IsMapPage shape) told same_told
      (root_still g (IsMapPage shape) shape old new told stands_first.root count touched (λ on. omega (arith, on.0)))
      stand_now (λ p l. inl (omega (arith, l, rest_and_tree p))) kept_all touched (λ p on. inr (inr (inl (inr on))))))

  stands_then : StandsBut shape (pages_of g new) (with_owners view_but owners_now) t (tree_places less.def) (trees_of_table less)
  stands_then = around_kept shape (pages_of g old) (pages_of g new) view_but t (tree_places table.def) trees owners_now (tree_places less.def) (trees_of_table less) stands_first around

  -- nor does its table page
  written : ChangesAround shape (pages_of g new) (with_stored (pages_of g new) t (Some less.def)) owners_now t (trees_of_table less) owners_now (tree_places less.def) (trees_of_table less)
  written = page_around shape (pages_of g new) (with_owners view_but owners_now) t (tree_places less.def) (trees_of_table less) (table_page less.def) stands_then

  stands_last : StandsBut shape (with_stored (pages_of g new) t (Some less.def)) (view_with view owners_now t None) t (tree_places less.def) (trees_of_table less)
  stands_last = around_kept shape (pages_of g new) (with_stored (pages_of g new) t (Some less.def)) (with_owners view_but owners_now) t (tree_places less.def) (trees_of_table less) owners_now (tree_places less.def) (trees_of_table less) stands_then written

  -- its blocks are those that they were, with their pages
  still : (e : ℕ) → owner_of view.owners e ≡ Block t → owner_of owners_now e ≡ Block t
  still e is = block_back (owner_of view.owners e) (owner_of owners_now e) t (sym (kept_all.blocks e)) is

  back : (e : ℕ) → owner_of owners_now e ≡ Block t → owner_of view.owners e ≡ Block t
  back e is = block_back (owner_of owners_now e) (owner_of view.owners e) t (kept_all.blocks e) is

  kept : (e : ℕ) → owner_of view.owners e ≡ Block table.def.number → KeepsBlockPages shape (pages_of g old) (with_stored (pages_of g new) t (Some less.def)) e
  kept e is =
      blocks_stay g shape old new view owners_now t less.def (IsMapPage shape) told all_stand.map stands_then.extents number low still touched (λ p of on. extent_not_space shape p of.page (inr on)) e (is ∙ ap Block number)

  less_defined : DefinesTable (with_stored (pages_of g new) t (Some less.def)) t less.def
  less_defined = record {
    limits = limits_without t table.def place inside limits;
    printed = page_written shape (pages_of g new) (with_owners view_but owners_now) t (tree_places less.def) (trees_of_table less) (table_page less.def) stands_then;
  }

  rows_now : rows_in_table shape (with_stored (pages_of g new) t (Some less.def)) table.def table.map ≡ rows_in_table shape (pages_of g old) table.def table.map
  rows_now =
      rows_same shape (pages_of g old) (with_stored (pages_of g new) t (Some less.def)) view owners_now t table less.def.indexes less.indexes keeps found.there
      (λ e is. still e (is ∙ ap Block number) ∙ sym (ap Block number)) (λ e is. back e (is ∙ ap Block number) ∙ sym (ap Block number)) kept

  -- the record indexes that are left are sound
  indexes_sound : AreTableIndexesSound shape (with_stored (pages_of g new) t (Some less.def)) less
  indexes_sound =
      let rows = rows_in_table shape (with_stored (pages_of g new) t (Some less.def)) table.def table.map in
      let were : AllZip (IsSoundIndex table.def rows (pending_blocks table.map)) table.def.indexes table.indexes =
      subst (λ rows. AllZip (IsSoundIndex table.def rows (pending_blocks table.map)) table.def.indexes table.indexes) (sym rows_now)
      (there_at (AreTableIndexesSound shape (pages_of g old)) view.places t table found.there keeps.rule11) in
      sound_indexes_other shape (pages_of g old) table.def less.def.indexes rows (pending_blocks table.map) less.def.indexes less.indexes
      (pairs-remove (IsSoundIndex table.def rows (pending_blocks table.map)) table.def.indexes table.indexes place were)

  keys_sound : AreTableKeysSound shape (with_stored (pages_of g new) t (Some less.def)) less
  keys_sound =
      each-remove (IsUniqueSound (rows_in_table shape (with_stored (pages_of g new) t (Some less.def)) table.def table.map)) table.def.indexes place
      (subst (λ rows. AllByRecursion (IsUniqueSound rows) table.def.indexes) (sym rows_now) (there_at (AreTableKeysSound shape (pages_of g old)) view.places t table found.there keeps.rule12.unique))

  again : set (set view.places t None) t (Some less) ≡ set view.places t (Some less)
  again = set_twice view.places t None (Some less)

  whole : KeepAllRules shape (with_stored (pages_of g new) t (Some less.def)) (view_with view owners_now t (Some less))
  whole =
      subst (λ places. KeepAllRules shape (with_stored (pages_of g new) t (Some less.def)) (record { owners = owners_now; places = places })) again
      (closed_with shape (with_stored (pages_of g new) t (Some less.def)) (view_with view owners_now t None) t less stands_last
      (whole_of shape (pages_of g old) (with_stored (pages_of g new) t (Some less.def)) view owners_now t table less.def.indexes less.indexes keeps found.there
      (λ e is. still e (is ∙ ap Block number) ∙ sym (ap Block number)) (λ e is. back e (is ∙ ap Block number) ∙ sym (ap Block number)) kept less_defined
      (subst (λ places. AllPairs (λ (a b : TableDef). a.name ≢ b.name) (map (λ (x : TableView). x.def) (tables_there places))) (sym again) (tables_differ_still view.places t table less found.there refl keeps.first.rule3.tables_differ))
      (subst (λ places. AllPairs (λ (a b : IndexDef). a.name ≢ b.name) (indexes_of (tables_there places))) (sym again) (indexes_differ_without view.places t place table found.there inside keeps.first.rule3.indexes_differ))
      indexes_sound) keys_sound)

  pub drops : (last : List (List ℕ)) → last ≡ with_stored (pages_of g new) t (Some (without_index def place)) → DropsIndex shape before noted last t place view
  drops last is = record {
    table = table;
    there = found.there;
    given = freed.given;
    pages = λ p. freed.counts p ∙ ap (times p) tree_is;
    sound = subst (λ pages. KeepAllRules shape pages (view_with view owners_now t (Some less))) (ap (λ d. with_stored (pages_of g new) t (Some (without_index d place))) found.same ∙ sym is) whole;
    notes = freed.notes;
  }

  -- each other place holds what it held, and this one the table without the index
  place_kept : (u : ℕ) (other : Option PlainTable) → u < 16 → u ≢ t → HoldsPlace shape (pages_of g old) u other → HoldsPlace shape (with_stored (pages_of g new) t (Some less.def)) u other
  place_kept u other few apart held =
      around_place_kept shape (pages_of g new) (with_stored (pages_of g new) t (Some less.def)) (with_owners view_but owners_now) t (tree_places less.def) (trees_of_table less) owners_now (tree_places less.def) (trees_of_table less) stands_then written
      u other few apart
      (around_place_kept shape (pages_of g old) (pages_of g new) view_but t (tree_places table.def) trees owners_now (tree_places less.def) (trees_of_table less) stands_first around u other few apart held)

  defined : DefinesTable (pages_of g old) t table.def
  defined = subst (λ d. DefinesTable (pages_of g old) t d) (sym found.same) defines

  less_named : (x : PlainTable) → x.def ≡ rootless table.def → (plain_without_index place x).def ≡ rootless less.def
  less_named x is = ap (λ d. without_index d place) is ∙ ap (λ indexes. record (rootless table.def) { indexes = indexes }) (sym (map-remove rootless_index table.def.indexes place))

  pub stands_for_less : (last : List (List ℕ)) → last ≡ with_stored (pages_of g new) t (Some (without_index def place)) → (db : Database) → PagesStandFor shape (pages_of g old) db
      → PagesStandFor shape last (changed_at db t (plain_without_index place))
  stands_for_less last is db were =
      let here = held_there shape (pages_of g old) db t table.def low defined were in
      let y = plain_without_index place here.x in
      subst (λ pages. PagesStandFor shape pages (changed_at db t (plain_without_index place))) (ap (λ d. with_stored (pages_of g new) t (Some (without_index d place))) found.same ∙ sym is)
      (subst (PagesStandFor shape (with_stored (pages_of g new) t (Some less.def))) (put_is_changed db t here.x (plain_without_index place) here.at)
      (stands_for_but shape (pages_of g old) (with_stored (pages_of g new) t (Some less.def)) db t (Some y) were place_kept
      (held_other shape (pages_of g old) (with_stored (pages_of g new) t (Some less.def)) t table.def less.def.indexes table.map here.x y here.holds defined stands_first.held.0 less_defined stands_last.held.0 rows_now
      (less_named here.x) refl)))
