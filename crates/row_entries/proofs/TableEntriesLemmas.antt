-- What a walk over the record indexes of a table makes of the table.
use Rattle.std.proofs.Common.{◌≡◌, ◌<◌, ◌≤◌, ℕ, List, [], ◌∷◌, ◌++◌, length, length-append, map, append-nil, refl, ap, arith, sym, ◌∙◌, subst, inl, inr, get_or}
use Rattle.std.specs.Prelude.{Bool, OnOk, Option, Result, Ok, Err, sum_by}
use Rattle.std.specs.List.{AllZip}
use Rattle.std.proofs.lemmas.Slice.Zip.{AllZip-long}
use Rattle.mdc_values.specs.declared.rid.Rid.{Rid}
use Rattle.mdc_ast.specs.TableLimits.{IsTableDef}
use Rattle.mdc_ast.specs.declared.definition.IndexDef.{IndexDef}
use Rattle.mdc_ast.specs.declared.definition.TableDef.{TableDef}
use Rattle.mdc_ast.specs.declared.row.Row.{Row}
use Rattle.store_api.specs.Frame.{Touches}
use Rattle.store_api.specs.RunsOverPages.{RunsOverPages}
use Rattle.store_api.specs.declared.fault.Damage.{Damage}
use Rattle.store_api.specs.declared.fault.StoreFault.{StoreFault}
use Rattle.store_api.specs.declared.pages.Pages.{Ghosts}
use Rattle.store_api.specs.declared.shape.Shape.{Shape}
use Rattle.store_api.proofs.FrameLemmas.{touches_wider}
use Rattle.store_api.proofs.RunsOverPagesLemmas.{runs_wider}
use Rattle.extent_map.specs.Owners.{owner_of}
use Rattle.extent_map.specs.declared.kind.Kind.{Kind}
use Rattle.extent_map.specs.declared.kind.Kind.TheVariants.{Free, Block, Index}
use Rattle.extent_map.specs.declared.space_notes.SpaceNotes.{SpaceNotes}
use Rattle.entry_tree.specs.Forest.{Forest, times}
use Rattle.block_index.specs.Listing.{GainsEntry, LosesEntry}
use Rattle.table_trees.specs.TableTrees.{TreePlace, composite_place, dimension_places, map_place, record_places, rising_parts, tree_places}
use Rattle.table_trees.specs.TreesBeside.{ChangesTrees, GrowsPages, HoldsTreeAt, IsSpaceOfTrees, IsTreesOrMapPage, StandTrees}
use Rattle.table_trees.proofs.SideBySideLemmas.{block_page_apart, part_changes, part_space, part_stands, part_trees_or_map, space_of_trees_or_map}
use Rattle.mdc_sound.specs.BlockRules.{IsBlockIndexSound}
use Rattle.mdc_sound.specs.Placing.{Spot, SpotsAfterClaims, SpotsAfterReturns}
use Rattle.mdc_sound.specs.Placing.Spot.{FreeExtent, IndexExtent}
use Rattle.mdc_sound.specs.StandingTable.{BreaksExpected, IsTreeSpaceOfTable, StandsTable, TableForests, forests_in_order, pages_of, spots_of}
use Rattle.mdc_sound.specs.TableRows.{rows_in_table}
use Rattle.mdc_sound.proofs.BlockRulesLemmas.{block_map_kept, cells_kept, indexes_kept, rows_kept, table_rows_kept, used_counts_kept}
use Rattle.mdc_sound.proofs.ElementsLemmas.{zip_of}
use Rattle.mdc_sound.proofs.StandingTableLemmas.{block_below, block_kept}
use Rattle.mdc_sound.proofs.TableRowsLemmas.{KeepsBlockPages}
use Rattle.mdc_sound.proofs.TableSpotsLemmas.{length-spots, spot_at}
use Rattle.table_blocks.specs.BlockChanges.{IsSpotChange}
use Rattle.table_blocks.proofs.IndexStepLemmas.{count_dimensions}
use Rattle.table_blocks.proofs.KeptExtentsLemmas.{grows_untouched, no_less, no_more}
use Rattle.table_blocks.proofs.OtherBlocksLemmas.{block_still, spot_after}
use Rattle.table_blocks.proofs.SpotChangesLemmas.{claims_change, returns_change}
use Rattle.mdc_table.proofs.KeptBlocksLemmas.{keeps_in_trees}
use Rattle.record_index.specs.OneIndex.{GainsOneEntry, LosesOneEntry}
use Rattle.row_entries.specs.ChosenIndexes.{HasEntry, LacksEntry, LacksOrHasEntry, MoveChosen, all_chosen, differing_chosen, entry_of}
use Rattle.row_entries.specs.ChosenTrees.{BreaksIndexes, MovesTrees, StandIndexes}
use Rattle.row_entries.specs.RowEntries.{ChangesIndexes, EntersChosen, HasRowEntries, HasRowEntriesOnly, IsTreeOrMapPageOfTable, LacksRowEntries, LeavesChosen, with_indexes}
use Rattle.row_entries.proofs.ChosenLemmas.{each_at, moved_each, moves_as, sums_rise}
use Rattle.row_entries.proofs.ChosenTreesLemmas.{RulesOut, part_of_table}
use Rattle.row_entries.proofs.LeavingLemmas.{fewer_pages}

-- what follows of two facts where a call succeeds
pub on_ok_both : {X E P Q R : Type 0} (result : Result X E) → (P → Q → R) → OnOk result P → OnOk result Q → OnOk result R
on_ok_both (Ok x) f p q = f p q
on_ok_both (Err e) f p q = tt

-- ---- what is expected

-- where each index has a row, none lacks its entry
pub row_rules_out : (def : TableDef) (row : Row) (rid : Rid) → RulesOut def (HasRowEntries def row rid) (all_chosen def) (LacksEntry def row rid)
row_rules_out def row rid owners forests has n which t at is there lacks = lacks (each_at (λ which t. HasEntry def row rid which t) n (all_chosen def) def.indexes forests.indexes which t has at is there)

-- where none has it, none has its entry
pub no_row_rules_out : (def : TableDef) (row : Row) (rid : Rid) → RulesOut def (LacksRowEntries def row rid) (all_chosen def) (HasEntry def row rid)
no_row_rules_out def row rid owners forests lacks n which t at is there has = each_at (λ which t. LacksEntry def row rid which t) n (all_chosen def) def.indexes forests.indexes which t lacks at is there has

-- where each has the entry of one row and not that of another, neither is wrong
pub only_rules_out : (def : TableDef) (was is : Row) (rid : Rid) → RulesOut def (HasRowEntriesOnly def was is rid) (differing_chosen def was is) (LacksOrHasEntry def was is rid)
only_rules_out def was is rid owners forests only n which t at there tree wrong = elim wrong [
  | inl lacks ↦ lacks (each_at (λ which t. HasEntry def was rid which t) n (differing_chosen def was is) def.indexes forests.indexes which t only.has at there tree)
  | inr has ↦ each_at (λ which t. LacksEntry def is rid which t) n (differing_chosen def was is) def.indexes forests.indexes which t only.lacks at there tree has
]

-- no page left the trees
more_pages : (def : TableDef) (row : Row) (rid : Rid) (chosen : List Bool) (trees after : List Forest) → MoveChosen GainsOneEntry (entry_of def row rid) chosen def.indexes trees after → (p : ℕ) → sum_by (times p) trees ≤ sum_by (times p) after
more_pages def row rid chosen trees after moves p =
    sums_rise (times p) trees after
    (moved_each GainsOneEntry (λ t u. times p t ≤ times p u) (entry_of def row rid) chosen def.indexes trees after (λ t. omega arith) (λ x t u gains. gains.pages p) moves)

-- ---- a table and its record indexes

-- the places of all other trees, and those trees
abbrev front_places : TableDef → List TreePlace
front_places def = map_place def ∷ composite_place def ∷ dimension_places def

abbrev front_trees : TableForests → List Forest
front_trees forests = forests.map ∷ forests.composite ∷ forests.dims

places_cut : (def : TableDef) → tree_places def ≡ front_places def ++ (record_places def ++ [])
places_cut def = ap (λ back. front_places def ++ back) (sym (append-nil (record_places def)))

trees_cut : (forests : TableForests) (indexes : List Forest) → front_trees forests ++ indexes ≡ front_trees forests ++ (indexes ++ [])
trees_cut forests indexes = ap (λ back. front_trees forests ++ back) (sym (append-nil indexes))

module _ {S : Type 0} {g : Ghosts S} (shape : Shape) (def : TableDef) (defined : IsTableDef def.number def) where
  module _ (s : S) (owners : List Kind) (forests : TableForests) (st : StandsTable g shape s def owners forests) where
    fronts_long : length (front_places def) ≡ length (front_trees forests)
    fronts_long =
        let dims = AllZip-long (λ dim index. IsBlockIndexSound def (rows_in_table shape (pages_of g s) def forests.map) (rising_parts dim) index) def.dims forests.dims st.indexes.dims in
        omega (arith, dims, count_dimensions def def.dims def.roots.dims defined.roots.one_each)

    indexes_long : length (record_places def) ≡ length forests.indexes
    indexes_long =
        let all = AllZip-long (HoldsTreeAt g s) (tree_places def) (forests_in_order forests) st.trees.held in
        omega (arith, all, fronts_long, length-append (front_places def) (record_places def), length-append (front_trees forests) forests.indexes)

    stand_cut : StandTrees g shape s owners (front_places def ++ (record_places def ++ [])) (front_trees forests ++ (forests.indexes ++ []))
    stand_cut =
        subst (λ (trees : List Forest). StandTrees g shape s owners (front_places def ++ (record_places def ++ [])) trees) (trees_cut forests forests.indexes)
        (subst (λ (places : List TreePlace). StandTrees g shape s owners places (forests_in_order forests)) (places_cut def) st.trees)

    -- the record indexes of a table that stands stand side by side
    pub indexes_stand : StandIndexes g shape s def owners forests.indexes
    indexes_stand = part_stands shape s owners (front_places def) (record_places def) [] (front_trees forests) forests.indexes [] fronts_long indexes_long stand_cut

  -- ---- the pages and the damage

  pub space_of_table : (s : S) (p : ℕ) → IsSpaceOfTrees g shape s (record_places def) p → IsTreeSpaceOfTable g shape s def p
  space_of_table s p at owners forests st =
      subst (λ (places : List TreePlace). IsSpaceOfTrees g shape s places p) (sym (places_cut def)) (part_space shape s (front_places def) (record_places def) [] p at) owners (forests_in_order forests) st.trees

  pub trees_or_map_of_table : (s : S) (p : ℕ) → IsTreesOrMapPage g shape s (record_places def) p → IsTreeOrMapPageOfTable g shape s def p
  trees_or_map_of_table s p at owners forests st =
      subst (λ (places : List TreePlace). IsTreesOrMapPage g shape s places p) (sym (places_cut def)) (part_trees_or_map shape s (front_places def) (record_places def) [] p at) owners (forests_in_order forests) st.trees

  pub breaks_of_table : (s : S) (chosen : List Bool) (Wrong : IndexDef → Forest → Type 0) (Expected : List Kind → TableForests → Type 0) → RulesOut def Expected chosen Wrong
      → (damage : Damage) → BreaksIndexes g shape s def chosen Wrong damage → BreaksExpected g shape s def Expected damage
  breaks_of_table s chosen Wrong Expected out damage breaks = record {
    names = part_of_table shape def damage breaks.names;
    broken = λ owners forests st expected.
        let w = breaks.wrong owners forests.indexes (indexes_stand s owners forests st) in
        out owners forests expected w.n w.which w.tree w.is_chosen w.index w.there w.wrong;
  }

  pub runs_in_space : (old new : S) (chosen : List Bool) (Wrong : IndexDef → Forest → Type 0) (Expected : List Kind → TableForests → Type 0) (fault : Option StoreFault) → RulesOut def Expected chosen Wrong
      → RunsOverPages g (IsSpaceOfTrees g shape old (record_places def)) (IsSpaceOfTrees g shape old (record_places def)) (BreaksIndexes g shape old def chosen Wrong) old new fault
      → RunsOverPages g (IsTreeSpaceOfTable g shape old def) (IsTreeSpaceOfTable g shape old def) (BreaksExpected g shape old def Expected) old new fault
  runs_in_space old new chosen Wrong Expected fault out run = runs_wider run (λ p there mine. space_of_table old p mine) (λ p mine. space_of_table old p mine) (breaks_of_table old chosen Wrong Expected out)

  pub runs_on_map : (old new : S) (chosen : List Bool) (Wrong : IndexDef → Forest → Type 0) (Expected : List Kind → TableForests → Type 0) (fault : Option StoreFault) → RulesOut def Expected chosen Wrong
      → RunsOverPages g (IsTreesOrMapPage g shape old (record_places def)) (IsTreesOrMapPage g shape old (record_places def)) (BreaksIndexes g shape old def chosen Wrong) old new fault
      → RunsOverPages g (IsTreeOrMapPageOfTable g shape old def) (IsTreeOrMapPageOfTable g shape old def) (BreaksExpected g shape old def Expected) old new fault
  runs_on_map old new chosen Wrong Expected fault out run = runs_wider run (λ p there mine. trees_or_map_of_table old p mine) (λ p mine. trees_or_map_of_table old p mine) (breaks_of_table old chosen Wrong Expected out)

  -- ---- the table afterwards

  module _ (before noted : SpaceNotes) (old new : S) (owners owners_now : List Kind) (forests : TableForests) (trees_now : List Forest) (st : StandsTable g shape old def owners forests)
      (changes : ChangesTrees g shape before noted new (record_places def) owners forests.indexes owners_now trees_now) (touched : Touches g (IsSpaceOfTrees g shape old (record_places def)) old new)
      (told : (g.state new).is_told ≡ (g.state old).is_told) where
    low : (e : ℕ) → owner_of owners e ≡ Block def.number → e < shape.extents
    low e is = omega (arith, block_below owners e def.number is, st.trees.map.count)

    kept : (e : ℕ) → owner_of owners e ≡ Block def.number → KeepsBlockPages shape (pages_of g old) (pages_of g new) e
    kept e is =
        block_kept (IsSpaceOfTrees g shape old (record_places def)) shape old new owners def.number e st.trees.map st.told touched
        (λ p of mine. block_page_apart shape old owners (record_places def) forests.indexes p def.number (indexes_stand old owners forests st) of.page of.block mine) (low e is) is

    whole_changes : ChangesTrees g shape before noted new (tree_places def) owners (forests_in_order forests) owners_now (forests_in_order (with_indexes forests trees_now))
    whole_changes =
        let cut = part_changes shape old new (front_places def) (record_places def) [] (front_trees forests) forests.indexes trees_now [] owners owners_now (fronts_long old owners forests st) (indexes_long old owners forests st)
        (stand_cut old owners forests st) touched told changes in
        subst (λ (places : List TreePlace). ChangesTrees g shape before noted new places owners (forests_in_order forests) owners_now (forests_in_order (with_indexes forests trees_now))) (sym (places_cut def))
        (subst (λ (trees : List Forest). ChangesTrees g shape before noted new (front_places def ++ (record_places def ++ [])) owners trees owners_now (forests_in_order (with_indexes forests trees_now))) (sym (trees_cut forests forests.indexes))
        (subst (λ (trees : List Forest). ChangesTrees g shape before noted new (front_places def ++ (record_places def ++ [])) owners (front_trees forests ++ (forests.indexes ++ [])) owners_now trees) (sym (trees_cut forests trees_now)) cut))

    -- a block is one of the same table
    block_then : (e t : ℕ) → owner_of owners e ≡ Block t → owner_of owners_now e ≡ Block t
    block_then e t is = block_still (owner_of owners_now e) (owner_of owners e) t (changes.kept.blocks e) is

    block_before : (e t : ℕ) → owner_of owners_now e ≡ Block t → owner_of owners e ≡ Block t
    block_before e t is = block_still (owner_of owners e) (owner_of owners_now e) t (sym (changes.kept.blocks e)) is

    stands_now : StandsTable g shape new def owners_now (with_indexes forests trees_now)
    stands_now = record {
      told = told ∙ st.told;
      trees = whole_changes.stand;
      map = block_map_kept shape owners owners_now def forests.map (λ e is. block_then e def.number is) (λ e is. block_before e def.number is) st.map;
      rows = rows_kept shape (pages_of g old) (pages_of g new) def owners forests.map st.map kept st.rows;
      used_counts = used_counts_kept shape (pages_of g old) (pages_of g new) def owners forests.map st.map kept st.used_counts;
      idle_counts = st.idle_counts;
      cells = cells_kept shape (pages_of g old) (pages_of g new) def owners forests.map st.map kept st.cells;
      indexes = let was = indexes_kept shape (pages_of g old) (pages_of g new) def owners forests.map st.map kept forests.composite forests.dims forests.indexes st.indexes in record { composite = was.composite; dims = was.dims };
    }

    pub changes_indexes : GrowsPages g shape old new → ChangesIndexes g shape before noted old new def owners forests owners_now trees_now
    changes_indexes grows = record {
      changes = record {
        stands = stands_now;
        others_blocks = λ e t other is. block_then e t is;
        no_others_blocks = λ e t other is. block_before e t is;
        others_pages = whole_changes.kept.others;
        used_pages = whole_changes.kept.used;
        pages = whole_changes.pages;
        grows = grows;
        notes = changes.notes;
      };
      owned = changes.kept.blocks;
      blocks = keeps_in_trees shape old old new def owners forests refl refl st (λ block. ⊥) (touches_wider touched (λ p mine. space_of_table old p mine));
      rows = table_rows_kept shape (pages_of g old) (pages_of g new) def owners forests.map st.map kept;
    }

    -- what each extent is to it
    spots_then : {After : Spot → Spot → Type 0} → IsSpotChange After → ((e used : ℕ) → owner_of owners e ≡ Free → owner_of owners_now e ≡ Index used → After FreeExtent IndexExtent)
        → ((e used : ℕ) → owner_of owners e ≡ Index used → owner_of owners_now e ≡ Free → After IndexExtent FreeExtent)
        → AllZip After (spots_of g shape old def owners forests) (spots_of g shape new def owners_now (with_indexes forests trees_now))
    spots_then {After} change took gave = zip_of After olds news (omega (arith, long, length-spots shape (pages_of g new) def owners_now forests.map)) each
      where
        olds : List Spot
        olds = spots_of g shape old def owners forests

        news : List Spot
        news = spots_of g shape new def owners_now (with_indexes forests trees_now)

        long : length (spots_of g shape old def owners forests) ≡ shape.extents
        long = length-spots shape (pages_of g old) def owners forests.map

        each : (e : ℕ) (d f : Spot) → e < length (spots_of g shape old def owners forests) → After (get_or (spots_of g shape old def owners forests) e d) (get_or (spots_of g shape new def owners_now (with_indexes forests trees_now)) e f)
        each e d f within =
            let inside : e < shape.extents = omega (arith, within, long) in
            subst (λ a. After a (get_or (spots_of g shape new def owners_now (with_indexes forests trees_now)) e f)) (sym (spot_at shape (pages_of g old) def owners forests.map e d inside))
            (subst (After _) (sym (spot_at shape (pages_of g new) def owners_now forests.map e f inside))
            (spot_after change g shape old new def owners owners_now forests.map e (kept e) (changes.kept.blocks e) (took e) (gave e)))

  -- ---- entries that came

  module _ (before noted : SpaceNotes) (old new : S) (row : Row) (rid : Rid) (chosen : List Bool) (owners : List Kind) (forests : TableForests) (st : StandsTable g shape old def owners forests)
      (m : MovesTrees g GainsOneEntry shape before noted new def (entry_of def row rid) chosen owners forests.indexes) (touched : Touches g (IsSpaceOfTrees g shape old (record_places def)) old new)
      (told : (g.state new).is_told ≡ (g.state old).is_told) where
    pub claims_of_entering : SpotsAfterClaims (spots_of g shape old def owners forests) (spots_of g shape new def m.owners_now (with_indexes forests m.trees_now))
    claims_of_entering =
        spots_then before noted old new owners m.owners_now forests m.trees_now st m.changes touched told claims_change (λ e used was now. tt)
        (λ e used was now. absurd (no_less shape before noted old new owners m.owners_now (record_places def) forests.indexes m.trees_now m.changes st.trees.map (more_pages def row rid chosen forests.indexes m.trees_now m.moves) e used was now))

    pub entered_table : GrowsPages g shape old new → EntersChosen g shape before noted old new def chosen row rid owners forests
    entered_table grows = record {
      owners_now = m.owners_now;
      indexes_now = m.trees_now;
      table = changes_indexes before noted old new owners m.owners_now forests m.trees_now st m.changes touched told grows;
      gain = moves_as GainsOneEntry GainsEntry (entry_of def row rid) chosen def.indexes forests.indexes m.trees_now (λ x t u gains. gains.gains) m.moves;
      claims = claims_of_entering;
    }

  -- ---- entries that left

  module _ (before noted : SpaceNotes) (old new : S) (row : Row) (rid : Rid) (chosen : List Bool) (owners : List Kind) (forests : TableForests) (st : StandsTable g shape old def owners forests)
      (m : MovesTrees g LosesOneEntry shape before noted new def (entry_of def row rid) chosen owners forests.indexes) (touched : Touches g (IsTreesOrMapPage g shape old (record_places def)) old new)
      (told : (g.state new).is_told ≡ (g.state old).is_told) (count : length (g.state new).work ≡ length (g.state old).work) where
    wide : Touches g (IsSpaceOfTrees g shape old (record_places def)) old new
    wide = touches_wider touched (λ p mine. space_of_trees_or_map shape old (record_places def) p mine)

    pub grows_of_leaving : GrowsPages g shape old new
    grows_of_leaving = grows_untouched shape old new owners (record_places def) forests.indexes (indexes_stand old owners forests st) touched count

    pub changes_of_leaving : ChangesIndexes g shape before noted old new def owners forests m.owners_now m.trees_now
    changes_of_leaving = changes_indexes before noted old new owners m.owners_now forests m.trees_now st m.changes wide told grows_of_leaving

    pub returns_of_leaving : SpotsAfterReturns (spots_of g shape old def owners forests) (spots_of g shape new def m.owners_now (with_indexes forests m.trees_now))
    returns_of_leaving =
        spots_then before noted old new owners m.owners_now forests m.trees_now st m.changes wide told returns_change
        (λ e used was now. absurd (no_more shape before noted old new owners m.owners_now (record_places def) forests.indexes m.trees_now m.changes (indexes_stand old owners forests st)
        (fewer_pages def (entry_of def row rid) chosen forests.indexes m.trees_now m.moves) e used was now))
        (λ e used was now. tt)

    pub left_table : LeavesChosen g shape before noted old new def chosen row rid owners forests
    left_table = record {
      owners_now = m.owners_now;
      indexes_now = m.trees_now;
      table = changes_of_leaving;
      lose = moves_as LosesOneEntry LosesEntry (entry_of def row rid) chosen def.indexes forests.indexes m.trees_now (λ x t u loses. loses.loses) m.moves;
      pages = fewer_pages def (entry_of def row rid) chosen forests.indexes m.trees_now m.moves;
      returns = returns_of_leaving;
    }
