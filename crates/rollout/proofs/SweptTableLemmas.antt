-- A sweep over the record indexes of a table: the entries of the rows of some blocks leave them.
use Rattle.std.proofs.Common.{◌≡◌, ◌≢◌, ◌≤◌, ◌<◌, ℕ, List, get_or, length, sum_by, arith, sym, subst}
use Rattle.std.specs.Prelude.{AllPairs, Option}
use Rattle.mdc_ast.specs.TableLimits.{IsTableDef}
use Rattle.mdc_ast.specs.declared.definition.TableDef.{TableDef}
use Rattle.store_api.specs.Frame.{Touches}
use Rattle.store_api.specs.RunsOverPages.{RunsOverPages}
use Rattle.store_api.specs.declared.fault.StoreFault.{StoreFault}
use Rattle.store_api.specs.declared.pages.Pages.{Ghosts}
use Rattle.store_api.specs.declared.shape.Shape.{Shape}
use Rattle.store_api.proofs.FrameLemmas.{touches_wider}
use Rattle.store_api.proofs.RunsOverPagesLemmas.{runs_wider}
use Rattle.extent_map.specs.Owners.{owner_of}
use Rattle.extent_map.specs.declared.kind.Kind.{Kind}
use Rattle.extent_map.specs.declared.kind.Kind.TheVariants.{Block}
use Rattle.extent_map.specs.declared.space_notes.SpaceNotes.{SpaceNotes}
use Rattle.entry_tree.specs.Forest.{times}
use Rattle.table_trees.specs.TableTrees.{record_places}
use Rattle.table_trees.specs.TreesBeside.{IsSpaceOfTrees, IsTreesOrMapPage}
use Rattle.table_trees.proofs.SideBySideLemmas.{block_page_apart, space_of_trees_or_map}
use Rattle.mdc_sound.specs.Placing.{AfterReturns, Spot, SpotsAfterReturns}
use Rattle.mdc_sound.specs.StandingTable.{BreaksExpected, StandsTable, TableForests, pages_of, spots_of}
use Rattle.mdc_sound.proofs.ElementsLemmas.{zip_of}
use Rattle.mdc_sound.proofs.StandingTableLemmas.{block_below, block_kept}
use Rattle.mdc_sound.proofs.TableRowsLemmas.{KeepsBlockPages}
use Rattle.mdc_sound.proofs.TableSpotsLemmas.{length-spots, spot_at}
use Rattle.table_blocks.proofs.KeptExtentsLemmas.{grows_untouched, no_more}
use Rattle.table_blocks.proofs.OtherBlocksLemmas.{spot_after}
use Rattle.table_blocks.proofs.SpotChangesLemmas.{returns_change}
use Rattle.row_entries.specs.RowEntries.{IsTreeOrMapPageOfTable, with_indexes}
use Rattle.row_entries.proofs.ChosenTreesLemmas.{part_of_table}
use Rattle.row_entries.proofs.TableEntriesLemmas.{changes_indexes, indexes_stand, trees_or_map_of_table}
use Rattle.rollout.specs.LeavingRows.{AreUsedBlocks, ExpectsSweeping, LeavesBlocks, rows_in_blocks}
use Rattle.rollout.specs.SweptIndexes.{BreaksCounted, EachNamesSoMany, SweepsIndexes}
use Rattle.rollout.proofs.SweptCountLemmas.{each_counted, indexes_long}
use Rattle.rollout.proofs.SweptEntriesLemmas.{each_kept, each_swept}
use Rattle.rollout.proofs.SweptIndexesLemmas.{fewer_swept}

module _ {S : Type 0} (g : Ghosts S) (shape : Shape) (def : TableDef) (defined : IsTableDef def.number def) where
  -- what was run on the record indexes was run on the table
  pub swept_runs : (old new : S) (blocks : List ℕ) (rows : ℕ) → AllPairs (λ a b. a ≢ b) blocks → (fault : Option StoreFault)
      → RunsOverPages g (IsTreesOrMapPage g shape old (record_places def)) (IsTreesOrMapPage g shape old (record_places def)) (BreaksCounted g shape old def (EachNamesSoMany def blocks rows)) old new fault
      → RunsOverPages g (IsTreeOrMapPageOfTable g shape old def) (IsTreeOrMapPageOfTable g shape old def) (BreaksExpected g shape old def (ExpectsSweeping g shape old def blocks rows)) old new fault
  swept_runs old new blocks rows differ fault run = runs_wider run (λ p there mine. trees_or_map_of_table shape def defined old p mine) (λ p mine. trees_or_map_of_table shape def defined old p mine)
      (λ damage breaks. record {
        names = part_of_table shape def damage breaks.names;
        broken = λ owners forests st expects.
            breaks.broken owners forests.indexes (indexes_stand shape def defined old owners forests st)
            (subst (λ n. EachNamesSoMany def blocks n forests.indexes) (sym expects.count) (each_counted g shape old def defined owners forests st blocks expects.leaving.used differ expects.leaving.sound));
      })

  module _ (before noted : SpaceNotes) (old new : S) (blocks : List ℕ) (rows : ℕ) (owners : List Kind) (forests : TableForests) (st : StandsTable g shape old def owners forests)
      (swept : SweepsIndexes g shape before noted new def blocks rows owners forests.indexes) (touched : Touches g (IsTreesOrMapPage g shape old (record_places def)) old new)
      (told : (g.state new).is_told ≡ (g.state old).is_told) (count : length (g.state new).work ≡ length (g.state old).work) where
    wide : Touches g (IsSpaceOfTrees g shape old (record_places def)) old new
    wide = touches_wider touched (λ p mine. space_of_trees_or_map shape old (record_places def) p mine)

    fewer : (p : ℕ) → sum_by (times p) swept.trees_now ≤ sum_by (times p) forests.indexes
    fewer p = fewer_swept def blocks rows (length def.indexes) def.indexes forests.indexes swept.trees_now swept.swept p

    kept : (e : ℕ) → owner_of owners e ≡ Block def.number → KeepsBlockPages shape (pages_of g old) (pages_of g new) e
    kept e is =
        block_kept (IsSpaceOfTrees g shape old (record_places def)) shape old new owners def.number e st.trees.map st.told wide
        (λ p of mine. block_page_apart shape old owners (record_places def) forests.indexes p def.number (indexes_stand shape def defined old owners forests st) of.page of.block mine)
        (omega (arith, block_below owners e def.number is, st.trees.map.count)) is

    -- what each extent is to it
    returns : SpotsAfterReturns (spots_of g shape old def owners forests) (spots_of g shape new def swept.owners_now (with_indexes forests swept.trees_now))
    returns = zip_of AfterReturns olds news (omega (arith, long, length-spots shape (pages_of g new) def swept.owners_now forests.map)) each
      where
        olds : List Spot
        olds = spots_of g shape old def owners forests

        news : List Spot
        news = spots_of g shape new def swept.owners_now (with_indexes forests swept.trees_now)

        long : length (spots_of g shape old def owners forests) ≡ shape.extents
        long = length-spots shape (pages_of g old) def owners forests.map

        each : (e : ℕ) (d f : Spot) → e < length (spots_of g shape old def owners forests) → AfterReturns (get_or (spots_of g shape old def owners forests) e d) (get_or (spots_of g shape new def swept.owners_now (with_indexes forests swept.trees_now)) e f)
        each e d f within =
            let inside : e < shape.extents = omega (arith, within, long) in
            subst (λ a. AfterReturns a (get_or (spots_of g shape new def swept.owners_now (with_indexes forests swept.trees_now)) e f)) (sym (spot_at shape (pages_of g old) def owners forests.map e d inside))
            (subst (AfterReturns _) (sym (spot_at shape (pages_of g new) def swept.owners_now forests.map e f inside))
            (spot_after returns_change g shape old new def owners swept.owners_now forests.map e (kept e) (swept.changes.kept.blocks e)
            (λ used was now. absurd (no_more shape before noted old new owners swept.owners_now (record_places def) forests.indexes swept.trees_now swept.changes (indexes_stand shape def defined old owners forests st) fewer e used was now))
            (λ used was now. tt)))

    pub swept_table : AreUsedBlocks blocks owners forests → rows ≡ length (rows_in_blocks shape (pages_of g old) def blocks) → LeavesBlocks g shape before noted old new def blocks owners forests
    swept_table used are = record {
      owners_now = swept.owners_now;
      indexes_now = swept.trees_now;
      table = changes_indexes shape def defined before noted old new owners swept.owners_now forests swept.trees_now st swept.changes wide told
          (grows_untouched shape old new owners (record_places def) forests.indexes (indexes_stand shape def defined old owners forests st) touched count);
      kept = each_kept g shape old def defined owners forests st blocks used rows are forests.indexes swept.trees_now (indexes_long g shape old def defined owners forests st) swept.swept;
      lose = λ sound. each_swept g shape old def defined owners forests st blocks used rows forests.indexes swept.trees_now swept.swept sound;
      pages = fewer;
      returns = returns;
    }
