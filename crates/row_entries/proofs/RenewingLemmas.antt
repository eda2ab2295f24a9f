-- Entries that left the chosen record indexes, and entries that came into them behind these.
use Rattle.std.proofs.Common.{◌≡◌, ℕ, List, length, take, ap, sym, ◌∙◌, subst, inl, inr}
use Rattle.std.specs.Prelude.{Bool, Option, None}
use Rattle.mdc_values.specs.declared.rid.Rid.{Rid}
use Rattle.mdc_ast.specs.TableLimits.{IsTableDef}
use Rattle.mdc_ast.specs.declared.definition.IndexDef.{IndexDef}
use Rattle.mdc_ast.specs.declared.definition.TableDef.{TableDef}
use Rattle.mdc_ast.specs.declared.row.Row.{Row}
use Rattle.store_api.specs.RunsOverPages.{RunsOverPages}
use Rattle.store_api.specs.declared.fault.StoreFault.{StoreFault}
use Rattle.store_api.specs.declared.pages.Pages.{Ghosts}
use Rattle.store_api.specs.declared.shape.Shape.{Shape}
use Rattle.store_api.proofs.RunsOverPagesLemmas.{runs_then, runs_wider}
use Rattle.extent_map.specs.declared.kind.Kind.{Kind}
use Rattle.extent_map.specs.declared.space_notes.SpaceNotes.{SpaceNotes}
use Rattle.entry_tree.specs.EntryBounds.{IsEntryOf}
use Rattle.entry_tree.specs.Forest.{Forest, leaf_entries}
use Rattle.block_index.specs.Listing.{GainsEntry, LosesEntry}
use Rattle.table_trees.specs.TableTrees.{record_places}
use Rattle.table_trees.specs.TreesBeside.{GrowsPages, IsSpaceOfTrees, IsTreesOrMapPage}
use Rattle.table_trees.proofs.PageCountLemmas.{grows_pages_then}
use Rattle.table_trees.proofs.SideBySideLemmas.{changes_then, space_back, space_of_trees_or_map}
use Rattle.mdc_sound.specs.RunningFull.{differing_indexes}
use Rattle.mdc_sound.specs.StandingTable.{StandsTable, TableForests, spots_of}
use Rattle.table_blocks.proofs.WithEntryLemmas.{more_with}
use Rattle.record_index.specs.OneIndex.{GainsOneEntry, LosesOneEntry}
use Rattle.row_entries.specs.ChosenIndexes.{HasEntry, LacksEntry, LacksOrHasEntry, MoveChosen, chosen_indexes, differ_in, differing_chosen, entry_of}
use Rattle.row_entries.specs.ChosenTrees.{BreaksIndexes, MovesTrees, StandIndexes}
use Rattle.row_entries.specs.RowEntries.{RenewsRow, with_indexes}
use Rattle.row_entries.proofs.ChosenBitsLemmas.{chosen_by}
use Rattle.row_entries.proofs.ChosenLemmas.{moved_back, moves_as}
use Rattle.row_entries.proofs.ChosenTreesLemmas.{breaks_as}
use Rattle.row_entries.proofs.TableEntriesLemmas.{changes_indexes, changes_of_leaving, claims_of_entering, indexes_stand, returns_of_leaving}

-- what a tree has that lost an entry it had
had_before : (def : TableDef) (was is : Row) (rid : Rid) (which : IndexDef) (t u : Forest) → LosesOneEntry (entry_of def was rid which) t u → HasEntry def is rid which u → HasEntry def is rid which t
had_before def was is rid which t u loses there =
    subst (IsEntryOf (entry_of def is rid which)) (sym loses.loses.was) (more_with (entry_of def is rid which) (entry_of def was rid which) (leaf_entries u) there)

-- ---- the indexes in which keys differ

-- as many truth values of an array as there are indexes
pub told_in_front : (def : TableDef) (was is : Row) (n : ℕ) (bits : List Bool) → n ≡ length def.indexes → take (length def.indexes) bits ≡ differing_chosen def was is → take n bits ≡ differing_chosen def was is
told_in_front def was is n bits long told = ap (λ m. take m bits) long ∙ told

pub differing_are : (def : TableDef) (was is : Row) (chosen : List Bool) → chosen ≡ differing_chosen def was is → chosen_indexes chosen def.indexes ≡ differing_indexes def was is
differing_are def was is chosen same = ap (λ bits. chosen_indexes bits def.indexes) same ∙ chosen_by (differ_in def was is) def.indexes

-- ---- entries that leave, and others that come

module _ {S : Type 0} (g : Ghosts S) (shape : Shape) (before now noted : SpaceNotes) (old mid new : S) (def : TableDef) (was is : Row) (rid : Rid) (chosen : List Bool) where
  -- the entries left
  abbrev pub HaveLeft : Type 0
  HaveLeft = (owners : List Kind) (trees : List Forest) → StandIndexes g shape old def owners trees → MovesTrees g LosesOneEntry shape before now mid def (entry_of def was rid) chosen owners trees

  abbrev pub RunsLeaving : S → Option StoreFault → Type 0
  RunsLeaving s fault = RunsOverPages g (IsTreesOrMapPage g shape old (record_places def)) (IsTreesOrMapPage g shape old (record_places def)) (BreaksIndexes g shape old def chosen (LacksEntry def was rid)) old s fault

  abbrev pub RunsRenewing : S → Option StoreFault → Type 0
  RunsRenewing s fault = RunsOverPages g (IsSpaceOfTrees g shape old (record_places def)) (IsSpaceOfTrees g shape old (record_places def)) (BreaksIndexes g shape old def chosen (LacksOrHasEntry def was is rid)) old s fault

  -- a fault on the way out
  pub runs_leaving : (s : S) (fault : Option StoreFault) → RunsLeaving s fault → RunsRenewing s fault
  runs_leaving s fault run =
      runs_wider run (λ p there mine. space_of_trees_or_map shape old (record_places def) p mine) (λ p mine. space_of_trees_or_map shape old (record_places def) p mine)
      (breaks_as g shape old def chosen (LacksEntry def was rid) (LacksOrHasEntry def was is rid) (λ which t lacks. inl lacks))

  -- and one on the way in
  pub runs_renewing : (fault : Option StoreFault) → HaveLeft → RunsLeaving mid None
      → RunsOverPages g (IsSpaceOfTrees g shape mid (record_places def)) (IsSpaceOfTrees g shape mid (record_places def)) (BreaksIndexes g shape mid def chosen (HasEntry def is rid)) mid new fault
      → RunsRenewing new fault
  runs_renewing fault done run more =
      runs_then (runs_leaving mid None run) more (λ p there mine. back p mine) back
      (λ damage b. record {
        names = b.names;
        wrong = λ owners trees st.
            let m = done owners trees st in
            let w = b.wrong m.owners_now m.trees_now m.changes.stand in
            let tree = moved_back LosesOneEntry (entry_of def was rid) w.n chosen def.indexes trees m.trees_now w.which w.tree w.is_chosen w.index w.there m.moves in
            record {
              n = w.n;
              which = w.which;
              tree = tree.0;
              is_chosen = w.is_chosen;
              index = w.index;
              there = tree.1;
              rule = w.rule;
              page = w.page;
              wrong = inr (had_before def was is rid w.which tree.0 w.tree tree.2 w.wrong);
            };
      })
    where
      back : (p : ℕ) → IsSpaceOfTrees g shape mid (record_places def) p → IsSpaceOfTrees g shape old (record_places def) p
      back p mine = space_back shape before now old mid (record_places def) p (λ owners trees st. let m = done owners trees st in (m.owners_now, m.trees_now, m.changes)) mine

  -- the chosen indexes are those in which keys differ
  pub runs_of_differing : (s : S) (fault : Option StoreFault) → chosen ≡ differing_chosen def was is → RunsRenewing s fault
      → RunsOverPages g (IsSpaceOfTrees g shape old (record_places def)) (IsSpaceOfTrees g shape old (record_places def)) (BreaksIndexes g shape old def (differing_chosen def was is) (LacksOrHasEntry def was is rid)) old s fault
  runs_of_differing s fault same run =
      subst (λ bits. RunsOverPages g (IsSpaceOfTrees g shape old (record_places def)) (IsSpaceOfTrees g shape old (record_places def)) (BreaksIndexes g shape old def bits (LacksOrHasEntry def was is rid)) old s fault) same run

  -- ---- the table afterwards

  pub renewed_table : IsTableDef def.number def → chosen ≡ differing_chosen def was is → (owners : List Kind) (forests : TableForests) → StandsTable g shape old def owners forests → HaveLeft → RunsLeaving mid None
      → length (g.state mid).work ≡ length (g.state old).work
      → ((owners : List Kind) (trees : List Forest) → StandIndexes g shape mid def owners trees → MovesTrees g GainsOneEntry shape now noted new def (entry_of def is rid) chosen owners trees)
      → ((owners : List Kind) (trees : List Forest) → StandIndexes g shape mid def owners trees → GrowsPages g shape mid new)
      → (fault : Option StoreFault) → RunsOverPages g (IsSpaceOfTrees g shape mid (record_places def)) (IsSpaceOfTrees g shape mid (record_places def)) (BreaksIndexes g shape mid def chosen (HasEntry def is rid)) mid new fault
      → RenewsRow g shape before noted old new def was is rid owners forests
  renewed_table defined same owners forests st done run count enters grows fault more =
      let out = done owners forests.indexes (indexes_stand shape def defined old owners forests st) in
      let left = changes_of_leaving shape def defined before now old mid was rid chosen owners forests st out run.touches run.works.steady.is_told count in
      let into = enters out.owners_now out.trees_now out.changes.stand in
      let whole = runs_renewing fault done run more in
      record {
        owners_now = into.owners_now;
        indexes_now = into.trees_now;
        table = changes_indexes shape def defined before noted old new owners into.owners_now forests into.trees_now st
            (changes_then shape before now noted mid new (record_places def) owners out.owners_now into.owners_now forests.indexes out.trees_now into.trees_now out.changes into.changes) whole.touches whole.works.steady.is_told
            (grows_pages_then shape old mid new run.works.no_shorter more.works.no_shorter left.changes.grows (grows out.owners_now out.trees_now out.changes.stand));
        left = out.trees_now;
        lose = subst (λ bits. MoveChosen LosesEntry (entry_of def was rid) bits def.indexes forests.indexes out.trees_now) same (moves_as LosesOneEntry LosesEntry (entry_of def was rid) chosen def.indexes forests.indexes out.trees_now (λ x t u loses. loses.loses) out.moves);
        gain = subst (λ bits. MoveChosen GainsEntry (entry_of def is rid) bits def.indexes out.trees_now into.trees_now) same (moves_as GainsOneEntry GainsEntry (entry_of def is rid) chosen def.indexes out.trees_now into.trees_now (λ x t u gains. gains.gains) into.moves);
        mid = spots_of g shape mid def out.owners_now (with_indexes forests out.trees_now);
        returns = returns_of_leaving shape def defined before now old mid was rid chosen owners forests st out run.touches run.works.steady.is_told count;
        claims = claims_of_entering shape def defined now noted mid new is rid chosen out.owners_now (with_indexes forests out.trees_now) left.changes.stands into more.touches more.works.steady.is_told;
      }
