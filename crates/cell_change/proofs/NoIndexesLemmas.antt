-- A table without record indexes: a row that leaves none of them leaves the table as it is.
use Rattle.std.proofs.Common.{◌≡◌, List, [], true, length, map, refl, ap, arith, sym, ◌∙◌, subst}
use Rattle.std.proofs.lemmas.List.{length-map, nil_from_length}
use Rattle.std.proofs.lemmas.Slice.Zip.{AllZip-long}
use Rattle.mdc_values.specs.declared.rid.Rid.{Rid}
use Rattle.mdc_ast.specs.TableLimits.{IsTableDef}
use Rattle.mdc_ast.specs.declared.definition.IndexDef.{IndexDef}
use Rattle.mdc_ast.specs.declared.definition.TableDef.{TableDef}
use Rattle.mdc_ast.specs.declared.row.Row.{Row}
use Rattle.store_api.specs.declared.pages.Pages.{Ghosts}
use Rattle.store_api.specs.declared.shape.Shape.{Shape}
use Rattle.extent_map.specs.declared.kind.Kind.{Kind}
use Rattle.extent_map.specs.declared.space_notes.SpaceNotes.{SpaceNotes}
use Rattle.entry_tree.specs.Forest.{Forest}
use Rattle.block_index.specs.Listing.{LosesEntry}
use Rattle.table_trees.specs.SpaceChanges.{MakesChanges, removed_entries}
use Rattle.table_trees.specs.TableTrees.{record_place, record_places}
use Rattle.table_trees.specs.TreesBeside.{HoldsTreeAt}
use Rattle.table_trees.proofs.SpaceChainsLemmas.{no_changes, same_space_itself}
use Rattle.table_trees.proofs.ToldPagesLemmas.{map_of_told}
use Rattle.mdc_sound.specs.RunningFull.{listings_in, row_listings}
use Rattle.mdc_sound.specs.StandingTable.{StandsTable, TableForests, pages_of, spots_of}
use Rattle.row_entries.specs.ChosenIndexes.{MoveChosen, entry_of}
use Rattle.row_entries.specs.RowEntries.{LeavesRow}
use Rattle.row_entries.proofs.TableEntriesLemmas.{indexes_stand}
use Rattle.cell_change.proofs.ChangedRowLemmas.{same_returns}
use Rattle.cell_change.proofs.TableStepsLemmas.{same_table}

module _ {S : Type 0} (g : Ghosts S) (shape : Shape) (s : S) (def : TableDef) (none : def.indexes ≡ []) (row : Row) (rid : Rid) (owners : List Kind) (forests : TableForests) (st : StandsTable g shape s def owners forests) where
  pub leaves_none : (noted : SpaceNotes) → IsTableDef def.number def → LeavesRow g shape noted noted s s def row rid owners forests
  leaves_none noted defined =
      let stand = indexes_stand shape def defined s owners forests st in
      let count : length forests.indexes ≡ 0 = AllZip-long (HoldsTreeAt g s) (record_places def) forests.indexes stand.held ∙ (length-map def.indexes (record_place def) ∙ ap length none) in
      let trees : forests.indexes ≡ [] = nil_from_length forests.indexes count in
      record {
        owners_now = owners;
        indexes_now = forests.indexes;
        table = record { changes = same_table g shape s def owners forests st; owned = λ e. refl; blocks = record { stay = λ p of not. refl }; rows = refl };
        lose = subst (λ (indexes : List IndexDef). MoveChosen LosesEntry (entry_of def row rid) (map (λ which. true) indexes) indexes forests.indexes forests.indexes) (sym none)
            (subst (λ (list : List Forest). MoveChosen LosesEntry (entry_of def row rid) [] [] list list) (sym trees) tt);
        pages = λ p. omega arith;
        returns = same_returns (spots_of g shape s def owners forests);
      }

  pub makes_none : MakesChanges shape (pages_of g s) (removed_entries (row_listings def row rid)) (pages_of g s)
  makes_none =
      subst (λ (indexes : List IndexDef). MakesChanges shape (pages_of g s) (removed_entries (listings_in def indexes row rid)) (pages_of g s)) (sym none)
      (no_changes shape (pages_of g s) (pages_of g s) (same_space_itself shape (pages_of g s) owners (map_of_told g s st.told shape owners st.trees.map)))
