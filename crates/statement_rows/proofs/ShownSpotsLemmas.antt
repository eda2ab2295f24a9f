-- The spots that the pages of a table show are those of the table that stands in them.
use Rattle.std.proofs.Common.{◌≡◌, List, ap, ◌∙◌}
use Rattle.mdc_ast.specs.declared.definition.TableDef.{TableDef}
use Rattle.store_api.specs.declared.pages.Pages.{Ghosts}
use Rattle.store_api.specs.declared.shape.Shape.{Shape}
use Rattle.extent_map.specs.declared.kind.Kind.{Kind}
use Rattle.extent_map.proofs.LawsOfTheMap.{one_map}
use Rattle.table_trees.specs.TableTrees.{map_place}
use Rattle.table_trees.proofs.ToldPagesLemmas.{map_of_told, tree_of_told}
use Rattle.mdc_sound.specs.Placing.{Spot, table_spots}
use Rattle.mdc_sound.specs.RunningFull.{ShowsTableSpots}
use Rattle.mdc_sound.specs.StandingTable.{StandsTable, TableForests, pages_of, spots_of}
use Rattle.mdc_sound.proofs.StandsForLemmas.{one_tree_at}

pub shown_spots : {S : Type 0} (g : Ghosts S) (shape : Shape) (s : S) (def : TableDef) (owners : List Kind) (forests : TableForests) (spots : List Spot) → StandsTable g shape s def owners forests
    → ShowsTableSpots shape (pages_of g s) def spots → spots ≡ spots_of g shape s def owners forests
shown_spots g shape s def owners forests spots st shows =
    let same : shows.owners ≡ owners = one_map shows.has_extents (map_of_told g s st.told shape owners st.trees.map) in
    let tree : shows.map_tree ≡ forests.map = one_tree_at (pages_of g s) (map_place def) shows.map_tree forests.map shows.has_map (tree_of_told g s st.told (map_place def) forests.map st.trees.held.0) in
    shows.spots_are ∙ ap (λ kinds. table_spots shape (pages_of g s) def kinds shows.map_tree) same ∙ ap (table_spots shape (pages_of g s) def owners) tree
