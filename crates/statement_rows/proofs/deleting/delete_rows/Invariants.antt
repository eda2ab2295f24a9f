use Rattle.std.proofs.Common.{◌≡◌, List, None, length, map, drop}
use Rattle.store_api.specs.Frame.{Touches}
use Rattle.store_api.specs.RunsOverPages.{RunsOverPages}
use Rattle.extent_map.specs.declared.kind.Kind.{Kind}
use Rattle.block_rows.specs.HeldRows.{placed_row}
use Rattle.mdc_sound.specs.StandingTable.{TableForests}
use Rattle.free_space.specs.RoomNotes.{room_of}
use Rattle.mdc_table.specs.KnownBlocks.{IsExpectedSpace}
use Rattle.statement_rows.specs.RowsOfStatement.{AnyPage, BreaksReady, HasTheseRows, IsReadyBetween, LieApart}
use Rattle.statement_rows.proofs.DeletingRowsLemmas.{DeletesOn}
use Rattle.statement_rows.proofs.DeletingSpaceLemmas.{StandsOnIfLain}
use Rattle.statement_rows.proofs.deleting.delete_rows.Given as goal

-- the first rows were deleted, in the space of a table that stands, and no page changed where there is none
abbrev pub invariant-loop-hit : goal.invariant-loop-hit
invariant-loop-hit g l = record {
  deletes : (owners : List Kind) (forests : TableForests) → IsReadyBetween g.P.Pages l.fn.shape l.fn.notes (room_of l.fn.rooms) l.fn.pages l.fn.def owners forests
      → HasTheseRows g.P.Pages l.fn.shape l.fn.pages l.fn.def (map placed_row l.fn.hits) owners forests
      → DeletesOn g.P.Pages l.fn.shape l.fn.notes l.notes (room_of l.rooms) l.fn.pages l.pages l.fn.def l.fn.hits (drop l.hit-index l.fn.hits) owners forests;
  count : length (g.P.Pages.state l.pages).work ≡ length (g.P.Pages.state l.fn.pages).work;
  stands : StandsOnIfLain g.P.Pages l.fn.shape l.fn.def l.fn.pages l.pages l.fn.hits (drop l.hit-index l.fn.hits);
  touches : Touches g.P.Pages (IsExpectedSpace g.P.Pages l.fn.shape l.fn.pages l.fn.def (LieApart g.P.Pages l.fn.shape l.fn.pages l.fn.def l.fn.hits)) l.fn.pages l.pages;
  idle : length l.fn.hits ≡ 0 → (g.P.Pages.state l.pages).work ≡ (g.P.Pages.state l.fn.pages).work;
  runs : RunsOverPages g.P.Pages AnyPage AnyPage (BreaksReady g.P.Pages l.fn.shape l.fn.notes (room_of l.fn.rooms) l.fn.pages l.fn.def (HasTheseRows g.P.Pages l.fn.shape l.fn.pages l.fn.def (map placed_row l.fn.hits)))
      l.fn.pages l.pages None;
}
