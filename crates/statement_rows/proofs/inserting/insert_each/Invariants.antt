use Rattle.std.proofs.Common.{◌≡◌, ◌+◌, List, None, length}
use Rattle.std.specs.List.{AllByRecursion}
use Rattle.std.specs.Vec.Iter.{into_iter_items}
use Rattle.store_api.specs.RunsOverPages.{RunsOverPages}
use Rattle.extent_map.specs.declared.kind.Kind.{Kind}
use Rattle.mdc_ast.specs.Database.{numbered}
use Rattle.mdc_ast.specs.FittingRows.{RowFits}
use Rattle.mdc_sound.specs.StandingTable.{TableForests}
use Rattle.mdc_sound.proofs.NextNumberLemmas.{with_next}
use Rattle.free_space.specs.RoomNotes.{room_of}
use Rattle.statement_rows.specs.RowsOfStatement.{AnyPage, BreaksReady, IsReadyBetween, NothingMore}
use Rattle.statement_rows.proofs.InsertingRowsLemmas.{InsertsOn}
use Rattle.statement_rows.proofs.inserting.insert_each.Given as goal

-- the first rows were inserted
abbrev pub invariant-loop-values : goal.invariant-loop-values
invariant-loop-values g l = record {
  inserts : (owners : List Kind) (forests : TableForests) → IsReadyBetween g.P.Pages l.fn.shape l.fn.notes (room_of l.fn.rooms) l.fn.pages l.fn.def owners forests
      → InsertsOn g.P.Pages l.fn.shape l.fn.notes l.notes (room_of l.rooms) l.fn.pages l.pages l.fn.def l.def l.fn.tuples (into_iter_items l.values-iterator) owners forests;
  fit : AllByRecursion (RowFits l.fn.def) (numbered l.def.next (into_iter_items l.values-iterator));
  number : l.def.next + length (into_iter_items l.values-iterator) ≡ l.fn.def.next + length l.fn.tuples;
  raised : l.def ≡ with_next l.fn.def l.def.next;
  runs : RunsOverPages g.P.Pages AnyPage AnyPage (BreaksReady g.P.Pages l.fn.shape l.fn.notes (room_of l.fn.rooms) l.fn.pages l.fn.def NothingMore) l.fn.pages l.pages None;
}
