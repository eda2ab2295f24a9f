use Rattle.std.proofs.Common.{◌≡◌, IsTrue, List, None, false, length}
use Rattle.store_api.specs.Frame.{NoPage}
use Rattle.store_api.specs.RunsOverPages.{RunsOverPages}
use Rattle.extent_map.specs.declared.kind.Kind.{Kind}
use Rattle.mdc_sound.specs.StandingTable.{BreaksExpected, StandsTable, TableForests, pages_of}
use Rattle.mdc_sound.specs.TableRows.{rows_in_table}
use Rattle.row_entries.specs.SoundEntries.{HasSoundIndexes}
use Rattle.executor.specs.Judging.{AreJudges}
use Rattle.executor.specs.PartRows.{IsPartsPage}
use Rattle.executor.specs.SettledSinks.{IsSettling}
use Rattle.executor.proofs.PartsLemmas.{AreGivenSoFar, AreLeft, IsWithinFirst}
use Rattle.executor.proofs.SeenPartsLemmas.{AreSeenSoFar}
use Rattle.executor.proofs.parts.scan_each.Given as goal

-- what was given of the parts that were gone over, with those that are left
abbrev pub invariant-parts : goal.invariant-parts
invariant-parts g l = record {
  left : AreLeft l.fn.merge l.merge;
  within : IsWithinFirst l.blocks l.merge;
  given : (owners : List Kind) (forests : TableForests) → StandsTable g.P.Pages l.fn.shape l.fn.pages l.def owners forests
      → AreGivenSoFar g.K.RowSink l.fn.settled.sink.now l.settled.sink.now l.fn.settled.pred.now (rows_in_table l.fn.shape (pages_of g.P.Pages l.fn.pages) l.def forests.map) l.fn.merge l.merge l.blocks;
  seen : IsTrue (g.P.Pages.state l.fn.pages).is_told → AreSeenSoFar g.P.Pages l.fn.shape l.fn.pages l.def l.fn.merge l.merge;
  judges : AreJudges l.def l.fn.settled.pred.now l.judges;
  settling : IsSettling g.K.RowSink l.def l.fn.settled.pred.now l.fn.settled.sink.ghost_name l.settled;
  same : (g.P.Pages.state l.pages).work ≡ (g.P.Pages.state l.fn.pages).work;
  going : (g.P.Pages.state l.pages).ended ≡ false;
  runs : RunsOverPages g.P.Pages NoPage (IsPartsPage g.P.Pages l.fn.shape l.fn.pages l.def l.fn.merge) (BreaksExpected g.P.Pages l.fn.shape l.fn.pages l.def (HasSoundIndexes g.P.Pages l.fn.shape l.fn.pages l.def)) l.fn.pages l.pages None;
}

abbrev pub decreases-parts : goal.decreases-parts
decreases-parts g l = length l.merge
