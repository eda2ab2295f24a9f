use Rattle.std.proofs.Common.{◌≡◌, None, false, take}
use Rattle.std.specs.Prelude.{IsTrue}
use Rattle.store_api.specs.Frame.{NoPage}
use Rattle.store_api.specs.RunsOverPages.{RunsOverPages}
use Rattle.file_check.specs.BlockEntries.{BreaksEntryCount, HasEntryCount}
use Rattle.file_check.specs.Judging.{JudgesEach}
use Rattle.file_check.specs.KnownTables.{StandIndexes}
use Rattle.file_check.specs.Looking.{AnyPage, Unless}
use Rattle.file_check.specs.TableIndexes.{indexes_of_kind}
use Rattle.file_check.specs.declared.table_index.IndexKind.TheVariants.{Blocks}
use Rattle.file_check.proofs.block_entries.judge_entry_counts.Given as goal

-- the first indexes are judged
abbrev pub invariant-loop-place : goal.invariant-loop-place
invariant-loop-place g l = record {
  judged : IsTrue (g.P.Pages.state l.fn.pages).is_told → StandIndexes Blocks (g.P.Pages.state l.fn.pages).work l.def
      → JudgesEach (HasEntryCount (g.P.Pages.state l.fn.pages).work l.blocks) (BreaksEntryCount (g.P.Pages.state l.fn.pages).work l.blocks) (take l.place (indexes_of_kind Blocks l.def)) l.lowest;
  same : (g.P.Pages.state l.pages).work ≡ (g.P.Pages.state l.fn.pages).work;
  going : (g.P.Pages.state l.pages).ended ≡ false;
  runs : RunsOverPages g.P.Pages NoPage AnyPage (Unless g.P.Pages l.fn.pages (λ told. StandIndexes Blocks told l.def)) l.fn.pages l.pages None;
}
