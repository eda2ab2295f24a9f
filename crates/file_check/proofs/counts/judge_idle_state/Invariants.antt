use Rattle.std.proofs.Common.{◌≡◌, None, false, take}
use Rattle.std.specs.Prelude.{IsTrue}
use Rattle.store_api.specs.Frame.{NoPage}
use Rattle.store_api.specs.RunsOverPages.{RunsOverPages}
use Rattle.entry_tree.specs.Forest.{Forest}
use Rattle.file_check.specs.BlocksJudged.{BreaksBlockCount, IsBlockCounted}
use Rattle.file_check.specs.Judging.{JudgesEach}
use Rattle.file_check.specs.Known.{HasBlockMap}
use Rattle.file_check.specs.KnownTables.{TellsMap}
use Rattle.file_check.specs.Looking.{AnyPage, Unless}
use Rattle.file_check.proofs.counts.judge_idle_state.Given as goal

-- the blocks so far are judged
abbrev pub invariant-loop-block : goal.invariant-loop-block
invariant-loop-block g l = record {
  judged : IsTrue (g.P.Pages.state l.fn.pages).is_told → (map_tree : Forest) → HasBlockMap l.fn.shape (g.P.Pages.state l.fn.pages).work l.def map_tree
      → JudgesEach (IsBlockCounted l.fn.shape (g.P.Pages.state l.fn.pages).work l.def map_tree) (BreaksBlockCount l.fn.shape (g.P.Pages.state l.fn.pages).work l.def map_tree) (take l.block-index l.block-items) l.lowest;
  same : (g.P.Pages.state l.pages).work ≡ (g.P.Pages.state l.fn.pages).work;
  going : (g.P.Pages.state l.pages).ended ≡ false;
  runs : RunsOverPages g.P.Pages NoPage AnyPage (Unless g.P.Pages l.fn.pages (TellsMap l.fn.shape l.def)) l.fn.pages l.pages None;
}
