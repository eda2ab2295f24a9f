use Rattle.std.proofs.Common.{◌≡◌, false, None, take}
use Rattle.std.specs.List.{AllByRecursion}
use Rattle.store_api.specs.Frame.{NoPage}
use Rattle.store_api.specs.RunsOverPages.{RunsOverPages}
use Rattle.mdc_sound.specs.BlockRules.{IsUniqueSound}
use Rattle.file_check.specs.KeysJudged.{TellsRows, WhereRows}
use Rattle.file_check.specs.Looking.{AnyPage, Unless}
use Rattle.file_check.proofs.table_keys.judge_keys_of_table.Given as goal

-- the indexes so far are sound
abbrev pub invariant-loop-index : goal.invariant-loop-index
invariant-loop-index g l = record {
  unique : WhereRows (g.P.Pages.state l.fn.pages) l.fn.shape l.def (λ rows. AllByRecursion (IsUniqueSound rows) (take l.index-index l.index-items));
  same : (g.P.Pages.state l.pages).work ≡ (g.P.Pages.state l.fn.pages).work;
  going : (g.P.Pages.state l.pages).ended ≡ false;
  runs : RunsOverPages g.P.Pages NoPage AnyPage (Unless g.P.Pages l.fn.pages (TellsRows l.fn.shape l.def)) l.fn.pages l.pages None;
}
