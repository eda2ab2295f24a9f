use Rattle.std.proofs.Common.{◌≡◌, ◌<◌, ℕ, None, false}
use Rattle.std.specs.Prelude.{IsTrue}
use Rattle.store_api.specs.Causes.{NoDamage}
use Rattle.store_api.specs.Frame.{NoPage}
use Rattle.store_api.specs.RunsOverPages.{RunsOverPages}
use Rattle.mdc_sound.specs.TableRows.{block_page}
use Rattle.file_check.specs.Looking.{AnyPage}
use Rattle.file_check.specs.BlocksJudged.{IsFittingPage}
use Rattle.file_check.proofs.row_pages.judge_rows_of_block.Given as goal

-- the pages so far fit
abbrev pub invariant-loop-place : goal.invariant-loop-place
invariant-loop-place g l = record {
  judged : IsTrue (g.P.Pages.state l.fn.pages).is_told → (j : ℕ) → j < l.place → IsFittingPage l.def (block_page l.fn.shape (g.P.Pages.state l.fn.pages).work l.block j);
  same : (g.P.Pages.state l.pages).work ≡ (g.P.Pages.state l.fn.pages).work;
  going : (g.P.Pages.state l.pages).ended ≡ false;
  runs : RunsOverPages g.P.Pages NoPage AnyPage NoDamage l.fn.pages l.pages None;
}
