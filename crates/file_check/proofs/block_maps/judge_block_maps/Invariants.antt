use Rattle.std.proofs.Common.{◌≡◌, None, false, take}
use Rattle.std.specs.Prelude.{IsTrue}
use Rattle.store_api.specs.Frame.{NoPage}
use Rattle.store_api.specs.RunsOverPages.{RunsOverPages}
use Rattle.mdc_sound.specs.SpaceRules.{DatabaseView, tables_there}
use Rattle.file_check.specs.Judging.{JudgesEach}
use Rattle.file_check.specs.Known.{ViewHasTrees}
use Rattle.file_check.specs.Looking.{AnyPage, Unless}
use Rattle.file_check.proofs.JudgedMapsLemmas.{MapBreaks, MapSound}
use Rattle.file_check.proofs.block_maps.judge_block_maps.Given as goal

-- the block maps of the tables so far were judged
abbrev pub invariant-loop-def : goal.invariant-loop-def
invariant-loop-def g l = record {
  same : (g.P.Pages.state l.pages).work ≡ (g.P.Pages.state l.fn.pages).work;
  going : (g.P.Pages.state l.pages).ended ≡ false;
  runs : RunsOverPages g.P.Pages NoPage AnyPage (Unless g.P.Pages l.fn.pages (λ told. (view : DatabaseView) × ViewHasTrees l.fn.shape told l.defs view)) l.fn.pages l.pages None;
  judged : IsTrue (g.P.Pages.state l.fn.pages).is_told → (view : DatabaseView) → ViewHasTrees l.fn.shape (g.P.Pages.state l.fn.pages).work l.defs view
      → JudgesEach (MapSound l.fn.shape view) (MapBreaks view) (tables_there (take l.def-index view.places)) l.lowest;
}
