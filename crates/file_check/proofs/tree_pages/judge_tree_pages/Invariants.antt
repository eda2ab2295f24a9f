use Rattle.std.proofs.Common.{◌≡◌, ◌<◌, ℕ, None, false}
use Rattle.std.specs.Prelude.{IsTrue}
use Rattle.mdc_ast.specs.Definitions.{Definitions}
use Rattle.store_api.specs.Extents.{first_page_of}
use Rattle.mdc_sound.specs.SpaceRules.{DatabaseView, IsTreePageSound}
use Rattle.file_check.specs.Known.{AreTimesInTrees, ViewHasTrees}
use Rattle.file_check.proofs.KindsLemmas.{ReadsMap}
use Rattle.file_check.proofs.tree_pages.judge_tree_pages.Given as goal

-- the pages in front of the extent at hand are sound
abbrev pub invariant-loop-e : goal.invariant-loop-e
invariant-loop-e g l = record {
  same : (g.P.Pages.state l.pages).work ≡ (g.P.Pages.state l.fn.pages).work;
  going : (g.P.Pages.state l.pages).ended ≡ false;
  runs : ReadsMap g.P.Pages l.fn.shape l.fn.pages l.pages None;
  sound : IsTrue (g.P.Pages.state l.fn.pages).is_told → (defs : Definitions) (view : DatabaseView) → ViewHasTrees l.fn.shape (g.P.Pages.state l.fn.pages).work defs view
      → AreTimesInTrees (g.P.Pages.state l.fn.pages).work view l.times → (p : ℕ) → p < first_page_of l.fn.shape.extents l.fn.shape.extent_pages l.e → IsTreePageSound l.fn.shape view p;
}
