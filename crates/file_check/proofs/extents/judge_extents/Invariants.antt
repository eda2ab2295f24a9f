use Rattle.std.specs.Prelude.{◌≡◌, ◌+◌, ◌<◌, ℕ, None, IsTrue}
use Rattle.store_api.specs.Frame.{NoPage}
use Rattle.store_api.specs.RunsOverPages.{RunsOverPages}
use Rattle.store_api.specs.declared.pages.Pages.{Ghosts}
use Rattle.store_api.specs.declared.shape.Shape.{Shape}
use Rattle.mdc_sound.specs.SpaceRules.{IsMapPageSound, IsRootSound}
use Rattle.file_check.specs.Looking.{AnyPage, Unless}
use Rattle.file_check.specs.MapPagesJudged.{owners_on}
use Rattle.file_check.proofs.extents.judge_extents.Given as goal

-- the pages of the map before one are sound
pub record AreSoundBefore {S : Type 0} (g : Ghosts S) (shape : Shape) (old now : S) (p : ℕ) : Type 0 where
  pub sound : IsTrue (g.state old).is_told → IsRootSound shape (g.state old).work → (j : ℕ) → 17 + j < p → IsMapPageSound shape (g.state old).work (owners_on shape (g.state old).work) j
  pub same : (g.state now).work ≡ (g.state old).work
  pub runs : RunsOverPages g NoPage AnyPage (Unless g old (IsRootSound shape)) old now None

abbrev pub invariant-loop-p : goal.invariant-loop-p
invariant-loop-p g l = AreSoundBefore g.P.Pages l.fn.shape l.fn.pages l.pages l.p
