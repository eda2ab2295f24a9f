use Rattle.std.specs.Prelude.{◌≡◌, ◌<◌, ◌↔◌, ℕ, List, Bool, false, None, IsTrue, length, slice_index_or}
use Rattle.store_api.specs.Causes.{NoDamage}
use Rattle.store_api.specs.Frame.{NoPage}
use Rattle.store_api.specs.RunsOverPages.{RunsOverPages}
use Rattle.store_api.specs.declared.pages.Pages.{Ghosts}
use Rattle.mdc_sound.specs.TablePages.{IsTableThere}
use Rattle.file_check.specs.Looking.{AnyPage}
use Rattle.file_check.proofs.extents.tables_there.Given as goal

-- of the first tables it is known whether they are there
pub record TellsSome {S : Type 0} (g : Ghosts S) (old now : S) (tables : List Bool) (t : ℕ) : Type 0 where
  pub count : length tables ≡ 16
  pub each : IsTrue (g.state old).is_told → (x : ℕ) → x < t → IsTrue (slice_index_or tables x false) ↔ IsTableThere (g.state old).work x
  pub same : (g.state now).work ≡ (g.state old).work
  pub runs : RunsOverPages g NoPage AnyPage NoDamage old now None

abbrev pub invariant-loop-t : goal.invariant-loop-t
invariant-loop-t g l = TellsSome g.P.Pages l.fn.pages l.pages l.tables l.t
