-- All that a run of calls which fetch, write, edit and grow says, in one fact.
use Rattle.std.specs.Prelude.{ℕ, Option}
use Rattle.store_api.specs.Works.{Works}
use Rattle.store_api.specs.Frame.{Touches}
use Rattle.store_api.specs.Fetching.{BringsOnly}
use Rattle.store_api.specs.Causes.{HasStoreCause}
use Rattle.store_api.specs.declared.fault.Damage.{Damage}
use Rattle.store_api.specs.declared.fault.StoreFault.{StoreFault}
use Rattle.store_api.specs.declared.pages.Pages.{Ghosts}

-- Of the pages that were there, only those that are mine may have changed, and only pages of the kind came to hand. The
-- fault that the run ended with, if any, has a cause, and no other fault was counted.
pub record RunsOverPages {S : Type 0} (g : Ghosts S) (Mine Kind : ℕ → Type 0) (Breaks : Damage → Type 0) (old new : S) (fault : Option StoreFault) : Type 0 where
  pub works : Works g old new
  pub touches : Touches g Mine old new
  pub brings : BringsOnly g Kind old new
  pub cause : HasStoreCause g Breaks old new fault
