-- What a call leaves that only reads: the pages as they were, and no mark.
use Rattle.std.specs.Prelude.{◌≡◌, None, Option, Some}
use Rattle.mdc_words.specs.Faults.{CountsFault}
use Rattle.mdc_ast.specs.declared.definition.TableDef.{TableDef}
use Rattle.store_api.specs.Works.{Steady}
use Rattle.store_api.specs.declared.fault.StoreFault.{StoreFault}
use Rattle.store_api.specs.declared.fault.StoreFault.TheVariants.{Device}
use Rattle.store_api.specs.declared.pages.Pages.{Ghosts}
use Rattle.store_api.specs.declared.shape.Shape.{Shape}
use Rattle.checked_table.specs.ExactDamage.{AnswersExactly}
use Rattle.checked_table.specs.WholeChanges.{HasSamePages}

-- a call changed no page, and this is said of the damage that it answers
pub record LeavesPages {S : Type 0} (g : Ghosts S) (Exact : Type 0) (old new : S) (answered : Option StoreFault) : Type 0 where
  -- the pages are those that there were
  pub pages : HasSamePages g old new
  -- no mark is open
  pub unmarked : (g.state new).marked ≡ None
  -- the base stands, also in a crash
  pub steady : Steady g old new
  -- a fault of the disk is answered only where one was counted, and nothing else is counted
  pub device : CountsFault (answered ≡ Some Device) (g.disk_faults old) (g.disk_faults new)
  -- what is said of the damage
  pub exact : Exact

-- and the damage is that of the pages
abbrev pub ReadsExactly : {S : Type 0} → Ghosts S → Shape → TableDef → S → S → Option StoreFault → Type 0
ReadsExactly g shape def old new answered = LeavesPages g (AnswersExactly g shape def old answered) old new answered
