use Rattle.std.proofs.Common.{◌≡◌, Some, subst, sym}
use Rattle.mdc_words.specs.Faults.{CountsFault}
use Rattle.store_api.specs.declared.fault.StoreFault.TheVariants.{Device}
use Rattle.checked_table.proofs.ending.undo_change.Goals as goal

pub returns-clause-device : goal.returns-clause-device
returns-clause-device g c before counted =
    c.exact_fault.ensures.device before (subst (λ n. CountsFault (Some c.args.fault ≡ Some Device) before n) (sym c.undo.ensures.disk_faults) counted)
