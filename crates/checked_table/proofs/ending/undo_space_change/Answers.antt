use Rattle.std.proofs.Common.{◌≡◌, ◌∙◌, Option, Some, ap, subst}
use Rattle.mdc_words.specs.Faults.{CountsFault}
use Rattle.store_api.specs.declared.fault.StoreFault.{StoreFault}
use Rattle.store_api.specs.declared.fault.StoreFault.TheVariants.{Device}
use Rattle.extent_map.specs.Damages.{store_part_of}
use Rattle.checked_table.proofs.ending.undo_space_change.Goals as goal

pub returns-in-Store-clause-exact : goal.returns-in-Store-clause-exact
returns-in-Store-clause-exact g c damage is unsound = c.undo_change.ensures.exact damage is (λ first was. unsound first (ap store_part_of c.in-Store.is ∙ was))

pub returns-in-Store-clause-device : goal.returns-in-Store-clause-device
returns-in-Store-clause-device g c before counted =
    c.undo_change.ensures.device before (subst (λ (met : Option StoreFault). CountsFault (met ≡ Some Device) before (g.P.Pages.disk_faults c.args.pages.now)) (ap store_part_of c.in-Store.is) counted)
