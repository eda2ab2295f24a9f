-- A number above the last is above all.
use Rattle.std.proofs.Common.{◌≡◌, ◌<◌, ◌-◌, length, slice_get, Some, sym, ap, ◌∙◌, arith}
use Rattle.std.proofs.lemmas.Bool.Decides.{nat_tests}
use Rattle.redo_journal.proofs.RisingLemmas.{above_all}
use Rattle.redo_journal.proofs.images.Images.rise_to.Goals as goal

pub returns-in-Some : goal.returns-in-Some
returns-in-Some c =
    let there : slice_get c.self.inside.images.items (length c.deref.result.now - 1) ≡ Some c.in-Some.field-0.now = ap (λ entries. slice_get entries (length c.deref.result.now - 1)) (sym c.deref.ensures.value) ∙ sym c.in-Some.ensures.value in
    let both = above_all c.self.inside.images.items c.args.self.now (length c.deref.result.now - 1) c.args.p c.in-Some.field-0.now c.self.view_is c.self.invariant (ap (λ n. n - 1) (ap length c.deref.ensures.value)) there in (
      (λ above. both.0 (grind (arith, nat_tests))),
      (λ all. let less : c.in-Some.field-0.now.0 < c.args.p = both.1 all in grind (arith, nat_tests)),
    )
