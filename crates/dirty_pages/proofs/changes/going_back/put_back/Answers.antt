-- One page less is saved each round, and it is back.
use Rattle.std.proofs.Common.{◌≡◌, None, subst, ◌∙◌}
use Rattle.std.specs.Prelude.{IsSome}
use Rattle.std.proofs.lemmas.Option.{slice_get_within}
use Rattle.dirty_pages.specs.Table.{LiesAt}
use Rattle.dirty_pages.specs.ChangesView.{written_over}
use Rattle.dirty_pages.proofs.Steps.{back_over, back_same, saved_there}
use Rattle.dirty_pages.proofs.changes.going_back.put_back.Goals as goal

pub unreachable-requires : goal.unreachable-requires
unreachable-requires c =
    let there : IsSome (written_over c.loop-p.table c.in-Some.p) = c.loop-p.invariant.over c.in-Some.p (saved_there c.loop-p.saved c.pop.new.self c.in-Some.p c.in-Some.page.value c.in-Some.ensures.0 c.in-Some.ensures.1) in
    let none : written_over c.loop-p.table c.in-Some.p ≡ None = c.in_default-place_of.ensures in
    let wrong = subst IsSome none there in
    absurd (cc)

pub exchange-requires : goal.exchange-requires
exchange-requires c =
    let lies : LiesAt c.loop-p.table c.in-Some.p c.in-Some-place_of.place = c.in-Some-place_of.ensures in
    slice_get_within c.loop-p.table c.in-Some-place_of.place (c.in-Some.p, lies.page) lies.there

pub loop-p-preserved : goal.loop-p-preserved
loop-p-preserved c =
    let lies : LiesAt c.loop-p.table c.in-Some.p c.in-Some-place_of.place = c.in-Some-place_of.ensures in record {
      over = back_over c.loop-p.table c.loop-p.saved c.pop.new.self c.exchange.new.self c.in-Some.p c.in-Some-place_of.place c.in-Some.page.value lies c.in-Some.ensures.0 c.in-Some.ensures.1 c.exchange.ensures.new c.loop-p.invariant.over;
      same = λ q. back_same c.loop-p.table c.loop-p.saved c.pop.new.self c.exchange.new.self c.in-Some.p c.in-Some-place_of.place c.in-Some.page.value lies c.in-Some.ensures.0 c.in-Some.ensures.1 c.exchange.ensures.new q ∙ c.loop-p.invariant.same q;
    }
