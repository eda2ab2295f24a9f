use Rattle.std.proofs.Common.{◌∙◌, ap, arith, map, sym}
use Rattle.std.proofs.lemmas.List.{nil_from_length}
use Rattle.std.specs.Vec.Iter.{into_iter_items}
use Rattle.row_groups.specs.declared.fault.GroupFault.TheVariants.{Memory}
use Rattle.row_groups.specs.Adding.{Numbered, seen}
use Rattle.row_groups.proofs.SumLemmas.{closed_whole, closes_begin, fault_at, match_err_as, next_at, none_at}
use Rattle.row_groups.proofs.line_so_far.LineSoFar.close.Goals as goal
use Rattle.row_groups.proofs.line_so_far.LineSoFar.close.Goals.{in-Some+in_ok-close+in_ok-push, in_default}

pub loop-out-init : goal.loop-out-init
loop-out-init c = λ wide.
    closes_begin c.args.outs.now c.args.self.line.shows c.new-shows.result (map seen (into_iter_items c.into_iter-tallies.result)) wide c.new-shows.ensures
    (ap (map seen) c.into_iter-tallies.ensures.rest ∙ ap (λ (one : Numbered). one.line.shows) c.self.view_is)

pub returns-in_err-close : goal.returns-in_err-close
returns-in_err-close c = λ wide.
    match_err_as c.from_residual.result c.in_err-close.field-0.0 _ _ c.from_residual.ensures.1
    (fault_at c.args.outs.now c.args.self.line.shows c.loop-out.shows c.loop-out.out-index _ (into_iter_items c.loop-out.tallies) (into_iter_items c.next.new.self) c.in-Some.tally c.in_err-close.field-0.0 c.loop-out-test.true
    (c.loop-out.invariant wide) c.in-Some.ensures.items c.in_err-close.ensures)

pub returns-in_err-push : goal.returns-in_err-push
returns-in_err-push c = λ wide. match_err_as c.from_residual-in_err-push.result Memory _ _ c.from_residual-in_err-push.ensures.1 tt

pub loop-out-preserved : goal.loop-out-preserved
loop-out-preserved c = λ wide. elim c.match-next.branch [
  | in-Some+in_ok-close+in_ok-push w ↦ next_at c.args.outs.now c.args.self.line.shows c.loop-out.shows c.match-next.shows c.loop-out.out-index _ (into_iter_items c.loop-out.tallies) (into_iter_items c.next.new.self) w.in-Some.tally
      w.in_ok-close.field-0 c.loop-out-test.true (c.loop-out.invariant wide) w.in-Some.ensures.items w.in_ok-close.ensures (w.shows-is ∙ w.in_ok-push.ensures.ok)
  | in_default w ↦ absurd (none_at c.args.outs.now c.args.self.line.shows c.loop-out.shows c.loop-out.out-index (into_iter_items c.loop-out.tallies) c.loop-out-test.true (c.loop-out.invariant wide)
      (nil_from_length (into_iter_items c.loop-out.tallies) (omega (arith, w.in_default.ensures.cases.0, c.loop-out.tallies.rest.ok.0))))
]

pub returns : goal.returns
returns c = λ wide.
    let whole = closed_whole c.args.outs.now c.args.self.line.shows c.loop-out.shows c.loop-out.out-index (into_iter_items c.loop-out.tallies) (omega arith) (c.loop-out.invariant wide) in
    (ap (λ shows. record { sorts = c.self.inside.sorts; shows = shows }) (whole.0 ∙ ap (λ (one : Numbered). one.line.shows) (sym c.self.view_is)) ∙ ap (λ (one : Numbered). one.line) c.self.view_is, whole.1)
