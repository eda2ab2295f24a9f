use Rattle.std.proofs.Common.{◌≡◌, ◌∙◌, [], ap, sym, subst, arith}
use Rattle.std.proofs.lemmas.List.{nil_from_length}
use Rattle.std.specs.Vec.Iter.{into_iter_items}
use Rattle.row_groups.specs.declared.fault.GroupFault.TheVariants.{Memory}
use Rattle.row_groups.specs.Adding.{lines_in}
use Rattle.row_groups.proofs.SumLemmas.{LinesCloseSo, lines_at, lines_begin, lines_end, lines_fault, lines_next, match_err_as}
use Rattle.row_groups.proofs.closing.close_lines.Goals as goal

pub loop-line-init : goal.loop-line-init
loop-line-init c = λ wide. lines_begin c.args.outs.now (lines_in c.args.lines.items) c.new-closed.result (lines_in (into_iter_items c.into_iter-line-iterator.result)) wide c.new-closed.ensures (ap lines_in c.into_iter-line-iterator.ensures.into_iter_gives.0)

pub returns-in_err-close : goal.returns-in_err-close
returns-in_err-close c = λ wide.
    let so = lines_at c.args.outs.now (lines_in c.args.lines.items) c.loop-line.closed (lines_in (into_iter_items c.loop-line.line-iterator)) (lines_in (into_iter_items c.next.new.self)) c.in-Some.line.line (c.loop-line.invariant wide) (ap lines_in c.in-Some.ensures.steps.0) in
    match_err_as c.from_residual.result c.in_err-close.field-0.0 _ _ c.from_residual.ensures.1
    (lines_fault c.args.outs.now (lines_in c.args.lines.items) c.loop-line.closed c.in-Some.line.line (lines_in (into_iter_items c.next.new.self)) c.in_err-close.field-0.0 so (c.in_err-close.ensures so.wide.0))

pub returns-in_err-push : goal.returns-in_err-push
returns-in_err-push c = λ wide. match_err_as c.from_residual-in_err-push.result Memory _ _ c.from_residual-in_err-push.ensures.1 tt

pub loop-line-preserved : goal.loop-line-preserved
loop-line-preserved c = λ wide.
    let so = lines_at c.args.outs.now (lines_in c.args.lines.items) c.loop-line.closed (lines_in (into_iter_items c.loop-line.line-iterator)) (lines_in (into_iter_items c.next.new.self)) c.in-Some.line.line (c.loop-line.invariant wide) (ap lines_in c.in-Some.ensures.steps.0) in
    let both = c.in_ok-close.ensures so.wide.0 in
    subst (λ closed. LinesCloseSo c.args.outs.now (lines_in c.args.lines.items) closed (lines_in (into_iter_items c.next.new.self))) (sym c.in_ok-push.ensures.ok)
    (lines_next c.args.outs.now (lines_in c.args.lines.items) c.loop-line.closed c.in-Some.line.line c.in_ok-close.field-0 (lines_in (into_iter_items c.next.new.self)) so both.0 both.1)

pub returns : goal.returns
returns c = λ wide.
    let none : into_iter_items c.loop-line.line-iterator ≡ [] = nil_from_length (into_iter_items c.loop-line.line-iterator) (omega (arith, c.in-None.ensures.steps.0, c.loop-line.line-iterator.rest.ok.0)) in
    let both = lines_end c.args.outs.now (lines_in c.args.lines.items) c.loop-line.closed (subst (LinesCloseSo c.args.outs.now (lines_in c.args.lines.items) c.loop-line.closed) (ap lines_in none) (c.loop-line.invariant wide)) in
    (c.into_vec.ensures ∙ both.0, both.1)
