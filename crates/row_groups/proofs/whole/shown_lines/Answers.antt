use Rattle.std.proofs.Common.{List, take, subst, arith, MatchResult}
use Rattle.std.proofs.lemmas.List.{take_all}
use Rattle.mdc_ast.specs.declared.row.Row.{Row}
use Rattle.row_groups.specs.declared.fault.GroupFault.TheVariants.{Memory}
use Rattle.row_groups.specs.Answers.{IsAnswer, IsFault}
use Rattle.row_groups.specs.Gathering.{AreGroupsOf}
use Rattle.row_groups.specs.Numbers.{DifferInNumber}
use Rattle.row_groups.specs.Shape.{shape_of}
use Rattle.row_groups.proofs.LineLemmas.{rows_more}
use Rattle.row_groups.proofs.SumLemmas.{match_err_as}
use Rattle.row_groups.proofs.whole.shown_lines.Goals as goal

pub returns-in_err-groups : goal.returns-in_err-groups
returns-in_err-groups c = λ numbers. match_err_as c.from_residual.result Memory _ _ c.from_residual.ensures.1 tt

pub returns-in_err-add : goal.returns-in_err-add
returns-in_err-add c = λ numbers. match_err_as c.from_residual-in_err-add.result Memory _ _ c.from_residual-in_err-add.ensures.1 tt

pub loop-row-preserved : goal.loop-row-preserved
loop-row-preserved c =
    subst (λ (rows : List Row). AreGroupsOf (shape_of c.args.select.now) rows c.add.new.self)
    (rows_more c.args.rows.now c.loop-row.row-index c.row-item.result c.as_slice.result.now c.loop-row-test.true c.row-item.is c.as_slice.ensures)
    (c.in_ok-add.ensures.groups (shape_of c.args.select.now) (take c.loop-row.row-index c.args.rows.now) c.loop-row.invariant)

pub returns : goal.returns
returns c =
    subst (λ (rows : List Row). DifferInNumber rows → MatchResult c.finish.result (IsAnswer (shape_of c.args.select.now) rows) (IsFault (shape_of c.args.select.now) rows))
    (take_all c.loop-row.row-index c.args.rows.now (omega arith))
    (c.finish.ensures (shape_of c.args.select.now) (take c.loop-row.row-index c.args.rows.now) c.loop-row.invariant)
