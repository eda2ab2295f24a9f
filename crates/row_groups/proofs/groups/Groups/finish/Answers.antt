use Rattle.std.proofs.Common.{sym, subst}
use Rattle.row_groups.specs.declared.fault.GroupFault.TheVariants.{Memory}
use Rattle.row_groups.specs.Answers.{IsOutgrown}
use Rattle.row_groups.specs.Gathering.{AreGroupsOf}
use Rattle.row_groups.specs.Shape.{shape_of}
use Rattle.row_groups.proofs.LineLemmas.{answers_rows}
use Rattle.row_groups.proofs.SumLemmas.{match_err_as}
use Rattle.row_groups.proofs.groups.Groups.finish.Goals as goal

pub returns-in_err-lines : goal.returns-in_err-lines
returns-in_err-lines c = λ shape rows are numbers. match_err_as c.from_residual.result Memory _ _ c.from_residual.ensures.1 tt

pub returns : goal.returns
returns c = λ shape rows are numbers.
    answers_rows shape rows (record { shape = shape_of c.self.inside.select.now; found = c.self.inside.found; lines = c.self.inside.lines.items }) c.in_ok-lines.lines.items c.answer_of.result IsOutgrown
    (subst (AreGroupsOf shape rows) (sym c.self.view_is) are) numbers c.in_ok-lines.ensures c.answer_of.ensures
