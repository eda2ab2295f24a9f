use Rattle.std.proofs.Common.{◌∙◌, ap, subst}
use Rattle.answer_text.specs.Answering.{AreLinesOf}
use Rattle.answer_text.specs.Lines.{closed_lines}
use Rattle.answer_text.proofs.QueryLinesLemmas.{plain_select_gives}
use Rattle.answer_text.proofs.query_lines.QueryLines.close.Goals as goal

pub returns-in_ok-close-in-Plain : goal.returns-in_ok-close-in-Plain
returns-in_ok-close-in-Plain c = λ columns select rows are rise.
    let here = subst (AreLinesOf columns select rows) c.in-Plain.is are in
    plain_select_gives columns select rows c.in_ok-close-in-Plain.field-0 here.0 (c.in_ok-close-in-Plain.ensures ∙ ap closed_lines here.1)
