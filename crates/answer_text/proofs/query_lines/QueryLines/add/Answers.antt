use Rattle.std.proofs.Common.{◌∷◌, ◌++◌, [], subst}
use Rattle.std.proofs.lemmas.Result.{on_ok_weaker}
use Rattle.row_groups.specs.Gathering.{AreGroupsOf}
use Rattle.row_groups.specs.Shape.{shape_of}
use Rattle.answer_text.specs.Answering.{AreLinesOf}
use Rattle.answer_text.proofs.query_lines.QueryLines.add.Goals as goal

pub returns-in-Grouped : goal.returns-in-Grouped
returns-in-Grouped c = λ columns select rows are.
    let here = subst (AreLinesOf columns select rows) c.in-Grouped.is are in
    on_ok_weaker c.add-in-Grouped.result
    (λ groups. (here.0, here.1, subst (λ values. AreGroupsOf (shape_of select) (rows ++ record { number = c.args.number; values = values } ∷ []) c.add-in-Grouped.new.self) c.as_slice.ensures groups))
    (c.add-in-Grouped.ensures.groups (shape_of select) rows here.2)
