use Rattle.std.proofs.Common.{◌≡◌, ◌∙◌, List, ap, map, subst, sym}
use Rattle.mdc_ast.specs.declared.row.Row.{Row}
use Rattle.store_api.proofs.RunsOverPagesLemmas.{runs_exit_as}
use Rattle.block_rows.specs.declared.hit.Hit.{Hit}
use Rattle.row_groups.specs.Lines.{made_lines}
use Rattle.row_groups.specs.Numbers.{values_of}
use Rattle.row_groups.specs.Shape.{shape_of}
use Rattle.answer_text.specs.Answering.{GivesLines, Rise}
use Rattle.table_query.specs.QueryAnswers.{store_part_of}
use Rattle.table_query.proofs.AnswersLemmas.{fails, runs_lines, stops}
use Rattle.table_query.proofs.CopiedRowsLemmas.{hits_are}
use Rattle.table_query.proofs.copied.answer_from_copies.Goals as goal

pub returns-in_err-found-clause-answers : goal.returns-in_err-found-clause-answers
returns-in_err-found-clause-answers g c = λ owners forests rows st indexes are. stops c.args.def.now.columns c.args.select.now rows c.from_residual.result c.in_err-found.field-0.0 c.from_residual.ensures.1

pub returns-in_err-found-clause-runs : goal.returns-in_err-found-clause-runs
returns-in_err-found-clause-runs g c = runs_exit_as store_part_of c.from_residual.result c.from_residual.ensures.1 c.in_err-found.ensures.runs

-- the rows of the copies
abbrev copies : List Hit → List Row
copies hits = map (λ hit. hit.row) hits

pub returns-in_err-lines_of_hits-clause-answers : goal.returns-in_err-lines_of_hits-clause-answers
returns-in_err-lines_of_hits-clause-answers g c = λ owners forests rows st indexes are.
    let here : copies c.as_slice.result.now ≡ rows =
    ap copies c.as_slice.ensures.value
    ∙ hits_are g.P.Pages c.args.shape c.args.pages.now c.args.def.now c.args.select.now.pred c.in_ok-found.found.hits.items forests rows (c.in_ok-found.ensures.finds owners forests st indexes) are in
    fails c.args.def.now.columns c.args.select.now rows c.from_residual-in_err-lines_of_hits.result (copies c.as_slice.result.now) c.in_err-lines_of_hits.field-0.0 c.from_residual-in_err-lines_of_hits.ensures.1
    (ap (λ (rs : List Row). made_lines (shape_of c.args.select.now) (values_of rs)) here) (c.in_err-lines_of_hits.ensures (subst Rise (sym here) are.rise))

pub returns-in_err-lines_of_hits-clause-runs : goal.returns-in_err-lines_of_hits-clause-runs
returns-in_err-lines_of_hits-clause-runs g c =
    runs_lines c.in_ok-found.ensures.runs c.from_residual-in_err-lines_of_hits.result c.in_err-lines_of_hits.field-0.0 c.from_residual-in_err-lines_of_hits.ensures.1

pub returns-clause-answers : goal.returns-clause-answers
returns-clause-answers g c = λ owners forests rows st indexes are.
    let here : copies c.as_slice.result.now ≡ rows =
    ap copies c.as_slice.ensures.value
    ∙ hits_are g.P.Pages c.args.shape c.args.pages.now c.args.def.now c.args.select.now.pred c.in_ok-found.found.hits.items forests rows (c.in_ok-found.ensures.finds owners forests st indexes) are in
    subst (λ (rs : List Row). GivesLines c.args.def.now.columns (shape_of c.args.select.now) rs c.in_ok-lines_of_hits.field-0) here (c.in_ok-lines_of_hits.ensures (subst Rise (sym here) are.rise))
