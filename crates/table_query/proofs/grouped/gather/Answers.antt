use Rattle.std.proofs.Common.{List, [], map, subst, sym}
use Rattle.mdc_ast.specs.declared.bound.BoundSelect.{BoundSelect}
use Rattle.mdc_ast.specs.declared.definition.ColumnDef.{ColumnDef}
use Rattle.mdc_ast.specs.declared.row.Row.{Row}
use Rattle.store_api.proofs.RunsOverPagesLemmas.{runs_exit_as, runs_memory, runs_none}
use Rattle.extent_map.specs.declared.kind.Kind.{Kind}
use Rattle.mdc_sound.specs.BlockRules.{AreTableIndexesSound}
use Rattle.mdc_sound.specs.StandingTable.{StandsTable, TableForests, pages_of, view_of}
use Rattle.mdc_sound.specs.TableRows.{PlacedRow}
use Rattle.row_groups.specs.Shape.{shape_of}
use Rattle.answer_text.specs.Answering.{AreLinesOf}
use Rattle.table_query.specs.Gathering.{HasLinesOf}
use Rattle.table_query.specs.QueryAnswers.{AreQueryRows, store_part_of}
use Rattle.table_query.proofs.AnswersLemmas.{fails}
use Rattle.table_query.proofs.ClosingLemmas.{StandForRows, stand_for_rows}
use Rattle.table_query.proofs.GatheredLemmas.{gives_as}
use Rattle.table_query.proofs.grouped.gather.Given.{Over}
use Rattle.table_query.proofs.grouped.gather.Goals as goal
use Rattle.table_query.proofs.grouped.gather.Goals.{In_ok-scan_by_plan}

-- the lines stand for the rows of the query
stand : (g : Over) (c : In_ok-scan_by_plan g) (owners : List Kind) (forests : TableForests) (rows : List Row) → StandsTable g.P.Pages c.args.shape c.args.pages.now c.args.def.now owners forests
    → AreTableIndexesSound c.args.shape (pages_of g.P.Pages c.args.pages.now) (view_of c.args.def.now forests) → AreQueryRows g.P.Pages c.args.shape c.args.pages.now c.args.def.now c.args.select.now.pred forests rows → StandForRows c.args.def.now.columns c.args.select.now rows c.scan_by_plan.new.sink.lines
stand g c owners forests rows st indexes are =
    let gives = c.in_ok-scan_by_plan.ensures.gives owners forests st indexes in
    let given : List Row = map (λ (one : PlacedRow). one.row) gives.rows in
    stand_for_rows g.P.Pages c.args.shape c.args.pages.now c.args.def.now c.args.select.now forests gives.rows rows c.scan_by_plan.new.sink.lines c.requires.shares gives.found
    (subst (λ (select : BoundSelect). HasLinesOf c.args.def.now.columns select given c.scan_by_plan.new.sink.lines) c.requires.select
    (subst (λ (columns : List ColumnDef). HasLinesOf columns g.Q.Asked.select given c.scan_by_plan.new.sink.lines) c.requires.columns (gives.given [] c.in_ok-rows.ensures.none)))
    are

pub returns-in_err-rows-clause-runs : goal.returns-in_err-rows-clause-runs
returns-in_err-rows-clause-runs g c = runs_exit_as store_part_of c.from_residual.result c.from_residual.ensures.1 (runs_memory runs_none)

pub returns-in_err-close-clause-answers : goal.returns-in_err-close-clause-answers
returns-in_err-close-clause-answers g c = λ owners forests rows st indexes are.
    let so = stand g (goal.at.returns-in_err-close-clause-answers g c).In_ok-scan_by_plan owners forests rows st indexes are in
    fails c.args.def.now.columns c.args.select.now rows c.from_residual-in_err-close.result so.others c.in_err-close.field-0.0 c.from_residual-in_err-close.ensures.1 so.make
    (c.in_err-close.ensures c.args.def.now.columns c.args.select.now so.others (subst (AreLinesOf c.args.def.now.columns c.args.select.now so.others) (sym c.into_lines.ensures) so.are) so.rise)

pub returns-clause-answers : goal.returns-clause-answers
returns-clause-answers g c = λ owners forests rows st indexes are.
    let so = stand g (goal.at.returns-clause-answers g c).In_ok-scan_by_plan owners forests rows st indexes are in
    gives_as c.args.def.now.columns (shape_of c.args.select.now) rows so.others so.make c.in_ok-close.field-0
    (c.in_ok-close.ensures c.args.def.now.columns c.args.select.now so.others (subst (AreLinesOf c.args.def.now.columns c.args.select.now so.others) (sym c.into_lines.ensures) so.are) so.rise)
