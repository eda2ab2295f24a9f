use Rattle.std.proofs.lemmas.Result.{IfOk-weaker}
use Rattle.store_api.proofs.RunsOverPagesLemmas.{runs_exit}
use Rattle.entry_tree.specs.Forest.{Forest}
use Rattle.block_map.specs.MapLines.{used_blocks}
use Rattle.mdc_sound.specs.BlockRules.{AreBlockRowsSound}
use Rattle.file_check.specs.BlocksJudged.{BreaksBlockRows}
use Rattle.file_check.specs.Judging.{JudgesEach}
use Rattle.file_check.specs.Known.{HasBlockMap}
use Rattle.file_check.specs.KnownTables.{TableHasRows, TellsMap, TellsTable, TellsTrees}
use Rattle.file_check.specs.RowsJudged.{JudgesTable}
use Rattle.file_check.proofs.JudgedTablesLemmas.{judged_broken, judged_sound, rows_kept}
use Rattle.file_check.proofs.UnlessLemmas.{runs_undamaged}
use Rattle.file_check.proofs.VerdictsLemmas.{Learns, learns_next, learns_nothing, learns_on, runs_next, says_next}
use Rattle.file_check.proofs.table_judging.judge_table.Given.{Over}
use Rattle.file_check.proofs.table_judging.judge_table.Goals.{In-None}
use Rattle.file_check.proofs.table_judging.judge_table.Goals as goal

-- the row pages are sound
row_pages : (g : Over) (c : In-None g) → Learns g.P.Pages (TellsTrees c.args.shape c.args.def.now) (TellsTable c.args.shape c.args.def.now) c.args.pages.now c.judge_row_pages.new.pages
row_pages g c =
    let shape = c.args.shape in
    let def = c.args.def.now in
    let found = c.in_ok-page.field-0 in
    learns_next learns_nothing (λ pages. (m : Forest) → HasBlockMap shape pages def m → JudgesEach (AreBlockRowsSound shape pages def) (BreaksBlockRows shape pages def) (used_blocks m) found) (TellsTable shape def)
    c.in_ok-page.ensures.runs c.in_ok-page.ensures.same c.in_ok-page.ensures.judged
    (λ known says. (known.0, rows_kept found c.in-None.is (says known.0 known.1.map) known.1))

pub returns-in_err-page-clause-runs : goal.returns-in_err-page-clause-runs
returns-in_err-page-clause-runs g c =
    runs_exit c.from_residual.result c.from_residual.ensures.1 (runs_next {Known = TellsTrees c.args.shape c.args.def.now} learns_nothing (TellsMap c.args.shape c.args.def.now) (λ known. (known.0, known.1.map)) c.in_err-page.ensures.runs)

pub returns-in-Some-clause-judged : goal.returns-in-Some-clause-judged
returns-in-Some-clause-judged g c told rule m known =
    judged_broken rule c.of_row_page.result c.in_ok-page.field-0 c.in-Some.page c.in-Some.is c.of_row_page.ensures (λ trees. c.in_ok-page.ensures.judged told m trees.map) known

pub returns-in-Some-clause-runs : goal.returns-in-Some-clause-runs
returns-in-Some-clause-runs g c =
    runs_undamaged (TellsTrees c.args.shape c.args.def.now) (learns_on {Known = TellsTrees c.args.shape c.args.def.now} learns_nothing c.in_ok-page.ensures.runs c.in_ok-page.ensures.same).runs

pub returns-in-None-clause-judged : goal.returns-in-None-clause-judged
returns-in-None-clause-judged g c =
    let shape = c.args.shape in
    let def = c.args.def.now in
    IfOk-weaker c.judge_rows_of_table.result _ _
    (λ found judged told rule m known.
    judged_sound rule found c.in_ok-page.field-0 c.in-None.is (λ trees. c.in_ok-page.ensures.judged told m trees.map)
    (λ has. (says_next (row_pages g (goal.at.returns-in-None-clause-judged g c).In-None) (λ pages. TableHasRows shape pages def m → JudgesTable shape pages def m found) (λ t. judged t m) told (m, has.trees)).1 has) known)
    c.judge_rows_of_table.ensures.judged

pub returns-in-None-clause-runs : goal.returns-in-None-clause-runs
returns-in-None-clause-runs g c =
    runs_next (row_pages g (goal.at.returns-in-None-clause-runs g c).In-None) (TellsTable c.args.shape c.args.def.now) (λ known. known) c.judge_rows_of_table.ensures.runs
