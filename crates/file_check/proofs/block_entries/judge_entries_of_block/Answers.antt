use Rattle.std.proofs.Common.{arith}
use Rattle.std.proofs.lemmas.Bool.Decides.{nat_tests}
use Rattle.std.proofs.lemmas.Result.{IfOk-weaker}
use Rattle.store_api.proofs.RunsOverPagesLemmas.{runs_none}
use Rattle.file_check.proofs.BlockEntriesLemmas.{first_judged, no_first}
use Rattle.file_check.proofs.block_entries.judge_entries_of_block.Goals as goal

pub returns-then-is_empty-clause-judged : goal.returns-then-is_empty-clause-judged
returns-then-is_empty-clause-judged g c told stands = no_first (g.P.Pages.state c.args.pages.now).work c.args.def.now c.args.rows.now (grind (arith, nat_tests, c.is_empty.ensures, c.if-is_empty.true))

pub returns-then-is_empty-clause-runs : goal.returns-then-is_empty-clause-runs
returns-then-is_empty-clause-runs g c = runs_none

pub returns-clause-judged : goal.returns-clause-judged
returns-clause-judged g c =
    IfOk-weaker c.judge_entries_of_row.result _ _
    (λ found judged told stands. first_judged (g.P.Pages.state c.args.pages.now).work c.args.def.now c.args.rows.now c.index-rows-0.result found (grind (arith, nat_tests, c.is_empty.ensures, c.if-is_empty.false)) c.index-rows-0.is (judged told stands)) c.judge_entries_of_row.ensures.judged
