use Rattle.std.proofs.Common.{sym, subst}
use Rattle.std.specs.Prelude.{IfOk, IsTrue}
use Rattle.store_api.proofs.RunsOverPagesLemmas.{runs_none}
use Rattle.file_check.specs.TreesJudged.{JudgesPlaces, places_of_def}
use Rattle.file_check.proofs.trees.judge_trees_of.Goals as goal

pub returns-in-None-clause-runs : goal.returns-in-None-clause-runs
returns-in-None-clause-runs g c = runs_none

pub returns-in-Some-clause-judged : goal.returns-in-Some-clause-judged
returns-in-Some-clause-judged g c =
    subst
    (λ def. IfOk c.judge_table.result (λ found. IsTrue (g.P.Pages.state c.args.pages.now).is_told → JudgesPlaces (g.P.Pages.state c.args.pages.now).work (places_of_def def) c.args.marks.now c.judge_table.new.marks found))
    (sym c.in-Some.is) c.judge_table.ensures.judged
