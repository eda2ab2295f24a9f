use Rattle.std.proofs.Common.{List, ℕ, refl}
use Rattle.std.proofs.lemmas.Result.{IfOk-weaker}
use Rattle.store_api.proofs.RunsOverPagesLemmas.{runs_wider}
use Rattle.file_check.proofs.IndexJudgingLemmas.{unless_map}
use Rattle.file_check.proofs.RowEntriesLemmas.{holds_told}
use Rattle.file_check.proofs.record_indexes.pending_blocks_of.Goals as goal

pub returns-clause-spare : goal.returns-clause-spare
returns-clause-spare g c =
    IfOk-weaker c.list.result _ _
    (λ (spare : List ℕ) listed told map_tree has. listed map_tree (holds_told c.args.pages.now (g.P.Pages.state c.args.pages.now).work c.args.map.tree map_tree told refl has)) c.list.ensures.listed

pub returns-clause-runs : goal.returns-clause-runs
returns-clause-runs g c = runs_wider c.list.ensures.runs (λ p there mine. mine) (λ p is. tt) (λ damage b. unless_map g.P.Pages c.args.pages.now c.args.map.tree damage b)
