use Rattle.std.proofs.Common.{◌∙◌, ◌⊎◌, None, subst, sym}
use Rattle.store_api.proofs.RunsOverPagesLemmas.{runs_exit}
use Rattle.table_trees.specs.ToldPages.{PageList}
use Rattle.file_check.specs.BlocksJudged.{BreaksBlockCount, IsBlockCounted}
use Rattle.file_check.specs.Judging.{Judges, JudgesEach}
use Rattle.file_check.specs.Known.{HasBlockMap}
use Rattle.file_check.specs.KnownTables.{TellsMap}
use Rattle.file_check.specs.RowsJudged.{AnyMiscounted, AreCounted}
use Rattle.block_map.specs.MapLines.{blocks_of_state}
use Rattle.file_check.proofs.JudgingLemmas.{judges_both}
use Rattle.file_check.proofs.UnlessLemmas.{runs_unless}
use Rattle.file_check.proofs.counts.judge_idle_counts.Goals as goal

pub returns-in_err-pending-clause-runs : goal.returns-in_err-pending-clause-runs
returns-in_err-pending-clause-runs g c =
    runs_exit c.from_residual-in_err-pending.result c.from_residual-in_err-pending.ensures.1
    (runs_unless (TellsMap c.args.shape c.args.def.now) c.in_ok-free.ensures.same c.in_ok-free.ensures.runs c.in_err-pending.ensures.runs)

pub returns-clause-judged : goal.returns-clause-judged
returns-clause-judged g c told m known =
    let shape = c.args.shape in
    let def = c.args.def.now in
    let work = (g.P.Pages.state c.args.pages.now).work in
    let free = c.in_ok-free.free in
    let pending = c.in_ok-pending.pending in
    let later : JudgesEach (IsBlockCounted shape work def m) (BreaksBlockCount shape work def m) (blocks_of_state 2 m) pending =
    subst (λ (pages : PageList). HasBlockMap shape pages def m → JudgesEach (IsBlockCounted shape pages def m) (BreaksBlockCount shape pages def m) (blocks_of_state 2 m) pending) c.in_ok-free.ensures.same
    (λ now. c.in_ok-pending.ensures.judged (c.in_ok-free.ensures.runs.works.steady.is_told ∙ told) m now) known in
    subst (Judges (AreCounted shape work def m 0 × AreCounted shape work def m 2) (λ p. AnyMiscounted shape work def m 0 p ⊎ AnyMiscounted shape work def m 2 p)) (sym c.lower.ensures)
    (judges_both (AreCounted shape work def m 0) (AreCounted shape work def m 2) (AnyMiscounted shape work def m 0) (AnyMiscounted shape work def m 2) free pending (c.in_ok-free.ensures.judged told m known) later)

pub returns-clause-runs : goal.returns-clause-runs
returns-clause-runs g c = runs_unless (TellsMap c.args.shape c.args.def.now) {fault = None} c.in_ok-free.ensures.same c.in_ok-free.ensures.runs c.in_ok-pending.ensures.runs
