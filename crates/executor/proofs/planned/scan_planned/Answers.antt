use Rattle.std.proofs.Common.{◌≡◌, ◌∙◌, None, Some, length, subst, sym}
use Rattle.std.proofs.lemmas.Result.{IfOk-weaker, on_ok_weaker}
use Rattle.store_api.proofs.RunsOverPagesLemmas.{runs_exit, runs_memory}
use Rattle.block_rows.specs.Giving.{WasGiven}
use Rattle.block_rows.specs.HeldRows.{qualifying}
use Rattle.mdc_sound.specs.TableRows.{rows_in_table}
use Rattle.mdc_sound.proofs.StandingTableLemmas.{stands_same}
use Rattle.executor.specs.PartRows.{parts_with_rows, rows_in_parts}
use Rattle.executor.proofs.ListedRowsLemmas.{listed_have_rows, listed_still}
use Rattle.executor.proofs.MatchingLemmas.{counts_by_parts, gives_by_parts, lists_runs, some_by_parts, tree_runs, whole_is_used}
use Rattle.executor.proofs.SeenPartsLemmas.{parts_still}
use Rattle.executor.proofs.planned.scan_planned.Goals as goal

pub returns-in_err-tree-clause-runs : goal.returns-in_err-tree-clause-runs
returns-in_err-tree-clause-runs g c =
    runs_exit c.from_residual.result c.from_residual.ensures.1 (tree_runs c.args.shape c.args.def.now c.args.plan.now {fault = Some c.in_err-tree.field-0.0} c.in_err-tree.ensures.runs)

pub returns-in_err-merge-clause-runs : goal.returns-in_err-merge-clause-runs
returns-in_err-merge-clause-runs g c =
    runs_exit c.from_residual-in_err-merge.result c.from_residual-in_err-merge.ensures.1 (runs_memory (tree_runs c.args.shape c.args.def.now c.args.plan.now {fault = None} c.in_ok-tree.ensures.runs))

pub scan_parts-requires-clause-used : goal.scan_parts-requires-clause-used
scan_parts-requires-clause-used g c = λ part there whole owners forests st.
    let tree = c.in_ok-tree.ensures in
    whole_is_used c.args.shape c.args.pages.now c.args.def.now c.args.plan.now c.in_ok-tree.tree c.in_ok-merge.merge tree.stands c.in_ok-merge.ensures part there whole owners forests
    (stands_same c.args.shape c.tree_of_plan.new.pages c.args.pages.now c.args.def.now owners forests (sym tree.runs.works.steady.is_told) (sym tree.same) st)

pub scan_parts-requires-clause-lies : goal.scan_parts-requires-clause-lies
scan_parts-requires-clause-lies g c = λ part there.
    let tree = c.in_ok-tree.ensures in
    listed_still c.args.shape c.args.pages.now c.tree_of_plan.new.pages c.args.def.now part tree.runs.works.steady.is_told tree.same
    (listed_have_rows c.args.shape c.args.pages.now c.args.def.now c.args.plan.now c.in_ok-tree.tree c.in_ok-merge.merge tree.stands c.in_ok-merge.ensures part there)

pub returns-clause-gives : goal.returns-clause-gives
returns-clause-gives g c =
    on_ok_weaker c.scan_parts.result
    (λ said owners forests st sound.
    let tree = c.in_ok-tree.ensures in
    let def = c.args.def.now in
    let parts = c.in_ok-merge.merge in
    let still = stands_same c.args.shape c.args.pages.now c.tree_of_plan.new.pages def owners forests tree.runs.works.steady.is_told tree.same st in
    gives_by_parts c.args.shape c.args.pages.now def c.args.plan.now c.in_ok-tree.tree parts tree.stands c.in_ok-merge.ensures owners forests st sound c.args.pred.now c.requires.covers c.requires.judged
    g.K.RowSink c.args.sink.now c.scan_parts.new.sink
    (subst (λ pages. WasGiven g.K.RowSink c.args.sink.now c.scan_parts.new.sink (qualifying c.args.pred.now (rows_in_parts (rows_in_table c.args.shape pages def forests.map) parts))) tree.same (said owners forests still))) c.scan_parts.ensures.gives

pub returns-clause-lie : goal.returns-clause-lie
returns-clause-lie g c =
    on_ok_weaker c.scan_parts.result
    (λ said owners forests st.
    let tree = c.in_ok-tree.ensures in
    let def = c.args.def.now in
    let parts = c.in_ok-merge.merge in
    let still = stands_same c.args.shape c.args.pages.now c.tree_of_plan.new.pages def owners forests tree.runs.works.steady.is_told tree.same st in
    some_by_parts c.args.shape c.args.pages.now def c.args.plan.now c.in_ok-tree.tree parts tree.stands c.in_ok-merge.ensures owners forests st c.args.pred.now g.K.RowSink c.args.sink.now c.scan_parts.new.sink
    (subst (λ pages. WasGiven g.K.RowSink c.args.sink.now c.scan_parts.new.sink (qualifying c.args.pred.now (rows_in_parts (rows_in_table c.args.shape pages def forests.map) parts))) tree.same (said owners forests still))) c.scan_parts.ensures.gives

pub returns-clause-counts : goal.returns-clause-counts
returns-clause-counts g c =
    IfOk-weaker c.scan_parts.result _ _
    (λ blocks said owners forests st sound.
    let tree = c.in_ok-tree.ensures in
    let def = c.args.def.now in
    let parts = c.in_ok-merge.merge in
    let still = stands_same c.args.shape c.args.pages.now c.tree_of_plan.new.pages def owners forests tree.runs.works.steady.is_told tree.same st in
    counts_by_parts c.args.shape c.args.pages.now def c.args.plan.now c.in_ok-tree.tree parts tree.stands c.in_ok-merge.ensures owners forests st sound blocks
    (subst (λ pages. blocks ≡ length (parts_with_rows (rows_in_table c.args.shape pages def forests.map) parts)) tree.same (said owners forests still))) c.scan_parts.ensures.counts

pub returns-clause-seen : goal.returns-clause-seen
returns-clause-seen g c =
    on_ok_weaker c.scan_parts.result
    (λ said told.
    let tree = c.in_ok-tree.ensures in
    record {
      tree = c.in_ok-tree.tree;
      stands = tree.stands;
      parts = c.in_ok-merge.merge;
      are = c.in_ok-merge.ensures;
      seen = parts_still c.args.shape c.args.pages.now c.tree_of_plan.new.pages c.args.def.now tree.runs.works.steady tree.same c.in_ok-merge.merge (said (tree.runs.works.steady.is_told ∙ told));
    }) c.scan_parts.ensures.seen

pub returns-clause-runs : goal.returns-clause-runs
returns-clause-runs g c =
    let tree = c.in_ok-tree.ensures in
    lists_runs c.args.shape c.args.pages.now c.tree_of_plan.new.pages c.args.def.now c.args.plan.now c.in_ok-tree.tree c.in_ok-merge.merge tree.stands c.in_ok-merge.ensures tree.same tree.runs c.scan_parts.ensures.runs
