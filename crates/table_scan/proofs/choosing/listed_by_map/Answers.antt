use Rattle.std.proofs.Common.{◌∙◌, None, Some, ap, map}
use Rattle.store_api.proofs.RunsOverPagesLemmas.{runs_exit}
use Rattle.table_scan.specs.SeenTable.{listed_line}
use Rattle.table_scan.proofs.ListingLemmas.{all_listed_so, lists_lines}
use Rattle.table_scan.proofs.ScanningLemmas.{all_chosen, runs_used}
use Rattle.table_scan.proofs.choosing.listed_by_map.Goals as goal

pub returns-in_err-lines-clause-runs : goal.returns-in_err-lines-clause-runs
returns-in_err-lines-clause-runs g c = runs_exit c.from_residual.result c.from_residual.ensures.1 (runs_used c.args.shape c.args.def.now {fault = Some c.in_err-lines.field-0.0} c.in_err-lines.ensures.runs)

pub returns-clause-lists : goal.returns-clause-lists
returns-clause-lists g c =
    lists_lines c.args.def.now c.args.pages.now c.in_ok-lines.lines.items _ (c.in_ok-listed_by_lines.ensures ∙ ap (map listed_line) c.as_slice.ensures.value) c.in_ok-lines.ensures.rising c.in_ok-lines.ensures.of_tree

pub returns-clause-chosen : goal.returns-clause-chosen
returns-clause-chosen g c = λ owners forests st.
    let lists = returns-clause-lists g c in
    all_chosen c.args.shape c.args.def.now c.args.pages.now _ forests (lists.whole forests.map st.trees.held.0)

pub returns-clause-listed : goal.returns-clause-listed
returns-clause-listed g c = λ owners forests st.
    all_listed_so c.args.def.now c.args.shape c.args.pages.now _ owners forests st.trees.held.0 (returns-clause-lists g c)

pub returns-clause-runs : goal.returns-clause-runs
returns-clause-runs g c = runs_used c.args.shape c.args.def.now {fault = None} c.in_ok-lines.ensures.runs
