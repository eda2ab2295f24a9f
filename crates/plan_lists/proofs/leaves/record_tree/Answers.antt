use Rattle.std.proofs.Common.{Some, arith}
use Rattle.store_api.proofs.RunsOverPagesLemmas.{runs_exit, runs_wider}
use Rattle.mdc_ast.specs.Truth.{value_at}
use Rattle.key_codec.specs.Spans.{lies_in_span}
use Rattle.table_trees.specs.TableTrees.{place_of_tree}
use Rattle.record_index.proofs.IndexesLemmas.{has_indexes, key_parts, place_are}
use Rattle.live_rows.proofs.StandingTwinsLemmas.{index_there, index_tree}
use Rattle.plan_chooser.specs.PlanRows.{index_column}
use Rattle.plan_lists.proofs.FitsLemmas.{index_fits}
use Rattle.plan_lists.proofs.LeafLemmas.{record_breaks, rids_in_span, rids_of_rows, rids_stand}
use Rattle.plan_lists.proofs.leaves.record_tree.Goals as goal

pub record_tree-tree-requires-clause-there : goal.record_tree-tree-requires-clause-there
record_tree-tree-requires-clause-there g c = omega (arith, (index_fits c.args.def.now c.args.index c.args.span.now c.requires.fits).low, c.from.ensures)

pub record_tree-tree-requires-clause-parts : goal.record_tree-tree-requires-clause-parts
record_tree-tree-requires-clause-parts g c = key_parts c.args.def.now c.from.result (has_indexes c.args.def.now.number c.args.def.now c.requires.defined)

pub rids_in-requires-clause-indexes : goal.rids_in-requires-clause-indexes
rids_in-requires-clause-indexes g c = has_indexes c.args.def.now.number c.args.def.now c.requires.defined

pub rids_in-requires-clause-there : goal.rids_in-requires-clause-there
rids_in-requires-clause-there g c = (index_fits c.args.def.now c.args.index c.args.span.now c.requires.fits).low

pub rids_in-requires-clause-kind : goal.rids_in-requires-clause-kind
rids_in-requires-clause-kind g c = (index_fits c.args.def.now c.args.index c.args.span.now c.requires.fits).kind

pub returns-in_err-rids-clause-runs : goal.returns-in_err-rids-clause-runs
returns-in_err-rids-clause-runs g c =
    let fits = index_fits c.args.def.now c.args.index c.args.span.now c.requires.fits in
    runs_exit c.from_residual.result c.from_residual.ensures.1
    (runs_wider {fault = Some c.in_err-rids.field-0.0} c.in_err-rids.ensures.runs (λ p there none. none) (λ p is. is) (record_breaks c.args.shape c.args.pages.now c.args.def.now c.requires.defined c.args.index fits.low))

pub returns-clause-stands : goal.returns-clause-stands
returns-clause-stands g c =
    let shape = c.args.shape in
    let s = c.args.pages.now in
    let def = c.args.def.now in
    let index = c.args.index in
    let span = c.args.span.now in
    let fits = index_fits def index span c.requires.fits in
    let which = index_there def index fits.low in
    let leaf = c.leaf.ensures in
    let rids = c.in_ok-rids.rids in
    let tree = c.record_tree-tree.result in
    let place = place_are def index c.from.result (place_of_tree tree) c.from.ensures c.record_tree-tree.ensures in
    rids_stand shape s def (λ values. lies_in_span span (value_at values (index_column def index))) c.from_rids.result c.leaf.result leaf.members leaf.rows leaf.blocks rids c.from_rids.ensures.blocks c.from_rids.ensures.rids
    (λ owners forests st sound.
    let it = index_tree shape s def owners forests st sound index which.0 which.1 in
    rids_in_span shape s def c.requires.defined owners forests st sound index span which.0 which.1 tree place rids c.args.entries.now c.rids_in.new.entries (c.in_ok-rids.ensures.found it.tree it.held))
    (λ owners forests st sound.
    let it = index_tree shape s def owners forests st sound index which.0 which.1 in
    rids_of_rows shape s def c.requires.defined owners forests st sound index span which.0 which.1 tree place rids c.args.entries.now c.rids_in.new.entries (c.in_ok-rids.ensures.found it.tree it.held))
