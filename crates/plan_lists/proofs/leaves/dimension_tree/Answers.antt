use Rattle.std.proofs.Common.{Some}
use Rattle.store_api.proofs.RunsOverPagesLemmas.{runs_exit, runs_wider}
use Rattle.mdc_ast.specs.Truth.{value_at}
use Rattle.key_codec.specs.Spans.{lies_in_span}
use Rattle.mdc_sound.proofs.DefinitionTreesLemmas.{has_block_indexes}
use Rattle.plan_lists.proofs.FitsLemmas.{dimension_fits}
use Rattle.plan_lists.proofs.LeafLemmas.{blocks_stand, dimension_breaks, dimension_tree, in_span, names_used}
use Rattle.plan_lists.proofs.leaves.dimension_tree.Goals as goal

pub blocks_in-requires-clause-indexes : goal.blocks_in-requires-clause-indexes
blocks_in-requires-clause-indexes g c = has_block_indexes c.args.def.now.number c.args.def.now c.requires.defined

pub blocks_in-requires-clause-there : goal.blocks_in-requires-clause-there
blocks_in-requires-clause-there g c = (dimension_fits c.args.def.now c.args.dim c.args.column c.args.span.now c.requires.fits).low

pub blocks_in-requires-clause-column : goal.blocks_in-requires-clause-column
blocks_in-requires-clause-column g c = (dimension_fits c.args.def.now c.args.dim c.args.column c.args.span.now c.requires.fits).there

pub blocks_in-requires-clause-kind : goal.blocks_in-requires-clause-kind
blocks_in-requires-clause-kind g c = (dimension_fits c.args.def.now c.args.dim c.args.column c.args.span.now c.requires.fits).kind

pub returns-in_err-blocks-clause-runs : goal.returns-in_err-blocks-clause-runs
returns-in_err-blocks-clause-runs g c =
    let fits = dimension_fits c.args.def.now c.args.dim c.args.column c.args.span.now c.requires.fits in
    runs_exit c.from_residual.result c.from_residual.ensures.1
    (runs_wider {fault = Some c.in_err-blocks.field-0.0} c.in_err-blocks.ensures.runs (λ p there none. none) (λ p is. is) (dimension_breaks c.args.shape c.args.pages.now c.args.def.now c.requires.defined c.args.dim fits.low))

pub returns-clause-stands : goal.returns-clause-stands
returns-clause-stands g c =
    let shape = c.args.shape in
    let s = c.args.pages.now in
    let def = c.args.def.now in
    let dim = c.args.dim in
    let column = c.args.column in
    let span = c.args.span.now in
    let fits = dimension_fits def dim column span c.requires.fits in
    let leaf = c.leaf.ensures in
    let blocks = c.in_ok-blocks.blocks in
    blocks_stand shape s def (λ values. lies_in_span span (value_at values column)) c.from_blocks.result c.leaf.result leaf.members leaf.rows leaf.blocks blocks c.from_blocks.ensures.blocks c.from_blocks.ensures.rids
    (λ owners forests st.
    let it = dimension_tree shape s def c.requires.defined owners forests st dim column span fits.low fits.there in
    in_span shape s def c.requires.defined owners forests st dim column span fits.low fits.there blocks (c.in_ok-blocks.ensures.found it.tree it.held))
    (λ owners forests st.
    let it = dimension_tree shape s def c.requires.defined owners forests st dim column span fits.low fits.there in
    names_used shape s def c.requires.defined owners forests st dim column span fits.low fits.there blocks (c.in_ok-blocks.ensures.found it.tree it.held))
