use Rattle.table_trees.specs.RowCells.{cell_places}
use Rattle.block_index.proofs.SameValuesLemmas.{dimension_there, other_dim, same_next_dim}
use Rattle.block_index.proofs.one_cell.are_of_one_cell.Goals as goal

pub are_same_at-requires-clause-a : goal.are_same_at-requires-clause-a
are_same_at-requires-clause-a c =
    dimension_there c.args.def.now c.args.a.now c.as_slice-dim-items.result.now c.loop-dim.dim-index c.dim-item.result c.requires.defined c.requires.a c.as_slice-dim-items.ensures c.loop-dim-test.true c.dim-item.is

pub are_same_at-requires-clause-b : goal.are_same_at-requires-clause-b
are_same_at-requires-clause-b c =
    dimension_there c.args.def.now c.args.b.now c.as_slice-dim-items.result.now c.loop-dim.dim-index c.dim-item.result c.requires.defined c.requires.b c.as_slice-dim-items.ensures c.loop-dim-test.true c.dim-item.is

pub returns-then-not-are_same_at : goal.returns-then-not-are_same_at
returns-then-not-are_same_at c = (
  λ no. absurd cc,
  λ all.
      absurd (other_dim c.args.a.now c.args.b.now (cell_places c.args.def.now) c.as_slice-dim-items.result.now c.loop-dim.dim-index c.dim-item.result c.loop-dim-test.true c.dim-item.is c.loop-dim.invariant
      (λ same.
      let yes = c.are_same_at.ensures.1 same in
      let no = c.if-not-are_same_at.true in
      cc) all),
)

pub loop-dim-preserved : goal.loop-dim-preserved
loop-dim-preserved c =
    same_next_dim c.args.a.now c.args.b.now (cell_places c.args.def.now) c.as_slice-dim-items.result.now c.loop-dim.dim-index c.dim-item.result c.loop-dim-test.true c.dim-item.is c.loop-dim.invariant
    (c.are_same_at.ensures.0 c.if-not-are_same_at.false)
