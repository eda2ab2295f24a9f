use Rattle.std.proofs.Common.{◌≡◌, [], ◌∷◌, ◌++◌, ◌∙◌, ap, arith, length, subst, sym}
use Rattle.std.specs.List.{AllByRecursion}
use Rattle.table_trees.specs.TableTrees.{AreIndexParts, rising_parts}
use Rattle.table_trees.specs.RowCells.{cell_places}
use Rattle.block_index.specs.Cells.{cell_entries, entry_under, key_of_values}
use Rattle.block_index.proofs.CellsLemmas.{all_at, dim_enough, dim_fits, dim_listed, key_short}
use Rattle.block_index.proofs.entries.cell_entries.Goals as goal

pub entry_under-requires : goal.entry_under-requires
entry_under-requires c =
    omega (arith, ap length c.deref.ensures.value, ap length c.in_ok-key.ensures.key, key_short c.args.def.now.columns (cell_places c.args.def.now) c.args.cell.now.values c.requires.indexes.composite.key c.requires.cell.each)

pub push_key-requires-clause-enough : goal.push_key-requires-clause-enough
push_key-requires-clause-enough c = dim_enough c.args.def.now.columns c.as_slice-dim-items.result.now c.loop-dim.dim-index c.dim-item.result c.dim-item.is c.loop-dim-test.true c.loop-dim.values.now c.loop-dim.invariant.fit

pub push_key-requires-clause-values : goal.push_key-requires-clause-values
push_key-requires-clause-values c = dim_fits c.args.def.now.columns c.as_slice-dim-items.result.now c.loop-dim.dim-index c.dim-item.result c.dim-item.is c.loop-dim-test.true c.loop-dim.values.now c.loop-dim.invariant.fit

pub entry_under-requires-in-loop-dim : goal.entry_under-requires-in-loop-dim
entry_under-requires-in-loop-dim c =
    let columns = c.args.def.now.columns in
    let all : AllByRecursion (λ dim. AreIndexParts columns (rising_parts dim)) c.as_slice-dim-items.result.now =
    subst (AllByRecursion (λ dim. AreIndexParts columns (rising_parts dim))) (sym c.as_slice-dim-items.ensures) c.requires.indexes.dimensions in
    let parts = all_at (λ dim. AreIndexParts columns (rising_parts dim)) c.as_slice-dim-items.result.now c.loop-dim.dim-index c.dim-item.result all c.loop-dim-test.true c.dim-item.is in
    let key : c.push_key.new.key.items ≡ key_of_values columns c.dim-item.result c.loop-dim.values.now = c.in_ok-values.ensures.key ∙ ap (λ k. k ++ key_of_values columns c.dim-item.result c.loop-dim.values.now) c.new-key.ensures.items in
    omega (arith, ap length c.deref-in-loop-dim.ensures.value, ap length key, key_short columns c.dim-item.result c.loop-dim.values.now parts.key (dim_fits c.args.def.now.columns c.as_slice-dim-items.result.now c.loop-dim.dim-index c.dim-item.result c.dim-item.is c.loop-dim-test.true c.loop-dim.values.now c.loop-dim.invariant.fit))

pub loop-dim-preserved : goal.loop-dim-preserved
loop-dim-preserved c =
    let columns = c.args.def.now.columns in
    let key : c.push_key.new.key.items ≡ key_of_values columns c.dim-item.result c.loop-dim.values.now = c.in_ok-values.ensures.key ∙ ap (λ k. k ++ key_of_values columns c.dim-item.result c.loop-dim.values.now) c.new-key.ensures.items in
    dim_listed c.args.def.now.columns c.as_slice-dim-items.result.now c.loop-dim.dim-index c.dim-item.result c.dim-item.is c.loop-dim-test.true c.loop-dim.values.now c.loop-dim.invariant.fit
    c.args.block (cell_entries c.args.def.now c.args.cell.now.values c.args.block) c.loop-dim.entries.items c.push-in-loop-dim.new.self.items c.in_ok-values.values.now c.loop-dim.invariant
    (c.in_ok-push-2.ensures.items ∙ ap (λ e. c.loop-dim.entries.items ++ e ∷ []) (c.entry_under-in-loop-dim.ensures ∙ ap (λ k. entry_under k c.args.block) (c.deref-in-loop-dim.ensures.value ∙ key))) c.in_ok-values.ensures.rest
