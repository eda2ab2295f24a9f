use Rattle.std.proofs.Common.{◌++◌, ap, arith, length, length-append, subst, sym, ◌∙◌}
use Rattle.byteorder.specs.Endian.{big_bytes}
use Rattle.byteorder.specs.Numbers.{length-bytes_high_first}
use Rattle.key_codec.specs.Keys.{key_bytes, width_of_parts}
use Rattle.table_trees.specs.TableTrees.{place_of_tree, record_entry}
use Rattle.record_index.specs.RecordIndexes.{HaveKeysIn}
use Rattle.record_index.proofs.IndexesLemmas.{index_parts, key_parts, parts_are, place_are, width_is}
use Rattle.record_index.proofs.KeysLemmas.{length-row_key}
use Rattle.record_index.proofs.entries.tree_and_entry.Goals as goal

pub at-requires : goal.at-requires
at-requires c = omega (arith, c.requires.there, c.from-index.ensures)

pub row_entry-entry-requires-clause-parts : goal.row_entry-entry-requires-clause-parts
row_entry-entry-requires-clause-parts c = let are = index_parts c.args.def.now c.from-index.result c.at.result.now c.requires.indexes c.at.ensures in are.key

pub row_entry-entry-requires-clause-values : goal.row_entry-entry-requires-clause-values
row_entry-entry-requires-clause-values c =
    subst (λ ps. HaveKeysIn c.args.def.now.columns ps c.args.values.now) (parts_are c.args.def.now c.args.index c.from-index.result c.at.result.now c.from-index.ensures c.at.ensures) c.requires.values

pub record_tree-requires-clause-there : goal.record_tree-requires-clause-there
record_tree-requires-clause-there c = omega (arith, c.requires.there, c.from-index.ensures)

pub record_tree-requires-clause-parts : goal.record_tree-requires-clause-parts
record_tree-requires-clause-parts c = key_parts c.args.def.now c.from-index.result c.requires.indexes

pub returns-clause-tree : goal.returns-clause-tree
returns-clause-tree c = place_are c.args.def.now c.args.index c.from-index.result (place_of_tree c.record_tree.result) c.from-index.ensures c.record_tree.ensures

pub returns-clause-entry : goal.returns-clause-entry
returns-clause-entry c =
    c.row_entry-entry.ensures ∙ ap (λ ps. record_entry c.args.def.now.columns ps c.args.values.now c.args.rid) (sym (parts_are c.args.def.now c.args.index c.from-index.result c.at.result.now c.from-index.ensures c.at.ensures))

pub returns-clause-width : goal.returns-clause-width
returns-clause-width c =
    let parts = parts_are c.args.def.now c.args.index c.from-index.result c.at.result.now c.from-index.ensures c.at.ensures in
    let are = index_parts c.args.def.now c.from-index.result c.at.result.now c.requires.indexes c.at.ensures in
    let key = key_bytes c.args.def.now.columns c.at.result.now.parts c.args.values.now in
    let keys = subst (λ ps. HaveKeysIn c.args.def.now.columns ps c.args.values.now) parts c.requires.values in
    let place = place_are c.args.def.now c.args.index c.from-index.result (place_of_tree c.record_tree.result) c.from-index.ensures c.record_tree.ensures in
    omega (
      arith,
      ap length c.row_entry-entry.ensures,
      length-append (key ++ big_bytes 4 c.args.rid.block) (big_bytes 2 c.args.rid.slot),
      length-append key (big_bytes 4 c.args.rid.block),
      length-bytes_high_first 4 c.args.rid.block,
      length-bytes_high_first 2 c.args.rid.slot,
      length-row_key c.args.def.now.columns c.at.result.now.parts c.args.values.now are.key.there keys,
      width_is c.args.def.now c.args.index (place_of_tree c.record_tree.result) c.requires.there place,
      ap (width_of_parts c.args.def.now.columns) parts,
    )
