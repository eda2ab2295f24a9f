use Rattle.std.proofs.Common.{refl}
use Rattle.block_lists.specs.Trees.{tree_holds}
use Rattle.block_lists.proofs.PartLemmas.{named-parts_of, stand-parts_of}
use Rattle.block_lists.proofs.merge.Merge.over.Goals as goal

pub returns : goal.returns
returns c = record {
  lists = c.in_ok-lists.lists;
  rise_apart = c.lists_rise_apart.ensures;
  of_tree = c.in_ok-lists.ensures;
  of_lists = refl;
  stand = stand-parts_of c.in_ok-lists.lists.blocks c.in_ok-lists.lists.rids (tree_holds c.args.tree.now) c.lists_rise_apart.ensures c.in_ok-lists.ensures.rows;
  blocks = named-parts_of c.in_ok-lists.lists.blocks c.in_ok-lists.lists.rids;
}
