use Rattle.block_lists.proofs.UniqueLemmas.{same_lists}
use Rattle.block_lists.proofs.laws.same_rows_same_lists.Goals as goal

pub returns : goal.returns
returns c h = same_lists c.args.a.now.blocks c.args.a.now.rids c.args.b.now.blocks c.args.b.now.rids h c.lists_rise_apart.ensures c.lists_rise_apart-2.ensures
