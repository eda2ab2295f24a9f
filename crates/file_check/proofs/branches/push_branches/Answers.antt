use Rattle.std.proofs.Common.{◌-◌, arith, ◌∙◌, reverse}
use Rattle.node_page.specs.Looked.{children_in, entries_in}
use Rattle.file_check.proofs.PushedBranchesLemmas.{pushed_at, pushed_end}
use Rattle.file_check.proofs.branches.push_branches.Goals as goal

pub loop-i-init : goal.loop-i-init
loop-i-init c = record {
  within = omega (arith, c.len-i.ensures);
  pushed = λ many.
      pushed_end (entries_in c.args.view.now.node) (children_in c.args.view.now.node) c.args.high c.len-i.result c.child.result c.args.left.now.items c.push.new.self.items
      c.len-i.ensures c.child.ensures c.in_ok-push.ensures.items many;
}

pub loop-i-preserved : goal.loop-i-preserved
loop-i-preserved c = record {
  within = omega (arith, c.loop-i.invariant.within);
  pushed = λ many.
      pushed_at (entries_in c.args.view.now.node) (children_in c.args.view.now.node) c.args.high c.loop-i.i (c.loop-i.i - 1) c.child-in-loop-i.result c.of.result c.loop-i.left.items
      c.push-in-loop-i.new.self.items (reverse c.args.left.now.items) (omega (arith, c.loop-i-test.true)) c.loop-i.invariant.within c.child-in-loop-i.ensures (c.of.ensures ∙ c.entry.ensures.bytes)
      c.in_ok-push-2.ensures.items many (c.loop-i.invariant.pushed many);
}
