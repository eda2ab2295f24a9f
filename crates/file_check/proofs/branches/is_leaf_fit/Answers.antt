use Rattle.std.proofs.Common.{sym, arith, subst}
use Rattle.node_page.specs.Looked.{entries_in}
use Rattle.entry_tree.specs.EntryBounds.{AtLeast, Under}
use Rattle.file_check.proofs.RisingEntriesLemmas.{Rises-ends, Rises-last}
use Rattle.file_check.proofs.branches.is_leaf_fit.Goals as goal

pub returns-then-is_at_least-clause-rises : goal.returns-then-is_at_least-clause-rises
returns-then-is_at_least-clause-rises c under =
    Rises-ends c.args.low.now c.args.branch.now.high (entries_in c.args.view.now.node) c.len-count.result c.len-count.ensures (omega (arith, c.if-count-eq0.false)) c.requires
    (subst (AtLeast c.args.low.now) c.entry.ensures.bytes (c.is_at_least.ensures.0 c.if-is_at_least.true))
    (subst (Under c.args.branch.now.high) c.entry-then-is_at_least.ensures.bytes (c.is_under.ensures.0 under))

pub returns-then-is_at_least-clause-unfit : goal.returns-then-is_at_least-clause-unfit
returns-then-is_at_least-clause-unfit c over rises trim leaf =
    let under = c.is_under.ensures.1 (subst (Under c.args.branch.now.high) (sym c.entry-then-is_at_least.ensures.bytes)
    (Rises-last c.args.low.now c.args.branch.now.high (entries_in c.args.view.now.node) c.len-count.result c.len-count.ensures (omega (arith, c.if-count-eq0.false)) rises)) in
    cc
