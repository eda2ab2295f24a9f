use Rattle.std.proofs.Common.{◌≡◌, ◌<◌, ◌-◌, ◌^◌, None, false}
use Rattle.entry_tree.specs.Forest.{Forest, leaf_entries}
use Rattle.entry_tree.specs.HeldTrees.{HoldsTree}
use Rattle.block_index.proofs.ReadingRunsLemmas.{ReadsTree}
use Rattle.record_index.proofs.UnderKeyLemmas.{AreRowsBelow}
use Rattle.record_index.proofs.under_key.rids_under_key.Given as goal

-- the places so far are those of the key whose numbers lie below the one from which the next is looked for
abbrev pub invariant-finding : goal.invariant-finding
invariant-finding g l = record {
  same : (g.P.Pages.state l.pages).work ≡ (g.P.Pages.state l.fn.pages).work;
  going : (g.P.Pages.state l.pages).ended ≡ false;
  small : l.from < 2 ^ 48;
  runs : ReadsTree g.P.Pages l.tree l.fn.pages l.pages None;
  rows : AreRowsBelow ((t : Forest) × HoldsTree g.P.Pages l.fn.pages l.tree t) l.key (λ told. leaf_entries told.0) l.from l.rids;
}

-- how many numbers are left
abbrev pub decreases-finding : goal.decreases-finding
decreases-finding g l = 2 ^ 48 - l.from
