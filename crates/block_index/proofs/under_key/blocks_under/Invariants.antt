use Rattle.std.proofs.Common.{◌≡◌, ◌≤◌, ◌-◌, ◌^◌, None, ℕ, false}
use Rattle.mdc_values.specs.Rising.{IsLower, LastIsBefore}
use Rattle.entry_tree.specs.Forest.{Forest, leaf_entries}
use Rattle.entry_tree.specs.HeldTrees.{HoldsTree}
use Rattle.block_index.proofs.ReadingRunsLemmas.{ReadsTree}
use Rattle.block_index.proofs.NumberedLemmas.{AreNumbersBelow}
use Rattle.block_index.proofs.under_key.blocks_under.Given as goal

-- the blocks so far are those of the key that lie below the number from which the next one is looked for
abbrev pub invariant-finding : goal.invariant-finding
invariant-finding g l = record {
  same : (g.P.Pages.state l.pages).work ≡ (g.P.Pages.state l.fn.pages).work;
  going : (g.P.Pages.state l.pages).ended ≡ false;
  runs : ReadsTree g.P.Pages l.tree l.fn.pages l.pages None;
  so_far : (t : Forest) → HoldsTree g.P.Pages l.fn.pages l.tree t → AreNumbersBelow 4 l.key (leaf_entries t) l.from l.blocks;
  behind : (e : ℕ) → l.from ≤ e → LastIsBefore IsLower e l.blocks;
}

-- how many numbers are left
abbrev pub decreases-finding : goal.decreases-finding
decreases-finding g l = 2 ^ 32 - l.from
