use Rattle.std.proofs.Common.{◌≡◌, ◌≤◌, min, take, drop, vec_len}
use Rattle.store_api.specs.History.{undone, at_mark}
use Rattle.store_api.proofs.history.go_back.Given as goal

abbrev pub invariant-loop-mark : goal.invariant-loop-mark
invariant-loop-mark l = record {
  count : vec_len l.pages ≡ min l.mark.count (vec_len l.fn.pages);
  there : l.mark.changes ≤ vec_len l.changes;
  older : take l.mark.changes l.changes.items ≡ take l.mark.changes l.fn.changes.items;
  newer : undone (drop l.mark.changes l.changes.items) l.pages.items ≡ at_mark l.mark l.fn.changes.items l.fn.pages.items;
}

abbrev pub decreases-loop-mark : goal.decreases-loop-mark
decreases-loop-mark l = vec_len l.changes
