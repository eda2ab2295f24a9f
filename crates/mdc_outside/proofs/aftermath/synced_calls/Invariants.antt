use Rattle.std.proofs.Common.{◌≤◌, take, drop}
use Rattle.mdc_outside.specs.Aftermath.{EndsSynced, PutsNothing}
use Rattle.mdc_outside.proofs.aftermath.synced_calls.Given as goal

abbrev pub invariant-loop-i : goal.invariant-loop-i
invariant-loop-i l = record {
  within : l.synced ≤ l.i;
  synced : EndsSynced (take l.synced l.calls);
  since : PutsNothing (drop l.synced (take l.i l.calls));
}
