use Rattle.std.proofs.Common.{◌≡◌, take, fold}
use Rattle.mdc_outside.specs.Aftermath.{tape_after}
use Rattle.mdc_outside.proofs.aftermath.said_after.Given as goal

abbrev pub invariant-loop-entry : goal.invariant-loop-entry
invariant-loop-entry l = l.tape.items ≡ fold tape_after l.heard (take l.entry-index l.calls)
