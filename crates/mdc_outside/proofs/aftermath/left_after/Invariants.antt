use Rattle.std.proofs.Common.{◌≡◌, take, fold}
use Rattle.mdc_outside.specs.Aftermath.{bytes_after}
use Rattle.mdc_outside.proofs.aftermath.left_after.Given as goal

abbrev pub invariant-loop-entry : goal.invariant-loop-entry
invariant-loop-entry l = l.bytes.items ≡ fold bytes_after l.first (take l.entry-index l.before)
