use Rattle.std.proofs.Common.{◌≡◌, take, fold}
use Rattle.mdc_outside.specs.Aftermath.{torn_by}
use Rattle.mdc_outside.proofs.aftermath.tear_all.Given as goal

abbrev pub invariant-loop-entry : goal.invariant-loop-entry
invariant-loop-entry l = l.bytes.items ≡ fold (torn_by l.fill) l.initial.bytes.items (take l.entry-index l.calls)
