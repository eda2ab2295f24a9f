use Rattle.std.proofs.Common.{take}
use Rattle.table_scan.specs.Settled.{AreLeftOf}
use Rattle.table_scan.proofs.settling.unsettled_parts.Given as goal

-- of the parts so far the unsettled ones are left
abbrev pub invariant-loop-part : goal.invariant-loop-part
invariant-loop-part l = AreLeftOf l.def (take l.part-index l.parts) l.left
