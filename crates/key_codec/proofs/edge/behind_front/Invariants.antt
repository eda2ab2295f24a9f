use Rattle.std.proofs.Common.{◌≡◌, ◌≤◌, length, take}
use Rattle.key_codec.specs.Edges.{behind_front}
use Rattle.key_codec.proofs.edge.behind_front.Given as goal

abbrev pub invariant-loop-end : goal.invariant-loop-end
invariant-loop-end l = (l.end ≤ length l.front.items) × (behind_front (take l.end l.front.items) ≡ behind_front l.front.items)

abbrev pub decreases-loop-end : goal.decreases-loop-end
decreases-loop-end l = l.end
