use Rattle.std.proofs.Common.{◌≡◌, ◌+◌, drop}
use Rattle.key_codec.specs.Keys.{width_of_parts}
use Rattle.key_codec.proofs.width.key_width.Given as goal

abbrev pub invariant-loop-part : goal.invariant-loop-part
invariant-loop-part l = l.total + width_of_parts l.columns (drop l.part-index l.part-items) ≡ width_of_parts l.columns l.parts
