use Rattle.std.proofs.Common.{◌≡◌, ◌++◌, codes, take}
use Rattle.std.specs.Prelude.{flat_map}
use Rattle.answer_text.specs.Wordings.{part_text}
use Rattle.answer_text.proofs.refusals.push_line.Given as goal

abbrev pub invariant-loop-part : goal.invariant-loop-part
invariant-loop-part l = l.out.items ≡ l.fn.out.items ++ codes "ERROR " ++ flat_map (part_text l.refusal) (take l.part-index l.parts)
