use Rattle.std.proofs.Common.{◌≡◌, drop}
use Rattle.answer_text.specs.Wordings.{parts_among}
use Rattle.answer_text.proofs.wordings.parts_among.Given as goal

abbrev pub invariant-loop-wording : goal.invariant-loop-wording
invariant-loop-wording l = parts_among l.wordings l.number ≡ parts_among (drop l.wording-index l.wordings) l.number
