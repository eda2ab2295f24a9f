use Rattle.std.proofs.Common.{◌≡◌, ◌∷◌, ◌++◌, take}
use Rattle.std.specs.Prelude.{flat_map}
use Rattle.answer_text.specs.Lines.{entry}
use Rattle.answer_text.proofs.entries.push_entries.Given as goal

abbrev pub invariant-loop-shown : goal.invariant-loop-shown
invariant-loop-shown l = l.out.items ≡ l.initial.out.items ++ flat_map (λ shown. 124 ∷ entry l.values shown) (take l.shown-index l.others)
