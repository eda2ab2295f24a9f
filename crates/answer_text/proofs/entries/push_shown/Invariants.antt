use Rattle.std.proofs.Common.{◌≡◌, ◌∷◌, ◌++◌, take}
use Rattle.std.specs.Prelude.{flat_map}
use Rattle.statement_meaning.specs.Queries.{shown_text}
use Rattle.answer_text.proofs.entries.push_shown.Given as goal

abbrev pub invariant-loop-shown : goal.invariant-loop-shown
invariant-loop-shown l = l.out.items ≡ l.initial.out.items ++ flat_map (λ shown. 124 ∷ shown_text shown) (take l.shown-index l.others)
