use Rattle.std.proofs.Common.{◌≡◌, ◌∷◌, ◌++◌, take}
use Rattle.std.specs.Prelude.{flat_map}
use Rattle.statement_meaning.specs.Queries.{heading}
use Rattle.answer_text.proofs.entries.push_headings.Given as goal

abbrev pub invariant-loop-shown : goal.invariant-loop-shown
invariant-loop-shown l = l.out.items ≡ l.initial.out.items ++ flat_map (λ shown. 124 ∷ heading l.columns shown) (take l.shown-index l.others)
