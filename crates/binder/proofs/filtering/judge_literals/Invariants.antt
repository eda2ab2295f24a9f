use Rattle.std.proofs.Common.{◌≡◌, drop}
use Rattle.std.specs.Prelude.{flat_map}
use Rattle.statement_meaning.specs.Judging.{fit_compared}
use Rattle.binder.specs.Classes.{literal_causes}
use Rattle.binder.specs.Saying.{first_of}
use Rattle.binder.proofs.filtering.judge_literals.Given as goal

abbrev pub invariant-loop-literal : goal.invariant-loop-literal
invariant-loop-literal l =
    first_of (flat_map (λ literal. literal_causes l.class l.name (fit_compared l.ty literal)) l.literals)
    ≡ first_of (flat_map (λ literal. literal_causes l.class l.name (fit_compared l.ty literal)) (drop l.literal-index l.literals))
