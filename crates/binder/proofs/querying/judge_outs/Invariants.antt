use Rattle.std.proofs.Common.{◌≡◌, drop}
use Rattle.std.specs.Prelude.{flat_map}
use Rattle.statement_meaning.specs.Judged.{names_in}
use Rattle.statement_meaning.specs.Judging.{used_name}
use Rattle.binder.specs.Saying.{first_of}
use Rattle.binder.proofs.querying.judge_outs.Given as goal

abbrev pub invariant-loop-out : goal.invariant-loop-out
invariant-loop-out l =
    first_of (flat_map (λ out. flat_map (used_name l.columns) (names_in out)) l.outs) ≡ first_of (flat_map (λ out. flat_map (used_name l.columns) (names_in out)) (drop l.out-index l.outs))
