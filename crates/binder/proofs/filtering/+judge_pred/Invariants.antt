use Rattle.std.proofs.Common.{◌≡◌, Some, drop}
use Rattle.std.specs.Prelude.{flat_map}
use Rattle.statement_meaning.specs.Judging.{atoms_of}
use Rattle.binder.specs.Classes.{atom_causes}
use Rattle.binder.specs.Saying.{first_of}
use Rattle.binder.proofs.filtering.+judge_pred.Given as goal

abbrev pub decreases-judge_pred : goal.decreases-judge_pred
decreases-judge_pred l = goal.size-judge_pred l

abbrev pub invariant-loop-part : goal.invariant-loop-part
invariant-loop-part l =
    first_of (flat_map (λ part. flat_map (atom_causes l.class l.columns) (atoms_of (Some part))) l.part-items)
    ≡ first_of (flat_map (λ part. flat_map (atom_causes l.class l.columns) (atoms_of (Some part))) (drop l.part-index l.part-items))

abbrev pub invariant-loop-part-2 : goal.invariant-loop-part-2
invariant-loop-part-2 l =
    first_of (flat_map (λ part. flat_map (atom_causes l.class l.columns) (atoms_of (Some part))) l.part-items)
    ≡ first_of (flat_map (λ part. flat_map (atom_causes l.class l.columns) (atoms_of (Some part))) (drop l.part-index l.part-items))
