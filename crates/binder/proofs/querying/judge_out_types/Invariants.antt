use Rattle.std.proofs.Common.{◌≡◌, drop}
use Rattle.std.specs.Prelude.{flat_map}
use Rattle.statement_meaning.specs.Judged.{out_types}
use Rattle.binder.specs.Saying.{first_of}
use Rattle.binder.proofs.querying.judge_out_types.Given as goal

abbrev pub invariant-loop-out : goal.invariant-loop-out
invariant-loop-out l = first_of (flat_map (out_types l.columns l.shares l._names) l.outs) ≡ first_of (flat_map (out_types l.columns l.shares l._names) (drop l.out-index l.outs))
