-- What could be left after a run is what a crash of it leaves.
use Rattle.session.specs.file.Leaving.{LeftByRun}
use Rattle.file_verdict.proofs.RestingLemmas.{left_at_end}
use Rattle.session.proofs.file.laws.ended_run_is_left.Goals as goal

pub returns : goal.returns
returns g c = λ old new before after said heard script left result is told is_after heard_after log now runs image could.
    left_at_end g.H.Disk before after said heard old new (LeftByRun runs.shape runs.run.held runs.run.stages runs.run.outcomes runs.run.in_hand said)
    (g.met.H.Disk.only_now old) (g.met.H.Disk.only_now new) (g.met.H.Disk.earlier new) is told is_after heard_after runs.leaves image could
