-- The write tears the bytes of these gates, and the sync nothing.
use Rattle.std.proofs.Common.{◌≡◌, ◌+◌, ◌-◌, arith, length, ap, ◌∙◌}
use Rattle.std.proofs.lemmas.List.{length-replicate}
use Rattle.page_file.proofs.RunsLemmas.{runs_within, runs_then_settle}
use Rattle.redo_log.proofs.Records.{runs_at}
use Rattle.redo_log.proofs.gates.close_above.Goals as goal

pub returns-in_err-put-clause-runs : goal.returns-in_err-put-clause-runs
returns-in_err-put-clause-runs g c =
    let size : length c.zeros.result.now ≡ c.args.end - (2049 + c.args.n) = ap length c.zeros.ensures ∙ (length-replicate _ _ ∙ omega arith) in
    runs_within (runs_at (omega arith) size c.put.ensures.runs)

pub returns-clause-runs : goal.returns-clause-runs
returns-clause-runs g c =
    let size : length c.zeros.result.now ≡ c.args.end - (2049 + c.args.n) = ap length c.zeros.ensures ∙ (length-replicate _ _ ∙ omega arith) in
    runs_then_settle (runs_at (omega arith) size c.put.ensures.runs) c.settle.ensures.runs
