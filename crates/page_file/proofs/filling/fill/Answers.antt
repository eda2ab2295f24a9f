-- Each write is at the end of the file, and within the range.
use Rattle.std.proofs.Common.{◌≡◌, ◌≤◌, ◌-◌, ℕ, length, replicate, length-append, arith, ap, ◌∙◌, rules}
use Rattle.std.proofs.lemmas.List.{length-replicate}
use Rattle.mdc_outside.specs.Disk.{overwritten}
use Rattle.page_file.proofs.BytesLemmas.{more_zeros}
use Rattle.page_file.proofs.BetweenLemmas.{between_then, now_holds, written_between}
use Rattle.page_file.proofs.RunsLemmas.{runs_part}
use Rattle.page_file.proofs.filling.fill.Goals as goal

pub put-requires-clause-within : goal.put-requires-clause-within
put-requires-clause-within g c = now_holds (λ file. c.args.from ≡ length file.bytes) (λ file. c.loop-end.end ≤ length file.bytes) c.loop-end.invariant.runs c.loop-end.invariant.filled c.requires.end
    (λ before after was is. omega (arith, ap length is, length-append before.bytes (replicate (c.loop-end.end - c.args.from) 0), length-replicate {A = ℕ} (c.loop-end.end - c.args.from) 0))

pub returns-in_err-put-clause-runs : goal.returns-in_err-put-clause-runs
returns-in_err-put-clause-runs g c =
    let size : length c.zeros.result.now ≡ c.min-count.result = ap length c.zeros.ensures ∙ length-replicate c.min-count.result 0 in
    runs_part c.loop-end.invariant.runs c.put.ensures.runs (omega arith) (omega arith)

pub loop-end-preserved : goal.loop-end-preserved
loop-end-preserved g c =
    let size : length c.zeros.result.now ≡ c.min-count.result = ap length c.zeros.ensures ∙ length-replicate c.min-count.result 0 in
    record {
      low = omega arith;
      high = omega arith;
      runs = runs_part c.loop-end.invariant.runs c.put.ensures.runs (omega arith) (omega arith);
      filled = between_then c.loop-end.invariant.runs c.loop-end.invariant.filled (written_between _ _ c.loop-end.end c.zeros.result.now c.in_ok-put.ensures.written)
          (λ before half after is_before zeros more. more ∙ (ap (λ piece. overwritten c.loop-end.end piece half.bytes) c.zeros.ensures
          ∙ more_zeros before.bytes half.bytes c.loop-end.end c.args.from c.min-count.result zeros (c.requires.end before is_before) c.loop-end.invariant.low));
      faults = search rules;
    }

pub returns-clause-filled : goal.returns-clause-filled
returns-clause-filled g c =
    let same : c.loop-end.end - c.args.from ≡ c.args.to - c.args.from = omega arith in
    rw same at c.loop-end.invariant.filled
