-- Each round lays one record more, and one that isn't placed behind those before isn't laid.
use Rattle.std.proofs.Common.{arith, ap, ◌∙◌, sym, refl, rules}
use Rattle.page_file.proofs.RunsLemmas.{runs_on}
use Rattle.redo_log.specs.Standing.{image_of}
use Rattle.redo_log.proofs.Laying.{overlay_next}
use Rattle.redo_log.proofs.ReadRecords.{laid_more, not_laid, ends_more}
use Rattle.redo_log.proofs.replaying.lay_records.Goals as goal

pub loop-k-init : goal.loop-k-init
loop-k-init g c = record {
  runs = search rules;
  same = refl;
  in_log = record { most = omega arith; behind_gates = omega arith; within = omega arith; empty = λ none. refl };
  ends = λ x is. refl;
  laid = λ x is k lt. absurd (omega arith);
  overlay = λ x is p. ap (λ images. image_of images p) c.new-overlay.ensures;
  faults = search rules;
}

pub loop-k-preserved : goal.loop-k-preserved
loop-k-preserved g c = record {
  runs = runs_on c.loop-k.invariant.runs c.lay_record.ensures.runs;
  same = c.lay_record.ensures.same ∙ c.loop-k.invariant.same;
  in_log = record { most = omega arith; behind_gates = omega (arith, c.in-Ok.ensures.within.0, c.loop-k.invariant.in_log.behind_gates); within = c.in-Ok.ensures.within.1; empty = λ none. absurd (omega arith) };
  ends = λ x is. ends_more c.loop-k.k x.bytes ∙ sym (c.in-Ok.ensures.behind x (c.loop-k.invariant.same ∙ is));
  laid = λ x is. laid_more c.loop-k.k c.loop-k.end x.bytes (c.loop-k.invariant.laid x is) (c.loop-k.invariant.ends x is) (c.in-Ok.ensures.placed x (c.loop-k.invariant.same ∙ is));
  overlay = λ x is. overlay_next c.loop-k.k x.bytes c.loop-k.overlay c.lay_record.new.overlay (c.loop-k.invariant.overlay x is) (c.in-Ok.ensures.laid x (c.loop-k.invariant.same ∙ is));
  faults = search rules;
}

pub returns-in-Err-clause-runs : goal.returns-in-Err-clause-runs
returns-in-Err-clause-runs g c = runs_on c.loop-k.invariant.runs c.lay_record.ensures.runs

pub returns-in-Err-clause-damaged : goal.returns-in-Err-clause-damaged
returns-in-Err-clause-damaged g c = λ damaged.
    let broken = c.in-Err.ensures.damaged damaged in
    (broken.0, λ x is. not_laid c.args.n c.loop-k.k c.loop-k.end x.bytes (omega arith) (c.loop-k.invariant.ends x is) (broken.1 x (c.loop-k.invariant.same ∙ is)))
