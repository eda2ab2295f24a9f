-- Each image lies within what the home pages tear, and stands in its place after it.
use Rattle.std.proofs.Common.{◌≡◌, ◌+◌, ◌*◌, length, arith, ap, ◌∙◌, sym, rules}
use Rattle.redo_journal.specs.Images.{IsPageImage}
use Rattle.page_file.proofs.RunsLemmas.{runs_within, runs_then_settle}
use Rattle.page_file.proofs.RunsLemmas.{runs_wider}
use Rattle.redo_journal.proofs.PiecesLemmas.{All-next}
use Rattle.page_file.proofs.BetweenLemmas.{zeros_reach, written_between}
use Rattle.redo_journal.proofs.HomeLemmas.{home_covers, home_longest, home_step, home_settled, homed_none, homed_step, homed_settled, runs_gap, runs_image}
use Rattle.redo_journal.specs.Layout.{torn_home}
use Rattle.redo_journal.proofs.TornLemmas.{runs_leave_front, front_torn_home}
use Rattle.redo_journal.proofs.home_pages.home.Goals as goal

pub returns-in_err-end-clause-runs : goal.returns-in_err-end-clause-runs
returns-in_err-end-clause-runs g c = runs_within (runs_wider (home_covers c.args.images.now) c.end_of.ensures.runs)

pub loop-i-init : goal.loop-i-init
loop-i-init g c = record {
  runs = runs_wider (home_covers c.args.images.now) c.end_of.ensures.runs;
  size = λ f is. c.in_ok-end.ensures.end f (sym c.end_of.ensures.same ∙ is);
  grown = λ f is. omega (arith, c.in_ok-end.ensures.end f is);
  short = λ f is.
      let longest : f.since.longest ≡ length f.bytes = ap (λ s. s.longest) (c.requires.ready f is).synced in
      omega (arith, c.in_ok-end.ensures.end f is, (home_covers c.args.images.now f.since).longest);
  home = λ f is k d lt. absurd (omega arith);
  bytes = homed_none c.args.images.now _ _ c.end_of.ensures.same;
  each = λ k d lt. absurd (omega arith);
  faults = search rules;
}

pub returns-in_err-fill-clause-runs : goal.returns-in_err-fill-clause-runs
returns-in_err-fill-clause-runs g c =
    runs_within (runs_gap c.args.images.now c.loop-i.i (c.at-number.result.0, c.at-number.result.1.now) c.loop-i.end _ c.at-number.ensures.image (omega arith) c.requires.ready c.loop-i.invariant.grown c.loop-i.invariant.short c.loop-i.invariant.runs c.fill.ensures.runs)

pub put-requires-clause-within : goal.put-requires-clause-within
put-requires-clause-within g c = zeros_reach c.loop-i.end _ c.fill.ensures.runs c.in_ok-fill.ensures.filled c.loop-i.invariant.size

pub returns-in_err-put-clause-runs : goal.returns-in_err-put-clause-runs
returns-in_err-put-clause-runs g c =
    let size : length c.at-number.result.1.now ≡ 4096 = c.at-number.ensures.bounds.1 in
    runs_within (runs_image c.args.images.now c.loop-i.i (c.at-number.result.0, c.at-number.result.1.now) _ _ c.at-number.ensures.image (omega arith) size
    (runs_gap c.args.images.now c.loop-i.i (c.at-number.result.0, c.at-number.result.1.now) c.loop-i.end _ c.at-number.ensures.image (omega arith) c.requires.ready c.loop-i.invariant.grown c.loop-i.invariant.short c.loop-i.invariant.runs c.fill.ensures.runs) c.put.ensures.runs)

pub loop-i-preserved : goal.loop-i-preserved
loop-i-preserved g c =
    let size : length c.at-number.result.1.now ≡ 4096 = c.at-number.ensures.bounds.1 in
    let step = home_step c.args.images.now c.loop-i.i c.at-number.result.0 ((66 + c.from.result) * 4096) c.loop-i.end c.at-number.result.1.now c.len-i-end.ensures.rising c.loop-i.invariant.each size c.at-number.ensures.image (omega arith)
    c.fill.ensures.runs c.in_ok-fill.ensures.filled c.put.ensures.runs (written_between _ _ ((66 + c.from.result) * 4096) c.at-number.result.1.now c.in_ok-put.ensures.written) c.loop-i.invariant.size c.loop-i.invariant.home in
    record {
      runs = runs_image c.args.images.now c.loop-i.i (c.at-number.result.0, c.at-number.result.1.now) _ _ c.at-number.ensures.image (omega arith) size (runs_gap c.args.images.now c.loop-i.i (c.at-number.result.0, c.at-number.result.1.now) c.loop-i.end _ c.at-number.ensures.image (omega arith) c.requires.ready c.loop-i.invariant.grown c.loop-i.invariant.short c.loop-i.invariant.runs c.fill.ensures.runs) c.put.ensures.runs;
      size = λ f is. c.max-end.ensures ∙ (step f is).1;
      grown = λ f is. omega (arith, c.loop-i.invariant.grown f is);
      short = λ f is. omega (arith, c.loop-i.invariant.short f is, home_longest c.args.images.now f.since c.loop-i.i (c.at-number.result.0, c.at-number.result.1.now) c.at-number.ensures.image);
      home = λ f is. (step f is).0;
      bytes = homed_step c.args.images.now c.loop-i.i c.at-number.result.0 ((66 + c.from.result) * 4096) c.loop-i.end c.at-number.result.1.now c.at-number.ensures.image (omega arith)
          c.loop-i.invariant.runs c.loop-i.invariant.bytes c.fill.ensures.runs c.in_ok-fill.ensures.filled
          (written_between _ _ ((66 + c.from.result) * 4096) c.at-number.result.1.now c.in_ok-put.ensures.written) c.loop-i.invariant.size;
      each = All-next IsPageImage c.args.images.now c.loop-i.i (c.at-number.result.0, c.at-number.result.1.now) c.loop-i.invariant.each c.at-number.ensures.image c.at-number.ensures.bounds;
      faults = search rules;
    }

pub returns-clause-home : goal.returns-clause-home
returns-clause-home g c = home_settled c.settle.result c.args.images.now c.loop-i.i _ _ (omega arith) c.loop-i.invariant.home c.settle.ensures.settled

pub returns-clause-written : goal.returns-clause-written
returns-clause-written g c = homed_settled c.settle.result c.args.images.now c.loop-i.i _ _ _ (omega arith) c.loop-i.invariant.bytes c.settle.ensures.settled

pub returns-clause-runs : goal.returns-clause-runs
returns-clause-runs g c = runs_then_settle c.loop-i.invariant.runs c.settle.ensures.runs

pub returns-in_err-end-clause-front : goal.returns-in_err-end-clause-front
returns-in_err-end-clause-front g c = runs_leave_front (torn_home c.args.images.now) (front_torn_home c.args.images.now) g.met.D.Disk.sound c.requires.ready (returns-in_err-end-clause-runs g c)

pub returns-in_err-fill-clause-front : goal.returns-in_err-fill-clause-front
returns-in_err-fill-clause-front g c = runs_leave_front (torn_home c.args.images.now) (front_torn_home c.args.images.now) g.met.D.Disk.sound c.requires.ready (returns-in_err-fill-clause-runs g c)

pub returns-in_err-put-clause-front : goal.returns-in_err-put-clause-front
returns-in_err-put-clause-front g c = runs_leave_front (torn_home c.args.images.now) (front_torn_home c.args.images.now) g.met.D.Disk.sound c.requires.ready (returns-in_err-put-clause-runs g c)

pub returns-clause-front : goal.returns-clause-front
returns-clause-front g c = runs_leave_front (torn_home c.args.images.now) (front_torn_home c.args.images.now) g.met.D.Disk.sound c.requires.ready (returns-clause-runs g c)
