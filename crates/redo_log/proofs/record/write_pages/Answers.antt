-- Each page is behind the one before.
use Rattle.std.proofs.Common.{◌≡◌, ◌≤◌, ◌+◌, ◌*◌, length, take, arith, rules}
use Rattle.redo_journal.specs.Pieces.{page_bytes}
use Rattle.redo_journal.proofs.PiecesLemmas.{replaces_nothing, replaces_step, replaces_length, next_page, length-first_pages, All-next}
use Rattle.redo_journal.specs.Images.{IsPageImage}
use Rattle.page_file.proofs.BetweenLemmas.{between_then, now_holds, written_between, between_same}
use Rattle.page_file.proofs.RunsLemmas.{runs_part}
use Rattle.redo_log.proofs.record.write_pages.Goals as goal

pub loop-i-init : goal.loop-i-init
loop-i-init g c = record {
  runs = search rules;
  pages = between_same _ (λ bytes. replaces_nothing c.args.place bytes);
  each = λ k d lt. absurd (omega arith);
  faults = search rules;
}

pub put-requires-clause-within : goal.put-requires-clause-within
put-requires-clause-within g c = now_holds (λ file. c.args.place ≤ length file.bytes) (λ file. c.args.place + c.loop-i.i * 4096 ≤ length file.bytes) c.loop-i.invariant.runs c.loop-i.invariant.pages c.requires.within
    (λ before after le was. omega (arith, replaces_length c.args.place (page_bytes (take c.loop-i.i c.args.images.now)) before.bytes after.bytes le was, length-first_pages c.args.images.now c.loop-i.i c.loop-i.invariant.each (omega arith)))

pub returns-in_err-put-clause-runs : goal.returns-in_err-put-clause-runs
returns-in_err-put-clause-runs g c =
    let size : length c.at.result.1.now ≡ 4096 = c.at.ensures.bounds.1 in
    runs_part c.loop-i.invariant.runs c.put.ensures.runs (omega arith) (omega arith)

pub loop-i-preserved : goal.loop-i-preserved
loop-i-preserved g c =
    let size : length c.at.result.1.now ≡ 4096 = c.at.ensures.bounds.1 in
    let place : c.args.place + c.loop-i.i * 4096 ≡ c.args.place + length (page_bytes (take c.loop-i.i c.args.images.now)) =
    omega (arith, length-first_pages c.args.images.now c.loop-i.i c.loop-i.invariant.each (omega arith)) in
    record {
      runs = runs_part c.loop-i.invariant.runs c.put.ensures.runs (omega arith) (omega arith);
      pages = between_then c.loop-i.invariant.runs c.loop-i.invariant.pages (written_between _ _ (c.args.place + c.loop-i.i * 4096) c.at.result.1.now c.in_ok-put.ensures.written)
          (λ before half after is_before was now. replaces_step c.args.place (c.args.place + c.loop-i.i * 4096) (page_bytes (take c.loop-i.i c.args.images.now)) c.at.result.1.now _ before.bytes half.bytes after.bytes
          (c.requires.within before is_before) place (next_page c.args.images.now c.loop-i.i c.at.result.0 c.at.result.1.now c.at.ensures.image) was now);
      each = All-next IsPageImage c.args.images.now c.loop-i.i (c.at.result.0, c.at.result.1.now) c.loop-i.invariant.each c.at.ensures.image c.at.ensures.bounds;
      faults = search rules;
    }
