-- Each index page is behind the one before.
use Rattle.std.proofs.Common.{◌≡◌, ◌≤◌, ◌+◌, ◌*◌, ◌++◌, length, drop, arith, ap, ◌∙◌, sym, rules}
use Rattle.std.proofs.lemmas.List.{length-take}
use Rattle.redo_journal.specs.Pieces.{index_bytes, chunk}
use Rattle.redo_journal.proofs.PiecesLemmas.{replaces_nothing, replaces_step, replaces_length, next_index, length-index_bytes, length-index_page}
use Rattle.page_file.proofs.BetweenLemmas.{between_then, now_holds, written_between, between_same}
use Rattle.page_file.proofs.RunsLemmas.{runs_part}
use Rattle.redo_journal.proofs.journal.write_index.Goals as goal

pub loop-k-init : goal.loop-k-init
loop-k-init g c = record {
  runs = search rules;
  index = between_same _ (λ bytes. replaces_nothing c.args.place bytes);
  faults = search rules;
}

pub put-requires-clause-within : goal.put-requires-clause-within
put-requires-clause-within g c = now_holds (λ file. c.args.place ≤ length file.bytes) (λ file. c.args.place + c.loop-k.k * 4096 ≤ length file.bytes) c.loop-k.invariant.runs c.loop-k.invariant.index c.requires.within
    (λ before after le was. omega (arith, replaces_length c.args.place (index_bytes c.loop-k.k c.args.images.now) before.bytes after.bytes le was, length-index_bytes c.loop-k.k c.args.images.now))

pub returns-in_err-put-clause-runs : goal.returns-in_err-put-clause-runs
returns-in_err-put-clause-runs g c =
    let few : length (chunk (c.loop-k.k * 1024) c.args.images.now) ≤ 1024 = omega (arith, length-take 1024 (drop (c.loop-k.k * 1024) c.args.images.now)) in
    let size : length c.index_page-page.result ≡ 4096 = ap length c.index_page-page.ensures ∙ length-index_page (chunk (c.loop-k.k * 1024) c.args.images.now) few in
    runs_part c.loop-k.invariant.runs c.put.ensures.runs (omega arith) (omega arith)

pub loop-k-preserved : goal.loop-k-preserved
loop-k-preserved g c =
    let few : length (chunk (c.loop-k.k * 1024) c.args.images.now) ≤ 1024 = omega (arith, length-take 1024 (drop (c.loop-k.k * 1024) c.args.images.now)) in
    let size : length c.index_page-page.result ≡ 4096 = ap length c.index_page-page.ensures ∙ length-index_page (chunk (c.loop-k.k * 1024) c.args.images.now) few in
    let place : c.args.place + c.loop-k.k * 4096 ≡ c.args.place + length (index_bytes c.loop-k.k c.args.images.now) = omega (arith, length-index_bytes c.loop-k.k c.args.images.now) in
    let whole : index_bytes (c.loop-k.k + 1) c.args.images.now ≡ index_bytes c.loop-k.k c.args.images.now ++ c.index_page-page.result =
    next_index c.loop-k.k c.args.images.now ∙ ap (λ page. index_bytes c.loop-k.k c.args.images.now ++ page) (sym c.index_page-page.ensures) in
    record {
      runs = runs_part c.loop-k.invariant.runs c.put.ensures.runs (omega arith) (omega arith);
      index = between_then c.loop-k.invariant.runs c.loop-k.invariant.index (written_between _ _ (c.args.place + c.loop-k.k * 4096) c.index_page-page.result c.in_ok-put.ensures.written)
          (λ before half after is_before was now. replaces_step c.args.place (c.args.place + c.loop-k.k * 4096) (index_bytes c.loop-k.k c.args.images.now) c.index_page-page.result _ before.bytes half.bytes after.bytes
          (c.requires.within before is_before) place whole was now);
      faults = search rules;
    }
