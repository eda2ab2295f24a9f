-- Each part lies within what a record tears, and the parts stand one behind the other.
use Rattle.std.proofs.Common.{◌≡◌, ◌≤◌, ◌+◌, ◌*◌, length, arith, ap, ◌∙◌}
use Rattle.redo_journal.specs.Layout.{index_pages}
use Rattle.redo_journal.specs.Pieces.{index_bytes, header}
use Rattle.redo_journal.proofs.PiecesLemmas.{length-index_page, length-index_bytes}
use Rattle.redo_journal.proofs.ReplacesLemmas.{piece_reaches}
use Rattle.page_file.proofs.RunsLemmas.{runs_within, runs_then_settle}
use Rattle.redo_log.proofs.Records.{one_index_page, index_written, runs_at, written_at, runs_first, runs_more, runs_head, record_stands}
use Rattle.redo_log.proofs.record.write_record.Goals as goal

pub returns-in_err-put-clause-runs : goal.returns-in_err-put-clause-runs
returns-in_err-put-clause-runs g c =
    let few : length c.args.images.now ≤ 64 = omega arith in
    let one = one_index_page (length c.args.images.now) c.requires.some (omega arith) in
    let size : length c.index_page.result ≡ 4096 = ap length c.index_page.ensures ∙ length-index_page c.args.images.now (omega arith) in
    runs_within (runs_first c.args.k c.args.start (length c.args.images.now) _ _ (omega arith) (omega arith) c.put.ensures.runs)

pub write_pages-requires-clause-within : goal.write_pages-requires-clause-within
write_pages-requires-clause-within g c = λ x is.
    let few : length c.args.images.now ≤ 64 = omega arith in
    let one = one_index_page (length c.args.images.now) c.requires.some (omega arith) in
    let index = index_written (g.D.Disk.file c.args.disk.now) (g.D.Disk.file c.put.new.disk) (c.from-index.result * 4096) c.index_page.result c.args.images.now c.index_page.ensures c.requires.some (omega arith) (λ y was. omega (arith, c.requires.reach y was)) c.in_ok-put.ensures.written in
    let reach = piece_reaches (c.from-index.result * 4096) (index_bytes (index_pages (length c.args.images.now)) c.args.images.now) c.put.ensures.runs index (λ y was. omega (arith, c.requires.reach y was)) x is in
    omega (arith, reach, length-index_bytes (index_pages (length c.args.images.now)) c.args.images.now)

pub returns-in_err-write_pages-clause-runs : goal.returns-in_err-write_pages-clause-runs
returns-in_err-write_pages-clause-runs g c =
    let few : length c.args.images.now ≤ 64 = omega arith in
    let one = one_index_page (length c.args.images.now) c.requires.some (omega arith) in
    let size : length c.index_page.result ≡ 4096 = ap length c.index_page.ensures ∙ length-index_page c.args.images.now (omega arith) in
    runs_within (runs_more c.args.k c.args.start (length c.args.images.now) _ _ (omega arith) (omega arith) (runs_first c.args.k c.args.start (length c.args.images.now) _ _ (omega arith) (omega arith) c.put.ensures.runs) c.write_pages.ensures.runs)

pub returns-in_err-put-2-clause-runs : goal.returns-in_err-put-2-clause-runs
returns-in_err-put-2-clause-runs g c =
    let few : length c.args.images.now ≤ 64 = omega arith in
    let one = one_index_page (length c.args.images.now) c.requires.some (omega arith) in
    let page_size : length c.index_page.result ≡ 4096 = ap length c.index_page.ensures ∙ length-index_page c.args.images.now (omega arith) in
    let size : length c.header.result ≡ 8 = ap length c.header.ensures in
    runs_within (runs_head c.args.k c.args.start (length c.args.images.now) (runs_more c.args.k c.args.start (length c.args.images.now) _ _ (omega arith) (omega arith) (runs_first c.args.k c.args.start (length c.args.images.now) _ _ (omega arith) (omega arith) c.put.ensures.runs) c.write_pages.ensures.runs) (runs_at (omega arith) size c.put-2.ensures.runs))

pub returns-clause-runs : goal.returns-clause-runs
returns-clause-runs g c =
    let few : length c.args.images.now ≤ 64 = omega arith in
    let one = one_index_page (length c.args.images.now) c.requires.some (omega arith) in
    let page_size : length c.index_page.result ≡ 4096 = ap length c.index_page.ensures ∙ length-index_page c.args.images.now (omega arith) in
    let size : length c.header.result ≡ 8 = ap length c.header.ensures in
    runs_then_settle (runs_head c.args.k c.args.start (length c.args.images.now) (runs_more c.args.k c.args.start (length c.args.images.now) _ _ (omega arith) (omega arith) (runs_first c.args.k c.args.start (length c.args.images.now) _ _ (omega arith) (omega arith) c.put.ensures.runs) c.write_pages.ensures.runs) (runs_at (omega arith) size c.put-2.ensures.runs)) c.settle.ensures.runs

pub returns-clause-written : goal.returns-clause-written
returns-clause-written g c =
    let few : length c.args.images.now ≤ 64 = omega arith in
    let one = one_index_page (length c.args.images.now) c.requires.some (omega arith) in
    let size : length c.header.result ≡ 8 = ap length c.header.ensures in
    let index = index_written (g.D.Disk.file c.args.disk.now) (g.D.Disk.file c.put.new.disk) (c.from-index.result * 4096) c.index_page.result c.args.images.now c.index_page.ensures c.requires.some (omega arith) (λ y was. omega (arith, c.requires.reach y was)) c.in_ok-put.ensures.written in
    record_stands c.settle.result c.args.k c.args.start c.args.images.now (c.from-index.result * 4096) (c.from-index.result * 4096 + 4096) c.header.result
    c.in_ok-write_pages.ensures.each (omega arith) (omega arith) c.requires.behind_gates c.requires.few (omega arith) (omega arith) (c.header.ensures ∙ ap (λ n. header c.args.start n) c.len-number.ensures.len) size
    (λ y was. omega (arith, c.requires.reach y was))
    (returns-clause-runs g c)
    c.put.ensures.runs index c.write_pages.ensures.runs c.in_ok-write_pages.ensures.pages
    c.put-2.ensures.runs (written_at _ (3072 + 8 * c.args.k) c.header.result (g.D.Disk.file c.write_pages.new.disk) (g.D.Disk.file c.put-2.new.disk) (omega arith) c.in_ok-put-2.ensures.written) c.settle.ensures.settled
