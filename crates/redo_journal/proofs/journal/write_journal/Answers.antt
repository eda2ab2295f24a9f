-- Each part lies within what a journal tears, and the parts stand one behind the other.
use Rattle.std.proofs.Common.{◌≡◌, ◌+◌, ◌*◌, length, arith, ap, ◌∙◌, sym}
use Rattle.redo_journal.specs.Layout.{index_pages, torn_journal}
use Rattle.redo_journal.proofs.TornLemmas.{runs_leave_front, front_torn_journal}
use Rattle.page_file.proofs.RunsLemmas.{runs_within, runs_then_settle}
use Rattle.page_file.proofs.RunsLemmas.{runs_wider}
use Rattle.redo_journal.proofs.TornJournalLemmas.{journal_covers, runs_zeros, runs_journal, runs_header}
use Rattle.redo_journal.proofs.PiecesLemmas.{length-index_bytes}
use Rattle.page_file.proofs.BetweenLemmas.{zeros_reach}
use Rattle.redo_journal.proofs.ReplacesLemmas.{piece_reaches}
use Rattle.redo_journal.proofs.WrittenJournalLemmas.{written_stands}
use Rattle.redo_journal.specs.Pieces.{index_bytes, header}
use Rattle.redo_journal.proofs.journal.write_journal.Goals as goal

pub returns-in_err-end-clause-runs : goal.returns-in_err-end-clause-runs
returns-in_err-end-clause-runs g c = runs_within (runs_wider (journal_covers c.args.start (length c.args.images.now)) c.end_of.ensures.runs)

pub returns-in_err-fill-clause-runs : goal.returns-in_err-fill-clause-runs
returns-in_err-fill-clause-runs g c = runs_within (runs_zeros c.args.start (length c.args.images.now) c.in_ok-end.end _ c.requires.ready c.in_ok-end.ensures.end (omega arith) (runs_wider (journal_covers c.args.start (length c.args.images.now)) c.end_of.ensures.runs) c.fill.ensures.runs)

pub write_index-requires-clause-within : goal.write_index-requires-clause-within
write_index-requires-clause-within g c = zeros_reach c.in_ok-end.end (c.from-index.result * 4096) c.fill.ensures.runs c.in_ok-fill.ensures.filled (λ x is. c.in_ok-end.ensures.end x (sym c.end_of.ensures.same ∙ is))

pub returns-in_err-write_index-clause-runs : goal.returns-in_err-write_index-clause-runs
returns-in_err-write_index-clause-runs g c = runs_within (runs_journal c.args.start (length c.args.images.now) _ _ (omega arith) (omega arith) (runs_zeros c.args.start (length c.args.images.now) c.in_ok-end.end _ c.requires.ready c.in_ok-end.ensures.end (omega arith) (runs_wider (journal_covers c.args.start (length c.args.images.now)) c.end_of.ensures.runs) c.fill.ensures.runs) c.write_index.ensures.runs)

pub write_pages-requires-clause-within : goal.write_pages-requires-clause-within
write_pages-requires-clause-within g c = λ x is.
    let reach = piece_reaches (c.from-index.result * 4096) (index_bytes (index_pages (length c.args.images.now)) c.args.images.now) c.write_index.ensures.runs c.in_ok-write_index.ensures.index (zeros_reach c.in_ok-end.end (c.from-index.result * 4096) c.fill.ensures.runs c.in_ok-fill.ensures.filled (λ x is. c.in_ok-end.ensures.end x (sym c.end_of.ensures.same ∙ is))) x is in
    omega (arith, reach, length-index_bytes (index_pages (length c.args.images.now)) c.args.images.now)

pub returns-in_err-write_pages-clause-runs : goal.returns-in_err-write_pages-clause-runs
returns-in_err-write_pages-clause-runs g c = runs_within (runs_journal c.args.start (length c.args.images.now) _ _ (omega arith) (omega arith) (runs_journal c.args.start (length c.args.images.now) _ _ (omega arith) (omega arith) (runs_zeros c.args.start (length c.args.images.now) c.in_ok-end.end _ c.requires.ready c.in_ok-end.ensures.end (omega arith) (runs_wider (journal_covers c.args.start (length c.args.images.now)) c.end_of.ensures.runs) c.fill.ensures.runs) c.write_index.ensures.runs) c.write_pages.ensures.runs)

pub returns-in_err-put-clause-runs : goal.returns-in_err-put-clause-runs
returns-in_err-put-clause-runs g c =
    let size : length c.header.result ≡ 8 = ap length c.header.ensures in
    runs_within (runs_header c.args.start (length c.args.images.now) (runs_journal c.args.start (length c.args.images.now) _ _ (omega arith) (omega arith) (runs_journal c.args.start (length c.args.images.now) _ _ (omega arith) (omega arith) (runs_zeros c.args.start (length c.args.images.now) c.in_ok-end.end _ c.requires.ready c.in_ok-end.ensures.end (omega arith) (runs_wider (journal_covers c.args.start (length c.args.images.now)) c.end_of.ensures.runs) c.fill.ensures.runs) c.write_index.ensures.runs) c.write_pages.ensures.runs) (rw size at c.put.ensures.runs))

pub returns-clause-written : goal.returns-clause-written
returns-clause-written g c =
    let size : length c.header.result ≡ 8 = ap length c.header.ensures in
    written_stands c.settle.result c.args.start c.args.images.now c.in_ok-end.end (c.from-index.result * 4096) (c.from-index.result * 4096 + c.index_len.result * 4096) c.header.result
    c.in_ok-write_pages.ensures.each (omega arith) c.requires.few c.requires.behind_gates (omega arith) (omega arith) (c.header.ensures ∙ ap (λ n. header c.args.start n) c.len-number.ensures.len) size
    c.requires.ready c.requires.closed c.end_of.ensures.same c.in_ok-end.ensures.end
    (runs_then_settle (runs_header c.args.start (length c.args.images.now) (runs_journal c.args.start (length c.args.images.now) _ _ (omega arith) (omega arith) (runs_journal c.args.start (length c.args.images.now) _ _ (omega arith) (omega arith) (runs_zeros c.args.start (length c.args.images.now) c.in_ok-end.end _ c.requires.ready c.in_ok-end.ensures.end (omega arith) (runs_wider (journal_covers c.args.start (length c.args.images.now)) c.end_of.ensures.runs) c.fill.ensures.runs) c.write_index.ensures.runs) c.write_pages.ensures.runs) (rw size at c.put.ensures.runs)) c.settle.ensures.runs)
    c.fill.ensures.runs c.in_ok-fill.ensures.filled c.write_index.ensures.runs c.in_ok-write_index.ensures.index c.write_pages.ensures.runs c.in_ok-write_pages.ensures.pages
    c.put.ensures.runs c.in_ok-put.ensures.written c.settle.ensures.settled

pub returns-clause-runs : goal.returns-clause-runs
returns-clause-runs g c =
    let size : length c.header.result ≡ 8 = ap length c.header.ensures in
    runs_then_settle (runs_header c.args.start (length c.args.images.now) (runs_journal c.args.start (length c.args.images.now) _ _ (omega arith) (omega arith) (runs_journal c.args.start (length c.args.images.now) _ _ (omega arith) (omega arith) (runs_zeros c.args.start (length c.args.images.now) c.in_ok-end.end _ c.requires.ready c.in_ok-end.ensures.end (omega arith) (runs_wider (journal_covers c.args.start (length c.args.images.now)) c.end_of.ensures.runs) c.fill.ensures.runs) c.write_index.ensures.runs) c.write_pages.ensures.runs) (rw size at c.put.ensures.runs)) c.settle.ensures.runs

pub returns-in_err-end-clause-front : goal.returns-in_err-end-clause-front
returns-in_err-end-clause-front g c =
    runs_leave_front (torn_journal c.args.start (length c.args.images.now)) (λ bytes image left. front_torn_journal c.args.start (length c.args.images.now) bytes image c.requires.behind_gates left)
    g.met.D.Disk.sound c.requires.ready (returns-in_err-end-clause-runs g c)

pub returns-in_err-fill-clause-front : goal.returns-in_err-fill-clause-front
returns-in_err-fill-clause-front g c =
    runs_leave_front (torn_journal c.args.start (length c.args.images.now)) (λ bytes image left. front_torn_journal c.args.start (length c.args.images.now) bytes image c.requires.behind_gates left)
    g.met.D.Disk.sound c.requires.ready (returns-in_err-fill-clause-runs g c)

pub returns-in_err-write_index-clause-front : goal.returns-in_err-write_index-clause-front
returns-in_err-write_index-clause-front g c =
    runs_leave_front (torn_journal c.args.start (length c.args.images.now)) (λ bytes image left. front_torn_journal c.args.start (length c.args.images.now) bytes image c.requires.behind_gates left)
    g.met.D.Disk.sound c.requires.ready (returns-in_err-write_index-clause-runs g c)

pub returns-in_err-write_pages-clause-front : goal.returns-in_err-write_pages-clause-front
returns-in_err-write_pages-clause-front g c =
    runs_leave_front (torn_journal c.args.start (length c.args.images.now)) (λ bytes image left. front_torn_journal c.args.start (length c.args.images.now) bytes image c.requires.behind_gates left)
    g.met.D.Disk.sound c.requires.ready (returns-in_err-write_pages-clause-runs g c)

pub returns-in_err-put-clause-front : goal.returns-in_err-put-clause-front
returns-in_err-put-clause-front g c =
    runs_leave_front (torn_journal c.args.start (length c.args.images.now)) (λ bytes image left. front_torn_journal c.args.start (length c.args.images.now) bytes image c.requires.behind_gates left)
    g.met.D.Disk.sound c.requires.ready (returns-in_err-put-clause-runs g c)

pub returns-clause-front : goal.returns-clause-front
returns-clause-front g c =
    runs_leave_front (torn_journal c.args.start (length c.args.images.now)) (λ bytes image left. front_torn_journal c.args.start (length c.args.images.now) bytes image c.requires.behind_gates left)
    g.met.D.Disk.sound c.requires.ready (returns-clause-runs g c)
