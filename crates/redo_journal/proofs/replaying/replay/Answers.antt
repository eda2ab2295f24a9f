-- Each call reads, and the journal's parts stand where they are read.
use Rattle.std.proofs.Common.{◌≡◌, ◌+◌, ◌*◌, drop, arith, ap, ◌∙◌, sym, refl, subst, inl, inr}
use Rattle.redo_journal.specs.Images.{AreRising}
use Rattle.redo_journal.specs.Layout.{entries, index_pages, number_of}
use Rattle.redo_journal.proofs.replaying.replay.Goals.{then-from-lt-FIRST_PAGE-via-then-from-lt-FIRST_PAGE, then-from-lt-FIRST_PAGE-via-else-from-lt-FIRST_PAGE+then-pages-from}
use Rattle.redo_journal.proofs.EntriesLemmas.{outside_file, journal_read}
use Rattle.page_file.proofs.RunsLemmas.{runs_on}
use Rattle.redo_journal.proofs.replaying.replay.Goals as goal

pub returns-in_err-is_gate_open-clause-runs : goal.returns-in_err-is_gate_open-clause-runs
returns-in_err-is_gate_open-clause-runs g c = runs_on c.end_of.ensures.runs c.is_gate_open.ensures.runs

pub returns-then-not-branch-clause-runs : goal.returns-then-not-branch-clause-runs
returns-then-not-branch-clause-runs g c = runs_on c.end_of.ensures.runs c.is_gate_open.ensures.runs

pub returns-then-end-clause-runs : goal.returns-then-end-clause-runs
returns-then-end-clause-runs g c = runs_on c.end_of.ensures.runs c.is_gate_open.ensures.runs

pub returns-in_err-start-clause-runs : goal.returns-in_err-start-clause-runs
returns-in_err-start-clause-runs g c = runs_on (runs_on c.end_of.ensures.runs c.is_gate_open.ensures.runs) c.read_number.ensures.runs

pub returns-in_err-number-clause-runs : goal.returns-in_err-number-clause-runs
returns-in_err-number-clause-runs g c = runs_on (runs_on (runs_on c.end_of.ensures.runs c.is_gate_open.ensures.runs) c.read_number.ensures.runs) c.read_number-2.ensures.runs

pub returns-then-from-lt-FIRST_PAGE-clause-runs : goal.returns-then-from-lt-FIRST_PAGE-clause-runs
returns-then-from-lt-FIRST_PAGE-clause-runs g c = runs_on (runs_on (runs_on c.end_of.ensures.runs c.is_gate_open.ensures.runs) c.read_number.ensures.runs) c.read_number-2.ensures.runs

pub returns-in-Err-clause-runs : goal.returns-in-Err-clause-runs
returns-in-Err-clause-runs g c = runs_on (runs_on (runs_on (runs_on c.end_of.ensures.runs c.is_gate_open.ensures.runs) c.read_number.ensures.runs) c.read_number-2.ensures.runs) c.read_images.ensures.runs

pub returns-in-Ok-clause-runs : goal.returns-in-Ok-clause-runs
returns-in-Ok-clause-runs g c = runs_on (runs_on (runs_on (runs_on c.end_of.ensures.runs c.is_gate_open.ensures.runs) c.read_number.ensures.runs) c.read_number-2.ensures.runs) c.read_images.ensures.runs

pub returns-then-from-lt-FIRST_PAGE-clause-damaged : goal.returns-then-from-lt-FIRST_PAGE-clause-damaged
returns-then-from-lt-FIRST_PAGE-clause-damaged g c = λ damaged. (
  refl,
  λ x is.
      let told1 = c.end_of.ensures.same ∙ is in
      let told2 = c.is_gate_open.ensures.same ∙ told1 in
      let told3 = c.read_number.ensures.same ∙ told2 in
      let size = c.in_ok-end.ensures.end x is in
      let gate = c.in_ok-is_gate_open.ensures.gate x told1 in
      let start = c.in_ok-start.ensures.number x told2 in
      let number = c.in_ok-number.ensures.number x told3 in
      let yes = c.if-not-branch.false in (
        cc,
        outside_file x.bytes c.in_ok-start.start c.in_ok-number.number c.index_len.result c.in_ok-end.end start number c.index_len.ensures.pages size (elim c.then-from-lt-FIRST_PAGE.branch [
          | then-from-lt-FIRST_PAGE-via-then-from-lt-FIRST_PAGE w ↦ inl (omega arith)
          | then-from-lt-FIRST_PAGE-via-else-from-lt-FIRST_PAGE+then-pages-from w ↦ inr (omega arith)
        ]),
      ),
)

pub returns-in-Ok-clause-found : goal.returns-in-Ok-clause-found
returns-in-Ok-clause-found g c = λ x is.
    let told1 = c.end_of.ensures.same ∙ is in
    let told2 = c.is_gate_open.ensures.same ∙ told1 in
    let told3 = c.read_number.ensures.same ∙ told2 in
    let size = c.in_ok-end.ensures.end x is in
    let gate = c.in_ok-is_gate_open.ensures.gate x told1 in
    let start = c.in_ok-start.ensures.number x told2 in
    let number = c.in_ok-number.ensures.number x told3 in
    let yes = c.if-not-branch.false in
    let told4 = c.read_number-2.ensures.same ∙ told3 in
    let images = journal_read x.bytes c.in_ok-start.start c.in_ok-number.number c.index_len.result _ _ c.in-Ok.images start number c.index_len.ensures.pages (omega arith) (omega arith) (c.in-Ok.ensures.images x told4) in
    let same : c.index_len.result ≡ index_pages (number_of x.bytes) = c.index_len.ensures.pages ∙ ap index_pages number in
    (cc, record { behind_gates = omega (arith, start); within = omega (arith, start, number, size, same); rising = rw (sym images) c.in-Ok.ensures.rising }, images)

pub returns-in-Err-clause-damaged : goal.returns-in-Err-clause-damaged
returns-in-Err-clause-damaged g c = λ damaged.
    let broken = c.in-Err.ensures.damaged damaged in (
      broken.0,
      λ x is.
          let told1 = c.end_of.ensures.same ∙ is in
          let told2 = c.is_gate_open.ensures.same ∙ told1 in
          let told3 = c.read_number.ensures.same ∙ told2 in
          let size = c.in_ok-end.ensures.end x is in
          let gate = c.in_ok-is_gate_open.ensures.gate x told1 in
          let start = c.in_ok-start.ensures.number x told2 in
          let number = c.in_ok-number.ensures.number x told3 in
          let yes = c.if-not-branch.false in
          let told4 = c.read_number-2.ensures.same ∙ told3 in
          let same = journal_read x.bytes c.in_ok-start.start c.in_ok-number.number c.index_len.result (c.from-index.result * 4096) (c.from-index.result * 4096 + c.index_len.result * 4096)
          (entries c.in_ok-number.number (drop (c.from-index.result * 4096) x.bytes) (drop (c.from-index.result * 4096 + c.index_len.result * 4096) x.bytes))
          start number c.index_len.ensures.pages (omega arith) (omega arith) refl in
          (cc, λ journal. broken.1 x told4 (subst AreRising (sym same) journal.rising)),
    )
