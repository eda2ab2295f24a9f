-- Each call reads, and the record's parts stand where they are read.
use Rattle.std.proofs.Common.{◌+◌, ◌*◌, arith, ◌∙◌, sym, refl, subst}
use Rattle.redo_journal.specs.Images.{Numbered, AreRising}
use Rattle.page_file.proofs.RunsLemmas.{runs_on}
use Rattle.redo_log.specs.Replaying.{LaysOver}
use Rattle.redo_log.proofs.ReadRecords.{ends_before, was_read, end_read, record_read, record_placed}
use Rattle.redo_log.proofs.reading.lay_record.Goals as goal

pub returns-in_err-number-clause-runs : goal.returns-in_err-number-clause-runs
returns-in_err-number-clause-runs g c = runs_on c.read_number.ensures.runs c.read_number-2.ensures.runs

pub returns-in-Ok-clause-runs : goal.returns-in-Ok-clause-runs
returns-in-Ok-clause-runs g c = runs_on (runs_on c.read_number.ensures.runs c.read_number-2.ensures.runs) c.lay_images.ensures.runs

pub returns-in-Err-clause-runs : goal.returns-in-Err-clause-runs
returns-in-Err-clause-runs g c = runs_on (runs_on c.read_number.ensures.runs c.read_number-2.ensures.runs) c.lay_images.ensures.runs

pub returns-in-Ok-clause-behind : goal.returns-in-Ok-clause-behind
returns-in-Ok-clause-behind g c = λ x is.
    let told2 = c.read_number.ensures.same ∙ is in
    let read = was_read c.args.k (3072 + 8 * c.from-2.result) c.in_ok-start.start c.in_ok-number.number c.index_len.result x.bytes (omega arith) (c.in_ok-start.ensures.number x is) (c.in_ok-number.ensures.number x told2) c.index_len.ensures.pages in
    omega (arith, end_read c.args.k c.in_ok-start.start c.in_ok-number.number c.index_len.result x.bytes read)

pub returns-in-Ok-clause-laid : goal.returns-in-Ok-clause-laid
returns-in-Ok-clause-laid g c = λ x is.
    let told2 = c.read_number.ensures.same ∙ is in
    let told3 = c.read_number-2.ensures.same ∙ told2 in
    let read = was_read c.args.k (3072 + 8 * c.from-2.result) c.in_ok-start.start c.in_ok-number.number c.index_len.result x.bytes (omega arith) (c.in_ok-start.ensures.number x is) (c.in_ok-number.ensures.number x told2) c.index_len.ensures.pages in
    subst (λ (images : Numbered). LaysOver images c.args.overlay.now c.lay_images.new.overlay)
    (record_read c.args.k c.in_ok-start.start c.in_ok-number.number c.index_len.result _ _ x.bytes _ read (omega arith) (omega arith) refl)
    (c.in-Ok.ensures.laid x told3)

pub returns-in-Ok-clause-placed : goal.returns-in-Ok-clause-placed
returns-in-Ok-clause-placed g c = λ x is.
    let told2 = c.read_number.ensures.same ∙ is in
    let told3 = c.read_number-2.ensures.same ∙ told2 in
    let read = was_read c.args.k (3072 + 8 * c.from-2.result) c.in_ok-start.start c.in_ok-number.number c.index_len.result x.bytes (omega arith) (c.in_ok-start.ensures.number x is) (c.in_ok-number.ensures.number x told2) c.index_len.ensures.pages in
    record_placed c.args.k c.args.low c.in_ok-start.start c.in_ok-number.number c.index_len.result c.args.end x.bytes read (omega arith) (omega arith) (omega arith) (c.requires.end x is)
    (subst (λ (images : Numbered). AreRising images)
    (record_read c.args.k c.in_ok-start.start c.in_ok-number.number c.index_len.result _ _ x.bytes _ read (omega arith) (omega arith) refl)
    (c.in-Ok.ensures.rising x told3))

pub returns-in-Err-clause-damaged : goal.returns-in-Err-clause-damaged
returns-in-Err-clause-damaged g c = λ damaged.
    let broken = c.in-Err.ensures.damaged damaged in (
      broken.0,
      λ x is placed.
          let told2 = c.read_number.ensures.same ∙ is in
          let told3 = c.read_number-2.ensures.same ∙ told2 in
          let read = was_read c.args.k (3072 + 8 * c.from-2.result) c.in_ok-start.start c.in_ok-number.number c.index_len.result x.bytes (omega arith) (c.in_ok-start.ensures.number x is) (c.in_ok-number.ensures.number x told2) c.index_len.ensures.pages in
          broken.1 x told3 (subst (λ (images : Numbered). AreRising images)
          (sym (record_read c.args.k c.in_ok-start.start c.in_ok-number.number c.index_len.result _ _ x.bytes _ read (omega arith) (omega arith) refl)) placed.rising),
    )

pub returns-then-end-from-clause-damaged : goal.returns-then-end-from-clause-damaged
returns-then-end-from-clause-damaged g c = λ damaged. (refl, λ x is placed. ends_before c.args.k c.args.low c.args.end x.bytes (c.requires.end x is) (omega arith) placed)
