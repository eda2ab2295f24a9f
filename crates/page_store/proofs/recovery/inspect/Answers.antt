-- Each call reads, and what was read says what the file is.
use Rattle.std.proofs.Common.{sym, ◌∙◌}
use Rattle.std.proofs.lemmas.Result.{err_from_is_err_and}
use Rattle.page_file.proofs.RunsLemmas.{runs_on}
use Rattle.page_store.proofs.Judged.{was_read, is_other, root_missing, replay_refused}
use Rattle.page_store.proofs.recovery.inspect.Goals as goal

pub returns-in_err-birth-clause-runs : goal.returns-in_err-birth-clause-runs
returns-in_err-birth-clause-runs g c = runs_on c.end_of.ensures.runs c.read_birth.ensures.runs

pub returns-in_default-clause-runs : goal.returns-in_default-clause-runs
returns-in_default-clause-runs g c = runs_on c.end_of.ensures.runs c.read_birth.ensures.runs

pub returns-in_default-shape_in-clause-refused : goal.returns-in_default-shape_in-clause-refused
returns-in_default-shape_in-clause-refused g c = λ file is.
    let made = rw c.in-Some.is at (c.in_ok-birth.ensures.birth file (c.end_of.ensures.same ∙ is)) in
    is_other c.in-Some.birth file.bytes made c.in_default-shape_in.ensures

pub returns-in_default-shape_in-clause-runs : goal.returns-in_default-shape_in-clause-runs
returns-in_default-shape_in-clause-runs g c = runs_on c.end_of.ensures.runs c.read_birth.ensures.runs

pub returns-in_err-journal-clause-refused : goal.returns-in_err-journal-clause-refused
returns-in_err-journal-clause-refused g c =
    let p = err_from_is_err_and c.from_residual-in_err-journal.result c.from_residual-in_err-journal.ensures.1 in
    rw (p.1, p.2) (λ file is.
    let told1 = c.end_of.ensures.same ∙ is in
    let told2 = c.read_birth.ensures.same ∙ told1 in
    let made = rw c.in-Some.is at (c.in_ok-birth.ensures.birth file told1) in
    replay_refused c.in_err-journal.field-0.0 _ _ c.in-Some.birth file.bytes made c.in-Some-shape_in.ensures (λ damaged. let broken = c.in_err-journal.ensures.damaged damaged in (broken.0, (broken.1 file told2).0, (broken.1 file told2).1)))

pub returns-in_err-journal-clause-runs : goal.returns-in_err-journal-clause-runs
returns-in_err-journal-clause-runs g c = runs_on (runs_on c.end_of.ensures.runs c.read_birth.ensures.runs) c.read_journal.ensures.runs

pub returns-in_err-root-clause-runs : goal.returns-in_err-root-clause-runs
returns-in_err-root-clause-runs g c = runs_on (runs_on (runs_on c.end_of.ensures.runs c.read_birth.ensures.runs) c.read_journal.ensures.runs) c.read_root.ensures.runs

pub returns-in_default-2-clause-refused : goal.returns-in_default-2-clause-refused
returns-in_default-2-clause-refused g c = λ file is.
    let told1 = c.end_of.ensures.same ∙ is in
    let told2 = c.read_birth.ensures.same ∙ told1 in
    let told3 = c.read_journal.ensures.same ∙ told2 in
    let made = rw c.in-Some.is at (c.in_ok-birth.ensures.birth file told1) in
    let cut = rw c.in_default-2.is at (c.in_ok-root.ensures.root file told3) in
    rw c.damaged.ensures (root_missing _ _ c.in-Some.birth file.bytes made c.in-Some-shape_in.ensures cut)

pub returns-in_default-2-clause-runs : goal.returns-in_default-2-clause-runs
returns-in_default-2-clause-runs g c = runs_on (runs_on (runs_on c.end_of.ensures.runs c.read_birth.ensures.runs) c.read_journal.ensures.runs) c.read_root.ensures.runs

pub returns-in-Ok-clause-served : goal.returns-in-Ok-clause-served
returns-in-Ok-clause-served g c = λ file is.
    let told1 = c.end_of.ensures.same ∙ is in
    let told2 = c.read_birth.ensures.same ∙ told1 in
    let told3 = c.read_journal.ensures.same ∙ told2 in
    let made = rw c.in-Some.is at (c.in_ok-birth.ensures.birth file told1) in
    let root = rw c.in-Some-2.is at (c.in_ok-root.ensures.root file told3) in
    let read = was_read c.in_ok-end.end c.in-Some-shape_in.shape.extents c.in-Some-shape_in.shape.extent_pages c.in_ok-journal.journal c.in-Some.birth c.in-Some-2.root file.bytes made c.in-Some-shape_in.ensures (c.in_ok-end.ensures.end file is) (c.in_ok-journal.ensures.counting file told2) root in
    let judged = c.in-Ok.ensures.judged file.bytes read in
    (judged.0, read.counting, record { extents = read.states_extents; extent_pages = read.states_extent_pages; count = sym judged.1 })

pub returns-in-Ok-clause-runs : goal.returns-in-Ok-clause-runs
returns-in-Ok-clause-runs g c = runs_on (runs_on (runs_on c.end_of.ensures.runs c.read_birth.ensures.runs) c.read_journal.ensures.runs) c.read_root.ensures.runs

pub returns-in-Err-clause-refused : goal.returns-in-Err-clause-refused
returns-in-Err-clause-refused g c = λ file is.
    let told1 = c.end_of.ensures.same ∙ is in
    let told2 = c.read_birth.ensures.same ∙ told1 in
    let told3 = c.read_journal.ensures.same ∙ told2 in
    let made = rw c.in-Some.is at (c.in_ok-birth.ensures.birth file told1) in
    let root = rw c.in-Some-2.is at (c.in_ok-root.ensures.root file told3) in
    let read = was_read c.in_ok-end.end c.in-Some-shape_in.shape.extents c.in-Some-shape_in.shape.extent_pages c.in_ok-journal.journal c.in-Some.birth c.in-Some-2.root file.bytes made c.in-Some-shape_in.ensures (c.in_ok-end.ensures.end file is) (c.in_ok-journal.ensures.counting file told2) root in
    c.in-Err.ensures.judged file.bytes read

pub returns-in-Err-clause-runs : goal.returns-in-Err-clause-runs
returns-in-Err-clause-runs g c = runs_on (runs_on (runs_on c.end_of.ensures.runs c.read_birth.ensures.runs) c.read_journal.ensures.runs) c.read_root.ensures.runs
