use Rattle.std.proofs.Common.{◌∙◌, refl, sym}
use Rattle.std.proofs.lemmas.Result.{on_ok_weaker}
use Rattle.mdc_ast.specs.Truth.{qualifies}
use Rattle.row_page.specs.Row.{row_in}
use Rattle.mdc_sound.specs.TableRows.{PlacedRow}
use Rattle.executor.proofs.SettledSinksLemmas.{given_not_taken, given_taken, settled_with, settled_without}
use Rattle.executor.proofs.settled_rows.SettledRowsRowSink.take.Goals as goal

pub takes-requires-clause-judged : goal.takes-requires-clause-judged
takes-requires-clause-judged g c = c.requires.fits.judged (row_in c.args.row.now.columns.now c.args.row.now.bytes.now) c.requires.read

pub returns-then-not-branch-clause-has : goal.returns-then-not-branch-clause-has
returns-then-not-branch-clause-has g c given has =
    let placed : PlacedRow = record { rid = c.args.rid; row = row_in c.args.row.now.columns.now c.args.row.now.bytes.now } in
    settled_without c.requires.fits.as_begun placed c.in_ok-verdict_on.ensures.told c.in_ok-verdict_on.ensures.kept given has refl c.if-not-branch.true

pub returns-then-not-branch-2-clause-has : goal.returns-then-not-branch-2-clause-has
returns-then-not-branch-2-clause-has g c given has =
    let placed : PlacedRow = record { rid = c.args.rid; row = row_in c.args.row.now.columns.now c.args.row.now.bytes.now } in
    settled_with c.requires.fits.as_begun placed c.in_ok-verdict_on.ensures.told c.in_ok-verdict_on.ensures.kept given has
    (given_not_taken g.K.RowSink c.args.self.now.left.now.pred.now placed c.args.self.now.sink.now c.args.self.now.sink.now refl (sym {b = qualifies c.args.self.now.left.now.pred.now placed.row.values} c.in_ok-takes.ensures.taken ∙ c.if-not-branch-2.true)) c.if-not-branch.false

pub returns-clause-has : goal.returns-clause-has
returns-clause-has g c =
    on_ok_weaker c.take.result
    (λ said given has.
    let placed : PlacedRow = record { rid = c.args.rid; row = row_in c.args.row.now.columns.now c.args.row.now.bytes.now } in
    settled_with c.requires.fits.as_begun placed c.in_ok-verdict_on.ensures.told c.in_ok-verdict_on.ensures.kept given has
    (given_taken g.K.RowSink c.args.self.now.left.now.pred.now placed c.args.self.now.sink.now c.take.new.self said (sym {b = qualifies c.args.self.now.left.now.pred.now placed.row.values} c.in_ok-takes.ensures.taken ∙ c.if-not-branch-2.false)) c.if-not-branch.false) c.take.ensures.has
