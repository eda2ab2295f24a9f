use Rattle.std.proofs.Common.{◌≡◌, ◌+◌, ◌∙◌, ◌∷◌, None, Some, drop, refl, arith, subst, sym}
use Rattle.std.proofs.lemmas.List.{drop_all}
use Rattle.std.proofs.lemmas.List.Elements.{All-get_or}
use Rattle.store_api.proofs.FrameLemmas.{touches_none}
use Rattle.store_api.proofs.RunsOverPagesLemmas.{runs_exit, runs_none}
use Rattle.block_rows.specs.HeldRows.{HasReadValues}
use Rattle.block_rows.specs.declared.hit.Hit.{Hit}
use Rattle.free_space.specs.RoomNotes.{room_of}
use Rattle.statement_rows.proofs.DeletingRowsLemmas.{DeletesOn, deletes_all, deletes_none}
use Rattle.statement_rows.proofs.DeletingSpaceLemmas.{stands_on_more, stands_on_none, touched_more}
use Rattle.statement_rows.proofs.DeletingStepsLemmas.{row_out, row_out_run}
use Rattle.statement_rows.proofs.RowsThenLemmas.{rest_at}
use Rattle.statement_rows.proofs.deleting.delete_rows.Goals as goal

pub loop-hit-init : goal.loop-hit-init
loop-hit-init g c = record {
  deletes = λ owners forests ready has. deletes_none g.P.Pages c.args.shape c.args.notes.now (room_of c.args.rooms.now) c.args.pages.now c.args.def.now c.args.hits.now owners forests ready has;
  count = refl;
  stands = stands_on_none g.P.Pages c.args.shape c.args.def.now c.args.pages.now c.args.hits.now;
  touches = touches_none;
  idle = λ none. refl;
  runs = runs_none;
}

pub delete_row-requires-clause-row : goal.delete_row-requires-clause-row
delete_row-requires-clause-row g c =
    let columns = c.args.def.now.columns in
    subst (λ (hit : Hit). HasReadValues columns hit.row) (sym c.hit-item.is)
    (All-get_or (λ (hit : Hit). HasReadValues columns hit.row) c.args.hits.now c.loop-hit.hit-index c.hit-item.result c.loop-hit-test.true c.requires.read)

pub returns-in_err-delete_row-clause-runs : goal.returns-in_err-delete_row-clause-runs
returns-in_err-delete_row-clause-runs g c =
    let so_far = c.loop-hit.invariant in
    let split : drop c.loop-hit.hit-index c.args.hits.now ≡ c.hit-item.result ∷ drop (c.loop-hit.hit-index + 1) c.args.hits.now =
    rest_at c.args.hits.now c.loop-hit.hit-index c.hit-item.result c.loop-hit-test.true c.hit-item.is in
    runs_exit c.from_residual.result c.from_residual.ensures.1
    (row_out_run g.P.Pages c.args.shape c.args.notes.now c.loop-hit.notes (room_of c.args.rooms.now) (room_of c.loop-hit.rooms) c.args.pages.now c.loop-hit.pages c.args.def.now c.args.hits.now
    (drop c.loop-hit.hit-index c.args.hits.now) c.hit-item.result (drop (c.loop-hit.hit-index + 1) c.args.hits.now) split so_far.deletes c.delete_row.new.pages (Some c.in_err-delete_row.field-0.0) so_far.runs
    c.in_err-delete_row.ensures.runs)

pub returns-in_err-delete_row-clause-touches : goal.returns-in_err-delete_row-clause-touches
returns-in_err-delete_row-clause-touches g c =
    let so_far = c.loop-hit.invariant in
    touched_more g.P.Pages c.args.shape c.args.def.now c.args.pages.now c.loop-hit.pages c.args.hits.now (drop c.loop-hit.hit-index c.args.hits.now) c.hit-item.result (drop (c.loop-hit.hit-index + 1) c.args.hits.now)
    (rest_at c.args.hits.now c.loop-hit.hit-index c.hit-item.result c.loop-hit-test.true c.hit-item.is) so_far.stands c.delete_row.new.pages so_far.touches c.in_err-delete_row.ensures.runs.touches

pub loop-hit-preserved : goal.loop-hit-preserved
loop-hit-preserved g c =
    let so_far = c.loop-hit.invariant in
    let said = c.in_ok-delete_row.ensures in
    let split : drop c.loop-hit.hit-index c.args.hits.now ≡ c.hit-item.result ∷ drop (c.loop-hit.hit-index + 1) c.args.hits.now =
    rest_at c.args.hits.now c.loop-hit.hit-index c.hit-item.result c.loop-hit-test.true c.hit-item.is in
    record {
      deletes = row_out g.P.Pages c.args.shape c.args.notes.now c.loop-hit.notes (room_of c.args.rooms.now) (room_of c.loop-hit.rooms) c.args.pages.now c.loop-hit.pages c.args.def.now c.args.hits.now
          (drop c.loop-hit.hit-index c.args.hits.now) c.hit-item.result (drop (c.loop-hit.hit-index + 1) c.args.hits.now) split so_far.deletes c.delete_row.new.notes (room_of c.delete_row.new.rooms) c.delete_row.new.pages
          said.deletes said.runs.works said.runs.touches;
      count = said.count ∙ so_far.count;
      stands = stands_on_more g.P.Pages c.args.shape c.args.def.now c.args.pages.now c.loop-hit.pages c.args.hits.now (drop c.loop-hit.hit-index c.args.hits.now) c.hit-item.result (drop (c.loop-hit.hit-index + 1) c.args.hits.now)
          split so_far.stands c.loop-hit.notes c.delete_row.new.notes (room_of c.loop-hit.rooms) (room_of c.delete_row.new.rooms) c.delete_row.new.pages said.deletes;
      touches = touched_more g.P.Pages c.args.shape c.args.def.now c.args.pages.now c.loop-hit.pages c.args.hits.now (drop c.loop-hit.hit-index c.args.hits.now) c.hit-item.result (drop (c.loop-hit.hit-index + 1) c.args.hits.now)
          split so_far.stands c.delete_row.new.pages so_far.touches said.runs.touches;
      idle = λ none. absurd (omega (arith, none, c.loop-hit-test.true));
      runs = row_out_run g.P.Pages c.args.shape c.args.notes.now c.loop-hit.notes (room_of c.args.rooms.now) (room_of c.loop-hit.rooms) c.args.pages.now c.loop-hit.pages c.args.def.now c.args.hits.now
          (drop c.loop-hit.hit-index c.args.hits.now) c.hit-item.result (drop (c.loop-hit.hit-index + 1) c.args.hits.now) split so_far.deletes c.delete_row.new.pages None so_far.runs said.runs;
    }

pub returns-clause-deletes : goal.returns-clause-deletes
returns-clause-deletes g c owners forests ready has =
    deletes_all g.P.Pages c.args.shape c.args.notes.now c.loop-hit.notes (room_of c.loop-hit.rooms) c.args.pages.now c.loop-hit.pages c.args.def.now c.args.hits.now owners forests
    (subst (λ rest. DeletesOn g.P.Pages c.args.shape c.args.notes.now c.loop-hit.notes (room_of c.loop-hit.rooms) c.args.pages.now c.loop-hit.pages c.args.def.now c.args.hits.now rest owners forests)
    (drop_all c.loop-hit.hit-index c.args.hits.now (omega (arith, c.loop-hit-test.false))) (c.loop-hit.invariant.deletes owners forests ready has))
