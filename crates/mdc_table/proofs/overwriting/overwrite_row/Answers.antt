use Rattle.std.proofs.Common.{◌∙◌, arith, inl, inr, refl, sym}
use Rattle.std.proofs.lemmas.Result.{on_ok_weaker}
use Rattle.store_api.proofs.RunsOverPagesLemmas.{runs_none}
use Rattle.free_space.specs.RoomNotes.{room_of}
use Rattle.free_space.proofs.TableRunsLemmas.{runs_broken}
use Rattle.mdc_table.proofs.KeptBlocksLemmas.{keeps_but_one, keeps_in_block, runs_of_block}
use Rattle.mdc_table.proofs.KnownBlocksLemmas.{is_known, runs_of_asked, runs_of_known}
use Rattle.mdc_table.proofs.TakingRowsLemmas.{no_row_there, row_overwritten}
use Rattle.mdc_table.proofs.overwriting.overwrite_row.Goals.{then-rid-shape-via-then-rid-shape, then-rid-shape-via-else-rid-shape+then-from-block_slots}
use Rattle.mdc_table.proofs.overwriting.overwrite_row.Goals as goal

pub returns-then-rid-shape-clause-runs : goal.returns-then-rid-shape-clause-runs
returns-then-rid-shape-clause-runs g c =
    runs_broken c.unmapped.result c.unmapped.ensures runs_none
    (no_row_there c.args.shape c.args.pages.now c.args.def.now c.args.rid (elim c.then-rid-shape.branch [
      | then-rid-shape-via-then-rid-shape w ↦ inl w.if-rid-shape.true
      | then-rid-shape-via-else-rid-shape+then-from-block_slots w ↦ inr (omega (arith, w.if-from-block_slots.true, w.from.ensures, w.block_slots.ensures))
    ]))

pub returns-clause-overwrites : goal.returns-clause-overwrites
returns-clause-overwrites g c =
    row_overwritten g.P.Pages c.args.shape c.args.pages.now c.overwrite_row.new.pages c.args.def.now c.args.rid c.args.row.now (room_of c.args.rooms.now) c.overwrite_row.result c.overwrite_row.ensures.overwrites
    c.overwrite_row.ensures.makes

pub returns-clause-stay : goal.returns-clause-stay
returns-clause-stay g c owners forests st =
    keeps_in_block c.args.shape c.args.pages.now c.args.pages.now c.overwrite_row.new.pages c.args.def.now owners forests refl refl st c.args.rid.block c.overwrite_row.ensures.runs.touches

pub returns-clause-runs : goal.returns-clause-runs
returns-clause-runs g c =
    runs_of_asked c.args.shape c.args.pages.now c.args.def.now c.args.known c.args.rid.block (runs_of_block c.args.shape c.args.def.now c.args.rid.block c.overwrite_row.ensures.runs)

pub returns-then-eq-clause-overwrites : goal.returns-then-eq-clause-overwrites
returns-then-eq-clause-overwrites g c =
    row_overwritten g.P.Pages c.args.shape c.args.pages.now c.overwrite_row_of_used.new.pages c.args.def.now c.args.rid c.args.row.now (room_of c.args.rooms.now) c.overwrite_row_of_used.result
    c.overwrite_row_of_used.ensures.overwrites c.overwrite_row_of_used.ensures.makes

pub returns-then-eq-clause-stay : goal.returns-then-eq-clause-stay
returns-then-eq-clause-stay g c owners forests st =
    keeps_but_one c.args.shape c.args.pages.now c.args.pages.now c.overwrite_row_of_used.new.pages c.args.def.now owners forests refl refl st c.args.rid.block c.overwrite_row_of_used.ensures.runs.touches

pub returns-then-eq-clause-runs : goal.returns-then-eq-clause-runs
returns-then-eq-clause-runs g c =
    runs_of_known c.args.shape c.args.pages.now c.args.def.now c.args.known c.args.rid.block (is_known c.args.known c.args.rid.block (sym c.eq.ensures ∙ c.if-eq.true)) c.overwrite_row_of_used.ensures.runs

pub returns-clause-seen : goal.returns-clause-seen
returns-clause-seen g c = on_ok_weaker c.overwrite_row.result (λ seen told. let row = seen told in (row.0, row.1.slot)) c.overwrite_row.ensures.seen

pub returns-clause-used : goal.returns-clause-used
returns-clause-used g c = on_ok_weaker c.overwrite_row.result (λ seen told unknown. (seen told).1.used) c.overwrite_row.ensures.seen

pub returns-then-eq-clause-used : goal.returns-then-eq-clause-used
returns-then-eq-clause-used g c =
    on_ok_weaker c.overwrite_row_of_used.result (λ seen told unknown. absurd (unknown (is_known c.args.known c.args.rid.block (sym c.eq.ensures ∙ c.if-eq.true)))) c.overwrite_row_of_used.ensures.seen
