use Rattle.std.proofs.lemmas.Result.{IfErr-weaker, IfOk-weaker}
use Rattle.store_api.proofs.RunsOverPagesLemmas.{runs_exit_as}
use Rattle.extent_map.specs.Damages.{store_part_of}
use Rattle.mdc_sound.specs.StandingTable.{StandsTable}
use Rattle.row_entries.proofs.RowKeysLemmas.{keys_of_fitting_row, keys_of_read_row}
use Rattle.free_space.specs.RoomNotes.{room_of}
use Rattle.mdc_table.specs.RowSteps.{OverwritesRowInTable}
use Rattle.mdc_table.specs.WhereStanding.{WhereStandsWithRow}
use Rattle.cell_change.proofs.ChangedRowLemmas.{full_as}
use Rattle.cell_change.proofs.ChangedSpaceLemmas.{if_ok_both}
use Rattle.cell_change.proofs.RewritingRowsLemmas.{rewrites, rewriting_full, runs_rewriting, runs_rewritten}
use Rattle.cell_change.proofs.rewriting.rewrite_row.Given.{Over}
use Rattle.cell_change.proofs.rewriting.rewrite_row.Goals as goal

pub returns-in_err-overwrite_row-clause-runs : goal.returns-in_err-overwrite_row-clause-runs
returns-in_err-overwrite_row-clause-runs g c =
    runs_exit_as store_part_of c.from_residual.result c.from_residual.ensures.1
    (runs_rewriting g.P.Pages c.args.shape c.args.pages.now c.args.def.now c.args.rid c.args.was.now c.in_err-overwrite_row.ensures.runs)

pub renew_row-requires-clause-was : goal.renew_row-requires-clause-was
renew_row-requires-clause-was g c = keys_of_read_row c.args.def.now c.args.was.now c.requires.defined c.requires.was.each

pub renew_row-requires-clause-is : goal.renew_row-requires-clause-is
renew_row-requires-clause-is g c = keys_of_fitting_row c.args.def.now c.args.is.now c.requires.defined c.requires.fits

-- the other row was written over this one
wrote_over : (g : Over) (c : goal.After-renew_row g)
    → WhereStandsWithRow g.P.Pages c.args.shape c.args.pages.now c.args.def.now c.args.rid c.args.was.now
    (OverwritesRowInTable g.P.Pages c.args.shape (room_of c.args.rooms.now) c.args.pages.now c.overwrite_row.new.pages c.args.def.now c.args.was.now c.args.is.now c.args.rid)
wrote_over g c = c.in_ok-overwrite_row.ensures.overwrites c.args.was.now

-- after which the table stands
stands_over : (g : Over) (c : goal.After-renew_row g)
    → WhereStandsWithRow g.P.Pages c.args.shape c.args.pages.now c.args.def.now c.args.rid c.args.was.now (StandsTable g.P.Pages c.args.shape c.overwrite_row.new.pages c.args.def.now)
stands_over g c owners forests st has = ((wrote_over g c owners forests st has).leaves c.requires.one_cell c.args.notes.now).stands

pub returns-clause-changes : goal.returns-clause-changes
returns-clause-changes g c =
    if_ok_both c.renew_row.result _ _ _ (λ done renews makes owners forests ready has.
    let stands = stands_over g c owners forests ready.stands has in
    rewrites g.P.Pages c.args.shape c.args.pages.now c.overwrite_row.new.pages c.args.def.now c.args.was.now c.args.is.now c.args.rid owners forests ready c.requires.one_cell
    (wrote_over g c owners forests ready.stands has) c.renew_row.new.pages (renews owners forests stands) c.in_ok-overwrite_row.ensures.runs.works.no_shorter c.renew_row.ensures.runs.works.no_shorter
    (makes owners forests stands ready.notes) (c.in_ok-overwrite_row.ensures.stay owners forests ready.stands))
    c.renew_row.ensures.renews c.renew_row.ensures.makes

pub returns-clause-seen : goal.returns-clause-seen
returns-clause-seen g c = IfOk-weaker c.renew_row.result _ _ (λ done renews told. c.in_ok-overwrite_row.ensures.seen told) c.renew_row.ensures.renews

pub returns-clause-full : goal.returns-clause-full
returns-clause-full g c =
    IfErr-weaker c.renew_row.result _ _ (λ fault. full_as fault _ _ (λ cap full. (
      full.0,
      λ owners forests ready has.
          rewriting_full g.P.Pages c.args.shape c.args.pages.now c.overwrite_row.new.pages c.args.def.now c.args.was.now c.args.is.now c.args.rid owners forests ready c.requires.one_cell
          (wrote_over g c owners forests ready.stands has) (full.1 owners forests (stands_over g c owners forests ready.stands has) ready.notes),
    )))
    c.renew_row.ensures.full

pub returns-clause-runs : goal.returns-clause-runs
returns-clause-runs g c =
    runs_rewritten g.P.Pages c.args.shape c.args.pages.now c.args.def.now c.args.rid c.args.was.now c.overwrite_row.new.pages c.args.is.now c.requires.defined
    (keys_of_read_row c.args.def.now c.args.was.now c.requires.defined c.requires.was.each) (keys_of_fitting_row c.args.def.now c.args.is.now c.requires.defined c.requires.fits) (stands_over g c)
    c.in_ok-overwrite_row.ensures.runs c.renew_row.ensures.runs
