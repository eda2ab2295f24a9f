use Rattle.std.proofs.Common.{◌∙◌, None, Option, Some, ap, length, refl, subst, sym}
use Rattle.std.specs.Prelude.{IsTrue, nat_lt}
use Rattle.std.proofs.lemmas.Result.{IfOk-weaker, on_ok_weaker}
use Rattle.mdc_ast.specs.declared.predicate.Pred.{Pred}
use Rattle.store_api.proofs.RunsOverPagesLemmas.{runs_exit}
use Rattle.row_filter.specs.Filtering.{may_filter}
use Rattle.block_rows.specs.Giving.{WasGiven}
use Rattle.block_rows.specs.HeldRows.{qualifying}
use Rattle.mdc_sound.specs.StandingTable.{pages_of}
use Rattle.mdc_sound.specs.TableRows.{rows_in_table}
use Rattle.row_entries.specs.SoundEntries.{HasSoundIndexes}
use Rattle.block_lists.specs.Parts.{AreSlots}
use Rattle.executor.specs.PartRows.{rows_in_part}
use Rattle.executor.specs.SeenParts.{HasSeenOf}
use Rattle.executor.proofs.ListedRowsLemmas.{listed_runs, runs_expected}
use Rattle.executor.proofs.StandingPartsLemmas.{rows_of_listed, rows_of_whole, whole_has_row}
use Rattle.executor.proofs.parts.scan_part.Goals as goal

pub scan_slots-requires-clause-judged : goal.scan_slots-requires-clause-judged
scan_slots-requires-clause-judged g c row read = subst (λ (pred : Option Pred). IsTrue (may_filter pred row.values)) (sym c.requires.judges.whole_is) (c.requires.judged row read)

pub returns-in-Some-clause-given : goal.returns-in-Some-clause-given
returns-in-Some-clause-given g c =
    on_ok_weaker c.scan_slots.result
    (λ said owners forests st.
    let rows = rows_of_listed c.args.shape c.args.pages.now c.args.def.now owners forests st c.args.part c.as_slice.result.now (ap Some c.as_slice.ensures.value ∙ sym c.in-Some.is) in
    subst (λ (pred : Option Pred). WasGiven g.K.RowSink c.args.settled.now.sink.now c.scan_slots.new.sink (qualifying pred (rows_in_part (rows_in_table c.args.shape (pages_of g.P.Pages c.args.pages.now) c.args.def.now forests.map) c.args.part)))
    c.requires.judges.whole_is
    (subst (λ rows. WasGiven g.K.RowSink c.args.settled.now.sink.now c.scan_slots.new.sink (qualifying c.args.judges.now.whole.pred.now rows)) (sym rows) (said owners forests st))) c.scan_slots.ensures.given

pub returns-in-Some-clause-some : goal.returns-in-Some-clause-some
returns-in-Some-clause-some g c =
    IfOk-weaker c.scan_slots.result _ _
    (λ some said owners forests st.
    said owners forests st
    ∙ ap (λ rows. nat_lt 0 (length rows))
    (sym (rows_of_listed c.args.shape c.args.pages.now c.args.def.now owners forests st c.args.part c.as_slice.result.now (ap Some c.as_slice.ensures.value ∙ sym c.in-Some.is)))) c.scan_slots.ensures.some

pub returns-in-Some-clause-seen : goal.returns-in-Some-clause-seen
returns-in-Some-clause-seen g c =
    on_ok_weaker c.scan_slots.result
    (λ said told. subst (HasSeenOf g.P.Pages c.args.shape c.args.pages.now c.args.def.now c.args.part.block) (ap Some c.as_slice.ensures.value ∙ sym c.in-Some.is) (said told)) c.scan_slots.ensures.seen

pub returns-in-Some-clause-judges : goal.returns-in-Some-clause-judges
returns-in-Some-clause-judges g c =
    let judges = c.requires.judges in
    on_ok_weaker c.scan_slots.result
    (λ said. record {
      are = judges.are;
      places = judges.places;
      whole_wide = judges.whole_wide ∙ sym c.scan_slots.ensures.width;
      whole_is = c.scan_slots.ensures.pred ∙ judges.whole_is;
      every_wide = judges.every_wide;
      every_is = judges.every_is;
    }) c.scan_slots.ensures.fits

pub returns-in-Some-clause-settling : goal.returns-in-Some-clause-settling
returns-in-Some-clause-settling g c =
    let settling = c.requires.settling in
    on_ok_weaker c.scan_slots.result (λ fits. record { def_is = settling.def_is; pred_is = refl; name_is = refl; fits = fits; wide = settling.wide; left = settling.left }) c.scan_slots.ensures.fits

pub returns-in-Some-clause-runs : goal.returns-in-Some-clause-runs
returns-in-Some-clause-runs g c =
    listed_runs c.args.shape c.args.def.now c.args.part c.as_slice.result.now (c.in-Some.is ∙ sym (ap Some c.as_slice.ensures.value)) (subst AreSlots (c.in-Some.is ∙ sym (ap Some c.as_slice.ensures.value)) c.requires.slots).1 c.requires.lies c.scan_slots.ensures.runs

pub returns-clause-given : goal.returns-clause-given
returns-clause-given g c owners forests st =
    let used = c.requires.used c.in-None.is owners forests st in
    subst (λ rows. WasGiven g.K.RowSink c.args.settled.now.sink.now c.scan_whole.new.settled.sink.now (qualifying c.args.settled.now.pred.now rows))
    (sym (rows_of_whole c.args.shape c.args.pages.now c.args.def.now owners forests st c.args.part (sym c.in-None.is) used)) (c.in_ok-scan_whole-in-None.ensures.given owners forests st)

pub returns-clause-some : goal.returns-clause-some
returns-clause-some g c owners forests st =
    whole_has_row c.args.shape c.args.pages.now c.args.def.now owners forests st c.args.part (sym c.in-None.is) (c.requires.used c.in-None.is owners forests st)

pub returns-clause-seen : goal.returns-clause-seen
returns-clause-seen g c told =
    subst (HasSeenOf g.P.Pages c.args.shape c.args.pages.now c.args.def.now c.args.part.block) (sym c.in-None.is) (c.in_ok-scan_whole-in-None.ensures.seen told)

pub returns-clause-runs : goal.returns-clause-runs
returns-clause-runs g c = runs_expected {fault = None} c.args.shape c.args.def.now (HasSoundIndexes g.P.Pages c.args.shape c.args.pages.now c.args.def.now) c.in_ok-scan_whole-in-None.ensures.runs

pub returns-in_err-scan_whole-in-None-clause-runs : goal.returns-in_err-scan_whole-in-None-clause-runs
returns-in_err-scan_whole-in-None-clause-runs g c =
    runs_exit c.from_residual.result c.from_residual.ensures.1
    (runs_expected {fault = Some c.in_err-scan_whole-in-None.field-0.0} c.args.shape c.args.def.now (HasSoundIndexes g.P.Pages c.args.shape c.args.pages.now c.args.def.now) c.in_err-scan_whole-in-None.ensures.runs)
