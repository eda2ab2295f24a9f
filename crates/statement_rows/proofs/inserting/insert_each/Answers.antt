use Rattle.std.proofs.Common.{◌≡◌, ◌+◌, ◌∙◌, [], ◌∷◌, None, length, refl, ap, arith, sym, subst}
use Rattle.std.specs.List.{AllByRecursion}
use Rattle.std.specs.Vec.Iter.{into_iter_items}
use Rattle.std.proofs.lemmas.List.{nil_from_length}
use Rattle.store_api.proofs.RunsOverPagesLemmas.{runs_exit_as, runs_none}
use Rattle.extent_map.specs.Damages.{store_part_of}
use Rattle.entry_tree.proofs.ClaimsLemmas.{if_err_by}
use Rattle.mdc_ast.specs.Database.{numbered}
use Rattle.mdc_ast.specs.FittingRows.{RowFits}
use Rattle.free_space.specs.RoomNotes.{room_of}
use Rattle.cell_change.proofs.ChangedRowLemmas.{full_as}
use Rattle.statement_rows.proofs.InsertingRowsLemmas.{InsertsOn, inserts_all, inserts_none}
use Rattle.statement_rows.proofs.InsertingStepsLemmas.{fits_on, number_on, raised_on, row_full, row_in, row_run}
use Rattle.statement_rows.proofs.inserting.insert_each.Goals as goal

pub loop-values-init : goal.loop-values-init
loop-values-init g c =
    let same : into_iter_items c.into_iter-values-iterator.result ≡ c.args.tuples = c.into_iter-values-iterator.ensures.into_iter_gives.0 ∙ c.into_vec-values-items.ensures in
    record {
      inserts = λ owners forests ready.
          subst (λ items. InsertsOn g.P.Pages c.args.shape c.args.notes.now c.args.notes.now (room_of c.args.rooms.now) c.args.pages.now c.args.pages.now c.args.def.now c.args.def.now c.args.tuples items owners forests) (sym same)
          (inserts_none g.P.Pages c.args.shape c.args.notes.now (room_of c.args.rooms.now) c.args.pages.now c.args.def.now c.args.tuples owners forests ready);
      fit = subst (λ items. AllByRecursion (RowFits c.args.def.now) (numbered c.args.def.now.next items)) (sym same) c.requires.fit;
      number = ap (λ items. c.args.def.now.next + length items) same;
      raised = refl;
      runs = runs_none;
    }

pub returns-in_err-insert_row-clause-full : goal.returns-in_err-insert_row-clause-full
returns-in_err-insert_row-clause-full g c =
    let fault = c.in_err-insert_row.field-0.0 in
    let so_far = c.loop-values.invariant in
    if_err_by c.from_residual.result fault _ c.from_residual.ensures.1
    (full_as fault _ _
    (row_full g.P.Pages c.args.shape c.args.notes.now c.loop-values.notes (room_of c.args.rooms.now) (room_of c.loop-values.rooms) c.args.pages.now c.loop-values.pages c.args.def.now c.loop-values.def c.args.tuples
    (into_iter_items c.loop-values.values-iterator) c.in-Some.values (into_iter_items c.next.new.self) c.in-Some.ensures.steps.0 so_far.inserts)
    c.in_err-insert_row.ensures.full)

pub returns-in_err-insert_row-clause-runs : goal.returns-in_err-insert_row-clause-runs
returns-in_err-insert_row-clause-runs g c =
    let so_far = c.loop-values.invariant in
    runs_exit_as store_part_of c.from_residual.result c.from_residual.ensures.1
    (row_run g.P.Pages c.args.shape c.args.notes.now c.loop-values.notes (room_of c.args.rooms.now) (room_of c.loop-values.rooms) c.args.pages.now c.loop-values.pages c.args.def.now c.loop-values.def c.args.tuples
    (into_iter_items c.loop-values.values-iterator) c.in-Some.values (into_iter_items c.next.new.self) c.in-Some.ensures.steps.0 so_far.inserts c.insert_row.new.pages
    (store_part_of c.in_err-insert_row.field-0.0) so_far.raised so_far.runs c.in_err-insert_row.ensures.runs)

pub loop-values-preserved : goal.loop-values-preserved
loop-values-preserved g c =
    let so_far = c.loop-values.invariant in
    let said = c.in_ok-insert_row.ensures in
    let split : into_iter_items c.loop-values.values-iterator ≡ c.in-Some.values ∷ into_iter_items c.next.new.self = c.in-Some.ensures.steps.0 in
    record {
      inserts = row_in g.P.Pages c.args.shape c.args.notes.now c.loop-values.notes (room_of c.args.rooms.now) (room_of c.loop-values.rooms) c.args.pages.now c.loop-values.pages c.args.def.now c.loop-values.def c.args.tuples
          (into_iter_items c.loop-values.values-iterator) c.in-Some.values (into_iter_items c.next.new.self) split so_far.inserts c.insert_row.new.notes (room_of c.insert_row.new.rooms) c.insert_row.new.pages
          c.insert_row.new.def c.in_ok-insert_row.field-0 said.next said.inserts said.runs.works said.runs.touches;
      fit = fits_on c.args.def.now c.loop-values.def c.insert_row.new.def (into_iter_items c.loop-values.values-iterator) (into_iter_items c.next.new.self) c.in-Some.values said.next split so_far.fit;
      number = number_on (c.args.def.now.next + length c.args.tuples) c.loop-values.def c.insert_row.new.def (into_iter_items c.loop-values.values-iterator) (into_iter_items c.next.new.self) c.in-Some.values said.next split so_far.number;
      raised = raised_on c.args.def.now c.loop-values.def c.insert_row.new.def so_far.raised said.next;
      runs = row_run g.P.Pages c.args.shape c.args.notes.now c.loop-values.notes (room_of c.args.rooms.now) (room_of c.loop-values.rooms) c.args.pages.now c.loop-values.pages c.args.def.now c.loop-values.def c.args.tuples
          (into_iter_items c.loop-values.values-iterator) c.in-Some.values (into_iter_items c.next.new.self) split so_far.inserts c.insert_row.new.pages None so_far.raised so_far.runs said.runs;
    }

pub returns-clause-inserts : goal.returns-clause-inserts
returns-clause-inserts g c owners forests ready =
    let none : into_iter_items c.loop-values.values-iterator ≡ [] = nil_from_length (into_iter_items c.loop-values.values-iterator) (omega (arith, c.in-None.ensures.steps.0, c.loop-values.values-iterator.rest.ok.0)) in
    let on = subst (λ items. InsertsOn g.P.Pages c.args.shape c.args.notes.now c.loop-values.notes (room_of c.loop-values.rooms) c.args.pages.now c.loop-values.pages c.args.def.now c.loop-values.def c.args.tuples items owners forests) none
    (c.loop-values.invariant.inserts owners forests ready) in
    inserts_all g.P.Pages c.args.shape c.args.notes.now c.loop-values.notes (room_of c.loop-values.rooms) c.args.pages.now c.loop-values.pages c.args.def.now c.loop-values.def c.args.tuples owners forests on
