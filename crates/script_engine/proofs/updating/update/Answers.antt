use Rattle.std.proofs.Common.{◌≡◌, ◌∙◌, ap, length, map, refl, rules, subst, sym, Some, None, List, []}
use Rattle.std.specs.Prelude.{IsTrue, flat_map}
use Rattle.std.specs.List.{AllByRecursion}
use Rattle.std.proofs.lemmas.List.{set-get_or}
use Rattle.std.proofs.lemmas.Result.{IfOk-weaker}
use Rattle.mdc_ast.specs.declared.bound.Bound.TheVariants as bound
use Rattle.mdc_ast.specs.declared.reply.Outcome.TheVariants as said
use Rattle.mdc_ast.specs.Database.{fits_all}
use Rattle.statement_meaning.specs.Cause.{refusal_of}
use Rattle.statement_meaning.specs.Doing.{changed_causes}
use Rattle.store_api.specs.Frame.{NoPage}
use Rattle.store_api.specs.RunsOverPages.{RunsOverPages}
use Rattle.store_api.proofs.RunsOverPagesLemmas.{runs_exit_as, runs_wider}
use Rattle.extent_map.specs.Damages.{store_part_of}
use Rattle.entry_tree.proofs.ClaimsLemmas.{if_err_by}
use Rattle.block_rows.specs.HeldRows.{HasReadValues}
use Rattle.block_rows.specs.declared.hit.Hit.{Hit}
use Rattle.free_space.specs.declared.rooms.Rooms.{Rooms}
use Rattle.binder.proofs.FirstLemmas.{first_of-nothing}
use Rattle.row_checks.specs.RowChange.{misfit_cause}
use Rattle.row_checks.specs.Served.{MaySet}
use Rattle.statement_rows.specs.RowsOfStatement.{AnyPage}
use Rattle.statement_rows.specs.Turning.{MayTurn, turned_row}
use Rattle.statement_rows.specs.declared.changing.Turned.{Turned}
use Rattle.script_engine.specs.Doing.{DoesStatement, SaysNoRow}
use Rattle.script_engine.specs.Inserting.{IsSaidFirst}
use Rattle.script_engine.specs.Ready.{BreaksDatabase}
use Rattle.script_engine.proofs.DoneRowsLemmas.{runs_change}
use Rattle.script_engine.proofs.JudgedKeysLemmas.{never_full}
use Rattle.script_engine.proofs.NotedRoomsLemmas.{room_left, room_lent, rooms_beside, table_below}
use Rattle.script_engine.proofs.ReadRowsLemmas.{may_judge_read}
use Rattle.script_engine.proofs.ReadyTablesLemmas.{served_def}
use Rattle.script_engine.proofs.ScannedTablesLemmas.{is_defined, stands_ready}
use Rattle.script_engine.proofs.ServedDefsLemmas.{none_made}
use Rattle.script_engine.proofs.TurnedKeysLemmas.{fitting_values, runs_judged}
use Rattle.script_engine.proofs.TurnedRowsLemmas.{all_may_turn, all_settable, each_hit, said_of, turned_places}
use Rattle.script_engine.proofs.UpdatedRowsLemmas.{keys_first, refused_does, row_first, silent_first, update_does, update_stops}
use Rattle.script_engine.proofs.updating.update.Given.{Over}
use Rattle.script_engine.proofs.updating.update.Goals as goal
use Rattle.script_engine.proofs.updating.update.Goals.{In-Ok, In_default-first_misfit_of_hits, In_ok-refusal}

-- ---- what is known on the way

-- nothing is said of the rows that qualify
nothing : (g : Over) (c : In_default-first_misfit_of_hits g) → flat_map (λ hit. changed_causes c.in-Some.def.now.columns c.args.sets.now None hit.row) c.in_ok-hits.hits.items ≡ []
nothing g c =
    first_of-nothing _
    (said_of c.in-Some.def.now.columns c.as_slice.result.now c.args.sets.now c.in_ok-hits.hits.items c.as_slice-2.result.now None c.as_slice.ensures c.as_slice-2.ensures.value c.in_default-first_misfit_of_hits.ensures)

-- each may be turned
may_turn : (g : Over) (c : In-Ok g) → flat_map (λ hit. changed_causes c.in-Some.def.now.columns c.args.sets.now None hit.row) c.in_ok-hits.hits.items ≡ [] → AllByRecursion (MayTurn c.in-Some.def.now) c.in-Ok.turned.items
may_turn g c silent =
    let def = c.in-Some.def.now in
    let hits : List Hit = c.in_ok-hits.hits.items in
    all_may_turn c.args.sets.now c.args.pred.now def (is_defined _ def (MaySet c.args.sets.now c.args.pred.now) c.in-Some.ensures c.requires.there)
    (none_made c.args.tables.now.catalog c.args.table def c.requires.served c.in-Some.ensures) c.in-Ok.turned.items hits c.in-Ok.ensures
    (each_hit (λ (hit : Hit). HasReadValues def.columns hit.row) hits c.in_ok-hits.ensures.keyed) c.in_ok-hits.ensures.fit silent

-- the judge of keys left the pages
still_told : (g : Over) (c : In_ok-refusal g) → (g.P.Pages.state c.judge_keys.new.pages).is_told ≡ (g.P.Pages.state c.args.pages.now).is_told
still_told g c = c.in_ok-refusal.ensures.runs.works.steady.is_told ∙ c.in_ok-hits.ensures.runs.works.steady.is_told

-- a look for equal keys, behind the scan
looked : (g : Over) (c : In_ok-refusal g) → RunsOverPages g.P.Pages NoPage AnyPage (BreaksDatabase g.P.Pages c.args.pages.now c.args.tables.now) c.args.pages.now c.judge_keys.new.pages None
looked g c =
    runs_judged g.P.Pages c.args.pages.now c.find_fitting.new.pages c.judge_keys.new.pages c.args.tables.now c.args.table c.in-Some.def.now c.requires.served c.in-Some.ensures
    c.in_ok-hits.ensures.runs.works.steady.is_told c.find_fitting.ensures.same c.in_ok-hits.ensures.runs c.in_ok-refusal.ensures.runs

-- what the judge of keys says is said first
judged : (g : Over) (c : In_ok-refusal g) → flat_map (λ hit. changed_causes c.in-Some.def.now.columns c.args.sets.now None hit.row) c.in_ok-hits.hits.items ≡ []
    → IsSaidFirst g.P.Pages c.args.pages.now c.args.tables.now (bound.Update c.args.table c.args.sets.now c.args.pred.now) c.in_ok-refusal.field-0
judged g c silent =
    keys_first g.P.Pages c.args.pages.now c.find_fitting.new.pages c.args.tables.now c.args.table c.in-Some.def.now c.args.sets.now c.args.pred.now c.in_ok-hits.hits.items c.requires.served c.in-Some.ensures
    c.in_ok-hits.ensures.runs.works.steady.is_told c.find_fitting.ensures.same c.in_ok-hits.ensures.finds c.as_slice-3.result.now (ap (map turned_row) c.as_slice-3.ensures.value ∙ c.in-Ok.ensures) silent
    c.in_ok-refusal.field-0 c.in_ok-refusal.ensures.judges

-- ---- the scan

pub find_fitting-requires-clause-defined : goal.find_fitting-requires-clause-defined
find_fitting-requires-clause-defined g c = (served_def c.args.tables.now.catalog c.args.table c.in-Some.def.now c.requires.served c.in-Some.ensures).limits

pub find_fitting-requires-clause-judged : goal.find_fitting-requires-clause-judged
find_fitting-requires-clause-judged g c row read =
    may_judge_read c.args.pred.now c.in-Some.def.now (is_defined _ c.in-Some.def.now (MaySet c.args.sets.now c.args.pred.now) c.in-Some.ensures c.requires.there).judge row read

pub returns-in_err-hits-clause-runs : goal.returns-in_err-hits-clause-runs
returns-in_err-hits-clause-runs g c =
    runs_exit_as store_part_of c.from_residual.result c.from_residual.ensures.1
    (runs_wider c.in_err-hits.ensures.runs (λ p there none. absurd none) (λ p any. any)
    (λ damage breaks ready. let st = stands_ready g.P.Pages c.args.pages.now c.args.tables.now c.args.table c.in-Some.def.now c.requires.served ready c.in-Some.ensures in breaks st.owners st.forests st.stands st.indexes))

pub returns-in-Some-first_misfit_of_hits-clause-does : goal.returns-in-Some-first_misfit_of_hits-clause-does
returns-in-Some-first_misfit_of_hits-clause-does g c =
    let cause = misfit_cause c.in-Some-first_misfit_of_hits.misfit in
    IfOk-weaker c.refused.result _ _
    (λ outcome said ready.
    subst (λ (rooms : List Rooms).
    DoesStatement g.P.Pages c.args.pages.now c.find_fitting.new.pages c.args.tables.now (record c.args.tables.now { rooms = record { by_table = rooms } })
    (bound.Update c.args.table c.args.sets.now c.args.pred.now) outcome)
    (sym (set-get_or c.args.tables.now.rooms.by_table c.args.table c.index-tables-table.result))
    (refused_does g.P.Pages c.args.pages.now c.find_fitting.new.pages c.args.tables.now c.args.table c.args.sets.now c.args.pred.now (refusal_of cause) outcome c.in_ok-hits.ensures.runs.works.steady.is_told
    c.find_fitting.ensures.same
    (row_first g.P.Pages c.args.pages.now c.find_fitting.new.pages c.args.tables.now c.args.table c.in-Some.def.now c.args.sets.now c.args.pred.now c.in_ok-hits.hits.items c.requires.served c.in-Some.ensures
    c.in_ok-hits.ensures.runs.works.steady.is_told c.find_fitting.ensures.same c.in_ok-hits.ensures.finds cause
    (said_of c.in-Some.def.now.columns c.as_slice.result.now c.args.sets.now c.in_ok-hits.hits.items c.as_slice-2.result.now (Some cause) c.as_slice.ensures c.as_slice-2.ensures.value
    c.in-Some-first_misfit_of_hits.ensures)) said ready)) c.refused.ensures.said

pub turned_rows-requires : goal.turned_rows-requires
turned_rows-requires g c = record {
  settable = all_settable c.args.sets.now c.in-Some.def.now.columns c.in_ok-hits.hits.items (is_defined _ c.in-Some.def.now (MaySet c.args.sets.now c.args.pred.now) c.in-Some.ensures c.requires.there).within c.in_ok-hits.ensures.fit
      (nothing g (goal.at.turned_rows-requires g c).In_default-first_misfit_of_hits);
}

-- ---- the judge of keys

pub judge_keys-requires-clause-defined : goal.judge_keys-requires-clause-defined
judge_keys-requires-clause-defined g c = (served_def c.args.tables.now.catalog c.args.table c.in-Some.def.now c.requires.served c.in-Some.ensures).limits

pub judge_keys-requires-clause-fit : goal.judge_keys-requires-clause-fit
judge_keys-requires-clause-fit g c =
    let at = goal.at.judge_keys-requires-clause-fit g c in
    let def = c.in-Some.def.now in
    subst (λ (items : List Turned). AllByRecursion (λ values. IsTrue (fits_all def.columns values)) (map (λ (one : Turned). one.row.values) items)) (sym c.as_slice-3.ensures.value)
    (fitting_values def c.in-Ok.turned.items (may_turn g at.In-Ok (nothing g at.In_default-first_misfit_of_hits)))

pub returns-in_err-refusal-clause-full : goal.returns-in_err-refusal-clause-full
returns-in_err-refusal-clause-full g c = if_err_by c.from_residual-in_err-refusal.result _ _ c.from_residual-in_err-refusal.ensures.1 (never_full _ _ c.in_err-refusal.ensures.not_full)

pub returns-in_err-refusal-clause-runs : goal.returns-in_err-refusal-clause-runs
returns-in_err-refusal-clause-runs g c =
    runs_exit_as store_part_of c.from_residual-in_err-refusal.result c.from_residual-in_err-refusal.ensures.1
    (runs_wider (runs_judged g.P.Pages c.args.pages.now c.find_fitting.new.pages c.judge_keys.new.pages c.args.tables.now c.args.table c.in-Some.def.now c.requires.served c.in-Some.ensures
    c.in_ok-hits.ensures.runs.works.steady.is_told c.find_fitting.ensures.same c.in_ok-hits.ensures.runs c.in_err-refusal.ensures.runs) (λ p there none. absurd none) (λ p any. any) (λ damage breaks. breaks))

pub returns-in-Some-2-clause-does : goal.returns-in-Some-2-clause-does
returns-in-Some-2-clause-does g c ready =
    let at = goal.at.returns-in-Some-2-clause-does g c in
    let statement = bound.Update c.args.table c.args.sets.now c.args.pred.now in
    subst (λ (rooms : List Rooms).
    DoesStatement g.P.Pages c.args.pages.now c.judge_keys.new.pages c.args.tables.now (record c.args.tables.now { rooms = record { by_table = rooms } }) statement (said.Refused c.in-Some-2.refusal))
    (sym (set-get_or c.args.tables.now.rooms.by_table c.args.table c.index-tables-table.result))
    (refused_does g.P.Pages c.args.pages.now c.judge_keys.new.pages c.args.tables.now c.args.table c.args.sets.now c.args.pred.now c.in-Some-2.refusal _ (still_told g at.In_ok-refusal)
    (c.judge_keys.ensures.same ∙ c.find_fitting.ensures.same)
    (λ is_ready db stands. judged g at.In_ok-refusal (nothing g at.In_default-first_misfit_of_hits) is_ready db stands ∙ c.in-Some-2.is) refl ready)

pub returns-in-Some-2-clause-runs : goal.returns-in-Some-2-clause-runs
returns-in-Some-2-clause-runs g c = runs_wider (looked g (goal.at.returns-in-Some-2-clause-runs g c).In_ok-refusal) (λ p there none. absurd none) (λ p any. any) (λ damage breaks. breaks)

-- ---- the change

pub change_rows-requires-clause-defined : goal.change_rows-requires-clause-defined
change_rows-requires-clause-defined g c = (served_def c.args.tables.now.catalog c.args.table c.in-Some.def.now c.requires.served c.in-Some.ensures).limits

pub change_rows-requires-clause-may : goal.change_rows-requires-clause-may
change_rows-requires-clause-may g c =
    let at = goal.at.change_rows-requires-clause-may g c in
    subst (AllByRecursion (MayTurn c.in-Some.def.now)) (sym c.as_slice-4.ensures.value) (may_turn g at.In-Ok (nothing g at.In_default-first_misfit_of_hits))

pub returns-in_err-change_rows-clause-full : goal.returns-in_err-change_rows-clause-full
returns-in_err-change_rows-clause-full g c =
    let at = goal.at.returns-in_err-change_rows-clause-full g c in
    let long : length c.args.tables.now.rooms.by_table ≡ 16 = search rules in
    let low = table_below c.args.tables.now.catalog c.args.tables.now.rooms.by_table c.args.table c.in-Some.def.now c.requires.served c.in-Some.ensures long in
    let lent = room_lent c.args.tables.now.rooms.by_table c.args.table c.index-tables-table.result low in
    if_err_by c.from_residual-in_err-change_rows.result _ _ c.from_residual-in_err-change_rows.ensures.1
    (update_stops g.P.Pages c.args.pages.now c.judge_keys.new.pages c.change_rows.new.pages c.args.tables.now c.args.tables.now c.args.table c.in-Some.def.now c.args.sets.now c.args.pred.now c.in_ok-hits.hits.items
    c.as_slice-4.result.now c.requires.served c.in-Some.ensures lent (still_told g at.In_ok-refusal) (c.judge_keys.ensures.same ∙ c.find_fitting.ensures.same) c.in_ok-hits.ensures.finds
    (ap (map turned_row) c.as_slice-4.ensures.value ∙ c.in-Ok.ensures)
    (silent_first g.P.Pages c.args.pages.now c.args.tables.now (bound.Update c.args.table c.args.sets.now c.args.pred.now) c.in_ok-refusal.field-0 c.in_default-2.is
    (judged g at.In_ok-refusal (nothing g at.In_default-first_misfit_of_hits))) _ c.in_err-change_rows.ensures.full)

pub returns-in_err-change_rows-clause-runs : goal.returns-in_err-change_rows-clause-runs
returns-in_err-change_rows-clause-runs g c =
    let at = goal.at.returns-in_err-change_rows-clause-runs g c in
    let long : length c.args.tables.now.rooms.by_table ≡ 16 = search rules in
    let low = table_below c.args.tables.now.catalog c.args.tables.now.rooms.by_table c.args.table c.in-Some.def.now c.requires.served c.in-Some.ensures long in
    let lent = room_lent c.args.tables.now.rooms.by_table c.args.table c.index-tables-table.result low in
    runs_exit_as store_part_of c.from_residual-in_err-change_rows.result c.from_residual-in_err-change_rows.ensures.1
    (runs_change g.P.Pages c.args.pages.now c.judge_keys.new.pages c.change_rows.new.pages c.args.tables.now c.args.tables.now c.args.table c.in-Some.def.now c.requires.served c.in-Some.ensures lent
    (still_told g at.In_ok-refusal) (c.judge_keys.ensures.same ∙ c.find_fitting.ensures.same) c.args.pred.now c.in_ok-hits.hits.items (map (λ (t : Turned). (turned_row t).0) c.as_slice-4.result.now)
    (turned_places c.args.sets.now c.as_slice-4.result.now c.in_ok-hits.hits.items (ap (map turned_row) c.as_slice-4.ensures.value ∙ c.in-Ok.ensures)) c.in_ok-hits.ensures.finds (looked g at.In_ok-refusal)
    c.in_err-change_rows.ensures.runs)

pub returns-clause-does : goal.returns-clause-does
returns-clause-does g c ready =
    let at = goal.at.returns-clause-does g c in
    let long : length c.args.tables.now.rooms.by_table ≡ 16 = search rules in
    let low = table_below c.args.tables.now.catalog c.args.tables.now.rooms.by_table c.args.table c.in-Some.def.now c.requires.served c.in-Some.ensures long in
    let lent = room_lent c.args.tables.now.rooms.by_table c.args.table c.index-tables-table.result low in
    let left = room_left c.args.tables.now.rooms.by_table c.args.table c.change_rows.new.rooms low in
    update_does g.P.Pages c.args.pages.now c.judge_keys.new.pages c.change_rows.new.pages c.args.tables.now _ c.args.table c.in-Some.def.now c.args.sets.now c.args.pred.now c.in_ok-hits.hits.items c.as_slice-4.result.now
    c.requires.served c.in-Some.ensures lent (still_told g at.In_ok-refusal) (c.judge_keys.ensures.same ∙ c.find_fitting.ensures.same) c.in_ok-hits.ensures.finds (ap (map turned_row) c.as_slice-4.ensures.value ∙ c.in-Ok.ensures)
    (silent_first g.P.Pages c.args.pages.now c.args.tables.now (bound.Update c.args.table c.args.sets.now c.args.pred.now) c.in_ok-refusal.field-0 c.in_default-2.is
    (judged g at.In_ok-refusal (nothing g at.In_default-first_misfit_of_hits))) _ left
    (c.len.ensures ∙ sym c.as_slice-4.ensures.len) c.in_ok-change_rows.ensures.changes refl refl (rooms_beside c.args.tables.now.rooms.by_table c.args.table c.change_rows.new.rooms) ready

pub returns-clause-runs : goal.returns-clause-runs
returns-clause-runs g c =
    let at = goal.at.returns-clause-runs g c in
    let long : length c.args.tables.now.rooms.by_table ≡ 16 = search rules in
    let low = table_below c.args.tables.now.catalog c.args.tables.now.rooms.by_table c.args.table c.in-Some.def.now c.requires.served c.in-Some.ensures long in
    let lent = room_lent c.args.tables.now.rooms.by_table c.args.table c.index-tables-table.result low in
    runs_change g.P.Pages c.args.pages.now c.judge_keys.new.pages c.change_rows.new.pages c.args.tables.now c.args.tables.now c.args.table c.in-Some.def.now c.requires.served c.in-Some.ensures lent
    (still_told g at.In_ok-refusal) (c.judge_keys.ensures.same ∙ c.find_fitting.ensures.same) c.args.pred.now c.in_ok-hits.hits.items (map (λ (t : Turned). (turned_row t).0) c.as_slice-4.result.now)
    (turned_places c.args.sets.now c.as_slice-4.result.now c.in_ok-hits.hits.items (ap (map turned_row) c.as_slice-4.ensures.value ∙ c.in-Ok.ensures)) c.in_ok-hits.ensures.finds (looked g at.In_ok-refusal)
    c.in_ok-change_rows.ensures.runs

-- ---- no row

pub returns-in-Some-first_misfit_of_hits-clause-idle : goal.returns-in-Some-first_misfit_of_hits-clause-idle
returns-in-Some-first_misfit_of_hits-clause-idle g c = IfOk-weaker c.refused.result _ _ (λ outcome said none. absurd (subst SaysNoRow said none)) c.refused.ensures.said

pub returns-clause-idle : goal.returns-clause-idle
returns-clause-idle g c none = record {
  pages = c.change_rows.ensures.idle (sym (c.len.ensures ∙ sym c.as_slice-4.ensures.len) ∙ none) ∙ (c.judge_keys.ensures.same ∙ c.find_fitting.ensures.same);
  catalog = refl;
}
