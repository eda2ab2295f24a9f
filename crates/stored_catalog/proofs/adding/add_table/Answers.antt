use Rattle.std.proofs.Common.{◌≡◌, ◌<◌, ◌+◌, Some, IfSome, inl, inr, sym, ap, ◌∙◌, subst}
use Rattle.store_api.proofs.RunsOverPagesLemmas.{runs_exit_as, runs_wider}
use Rattle.mdc_ast.specs.declared.definition.TableDef.{TableDef}
use Rattle.mdc_ast.specs.Database.{with_place}
use Rattle.store_api.specs.Frame.{Touches}
use Rattle.store_api.specs.StoreState.{zero_page}
use Rattle.extent_map.specs.Damages.{IfFull, store_part_of}
use Rattle.extent_map.specs.Map.{HoldsMap}
use Rattle.extent_map.specs.Owners.{AreRightNotes}
use Rattle.extent_map.proofs.ClaimsLemmas.{on_err}
use Rattle.entry_tree.proofs.ClaimsLemmas.{if_err_by}
use Rattle.table_page.specs.TablePage.{table_page}
use Rattle.mdc_sound.specs.RunningFull.{CreateRunsFull}
use Rattle.mdc_sound.specs.StandsForDatabase.{PagesStandFor}
use Rattle.mdc_sound.specs.TablePages.{table_page_at}
use Rattle.stored_catalog.specs.TableSteps.{AddsTable, IsNameFree, plain_empty}
use Rattle.stored_catalog.specs.TreeRuns.{IsMakingPage}
use Rattle.stored_catalog.proofs.EnteringLemmas.{after_is, empty_place_below, empty_place_zero, final_is, found_is, found_new, found_number, limits_kept, made_there, name_free, none_taken, stored_kept}
use Rattle.stored_catalog.proofs.MakingTreesLemmas.{map_tells}
use Rattle.stored_catalog.proofs.adding.add_table.Goals as goal

pub take-requires : goal.take-requires
take-requires g c = empty_place_below c.args.catalog.now c.enter-place.result c.requires.catalog c.enter-place.ensures.lowest

pub unreachable-requires : goal.unreachable-requires
unreachable-requires g c = none_taken c.args.catalog.now c.enter-place.new.self c.enter-place.result c.args.def c.take.result c.enter-place.ensures.lowest c.enter-place.ensures.entered c.take.ensures.taken c.in_default.is

pub make_table-requires-clause-place : goal.make_table-requires-clause-place
make_table-requires-clause-place g c =
    subst (λ t. t < 16) (sym (found_number c.args.catalog.now c.enter-place.new.self c.take.new.self c.enter-place.result c.args.def c.in-Some.def
    (record { lowest = c.enter-place.ensures.lowest; put = c.enter-place.ensures.entered; taken = c.in-Some.ensures.taken; left = c.in-Some.ensures.left })))
    (empty_place_below c.args.catalog.now c.enter-place.result c.requires.catalog c.enter-place.ensures.lowest)

pub make_table-requires-clause-limits : goal.make_table-requires-clause-limits
make_table-requires-clause-limits g c =
    found_new c.args.catalog.now c.enter-place.new.self c.take.new.self c.enter-place.result c.args.def c.in-Some.def
    (record { lowest = c.enter-place.ensures.lowest; put = c.enter-place.ensures.entered; taken = c.in-Some.ensures.taken; left = c.in-Some.ensures.left }) c.requires.limits

pub returns-in_err-make_table-clause-kept : goal.returns-in_err-make_table-clause-kept
returns-in_err-make_table-clause-kept g c =
    on_err c.from_residual.result (after_is c.args.catalog.now c.enter-place.new.self c.take.new.self c.enter-place.result c.args.def c.in-Some.def
    (record { lowest = c.enter-place.ensures.lowest; put = c.enter-place.ensures.entered; taken = c.in-Some.ensures.taken; left = c.in-Some.ensures.left }))

pub returns-in_err-make_table-clause-full : goal.returns-in_err-make_table-clause-full
returns-in_err-make_table-clause-full g c =
    let found = found_is c.args.catalog.now c.enter-place.new.self c.take.new.self c.enter-place.result c.args.def c.in-Some.def
    (record { lowest = c.enter-place.ensures.lowest; put = c.enter-place.ensures.entered; taken = c.in-Some.ensures.taken; left = c.in-Some.ensures.left }) in
    if_err_by c.from_residual.result c.in_err-make_table.field-0.0 _ c.from_residual.ensures.1
    (subst (λ (d : TableDef). IfFull c.in_err-make_table.field-0.0 (λ cap. (cap ≡ c.args.shape.extents) × ((owners : _) → HoldsMap g.P.Pages c.args.shape c.args.pages.now owners → AreRightNotes c.args.shape c.args.notes.now owners
    → CreateRunsFull c.args.shape (g.P.Pages.state c.args.pages.now).work d))) found c.in_err-make_table.ensures.full)

pub returns-in_err-make_table-clause-runs : goal.returns-in_err-make_table-clause-runs
returns-in_err-make_table-clause-runs g c =
    let number = found_number c.args.catalog.now c.enter-place.new.self c.take.new.self c.enter-place.result c.args.def c.in-Some.def
    (record { lowest = c.enter-place.ensures.lowest; put = c.enter-place.ensures.entered; taken = c.in-Some.ensures.taken; left = c.in-Some.ensures.left }) in
    runs_exit_as store_part_of c.from_residual.result c.from_residual.ensures.1
    (runs_wider c.in_err-make_table.ensures.runs
    (λ p there mine. elim mine [ inl own ↦ inl (c.enter-place.result, c.enter-place.ensures.lowest, own ∙ ap (λ t. 1 + t) number) | inr space ↦ inr space ]) (λ p space. space) (λ damage breaks. breaks))

pub put-requires : goal.put-requires
put-requires g c = (
  empty_place_below c.args.catalog.now c.enter-place.result c.requires.catalog c.enter-place.ensures.lowest,
  ap (λ (d : TableDef). d.number) c.in_ok-make_table.ensures.rooted ∙ found_number c.args.catalog.now c.enter-place.new.self c.take.new.self c.enter-place.result c.args.def c.in-Some.def
      (record { lowest = c.enter-place.ensures.lowest; put = c.enter-place.ensures.entered; taken = c.in-Some.ensures.taken; left = c.in-Some.ensures.left }),
)

pub returns-clause-entered : goal.returns-clause-entered
returns-clause-entered g c = (
  c.make_table.new.def.roots,
  final_is c.args.catalog.now c.enter-place.new.self c.take.new.self c.enter-place.result c.args.def c.in-Some.def
      (record { lowest = c.enter-place.ensures.lowest; put = c.enter-place.ensures.entered; taken = c.in-Some.ensures.taken; left = c.in-Some.ensures.left })
      c.make_table.new.def c.put.new.self c.in_ok-make_table.ensures.rooted c.put.ensures,
)

pub returns-clause-limits : goal.returns-clause-limits
returns-clause-limits g c =
    limits_kept c.args.catalog.now c.enter-place.new.self c.take.new.self c.enter-place.result c.args.def c.in-Some.def
    (record { lowest = c.enter-place.ensures.lowest; put = c.enter-place.ensures.entered; taken = c.in-Some.ensures.taken; left = c.in-Some.ensures.left })
    c.make_table.new.def c.put.new.self c.in_ok-make_table.ensures.rooted c.put.ensures c.requires.limits c.in_ok-make_table.ensures.roots c.requires.catalog

pub returns-clause-stored : goal.returns-clause-stored
returns-clause-stored g c owners held stored =
    let number = found_number c.args.catalog.now c.enter-place.new.self c.take.new.self c.enter-place.result c.args.def c.in-Some.def
    (record { lowest = c.enter-place.ensures.lowest; put = c.enter-place.ensures.entered; taken = c.in-Some.ensures.taken; left = c.in-Some.ensures.left }) in
    let made = c.in_ok-make_table.ensures in
    stored_kept c.args.catalog.now c.enter-place.new.self c.take.new.self c.enter-place.result c.args.def c.in-Some.def
    (record { lowest = c.enter-place.ensures.lowest; put = c.enter-place.ensures.entered; taken = c.in-Some.ensures.taken; left = c.in-Some.ensures.left })
    c.make_table.new.def c.put.new.self made.rooted c.put.ensures g.P.Pages c.args.shape c.args.pages.now c.make_table.new.pages owners held
    (subst (λ t. Touches g.P.Pages (IsMakingPage g.P.Pages c.args.shape c.args.pages.now t) c.args.pages.now c.make_table.new.pages) number made.runs.touches) c.requires.limits made.roots stored
    (subst (λ t. table_page_at (g.P.Pages.state c.make_table.new.pages).work t ≡ table_page c.make_table.new.def) number (made.writes (map_tells g.P.Pages c.args.shape c.args.pages.now owners held)))

pub returns-clause-adds : goal.returns-clause-adds
returns-clause-adds g c told stored view keeps =
    let found = found_is c.args.catalog.now c.enter-place.new.self c.take.new.self c.enter-place.result c.args.def c.in-Some.def
    (record { lowest = c.enter-place.ensures.lowest; put = c.enter-place.ensures.entered; taken = c.in-Some.ensures.taken; left = c.in-Some.ensures.left }) in
    let pages = (g.P.Pages.state c.args.pages.now).work in
    let zeros = subst (λ (d : TableDef). table_page_at pages d.number ≡ zero_page) (sym found) (empty_place_zero pages c.args.catalog.now c.enter-place.result stored c.enter-place.ensures.lowest).1 in
    let free = subst (λ (d : TableDef). IsNameFree view d.name) (sym found) (name_free c.args.shape pages view c.args.catalog.now c.args.def.name keeps stored c.requires.free) in
    subst (λ place. IfSome place (λ now. AddsTable c.args.shape c.args.notes.now c.make_table.new.notes pages (g.P.Pages.state c.make_table.new.pages).work now view))
    (made_there c.args.catalog.now c.enter-place.new.self c.take.new.self c.enter-place.result c.args.def c.in-Some.def
    (record { lowest = c.enter-place.ensures.lowest; put = c.enter-place.ensures.entered; taken = c.in-Some.ensures.taken; left = c.in-Some.ensures.left })
    c.make_table.new.def c.put.new.self c.in_ok-make_table.ensures.rooted c.put.ensures) (c.in_ok-make_table.ensures.adds told view keeps zeros free)

pub returns-clause-stands_for : goal.returns-clause-stands_for
returns-clause-stands_for g c told stored view keeps db were =
    let found = found_is c.args.catalog.now c.enter-place.new.self c.take.new.self c.enter-place.result c.args.def c.in-Some.def
    (record { lowest = c.enter-place.ensures.lowest; put = c.enter-place.ensures.entered; taken = c.in-Some.ensures.taken; left = c.in-Some.ensures.left }) in
    let pages = (g.P.Pages.state c.args.pages.now).work in
    let zeros = subst (λ (d : TableDef). table_page_at pages d.number ≡ zero_page) (sym found) (empty_place_zero pages c.args.catalog.now c.enter-place.result stored c.enter-place.ensures.lowest).1 in
    let free = subst (λ (d : TableDef). IsNameFree view d.name) (sym found) (name_free c.args.shape pages view c.args.catalog.now c.args.def.name keeps stored c.requires.free) in
    subst (λ place. IfSome place (λ now. PagesStandFor c.args.shape (g.P.Pages.state c.make_table.new.pages).work (with_place db c.enter-place.result (Some (plain_empty now)))))
    (made_there c.args.catalog.now c.enter-place.new.self c.take.new.self c.enter-place.result c.args.def c.in-Some.def
    (record { lowest = c.enter-place.ensures.lowest; put = c.enter-place.ensures.entered; taken = c.in-Some.ensures.taken; left = c.in-Some.ensures.left })
    c.make_table.new.def c.put.new.self c.in_ok-make_table.ensures.rooted c.put.ensures)
    (subst (λ (d : TableDef). PagesStandFor c.args.shape (g.P.Pages.state c.make_table.new.pages).work (with_place db d.number (Some (plain_empty c.make_table.new.def)))) found
    (c.in_ok-make_table.ensures.stands_for told view keeps zeros free db were))

pub returns-clause-runs : goal.returns-clause-runs
returns-clause-runs g c =
    let number = found_number c.args.catalog.now c.enter-place.new.self c.take.new.self c.enter-place.result c.args.def c.in-Some.def
    (record { lowest = c.enter-place.ensures.lowest; put = c.enter-place.ensures.entered; taken = c.in-Some.ensures.taken; left = c.in-Some.ensures.left }) in
    runs_wider c.in_ok-make_table.ensures.runs
    (λ p there mine. elim mine [ inl own ↦ inl (c.enter-place.result, c.enter-place.ensures.lowest, own ∙ ap (λ t. 1 + t) number) | inr space ↦ inr space ]) (λ p space. space) (λ damage breaks. breaks)
