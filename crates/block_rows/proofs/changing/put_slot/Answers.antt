use Rattle.std.proofs.Common.{Some}
use Rattle.std.proofs.lemmas.Result.{IfOk-weaker, on_ok_weaker}
use Rattle.store_api.proofs.RunsOverPagesLemmas.{runs_exit, runs_then}
use Rattle.block_rows.proofs.HeldRowsLemmas.{breaks_at_slot, breaks_extent, changed_in_block, page_of_slot_in_block, seen_if_in_block}
use Rattle.block_rows.proofs.changing.put_slot.Goals as goal

pub returns-in_err-place-clause-runs : goal.returns-in_err-place-clause-runs
returns-in_err-place-clause-runs g c = runs_exit c.from_residual.result c.from_residual.ensures.1 (breaks_extent c.in_err-place.ensures.runs)

pub returns-clause-puts : goal.returns-clause-puts
returns-clause-puts g c =
    let place = c.in_ok-place.ensures in
    on_ok_weaker c.put_in_page.result
    (λ puts. changed_in_block g.P.Pages c.args.shape c.args.def.now c.args.rid.block c.args.pages.now c.args.rid.slot c.in_ok-place.place.page c.in_ok-place.place.slot
    c.of-row_shape.ensures place.page place.slot place.below c.requires.slot c.put_in_page.new.pages (Some c.args.row.now) c.put_in_page.ensures.runs c.put_in_page.ensures.count puts)
    c.put_in_page.ensures.puts

pub returns-clause-seen : goal.returns-clause-seen
returns-clause-seen g c =
    let place = c.in_ok-place.ensures in
    IfOk-weaker c.put_in_page.result _ _
    (λ filled sees told. seen_if_in_block g.P.Pages c.args.shape c.args.def.now c.args.rid.block c.args.pages.now c.args.rid.slot c.in_ok-place.place.page c.in_ok-place.place.slot
    c.of-row_shape.ensures place.page place.slot place.below c.requires.slot filled place.there (sees told))
    c.put_in_page.ensures.seen

pub returns-clause-runs : goal.returns-clause-runs
returns-clause-runs g c =
    let place = c.in_ok-place.ensures in
    let in_block = page_of_slot_in_block g.P.Pages c.args.shape c.args.def.now c.args.rid.block c.args.pages.now c.args.rid.slot c.in_ok-place.place.page c.in_ok-place.place.slot
    c.of-row_shape.ensures place.page place.slot place.below c.requires.slot in
    runs_then (breaks_extent place.runs) c.put_in_page.ensures.runs (λ p there is. in_block p c.requires.below is) (λ p is. in_block p c.requires.below is)
    (breaks_at_slot g.P.Pages c.args.shape c.args.def.now c.args.rid.block c.args.pages.now c.args.rid.slot c.in_ok-place.place.page c.in_ok-place.place.slot
    c.of-row_shape.ensures place.page place.slot place.below c.requires.slot c.requires.below)
