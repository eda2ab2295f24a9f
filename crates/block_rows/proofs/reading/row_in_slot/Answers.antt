use Rattle.std.proofs.lemmas.Result.{IfOk-weaker}
use Rattle.store_api.proofs.RunsOverPagesLemmas.{runs_exit, runs_then}
use Rattle.block_rows.proofs.HeldRowsLemmas.{breaks_at_slot, breaks_extent, found_in_block, page_of_slot_in_block, seen_in_block}
use Rattle.block_rows.proofs.reading.row_in_slot.Goals as goal

pub returns-in_err-place-clause-runs : goal.returns-in_err-place-clause-runs
returns-in_err-place-clause-runs g c = runs_exit c.from_residual.result c.from_residual.ensures.1 (breaks_extent c.in_err-place.ensures.runs)

pub returns-clause-found : goal.returns-clause-found
returns-clause-found g c =
    let place = c.in_ok-place.ensures in
    IfOk-weaker c.row_in_page.result _ _
    (λ row found. found_in_block g.P.Pages c.args.shape c.args.def.now c.args.rid.block c.args.pages.now c.args.rid.slot c.in_ok-place.place.page c.in_ok-place.place.slot
    c.of-row_shape.ensures place.page place.slot place.below c.requires.slot row found)
    c.row_in_page.ensures.found

pub returns-clause-seen : goal.returns-clause-seen
returns-clause-seen g c =
    let place = c.in_ok-place.ensures in
    IfOk-weaker c.row_in_page.result _ _
    (λ row sees told. seen_in_block g.P.Pages c.args.shape c.args.def.now c.args.rid.block c.args.pages.now c.args.rid.slot c.in_ok-place.place.page c.in_ok-place.place.slot
    c.of-row_shape.ensures place.page place.slot place.below c.requires.slot row place.there (sees told))
    c.row_in_page.ensures.seen

pub returns-clause-runs : goal.returns-clause-runs
returns-clause-runs g c =
    let place = c.in_ok-place.ensures in
    runs_then (breaks_extent place.runs) c.row_in_page.ensures.runs (λ p there none. absurd none)
    (λ p is. page_of_slot_in_block g.P.Pages c.args.shape c.args.def.now c.args.rid.block c.args.pages.now c.args.rid.slot c.in_ok-place.place.page c.in_ok-place.place.slot
    c.of-row_shape.ensures place.page place.slot place.below c.requires.slot p c.requires.below is)
    (breaks_at_slot g.P.Pages c.args.shape c.args.def.now c.args.rid.block c.args.pages.now c.args.rid.slot c.in_ok-place.place.page c.in_ok-place.place.slot
    c.of-row_shape.ensures place.page place.slot place.below c.requires.slot c.requires.below)
