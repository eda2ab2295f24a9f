use Rattle.std.proofs.Common.{[], ap, map}
use Rattle.std.proofs.lemmas.List.Sorted.{All-permutation}
use Rattle.block_rows.specs.HeldRows.{HasReadValues, placed_row}
use Rattle.block_rows.specs.declared.hit.Hit.{Hit}
use Rattle.executor.proofs.MovedPlacesLemmas.{copies_found, copies_lie}
use Rattle.executor.proofs.by_mode.find_by_plan.Goals as goal

pub returns-clause-finds : goal.returns-clause-finds
returns-clause-finds g c = λ owners forests st sound.
    let gives = c.in_ok-blocks.ensures.gives owners forests st sound in
    let sorted = c.by_number.ensures in
    copies_found gives.rows c.scan_by_plan.new.sink.items c.by_number.result.hits.items (gives.given [] (ap (map placed_row) c.new-hits.ensures.items)) sorted.moved sorted.in_order c.args.shape c.args.pages.now c.args.def.now
    c.args.pred.now forests gives.found

pub returns-clause-lie : goal.returns-clause-lie
returns-clause-lie g c = λ owners forests st.
    let some = c.in_ok-blocks.ensures.lie owners forests st in
    let sorted = c.by_number.ensures in
    copies_lie some.rows c.scan_by_plan.new.sink.items c.by_number.result.hits.items (some.given [] (ap (map placed_row) c.new-hits.ensures.items)) sorted.moved sorted.in_order c.args.shape c.args.pages.now c.args.def.now
    c.args.pred.now forests some.lie some.apart

pub returns-clause-keyed : goal.returns-clause-keyed
returns-clause-keyed g c =
    All-permutation (λ (hit : Hit). HasReadValues c.args.def.now.columns hit.row) c.scan_by_plan.new.sink.items c.by_number.result.hits.items c.by_number.ensures.moved c.in_ok-blocks.ensures.fits
