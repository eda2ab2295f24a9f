use Rattle.std.proofs.Common.{[], ap, map, rules}
use Rattle.std.specs.List.Sorted.{IsNonDecreasingBy}
use Rattle.std.proofs.lemmas.List.Sorted.{IsNonDecreasingBy-from_sort, All-permutation, answers_always}
use Rattle.block_rows.specs.HeldRows.{HasReadValues, placed_row}
use Rattle.block_rows.specs.declared.hit.Hit.{Hit}
use Rattle.table_scan.proofs.CopiedRowsLemmas.{finds_rows, has_seen_table}
use Rattle.table_scan.proofs.finding.find_rows.Given.{Over}
use Rattle.table_scan.proofs.finding.find_rows.Goals as goal

-- the copies rise by row number
rises : (g : Over) (c : goal.After-sort_unstable_by_key g) → IsNonDecreasingBy (λ (hit : Hit). hit.row.number) c.sort_unstable_by_key.new.self.items
rises g c =
    IsNonDecreasingBy-from_sort (λ (hit : Hit). hit.row.number) c.sort_unstable_by_key.new.self.items
    (c.sort_unstable_by_key.ensures.sorted (λ (hit : Hit). hit.row.number) (answers_always _ _ _ (λ f a r h k. search rules)))

pub returns-clause-finds : goal.returns-clause-finds
returns-clause-finds g c = λ owners forests st.
    let gives = c.in_ok-scan_rows.ensures.gives owners forests st in
    finds_rows gives.rows c.scan_rows.new.sink.items c.sort_unstable_by_key.new.self.items (gives.given [] (ap (map placed_row) c.new-hits.ensures.items)) c.sort_unstable_by_key.ensures.permutation (rises g c)
    c.args.shape c.args.pages.now c.args.def.now c.args.pred.now forests gives.found

pub returns-clause-seen : goal.returns-clause-seen
returns-clause-seen g c = λ told.
    let scanned = c.in_ok-scan_rows.ensures.seen told in
    has_seen_table scanned.rows c.scan_rows.new.sink.items c.sort_unstable_by_key.new.self.items (scanned.given [] (ap (map placed_row) c.new-hits.ensures.items)) c.sort_unstable_by_key.ensures.permutation (rises g c)
    c.args.shape c.args.pages.now c.args.def.now c.args.pred.now scanned.seen

pub returns-clause-keyed : goal.returns-clause-keyed
returns-clause-keyed g c =
    All-permutation (λ (hit : Hit). HasReadValues c.args.def.now.columns hit.row) c.scan_rows.new.sink.items c.sort_unstable_by_key.new.self.items c.sort_unstable_by_key.ensures.permutation c.in_ok-scan_rows.ensures.fits
