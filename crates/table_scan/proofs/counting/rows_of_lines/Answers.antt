use Rattle.std.proofs.Common.{◌≡◌, ◌≤◌, ◌<◌, arith, get_or, rules, List}
use Rattle.std.proofs.lemmas.List.{length-map}
use Rattle.mdc_table.specs.declared.listed.ListedBlock.{ListedBlock}
use Rattle.table_scan.specs.SeenTable.{blocks_listed}
use Rattle.table_scan.proofs.BlocksThatMayLemmas.{element_at}
use Rattle.table_scan.proofs.ScanningLemmas.{above_place}
use Rattle.table_scan.proofs.counting.rows_of_lines.Goals as goal

pub overflow_add-count : goal.overflow_add-count
overflow_add-count c =
    let items : List ListedBlock = c.args.listed.now in
    let i = c.loop-one.one-index in
    let one : ListedBlock = c.one-item.result in
    let low = c.loop-one-test.true in
    let at : get_or (blocks_listed items) i 0 ≡ one.block = element_at (λ (one : ListedBlock). one.block) items i one 0 low c.one-item.is in
    let high : i ≤ get_or (blocks_listed items) i 0 = above_place (blocks_listed items) i c.requires (omega (arith, low, length-map items (λ (one : ListedBlock). one.block))) in
    let block_fits : one.block < 4294967296 = search rules in
    let rows_fit : one.rows < 65536 = search rules in
    omega (arith, c.loop-one.invariant.few, at, high, block_fits, rows_fit, c.from-count.ensures)
