use Rattle.std.proofs.Common.{map, subst}
use Rattle.block_rows.specs.HeldRows.{placed_row}
use Rattle.file_check.specs.BlocksJudged.{JudgesCell, ShareCell}
use Rattle.file_check.proofs.CellsLemmas.{judges_apart, judges_shared}
use Rattle.file_check.proofs.cells.judge_cell_of_block.Goals as goal

pub returns-then-do_rows_share_cell : goal.returns-then-do_rows_share_cell
returns-then-do_rows_share_cell c pages rows =
    judges_shared c.args.shape pages c.args.def.now c.args.block
    (subst (ShareCell c.args.def.now) rows (subst (JudgesCell c.args.def.now (map placed_row c.args.rows.now)) c.if-do_rows_share_cell.true c.do_rows_share_cell.ensures))

pub returns-else-do_rows_share_cell : goal.returns-else-do_rows_share_cell
returns-else-do_rows_share_cell c pages rows =
    judges_apart c.args.shape pages c.args.def.now c.args.block c.first_page.result c.first_page.ensures
    (subst (λ placed. ShareCell c.args.def.now placed → ⊥) rows (subst (JudgesCell c.args.def.now (map placed_row c.args.rows.now)) c.if-do_rows_share_cell.false c.do_rows_share_cell.ensures))
