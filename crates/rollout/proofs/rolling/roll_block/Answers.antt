use Rattle.std.proofs.Common.{◌<◌, ◌^◌, Some, None, arith, subst}
use Rattle.store_api.proofs.RunsOverPagesLemmas.{runs_exit}
use Rattle.block_index.specs.Cells.{index_listings}
use Rattle.block_map.specs.Counting.{used_row}
use Rattle.block_map.specs.MapRows.{row_entry}
use Rattle.block_map.specs.declared.state.BlockState.TheVariants as state
use Rattle.table_blocks.specs.BlockNow.{released_line}
use Rattle.table_blocks.proofs.OpeningLemmas.{around_block, own_of_small}
use Rattle.table_trees.specs.TableTrees.{map_place}
use Rattle.table_trees.specs.ToldPages.{PageList}
use Rattle.mdc_sound.specs.StandingTable.{pages_of}
use Rattle.rollout.specs.RolledBlocks.{GivesBackSpace}
use Rattle.rollout.proofs.LeavingRowsLemmas.{space_amended}
use Rattle.rollout.proofs.LookedTableLemmas.{stands_looked}
use Rattle.rollout.proofs.RollingBlockLemmas.{expects, rolls_block, runs_empty, runs_freeing, runs_looked}
use Rattle.rollout.proofs.rolling.roll_block.Goals as goal

pub returns-in_err-rows-clause-runs : goal.returns-in_err-rows-clause-runs
returns-in_err-rows-clause-runs g c =
    runs_exit c.from_residual.result c.from_residual.ensures.1
    (runs_looked g.P.Pages c.args.shape c.args.def.now c.requires.defined c.args.pages.now c.args.one.now c.rows_of_line.new.pages (Some c.in_err-rows.field-0.0) c.in_err-rows.ensures.runs)

pub returns-then-rows-eq0-clause-runs : goal.returns-then-rows-eq0-clause-runs
returns-then-rows-eq0-clause-runs g c =
    let said = c.in_ok-rows.ensures in
    let looked = runs_looked g.P.Pages c.args.shape c.args.def.now c.requires.defined c.args.pages.now c.args.one.now c.rows_of_line.new.pages None said.runs in
    runs_empty g.P.Pages c.args.shape c.args.def.now c.requires.defined c.args.pages.now c.args.one.now c.rows_of_line.new.pages c.in_ok-rows.rows c.if-rows-eq0.true said.line looked c.no_row.result c.no_row.ensures.there c.no_row.ensures.not

pub returns-in_err-release_block-clause-runs : goal.returns-in_err-release_block-clause-runs
returns-in_err-release_block-clause-runs g c =
    let said = c.in_ok-rows.ensures in
    let looked = runs_looked g.P.Pages c.args.shape c.args.def.now c.requires.defined c.args.pages.now c.args.one.now c.rows_of_line.new.pages None said.runs in
    runs_exit c.from_residual-in_err-release_block.result c.from_residual-in_err-release_block.ensures.1
    (runs_freeing g.P.Pages c.args.shape c.args.def.now c.requires.defined c.args.pages.now c.args.one.now c.rows_of_line.new.pages said.runs.works.steady.is_told said.same c.in_ok-rows.rows said.line looked
    c.release_block.new.pages (Some c.in_err-release_block.field-0.0) c.in_err-release_block.ensures.runs_of_table)

pub returns-clause-rolls : goal.returns-clause-rolls
returns-clause-rolls g c owners forests st is =
    let said = c.in_ok-rows.ensures in
    rolls_block g.P.Pages c.args.shape c.args.def.now c.requires.defined c.args.pages.now c.rows_of_line.new.pages said.runs.works.steady.is_told said.same c.args.one.now c.in_ok-rows.rows said.line
    owners forests st is c.release_block.new.pages c.in_ok-release_block.ensures.runs_of_table.works.no_shorter c.in_ok-release_block.ensures.turns

pub returns-clause-space : goal.returns-clause-space
returns-clause-space g c owners forests st is =
    let said = c.in_ok-rows.ensures in
    let P = g.P.Pages in
    let def = c.args.def.now in
    let old = c.args.pages.now in
    let looked = c.rows_of_line.new.pages in
    let new = c.release_block.new.pages in
    let line = used_row c.args.one.now.block c.in_ok-rows.rows in
    let small : c.args.one.now.block < 2 ^ 32 = omega arith in
    let st_looked = stands_looked P c.args.shape old looked def said.runs.works.steady.is_told said.same owners forests st in
    let expected = expects P c.args.shape def c.requires.defined old looked said.runs.works.steady.is_told said.same c.args.one.now c.in_ok-rows.rows said.line owners forests st is in
    subst (λ (pages : PageList). GivesBackSpace c.args.shape pages (pages_of P new)) said.same
    (space_amended c.args.shape (pages_of P looked) (pages_of P new) (map_place def) (row_entry line) (row_entry (released_line state.Free line.block)) (index_listings def c.args.one.now.cell.values line.block)
    (c.in_ok-release_block.ensures.makes owners forests (around_block c.args.shape looked def owners forests c.requires.defined st_looked line.block)
    (own_of_small c.args.shape looked def owners forests c.requires.defined st_looked line expected.line_there small)))

pub returns-clause-runs : goal.returns-clause-runs
returns-clause-runs g c =
    let said = c.in_ok-rows.ensures in
    let looked = runs_looked g.P.Pages c.args.shape c.args.def.now c.requires.defined c.args.pages.now c.args.one.now c.rows_of_line.new.pages None said.runs in
    runs_freeing g.P.Pages c.args.shape c.args.def.now c.requires.defined c.args.pages.now c.args.one.now c.rows_of_line.new.pages said.runs.works.steady.is_told said.same c.in_ok-rows.rows said.line looked
    c.release_block.new.pages None c.in_ok-release_block.ensures.runs_of_table
