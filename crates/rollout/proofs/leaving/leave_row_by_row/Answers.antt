use Rattle.std.proofs.Common.{◌≡◌, ◌∙◌, None, Some, ap, arith, map, subst, sym}
use Rattle.std.specs.Prelude.{List}
use Rattle.std.proofs.lemmas.Result.{on_ok_weaker}
use Rattle.store_api.specs.Causes.{fault_of}
use Rattle.store_api.specs.Frame.{NoPage}
use Rattle.store_api.proofs.RunsOverPagesLemmas.{runs_exit}
use Rattle.extent_map.specs.declared.kind.Kind.{Kind}
use Rattle.block_rows.specs.HeldRows.{HaveReadValues, placed_row}
use Rattle.table_trees.specs.ToldPages.{PageList}
use Rattle.mdc_sound.specs.StandingTable.{StandsTable, TableForests, pages_of}
use Rattle.record_index.specs.SweptLeaf.{TakesNoSpace}
use Rattle.rollout.specs.LeavingRows.{AreUsedBlocks, IsPageOfBlocks, rows_in_blocks}
use Rattle.rollout.proofs.BlockLeavingLemmas.{blocks_looked, rows_left, runs_left, runs_read}
use Rattle.rollout.proofs.LookedTableLemmas.{page_looked, stands_looked}
use Rattle.rollout.proofs.NoSpaceLemmas.{space_given_back}
use Rattle.rollout.proofs.ReadBlocksLemmas.{rising_differ}
use Rattle.rollout.proofs.RowsOnceLemmas.{all_once, counted_then, no_row_page, none_counted}
use Rattle.rollout.proofs.leaving.leave_row_by_row.Given.{Over}
use Rattle.rollout.proofs.leaving.leave_row_by_row.Goals as goal
use Rattle.rollout.proofs.leaving.leave_row_by_row.Goals.{After-as_slice, After-drop-hits}

pub returns-in_err-hits-clause-runs : goal.returns-in_err-hits-clause-runs
returns-in_err-hits-clause-runs g c =
    let said = c.in_err-hits.ensures in
    runs_exit c.from_residual.result c.from_residual.ensures.1
    (runs_read g.P.Pages c.args.shape c.args.def.now c.requires.defined c.args.pages.now c.rows_of_blocks.new.pages said.runs.works.steady.is_told said.same c.args.blocks.now (Some c.in_err-hits.field-0.0) said.runs)

pub leave_rows-requires-clause-read : goal.leave_rows-requires-clause-read
leave_rows-requires-clause-read g c = subst (HaveReadValues c.args.def.now.columns) (sym c.as_slice.ensures.value) c.in_ok-hits.ensures.keyed

-- the rows that were read are those of the blocks
rows_are : (g : Over) (c : After-drop-hits g) (owners : List Kind) (forests : TableForests) → StandsTable g.P.Pages c.args.shape c.args.pages.now c.args.def.now owners forests → AreUsedBlocks c.args.blocks.now owners forests
    → map placed_row c.as_slice.result.now ≡ rows_in_blocks c.args.shape (pages_of g.P.Pages c.args.pages.now) c.args.def.now c.args.blocks.now
rows_are g c owners forests st used = ap (map placed_row) c.as_slice.ensures.value ∙ c.in_ok-hits.ensures.rows owners forests st used

pub returns-clause-leaves : goal.returns-clause-leaves
returns-clause-leaves g c =
    let P = g.P.Pages in
    let said = c.in_ok-hits.ensures in
    let told = said.runs.works.steady.is_told in
    on_ok_weaker c.leave_rows.result
    (λ leaves owners forests st used.
    let st_looked = stands_looked P c.args.shape c.args.pages.now c.rows_of_blocks.new.pages c.args.def.now told said.same owners forests st in
    let are : map placed_row c.as_slice.result.now ≡ rows_in_blocks c.args.shape (pages_of P c.rows_of_blocks.new.pages) c.args.def.now c.args.blocks.now =
    rows_are g c owners forests st used ∙ ap (λ (pages : PageList). rows_in_blocks c.args.shape pages c.args.def.now c.args.blocks.now) (sym said.same) in
    blocks_looked P c.args.shape c.args.def.now c.requires.defined c.args.pages.now c.rows_of_blocks.new.pages told said.same c.args.blocks.now c.leave_rows.new.pages owners forests st (omega (arith, c.leave_rows.ensures.count))
    (rows_left P c.args.shape c.args.def.now c.requires.defined c.rows_of_blocks.new.pages c.leave_rows.new.pages c.args.blocks.now (map placed_row c.as_slice.result.now) owners forests st_looked used are (leaves owners forests st_looked)))
    c.leave_rows.ensures.leaves

pub returns-clause-space : goal.returns-clause-space
returns-clause-space g c =
    let P = g.P.Pages in
    let said = c.in_ok-hits.ensures in
    on_ok_weaker c.leave_rows.result
    (λ space owners forests st.
    let st_looked = stands_looked P c.args.shape c.args.pages.now c.rows_of_blocks.new.pages c.args.def.now said.runs.works.steady.is_told said.same owners forests st in
    subst (λ (pages : PageList). TakesNoSpace c.args.shape pages (pages_of P c.leave_rows.new.pages)) said.same
    (space_given_back c.args.shape (pages_of P c.rows_of_blocks.new.pages) (pages_of P c.leave_rows.new.pages) (space owners forests st_looked))) c.leave_rows.ensures.space

pub returns-clause-once : goal.returns-clause-once
returns-clause-once g c =
    let P = g.P.Pages in
    let said = c.in_ok-hits.ensures in
    on_ok_weaker c.leave_rows.result
    (λ leaves owners forests st.
    counted_then {First = IsPageOfBlocks c.args.shape c.args.blocks.now} {Second = NoPage} (all_once said.once)
    (none_counted c.leave_rows.ensures.runs.brings (λ p counts is.
    no_row_page c.args.shape c.args.pages.now c.args.def.now owners forests st p counts
    (page_looked P c.args.shape c.args.pages.now c.rows_of_blocks.new.pages c.args.def.now said.runs.works.steady.is_told said.same p is owners forests st))) (λ p counts is none. none) (λ p is. is) (λ p none. absurd none))
    c.leave_rows.ensures.leaves

pub returns-clause-runs : goal.returns-clause-runs
returns-clause-runs g c =
    let P = g.P.Pages in
    let said = c.in_ok-hits.ensures in
    let told = said.runs.works.steady.is_told in
    runs_left P c.args.shape c.args.def.now c.requires.defined c.args.pages.now c.rows_of_blocks.new.pages told said.same c.args.blocks.now (map placed_row c.as_slice.result.now) (rising_differ c.args.blocks.now c.requires.rising) (rows_are g c)
    c.leave_rows.new.pages (fault_of c.leave_rows.result) (runs_read P c.args.shape c.args.def.now c.requires.defined c.args.pages.now c.rows_of_blocks.new.pages told said.same c.args.blocks.now None said.runs) c.leave_rows.ensures.runs
