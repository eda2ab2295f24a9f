use Rattle.std.proofs.Common.{◌≡◌, ◌≢◌, ◌∙◌, [], None, Some, ap, arith, length, map, subst, sym}
use Rattle.std.specs.Prelude.{List}
use Rattle.std.proofs.lemmas.List.{nil_from_length}
use Rattle.std.proofs.lemmas.Result.{on_ok_weaker}
use Rattle.store_api.specs.Causes.{fault_of}
use Rattle.store_api.specs.Frame.{NoPage}
use Rattle.store_api.proofs.RunsOverPagesLemmas.{runs_exit}
use Rattle.extent_map.specs.declared.kind.Kind.{Kind}
use Rattle.block_map.specs.MapLines.{MapLine, lines_of_state}
use Rattle.block_map.specs.MapRows.{line_of}
use Rattle.block_map.specs.declared.row.BlockRow.{BlockRow}
use Rattle.table_trees.specs.ToldPages.{PageList}
use Rattle.table_trees.proofs.ToldPagesLemmas.{map_of_told}
use Rattle.mdc_sound.specs.StandingTable.{StandsTable, TableForests, pages_of}
use Rattle.record_index.specs.SweptLeaf.{TakesNoSpace}
use Rattle.rollout.specs.LeavingRows.{AreUsedBlocks, IsPageOfBlocks, rows_in_blocks}
use Rattle.rollout.specs.SweptPart.{goes_by_sweep, rows_among}
use Rattle.rollout.proofs.BlockLeavingLemmas.{blocks_looked, leaves_no_index, line_page, runs_by_row, runs_lines, runs_swept}
use Rattle.rollout.proofs.LookedTableLemmas.{page_looked, stands_looked}
use Rattle.rollout.proofs.NoSpaceLemmas.{space_itself}
use Rattle.rollout.proofs.ReadBlocksLemmas.{rising_differ}
use Rattle.rollout.proofs.RowsOnceLemmas.{counted_then, no_row_page, none_counted}
use Rattle.rollout.proofs.SweptPartLemmas.{by_sweep, rows_counted}
use Rattle.rollout.proofs.leaving.leave_entries.Given.{Over}
use Rattle.rollout.proofs.leaving.leave_entries.Goals as goal
use Rattle.rollout.proofs.leaving.leave_entries.Goals.{After-are_many}

pub returns-then-len-eq0-clause-leaves : goal.returns-then-len-eq0-clause-leaves
returns-then-len-eq0-clause-leaves g c owners forests st used =
    leaves_no_index g.P.Pages c.args.shape c.args.def.now c.requires.defined (nil_from_length c.args.def.now.indexes (omega (arith, c.if-len-eq0.true, c.len.ensures))) c.args.notes.now c.args.pages.now c.args.blocks.now owners forests st

pub returns-then-len-eq0-clause-space : goal.returns-then-len-eq0-clause-space
returns-then-len-eq0-clause-space g c owners forests st = space_itself c.args.shape (pages_of g.P.Pages c.args.pages.now) owners (map_of_told g.P.Pages c.args.pages.now st.told c.args.shape owners st.trees.map)

pub returns-in_err-lines-clause-runs : goal.returns-in_err-lines-clause-runs
returns-in_err-lines-clause-runs g c =
    let said = c.in_err-lines.ensures in
    runs_exit c.from_residual.result c.from_residual.ensures.1
    (runs_lines g.P.Pages c.args.shape c.args.def.now c.requires.defined c.args.pages.now c.used_lines.new.pages said.runs.works.steady.is_told said.same c.args.blocks.now (Some c.in_err-lines.field-0.0) said.runs)

-- the lines that were read are those of the Used blocks
lines_are : (g : Over) (c : After-are_many g) (owners : List Kind) (forests : TableForests) → StandsTable g.P.Pages c.args.shape c.args.pages.now c.args.def.now owners forests → map line_of c.in_ok-lines.lines.items ≡ lines_of_state 1 forests.map
lines_are g c owners forests st = c.in_ok-lines.ensures.of_tree forests.map st.trees.held.0

counted_are : (g : Over) (c : After-are_many g) (owners : List Kind) (forests : TableForests) → StandsTable g.P.Pages c.args.shape c.args.pages.now c.args.def.now owners forests
    → c.counted_rows-rows.result ≡ rows_among (lines_of_state 1 forests.map) c.args.blocks.now
counted_are g c owners forests st =
    c.counted_rows-rows.ensures.value
    ∙ (ap (λ (lines : List BlockRow). rows_among (map line_of lines) c.args.blocks.now) c.as_slice.ensures.value ∙ ap (λ (lines : List MapLine). rows_among lines c.args.blocks.now) (lines_are g c owners forests st))

-- so that the rows of the blocks were counted
counted : (g : Over) (c : After-are_many g) (owners : List Kind) (forests : TableForests) → StandsTable g.P.Pages c.args.shape c.args.pages.now c.args.def.now owners forests → AreUsedBlocks c.args.blocks.now owners forests
    → c.counted_rows-rows.result ≡ length (rows_in_blocks c.args.shape (pages_of g.P.Pages c.args.pages.now) c.args.def.now c.args.blocks.now)
counted g c owners forests st used =
    counted_are g c owners forests st ∙ rows_counted g.P.Pages c.args.shape c.args.pages.now c.args.def.now owners forests st c.args.blocks.now (rising_differ c.args.blocks.now c.requires.rising) used

-- and whether they are many was told
many : (g : Over) (c : After-are_many g) (owners : List Kind) (forests : TableForests) → StandsTable g.P.Pages c.args.shape c.args.pages.now c.args.def.now owners forests
    → goes_by_sweep (lines_of_state 1 forests.map) c.args.blocks.now ≡ c.are_many.result
many g c owners forests st =
    subst (λ (lines : List MapLine). goes_by_sweep lines c.args.blocks.now ≡ c.are_many.result) (ap (map line_of) c.as_slice-2.ensures.value ∙ lines_are g c owners forests st)
    (by_sweep (map line_of c.as_slice-2.result.now) c.args.blocks.now c.counted_rows-rows.result c.are_many.result
    (c.counted_rows-rows.ensures.value ∙ ap (λ (lines : List BlockRow). rows_among (map line_of lines) c.args.blocks.now) (c.as_slice.ensures.value ∙ sym c.as_slice-2.ensures.value)) c.are_many.ensures)

pub returns-then-are_many-clause-leaves : goal.returns-then-are_many-clause-leaves
returns-then-are_many-clause-leaves g c =
    let P = g.P.Pages in
    let said = c.in_ok-lines.ensures in
    let told = said.runs.works.steady.is_told in
    on_ok_weaker c.sweep_entries.result
    (λ leaves owners forests st used.
    blocks_looked P c.args.shape c.args.def.now c.requires.defined c.args.pages.now c.used_lines.new.pages told said.same c.args.blocks.now c.sweep_entries.new.pages owners forests st (omega (arith, c.sweep_entries.ensures.count))
    (leaves owners forests (stands_looked P c.args.shape c.args.pages.now c.used_lines.new.pages c.args.def.now told said.same owners forests st) used
    (counted g (goal.at.returns-then-are_many-clause-leaves g c).After-are_many owners forests st used
    ∙ ap (λ (pages : PageList). length (rows_in_blocks c.args.shape pages c.args.def.now c.args.blocks.now)) (sym said.same)))) c.sweep_entries.ensures.leaves

pub returns-then-are_many-clause-space : goal.returns-then-are_many-clause-space
returns-then-are_many-clause-space g c =
    let P = g.P.Pages in
    let said = c.in_ok-lines.ensures in
    on_ok_weaker c.sweep_entries.result
    (λ space owners forests st.
    subst (λ (pages : PageList). TakesNoSpace c.args.shape pages (pages_of P c.sweep_entries.new.pages)) said.same
    (space owners forests (stands_looked P c.args.shape c.args.pages.now c.used_lines.new.pages c.args.def.now said.runs.works.steady.is_told said.same owners forests st))) c.sweep_entries.ensures.space

pub returns-then-are_many-clause-once : goal.returns-then-are_many-clause-once
returns-then-are_many-clause-once g c =
    let P = g.P.Pages in
    let said = c.in_ok-lines.ensures in
    on_ok_weaker c.sweep_entries.result
    (λ leaves owners forests st.
    let apart = no_row_page c.args.shape c.args.pages.now c.args.def.now owners forests st in
    counted_then {First = NoPage} {Second = NoPage} (none_counted said.runs.brings (λ p counts is. apart p counts (line_page P c.args.shape c.args.def.now c.requires.defined c.args.pages.now p is owners forests st)))
    (none_counted c.sweep_entries.ensures.runs.brings (λ p counts is.
    apart p counts (page_looked P c.args.shape c.args.pages.now c.used_lines.new.pages c.args.def.now said.runs.works.steady.is_told said.same p is owners forests st))) (λ p counts is none. none) (λ p none. absurd none) (λ p none. absurd none))
    c.sweep_entries.ensures.leaves

pub returns-then-are_many-clause-runs : goal.returns-then-are_many-clause-runs
returns-then-are_many-clause-runs g c =
    let P = g.P.Pages in
    let said = c.in_ok-lines.ensures in
    let told = said.runs.works.steady.is_told in
    runs_swept P c.args.shape c.args.def.now c.requires.defined c.args.pages.now c.used_lines.new.pages told said.same c.args.blocks.now c.counted_rows-rows.result (rising_differ c.args.blocks.now c.requires.rising)
    (counted g (goal.at.returns-then-are_many-clause-runs g c).After-are_many) c.sweep_entries.new.pages (fault_of c.sweep_entries.result)
    (runs_lines P c.args.shape c.args.def.now c.requires.defined c.args.pages.now c.used_lines.new.pages told said.same c.args.blocks.now None said.runs) c.sweep_entries.ensures.runs

pub returns-clause-leaves : goal.returns-clause-leaves
returns-clause-leaves g c =
    let P = g.P.Pages in
    let said = c.in_ok-lines.ensures in
    let told = said.runs.works.steady.is_told in
    on_ok_weaker c.leave_row_by_row.result
    (λ leaves owners forests st used.
    blocks_looked P c.args.shape c.args.def.now c.requires.defined c.args.pages.now c.used_lines.new.pages told said.same c.args.blocks.now c.leave_row_by_row.new.pages owners forests st (omega (arith, c.leave_row_by_row.ensures.count))
    (leaves owners forests (stands_looked P c.args.shape c.args.pages.now c.used_lines.new.pages c.args.def.now told said.same owners forests st) used)) c.leave_row_by_row.ensures.leaves

pub returns-clause-space : goal.returns-clause-space
returns-clause-space g c =
    let P = g.P.Pages in
    let said = c.in_ok-lines.ensures in
    on_ok_weaker c.leave_row_by_row.result
    (λ space owners forests st.
    subst (λ (pages : PageList). TakesNoSpace c.args.shape pages (pages_of P c.leave_row_by_row.new.pages)) said.same
    (space owners forests (stands_looked P c.args.shape c.args.pages.now c.used_lines.new.pages c.args.def.now said.runs.works.steady.is_told said.same owners forests st))) c.leave_row_by_row.ensures.space

pub returns-clause-once : goal.returns-clause-once
returns-clause-once g c =
    let P = g.P.Pages in
    let said = c.in_ok-lines.ensures in
    on_ok_weaker c.leave_row_by_row.result
    (λ once owners forests st.
    counted_then {First = NoPage} {Second = IsPageOfBlocks c.args.shape c.args.blocks.now}
    (none_counted said.runs.brings (λ p counts is.
    no_row_page c.args.shape c.args.pages.now c.args.def.now owners forests st p counts (line_page P c.args.shape c.args.def.now c.requires.defined c.args.pages.now p is owners forests st)))
    (once owners forests (stands_looked P c.args.shape c.args.pages.now c.used_lines.new.pages c.args.def.now said.runs.works.steady.is_told said.same owners forests st)) (λ p counts none is. none) (λ p none. absurd none) (λ p is. is))
    c.leave_row_by_row.ensures.once

pub returns-clause-runs : goal.returns-clause-runs
returns-clause-runs g c =
    let P = g.P.Pages in
    let said = c.in_ok-lines.ensures in
    let told = said.runs.works.steady.is_told in
    let some : c.args.def.now.indexes ≢ [] = λ none. c.if-len-eq0.false (c.len.ensures ∙ ap length none) in
    runs_by_row P c.args.shape c.args.def.now c.requires.defined c.args.pages.now c.used_lines.new.pages told said.same c.args.blocks.now some
    (λ owners forests st. many g (goal.at.returns-clause-runs g c).After-are_many owners forests st ∙ c.if-are_many.false) c.leave_row_by_row.new.pages (fault_of c.leave_row_by_row.result)
    (runs_lines P c.args.shape c.args.def.now c.requires.defined c.args.pages.now c.used_lines.new.pages told said.same c.args.blocks.now None said.runs) c.leave_row_by_row.ensures.runs
