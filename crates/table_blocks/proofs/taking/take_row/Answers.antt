use Rattle.std.proofs.Common.{◌≡◌, ◌<◌, ◌^◌, ◌∙◌, ℕ, refl, Some, arith, subst, sym}
use Rattle.std.specs.Prelude.{IfNone, IfSome, Option}
use Rattle.store_api.specs.RunsOverPages.{RunsOverPages}
use Rattle.store_api.proofs.RunsOverPagesLemmas.{runs_exit, runs_memory}
use Rattle.entry_tree.specs.Forest.{Forest}
use Rattle.entry_tree.specs.HeldTrees.{HoldsTree}
use Rattle.block_map.specs.BlockMaps.{HasRow}
use Rattle.block_map.specs.Counting.{used_row}
use Rattle.mdc_sound.specs.StandingTable.{BreaksExpected, IsBlockOrMapPage}
use Rattle.table_blocks.specs.BlockNow.{IsKeyedCell}
use Rattle.table_blocks.specs.BlockSteps.{HasThisRow}
use Rattle.table_blocks.proofs.FewerRowsLemmas.{empties_fewer, fewer_space, left_counted, runs_fewer}
use Rattle.table_blocks.proofs.LastRowLemmas.{SeesLast, cell_keys, empties_last, none_left, runs_last, runs_looking, runs_of_table, runs_on_slot, runs_this_row, sees_last}
use Rattle.table_blocks.proofs.LastRowSpaceLemmas.{last_space}
use Rattle.table_blocks.proofs.MapOfTableLemmas.{runs_expected, runs_on_map}
use Rattle.entry_tree.proofs.RemoveLemmas.{held_same}
use Rattle.table_blocks.proofs.SeenSlotsLemmas.{seen_before, seen_same, tree_apart, used_by_line}
use Rattle.table_blocks.proofs.taking.take_row.Given.{Over}
use Rattle.table_blocks.proofs.taking.take_row.Goals.{In_default, In_ok-cell, In_ok-line}
use Rattle.table_blocks.proofs.taking.take_row.Goals as goal

pub returns-in_err-had-clause-runs : goal.returns-in_err-had-clause-runs
returns-in_err-had-clause-runs g c =
    let map = c.at-map.result in
    runs_exit c.from_residual.result c.from_residual.ensures.1
    (runs_expected c.args.shape c.args.pages.now c.args.def.now (HasThisRow g.P.Pages c.args.shape c.args.pages.now c.args.def.now c.args.rid c.args.row.now) {fault = Some c.in_err-had.field-0.0}
    (runs_on_map c.args.shape c.args.pages.now c.args.def.now c.requires.defined map.tree c.at-map.ensures map.seven c.args.rid.block c.in_err-had.ensures.runs))

-- ---- other rows are left in the block

pub returns-in_err-clear_filled-clause-runs : goal.returns-in_err-clear_filled-clause-runs
returns-in_err-clear_filled-clause-runs g c =
    let map = c.at-map.result in
    let counted = c.in_ok-had.ensures in
    runs_exit c.from_residual-in_err-clear_filled.result c.from_residual-in_err-clear_filled.ensures.1
    (runs_fewer c.args.shape c.args.pages.now c.discount_row.new.pages c.args.def.now c.args.rid c.requires.defined c.requires.within map.tree c.at-map.ensures map.seven c.in_ok-had.field-0 c.in-Some.had c.in-Some.is (omega arith) counted.some
    counted.there counted.fewer counted.count counted.runs c.args.row.now c.clear_filled.new.pages c.in_err-clear_filled.ensures.runs)

pub returns-in-Some-clause-takes : goal.returns-in-Some-clause-takes
returns-in-Some-clause-takes g c =
    let map = c.at-map.result in
    let counted = c.in_ok-had.ensures in
    let cleared = c.in_ok-clear_filled.ensures in
    empties_fewer c.args.shape c.args.pages.now c.discount_row.new.pages c.args.def.now c.args.rid c.requires.defined c.requires.within map.tree c.at-map.ensures map.seven c.in_ok-had.field-0 c.in-Some.had c.in-Some.is (omega arith) counted.some
    counted.there counted.fewer counted.count counted.runs c.clear_filled.new.pages cleared.runs.touches cleared.runs.works.steady.is_told cleared.count c.args.notes.now cleared.clears c.args.row.now

pub returns-in-Some-clause-left : goal.returns-in-Some-clause-left
returns-in-Some-clause-left g c =
    let map = c.at-map.result in
    let counted = c.in_ok-had.ensures in
    left_counted c.args.shape c.args.pages.now c.discount_row.new.pages c.args.def.now c.args.rid c.requires.defined c.requires.within map.tree c.at-map.ensures map.seven c.in_ok-had.field-0 c.in-Some.had c.in-Some.is (omega arith) counted.some
    counted.there counted.fewer counted.count counted.runs c.args.row.now

pub returns-in-Some-clause-makes : goal.returns-in-Some-clause-makes
returns-in-Some-clause-makes g c =
    let map = c.at-map.result in
    let counted = c.in_ok-had.ensures in
    let cleared = c.in_ok-clear_filled.ensures in
    fewer_space c.args.shape c.args.pages.now c.discount_row.new.pages c.args.def.now c.args.rid c.requires.defined c.requires.within map.tree c.at-map.ensures map.seven c.in_ok-had.field-0 c.in-Some.had c.in-Some.is (omega arith) counted.some
    counted.there counted.fewer counted.count counted.runs c.clear_filled.new.pages cleared.runs.touches cleared.runs.works.steady.is_told cleared.count c.args.row.now

pub returns-in-Some-clause-seen : goal.returns-in-Some-clause-seen
returns-in-Some-clause-seen g c = λ told apart.
    let map = c.at-map.result in
    let shape = c.args.shape in
    let s = c.args.pages.now in
    let def = c.args.def.now in
    let counted = c.in_ok-had.ensures in
    let row = c.in_ok-clear_filled.ensures.seen (counted.runs.works.steady.is_told ∙ told) in
    let small : c.args.rid.block < 2 ^ 32 = omega arith in
    let there = subst (λ (o : Option ℕ). IfSome o (λ had. (t : Forest) → HoldsTree g.P.Pages s map.tree t → HasRow (used_row c.args.rid.block had) t)) c.in-Some.is counted.there in (
      row.0,
      record {
        used = used_by_line s def map.tree c.at-map.ensures map.seven c.args.rid.block (used_row c.args.rid.block c.in-Some.had) small refl refl there;
        slot = seen_before g.P.Pages shape s c.discount_row.new.pages def c.args.rid (Some row.0) c.requires.within c.requires.slot told counted.count counted.runs.touches
            (tree_apart s def map.tree c.at-map.ensures map.seven shape c.args.rid.block apart) row.1;
      },
    )

pub returns-in-Some-clause-runs : goal.returns-in-Some-clause-runs
returns-in-Some-clause-runs g c =
    let map = c.at-map.result in
    let counted = c.in_ok-had.ensures in
    runs_fewer c.args.shape c.args.pages.now c.discount_row.new.pages c.args.def.now c.args.rid c.requires.defined c.requires.within map.tree c.at-map.ensures map.seven c.in_ok-had.field-0 c.in-Some.had c.in-Some.is (omega arith) counted.some
    counted.there counted.fewer counted.count counted.runs c.args.row.now c.clear_filled.new.pages c.in_ok-clear_filled.ensures.runs

-- ---- it was the last one

-- the map counted none less, and changed nothing
same : (g : Over) (c : In_default g) → (g.P.Pages.state c.discount_row.new.pages).work ≡ (g.P.Pages.state c.args.pages.now).work
same g c = subst (λ (o : Option ℕ). IfNone o ((g.P.Pages.state c.discount_row.new.pages).work ≡ (g.P.Pages.state c.args.pages.now).work)) c.in_default.is c.in_ok-had.ensures.kept

-- so the block's line says that one is there
sees : (g : Over) (c : In_ok-line g) → SeesLast g.P.Pages c.args.shape c.args.pages.now c.line_of_used.new.pages c.args.def.now c.args.rid c.at-map.result.tree c.in_ok-line.line
sees g c =
    let map = c.at-map.result in
    let counted = c.in_ok-had.ensures in
    let line = c.in_ok-line.line in
    let seen = c.in_ok-line.ensures in
    let kept = subst (λ (o : Option ℕ). IfNone o ((g.P.Pages.state c.discount_row.new.pages).work ≡ (g.P.Pages.state c.args.pages.now).work)) c.in_default.is counted.kept in
    sees_last c.args.shape c.args.pages.now c.args.def.now c.requires.defined c.args.rid c.requires.within map.tree c.at-map.ensures map.seven c.discount_row.new.pages c.in_ok-had.field-0 c.in_default.is counted.last counted.runs
    kept c.line_of_used.new.pages line (omega arith) seen.there seen.named seen.used c.line_of_used.ensures.same seen.runs

pub returns-in_err-line-clause-runs : goal.returns-in_err-line-clause-runs
returns-in_err-line-clause-runs g c =
    let shape = c.args.shape in
    let s = c.args.pages.now in
    let def = c.args.def.now in
    let map = c.at-map.result in
    let kept = same g (goal.at.returns-in_err-line-clause-runs g c).In_default in
    runs_exit c.from_residual-in_err-line.result c.from_residual-in_err-line.ensures.1
    (runs_this_row shape s def c.requires.defined c.args.rid c.requires.within c.args.row.now
    (runs_of_table shape s def c.requires.defined c.args.rid c.requires.within map.tree c.at-map.ensures map.seven
    (runs_looking shape s def c.requires.defined c.args.rid c.requires.within map.tree c.at-map.ensures map.seven c.discount_row.new.pages c.in_ok-had.ensures.runs kept c.in_err-line.ensures.runs)))

pub returns-in_err-clear_filled-2-clause-runs : goal.returns-in_err-clear_filled-2-clause-runs
returns-in_err-clear_filled-2-clause-runs g c =
    let shape = c.args.shape in
    let s = c.args.pages.now in
    let def = c.args.def.now in
    let map = c.at-map.result in
    let last = sees g (goal.at.returns-in_err-clear_filled-2-clause-runs g c).In_ok-line in
    runs_exit c.from_residual-in_err-clear_filled-2.result c.from_residual-in_err-clear_filled-2.ensures.1
    (runs_on_slot shape s def c.requires.defined c.args.rid c.requires.within c.in_ok-line.line.rows last.few last.there c.args.row.now last.as_was
    (runs_of_table shape s def c.requires.defined c.args.rid c.requires.within map.tree c.at-map.ensures map.seven last.looking) c.in_err-clear_filled-2.ensures.runs)

-- the cell of the row
cell : (g : Over) (c : In_ok-cell g) → IsKeyedCell c.args.def.now c.in_ok-cell.cell c.args.row.now.values
cell g c = record { cell_is = c.in_ok-cell.ensures.cell; keys = cell_keys c.args.def.now c.args.row.now c.requires.defined c.requires.keyed }

pub cell_of-requires : goal.cell_of-requires
cell_of-requires g c = record { keys = cell_keys c.args.def.now c.args.row.now c.requires.defined c.requires.keyed }

pub returns-in_err-cell-clause-runs : goal.returns-in_err-cell-clause-runs
returns-in_err-cell-clause-runs g c =
    let shape = c.args.shape in
    let s = c.args.pages.now in
    let def = c.args.def.now in
    let map = c.at-map.result in
    let last = sees g (goal.at.returns-in_err-cell-clause-runs g c).In_ok-line in
    runs_exit c.from_residual-in_err-cell.result c.from_residual-in_err-cell.ensures.1
    (subst (λ fault. RunsOverPages g.P.Pages (IsBlockOrMapPage g.P.Pages shape s def c.args.rid.block) (IsBlockOrMapPage g.P.Pages shape s def c.args.rid.block)
    (BreaksExpected g.P.Pages shape s def (HasThisRow g.P.Pages shape s def c.args.rid c.args.row.now)) s c.clear_filled-2.new.pages (Some fault)) (sym c.in_err-cell.ensures.memory)
    (runs_memory (runs_on_slot shape s def c.requires.defined c.args.rid c.requires.within c.in_ok-line.line.rows last.few last.there c.args.row.now last.as_was
    (runs_of_table shape s def c.requires.defined c.args.rid c.requires.within map.tree c.at-map.ensures map.seven last.looking) c.in_ok-clear_filled-2.ensures.runs)))

pub returns-in_err-release_block-clause-runs : goal.returns-in_err-release_block-clause-runs
returns-in_err-release_block-clause-runs g c =
    let map = c.at-map.result in
    let line = c.in_ok-line.line in
    let at = goal.at.returns-in_err-release_block-clause-runs g c in
    let last = sees g at.In_ok-line in
    let cleared = c.in_ok-clear_filled-2.ensures in
    runs_exit c.from_residual-in_err-release_block.result c.from_residual-in_err-release_block.ensures.1
    (runs_last c.args.shape c.args.pages.now c.args.def.now c.requires.defined c.args.rid c.requires.within line.rows last.few last.there map.tree c.at-map.ensures map.seven c.args.row.now c.line_of_used.new.pages c.clear_filled-2.new.pages
    last.looking last.as_was cleared.runs cleared.count c.in_ok-cell.cell (cell g at.In_ok-cell) line last.is c.in_err-release_block.ensures.runs)

pub returns-clause-takes : goal.returns-clause-takes
returns-clause-takes g c owners forests st has =
    let map = c.at-map.result in
    let line = c.in_ok-line.line in
    let at = goal.at.returns-clause-takes g c in
    let last = sees g at.In_ok-line in
    let cleared = c.in_ok-clear_filled-2.ensures in
    empties_last c.args.shape c.args.pages.now c.args.def.now c.requires.defined c.args.rid c.requires.within line.rows last.few last.there map.tree c.at-map.ensures map.seven c.args.row.now c.line_of_used.new.pages c.clear_filled-2.new.pages
    last.looking last.as_was cleared.runs cleared.count c.in_ok-cell.cell (cell g at.In_ok-cell) c.args.notes.now line last.is c.release_block.new.notes c.release_block.new.pages c.in_ok-release_block.ensures.releases owners forests st has (last.last owners forests st)

pub returns-clause-seen : goal.returns-clause-seen
returns-clause-seen g c = λ told apart.
    let map = c.at-map.result in
    let s = c.args.pages.now in
    let def = c.args.def.now in
    let at = goal.at.returns-clause-seen g c in
    let line = c.in_ok-line.ensures in
    let last = sees g at.In_ok-line in
    let first = c.in_ok-had.ensures.runs.works.steady.is_told in
    let row = c.in_ok-clear_filled-2.ensures.seen (last.looking.works.steady.is_told ∙ told) in
    let small : c.args.rid.block < 2 ^ 32 = omega arith in (
      row.0,
      record {
        used = used_by_line s def map.tree c.at-map.ensures map.seven c.args.rid.block c.in_ok-line.line small line.named line.used (λ t held. line.there t (held_same first (same g at.In_default) held));
        slot = seen_same g.P.Pages c.args.shape s c.line_of_used.new.pages def c.args.rid (Some row.0) last.as_was row.1;
      },
    )

pub returns-clause-left : goal.returns-clause-left
returns-clause-left g c =
    none_left c.args.shape c.args.pages.now c.args.def.now c.requires.defined c.args.rid c.requires.within c.at-map.result.tree c.line_of_used.new.pages c.in_ok-line.line
    (sees g (goal.at.returns-clause-left g c).In_ok-line) c.args.row.now

pub returns-clause-makes : goal.returns-clause-makes
returns-clause-makes g c owners forests st =
    let map = c.at-map.result in
    let line = c.in_ok-line.line in
    let last = sees g (goal.at.returns-clause-makes g c).In_ok-line in
    let cleared = c.in_ok-clear_filled-2.ensures in
    last_space c.args.shape c.args.pages.now c.args.def.now c.requires.defined c.args.rid c.requires.within line.rows last.few last.there map.tree c.at-map.ensures map.seven c.args.row.now c.in_ok-cell.cell c.in_ok-cell.ensures.cell
    c.line_of_used.new.pages c.clear_filled-2.new.pages last.looking last.as_was cleared.runs cleared.count line last.is c.release_block.new.pages c.in_ok-release_block.ensures.makes owners forests st (last.last owners forests st)

pub returns-clause-runs : goal.returns-clause-runs
returns-clause-runs g c =
    let map = c.at-map.result in
    let line = c.in_ok-line.line in
    let at = goal.at.returns-clause-runs g c in
    let last = sees g at.In_ok-line in
    let cleared = c.in_ok-clear_filled-2.ensures in
    runs_last c.args.shape c.args.pages.now c.args.def.now c.requires.defined c.args.rid c.requires.within line.rows last.few last.there map.tree c.at-map.ensures map.seven c.args.row.now c.line_of_used.new.pages c.clear_filled-2.new.pages
    last.looking last.as_was cleared.runs cleared.count c.in_ok-cell.cell (cell g at.In_ok-cell) line last.is c.in_ok-release_block.ensures.runs
