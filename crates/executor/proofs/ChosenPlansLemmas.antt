-- The plans that the plan rule chooses: they cover their predicate, may be asked of the table, and have rows in few blocks.
use Rattle.std.proofs.Common.{◌≡◌, ◌<◌, ℕ, arith, length, true}
use Rattle.std.specs.Prelude.{IsTrue, None, Option, Some}
use Rattle.mdc_ast.specs.TableLimits.{IsTableDef}
use Rattle.mdc_ast.specs.declared.definition.TableDef.{TableDef}
use Rattle.mdc_ast.specs.declared.predicate.Pred.{Pred}
use Rattle.mdc_ast.specs.declared.row.Row.{Row}
use Rattle.mdc_ast.specs.declared.statement.PlanMode.{PlanMode}
use Rattle.store_api.specs.declared.pages.Pages.{Ghosts}
use Rattle.store_api.specs.declared.shape.Shape.{Shape}
use Rattle.block_map.specs.MapLines.{used_blocks}
use Rattle.block_rows.specs.HeldRows.{HasReadValues}
use Rattle.mdc_sound.specs.StandingTable.{pages_of}
use Rattle.mdc_sound.specs.TableRows.{rows_in_block}
use Rattle.mdc_sound.proofs.ElementsLemmas.{contains_flat}
use Rattle.mdc_table.proofs.ReadValuesLemmas.{read_of_fitting}
use Rattle.live_rows.proofs.StandingTwinsLemmas.{lies_in_used}
use Rattle.plan_chooser.specs.Kinds.{samples}
use Rattle.plan_chooser.specs.PlanRows.{fits_plan}
use Rattle.plan_chooser.specs.Rule.{goes_by_cells, plan_of}
use Rattle.plan_chooser.proofs.FewLemmas.{plan_few}
use Rattle.plan_chooser.proofs.FitLemmas.{plan_of_fits}
use Rattle.plan_chooser.proofs.KindsLemmas.{judged_kinds, samples_have_keys}
use Rattle.plan_chooser.proofs.PlanLemmas.{fits_plan-Scan, plan_row-Scan}
use Rattle.plan_chooser.proofs.PlannedLemmas.{plan_of_true}
use Rattle.executor.specs.Judging.{IsJudged}
use Rattle.executor.specs.Planned.{CoversIfAny, IsChosenPageIfSound, IsPlannedRowPage}

-- a table's dimensions and indexes have numbers of 8 bits
pub few_dims : (def : TableDef) → IsTableDef def.number def → length def.dims < 256
few_dims def limits = omega (arith, limits.dims.few)

pub few_indexes : (def : TableDef) → IsTableDef def.number def → length def.indexes < 256
few_indexes def limits = omega (arith, limits.indexes.few)

pub chosen_fits : (def : TableDef) (mode : PlanMode) (pred : Option Pred) → IsJudged def pred → IsTrue (fits_plan def (plan_of def mode pred))
chosen_fits def mode None judged = fits_plan-Scan def
chosen_fits def mode (Some pred) judged =
    let row : Row = record { number = 0; values = samples def.columns } in
    let read : HasReadValues def.columns row = record { each = samples_have_keys def.columns } in
    plan_of_fits def mode pred (judged_kinds def pred (judged row read))

pub chosen_covers : (def : TableDef) (mode : PlanMode) (pred : Option Pred) → CoversIfAny def (plan_of def mode pred) pred
chosen_covers def mode None values may qualified = plan_row-Scan def values
chosen_covers def mode (Some pred) values may qualified = plan_of_true def mode pred values may qualified

pub few_pages : {S : Type 0} {g : Ghosts S} (shape : Shape) (s : S) (def : TableDef) (mode : PlanMode) (pred : Option Pred) → IsJudged def pred → goes_by_cells mode ≡ true
    → (p : ℕ) → IsPlannedRowPage g shape s def (plan_of def mode pred) p → IsChosenPageIfSound g shape s def pred p
few_pages shape s def mode None judged goes p planned owners forests st sound =
    let (block, is, page) = planned owners forests st sound in (block, record { used = is.used; may = tt }, page)
few_pages {g = g} shape s def mode (Some pred) judged goes p planned owners forests st sound =
    let (block, is, page) = planned owners forests st sound in
    let there = contains_flat (rows_in_block shape (pages_of g s) def) (used_blocks forests.map) block is.placed is.used is.there in
    let read = read_of_fitting def.columns is.placed.row (lies_in_used shape s def owners forests st is.placed there).fits.values in
    (block, record { used = is.used; may = (is.placed, is.there, plan_few def mode pred is.placed.row.values goes (judged is.placed.row read) is.has) }, page)
