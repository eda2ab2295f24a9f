-- One cell of the composite index: its rows qualify where a row does that is made of the cell.
use Rattle.std.proofs.Common.{◌≡◌, ◌<◌, ◌∙◌, ℕ, List, get_or, length, true, Some, sym, subst}
use Rattle.std.specs.Prelude.{Contains, Option, slice_index_or}
use Rattle.mdc_values.specs.declared.value.Value.{Value}
use Rattle.mdc_ast.specs.TableLimits.{IsTableDef}
use Rattle.mdc_ast.specs.Truth.{qualifies}
use Rattle.mdc_ast.specs.declared.definition.TableDef.{TableDef}
use Rattle.mdc_ast.specs.declared.predicate.Pred.{Pred}
use Rattle.mdc_ast.specs.declared.row.Row.{Row}
use Rattle.store_api.specs.declared.fault.StoreFault.{StoreFault}
use Rattle.store_api.specs.declared.pages.Pages.{Ghosts}
use Rattle.store_api.specs.declared.shape.Shape.{Shape}
use Rattle.extent_map.specs.declared.kind.Kind.{Kind}
use Rattle.block_index.specs.Cells.{FitsCell}
use Rattle.block_index.specs.declared.listed_cells.CellBlock.{CellBlock}
use Rattle.block_index.proofs.CellsLemmas.{fits_cell-row}
use Rattle.table_trees.specs.RowCells.{IsCellOf}
use Rattle.mdc_sound.specs.Placing.Spot.{OtherBlock, UsedBlock}
use Rattle.mdc_sound.specs.StandingTable.{StandsTable, TableForests, spots_of}
use Rattle.table_blocks.proofs.FillBegunLemmas.{row_keys}
use Rattle.table_blocks.proofs.OpeningLemmas.{used_spot_now}
use Rattle.rollout.specs.Applying.{applies_to}
use Rattle.rollout.specs.CellRows.{IsRowOfCell}
use Rattle.rollout.specs.GoingCells.{FailsJudging, HasNoCell}
use Rattle.rollout.specs.RolledBlocks.{IsBlockOfCell}
use Rattle.rollout.proofs.NamedDimensionsLemmas.{qualify_alike}

-- the rows of a cell qualify where the row that is made of it does
pub cell_qualifies : (def : TableDef) (pred : Option Pred) (one : CellBlock) (made : Row) → applies_to pred def ≡ true → IsRowOfCell def one.cell made → (values : List Value) → IsCellOf def one.cell values → qualifies pred values ≡ qualifies pred made.values
cell_qualifies def pred one made applies of values is = sym (qualify_alike def made.values values (λ column dimension. of.same values is column dimension) pred applies)

module _ {S : Type 0} (g : Ghosts S) (shape : Shape) (def : TableDef) (defined : IsTableDef def.number def) (s : S) (one : CellBlock) (owners : List Kind) (forests : TableForests) (st : StandsTable g shape s def owners forests)
    (is : IsBlockOfCell g shape s def one owners forests) where
  -- each row of the block is of the cell
  pub each_of_cell : (slots : List (Option Row)) → slice_index_or (spots_of g shape s def owners forests) one.block OtherBlock ≡ UsedBlock slots → (row : Row) → Contains slots (Some row) → IsCellOf def one.cell row.values
  each_of_cell slots spot row there =
      let now = used_spot_now shape s def owners forests defined st one.block slots spot in
      let both : UsedBlock is.slots ≡ UsedBlock slots = sym is.spot ∙ spot in
      let same : is.slots ≡ slots = cc in
      is.cell ∙ now.1.cell.one_cell is.row (subst (λ l. Contains l (Some is.row)) same is.there) ∙ sym (now.1.cell.one_cell row there)

  -- its cell fits the table
  pub cell_fits : FitsCell def one.cell.values
  cell_fits =
      let now = used_spot_now shape s def owners forests defined st one.block is.slots is.spot in
      fits_cell-row def one.cell is.row.values is.cell (row_keys def is.row defined (now.1.cell.fit is.row is.there))

-- a cell that couldn't be judged is one of some
pub fails_among : (def : TableDef) (found : List CellBlock) (n : ℕ) (one : CellBlock) → n < length found → one ≡ get_or found n one → (fault : StoreFault) → FailsJudging def fault (FitsCell def one.cell.values → ⊥) → FailsJudging def fault (HasNoCell def found)
fails_among def found n one low is fault (FailsJudging.memory memory) = FailsJudging.memory memory
fails_among def found n one low is fault (FailsJudging.no_cell damaged none) = FailsJudging.no_cell damaged (one, (n, low, sym is), none)
