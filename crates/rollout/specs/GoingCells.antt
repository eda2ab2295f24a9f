-- Which of the cells that the composite index lists go: those of whose rows each qualifies.
use Rattle.std.specs.Prelude.{◌≡◌, ℕ, Bool, true, false, List, [], ◌∷◌, Contains, Option}
use Rattle.std.specs.List.{AllZip}
use Rattle.mdc_values.specs.declared.value.Value.{Value}
use Rattle.mdc_ast.specs.Truth.{qualifies}
use Rattle.mdc_ast.specs.declared.definition.TableDef.{TableDef}
use Rattle.mdc_ast.specs.declared.predicate.Pred.{Pred}
use Rattle.store_api.specs.declared.fault.StoreFault.{StoreFault}
use Rattle.store_api.specs.declared.fault.StoreFault.TheVariants.{Damaged, Memory}
use Rattle.block_index.specs.Cells.{FitsCell}
use Rattle.block_index.specs.ListedCells.{AreCellEntries}
use Rattle.block_index.specs.declared.listed_cells.CellBlock.{CellBlock}
use Rattle.extent_map.specs.declared.kind.Kind.{Kind}
use Rattle.entry_tree.specs.Forest.{leaf_entries}
use Rattle.mdc_sound.specs.StandingTable.{TableForests}
use Rattle.table_trees.specs.RowCells.{IsCellOf}

-- the cell has a value with a key for each dimension column, and each row of it qualifies, or none does
abbrev pub JudgesCell : TableDef → Option Pred → CellBlock → Bool → Type 0
JudgesCell def pred one goes = FitsCell def one.cell.values × ((values : List Value) → IsCellOf def one.cell values → qualifies pred values ≡ goes)

-- so it is of each of some cells
abbrev pub JudgesCells : TableDef → Option Pred → List CellBlock → List Bool → Type 0
JudgesCells def pred found going = AllZip (JudgesCell def pred) found going

-- the blocks of the cells that go
abbrev pub going_numbers : List CellBlock → List Bool → List ℕ
going_numbers (one ∷ found) (true ∷ going) = one.block ∷ going_numbers found going
going_numbers (one ∷ found) (false ∷ going) = going_numbers found going
going_numbers found going = []

-- a cell couldn't be judged: there was no memory, or it isn't a cell of the table
pub data FailsJudging (def : TableDef) (fault : StoreFault) (NoCell : Type 0) : Type 0 where
  memory : fault ≡ Memory → FailsJudging def fault NoCell
  no_cell : fault ≡ Damaged (record { page = def.roots.composite; rule = 10 }) → NoCell → FailsJudging def fault NoCell

-- some cell of these isn't one of the table
abbrev pub HasNoCell : TableDef → List CellBlock → Type 0
HasNoCell def found = (one : CellBlock) × Contains found one × (FitsCell def one.cell.values → ⊥)

-- these are the cells that the composite index lists, each with its block
abbrev pub ListsCells : TableDef → List CellBlock → List Kind → TableForests → Type 0
ListsCells def found owners forests = (all : List CellBlock) → AreCellEntries def (leaf_entries forests.composite) all → found ≡ all
