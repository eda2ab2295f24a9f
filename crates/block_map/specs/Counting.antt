-- The row of a Used block, by how many rows the block has.
use Rattle.std.specs.Prelude.{◌≡◌, ◌<◌, ◌≤◌, ◌^◌, ◌⊎◌, ℕ, Option, Some, None}
use Rattle.store_api.specs.declared.pages.Pages.{Ghosts}
use Rattle.entry_tree.specs.Forest.{Forest}
use Rattle.entry_tree.specs.HeldTrees.{HoldsTree}
use Rattle.entry_tree.specs.declared.tree.Tree.{Tree}
use Rattle.block_map.specs.BlockMaps.{HasRow, IsMapForm}
use Rattle.block_map.specs.FoundRows.{IsRowFound}
use Rattle.block_map.specs.declared.looking.FoundRow.{FoundRow}
use Rattle.block_map.specs.declared.row.BlockRow.{BlockRow}
use Rattle.block_map.specs.declared.state.BlockState.TheVariants.{Used}

-- the row of a Used block with so many rows
abbrev pub used_row : ℕ → ℕ → BlockRow
used_row block rows = record { block = block; state = Used; rows = rows }

-- P of the number of rows, where a block map has the block as a Used one
abbrev pub IfUsed : ℕ → (ℕ → Type 0) → Forest → Type 0
IfUsed block P map_tree = (rows : ℕ) → rows < 2 ^ 16 → HasRow (used_row block rows) map_tree → P rows

-- a row is that of a Used block with fewer rows than so many, and fewer than the highest number
abbrev pub HasRoom : ℕ → BlockRow → Type 0
HasRoom most row = (row.state ≡ Used) × (row.rows < most) × (row.rows < 65535)

-- a row isn't that of a Used block, or has as many
abbrev pub LacksRoom : ℕ → BlockRow → Type 0
LacksRoom most row = row.state ≡ Used → (most ≤ row.rows) ⊎ (row.rows ≡ 65535)

-- the row of a Used block that the map had, and where it stands now
pub record FindsUsedRow {S : Type 0} (g : Ghosts S) (old new : S) (tree : Tree) (block : ℕ) (found : FoundRow) : Type 0 where
  pub used : found.row ≡ used_row block found.row.rows
  pub there : (t : Forest) → HoldsTree g old tree t → HasRow found.row t
  pub stands : IsRowFound g new tree found

-- the same, or that the map hasn't the block as a Used one
abbrev pub FindsUsed : {S : Type 0} → Ghosts S → S → S → Tree → ℕ → Option FoundRow → Type 0
FindsUsed g old new tree block None = (t : Forest) → HoldsTree g old tree t → IsMapForm t → IfUsed block (λ rows. ⊥) t
FindsUsed g old new tree block (Some found) = FindsUsedRow g old new tree block found
