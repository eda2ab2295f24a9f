-- A row of a block map that was found, and where its entry stands.
use Rattle.std.specs.Prelude.{◌≡◌, ◌<◌, ◌^◌, ℕ, Option, Some, None}
use Rattle.store_api.specs.declared.pages.Pages.{Ghosts}
use Rattle.entry_tree.specs.Finding.{IsFoundEntry}
use Rattle.entry_tree.specs.Forest.{Forest}
use Rattle.entry_tree.specs.declared.tree.Tree.{Tree}
use Rattle.block_map.specs.BlockMaps.{HasRow}
use Rattle.block_map.specs.MapRows.{row_entry}
use Rattle.block_map.specs.declared.looking.FoundRow.{FoundRow}
use Rattle.block_map.specs.declared.row.BlockRow.{BlockRow}

-- the row of what was found, if anything was
abbrev pub found_row : Option FoundRow → Option BlockRow
found_row None = None
found_row (Some found) = Some found.row

-- its entry says what the row does, and stands at its place as long as the pages are the same
pub record IsRowFound {S : Type 0} (g : Ghosts S) (s : S) (tree : Tree) (found : FoundRow) : Type 0 where
  pub entry : found.place.entry ≡ row_entry found.row
  pub few : found.row.rows < 2 ^ 16
  pub stands : IsFoundEntry g s tree found.place

-- a block map has no row of the block
abbrev pub LacksBlock : ℕ → Forest → Type 0
LacksBlock block map_tree = (row : BlockRow) → row.block ≡ block → HasRow row map_tree → ⊥
