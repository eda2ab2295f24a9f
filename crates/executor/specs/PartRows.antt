-- The rows of a table in parts of its lists, and the pages that are looked at for them.
use Rattle.std.specs.Prelude.{◌≡◌, ◌⊎◌, ℕ, List, Some, nat_lt, filter, flat_map, length, Contains}
use Rattle.mdc_ast.specs.declared.definition.TableDef.{TableDef}
use Rattle.store_api.specs.declared.pages.Pages.{Ghosts}
use Rattle.store_api.specs.declared.shape.Shape.{Shape}
use Rattle.extent_map.specs.declared.kind.Kind.{Kind}
use Rattle.block_map.specs.MapLines.{used_blocks}
use Rattle.table_trees.specs.TableTrees.{map_place}
use Rattle.table_trees.specs.TreesBeside.{IsTreePageAt}
use Rattle.mdc_sound.specs.StandingTable.{StandsTable, TableForests, pages_of}
use Rattle.mdc_sound.specs.TableRows.{PlacedRow, rows_in_block}
use Rattle.row_entries.specs.SoundEntries.{HasSoundIndexes}
use Rattle.block_lists.specs.declared.part.Part.{Part}
use Rattle.block_lists.specs.Parts.{in_part}
use Rattle.executor.specs.LastRows.{IsRowPageOfUsed}

-- ---- rows

-- those of some rows that are in a part
abbrev pub rows_in_part : List PlacedRow → Part → List PlacedRow
rows_in_part rows part = filter (λ placed. in_part part placed.rid) rows

-- those that are in parts, part by part
abbrev pub rows_in_parts : List PlacedRow → List Part → List PlacedRow
rows_in_parts rows parts = flat_map (rows_in_part rows) parts

-- the parts with a row
abbrev pub parts_with_rows : List PlacedRow → List Part → List Part
parts_with_rows rows parts = filter (λ part. nat_lt 0 (length (rows_in_part rows part))) parts

-- each listed slot of a part has a row where its block is Used, if the table was told to stand with sound record indexes
abbrev pub HasListedRows : {S : Type 0} → Ghosts S → Shape → S → TableDef → Part → Type 0
HasListedRows g shape s def part =
    (slots : List ℕ) → part.slots ≡ Some slots → (owners : List Kind) (forests : TableForests) → StandsTable g shape s def owners forests
    → HasSoundIndexes g shape s def owners forests → Contains (used_blocks forests.map) part.block
    → (slot : ℕ) → Contains slots slot → (placed : PlacedRow) × Contains (rows_in_block shape (pages_of g s) def part.block) placed × (placed.rid.slot ≡ slot)

-- ---- pages

-- a page of the block map, or one of a block up to its last row, where that is Used
abbrev pub IsPageForPart : {S : Type 0} → Ghosts S → Shape → S → TableDef → ℕ → ℕ → Type 0
IsPageForPart g shape s def block p = IsTreePageAt g s (map_place def) p ⊎ IsRowPageOfUsed g shape s def block p

-- a page of the block of one of these parts, up to its last row, where that is Used
pub record IsPageOfParts {S : Type 0} (g : Ghosts S) (shape : Shape) (s : S) (def : TableDef) (parts : List Part) (p : ℕ) : Type 0 where
  pub part : Part
  pub there : Contains parts part
  pub page : IsRowPageOfUsed g shape s def part.block p

-- a page of the block map, or of such a block
abbrev pub IsPartsPage : {S : Type 0} → Ghosts S → Shape → S → TableDef → List Part → ℕ → Type 0
IsPartsPage g shape s def parts p = IsTreePageAt g s (map_place def) p ⊎ IsPageOfParts g shape s def parts p
