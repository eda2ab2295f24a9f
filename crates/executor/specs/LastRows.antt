-- The pages of a block that aren't behind its last row.
use Rattle.std.specs.Prelude.{ℕ, List, Contains, length}
use Rattle.mdc_ast.specs.declared.definition.TableDef.{TableDef}
use Rattle.store_api.specs.declared.pages.Pages.{Ghosts}
use Rattle.store_api.specs.declared.shape.Shape.{Shape}
use Rattle.extent_map.specs.declared.kind.Kind.{Kind}
use Rattle.block_map.specs.MapLines.{used_blocks}
use Rattle.block_rows.specs.CountedRows.{IsCountedPage}
use Rattle.mdc_sound.specs.StandingTable.{StandsTable, TableForests, pages_of}
use Rattle.mdc_sound.specs.TableRows.{rows_in_block}
use Rattle.row_entries.specs.SoundEntries.{HasSoundIndexes}

-- a page of a block that isn't behind its last row: where the pages are told, fewer rows than it has lie on those before it
abbrev pub IsPageToLastRow : {S : Type 0} → Ghosts S → Shape → S → TableDef → ℕ → ℕ → Type 0
IsPageToLastRow g shape s def block p = IsCountedPage g shape s def block (length (rows_in_block shape (pages_of g s) def block)) p

-- such a page of a block that is Used, where the table was told to stand with sound record indexes
abbrev pub IsRowPageOfUsed : {S : Type 0} → Ghosts S → Shape → S → TableDef → ℕ → ℕ → Type 0
IsRowPageOfUsed g shape s def block p =
    (owners : List Kind) (forests : TableForests) → StandsTable g shape s def owners forests → HasSoundIndexes g shape s def owners forests
    → Contains (used_blocks forests.map) block × IsPageToLastRow g shape s def block p
