-- A row that has a key in a record index: by what the index and the block map name, and by the rows of the table.
use Rattle.std.specs.Prelude.{◌≡◌, ◌⊎◌, ℕ, IsTrue, List, Contains, Option, Some, None}
use Rattle.mdc_words.specs.ByteOrder.{Entry}
use Rattle.mdc_values.specs.declared.rid.Rid.{Rid}
use Rattle.mdc_values.specs.declared.value.Value.{Value}
use Rattle.mdc_ast.specs.declared.definition.TableDef.{TableDef}
use Rattle.store_api.specs.declared.fault.Damage.{Damage}
use Rattle.store_api.specs.declared.pages.Pages.{Ghosts}
use Rattle.entry_tree.specs.EntryBounds.{IsEntryOf}
use Rattle.entry_tree.specs.Forest.{Forest}
use Rattle.table_trees.specs.TableTrees.{map_place}
use Rattle.table_trees.specs.TreesBeside.{BreaksTreeAt, IsTreePageAt}
use Rattle.mdc_sound.specs.TableRows.{PlacedRow}
use Rattle.record_index.specs.FoundRids.{IsRid, entry_of_rid}
use Rattle.record_index.specs.RecordIndexes.{key_in_record_index, place_of_record_index}
use Rattle.live_rows.specs.LiveRids.{BreaksMapAt, is_used_block}

-- ---- by what is named

-- an entry of a key names the place, which lies in a Used block and isn't one of some
pub record IsLiveTwin (key : List ℕ) (entries : List Entry) (map_tree : Forest) (but : List Rid) (rid : Rid) : Type 0 where
  pub place : IsRid rid
  pub there : IsEntryOf (entry_of_rid key rid) entries
  pub used : IsTrue (is_used_block map_tree rid.block)
  pub outside : Contains but rid → ⊥

-- such a place, or that there is none
abbrev pub FindsLiveTwin : List ℕ → List Entry → Forest → List Rid → Option Rid → Type 0
FindsLiveTwin key entries map_tree but None = (rid : Rid) → IsLiveTwin key entries map_tree but rid → ⊥
FindsLiveTwin key entries map_tree but (Some rid) = IsLiveTwin key entries map_tree but rid

-- ---- by rows

-- a row of the table has the key of these values in a record index, and its place isn't one of some
pub record IsTwin (def : TableDef) (index : ℕ) (rows : List PlacedRow) (values : List Value) (but : List Rid) (placed : PlacedRow) : Type 0 where
  pub there : Contains rows placed
  pub same_key : key_in_record_index def index placed.row.values ≡ key_in_record_index def index values
  pub outside : Contains but placed.rid → ⊥

-- the place of such a row, or that there is none
abbrev pub FindsTwin : TableDef → ℕ → List PlacedRow → List Value → List Rid → Option Rid → Type 0
FindsTwin def index rows values but None = (placed : PlacedRow) → IsTwin def index rows values but placed → ⊥
FindsTwin def index rows values but (Some rid) = (placed : PlacedRow) × (placed.rid ≡ rid) × IsTwin def index rows values but placed

-- ---- which pages, and which damage

-- the pages that come to hand: those of the index and of the block map, where they are told to be trees
abbrev pub IsLookPage : {S : Type 0} → Ghosts S → S → TableDef → ℕ → ℕ → Type 0
IsLookPage g s def index p = IsTreePageAt g s (place_of_record_index def index) p ⊎ IsTreePageAt g s (map_place def) p

-- what may be named: the root of the index, where that isn't told to be a tree, or of the block map, where that isn't told to be one
abbrev pub BreaksLook : {S : Type 0} → Ghosts S → S → TableDef → ℕ → Damage → Type 0
BreaksLook g s def index damage = BreaksTreeAt g s (place_of_record_index def index) damage ⊎ BreaksMapAt g s (map_place def) damage
