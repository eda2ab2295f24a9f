-- Row numbers and unique keys of one table, as they are gathered from its rows and judged.
use Rattle.std.specs.Prelude.{◌≡◌, ◌≢◌, ◌⊎◌, ◌<◌, ◌+◌, ℕ, IsTrue, List, map, AllPairs, Contains}
use Rattle.std.specs.List.{AllByRecursion}
use Rattle.mdc_ast.specs.declared.definition.ColumnDef.{ColumnDef}
use Rattle.mdc_ast.specs.declared.definition.IndexDef.{IndexDef}
use Rattle.mdc_ast.specs.declared.definition.KeyPart.{KeyPart}
use Rattle.mdc_ast.specs.declared.definition.TableDef.{TableDef}
use Rattle.store_api.specs.StoreState.{StoreState}
use Rattle.store_api.specs.declared.shape.Shape.{Shape}
use Rattle.key_codec.specs.Keys.{key_bytes}
use Rattle.entry_tree.specs.Forest.{Forest}
use Rattle.block_map.specs.MapLines.{used_blocks}
use Rattle.table_trees.specs.ToldPages.{PageList}
use Rattle.mdc_sound.specs.BlockRules.{AreBlockRowsSound, AreRowNumbersSound, IsUniqueSound}
use Rattle.mdc_sound.specs.TableRows.{PlacedRow, rows_in_table}
use Rattle.file_check.specs.Known.{HasBlockMap}

-- the block map of a table stands, the pages of its Used blocks are row pages, and their rows fit
pub record HasTableRows (shape : Shape) (pages : PageList) (def : TableDef) (map_tree : Forest) : Type 0 where
  pub map : HasBlockMap shape pages def map_tree
  pub rows : (block : ℕ) → Contains (used_blocks map_tree) block → AreBlockRowsSound shape pages def block

-- P holds of the rows of a table, where they are told to be there
abbrev pub WhereRows : StoreState → Shape → TableDef → (List PlacedRow → Type 0) → Type 0
WhereRows s shape def P = IsTrue s.is_told → (map_tree : Forest) → HasTableRows shape s.work def map_tree → P (rows_in_table shape s.work def map_tree)

-- the pages tell a table's rows
abbrev pub TellsRows : Shape → TableDef → PageList → Type 0
TellsRows shape def pages = (map_tree : Forest) × HasTableRows shape pages def map_tree

-- these are the numbers of the rows
abbrev pub AreNumbersOf : List ℕ → List PlacedRow → Type 0
AreNumbersOf numbers rows = numbers ≡ map (λ placed. placed.row.number) rows

-- these are the keys of the rows
abbrev pub AreKeysOf : List ColumnDef → List KeyPart → List (List ℕ) → List PlacedRow → Type 0
AreKeysOf columns parts keys rows = keys ≡ map (λ placed. key_bytes columns parts placed.row.values) rows

-- numbers that lie below the next one, and differ
pub record AreApartBelow (next : ℕ) (numbers : List ℕ) : Type 0 where
  pub below_next : AllByRecursion (λ number. number < next) numbers
  pub differ : AllPairs (λ a b. a ≢ b) numbers

-- the row numbers of a table are sound, and so is each UNIQUE index
pub record AreTableKeys (def : TableDef) (rows : List PlacedRow) : Type 0 where
  pub numbers : AreRowNumbersSound def rows
  pub unique : AllByRecursion (IsUniqueSound rows) def.indexes

-- this is the table page of a table whose row numbers aren't sound, or in which a UNIQUE index isn't
pub record BreaksTableKeys (def : TableDef) (rows : List PlacedRow) (page : ℕ) : Type 0 where
  pub is_its : page ≡ 1 + def.number
  pub broken : (AreRowNumbersSound def rows → ⊥) ⊎ ((index : IndexDef) × Contains def.indexes index × (IsUniqueSound rows index → ⊥))
