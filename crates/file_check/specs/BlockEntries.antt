-- What judging the block indexes of a table says: each has the entry of the first row of each block, and as many entries as there are blocks.
use Rattle.std.specs.Prelude.{Contains, List, Some, length, slice_get, ℕ, ◌≡◌}
use Rattle.std.specs.List.{AllByRecursion}
use Rattle.mdc_ast.specs.declared.definition.TableDef.{TableDef}
use Rattle.store_api.specs.declared.shape.Shape.{Shape}
use Rattle.entry_tree.specs.Forest.{Forest, leaf_entries}
use Rattle.table_trees.specs.ToldPages.{HasTree, PageList}
use Rattle.mdc_sound.specs.TableRows.{PlacedRow, rows_in_block}
use Rattle.file_check.specs.Judging.{BreaksAny}
use Rattle.file_check.specs.TableIndexes.{PlacedIndex, entry_of_kind, indexes_of_kind}
use Rattle.file_check.specs.declared.table_index.IndexKind.TheVariants.{Blocks}

-- ---- entries of rows

-- a block index has the entry of a row's block
abbrev pub HasEntry : PageList → TableDef → PlacedRow → PlacedIndex → Type 0
HasEntry pages def placed index = (tree : Forest) → HasTree pages index.place tree → Contains (leaf_entries tree) (entry_of_kind Blocks def index.parts placed)

-- its root is this page, and it hasn't
abbrev pub LacksEntry : PageList → TableDef → PlacedRow → PlacedIndex → ℕ → Type 0
LacksEntry pages def placed index p =
    (p ≡ index.place.root) × ((tree : Forest) → HasTree pages index.place tree → Contains (leaf_entries tree) (entry_of_kind Blocks def index.parts placed) → ⊥)

-- all block indexes have that of the first of these rows, if there are any
abbrev pub IsFirstEntered : PageList → TableDef → List PlacedRow → Type 0
IsFirstEntered pages def rows = (placed : PlacedRow) → slice_get rows 0 ≡ Some placed → AllByRecursion (HasEntry pages def placed) (indexes_of_kind Blocks def)

-- one at this root hasn't
abbrev pub LacksFirst : PageList → TableDef → List PlacedRow → ℕ → Type 0
LacksFirst pages def rows p = (placed : PlacedRow) × (slice_get rows 0 ≡ Some placed) × BreaksAny (LacksEntry pages def placed) (indexes_of_kind Blocks def) p

-- the same of the rows of a block
abbrev pub IsBlockEntered : Shape → PageList → TableDef → ℕ → Type 0
IsBlockEntered shape pages def block = IsFirstEntered pages def (rows_in_block shape pages def block)

abbrev pub LacksBlock : Shape → PageList → TableDef → ℕ → ℕ → Type 0
LacksBlock shape pages def block = LacksFirst pages def (rows_in_block shape pages def block)

-- ---- how many entries there are

-- an index has so many
abbrev pub HasEntryCount : PageList → ℕ → PlacedIndex → Type 0
HasEntryCount pages n index = (tree : Forest) → HasTree pages index.place tree → length (leaf_entries tree) ≡ n

-- its root is this page, and it hasn't
abbrev pub BreaksEntryCount : PageList → ℕ → PlacedIndex → ℕ → Type 0
BreaksEntryCount pages n index p = (p ≡ index.place.root) × ((tree : Forest) → HasTree pages index.place tree → length (leaf_entries tree) ≡ n → ⊥)
