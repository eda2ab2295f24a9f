-- Which entries left the record indexes of a table: those of some rows, and no other.
use Rattle.std.specs.Prelude.{◌≡◌, ◌≢◌, ◌↔◌, ◌+◌, ℕ, List, [], ◌∷◌, ◌++◌, false, length, Contains}
use Rattle.mdc_words.specs.ByteOrder.{Entry}
use Rattle.mdc_ast.specs.declared.definition.IndexDef.{IndexDef}
use Rattle.mdc_ast.specs.declared.definition.TableDef.{TableDef}
use Rattle.entry_tree.specs.EntryBounds.{IsEntryOf}
use Rattle.entry_tree.specs.Forest.{Forest, leaf_entries}
use Rattle.node_page.specs.Entries.{names_block}
use Rattle.block_index.specs.Listing.{LosesEntry}
use Rattle.mdc_sound.specs.TableRows.{PlacedRow}
use Rattle.row_entries.specs.ChosenIndexes.{HasEntry, MoveChosen, all_chosen, entry_of}
use Rattle.rollout.specs.SweptIndexes.{key_width_of}

-- ---- whichever way they went, and whatever the index had

-- As many entries left an index as there are rows. Each that is there was there, each that was and names none of the blocks is
-- there, and none of a row is left.
pub record KeptFrom (def : TableDef) (blocks : List ℕ) (rows : List PlacedRow) (which : IndexDef) (was is : Forest) : Type 0 where
  pub had : (y : Entry) → IsEntryOf y (leaf_entries is) → IsEntryOf y (leaf_entries was)
  pub stay : (y : Entry) → IsEntryOf y (leaf_entries was) → names_block blocks (key_width_of def which) y ≡ false → IsEntryOf y (leaf_entries is)
  pub went : (placed : PlacedRow) → Contains rows placed → HasEntry def placed.row placed.rid which is → ⊥
  pub counted : length (leaf_entries was) ≡ length (leaf_entries is) + length rows

-- so it is of each of some indexes
abbrev pub EachKept : TableDef → List ℕ → List PlacedRow → List IndexDef → List Forest → List Forest → Type 0
EachKept def blocks rows (which ∷ indexes) (t ∷ trees) (u ∷ after) = KeptFrom def blocks rows which t u × EachKept def blocks rows indexes trees after
EachKept def blocks rows [] [] [] = Unit {0}
EachKept def blocks rows indexes trees after = ⊥

-- so it is of each record index, where rows of some blocks went
abbrev pub KeepsEntries : TableDef → List ℕ → List Forest → List PlacedRow → List Forest → Type 0
KeepsEntries def blocks trees rows after = EachKept def blocks rows def.indexes trees after

-- ---- where each row had its entry

-- The index had the entry of each of these rows, and has the entries that it had but those.
pub record LostFrom (def : TableDef) (rows : List PlacedRow) (which : IndexDef) (was is : Forest) : Type 0 where
  pub had : (placed : PlacedRow) → Contains rows placed → HasEntry def placed.row placed.rid which was
  pub left : (y : Entry) → IsEntryOf y (leaf_entries is) ↔ (IsEntryOf y (leaf_entries was) × ((placed : PlacedRow) → Contains rows placed → y ≢ entry_of def placed.row placed.rid which))

-- so it is of each of some indexes
abbrev pub EachLost : TableDef → List PlacedRow → List IndexDef → List Forest → List Forest → Type 0
EachLost def rows (which ∷ indexes) (t ∷ trees) (u ∷ after) = LostFrom def rows which t u × EachLost def rows indexes trees after
EachLost def rows [] [] [] = Unit {0}
EachLost def rows indexes trees after = ⊥

-- each record index lost the entries of these rows, and nothing else
abbrev pub LosesEntries : TableDef → List Forest → List PlacedRow → List Forest → Type 0
LosesEntries def trees rows after = EachLost def rows def.indexes trees after

-- ---- one row after the other

-- Each record index lost the entries of these rows, one row after the other, and nothing else.
pub data LosesRows (def : TableDef) (trees : List Forest) : List PlacedRow → List Forest → Type 0 where
  none : LosesRows def trees [] trees
  one : {front rows : List PlacedRow} {mid after : List Forest} (placed : PlacedRow) → LosesRows def trees front mid
      → MoveChosen LosesEntry (entry_of def placed.row placed.rid) (all_chosen def) def.indexes mid after → rows ≡ front ++ placed ∷ []
      → LosesRows def trees rows after
