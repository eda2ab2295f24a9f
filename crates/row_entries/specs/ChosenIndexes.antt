-- Some of the record indexes of a table, which are told by a truth value each, and the entries of a row in them.
use Rattle.std.specs.Prelude.{◌≡◌, ◌⊎◌, Bool, true, false, not, IsTrue, List, [], ◌∷◌, map}
use Rattle.std.specs.List.{AllByRecursion}
use Rattle.std.specs.Str.{bytes_eq}
use Rattle.mdc_words.specs.ByteOrder.{Entry}
use Rattle.mdc_values.specs.declared.rid.Rid.{Rid}
use Rattle.mdc_values.specs.declared.value.Value.{Value}
use Rattle.mdc_ast.specs.declared.definition.IndexDef.{IndexDef}
use Rattle.mdc_ast.specs.declared.definition.TableDef.{TableDef}
use Rattle.mdc_ast.specs.declared.row.Row.{Row}
use Rattle.key_codec.specs.Keys.{key_bytes}
use Rattle.entry_tree.specs.EntryBounds.{IsEntryOf}
use Rattle.entry_tree.specs.Forest.{Forest, leaf_entries}
use Rattle.table_trees.specs.TableTrees.{record_entry}
use Rattle.record_index.specs.RecordIndexes.{HaveKeysIn}

-- ---- rows

-- the values of a row have a key in each record index
abbrev pub HasRecordKeys : TableDef → List Value → Type 0
HasRecordKeys def values = AllByRecursion (λ which. HaveKeysIn def.columns which.parts values) def.indexes

-- the entry of a row in an index
abbrev pub entry_of : TableDef → Row → Rid → IndexDef → Entry
entry_of def row rid which = record_entry def.columns which.parts row.values rid

-- ---- which are chosen

-- all are
abbrev pub all_chosen : TableDef → List Bool
all_chosen def = map (λ which. true) def.indexes

-- two rows have different keys in an index
abbrev pub differ_in : TableDef → Row → Row → IndexDef → Bool
differ_in def a b which = not (bytes_eq (key_bytes def.columns which.parts a.values) (key_bytes def.columns which.parts b.values))

-- those are in which two rows have different keys
abbrev pub differing_chosen : TableDef → Row → Row → List Bool
differing_chosen def a b = map (differ_in def a b) def.indexes

-- the chosen ones of these indexes
abbrev pub chosen_indexes : List Bool → List IndexDef → List IndexDef
chosen_indexes (true ∷ chosen) (which ∷ indexes) = which ∷ chosen_indexes chosen indexes
chosen_indexes (false ∷ chosen) (which ∷ indexes) = chosen_indexes chosen indexes
chosen_indexes chosen indexes = []

-- ---- their trees

-- the tree of an index has its entry of the row
abbrev pub HasEntry : TableDef → Row → Rid → IndexDef → Forest → Type 0
HasEntry def row rid which t = IsEntryOf (entry_of def row rid which) (leaf_entries t)

-- it doesn't have it
abbrev pub LacksEntry : TableDef → Row → Rid → IndexDef → Forest → Type 0
LacksEntry def row rid which t = HasEntry def row rid which t → ⊥

-- it doesn't have that of the first of two rows, or has that of the second
abbrev pub LacksOrHasEntry : TableDef → Row → Row → Rid → IndexDef → Forest → Type 0
LacksOrHasEntry def was is rid which t = LacksEntry def was rid which t ⊎ HasEntry def is rid which t

-- P holds of each chosen index and its tree
abbrev pub EachChosen : (IndexDef → Forest → Type 0) → List Bool → List IndexDef → List Forest → Type 0
EachChosen P (is_chosen ∷ chosen) (which ∷ indexes) (t ∷ trees) = (IsTrue is_chosen → P which t) × EachChosen P chosen indexes trees
EachChosen P chosen indexes trees = Unit {0}

-- the tree of each chosen index has its entry of the row
abbrev pub HaveEntries : TableDef → Row → Rid → List Bool → List Forest → Type 0
HaveEntries def row rid chosen trees = EachChosen (λ which t. HasEntry def row rid which t) chosen def.indexes trees

-- it doesn't have it
abbrev pub LackEntries : TableDef → Row → Rid → List Bool → List Forest → Type 0
LackEntries def row rid chosen trees = EachChosen (λ which t. LacksEntry def row rid which t) chosen def.indexes trees

-- The tree of each chosen index gained or lost its entry, and that of any other index is the one that it was.
abbrev pub MoveChosen : (Entry → Forest → Forest → Type 0) → (IndexDef → Entry) → List Bool → List IndexDef → List Forest → List Forest → Type 0
MoveChosen Moves entry_in (true ∷ chosen) (which ∷ indexes) (t ∷ trees) (u ∷ after) = Moves (entry_in which) t u × MoveChosen Moves entry_in chosen indexes trees after
MoveChosen Moves entry_in (false ∷ chosen) (which ∷ indexes) (t ∷ trees) (u ∷ after) = (u ≡ t) × MoveChosen Moves entry_in chosen indexes trees after
MoveChosen Moves entry_in chosen [] [] [] = Unit {0}
MoveChosen Moves entry_in chosen indexes trees after = ⊥
