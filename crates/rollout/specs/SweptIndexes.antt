-- What a sweep over the record indexes of a table makes of their trees: the entries that name one of some blocks are gone.
use Rattle.std.specs.Prelude.{◌≡◌, ◌≤◌, ◌&&◌, ◌+◌, ℕ, zero, suc, Bool, not, List, ◌∷◌, None, Some, length, slice_get}
use Rattle.std.specs.List.{filter}
use Rattle.mdc_words.specs.ByteOrder.{Entry}
use Rattle.mdc_ast.specs.declared.definition.IndexDef.{IndexDef}
use Rattle.mdc_ast.specs.declared.definition.TableDef.{TableDef}
use Rattle.store_api.specs.declared.fault.Damage.{Damage}
use Rattle.store_api.specs.declared.pages.Pages.{Ghosts}
use Rattle.store_api.specs.declared.shape.Shape.{Shape}
use Rattle.extent_map.specs.declared.kind.Kind.{Kind}
use Rattle.extent_map.specs.declared.space_notes.SpaceNotes.{SpaceNotes}
use Rattle.key_codec.specs.Keys.{width_of_parts}
use Rattle.node_page.specs.Entries.{names_block}
use Rattle.entry_tree.specs.EntryBounds.{Bound}
use Rattle.entry_tree.specs.Forest.{Forest, leaf_entries, times}
use Rattle.entry_tree.specs.Sweeping.{lies_under}
use Rattle.table_trees.specs.TableTrees.{record_places}
use Rattle.table_trees.specs.TreesBeside.{ChangesTrees}
use Rattle.row_entries.specs.ChosenTrees.{NamesIndexPart, StandIndexes}

-- ---- one index

-- whether a sweep that has come to a bound took an entry: it lies below that bound and names a block
abbrev pub is_gone : Bound → ℕ → List ℕ → Entry → Bool
is_gone bound key_width blocks y = lies_under bound y && names_block blocks key_width y

-- Exactly those entries left a tree that lie below a bound and whose four bytes behind the key name one of the blocks, so many they
-- were; no page came.
pub record SweptTo (bound : Bound) (key_width : ℕ) (blocks : List ℕ) (removed : ℕ) (was is : Forest) : Type 0 where
  pub leaves : leaf_entries is ≡ filter (λ y. not (is_gone bound key_width blocks y)) (leaf_entries was)
  pub fewer : length (leaf_entries is) + removed ≡ length (leaf_entries was)
  pub pages : (p : ℕ) → times p is ≤ times p was

-- all that name one of them left
abbrev pub SweptTree : ℕ → List ℕ → ℕ → Forest → Forest → Type 0
SweptTree key_width blocks removed was is = SweptTo None key_width blocks removed was is

-- ---- all indexes

-- the width of the key of an index
abbrev pub key_width_of : TableDef → IndexDef → ℕ
key_width_of def which = width_of_parts def.columns which.parts

-- so many entries left each of the trees of the first n indexes by a sweep, and the others are those that they were
abbrev pub AreSwept : TableDef → List ℕ → ℕ → ℕ → List IndexDef → List Forest → List Forest → Type 0
AreSwept def blocks rows zero indexes trees after = after ≡ trees
AreSwept def blocks rows (suc n) (which ∷ indexes) (t ∷ trees) (u ∷ after) = SweptTree (key_width_of def which) blocks rows t u × AreSwept def blocks rows n indexes trees after
AreSwept def blocks rows (suc n) indexes trees after = ⊥

-- The first n record indexes of a table were swept, and they stand side by side.
pub record SweepsFirst {S : Type 0} (g : Ghosts S) (shape : Shape) (before noted : SpaceNotes) (new : S) (def : TableDef) (blocks : List ℕ) (rows n : ℕ) (owners : List Kind) (trees : List Forest) : Type 0 where
  pub owners_now : List Kind
  pub trees_now : List Forest
  pub changes : ChangesTrees g shape before noted new (record_places def) owners trees owners_now trees_now
  pub swept : AreSwept def blocks rows n def.indexes trees trees_now

-- all were
abbrev pub SweepsIndexes : {S : Type 0} → Ghosts S → Shape → SpaceNotes → SpaceNotes → S → TableDef → List ℕ → ℕ → List Kind → List Forest → Type 0
SweepsIndexes g shape before noted new def blocks rows owners trees = SweepsFirst g shape before noted new def blocks rows (length def.indexes) owners trees

-- ---- damage

-- The damage is a part of the table's record indexes, and these weren't told to stand side by side.
pub record BreaksSweep {S : Type 0} (g : Ghosts S) (shape : Shape) (s : S) (def : TableDef) (damage : Damage) : Type 0 where
  pub names : NamesIndexPart shape def damage
  pub broken : (owners : List Kind) (trees : List Forest) → StandIndexes g shape s def owners trees → ⊥

-- in the tree of an index so many entries name one of the blocks
abbrev pub NamesSoMany : TableDef → List ℕ → ℕ → IndexDef → Forest → Type 0
NamesSoMany def blocks rows which t = length (filter (names_block blocks (key_width_of def which)) (leaf_entries t)) ≡ rows

-- so it is of the n-th index
abbrev pub NamesSoManyIn : TableDef → List ℕ → ℕ → ℕ → List Forest → Type 0
NamesSoManyIn def blocks rows n trees = (which : IndexDef) (t : Forest) → slice_get def.indexes n ≡ Some which → slice_get trees n ≡ Some t → NamesSoMany def blocks rows which t

-- so it is of each
abbrev pub EachNamesSoMany : TableDef → List ℕ → ℕ → List Forest → Type 0
EachNamesSoMany def blocks rows trees = (n : ℕ) → NamesSoManyIn def blocks rows n trees

-- The damage is a part of the table's record indexes, and these weren't told to stand side by side with so many entries.
pub record BreaksCounted {S : Type 0} (g : Ghosts S) (shape : Shape) (s : S) (def : TableDef) (Counted : List Forest → Type 0) (damage : Damage) : Type 0 where
  pub names : NamesIndexPart shape def damage
  pub broken : (owners : List Kind) (trees : List Forest) → StandIndexes g shape s def owners trees → Counted trees → ⊥
