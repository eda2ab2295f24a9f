-- What listing a block in the block indexes does, and taking it out of them.
use Rattle.std.specs.Prelude.{◌≡◌, ◌≤◌, ℕ, zero, suc, List, [], ◌∷◌, length, sum_by, Some, slice_get}
use Rattle.mdc_words.specs.ByteOrder.{Entry}
use Rattle.mdc_values.specs.declared.value.Value.{Value}
use Rattle.mdc_ast.specs.declared.definition.TableDef.{TableDef}
use Rattle.store_api.specs.declared.fault.Damage.{Damage}
use Rattle.store_api.specs.declared.pages.Pages.{Ghosts}
use Rattle.store_api.specs.declared.shape.Shape.{Shape}
use Rattle.extent_map.specs.declared.kind.Kind.{Kind}
use Rattle.extent_map.specs.declared.space_notes.SpaceNotes.{SpaceNotes}
use Rattle.entry_tree.specs.EntryBounds.{IsEntryOf, with_entry}
use Rattle.entry_tree.specs.Forest.{Forest, leaf_entries, times}
use Rattle.entry_tree.specs.Standing.{FindsFull, StandsTree}
use Rattle.entry_tree.specs.declared.tree.Tree.{Tree}
use Rattle.table_trees.specs.TableTrees.{block_index_places, place_of_tree}
use Rattle.table_trees.specs.TreesBeside.{ChangesTrees, StandTrees}
use Rattle.block_index.specs.Cells.{cell_entries}
use Rattle.block_index.specs.IndexDamage.{BreaksEntering, BreaksLeaving}

-- ---- entries that come and go

-- the tree has an entry that it didn't have
pub record GainsEntry (x : Entry) (t after : Forest) : Type 0 where
  pub is : leaf_entries after ≡ with_entry x (leaf_entries t)
  pub absent : IsEntryOf x (leaf_entries t) → ⊥

-- the tree no longer has an entry that it had
pub record LosesEntry (x : Entry) (t after : Forest) : Type 0 where
  pub was : leaf_entries t ≡ with_entry x (leaf_entries after)
  pub absent : IsEntryOf x (leaf_entries after) → ⊥

-- the first n trees gained or lost the entry beside them, and the others are as they were
abbrev pub MoveFirst : (Entry → Forest → Forest → Type 0) → ℕ → List Entry → List Forest → List Forest → Type 0
MoveFirst Moves zero entries trees after = after ≡ trees
MoveFirst Moves (suc n) [] trees after = ⊥
MoveFirst Moves (suc n) (x ∷ entries) [] after = ⊥
MoveFirst Moves (suc n) (x ∷ entries) (t ∷ trees) [] = ⊥
MoveFirst Moves (suc n) (x ∷ entries) (t ∷ trees) (u ∷ after) = Moves x t u × MoveFirst Moves n entries trees after

-- the first n block indexes gained or lost the entry of a block under the values of its cell, and the others are as they were
pub record ChangesFirst {S : Type 0} (g : Ghosts S) (Moves : Entry → Forest → Forest → Type 0) (shape : Shape) (before noted : SpaceNotes) (new : S) (def : TableDef) (values : List Value) (block n : ℕ)
    (owners : List Kind) (trees : List Forest) : Type 0 where
  pub owners_now : List Kind
  pub trees_now : List Forest
  pub changes : ChangesTrees g shape before noted new (block_index_places def) owners trees owners_now trees_now
  pub moves : MoveFirst Moves n (cell_entries def values block) trees trees_now

-- the first n block indexes gained the entry of a block, and no page left them
pub record GainsFirst {S : Type 0} (g : Ghosts S) (shape : Shape) (before noted : SpaceNotes) (new : S) (def : TableDef) (values : List Value) (block n : ℕ) (owners : List Kind) (trees : List Forest) : Type 0 where
  pub first : ChangesFirst g GainsEntry shape before noted new def values block n owners trees
  pub pages : (p : ℕ) → sum_by (times p) trees ≤ sum_by (times p) first.trees_now

-- the first n block indexes lost the entry of a block, and no page came to them
pub record LosesFirst {S : Type 0} (g : Ghosts S) (shape : Shape) (before noted : SpaceNotes) (new : S) (def : TableDef) (values : List Value) (block n : ℕ) (owners : List Kind) (trees : List Forest) : Type 0 where
  pub first : ChangesFirst g LosesEntry shape before noted new def values block n owners trees
  pub pages : (p : ℕ) → sum_by (times p) first.trees_now ≤ sum_by (times p) trees

-- The block is listed under the values of its cell in each block index, where it wasn't; no page left the indexes, and nothing
-- else changed in them.
abbrev pub ListsBlock : {S : Type 0} → Ghosts S → Shape → SpaceNotes → SpaceNotes → S → TableDef → List Value → ℕ → List Kind → List Forest → Type 0
ListsBlock g shape before noted new def values block = GainsFirst g shape before noted new def values block (length (cell_entries def values block))

-- The block was listed under these values in each block index, and no longer is; no page came to the indexes, and nothing else
-- changed in them.
abbrev pub UnlistsBlock : {S : Type 0} → Ghosts S → Shape → SpaceNotes → SpaceNotes → S → TableDef → List Value → ℕ → List Kind → List Forest → Type 0
UnlistsBlock g shape before noted new def values block = LosesFirst g shape before noted new def values block (length (cell_entries def values block))

-- ---- midway

-- The call had changed the first n block indexes, as it was to, and had come to the next one, which has this tree and is to
-- gain or lose this entry.
pub record ComesTo {S : Type 0} (g : Ghosts S) (Moves : Entry → Forest → Forest → Type 0) (shape : Shape) (before : SpaceNotes) (old : S) (def : TableDef) (values : List Value) (block : ℕ)
    (now : SpaceNotes) (mid : S) (tree : Tree) (x : Entry) : Type 0 where
  pub n : ℕ
  pub place : slice_get (block_index_places def) n ≡ Some (place_of_tree tree)
  pub entry : slice_get (cell_entries def values block) n ≡ Some x
  pub done : (owners : List Kind) (trees : List Forest) → StandTrees g shape old owners (block_index_places def) trees → ChangesFirst g Moves shape before now mid def values block n owners trees

-- what listing a block may name: at the index that it had come to, what entering its entry there may
pub record BreaksListing {S : Type 0} (g : Ghosts S) (shape : Shape) (before : SpaceNotes) (old : S) (def : TableDef) (values : List Value) (block : ℕ) (damage : Damage) : Type 0 where
  pub now : SpaceNotes
  pub mid : S
  pub tree : Tree
  pub x : Entry
  pub comes : ComesTo g GainsEntry shape before old def values block now mid tree x
  pub breaks : BreaksEntering g 10 shape mid tree x damage

-- what taking a block out may name: at the index that it had come to, what taking its entry out may
pub record BreaksUnlisting {S : Type 0} (g : Ghosts S) (shape : Shape) (before : SpaceNotes) (old : S) (def : TableDef) (values : List Value) (block : ℕ) (damage : Damage) : Type 0 where
  pub now : SpaceNotes
  pub mid : S
  pub tree : Tree
  pub x : Entry
  pub comes : ComesTo g LosesEntry shape before old def values block now mid tree x
  pub breaks : BreaksLeaving g 10 shape mid tree x damage

-- The listing met a full map at the index that it had come to: map and that index stand afterwards as they did then, but for
-- pages that were claimed.
pub record FillsListing {S : Type 0} (g : Ghosts S) (shape : Shape) (before noted : SpaceNotes) (old new : S) (def : TableDef) (values : List Value) (block : ℕ) : Type 0 where
  pub now : SpaceNotes
  pub mid : S
  pub tree : Tree
  pub x : Entry
  pub comes : ComesTo g GainsEntry shape before old def values block now mid tree x
  pub full : (owners : List Kind) (t : Forest) → StandsTree g shape mid tree owners t → FindsFull g shape now noted mid new tree x owners t
