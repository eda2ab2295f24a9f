-- Runs of calls that make some trees, or give the blocks and the trees of a table back: what each makes of the extent map, which
-- pages it touches, and which damage it may name.
use Rattle.std.specs.Prelude.{◌≡◌, ◌<◌, ◌⊎◌, ℕ, ◌+◌, IsTrue, List, [], ◌∷◌, ◌++◌, map, sum_by, Contains, Some}
use Rattle.std.specs.List.{AllZip, FoldsTo}
use Rattle.mdc_ast.specs.declared.definition.TableDef.{TableDef}
use Rattle.mdc_ast.specs.Definitions.{Definitions, def_at, empty_place}
use Rattle.store_api.specs.declared.fault.Damage.{Damage}
use Rattle.store_api.specs.declared.pages.Pages.{Ghosts}
use Rattle.store_api.specs.declared.shape.Shape.{Shape}
use Rattle.extent_map.specs.Kinds.{is_block_kind}
use Rattle.extent_map.specs.Map.{HoldsMap, IsMapPage}
use Rattle.extent_map.specs.Owners.{AreRightNotes, owner_of, without_block}
use Rattle.extent_map.specs.declared.kind.Kind.{Kind}
use Rattle.extent_map.specs.declared.space_notes.SpaceNotes.{SpaceNotes}
use Rattle.entry_tree.specs.Forest.{Forest, times}
use Rattle.entry_tree.specs.Pruning.{without_pages}
use Rattle.entry_tree.specs.Standing.{AreClaims, GrowsWith, IsMapSpace, with_pages}
use Rattle.entry_tree.specs.TreeChanges.{times_among}
use Rattle.block_map.specs.BlockMaps.{IsMapForm}
use Rattle.block_map.specs.MapLines.{blocks_of_state, free_blocks, pending_blocks, used_blocks}
use Rattle.table_trees.specs.SpaceChanges.{MakesChange}
use Rattle.table_trees.specs.SpaceChanges.SpaceChange.{MakeTree}
use Rattle.table_trees.specs.TableTrees.{TreePlace, tree_places}
use Rattle.table_trees.specs.TreesBeside.{HoldsTreeAt, IsTreesOrMapPage, StandTrees}
use Rattle.mdc_sound.specs.StandingTable.{BreaksTable, NamesTablePart, pages_of, roots_in}
use Rattle.stored_catalog.specs.NewTables.{empty_trees}

-- ---- trees are made

-- An empty tree was made at each of these places, one after the other, at pages that were claimed for them, in a map that was
-- told. No call asked for more space than its tree does.
pub record MakesTrees {S : Type 0} (g : Ghosts S) (shape : Shape) (before noted : SpaceNotes) (old new : S) (owners : List Kind) (places : List TreePlace) : Type 0 where
  pub extents : HoldsMap g shape new (with_pages shape owners (roots_in places))
  pub held : AllZip (HoldsTreeAt g new) places (empty_trees places)
  pub claims : AreClaims shape owners (roots_in places)
  pub notes : AreRightNotes shape before owners → AreRightNotes shape noted (with_pages shape owners (roots_in places))
  pub goes : AreRightNotes shape before owners → FoldsTo (MakesChange shape) (pages_of g old) (map MakeTree places) (pages_of g new)
  pub grows : GrowsWith g shape old new (roots_in places)

-- The damage of a run that only claims pages: the count of pages, or a page of the extent map; never where the map was told.
pub record BreaksMaking {S : Type 0} (g : Ghosts S) (shape : Shape) (s : S) (damage : Damage) : Type 0 where
  pub names : ((damage.page ≡ 0) × (damage.rule ≡ 1)) ⊎ (IsMapPage shape damage.page × (damage.rule ≡ 2))
  pub broken : (owners : List Kind) → HoldsMap g shape s owners → ⊥

-- the pages that the making of table t may change: its table page, those of the extent map with page 0, and idle ones
abbrev pub IsMakingPage : {S : Type 0} → Ghosts S → Shape → S → ℕ → ℕ → Type 0
IsMakingPage g shape s t p = (p ≡ 1 + t) ⊎ IsMapSpace g shape s p

-- the same, where the table goes to the lowest empty place
abbrev pub IsAddingPage : {S : Type 0} → Ghosts S → Shape → S → Definitions → ℕ → Type 0
IsAddingPage g shape s defs p = ((t : ℕ) × (empty_place defs ≡ Some t) × (p ≡ 1 + t)) ⊎ IsMapSpace g shape s p

-- ---- blocks are given back

-- the owners, with these blocks given back one after the other
abbrev pub without_blocks : List Kind → List ℕ → List Kind
without_blocks owners [] = owners
without_blocks owners (e ∷ given) = without_blocks (without_block owners e) given

-- the blocks that a block map names: those that are Free, then those that are Used, then those that are Pending
abbrev pub blocks_in_map : Forest → List ℕ
blocks_in_map map_tree = free_blocks map_tree ++ used_blocks map_tree ++ pending_blocks map_tree

-- each of these extents was a block at its time
abbrev pub AreBlocksGiven : List Kind → List ℕ → Type 0
AreBlocksGiven owners [] = Unit {0}
AreBlocksGiven owners (e ∷ given) = IsTrue (is_block_kind (owner_of owners e)) × AreBlocksGiven (without_block owners e) given

-- these blocks were given back, and nothing else of the map was changed
pub record GivesBlocks {S : Type 0} (g : Ghosts S) (shape : Shape) (before noted : SpaceNotes) (new : S) (owners : List Kind) (given : List ℕ) : Type 0 where
  pub extents : HoldsMap g shape new (without_blocks owners given)
  pub blocks : AreBlocksGiven owners given
  pub notes : AreRightNotes shape before owners → AreRightNotes shape noted (without_blocks owners given)

-- The trees of a table stand, the first of which is a block map, and what it names in a state are blocks now.
pub record StandsToGive {S : Type 0} (g : Ghosts S) (shape : Shape) (s : S) (def : TableDef) (state : ℕ) (owners : List Kind) (map_tree : Forest) (rest : List Forest) : Type 0 where
  pub trees : StandTrees g shape s owners (tree_places def) (map_tree ∷ rest)
  pub form : IsMapForm map_tree
  pub blocks : (e : ℕ) → Contains (blocks_of_state state map_tree) e → (e < shape.extents) × IsTrue (is_block_kind (owner_of owners e))

-- the damage is of a part of the table, and they weren't told to be so
pub record BreaksGiving {S : Type 0} (g : Ghosts S) (shape : Shape) (s : S) (def : TableDef) (state : ℕ) (damage : Damage) : Type 0 where
  pub names : NamesTablePart shape def damage
  pub broken : (owners : List Kind) (map_tree : Forest) (rest : List Forest) → StandsToGive g shape s def state owners map_tree rest → ⊥

-- ---- trees are given back

-- each page of these trees was given back once, and no other page
pub record FreesTrees {S : Type 0} (g : Ghosts S) (shape : Shape) (before noted : SpaceNotes) (new : S) (owners : List Kind) (trees : List Forest) : Type 0 where
  pub given : List ℕ
  pub counts : (p : ℕ) → times_among p given ≡ sum_by (times p) trees
  pub extents : HoldsMap g shape new (without_pages shape owners given)
  pub notes : AreRightNotes shape before owners → AreRightNotes shape noted (without_pages shape owners given)

-- the damage is of a part of the table, and its trees weren't told to stand
pub record BreaksTrees {S : Type 0} (g : Ghosts S) (shape : Shape) (s : S) (def : TableDef) (damage : Damage) : Type 0 where
  pub names : NamesTablePart shape def damage
  pub broken : (owners : List Kind) (trees : List Forest) → StandTrees g shape s owners (tree_places def) trees → ⊥

-- the pages that the dropping of table t may change: its table page, and those of the extent map
abbrev pub IsDroppingPage : Shape → ℕ → ℕ → Type 0
IsDroppingPage shape t p = (p ≡ 1 + t) ⊎ IsMapPage shape p

-- the pages that it brings to hand: those of the trees of the table that stands in that place, and those of the extent map
abbrev pub IsDroppedPage : {S : Type 0} → Ghosts S → Shape → S → Definitions → ℕ → ℕ → Type 0
IsDroppedPage g shape s defs t p = (def : TableDef) × (def_at defs t ≡ Some def) × IsTreesOrMapPage g shape s (tree_places def) p

-- the damage is of a part of that table, and it wasn't told to stand
abbrev pub BreaksDropping : {S : Type 0} → Ghosts S → Shape → S → Definitions → ℕ → Damage → Type 0
BreaksDropping g shape s defs t damage = (def : TableDef) × (def_at defs t ≡ Some def) × BreaksTable g shape s def damage
