-- What a call does to a block map, and why it may fail where it changes one.
use Rattle.std.specs.Prelude.{◌≡◌, ◌⊎◌, ℕ, List}
use Rattle.store_api.specs.declared.fault.Damage.{Damage}
use Rattle.store_api.specs.declared.pages.Pages.{Ghosts}
use Rattle.store_api.specs.declared.shape.Shape.{Shape}
use Rattle.extent_map.specs.declared.kind.Kind.{Kind}
use Rattle.extent_map.specs.declared.space_notes.SpaceNotes.{SpaceNotes}
use Rattle.entry_tree.specs.Amending.{AmendsEntry}
use Rattle.entry_tree.specs.Forest.{Forest}
use Rattle.entry_tree.specs.Pruning.{BreaksTreeOrReturn, RemovesEntry}
use Rattle.entry_tree.specs.Standing.{BreaksTreeOrMap, StandsTree}
use Rattle.entry_tree.specs.declared.tree.Tree.{Tree}
use Rattle.block_map.specs.BlockMaps.{HasRow, IsMapForm, NamesBlock}
use Rattle.block_map.specs.MapRows.{row_entry}
use Rattle.block_map.specs.declared.row.BlockRow.{BlockRow}

-- the row of a block becomes another one in its place
abbrev pub ChangesRowTo : {S : Type 0} → Ghosts S → S → Tree → BlockRow → BlockRow → Forest → Type 0
ChangesRowTo g new tree was is map_tree = AmendsEntry g new tree (row_entry was) (row_entry is) map_tree

-- whatever row the block had becomes this one
abbrev pub SetsRow : {S : Type 0} → Ghosts S → S → Tree → BlockRow → Forest → Type 0
SetsRow g new tree is map_tree = (was : BlockRow) × (was.block ≡ is.block) × HasRow was map_tree × ChangesRowTo g new tree was is map_tree

-- a row of the block leaves the map
abbrev pub LeavesMap : {S : Type 0} → Ghosts S → Shape → SpaceNotes → SpaceNotes → S → Tree → ℕ → List Kind → Forest → Type 0
LeavesMap g shape before noted new tree block owners map_tree = (row : BlockRow) × (row.block ≡ block) × RemovesEntry g shape before noted new tree (row_entry row) owners map_tree

-- The damage of a block map among the extents names its root and rule 6: never where the extent map and the tree had their
-- form, and the tree had that of a block map and what the call expects of it.
pub record BreaksStandingMap {S : Type 0} (g : Ghosts S) (shape : Shape) (s : S) (tree : Tree) (Expected : Forest → Type 0) (damage : Damage) : Type 0 where
  pub page : damage.page ≡ tree.root
  pub rule : damage.rule ≡ 6
  pub broken : (owners : List Kind) (t : Forest) → StandsTree g shape s tree owners t → IsMapForm t → Expected t → ⊥

-- the map hasn't a row
abbrev pub LacksRow : BlockRow → Forest → Type 0
LacksRow row map_tree = HasRow row map_tree → ⊥

-- what entering a row may name: the tree or the extent map, or the block map, where it has the row
abbrev pub BreaksEntering : {S : Type 0} → Ghosts S → Shape → S → Tree → BlockRow → Damage → Type 0
BreaksEntering g shape s tree row damage = BreaksTreeOrMap g shape s tree damage ⊎ BreaksStandingMap g shape s tree (LacksRow row) damage

-- what taking a block out may name: the tree or the extent map, or the block map, where it doesn't name the block
abbrev pub BreaksLeaving : {S : Type 0} → Ghosts S → Shape → S → Tree → ℕ → Damage → Type 0
BreaksLeaving g shape s tree block damage = BreaksTreeOrReturn g shape s tree damage ⊎ BreaksStandingMap g shape s tree (NamesBlock block) damage
