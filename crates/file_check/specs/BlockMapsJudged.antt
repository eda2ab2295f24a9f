-- What the entries of a block map say, and how the blocks that they name may differ from those of its table.
use Rattle.std.specs.Prelude.{◌≡◌, ◌≢◌, ◌≤◌, ◌<◌, ◌+◌, ◌⊎◌, ℕ, List, [], ◌∷◌, length, map, Option, AllPairs, Contains}
use Rattle.std.specs.List.{AllByRecursion}
use Rattle.mdc_words.specs.ByteOrder.{Entry}
use Rattle.mdc_ast.specs.declared.definition.TableDef.{TableDef}
use Rattle.store_api.specs.declared.shape.Shape.{Shape}
use Rattle.extent_map.specs.Owners.{owner_of}
use Rattle.extent_map.specs.declared.kind.Kind.{Kind}
use Rattle.extent_map.specs.declared.kind.Kind.TheVariants.{Block}
use Rattle.entry_tree.specs.EntryBounds.{IsEntryOf}
use Rattle.entry_tree.specs.Forest.{Forest}
use Rattle.block_map.specs.BlockMaps.{IsMapForm}
use Rattle.block_map.specs.MapLines.{IsMapEntry, map_line, mapped_blocks}
use Rattle.mdc_sound.specs.SpaceRules.{IsBlockMapSound}
use Rattle.file_check.specs.Judging.{Judges}

-- ---- what entries say

-- numbers rise, and none is below the first one
abbrev pub RiseFrom : ℕ → List ℕ → Type 0
RiseFrom from [] = Unit {0}
RiseFrom from (n ∷ ns) = (from ≤ n) × RiseFrom (n + 1) ns

-- the blocks that entries name
abbrev pub blocks_of_entries : List Entry → List ℕ
blocks_of_entries entries = map (λ line. line.block) (map map_line entries)

-- each entry has one of the three states
abbrev pub HaveStates : List Entry → Type 0
HaveStates entries = AllByRecursion (λ line. line.state ≤ 2) (map map_line entries)

-- The entries are bytes, and each has a state. They name these blocks, which rise.
pub record NameBlocks (entries : List Entry) (blocks : List ℕ) : Type 0 where
  pub written : (entry : Entry) → IsEntryOf entry entries → IsMapEntry entry
  pub states : HaveStates entries
  pub named : blocks ≡ blocks_of_entries entries
  pub rise : RiseFrom 0 blocks

-- an entry has no state, or a block is named twice
abbrev pub HaveNoForm : List Entry → Type 0
HaveNoForm entries = HaveStates entries → AllPairs (λ a b. a ≢ b) (blocks_of_entries entries) → ⊥

-- ---- the blocks of a table

-- an extent that is a block of the table
abbrev pub IsBlockOf : List Kind → ℕ → ℕ → Type 0
IsBlockOf kinds table e = (e < length kinds) × (owner_of kinds e ≡ Block table)

-- these are the blocks of a table, where these are the kinds of all extents
pub record AreBlocksOf (kinds : List Kind) (table : ℕ) (blocks : List ℕ) : Type 0 where
  pub each : AllByRecursion (IsBlockOf kinds table) blocks
  pub all : (e : ℕ) → IsBlockOf kinds table e → Contains blocks e

-- they aren't: one is no extent, one is no block of the table, or a block of the table isn't among them
pub data AreNoBlocksOf (kinds : List Kind) (table : ℕ) (blocks : List ℕ) : Type 0 where
  past : (b : ℕ) → Contains blocks b → length kinds ≤ b → AreNoBlocksOf kinds table blocks
  other : (b : ℕ) → Contains blocks b → b < length kinds → owner_of kinds b ≢ Block table → AreNoBlocksOf kinds table blocks
  lacks : (e : ℕ) → (Contains blocks e → ⊥) → IsBlockOf kinds table e → AreNoBlocksOf kinds table blocks

-- a block map breaks its rule: it hasn't the form of one, or it names other blocks
abbrev pub BreaksMap : List Kind → TableDef → Forest → Type 0
BreaksMap kinds def map_tree = (IsMapForm map_tree → ⊥) ⊎ AreNoBlocksOf kinds def.number (mapped_blocks map_tree)

-- these are entries of a block map, of the blocks of a table
pub record ListBlocksOf (kinds : List Kind) (table : ℕ) (entries : List Entry) : Type 0 where
  pub blocks : List ℕ
  pub named : NameBlocks entries blocks
  pub are : AreBlocksOf kinds table blocks

-- they aren't: they haven't the form of one, or are of other blocks
abbrev pub ListOthers : List Kind → ℕ → List Entry → Type 0
ListOthers kinds table entries = HaveNoForm entries ⊎ AreNoBlocksOf kinds table (blocks_of_entries entries)

-- a block map breaks its rule, at its root
abbrev pub BreaksMapAt : List Kind → TableDef → Forest → ℕ → Type 0
BreaksMapAt kinds def map_tree p = (p ≡ def.roots.map) × BreaksMap kinds def map_tree

-- what judging a block map answers, where these are the kinds of all extents
abbrev pub JudgesMap : Shape → List Kind → TableDef → Forest → Option ℕ → Type 0
JudgesMap shape kinds def map_tree = Judges (IsBlockMapSound shape kinds def map_tree) (BreaksMapAt kinds def map_tree)
