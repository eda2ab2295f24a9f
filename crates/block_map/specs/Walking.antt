-- Where a walk over the rows of a block map stands.
use Rattle.std.specs.Prelude.{◌≡◌, ◌⊎◌, ◌+◌, ◌<◌, ◌≤◌, ◌^◌, ℕ, List, [], ◌∷◌, ◌++◌, drop, Option, Some, None}
use Rattle.mdc_words.specs.ByteOrder.{Entry}
use Rattle.store_api.specs.Format.{first_format}
use Rattle.entry_tree.specs.EntryBounds.{Bound}
use Rattle.entry_tree.specs.Entries.{AreOfWidth}
use Rattle.entry_tree.specs.Reading.{BoundFits, entries_from}
use Rattle.block_map.specs.MapRows.{row_entry}
use Rattle.block_map.specs.declared.row.BlockRow.{BlockRow}
use Rattle.block_map.specs.declared.walk.Walk.{Walk}

-- the entries from a bound on, and none where there is no bound
abbrev pub entries_behind_bound : List Entry → Bound → List Entry
entries_behind_bound all None = []
entries_behind_bound all (Some bound) = entries_from bound all

-- the entries that a walk hasn't given yet: what is left of its leaf, and what lies behind the leaf
abbrev pub left_of_walk : List Entry → Walk → List Entry
left_of_walk all walk = drop walk.at walk.leaf.entries ++ entries_behind_bound all walk.leaf.next

-- the last of the entries is a row of the block just below this number
pub record IsBehindRow (given : List Entry) (lowest : ℕ) : Type 0 where
  pub front : List Entry
  pub row : BlockRow
  pub whole : given ≡ front ++ row_entry row ∷ []
  pub small : row.block < 2 ^ 32
  pub next : lowest ≡ row.block + 1

-- the same, or the number is 0, as before the first row, and says nothing
abbrev pub EndsBelow : List Entry → ℕ → Type 0
EndsBelow given lowest = (lowest ≡ 0) ⊎ IsBehindRow given lowest

-- the entries from where a walk began are those that it passed and those that are left
pub record IsWalkingFrom (start : Entry) (all : List Entry) (walk : Walk) : Type 0 where
  pub passed : List Entry
  pub whole : entries_from start all ≡ passed ++ left_of_walk all walk
  pub ends : EndsBelow passed walk.lowest

-- the same, wherever it began
abbrev pub IsWalking : List Entry → Walk → Type 0
IsWalking all walk = (start : Entry) × IsWalkingFrom start all walk

-- what a walk keeps has the width of an entry, and no block comes behind the last number
pub record WalkFits (walk : Walk) : Type 0 where
  pub entries : AreOfWidth first_format.map_width walk.leaf.entries
  pub bound : BoundFits first_format.map_width walk.leaf.next
  pub small : walk.lowest ≤ 2 ^ 32

-- the next entry is that of a row, and what is left is the rest; or none is left
abbrev pub GivesNext : List Entry → Walk → Walk → Option BlockRow → Type 0
GivesNext all old new None = left_of_walk all old ≡ []
GivesNext all old new (Some row) = left_of_walk all old ≡ row_entry row ∷ left_of_walk all new

-- the row that a walk gave isn't below the lowest that it allowed, the next one is above it, and its numbers are of 32 and of 16 bits
abbrev pub RisesTo : Walk → Walk → BlockRow → Type 0
RisesTo old new row = (old.lowest ≤ row.block) × (new.lowest ≡ row.block + 1) × (row.block < 2 ^ 32) × (row.rows < 2 ^ 16)
