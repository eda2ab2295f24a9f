-- The rows of a table that an index finds, where that index is sound: those that are wanted, and beside them places in blocks
-- that wait for their cleanup. Rows that may be in one index.
use Rattle.std.specs.Prelude.{◌≡◌, ◌≢◌, ◌⊎◌, ℕ, List, AllPairs, Contains}
use Rattle.std.specs.List.{AllByRecursion}
use Rattle.mdc_values.specs.declared.rid.Rid.{Rid}
use Rattle.mdc_ast.specs.declared.definition.IndexDef.{IndexDef}
use Rattle.mdc_ast.specs.declared.definition.TableDef.{TableDef}
use Rattle.mdc_sound.specs.TableRows.{PlacedRow}
use Rattle.record_index.specs.FoundRids.{IsRid}
use Rattle.record_index.specs.RecordIndexes.{HaveKeysIn}

-- each row lies in a place that an entry can name, and has a key in the index
abbrev pub AreEnterable : TableDef → IndexDef → List PlacedRow → Type 0
AreEnterable def which rows = AllByRecursion (λ placed. IsRid placed.rid × HaveKeysIn def.columns which.parts placed.row.values) rows

-- rows lie in places that entries can name, no two in one
pub record LieApart (rows : List PlacedRow) : Type 0 where
  pub places : AllByRecursion (λ placed. IsRid placed.rid) rows
  pub apart : AllPairs (λ a b. a.rid ≢ b.rid) rows

-- a wanted row lies in a place
pub record LiesWanted (rows : List PlacedRow) (Wanted : PlacedRow → Type 0) (rid : Rid) : Type 0 where
  pub placed : PlacedRow
  pub there : Contains rows placed
  pub at : placed.rid ≡ rid
  pub wanted : Wanted placed

-- Each wanted row is found; and in each place that is found lies a wanted row, or its block is Pending.
pub record FindsWantedRows (rows : List PlacedRow) (pending : List ℕ) (Wanted : PlacedRow → Type 0) (rids : List Rid) : Type 0 where
  pub all : (placed : PlacedRow) → Contains rows placed → Wanted placed → Contains rids placed.rid
  pub only : (rid : Rid) → Contains rids rid → LiesWanted rows Wanted rid ⊎ Contains pending rid.block
