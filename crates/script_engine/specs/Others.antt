-- What a statement leaves of the tables that it doesn't change, and which blocks come and go with a table that it makes or drops.
use Rattle.std.specs.Prelude.{◌≡◌, ◌<◌, ℕ, AllPairs, IsPermutation, List, length, sum_by, Option, Some, None}
use Rattle.std.specs.List.{AllByRecursion, AllZip}
use Rattle.mdc_ast.specs.declared.bound.Bound.{Bound}
use Rattle.mdc_ast.specs.declared.bound.Bound.TheVariants as bound
use Rattle.mdc_ast.specs.declared.definition.IndexDef.{IndexDef}
use Rattle.mdc_ast.specs.declared.definition.TableDef.{TableDef}
use Rattle.mdc_ast.specs.Definitions.{Definitions, def_at, with_index, without_index}
use Rattle.extent_map.specs.Map.{HoldsMap}
use Rattle.extent_map.specs.Owners.{IsUsedPage, owner_of}
use Rattle.extent_map.specs.declared.kind.Kind.{Kind}
use Rattle.store_api.specs.declared.shape.Shape.{Shape}
use Rattle.extent_map.specs.declared.kind.Kind.TheVariants as kind
use Rattle.entry_tree.specs.Forest.{Forest, times}
use Rattle.table_trees.specs.SpaceChanges.{MakesChanges}
use Rattle.table_trees.specs.TableTrees.{tree_places}
use Rattle.table_trees.specs.ToldPages.{HasTree, PageList, told_pages}
use Rattle.mdc_sound.specs.Placing.{Spot, rows_from_spot}
use Rattle.mdc_sound.specs.Placing.Spot.{OtherBlock}
use Rattle.mdc_sound.specs.RunningFull.{ShowsTableSpots, creating_changes, indexing_changes}
use Rattle.mdc_sound.specs.TableRows.{PlacedRow}
use Rattle.statement_rows.specs.OtherTables.{KeepsTableBlocks, own_spot}
pub use Rattle.stored_catalog.specs.GivenBack.{OnlyGivesBack}

-- the place of the table that a bound statement drops, or whose rows or record indexes it changes
abbrev pub touched_place : Bound → Option ℕ
touched_place (bound.DropTable place) = Some place
touched_place (bound.CreateIndex place index) = Some place
touched_place (bound.DropIndex place index) = Some place
touched_place (bound.Insert place tuples) = Some place
touched_place (bound.Delete place pred) = Some place
touched_place (bound.Update place sets pred) = Some place
touched_place (bound.Reclaim place) = Some place
touched_place statement = None

-- a table has no block
pub record HasNoBlock (shape : Shape) (pages : PageList) (def : TableDef) : Type 0 where
  pub spots : List Spot
  pub shown : ShowsTableSpots shape pages def spots
  pub none : AllByRecursion (λ spot. own_spot spot ≡ OtherBlock) spots

-- a table came: it has no block, and trees took no more space than making its own asks for
pub record ComesEmpty (shape : Shape) (old new : PageList) (def : TableDef) : Type 0 where
  pub blocks : HasNoBlock shape new def
  pub makes : MakesChanges shape old (creating_changes def) new

-- the extents that were blocks of table t are free
pub record FreesBlocks (shape : Shape) (old new : PageList) (t : ℕ) : Type 0 where
  pub owners : List Kind
  pub owners_now : List Kind
  pub held : HoldsMap told_pages shape old owners
  pub held_now : HoldsMap told_pages shape new owners_now
  pub freed : (e : ℕ) → owner_of owners e ≡ kind.Block t → owner_of owners_now e ≡ kind.Free

-- no page of the trees that a table had is used
pub record LeavesNoTree (shape : Shape) (old new : PageList) (def : TableDef) : Type 0 where
  pub trees : List Forest
  pub held : AllZip (HasTree old) (tree_places def) trees
  pub owners_now : List Kind
  pub held_now : HoldsMap told_pages shape new owners_now
  pub unused : (p : ℕ) → 0 < sum_by (times p) trees → IsUsedPage shape owners_now p → ⊥

-- table t went: its blocks are free, no page of its trees is used, and space was only given back
pub record GoesWhole (shape : Shape) (old new : PageList) (t : ℕ) (def : TableDef) : Type 0 where
  pub freed : FreesBlocks shape old new t
  pub trees : LeavesNoTree shape old new def
  pub gives : OnlyGivesBack shape old new

-- A table got a record index behind its others. It has the blocks that it had, each in its state, with its rows in their slots, and
-- trees took no more space than the making of its tree and the entries of its rows, by rising row number, ask for.
pub record GainsIndex (shape : Shape) (old new : PageList) (def now : TableDef) : Type 0 where
  pub index : IndexDef
  pub is : now ≡ with_index def index
  pub blocks : KeepsTableBlocks shape old new def
  pub spots : List Spot
  pub rows : List PlacedRow
  pub shows : ShowsTableSpots shape old def spots
  pub same_rows : IsPermutation rows (rows_from_spot 0 spots)
  pub rising : AllPairs (λ a b. a.row.number < b.row.number) rows
  pub makes : MakesChanges shape old (indexing_changes def index rows) new

-- A table lost a record index. It has the blocks that it had, each in its state, with its rows in their slots, and trees gave pages back
-- and took none.
pub record LosesIndex (shape : Shape) (old new : PageList) (def now : TableDef) : Type 0 where
  pub index : ℕ
  pub within : index < length def.indexes
  pub is : now ≡ without_index def index
  pub blocks : KeepsTableBlocks shape old new def
  pub gives : OnlyGivesBack shape old new

-- The tables in all other places have the definitions that they had, and their blocks, each in its state, with its rows in their
-- slots. One that comes has no block, for the space that its trees ask for. The blocks of one that goes are free, the pages of its
-- trees aren't used, and space is only given back. One that has a record index more keeps its blocks, for the space that the index asks
-- for; one that has one less keeps them too, and space is only given back.
pub record KeepsOthers (shape : Shape) (old new : PageList) (defs now : Definitions) (place : Option ℕ) : Type 0 where
  pub each : (t : ℕ) (other : TableDef) → (place ≡ Some t → ⊥) → def_at defs t ≡ Some other
      → (def_at now t ≡ Some other) × KeepsTableBlocks shape old new other
  pub made : (t : ℕ) (def : TableDef) → def_at defs t ≡ None → def_at now t ≡ Some def → ComesEmpty shape old new def
  pub gone : (t : ℕ) (def : TableDef) → def_at defs t ≡ Some def → def_at now t ≡ None → GoesWhole shape old new t def
  pub gained : (t : ℕ) (def now_def : TableDef) → def_at defs t ≡ Some def → def_at now t ≡ Some now_def → length def.indexes < length now_def.indexes → GainsIndex shape old new def now_def
  pub lost : (t : ℕ) (def now_def : TableDef) → def_at defs t ≡ Some def → def_at now t ≡ Some now_def → length now_def.indexes < length def.indexes → LosesIndex shape old new def now_def
