-- A pass over blocks of a table: how far it has come, how a step goes on, and what no longer names a block of it.
use Rattle.std.specs.Prelude.{◌≡◌, ◌≢◌, ◌<◌, ◌+◌, ℕ, true, false, List, [], Contains, Option, None, Some, replicate, set, slice_get}
use Rattle.mdc_words.specs.ByteOrder.{Entry}
use Rattle.mdc_ast.specs.declared.definition.TableDef.{TableDef}
use Rattle.store_api.specs.declared.pages.Pages.{Ghosts}
use Rattle.store_api.specs.declared.shape.Shape.{Shape}
use Rattle.extent_map.specs.declared.kind.Kind.{Kind}
use Rattle.extent_map.specs.declared.space_notes.SpaceNotes.{SpaceNotes}
use Rattle.key_codec.specs.Keys.{width_of_parts}
use Rattle.node_page.specs.Entries.{names_block}
use Rattle.entry_tree.specs.EntryBounds.{Bound}
use Rattle.entry_tree.specs.Forest.{Forest, leaf_entries}
use Rattle.entry_tree.specs.Reading.{BoundFits}
use Rattle.entry_tree.specs.Sweeping.{lies_under}
use Rattle.table_trees.specs.TableTrees.{record_places}
use Rattle.table_trees.specs.TreesBeside.{ChangesTrees}
use Rattle.mdc_sound.specs.StandingTable.{StandsTable, TableForests}
use Rattle.block_map.specs.MapLines.{pending_blocks}
use Rattle.record_index.specs.RecordIndexes.{parts_of_record_index, place_of_record_index}
use Rattle.record_index.specs.SweptLeaf.{SweepsOneLeaf}
use Rattle.cleaner.specs.declared.pass.Pass.{Pass}

-- ---- how a step goes on

-- where the next step begins: at the bound, or at or below each entry of the index
abbrev pub bound_from : TableDef → ℕ → Bound → Entry
bound_from def index None = replicate (place_of_record_index def index).width 0
bound_from def index (Some bound) = bound

-- a step of a pass begins there
abbrev pub BeginsAt : TableDef → Pass → Entry → Type 0
BeginsAt def pass bound = bound ≡ bound_from def pass.index pass.bound

-- behind a step a pass is at the next bound, or it is to begin with the next index
abbrev pub goes_on : Pass → Bound → Pass
goes_on pass None = record pass { index = pass.index + 1; bound = None }
goes_on pass (Some next) = record pass { bound = Some next }

-- A pass went on: over the same blocks of the same table, in the same index at a bound of its width, or to the next one.
pub record GoesOn (def : TableDef) (was is : Pass) : Type 0 where
  pub next : Bound
  pub fits : BoundFits (place_of_record_index def was.index).width next
  pub on : is ≡ goes_on was next

-- A pass begins where a block is Pending: over all of them, before the first entry of the first index. Else there is none.
abbrev pub BeginsPass : TableDef → List ℕ → Option Pass → Type 0
BeginsPass def pending None = pending ≡ []
BeginsPass def pending (Some pass) = (pending ≢ []) × (pass ≡ record { table = def.number; blocks = pending; index = 0; bound = None })

-- ---- what is done

-- no entry below a bound, or none at all where there is no bound, names one of the blocks
abbrev pub NamesNoneUnder : ℕ → List ℕ → Bound → Forest → Type 0
NamesNoneUnder key_width blocks bound t = (y : Entry) → Contains (leaf_entries t) y → lies_under bound y ≡ true → names_block blocks key_width y ≡ false

-- the width of the key of the n-th index
abbrev pub key_width_at : TableDef → ℕ → ℕ
key_width_at def n = width_of_parts def.columns (parts_of_record_index def n)

-- What a pass has come past names no block of it: no entry of an index before the one that it works on, and none below its bound there.
pub record IsDone (def : TableDef) (pass : Pass) (trees : List Forest) : Type 0 where
  pub earlier : (n : ℕ) (t : Forest) → n < pass.index → slice_get trees n ≡ Some t → NamesNoneUnder (key_width_at def n) pass.blocks None t
  pub here : (t : Forest) (bound : Entry) → slice_get trees pass.index ≡ Some t → pass.bound ≡ Some bound → NamesNoneUnder (key_width_at def pass.index) pass.blocks (Some bound) t

-- A pass is sound over told pages: it is one over blocks of this table, each of which is Pending, and what it has come past names none
-- of them.
pub record IsSoundPass {S : Type 0} (g : Ghosts S) (shape : Shape) (s : S) (def : TableDef) (pass : Pass) : Type 0 where
  pub table : pass.table ≡ def.number
  pub pending : (owners : List Kind) (forests : TableForests) → StandsTable g shape s def owners forests → (block : ℕ) → Contains pass.blocks block → Contains (pending_blocks forests.map) block
  pub done : (owners : List Kind) (forests : TableForests) → StandsTable g shape s def owners forests → IsDone def pass forests.indexes

-- ---- what a step does

-- A step in the tree of the index that a pass works on: one leaf is swept from where the pass had come to, and the pass goes on.
pub record StepsInTree (def : TableDef) (was is : Pass) (removed : ℕ) (before after : Forest) : Type 0 where
  pub next : Bound
  pub sweeps : SweepsOneLeaf (bound_from def was.index was.bound) (key_width_at def was.index) was.blocks removed next before after
  pub on : is ≡ goes_on was next

-- A step among the record indexes of a table, which stand side by side: the tree of that index becomes another, all else stays, and
-- what the pass has come past names no block of it afterwards, where it named none before.
pub record PassSweeps {S : Type 0} (g : Ghosts S) (shape : Shape) (before noted : SpaceNotes) (new : S) (def : TableDef) (was is : Pass) (removed : ℕ) (owners : List Kind) (trees : List Forest) : Type 0 where
  pub owners_now : List Kind
  pub tree : Forest
  pub after : Forest
  pub there : slice_get trees was.index ≡ Some tree
  pub steps : StepsInTree def was is removed tree after
  pub changes : ChangesTrees g shape before noted new (record_places def) owners trees owners_now (set trees was.index after)
  pub done : IsDone def was trees → IsDone def is (set trees was.index after)
