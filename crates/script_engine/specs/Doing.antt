-- What a statement does to ready pages, and when it runs full.
use Rattle.std.specs.Prelude.{◌≡◌, ◌<◌, ℕ, Bool, true, false, List, [], AllPairs, map, filter, Option, Some, IsPermutation}
use Rattle.mdc_ast.specs.declared.bound.Bound.{Bound}
use Rattle.mdc_ast.specs.declared.bound.Bound.TheVariants as bound
use Rattle.mdc_ast.specs.declared.bound.BoundSet.{BoundSet}
use Rattle.mdc_ast.specs.declared.definition.IndexDef.{IndexDef}
use Rattle.mdc_ast.specs.declared.definition.TableDef.{TableDef}
use Rattle.mdc_ast.specs.declared.predicate.Pred.{Pred}
use Rattle.mdc_ast.specs.declared.reply.Outcome.{Outcome}
use Rattle.mdc_ast.specs.declared.reply.Outcome.TheVariants as said
use Rattle.mdc_ast.specs.declared.reply.Reply.TheVariants as reply
use Rattle.mdc_ast.specs.declared.row.Row.{Row}
use Rattle.mdc_ast.specs.declared.statement.RolloutMode.{RolloutMode}
use Rattle.mdc_ast.specs.declared.statement.RolloutMode.TheVariants.{Immediate}
use Rattle.mdc_ast.specs.declared.statement.Stmt.{Stmt}
use Rattle.std.specs.List.{AllByRecursion}
use Rattle.statement_meaning.specs.Binding.{bound_of}
use Rattle.mdc_ast.specs.Database.{Database, numbered}
use Rattle.mdc_ast.specs.Definitions.{Definitions, def_at}
use Rattle.statement_meaning.specs.Doing.{causes_of_rows, changed_row}
use Rattle.mdc_ast.specs.Truth.{qualifies}
use Rattle.statement_meaning.specs.Session.{AgreesWith, Session, turn}
use Rattle.statement_meaning.specs.Step.{Answer, faults, step}
use Rattle.store_api.specs.declared.pages.Pages.{Ghosts}
use Rattle.store_api.specs.declared.shape.Shape.{Shape}
use Rattle.table_trees.specs.SpaceChanges.{MakesChanges, SpaceChange}
use Rattle.table_trees.specs.ToldPages.{PageList}
use Rattle.mdc_sound.specs.RunningFull.{CreateRunsFull, IndexRunsFull, InsertRunsFull, ShowsTableSpots, UpdateRunsFull}
use Rattle.mdc_sound.specs.Placing.{RollsOut, Spot, SpotsAfterReturns, block_slot_count, reclaimed_spot, rows_from_spot}
use Rattle.mdc_sound.specs.StandingTable.{pages_of}
use Rattle.mdc_sound.specs.StandsForDatabase.{PagesStandFor}
use Rattle.mdc_sound.specs.TablePages.{DefinesTable}
use Rattle.mdc_sound.specs.TableRows.{PlacedRow}
use Rattle.row_checks.specs.Executing.{answer_of, done}
use Rattle.rollout.specs.Applying.{applies_to}
use Rattle.rollout.specs.RolledBlocks.{TakesNothing, is_chosen}
use Rattle.rollout.specs.RolledSpace.{RollsInSpace}
use Rattle.statement_rows.specs.RowsAndSpace.{PutsRowsBy, TakesRowsBy, TurnsRowsBy}
use Rattle.script_engine.specs.Listing.{PagesTell}
use Rattle.script_engine.specs.Others.{KeepsOthers, touched_place}
use Rattle.script_engine.specs.Ready.{IsReady}
use Rattle.script_engine.specs.Roles.{role_of, tells_pages}
use Rattle.script_engine.specs.declared.tables.Tables.{Tables}

-- ---- the plain database

-- the pages stand for the database that the end of a statement is, and the outcome says its answer
pub record StandsAfter (shape : Shape) (pages : PageList) (end_ : Database × Answer) (outcome : Outcome) : Type 0 where
  pub pages_are : PagesStandFor shape pages end_.0
  pub answers : end_.1 ≡ answer_of outcome

-- ---- where its rows go

-- the rows that qualify, of these spots, by rising row number
pub record AreQualifying (spots : List Spot) (pred : Option Pred) (rows : List PlacedRow) : Type 0 where
  pub are : IsPermutation (filter (λ placed. qualifies pred placed.row.values) (rows_from_spot 0 spots)) rows
  pub rising : AllPairs (λ a b. a.row.number < b.row.number) rows

-- each row with the one that an UPDATE makes of it
abbrev pub with_changed : List BoundSet → Option Pred → List PlacedRow → List (PlacedRow × Row)
with_changed sets pred rows = map (λ placed. (placed, changed_row sets pred placed.row)) rows

-- Whether a DELETE releases whole blocks: in the mode IMMEDIATE, where there is no WHERE, or it names dimension columns alone. A run
-- is set to DEFERRED only once there is a cleaner (docs/SQL.md, "DELETE").
abbrev pub goes_by_blocks : RolloutMode → Option Pred → TableDef → Bool
goes_by_blocks Immediate pred def = applies_to pred def
goes_by_blocks mode pred def = false

-- Where the rows of a statement that is done went, in blocks of n slots, and the changes of space that they ask for: an INSERT puts
-- them in order, a DELETE takes them out, an UPDATE turns them, each by row number. A DELETE that goes by blocks makes each block Free
-- that has a row that qualifies, and asks for no space. RECLAIM gives the Free blocks back, and no other.
pub data PlacesRows (mode : RolloutMode) (def : TableDef) (n : ℕ) (was : List Spot) (space : List SpaceChange) (is : List Spot) : Bound → Type 0 where
  insert : {place : ℕ} {tuples : _} → PutsRowsBy def n was (numbered def.next tuples) space is → PlacesRows mode def n was space is (bound.Insert place tuples)
  delete : {place : ℕ} {pred : Option Pred} (rows : List PlacedRow) → goes_by_blocks mode pred def ≡ false → AreQualifying was pred rows → TakesRowsBy def was rows space is
      → PlacesRows mode def n was space is (bound.Delete place pred)
  roll : {place : ℕ} {pred : Option Pred} → goes_by_blocks mode pred def ≡ true → RollsOut def mode (is_chosen pred) was is → space ≡ []
      → PlacesRows mode def n was space is (bound.Delete place pred)
  reclaim : {place : ℕ} → SpotsAfterReturns (map reclaimed_spot was) is → AllByRecursion TakesNothing space → PlacesRows mode def n was space is (bound.Reclaim place)
  update : {place : ℕ} {sets : List BoundSet} {pred : Option Pred} (rows : List PlacedRow) → AreQualifying was pred rows
      → TurnsRowsBy def n was (with_changed sets pred rows) space is → PlacesRows mode def n was space is (bound.Update place sets pred)

-- these changes of space were made, one after the other, or, where blocks were released at once, space was given back or left
abbrev pub MakesSpace : Bool → Shape → TableDef → PageList → List SpaceChange → PageList → Type 0
MakesSpace true shape def old space new = RollsInSpace shape def old new
MakesSpace false shape def old space new = MakesChanges shape old space new

-- the same of a statement, which releases blocks at once where it is a DELETE that goes by blocks
abbrev pub MakesAsked : Shape → RolloutMode → TableDef → Bound → PageList → List SpaceChange → PageList → Type 0
MakesAsked shape mode def (bound.Delete place pred) old space new = MakesSpace (goes_by_blocks mode pred def) shape def old space new
MakesAsked shape mode def statement old space new = MakesChanges shape old space new

-- The same on pages: they show the table's spots before and after, trees took no more space than these changes, and the table's
-- definition stays but for its next row number.
pub record PlacesOnPages (shape : Shape) (old new : PageList) (mode : RolloutMode) (def : TableDef) (statement : Bound) : Type 0 where
  pub was : List Spot
  pub is : List Spot
  pub shown_before : ShowsTableSpots shape old def was
  pub shown_after : ShowsTableSpots shape new def is
  pub space : List SpaceChange
  pub places : PlacesRows mode def (block_slot_count shape def) was space is statement
  pub makes : MakesAsked shape mode def statement old space new
  pub defined : (n : ℕ) × DefinesTable new def.number (record def { next = n })

-- the place of the table whose rows or blocks a statement changes, if it changes any
abbrev pub changed_place : Bound → Option ℕ
changed_place (bound.Insert place tuples) = Some place
changed_place (bound.Delete place pred) = Some place
changed_place (bound.Update place sets pred) = Some place
changed_place (bound.Reclaim place) = Some place
changed_place statement = Option.None

-- ---- a statement

-- A bound statement was done on ready pages, or its rows were against it. They are ready again, stand for the plain database that
-- it makes of whatever they stood for, and the outcome says its answer. Rows went where placing says, trees took no more space than
-- these ask for, and other tables stay.
pub record DoesStatement {S : Type 0} (g : Ghosts S) (old new : S) (before now : Tables) (statement : Bound) (outcome : Outcome) : Type 0 where
  pub ready : IsReady g new now
  pub stands : (db : Database) → PagesStandFor before.shape (pages_of g old) db → StandsAfter now.shape (pages_of g new) (done db statement) outcome
  pub places : (reply : _) → outcome ≡ said.Done reply → (place : ℕ) (def : TableDef) → changed_place statement ≡ Some place → def_at before.catalog place ≡ Some def
      → PlacesOnPages before.shape (pages_of g old) (pages_of g new) before.settings.rollout def statement
  pub others : KeepsOthers before.shape (pages_of g old) (pages_of g new) before.catalog now.catalog (touched_place statement)

-- A statement was executed on ready pages: the same of its text.
pub record DoesStep {S : Type 0} (g : Ghosts S) (old new : S) (before now : Tables) (stmt : Stmt) (outcome : Outcome) : Type 0 where
  pub ready : IsReady g new now
  pub stands : (db : Database) → PagesStandFor before.shape (pages_of g old) db → StandsAfter now.shape (pages_of g new) (step db stmt) outcome
  pub places : (reply : _) → outcome ≡ said.Done reply → (place : ℕ) (def : TableDef) → changed_place (bound_of before.catalog stmt) ≡ Some place → def_at before.catalog place ≡ Some def
      → PlacesOnPages before.shape (pages_of g old) (pages_of g new) before.settings.rollout def (bound_of before.catalog stmt)
  pub others : KeepsOthers before.shape (pages_of g old) (pages_of g new) before.catalog now.catalog (touched_place (bound_of before.catalog stmt))

-- a statement left the pages and the definitions
pub record LeavesAll {S : Type 0} (g : Ghosts S) (old new : S) (before now : Tables) : Type 0 where
  pub pages : pages_of g new ≡ pages_of g old
  pub catalog : now.catalog ≡ before.catalog

-- it is told that no row went, or that none was changed
abbrev pub SaysNoRow : Outcome → Type 0
SaysNoRow (said.Done (reply.Deleted count)) = count ≡ 0
SaysNoRow (said.Done (reply.Updated count)) = count ≡ 0
SaysNoRow outcome = ⊥

-- LIST BLOCKS or EXPLAIN was executed on ready pages: nothing changed, it turns no session that they stand for, and it was answered as lists of
-- rows answer it, or as the pages tell.
pub record TellsPages {S : Type 0} (g : Ghosts S) (old new : S) (before now : Tables) (stmt : Stmt) (outcome : Outcome) : Type 0 where
  pub ready : IsReady g new now
  pub leaves : LeavesAll g old new before now
  pub answers : (session : Session) → PagesStandFor before.shape (pages_of g old) session.working
      → (answer : Answer) × (turn session stmt ≡ (session, answer)) × AgreesWith (PagesTell before.shape (pages_of g old) before.catalog before.settings.plan stmt) answer outcome

-- A statement was executed on ready pages: it did its step, or, where it is LIST BLOCKS or EXPLAIN, told of the pages.
pub data DoesReady {S : Type 0} (g : Ghosts S) (old new : S) (before now : Tables) (stmt : Stmt) (outcome : Outcome) : Type 0 where
  steps : tells_pages (role_of stmt) ≡ false → DoesStep g old new before now stmt outcome → DoesReady g old new before now stmt outcome
  tells : tells_pages (role_of stmt) ≡ true → TellsPages g old new before now stmt outcome → DoesReady g old new before now stmt outcome

-- a bound statement is a query
abbrev pub is_query : Bound → Bool
is_query (bound.Query select) = true
is_query statement = false

-- ---- running full

-- a statement runs full on these pages
pub data StatementRunsFull (shape : Shape) (work : PageList) (defs : Definitions) : Bound → Type 0 where
  create : {def : TableDef} → CreateRunsFull shape work def → StatementRunsFull shape work defs (bound.CreateTable def)
  index : {place : ℕ} {index : IndexDef} (def : TableDef) → def_at defs place ≡ Some def → IndexRunsFull shape work def index → StatementRunsFull shape work defs (bound.CreateIndex place index)
  insert : {place : ℕ} {tuples : _} (def : TableDef) → def_at defs place ≡ Some def → InsertRunsFull shape work def (numbered def.next tuples)
      → StatementRunsFull shape work defs (bound.Insert place tuples)
  update : {place : ℕ} {sets : List BoundSet} {pred : Option Pred} (def : TableDef) (spots : List Spot) (rows : List PlacedRow) → def_at defs place ≡ Some def
      → ShowsTableSpots shape work def spots → AreQualifying spots pred rows → UpdateRunsFull shape work def (with_changed sets pred rows)
      → StatementRunsFull shape work defs (bound.Update place sets pred)

-- A bound statement runs full and nothing else is said against it: 70 comes last in the order of refusals.
pub record RunsFullAlone (shape : Shape) (work : PageList) (defs : Definitions) (statement : Bound) : Type 0 where
  pub full : StatementRunsFull shape work defs statement
  pub faultless : (db : Database) → PagesStandFor shape work db → causes_of_rows db statement ≡ []

-- the same of a statement's text
pub record StepRunsFull (shape : Shape) (work : PageList) (defs : Definitions) (stmt : Stmt) : Type 0 where
  pub full : StatementRunsFull shape work defs (bound_of defs stmt)
  pub faultless : (db : Database) → PagesStandFor shape work db → faults db stmt ≡ []
