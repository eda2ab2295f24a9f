-- LIST BLOCKS and EXPLAIN: how many blocks a table has in each state, and how a query is carried out. Pages tell that, and no list of rows
-- does.
use Rattle.std.specs.Prelude.{◌≡◌, ℕ, length, Some}
use Rattle.mdc_ast.specs.declared.definition.TableDef.{TableDef}
use Rattle.mdc_ast.specs.declared.reply.Outcome.{Outcome}
use Rattle.mdc_ast.specs.declared.reply.Outcome.TheVariants as said
use Rattle.mdc_ast.specs.declared.reply.Reply.TheVariants as reply
use Rattle.mdc_ast.specs.declared.statement.PlanMode.{PlanMode}
use Rattle.mdc_ast.specs.declared.statement.Stmt.{Stmt}
use Rattle.mdc_ast.specs.declared.statement.Stmt.TheVariants.{Explain}
use Rattle.mdc_ast.specs.Database.{Database, defs_of}
use Rattle.mdc_ast.specs.Definitions.{Definitions, def_named}
use Rattle.statement_meaning.specs.Binding.{bound_of}
use Rattle.store_api.specs.declared.shape.Shape.{Shape}
use Rattle.entry_tree.specs.Forest.{Forest}
use Rattle.block_map.specs.MapLines.{free_blocks, pending_blocks, used_blocks}
use Rattle.table_trees.specs.TableTrees.{map_place}
use Rattle.table_trees.specs.ToldPages.{HasTree, PageList}
use Rattle.mdc_sound.specs.StandsForDatabase.{PagesStandFor}
use Rattle.answer_text.specs.BlockCounts.{blocks_line}
use Rattle.script_engine.specs.Explaining.{ExplainsOn, ExplainsRows}
use Rattle.script_engine.specs.Roles.{Explains, Lists, Role, role_of}

-- what is said of so many blocks in each state
abbrev pub blocks_told : ℕ → ℕ → ℕ → Outcome
blocks_told used free pending = said.Done (reply.Lines (blocks_line used free pending))

-- the outcome tells how many blocks the block map of a table on these pages has in each state
pub record TellsBlocks (pages : PageList) (def : TableDef) (outcome : Outcome) : Type 0 where
  pub map_tree : Forest
  pub has_map : HasTree pages (map_place def) map_tree
  pub tells : outcome ≡ blocks_told (length (used_blocks map_tree)) (length (free_blocks map_tree)) (length (pending_blocks map_tree))

-- The outcome is one that some pages tell to a statement of this role where they stand for this database: to LIST BLOCKS numbers of
-- blocks, and to EXPLAIN the plan of its query in this mode, some number of blocks, and how many rows qualify.
abbrev pub TellsSome : Database → PlanMode → Role → Outcome → Type 0
TellsSome db mode (Lists name) outcome = (used free pending : ℕ) × (outcome ≡ blocks_told used free pending)
TellsSome db mode (Explains select) outcome = ExplainsRows db mode (bound_of (defs_of db) (Explain select)) outcome
TellsSome db mode role outcome = ⊥

-- The outcome is what pages of these definitions tell to a statement of which lists of rows don't give the answer: to LIST BLOCKS how
-- many blocks there are, and to EXPLAIN, in this mode, the plan of its query, how many blocks have a row of it, and how many rows of
-- the plain table qualify.
abbrev pub ToldAs : Shape → PageList → Definitions → PlanMode → Role → Outcome → Type 0
ToldAs shape pages defs mode (Lists name) outcome = (def : TableDef) × (def_named defs name ≡ Some def) × TellsBlocks pages def outcome
ToldAs shape pages defs mode (Explains select) outcome =
    ExplainsOn shape pages defs mode (bound_of defs (Explain select)) outcome
    × ((db : Database) → PagesStandFor shape pages db → ExplainsRows db mode (bound_of (defs_of db) (Explain select)) outcome)
ToldAs shape pages defs mode role outcome = ⊥

-- the same of the statement
abbrev pub PagesTell : Shape → PageList → Definitions → PlanMode → Stmt → Outcome → Type 0
PagesTell shape pages defs mode stmt outcome = ToldAs shape pages defs mode (role_of stmt) outcome
