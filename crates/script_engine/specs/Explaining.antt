-- EXPLAIN: what is told of how a query is carried out.
use Rattle.std.specs.Prelude.{◌≡◌, ℕ, Bool, true, false, filter, length, Option, Some}
use Rattle.mdc_ast.specs.declared.bound.Bound.{Bound}
use Rattle.mdc_ast.specs.declared.bound.Bound.TheVariants as bound
use Rattle.mdc_ast.specs.declared.definition.TableDef.{TableDef}
use Rattle.mdc_ast.specs.declared.predicate.Pred.{Pred}
use Rattle.mdc_ast.specs.declared.reply.Outcome.{Outcome}
use Rattle.mdc_ast.specs.declared.reply.Outcome.TheVariants as said
use Rattle.mdc_ast.specs.declared.reply.Reply.TheVariants as reply
use Rattle.mdc_ast.specs.declared.statement.PlanMode.{PlanMode}
use Rattle.mdc_ast.specs.Database.{Database, PlainTable, table_at}
use Rattle.mdc_ast.specs.Definitions.{Definitions, def_at}
use Rattle.mdc_ast.specs.Truth.{qualifies}
use Rattle.store_api.specs.declared.shape.Shape.{Shape}
use Rattle.entry_tree.specs.Forest.{Forest}
use Rattle.block_rows.specs.HeldRows.{qualifying}
use Rattle.table_trees.specs.TableTrees.{map_place}
use Rattle.table_trees.specs.ToldPages.{HasTree, PageList}
use Rattle.mdc_sound.specs.TableRows.{rows_in_table}
use Rattle.plan_chooser.specs.declared.plan.Plan.{Plan}
use Rattle.plan_chooser.specs.declared.word.PlanWord.{PlanWord}
use Rattle.plan_chooser.specs.PlanRows.{plan_row}
use Rattle.plan_chooser.specs.Rule.{plan_of}
use Rattle.plan_chooser.specs.Words.{word_of, word_text}
use Rattle.answer_text.specs.ExplainedPlan.{explain_text}
use Rattle.executor.specs.RowBlocks.{IsBlockWith, IsCountOf}

-- what is said of a plan with this word, of so many blocks with a row that it has, and of so many rows that qualify
abbrev pub word_told : PlanWord → ℕ → ℕ → Outcome
word_told word blocks rows = said.Done (reply.Lines (explain_text (word_text word) blocks rows))

abbrev pub plan_told : Plan → ℕ → ℕ → Outcome
plan_told plan blocks rows = word_told (word_of plan) blocks rows

-- there are so many Used blocks, by this block map, with a row that the plan has
abbrev pub CountsBlocksOf : Shape → PageList → TableDef → Forest → Plan → ℕ → Type 0
CountsBlocksOf shape pages def map_tree plan blocks = IsCountOf (IsBlockWith shape pages def map_tree (λ placed. plan_row def placed.row.values plan ≡ true)) blocks

-- The outcome tells the plan that the plan rule gives to a predicate in this mode, how many Used blocks of the table on these pages
-- have a row of the plan, and how many rows of the table there qualify.
pub record TellsPlan (shape : Shape) (pages : PageList) (def : TableDef) (mode : PlanMode) (pred : Option Pred) (outcome : Outcome) : Type 0 where
  pub map_tree : Forest
  pub has_map : HasTree pages (map_place def) map_tree
  pub blocks : ℕ
  pub counted : CountsBlocksOf shape pages def map_tree (plan_of def mode pred) blocks
  pub tells : outcome ≡ plan_told (plan_of def mode pred) blocks (length (qualifying pred (rows_in_table shape pages def map_tree)))

-- a bound statement is EXPLAIN
abbrev pub is_explaining : Bound → Bool
is_explaining (bound.Explain select) = true
is_explaining statement = false

-- the same of the query of a bound EXPLAIN, whose table these definitions have
abbrev pub ExplainsOn : Shape → PageList → Definitions → PlanMode → Bound → Outcome → Type 0
ExplainsOn shape pages defs mode (bound.Explain select) outcome = (def : TableDef) × (def_at defs select.table ≡ Some def) × TellsPlan shape pages def mode select.pred outcome
ExplainsOn shape pages defs mode statement outcome = ⊥

-- ---- what lists of rows know of it

-- the outcome tells the plan that the plan rule gives to a predicate in this mode, some number of blocks, and how many rows of the
-- plain table qualify
pub record TellsRows (table : PlainTable) (mode : PlanMode) (pred : Option Pred) (outcome : Outcome) : Type 0 where
  pub blocks : ℕ
  pub tells : outcome ≡ plan_told (plan_of table.def mode pred) blocks (length (filter (λ row. qualifies pred row.values) table.rows))

-- the same of the query of a bound EXPLAIN, whose table this database has
abbrev pub ExplainsRows : Database → PlanMode → Bound → Outcome → Type 0
ExplainsRows db mode (bound.Explain select) outcome = (table : PlainTable) × (table_at db select.table ≡ Some table) × TellsRows table mode select.pred outcome
ExplainsRows db mode statement outcome = ⊥
