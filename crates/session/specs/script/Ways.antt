-- The words by which a run over pages is told, over sound pages or over any.
use Rattle.std.specs.Prelude.{ℕ, List}
use Rattle.mdc_ast.specs.declared.reply.Outcome.{Outcome}
use Rattle.mdc_ast.specs.declared.statement.Stmt.{Stmt}
use Rattle.mdc_ast.specs.Reading.{Item}
use Rattle.table_trees.specs.ToldPages.{PageList}
use Rattle.script_engine.specs.Held.{HeldPages}
use Rattle.session.specs.script.Going.{Stage}
use Rattle.session.specs.declared.stop.Stop.{Stop}

-- Which stage an item is met in, which pages it brings to hand, which pages a statement may have committed at which a run stopped, which
-- pages those of the last commit may be, and what a stop says of what was held, of the item in hand, and of the pages of the last commit.
pub record Way : Type 1 where
  pub Met : HeldPages → Item → Outcome → Stage → Type 0
  pub Brings : HeldPages → Item → List ℕ → Type 0
  pub Stopped : HeldPages → Stmt → PageList → Type 0
  pub Left : PageList → Type 0
  pub Stops : HeldPages → List Stage → List Item → Stop → PageList → Type 0
