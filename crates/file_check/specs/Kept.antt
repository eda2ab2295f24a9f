-- What is known between the parts of a check: the rules before hold, and no page breaks one of them.
use Rattle.std.specs.Prelude.{◌<◌, ℕ, List}
use Rattle.mdc_ast.specs.Definitions.{Definitions}
use Rattle.store_api.specs.declared.shape.Shape.{Shape}
use Rattle.extent_map.specs.declared.kind.Kind.{Kind}
use Rattle.table_trees.specs.ToldPages.{PageList}
use Rattle.mdc_sound.specs.Breaks.{BreaksRule}
use Rattle.mdc_sound.specs.SpaceRules.{AreTreePagesSound, DatabaseView}
use Rattle.file_check.specs.Known.{HasDefinitions, ViewHasBlocks, ViewHasTrees}

-- no page breaks a rule before this one
pub record NoneBreaksBefore (shape : Shape) (pages : PageList) (rule : ℕ) : Type 0 where
  pub none : (other p : ℕ) → other < rule → BreaksRule shape pages other p → ⊥

-- the first three rules are kept
pub record KeepsTables (shape : Shape) (defs : Definitions) (pages : PageList) : Type 0 where
  pub owners : List Kind
  pub known : HasDefinitions shape pages owners defs
  pub before : NoneBreaksBefore shape pages 4

-- the first five
pub record KeepsTrees (shape : Shape) (defs : Definitions) (pages : PageList) : Type 0 where
  pub view : DatabaseView
  pub known : ViewHasTrees shape pages defs view
  pub rule5 : AreTreePagesSound shape view
  pub before : NoneBreaksBefore shape pages 6

-- the first six
pub record KeepsBlockMaps (shape : Shape) (defs : Definitions) (pages : PageList) : Type 0 where
  pub view : DatabaseView
  pub known : ViewHasBlocks shape pages defs view
  pub before : NoneBreaksBefore shape pages 7
