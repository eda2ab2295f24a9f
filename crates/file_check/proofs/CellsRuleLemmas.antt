-- Rule 9 by the blocks of all tables.
use Rattle.std.proofs.Common.{ℕ, Option, refl, sym, subst}
use Rattle.std.specs.List.{AllByRecursion}
use Rattle.mdc_ast.specs.Definitions.{Definitions}
use Rattle.store_api.specs.declared.shape.Shape.{Shape}
use Rattle.block_map.specs.MapLines.{used_blocks}
use Rattle.table_trees.specs.ToldPages.{PageList}
use Rattle.mdc_sound.specs.BlockLines.{mapped_line}
use Rattle.mdc_sound.specs.BlockRules.{AreCellsSound}
use Rattle.mdc_sound.specs.Breaks.{BreaksRule}
use Rattle.mdc_sound.specs.SpaceRules.{DatabaseView, tables_there}
use Rattle.file_check.specs.BlocksJudged.{BreaksBlockCell}
use Rattle.file_check.specs.Judging.{BreaksAny, JudgesEach, JudgesRule}
use Rattle.file_check.specs.Known.{ViewHasTrees}
use Rattle.file_check.specs.RulesOfTables.{BreaksTableRule, KeepsTableRule}
use Rattle.file_check.specs.declared.block_rule.BlockRule.TheVariants.{Cells}
use Rattle.file_check.specs.declared.table_rule.TableRule.TheVariants.{Block}
use Rattle.file_check.proofs.JudgingLemmas.{judges_as}
use Rattle.file_check.proofs.ShownBreaksLemmas.{shown_break, shown_line, used_shown, viewed_break}

module _ (shape : Shape) (pages : PageList) (defs : Definitions) (view : DatabaseView) (has : ViewHasTrees shape pages defs view) where
  breaks_rule9 : (p : ℕ) → BreaksAny (BreaksTableRule (Block Cells) shape pages) (tables_there view.places) p → BreaksRule shape pages 9 p
  breaks_rule9 p broken =
      let b = shown_break shape pages defs view has used_blocks (BreaksBlockCell shape pages) p broken in
      subst (BreaksRule shape pages 9) (sym b.breaks.page) (BreaksRule.cell b.t b.def (mapped_line b.tree b.item) (shown_line b.item b.tree b.shows b.map_is) b.breaks.two)

  rule9_breaks : (p : ℕ) → BreaksRule shape pages 9 p → BreaksAny (BreaksTableRule (Block Cells) shape pages) (tables_there view.places) p
  rule9_breaks p (BreaksRule.cell t def line shows two) =
      viewed_break shape pages defs view has used_blocks (BreaksBlockCell shape pages) t def line.block p (used_shown line shows) (record { page = refl; two = two })

  -- the tables that were judged are the rule
  pub judges_rule9 : (found : Option ℕ) → JudgesEach (KeepsTableRule (Block Cells) shape pages) (BreaksTableRule (Block Cells) shape pages) (tables_there view.places) found → JudgesRule shape pages 9 (AreCellsSound shape pages view) found
  judges_rule9 found judged =
      judges_as {P = AllByRecursion (KeepsTableRule (Block Cells) shape pages) (tables_there view.places)} {Q = AreCellsSound shape pages view} {A = BreaksAny (BreaksTableRule (Block Cells) shape pages) (tables_there view.places)} {B = BreaksRule shape pages 9}
      found (λ all. all) breaks_rule9 rule9_breaks judged
