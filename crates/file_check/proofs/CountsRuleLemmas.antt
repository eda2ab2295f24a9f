-- Rule 8 by the lines of all block maps.
use Rattle.std.proofs.Common.{ℕ, Option, refl, sym, subst, inl, inr}
use Rattle.std.specs.List.{AllByRecursion}
use Rattle.mdc_ast.specs.Definitions.{Definitions}
use Rattle.store_api.specs.declared.shape.Shape.{Shape}
use Rattle.block_map.specs.MapLines.{map_lines}
use Rattle.table_trees.specs.ToldPages.{PageList}
use Rattle.mdc_sound.specs.BlockRules.{IsIdleCountSound, IsUsedCountSound}
use Rattle.mdc_sound.specs.Breaks.{BreaksRule}
use Rattle.mdc_sound.specs.SoundDatabase.{AreCountsSound}
use Rattle.mdc_sound.specs.SpaceRules.{DatabaseView, tables_there}
use Rattle.mdc_sound.proofs.BlockRulesLemmas.{each_as}
use Rattle.file_check.specs.BlocksJudged.{BreaksLineCount, IsLineCounted}
use Rattle.file_check.specs.Judging.{BreaksAny, JudgesEach, JudgesRule}
use Rattle.file_check.specs.Known.{ViewHasTrees}
use Rattle.file_check.specs.RulesOfTables.{BreaksTableRule, KeepsTableRule}
use Rattle.file_check.specs.declared.block_rule.BlockRule.TheVariants.{Counts}
use Rattle.file_check.specs.declared.table_rule.TableRule.TheVariants.{Block}
use Rattle.file_check.proofs.JudgingLemmas.{judges_as}
use Rattle.file_check.proofs.ShownBreaksLemmas.{shown_break, viewed_break}

module _ (shape : Shape) (pages : PageList) (defs : Definitions) (view : DatabaseView) (has : ViewHasTrees shape pages defs view) where
  breaks_rule8 : (p : ℕ) → BreaksAny (BreaksTableRule (Block Counts) shape pages) (tables_there view.places) p → BreaksRule shape pages 8 p
  breaks_rule8 p broken =
      let b = shown_break shape pages defs view has map_lines (BreaksLineCount shape pages) p broken in
      subst (BreaksRule shape pages 8) (sym b.breaks.page) (elim b.breaks.miscounted [
        | inl wrong ↦ BreaksRule.used_count b.t b.def b.item b.shows wrong
        | inr wrong ↦ BreaksRule.idle_count b.t b.def b.item b.shows wrong
      ])

  rule8_breaks : (p : ℕ) → BreaksRule shape pages 8 p → BreaksAny (BreaksTableRule (Block Counts) shape pages) (tables_there view.places) p
  rule8_breaks p (BreaksRule.used_count t def line shows wrong) = viewed_break shape pages defs view has map_lines (BreaksLineCount shape pages) t def line p shows (record { page = refl; miscounted = inl wrong })
  rule8_breaks p (BreaksRule.idle_count t def line shows wrong) = viewed_break shape pages defs view has map_lines (BreaksLineCount shape pages) t def line p shows (record { page = refl; miscounted = inr wrong })

  all_counted : AllByRecursion (KeepsTableRule (Block Counts) shape pages) (tables_there view.places) → AreCountsSound shape pages view
  all_counted all = record {
    used = each_as (KeepsTableRule (Block Counts) shape pages) (λ table. AllByRecursion (IsUsedCountSound shape pages table.def) (map_lines table.map)) (tables_there view.places)
        (λ table inside lines. each_as (IsLineCounted shape pages table.def) (IsUsedCountSound shape pages table.def) (map_lines table.map) (λ line there is. is.used) lines) all;
    idle = each_as (KeepsTableRule (Block Counts) shape pages) (λ table. AllByRecursion IsIdleCountSound (map_lines table.map)) (tables_there view.places)
        (λ table inside lines. each_as (IsLineCounted shape pages table.def) IsIdleCountSound (map_lines table.map) (λ line there is. is.idle) lines) all;
  }

  -- the tables that were judged are the rule
  pub judges_rule8 : (found : Option ℕ) → JudgesEach (KeepsTableRule (Block Counts) shape pages) (BreaksTableRule (Block Counts) shape pages) (tables_there view.places) found → JudgesRule shape pages 8 (AreCountsSound shape pages view) found
  judges_rule8 found judged =
      judges_as {P = AllByRecursion (KeepsTableRule (Block Counts) shape pages) (tables_there view.places)} {Q = AreCountsSound shape pages view} {A = BreaksAny (BreaksTableRule (Block Counts) shape pages) (tables_there view.places)} {B = BreaksRule shape pages 8}
      found all_counted breaks_rule8 rule8_breaks judged
