-- Rule 7 by the blocks of all tables.
use Rattle.std.proofs.Common.{◌+◌, ◌/◌, ◌%◌, ℕ, Option, refl, sym, subst, inl, inr}
use Rattle.std.specs.List.{AllByRecursion}
use Rattle.mdc_ast.specs.Definitions.{Definitions}
use Rattle.store_api.specs.Extents.{first_page_of}
use Rattle.store_api.specs.declared.shape.Shape.{Shape}
use Rattle.row_page.specs.RowPage.{slot_count}
use Rattle.block_map.specs.MapLines.{used_blocks}
use Rattle.table_trees.specs.ToldPages.{PageList}
use Rattle.mdc_sound.specs.BlockLines.{mapped_line}
use Rattle.mdc_sound.specs.BlockRules.{AreRowPagesSound}
use Rattle.mdc_sound.specs.Breaks.{BreaksRule}
use Rattle.mdc_ast.specs.FittingRows.{RowFits}
use Rattle.mdc_sound.specs.SpaceRules.{DatabaseView, tables_there}
use Rattle.file_check.specs.Judging.{BreaksAny, JudgesEach, JudgesRule}
use Rattle.file_check.specs.Known.{ViewHasTrees}
use Rattle.file_check.specs.RulesOfTables.{BreaksTableRule, KeepsTableRule}
use Rattle.file_check.specs.declared.block_rule.BlockRule.TheVariants.{RowPages}
use Rattle.file_check.specs.declared.table_rule.TableRule.TheVariants.{Block}
use Rattle.file_check.specs.BlocksJudged.{BreaksBlockRows}
use Rattle.file_check.proofs.BlockSlotsLemmas.{page_of_row, row_on_page}
use Rattle.file_check.proofs.JudgingLemmas.{judges_as}
use Rattle.file_check.proofs.ShownBreaksLemmas.{shown_break, shown_line, used_shown, viewed_break}

module _ (shape : Shape) (pages : PageList) (defs : Definitions) (view : DatabaseView) (has : ViewHasTrees shape pages defs view) where
  breaks_rule7 : (p : ℕ) → BreaksAny (BreaksTableRule (Block RowPages) shape pages) (tables_there view.places) p → BreaksRule shape pages 7 p
  breaks_rule7 p broken =
      let b = shown_break shape pages defs view has used_blocks (BreaksBlockRows shape pages) p broken in
      let def = b.def in
      let block = b.item in
      let line = mapped_line b.tree block in
      let shows = shown_line block b.tree b.shows b.map_is in
      subst (BreaksRule shape pages 7) (sym b.breaks.page) (elim b.breaks.unfit [
        | inl no_form ↦ BreaksRule.row_page b.t def line b.breaks.place shows b.breaks.within no_form
        | inr misfit ↦
            let on = row_on_page shape pages def block b.breaks.place misfit.slot misfit.row b.breaks.within misfit.within misfit.stands in
            subst (λ n. BreaksRule shape pages 7 (first_page_of shape.extents shape.extent_pages block + n)) on.page_is
            (BreaksRule.row b.t def line on.placed shows on.there (λ fits. misfit.unfit (subst (RowFits def) on.row_is fits)))
      ])

  rule7_breaks : (p : ℕ) → BreaksRule shape pages 7 p → BreaksAny (BreaksTableRule (Block RowPages) shape pages) (tables_there view.places) p
  rule7_breaks p (BreaksRule.row_page t def line j shows low no_form) =
      viewed_break shape pages defs view has used_blocks (BreaksBlockRows shape pages) t def line.block p (used_shown line shows) (record { place = j; within = low; page = refl; unfit = inl no_form })
  rule7_breaks p (BreaksRule.row t def line placed shows there unfit) =
      let is = page_of_row shape pages def line.block placed there in
      viewed_break shape pages defs view has used_blocks (BreaksBlockRows shape pages) t def line.block p (used_shown line shows) (record {
        place = placed.rid.slot / slot_count def.columns;
        within = is.page;
        page = refl;
        unfit = inr (record { slot = placed.rid.slot % slot_count def.columns; row = placed.row; within = is.slot; stands = is.stands; unfit = unfit });
      })

  -- the tables that were judged are the rule
  pub judges_rule7 : (found : Option ℕ) → JudgesEach (KeepsTableRule (Block RowPages) shape pages) (BreaksTableRule (Block RowPages) shape pages) (tables_there view.places) found → JudgesRule shape pages 7 (AreRowPagesSound shape pages view) found
  judges_rule7 found judged =
      judges_as {P = AllByRecursion (KeepsTableRule (Block RowPages) shape pages) (tables_there view.places)} {Q = AreRowPagesSound shape pages view} {A = BreaksAny (BreaksTableRule (Block RowPages) shape pages) (tables_there view.places)} {B = BreaksRule shape pages 7}
      found (λ all. all) breaks_rule7 rule7_breaks judged
