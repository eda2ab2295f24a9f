-- The rows of a plan, layer by layer.
use Rattle.std.proofs.Common.{◌≡◌, ◌∙◌, ℕ, List, Bool, true, map, sym, ap}
use Rattle.mdc_values.specs.declared.value.Value.{Value}
use Rattle.mdc_ast.specs.declared.definition.TableDef.{TableDef}
use Rattle.mdc_ast.specs.declared.span.Span.{Span}
use Rattle.mdc_ast.specs.Truth.{all_true, value_at}
use Rattle.key_codec.specs.Spans.{lies_in_span}
use Rattle.cell_filter.specs.Cells.{any_true}
use Rattle.plan_chooser.specs.declared.plan.Plan.{Plan}
use Rattle.plan_chooser.specs.declared.plan.Plan.TheFolds.{fold-roll-Plan}
use Rattle.plan_chooser.specs.declared.plan.Plan.TheOpen as layer
use Rattle.plan_chooser.specs.declared.plan.Plan.TheVariants as plan
use Rattle.plan_chooser.specs.declared.plan.Plan.TheVariants.{rolls-All, rolls-Any, rolls-Blocks, rolls-Rids, rolls-Scan}
use Rattle.plan_chooser.specs.PlanRows.{fits_dimension, fits_index, fits_plan, index_column, layer_fits, layer_row, plan_row}

module _ (def : TableDef) (values : List Value) where
  pub plan_row-Scan : plan_row def values plan.Scan ≡ true
  plan_row-Scan = ap (plan_row def values) (sym rolls-Scan) ∙ fold-roll-Plan Bool (layer_row def values) layer.Scan

  pub plan_row-Blocks : (dim column : ℕ) (span : Span) → plan_row def values (plan.Blocks dim column span) ≡ lies_in_span span (value_at values column)
  plan_row-Blocks dim column span = ap (plan_row def values) (sym (rolls-Blocks dim column span)) ∙ fold-roll-Plan Bool (layer_row def values) (layer.Blocks dim column span)

  pub plan_row-Rids : (index : ℕ) (span : Span) → plan_row def values (plan.Rids index span) ≡ lies_in_span span (value_at values (index_column def index))
  plan_row-Rids index span = ap (plan_row def values) (sym (rolls-Rids index span)) ∙ fold-roll-Plan Bool (layer_row def values) (layer.Rids index span)

  pub plan_row-All : (parts : List Plan) → plan_row def values (plan.All parts) ≡ all_true (map (plan_row def values) parts)
  plan_row-All parts = ap (plan_row def values) (sym (rolls-All parts)) ∙ fold-roll-Plan Bool (layer_row def values) (layer.All parts)

  pub plan_row-Any : (parts : List Plan) → plan_row def values (plan.Any parts) ≡ any_true (map (plan_row def values) parts)
  plan_row-Any parts = ap (plan_row def values) (sym (rolls-Any parts)) ∙ fold-roll-Plan Bool (layer_row def values) (layer.Any parts)

module _ (def : TableDef) where
  pub fits_plan-Blocks : (dim column : ℕ) (span : Span) → fits_plan def (plan.Blocks dim column span) ≡ fits_dimension def dim column span
  fits_plan-Blocks dim column span = ap (fits_plan def) (sym (rolls-Blocks dim column span)) ∙ fold-roll-Plan Bool (layer_fits def) (layer.Blocks dim column span)

  pub fits_plan-Rids : (index : ℕ) (span : Span) → fits_plan def (plan.Rids index span) ≡ fits_index def index span
  fits_plan-Rids index span = ap (fits_plan def) (sym (rolls-Rids index span)) ∙ fold-roll-Plan Bool (layer_fits def) (layer.Rids index span)

  pub fits_plan-All : (parts : List Plan) → fits_plan def (plan.All parts) ≡ all_true (map (fits_plan def) parts)
  fits_plan-All parts = ap (fits_plan def) (sym (rolls-All parts)) ∙ fold-roll-Plan Bool (layer_fits def) (layer.All parts)

  pub fits_plan-Any : (parts : List Plan) → fits_plan def (plan.Any parts) ≡ all_true (map (fits_plan def) parts)
  fits_plan-Any parts = ap (fits_plan def) (sym (rolls-Any parts)) ∙ fold-roll-Plan Bool (layer_fits def) (layer.Any parts)

  pub fits_plan-Scan : fits_plan def plan.Scan ≡ true
  fits_plan-Scan = ap (fits_plan def) (sym rolls-Scan) ∙ fold-roll-Plan Bool (layer_fits def) layer.Scan
