-- A plan has each row of which its predicate is true.
use Rattle.std.proofs.Common.{◌≡◌, ◌∙◌, List, true, false, Some}
use Rattle.mdc_values.specs.declared.value.Value.{Value}
use Rattle.mdc_ast.specs.declared.definition.TableDef.{TableDef}
use Rattle.mdc_ast.specs.declared.predicate.Pred.{Pred}
use Rattle.mdc_ast.specs.declared.statement.PlanMode.{PlanMode}
use Rattle.mdc_ast.specs.declared.statement.PlanMode.TheVariants as mode
use Rattle.mdc_ast.specs.Truth.{is_true, may_judge, truth}
use Rattle.plan_chooser.specs.Covers.{plan_of_cover}
use Rattle.plan_chooser.specs.PlanRows.{plan_row}
use Rattle.plan_chooser.specs.Rule.{cover_under, plan_of}
use Rattle.plan_chooser.proofs.KindsLemmas.{judged_literals}
use Rattle.plan_chooser.proofs.PlanLemmas.{plan_row-Scan}
use Rattle.plan_chooser.proofs.RowLemmas.{plan_of_cover_row}
use Rattle.plan_chooser.proofs.ToldLemmas.{cover_told, told_under, true_is_told}

-- the plan of a cover has the rows of which that is told
pub cover_plan_row : (def : TableDef) (m : PlanMode) (p : Pred) (values : List Value) → may_judge values p ≡ true → plan_row def values (plan_of_cover (cover_under def m p false)) ≡ told_under def m values p false
cover_plan_row def m p values judged = plan_of_cover_row def values (cover_under def m p false) ∙ cover_told def m values p false (judged_literals values p judged)

cover_plan_true : (def : TableDef) (m : PlanMode) (p : Pred) (values : List Value) → may_judge values p ≡ true → is_true (truth values p) ≡ true → plan_row def values (plan_of_cover (cover_under def m p false)) ≡ true
cover_plan_true def m p values judged h = cover_plan_row def m p values judged ∙ true_is_told def m values p h

pub plan_of_true : (def : TableDef) (m : PlanMode) (p : Pred) (values : List Value) → may_judge values p ≡ true → is_true (truth values p) ≡ true → plan_row def values (plan_of def m (Some p)) ≡ true
plan_of_true def mode.Scan p values judged h = plan_row-Scan def values
plan_of_true def mode.Auto p values judged h = cover_plan_true def mode.Auto p values judged h
plan_of_true def mode.Block p values judged h = cover_plan_true def mode.Block p values judged h
plan_of_true def mode.Record p values judged h = cover_plan_true def mode.Record p values judged h
