use Rattle.std.proofs.Common.{subst, sym}
use Rattle.std.specs.Prelude.{IsTrue}
use Rattle.std.proofs.lemmas.Result.{IfOk-weaker, on_ok_weaker}
use Rattle.store_api.specs.Causes.{fault_of}
use Rattle.store_api.specs.Frame.{NoPage}
use Rattle.store_api.specs.RunsOverPages.{RunsOverPages}
use Rattle.store_api.proofs.RunsOverPagesLemmas.{runs_exit, runs_memory, runs_none}
use Rattle.mdc_sound.specs.StandingTable.{BreaksExpected}
use Rattle.row_entries.specs.SoundEntries.{HasSoundIndexes}
use Rattle.plan_chooser.specs.PlanRows.{fits_plan}
use Rattle.plan_chooser.specs.declared.plan.Plan.{Plan}
use Rattle.executor.specs.Planned.{CountsPlanned, CoversIfAny, IsFoundPage}
use Rattle.executor.specs.SeenParts.{HasSeenPlan}
use Rattle.executor.proofs.ChosenPlansLemmas.{chosen_covers, chosen_fits, few_dims, few_indexes}
use Rattle.executor.proofs.by_mode.scan_uncounted.Goals as goal

pub choose-requires-clause-dims : goal.choose-requires-clause-dims
choose-requires-clause-dims g c = few_dims c.args.def.now c.requires.defined

pub choose-requires-clause-indexes : goal.choose-requires-clause-indexes
choose-requires-clause-indexes g c = few_indexes c.args.def.now c.requires.defined

pub returns-in_err-plan-clause-runs : goal.returns-in_err-plan-clause-runs
returns-in_err-plan-clause-runs g c = runs_exit c.from_residual.result c.from_residual.ensures.1 (runs_memory runs_none)

pub scan_planned-requires-clause-asked : goal.scan_planned-requires-clause-asked
scan_planned-requires-clause-asked g c = subst (λ (plan : Plan). IsTrue (fits_plan c.args.def.now plan)) (sym c.in_ok-plan.ensures) (chosen_fits c.args.def.now c.args.mode c.args.pred.now c.requires.judged)

pub scan_planned-requires-clause-covers : goal.scan_planned-requires-clause-covers
scan_planned-requires-clause-covers g c = subst (λ (plan : Plan). CoversIfAny c.args.def.now plan c.args.pred.now) (sym c.in_ok-plan.ensures) (chosen_covers c.args.def.now c.args.mode c.args.pred.now)

pub returns-clause-counts : goal.returns-clause-counts
returns-clause-counts g c =
    IfOk-weaker c.scan_planned.result _ _
    (λ blocks said owners forests st sound. subst (λ (plan : Plan). CountsPlanned g.P.Pages c.args.shape c.args.pages.now c.args.def.now plan forests blocks) c.in_ok-plan.ensures (said owners forests st sound))
    c.scan_planned.ensures.counts

pub returns-clause-seen : goal.returns-clause-seen
returns-clause-seen g c =
    on_ok_weaker c.scan_planned.result
    (λ said told. subst (λ (plan : Plan). HasSeenPlan g.P.Pages c.args.shape c.args.pages.now c.args.def.now plan) c.in_ok-plan.ensures (said told)) c.scan_planned.ensures.seen

pub returns-clause-runs : goal.returns-clause-runs
returns-clause-runs g c =
    subst
    (λ (plan : Plan). RunsOverPages g.P.Pages NoPage (IsFoundPage g.P.Pages c.args.shape c.args.pages.now c.args.def.now plan) (BreaksExpected g.P.Pages c.args.shape c.args.pages.now c.args.def.now (HasSoundIndexes g.P.Pages c.args.shape c.args.pages.now c.args.def.now)) c.args.pages.now c.scan_planned.new.pages (fault_of c.scan_planned.result))
    c.in_ok-plan.ensures c.scan_planned.ensures.runs
