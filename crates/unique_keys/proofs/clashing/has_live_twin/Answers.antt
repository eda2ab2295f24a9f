use Rattle.std.proofs.Common.{◌≡◌, ◌∙◌, List, None, Some, arith, sym}
use Rattle.std.specs.Option.{is_some}
use Rattle.mdc_values.specs.declared.value.Value.{Value}
use Rattle.statement_meaning.specs.Keys.{has_twin}
use Rattle.store_api.proofs.RunsOverPagesLemmas.{runs_exit}
use Rattle.record_index.specs.RecordIndexes.{parts_of_record_index}
use Rattle.live_rows.proofs.LookRunsLemmas.{Looks}
use Rattle.unique_keys.specs.Clashes.{StayInTable}
use Rattle.unique_keys.proofs.ClashLemmas.{all_looked, any_here, none_yet}
use Rattle.unique_keys.proofs.ClashRunsLemmas.{looks_again}
use Rattle.unique_keys.proofs.StandingStayLemmas.{fits_here, has_keys, stay_still, twin_tells}
use Rattle.unique_keys.proofs.clashing.has_live_twin.Given.{Over}
use Rattle.unique_keys.proofs.clashing.has_live_twin.Goals.{In_ok-live_twin}
use Rattle.unique_keys.proofs.clashing.has_live_twin.Goals as goal

-- ---- behind a look

run : (g : Over) (c : In_ok-live_twin g) → Looks g.P.Pages c.args.def.now c.args.index c.args.pages.now c.live_twin.new.pages None
run g c =
    let inv = c.loop-values.invariant in
    looks_again c.args.def.now c.args.pages.now c.loop-values.pages inv.runs.works.steady inv.same c.args.index c.live_twin.new.pages None inv.runs c.in_ok-live_twin.ensures.runs

-- a row that stays has the key of this one where a row was found
looked : (g : Over) (c : In_ok-live_twin g) (stay : List (List Value)) → StayInTable g.P.Pages c.args.pages.now c.args.def.now c.args.but.now stay
    → has_twin (parts_of_record_index c.args.def.now c.args.index) stay c.values-item.result.now ≡ is_some c.in_ok-live_twin.field-0
looked g c stay is =
    let inv = c.loop-values.invariant in
    let fit = fits_here (λ values. values.now) c.args.def.now.columns c.args.come.now c.loop-values.values-index c.values-item.result c.loop-values-test.true c.values-item.is c.requires.fit in
    let here = stay_still c.args.pages.now c.loop-values.pages c.args.def.now c.args.but.now stay inv.runs.works.steady.is_told inv.same is in
    twin_tells c.loop-values.pages c.args.def.now c.args.but.now stay here c.args.index c.values-item.result.now c.in_ok-live_twin.field-0 c.requires.defined c.requires.there fit
    (c.in_ok-live_twin.ensures.twin here.shape here.owners here.forests here.stands here.sound)

-- ---- the goals

pub live_twin-requires-clause-values : goal.live_twin-requires-clause-values
live_twin-requires-clause-values g c =
    has_keys c.args.def.now c.args.index c.values-item.result.now c.requires.defined c.requires.there
    (fits_here (λ values. values.now) c.args.def.now.columns c.args.come.now c.loop-values.values-index c.values-item.result c.loop-values-test.true c.values-item.is c.requires.fit)

pub returns-in_err-live_twin-clause-runs : goal.returns-in_err-live_twin-clause-runs
returns-in_err-live_twin-clause-runs g c =
    let inv = c.loop-values.invariant in
    runs_exit c.from_residual.result c.from_residual.ensures.1
    (looks_again c.args.def.now c.args.pages.now c.loop-values.pages inv.runs.works.steady inv.same c.args.index c.live_twin.new.pages (Some c.in_err-live_twin.field-0.0) inv.runs c.in_err-live_twin.ensures.runs)

pub returns-then-is_some-clause-twin : goal.returns-then-is_some-clause-twin
returns-then-is_some-clause-twin g c stay is =
    let at = (goal.at.returns-then-is_some-clause-twin g c).In_ok-live_twin in
    any_here (λ values. values.now) (has_twin (parts_of_record_index c.args.def.now c.args.index) stay) c.args.come.now c.loop-values.values-index c.values-item.result c.loop-values-test.true c.values-item.is
    (looked g at stay is ∙ (sym c.is_some.ensures ∙ c.if-is_some.true))

pub returns-then-is_some-clause-runs : goal.returns-then-is_some-clause-runs
returns-then-is_some-clause-runs g c = run g (goal.at.returns-then-is_some-clause-runs g c).In_ok-live_twin

pub loop-values-preserved : goal.loop-values-preserved
loop-values-preserved g c =
    let at = (goal.at.loop-values-preserved g c).In_ok-live_twin in
    let inv = c.loop-values.invariant in
    record {
      same = c.live_twin.ensures.same ∙ inv.same;
      going = (run g at).works.steady.ended ∙ c.requires.going;
      runs = run g at;
      none = λ stay is. none_yet (λ values. values.now) (has_twin (parts_of_record_index c.args.def.now c.args.index) stay) c.args.come.now c.loop-values.values-index c.values-item.result c.loop-values-test.true c.values-item.is
          (inv.none stay is) (looked g at stay is ∙ (sym c.is_some.ensures ∙ c.if-is_some.false));
    }

pub returns-clause-twin : goal.returns-clause-twin
returns-clause-twin g c stay is =
    all_looked (λ values. values.now) (has_twin (parts_of_record_index c.args.def.now c.args.index) stay) c.args.come.now c.loop-values.values-index (omega (arith, c.loop-values-test.false, c.loop-values.auto.values-index-end))
    (c.loop-values.invariant.none stay is)
