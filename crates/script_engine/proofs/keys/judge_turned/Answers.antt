use Rattle.std.proofs.Common.{◌∙◌, List, ap, map, subst, sym}
use Rattle.std.specs.Prelude.{IsTrue}
use Rattle.std.specs.List.{AllByRecursion}
use Rattle.std.proofs.lemmas.Result.{IfOk-weaker}
use Rattle.mdc_values.specs.declared.value.Value.{Value}
use Rattle.mdc_ast.specs.Database.{fits_all}
use Rattle.store_api.proofs.RunsOverPagesLemmas.{runs_exit_as, runs_memory, runs_none}
use Rattle.extent_map.specs.Damages.{store_part_of}
use Rattle.script_engine.proofs.JudgedKeysLemmas.{memory_not_full, runs_or_memory}
use Rattle.script_engine.proofs.TurnedKeysLemmas.{judged_clash, judged_none}
use Rattle.script_engine.proofs.keys.judge_turned.Goals as goal

pub returns-then-not-has_unique-clause-judges : goal.returns-then-not-has_unique-clause-judges
returns-then-not-has_unique-clause-judges g c =
    judged_none g.P.Pages c.args.pages.now c.args.def.now c.args.turned.now c.has_unique.result c.has_unique.ensures c.if-not-has_unique.true

pub returns-then-not-has_unique-clause-runs : goal.returns-then-not-has_unique-clause-runs
returns-then-not-has_unique-clause-runs g c = runs_none

pub returns-in_err-left-clause-runs : goal.returns-in_err-left-clause-runs
returns-in_err-left-clause-runs g c = runs_exit_as store_part_of c.from_residual.result c.from_residual.ensures.1 (runs_memory runs_none)

pub returns-in_err-come-clause-runs : goal.returns-in_err-come-clause-runs
returns-in_err-come-clause-runs g c = runs_exit_as store_part_of c.from_residual-in_err-come.result c.from_residual-in_err-come.ensures.1 (runs_memory runs_none)

pub first_clash-requires-clause-fit : goal.first_clash-requires-clause-fit
first_clash-requires-clause-fit g c =
    subst (AllByRecursion (λ (values : List Value). IsTrue (fits_all c.args.def.now.columns values))) (sym (ap (map (λ values. values.now)) c.as_slice.ensures.value ∙ c.in_ok-come.ensures)) c.requires.fit

pub returns-in_err-clash-clause-runs : goal.returns-in_err-clash-clause-runs
returns-in_err-clash-clause-runs g c = runs_exit_as store_part_of c.from_residual-in_err-clash.result c.from_residual-in_err-clash.ensures.1 c.in_err-clash.ensures.runs

pub returns-clause-judges : goal.returns-clause-judges
returns-clause-judges g c =
    IfOk-weaker c.refusal.result _ _
    (λ refusal said. judged_clash g.P.Pages c.args.pages.now c.args.def.now c.args.turned.now (λ name. name.now) c.in_ok-clash.clash c.in_ok-left.left _ refusal c.in_ok-left.ensures.members
    (ap (map (λ values. values.now)) c.as_slice.ensures.value ∙ c.in_ok-come.ensures) c.in_ok-clash.ensures.clash said) c.refusal.ensures.said

pub returns-clause-not_full : goal.returns-clause-not_full
returns-clause-not_full g c = memory_not_full c.refusal.result c.refusal.ensures.memory

pub returns-clause-runs : goal.returns-clause-runs
returns-clause-runs g c = runs_or_memory c.refusal.result c.refusal.ensures.memory c.in_ok-clash.ensures.runs
