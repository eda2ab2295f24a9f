use Rattle.std.proofs.Common.{◌≡◌, ◌∙◌, [], None, ap, subst, sym}
use Rattle.std.specs.Prelude.{IfSome, flat_map}
use Rattle.std.proofs.lemmas.Result.{IfOk-weaker}
use Rattle.mdc_ast.specs.declared.bound.Bound.TheVariants as bound
use Rattle.statement_meaning.specs.Doing.{null_causes}
use Rattle.store_api.proofs.RunsOverPagesLemmas.{runs_exit_as, runs_none}
use Rattle.extent_map.specs.Damages.{store_part_of}
use Rattle.entry_tree.proofs.ClaimsLemmas.{if_err_by}
use Rattle.binder.specs.Saying.{first_of}
use Rattle.binder.proofs.FirstLemmas.{first_of-nothing}
use Rattle.row_checks.specs.RowChange.{misfit_cause}
use Rattle.script_engine.specs.Inserting.{IsSaidFirst, tuple_causes}
use Rattle.script_engine.proofs.JudgedKeysLemmas.{memory_not_full, runs_or_memory}
use Rattle.script_engine.proofs.JudgedTuplesLemmas.{AreKeysJudged, keys_first, nothing_of_tuples, nulls_first, numbers_first}
use Rattle.script_engine.proofs.PuttingTuplesLemmas.{each_fits, may_put}
use Rattle.script_engine.proofs.ReadyKeysLemmas.{runs_clash}
use Rattle.script_engine.proofs.ReadyTablesLemmas.{served_def}
use Rattle.script_engine.proofs.inserting.judge.Given.{Over}
use Rattle.script_engine.proofs.inserting.judge.Goals as goal
use Rattle.script_engine.proofs.inserting.judge.Goals.{In_default-first_null_in}

-- no tuple has a null where none may be
no_nulls : (g : Over) (c : In_default-first_null_in g) → first_of (flat_map (null_causes c.in-Some.def.now.columns) c.args.tuples.now) ≡ None
no_nulls g c = ap (λ columns. first_of (flat_map (null_causes columns) c.args.tuples.now)) (sym c.as_slice.ensures) ∙ c.in_default-first_null_in.ensures

pub returns-in-Some-first_null_in-clause-judges : goal.returns-in-Some-first_null_in-clause-judges
returns-in-Some-first_null_in-clause-judges g c =
    IfOk-weaker c.null_there.result _ _
    (λ refusal said.
    subst (IsSaidFirst g.P.Pages c.args.pages.now c.args.tables.now (bound.Insert c.args.table c.args.tuples.now)) (sym said)
    (nulls_first g.P.Pages c.args.pages.now c.args.tables.now c.args.table c.in-Some.def.now c.args.tuples.now c.requires.served c.in-Some.ensures (misfit_cause c.in-Some-first_null_in.misfit)
    (ap (λ columns. first_of (flat_map (null_causes columns) c.args.tuples.now)) (sym c.as_slice.ensures) ∙ c.in-Some-first_null_in.ensures)))
    c.null_there.ensures.said

pub returns-in-Some-first_null_in-clause-unsaid : goal.returns-in-Some-first_null_in-clause-unsaid
returns-in-Some-first_null_in-clause-unsaid g c = IfOk-weaker c.null_there.result _ _ (λ refusal said none. absurd cc) c.null_there.ensures.said

pub returns-in-Some-first_null_in-clause-not_full : goal.returns-in-Some-first_null_in-clause-not_full
returns-in-Some-first_null_in-clause-not_full g c = memory_not_full c.null_there.result c.null_there.ensures.memory

pub returns-in-Some-first_null_in-clause-runs : goal.returns-in-Some-first_null_in-clause-runs
returns-in-Some-first_null_in-clause-runs g c = runs_or_memory c.null_there.result c.null_there.ensures.memory runs_none

pub judge_new-requires-clause-defined : goal.judge_new-requires-clause-defined
judge_new-requires-clause-defined g c = (served_def c.args.tables.now.catalog c.args.table c.in-Some.def.now c.requires.served c.in-Some.ensures).limits

pub judge_new-requires-clause-fit : goal.judge_new-requires-clause-fit
judge_new-requires-clause-fit g c =
    each_fits c.in-Some.def.now.columns c.args.tuples.now
    ((may_put _ c.in-Some.def.now c.args.tuples.now c.in-Some.ensures c.requires.there).fit (first_of-nothing _ (no_nulls g (goal.at.judge_new-requires-clause-fit g c).In_default-first_null_in)))

pub returns-in_err-refusal-clause-not_full : goal.returns-in_err-refusal-clause-not_full
returns-in_err-refusal-clause-not_full g c = if_err_by c.from_residual.result c.in_err-refusal.field-0.0 _ c.from_residual.ensures.1 c.in_err-refusal.ensures.not_full

pub returns-in_err-refusal-clause-runs : goal.returns-in_err-refusal-clause-runs
returns-in_err-refusal-clause-runs g c =
    runs_exit_as store_part_of c.from_residual.result c.from_residual.ensures.1
    (runs_clash g.P.Pages c.args.pages.now c.judge_new.new.pages c.args.tables.now c.args.table c.in-Some.def.now c.requires.served c.in-Some.ensures c.in_err-refusal.ensures.runs)

pub returns-in-Some-2-clause-judges : goal.returns-in-Some-2-clause-judges
returns-in-Some-2-clause-judges g c =
    keys_first g.P.Pages c.args.pages.now c.args.tables.now c.args.table c.in-Some.def.now c.args.tuples.now c.requires.served c.in-Some.ensures
    (no_nulls g (goal.at.returns-in-Some-2-clause-judges g c).In_default-first_null_in) c.in-Some-2.refusal
    (subst (AreKeysJudged g.P.Pages c.args.pages.now c.in-Some.def.now c.args.tuples.now) c.in-Some-2.is c.in_ok-refusal.ensures.judges)

pub returns-in-Some-2-clause-runs : goal.returns-in-Some-2-clause-runs
returns-in-Some-2-clause-runs g c =
    runs_clash g.P.Pages c.args.pages.now c.judge_new.new.pages c.args.tables.now c.args.table c.in-Some.def.now c.requires.served c.in-Some.ensures c.in_ok-refusal.ensures.runs

pub returns-clause-judges : goal.returns-clause-judges
returns-clause-judges g c =
    numbers_first g.P.Pages c.args.pages.now c.args.tables.now c.args.table c.in-Some.def.now c.args.tuples.now c.requires.served c.in-Some.ensures
    (no_nulls g (goal.at.returns-clause-judges g c).In_default-first_null_in) c.judge_numbers.result
    (subst (AreKeysJudged g.P.Pages c.args.pages.now c.in-Some.def.now c.args.tuples.now) c.in_default-2.is c.in_ok-refusal.ensures.judges)
    (sym c.judge_numbers.ensures)

pub returns-clause-unsaid : goal.returns-clause-unsaid
returns-clause-unsaid g c none =
    subst (λ found. IfSome found (λ def. tuple_causes def c.args.tuples.now ≡ [])) (sym c.in-Some.ensures)
    (nothing_of_tuples g.P.Pages c.args.pages.now c.args.tables.now c.args.table c.in-Some.def.now c.args.tuples.now c.requires.served c.in-Some.ensures
    (no_nulls g (goal.at.returns-clause-unsaid g c).In_default-first_null_in)
    (sym c.judge_numbers.ensures ∙ none))

pub returns-clause-runs : goal.returns-clause-runs
returns-clause-runs g c = runs_clash g.P.Pages c.args.pages.now c.judge_new.new.pages c.args.tables.now c.args.table c.in-Some.def.now c.requires.served c.in-Some.ensures c.in_ok-refusal.ensures.runs
