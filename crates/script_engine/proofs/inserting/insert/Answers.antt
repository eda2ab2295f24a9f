use Rattle.std.proofs.Common.{◌≡◌, [], subst}
use Rattle.std.specs.Prelude.{IfSome}
use Rattle.std.proofs.lemmas.Result.{IfErr-weaker, IfOk-weaker}
use Rattle.mdc_ast.specs.Definitions.{def_at}
use Rattle.mdc_ast.specs.declared.bound.Bound.TheVariants as bound
use Rattle.store_api.proofs.RunsOverPagesLemmas.{runs_exit_as, runs_wider}
use Rattle.extent_map.specs.Damages.{store_part_of}
use Rattle.entry_tree.proofs.ClaimsLemmas.{if_err_by}
use Rattle.script_engine.specs.Inserting.{IsSaidFirst, tuple_causes}
use Rattle.script_engine.proofs.BehindLooksLemmas.{done_behind, full_behind, refused_behind, runs_behind, silent_behind}
use Rattle.script_engine.proofs.JudgedKeysLemmas.{never_full}
use Rattle.script_engine.proofs.inserting.insert.Given.{Over}
use Rattle.script_engine.proofs.inserting.insert.Goals as goal
use Rattle.script_engine.proofs.inserting.insert.Goals.{In_ok-refusal}

-- what is said first, of the tuples themselves
said : (g : Over) (c : In_ok-refusal g) → IsSaidFirst g.P.Pages c.args.pages.now c.args.tables.now (bound.Insert c.args.table c.args.tuples) c.in_ok-refusal.field-0
said g c =
    subst (λ tuples. IsSaidFirst g.P.Pages c.args.pages.now c.args.tables.now (bound.Insert c.args.table tuples) c.in_ok-refusal.field-0) c.as_slice.ensures c.in_ok-refusal.ensures.judges

pub returns-in_err-refusal-clause-full : goal.returns-in_err-refusal-clause-full
returns-in_err-refusal-clause-full g c =
    if_err_by c.from_residual.result c.in_err-refusal.field-0.0 _ c.from_residual.ensures.1 (never_full c.in_err-refusal.field-0.0 _ c.in_err-refusal.ensures.not_full)

pub returns-in_err-refusal-clause-runs : goal.returns-in_err-refusal-clause-runs
returns-in_err-refusal-clause-runs g c =
    runs_exit_as store_part_of c.from_residual.result c.from_residual.ensures.1
    (runs_wider c.in_err-refusal.ensures.runs (λ p there none. absurd none) (λ p any. any) (λ damage breaks. breaks))

pub returns-in-Some-clause-does : goal.returns-in-Some-clause-does
returns-in-Some-clause-does g c =
    refused_behind g.P.Pages c.args.pages.now c.judge.new.pages c.args.tables.now (bound.Insert c.args.table c.args.tuples) c.in_ok-refusal.ensures.runs.works.steady.is_told c.judge.ensures.same c.in-Some.refusal
    (subst (IsSaidFirst g.P.Pages c.args.pages.now c.args.tables.now (bound.Insert c.args.table c.args.tuples)) c.in-Some.is (said g (goal.at.returns-in-Some-clause-does g c).In_ok-refusal))

pub returns-in-Some-clause-runs : goal.returns-in-Some-clause-runs
returns-in-Some-clause-runs g c = runs_wider c.in_ok-refusal.ensures.runs (λ p there none. absurd none) (λ p any. any) (λ damage breaks. breaks)

pub put-requires-clause-unsaid : goal.put-requires-clause-unsaid
put-requires-clause-unsaid g c =
    subst (λ tuples. IfSome (def_at c.args.tables.now.catalog c.args.table) (λ def. tuple_causes def tuples ≡ [])) c.as_slice.ensures (c.in_ok-refusal.ensures.unsaid c.in_default.is)

pub put-requires-clause-silent : goal.put-requires-clause-silent
put-requires-clause-silent g c =
    silent_behind g.P.Pages c.args.pages.now c.judge.new.pages c.args.tables.now (bound.Insert c.args.table c.args.tuples) c.in_ok-refusal.ensures.runs.works.steady.is_told c.judge.ensures.same
    (subst (IsSaidFirst g.P.Pages c.args.pages.now c.args.tables.now (bound.Insert c.args.table c.args.tuples)) c.in_default.is (said g (goal.at.put-requires-clause-silent g c).In_ok-refusal))

pub returns-clause-does : goal.returns-clause-does
returns-clause-does g c =
    IfOk-weaker c.put.result _ _
    (λ outcome does.
    done_behind g.P.Pages c.args.pages.now c.judge.new.pages c.args.tables.now (bound.Insert c.args.table c.args.tuples) c.in_ok-refusal.ensures.runs.works.steady.is_told c.judge.ensures.same
    c.put.new.pages c.put.new.tables outcome does) c.put.ensures.does

pub returns-clause-full : goal.returns-clause-full
returns-clause-full g c =
    IfErr-weaker c.put.result _ _
    (λ fault full.
    full_behind g.P.Pages c.args.pages.now c.judge.new.pages c.args.tables.now (bound.Insert c.args.table c.args.tuples) c.in_ok-refusal.ensures.runs.works.steady.is_told c.judge.ensures.same fault full)
    c.put.ensures.full

pub returns-clause-runs : goal.returns-clause-runs
returns-clause-runs g c =
    runs_behind g.P.Pages c.args.pages.now c.judge.new.pages c.args.tables.now (bound.Insert c.args.table c.args.tuples) c.in_ok-refusal.ensures.runs.works.steady.is_told c.judge.ensures.same
    c.in_ok-refusal.ensures.runs c.put.ensures.runs
