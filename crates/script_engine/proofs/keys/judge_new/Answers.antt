use Rattle.std.proofs.Common.{◌∙◌, ◌++◌, ap, map, subst, sym}
use Rattle.std.specs.Prelude.{IsTrue, flat_map}
use Rattle.std.specs.List.{AllByRecursion}
use Rattle.std.proofs.lemmas.Result.{IfOk-weaker}
use Rattle.mdc_ast.specs.Database.{fits_all}
use Rattle.statement_meaning.specs.Doing.{twin_causes}
use Rattle.store_api.proofs.RunsOverPagesLemmas.{runs_exit_as, runs_memory, runs_none}
use Rattle.extent_map.specs.Damages.{store_part_of}
use Rattle.mdc_sound.specs.StandingTable.{pages_of}
use Rattle.mdc_sound.specs.TableRows.{rows_in_table}
use Rattle.binder.specs.Saying.{first_of}
use Rattle.unique_keys.specs.Clashes.{AreStaying}
use Rattle.script_engine.specs.Inserting.{first_refusal}
use Rattle.script_engine.proofs.JudgedKeysLemmas.{clash_said, memory_not_full, runs_or_memory}
use Rattle.script_engine.proofs.ReadyKeysLemmas.{no_unique_says_nothing}
use Rattle.script_engine.proofs.keys.judge_new.Goals as goal

pub returns-then-not-has_unique-clause-judges : goal.returns-then-not-has_unique-clause-judges
returns-then-not-has_unique-clause-judges g c shape owners forests st indexes keys stay staying =
    ap first_refusal (no_unique_says_nothing (stay ++ c.args.tuples.now) c.args.def.now.indexes (sym c.has_unique.ensures ∙ c.if-not-has_unique.true))

pub returns-then-not-has_unique-clause-runs : goal.returns-then-not-has_unique-clause-runs
returns-then-not-has_unique-clause-runs g c = runs_none

pub returns-in_err-come-clause-runs : goal.returns-in_err-come-clause-runs
returns-in_err-come-clause-runs g c = runs_exit_as store_part_of c.from_residual.result c.from_residual.ensures.1 (runs_memory runs_none)

pub first_clash-requires-clause-fit : goal.first_clash-requires-clause-fit
first_clash-requires-clause-fit g c =
    subst (AllByRecursion (λ values. IsTrue (fits_all c.args.def.now.columns values))) (sym (ap (map (λ values. values.now)) c.as_slice.ensures.value ∙ c.in_ok-come.ensures)) c.requires.fit

pub returns-in_err-clash-clause-runs : goal.returns-in_err-clash-clause-runs
returns-in_err-clash-clause-runs g c = runs_exit_as store_part_of c.from_residual-in_err-clash.result c.from_residual-in_err-clash.ensures.1 c.in_err-clash.ensures.runs

pub returns-clause-judges : goal.returns-clause-judges
returns-clause-judges g c =
    let come = ap (map (λ values. values.now)) c.as_slice.ensures.value ∙ c.in_ok-come.ensures in
    IfOk-weaker c.refusal.result _ _
    (λ refusal said shape owners forests st indexes keys stay staying.
    clash_said (λ name. name.now) (flat_map (twin_causes (stay ++ c.args.tuples.now)) c.args.def.now.indexes) c.in_ok-clash.clash
    (ap (λ tuples. first_of (flat_map (twin_causes (stay ++ tuples)) c.args.def.now.indexes)) (sym come)
    ∙ c.in_ok-clash.ensures.clash shape owners forests st indexes keys stay (subst (λ but. AreStaying (rows_in_table shape (pages_of g.P.Pages c.args.pages.now) c.args.def.now forests.map) but stay) (sym c.new.ensures) staying))
    ∙ sym said) c.refusal.ensures.said

pub returns-clause-not_full : goal.returns-clause-not_full
returns-clause-not_full g c = memory_not_full c.refusal.result c.refusal.ensures.memory

pub returns-clause-runs : goal.returns-clause-runs
returns-clause-runs g c = runs_or_memory c.refusal.result c.refusal.ensures.memory c.in_ok-clash.ensures.runs
