use Rattle.std.proofs.Common.{ap, refl, sym, ◌∙◌}
use Rattle.std.specs.Prelude.{flat_map}
use Rattle.std.proofs.lemmas.Result.{err_from_is_err_and}
use Rattle.statement_meaning.specs.Judged.{insert_judged}
use Rattle.binder.specs.Classes.{tuple_causes}
use Rattle.binder.specs.Saying.{objected, first_of}
use Rattle.binder.specs.declared.literals.Class.TheVariants.{Types, Values}
use Rattle.binder.proofs.OrderLemmas.{first_in_types, first_in_values}
use Rattle.binder.proofs.insertion.judge_insertion.Goals as goal

pub returns-in_err-judge_tuples : goal.returns-in_err-judge_tuples
returns-in_err-judge_tuples c =
    let p = err_from_is_err_and c.from_residual-in_err-judge_tuples.result c.from_residual-in_err-judge_tuples.ensures.1 in
    let there = ap (λ names. first_of (flat_map (tuple_causes Types c.args.columns.now names) c.args.tuples.now)) (sym c.of-targets.ensures) in
    rw (p.1, p.2)
    (first_in_types (insert_judged c.args.listed.now c.args.tuples.now c.args.columns.now) (objected c.in_err-judge_tuples.field-0.0) refl c.in_ok-judge_listed.ensures (there ∙ c.in_err-judge_tuples.ensures))

pub returns : goal.returns
returns c =
    let types = ap (λ names. first_of (flat_map (tuple_causes Types c.args.columns.now names) c.args.tuples.now)) (sym c.of-targets.ensures) in
    let values = ap (λ names. first_of (flat_map (tuple_causes Values c.args.columns.now names) c.args.tuples.now)) (sym c.of-targets.ensures) in
    first_in_values (insert_judged c.args.listed.now c.args.tuples.now c.args.columns.now) refl c.in_ok-judge_listed.ensures (types ∙ c.in_ok-judge_tuples.ensures) refl ∙ values ∙ c.judge_tuples-2.ensures
