use Rattle.std.proofs.Common.{Some, ap, sym, ◌∙◌}
use Rattle.std.specs.Prelude.{flat_map}
use Rattle.std.proofs.lemmas.Result.{err_from_is_err_and}
use Rattle.statement_meaning.specs.Judging.{atoms_of}
use Rattle.binder.specs.Classes.{atom_causes}
use Rattle.binder.specs.Saying.{objected, first_of}
use Rattle.binder.proofs.FirstLemmas.{first_of-end, first_of-here}
use Rattle.binder.proofs.PredLemmas.{all_parts, any_parts}
use Rattle.binder.proofs.filtering.+judge_pred.Goals as goal

pub returns-in_err-judge_pred-in-All : goal.returns-in_err-judge_pred-in-All
returns-in_err-judge_pred-in-All t c =
    let p = err_from_is_err_and c.from_residual.result c.from_residual.ensures.1 in
    rw (p.1, p.2) (
    ap (λ pred. first_of (flat_map (atom_causes c.args.class c.args.columns.now) (atoms_of (Some pred)))) c.in-All.is ∙ ap first_of (all_parts (atom_causes c.args.class c.args.columns.now) c.in-All.parts)
    ∙ ap (λ parts. first_of (flat_map (λ part. flat_map (atom_causes c.args.class c.args.columns.now) (atoms_of (Some part))) parts)) (sym c.as_slice-part-items.ensures) ∙ c.loop-part.invariant
    ∙ first_of-here (λ part. flat_map (atom_causes c.args.class c.args.columns.now) (atoms_of (Some part))) c.as_slice-part-items.result.now c.loop-part.part-index c.part-item.result (objected c.in_err-judge_pred-in-All.field-0.0) c.loop-part-test.true c.part-item.is c.in_err-judge_pred-in-All.ensures)

pub returns-in_err-judge_pred-in-Any : goal.returns-in_err-judge_pred-in-Any
returns-in_err-judge_pred-in-Any t c =
    let p = err_from_is_err_and c.from_residual-in_err-judge_pred-in-Any.result c.from_residual-in_err-judge_pred-in-Any.ensures.1 in
    rw (p.1, p.2) (
    ap (λ pred. first_of (flat_map (atom_causes c.args.class c.args.columns.now) (atoms_of (Some pred)))) c.in-Any.is ∙ ap first_of (any_parts (atom_causes c.args.class c.args.columns.now) c.in-Any.parts)
    ∙ ap (λ parts. first_of (flat_map (λ part. flat_map (atom_causes c.args.class c.args.columns.now) (atoms_of (Some part))) parts)) (sym c.as_slice-part-items-in-Any.ensures) ∙ c.loop-part-2.invariant
    ∙ first_of-here (λ part. flat_map (atom_causes c.args.class c.args.columns.now) (atoms_of (Some part))) c.as_slice-part-items-in-Any.result.now c.loop-part-2.part-index c.part-item-in-loop-part-2.result (objected c.in_err-judge_pred-in-Any.field-0.0) c.loop-part-2-test.true c.part-item-in-loop-part-2.is c.in_err-judge_pred-in-Any.ensures)

pub returns-after-loop-part : goal.returns-after-loop-part
returns-after-loop-part t c =
    ap (λ pred. first_of (flat_map (atom_causes c.args.class c.args.columns.now) (atoms_of (Some pred)))) c.in-All.is ∙ ap first_of (all_parts (atom_causes c.args.class c.args.columns.now) c.in-All.parts)
    ∙ ap (λ parts. first_of (flat_map (λ part. flat_map (atom_causes c.args.class c.args.columns.now) (atoms_of (Some part))) parts)) (sym c.as_slice-part-items.ensures) ∙ c.loop-part.invariant
    ∙ first_of-end (λ part. flat_map (atom_causes c.args.class c.args.columns.now) (atoms_of (Some part))) c.as_slice-part-items.result.now c.loop-part.part-index c.loop-part-test.false

pub returns-after-loop-part-2 : goal.returns-after-loop-part-2
returns-after-loop-part-2 t c =
    ap (λ pred. first_of (flat_map (atom_causes c.args.class c.args.columns.now) (atoms_of (Some pred)))) c.in-Any.is ∙ ap first_of (any_parts (atom_causes c.args.class c.args.columns.now) c.in-Any.parts)
    ∙ ap (λ parts. first_of (flat_map (λ part. flat_map (atom_causes c.args.class c.args.columns.now) (atoms_of (Some part))) parts)) (sym c.as_slice-part-items-in-Any.ensures) ∙ c.loop-part-2.invariant
    ∙ first_of-end (λ part. flat_map (atom_causes c.args.class c.args.columns.now) (atoms_of (Some part))) c.as_slice-part-items-in-Any.result.now c.loop-part-2.part-index c.loop-part-2-test.false
