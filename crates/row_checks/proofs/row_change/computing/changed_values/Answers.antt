use Rattle.std.proofs.Common.{◌∙◌, ap, sym, length, take, arith}
use Rattle.std.specs.Prelude.{slice_set}
use Rattle.statement_meaning.specs.Doing.{set_on}
use Rattle.row_checks.proofs.SetLemmas.{length-set_on, set_on-more, within_at}
use Rattle.row_checks.proofs.row_change.computing.changed_values.Goals as goal

pub set-requires : goal.set-requires
set-requires c =
    let was = c.args.values.now in
    let long = ap length c.loop-set.invariant ∙ length-set_on was (take c.loop-set.set-index c.args.sets.now) was in
    omega (arith, long, within_at (length was) c.args.sets.now c.loop-set.set-index c.set-item.result (omega arith) c.set-item.is c.requires.within)

pub loop-set-preserved : goal.loop-set-preserved
loop-set-preserved c =
    let was = c.args.values.now in
    let sets = c.args.sets.now in
    let i = c.loop-set.set-index in
    let set = c.set-item.result in
    c.set.ensures ∙ ap (λ changed. slice_set changed set.column c.in_ok-value.value) c.loop-set.invariant
    ∙ ap (λ value. slice_set (set_on was (take i sets) was) set.column value) (c.in_ok-value.ensures ∙ c.item_on.ensures) ∙ sym (set_on-more was sets was i set (omega arith) c.set-item.is)
