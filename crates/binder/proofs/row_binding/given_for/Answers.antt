use Rattle.std.proofs.Common.{◌≡◌, ◌<◌, arith, length, sym, ◌∙◌}
use Rattle.std.proofs.lemmas.Result.{IfOk-weaker}
use Rattle.statement_meaning.specs.Binding.{given_for, item_value}
use Rattle.binder.specs.Classes.{target_names}
use Rattle.binder.proofs.TupleLemmas.{given_for-end, given_for-here, given_for-next}
use Rattle.binder.proofs.row_binding.given_for.Goals as goal

pub returns-then-is_same : goal.returns-then-is_same
returns-then-is_same c =
    let named : c.loop-place.place < length (target_names c.args.targets) = omega arith in
    let given : c.loop-place.place < length c.args.items.now = omega arith in
    let whole : given_for c.args.column.now (target_names c.args.targets) c.args.items.now ≡ item_value c.args.column.now.ty c.index-items-place.result =
    c.loop-place.invariant
    ∙ given_for-here c.args.column.now (target_names c.args.targets) c.args.items.now c.loop-place.place c.at.result.now c.index-items-place.result named given c.at.ensures c.index-items-place.is (sym c.is_same.ensures ∙ c.if-is_same.true) in
    IfOk-weaker c.item_value.result (λ value. value ≡ item_value c.args.column.now.ty c.index-items-place.result) (λ value. value ≡ given_for c.args.column.now (target_names c.args.targets) c.args.items.now) (λ value e. e ∙ sym whole) c.item_value.ensures

pub loop-place-preserved : goal.loop-place-preserved
loop-place-preserved c =
    let named : c.loop-place.place < length (target_names c.args.targets) = omega arith in
    let given : c.loop-place.place < length c.args.items.now = omega arith in
    c.loop-place.invariant
    ∙ given_for-next c.args.column.now (target_names c.args.targets) c.args.items.now c.loop-place.place c.at.result.now named given c.at.ensures (sym c.is_same.ensures ∙ c.if-is_same.false)

pub returns : goal.returns
returns c = sym (c.loop-place.invariant ∙ given_for-end c.args.column.now (target_names c.args.targets) c.args.items.now c.loop-place.place (omega arith))
