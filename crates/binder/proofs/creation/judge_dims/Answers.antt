use Rattle.std.proofs.Common.{◌≡◌, ◌<◌, true, false, arith, length, map, sym, take, ◌∙◌}
use Rattle.std.proofs.lemmas.Bool.{not-false, not-true}
use Rattle.std.proofs.lemmas.List.{length-map}
use Rattle.mdc_ast.specs.Definitions.{is_among}
use Rattle.binder.proofs.ColumnLemmas.{listed_names-next, listed_names-no_column, listed_names-twice}
use Rattle.binder.proofs.CreateLemmas.{knows-next, lent-at}
use Rattle.binder.proofs.creation.judge_dims.Goals as goal

pub returns-then-not-has : goal.returns-then-not-has
returns-then-not-has c = λ known knows.
    let names = map (λ name. name.now) c.args.names.now in
    let there : c.loop-name.name-index < length names = omega (arith, c.loop-name-test.true, length-map c.args.names.now (λ name. name.now)) in
    let at = lent-at (λ name. name.now) c.args.names.now c.loop-name.name-index c.name-item.result c.name-item.is in
    c.loop-name.invariant.1 known knows
    ∙ listed_names-no_column known names c.loop-name.name-index c.name-item.result.now there at (sym (c.has.ensures known knows) ∙ c.if-not-has.true)

pub returns-then-not-branch : goal.returns-then-not-branch
returns-then-not-branch c = λ known knows.
    let names = map (λ name. name.now) c.args.names.now in
    let there : c.loop-name.name-index < length names = omega (arith, c.loop-name-test.true, length-map c.args.names.now (λ name. name.now)) in
    let at = lent-at (λ name. name.now) c.args.names.now c.loop-name.name-index c.name-item.result c.name-item.is in
    let earlier = take c.loop-name.name-index names in
    let twice : is_among c.name-item.result.now earlier ≡ true = not-false _ (sym (c.in_ok-add.ensures.new earlier c.loop-name.invariant.0) ∙ c.if-not-branch.true) in
    c.loop-name.invariant.1 known knows
    ∙ listed_names-twice known names c.loop-name.name-index c.name-item.result.now there at (sym (c.has.ensures known knows) ∙ c.if-not-has.false) twice

pub loop-name-preserved : goal.loop-name-preserved
loop-name-preserved c =
    let names = map (λ name. name.now) c.args.names.now in
    let there : c.loop-name.name-index < length names = omega (arith, c.loop-name-test.true, length-map c.args.names.now (λ name. name.now)) in
    let at = lent-at (λ name. name.now) c.args.names.now c.loop-name.name-index c.name-item.result c.name-item.is in
    let earlier = take c.loop-name.name-index names in
    let once : is_among c.name-item.result.now earlier ≡ false = not-true _ (sym (c.in_ok-add.ensures.new earlier c.loop-name.invariant.0) ∙ c.if-not-branch.false) in (
      knows-next c.add.new.self names c.loop-name.name-index c.name-item.result.now there at (c.in_ok-add.ensures.known earlier c.loop-name.invariant.0),
      λ known knows. c.loop-name.invariant.1 known knows
          ∙ listed_names-next known names c.loop-name.name-index c.name-item.result.now there at (sym (c.has.ensures known knows) ∙ c.if-not-has.false) once,
    )
