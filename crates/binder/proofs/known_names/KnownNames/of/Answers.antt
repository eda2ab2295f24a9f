use Rattle.std.proofs.Common.{◌∙◌, ◌∷◌, ◌++◌, [], ap, sym, take}
use Rattle.std.proofs.lemmas.List.{take_more}
use Rattle.mdc_ast.specs.declared.name.Name.{Name}
use Rattle.mdc_ast.specs.Definitions.{is_among}
use Rattle.binder.proofs.ColumnLemmas.{is_among-last}
use Rattle.binder.proofs.known_names.KnownNames.of.Goals as goal

pub loop-name-preserved : goal.loop-name-preserved
loop-name-preserved c = λ other.
    let before = take c.loop-name.name-index c.args.names.now in
    c.in_ok-add.ensures.known before c.loop-name.invariant other
    ∙ is_among-last before c.name-item.result other
    ∙ ap (is_among other) (ap (λ (name : Name). before ++ name ∷ []) c.name-item.is ∙ sym (take_more c.args.names.now c.loop-name.name-index c.name-item.result c.loop-name-test.true))
