use Rattle.std.proofs.Common.{rules, ◌∙◌, ◌&&◌, [], Bool, ap, sym}
use Rattle.std.proofs.lemmas.Iterator.{YieldsList-from_slice}
use Rattle.std.proofs.lemmas.Iterator.Search.{all_from_yields_List}
use Rattle.std.specs.List.{list_all}
use Rattle.mdc_values.specs.declared.value.Value.{Value}
use Rattle.mdc_values.specs.Order.{are_alike}
use Rattle.mdc_ast.specs.Truth.{may_test}
use Rattle.cell_filter.specs.Cells.{is_against_literals}
use Rattle.cell_filter.proofs.cells.is_judged.Goals as goal

pub returns-in-Within : goal.returns-in-Within
returns-in-Within c =
    let test : Value → Bool = are_alike c.args.value.now in
    let found = all_from_yields_List test _ _ c.all.result c.all.ensures.ran (YieldsList-from_slice _ c.iter.ensures.rest) (λ x b q k. search (rules)) in
    found ∙ ap (list_all test) c.as_slice.ensures ∙ sym (ap (λ t. is_against_literals t && may_test [] c.args.value.now t) c.in-Within.is)
