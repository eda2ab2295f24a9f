use Rattle.std.proofs.Common.{List, ◌∙◌, arith, subst, sym}
use Rattle.std.proofs.lemmas.Bool.Decides.{nat_tests}
use Rattle.mdc_values.specs.declared.value.Value.{Value}
use Rattle.row_groups.specs.Naming.{AreAlike}
use Rattle.table_query.proofs.CountedLemmas.{counted_added}
use Rattle.table_query.proofs.counted.add_rows.Goals as goal

pub returns : goal.returns
returns c = λ shape are.
    counted_added c.add_alike.result shape c.args.count c.args.groups.now c.add_alike.new.self (λ none. grind (arith, nat_tests, none, c.if-count-eq0.false))
    (λ rows more row have alike. c.add_alike.ensures.groups shape rows more row have
    (subst (λ (values : List Value). AreAlike shape 0 c.args.count values row more) (sym (c.as_slice.ensures.value ∙ c.new-no_values.ensures.items)) alike)) are
