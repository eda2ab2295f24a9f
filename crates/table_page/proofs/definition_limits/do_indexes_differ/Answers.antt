-- A name is looked for among those behind it.
use Rattle.std.proofs.Common.{◌∙◌, Bool, List, refl, sym}
use Rattle.std.specs.List.{list_any}
use Rattle.mdc_ast.specs.declared.definition.IndexDef.{IndexDef}
use Rattle.std.specs.Prelude.{map}
use Rattle.mdc_ast.specs.Definitions.{AllNamesDiffer, is_same}
use Rattle.table_page.proofs.DifferingLemmas.{SaysNoneTwice, none_twice-all, none_twice-more, none_twice-not}
use Rattle.table_page.proofs.NamesLemmas.{is_among-indexes}
use Rattle.table_page.proofs.definition_limits.do_indexes_differ.Goals as goal

abbrev Differ : List IndexDef → Type 0
Differ indexes = AllNamesDiffer (map (λ index. index.name) indexes)

abbrev again : IndexDef → List IndexDef → Bool
again index indexes = list_any (λ other. is_same index.name other.name) indexes

says : SaysNoneTwice Differ again
says = record {
  empty = tt;
  opened = λ index indexes all. (is_among-indexes index.name indexes ∙ all.0, all.1);
  made = λ index indexes once all. (sym (is_among-indexes index.name indexes) ∙ once, all);
}

pub loop-i-init : goal.loop-i-init
loop-i-init c = ((λ h. h), (λ h. h))

pub returns-then-is_index_among : goal.returns-then-is_index_among
returns-then-is_index_among c = (
  (λ h. absurd (cc)),
  λ all. absurd (none_twice-not Differ again says c.args.indexes.now c.loop-i.i c.index-indexes-i.result c.index-indexes-i.result c.loop-i-test.true c.index-indexes-i.is
      (sym c.is_index_among.ensures ∙ c.if-is_index_among.true) c.loop-i.invariant.1 all),
)

pub loop-i-preserved : goal.loop-i-preserved
loop-i-preserved c =
    none_twice-more Differ again says c.args.indexes.now c.loop-i.i c.index-indexes-i.result c.index-indexes-i.result c.loop-i-test.true c.index-indexes-i.is
    (sym c.is_index_among.ensures ∙ c.if-is_index_among.false) c.loop-i.invariant

pub returns : goal.returns
returns c = ((λ _. none_twice-all Differ again says c.args.indexes.now c.loop-i.i c.loop-i-test.false c.loop-i.invariant), (λ _. refl))
