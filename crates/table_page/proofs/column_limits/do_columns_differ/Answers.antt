-- A name is looked for among those behind it.
use Rattle.std.proofs.Common.{◌∙◌, Bool, List, refl, sym}
use Rattle.std.specs.List.{list_any}
use Rattle.mdc_ast.specs.declared.definition.ColumnDef.{ColumnDef}
use Rattle.mdc_ast.specs.Definitions.{AllNamesDiffer, column_names, is_same}
use Rattle.table_page.proofs.DifferingLemmas.{SaysNoneTwice, none_twice-all, none_twice-more, none_twice-not}
use Rattle.table_page.proofs.NamesLemmas.{is_among-columns}
use Rattle.table_page.proofs.column_limits.do_columns_differ.Goals as goal

abbrev Differ : List ColumnDef → Type 0
Differ columns = AllNamesDiffer (column_names columns)

abbrev again : ColumnDef → List ColumnDef → Bool
again column columns = list_any (λ other. is_same column.name other.name) columns

says : SaysNoneTwice Differ again
says = record {
  empty = tt;
  opened = λ column columns all. (is_among-columns column.name columns ∙ all.0, all.1);
  made = λ column columns once all. (sym (is_among-columns column.name columns) ∙ once, all);
}

pub loop-i-init : goal.loop-i-init
loop-i-init c = ((λ h. h), (λ h. h))

pub returns-then-is_column_among : goal.returns-then-is_column_among
returns-then-is_column_among c = (
  (λ h. absurd (cc)),
  λ all. absurd (none_twice-not Differ again says c.args.columns.now c.loop-i.i c.index-columns-i.result c.index-columns-i.result c.loop-i-test.true c.index-columns-i.is
      (sym c.is_column_among.ensures ∙ c.if-is_column_among.true) c.loop-i.invariant.1 all),
)

pub loop-i-preserved : goal.loop-i-preserved
loop-i-preserved c =
    none_twice-more Differ again says c.args.columns.now c.loop-i.i c.index-columns-i.result c.index-columns-i.result c.loop-i-test.true c.index-columns-i.is
    (sym c.is_column_among.ensures ∙ c.if-is_column_among.false) c.loop-i.invariant

pub returns : goal.returns
returns c = ((λ _. none_twice-all Differ again says c.args.columns.now c.loop-i.i c.loop-i-test.false c.loop-i.invariant), (λ _. refl))
