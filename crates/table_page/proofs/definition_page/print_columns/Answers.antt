-- Each entry stands behind those before it, and zeros behind them all.
use Rattle.std.proofs.Common.{arith, subst, sym}
use Rattle.mdc_ast.specs.Definitions.{IsShort}
use Rattle.table_page.specs.TablePage.{printed_column}
use Rattle.table_page.proofs.EntriesLemmas.{length-printed_column}
use Rattle.table_page.proofs.PrintingLemmas.{PrintsBytes-none, prints_entries, prints_more}
use Rattle.table_page.proofs.definition_page.print_columns.Goals as goal

pub loop-column-init : goal.loop-column-init
loop-column-init c = record { place = omega arith; printed = PrintsBytes-none 54 c.args.page.now }

pub print_column-requires : goal.print_column-requires
print_column-requires c = record {
  short = subst (λ column. IsShort column.name) (sym c.column-item.is) (c.requires.short c.loop-column.column-index c.column-item.result c.loop-column-test.true);
  within = omega (arith, c.loop-column.invariant.place, c.requires.few);
}

pub loop-column-preserved : goal.loop-column-preserved
loop-column-preserved c = record {
  place = omega (arith, c.loop-column.invariant.place);
  printed = prints_more (printed_column) c.args.columns.now c.loop-column.column-index _ _ 54 c.loop-column.at _ c.args.page.now c.loop-column.page c.print_column.new.page
      c.loop-column-test.true c.column-item.is c.loop-column.invariant.printed c.print_column.ensures;
}

pub returns : goal.returns
returns c =
    prints_entries (printed_column) 31 496 54 c.loop-column.at (λ column. IsShort column.name) length-printed_column c.args.columns.now c.loop-column.column-index c.args.page.now c.loop-column.page c.print_up_to.new.page
    c.requires.short c.loop-column-test.false c.loop-column.auto.column-index-end c.loop-column.invariant.place c.loop-column.invariant.printed c.print_up_to.ensures
