-- Each entry stands behind those before it, and zeros behind them all.
use Rattle.std.proofs.Common.{arith, subst, sym}
use Rattle.table_page.specs.Printing.{IsShortIndex}
use Rattle.table_page.specs.TablePage.{printed_index}
use Rattle.table_page.proofs.EntriesLemmas.{length-printed_index}
use Rattle.table_page.proofs.PrintingLemmas.{PrintsBytes-none, prints_entries, prints_more}
use Rattle.table_page.proofs.definition_page.print_indexes.Goals as goal

pub loop-index-init : goal.loop-index-init
loop-index-init c = record { place = omega arith; printed = PrintsBytes-none 618 c.args.page.now }

pub print_index-requires : goal.print_index-requires
print_index-requires c = record {
  short = subst IsShortIndex (sym c.index-item.is) (c.requires.short c.loop-index.index-index c.index-item.result c.loop-index-test.true);
  within = omega (arith, c.loop-index.invariant.place, c.requires.few);
}

pub loop-index-preserved : goal.loop-index-preserved
loop-index-preserved c = record {
  place = omega (arith, c.loop-index.invariant.place);
  printed = prints_more (printed_index) c.args.indexes.now c.loop-index.index-index _ _ 618 c.loop-index.at _ c.args.page.now c.loop-index.page c.print_index.new.page
      c.loop-index-test.true c.index-item.is c.loop-index.invariant.printed c.print_index.ensures;
}

pub returns : goal.returns
returns c =
    prints_entries (printed_index) 56 448 618 c.loop-index.at IsShortIndex length-printed_index c.args.indexes.now c.loop-index.index-index c.args.page.now c.loop-index.page c.print_up_to.new.page
    c.requires.short c.loop-index-test.false c.loop-index.auto.index-index-end c.loop-index.invariant.place c.loop-index.invariant.printed c.print_up_to.ensures
