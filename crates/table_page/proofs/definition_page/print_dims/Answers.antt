-- Each entry stands behind those before it, and zeros behind them all.
use Rattle.std.proofs.Common.{◌≤◌, ◌+◌, length, ap, arith, subst}
use Rattle.table_page.specs.Printing.{PrintsBytes}
use Rattle.table_page.specs.TablePage.{printed_dimension}
use Rattle.table_page.proofs.EntriesLemmas.{length-printed_dimension}
use Rattle.table_page.proofs.PrintingLemmas.{PrintsBytes-none, prints_entries, prints_more}
use Rattle.table_page.proofs.definition_page.print_dims.Goals as goal

pub loop-dim-init : goal.loop-dim-init
loop-dim-init c = record { place = omega arith; printed = PrintsBytes-none 550 c.args.page.now }

pub print_dimension-requires : goal.print_dimension-requires
print_dimension-requires c =
    let few = c.requires.short c.loop-dim.dim-index c.dim-item.result c.loop-dim-test.true in record {
      short = omega (arith, few, ap length c.dim-item.is, ap length c.as_slice.ensures);
      within = omega (arith, c.loop-dim.invariant.place, c.requires.few);
    }

pub loop-dim-preserved : goal.loop-dim-preserved
loop-dim-preserved c = record {
  place = omega (arith, c.loop-dim.invariant.place);
  printed = prints_more (printed_dimension) c.args.dims.now c.loop-dim.dim-index _ _ 550 c.loop-dim.at _ c.args.page.now c.loop-dim.page c.print_dimension.new.page
      c.loop-dim-test.true c.dim-item.is c.loop-dim.invariant.printed
      (subst (λ dim. PrintsBytes c.loop-dim.at (c.loop-dim.at + 17) (printed_dimension dim) c.loop-dim.page c.print_dimension.new.page) c.as_slice.ensures c.print_dimension.ensures);
}

pub returns : goal.returns
returns c =
    prints_entries (printed_dimension) 17 68 550 c.loop-dim.at (λ dim. length dim ≤ 16) length-printed_dimension c.args.dims.now c.loop-dim.dim-index c.args.page.now c.loop-dim.page c.print_up_to.new.page
    c.requires.short c.loop-dim-test.false c.loop-dim.auto.dim-index-end c.loop-dim.invariant.place c.loop-dim.invariant.printed c.print_up_to.ensures
