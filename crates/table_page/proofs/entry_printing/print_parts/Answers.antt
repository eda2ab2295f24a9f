-- Each entry stands behind those before it, and zeros behind them all.
use Rattle.std.proofs.Common.{arith, false, get_or, refl}
use Rattle.mdc_ast.specs.declared.definition.KeyPart.{KeyPart}
use Rattle.table_page.specs.TablePage.{printed_part}
use Rattle.table_page.proofs.EntriesLemmas.{length-printed_part}
use Rattle.table_page.proofs.PrintingLemmas.{PrintsBytes-none, prints_entries, prints_more}
use Rattle.table_page.proofs.entry_printing.print_parts.Goals as goal

no_part : KeyPart
no_part = record { column = 0; descending = false }

pub loop-part-init : goal.loop-part-init
loop-part-init c = record { place = omega arith; printed = PrintsBytes-none c.args.at c.args.page.now }

pub print_part-requires : goal.print_part-requires
print_part-requires c = omega (arith, c.loop-part.invariant.place, c.requires.few, c.requires.within)

pub loop-part-preserved : goal.loop-part-preserved
unfolding no_part
loop-part-preserved c = record {
  place = omega (arith, c.loop-part.invariant.place);
  printed = prints_more (printed_part) c.args.parts.now c.loop-part.part-index (get_or c.args.parts.now c.loop-part.part-index no_part) no_part c.args.at c.loop-part.to _ c.args.page.now c.loop-part.page c.print_part.new.page
      c.loop-part-test.true refl c.loop-part.invariant.printed c.print_part.ensures;
}

pub returns : goal.returns
returns c =
    prints_entries (printed_part) 2 32 c.args.at c.loop-part.to (λ part. Unit {0}) length-printed_part c.args.parts.now c.loop-part.part-index c.args.page.now c.loop-part.page c.print_up_to.new.page
    (λ k d lt. tt) c.loop-part-test.false c.loop-part.auto.part-index-end c.loop-part.invariant.place c.loop-part.invariant.printed c.print_up_to.ensures
