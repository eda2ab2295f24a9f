-- Each entry stands behind those before it, and zeros behind them all.
use Rattle.std.proofs.Common.{arith, refl}
use Rattle.byteorder.specs.Endian.{big_bytes}
use Rattle.byteorder.specs.Numbers.{length-bytes_high_first}
use Rattle.table_page.proofs.PrintingLemmas.{PrintsBytes-none, prints_entries, prints_more}
use Rattle.table_page.proofs.definition_page.print_roots.Goals as goal

pub loop-root-init : goal.loop-root-init
loop-root-init c = record { place = omega arith; printed = PrintsBytes-none 38 c.args.page.now }

pub print_short-requires : goal.print_short-requires
print_short-requires c = omega (arith, c.loop-root.invariant.place)

pub loop-root-preserved : goal.loop-root-preserved
loop-root-preserved c = record {
  place = omega (arith, c.loop-root.invariant.place);
  printed = prints_more (big_bytes 4) c.args.roots.now c.loop-root.root-index _ _ 38 c.loop-root.at _ c.args.page.now c.loop-root.page c.print_short.new.page
      c.loop-root-test.true refl c.loop-root.invariant.printed c.print_short.ensures;
}

pub returns : goal.returns
returns c =
    prints_entries (big_bytes 4) 4 16 38 c.loop-root.at (λ root. Unit {0}) (λ root p. length-bytes_high_first 4 root) c.args.roots.now c.loop-root.root-index c.args.page.now c.loop-root.page c.print_up_to.new.page
    (λ k d lt. tt) c.loop-root-test.false c.loop-root.auto.root-index-end c.loop-root.invariant.place c.loop-root.invariant.printed c.print_up_to.ensures
