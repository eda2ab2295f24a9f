use Rattle.std.proofs.Common.{◌==◌, ◌+◌, ◌*◌, ◌≡◌, ◌<◌, true, false, ap, sym, ◌∙◌, arith}
use Rattle.std.specs.List.{list_any}
use Rattle.node_page.specs.Node.{bytes_in, stated_entries}
use Rattle.node_page.specs.Entries.{names_block}
use Rattle.node_page.proofs.SweepLemmas.{counts_all, counts_more}
use Rattle.node_page.proofs.sweep.count_named.Goals as goal

pub loop-i-preserved-then-not-has_block : goal.loop-i-preserved-then-not-has_block
loop-i-preserved-then-not-has_block c =
    let lt : c.loop-i.i < stated_entries c.args.page.now = omega (arith, c.loop-i-test.true, c.from-count.ensures, c.short_at.ensures) in
    let named : names_block c.args.blocks.now c.args.at (bytes_in (16 + c.loop-i.i * c.args.width) c.args.width c.args.page.now) ≡ false =
    ap (λ k. names_block c.args.blocks.now c.args.at (bytes_in (16 + c.loop-i.i * k) k c.args.page.now)) (sym c.from-step.ensures)
    ∙ ap (λ n. list_any (λ b. b == n) c.args.blocks.now) (sym c.block_at.ensures) ∙ sym c.has_block.ensures ∙ c.if-not-has_block.true in
    record {
      passed = omega (arith, c.loop-i.invariant.passed);
      few = c.loop-i.invariant.few;
      counts = λ entries is.
          let n = counts_more c.args.blocks.now c.args.at c.args.from c.loop-i.i c.args.width c.loop-i.named c.args.page.now entries false is c.told-page c.fits-page lt named (c.loop-i.invariant.counts entries is) in
          omega (arith, n);
    }

pub loop-i-preserved : goal.loop-i-preserved
loop-i-preserved c =
    let lt : c.loop-i.i < stated_entries c.args.page.now = omega (arith, c.loop-i-test.true, c.from-count.ensures, c.short_at.ensures) in
    let named : names_block c.args.blocks.now c.args.at (bytes_in (16 + c.loop-i.i * c.args.width) c.args.width c.args.page.now) ≡ true =
    ap (λ k. names_block c.args.blocks.now c.args.at (bytes_in (16 + c.loop-i.i * k) k c.args.page.now)) (sym c.from-step.ensures)
    ∙ ap (λ n. list_any (λ b. b == n) c.args.blocks.now) (sym c.block_at.ensures) ∙ sym c.has_block.ensures ∙ c.if-not-has_block.false in
    record {
      passed = omega (arith, c.loop-i.invariant.passed);
      few = omega (arith, c.loop-i.invariant.passed, lt);
      counts = λ entries is.
          counts_more c.args.blocks.now c.args.at c.args.from c.loop-i.i c.args.width c.loop-i.named c.args.page.now entries true is c.told-page c.fits-page lt named (c.loop-i.invariant.counts entries is);
    }

pub returns-clause-entries : goal.returns-clause-entries
returns-clause-entries c = λ entries is.
    counts_all c.args.blocks.now c.args.at c.args.from c.loop-i.i c.args.width c.loop-i.named c.args.page.now entries is c.told-page c.fits-page
    (omega (arith, c.loop-i-test.false, c.from-count.ensures, c.short_at.ensures)) (c.loop-i.invariant.counts entries is)
