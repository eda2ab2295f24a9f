use Rattle.std.proofs.Common.{◌==◌, ◌+◌, ◌*◌, ◌≡◌, ◌<◌, ◌≤◌, [], get_or, true, false, ap, sym, subst, ◌∙◌, arith}
use Rattle.std.specs.List.{list_any}
use Rattle.store_api.specs.StoreState.{patched}
use Rattle.node_page.specs.Node.{bytes_in, node_of, stated_entries}
use Rattle.node_page.specs.Slots.{blanked, with_count}
use Rattle.node_page.specs.Entries.{names_block}
use Rattle.node_page.proofs.SweepLemmas.{Sweeps, sweeps_start, sweep_keeps, sweep_drops, sweep_ends, number_here}
use Rattle.node_page.proofs.sweep.drop_blocks.Goals as goal

pub loop-i-init : goal.loop-i-init
loop-i-init c = record {
  lower = omega arith;
  upper = omega arith;
  sweeps = λ entries is. sweeps_start c.args.blocks.now c.args.at c.args.from c.args.width c.args.page.now entries is c.told-page c.fits-page c.requires.place;
}

pub loop-i-preserved-then-has_block : goal.loop-i-preserved-then-has_block
loop-i-preserved-then-has_block c =
    let l = c.loop-i in
    let w = c.args.width in
    let at = c.args.at in
    let blocks = c.args.blocks.now in
    let old = c.args.page.now in
    let lt : l.i < stated_entries old = omega (arith, c.loop-i-test.true, c.from-count.ensures, c.short_at.ensures) in
    let low : c.args.from ≤ l.i = omega (arith, l.invariant.lower, l.invariant.upper) in
    record {
      lower = l.invariant.lower;
      upper = omega (arith, l.invariant.upper);
      sweeps = λ entries is.
          let s = l.invariant.sweeps entries is in
          let named : names_block blocks at (get_or entries l.i []) ≡ true =
          ap (names_block blocks at) (sym (number_here blocks at c.args.from l.i l.to w old l.page entries is c.told-page c.fits-page lt l.invariant.upper s))
          ∙ ap (λ k. names_block blocks at (bytes_in (16 + l.i * k) k l.page)) (sym c.from-step.ensures)
          ∙ ap (λ n. list_any (λ b. b == n) blocks) (sym c.block_at.ensures) ∙ sym c.has_block.ensures ∙ c.if-has_block.true in
          sweep_drops blocks at c.args.from l.i l.to w old l.page entries is c.told-page c.fits-page lt low s named;
    }

pub loop-i-preserved : goal.loop-i-preserved
loop-i-preserved c =
    let l = c.loop-i in
    let w = c.args.width in
    let at = c.args.at in
    let blocks = c.args.blocks.now in
    let old = c.args.page.now in
    let lt : l.i < stated_entries old = omega (arith, c.loop-i-test.true, c.from-count.ensures, c.short_at.ensures) in
    let low : c.args.from ≤ l.i = omega (arith, l.invariant.lower, l.invariant.upper) in
    record {
      lower = omega (arith, l.invariant.lower);
      upper = omega (arith, l.invariant.upper);
      sweeps = λ entries is.
          let s = l.invariant.sweeps entries is in
          let named : names_block blocks at (get_or entries l.i []) ≡ false =
          ap (names_block blocks at) (sym (number_here blocks at c.args.from l.i l.to w old l.page entries is c.told-page c.fits-page lt l.invariant.upper s))
          ∙ ap (λ k. names_block blocks at (bytes_in (16 + l.i * k) k l.page)) (sym c.from-step.ensures)
          ∙ ap (λ n. list_any (λ b. b == n) blocks) (sym c.block_at.ensures) ∙ sym c.has_block.ensures ∙ c.if-has_block.false in
          sweep_keeps blocks at c.args.from l.i l.to w old l.page c.move_slot.new.page entries is c.told-page c.fits-page lt low l.invariant.upper s named
          (c.move_slot.ensures ∙ ap (λ k. patched (16 + l.to * k) (bytes_in (16 + l.i * k) k l.page) l.page) c.from-step.ensures);
    }

pub returns-clause-entries : goal.returns-clause-entries
returns-clause-entries c = λ entries is.
    let l = c.loop-i in
    let w = c.args.width in
    let n = c.short_at.result in
    let ended : l.i ≡ n = omega (arith, c.loop-i-test.false, c.from-count.ensures) in
    let start : c.slot_at.result ≡ 16 + l.to * w = c.slot_at.ensures ∙ ap (λ k. 16 + l.to * k) c.from-step.ensures in
    let end : c.slot_at-end.result ≡ 16 + n * w = c.slot_at-end.ensures ∙ ap (λ k. 16 + c.from-count.result * k) c.from-step.ensures ∙ ap (λ k. 16 + k * w) c.from-count.ensures in
    ap (node_of w) (c.set_count.ensures ∙ ap (with_count l.to) (c.blank_bytes.ensures ∙ ap (λ k. blanked k c.slot_at-end.result l.page) start ∙ ap (λ k. blanked (16 + l.to * w) k l.page) end))
    ∙ sweep_ends c.args.blocks.now c.args.at c.args.from n l.to w c.args.page.now l.page entries is c.told-page c.fits-page c.short_at.ensures
    (omega (arith, ended, l.invariant.upper)) (subst (λ k. Sweeps c.args.blocks.now c.args.at c.args.from k l.to w c.args.page.now l.page entries) ended (l.invariant.sweeps entries is))
