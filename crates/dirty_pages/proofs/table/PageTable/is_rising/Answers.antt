use Rattle.std.proofs.Common.{arith, refl, subst, sym}
use Rattle.dirty_pages.specs.Table.{AreRising}
use Rattle.dirty_pages.proofs.Order.{rising_entries, not_rising}
use Rattle.dirty_pages.proofs.table.PageTable.is_rising.Goals as goal

pub returns : goal.returns
returns c = (
  (λ _. subst AreRising c.self.view_is (rising_entries c.self.inside.pages.items (λ k d lt. c.loop-i.invariant.rising k d (omega (arith, lt, c.self.inside.pages.ok.0))))),
  (λ _. refl),
)

pub returns-then-index : goal.returns-then-index
returns-then-index c = (
  (λ never. cc),
  (λ rising. absurd (not_rising c.self.inside.pages.items c.loop-i.i c.index.result.now c.index-in-loop-i.result.now c.loop-i.invariant.from_one
      (omega (arith, c.self.inside.pages.ok.0)) c.index.ensures c.index-in-loop-i.ensures c.if-index.true (subst AreRising (sym c.self.view_is) rising))),
)
