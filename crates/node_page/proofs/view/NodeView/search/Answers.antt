use Rattle.std.proofs.Common.{◌+◌, ◌-◌, ◌/◌, ◌<◌, length, refl, sym, ◌∙◌, arith}
use Rattle.node_page.specs.Looked.{entries_in}
use Rattle.node_page.proofs.FindLemmas.{seeks_start, seeks_on, seeks_back, met, missed, placed, place_of_standing}
use Rattle.node_page.proofs.view.NodeView.search.Goals as goal

pub loop-low-init : goal.loop-low-init
loop-low-init c = record {
  order = omega arith;
  within = omega (arith, c.len-high.ensures);
  seeks = seeks_start (entries_in c.args.self.now.node) c.args.entry.now c.len-high.result (omega (arith, c.len-high.ensures));
}

pub loop-low-preserved-in-Less : goal.loop-low-preserved-in-Less
loop-low-preserved-in-Less c =
    let l = c.loop-low in
    let middle = l.low + (l.high - l.low) / 2 in record {
      order = omega (arith, c.loop-low-test.true);
      within = l.invariant.within;
      seeks = seeks_on (entries_in c.args.self.now.node) c.args.entry.now c.entry.result.now l.low l.high middle l.invariant.seeks
          (omega (arith, c.loop-low-test.true, l.invariant.within)) c.entry.ensures.bytes (sym c.compare.ensures ∙ c.in-Less.is);
    }

pub returns-in-Equal-clause-place : goal.returns-in-Equal-clause-place
returns-in-Equal-clause-place c = λ r.
    let l = c.loop-low in
    let entries = entries_in c.args.self.now.node in
    let middle = l.low + (l.high - l.low) / 2 in
    let lt : middle < length entries = omega (arith, c.loop-low-test.true, l.invariant.within) in
    place_of_standing entries c.args.entry.now middle r
    (met entries c.args.entry.now c.entry.result.now middle lt c.entry.ensures.bytes (sym c.compare.ensures ∙ c.in-Equal.is))

pub returns-in-Equal-clause-here : goal.returns-in-Equal-clause-here
returns-in-Equal-clause-here c =
    let l = c.loop-low in
    let entries = entries_in c.args.self.now.node in
    let middle = l.low + (l.high - l.low) / 2 in
    let lt : middle < length entries = omega (arith, c.loop-low-test.true, l.invariant.within) in (
      λ yes. met entries c.args.entry.now c.entry.result.now middle lt c.entry.ensures.bytes (sym c.compare.ensures ∙ c.in-Equal.is),
      λ at. refl,
    )

pub loop-low-preserved : goal.loop-low-preserved
loop-low-preserved c =
    let l = c.loop-low in
    let middle = l.low + (l.high - l.low) / 2 in record {
      order = omega arith;
      within = omega (arith, c.loop-low-test.true, l.invariant.within);
      seeks = seeks_back (entries_in c.args.self.now.node) c.args.entry.now c.entry.result.now l.low l.high middle l.invariant.seeks
          c.entry.ensures.bytes (sym c.compare.ensures ∙ c.in-Greater.is);
    }

pub returns-clause-place : goal.returns-clause-place
returns-clause-place c = λ r.
    let l = c.loop-low in
    placed (entries_in c.args.self.now.node) c.args.entry.now l.low l.high l.invariant.order c.loop-low-test.false l.invariant.within (l.invariant.seeks.narrows r)

pub returns-clause-here : goal.returns-clause-here
returns-clause-here c = (
  λ yes. absurd (cc yes),
  λ at. absurd (missed (entries_in c.args.self.now.node) c.args.entry.now c.loop-low.low c.loop-low.high c.loop-low.invariant.seeks c.loop-low.invariant.order c.loop-low-test.false at),
)
