use Rattle.std.proofs.Common.{◌∙◌, ap, arith}
use Rattle.std.proofs.lemmas.List.{length-set}
use Rattle.row_groups.specs.Adding.{Numbered, many_added}
use Rattle.row_groups.proofs.ShownLemmas.{numbered_is, tallies-done, tallies-next}
use Rattle.row_groups.proofs.line_so_far.LineSoFar.add_values.Goals as goal

pub index_mut-requires : goal.index_mut-requires
index_mut-requires c = omega (arith, c.loop-place.invariant.long, c.loop-place.self-inside.tallies.ok.0, c.self.inside.tallies.ok.0)

pub loop-place-preserved : goal.loop-place-preserved
loop-place-preserved c = record {
  number = c.loop-place.invariant.number;
  sorts = c.loop-place.invariant.sorts;
  long = length-set c.loop-place.self-inside.tallies.items c.loop-place.place c.add.new.self ∙ c.loop-place.invariant.long;
  shows = tallies-next (many_added c.args.count) c.args.outs.now _ c.loop-place.self-inside.tallies.items c.args.values.now c.loop-place.place _ c.index_mut.result.now c.add.new.self (omega arith)
      (omega (arith, c.loop-place.invariant.long, c.loop-place.self-inside.tallies.ok.0, c.self.inside.tallies.ok.0))
      c.loop-place.invariant.shows c.index_mut.ensures.value c.in_ok-add.ensures;
}

pub returns : goal.returns
returns c =
    numbered_is (c.loop-place.invariant.number ∙ ap (λ (one : Numbered). one.number) c.self.view_is) (c.loop-place.invariant.sorts ∙ ap (λ (one : Numbered). one.line.sorts) c.self.view_is)
    (tallies-done (many_added c.args.count) c.args.outs.now c.args.values.now c.args.self.now.line.shows c.self.inside.tallies.items c.loop-place.self-inside.tallies.items c.loop-place.place
    (ap (λ (one : Numbered). one.line.shows) c.self.view_is) c.loop-place.invariant.shows (omega (arith, c.self.inside.tallies.ok.0)))
