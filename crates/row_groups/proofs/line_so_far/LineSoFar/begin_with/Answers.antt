use Rattle.std.proofs.Common.{List, refl, ap, ◌∙◌, arith}
use Rattle.std.proofs.lemmas.List.{length-set}
use Rattle.mdc_ast.specs.declared.bound.BoundOut.{BoundOut}
use Rattle.row_groups.specs.Adding.{Numbered, begun, in_places}
use Rattle.row_groups.proofs.ShownLemmas.{numbered_is, tallies-done, tallies-next}
use Rattle.row_groups.proofs.line_so_far.LineSoFar.begin_with.Goals as goal

pub index_mut-requires : goal.index_mut-requires
index_mut-requires c = omega (arith, c.loop-place.invariant.long, c.loop-place.self-inside.tallies.ok.0, c.self.inside.tallies.ok.0)

pub loop-place-preserved : goal.loop-place-preserved
loop-place-preserved c = record {
  number = c.loop-place.invariant.number;
  sorts = c.loop-place.invariant.sorts;
  long = length-set c.loop-place.self-inside.tallies.items c.loop-place.place c.begin_with.new.self ∙ c.loop-place.invariant.long;
  shows = tallies-next begun c.as_slice-outs.result.now _ c.loop-place.self-inside.tallies.items c.args.values.now c.loop-place.place _ c.index_mut.result.now c.begin_with.new.self (omega arith)
      (omega (arith, c.loop-place.invariant.long, c.loop-place.self-inside.tallies.ok.0, c.self.inside.tallies.ok.0))
      c.loop-place.invariant.shows c.index_mut.ensures.value c.in_ok-begin_with.ensures;
}

pub returns : goal.returns
returns c =
    numbered_is refl c.in_ok-self-inside.ensures
    (tallies-done begun c.as_slice-outs.result.now c.args.values.now c.args.self.now.line.shows c.self.inside.tallies.items c.loop-place.self-inside.tallies.items c.loop-place.place
    (ap (λ (one : Numbered). one.line.shows) c.self.view_is) c.loop-place.invariant.shows (omega (arith, c.self.inside.tallies.ok.0))
    ∙ ap (λ (outs : List BoundOut). in_places begun outs c.args.self.now.line.shows c.args.values.now) c.as_slice-outs.ensures)
