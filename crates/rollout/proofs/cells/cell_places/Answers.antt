use Rattle.std.proofs.Common.{◌∙◌, List, ap, ℕ}
use Rattle.std.specs.List.{flat_map}
use Rattle.std.proofs.lemmas.List.{take_all}
use Rattle.rollout.proofs.cells.cell_places.Goals as goal

pub returns : goal.returns
returns c =
    c.loop-dim.invariant
    ∙ ap (flat_map (λ (dim : List ℕ). dim)) (take_all c.loop-dim.dim-index c.as_slice-dim-items.result.now c.loop-dim-test.false)
    ∙ ap (flat_map (λ (dim : List ℕ). dim)) c.as_slice-dim-items.ensures
