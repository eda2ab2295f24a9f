use Rattle.std.proofs.Common.{◌≡◌, drop, map, not}
use Rattle.std.specs.Prelude.{flat_map}
use Rattle.cell_filter.specs.Cells.{joined_by, may_hold_under}
use Rattle.cell_filter.proofs.cells.+may_hold_under.Given as goal

abbrev pub decreases-may_hold_under : goal.decreases-may_hold_under
decreases-may_hold_under l = goal.size-may_hold_under l

abbrev pub invariant-loop-pred : goal.invariant-loop-pred
invariant-loop-pred l =
    joined_by (not l.negated) (map (λ part. may_hold_under (flat_map (λ dim. dim) l.def.dims) l.cell.values part l.negated) l.pred-items)
    ≡ joined_by (not l.negated) (map (λ part. may_hold_under (flat_map (λ dim. dim) l.def.dims) l.cell.values part l.negated) (drop l.pred-index l.pred-items))

abbrev pub invariant-loop-pred-2 : goal.invariant-loop-pred-2
invariant-loop-pred-2 l =
    joined_by l.negated (map (λ part. may_hold_under (flat_map (λ dim. dim) l.def.dims) l.cell.values part l.negated) l.pred-items)
    ≡ joined_by l.negated (map (λ part. may_hold_under (flat_map (λ dim. dim) l.def.dims) l.cell.values part l.negated) (drop l.pred-index l.pred-items))
