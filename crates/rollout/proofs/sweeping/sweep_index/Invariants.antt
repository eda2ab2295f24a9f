use Rattle.std.proofs.Common.{◌≡◌, ◌≤◌, ◌-◌, false, length}
use Rattle.std.specs.Prelude.{Some}
use Rattle.block_index.specs.Reading.{room_above}
use Rattle.record_index.specs.RecordIndexes.{place_of_record_index}
use Rattle.rollout.proofs.SweepingLemmas.{IsSweeping}
use Rattle.rollout.proofs.sweeping.sweep_index.Given as goal

-- the sweep has come to the bound
abbrev pub invariant-leaves : goal.invariant-leaves
invariant-leaves g l = record {
  so_far : IsSweeping g.P.Pages l.fn.shape l.fn.notes l.notes l.fn.pages l.pages l.fn.def l.fn.index l.fn.blocks (Some l.bound) (l.fn.rows - l.left);
  few : l.left ≤ l.fn.rows;
  going : (g.P.Pages.state l.pages).ended ≡ false;
  wide : (let place = place_of_record_index l.fn.def l.fn.index in length l.bound ≡ place.width);
}

-- how much room there is above it
abbrev pub decreases-leaves : goal.decreases-leaves
decreases-leaves g l = (let place = place_of_record_index l.fn.def l.fn.index in room_above place.width (Some l.bound))
