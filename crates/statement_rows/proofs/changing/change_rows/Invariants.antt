use Rattle.std.proofs.Common.{◌≡◌, drop, length}
use Rattle.free_space.specs.RoomNotes.{room_of}
use Rattle.statement_rows.proofs.TurningStepsLemmas.{IsTurning}
use Rattle.statement_rows.proofs.changing.change_rows.Given as goal

-- the first rows are others, and no page changed where there is none
abbrev pub invariant-loop-one : goal.invariant-loop-one
invariant-loop-one g l = record {
  turning : IsTurning g.P.Pages l.fn.shape l.fn.notes (room_of l.fn.rooms) l.fn.pages l.fn.def l.fn.turned l.notes (room_of l.rooms) l.pages (drop l.one-index l.turned);
  idle : length l.fn.turned ≡ 0 → (g.P.Pages.state l.pages).work ≡ (g.P.Pages.state l.fn.pages).work;
}
