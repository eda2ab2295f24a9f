-- The two ways in which a run is told.
use Rattle.std.specs.Prelude.{Bool}
use Rattle.store_api.specs.declared.shape.Shape.{Shape}
use Rattle.script_engine.specs.OnAnyPages.{MayCommit}
use Rattle.session.specs.script.AnyGoing.{MeetsOnAny}
use Rattle.session.specs.script.AnyStops.{StopsOnAny}
use Rattle.session.specs.script.Fetching.{BringsForItem, BringsOnAny}
use Rattle.session.specs.script.Going.{MeetsItem}
use Rattle.session.specs.script.Leaving.{AreServedPages, CommitsOnPages}
use Rattle.session.specs.script.Ways.{Way}

-- Over sound pages: each item does exactly what it may, all that may be left are sound pages, and no damage is named.
abbrev pub on_sound : Shape → Way
on_sound shape = record { Met = MeetsItem shape; Brings = BringsForItem shape; Stopped = CommitsOnPages shape; Left = AreServedPages shape; Stops = λ held stages in_hand stop base. Unit {0} }

-- Over any pages, which are told or not.
abbrev pub on_any : Bool → Shape → Way
on_any told shape = record { Met = MeetsOnAny told; Brings = BringsOnAny; Stopped = λ held stmt pages. MayCommit stmt held pages; Left = λ pages. Unit {0}; Stops = StopsOnAny told shape }
