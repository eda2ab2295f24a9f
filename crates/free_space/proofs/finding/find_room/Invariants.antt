use Rattle.std.proofs.Common.{◌≡◌, ◌<◌, ◌≤◌, ◌-◌, ℕ, List, None, false}
use Rattle.std.specs.Prelude.{IsTrue, slice_index_or}
use Rattle.store_api.specs.Frame.{NoPage}
use Rattle.store_api.specs.RunsOverPages.{RunsOverPages}
use Rattle.extent_map.specs.declared.kind.Kind.{Kind}
use Rattle.mdc_ast.specs.declared.row.Row.{Row}
use Rattle.mdc_ast.specs.Database.{fits_all}
use Rattle.mdc_sound.specs.Placing.{HasRoomFor}
use Rattle.mdc_sound.specs.Placing.Spot.{OtherBlock}
use Rattle.mdc_sound.specs.StandingTable.{BreaksTable, IsTableTreePage, StandsTable, TableForests, spots_of}
use Rattle.free_space.specs.FoundRoom.{cell_key_of}
use Rattle.free_space.proofs.finding.find_room.Given as goal

-- no block of the cell that was passed has room
abbrev pub invariant-walk : goal.invariant-walk
invariant-walk g l = record {
  reached : l.from ≤ l.next;
  same : (g.P.Pages.state l.pages).work ≡ (g.P.Pages.state l.fn.pages).work;
  going : (g.P.Pages.state l.pages).ended ≡ false;
  runs : RunsOverPages g.P.Pages NoPage (IsTableTreePage g.P.Pages l.fn.shape l.fn.pages l.def) (BreaksTable g.P.Pages l.fn.shape l.fn.pages l.def) l.fn.pages l.pages None;
  passed : (owners : List Kind) (forests : TableForests) (row : Row) → StandsTable g.P.Pages l.fn.shape l.fn.pages l.def owners forests
      → IsTrue (fits_all l.def.columns row.values) → l.key ≡ cell_key_of l.def row.values
      → (block : ℕ) → l.from ≤ block → block < l.next → HasRoomFor l.def row (slice_index_or (spots_of g.P.Pages l.fn.shape l.fn.pages l.def owners forests) block OtherBlock) → ⊥;
}

-- how many blocks may come
abbrev pub decreases-walk : goal.decreases-walk
decreases-walk g l = l.fn.shape.extents - l.next
