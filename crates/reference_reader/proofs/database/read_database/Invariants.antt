use Rattle.std.proofs.Common.{◌≡◌, false, None}
use Rattle.std.specs.Prelude.{IsTrue}
use Rattle.std.specs.List.{AllZip, range_with_len}
use Rattle.store_api.specs.Frame.{NoPage}
use Rattle.store_api.specs.RunsOverPages.{RunsOverPages}
use Rattle.reference_reader.specs.ReadPages.{BreaksReading, IsPlainPage}
use Rattle.reference_reader.specs.ReadTables.{ReadsPlace}
use Rattle.reference_reader.proofs.database.read_database.Given as goal

-- the places so far were read
abbrev pub invariant-loop-t : goal.invariant-loop-t
invariant-loop-t g l = record {
  reads : IsTrue (g.P.Pages.state l.fn.pages).is_told → AllZip (ReadsPlace l.fn.shape (g.P.Pages.state l.fn.pages).work) (range_with_len 0 l.t) l.tables;
  same : (g.P.Pages.state l.pages).work ≡ (g.P.Pages.state l.fn.pages).work;
  going : (g.P.Pages.state l.pages).ended ≡ false;
  runs : RunsOverPages g.P.Pages NoPage (IsPlainPage l.fn.shape (g.P.Pages.state l.fn.pages)) (BreaksReading l.fn.shape (g.P.Pages.state l.fn.pages)) l.fn.pages l.pages None;
}
