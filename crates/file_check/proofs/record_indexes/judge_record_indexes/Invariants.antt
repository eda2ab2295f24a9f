use Rattle.std.proofs.Common.{◌≡◌, false, None, take}
use Rattle.std.specs.Prelude.{IsTrue}
use Rattle.store_api.specs.Frame.{NoPage}
use Rattle.store_api.specs.RunsOverPages.{RunsOverPages}
use Rattle.entry_tree.specs.Forest.{Forest}
use Rattle.file_check.specs.Judging.{JudgesEach}
use Rattle.file_check.specs.Looking.{AnyPage, Unless}
use Rattle.file_check.specs.TableIndexes.{BreaksPlace, HasIndexes, IsPlaceSound, indexes_of_kind}
use Rattle.file_check.specs.declared.table_index.IndexKind.TheVariants.{Rows}
use Rattle.file_check.proofs.record_indexes.judge_record_indexes.Given as goal

-- the first indexes are judged
abbrev pub invariant-loop-place : goal.invariant-loop-place
invariant-loop-place g l = record {
  judged : IsTrue (g.P.Pages.state l.fn.pages).is_told → (map_tree : Forest) → HasIndexes Rows l.fn.shape (g.P.Pages.state l.fn.pages).work l.def map_tree
      → JudgesEach (IsPlaceSound Rows l.fn.shape (g.P.Pages.state l.fn.pages).work l.def map_tree) (BreaksPlace Rows l.fn.shape (g.P.Pages.state l.fn.pages).work l.def map_tree)
      (take l.place (indexes_of_kind Rows l.def)) l.lowest;
  same : (g.P.Pages.state l.pages).work ≡ (g.P.Pages.state l.fn.pages).work;
  going : (g.P.Pages.state l.pages).ended ≡ false;
  runs : RunsOverPages g.P.Pages NoPage AnyPage
      (Unless g.P.Pages l.fn.pages (λ told. (map_tree : Forest) × HasIndexes Rows l.fn.shape told l.def map_tree)) l.fn.pages l.pages None;
}
