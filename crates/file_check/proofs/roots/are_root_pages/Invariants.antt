use Rattle.std.proofs.Common.{◌≡◌, false, List, None, take}
use Rattle.std.specs.Prelude.{IsTrue}
use Rattle.std.specs.List.{All}
use Rattle.store_api.specs.Frame.{NoPage}
use Rattle.store_api.specs.RunsOverPages.{RunsOverPages}
use Rattle.extent_map.specs.declared.kind.Kind.{Kind}
use Rattle.mdc_sound.specs.SpaceRules.{IsMapSound}
use Rattle.file_check.specs.Looking.{AnyPage, Unless}
use Rattle.file_check.specs.TablePagesJudged.{HasOwners, IsRootPage}
use Rattle.file_check.proofs.roots.are_root_pages.Given as goal

-- each page so far may be a root
abbrev pub invariant-loop-root : goal.invariant-loop-root
invariant-loop-root g l = record {
  judged : IsTrue (g.P.Pages.state l.fn.pages).is_told → (owners : List Kind) → IsMapSound l.fn.shape (g.P.Pages.state l.fn.pages).work owners
      → All (IsRootPage l.fn.shape (g.P.Pages.state l.fn.pages).work owners) (take l.root-index l.roots);
  same : (g.P.Pages.state l.pages).work ≡ (g.P.Pages.state l.fn.pages).work;
  going : (g.P.Pages.state l.pages).ended ≡ false;
  runs : RunsOverPages g.P.Pages NoPage AnyPage (Unless g.P.Pages l.fn.pages (HasOwners l.fn.shape)) l.fn.pages l.pages None;
}
