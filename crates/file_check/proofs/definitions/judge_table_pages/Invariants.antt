use Rattle.std.proofs.Common.{◌≡◌, false, List, None, length}
use Rattle.std.specs.Prelude.{IsTrue}
use Rattle.store_api.specs.Frame.{NoPage}
use Rattle.store_api.specs.RunsOverPages.{RunsOverPages}
use Rattle.extent_map.specs.declared.kind.Kind.{Kind}
use Rattle.stored_catalog.specs.StoredDefinitions.{IsWithinLimits}
use Rattle.mdc_sound.specs.SpaceRules.{IsMapSound}
use Rattle.file_check.specs.Looking.{AnyPage, Unless}
use Rattle.file_check.specs.TablePagesJudged.{HasOwners}
use Rattle.file_check.proofs.JudgedDefinitionsLemmas.{EachPlace, JudgedSoFar}
use Rattle.file_check.proofs.definitions.judge_table_pages.Given as goal

-- the places so far were judged by themselves
abbrev pub invariant-loop-t : goal.invariant-loop-t
invariant-loop-t g l = record {
  count : length l.defs.items ≡ l.t;
  limits : EachPlace IsWithinLimits l.defs.items;
  judged : IsTrue (g.P.Pages.state l.fn.pages).is_told → (owners : List Kind) → IsMapSound l.fn.shape (g.P.Pages.state l.fn.pages).work owners
      → JudgedSoFar l.fn.shape (g.P.Pages.state l.fn.pages).work owners l.t l.defs.items l.lowest;
  same : (g.P.Pages.state l.pages).work ≡ (g.P.Pages.state l.fn.pages).work;
  going : (g.P.Pages.state l.pages).ended ≡ false;
  runs : RunsOverPages g.P.Pages NoPage AnyPage (Unless g.P.Pages l.fn.pages (HasOwners l.fn.shape)) l.fn.pages l.pages None;
}
