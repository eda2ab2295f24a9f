use Rattle.std.proofs.Common.{◌≡◌, false, None, take}
use Rattle.std.specs.Prelude.{IsTrue}
use Rattle.store_api.specs.Frame.{NoPage}
use Rattle.store_api.specs.RunsOverPages.{RunsOverPages}
use Rattle.mdc_sound.specs.SpaceRules.{DatabaseView, tables_there}
use Rattle.file_check.specs.Judging.{JudgesEach}
use Rattle.file_check.specs.Known.{ViewHasBlocks}
use Rattle.file_check.specs.Looking.{AnyPage, Unless}
use Rattle.file_check.specs.RulesOfTables.{BreaksTableRule, KeepsTableRule, ViewKnownFor, found_of}
use Rattle.file_check.specs.declared.table_rule.TableRule.{TableRule}
use Rattle.file_check.proofs.table_judging.judge_all_tables.Given as goal

-- the tables in the places so far are judged
abbrev pub invariant-loop-def : goal.invariant-loop-def
invariant-loop-def g l = record {
  judged : IsTrue (g.P.Pages.state l.fn.pages).is_told → (rule : TableRule) (view : DatabaseView) → ViewKnownFor rule l.fn.shape (g.P.Pages.state l.fn.pages).work l.defs view
      → JudgesEach (KeepsTableRule rule l.fn.shape (g.P.Pages.state l.fn.pages).work) (BreaksTableRule rule l.fn.shape (g.P.Pages.state l.fn.pages).work) (tables_there (take l.def-index view.places)) (found_of rule l.lowest);
  same : (g.P.Pages.state l.pages).work ≡ (g.P.Pages.state l.fn.pages).work;
  going : (g.P.Pages.state l.pages).ended ≡ false;
  runs : RunsOverPages g.P.Pages NoPage AnyPage (Unless g.P.Pages l.fn.pages (λ told. (view : DatabaseView) × ViewHasBlocks l.fn.shape told l.defs view)) l.fn.pages l.pages None;
}
