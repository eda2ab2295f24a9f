use Rattle.std.proofs.Common.{◌∙◌, List, subst}
use Rattle.std.specs.Prelude.{IfOk, IsTrue, ℕ}
use Rattle.store_api.proofs.RunsOverPagesLemmas.{runs_exit, runs_none}
use Rattle.extent_map.specs.declared.kind.Kind.{Kind}
use Rattle.mdc_sound.specs.SpaceRules.{IsMapSound}
use Rattle.file_check.specs.TablePagesJudged.{JudgesRoots}
use Rattle.file_check.proofs.UnlessLemmas.{runs_to_memory}
use Rattle.file_check.proofs.roots.judge_roots.Goals as goal

pub returns-in_err-roots-clause-runs : goal.returns-in_err-roots-clause-runs
returns-in_err-roots-clause-runs g c = runs_exit c.from_residual.result c.from_residual.ensures.1 (runs_to_memory c.in_err-roots.field-0.0 c.in_err-roots.ensures.memory runs_none)

pub returns-clause-judged : goal.returns-clause-judged
returns-clause-judged g c =
    subst (λ (roots : List ℕ). IfOk c.are_root_pages.result (λ good. IsTrue (g.P.Pages.state c.args.pages.now).is_told → (owners : List Kind)
    → IsMapSound c.args.shape (g.P.Pages.state c.args.pages.now).work owners → JudgesRoots c.args.shape (g.P.Pages.state c.args.pages.now).work owners roots good))
    (c.deref.ensures.value ∙ c.in_ok-roots.ensures.roots) c.are_root_pages.ensures.judged
