use Rattle.std.specs.Prelude.{IsTrue}
use Rattle.file_check.specs.Kept.{KeepsBlockMaps}
use Rattle.file_check.proofs.RulesInOrderLemmas.{KeepsFirst}
use Rattle.file_check.proofs.checking.judge_contents.Given as goal

-- the rules so far are kept
abbrev pub invariant-loop-rule : goal.invariant-loop-rule
invariant-loop-rule g l =
    IsTrue (g.P.Pages.state l.fn.pages).is_told → KeepsBlockMaps l.fn.shape l.defs (g.P.Pages.state l.fn.pages).work → KeepsFirst l.fn.shape l.defs l.rule-index (g.P.Pages.state l.fn.pages).work
