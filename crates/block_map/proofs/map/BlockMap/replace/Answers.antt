use Rattle.store_api.proofs.RunsOverPagesLemmas.{runs_exit}
use Rattle.block_map.specs.BlockMaps.{HasRow}
use Rattle.block_map.proofs.MapChangesLemmas.{amended_absent, amended_changes, amended_there, same_front}
use Rattle.block_map.proofs.MapRunsLemmas.{runs_in_tree, runs_map_broken}
use Rattle.block_map.proofs.map.BlockMap.replace.Goals as goal

pub amend-requires-clause-alike : goal.amend-requires-clause-alike
amend-requires-clause-alike g c = same_front c.args.was c.args.is _ _ c.entry.ensures.entry c.entry-2.ensures.entry c.requires.alike

pub returns-in_err-amend-clause-runs : goal.returns-in_err-amend-clause-runs
returns-in_err-amend-clause-runs g c =
    runs_exit c.from_residual.result c.from_residual.ensures.1 (runs_in_tree c.args.self.now.tree (HasRow c.args.was) c.in_err-amend.ensures.runs)

pub returns-then-branch-clause-there : goal.returns-then-branch-clause-there
returns-then-branch-clause-there g c t h =
    amended_there g.P.Pages c.args.pages.now c.amend.new.pages c.args.self.now.tree _ c.entry-2.result t c.args.was c.in_ok-amend.field-0 c.entry.ensures.entry c.if-branch.true (c.in_ok-amend.ensures.amended t h)

pub returns-then-branch-clause-changes : goal.returns-then-branch-clause-changes
returns-then-branch-clause-changes g c t h form =
    amended_changes g.P.Pages c.args.pages.now c.amend.new.pages c.args.self.now.tree _ _ t c.args.was c.args.is c.in_ok-amend.field-0 c.entry.ensures.entry c.entry-2.ensures.entry c.if-branch.true (c.in_ok-amend.ensures.amended t h) form

pub returns-then-branch-clause-runs : goal.returns-then-branch-clause-runs
returns-then-branch-clause-runs g c = runs_in_tree c.args.self.now.tree (HasRow c.args.was) c.in_ok-amend.ensures.runs

pub returns-else-branch-clause-runs : goal.returns-else-branch-clause-runs
returns-else-branch-clause-runs g c =
    runs_map_broken c.args.self.now.tree (HasRow c.args.was) c.damaged.result c.damaged.ensures (runs_in_tree c.args.self.now.tree (HasRow c.args.was) c.in_ok-amend.ensures.runs)
    (λ t h form has. amended_absent g.P.Pages c.args.pages.now c.amend.new.pages c.args.self.now.tree _ c.entry-2.result t c.args.was c.in_ok-amend.field-0 c.entry.ensures.entry c.if-branch.false (c.in_ok-amend.ensures.amended t h) has)
