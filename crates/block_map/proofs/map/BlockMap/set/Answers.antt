use Rattle.std.proofs.Common.{subst, Option}
use Rattle.std.proofs.lemmas.Result.{on_ok_weaker}
use Rattle.block_map.specs.BlockMaps.{FindsBlock, HasRow}
use Rattle.block_map.specs.FoundRows.{found_row}
use Rattle.block_map.specs.declared.looking.FoundRow.{FoundRow}
use Rattle.block_map.proofs.MapChangesLemmas.{runs_set, sets_row}
use Rattle.block_map.proofs.MapRunsLemmas.{runs_in_tree}
use Rattle.block_map.proofs.map.BlockMap.set.Goals as goal

pub returns-clause-sets : goal.returns-clause-sets
returns-clause-sets g c =
    on_ok_weaker c.replace_found.result (λ changes t h form.
    sets_row c.args.pages.now c.find_row.new.pages c.replace_found.new.pages c.args.self.now.tree t c.in-Some.was.row c.args.row c.in_ok-was.ensures.runs.works.steady c.find_row.ensures.same h form
    (subst (λ (o : Option FoundRow). FindsBlock t c.args.row.block (found_row o)) c.in-Some.is (c.in_ok-was.ensures.found t h)) changes) c.replace_found.ensures.changes

pub returns-clause-runs : goal.returns-clause-runs
returns-clause-runs g c =
    runs_set c.args.self.now.tree c.args.row.block c.in-Some.was.row c.in_ok-was.ensures.runs c.find_row.ensures.same
    (λ t h. subst (λ (o : Option FoundRow). FindsBlock t c.args.row.block (found_row o)) c.in-Some.is (c.in_ok-was.ensures.found t h))
    (runs_in_tree c.args.self.now.tree (HasRow c.in-Some.was.row) c.replace_found.ensures.runs)
