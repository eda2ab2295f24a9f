use Rattle.std.proofs.Common.{refl, subst, inr, Option}
use Rattle.store_api.proofs.RunsOverPagesLemmas.{runs_exit}
use Rattle.block_map.specs.BlockMaps.{FindsBlock}
use Rattle.block_map.specs.declared.row.BlockRow.{BlockRow}
use Rattle.block_map.proofs.MapChangesLemmas.{leaves_map, leaves_none, runs_leave}
use Rattle.block_map.proofs.MapRunsLemmas.{runs_named}
use Rattle.block_map.proofs.map.BlockMap.leave.Goals as goal

pub returns-in_err-remove-clause-runs : goal.returns-in_err-remove-clause-runs
returns-in_err-remove-clause-runs g c =
    runs_exit c.from_residual-in_err-remove.result c.from_residual-in_err-remove.ensures.1
    (runs_leave c.args.shape c.args.self.now.tree c.args.block c.in_ok-row.ensures.runs c.get.ensures.same c.in_err-remove.ensures.runs)

pub returns-then-branch-clause-leaves : goal.returns-then-branch-clause-leaves
returns-then-branch-clause-leaves g c owners t s =
    leaves_map c.args.pages.now c.get.new.pages c.remove.new.pages c.args.shape c.args.notes.now c.remove.new.notes c.args.self.now.tree owners t c.args.block c.in-Some.row c.entry.result c.in_ok-remove.field-0 c.entry.ensures.entry c.if-branch.true
    c.in_ok-row.ensures.runs.works.steady.is_told c.get.ensures.same s (subst (λ (o : Option BlockRow). FindsBlock t c.args.block o) c.in-Some.is (c.in_ok-row.ensures.found t s.held)) c.in_ok-remove.ensures.removes

pub returns-then-branch-clause-runs : goal.returns-then-branch-clause-runs
returns-then-branch-clause-runs g c =
    runs_leave c.args.shape c.args.self.now.tree c.args.block c.in_ok-row.ensures.runs c.get.ensures.same c.in_ok-remove.ensures.runs

pub returns-else-branch-clause-runs : goal.returns-else-branch-clause-runs
returns-else-branch-clause-runs g c =
    runs_named c.args.self.now.tree c.damaged-else-branch.result c.damaged-else-branch.ensures
    (runs_leave c.args.shape c.args.self.now.tree c.args.block c.in_ok-row.ensures.runs c.get.ensures.same c.in_ok-remove.ensures.runs)
    (inr (record {
      page = refl;
      rule = refl;
      broken = λ owners t s form named.
          leaves_none c.args.pages.now c.get.new.pages c.remove.new.pages c.args.shape c.args.notes.now c.remove.new.notes c.args.self.now.tree owners t c.args.block c.in-Some.row c.entry.result c.in_ok-remove.field-0 c.entry.ensures.entry c.if-branch.false
          c.in_ok-row.ensures.runs.works.steady.is_told c.get.ensures.same s (subst (λ (o : Option BlockRow). FindsBlock t c.args.block o) c.in-Some.is (c.in_ok-row.ensures.found t s.held)) c.in_ok-remove.ensures.removes;
    }))
