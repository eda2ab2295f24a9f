use Rattle.std.proofs.Common.{◌∷◌, [], None, Some, ap, arith, length, refl, ◌∙◌, length-append}
use Rattle.store_api.proofs.RunsOverPagesLemmas.{runs_exit, runs_memory, runs_none}
use Rattle.extent_map.proofs.HoldsMapLemmas.{holds_map_same}
use Rattle.file_check.proofs.KindsLemmas.{kinds_next, reads_kind}
use Rattle.file_check.proofs.kinds.kinds_of.Goals as goal

pub loop-e-init : goal.loop-e-init
loop-e-init g c = record { same = refl; going = c.requires.going; runs = runs_none; count = ap length c.new-kinds.ensures.items; kinds = λ owners is. c.new-kinds.ensures.items }

pub returns-in_err-kind_of-clause-runs : goal.returns-in_err-kind_of-clause-runs
returns-in_err-kind_of-clause-runs g c =
    let inv = c.loop-e.invariant in
    runs_exit c.from_residual.result c.from_residual.ensures.1 (reads_kind g.P.Pages c.args.shape c.args.pages.now c.loop-e.pages c.kind_of.new.pages _ (Some c.in_err-kind_of.field-0.0) inv.runs inv.same c.in_err-kind_of.ensures.runs)

pub returns-in_err-push-clause-runs : goal.returns-in_err-push-clause-runs
returns-in_err-push-clause-runs g c =
    let inv = c.loop-e.invariant in
    runs_exit c.from_residual-in_err-push.result c.from_residual-in_err-push.ensures.1 (runs_memory (reads_kind g.P.Pages c.args.shape c.args.pages.now c.loop-e.pages c.kind_of.new.pages _ None inv.runs inv.same c.in_ok-kind_of.ensures.runs))

pub loop-e-preserved : goal.loop-e-preserved
loop-e-preserved g c =
    let inv = c.loop-e.invariant in
    record {
      same = c.in_ok-kind_of.ensures.same ∙ inv.same;
      going = c.in_ok-kind_of.ensures.runs.works.steady.ended ∙ inv.going;
      runs = reads_kind g.P.Pages c.args.shape c.args.pages.now c.loop-e.pages c.kind_of.new.pages _ None inv.runs inv.same c.in_ok-kind_of.ensures.runs;
      count = omega (arith, ap length c.in_ok-push.ensures.items, length-append c.loop-e.kinds.items (c.in_ok-kind_of.field-0 ∷ []), inv.count);
      kinds = λ owners is. kinds_next owners c.loop-e.kinds.items c.push.new.self.items c.in_ok-kind_of.field-0 c.loop-e.e (omega (arith, c.loop-e-test.true, is.count)) (inv.kinds owners is) (c.in_ok-kind_of.ensures.value owners (holds_map_same inv.runs.works.steady.is_told inv.same is)) c.in_ok-push.ensures.items;
    }
