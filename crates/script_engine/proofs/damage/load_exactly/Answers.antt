use Rattle.std.proofs.Common.{Some, ap}
use Rattle.script_engine.proofs.BreakingLemmas.{load_judged}
use Rattle.script_engine.proofs.ReloadingLemmas.{no_damage}
use Rattle.script_engine.proofs.damage.load_exactly.Goals as goal

pub returns-in-Err-Damaged : goal.returns-in-Err-Damaged
returns-in-Err-Damaged g c = record {
  loads = load_judged g.P.Pages c.args.shape c.args.pages.now c.load_catalog.new.pages c.stop_at.new.pages c.in-Err-Damaged.met c.in-Err-Damaged.field-0 c.stop_at.result c.in-Err-Damaged.field-0-is c.in-Err-Damaged.ensures.runs
      c.in-Err-Damaged.ensures.same c.stop_at.ensures.judges;
  brings = tt;
  tables = λ told shape sound. absurd (no_damage g.P.Pages c.args.pages.now shape c.in-Err-Damaged.met told sound (c.in-Err-Damaged.ensures.runs.cause.damaged c.in-Err-Damaged.met (ap Some c.in-Err-Damaged.field-0-is)));
}
