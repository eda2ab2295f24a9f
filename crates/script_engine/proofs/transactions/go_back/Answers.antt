use Rattle.std.proofs.Common.{subst}
use Rattle.store_api.specs.declared.shape.Shape.{Shape}
use Rattle.script_engine.specs.Breaking.{NamesExactly}
use Rattle.script_engine.proofs.BreakingLemmas.{exact_passed}
use Rattle.script_engine.proofs.ReloadingLemmas.{reload_done, reload_stops, reload_unbroken}
use Rattle.script_engine.proofs.transactions.go_back.Goals as goal

pub returns-in_err-catalog : goal.returns-in_err-catalog
returns-in_err-catalog g c = record {
  reloads = reload_stops g.S.Pages c.args.store.now c.rollback.new.self c.load_exactly.new.pages c.args.tables.now c.forget.new.self c.rollback.ensures.rolled_back c.rollback.ensures.disk_faults c.rollback.ensures.say_faults
      c.rollback.ensures.time c.forget.ensures.shape c.forget.ensures.settings c.forget.ensures.notes c.forget.ensures.rooms c.forget.new.self.shape c.from_residual.result c.in_err-catalog.field-0.0 c.from_residual.ensures.1 c.in_err-catalog.ensures.loads;
  damaged = reload_unbroken g.S.Pages c.args.store.now c.rollback.new.self c.load_exactly.new.pages c.args.tables.now c.forget.new.self c.rollback.ensures.rolled_back c.rollback.ensures.disk_faults c.rollback.ensures.say_faults
      c.rollback.ensures.time c.forget.ensures.shape c.forget.ensures.settings c.forget.ensures.notes c.forget.ensures.rooms c.forget.new.self.shape c.from_residual.result c.in_err-catalog.field-0.0 c.from_residual.ensures.1 c.in_err-catalog.ensures.loads;
  exact = subst (λ (shape : Shape). NamesExactly g.S.Pages shape c.from_residual.result c.load_exactly.new.pages) c.forget.ensures.shape
      (exact_passed g.S.Pages c.forget.new.self.shape c.from_residual.result c.in_err-catalog.field-0.0 c.load_exactly.new.pages c.from_residual.ensures.1 c.in_err-catalog.ensures.loads.exact);
}

pub returns : goal.returns
returns g c = record {
  reloads = reload_done g.S.Pages c.args.store.now c.rollback.new.self c.load_exactly.new.pages c.args.tables.now (record c.forget.new.self { catalog = c.in_ok-catalog.catalog }) c.rollback.ensures.rolled_back
      c.rollback.ensures.disk_faults c.rollback.ensures.say_faults c.rollback.ensures.time c.forget.ensures.shape c.forget.ensures.settings c.forget.ensures.notes c.forget.ensures.rooms c.forget.new.self.shape c.are_served-served.result
      c.in_ok-catalog.ensures.loads c.are_served-served.ensures;
  damaged = λ damage is. absurd (cc);
  exact = λ damage is. absurd (cc);
}
