use Rattle.std.proofs.Common.{Bool, Err, Ok, ap, refl, subst, sym, ◌∙◌}
use Rattle.mdc_words.proofs.FaultsLemmas.{counts_fault_none}
use Rattle.mdc_ast.specs.declared.reply.Outcome.TheVariants.{Refused}
use Rattle.statement_meaning.specs.Built.{are_built}
use Rattle.store_api.specs.Works.{Rests}
use Rattle.store_api.proofs.FetchingLemmas.{only_none}
use Rattle.store_api.proofs.WorksLemmas.{rests_steady, steady_none}
use Rattle.script_engine.specs.Committing.{CountsPages}
use Rattle.script_engine.proofs.CatalogLemmas.{served_of}
use Rattle.script_engine.proofs.ChangingAnewLemmas.{anew_done, anew_done_any, anew_miscounted, anew_miscounted_any, anew_refused, anew_refused_any, anew_stops, anew_stops_any, anew_uncommitted, anew_uncommitted_any, anew_unread, anew_unread_any, anew_untried, anew_untried_any, refusal_in}
use Rattle.script_engine.proofs.CommittingLemmas.{commits_behind}
use Rattle.script_engine.proofs.engine.Engine.change_anew.Goals as goal

pub try_again-requires-clause-served : goal.try_again-requires-clause-served
try_again-requires-clause-served g c =
    let reloads = c.in_ok-served.ensures.reloads in
    served_of c.go_back.new.tables.catalog reloads.limits reloads.names (sym reloads.built ∙ c.if-not-served.false)

pub returns-in_err-served : goal.returns-in_err-served
returns-in_err-served g c =
    let call = c.in_err-served.ensures in
    let stop = c.in_err-served.field-0.0 in
    let new = record c.args.self.now { store = c.go_back.new.store; tables = c.go_back.new.tables } in
    record {
      executes = λ first comes. anew_stops g.S.Pages c.args.stmt.now first c.args.self.now comes c.requires.other c.requires.changing stop new call.reloads.steady call.reloads.brings refl {X = Bool} c.from_residual.result c.from_residual.ensures.1 call.reloads.shape call.reloads.settings
          call.reloads.device call.exact (λ damage e. call.reloads.unmarked) c.requires.going;
      any = λ first comes going. anew_stops_any g.S.Pages c.args.stmt.now first c.args.self.now comes c.requires.other c.requires.changing stop new call.reloads.steady call.reloads.brings refl {X = Bool} c.from_residual.result c.from_residual.ensures.1
          (λ damage e. (call.reloads.work, call.reloads.unmarked)) call.exact going;
    }

pub returns-then-not-served : goal.returns-then-not-served
returns-then-not-served g c =
    let call = c.in_ok-served.ensures in
    let back = c.go_back.new.store in
    let tables = c.go_back.new.tables in
    record {
      executes = λ first comes. anew_refused g.S.Pages c.args.stmt.now first c.args.self.now comes c.requires.other c.requires.changing c.go_back.new.store c.go_back.new.tables c.in_ok-served.served call.reloads (Refused c.not_built.result) c.not_built.result refl back tables
          c.in_ok-served.served (steady_none {g = g.S.Pages}) (counts_fault_none (λ e. absurd (cc))) only_none refl call.reloads.unmarked refl refl refl call.reloads.built c.requires.going;
      any = λ first comes going. anew_refused_any g.S.Pages c.args.stmt.now first c.args.self.now comes c.requires.other c.requires.changing c.go_back.new.store c.go_back.new.tables c.in_ok-served.served call.reloads (Refused c.not_built.result) c.not_built.result refl back
          tables c.in_ok-served.served (steady_none {g = g.S.Pages}) (counts_fault_none (λ e. absurd (cc))) only_none refl call.reloads.unmarked refl refl refl call.reloads.built going (λ form. ap Refused c.not_built.ensures);
    }

pub returns-in_err-outcome : goal.returns-in_err-outcome
returns-in_err-outcome g c =
    let call = c.in_ok-served.ensures in
    let again = c.in_err-outcome.ensures in
    let stop = c.in_err-outcome.field-0.0 in
    record {
      executes = λ first comes. anew_untried g.S.Pages c.args.stmt.now first c.args.self.now comes c.requires.other c.requires.changing c.go_back.new.store c.go_back.new.tables c.in_ok-served.served call.reloads
          c.try_again.new.pages c.try_again.new.tables c.in_ok-served.served c.from_residual-in_err-outcome.result stop c.from_residual-in_err-outcome.ensures.1 again.tries again.exact c.requires.going;
      any = λ first comes. anew_untried_any g.S.Pages c.args.stmt.now first c.args.self.now comes c.requires.other c.requires.changing c.go_back.new.store c.go_back.new.tables c.in_ok-served.served call.reloads
          c.try_again.new.pages c.try_again.new.tables c.in_ok-served.served c.from_residual-in_err-outcome.result stop c.from_residual-in_err-outcome.ensures.1 again.tries again.exact;
    }

pub returns-then-is_refused : goal.returns-then-is_refused
returns-then-is_refused g c =
    let call = c.in_ok-served.ensures in
    let tries = c.in_ok-outcome.ensures.tries in
    let refusal = refusal_in c.in_ok-outcome.outcome (sym c.is_refused.ensures ∙ c.if-is_refused.true) in
    let left = tries.refused refusal.0 (ap Ok refusal.1) in
    record {
      executes = λ first comes. anew_refused g.S.Pages c.args.stmt.now first c.args.self.now comes c.requires.other c.requires.changing c.go_back.new.store c.go_back.new.tables c.in_ok-served.served call.reloads
          c.in_ok-outcome.outcome refusal.0 refusal.1 c.try_again.new.pages c.try_again.new.tables c.in_ok-served.served tries.steady tries.device tries.brings left.pages tries.unmarked tries.shape tries.settings left.catalog
          (call.reloads.built ∙ sym (ap are_built left.catalog)) c.requires.going;
      any = λ first comes going. anew_refused_any g.S.Pages c.args.stmt.now first c.args.self.now comes c.requires.other c.requires.changing c.go_back.new.store c.go_back.new.tables c.in_ok-served.served call.reloads
          c.in_ok-outcome.outcome refusal.0 refusal.1 c.try_again.new.pages c.try_again.new.tables c.in_ok-served.served tries.steady tries.device tries.brings left.pages tries.unmarked tries.shape tries.settings left.catalog
          (call.reloads.built ∙ sym (ap are_built left.catalog)) going tries.unbuilt;
    }

pub returns-in_err-is_counted : goal.returns-in_err-is_counted
returns-in_err-is_counted g c =
    let call = c.in_ok-served.ensures in
    let done = sym c.is_refused.ensures ∙ c.if-is_refused.false in
    let stop = c.in_err-is_counted.field-0.0 in
    record {
      executes = λ first comes. anew_unread g.S.Pages c.args.stmt.now first c.args.self.now comes c.requires.other c.requires.changing c.go_back.new.store c.go_back.new.tables c.in_ok-served.served call.reloads
          c.try_again.new.pages c.try_again.new.tables c.in_ok-served.served c.in_ok-outcome.outcome done c.in_ok-outcome.ensures.tries c.from_residual-in_err-is_counted.result stop c.from_residual-in_err-is_counted.ensures.1
          c.is_counted.new.store c.in_err-is_counted.ensures.counts c.requires.going;
      any = λ first comes. anew_unread_any g.S.Pages c.args.stmt.now first c.args.self.now comes c.requires.other c.requires.changing c.go_back.new.store c.go_back.new.tables c.in_ok-served.served call.reloads
          c.try_again.new.pages c.try_again.new.tables c.in_ok-served.served c.in_ok-outcome.outcome done c.in_ok-outcome.ensures.tries c.from_residual-in_err-is_counted.result stop c.from_residual-in_err-is_counted.ensures.1
          c.is_counted.new.store c.in_err-is_counted.ensures.counts;
    }

pub returns-then-not-branch : goal.returns-then-not-branch
returns-then-not-branch g c =
    let call = c.in_ok-served.ensures in
    let again = c.in_ok-outcome.ensures in
    let done = sym c.is_refused.ensures ∙ c.if-is_refused.false in
    let counts = subst (λ (b : Bool). CountsPages g.S.Pages (Ok b) c.try_again.new.pages c.is_counted.new.store) c.if-not-branch.true c.in_ok-is_counted.ensures.counts in
    record {
      executes = λ first comes. anew_miscounted g.S.Pages c.args.stmt.now first c.args.self.now comes c.requires.other c.requires.changing c.go_back.new.store c.go_back.new.tables c.in_ok-served.served call.reloads
          c.try_again.new.pages c.try_again.new.tables c.in_ok-served.served c.in_ok-outcome.outcome done again.tries (record { page = 0; rule = 1 }) again.sound again.answers c.is_counted.new.store c.rollback.new.self counts
          c.rollback.ensures.rolled_back c.rollback.ensures.disk_faults c.rollback.ensures.say_faults c.rollback.ensures.time c.requires.going;
      any = λ first comes. anew_miscounted_any g.S.Pages c.args.stmt.now first c.args.self.now comes c.requires.other c.requires.changing c.go_back.new.store c.go_back.new.tables c.in_ok-served.served call.reloads
          c.try_again.new.pages c.try_again.new.tables c.in_ok-served.served c.in_ok-outcome.outcome done again.tries (record { page = 0; rule = 1 }) again.sound again.answers c.is_counted.new.store c.rollback.new.self counts
          c.rollback.ensures.rolled_back c.rollback.ensures.disk_faults c.rollback.ensures.say_faults c.rollback.ensures.time;
    }

pub returns-in_err-commit_counted : goal.returns-in_err-commit_counted
returns-in_err-commit_counted g c =
    let call = c.in_ok-served.ensures in
    let done = sym c.is_refused.ensures ∙ c.if-is_refused.false in
    let tries = c.in_ok-outcome.ensures.tries in
    let counts = subst (λ (b : Bool). CountsPages g.S.Pages (Ok b) c.try_again.new.pages c.is_counted.new.store) c.if-not-branch.false c.in_ok-is_counted.ensures.counts in
    let stop = c.in_err-commit_counted.field-0.0 in
    let commits = commits_behind g.S.Pages (Err stop) c.try_again.new.pages c.is_counted.new.store c.commit_counted.new.store counts c.in_err-commit_counted.ensures.commits in
    record {
      executes = λ first comes. anew_uncommitted g.S.Pages c.args.stmt.now first c.args.self.now comes c.requires.other c.requires.changing c.go_back.new.store c.go_back.new.tables c.in_ok-served.served call.reloads
          c.try_again.new.pages c.try_again.new.tables c.in_ok-served.served c.in_ok-outcome.outcome done tries c.commit_counted.new.store c.from_residual-in_err-commit_counted.result stop
          c.from_residual-in_err-commit_counted.ensures.1 commits
          (λ was. c.commit_counted.ensures.rests (rests_steady {g = g.S.Pages} (g.met.S.Pages.earlier c.is_counted.new.store) (tries.steady.ended ∙ (call.reloads.steady.ended ∙ c.requires.going)) counts.reads.steady was))
          (λ damage e. c.in_err-commit_counted.ensures.whole damage (ap Err e));
      any = λ first comes. anew_uncommitted_any g.S.Pages c.args.stmt.now first c.args.self.now comes c.requires.other c.requires.changing c.go_back.new.store c.go_back.new.tables c.in_ok-served.served call.reloads
          c.try_again.new.pages c.try_again.new.tables c.in_ok-served.served c.in_ok-outcome.outcome done tries c.commit_counted.new.store c.from_residual-in_err-commit_counted.result stop
          c.from_residual-in_err-commit_counted.ensures.1 commits (λ damage e. c.in_err-commit_counted.ensures.whole damage (ap Err e));
    }

pub returns : goal.returns
returns g c =
    let call = c.in_ok-served.ensures in
    let done = sym c.is_refused.ensures ∙ c.if-is_refused.false in
    let tries = c.in_ok-outcome.ensures.tries in
    let counts = subst (λ (b : Bool). CountsPages g.S.Pages (Ok b) c.try_again.new.pages c.is_counted.new.store) c.if-not-branch.false c.in_ok-is_counted.ensures.counts in
    let commits = commits_behind g.S.Pages (Ok tt) c.try_again.new.pages c.is_counted.new.store c.commit_counted.new.store counts c.in_ok-commit_counted.ensures.commits in
    let rests : Rests g.S.Pages c.try_again.new.pages → Rests g.S.Pages c.commit_counted.new.store = λ was. c.commit_counted.ensures.rests (rests_steady {g = g.S.Pages} (g.met.S.Pages.earlier c.is_counted.new.store) (tries.steady.ended ∙ (call.reloads.steady.ended ∙ c.requires.going)) counts.reads.steady was) in
    record {
      executes = λ first comes. anew_done g.S.Pages c.args.stmt.now first c.args.self.now comes c.requires.other c.requires.changing c.go_back.new.store c.go_back.new.tables c.in_ok-served.served call.reloads
          c.try_again.new.pages c.try_again.new.tables c.in_ok-served.served c.in_ok-outcome.outcome done tries c.commit_counted.new.store commits rests c.if-not-served.false c.requires.going;
      any = λ first comes going. anew_done_any g.S.Pages c.args.stmt.now first c.args.self.now comes c.requires.other c.requires.changing c.go_back.new.store c.go_back.new.tables c.in_ok-served.served call.reloads
          c.try_again.new.pages c.try_again.new.tables c.in_ok-served.served c.in_ok-outcome.outcome done tries c.commit_counted.new.store commits
          (anew_done g.S.Pages c.args.stmt.now first c.args.self.now comes c.requires.other c.requires.changing c.go_back.new.store c.go_back.new.tables c.in_ok-served.served call.reloads
          c.try_again.new.pages c.try_again.new.tables c.in_ok-served.served c.in_ok-outcome.outcome done tries c.commit_counted.new.store commits rests c.if-not-served.false c.requires.going) going;
    }
