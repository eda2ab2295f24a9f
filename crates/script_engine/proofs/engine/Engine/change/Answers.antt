use Rattle.std.proofs.Common.{Bool, Err, ap, inl, inr, refl, subst, sym, ◌∙◌}
use Rattle.std.specs.Prelude.{Ok}
use Rattle.mdc_ast.specs.declared.reply.Outcome.TheVariants as said
use Rattle.store_api.proofs.WorksLemmas.{rests_steady}
use Rattle.script_engine.specs.Committing.{CountsPages}
use Rattle.statement_meaning.specs.Built.{are_built}
use Rattle.script_engine.specs.Roles.{role_of}
use Rattle.script_engine.proofs.ChangingAnewLemmas.{comes_unready, refusal_in}
use Rattle.script_engine.proofs.CommittingLemmas.{commits_behind, commits_unread}
use Rattle.script_engine.proofs.OnAnyLemmas.{any_refused, change_stops_any, changed_any, kept_any, untried_any}
use Rattle.script_engine.proofs.TurnsLemmas.{answers_other, change_committed, change_kept, change_stops, change_untried, sets_other}
use Rattle.script_engine.proofs.engine.Engine.change.Goals as goal

pub returns-then-not-self-clause-any : goal.returns-then-not-self-clause-any
returns-then-not-self-clause-any g c going =
    any_refused g.S.Pages c.args.stmt.now c.args.self.now c.not_built.result going (answers_other c.args.self.now.is_open (role_of c.args.stmt.now) (said.Refused c.not_built.result) c.requires.other)
    (λ form. ap said.Refused c.not_built.ensures) (λ other form. ap said.Refused c.not_built.ensures)
    (sets_other (role_of c.args.stmt.now) (are_built c.args.self.now.tables.catalog) c.args.self.now.tables.settings (said.Refused c.not_built.result) c.args.self.now.tables.settings c.requires.other refl)

pub returns-then-self : goal.returns-then-self
returns-then-self g c =
    let tried = c.in_ok-outcome.ensures.tries in
    let does = change_kept g.S.Pages c.args.self.now c.try_exactly.new.pages c.try_exactly.new.tables c.args.stmt.now c.in_ok-outcome.outcome c.requires.other tried (inl c.if-self.true) c.requires.may c.if-not-self.false in
    record {
      executes = does;
      any = λ going. kept_any g.S.Pages c.args.self.now c.args.stmt.now going c.if-not-self.false c.requires.other c.try_exactly.new.pages c.try_exactly.new.tables c.in_ok-outcome.outcome tried.tries does;
    }

pub returns-then-is_refused : goal.returns-then-is_refused
returns-then-is_refused g c =
    let tried = c.in_ok-outcome.ensures.tries in
    let refusal = refusal_in c.in_ok-outcome.outcome (sym c.is_refused.ensures ∙ c.if-is_refused.true) in
    let does = change_kept g.S.Pages c.args.self.now c.try_exactly.new.pages c.try_exactly.new.tables c.args.stmt.now c.in_ok-outcome.outcome c.requires.other tried
    (inr (tried.tries.refused refusal.0 (ap Ok refusal.1))) c.requires.may c.if-not-self.false in
    record {
      executes = does;
      any = λ going. kept_any g.S.Pages c.args.self.now c.args.stmt.now going c.if-not-self.false c.requires.other c.try_exactly.new.pages c.try_exactly.new.tables c.in_ok-outcome.outcome tried.tries does;
    }

pub returns-in_err-outcome : goal.returns-in_err-outcome
returns-in_err-outcome g c = record {
  executes = change_untried g.S.Pages c.from_residual.result c.in_err-outcome.field-0.0 c.args.self.now c.try_exactly.new.pages c.try_exactly.new.tables c.args.stmt.now c.requires.may c.from_residual.ensures.1 c.in_err-outcome.ensures.tries
      c.in_err-outcome.ensures.exact;
  any = λ going. untried_any g.S.Pages c.args.self.now c.args.stmt.now going c.if-not-self.false c.requires.other c.from_residual.result c.in_err-outcome.field-0.0 c.try_exactly.new.pages c.try_exactly.new.tables c.from_residual.ensures.1
      c.in_err-outcome.ensures.tries.tries c.in_err-outcome.ensures.exact;
}

pub returns-in_err-is_counted : goal.returns-in_err-is_counted
returns-in_err-is_counted g c =
    let done = sym c.is_refused.ensures ∙ c.if-is_refused.false in
    let counts = c.in_err-is_counted.ensures.counts in
    let stop = c.in_err-is_counted.field-0.0 in
    let commits = commits_unread g.S.Pages (Err stop) stop c.try_exactly.new.pages c.is_counted.new.store refl counts in
    let tried = c.in_ok-outcome.ensures.tries in
    record {
      executes = change_stops g.S.Pages c.args.self.now c.try_exactly.new.pages c.try_exactly.new.tables c.args.stmt.now c.in_ok-outcome.outcome c.requires.other c.requires.changing tried c.if-self.false done c.is_counted.new.store
          c.from_residual-in_err-is_counted.result stop c.requires.may c.from_residual-in_err-is_counted.ensures.1 commits
          (rests_steady {g = g.S.Pages} (g.met.S.Pages.earlier c.is_counted.new.store) (tried.tries.steady.ended ∙ c.requires.may.going) counts.reads.steady) (λ damage e. absurd (counts.whole damage (cc)));
      any = λ going. change_stops_any g.S.Pages c.args.self.now c.args.stmt.now going c.if-not-self.false c.requires.other c.try_exactly.new.pages c.try_exactly.new.tables c.in_ok-outcome.outcome tried.tries c.requires.changing
          c.if-self.false done c.is_counted.new.store c.from_residual-in_err-is_counted.result stop c.from_residual-in_err-is_counted.ensures.1 commits
          (λ damage e. counts.whole damage (ap Err e));
    }

pub returns-then-not-branch : goal.returns-then-not-branch
returns-then-not-branch g c =
    let counts = subst (λ (b : Bool). CountsPages g.S.Pages (Ok b) c.try_exactly.new.pages c.is_counted.new.store) c.if-not-branch.true c.in_ok-is_counted.ensures.counts in
    let comes = comes_unready g.S.Pages c.args.self.now c.try_exactly.new.pages c.is_counted.new.store c.try_exactly.new.tables c.args.stmt.now c.in_ok-outcome.outcome c.if-not-self.false c.if-self.false
    c.in_ok-outcome.ensures.tries counts in
    record { executes = c.change_anew.ensures.executes c.args.self.now comes; any = c.change_anew.ensures.any c.args.self.now comes }

pub returns-in_err-commit_counted : goal.returns-in_err-commit_counted
returns-in_err-commit_counted g c =
    let done = sym c.is_refused.ensures ∙ c.if-is_refused.false in
    let counts = subst (λ (b : Bool). CountsPages g.S.Pages (Ok b) c.try_exactly.new.pages c.is_counted.new.store) c.if-not-branch.false c.in_ok-is_counted.ensures.counts in
    let call = c.in_err-commit_counted.ensures in
    let stop = c.in_err-commit_counted.field-0.0 in
    let commits = commits_behind g.S.Pages (Err stop) c.try_exactly.new.pages c.is_counted.new.store c.commit_counted.new.store counts call.commits in
    let tried = c.in_ok-outcome.ensures.tries in
    record {
      executes = change_stops g.S.Pages c.args.self.now c.try_exactly.new.pages c.try_exactly.new.tables c.args.stmt.now c.in_ok-outcome.outcome c.requires.other c.requires.changing tried c.if-self.false done c.commit_counted.new.store
          c.from_residual-in_err-commit_counted.result stop c.requires.may c.from_residual-in_err-commit_counted.ensures.1 commits
          (λ was. c.commit_counted.ensures.rests (rests_steady {g = g.S.Pages} (g.met.S.Pages.earlier c.is_counted.new.store) (tried.tries.steady.ended ∙ c.requires.may.going) counts.reads.steady was))
          (λ damage e. absurd (call.whole damage (cc)));
      any = λ going. change_stops_any g.S.Pages c.args.self.now c.args.stmt.now going c.if-not-self.false c.requires.other c.try_exactly.new.pages c.try_exactly.new.tables c.in_ok-outcome.outcome tried.tries c.requires.changing
          c.if-self.false done c.commit_counted.new.store c.from_residual-in_err-commit_counted.result stop c.from_residual-in_err-commit_counted.ensures.1 commits
          (λ damage e. call.whole damage (ap Err e));
    }

pub returns : goal.returns
returns g c =
    let done = sym c.is_refused.ensures ∙ c.if-is_refused.false in
    let counts = subst (λ (b : Bool). CountsPages g.S.Pages (Ok b) c.try_exactly.new.pages c.is_counted.new.store) c.if-not-branch.false c.in_ok-is_counted.ensures.counts in
    let commits = commits_behind g.S.Pages (Ok tt) c.try_exactly.new.pages c.is_counted.new.store c.commit_counted.new.store counts c.in_ok-commit_counted.ensures.commits in
    let tried = c.in_ok-outcome.ensures.tries in
    let does = change_committed g.S.Pages c.args.self.now c.try_exactly.new.pages c.try_exactly.new.tables c.args.stmt.now c.in_ok-outcome.outcome c.requires.other c.requires.changing tried c.if-self.false done c.commit_counted.new.store
    c.requires.may c.if-not-self.false commits
    (λ was. c.commit_counted.ensures.rests (rests_steady {g = g.S.Pages} (g.met.S.Pages.earlier c.is_counted.new.store) (tried.tries.steady.ended ∙ c.requires.may.going) counts.reads.steady was)) in
    record {
      executes = does;
      any = λ going. changed_any g.S.Pages c.args.self.now c.args.stmt.now going c.if-not-self.false c.requires.other c.try_exactly.new.pages c.try_exactly.new.tables c.in_ok-outcome.outcome tried.tries c.requires.changing
          c.if-self.false done c.commit_counted.new.store commits does;
    }
