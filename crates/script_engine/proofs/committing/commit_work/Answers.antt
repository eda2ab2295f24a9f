use Rattle.std.proofs.Common.{Bool, Ok, subst}
use Rattle.store_api.proofs.WorksLemmas.{rests_steady, steady_then}
use Rattle.script_engine.specs.Committing.{CountsPages}
use Rattle.script_engine.proofs.CommittingLemmas.{commits_behind, commits_judged, exact_judged}
use Rattle.script_engine.proofs.committing.commit_work.Goals as goal

pub returns-in_err-is_counted-clause-rests : goal.returns-in_err-is_counted-clause-rests
returns-in_err-is_counted-clause-rests g c = rests_steady {g = g.S.Pages} (g.met.S.Pages.earlier c.is_counted.new.store) c.requires.going c.in_err-is_counted.ensures.counts.reads.steady

pub returns-then-not-branch : goal.returns-then-not-branch
returns-then-not-branch g c =
    let counts = subst (λ (b : Bool). CountsPages g.S.Pages (Ok b) c.args.store.now c.is_counted.new.store) c.if-not-branch.true c.in_ok-is_counted.ensures.counts in
    record {
      commits = commits_judged g.S.Pages c.args.tables.now.shape c.stop_at.result c.args.store.now c.is_counted.new.store c.stop_at.new.pages counts c.stop_at.ensures.judges;
      rests = rests_steady {g = g.S.Pages} (g.met.S.Pages.earlier c.stop_at.new.pages) c.requires.going (steady_then {g = g.S.Pages} counts.reads.steady c.stop_at.ensures.judges.reads.steady);
      exact = exact_judged g.S.Pages c.args.tables.now.shape c.stop_at.result c.args.store.now c.is_counted.new.store c.stop_at.new.pages counts c.stop_at.ensures.judges;
    }

pub returns : goal.returns
returns g c =
    let counts = subst (λ (b : Bool). CountsPages g.S.Pages (Ok b) c.args.store.now c.is_counted.new.store) c.if-not-branch.false c.in_ok-is_counted.ensures.counts in
    record {
      commits = commits_behind g.S.Pages c.commit_counted.result c.args.store.now c.is_counted.new.store c.commit_counted.new.store counts c.commit_counted.ensures.commits;
      rests = λ was. c.commit_counted.ensures.rests (rests_steady {g = g.S.Pages} (g.met.S.Pages.earlier c.is_counted.new.store) c.requires.going counts.reads.steady was);
      exact = λ damage is. absurd (c.commit_counted.ensures.whole damage is);
    }
