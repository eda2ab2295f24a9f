use Rattle.std.proofs.Common.{◌≡◌, ◌≤◌, ◌∷◌, ◌++◌, [], length, map, false, Ok, Err, refl, sym, ap, ◌∙◌, subst, inl, inr, arith}
use Rattle.std.proofs.lemmas.List.{map-append}
use Rattle.std.proofs.lemmas.Result.{err_from_is_err_and}
use Rattle.sql_reader.specs.Item.{item_of}
use Rattle.sql_reader.specs.Progress.{Given, at_start}
use Rattle.sql_reader.specs.Step.{GoesOn}
use Rattle.sql_reader.specs.declared.statements.ReadStop.TheVariants.{Memory}
use Rattle.sql_reader.proofs.Giving.{took_more, took_none, uncounted}
use Rattle.sql_reader_tests.proofs.Ends.{ends_all, ends_stopped, ends_wanting, none_given, reads_to, still_ended}
use Rattle.sql_reader_tests.proofs.whole.read_into.Goals as goal

pub returns-in_err-statements-clause-runs : goal.returns-in_err-statements-clause-runs
returns-in_err-statements-clause-runs g c =
    let p = err_from_is_err_and c.from_residual.result c.from_residual.ensures.1 in
    rw (p.1, p.2, c.requires) (reads_to _ _ [] [] (Err Memory) (took_none _ []) (λ rest is. ends_wanting false _ [] rest 0 [] [] none_given (λ e. absurd (cc)) is (omega arith)))

pub loop-statements-init : goal.loop-statements-init
loop-statements-init g c = record {
  given = (at_start, c.in_ok-statements.ensures.at, rw c.requires none_given, took_none _ [], λ e. absurd (cc));
  few = omega (arith, ap (λ r. r.count) c.in_ok-statements.ensures.held);
  faults = refl;
}

pub returns-in_err-read-clause-runs : goal.returns-in_err-read-clause-runs
returns-in_err-read-clause-runs g c =
    let left = g.I.Source.left in
    let inv = c.loop-statements.invariant in
    let now = inv.given.0 in
    let went = c.next.ensures.goes now inv.given.1 in
    let goes = subst (GoesOn left c.loop-statements.source c.next.new.source now went.0) c.in_err-read.was went.2 in
    let ended = still_ended left c.loop-statements.source c.next.new.source now went.0 _ goes (λ e. c.next.ensures.finished (inv.given.1.ends ∙ e)) inv.given.4 in
    let p = err_from_is_err_and c.from_residual-in_err-read.result c.from_residual-in_err-read.ensures.1 in
    rw (p.1, p.2) (reads_to _ _ went.0.taken (map item_of c.loop-statements.reads) (Err c.in_err-read.field-0.0) (took_more _ _ _ [] now.taken went.0.taken inv.given.3 goes.taken)
    (λ rest is. ends_stopped left c.loop-statements.source c.next.new.source now went.0 c.in_err-read.field-0.0 (map item_of c.loop-statements.reads) rest goes inv.given.2 ended is))

pub returns-in_err-push-clause-runs : goal.returns-in_err-push-clause-runs
returns-in_err-push-clause-runs g c =
    let left = g.I.Source.left in
    let inv = c.loop-statements.invariant in
    let now = inv.given.0 in
    let went = c.next.ensures.goes now inv.given.1 in
    let goes = subst (GoesOn left c.loop-statements.source c.next.new.source now went.0) (c.in_ok-read.was ∙ ap Ok c.in-Some.is) went.2 in
    let ended = still_ended left c.loop-statements.source c.next.new.source now went.0 _ goes (λ e. c.next.ensures.finished (inv.given.1.ends ∙ e)) inv.given.4 in
    let p = err_from_is_err_and c.from_residual-in_err-push.result c.from_residual-in_err-push.ensures.1 in
    let few : length went.0.taken ≤ 67108864 = elim goes.within [ inl fits ↦ fits | inr e ↦ absurd (cc) ] in
    rw (p.1, p.2, c.in_err-push.ensures.err) (reads_to _ _ went.0.taken (map item_of c.loop-statements.reads) (Err Memory) (took_more _ _ _ [] now.taken went.0.taken inv.given.3 goes.taken)
    (λ rest is. ends_wanting went.0.finished (left c.next.new.source) went.0.taken rest went.0.past (map item_of c.loop-statements.reads) (item_of c.in-Some.read ∷ []) (goes.item (map item_of c.loop-statements.reads) inv.given.2) ended is few))

pub loop-statements-preserved : goal.loop-statements-preserved
loop-statements-preserved g c =
    let left = g.I.Source.left in
    let inv = c.loop-statements.invariant in
    let now = inv.given.0 in
    let went = c.next.ensures.goes now inv.given.1 in
    let goes = subst (GoesOn left c.loop-statements.source c.next.new.source now went.0) (c.in_ok-read.was ∙ ap Ok c.in-Some.is) went.2 in
    let ended = still_ended left c.loop-statements.source c.next.new.source now went.0 _ goes (λ e. c.next.ensures.finished (inv.given.1.ends ∙ e)) inv.given.4 in
    let few : length went.0.taken ≤ 67108864 = elim goes.within [ inl fits ↦ fits | inr e ↦ absurd (cc) ] in
    let items : map item_of c.push.new.self ≡ map item_of c.loop-statements.reads ++ item_of c.in-Some.read ∷ [] = ap (map item_of) c.in_ok-push.ensures.ok ∙ map-append item_of c.loop-statements.reads (c.in-Some.read ∷ []) in
    record {
      given = (went.0, went.1, subst (Given went.0) (sym items) (goes.item (map item_of c.loop-statements.reads) inv.given.2), took_more _ _ _ [] now.taken went.0.taken inv.given.3 goes.taken, ended);
      few = omega (arith, few, went.1.counts);
      faults = uncounted c.next.result _ _ _ _ _ c.in_ok-read.was inv.faults c.next.ensures.no_fault;
    }

pub returns-clause-runs : goal.returns-clause-runs
returns-clause-runs g c =
    let left = g.I.Source.left in
    let inv = c.loop-statements.invariant in
    let now = inv.given.0 in
    let went = c.next.ensures.goes now inv.given.1 in
    let goes = subst (GoesOn left c.loop-statements.source c.next.new.source now went.0) (c.in_ok-read.was ∙ ap Ok c.in_default.is) went.2 in
    let ended = still_ended left c.loop-statements.source c.next.new.source now went.0 _ goes (λ e. c.next.ensures.finished (inv.given.1.ends ∙ e)) inv.given.4 in
    reads_to _ _ went.0.taken (map item_of c.loop-statements.reads) (Ok tt) (took_more _ _ _ [] now.taken went.0.taken inv.given.3 goes.taken)
    (λ rest is. ends_all left c.loop-statements.source c.next.new.source now went.0 (map item_of c.loop-statements.reads) rest goes inv.given.2 ended is)
