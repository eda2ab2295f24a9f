-- Where no journal counts, the file rests as it was found; else it rests after the repair, and stands for the same pages.
use Rattle.std.proofs.Common.{ap, sym, refl, ◌∙◌}
use Rattle.page_store.specs.declared.fault.OpenFault.TheVariants.{Device}
use Rattle.page_store.proofs.BroughtLemmas.{opened_closed, opened_home}
use Rattle.page_store.proofs.Openings.{if_err, if_err_as}
use Rattle.page_store.proofs.Judged.{found_at_rest, rests_as_found, served_formed}
use Rattle.page_store.proofs.Repairs.{home_keeps, home_rests, keeps_then, looked_leaves}
use Rattle.page_file.proofs.LeavesLemmas.{told_before}
use Rattle.page_store.proofs.recovery.recover.Goals as goal

pub bring_home-requires-clause-counts : goal.bring_home-requires-clause-counts
bring_home-requires-clause-counts g c = λ file is.
    let told = sym c.inspect.ensures.same ∙ is in
    let served = c.in_ok-found.ensures.served file told in
    let counting = rw c.in-Some.is at served.1 in
    record { synced = c.requires.synced file told; gate = counting.0; journal = sym (c.lend.ensures ∙ (ap (λ journal. journal.images) c.in-Some.journal-is ∙ counting.2)) }

pub bring_home-requires-clause-formed : goal.bring_home-requires-clause-formed
bring_home-requires-clause-formed g c = λ file is. served_formed file.bytes (c.in_ok-found.ensures.served file (sym c.inspect.ensures.same ∙ is)).0

pub returns-in_err-found-clause-leaves : goal.returns-in_err-found-clause-leaves
returns-in_err-found-clause-leaves g c = looked_leaves c.inspect.ensures.runs c.inspect.ensures.same c.requires.synced

pub returns-in_default-clause-served : goal.returns-in_default-clause-served
returns-in_default-clause-served g c = λ file is. (c.in_ok-found.ensures.served file is).0

pub returns-in_default-clause-at_rest : goal.returns-in_default-clause-at_rest
returns-in_default-clause-at_rest g c = λ file is.
    let told = sym c.inspect.ensures.same ∙ is in
    let served = c.in_ok-found.ensures.served file told in
    found_at_rest c.in_ok-found.found.opened file (c.requires.synced file told) (rw c.in_default.is at served.1) served.0 served.2

pub returns-in_default-clause-leaves : goal.returns-in_default-clause-leaves
returns-in_default-clause-leaves g c = looked_leaves c.inspect.ensures.runs c.inspect.ensures.same c.requires.synced

pub returns-in_err-bring_home-clause-leaves : goal.returns-in_err-bring_home-clause-leaves
returns-in_err-bring_home-clause-leaves g c = keeps_then (looked_leaves c.inspect.ensures.runs c.inspect.ensures.same c.requires.synced) (home_keeps c.bring_home.ensures.leaves c.bring_home.ensures.reach)

pub returns-clause-served : goal.returns-clause-served
returns-clause-served g c = λ file is. (c.in_ok-found.ensures.served file is).0

pub returns-clause-at_rest : goal.returns-clause-at_rest
returns-clause-at_rest g c = λ after is.
    let before = told_before c.bring_home.ensures.leaves after is in
    let served = c.in_ok-found.ensures.served before.0 (sym c.inspect.ensures.same ∙ before.1) in
    rests_as_found c.in_ok-found.found.opened before.0.bytes after served.2 (home_rests c.bring_home.ensures.leaves c.in_ok-bring_home.ensures.closed before.0 after before.1 is)

pub returns-clause-leaves : goal.returns-clause-leaves
returns-clause-leaves g c = keeps_then (looked_leaves c.inspect.ensures.runs c.inspect.ensures.same c.requires.synced) (home_keeps c.bring_home.ensures.leaves c.bring_home.ensures.reach)

pub returns-in_err-found-clause-left_alone : goal.returns-in_err-found-clause-left_alone
returns-in_err-found-clause-left_alone g c = if_err c.from_residual.result (λ fault other. c.inspect.ensures.runs)

pub returns-in_err-bring_home-clause-left_alone : goal.returns-in_err-bring_home-clause-left_alone
returns-in_err-bring_home-clause-left_alone g c = if_err_as c.from_residual-in_err-bring_home.result Device _ c.from_residual-in_err-bring_home.ensures.1 (λ other. absurd (other refl))

pub returns-in_err-found-clause-unserved : goal.returns-in_err-found-clause-unserved
returns-in_err-found-clause-unserved g c = if_err c.from_residual.result (λ fault file is unserved. c.inspect.ensures.runs)

pub returns-in_err-bring_home-clause-unserved : goal.returns-in_err-bring_home-clause-unserved
returns-in_err-bring_home-clause-unserved g c =
    if_err c.from_residual-in_err-bring_home.result (λ fault file is unserved. absurd (unserved (c.in_ok-found.ensures.served file is).0))

pub returns-in_default-clause-writes : goal.returns-in_default-clause-writes
returns-in_default-clause-writes g c =
    opened_closed _ _ c.inspect.ensures.same (λ file is. rw c.in_default.is at (c.in_ok-found.ensures.served file is).1)

pub returns-clause-writes : goal.returns-clause-writes
returns-clause-writes g c =
    opened_home c.lend.result _ _ _ c.inspect.ensures.same c.in_ok-bring_home.ensures.brought (λ file is.
    let counting = rw c.in-Some.is at (c.in_ok-found.ensures.served file is).1 in
    (counting.0, c.lend.ensures ∙ (ap (λ journal. journal.images) c.in-Some.journal-is ∙ counting.2)))
