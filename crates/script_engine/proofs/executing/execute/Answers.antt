use Rattle.std.proofs.Common.{◌≡◌, ap, false, refl, subst, sym, true, ◌∙◌}
use Rattle.mdc_ast.specs.declared.bound.Bound.TheVariants as bound
use Rattle.store_api.proofs.RunsOverPagesLemmas.{runs_exit_as}
use Rattle.extent_map.specs.Damages.{store_part_of}
use Rattle.script_engine.proofs.ExecutingLemmas.{executes_step, none_told, form_other, full_as_bound, may_execute, reads_as_bound, runs_wanting, steps_as_bound, steps_other, unbuilt_wanting}
use Rattle.script_engine.specs.Fetching.{FetchesForStatement, FetchesRowsOnce}
use Rattle.script_engine.proofs.FetchesForStatementLemmas.{fetches_none}
use Rattle.script_engine.specs.Roles.{role_of, tells_pages}
use Rattle.script_engine.proofs.ListingLemmas.{lists_ready}
use Rattle.script_engine.proofs.RepliesLemmas.{kind_as_bound, kind_told}
use Rattle.script_engine.proofs.TouchesForStatementLemmas.{touches_still}
use Rattle.script_engine.specs.Touching.{TouchesForStatement}
use Rattle.script_engine.proofs.executing.execute.Goals as goal

pub returns-in_err-whole-clause-runs : goal.returns-in_err-whole-clause-runs
returns-in_err-whole-clause-runs g c =
    runs_exit_as store_part_of c.from_residual.result c.from_residual.ensures.1 (runs_wanting g.P.Pages c.args.pages.now c.args.tables.now c.in_err-whole.field-0.0 c.in_err-whole.ensures.memory)

pub insert-requires-clause-there : goal.insert-requires-clause-there
insert-requires-clause-there g c =
    let whole = rw c.in-Some.is at c.in_ok-whole.ensures.bound in
    (may_execute c.args.tables.now.catalog c.args.stmt.now (bound.Insert c.in-Some.whole.table c.in-Some.whole.rows) c.requires.served c.requires.written whole).served

pub returns-in-Some-clause-does : goal.returns-in-Some-clause-does
returns-in-Some-clause-does g c =
    let whole = rw c.in-Some.is at c.in_ok-whole.ensures.bound in
    executes_step g.P.Pages c.args.pages.now c.insert.new.pages c.args.tables.now c.insert.new.tables c.args.stmt.now c.insert.result (steps_other c.args.stmt.now whole.built)
    (steps_as_bound g.P.Pages c.args.pages.now c.insert.new.pages c.args.tables.now c.insert.new.tables c.args.stmt.now (bound.Insert c.in-Some.whole.table c.in-Some.whole.rows) c.insert.result c.requires.served whole c.insert.ensures.does)

pub returns-in-Some-clause-full : goal.returns-in-Some-clause-full
returns-in-Some-clause-full g c =
    let whole = rw c.in-Some.is at c.in_ok-whole.ensures.bound in
    full_as_bound g.P.Pages c.args.pages.now c.args.tables.now c.args.stmt.now (bound.Insert c.in-Some.whole.table c.in-Some.whole.rows) c.insert.result c.requires.served whole c.insert.ensures.full

pub returns-in-Some-clause-reads : goal.returns-in-Some-clause-reads
returns-in-Some-clause-reads g c =
    let whole = rw c.in-Some.is at c.in_ok-whole.ensures.bound in
    reads_as_bound c.args.tables.now.catalog c.args.stmt.now (bound.Insert c.in-Some.whole.table c.in-Some.whole.rows) whole (λ e. absurd cc)

pub returns-in_err-whole-clause-fetches : goal.returns-in_err-whole-clause-fetches
returns-in_err-whole-clause-fetches g c = fetches_none g.P.Pages c.args.tables.now.shape c.args.tables.now.catalog c.args.tables.now.settings c.args.pages.now _

pub returns-in-Some-clause-fetches : goal.returns-in-Some-clause-fetches
returns-in-Some-clause-fetches g c =
    let whole = rw c.in-Some.is at c.in_ok-whole.ensures.bound in
    subst (FetchesForStatement g.P.Pages c.args.tables.now.shape c.args.pages.now c.insert.new.pages c.args.tables.now.catalog c.args.tables.now.settings) whole.is tt

pub returns-in_err-whole-clause-unbuilt : goal.returns-in_err-whole-clause-unbuilt
returns-in_err-whole-clause-unbuilt g c unbuilt = unbuilt_wanting c.from_residual.result c.in_err-whole.field-0.0 c.from_residual.ensures.1 c.in_err-whole.ensures.memory

pub returns-in-Some-clause-unbuilt : goal.returns-in-Some-clause-unbuilt
returns-in-Some-clause-unbuilt g c unbuilt =
    let whole = rw c.in-Some.is at c.in_ok-whole.ensures.bound in
    let wrong : true ≡ false = sym whole.built ∙ form_other c.args.stmt.now (steps_other c.args.stmt.now whole.built) unbuilt in
    absurd (cc)

pub returns-else-is_explain-clause-does : goal.returns-else-is_explain-clause-does
returns-else-is_explain-clause-does g c =
    executes_step g.P.Pages c.args.pages.now c.step.new.pages c.args.tables.now c.step.new.tables c.args.stmt.now c.step.result (none_told (role_of c.args.stmt.now) c.in-None.ensures (sym c.is_explain.ensures ∙ c.if-is_explain.false)) c.step.ensures.does

pub returns-in_ok-list-in-Some-listed-clause-does : goal.returns-in_ok-list-in-Some-listed-clause-does
returns-in_ok-list-in-Some-listed-clause-does g c ready =
    lists_ready g.P.Pages c.args.pages.now c.list.new.pages c.args.tables.now c.in-Some-listed.name.now c.requires.served.built c.in_ok-list-in-Some-listed.field-0 c.in_ok-list-in-Some-listed.ensures.absent
    c.in_ok-list-in-Some-listed.ensures.tells ready c.args.stmt.now c.in-Some-listed.ensures c.in_ok-list-in-Some-listed.ensures.runs.works.steady.is_told c.list.ensures.same

pub returns-in_err-whole-clause-touches : goal.returns-in_err-whole-clause-touches
returns-in_err-whole-clause-touches g c = touches_still g.P.Pages c.args.tables.now.shape c.args.tables.now.catalog c.args.tables.now.settings c.args.pages.now c.args.pages.now refl refl _

pub returns-in-Some-clause-touches : goal.returns-in-Some-clause-touches
returns-in-Some-clause-touches g c =
    let whole = rw c.in-Some.is at c.in_ok-whole.ensures.bound in
    subst (TouchesForStatement g.P.Pages c.args.tables.now.shape c.args.pages.now c.insert.new.pages c.args.tables.now.catalog c.args.tables.now.settings) whole.is tt

pub returns-in_err-list-in-Some-listed-clause-touches : goal.returns-in_err-list-in-Some-listed-clause-touches
returns-in_err-list-in-Some-listed-clause-touches g c =
    touches_still g.P.Pages c.args.tables.now.shape c.args.tables.now.catalog c.args.tables.now.settings c.args.pages.now c.list.new.pages c.in_err-list-in-Some-listed.ensures.runs.works.steady.is_told c.list.ensures.same _

pub returns-in_ok-list-in-Some-listed-clause-touches : goal.returns-in_ok-list-in-Some-listed-clause-touches
returns-in_ok-list-in-Some-listed-clause-touches g c =
    touches_still g.P.Pages c.args.tables.now.shape c.args.tables.now.catalog c.args.tables.now.settings c.args.pages.now c.list.new.pages c.in_ok-list-in-Some-listed.ensures.runs.works.steady.is_told c.list.ensures.same _

pub returns-in-Some-clause-kind : goal.returns-in-Some-clause-kind
returns-in-Some-clause-kind g c =
    let whole = rw c.in-Some.is at c.in_ok-whole.ensures.bound in
    kind_as_bound c.args.tables.now.catalog c.args.stmt.now (bound.Insert c.in-Some.whole.table c.in-Some.whole.rows) c.insert.result whole c.insert.ensures.kind

pub returns-in_ok-list-in-Some-listed-clause-kind : goal.returns-in_ok-list-in-Some-listed-clause-kind
returns-in_ok-list-in-Some-listed-clause-kind g c =
    kind_told c.args.stmt.now (ap tells_pages c.in-Some-listed.ensures) c.in_ok-list-in-Some-listed.field-0 c.in_ok-list-in-Some-listed.ensures.lines

pub returns-in-Some-clause-once : goal.returns-in-Some-clause-once
returns-in-Some-clause-once g c ok =
    let whole = rw c.in-Some.is at c.in_ok-whole.ensures.bound in
    subst (FetchesRowsOnce g.P.Pages c.args.tables.now.shape c.args.pages.now c.insert.new.pages c.args.tables.now.catalog c.args.tables.now.settings) whole.is tt
