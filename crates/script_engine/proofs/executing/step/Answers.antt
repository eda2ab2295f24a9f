use Rattle.std.proofs.Common.{◌≡◌, ◌∙◌, ap, false, refl, subst, sym, true}
use Rattle.mdc_ast.specs.declared.reply.Outcome.TheVariants as said
use Rattle.store_api.proofs.RunsOverPagesLemmas.{runs_memory, runs_none}
use Rattle.script_engine.proofs.ExecutingLemmas.{full_as_bound, is_bound_on, leaves_all, may_execute, reads_as_bound, steps_as_bound, steps_not_built, steps_refused}
use Rattle.script_engine.specs.Fetching.{FetchesForStatement, FetchesRowsOnce}
use Rattle.script_engine.proofs.FetchesForStatementLemmas.{fetches_none}
use Rattle.script_engine.proofs.FetchesOnceLemmas.{once_none}
use Rattle.script_engine.proofs.RepliesLemmas.{kind_as_bound}
use Rattle.script_engine.proofs.TouchesForStatementLemmas.{touches_still}
use Rattle.script_engine.specs.Touching.{TouchesForStatement}
use Rattle.script_engine.proofs.executing.step.Goals as goal

pub returns-then-not-built-clause-does : goal.returns-then-not-built-clause-does
returns-then-not-built-clause-does g c =
    steps_not_built g.P.Pages c.args.pages.now c.args.tables.now c.args.stmt.now c.not_built.result (sym c.built.ensures ∙ c.if-not-built.true) c.not_built.ensures

pub returns-then-not-built-clause-runs : goal.returns-then-not-built-clause-runs
returns-then-not-built-clause-runs g c = runs_none

pub carry_out-requires-clause-may : goal.carry_out-requires-clause-may
carry_out-requires-clause-may g c =
    may_execute c.args.tables.now.catalog c.args.stmt.now c.in-Ok.bound c.requires.served c.requires.written
    (is_bound_on c.args.tables.now.catalog c.args.stmt.now c.in-Ok.bound (sym c.built.ensures ∙ c.if-not-built.false) c.in-Ok.ensures.bound)

pub returns-in-Ok-clause-does : goal.returns-in-Ok-clause-does
returns-in-Ok-clause-does g c =
    steps_as_bound g.P.Pages c.args.pages.now c.carry_out.new.pages c.args.tables.now c.carry_out.new.tables c.args.stmt.now c.in-Ok.bound c.carry_out.result c.requires.served
    (is_bound_on c.args.tables.now.catalog c.args.stmt.now c.in-Ok.bound (sym c.built.ensures ∙ c.if-not-built.false) c.in-Ok.ensures.bound) c.carry_out.ensures.does

pub returns-in-Ok-clause-full : goal.returns-in-Ok-clause-full
returns-in-Ok-clause-full g c =
    full_as_bound g.P.Pages c.args.pages.now c.args.tables.now c.args.stmt.now c.in-Ok.bound c.carry_out.result c.requires.served
    (is_bound_on c.args.tables.now.catalog c.args.stmt.now c.in-Ok.bound (sym c.built.ensures ∙ c.if-not-built.false) c.in-Ok.ensures.bound) c.carry_out.ensures.full

pub returns-in-Ok-clause-reads : goal.returns-in-Ok-clause-reads
returns-in-Ok-clause-reads g c =
    reads_as_bound c.args.tables.now.catalog c.args.stmt.now c.in-Ok.bound
    (is_bound_on c.args.tables.now.catalog c.args.stmt.now c.in-Ok.bound (sym c.built.ensures ∙ c.if-not-built.false) c.in-Ok.ensures.bound) c.carry_out.ensures.reads

pub returns-in-Err-Refused-clause-does : goal.returns-in-Err-Refused-clause-does
returns-in-Err-Refused-clause-does g c =
    steps_refused g.P.Pages c.args.pages.now c.args.tables.now c.args.stmt.now c.in-Err-Refused.field-0 c.in-Err-Refused.refusal c.requires.served.built (sym c.built.ensures ∙ c.if-not-built.false) c.in-Err-Refused.field-0-is c.in-Err-Refused.ensures.refused

pub returns-in-Err-Refused-clause-runs : goal.returns-in-Err-Refused-clause-runs
returns-in-Err-Refused-clause-runs g c = runs_none

pub returns-in-Err-Memory-clause-runs : goal.returns-in-Err-Memory-clause-runs
returns-in-Err-Memory-clause-runs g c = runs_memory runs_none

pub returns-then-not-built-clause-fetches : goal.returns-then-not-built-clause-fetches
returns-then-not-built-clause-fetches g c = fetches_none g.P.Pages c.args.tables.now.shape c.args.tables.now.catalog c.args.tables.now.settings c.args.pages.now _

pub returns-in-Err-Refused-clause-fetches : goal.returns-in-Err-Refused-clause-fetches
returns-in-Err-Refused-clause-fetches g c = fetches_none g.P.Pages c.args.tables.now.shape c.args.tables.now.catalog c.args.tables.now.settings c.args.pages.now _

pub returns-in-Err-Memory-clause-fetches : goal.returns-in-Err-Memory-clause-fetches
returns-in-Err-Memory-clause-fetches g c = fetches_none g.P.Pages c.args.tables.now.shape c.args.tables.now.catalog c.args.tables.now.settings c.args.pages.now _

pub returns-in-Ok-clause-fetches : goal.returns-in-Ok-clause-fetches
returns-in-Ok-clause-fetches g c =
    subst (FetchesForStatement g.P.Pages c.args.tables.now.shape c.args.pages.now c.carry_out.new.pages c.args.tables.now.catalog c.args.tables.now.settings) c.in-Ok.ensures.bound.1 c.carry_out.ensures.fetches

pub returns-then-not-built-clause-unbuilt : goal.returns-then-not-built-clause-unbuilt
returns-then-not-built-clause-unbuilt g c unbuilt = ap said.Refused c.not_built.ensures

pub returns-in-Ok-clause-unbuilt : goal.returns-in-Ok-clause-unbuilt
returns-in-Ok-clause-unbuilt g c unbuilt =
    let wrong : true ≡ false = sym (sym c.built.ensures ∙ c.if-not-built.false) ∙ unbuilt in
    absurd (cc)

pub returns-in-Err-Refused-clause-unbuilt : goal.returns-in-Err-Refused-clause-unbuilt
returns-in-Err-Refused-clause-unbuilt g c unbuilt =
    let wrong : true ≡ false = sym (sym c.built.ensures ∙ c.if-not-built.false) ∙ unbuilt in
    absurd (cc)

pub returns-then-not-built-clause-reads : goal.returns-then-not-built-clause-reads
returns-then-not-built-clause-reads g c reads = leaves_all g.P.Pages c.args.pages.now c.args.tables.now

pub returns-in-Err-Refused-clause-reads : goal.returns-in-Err-Refused-clause-reads
returns-in-Err-Refused-clause-reads g c reads = leaves_all g.P.Pages c.args.pages.now c.args.tables.now

pub returns-in-Err-Memory-clause-reads : goal.returns-in-Err-Memory-clause-reads
returns-in-Err-Memory-clause-reads g c reads = leaves_all g.P.Pages c.args.pages.now c.args.tables.now

pub returns-then-not-built-clause-touches : goal.returns-then-not-built-clause-touches
returns-then-not-built-clause-touches g c = touches_still g.P.Pages c.args.tables.now.shape c.args.tables.now.catalog c.args.tables.now.settings c.args.pages.now c.args.pages.now refl refl _

pub returns-in-Err-Refused-clause-touches : goal.returns-in-Err-Refused-clause-touches
returns-in-Err-Refused-clause-touches g c = touches_still g.P.Pages c.args.tables.now.shape c.args.tables.now.catalog c.args.tables.now.settings c.args.pages.now c.args.pages.now refl refl _

pub returns-in-Err-Memory-clause-touches : goal.returns-in-Err-Memory-clause-touches
returns-in-Err-Memory-clause-touches g c = touches_still g.P.Pages c.args.tables.now.shape c.args.tables.now.catalog c.args.tables.now.settings c.args.pages.now c.args.pages.now refl refl _

pub returns-in-Ok-clause-touches : goal.returns-in-Ok-clause-touches
returns-in-Ok-clause-touches g c =
    subst (TouchesForStatement g.P.Pages c.args.tables.now.shape c.args.pages.now c.carry_out.new.pages c.args.tables.now.catalog c.args.tables.now.settings) c.in-Ok.ensures.bound.1 c.carry_out.ensures.touches

pub returns-in-Ok-clause-kind : goal.returns-in-Ok-clause-kind
returns-in-Ok-clause-kind g c =
    kind_as_bound c.args.tables.now.catalog c.args.stmt.now c.in-Ok.bound c.carry_out.result
    (is_bound_on c.args.tables.now.catalog c.args.stmt.now c.in-Ok.bound (sym c.built.ensures ∙ c.if-not-built.false) c.in-Ok.ensures.bound) c.carry_out.ensures.kind

pub returns-then-not-built-clause-once : goal.returns-then-not-built-clause-once
returns-then-not-built-clause-once g c ok = once_none g.P.Pages c.args.tables.now.shape c.args.tables.now.catalog c.args.tables.now.settings c.args.pages.now _

pub returns-in-Err-Refused-clause-once : goal.returns-in-Err-Refused-clause-once
returns-in-Err-Refused-clause-once g c ok = once_none g.P.Pages c.args.tables.now.shape c.args.tables.now.catalog c.args.tables.now.settings c.args.pages.now _

pub returns-in-Ok-clause-once : goal.returns-in-Ok-clause-once
returns-in-Ok-clause-once g c ok =
    subst (FetchesRowsOnce g.P.Pages c.args.tables.now.shape c.args.pages.now c.carry_out.new.pages c.args.tables.now.catalog c.args.tables.now.settings) c.in-Ok.ensures.bound.1 (c.carry_out.ensures.once ok)
