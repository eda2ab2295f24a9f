use Rattle.std.proofs.Common.{◌≡◌, ◌∙◌, [], sym, ap, subst}
use Rattle.statement_meaning.specs.Binding.{bound_of}
use Rattle.statement_meaning.specs.Judged.{judged_of}
use Rattle.statement_meaning.specs.Judging.{in_order}
use Rattle.row_checks.specs.Executing.{MayBeDone}
use Rattle.row_checks.proofs.Ready.{ready}
use Rattle.row_checks.proofs.Stepping.{answered, valid_after}
use Rattle.reference_engine.proofs.ChangedTables.{still_built}
use Rattle.reference_engine.proofs.executing.execute_any.Goals as goal

pub carry_out-requires-clause-ready : goal.carry_out-requires-clause-ready
carry_out-requires-clause-ready c =
    let said = subst (λ defs. in_order (judged_of defs c.args.stmt.now) ≡ []) c.catalog.ensures c.in-Ok.ensures.bound.0 in
    let is = c.in-Ok.ensures.bound.1 ∙ ap (λ defs. bound_of defs c.args.stmt.now) c.catalog.ensures in
    subst (MayBeDone c.args.tables.now) (sym is) (ready c.args.tables.now c.args.stmt.now c.requires.valid said)

pub returns-in-Ok-clause-valid : goal.returns-in-Ok-clause-valid
returns-in-Ok-clause-valid c =
    let said = subst (λ defs. in_order (judged_of defs c.args.stmt.now) ≡ []) c.catalog.ensures c.in-Ok.ensures.bound.0 in
    let is = c.in-Ok.ensures.bound.1 ∙ ap (λ defs. bound_of defs c.args.stmt.now) c.catalog.ensures in
    valid_after c.args.tables.now c.carry_out.new.tables c.args.stmt.now c.carry_out.result c.requires
    (answered c.args.tables.now c.carry_out.new.tables c.args.stmt.now c.in-Ok.bound c.carry_out.result (sym c.built.ensures ∙ c.if-not-built.false) c.requires.built said is c.carry_out.ensures.done)
    (still_built c.carry_out.result c.args.tables.now c.carry_out.new.tables c.carry_out.ensures.memory c.requires)
