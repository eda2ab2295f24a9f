use Rattle.std.proofs.Common.{◌∙◌, sym, ap, subst, arith}
use Rattle.std.specs.Prelude.{IsSome}
use Rattle.mdc_ast.specs.Definitions.{empty_place}
use Rattle.mdc_ast.specs.Database.{defs_of}
use Rattle.reference_engine.proofs.TablesLemmas.{are_tables-set_def, defs_of-tables_of, enter_is, is_free, IsFree}
use Rattle.reference_engine.specs.Tables.{AreTables}
use Rattle.reference_engine.proofs.tables.Tables.enter.Goals as goal

pub enter-place-requires : goal.enter-place-requires
enter-place-requires c =
    subst (λ defs. IsSome (empty_place defs)) (ap defs_of (sym c.self.view_is) ∙ defs_of-tables_of c.self.inside.catalog c.self.inside.rows.items) c.requires

pub invariant_of-self : goal.invariant_of-self
invariant_of-self c =
    let free : IsFree c.self.inside.catalog c.enter-place.result = is_free c.self.inside.catalog c.enter-place.result c.enter-place.ensures.lowest in
    subst (λ defs. AreTables defs c.self.inside.rows.items) (sym c.enter-place.ensures.entered)
    (are_tables-set_def c.self.inside.catalog c.self.inside.rows.items c.enter-place.result (record c.args.def { number = c.enter-place.result }) c.self.invariant (omega (arith, free.within, c.self.invariant.places)))

pub returns : goal.returns
returns c = enter_is c.self.inside.catalog c.enter-place.new.self c.self.inside.rows.items c.args.self.now c.enter-place.result c.args.def c.self.view_is c.self.invariant c.enter-place.ensures.lowest c.enter-place.ensures.entered
