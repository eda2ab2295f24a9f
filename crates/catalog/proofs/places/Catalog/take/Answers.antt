use Rattle.std.proofs.Common.{◌≡◌, ◌<◌, ◌∙◌, None, Option, arith, ap, length, set, subst, sym}
use Rattle.mdc_ast.specs.declared.definition.TableDef.{TableDef}
use Rattle.mdc_ast.specs.Definitions.{def_at}
use Rattle.catalog.specs.Places.{AreNumberedFrom}
use Rattle.catalog.proofs.PlacesLemmas.{changed, def_at-get_or}
use Rattle.catalog.proofs.places.Catalog.take.Goals as goal

pub invariant_of-self : goal.invariant_of-self
invariant_of-self c =
    subst (λ (new : Option TableDef). (length (set c.self.inside.places.items c.args.table new) ≡ 16) × AreNumberedFrom 0 (set c.self.inside.places.items c.args.table new))
    (sym c.take.ensures.after) (changed c.self.inside.places.items c.args.table None tt c.self.invariant)

pub returns-clause-taken : goal.returns-clause-taken
returns-clause-taken c =
    let there : c.args.table < length c.self.inside.places.items = omega (arith, c.self.invariant.0) in
    c.take.ensures.value ∙ c.index_mut.ensures.value ∙ sym (def_at-get_or c.self.inside.places.items c.args.table c.index_mut.result.now there)
    ∙ ap (λ defs. def_at defs c.args.table) c.self.view_is
