-- A definition that is taken out of a catalog.
use Rattle.std.proofs.Common.{◌≡◌, ℕ, Some, arith, sym, subst}
use Rattle.mdc_ast.specs.declared.definition.TableDef.{TableDef}
use Rattle.mdc_ast.specs.Definitions.{Definitions, def_at, without_def}
use Rattle.mdc_ast.specs.TableLimits.{IsTableDef}
use Rattle.mdc_sound.proofs.SpaceRulesLemmas.{range_at}
use Rattle.stored_catalog.specs.StoredDefinitions.{AreWithinLimits, IsWithinLimits}
use Rattle.stored_catalog.proofs.LeftDefinitionsLemmas.{def_there, limits_at, limits_left}

-- it is one of its own number
pub taken_def : (defs : Definitions) (t : ℕ) (def : TableDef) → AreWithinLimits defs → Some def ≡ def_at defs t → IsTableDef def.number def
taken_def defs t def within is =
    let limits = limits_at defs t def within (sym is) in
    subst (λ n. IsTableDef n def) (sym limits.stands) limits

-- the others are within the limits still
pub taken_left : (defs after : Definitions) (t : ℕ) (def : TableDef) → AreWithinLimits defs → Some def ≡ def_at defs t → after ≡ without_def defs t → AreWithinLimits after
taken_left defs after t def within is left =
    let there = range_at IsWithinLimits 0 16 defs t (Some def) within (def_there defs t def (sym is)) in
    subst AreWithinLimits (sym left) (limits_left defs t (omega (arith, there.0)) within)
