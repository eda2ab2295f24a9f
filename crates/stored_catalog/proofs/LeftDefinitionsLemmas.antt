-- The definitions of a catalog without one of them.
use Rattle.std.proofs.Common.{◌≡◌, ◌<◌, ◌+◌, ℕ, Option, Some, None, length-set, set, ap, arith, sym, ◌∙◌, subst, inl, inr}
use Rattle.std.specs.Prelude.{option_and_then, slice_get}
use Rattle.std.proofs.lemmas.Bool.{cases_eq}
use Rattle.std.proofs.lemmas.Option.{same_Some}
use Rattle.mdc_words.proofs.PlacesLemmas.{slice_get-set_other, slice_get-set_same}
use Rattle.mdc_ast.specs.declared.definition.TableDef.{TableDef}
use Rattle.mdc_ast.specs.Definitions.{Definitions, def_at, without_def}
use Rattle.mdc_ast.specs.TableLimits.{IsTableDef}
use Rattle.table_trees.specs.ToldPages.{PageList}
use Rattle.mdc_sound.specs.TablePages.{DefinesTable}
use Rattle.mdc_sound.proofs.SpaceRulesLemmas.{range_at, range_each, range_length}
use Rattle.stored_catalog.specs.StoredDefinitions.{AreStored, AreWithinLimits, IsStoredPlace, IsWithinLimits}

-- where a definition stands
pub def_there : (defs : Definitions) (t : ℕ) (def : TableDef) → def_at defs t ≡ Some def → slice_get defs t ≡ Some (Some def)
def_there defs t def is = go (slice_get defs t) is
  where
    go : (place : Option (Option TableDef)) → option_and_then (λ d. d) place ≡ Some def → place ≡ Some (Some def)
    go None none = absurd (cc)
    go (Some place) some = ap Some some

-- its table page has it
pub stored_at : (pages : PageList) (defs : Definitions) (t : ℕ) (def : TableDef) → AreStored pages defs → def_at defs t ≡ Some def → DefinesTable pages t def
stored_at pages defs t def stored is =
    let same : 0 + t ≡ t = omega arith in
    subst (λ u. DefinesTable pages u def) same (range_at (IsStoredPlace pages) 0 16 defs t (Some def) stored (def_there defs t def is)).1

-- it is within the limits
pub limits_at : (defs : Definitions) (t : ℕ) (def : TableDef) → AreWithinLimits defs → def_at defs t ≡ Some def → IsTableDef t def
limits_at defs t def within is =
    let same : 0 + t ≡ t = omega arith in
    subst (λ u. IsTableDef u def) same (range_at IsWithinLimits 0 16 defs t (Some def) within (def_there defs t def is)).1

-- all others are within the limits still
pub limits_left : (defs : Definitions) (t : ℕ) → t < 16 → AreWithinLimits defs → AreWithinLimits (without_def defs t)
limits_left defs t low within =
    let count = range_length IsWithinLimits 0 16 defs within in
    range_each IsWithinLimits 0 16 (without_def defs t) (length-set defs t None ∙ count) (λ u place at. elim (cases_eq u t) [
      | inl here ↦
          let blank : None ≡ place = same_Some None place (sym (slice_get-set_same defs t None (omega (arith, low, count))) ∙ (ap (slice_get (set defs t None)) (sym here) ∙ at)) in
          subst (IsWithinLimits (0 + u)) blank tt
      | inr apart ↦ (range_at IsWithinLimits 0 16 defs u place within (sym (slice_get-set_other defs t None u apart) ∙ at)).1
    ])
