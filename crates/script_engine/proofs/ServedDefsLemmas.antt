-- Definitions that are served stay so with another one in a place, also one with a record index more or less.
use Rattle.std.proofs.Common.{◌≡◌, ◌<◌, ◌+◌, ℕ, List, [], ◌∷◌, ◌++◌, ◌∙◌, inl, inr, refl, sym, ap, subst, length, length-set, set, arith}
use Rattle.std.specs.Prelude.{IfSome, IsTrue, is_none, true, Option, Some, None, option_and_then, remove, slice_get, slice_set}
use Rattle.std.specs.List.{list_all}
use Rattle.std.proofs.lemmas.Bool.{cases_eq}
use Rattle.std.proofs.lemmas.Option.{same_Some}
use Rattle.mdc_words.proofs.PlacesLemmas.{slice_get-set_other, slice_get-set_same}
use Rattle.mdc_ast.specs.declared.definition.IndexDef.{IndexDef}
use Rattle.mdc_ast.specs.declared.definition.TableDef.{TableDef}
use Rattle.mdc_ast.specs.ValidDatabase.{AreValidDefs, IsValidDef}
use Rattle.mdc_ast.specs.Definitions.{Definitions, def_at, index_place_of, with_def, with_index, without_index}
use Rattle.mdc_ast.proofs.DefinitionsLemmas.{own_name, put_keeps_defs}
use Rattle.statement_meaning.specs.Built.{are_built, is_built_place}
use Rattle.statement_meaning.proofs.BuiltLemmas.{built_at, built_put}
use Rattle.mdc_sound.proofs.SpaceRulesLemmas.{range_at, range_each, range_length}
use Rattle.mdc_ast.specs.TableLimits.{IsTableDef}
use Rattle.index_building.specs.IndexViews.{rooted_index}
use Rattle.row_checks.specs.Served.{IsDefined, MayGainIndex, MayLoseIndex}
use Rattle.stored_catalog.specs.StoredDefinitions.{AreWithinLimits, IsWithinLimits}
use Rattle.stored_catalog.proofs.LeftDefinitionsLemmas.{def_there, limits_at}
use Rattle.script_engine.specs.Inserting.{numbered_on}
use Rattle.script_engine.specs.Ready.{AreServed}
use Rattle.script_engine.proofs.IndexedDefsLemmas.{names_kept, valid_def_at, valid_with_index, valid_without_index}

-- ---- one of them

-- a definition stands in one of the 16 places
pub served_below : (defs : Definitions) (place : ℕ) (def : TableDef) → AreServed defs → def_at defs place ≡ Some def → place < 16
served_below defs place def served at = (range_at IsWithinLimits 0 16 defs place (Some def) served.limits (def_there defs place def at)).0

-- it is valid
pub served_valid : (defs : Definitions) (place : ℕ) (def : TableDef) → AreServed defs → def_at defs place ≡ Some def → IsValidDef place def
served_valid defs place def served at = valid_def_at defs place def served.valid at

-- it is of a built form
pub served_built : (defs : Definitions) (place : ℕ) (def : TableDef) → AreServed defs → def_at defs place ≡ Some def → is_built_place (Some def) ≡ true
served_built defs place def served at = built_at defs place def served.built at

-- so no column of it is generated
pub none_made : (defs : Definitions) (place : ℕ) (def : TableDef) → AreServed defs → def_at defs place ≡ Some def → IsTrue (list_all (λ column. is_none column.made) def.columns)
none_made defs place def served at = served_built defs place def served at

-- ---- another one in its place

-- what was put in a place stands there
pub def_at_set : (defs : Definitions) (place : ℕ) (def : Option TableDef) → place < length defs → def_at (slice_set defs place def) place ≡ def
def_at_set defs place def low = ap (option_and_then (λ d. d)) (slice_get-set_same defs place def low)

-- the limits hold with one in a place that keeps them
pub limits_put : (defs : Definitions) (t : ℕ) (def : Option TableDef) → t < 16 → AreWithinLimits defs → IsWithinLimits t def → AreWithinLimits (slice_set defs t def)
limits_put defs t def low within is =
    let count = range_length IsWithinLimits 0 16 defs within in
    range_each IsWithinLimits 0 16 (slice_set defs t def) (length-set defs t def ∙ count) (λ u place at. elim (cases_eq u t) [
      | inl here ↦
          let same : def ≡ place = same_Some def place (sym (slice_get-set_same defs t def (omega (arith, low, count))) ∙ (ap (slice_get (set defs t def)) (sym here) ∙ at)) in
          let there : t ≡ 0 + u = omega (arith, here) in
          subst (λ v. IsWithinLimits v place) there (subst (IsWithinLimits t) same is)
      | inr apart ↦ (range_at IsWithinLimits 0 16 defs u place within (sym (slice_get-set_other defs t def u apart) ∙ at)).1
    ])

-- a definition whose rows are numbered on is served still
pub served_on : (defs : Definitions) (place : ℕ) (def : TableDef) (count : ℕ) → AreServed defs → def_at defs place ≡ Some def → def.next + count < 18446744073709551616
    → AreServed (with_def defs place (numbered_on def count))
served_on defs place def count served at few = record {
  limits = limits_put defs place (Some now) (served_below defs place def served at) served.limits (record {
    stands = refl;
    name = limits.name;
    columns = limits.columns;
    dims = limits.dims;
    indexes = limits.indexes;
    next = few;
    roots = limits.roots;
  });
  valid = put_keeps_defs defs place (Some now) served.valid (record {
    stands = refl;
    short = valid.short;
    few = valid.few;
    short_names = valid.short_names;
    good_types = valid.good_types;
    names_differ = valid.names_differ;
    narrow = valid.narrow;
    few_dims = valid.few_dims;
    dims_there = valid.dims_there;
    dims_apart = valid.dims_apart;
    short_keys = valid.short_keys;
    short_composite = valid.short_composite;
    sources = valid.sources;
    few_indexes = valid.few_indexes;
    indexes = valid.indexes;
    few_rows = few;
  }) (own_name defs place def served.valid.differ at) (names_kept defs place def now at refl served.valid.index_names_differ);
  built = built;
}
  where
    now : TableDef
    now = record (numbered_on def count) { number = place }

    built : are_built (slice_set defs place (Some now)) ≡ true
    built = built_put defs place (Some now) served.built (served_built defs place def served at)

    limits : IsTableDef place def
    limits = limits_at defs place def served.limits at

    valid : IsValidDef place def
    valid = served_valid defs place def served at

-- ---- a record index more, or one less

-- where the table in a place has other record indexes than before, all is of built forms still
built_indexed : (defs : Definitions) (place : ℕ) (def : TableDef) (indexes : List IndexDef) → AreServed defs → def_at defs place ≡ Some def → are_built (with_def defs place (record def { indexes = indexes })) ≡ true
built_indexed defs place def indexes served at = built_put defs place (Some (record def { number = place; indexes = indexes })) served.built (served_built defs place def served at)

-- a table gains a record index: the definitions are served still
pub served_with_index : (before now : Definitions) (place : ℕ) (def : TableDef) (index : IndexDef) (root : ℕ) → AreServed before → def_at before place ≡ Some def → MayGainIndex index def
    → index_place_of before index.name ≡ None → now ≡ with_def before place (with_index def (rooted_index index root)) → AreWithinLimits now → AreServed now
served_with_index before now place def index root served at may free is limits = record {
  limits = limits;
  valid = subst AreValidDefs (sym is) (valid_with_index before place def (rooted_index index root) served.valid at may.few
      (record { short = may.valid.short; there = may.valid.there; apart = may.valid.apart; short_key = may.valid.short_key }) free);
  built = ap are_built is ∙ built_indexed before place def (def.indexes ++ rooted_index index root ∷ []) served at;
}

-- a table loses one
pub served_without_index : (before now : Definitions) (place : ℕ) (def : TableDef) (index : ℕ) → AreServed before → def_at before place ≡ Some def → index < length def.indexes
    → now ≡ with_def before place (without_index def index) → AreWithinLimits now → AreServed now
served_without_index before now place def index served at low is limits = record {
  limits = limits;
  valid = subst AreValidDefs (sym is) (valid_without_index before place def index served.valid at low);
  built = ap are_built is ∙ built_indexed before place def (remove def.indexes index) served at;
}

-- the same of the table that a place has, as the calls that change its pages say it
pub served_gained : (before now : Definitions) (place : ℕ) (index : IndexDef) → AreServed before → IsDefined (def_at before place) (MayGainIndex index) → index_place_of before index.name ≡ None
    → IfSome (def_at before place) (λ def. (root : ℕ) × (now ≡ with_def before place (with_index def (rooted_index index root)))) → AreWithinLimits now → AreServed now
served_gained before now place index served there free is limits = go (def_at before place) refl there is
  where
    go : (found : Option TableDef) → def_at before place ≡ found → IsDefined found (MayGainIndex index)
        → IfSome found (λ def. (root : ℕ) × (now ≡ with_def before place (with_index def (rooted_index index root)))) → AreServed now
    go None at there is = absurd there
    go (Some def) at may is = served_with_index before now place def index is.0 served at may free is.1 limits

pub served_lost : (before now : Definitions) (place : ℕ) (index : ℕ) → AreServed before → IsDefined (def_at before place) (MayLoseIndex index)
    → IfSome (def_at before place) (λ def. now ≡ with_def before place (without_index def index)) → AreWithinLimits now → AreServed now
served_lost before now place index served there is limits = go (def_at before place) refl there is
  where
    go : (found : Option TableDef) → def_at before place ≡ found → IsDefined found (MayLoseIndex index) → IfSome found (λ def. now ≡ with_def before place (without_index def index)) → AreServed now
    go None at there is = absurd there
    go (Some def) at may is = served_without_index before now place def index served at may.within is limits
