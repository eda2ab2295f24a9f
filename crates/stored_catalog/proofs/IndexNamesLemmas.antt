-- Names of record indexes: where one is found, and that all differ once a place has another definition.
use Rattle.std.proofs.Common.{◌≡◌, ◌+◌, ◌∙◌, ℕ, zero, suc, List, [], ◌∷◌, ◌++◌, Bool, false, Option, Some, None, map, refl, ap, arith, sym, subst, inl, inr}
use Rattle.std.specs.Prelude.{Contains, flat_map, option_map, slice_set, ◌||◌}
use Rattle.std.specs.List.{AllByRecursion, position_from}
use Rattle.std.specs.Option.{option_or}
use Rattle.std.proofs.lemmas.Bool.{cases_Bool}
use Rattle.std.proofs.lemmas.List.Folds.{list_any-append}
use Rattle.std.proofs.lemmas.Option.{none-some, same_Some}
use Rattle.block_map.proofs.MapLinesLemmas.{contains_more}
use Rattle.mdc_ast.specs.declared.definition.IndexDef.{IndexDef}
use Rattle.mdc_ast.specs.declared.definition.TableDef.{TableDef}
use Rattle.mdc_ast.specs.declared.name.Name.{Name}
use Rattle.mdc_ast.specs.ValidDatabase.{index_names}
use Rattle.mdc_ast.specs.Definitions.{AllNamesDiffer, Definitions, def_at, index_in, index_place_from, index_place_of, is_among, is_same}
use Rattle.mdc_ast.proofs.DefinitionsLemmas.{is_same-sym, neither}
use Rattle.stored_catalog.specs.StoredDefinitions.{taken_index}
use Rattle.stored_catalog.proofs.LoadingLemmas.{one_name}

-- ---- lists of names

-- no name of the first list is in the second
abbrev pub AreApart : List Name → List Name → Type 0
AreApart names others = AllByRecursion (λ name. is_among name others ≡ false) names

none_of_both : (a b : Bool) → a ≡ false → b ≡ false → (a || b) ≡ false
none_of_both a b e f = rw (e, f) refl

not_in : (name : Name) (xs ys : List Name) → is_among name xs ≡ false → is_among name ys ≡ false → is_among name (xs ++ ys) ≡ false
not_in name xs ys e f = list_any-append (is_same name) xs ys ∙ none_of_both (is_among name xs) (is_among name ys) e f

pub in_neither : (name : Name) (xs ys : List Name) → is_among name (xs ++ ys) ≡ false → (is_among name xs ≡ false) × (is_among name ys ≡ false)
in_neither name xs ys e = neither (is_among name xs) (is_among name ys) (sym (list_any-append (is_same name) xs ys) ∙ e)

pub apart_none : (names : List Name) → AreApart names []
apart_none [] = tt
apart_none (name ∷ names) = (refl, apart_none names)

apart_cons : (name : Name) (names others : List Name) → is_among name others ≡ false → AreApart others names → AreApart others (name ∷ names)
apart_cons name names [] e all = tt
apart_cons name names (other ∷ others) e all =
    let both : (is_same name other ≡ false) × (is_among name others ≡ false) = neither (is_same name other) (is_among name others) e in
    (none_of_both (is_same other name) (is_among other names) (is_same-sym other name ∙ both.0) all.0, apart_cons name names others both.1 all.1)

pub apart_turned : (names others : List Name) → AreApart names others → AreApart others names
apart_turned [] others all = apart_none others
apart_turned (name ∷ names) others all = apart_cons name names others all.0 (apart_turned names others all.1)

apart_both : (names xs ys : List Name) → AreApart names xs → AreApart names ys → AreApart names (xs ++ ys)
apart_both [] xs ys first second = tt
apart_both (name ∷ names) xs ys first second = (not_in name xs ys first.0 second.0, apart_both names xs ys first.1 second.1)

apart_parts : (names xs ys : List Name) → AreApart names (xs ++ ys) → AreApart names xs × AreApart names ys
apart_parts [] xs ys all = (tt, tt)
apart_parts (name ∷ names) xs ys all =
    let here = in_neither name xs ys all.0 in
    let rest = apart_parts names xs ys all.1 in
    ((here.0, rest.0), (here.1, rest.1))

pub differ_both : (xs ys : List Name) → AllNamesDiffer xs → AllNamesDiffer ys → AreApart xs ys → AllNamesDiffer (xs ++ ys)
differ_both [] ys first second apart = second
differ_both (x ∷ xs) ys first second apart = (not_in x xs ys first.0 apart.0, differ_both xs ys first.1 second apart.1)

differ_parts : (xs ys : List Name) → AllNamesDiffer (xs ++ ys) → AllNamesDiffer xs × (AllNamesDiffer ys × AreApart xs ys)
differ_parts [] ys all = (tt, (all, tt))
differ_parts (x ∷ xs) ys all =
    let here = in_neither x xs ys all.0 in
    let rest = differ_parts xs ys all.1 in
    ((here.0, rest.0), (rest.1.0, (here.1, rest.1.1)))

-- ---- a place has another definition

apart_set : (names : List Name) (defs : Definitions) (t : ℕ) (place : Option TableDef) → AreApart names (flat_map index_names defs) → AreApart names (index_names place)
    → AreApart names (flat_map index_names (slice_set defs t place))
apart_set names [] t place all here = all
apart_set names (old ∷ defs) zero place all here = apart_both names (index_names place) (flat_map index_names defs) here (apart_parts names (index_names old) (flat_map index_names defs) all).1
apart_set names (old ∷ defs) (suc t) place all here =
    let parts = apart_parts names (index_names old) (flat_map index_names defs) all in
    apart_both names (index_names old) (flat_map index_names (slice_set defs t place)) parts.0 (apart_set names defs t place parts.1 here)

-- whose names differ, also from all that there are
pub index_names_put : (defs : Definitions) (t : ℕ) (place : Option TableDef) → AllNamesDiffer (flat_map index_names defs) → AllNamesDiffer (index_names place)
    → AreApart (index_names place) (flat_map index_names defs) → AllNamesDiffer (flat_map index_names (slice_set defs t place))
index_names_put [] t place all own apart = all
index_names_put (old ∷ defs) zero place all own apart =
    let were = differ_parts (index_names old) (flat_map index_names defs) all in
    differ_both (index_names place) (flat_map index_names defs) own were.1.0 (apart_parts (index_names place) (index_names old) (flat_map index_names defs) apart).1
index_names_put (old ∷ defs) (suc t) place all own apart =
    let were = differ_parts (index_names old) (flat_map index_names defs) all in
    let parts = apart_parts (index_names place) (index_names old) (flat_map index_names defs) apart in
    differ_both (index_names old) (flat_map index_names (slice_set defs t place)) were.0 (index_names_put defs t place were.1.0 own parts.1)
    (apart_set (index_names old) defs t place were.1.1 (apart_turned (index_names place) (index_names old) parts.0))

-- ---- looking up

-- a name that none of these has
not_among : (name : Name) (indexes : List IndexDef) (i : ℕ) → position_from (λ index. is_same index.name name) i indexes ≡ None → is_among name (map (λ index. index.name) indexes) ≡ false
not_among name [] i none = refl
not_among name (index ∷ indexes) i none = elim (cases_Bool (is_same index.name name)) [
  | inl hit ↦ absurd (none-some i (sym (rw hit at none)))
  | inr miss ↦ none_of_both (is_same name index.name) (is_among name (map (λ index. index.name) indexes)) (is_same-sym name index.name ∙ miss) (not_among name indexes (i + 1) (rw miss at none))
]

neither_found : {X : Type 0} (a b : Option X) → option_or a b ≡ None → (a ≡ None) × (b ≡ None)
neither_found None b none = (refl, none)
neither_found (Some x) b none = absurd cc

not_found : {X Y : Type 0} (f : X → Y) (a : Option X) → option_map f a ≡ None → a ≡ None
not_found f None none = refl
not_found f (Some x) none = absurd cc

-- a name that no record index has
pub none_has : (name : Name) (defs : Definitions) (t : ℕ) → index_place_from t defs name ≡ None → is_among name (flat_map index_names defs) ≡ false
none_has name [] t none = refl
none_has name (None ∷ defs) t none = none_has name defs (t + 1) none
none_has name (Some def ∷ defs) t none =
    let both = neither_found (option_map (λ index. (t, index)) (index_in name (Some def))) (index_place_from (t + 1) defs name) none in
    not_in name (map (λ index. index.name) def.indexes) (flat_map index_names defs) (not_among name def.indexes 0 (not_found (λ index. (t, index)) (index_in name (Some def)) both.0)) (none_has name defs (t + 1) both.1)

-- none of these has a name that one in the list has
pub none_taken : (defs : Definitions) (indexes : List IndexDef) → taken_index defs indexes ≡ None → AreApart (map (λ index. index.name) indexes) (flat_map index_names defs)
none_taken defs [] none = tt
none_taken defs (index ∷ indexes) none =
    let both = neither_found (index_place_of defs index.name) (taken_index defs indexes) none in
    (none_has index.name defs 0 both.0, none_taken defs indexes both.1)

-- a record index of that name in the definition in a place
pub record HasNamed (defs : Definitions) (name : Name) (place : ℕ) : Type 0 where
  pub def : TableDef
  pub stands : def_at defs place ≡ Some def
  pub index : IndexDef
  pub there : Contains def.indexes index
  pub same : index.name ≡ name

named_later : (first : Option TableDef) (defs : Definitions) (name : Name) (place : ℕ) → HasNamed defs name place → HasNamed (first ∷ defs) name (suc place)
named_later first defs name place h = record { def = h.def; stands = h.stands; index = h.index; there = h.there; same = h.same }

-- the one at the place at which a name is found has it
found_in : (name : Name) (indexes : List IndexDef) (from n : ℕ) → position_from (λ index. is_same index.name name) from indexes ≡ Some n → (index : IndexDef) × Contains indexes index × (index.name ≡ name)
found_in name [] from n found = cc
found_in name (index ∷ indexes) from n found = elim (cases_Bool (is_same index.name name)) [
  | inl hit ↦ (index, (0, omega arith, refl), one_name index.name name hit)
  | inr miss ↦ let rest = found_in name indexes (from + 1) n (rw miss at found) in (rest.0, contains_more rest.0 index indexes rest.1, rest.2)
]

-- so the place of a table that was found has one of that name
pub record IsFoundFrom (defs : Definitions) (name : Name) (from : ℕ) (place : ℕ × ℕ) : Type 0 where
  pub behind : ℕ
  pub table : place.0 ≡ from + behind
  pub has : HasNamed defs name behind

found_later : (first : Option TableDef) (defs : Definitions) (name : Name) (from : ℕ) (place : ℕ × ℕ) → IsFoundFrom defs name (from + 1) place → IsFoundFrom (first ∷ defs) name from place
found_later first defs name from place f = record { behind = suc f.behind; table = omega (arith, f.table); has = named_later first defs name f.behind f.has }

found_from : (name : Name) (defs : Definitions) (from : ℕ) (place : ℕ × ℕ) → index_place_from from defs name ≡ Some place → IsFoundFrom defs name from place
found_from name [] from place found = cc
found_from name (None ∷ defs) from place found = found_later None defs name from place (found_from name defs (from + 1) place found)
found_from name (Some def ∷ defs) from place found = go (λ is. found_from name defs (from + 1) place is) (index_in name (Some def)) refl found
  where
    go : (index_place_from (from + 1) defs name ≡ Some place → IsFoundFrom defs name (from + 1) place) → (inside : Option ℕ) → index_in name (Some def) ≡ inside → option_or (option_map (λ index. (from, index)) inside) (index_place_from (from + 1) defs name) ≡ Some place → IsFoundFrom (Some def ∷ defs) name from place
    go later None at is = found_later (Some def) defs name from place (later is)
    go later (Some n) at is =
        let one = found_in name def.indexes 0 n at in
        let same : from ≡ place.0 = ap (λ (p : ℕ × ℕ). p.0) (same_Some (from, n) place is) in
        record { behind = 0; table = omega (arith, same); has = record { def = def; stands = refl; index = one.0; there = one.1; same = one.2 } }

pub found_has : (name : Name) (defs : Definitions) (place : ℕ × ℕ) → index_place_of defs name ≡ Some place → HasNamed defs name place.0
found_has name defs place found =
    let f = found_from name defs 0 place found in
    subst (HasNamed defs name) (let same : f.behind ≡ place.0 = omega (arith, f.table) in same) f.has

-- and where one of these has a taken name, the definition there shares it
pub record SharesTaken (defs : Definitions) (indexes : List IndexDef) (place : ℕ) : Type 0 where
  pub index : IndexDef
  pub there : Contains indexes index
  pub has : HasNamed defs index.name place

pub taken_shares : (defs : Definitions) (indexes : List IndexDef) (place : ℕ × ℕ) → taken_index defs indexes ≡ Some place → SharesTaken defs indexes place.0
taken_shares defs [] place found = cc
taken_shares defs (index ∷ indexes) place found = go (λ is. taken_shares defs indexes place is) (index_place_of defs index.name) refl found
  where
    go : (taken_index defs indexes ≡ Some place → SharesTaken defs indexes place.0) → (first : Option (ℕ × ℕ)) → index_place_of defs index.name ≡ first → option_or first (taken_index defs indexes) ≡ Some place → SharesTaken defs (index ∷ indexes) place.0
    go later None at is = let rest = later is in record { index = rest.index; there = contains_more rest.index index indexes rest.there; has = rest.has }
    go later (Some one) at is = record { index = index; there = (0, omega arith, refl); has = found_has index.name defs place (at ∙ is) }
