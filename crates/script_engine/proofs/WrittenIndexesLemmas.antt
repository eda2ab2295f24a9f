-- What a CREATE INDEX that is written makes: a record index that its table may take.
use Rattle.std.proofs.Common.{◌≡◌, ◌≤◌, ◌<◌, ℕ, List, [], ◌∷◌, refl, length, map, arith}
use Rattle.std.specs.Prelude.{◌==◌, ◌||◌, Bool, IsTrue, Option, Some, None, nat_le, nat_lt, true, false}
use Rattle.std.specs.List.{AllByRecursion, IsDistinct, list_all, list_any}
use Rattle.std.proofs.Math.Dec.{eqb}
use Rattle.std.proofs.lemmas.Bool.Decides.{nat_tests}
use Rattle.std.proofs.lemmas.List.{length-map}
use Rattle.std.proofs.lemmas.Map.Steps.{length-le_from_distinct_below}
use Rattle.mdc_ast.specs.declared.bound.Bound.TheVariants as bound
use Rattle.mdc_ast.specs.declared.definition.ColumnDef.{ColumnDef}
use Rattle.mdc_ast.specs.declared.definition.IndexDef.{IndexDef}
use Rattle.mdc_ast.specs.declared.definition.KeyPart.{KeyPart}
use Rattle.mdc_ast.specs.declared.definition.TableDef.{TableDef}
use Rattle.mdc_ast.specs.declared.name.Name.{Name}
use Rattle.mdc_ast.specs.declared.statement.KeyText.{KeyText}
use Rattle.mdc_ast.specs.Definitions.{AllPlacesDiffer, Definitions, IsShort, are_there, places_of}
use Rattle.mdc_ast.specs.TableLimits.{IsGoodIndex, is_given_name}
use Rattle.mdc_ast.specs.ValidDatabase.{IsValidIndex}
use Rattle.mdc_ast.proofs.DefinitionsLemmas.{neither}
use Rattle.mdc_ast.proofs.TestsLemmas.{and_true, both}
use Rattle.statement_meaning.specs.Binding.{bound_index, bound_key, columns_of, on_place}
use Rattle.statement_meaning.specs.Judged.{index_judged}
use Rattle.statement_meaning.specs.Judging.{in_order, on_defined}
use Rattle.statement_meaning.proofs.IndexLemmas.{MayHaveIndex, created_index}
use Rattle.statement_meaning.proofs.KeepingLemmas.{IsFaultless, is_faultless}
use Rattle.script_engine.specs.Defining.{IsNewIfMade, IsNewIndex}
use Rattle.script_engine.proofs.SpelledTablesLemmas.{IsGivenWord, IsIndexText}

-- ---- names, and places that differ

pub le_is_true : (i n : ℕ) → i ≤ n → IsTrue (nat_le i n)
le_is_true i n le = grind (arith, nat_tests, le)

pub given_name : (name : Name) → IsGivenWord name → IsShort name → IsTrue (is_given_name name)
given_name name given short = and_true _ _ (and_true _ _ given.0 given.1) (le_is_true (length name.0) 18 short)

turned : (a b : ℕ) → (a == b) ≡ false → eqb b a ≡ false
turned a b h = grind (arith, nat_tests, h)

apart_from : (x : ℕ) (xs : List ℕ) → list_any (λ other. other == x) xs ≡ false → AllByRecursion (λ y. eqb x y ≡ false) xs
apart_from x [] h = tt
apart_from x (y ∷ xs) h =
    let parts = neither (y == x) (list_any (λ other. other == x) xs) h in
    (turned y x parts.0, apart_from x xs parts.1)

distinct : (places : List ℕ) → AllPlacesDiffer places → IsDistinct eqb places
unfolding IsDistinct
distinct [] h = tt
distinct (place ∷ places) h = (apart_from place places h.0, distinct places h.1)

is_below : (n : ℕ) (places : List ℕ) (q : ℕ) → IsTrue (list_all (λ place. nat_lt place n) places) → list_any (eqb q) places ≡ true → q < n
is_below n [] q all h = cc
is_below n (place ∷ places) q all h =
    let parts : IsTrue (nat_lt place n) × IsTrue (list_all (λ place. nat_lt place n) places) = both _ _ all in
    by_first (eqb q place) refl parts.0 (is_below n places q parts.1) h
  where
    same : eqb q place ≡ true → IsTrue (nat_lt place n) → q < n
    same e lt = grind (arith, nat_tests, e, lt)

    by_first : (b : Bool) → eqb q place ≡ b → IsTrue (nat_lt place n) → (list_any (eqb q) places ≡ true → q < n) → (b || list_any (eqb q) places) ≡ true → q < n
    by_first true e lt behind h = same e lt
    by_first false e lt behind h = behind h

-- places that differ are no more than there are columns
pub few_places : (columns : List ColumnDef) (places : List ℕ) → IsTrue (are_there columns places) → AllPlacesDiffer places → length places ≤ length columns
few_places columns places there differ =
    length-le_from_distinct_below places (length columns) (distinct places differ) (λ q h. is_below (length columns) places q there h)

-- ---- the index

-- a CREATE INDEX that is written, and against which nothing is said, makes such a one
pub new_index : (defs : Definitions) (name : Name) (unique : Bool) (parts : List KeyText) (def : TableDef) → IsIndexText name parts → in_order (index_judged defs name parts def) ≡ []
    → IsNewIndex (bound_index def.columns name unique parts)
new_index defs name unique parts def text said =
    let none : IsFaultless (index_judged defs name parts def) = is_faultless (index_judged defs name parts def) said in
    let made : MayHaveIndex def (bound_index def.columns name unique parts) = created_index defs name unique parts def none.columns none.limits in
    let long : length (map (bound_key def.columns) parts) ≡ length parts = length-map parts (bound_key def.columns) in
    record { name = given_name name text.0 made.valid.short; some_parts = omega (arith, long, text.1); rootless = refl }

-- its table may have it; with `few` of MayGainIndex it is TakesIndex of index_building
pub good_index : (columns : List ColumnDef) (index : IndexDef) → length columns ≤ 16 → IsNewIndex index → IsValidIndex columns index → IsGoodIndex columns index
good_index columns index narrow new valid =
    let at_most : length (places_of index.parts) ≤ length columns = few_places columns (places_of index.parts) valid.there valid.apart in
    let long : length (places_of index.parts) ≡ length index.parts = length-map index.parts (λ (part : KeyPart). part.column) in
    record {
      name = new.name;
      some_parts = new.some_parts;
      few_parts = omega (arith, at_most, long, narrow);
      there = valid.there;
      apart = valid.apart;
      short = valid.short_key;
      root = omega (arith, new.rootless);
    }

-- bound to a place, or to none
pub made_index : (defs : Definitions) (name table : Name) (unique : Bool) (parts : List KeyText) (place : Option ℕ) (found : Option TableDef) → IsIndexText name parts
    → in_order (on_defined table found (index_judged defs name parts)) ≡ [] → IsNewIfMade (on_place place (columns_of found) (λ place columns. bound.CreateIndex place (bound_index columns name unique parts)))
made_index defs name table unique parts None found text said = tt
made_index defs name table unique parts (Some place) None text said = absurd (cc said)
made_index defs name table unique parts (Some place) (Some def) text said = new_index defs name unique parts def text said
