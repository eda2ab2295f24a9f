-- Keys that differ, in rows that stay and rows that come.
use Rattle.std.proofs.Common.{◌≡◌, ◌≢◌, ℕ, zero, suc, List, [], ◌∷◌, ◌++◌, refl, arith, sym, subst, get_or, inl, inr}
use Rattle.std.specs.Prelude.{AllPairs, Contains, None, map}
use Rattle.std.specs.List.{AllByRecursion}
use Rattle.std.proofs.lemmas.List.{get_or_default}
use Rattle.std.proofs.lemmas.List.Elements.{Contains-append_cases}
use Rattle.mdc_values.specs.declared.rid.Rid.{Rid}
use Rattle.mdc_values.specs.declared.value.Value.{Value}
use Rattle.mdc_ast.specs.declared.definition.TableDef.{TableDef}
use Rattle.mdc_sound.specs.TableRows.{PlacedRow}
use Rattle.mdc_sound.proofs.BlockRulesLemmas.{each_of}
use Rattle.mdc_sound.proofs.ElementsLemmas.{from_map}
use Rattle.record_index.specs.RecordIndexes.{key_in_record_index}
use Rattle.live_rows.specs.Twins.{FindsTwin}

-- pairs within two lists, and across them, are the pairs of both together
pairs_joined : {X : Type 0} (R : X → X → Type 0) (xs ys : List X) → AllPairs R xs → AllPairs R ys → ((x y : X) → Contains xs x → Contains ys y → R x y) → AllPairs R (xs ++ ys)
pairs_joined R [] ys within behind across = behind
pairs_joined {X} R (x ∷ xs) ys within behind across =
    pairs (pairs_joined R xs ys (λ i j d low high. within (suc i) (suc j) d (omega (arith, low)) (omega (arith, high))) behind (λ a b there other. across a b (suc there.0, omega (arith, there.1), there.2) other))
  where
    first : (z : X) → Contains (xs ++ ys) z → R x z
    first z there = elim (Contains-append_cases xs ys z there) [
      | inl here ↦ subst (R x) here.2 (within 0 (suc here.0) z (omega arith) (omega (arith, here.1)))
      | inr other ↦ across x z (0, omega arith, refl) other
    ]

    pairs : AllPairs R (xs ++ ys) → AllPairs R (x ∷ xs ++ ys)
    pairs rest i zero d low high = absurd (omega (arith, low))
    pairs rest zero (suc j) d low high = first (get_or (xs ++ ys) j d) (j, omega (arith, high), get_or_default (xs ++ ys) j (get_or (xs ++ ys) j d) d (omega (arith, high)))
    pairs rest (suc i) (suc j) d low high = rest i j d (omega (arith, low)) (omega (arith, high))

pub no_doubles : (def : TableDef) (index : ℕ) (rows stay : List PlacedRow) (come : List (List Value)) (but : List Rid) → ((placed : PlacedRow) → Contains stay placed → Contains rows placed × (Contains but placed.rid → ⊥))
    → AllPairs (λ a b. key_in_record_index def index a ≢ key_in_record_index def index b) (map (λ placed. placed.row.values) stay)
    → AllPairs (λ a b. key_in_record_index def index a ≢ key_in_record_index def index b) come → AllByRecursion (λ values. FindsTwin def index rows values but None) come
    → AllPairs (λ a b. key_in_record_index def index a ≢ key_in_record_index def index b) (map (λ placed. placed.row.values) stay ++ come)
no_doubles def index rows stay come but are differ apart none =
    pairs_joined (λ a b. key_in_record_index def index a ≢ key_in_record_index def index b) (map (λ placed. placed.row.values) stay) come differ apart across
  where
    across : (a b : List Value) → Contains (map (λ placed. placed.row.values) stay) a → Contains come b → key_in_record_index def index a ≢ key_in_record_index def index b
    across a b there comes same =
        let r = from_map (λ (placed : PlacedRow). placed.row.values) stay a there in
        let of = are r.0 r.1 in
        each_of (λ values. FindsTwin def index rows values but None) come b none comes r.0 (record { there = of.0; same_key = subst (λ vs. key_in_record_index def index vs ≡ key_in_record_index def index b) (sym r.2) same; outside = of.1 })
