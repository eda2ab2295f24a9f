-- What holds of any two of some elements holds of a table and a later one, and of an index of each.
use Rattle.std.proofs.Common.{◌≡◌, ◌<◌, ℕ, zero, suc, List, [], ◌∷◌, ◌++◌, Option, Some, None, arith, sym, subst, inl, inr}
use Rattle.std.specs.Prelude.{AllPairs, Contains, flat_map, map, slice_get}
use Rattle.std.proofs.lemmas.List.Concat.{flat_map-cons}
use Rattle.std.proofs.lemmas.List.Elements.{Contains-append_right}
use Rattle.mdc_ast.specs.declared.definition.IndexDef.{IndexDef}
use Rattle.mdc_ast.specs.declared.definition.TableDef.{TableDef}
use Rattle.block_map.proofs.MapLinesLemmas.{contains_cases}
use Rattle.mdc_sound.specs.SpaceRules.{tables_there}
use Rattle.mdc_sound.specs.TableViews.{TableView}
use Rattle.mdc_sound.proofs.ElementsLemmas.{contains_flat, in_map}
use Rattle.mdc_sound.proofs.SpaceRulesLemmas.{same_table}
use Rattle.file_check.proofs.KnownTablesLemmas.{placed_is_there}
use Rattle.file_check.proofs.SharedNamesLemmas.{pairs_first, pairs_rest}

-- an element of the first list, and one of the second
pub pairs_across : {X : Type 0} (R : X → X → Type 0) (xs ys : List X) (x y : X) → AllPairs R (xs ++ ys) → Contains xs x → Contains ys y → R x y
pairs_across R [] ys x y pairs (k, low, at) other = absurd (omega (arith, low))
pairs_across R (first ∷ xs) ys x y pairs mine other = elim (contains_cases x first xs mine) [
  | inl same ↦ subst (λ z. R z y) same (pairs_first R first (xs ++ ys) pairs y (Contains-append_right xs ys y other))
  | inr later ↦ pairs_across R xs ys x y (pairs_rest R first (xs ++ ys) pairs) later other
]

-- any two of the second
pub pairs_behind : {X : Type 0} (R : X → X → Type 0) (xs ys : List X) → AllPairs R (xs ++ ys) → AllPairs R ys
pairs_behind R [] ys pairs = pairs
pairs_behind R (first ∷ xs) ys pairs = pairs_behind R xs ys (pairs_rest R first (xs ++ ys) pairs)

-- two definitions
pub definitions_later : (R : TableDef → TableDef → Type 0) (places : List (Option TableView)) (t u : ℕ) (a b : TableView) → t < u → slice_get places t ≡ Some (Some a)
    → slice_get places u ≡ Some (Some b) → AllPairs R (map (λ (table : TableView). table.def) (tables_there places)) → R a.def b.def
definitions_later R [] t u a b low at other pairs = absurd (cc)
definitions_later R (place ∷ places) t zero a b low at other pairs = absurd (omega (arith, low))
definitions_later R (None ∷ places) zero (suc u) a b low at other pairs = absurd (cc)
definitions_later R (Some first ∷ places) zero (suc u) a b low at other pairs =
    subst (λ (d : TableView). R d.def b.def) (same_table first a at)
    (pairs_first R first.def (map (λ (table : TableView). table.def) (tables_there places)) pairs b.def (in_map (λ (table : TableView). table.def) (tables_there places) b (placed_is_there places u b other)))
definitions_later R (None ∷ places) (suc t) (suc u) a b low at other pairs = definitions_later R places t u a b (omega (arith, low)) at other pairs
definitions_later R (Some first ∷ places) (suc t) (suc u) a b low at other pairs =
    definitions_later R places t u a b (omega (arith, low)) at other (pairs_rest R first.def (map (λ (table : TableView). table.def) (tables_there places)) pairs)

-- two indexes
pub indexes_later : (R : IndexDef → IndexDef → Type 0) (places : List (Option TableView)) (t u : ℕ) (a b : TableView) (i j : IndexDef) → t < u → slice_get places t ≡ Some (Some a)
    → slice_get places u ≡ Some (Some b) → Contains a.def.indexes i → Contains b.def.indexes j
    → AllPairs R (flat_map (λ (def : TableDef). def.indexes) (map (λ (table : TableView). table.def) (tables_there places))) → R i j
indexes_later R [] t u a b i j low at other mine theirs pairs = absurd (cc)
indexes_later R (place ∷ places) t zero a b i j low at other mine theirs pairs = absurd (omega (arith, low))
indexes_later R (None ∷ places) zero (suc u) a b i j low at other mine theirs pairs = absurd (cc)
indexes_later R (Some first ∷ places) zero (suc u) a b i j low at other mine theirs pairs =
    let defs = map (λ (table : TableView). table.def) (tables_there places) in
    let split = subst (AllPairs R) (flat_map-cons (λ (def : TableDef). def.indexes) first.def defs) pairs in
    pairs_across R first.def.indexes (flat_map (λ (def : TableDef). def.indexes) defs) i j split
    (subst (λ (d : TableView). Contains d.def.indexes i) (sym (same_table first a at)) mine)
    (contains_flat (λ (def : TableDef). def.indexes) defs b.def j (in_map (λ (table : TableView). table.def) (tables_there places) b (placed_is_there places u b other)) theirs)
indexes_later R (None ∷ places) (suc t) (suc u) a b i j low at other mine theirs pairs = indexes_later R places t u a b i j (omega (arith, low)) at other mine theirs pairs
indexes_later R (Some first ∷ places) (suc t) (suc u) a b i j low at other mine theirs pairs =
    let defs = map (λ (table : TableView). table.def) (tables_there places) in
    let split = subst (AllPairs R) (flat_map-cons (λ (def : TableDef). def.indexes) first.def defs) pairs in
    indexes_later R places t u a b i j (omega (arith, low)) at other mine theirs (pairs_behind R first.def.indexes (flat_map (λ (def : TableDef). def.indexes) defs) split)
