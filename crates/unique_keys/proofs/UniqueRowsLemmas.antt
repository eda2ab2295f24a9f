-- Unique keys of the rows of a table on pages, and of the plain table that they stand for.
use Rattle.std.proofs.Common.{◌≡◌, List, [], ◌∷◌, map, Bool, arith, cond, false, sym, true}
use Rattle.std.specs.Prelude.{AllPairs, IsPermutation, IsTrue, filter}
use Rattle.std.specs.List.{AllByRecursion}
use Rattle.std.proofs.lemmas.List.Elements.{All-from_recursion}
use Rattle.std.proofs.lemmas.List.Kept.{AllPairs-cons, AllPairs-filter}
use Rattle.std.proofs.lemmas.List.Sorted.{IsPermutation-sym}
use Rattle.mdc_values.specs.declared.value.Value.{Value}
use Rattle.mdc_ast.specs.declared.definition.ColumnDef.{ColumnDef}
use Rattle.mdc_ast.specs.declared.definition.IndexDef.{IndexDef}
use Rattle.mdc_ast.specs.declared.definition.KeyPart.{KeyPart}
use Rattle.mdc_ast.specs.declared.row.Row.{Row}
use Rattle.mdc_ast.specs.Database.{fits_all}
use Rattle.mdc_ast.specs.ValidDatabase.{AreSameAtParts, IsUniqueIn}
use Rattle.row_groups.specs.Numbers.{values_of}
use Rattle.statement_meaning.specs.Keys.{have_twins}
use Rattle.row_checks.proofs.UniqueLemmas.{each_place, head_pairs, none_twins, tail_pairs}
use Rattle.mdc_sound.specs.BlockRules.{IsUniqueSound}
use Rattle.mdc_sound.specs.TableRows.{PlacedRow}
use Rattle.index_building.proofs.PairsInOrderLemmas.{pairs_in_order}

-- ---- pairs of a list, and of what is made of its elements

no_pair : {X : Type 0} (R : X → X → Type 0) → AllPairs R []
no_pair R i j d lt low = absurd (omega (arith, low))

module _ {X Y : Type 0} (f : X → Y) where
  all_mapped : (P : Y → Type 0) (xs : List X) → AllByRecursion (λ x. P (f x)) xs → AllByRecursion P (map f xs)
  all_mapped P [] all = tt
  all_mapped P (x ∷ xs) all = (all.0, all_mapped P xs all.1)

  all_of_mapped : (P : Y → Type 0) (xs : List X) → AllByRecursion P (map f xs) → AllByRecursion (λ x. P (f x)) xs
  all_of_mapped P [] all = tt
  all_of_mapped P (x ∷ xs) all = (all.0, all_of_mapped P xs all.1)

  pairs_mapped : (R : Y → Y → Type 0) (xs : List X) → AllPairs (λ a b. R (f a) (f b)) xs → AllPairs R (map f xs)
  pairs_mapped R [] all = no_pair R
  pairs_mapped R (x ∷ xs) all =
      let S : X → X → Type 0 = λ a b. R (f a) (f b) in
      AllPairs-cons R (f x) (map f xs) (All-from_recursion (R (f x)) (map f xs) (all_mapped (R (f x)) xs (each_place (S x) x xs (head_pairs S x xs all)))) (pairs_mapped R xs (tail_pairs S x xs all))

  pairs_of_mapped : (R : Y → Y → Type 0) (xs : List X) → AllPairs R (map f xs) → AllPairs (λ a b. R (f a) (f b)) xs
  pairs_of_mapped R [] all = no_pair (λ (a b : X). R (f a) (f b))
  pairs_of_mapped R (x ∷ xs) all =
      let S : X → X → Type 0 = λ a b. R (f a) (f b) in
      AllPairs-cons S x xs (All-from_recursion (S x) xs (all_of_mapped (R (f x)) xs (each_place (R (f x)) (f x) (map f xs) (head_pairs R (f x) (map f xs) all))))
      (pairs_of_mapped R xs (tail_pairs R (f x) (map f xs) all))

-- ---- one index

same_turned : (parts : List KeyPart) (a b : List Value) → AreSameAtParts parts a b → AreSameAtParts parts b a
same_turned [] a b same = tt
same_turned (part ∷ parts) a b same = (sym same.0, same_turned parts a b same.1)

-- two rows have keys of their own
abbrev AreApart : IndexDef → Row → Row → Type 0
AreApart index a b = AreSameAtParts index.parts a.values b.values → ⊥

apart_turned : (index : IndexDef) (a b : Row) → AreApart index a b → AreApart index b a
apart_turned index a b apart same = apart (same_turned index.parts b.values a.values same)

sound_index : (placed : List PlacedRow) (rows : List Row) (index : IndexDef) → IsPermutation (map (λ one. one.row) placed) rows → IsUniqueIn rows index → IsUniqueSound placed index
sound_index placed rows index same is unique =
    pairs_of_mapped (λ (one : PlacedRow). one.row) (AreApart index) placed
    (pairs_in_order (AreApart index) (apart_turned index) rows (map (λ (one : PlacedRow). one.row) placed) (IsPermutation-sym _ rows same) (is unique))

plain_index : (placed : List PlacedRow) (rows : List Row) (index : IndexDef) → IsPermutation (map (λ one. one.row) placed) rows → IsUniqueSound placed index → IsUniqueIn rows index
plain_index placed rows index same is unique =
    pairs_in_order (AreApart index) (apart_turned index) (map (λ (one : PlacedRow). one.row) placed) rows same (pairs_mapped (λ (one : PlacedRow). one.row) (AreApart index) placed (is unique))

-- ---- all indexes of a table

-- rule 12 of the placed rows, where the plain table keeps its UNIQUE indexes
pub keys_of_plain : (placed : List PlacedRow) (rows : List Row) (indexes : List IndexDef) → IsPermutation (map (λ one. one.row) placed) rows → AllByRecursion (IsUniqueIn rows) indexes
    → AllByRecursion (IsUniqueSound placed) indexes
keys_of_plain placed rows [] same all = tt
keys_of_plain placed rows (index ∷ indexes) same all = (sound_index placed rows index same all.0, keys_of_plain placed rows indexes same all.1)

-- and the other way round
pub keys_of_placed : (placed : List PlacedRow) (rows : List Row) (indexes : List IndexDef) → IsPermutation (map (λ one. one.row) placed) rows → AllByRecursion (IsUniqueSound placed) indexes
    → AllByRecursion (IsUniqueIn rows) indexes
keys_of_placed placed rows [] same all = tt
keys_of_placed placed rows (index ∷ indexes) same all = (plain_index placed rows index same all.0, keys_of_placed placed rows indexes same all.1)

-- ---- rows that stay

all_filtered : {X : Type 0} (P : X → Type 0) (p : X → Bool) (xs : List X) → AllByRecursion P xs → AllByRecursion P (filter p xs)
all_filtered P p [] all = tt
all_filtered P p (x ∷ xs) all = by_test (p x) (all_filtered P p xs all.1)
  where
    by_test : (b : Bool) → AllByRecursion P (filter p xs) → AllByRecursion P (cond b (x ∷ filter p xs) (filter p xs))
    by_test true rest = (all.0, rest)
    by_test false rest = rest

-- of rows that fit and keep a UNIQUE index no two of those that pass a test have equal keys
pub stay_apart : (columns : List ColumnDef) (index : IndexDef) (placed : List PlacedRow) (stays : PlacedRow → Bool) → AllByRecursion (λ one. IsTrue (fits_all columns one.row.values)) placed
    → IsUniqueSound placed index → IsTrue index.unique → have_twins index.parts (values_of (map (λ one. one.row) (filter stays placed))) ≡ false
stay_apart columns index placed stays fit sound unique =
    let Fits : PlacedRow → Type 0 = λ one. IsTrue (fits_all columns one.row.values) in
    none_twins columns index.parts (map (λ (one : PlacedRow). one.row) (filter stays placed))
    (all_mapped (λ (one : PlacedRow). one.row) (λ (row : Row). IsTrue (fits_all columns row.values)) (filter stays placed)
    (all_filtered Fits stays placed fit))
    (pairs_mapped (λ (one : PlacedRow). one.row) (AreApart index) (filter stays placed)
    (AllPairs-filter (λ (a b : PlacedRow). AreApart index a.row b.row) stays placed (sound unique)))
