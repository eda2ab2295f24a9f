-- Row numbers and unique keys of a table, as they were judged.
use Rattle.std.proofs.Common.{◌≡◌, ◌≢◌, ◌<◌, ◌+◌, ◌↔◌, ◌∙◌, ℕ, List, [], ◌∷◌, length, take, get_or, sym, subst, arith, inl, inr}
use Rattle.std.specs.Prelude.{◌⊎◌, AllPairs, Contains, map}
use Rattle.std.specs.List.{AllByRecursion}
use Rattle.std.proofs.lemmas.List.{get_or-map, length-map, take_more}
use Rattle.mdc_ast.specs.declared.definition.IndexDef.{IndexDef}
use Rattle.mdc_ast.specs.declared.definition.TableDef.{TableDef}
use Rattle.mdc_sound.specs.BlockRules.{AreRowNumbersSound, IsUniqueSound}
use Rattle.mdc_sound.specs.TableRows.{PlacedRow}
use Rattle.mdc_sound.proofs.BlockRulesLemmas.{each_of}
use Rattle.file_check.specs.Judging.{HoldsUnbroken, IsLowestBreak}
use Rattle.file_check.specs.KeysJudged.{AreApartBelow, AreNumbersOf, AreTableKeys, BreaksTableKeys}
use Rattle.file_check.proofs.JudgingLemmas.{all_next}

-- ---- numbers

numbers_below : (next : ℕ) (rows : List PlacedRow) → AllByRecursion (λ n. n < next) (map (λ placed. placed.row.number) rows) → AllByRecursion (λ placed. placed.row.number < next) rows
numbers_below next [] below = tt
numbers_below next (x ∷ rows) below = (below.0, numbers_below next rows below.1)

below_numbers : (next : ℕ) (rows : List PlacedRow) → AllByRecursion (λ placed. placed.row.number < next) rows → AllByRecursion (λ n. n < next) (map (λ placed. placed.row.number) rows)
below_numbers next [] below = tt
below_numbers next (x ∷ rows) below = (below.0, below_numbers next rows below.1)

differ_as_mapped : {X Y : Type 0} (f : X → Y) (xs : List X) → AllPairs (λ a b. a ≢ b) (map f xs) → AllPairs (λ a b. f a ≢ f b) xs
differ_as_mapped f xs differ i j d below high same =
    differ i j (f d) below (omega (arith, high, length-map xs f)) (get_or-map f xs i d (f d) (omega arith) ∙ (same ∙ sym (get_or-map f xs j d (f d) high)))

mapped_differ : {X Y : Type 0} (f : X → Y) (xs : List X) → AllPairs (λ a b. f a ≢ f b) xs → AllPairs (λ a b. a ≢ b) (map f xs)
mapped_differ f [] differ i j d below high same = omega (arith, high)
mapped_differ f (x ∷ xs) differ i j d below high same =
    let there : j < length (x ∷ xs) = omega (arith, high, length-map (x ∷ xs) f) in
    differ i j x below there (sym (get_or-map f (x ∷ xs) i x d (omega arith)) ∙ (same ∙ get_or-map f (x ∷ xs) j x d there))

-- whether the numbers of the rows lie apart below the next one is whether they are sound
pub numbers_if_apart : (def : TableDef) (numbers : List ℕ) (rows : List PlacedRow) → AreNumbersOf numbers rows → AreApartBelow def.next numbers ↔ AreRowNumbersSound def rows
numbers_if_apart def numbers rows are = (
  λ apart. record {
    below_next = numbers_below def.next rows (subst (AllByRecursion (λ n. n < def.next)) are apart.below_next);
    differ = differ_as_mapped (λ placed. placed.row.number) rows (subst (λ (ns : List ℕ). AllPairs (λ a b. a ≢ b) ns) are apart.differ);
  },
  λ sound. record {
    below_next = subst (AllByRecursion (λ n. n < def.next)) (sym are) (below_numbers def.next rows sound.below_next);
    differ = subst (λ (ns : List ℕ). AllPairs (λ a b. a ≢ b) ns) (sym are) (mapped_differ (λ placed. placed.row.number) rows sound.differ);
  },
)

-- ---- a table

-- one index more
pub unique_more : (rows : List PlacedRow) (indexes : List IndexDef) (i : ℕ) (d : IndexDef) → i < length indexes → AllByRecursion (IsUniqueSound rows) (take i indexes) → IsUniqueSound rows (get_or indexes i d)
    → AllByRecursion (IsUniqueSound rows) (take (i + 1) indexes)
unique_more rows indexes i d low so here = subst (AllByRecursion (IsUniqueSound rows)) (sym (take_more indexes i d low)) (all_next (IsUniqueSound rows) (take i indexes) (get_or indexes i d) so here)

-- a table whose keys are sound, and one whose keys aren't
pub keys_sound : (def : TableDef) (rows : List PlacedRow) → AreTableKeys def rows → HoldsUnbroken (AreTableKeys def rows) (BreaksTableKeys def rows)
keys_sound def rows sound = record { holds = sound; unbroken = λ p breaks. none breaks.broken }
  where
    none : (AreRowNumbersSound def rows → ⊥) ⊎ ((index : IndexDef) × Contains def.indexes index × (IsUniqueSound rows index → ⊥)) → ⊥
    none (inl numbers) = numbers sound.numbers
    none (inr (index, there, unique)) = unique (each_of (IsUniqueSound rows) def.indexes index sound.unique there)

pub keys_broken : (def : TableDef) (rows : List PlacedRow) (page : ℕ) → page ≡ 1 + def.number
    → (AreRowNumbersSound def rows → ⊥) ⊎ ((index : IndexDef) × Contains def.indexes index × (IsUniqueSound rows index → ⊥)) → IsLowestBreak (BreaksTableKeys def rows) page
keys_broken def rows page is_its broken = record {
  breaks = record { is_its = is_its; broken = broken };
  lowest = λ p breaks. omega (arith, is_its, breaks.is_its);
}
