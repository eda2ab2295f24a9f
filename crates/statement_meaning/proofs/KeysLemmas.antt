-- Where no two rows are said to have equal keys, the rows keep the UNIQUE indexes of their table.
use Rattle.std.proofs.Common.{◌≡◌, ℕ, zero, suc, List, [], ◌∷◌, ◌++◌, Bool, true, false, refl, subst, arith}
use Rattle.std.specs.Prelude.{IsTrue, AllPairs, filter, flat_map, remove, ◌&&◌}
use Rattle.std.specs.List.{AllByRecursion}
use Rattle.std.proofs.lemmas.Bool.{false≢true}
use Rattle.std.proofs.lemmas.List.Elements.{All-from_recursion}
use Rattle.std.proofs.lemmas.List.Kept.{AllPairs-cons, AllPairs-filter}
use Rattle.mdc_values.specs.declared.value.Value.{Value}
use Rattle.mdc_ast.specs.declared.definition.IndexDef.{IndexDef}
use Rattle.mdc_ast.specs.declared.definition.KeyPart.{KeyPart}
use Rattle.mdc_ast.specs.declared.row.Row.{Row}
use Rattle.mdc_ast.specs.Truth.{value_at}
use Rattle.mdc_ast.specs.ValidDatabase.{AreSameAtParts, IsUniqueIn}
use Rattle.mdc_ast.proofs.DefinitionsLemmas.{neither}
use Rattle.mdc_ast.proofs.TestsLemmas.{and_true, both}
use Rattle.row_groups.specs.Numbers.{values_of}
use Rattle.row_groups.specs.Values.{belong_together}
use Rattle.row_groups.proofs.KeyLemmas.{grouped-refl}
use Rattle.statement_meaning.specs.Doing.{twin_causes}
use Rattle.statement_meaning.specs.Keys.{are_twins, has_twin, have_twins}
use Rattle.statement_meaning.proofs.CausesLemmas.{none_if, none_of_each}

-- rows with the same values in the columns of a key have equal keys
pub twins_if_same : (parts : List KeyPart) (a b : List Value) → AreSameAtParts parts a b → IsTrue (are_twins parts a b)
twins_if_same [] a b same = refl
twins_if_same (part ∷ parts) a b same =
    let itself : IsTrue (belong_together (value_at a part.column) (value_at a part.column)) =
    (both (belong_together (value_at a part.column) (value_at a part.column)) true (grouped-refl (part.column ∷ []) a)).0 in
    and_true (belong_together (value_at a part.column) (value_at b part.column)) (are_twins parts a b)
    (subst (λ value. IsTrue (belong_together (value_at a part.column) value)) same.0 itself) (twins_if_same parts a b same.1)

-- ---- rows that have keys of their own

apart_from : (parts : List KeyPart) (row : Row) (rows : List Row) → has_twin parts (values_of rows) row.values ≡ false → AllByRecursion (λ other. AreSameAtParts parts row.values other.values → ⊥) rows
apart_from parts row [] e = tt
apart_from parts row (other ∷ rows) e =
    let each = neither (are_twins parts row.values other.values) (has_twin parts (values_of rows) row.values) e in
    (λ same. false≢true (cc (each.0, twins_if_same parts row.values other.values same)), apart_from parts row rows each.1)

no_pair : {X : Type 0} (R : X → X → Type 0) → AllPairs R []
no_pair R i j d lt low = absurd (omega (arith, low))

all_apart : (parts : List KeyPart) (rows : List Row) → have_twins parts (values_of rows) ≡ false → AllPairs (λ a b. AreSameAtParts parts a.values b.values → ⊥) rows
all_apart parts [] e = no_pair (λ (a b : Row). AreSameAtParts parts a.values b.values → ⊥)
all_apart parts (row ∷ rows) e =
    let each = neither (has_twin parts (values_of rows) row.values) (have_twins parts (values_of rows)) e in
    AllPairs-cons (λ (a b : Row). AreSameAtParts parts a.values b.values → ⊥) row rows
    (All-from_recursion (λ (other : Row). AreSameAtParts parts row.values other.values → ⊥) rows (apart_from parts row rows each.0)) (all_apart parts rows each.1)

one_is_unique : (rows : List Row) (index : IndexDef) → twin_causes (values_of rows) index ≡ [] → IsUniqueIn rows index
one_is_unique rows index e unique = all_apart index.parts rows (by_test index.unique unique (none_if (index.unique && have_twins index.parts (values_of rows)) _ e))
  where
    by_test : (b : Bool) → IsTrue b → (b && have_twins index.parts (values_of rows)) ≡ false → have_twins index.parts (values_of rows) ≡ false
    by_test true is e = e
    by_test false is e = cc

-- where nothing is said of keys, each UNIQUE index is kept
pub all_are_unique : (rows : List Row) (indexes : List IndexDef) → flat_map (twin_causes (values_of rows)) indexes ≡ [] → AllByRecursion (IsUniqueIn rows) indexes
all_are_unique rows [] e = tt
all_are_unique rows (index ∷ indexes) e =
    let each = none_of_each (twin_causes (values_of rows)) index indexes e in
    (one_is_unique rows index each.0, all_are_unique rows indexes each.1)

-- ---- rows and indexes that are left

pub unique_among_fewer : (p : Row → Bool) (rows : List Row) (indexes : List IndexDef) → AllByRecursion (IsUniqueIn rows) indexes → AllByRecursion (IsUniqueIn (filter p rows)) indexes
unique_among_fewer p rows [] unique = tt
unique_among_fewer p rows (index ∷ indexes) unique =
    (λ is. AllPairs-filter (λ (a b : Row). AreSameAtParts index.parts a.values b.values → ⊥) p rows (unique.0 is), unique_among_fewer p rows indexes unique.1)

-- what holds of all holds of all but one
pub all-remove : {X : Type 0} (P : X → Type 0) (xs : List X) (i : ℕ) → AllByRecursion P xs → AllByRecursion P (remove xs i)
all-remove P [] zero all = tt
all-remove P [] (suc i) all = tt
all-remove P (x ∷ xs) zero all = all.1
all-remove P (x ∷ xs) (suc i) all = (all.0, all-remove P xs i all.1)

-- and of one more behind them
pub all-last : {X : Type 0} (P : X → Type 0) (xs : List X) (x : X) → AllByRecursion P xs → P x → AllByRecursion P (xs ++ x ∷ [])
all-last P [] x all is = (is, tt)
all-last P (first ∷ xs) x all is = (all.0, all-last P xs x all.1 is)
