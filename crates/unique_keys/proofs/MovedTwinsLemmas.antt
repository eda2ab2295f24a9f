-- Whether two rows have equal keys, in any order of the rows, and among those that an UPDATE leaves.
use Rattle.std.proofs.Common.{◌≡◌, List, [], ◌∷◌, ◌++◌, map, Bool, true, false, cond, not, refl, sym, ap, subst, arith, ◌∙◌}
use Rattle.std.specs.Prelude.{AllPairs, IsPermutation, filter, ◌||◌, if◌then◌else◌, Option}
use Rattle.std.specs.List.{AllByRecursion, list_any}
use Rattle.std.proofs.lemmas.List.{map-append}
use Rattle.std.proofs.lemmas.List.Elements.{All-from_recursion}
use Rattle.std.proofs.lemmas.List.Kept.{AllPairs-cons}
use Rattle.std.proofs.lemmas.List.Sorted.{IsPermutation-filter_both, IsPermutation-map, IsPermutation-sym}
use Rattle.mdc_values.specs.declared.value.Value.{Value}
use Rattle.mdc_ast.specs.declared.bound.BoundSet.{BoundSet}
use Rattle.mdc_ast.specs.declared.definition.KeyPart.{KeyPart}
use Rattle.mdc_ast.specs.declared.predicate.Pred.{Pred}
use Rattle.mdc_ast.specs.declared.row.Row.{Row}
use Rattle.mdc_ast.specs.Truth.{qualifies}
use Rattle.mdc_ast.proofs.DefinitionsLemmas.{neither}
use Rattle.row_groups.specs.Numbers.{values_of}
use Rattle.statement_meaning.specs.Doing.{changed_row, set_on}
use Rattle.statement_meaning.specs.Keys.{are_twins, has_twin, have_twins}
use Rattle.row_checks.proofs.TwinsLemmas.{twins-sym, twins_of_both}
use Rattle.row_checks.proofs.UniqueLemmas.{each_place, head_pairs, tail_pairs}
use Rattle.index_building.proofs.PairsInOrderLemmas.{pairs_in_order}

-- ---- in any order

-- two rows have keys of their own
abbrev AreApart : List KeyPart → List Value → List Value → Type 0
AreApart parts a b = are_twins parts a b ≡ false

-- a row that has the key of none of these has one apart from each
pub apart_from : (parts : List KeyPart) (row : List Value) (rows : List (List Value)) → has_twin parts rows row ≡ false → AllByRecursion (AreApart parts row) rows
apart_from parts row [] e = tt
apart_from parts row (other ∷ rows) e =
    let each = neither (are_twins parts row other) (has_twin parts rows row) e in
    (each.0, apart_from parts row rows each.1)

no_pair : {X : Type 0} (R : X → X → Type 0) → AllPairs R []
no_pair R i j d lt low = absurd (omega (arith, low))

all_apart : (parts : List KeyPart) (rows : List (List Value)) → have_twins parts rows ≡ false → AllPairs (AreApart parts) rows
all_apart parts [] e = no_pair (AreApart parts)
all_apart parts (row ∷ rows) e =
    let each = neither (has_twin parts rows row) (have_twins parts rows) e in
    AllPairs-cons (AreApart parts) row rows (All-from_recursion (AreApart parts row) rows (apart_from parts row rows each.0)) (all_apart parts rows each.1)

none_has : (parts : List KeyPart) (row : List Value) (rows : List (List Value)) → AllByRecursion (AreApart parts row) rows → has_twin parts rows row ≡ false
none_has parts row [] apart = refl
none_has parts row (other ∷ rows) apart = rw (apart.0, none_has parts row rows apart.1) refl

none_have : (parts : List KeyPart) (rows : List (List Value)) → AllPairs (AreApart parts) rows → have_twins parts rows ≡ false
none_have parts [] apart = refl
none_have parts (row ∷ rows) apart =
    rw (none_has parts row rows (each_place (AreApart parts row) row rows (head_pairs (AreApart parts) row rows apart)), none_have parts rows (tail_pairs (AreApart parts) row rows apart)) refl

none_moved : (parts : List KeyPart) (xs ys : List (List Value)) → IsPermutation xs ys → have_twins parts xs ≡ false → have_twins parts ys ≡ false
none_moved parts xs ys same e =
    none_have parts ys (pairs_in_order (AreApart parts) (λ a b apart. twins-sym parts b a ∙ apart) xs ys same (all_apart parts xs e))

-- whether two rows have equal keys doesn't hang on their order
pub twins_moved : (parts : List KeyPart) (xs ys : List (List Value)) → IsPermutation xs ys → have_twins parts xs ≡ have_twins parts ys
twins_moved parts xs ys same = by_tests (have_twins parts xs) (have_twins parts ys) refl refl
  where
    by_tests : (b c : Bool) → have_twins parts xs ≡ b → have_twins parts ys ≡ c → b ≡ c
    by_tests true true e f = refl
    by_tests false false e f = refl
    by_tests true false e f = sym e ∙ none_moved parts ys xs (IsPermutation-sym xs ys same) f
    by_tests false true e f = sym (sym f ∙ none_moved parts xs ys same e)

-- ---- as an UPDATE leaves them

-- a row that doesn't qualify stays
stays : (sets : List BoundSet) (pred : Option Pred) (rows : List Row)
    → map (changed_row sets pred) (filter (λ row. not (qualifies pred row.values)) rows) ≡ filter (λ row. not (qualifies pred row.values)) rows
stays sets pred [] = refl
stays sets pred (row ∷ rows) = by_test (qualifies pred row.values) refl (stays sets pred rows)
  where
    others : List Row
    others = filter (λ (other : Row). not (qualifies pred other.values)) rows

    by_test : (b : Bool) → qualifies pred row.values ≡ b → map (changed_row sets pred) others ≡ others
        → map (changed_row sets pred) (cond (not b) (row ∷ others) others) ≡ cond (not b) (row ∷ others) others
    by_test true is rest = rest
    by_test false is rest =
        ap (λ first. first ∷ map (changed_row sets pred) others) (ap (λ b. if b then record row { values = set_on row.values sets row.values } else row) is) ∙ ap (λ more. row ∷ more) rest

-- the rows that an UPDATE leaves are those that don't qualify, and those that the others become
pub changed_split : (sets : List BoundSet) (pred : Option Pred) (rows : List Row)
    → IsPermutation (map (changed_row sets pred) rows) (filter (λ row. not (qualifies pred row.values)) rows ++ map (changed_row sets pred) (filter (λ row. qualifies pred row.values) rows))
changed_split sets pred rows =
    let stay : Row → Bool = λ row. not (qualifies pred row.values) in
    let go : Row → Bool = λ row. qualifies pred row.values in
    subst (IsPermutation (map (changed_row sets pred) rows))
    (map-append (changed_row sets pred) (filter stay rows) (filter go rows) ∙ ap (λ front. front ++ map (changed_row sets pred) (filter go rows)) (stays sets pred rows))
    (IsPermutation-map (changed_row sets pred) rows (filter stay rows ++ filter go rows) (IsPermutation-filter_both stay go (λ row. twice (qualifies pred row.values)) rows))
  where
    twice : (b : Bool) → b ≡ not (not b)
    twice true = refl
    twice false = refl

-- so are keys judged on those that stay with those that come
pub updated_twins : (parts : List KeyPart) (sets : List BoundSet) (pred : Option Pred) (rows : List Row)
    → have_twins parts (values_of (map (changed_row sets pred) rows))
    ≡ have_twins parts (values_of (filter (λ row. not (qualifies pred row.values)) rows) ++ values_of (map (changed_row sets pred) (filter (λ row. qualifies pred row.values) rows)))
updated_twins parts sets pred rows =
    let stay : List Row = filter (λ (row : Row). not (qualifies pred row.values)) rows in
    let come : List Row = map (changed_row sets pred) (filter (λ (row : Row). qualifies pred row.values) rows) in
    twins_moved parts (values_of (map (changed_row sets pred) rows)) (values_of (stay ++ come))
    (IsPermutation-map (λ (row : Row). row.values) (map (changed_row sets pred) rows) (stay ++ come) (changed_split sets pred rows))
    ∙ ap (have_twins parts) (map-append (λ (row : Row). row.values) stay come)

-- ---- rows that stay, and rows that come

-- where those that stay have keys of their own: one that comes has the key of one that stays, or two that come have equal ones
pub clash_of_both : (parts : List KeyPart) (stay come : List (List Value)) → have_twins parts stay ≡ false
    → have_twins parts (stay ++ come) ≡ (list_any (has_twin parts stay) come || have_twins parts come)
clash_of_both parts stay come none = twins_of_both parts stay come ∙ ap (λ b. (b || list_any (has_twin parts stay) come) || have_twins parts come) none
