-- What the cells of rows settle of predicates, and what is left of them.
use Rattle.std.proofs.Common.{◌≡◌, ◌⊎◌, ◌∙◌, ◌<◌, ◌+◌, ℕ, suc, List, [], ◌∷◌, ◌++◌, Bool, true, false, not, length, map, refl, sym, ap, arith, subst, inl, inr, None, Some, if◌then◌else◌, get_or, take}
use Rattle.std.specs.Prelude.{◌&&◌, ◌||◌, Contains, IsTrue}
use Rattle.std.specs.List.{All}
use Rattle.std.proofs.lemmas.Bool.{cases_eq, eq-eqb, false≢true, ne_eqb}
use Rattle.std.proofs.lemmas.List.{map-append, take_more}
use Rattle.mdc_values.specs.declared.truth.Truth.{Truth}
use Rattle.mdc_values.specs.declared.truth.Truth.TheVariants.{True, False, Unknown}
use Rattle.mdc_values.specs.declared.value.Value.{Value}
use Rattle.mdc_ast.specs.declared.definition.TableDef.{TableDef}
use Rattle.mdc_ast.specs.declared.predicate.Atom.{Atom}
use Rattle.mdc_ast.specs.declared.predicate.Pred.{Pred}
use Rattle.mdc_ast.specs.declared.predicate.Pred.TheVariants as pred
use Rattle.mdc_ast.specs.declared.predicate.Right.TheVariants as right
use Rattle.mdc_ast.specs.declared.predicate.Test.{Test}
use Rattle.mdc_ast.specs.declared.predicate.Test.TheVariants.{Compare, Between, Within, IsNull}
use Rattle.mdc_ast.specs.Truth.{all_of, all_true, and_of, any_of, is_true, may_judge, may_test, negated_if, not_of, or_of, test_truth, truth, value_at, has_column}
use Rattle.mdc_ast.proofs.PredLemmas.{may_judge-All, may_judge-Any, may_judge-Atom, may_judge-Not, truth-All, truth-Any, truth-Atom, truth-Not}
use Rattle.mdc_ast.proofs.TestsLemmas.{both}
use Rattle.cell_filter.specs.Cells.{any_true, is_against_literals, joined_by, may_hold_at, may_hold_under, may_pass, may_pass_in, value_in_cell}
use Rattle.cell_filter.proofs.CellsLemmas.{may_hold_under-All, may_hold_under-Any, may_hold_under-Atom, may_hold_under-Not}
use Rattle.predicate.proofs.OppositeLemmas.{all_of-not_of, any_of-not_of}
use Rattle.predicate.proofs.PushedLemmas.{negated_if-not}
use Rattle.block_map.proofs.MapLinesLemmas.{contains_cases}
use Rattle.table_trees.specs.RowCells.{cell_places, cell_values}
use Rattle.table_scan.specs.Settled.{AreLeftOf, HasOpenTest, IsLeftOf, IsSettled, are_true, may_hold_all, may_judge_all}
use Rattle.table_scan.specs.Settled.HasOpenTest.{in_all, in_any}

-- ---- a test

-- the value that the cell of a row has in one of its columns
value_in_cell-there : (places : List ℕ) (values : List Value) (column : ℕ) → Contains places column → value_in_cell places (map (value_at values) places) column ≡ Some (value_at values column)
value_in_cell-there [] values column there = absurd (omega (arith, there.1))
value_in_cell-there (place ∷ places) values column there = elim (cases_eq place column) [
  | inl e ↦ ap (λ b. if b then Some (value_at values place) else value_in_cell places (map (value_at values) places) column) (eq-eqb place column e) ∙ ap (λ p. Some (value_at values p)) e
  | inr n ↦ ap (λ b. if b then Some (value_at values place) else value_in_cell places (map (value_at values) places) column) (ne_eqb place column n)
      ∙ value_in_cell-there places values column (elim (contains_cases column place places there) [ inl here ↦ absurd (n here) | inr later ↦ later ])
]

-- a test against literals looks at no other column
test_truth-alone : (values : List Value) (value : Value) (test : Test) → is_against_literals test ≡ true → test_truth [] value test ≡ test_truth values value test
test_truth-alone values value (Compare op (right.Value other)) alone = refl
test_truth-alone values value (Compare op (right.Column column)) alone = absurd (false≢true alone)
test_truth-alone values value (Between low high) alone = refl
test_truth-alone values value (Within others) alone = refl
test_truth-alone values value IsNull alone = refl

may_test-alone : (values : List Value) (value : Value) (test : Test) → is_against_literals test ≡ true → may_test [] value test ≡ may_test values value test
may_test-alone values value (Compare op (right.Value other)) alone = refl
may_test-alone values value (Compare op (right.Column column)) alone = absurd (false≢true alone)
may_test-alone values value (Between low high) alone = refl
may_test-alone values value (Within others) alone = refl
may_test-alone values value IsNull alone = refl

may_pass-alone : (negated : Bool) (values : List Value) (value : Value) (atom : Atom) → is_against_literals atom.test ≡ true → IsTrue (may_test values value atom.test)
    → may_pass negated atom value ≡ is_true (negated_if negated (negated_if atom.negated (test_truth values value atom.test)))
may_pass-alone negated values value atom alone may =
    let own : Bool = is_true (negated_if negated (negated_if atom.negated (test_truth [] value atom.test))) in
    ap (λ b. if b && may_test [] value atom.test then own else true) alone
    ∙ ap (λ b. if b then own else true) (may_test-alone values value atom.test alone ∙ may)
    ∙ ap (λ t. is_true (negated_if negated (negated_if atom.negated t))) (test_truth-alone values value atom.test alone)

-- a test of a dimension column against literals is settled
pub IsSettled-Atom : (def : TableDef) (atom : Atom) → is_against_literals atom.test ≡ true → Contains (cell_places def) atom.column → IsSettled def (pred.Atom atom)
IsSettled-Atom def atom alone there values judged negated =
    let tested : IsTrue (may_test values (value_at values atom.column) atom.test) =
    (both (has_column values atom.column) (may_test values (value_at values atom.column) atom.test) (subst IsTrue (may_judge-Atom values atom) judged)).1 in
    may_hold_under-Atom (cell_places def) (cell_values def values) atom negated
    ∙ ap (may_pass_in negated atom) (value_in_cell-there (cell_places def) values atom.column there)
    ∙ may_pass-alone negated values (value_at values atom.column) atom alone tested
    ∙ sym (ap (λ t. is_true (negated_if negated t)) (truth-Atom values atom))

-- ---- parts that AND and OR join

is_true-and_of : (a b : Truth) → (is_true a && is_true b) ≡ is_true (and_of a b)
is_true-and_of True b = refl
is_true-and_of False b = refl
is_true-and_of Unknown True = refl
is_true-and_of Unknown False = refl
is_true-and_of Unknown Unknown = refl

is_true-or_of : (a b : Truth) → (is_true a || is_true b) ≡ is_true (or_of a b)
is_true-or_of True b = refl
is_true-or_of False b = refl
is_true-or_of Unknown True = refl
is_true-or_of Unknown False = refl
is_true-or_of Unknown Unknown = refl

all_true-is_true : {X : Type 0} (f : X → Truth) (xs : List X) → all_true (map (λ x. is_true (f x)) xs) ≡ is_true (all_of (map f xs))
all_true-is_true f [] = refl
all_true-is_true f (x ∷ xs) = ap (λ b. is_true (f x) && b) (all_true-is_true f xs) ∙ is_true-and_of (f x) (all_of (map f xs))

any_true-is_true : {X : Type 0} (f : X → Truth) (xs : List X) → any_true (map (λ x. is_true (f x)) xs) ≡ is_true (any_of (map f xs))
any_true-is_true f [] = refl
any_true-is_true f (x ∷ xs) = ap (λ b. is_true (f x) || b) (any_true-is_true f xs) ∙ is_true-or_of (f x) (any_of (map f xs))

-- of parts that are settled may hold what is true of them
each_settled : (def : TableDef) (values : List Value) (negated : Bool) (parts : List Pred) → All (IsSettled def) parts → IsTrue (may_judge_all values parts)
    → map (λ part. may_hold_under (cell_places def) (cell_values def values) part negated) parts ≡ map (λ part. is_true (negated_if negated (truth values part))) parts
each_settled def values negated [] settled judged = refl
each_settled def values negated (part ∷ parts) settled judged =
    let (here, behind) = both (may_judge values part) (may_judge_all values parts) judged in
    let own : IsSettled def part = settled 0 part (omega arith) in
    ap (λ b. b ∷ map (λ part. may_hold_under (cell_places def) (cell_values def values) part negated) parts) (own values here negated)
    ∙ ap (λ rest. is_true (negated_if negated (truth values part)) ∷ rest) (each_settled def values negated parts (λ k d low. settled (suc k) d (omega (arith, low))) behind)

joined-All : (values : List Value) (parts : List Pred) (negated : Bool)
    → joined_by (not negated) (map (λ part. is_true (negated_if negated (truth values part))) parts) ≡ is_true (negated_if negated (truth values (pred.All parts)))
joined-All values parts false = all_true-is_true (truth values) parts ∙ sym (ap is_true (truth-All values parts))
joined-All values parts true =
    any_true-is_true (λ part. not_of (truth values part)) parts ∙ ap is_true (any_of-not_of (truth values) parts) ∙ sym (ap (λ t. is_true (not_of t)) (truth-All values parts))

joined-Any : (values : List Value) (parts : List Pred) (negated : Bool)
    → joined_by negated (map (λ part. is_true (negated_if negated (truth values part))) parts) ≡ is_true (negated_if negated (truth values (pred.Any parts)))
joined-Any values parts false = any_true-is_true (truth values) parts ∙ sym (ap is_true (truth-Any values parts))
joined-Any values parts true =
    all_true-is_true (λ part. not_of (truth values part)) parts ∙ ap is_true (all_of-not_of (truth values) parts) ∙ sym (ap (λ t. is_true (not_of t)) (truth-Any values parts))

IsSettled-All : (def : TableDef) (parts : List Pred) → All (IsSettled def) parts → IsSettled def (pred.All parts)
IsSettled-All def parts settled values judged negated =
    may_hold_under-All (cell_places def) (cell_values def values) parts negated
    ∙ ap (joined_by (not negated)) (each_settled def values negated parts settled (subst IsTrue (may_judge-All values parts) judged))
    ∙ joined-All values parts negated

IsSettled-Any : (def : TableDef) (parts : List Pred) → All (IsSettled def) parts → IsSettled def (pred.Any parts)
IsSettled-Any def parts settled values judged negated =
    may_hold_under-Any (cell_places def) (cell_values def values) parts negated
    ∙ ap (joined_by negated) (each_settled def values negated parts settled (subst IsTrue (may_judge-Any values parts) judged))
    ∙ joined-Any values parts negated

pub IsSettled-joined : (def : TableDef) (whole : Pred) (parts : List Pred) → (whole ≡ pred.All parts) ⊎ (whole ≡ pred.Any parts) → All (IsSettled def) parts → IsSettled def whole
IsSettled-joined def whole parts (inl by_and) settled = subst (IsSettled def) (sym by_and) (IsSettled-All def parts settled)
IsSettled-joined def whole parts (inr by_or) settled = subst (IsSettled def) (sym by_or) (IsSettled-Any def parts settled)

pub IsSettled-Not : (def : TableDef) (part : Pred) → IsSettled def part → IsSettled def (pred.Not part)
IsSettled-Not def part settled values judged negated =
    may_hold_under-Not (cell_places def) (cell_values def values) part negated
    ∙ settled values (subst IsTrue (may_judge-Not values part) judged) (not negated)
    ∙ ap is_true (negated_if-not negated (truth values part))
    ∙ sym (ap (λ t. is_true (negated_if negated t)) (truth-Not values part))

-- a test that is open in a part is open in what AND or OR joins
pub HasOpenTest-joined : (def : TableDef) (whole : Pred) (parts : List Pred) (part : Pred) → (whole ≡ pred.All parts) ⊎ (whole ≡ pred.Any parts) → Contains parts part → HasOpenTest def part → HasOpenTest def whole
HasOpenTest-joined def whole parts part (inl by_and) there here = subst (HasOpenTest def) (sym by_and) (in_all parts part there here)
HasOpenTest-joined def whole parts part (inr by_or) there here = subst (HasOpenTest def) (sym by_or) (in_any parts part there here)

-- ---- what is left

all_true-and_one : (tests : List Bool) (last : Bool) → all_true (tests ++ last ∷ []) ≡ (all_true tests && last)
all_true-and_one [] true = refl
all_true-and_one [] false = refl
all_true-and_one (true ∷ tests) last = all_true-and_one tests last
all_true-and_one (false ∷ tests) last = refl

all_true-map_more : {X : Type 0} (f : X → Bool) (xs : List X) (x : X) → all_true (map f (xs ++ x ∷ [])) ≡ (all_true (map f xs) && f x)
all_true-map_more f xs x = ap all_true (map-append f xs (x ∷ [])) ∙ all_true-and_one (map f xs) (f x)

and-both : (a b : Bool) → a ≡ true → b ≡ true → (a && b) ≡ true
and-both true b first second = second
and-both false b first second = absurd (false≢true first)

and-true : (a : Bool) → (a && true) ≡ a
and-true true = refl
and-true false = refl

module _ (def : TableDef) (parts left : List Pred) (one : Pred) (so_far : AreLeftOf def parts left) where
  -- of one part more
  record Splits (values : List Value) : Type 0 where
    judged : IsTrue (may_judge_all values parts)
    own : IsTrue (may_judge values one)

  splits : (values : List Value) → IsTrue (may_judge_all values (parts ++ one ∷ [])) → Splits values
  splits values judged =
      let (before, here) = both (may_judge_all values parts) (may_judge values one) (subst IsTrue (all_true-map_more (may_judge values) parts one) judged) in
      record { judged = before; own = here }

  may_before : (values : List Value) → may_hold_all def values (parts ++ one ∷ []) ≡ true → (may_hold_all def values parts ≡ true) × (may_hold_at (cell_places def) (cell_values def values) one ≡ true)
  may_before values may =
      both (may_hold_all def values parts) (may_hold_at (cell_places def) (cell_values def values) one)
      (sym (all_true-map_more (may_hold_at (cell_places def) (cell_values def values)) parts one) ∙ may)

  -- which is settled, so that it is true where it may hold
  left_out : IsSettled def one → AreLeftOf def (parts ++ one ∷ []) left
  left_out settled = record {
    same = λ values judged may.
        let at = splits values judged in
        let (before, here) = may_before values may in
        let holds : is_true (truth values one) ≡ true = sym (settled values at.own false) ∙ here in
        so_far.same values at.judged before
        ∙ sym (and-true (are_true values parts)) ∙ ap (λ b. are_true values parts && b) (sym holds)
        ∙ sym (all_true-map_more (λ part. is_true (truth values part)) parts one);
    judged = λ values judged. so_far.judged values (splits values judged).judged;
  }

  -- or stays
  left_in : AreLeftOf def (parts ++ one ∷ []) (left ++ one ∷ [])
  left_in = record {
    same = λ values judged may.
        let at = splits values judged in
        all_true-map_more (λ part. is_true (truth values part)) left one
        ∙ ap (λ b. b && is_true (truth values one)) (so_far.same values at.judged (may_before values may).0)
        ∙ sym (all_true-map_more (λ part. is_true (truth values part)) parts one);
    judged = λ values judged.
        let at = splits values judged in
        sym' values (and-both (may_judge_all values left) (may_judge values one) (so_far.judged values at.judged) at.own);
  }
    where
      sym' : (values : List Value) → IsTrue (may_judge_all values left && may_judge values one) → IsTrue (may_judge_all values (left ++ one ∷ []))
      sym' values is = subst IsTrue (sym (all_true-map_more (may_judge values) left one)) is

-- the parts of the front, and the next one
module _ (def : TableDef) (parts left : List Pred) (i : ℕ) (one : Pred) (low : i < length parts) (is : one ≡ get_or parts i one) (so_far : AreLeftOf def (take i parts) left) where
  front_and : take i parts ++ one ∷ [] ≡ take (i + 1) parts
  front_and = sym (take_more parts i one low ∙ ap (λ last. take i parts ++ last ∷ []) (sym is))

  pub left_out_more : IsSettled def one → AreLeftOf def (take (i + 1) parts) left
  left_out_more settled = subst (λ front. AreLeftOf def front left) front_and (left_out def (take i parts) left one so_far settled)

  pub left_in_more : (new : List Pred) (copy : Pred) → copy ≡ one → new ≡ left ++ copy ∷ [] → AreLeftOf def (take (i + 1) parts) new
  left_in_more new copy copied pushed =
      subst (AreLeftOf def (take (i + 1) parts)) (sym (pushed ∙ ap (λ last. left ++ last ∷ []) copied))
      (subst (λ front. AreLeftOf def front (left ++ one ∷ [])) front_and (left_in def (take i parts) left one so_far))

-- where the whole is settled, nothing is left
pub IsLeftOf-none : (def : TableDef) (whole : Pred) → IsSettled def whole → IsLeftOf def (Some whole) None
IsLeftOf-none def whole settled = record {
  same = λ values judged may. sym (sym (settled values judged false) ∙ may);
  judged = λ values judged. refl;
}

-- the parts that are left, joined by AND again
pub IsLeftOf-All : (def : TableDef) (parts left : List Pred) → AreLeftOf def parts left → IsLeftOf def (Some (pred.All parts)) (Some (pred.All left))
IsLeftOf-All def parts left are = record {
  same = λ values judged may.
      ap is_true (truth-All values left) ∙ sym (all_true-is_true (truth values) left)
      ∙ are.same values (subst IsTrue (may_judge-All values parts) judged) (sym (may_hold_under-All (cell_places def) (cell_values def values) parts false) ∙ may)
      ∙ all_true-is_true (truth values) parts ∙ sym (ap is_true (truth-All values parts));
  judged = λ values judged. subst IsTrue (sym (may_judge-All values left)) (are.judged values (subst IsTrue (may_judge-All values parts) judged));
}
