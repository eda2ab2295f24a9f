-- Tests, and their negations, as comparisons.
use Rattle.std.proofs.Common.{◌≡◌, ◌≤◌, ℕ, List, [], ◌∷◌, ◌++◌, Bool, true, false, length, map, take, arith, refl, sym, ap, ◌∙◌}
use Rattle.std.specs.Prelude.{IsTrue, not, ◌==◌, if◌then◌else◌, ◌&&◌}
use Rattle.std.proofs.lemmas.Bool.{false≢true}
use Rattle.std.specs.List.{list_all}
use Rattle.std.proofs.lemmas.List.{take_all}
use Rattle.mdc_values.specs.declared.truth.Op.{Op}
use Rattle.mdc_values.specs.declared.truth.Op.TheVariants.{Equal, AtMost, AtLeast}
use Rattle.mdc_values.specs.declared.truth.Truth.{Truth}
use Rattle.mdc_values.specs.declared.truth.Truth.TheVariants.{True, False, Unknown}
use Rattle.mdc_values.specs.declared.value.Value.{Value}
use Rattle.mdc_values.specs.Order.{are_alike, compared}
use Rattle.mdc_ast.specs.declared.predicate.Pred.{Pred}
use Rattle.mdc_ast.specs.declared.predicate.Pred.TheVariants as pred
use Rattle.mdc_ast.specs.declared.predicate.Right.{Right}
use Rattle.mdc_ast.specs.declared.predicate.Right.TheVariants as right
use Rattle.mdc_ast.specs.declared.predicate.Test.{Test}
use Rattle.mdc_ast.specs.declared.predicate.Test.TheVariants.{Compare, Between, Within}
use Rattle.mdc_ast.specs.Truth.{all_of, all_true, and_of, any_of, has_column, may_judge, negated_if, not_of, or_of, truth, value_at, value_of}
use Rattle.predicate.specs.Pushed.{IsPushedFrom, is_pushed, op_if}
use Rattle.predicate.proofs.OppositeLemmas.{all_of-not_of, compared-op_if}
use Rattle.mdc_ast.proofs.PredLemmas.{may_judge-All, may_judge-Any, may_judge-Atom, truth-All, truth-Any, truth-Atom}
use Rattle.predicate.proofs.PredLemmas.{is_pushed-All, is_pushed-Any, is_pushed-Atom}

abbrev tested : ℕ → Bool → Test → Pred
tested column negated test = pred.Atom (record { column = column; negated = negated; test = test })

abbrev compared_to : ℕ → Op → Value → Pred
compared_to column op value = tested column false (Compare op (right.Value value))

-- ---- a comparison

pub Compare_pushed : (column : ℕ) (negated : Bool) (op : Op) (side : Right) →
    IsPushedFrom false (pred.Atom (record { column = column; negated = negated; test = Compare op side })) (pred.Atom (record { column = column; negated = false; test = Compare (op_if negated op) side }))
Compare_pushed column negated op side = record {
  form = is_pushed-Atom (record { column = column; negated = false; test = Compare (op_if negated op) side });
  truths = λ values. truth-Atom values (record { column = column; negated = false; test = Compare (op_if negated op) side })
      ∙ compared-op_if negated op (value_at values column) (value_of values side)
      ∙ sym (truth-Atom values (record { column = column; negated = negated; test = Compare op side }));
  judged = λ values. may_judge-Atom values (record { column = column; negated = false; test = Compare (op_if negated op) side })
      ∙ sym (may_judge-Atom values (record { column = column; negated = negated; test = Compare op side }));
}

-- of a test that a comparison was copied for
pub Compare_whole : (column : ℕ) (negated : Bool) (op pushed_op : Op) (side copy : Right) (test : Test) (pushed : Pred) → test ≡ Compare op side → copy ≡ side →
    pushed_op ≡ op_if negated op → pushed ≡ pred.Atom (record { column = column; negated = false; test = Compare pushed_op copy }) →
    IsPushedFrom false (pred.Atom (record { column = column; negated = negated; test = test })) pushed
Compare_whole column negated op pushed_op side copy test pushed is same by e = rw (e, is, same, by) (Compare_pushed column negated op side)

-- ---- comparisons with values

is_pushed-compared_to : (column : ℕ) (op : Op) (value : Value) → is_pushed (compared_to column op value) ≡ true
is_pushed-compared_to column op value = is_pushed-Atom (record { column = column; negated = false; test = Compare op (right.Value value) })

truth-compared_to : (values : List Value) (column : ℕ) (negated : Bool) (op : Op) (value : Value) →
    truth values (compared_to column (op_if negated op) value) ≡ negated_if negated (compared op (value_at values column) value)
truth-compared_to values column negated op value =
    truth-Atom values (record { column = column; negated = false; test = Compare (op_if negated op) (right.Value value) }) ∙ compared-op_if negated op (value_at values column) value

may_judge-compared_to : (values : List Value) (column : ℕ) (op : Op) (value : Value) →
    may_judge values (compared_to column op value) ≡ (has_column values column && are_alike (value_at values column) value)
may_judge-compared_to values column op value = may_judge-Atom values (record { column = column; negated = false; test = Compare op (right.Value value) })

all_pushed : (column : ℕ) (op : Op) (others : List Value) → IsTrue (all_true (map is_pushed (map (compared_to column op) others)))
all_pushed column op [] = refl
all_pushed column op (other ∷ others) = rw (is_pushed-compared_to column op other) (all_pushed column op others)

truths_of_all : (values : List Value) (column : ℕ) (negated : Bool) (op : Op) (others : List Value) →
    map (truth values) (map (compared_to column (op_if negated op)) others) ≡ map (λ other. negated_if negated (compared op (value_at values column) other)) others
truths_of_all values column negated op [] = refl
truths_of_all values column negated op (other ∷ others) =
    ap (λ t. t ∷ map (truth values) (map (compared_to column (op_if negated op)) others)) (truth-compared_to values column negated op other)
    ∙ ap (λ ts. negated_if negated (compared op (value_at values column) other) ∷ ts) (truths_of_all values column negated op others)

judged_all : (values : List Value) (column : ℕ) (op : Op) (others : List Value) →
    map (may_judge values) (map (compared_to column op) others) ≡ map (λ other. has_column values column && are_alike (value_at values column) other) others
judged_all values column op [] = refl
judged_all values column op (other ∷ others) =
    ap (λ b. b ∷ map (may_judge values) (map (compared_to column op) others)) (may_judge-compared_to values column op other)
    ∙ ap (λ bs. (has_column values column && are_alike (value_at values column) other) ∷ bs) (judged_all values column op others)

-- a test beside each of one or more
all_true-each : {X : Type 0} (has : Bool) (p : X → Bool) (xs : List X) → 1 ≤ length xs → all_true (map (λ x. has && p x) xs) ≡ (has && list_all p xs)
all_true-each has p [] some = absurd (omega (arith, some))
all_true-each false p (x ∷ xs) some = refl
all_true-each true p (x ∷ []) some = refl
all_true-each true p (x ∷ next ∷ xs) some = ap (λ rest. p x && rest) (all_true-each true p (next ∷ xs) (omega arith))

-- ---- IN

Within_pushed : (column : ℕ) (negated : Bool) (others : List Value) → 1 ≤ length others →
    IsPushedFrom false (tested column negated (Within others))
    (if negated then pred.All (map (compared_to column (op_if negated Equal)) others) else pred.Any (map (compared_to column (op_if negated Equal)) others))
Within_pushed column false others some = record {
  form = is_pushed-Any (map (compared_to column Equal) others) ∙ all_pushed column Equal others;
  truths = λ values. truth-Any values (map (compared_to column Equal) others) ∙ ap any_of (truths_of_all values column false Equal others)
      ∙ sym (truth-Atom values (record { column = column; negated = false; test = Within others }));
  judged = λ values. may_judge-Any values (map (compared_to column Equal) others) ∙ ap all_true (judged_all values column Equal others)
      ∙ all_true-each (has_column values column) (are_alike (value_at values column)) others some
      ∙ sym (may_judge-Atom values (record { column = column; negated = false; test = Within others }));
}
Within_pushed column true others some = record {
  form = is_pushed-All (map (compared_to column (op_if true Equal)) others) ∙ all_pushed column (op_if true Equal) others;
  truths = λ values. truth-All values (map (compared_to column (op_if true Equal)) others) ∙ ap all_of (truths_of_all values column true Equal others)
      ∙ all_of-not_of (compared Equal (value_at values column)) others
      ∙ sym (truth-Atom values (record { column = column; negated = true; test = Within others }));
  judged = λ values. may_judge-All values (map (compared_to column (op_if true Equal)) others) ∙ ap all_true (judged_all values column (op_if true Equal) others)
      ∙ all_true-each (has_column values column) (are_alike (value_at values column)) others some
      ∙ sym (may_judge-Atom values (record { column = column; negated = true; test = Within others }));
}

some_in : (others : List Value) → false ≡ (length others == 0) → 1 ≤ length others
some_in [] e = absurd (false≢true e)
some_in (other ∷ others) e = omega arith

-- the comparisons that a loop made
pub Within_whole : (column : ℕ) (negated : Bool) (op : Op) (others : List Value) (i : ℕ) (parts : List Pred) (pushed : Pred) → false ≡ (length others == 0) → length others ≤ i →
    op ≡ op_if negated Equal → parts ≡ map (λ other. pred.Atom (record { column = column; negated = false; test = Compare op (right.Value other) })) (take i others) →
    pushed ≡ (if negated then pred.All parts else pred.Any parts) →
    IsPushedFrom false (pred.Atom (record { column = column; negated = negated; test = Within others })) pushed
Within_whole column negated op others i parts pushed some end is made e = rw (e, made, take_all i others end, is) (Within_pushed column negated others (some_in others some))

-- ---- BETWEEN

judged_ends : (has low high a b : Bool) → a ≡ (has && low) → b ≡ (has && high) → (a && (b && true)) ≡ (has && (low && high))
judged_ends true true true a b e f = rw (e, f) refl
judged_ends true true false a b e f = rw (e, f) refl
judged_ends true false high a b e f = rw e refl
judged_ends false low high a b e f = rw e refl

and_of-two : (s t : Truth) → and_of s (and_of t True) ≡ and_of s t
and_of-two s True = refl
and_of-two s False = refl
and_of-two s Unknown = refl

or_of-two : (s t : Truth) → or_of (not_of s) (or_of (not_of t) False) ≡ not_of (and_of s t)
or_of-two True True = refl
or_of-two True False = refl
or_of-two True Unknown = refl
or_of-two False t = refl
or_of-two Unknown True = refl
or_of-two Unknown False = refl
or_of-two Unknown Unknown = refl

two_pushed : (column : ℕ) (first second : Op) (low high : Value) → IsTrue (all_true (map is_pushed (compared_to column first low ∷ compared_to column second high ∷ [])))
two_pushed column first second low high = rw (is_pushed-compared_to column first low, is_pushed-compared_to column second high) refl

judged_two : (values : List Value) (column : ℕ) (first second : Op) (low high : Value) →
    all_true (map (may_judge values) (compared_to column first low ∷ compared_to column second high ∷ []))
    ≡ (has_column values column && (are_alike (value_at values column) low && are_alike (value_at values column) high))
judged_two values column first second low high =
    judged_ends (has_column values column) (are_alike (value_at values column) low) (are_alike (value_at values column) high) _ _
    (may_judge-compared_to values column first low) (may_judge-compared_to values column second high)

Between_pushed : (column : ℕ) (negated : Bool) (low high : Value) (parts : List Pred) (pushed : Pred) →
    parts ≡ compared_to column (op_if negated AtLeast) low ∷ compared_to column (op_if negated AtMost) high ∷ [] →
    pushed ≡ (if not negated then pred.All parts else pred.Any parts) →
    IsPushedFrom false (pred.Atom (record { column = column; negated = negated; test = Between low high })) pushed
Between_pushed column false low high parts pushed made e =
    let two = compared_to column AtLeast low ∷ compared_to column AtMost high ∷ [] in
    rw (e, made) (record {
      form = is_pushed-All two ∙ two_pushed column AtLeast AtMost low high;
      truths = λ values. truth-All values two
          ∙ ap (λ t. and_of t (and_of (truth values (compared_to column AtMost high)) True)) (truth-compared_to values column false AtLeast low)
          ∙ ap (λ t. and_of (compared AtLeast (value_at values column) low) (and_of t True)) (truth-compared_to values column false AtMost high)
          ∙ and_of-two (compared AtLeast (value_at values column) low) (compared AtMost (value_at values column) high)
          ∙ sym (truth-Atom values (record { column = column; negated = false; test = Between low high }));
      judged = λ values. may_judge-All values two ∙ judged_two values column AtLeast AtMost low high
          ∙ sym (may_judge-Atom values (record { column = column; negated = false; test = Between low high }));
    })
Between_pushed column true low high parts pushed made e =
    let two = compared_to column (op_if true AtLeast) low ∷ compared_to column (op_if true AtMost) high ∷ [] in
    rw (e, made) (record {
      form = is_pushed-Any two ∙ two_pushed column (op_if true AtLeast) (op_if true AtMost) low high;
      truths = λ values. truth-Any values two
          ∙ ap (λ t. or_of t (or_of (truth values (compared_to column (op_if true AtMost) high)) False)) (truth-compared_to values column true AtLeast low)
          ∙ ap (λ t. or_of (not_of (compared AtLeast (value_at values column) low)) (or_of t False)) (truth-compared_to values column true AtMost high)
          ∙ or_of-two (compared AtLeast (value_at values column) low) (compared AtMost (value_at values column) high)
          ∙ sym (truth-Atom values (record { column = column; negated = true; test = Between low high }));
      judged = λ values. may_judge-Any values two ∙ judged_two values column (op_if true AtLeast) (op_if true AtMost) low high
          ∙ sym (may_judge-Atom values (record { column = column; negated = true; test = Between low high }));
    })

-- the two comparisons, pushed one after the other
pub Between_whole : (column : ℕ) (negated : Bool) (above below : Op) (low high : Value) (first second : Pred) (none one parts : List Pred) (pushed : Pred) →
    above ≡ op_if negated AtLeast → below ≡ op_if negated AtMost → first ≡ compared_to column above low → second ≡ compared_to column below high →
    none ≡ [] → one ≡ none ++ first ∷ [] → parts ≡ one ++ second ∷ [] → pushed ≡ (if not negated then pred.All parts else pred.Any parts) →
    IsPushedFrom false (pred.Atom (record { column = column; negated = negated; test = Between low high })) pushed
Between_whole column negated above below low high first second none one parts pushed is_above is_below is_first is_second empty e f g =
    let made : parts ≡ compared_to column (op_if negated AtLeast) low ∷ compared_to column (op_if negated AtMost) high ∷ [] =
    rw (f, e, empty, is_first, is_second, is_above, is_below) refl in
    Between_pushed column negated low high parts pushed made g
