-- A predicate that is judged on the columns which it names, read from a row, and on its parts in turn.
use Rattle.std.proofs.Common.{◌≡◌, ◌<◌, ◌+◌, ℕ, suc, List, length, drop, drop-cons, add-one, get_or, map, refl, sym, ap, subst}
use Rattle.std.specs.Prelude.{IsTrue, slice_get, unwrap_or, Some}
use Rattle.std.proofs.lemmas.Bool.{false≢true}
use Rattle.mdc_values.specs.declared.truth.Truth.{Truth}
use Rattle.mdc_values.specs.declared.truth.Truth.TheVariants.{True, False, Unknown}
use Rattle.mdc_values.specs.declared.value.Value.{Value}
use Rattle.mdc_values.specs.declared.value.Value.TheVariants.{Null}
use Rattle.mdc_ast.specs.declared.predicate.Atom.{Atom}
use Rattle.mdc_ast.specs.declared.predicate.Pred.{Pred}
use Rattle.mdc_ast.specs.Truth.{all_of, and_of, has_column, is_true, may_judge, may_test, may_test_atom, test_truth, truth, value_at}
use Rattle.mdc_ast.proofs.TestsLemmas.{both}
use Rattle.row_filter.specs.Naming.{IsRead, named_in}
use Rattle.row_filter.proofs.NamingLemmas.{CantTell-same}

-- a part may be judged on what is read of the columns that it names
pub may_judge-read : (row before values : List Value) (part : Pred) → length values ≡ length row → IsRead row (named_in part) before values → IsTrue (may_judge row part) → IsTrue (may_judge values part)
may_judge-read row before values part wide read may = subst IsTrue (sym (CantTell-same values row part wide read.there).judged) may

-- with the truth that it has of the row
pub truth-read : (row before values : List Value) (part : Pred) → length values ≡ length row → IsRead row (named_in part) before values → truth values part ≡ truth row part
truth-read row before values part wide read = (CantTell-same values row part wide read.there).truths

-- ---- a test whose column was read beside

value_at-found : (values : List Value) (place : ℕ) (value : Value) → slice_get values place ≡ Some value → value_at values place ≡ value
value_at-found values place value found = ap (λ found. unwrap_or found Null) found

-- it may be judged on the value that was read of its column
pub may_test-found : (row : List Value) (atom : Atom) (value : Value) → slice_get row atom.column ≡ Some value → IsTrue (may_test_atom row atom) → IsTrue (may_test row value atom.test)
may_test-found row atom value found may =
    subst (λ v. IsTrue (may_test row v atom.test)) (value_at-found row atom.column value found) (both (has_column row atom.column) (may_test row (value_at row atom.column) atom.test) may).1

-- with the truth that it has of the row
pub test_truth-found : (row : List Value) (atom : Atom) (value : Value) → slice_get row atom.column ≡ Some value → test_truth row value atom.test ≡ test_truth row (value_at row atom.column) atom.test
test_truth-found row atom value found = ap (λ v. test_truth row v atom.test) (sym (value_at-found row atom.column value found))

-- ---- parts that are joined by AND

-- AND with what is true says what the other says
is_true-and_of : (a b : Truth) → IsTrue (is_true a) → is_true (and_of a b) ≡ is_true b
is_true-and_of True b h = refl
is_true-and_of False b h = absurd (false≢true h)
is_true-and_of Unknown b h = absurd (false≢true h)

-- parts from a place on are true where the one there is, and those behind it are
pub is_true-all_of : {X : Type 0} (f : X → Truth) (xs : List X) (i : ℕ) (x : X) → i < length xs → IsTrue (is_true (f (get_or xs i x))) → is_true (all_of (map f (drop i xs))) ≡ is_true (all_of (map f (drop (i + 1) xs)))
is_true-all_of f xs i x lt h = rw (drop-cons xs i x lt, add-one) (is_true-and_of (f (get_or xs i x)) (all_of (map f (drop (suc i) xs))) h)
