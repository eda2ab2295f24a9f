-- Values that are read place by place, into a row of as many.
use Rattle.std.proofs.Common.{◌≡◌, ◌<◌, ◌≤◌, ◌+◌, ℕ, suc, List, [], ◌∷◌, ◌++◌, length, drop, drop-cons, add-one, get_or, map, refl, ap, subst}
use Rattle.std.specs.Prelude.{IsTrue, ◌/◌}
use Rattle.std.specs.List.{All}
use Rattle.std.proofs.lemmas.List.{drop_all}
use Rattle.std.proofs.lemmas.List.Elements.{All-append, All-nil, All-weaker}
use Rattle.mdc_values.specs.declared.value.Value.{Value}
use Rattle.mdc_ast.specs.declared.definition.ColumnDef.{ColumnDef}
use Rattle.mdc_ast.specs.declared.predicate.Atom.{Atom}
use Rattle.mdc_ast.specs.declared.predicate.Pred.{Pred}
use Rattle.mdc_ast.specs.Definitions.{width}
use Rattle.mdc_ast.specs.Truth.{may_test_atom}
use Rattle.row_page.specs.Row.{columns_values, nulls_in, row_in}
use Rattle.row_filter.specs.Naming.{IsRead, IsSameAt, named_in, named_in_atom, named_in_parts}
use Rattle.row_filter.proofs.NamingLemmas.{atom_there}

length-columns_values : (columns : List ColumnDef) (nulls : ℕ) (bytes : List ℕ) → length (columns_values columns nulls bytes) ≡ length columns
length-columns_values [] nulls bytes = refl
length-columns_values (column ∷ columns) nulls bytes = ap suc (length-columns_values columns (nulls / 2) (drop (width column.ty) bytes))

-- a row has as many values as there are columns
pub length-row_in : (columns : List ColumnDef) (bytes : List ℕ) → length (row_in columns bytes).values ≡ length columns
unfolding row_in
length-row_in columns bytes = length-columns_values columns (nulls_in bytes) (drop 10 bytes)

-- where a test may be judged on a row, the columns that it names are there
pub atom_there-row_in : (columns : List ColumnDef) (bytes : List ℕ) (atom : Atom) → IsTrue (may_test_atom (row_in columns bytes).values atom) → All (λ place. place < length columns) (named_in_atom atom)
atom_there-row_in columns bytes atom may =
    subst (λ width. All (λ place. place < width) (named_in_atom atom)) (length-row_in columns bytes) (atom_there (row_in columns bytes).values atom may)

-- nothing read is all read at no places
pub IsRead-none : (row values : List Value) → IsRead row [] values values
IsRead-none row values = record { there = All-nil (IsSameAt values row); kept = λ place same. same }

-- what is read first stays so while more is read
pub IsRead-then : (row : List Value) (places more : List ℕ) (before between after : List Value) → IsRead row places before between → IsRead row more between after → IsRead row (places ++ more) before after
IsRead-then row places more before between after first next =
    record {
      there = All-append (IsSameAt after row) places more (All-weaker (IsSameAt between row) (IsSameAt after row) next.kept places first.there) next.there;
      kept = λ place same. next.kept place (first.kept place same);
    }

-- what is read of the parts that are left makes all of them read
abbrev pub GoesOn : List Value → List Pred → ℕ → List Value → List Value → Type 0
GoesOn row parts i before now = (after : List Value) → IsRead row (named_in_parts (map named_in (drop i parts))) now after → IsRead row (named_in_parts (map named_in parts)) before after

-- one part more
pub GoesOn-next : (row : List Value) (parts : List Pred) (i : ℕ) (part x : Pred) (before now next : List Value) → i < length parts → part ≡ get_or parts i x
    → GoesOn row parts i before now → IsRead row (named_in part) now next → GoesOn row parts (i + 1) before next
GoesOn-next row parts i part x before now next lt is on read after rest =
    on after (rw (drop-cons parts i x lt) (
    IsRead-then row (named_in (get_or parts i x)) (named_in_parts (map named_in (drop (suc i) parts))) now next after
    (subst (λ part. IsRead row (named_in part) now next) is read)
    (subst (λ n. IsRead row (named_in_parts (map named_in (drop n parts))) next after) (add-one i) rest)
    ))

-- and none is left
pub GoesOn-end : (row : List Value) (parts : List Pred) (i : ℕ) (before now : List Value) → length parts ≤ i → GoesOn row parts i before now → IsRead row (named_in_parts (map named_in parts)) before now
GoesOn-end row parts i before now le on = on now (rw (drop_all i parts le) (IsRead-none row now))
