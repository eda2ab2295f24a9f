-- Rows with equal keys: one more row, and rows behind others.
use Rattle.std.proofs.Common.{◌≡◌, ◌<◌, ◌+◌, ℕ, List, [], ◌∷◌, ◌++◌, map, length, take, drop, get_or, Bool, true, false, cond, not, refl, sym, ap, subst, arith, ◌∙◌}
use Rattle.std.specs.Prelude.{IsTrue, ◌||◌}
use Rattle.std.specs.BTreeSet.{BTreeSet, contains}
use Rattle.std.specs.Cmp.Lexicographic.{slice_cmp}
use Rattle.std.specs.Global.{Vec}
use Rattle.std.specs.List.{AllByRecursion, list_any}
use Rattle.std.specs.Ordering.{is_eq, nat_cmp}
use Rattle.std.specs.Prelude.{nat_lt, ◌==◌}
use Rattle.std.specs.Str.{bytes_eq}
use Rattle.std.proofs.lemmas.Bool.{not-false, not-true}
use Rattle.std.proofs.lemmas.Bool.Decides.{nat_tests}
use Rattle.std.proofs.lemmas.Cmp.{int_eq_equiv, nat_eq_equiv, nat_list_eq_equiv}
use Rattle.std.proofs.lemmas.List.{map-append, take-append-drop, take_more}
use Rattle.std.proofs.lemmas.List.Folds.{list_any-append}
use Rattle.mdc_values.specs.declared.value.Value.{Value}
use Rattle.mdc_values.specs.declared.value.Value.TheVariants.{Null, Int, Text, Day}
use Rattle.mdc_values.specs.Value.{trimmed}
use Rattle.mdc_ast.specs.declared.definition.KeyPart.{KeyPart}
use Rattle.mdc_ast.specs.Definitions.{places_of}
use Rattle.mdc_ast.specs.Truth.{value_at}
use Rattle.row_groups.specs.Keys.{are_small, group_key}
use Rattle.row_groups.specs.Lines.{are_grouped}
use Rattle.row_groups.specs.Values.{belong_together}
use Rattle.row_groups.proofs.KeyLemmas.{keys_same}
use Rattle.statement_meaning.specs.Keys.{are_twins, has_twin, have_twins}
use Rattle.row_checks.specs.Seen.{HasSeen}

-- ---- equal keys

together-sym : (a b : Value) → belong_together a b ≡ belong_together b a
together-sym Null Null = refl
together-sym Null (Int n) = refl
together-sym Null (Text t) = refl
together-sym Null (Day d) = refl
together-sym (Int m) Null = refl
together-sym (Int m) (Int n) = int_eq_equiv.symm m n
together-sym (Int m) (Text t) = refl
together-sym (Int m) (Day d) = refl
together-sym (Text s) Null = refl
together-sym (Text s) (Int n) = refl
together-sym (Text s) (Text t) = nat_list_eq_equiv.symm (trimmed s) (trimmed t)
together-sym (Text s) (Day d) = refl
together-sym (Day d) Null = refl
together-sym (Day d) (Int n) = refl
together-sym (Day d) (Text t) = refl
together-sym (Day d) (Day e) = nat_eq_equiv.symm d e

grouped-sym : (columns : List ℕ) (a b : List Value) → are_grouped columns a b ≡ are_grouped columns b a
grouped-sym [] a b = refl
grouped-sym (column ∷ columns) a b = rw (together-sym (value_at a column) (value_at b column), grouped-sym columns a b) refl

-- a row has the key of another as that one has its
pub twins-sym : (parts : List KeyPart) (a b : List Value) → are_twins parts a b ≡ are_twins parts b a
twins-sym parts a b = grouped-sym (places_of parts) a b

-- ---- rows behind others

either_way : (a b c d e : Bool) → b ≡ d → ((a || (b || false)) || (c || e)) ≡ ((a || c) || (d || e))
either_way true b c d e same = refl
either_way false true true d e same = refl
either_way false true false d e same = rw (← same) refl
either_way false false true d e same = refl
either_way false false false d e same = rw (← same) refl

-- one more row: two of those before have equal keys, or one of them has the key of this one
pub twins_with_last : (parts : List KeyPart) (rows : List (List Value)) (row : List Value) → have_twins parts (rows ++ row ∷ []) ≡ (have_twins parts rows || has_twin parts rows row)
twins_with_last parts [] row = refl
twins_with_last parts (first ∷ rows) row =
    rw (list_any-append (are_twins parts first) rows (row ∷ []), twins_with_last parts rows row)
    (either_way (has_twin parts rows first) (are_twins parts first row) (have_twins parts rows) (are_twins parts row first) (has_twin parts rows row) (twins-sym parts first row))

or_front : (a b : Bool) → a ≡ true → (a || b) ≡ true
or_front true b e = refl
or_front false b e = cc

or_back : (a b : Bool) → b ≡ true → (a || b) ≡ true
or_back true b e = refl
or_back false b e = e

twin_kept : (parts : List KeyPart) (rows more : List (List Value)) (row : List Value) → has_twin parts rows row ≡ true → has_twin parts (rows ++ more) row ≡ true
twin_kept parts rows more row e = list_any-append (are_twins parts row) rows more ∙ or_front (has_twin parts rows row) (has_twin parts more row) e

-- equal keys stay, whatever rows come behind
pub twins_kept : (parts : List KeyPart) (rows more : List (List Value)) → have_twins parts rows ≡ true → have_twins parts (rows ++ more) ≡ true
twins_kept parts [] more e = cc
twins_kept parts (row ∷ rows) more e = by_test (has_twin parts rows row) refl e (λ rest. twins_kept parts rows more rest)
  where
    by_test : (b : Bool) → has_twin parts rows row ≡ b → (b || have_twins parts rows) ≡ true → (have_twins parts rows ≡ true → have_twins parts (rows ++ more) ≡ true)
        → (has_twin parts (rows ++ more) row || have_twins parts (rows ++ more)) ≡ true
    by_test true is e rest = or_front (has_twin parts (rows ++ more) row) (have_twins parts (rows ++ more)) (twin_kept parts rows more row is)
    by_test false is e rest = or_back (has_twin parts (rows ++ more) row) (have_twins parts (rows ++ more)) (rest e)

-- ---- keys that were seen

-- no key was
pub nothing_seen : (columns : List ℕ) (seen : BTreeSet (Vec ℕ)) → seen.keys ≡ [] → HasSeen columns [] seen
nothing_seen columns seen empty = record { small = tt; keys = λ key. ap (list_any (λ (kept : Vec ℕ). is_eq (slice_cmp nat_cmp key.items kept.items))) empty }

eq_is : (a b : List ℕ) → is_eq (slice_cmp nat_cmp a b) ≡ bytes_eq a b
eq_is [] [] = refl
eq_is [] (y ∷ b) = refl
eq_is (x ∷ a) [] = refl
eq_is (x ∷ a) (y ∷ b) = at (nat_lt x y) (x == y) refl refl (eq_is a b)
  where
    at : (c d : Bool) → nat_lt x y ≡ c → (x == y) ≡ d → is_eq (slice_cmp nat_cmp a b) ≡ bytes_eq a b → is_eq (slice_cmp nat_cmp (x ∷ a) (y ∷ b)) ≡ bytes_eq (x ∷ a) (y ∷ b)
    at true true e f rest = absurd (grind (arith, nat_tests))
    at true false e f rest = rw (e, f) refl
    at false true e f rest = rw (e, f) rest
    at false false e f rest = rw (e, f) refl

grouped_any : (columns : List ℕ) (row : List Value) (rows : List (List Value)) → IsTrue (are_small columns row) → AllByRecursion (λ other. IsTrue (are_small columns other)) rows
    → list_any (λ other. bytes_eq (group_key columns row) (group_key columns other)) rows ≡ list_any (are_grouped columns row) rows
grouped_any columns row [] small all = refl
grouped_any columns row (other ∷ rows) small all = rw (keys_same columns row other small all.0, grouped_any columns row rows small all.1) refl

-- whether a row's key was there
pub was_seen : (columns : List ℕ) (rows : List (List Value)) (row : List Value) (seen : BTreeSet (Vec ℕ)) (key : Vec ℕ) (new : Bool) → HasSeen columns rows seen → IsTrue (are_small columns row)
    → key.items ≡ group_key columns row → new ≡ not (contains (λ (a b : Vec ℕ). slice_cmp nat_cmp a.items b.items) seen key) → new ≡ not (list_any (are_grouped columns row) rows)
was_seen columns rows row seen key new has small is made =
    made ∙ ap not (has.keys key ∙ ap (λ (bytes : List ℕ). list_any (λ other. bytes_eq bytes (group_key columns other)) rows) is ∙ grouped_any columns row rows small has.small)

all-last : (P : List Value → Type 0) (rows : List (List Value)) (row : List Value) → AllByRecursion P rows → P row → AllByRecursion P (rows ++ row ∷ [])
all-last P [] row all is = (is, tt)
all-last P (first ∷ rows) row all is = (all.0, all-last P rows row all.1 is)

turned : (a b x y : Bool) → a ≡ b → x ≡ y → cond a true x ≡ (y || (b || false))
turned true b true y e f = rw (← e, ← f) refl
turned true b false y e f = rw (← e, ← f) refl
turned false b true y e f = rw (← e, ← f) refl
turned false b false y e f = rw (← e, ← f) refl

-- and once it is
pub seen_with_last : (columns : List ℕ) (rows : List (List Value)) (row : List Value) (seen seen' : BTreeSet (Vec ℕ)) (key : Vec ℕ) → HasSeen columns rows seen → IsTrue (are_small columns row)
    → key.items ≡ group_key columns row
    → ((q : Vec ℕ) → contains (λ (a b : Vec ℕ). slice_cmp nat_cmp a.items b.items) seen' q ≡ cond (is_eq (slice_cmp nat_cmp key.items q.items)) true (contains (λ (a b : Vec ℕ). slice_cmp nat_cmp a.items b.items) seen q))
    → HasSeen columns (rows ++ row ∷ []) seen'
seen_with_last columns rows row seen seen' key has small is made = record {
  small = all-last (λ other. IsTrue (are_small columns other)) rows row has.small small;
  keys = λ q.
      let test : is_eq (slice_cmp nat_cmp key.items q.items) ≡ bytes_eq q.items (group_key columns row) =
      eq_is key.items q.items ∙ nat_list_eq_equiv.symm key.items q.items ∙ ap (bytes_eq q.items) is in
      made q ∙ turned (is_eq (slice_cmp nat_cmp key.items q.items)) (bytes_eq q.items (group_key columns row)) (contains (λ (a b : Vec ℕ). slice_cmp nat_cmp a.items b.items) seen q)
      (list_any (λ other. bytes_eq q.items (group_key columns other)) rows) test (has.keys q)
      ∙ sym (list_any-append (λ other. bytes_eq q.items (group_key columns other)) rows (row ∷ []));
}

-- ---- rows one after another

module _ {B : Type 0} (now : B → List Value) (parts : List KeyPart) (columns slice : List ℕ) (rows : List B) (i : ℕ) (row : B) (are : columns ≡ places_of parts) (lent : slice ≡ columns) (lt : i < length rows) (at : row ≡ get_or rows i row) where
  one_more : map now (take (i + 1) rows) ≡ map now (take i rows) ++ now row ∷ []
  one_more = ap (map now) (take_more rows i row lt ∙ ap (λ r. take i rows ++ r ∷ []) (sym at)) ∙ map-append now (take i rows) (row ∷ [])

  twin_tested : (seen : BTreeSet (Vec ℕ)) (new : Bool) → HasSeen columns (map now (take i rows)) seen
      → ((earlier : List (List Value)) → HasSeen slice earlier seen → new ≡ not (list_any (are_grouped slice (now row)) earlier))
      → new ≡ not (has_twin parts (map now (take i rows)) (now row))
  twin_tested seen new has says =
      says (map now (take i rows)) (subst (λ cs. HasSeen cs (map now (take i rows)) seen) (sym lent) has)
      ∙ ap (λ cs. not (list_any (are_grouped cs (now row)) (map now (take i rows)))) (lent ∙ are)

  -- the row has the key of one before it
  pub twin_found : (seen : BTreeSet (Vec ℕ)) (new : Bool) → HasSeen columns (map now (take i rows)) seen
      → ((earlier : List (List Value)) → HasSeen slice earlier seen → new ≡ not (list_any (are_grouped slice (now row)) earlier))
      → new ≡ false → true ≡ have_twins parts (map now rows)
  twin_found seen new has says old =
      let before : List (List Value) = map now (take i rows) in
      let twin : has_twin parts before (now row) ≡ true = not-false (has_twin parts before (now row)) (sym (twin_tested seen new has says) ∙ old) in
      let front : have_twins parts (map now (take (i + 1) rows)) ≡ true =
      ap (have_twins parts) one_more ∙ twins_with_last parts before (now row) ∙ or_back (have_twins parts before) (has_twin parts before (now row)) twin in
      let whole : map now (take (i + 1) rows) ++ map now (drop (i + 1) rows) ≡ map now rows =
      sym (map-append now (take (i + 1) rows) (drop (i + 1) rows)) ∙ ap (map now) (take-append-drop (i + 1) rows) in
      sym (ap (have_twins parts) (sym whole) ∙ twins_kept parts (map now (take (i + 1) rows)) (map now (drop (i + 1) rows)) front)

  -- the row has a key of its own
  pub twins_next : (seen seen' : BTreeSet (Vec ℕ)) (new : Bool) → HasSeen columns (map now (take i rows)) seen × (have_twins parts (map now (take i rows)) ≡ false)
      → ((earlier : List (List Value)) → HasSeen slice earlier seen → new ≡ not (list_any (are_grouped slice (now row)) earlier))
      → ((earlier : List (List Value)) → HasSeen slice earlier seen → HasSeen slice (earlier ++ now row ∷ []) seen')
      → new ≡ true → HasSeen columns (map now (take (i + 1) rows)) seen' × (have_twins parts (map now (take (i + 1) rows)) ≡ false)
  twins_next seen seen' new (has, none) says puts is =
      let before : List (List Value) = map now (take i rows) in
      let apart : has_twin parts before (now row) ≡ false = not-true (has_twin parts before (now row)) (sym (twin_tested seen new has says) ∙ is) in
      let put : HasSeen columns (before ++ now row ∷ []) seen' =
      subst (λ cs. HasSeen cs (before ++ now row ∷ []) seen') lent (puts before (subst (λ cs. HasSeen cs before seen) (sym lent) has)) in (
        subst (λ rs. HasSeen columns rs seen') (sym one_more) put,
        ap (have_twins parts) one_more ∙ twins_with_last parts before (now row) ∙ rw (none, apart) refl,
      )

-- ---- rows that are looked at apart, as those that a statement puts, from the others

shuffled : (a b c d e : Bool) → ((a || b) || ((c || d) || e)) ≡ (((a || c) || (b || d)) || e)
shuffled true b c d e = refl
shuffled false true true d e = refl
shuffled false true false d e = refl
shuffled false false true d e = refl
shuffled false false false d e = refl

none_of_none : (parts : List KeyPart) (rows : List (List Value)) → list_any (has_twin parts []) rows ≡ false
none_of_none parts [] = refl
none_of_none parts (row ∷ rows) = none_of_none parts rows

-- which of these rows has the key of one of those: the first of those, or of the others
twin_of_first : (parts : List KeyPart) (first : List Value) (others rows : List (List Value)) → list_any (has_twin parts (first ∷ others)) rows ≡ (has_twin parts rows first || list_any (has_twin parts others) rows)
twin_of_first parts first others [] = refl
twin_of_first parts first others (row ∷ rows) =
    rw (twin_of_first parts first others rows, twins-sym parts row first) (swapped (are_twins parts first row) (has_twin parts others row) (has_twin parts rows first) (list_any (has_twin parts others) rows))
  where
    swapped : (a b c d : Bool) → ((a || b) || (c || d)) ≡ ((a || c) || (b || d))
    swapped true b c d = refl
    swapped false true true d = refl
    swapped false true false d = refl
    swapped false false c d = refl

-- two of all rows have equal keys: two of the first, one of the others and one of the first, or two of the others
pub twins_of_both : (parts : List KeyPart) (rows more : List (List Value)) → have_twins parts (rows ++ more) ≡ ((have_twins parts rows || list_any (has_twin parts rows) more) || have_twins parts more)
twins_of_both parts [] more = rw (none_of_none parts more) refl
twins_of_both parts (row ∷ rows) more =
    rw (list_any-append (are_twins parts row) rows more, twins_of_both parts rows more, twin_of_first parts row rows more)
    (shuffled (has_twin parts rows row) (has_twin parts more row) (have_twins parts rows) (list_any (has_twin parts rows) more) (have_twins parts more))
