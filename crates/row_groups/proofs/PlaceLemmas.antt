-- Lines by the places of their keys, while rows are added, and all of them.
use Rattle.std.proofs.Common.{◌≡◌, ℕ, zero, suc, ◌+◌, ◌≤◌, ◌<◌, List, [], ◌∷◌, ◌++◌, length, map, take, get_or, Bool, true, false, cond, Option, Some, None, refl, sym, ap, ◌∙◌, subst, arith}
use Rattle.std.specs.Prelude.{IsTrue, slice_set}
use Rattle.std.specs.BTreeMap.{insert_entry}
use Rattle.std.specs.Cmp.Lexicographic.{slice_cmp, bytes_decides}
use Rattle.std.specs.List.{AllByRecursion, IsDistinct}
use Rattle.std.specs.List.Sorted.{IsPermutation}
use Rattle.std.specs.Map.{keys_of, lookup}
use Rattle.std.specs.Map as entries
use Rattle.std.specs.Option.{option_map}
use Rattle.std.specs.Ordering.{nat_cmp}
use Rattle.std.specs.Str.{bytes_eq}
use Rattle.std.proofs.Math.ListN.{get_or-append}
use Rattle.std.proofs.Math.Seq.{get_or-append_seam}
use Rattle.std.proofs.lemmas.Cmp.{nat_list_eq_equiv}
use Rattle.std.proofs.lemmas.List.{get_or-set_other, get_or-set_same, length-append, take_more}
use Rattle.std.proofs.lemmas.List.Sorted.{IsPermutation-cons, IsPermutation-map, IsPermutation-push_more, IsPermutation-refl, IsPermutation-sym, IsPermutation-trans}
use Rattle.std.proofs.lemmas.Map.{none_passes_from_lookup}
use Rattle.std.proofs.lemmas.Map.Keys.{IsDistinct-IsPermutation}
use Rattle.mdc_values.specs.declared.value.Value.{Value}
use Rattle.mdc_ast.specs.declared.row.Row.{Row}
use Rattle.row_groups.specs.Adding.{Numbered, joined_many, line_of_many}
use Rattle.row_groups.specs.Gathering.{AreFound, ArePlaced, IsKeyed, lines_at, no_line, places_below}
use Rattle.row_groups.specs.Keys.{are_small, group_key}
use Rattle.row_groups.specs.Naming.{AreAlike}
use Rattle.row_groups.specs.Shape.{Shape}
use Rattle.row_groups.proofs.AlikeLemmas.{all_joined, found_more}
use Rattle.row_groups.proofs.MapLemmas.{inserted, lookup_insert}

-- ---- what is found at a key

abbrev line_in : List Numbered → ℕ → Numbered
line_in lines place = get_or lines place no_line

line_found : (lines : List Numbered) (places : List (List ℕ × ℕ)) (q : List ℕ) → lookup (bytes_eq q) (lines_at lines places) ≡ option_map (line_in lines) (lookup (bytes_eq q) places)
line_found lines [] q = refl
line_found lines (e ∷ places) q = at (bytes_eq q e.0) (line_found lines places q)
  where
    at : (b : Bool) → lookup (bytes_eq q) (lines_at lines places) ≡ option_map (line_in lines) (lookup (bytes_eq q) places)
        → cond b (Some (line_in lines e.1)) (lookup (bytes_eq q) (lines_at lines places)) ≡ option_map (line_in lines) (cond b (Some e.1) (lookup (bytes_eq q) places))
    at true rest = refl
    at false rest = rest

line_there : (lines : List Numbered) (places : List (List ℕ × ℕ)) (key : List ℕ) (place : ℕ) → lookup (bytes_eq key) places ≡ Some place → lookup (bytes_eq key) (lines_at lines places) ≡ Some (line_in lines place)
line_there lines places key place there = line_found lines places key ∙ ap (option_map (line_in lines)) there

-- ---- a line changes

-- a line that changes changes what is found at its key alone
line_changed : (lines : List Numbered) (places : List (List ℕ × ℕ)) (key : List ℕ) (place : ℕ) (new : Numbered) → ArePlaced (length lines) places → lookup (bytes_eq key) places ≡ Some place → (q : List ℕ)
    → lookup (bytes_eq q) (lines_at (slice_set lines place new) places) ≡ cond (bytes_eq key q) (Some new) (lookup (bytes_eq q) (lines_at lines places))
line_changed lines places key place new placed there q = at (bytes_eq key q) refl
  where
    low : place < length lines
    low = placed.below key place there

    other : (found : Option ℕ) → lookup (bytes_eq q) places ≡ found → bytes_eq key q ≡ false → option_map (line_in (slice_set lines place new)) found ≡ option_map (line_in lines) found
    other None e n = refl
    other (Some at) e n = ap Some (get_or-set_other lines place at new no_line
        (λ same. let key_is : key ≡ q = placed.apart key q place there (e ∙ ap Some same) in let yes : bytes_eq key q ≡ true = (bytes_decides key q).1 key_is in cc))

    at : (b : Bool) → bytes_eq key q ≡ b → lookup (bytes_eq q) (lines_at (slice_set lines place new) places) ≡ cond b (Some new) (lookup (bytes_eq q) (lines_at lines places))
    at true e =
        let same : key ≡ q = (bytes_decides key q).0 e in
        line_found (slice_set lines place new) places q ∙ ap (λ k. option_map (line_in (slice_set lines place new)) (lookup (bytes_eq k) places)) (sym same)
        ∙ ap (option_map (line_in (slice_set lines place new))) there ∙ ap Some (get_or-set_same lines place new no_line low)
    at false e = line_found (slice_set lines place new) places q ∙ other (lookup (bytes_eq q) places) refl e ∙ sym (line_found lines places q)

-- more rows of a line that is there
pub line_grows : (shape : Shape) (rows : List Row) (row : Row) (more : List Row) (lowest count : ℕ) (values : List Value) (key : List ℕ) (lines : List Numbered) (places : List (List ℕ × ℕ)) (place : ℕ) → ArePlaced (length lines) places
    → AreFound shape rows (lines_at lines places) → AreAlike shape lowest count values row more → IsTrue (are_small shape.group values) → key ≡ group_key shape.group values
    → lookup (bytes_eq key) places ≡ Some place
    → AreFound shape (rows ++ row ∷ more) (lines_at (slice_set lines place (joined_many shape count (get_or lines place no_line) (record { number = lowest; values = values }))) places)
line_grows shape rows row more lowest count values key lines places place placed are alike small is there =
    found_more shape rows row more lowest count values key (lines_at lines places) _ (joined_many shape count (line_in lines place) (record { number = lowest; values = values })) are alike small is
    (ap (λ o. all_joined shape count o (record { number = lowest; values = values })) (sym (line_there lines places key place there)))
    (line_changed lines places key place _ placed there)

-- ---- a line more

abbrev with_key : List (List ℕ × ℕ) → List ℕ → ℕ → List (List ℕ × ℕ)
with_key places key place = insert_entry (slice_cmp nat_cmp) places key place

-- a line more is found at its key, and all others where they were
line_added : (lines : List Numbered) (places : List (List ℕ × ℕ)) (key : List ℕ) (new : Numbered) → ArePlaced (length lines) places → (q : List ℕ)
    → lookup (bytes_eq q) (lines_at (lines ++ new ∷ []) (with_key places key (length lines))) ≡ cond (bytes_eq key q) (Some new) (lookup (bytes_eq q) (lines_at lines places))
line_added lines places key new placed q =
    line_found (lines ++ new ∷ []) (with_key places key (length lines)) q ∙ ap (option_map (line_in (lines ++ new ∷ []))) (lookup_insert key q places (length lines)) ∙ at (bytes_eq key q)
  where
    other : (found : Option ℕ) → lookup (bytes_eq q) places ≡ found → option_map (line_in (lines ++ new ∷ [])) found ≡ option_map (line_in lines) found
    other None e = refl
    other (Some at) e = ap Some (get_or-append lines (new ∷ []) no_line at (placed.below q at e))

    at : (b : Bool) → option_map (line_in (lines ++ new ∷ [])) (cond b (Some (length lines)) (lookup (bytes_eq q) places)) ≡ cond b (Some new) (lookup (bytes_eq q) (lines_at lines places))
    at true = ap Some (get_or-append_seam lines new [] no_line)
    at false = other (lookup (bytes_eq q) places) refl ∙ sym (line_found lines places q)

-- the first rows of a line
pub line_begins : (shape : Shape) (rows : List Row) (row : Row) (more : List Row) (lowest count : ℕ) (values : List Value) (key : List ℕ) (lines lines' : List Numbered) (places places' : List (List ℕ × ℕ)) (new : Numbered) → ArePlaced (length lines) places
    → AreFound shape rows (lines_at lines places) → AreAlike shape lowest count values row more → IsTrue (are_small shape.group values) → key ≡ group_key shape.group values
    → lookup (bytes_eq key) places ≡ None → lines' ≡ lines ++ new ∷ [] → places' ≡ insert_entry (slice_cmp nat_cmp) places key (length lines)
    → new ≡ line_of_many shape count (record { number = lowest; values = values }) → AreFound shape (rows ++ row ∷ more) (lines_at lines' places')
line_begins shape rows row more lowest count values key lines lines' places places' new placed are alike small is none longer keyed made =
    subst (λ all. AreFound shape (rows ++ row ∷ more) (lines_at all places')) (sym longer)
    (subst (λ all. AreFound shape (rows ++ row ∷ more) (lines_at (lines ++ new ∷ []) all)) (sym keyed)
    (found_more shape rows row more lowest count values key (lines_at lines places) (lines_at (lines ++ new ∷ []) (with_key places key (length lines))) new are alike small is
    (made ∙ ap (λ o. all_joined shape count o (record { number = lowest; values = values })) (sym (line_found lines places key ∙ ap (option_map (line_in lines)) none)))
    (line_added lines places key new placed)))

-- the new key has the next place
placed_more : (count : ℕ) (places : List (List ℕ × ℕ)) (key : List ℕ) → ArePlaced count places → lookup (bytes_eq key) places ≡ None → ArePlaced (count + 1) (insert_entry (slice_cmp nat_cmp) places key count)
unfolding IsDistinct
placed_more count places key placed none = record {
  differ = IsDistinct-IsPermutation bytes_eq nat_list_eq_equiv.symm (key ∷ keys_of places) (keys_of (with_key places key count)) (IsPermutation-map (λ (e : List ℕ × ℕ). e.0) _ _ grown) differs;
  all = subst (λ n. IsPermutation (places_below n) (entries.values_of (with_key places key count))) next
      (IsPermutation-trans _ _ _ (IsPermutation-cons count (places_below count) (entries.values_of places) placed.all) (IsPermutation-map (λ (e : List ℕ × ℕ). e.1) _ _ grown));
  below = λ q place there. low q place (bytes_eq key q) refl (sym (lookup_insert key q places count) ∙ there);
  apart = λ a b place there here.
      same a b place (bytes_eq key a) (bytes_eq key b) refl refl (sym (lookup_insert key a places count) ∙ there) (sym (lookup_insert key b places count) ∙ here);
}
  where
    next : suc count ≡ count + 1
    next = omega arith

    grown : IsPermutation ((key, count) ∷ places) (with_key places key count)
    grown = inserted key places count none

    apart_all : (es : List (List ℕ × ℕ)) → AllByRecursion (λ (e : List ℕ × ℕ). bytes_eq key e.0 ≡ false) es → AllByRecursion (λ k. bytes_eq key k ≡ false) (keys_of es)
    apart_all [] all = tt
    apart_all (e ∷ es) all = (all.0, apart_all es all.1)

    differs : IsDistinct bytes_eq (key ∷ keys_of places)
    differs = (apart_all places (none_passes_from_lookup (bytes_eq key) places none), placed.differ)

    inside : {a b : ℕ} → Some a ≡ Some b → a ≡ b
    inside e = cc

    low : (q : List ℕ) (place : ℕ) (b : Bool) → bytes_eq key q ≡ b → cond (bytes_eq key q) (Some count) (lookup (bytes_eq q) places) ≡ Some place → place < count + 1
    low q place true e there = let here : count ≡ place = inside (rw e at there) in omega (arith, here)
    low q place false e there = let lt = placed.below q place (rw e at there) in omega (arith, lt)

    same : (a b : List ℕ) (place : ℕ) (x y : Bool) → bytes_eq key a ≡ x → bytes_eq key b ≡ y → cond (bytes_eq key a) (Some count) (lookup (bytes_eq a) places) ≡ Some place
        → cond (bytes_eq key b) (Some count) (lookup (bytes_eq b) places) ≡ Some place → a ≡ b
    same a b place true true e f there here = sym ((bytes_decides key a).0 e) ∙ (bytes_decides key b).0 f
    same a b place true false e f there here =
        absurd (let is : count ≡ place = inside (rw e at there) in let lt = placed.below b place (rw f at here) in omega (arith, is, lt))
    same a b place false true e f there here =
        absurd (let is : count ≡ place = inside (rw f at here) in let lt = placed.below a place (rw e at there) in omega (arith, is, lt))
    same a b place false false e f there here = placed.apart a b place (rw e at there) (rw f at here)

-- the new key is found at the place that it was given
placed_last : (count : ℕ) (places : List (List ℕ × ℕ)) (key : List ℕ) → lookup (bytes_eq key) (insert_entry (slice_cmp nat_cmp) places key count) ≡ Some count
placed_last count places key = lookup_insert key key places count ∙ (let itself : bytes_eq key key ≡ true = nat_list_eq_equiv.refl key in rw itself refl)

-- a new line, and its key at hand
pub keyed_more : (lines lines' : List Numbered) (places places' : List (List ℕ × ℕ)) (key : List ℕ) (place : ℕ) (new : Numbered) → ArePlaced (length lines) places → lookup (bytes_eq key) places ≡ None → lines' ≡ lines ++ new ∷ []
    → places' ≡ insert_entry (slice_cmp nat_cmp) places key (length lines) → place ≡ length lines → IsKeyed lines' places' key (Some place)
keyed_more lines lines' places places' key place new placed none longer more last = record {
  placed = subst (ArePlaced (length lines')) (sym more)
      (subst (λ n. ArePlaced n (with_key places key (length lines))) (sym (length-append lines (new ∷ [])) ∙ ap (λ (ls : List Numbered). length ls) (sym longer)) (placed_more (length lines) places key placed none));
  known = ap (lookup (bytes_eq key)) more ∙ placed_last (length lines) places key ∙ ap Some (sym last);
}

-- no lines
pub keyed_none : (lines : List Numbered) (places : List (List ℕ × ℕ)) (key : List ℕ) → lines ≡ [] → places ≡ [] → IsKeyed lines places key None
unfolding IsDistinct
keyed_none lines places key no_lines no_places = record {
  placed = subst (λ (ls : List Numbered). ArePlaced (length ls) places) (sym no_lines)
      (subst (ArePlaced 0) (sym no_places) (record { differ = tt; all = IsPermutation-refl []; below = λ key place there. cc; apart = λ a b place there here. cc }));
  known = tt;
}

-- ---- all lines

up_to : (lines : List Numbered) (n : ℕ) → n ≤ length lines → IsPermutation (take n lines) (map (line_in lines) (places_below n))
up_to lines zero low = IsPermutation-refl []
up_to lines (suc n) low =
    let next : n + 1 ≡ suc n = omega arith in
    let more : take n lines ++ line_in lines n ∷ [] ≡ take (suc n) lines = sym (take_more lines n no_line (omega (arith, low))) ∙ ap (λ m. take m lines) next in
    subst (λ front. IsPermutation front (map (line_in lines) (places_below (suc n)))) more
    (IsPermutation-push_more (take n lines) (map (line_in lines) (places_below n)) (line_in lines n ∷ map (line_in lines) (places_below n)) (line_in lines n) (up_to lines n (omega (arith, low)))
    (IsPermutation-refl (line_in lines n ∷ map (line_in lines) (places_below n))))

whole : (lines : List Numbered) → take (length lines) lines ≡ lines
whole [] = refl
whole (line ∷ lines) = ap (λ ls. line ∷ ls) (whole lines)

values_at : (lines : List Numbered) (places : List (List ℕ × ℕ)) → entries.values_of (lines_at lines places) ≡ map (line_in lines) (entries.values_of places)
values_at lines [] = refl
values_at lines (e ∷ places) = ap (λ ls. line_in lines e.1 ∷ ls) (values_at lines places)

keys_at : (lines : List Numbered) (places : List (List ℕ × ℕ)) → keys_of (lines_at lines places) ≡ keys_of places
keys_at lines [] = refl
keys_at lines (e ∷ places) = ap (λ ks. e.0 ∷ ks) (keys_at lines places)

-- the lines are what is found, in the order of their places
pub lines_permuted : (lines : List Numbered) (places : List (List ℕ × ℕ)) → ArePlaced (length lines) places → IsPermutation (entries.values_of (lines_at lines places)) lines
lines_permuted lines places placed =
    subst (λ ls. IsPermutation ls lines) (sym (values_at lines places))
    (IsPermutation-sym lines (map (line_in lines) (entries.values_of places))
    (IsPermutation-trans lines (map (line_in lines) (places_below (length lines))) (map (line_in lines) (entries.values_of places))
    (subst (λ ls. IsPermutation ls (map (line_in lines) (places_below (length lines)))) (whole lines) (up_to lines (length lines) (omega arith)))
    (IsPermutation-map (line_in lines) (places_below (length lines)) (entries.values_of places) placed.all)))

pub lines_differ : (lines : List Numbered) (places : List (List ℕ × ℕ)) → ArePlaced (length lines) places → IsDistinct bytes_eq (keys_of (lines_at lines places))
lines_differ lines places placed = subst (IsDistinct bytes_eq) (sym (keys_at lines places)) placed.differ
