-- Keys are equal exactly where the group values are.
use Rattle.std.proofs.Common.{◌≡◌, ℕ, ◌<◌, ◌≤◌, ◌^◌, List, [], ◌∷◌, ◌++◌, length, Bool, true, false, ◌&&◌, ◌==◌, flat_map, refl, sym, ap, ◌∙◌, arith, append_assoc, ℤ, pos, negsuc}
use Rattle.std.specs.Prelude.{IsTrue}
use Rattle.std.specs.Int.{to_be_bytes, from_be_bytes, cast_unsigned, cast_signed, w32, w64}
use Rattle.std.specs.Ordering.{int_eq}
use Rattle.std.specs.Str.{bytes_eq}
use Rattle.std.specs.Cmp.Lexicographic.{bytes_decides}
use Rattle.std.specs.Prelude.{FitsSigned}
use Rattle.std.proofs.Common.{eq-eqb}
use Rattle.std.proofs.lemmas.Cmp.{int_eq_equiv, nat_eq_equiv, nat_list_eq_equiv}
use Rattle.std.proofs.lemmas.Bool.Decides.{Decides-eqb, Decides-int_eq, nat_tests}
use Rattle.std.proofs.lemmas.Int.{to_z-of_z, fits_signed_from_abs}
use Rattle.std.proofs.lemmas.Nat.{from_be_bytes-to_be_bytes_4, from_be_bytes-to_be_bytes_8}
use Rattle.mdc_values.specs.Fitting.{in_bigint}
use Rattle.mdc_values.specs.declared.value.Value.{Value}
use Rattle.mdc_values.specs.declared.value.Value.TheVariants.{Null, Int, Text, Day}
use Rattle.mdc_values.specs.Value.{trimmed}
use Rattle.mdc_ast.specs.Truth.{value_at}
use Rattle.row_groups.specs.Keys.{are_small, code, group_key, marked}
use Rattle.row_groups.specs.Lines.{are_grouped}
use Rattle.row_groups.specs.Values.{belong_together, is_small}

both_left : (a b : Bool) → (a && b) ≡ true → a ≡ true
both_left true b h = refl
both_left false b h = h

both_right : (a b : Bool) → (a && b) ≡ true → b ≡ true
both_right true b h = h
both_right false b h = cc

and-assoc : (a b c : Bool) → ((a && b) && c) ≡ (a && (b && c))
and-assoc true b c = refl
and-assoc false b c = refl

-- lists of one length behind which others stand
pointwise-append : (xs ys a b : List ℕ) → length xs ≡ length ys → bytes_eq (xs ++ a) (ys ++ b) ≡ (bytes_eq xs ys && bytes_eq a b)
pointwise-append [] [] a b l = refl
pointwise-append [] (y ∷ ys) a b l = absurd (omega (arith, l))
pointwise-append (x ∷ xs) [] a b l = absurd (omega (arith, l))
pointwise-append (x ∷ xs) (y ∷ ys) a b l = ap (λ r. (x == y) && r) (pointwise-append xs ys a b (omega (arith, l))) ∙ sym (and-assoc (x == y) (bytes_eq xs ys) (bytes_eq a b))

-- marked texts show where they end
marked_same : (s t a b : List ℕ) → bytes_eq (flat_map marked s ++ 0 ∷ a) (flat_map marked t ++ 0 ∷ b) ≡ (bytes_eq s t && bytes_eq a b)
marked_same [] [] a b = refl
marked_same [] (y ∷ t) a b = refl
marked_same (x ∷ s) [] a b = refl
marked_same (x ∷ s) (y ∷ t) a b = ap (λ r. (x == y) && r) (marked_same s t a b) ∙ sym (and-assoc (x == y) (bytes_eq s t) (bytes_eq a b))

-- tests that are true in the same cases
same_tests : (a b : Bool) → (a ≡ true → b ≡ true) → (b ≡ true → a ≡ true) → a ≡ b
same_tests true b f g = sym (f refl)
same_tests false true f g = g refl
same_tests false false f g = refl

day_same : (a b : ℕ) → a < 2 ^ 32 → b < 2 ^ 32 → bytes_eq (to_be_bytes w32 a) (to_be_bytes w32 b) ≡ (a == b)
day_same a b la lb = same_tests _ _
    (λ e. eq-eqb a b (sym (from_be_bytes-to_be_bytes_4 a la) ∙ ap (from_be_bytes w32) ((bytes_decides (to_be_bytes w32 a) (to_be_bytes w32 b)).0 e) ∙ from_be_bytes-to_be_bytes_4 b lb))
    (λ e. (bytes_decides (to_be_bytes w32 a) (to_be_bytes w32 b)).1 (ap (to_be_bytes w32) ((Decides-eqb a b).0 e)))

word_same : (a b : ℕ) → a < 2 ^ 64 → b < 2 ^ 64 → bytes_eq (to_be_bytes w64 a) (to_be_bytes w64 b) ≡ true → a ≡ b
word_same a b la lb e = sym (from_be_bytes-to_be_bytes_8 a la) ∙ ap (from_be_bytes w64) ((bytes_decides (to_be_bytes w64 a) (to_be_bytes w64 b)).0 e) ∙ from_be_bytes-to_be_bytes_8 b lb

small_fits : (n : ℤ) → IsTrue (in_bigint n) → FitsSigned w64 n
small_fits (pos n) h = let le : n ≤ 9223372036854775807 = grind (arith, nat_tests) in fits_signed_from_abs w64 (pos n) (omega arith)
small_fits (negsuc n) h = let le : n ≤ 9223372036854775807 = grind (arith, nat_tests) in record { sfits = omega arith }

int_same : (m n : ℤ) → FitsSigned w64 m → FitsSigned w64 n → bytes_eq (to_be_bytes w64 (cast_unsigned w64 m)) (to_be_bytes w64 (cast_unsigned w64 n)) ≡ int_eq m n
int_same m n fm fn = same_tests _ _
    (λ e. (Decides-int_eq m n).1 (sym (to_z-of_z w64 m fm) ∙ ap (cast_signed w64) (word_same (cast_unsigned w64 m) (cast_unsigned w64 n) (below m fm) (below n fn) e) ∙ to_z-of_z w64 n fn))
    (λ e. (bytes_decides (to_be_bytes w64 (cast_unsigned w64 m)) (to_be_bytes w64 (cast_unsigned w64 n))).1 (ap (λ z. to_be_bytes w64 (cast_unsigned w64 z)) ((Decides-int_eq m n).0 e)))
  where
    below : (z : ℤ) → FitsSigned w64 z → cast_unsigned w64 z < 2 ^ 64
    below (pos z) f = let g = f.sfits in omega arith
    below (negsuc z) f = let g = f.sfits in omega arith

-- two values behind which others stand
code_same : (a b : Value) (xs ys : List ℕ) → IsTrue (is_small a) → IsTrue (is_small b) → bytes_eq (code a ++ xs) (code b ++ ys) ≡ (belong_together a b && bytes_eq xs ys)
code_same Null Null xs ys sa sb = refl
code_same Null (Int n) xs ys sa sb = refl
code_same Null (Text u) xs ys sa sb = refl
code_same Null (Day e) xs ys sa sb = refl
code_same (Int m) Null xs ys sa sb = refl
code_same (Int m) (Int n) xs ys sa sb = pointwise-append (to_be_bytes w64 (cast_unsigned w64 m)) (to_be_bytes w64 (cast_unsigned w64 n)) xs ys refl ∙ ap (λ r. r && bytes_eq xs ys) (int_same m n (small_fits m sa) (small_fits n sb))
code_same (Int m) (Text u) xs ys sa sb = refl
code_same (Int m) (Day e) xs ys sa sb = refl
code_same (Text t) Null xs ys sa sb = refl
code_same (Text t) (Int n) xs ys sa sb = refl
code_same (Text t) (Text u) xs ys sa sb = cc (append_assoc (flat_map marked (trimmed t)) (0 ∷ []) xs, append_assoc (flat_map marked (trimmed u)) (0 ∷ []) ys, marked_same (trimmed t) (trimmed u) xs ys)
code_same (Text t) (Day e) xs ys sa sb = refl
code_same (Day d) Null xs ys sa sb = refl
code_same (Day d) (Int n) xs ys sa sb = refl
code_same (Day d) (Text u) xs ys sa sb = refl
code_same (Day d) (Day e) xs ys sa sb = pointwise-append (to_be_bytes w32 d) (to_be_bytes w32 e) xs ys refl ∙ ap (λ r. r && bytes_eq xs ys) (day_same d e (grind (arith, nat_tests)) (grind (arith, nat_tests)))

-- keys are equal exactly where the values are
pub keys_same : (columns : List ℕ) (a b : List Value) → IsTrue (are_small columns a) → IsTrue (are_small columns b) → bytes_eq (group_key columns a) (group_key columns b) ≡ are_grouped columns a b
keys_same [] a b sa sb = refl
keys_same (column ∷ columns) a b sa sb =
    code_same (value_at a column) (value_at b column) (group_key columns a) (group_key columns b)
    (both_left (is_small (value_at a column)) (are_small columns a) sa) (both_left (is_small (value_at b column)) (are_small columns b) sb)
    ∙ ap (λ r. belong_together (value_at a column) (value_at b column) && r)
    (keys_same columns a b (both_right (is_small (value_at a column)) (are_small columns a) sa) (both_right (is_small (value_at b column)) (are_small columns b) sb))

-- ---- a row is of its own group

together-refl : (a : Value) → belong_together a a ≡ true
together-refl Null = refl
together-refl (Int n) = int_eq_equiv.refl n
together-refl (Text t) = nat_list_eq_equiv.refl (trimmed t)
together-refl (Day d) = nat_eq_equiv.refl d

pub grouped-refl : (columns : List ℕ) (a : List Value) → are_grouped columns a a ≡ true
grouped-refl [] a = refl
grouped-refl (column ∷ columns) a = rw (together-refl (value_at a column)) (grouped-refl columns a)
