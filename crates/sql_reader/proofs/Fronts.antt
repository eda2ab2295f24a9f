-- Where a list of bytes is cut: at the first byte that fails a test, and behind a line feed.
use Rattle.std.proofs.Common.{◌≡◌, ◌≢◌, ℕ, suc, ◌+◌, ◌-◌, ◌≤◌, List, [], ◌∷◌, ◌++◌, length, get_or, take, drop, Bool, true, false, cond, Some, None, ◌⊎◌, refl, sym, ◌∙◌, ap, subst, inl, inr, arith}
use Rattle.std.specs.Prelude.{IsTrue, ◌==◌, not, nat_lt, unwrap_or}
use Rattle.std.specs.List.{prefix_len}
use Rattle.std.proofs.lemmas.List.{take_all}
use Rattle.std.proofs.lemmas.List.Sums.{prefix_len-le-length}
use Rattle.std.proofs.lemmas.Bool.{cases_Bool}
use Rattle.std.proofs.lemmas.Bool.Decides.{nat_tests}
use Rattle.mdc_ast.specs.Cutting.{Lacks, Passes}
use Rattle.mdc_ast.specs.Tokens.{Stops}
use Rattle.sql_reader.specs.Digits.{IsLongestFront}
use Rattle.sql_reader.specs.Front.{after_line, front_len}

-- a list has one longest front that passes
pub one_front : (test : ℕ → Bool) (a x b y : List ℕ) → Passes test a → Stops test x → Passes test b → Stops test y → a ++ x ≡ b ++ y → (a ≡ b) × (x ≡ y)
one_front test [] x [] y passes_a stops_x passes_b stops_y e = (refl, e)
one_front test [] x (d ∷ b) y passes_a stops_x passes_b stops_y e =
    let fails : test d ≡ false = subst (Stops test) e stops_x in
    let passed : test d ≡ true = passes_b.0 in
    absurd (cc)
one_front test (c ∷ a) x [] y passes_a stops_x passes_b stops_y e =
    let back : y ≡ c ∷ (a ++ x) = cc in
    let fails : test c ≡ false = subst (Stops test) back stops_y in
    let passed : test c ≡ true = passes_a.0 in
    absurd (cc)
one_front test (c ∷ a) x (d ∷ b) y passes_a stops_x passes_b stops_y e =
    let head : c ≡ d = cc in
    let tails : a ++ x ≡ b ++ y = cc in
    let same = one_front test a x b y passes_a.1 stops_x passes_b.1 stops_y tails in
    let front : a ≡ b = same.0 in
    (cc, same.1)

-- with one byte more that passes, the longest front has one more
pub longest_more : (test : ℕ → Bool) (b : ℕ) (bytes front rest : List ℕ) → IsTrue (test b) → IsLongestFront test bytes front rest → IsLongestFront test (b ∷ bytes) (b ∷ front) rest
longest_more test b bytes front rest passes longest = record {
  whole = ap (λ l. b ∷ l) longest.whole;
  passes = (passes, longest.passes);
  stops = longest.stops;
}

-- each list has a longest front
pub longest_front : (test : ℕ → Bool) (bytes : List ℕ) → (front rest : List ℕ) × IsLongestFront test bytes front rest
longest_front test [] = ([], [], record { whole = refl; passes = tt; stops = tt })
longest_front test (b ∷ bytes) =
    elim (cases_Bool (test b)) [
      | inl passes ↦
          let more = longest_front test bytes in
          (b ∷ more.0, more.1, longest_more test b bytes more.0 more.1 passes more.2)
      | inr fails ↦ ([], b ∷ bytes, record { whole = refl; passes = tt; stops = fails })
    ]

-- whether a byte is a line feed
is_feed : (b : ℕ) → (b == 10) ≡ true → b ≡ 10
is_feed b feeds = grind (arith, nat_tests)

-- the same, where it is none
is_no_feed : (b : ℕ) → (b == 10) ≡ false → b ≢ 10
is_no_feed b feeds = grind (arith, nat_tests)

-- what is no line feed fails the test
feeds_not : (b : ℕ) → b ≢ 10 → (b == 10) ≡ false
feeds_not b other = grind (arith, nat_tests)

-- what is behind the line feed that ends a line
pub after_line-feed : (inside rest : List ℕ) → Lacks 10 inside → after_line (inside ++ 10 ∷ rest) ≡ rest
after_line-feed [] rest lacks = refl
after_line-feed (b ∷ inside) rest lacks = rw (feeds_not b lacks.0) (after_line-feed inside rest lacks.1)

-- nothing is behind a line that no line feed ends
pub after_line-open : (inside : List ℕ) → Lacks 10 inside → after_line inside ≡ []
after_line-open [] lacks = refl
after_line-open (b ∷ inside) lacks = rw (feeds_not b lacks.0) (after_line-open inside lacks.1)

-- a line feed ends the line, or there is none
pub line_ends : (bytes : List ℕ) → ((inside : List ℕ) × Lacks 10 inside × (bytes ≡ inside ++ 10 ∷ after_line bytes)) ⊎ (Lacks 10 bytes × (after_line bytes ≡ []))
line_ends [] = inr (tt, refl)
line_ends (b ∷ bytes) =
    elim (cases_Bool (b == 10)) [
      | inl feeds ↦ let feed : b ≡ 10 = is_feed b feeds in inl ([], tt, rw feeds (ap (λ c. c ∷ bytes) feed))
      | inr other ↦
          elim (line_ends bytes) [
            | inl ended ↦ inl (b ∷ ended.0, (is_no_feed b other, ended.1), rw other (ap (λ l. b ∷ l) ended.2))
            | inr unended ↦ inr ((is_no_feed b other, unended.0), rw other unended.1)
          ]
    ]

-- no more is left behind a line than there was
pub length-after_line : (bytes : List ℕ) → length (after_line bytes) ≤ length bytes
length-after_line [] = omega arith
length-after_line (b ∷ bytes) =
    elim (cases_Bool (b == 10)) [
      | inl feeds ↦ rw feeds (omega arith)
      | inr other ↦ rw other (omega (arith, length-after_line bytes))
    ]

-- the bytes behind the first, as a slice pattern takes them
abbrev pub tail : List ℕ → List ℕ
tail bytes = take (length bytes - 1) (drop 1 bytes)

-- one byte goes
pub tail-cons : (b : ℕ) (bytes : List ℕ) → tail (b ∷ bytes) ≡ bytes
tail-cons b bytes = take_all (length (b ∷ bytes) - 1) bytes (omega arith)

-- bytes are the first and those behind it
pub first_and_tail : (bytes : List ℕ) → 1 ≤ length bytes → bytes ≡ get_or bytes 0 0 ∷ tail bytes
first_and_tail [] some = absurd (omega arith)
first_and_tail (b ∷ bytes) some = ap (λ l. b ∷ l) (sym (tail-cons b bytes))

-- what passes from the front on is the longest front
longest_prefix : (test passes : ℕ → Bool) → ((b : ℕ) → passes b ≡ test b) → (bytes : List ℕ) → IsLongestFront test bytes (take (prefix_len passes bytes) bytes) (drop (prefix_len passes bytes) bytes)
longest_prefix test passes same [] = record { whole = refl; passes = tt; stops = tt }
longest_prefix test passes same (b ∷ bytes) =
    elim (cases_Bool (passes b)) [
      | inl passed ↦
          let more : 1 + prefix_len passes bytes ≡ suc (prefix_len passes bytes) = omega arith in
          rw (passed, more) (longest_more test b bytes _ _ (sym (same b) ∙ passed) (longest_prefix test passes same bytes))
      | inr failed ↦ rw failed (record { whole = refl; passes = tt; stops = sym (same b) ∙ failed })
    ]

-- twice not is the same
not-not : (b : Bool) → not (not b) ≡ b
not-not true = refl
not-not false = refl

-- a place or the length is a length that a list has
within : (place len : ℕ) → place ≤ len → unwrap_or (cond (nat_lt place len) (Some place) None) len ≡ place
within place len h =
    elim (cases_Bool (nat_lt place len)) [
      | inl passed ↦ rw passed refl
      | inr failed ↦ rw failed (grind (arith, nat_tests))
    ]

-- the length of the front counts what passes from the first byte on
pub front_len-prefix_len : (test : ℕ → Bool) (bytes : List ℕ) → front_len test bytes ≡ prefix_len (λ b. not (not (test b))) bytes
front_len-prefix_len test bytes = within (prefix_len (λ b. not (not (test b))) bytes) (length bytes) (prefix_len-le-length (λ b. not (not (test b))) bytes)

-- so many bytes are the longest front
pub longest_by_len : (test : ℕ → Bool) (bytes : List ℕ) → IsLongestFront test bytes (take (front_len test bytes) bytes) (drop (front_len test bytes) bytes)
longest_by_len test bytes =
    let P : ℕ → Type 0 = λ n. IsLongestFront test bytes (take n bytes) (drop n bytes) in
    subst P (sym (front_len-prefix_len test bytes)) (longest_prefix test (λ b. not (not (test b))) (λ b. not-not (test b)) bytes)
