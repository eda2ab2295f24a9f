-- Entries under one key: how they are ordered, and what the lowest from a bound on says of their numbers.
use Rattle.std.proofs.Common.{◌≡◌, ◌≢◌, ◌<◌, ◌≤◌, ◌+◌, ◌*◌, ◌%◌, ◌^◌, ℕ, zero, suc, List, [], ◌∷◌, ◌++◌, refl, ap, append-nil, append_assoc, arith, sym, ◌∙◌, subst, length, length-append, take, drop, inl, inr, Ordering, get_or}
use Rattle.std.specs.Prelude.{false, Contains, Option, Some, None, nat_lt}
use Rattle.std.specs.declared.cmp.Ordering.TheVariants.{Less, Equal, Greater}
use Rattle.std.specs.Ordering.{is_lt, nat_cmp, ordering_then}
use Rattle.std.specs.Cmp.Lexicographic.{slice_cmp}
use Rattle.std.proofs.Math.Nat.{mod-eq_of_lt, mul-le-mul_right}
use Rattle.std.proofs.Math.Seq.{take-append_seam}
use Rattle.std.proofs.lemmas.Bool.{cases_lt}
use Rattle.std.proofs.lemmas.Bool.Decides.{nat_tests}
use Rattle.std.proofs.lemmas.List.{get_or-drop, length-drop, length-take-le, take-append-drop}
use Rattle.std.proofs.lemmas.List.Elements.{Contains-append_cases, Contains-append_left, Contains-push}
use Rattle.byteorder.specs.Endian.{big_bytes, big_from, big_number}
use Rattle.byteorder.specs.Numbers.{big_from-cons, big_from-lt, big_number-reads_back, length-bytes_high_first}
use Rattle.mdc_words.specs.ByteOrder.{Entry, below}
use Rattle.key_codec.specs.Keys.{AreBytes}
use Rattle.key_codec.proofs.OrderLemmas.{AreBytes-big_bytes, slice_cmp-append, slice_cmp-big_bytes, slice_cmp-same}
use Rattle.entry_tree.specs.EntryBounds.{IsEntryOf}
use Rattle.entry_tree.specs.Reading.{IsFirstFrom, IsFirstOr, entries_from}
use Rattle.entry_tree.proofs.EntryBoundsLemmas.{exact_entries}
use Rattle.entry_tree.proofs.ReadingLemmas.{from_entries_from, in_entries_from, least_of}
use Rattle.block_index.specs.Numbered.{FindsNumber, numbered}
use Rattle.block_index.proofs.RisingLemmas.{none_of, one_of}

-- ---- order

-- entries under one key go as their numbers
pub below_under : (width : ℕ) (key : List ℕ) (a b : ℕ) → a < 256 ^ width → b < 256 ^ width → below (numbered width key a) (numbered width key b) ≡ nat_lt a b
unfolding below
below_under width key a b small low =
    let numbers = slice_cmp nat_cmp (big_bytes width a) (big_bytes width b) in
    ap is_lt (
    slice_cmp-append key key (big_bytes width a) (big_bytes width b) refl
    ∙ (ap (λ (o : Ordering). ordering_then o numbers) (slice_cmp-same key)
    ∙ (slice_cmp-big_bytes width a b ∙ (ap (λ (n : ℕ). nat_cmp n (b % 256 ^ width)) (mod-eq_of_lt small) ∙ ap (λ (n : ℕ). nat_cmp a n) (mod-eq_of_lt low))))
    ) ∙ tests
  where
    tests : is_lt (nat_cmp a b) ≡ nat_lt a b
    tests = grind (arith, nat_tests)

not_below_under : (width : ℕ) (key : List ℕ) (a b : ℕ) → a < 256 ^ width → b < 256 ^ width → b ≤ a → below (numbered width key a) (numbered width key b) ≡ false
not_below_under width key a b small low h = below_under width key a b small low ∙ grind (arith, nat_tests, h)

no_higher : (width : ℕ) (key : List ℕ) (a b : ℕ) → a < 256 ^ width → b < 256 ^ width → below (numbered width key a) (numbered width key b) ≡ false → b ≤ a
no_higher width key a b small low h = let e : nat_lt a b ≡ false = sym (below_under width key a b small low) ∙ h in grind (arith, nat_tests, e)

-- the front of what isn't below isn't below
front_order : (x y r s : List ℕ) → length x ≡ length y → below (x ++ r) (y ++ s) ≡ false → below x y ≡ false
unfolding below
front_order x y r s same h = go (slice_cmp nat_cmp x y) (sym (ap is_lt (slice_cmp-append x y r s same)) ∙ h)
  where
    go : (o : Ordering) → is_lt (ordering_then o (slice_cmp nat_cmp r s)) ≡ false → is_lt o ≡ false
    go Less e = e
    go Equal e = refl
    go Greater e = refl

-- what lies between entries under one key begins with it
pub between_under : (width : ℕ) (key : List ℕ) (x : Entry) (a b : ℕ) → length x ≡ length key + width → below x (numbered width key a) ≡ false → below (numbered width key b) x ≡ false → take (length key) x ≡ key
between_under width key x a b wide low high =
    let front = take (length key) x in
    let back = drop (length key) x in
    let whole : front ++ back ≡ x = take-append-drop (length key) x in
    let same : length front ≡ length key = length-take-le (length key) x (omega (arith, wide)) in
    exact_entries front key (front_order front key back (big_bytes width a) same (ap (λ v. below v (numbered width key a)) whole ∙ low))
    (front_order key front (big_bytes width b) back (sym same) (ap (below (numbered width key b)) whole ∙ high))

-- ---- the lowest entry from a bound on

module _ (width : ℕ) (key : List ℕ) (from : ℕ) (all : List Entry) (bound : Entry) (found : Option Entry) (small : from < 256 ^ width) (bound_is : bound ≡ numbered width key from) (answers : IsFirstOr all bound found) where
  -- a number from there on is among the entries from the bound on
  reached : (other : ℕ) → other < 256 ^ width → IsEntryOf (numbered width key other) all → from ≤ other → IsEntryOf (numbered width key other) (entries_from bound all)
  reached other fits there high =
      in_entries_from bound (numbered width key other) all there (ap (below (numbered width key other)) bound_is ∙ not_below_under width key other from fits small high)

  pub finds_none : found ≡ None → FindsNumber width key all from None
  finds_none none other fits there high = subst (IsEntryOf (numbered width key other)) (subst (IsFirstOr all bound) none answers) (reached other fits there high)

  module _ (first : Entry) (is : found ≡ Some first) where
    at_first : IsFirstFrom all bound first
    at_first = subst (IsFirstOr all bound) is answers

    not_below_bound : below first (numbered width key from) ≡ false
    not_below_bound = ap (below first) (sym bound_is) ∙ (from_entries_from bound first all at_first.there).1

    -- one that doesn't begin with the key
    pub finds_other : length first ≡ length key + width → take (length key) first ≢ key → FindsNumber width key all from None
    finds_other wide other_key other fits there high =
        other_key (between_under width key first from other wide not_below_bound (least_of first (numbered width key other) (entries_from bound all) at_first.lowest (reached other fits there high)))

    module _ (number : ℕ) (fits : number < 256 ^ width) (has : first ≡ numbered width key number) where
      from_reached : from ≤ number
      from_reached = no_higher width key number from fits small (ap (λ v. below v (numbered width key from)) (sym has) ∙ not_below_bound)

      pub finds_number : FindsNumber width key all from (Some number)
      finds_number = record {
        there = subst (λ v. IsEntryOf v all) has (from_entries_from bound first all at_first.there).0;
        reached = from_reached;
        lowest = λ other small_too there high.
            no_higher width key other number small_too fits (ap (below (numbered width key other)) (sym has) ∙ least_of first (numbered width key other) (entries_from bound all) at_first.lowest (reached other small_too there high));
      }

      -- so no lower one is found
      pub finds_no_lower : number < from → ⊥
      finds_no_lower low = omega (arith, low, from_reached)

-- ---- a list of the numbers under a key

-- these are the numbers below one
pub record AreNumbersBelow (width : ℕ) (key : List ℕ) (entries : List Entry) (from : ℕ) (numbers : List ℕ) : Type 0 where
  pub all : (number : ℕ) → number < from → IsEntryOf (numbered width key number) entries → Contains numbers number
  pub only : (number : ℕ) → Contains numbers number → IsEntryOf (numbered width key number) entries

pub numbers_below_none : (width : ℕ) (key : List ℕ) (entries : List Entry) (numbers : List ℕ) → numbers ≡ [] → AreNumbersBelow width key entries 0 numbers
numbers_below_none width key entries numbers is = record {
  all = λ number low there. absurd (omega (arith, low));
  only = λ number has. absurd (none_of number (subst (λ ns. Contains ns number) is has));
}

module _ (width : ℕ) (key : List ℕ) (entries : List Entry) (from : ℕ) (numbers : List ℕ) (so : AreNumbersBelow width key entries from numbers) where
  pub numbers_below_next : (number : ℕ) (numbers_now : List ℕ) → number < 256 ^ width → FindsNumber width key entries from (Some number) → numbers_now ≡ numbers ++ number ∷ [] → AreNumbersBelow width key entries (number + 1) numbers_now
  numbers_below_next number numbers_now fits found is = record {
    all = λ other low there. subst (λ ns. Contains ns other) (sym is) (elim (cases_lt other from) [
      | inl before ↦ Contains-append_left numbers (number ∷ []) other (so.all other before there)
      | inr behind ↦
          let same : number ≡ other = omega (arith, low, found.lowest other (omega (arith, low, fits)) there behind) in
          subst (Contains (numbers ++ number ∷ [])) same (Contains-push numbers number)
    ]);
    only = λ other has. elim (Contains-append_cases numbers (number ∷ []) other (subst (λ ns. Contains ns other) is has)) [
      | inl before ↦ so.only other before
      | inr last ↦ subst (λ n. IsEntryOf (numbered width key n) entries) (one_of number other last) found.there
    ];
  }

  -- with none from there on they are all
  pub numbers_below_all : FindsNumber width key entries from None → (number : ℕ) → number < 256 ^ width → IsEntryOf (numbered width key number) entries → Contains numbers number
  numbers_below_all none number fits there = elim (cases_lt number from) [ inl before ↦ so.all number before there | inr behind ↦ absurd (none number fits there behind) ]

  -- and so they are behind the last number
  pub numbers_below_most : from ≡ 256 ^ width → (number : ℕ) → number < 256 ^ width → IsEntryOf (numbered width key number) entries → Contains numbers number
  numbers_below_most most number fits there = so.all number (omega (arith, fits, most)) there

-- ---- the bytes of a number

-- digits that differ make other numbers
same_digits : (m h k r s : ℕ) → r < m → s < m → h * m + r ≡ k * m + s → (h ≡ k) × (r ≡ s)
same_digits m h k r s low low_too e = elim (cases_lt h k) [
  | inl less ↦
      let next : h + 1 ≤ k = omega (arith, less) in
      let more : (h + 1) * m ≤ k * m = mul-le-mul_right m next in
      absurd (omega (arith, more, low, e))
  | inr not_less ↦ elim (cases_lt k h) [
    | inl higher ↦
        let next : k + 1 ≤ h = omega (arith, higher) in
        let more : (k + 1) * m ≤ h * m = mul-le-mul_right m next in
        absurd (omega (arith, more, low_too, e))
    | inr not_higher ↦
        let same : h ≡ k = omega (arith, not_less, not_higher) in
        (same, omega (arith, e, ap (λ d. d * m) same))
  ]
]

-- bytes of one number are the same
same_bytes : (n : ℕ) (xs ys : List ℕ) → AreBytes xs → AreBytes ys → length xs ≡ n → length ys ≡ n → big_number n xs ≡ big_number n ys → xs ≡ ys
same_bytes zero [] [] are too long long_too e = refl
same_bytes zero [] (y ∷ ys) are too long long_too e = absurd (omega (arith, long_too))
same_bytes zero (x ∷ xs) ys are too long long_too e = absurd (omega (arith, long))
same_bytes (suc n) [] ys are too long long_too e = absurd (omega (arith, long))
same_bytes (suc n) (x ∷ xs) [] are too long long_too e = absurd (omega (arith, long_too))
same_bytes (suc n) (x ∷ xs) (y ∷ ys) are too long long_too e =
    let both = same_digits (256 ^ n) x y (big_from 1 n (x ∷ xs)) (big_from 1 n (y ∷ ys)) (big_from-lt 1 n (x ∷ xs) are) (big_from-lt 1 n (y ∷ ys) too) e in
    let rest : big_number n xs ≡ big_number n ys = sym (big_from-cons 0 n x xs) ∙ (both.1 ∙ big_from-cons 0 n y ys) in
    let behind = same_bytes n xs ys (λ k. are (suc k)) (λ k. too (suc k)) (omega (arith, long)) (omega (arith, long_too)) rest in
    ap (λ b. b ∷ xs) both.0 ∙ ap (λ bs. y ∷ bs) behind

-- bytes are those of their number
pub printed_again : (n : ℕ) (xs : List ℕ) → AreBytes xs → length xs ≡ n → big_bytes n (big_number n xs) ≡ xs
printed_again n xs are long =
    let number = big_number n xs in
    let read : big_number n (big_bytes n number) ≡ number = ap (big_number n) (sym (append-nil (big_bytes n number))) ∙ big_number-reads_back n number [] (big_from-lt 0 n xs are) in
    same_bytes n (big_bytes n number) xs (AreBytes-big_bytes n number) are (length-bytes_high_first n number) long read

-- an entry is its key and its number
pub entry_split : (width : ℕ) (key : List ℕ) (entry : Entry) (front back : List ℕ) (number : ℕ) → AreBytes entry → length key + width ≡ length entry → front ≡ take (length key) entry → back ≡ drop (length key) entry → front ≡ key
    → number ≡ big_number width back → (entry ≡ numbered width key number) × (number < 256 ^ width)
entry_split width key entry front back number are long front_is back_is same number_is =
    let bytes : AreBytes back = λ k. subst (λ bs. get_or bs k 0 < 256) (sym back_is) (subst (λ n. n < 256) (sym (get_or-drop (length key) entry k 0)) (are (length key + k))) in
    let wide : length back ≡ width = ap length back_is ∙ omega (arith, length-drop (length key) entry, long) in
    let printed = printed_again width back bytes wide in (
      sym (take-append-drop (length key) entry)
          ∙ (ap (λ f. f ++ drop (length key) entry) (sym front_is ∙ same)
          ∙ ap (λ b. key ++ b) (sym back_is ∙ (sym printed ∙ ap (big_bytes width) (sym number_is)))),
      subst (λ n. n < 256 ^ width) (sym number_is) (big_from-lt 0 width back bytes),
    )

-- a key and a number that are written in front of other bytes
pub numbered_in_front : (width : ℕ) (key front buf more post : List ℕ) (number : ℕ) → front ≡ key → buf ≡ big_bytes width number ++ more → take (length key + width) (front ++ (buf ++ post)) ≡ numbered width key number
numbered_in_front width key front buf more post number front_is buf_is =
    let n = length key + width in
    let entry = numbered width key number in
    let wide : length entry ≡ n = length-append key (big_bytes width number) ∙ ap (λ k. length key + k) (length-bytes_high_first width number) in
    let whole : key ++ ((big_bytes width number ++ more) ++ post) ≡ entry ++ (more ++ post) = simp append_assoc in
    ap (λ f. take n (f ++ (buf ++ post))) front_is
    ∙ (ap (λ b. take n (key ++ (b ++ post))) buf_is
    ∙ (ap (take n) whole ∙ (ap (λ k. take k (entry ++ (more ++ post))) (sym wide) ∙ take-append_seam entry (more ++ post))))
