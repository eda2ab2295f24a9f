-- The order of texts that are filled up with blanks.
use Rattle.std.proofs.Common.{◌≡◌, ℕ, zero, suc, ◌-◌, ◌≤◌, List, [], ◌∷◌, ◌++◌, length, take, drop, replicate, Bool, true, false, refl, sym, ap, ◌∙◌, arith, Ordering, length-append}
use Rattle.std.specs.Prelude.{◌==◌, nat_lt, if◌then◌else◌}
use Rattle.std.specs.declared.cmp.Ordering.TheVariants.{Less, Equal, Greater}
use Rattle.std.specs.Ordering.{nat_cmp, ordering_then, ordering_reverse}
use Rattle.std.specs.Cmp.{then_flip}
use Rattle.std.specs.Cmp.Lexicographic.{slice_cmp}
use Rattle.std.proofs.lemmas.Bool.Decides.{nat_tests}
use Rattle.std.proofs.lemmas.Cmp.{nat_cmp_total}
use Rattle.std.proofs.lemmas.List.{length-replicate}
use Rattle.std.proofs.lemmas.Map.Lookups.{exact_bytes}
use Rattle.mdc_values.specs.Order.{padded, text_order}
use Rattle.mdc_values.specs.Value.{before_text, trimmed}
use Rattle.mdc_values.proofs.OrderLemmas.{blanks_order, bytes_order, bytes_order-nothing, text_order_is}
use Rattle.key_codec.specs.Edges.{is_past, side_of_blanks}
use Rattle.key_codec.proofs.OrderLemmas.{slice_cmp-same, then-then}

pub length-padded : (n : ℕ) (text : List ℕ) → length text ≤ n → length (padded n text) ≡ n
length-padded n text le =
    let whole = length-append text (replicate (n - length text) 32) in
    let blanks = length-replicate {A = ℕ} (n - length text) 32 in
    omega (arith, le, whole, blanks)

padded-none : (n : ℕ) → padded (suc n) [] ≡ 32 ∷ padded n []
padded-none n =
    let more : suc n - length {A = ℕ} [] ≡ suc n = omega arith in
    let same : n - length {A = ℕ} [] ≡ n = omega arith in
    rw (more, same) refl

padded-cons : (n b : ℕ) (text : List ℕ) → padded (suc n) (b ∷ text) ≡ b ∷ padded n text
padded-cons n b text = let same : suc n - length (b ∷ text) ≡ n - length text = omega arith in rw same refl

turned_cmp : (a b : ℕ) → nat_cmp a b ≡ ordering_reverse (nat_cmp b a)
turned_cmp a b = nat_cmp_total.antisymm a b

-- texts filled up go as SQL order
padded_order : (n : ℕ) (a b : List ℕ) → length a ≤ n → length b ≤ n → slice_cmp nat_cmp (padded n a) (padded n b) ≡ bytes_order a b
padded_order zero [] [] la lb = slice_cmp-same (padded 0 [])
padded_order zero [] (y ∷ b) la lb = absurd (omega (arith, lb))
padded_order zero (x ∷ a) b la lb = absurd (omega (arith, la))
padded_order (suc n) [] [] la lb = slice_cmp-same (padded (suc n) [])
padded_order (suc n) [] (y ∷ b) la lb =
    ap (λ p. slice_cmp nat_cmp p (padded (suc n) (y ∷ b))) (padded-none n)
    ∙ ap (slice_cmp nat_cmp (32 ∷ padded n [])) (padded-cons n y b)
    ∙ ap (ordering_then (nat_cmp 32 y)) (padded_order n [] b (omega arith) (omega (arith, lb)))
    ∙ ap (λ o. ordering_then o (ordering_reverse (blanks_order b))) (turned_cmp 32 y)
    ∙ then_flip (nat_cmp y 32) (blanks_order b)
padded_order (suc n) (x ∷ a) [] la lb =
    ap (λ p. slice_cmp nat_cmp p (padded (suc n) [])) (padded-cons n x a)
    ∙ ap (slice_cmp nat_cmp (x ∷ padded n a)) (padded-none n)
    ∙ ap (ordering_then (nat_cmp x 32)) (padded_order n a [] (omega (arith, la)) (omega arith) ∙ bytes_order-nothing a)
padded_order (suc n) (x ∷ a) (y ∷ b) la lb =
    ap (λ p. slice_cmp nat_cmp p (padded (suc n) (y ∷ b))) (padded-cons n x a)
    ∙ ap (slice_cmp nat_cmp (x ∷ padded n a)) (padded-cons n y b)
    ∙ ap (ordering_then (nat_cmp x y)) (padded_order n a b (omega (arith, la)) (omega (arith, lb)))

pub slice_cmp-padded : (n : ℕ) (a b : List ℕ) → length a ≤ n → length b ≤ n → slice_cmp nat_cmp (padded n a) (padded n b) ≡ text_order a b
slice_cmp-padded n a b la lb = padded_order n a b la lb ∙ sym (text_order_is a b)

-- against a longer text, what it has more decides last
longer_order : (n : ℕ) (a text : List ℕ) → length a ≤ n → n ≤ length text
    → bytes_order a text ≡ ordering_then (slice_cmp nat_cmp (padded n a) (take n text)) (ordering_reverse (blanks_order (drop n text)))
longer_order zero [] text la lt = refl
longer_order zero (x ∷ a) text la lt = absurd (omega (arith, la))
longer_order (suc n) a [] la lt = absurd (omega (arith, lt))
longer_order (suc n) [] (y ∷ text) la lt =
    let more = ordering_reverse (blanks_order (drop n text)) in
    let front = slice_cmp nat_cmp (padded n []) (take n text) in
    sym (then_flip (nat_cmp y 32) (blanks_order text))
    ∙ ap (λ o. ordering_then o (ordering_reverse (blanks_order text))) (sym (turned_cmp 32 y))
    ∙ ap (ordering_then (nat_cmp 32 y)) (longer_order n [] text (omega arith) (omega (arith, lt)))
    ∙ then-then (nat_cmp 32 y) front more
    ∙ ap (λ p. ordering_then (slice_cmp nat_cmp p (y ∷ take n text)) more) (sym (padded-none n))
longer_order (suc n) (x ∷ a) (y ∷ text) la lt =
    let more = ordering_reverse (blanks_order (drop n text)) in
    let front = slice_cmp nat_cmp (padded n a) (take n text) in
    ap (ordering_then (nat_cmp x y)) (longer_order n a text (omega (arith, la)) (omega (arith, lt)))
    ∙ then-then (nat_cmp x y) front more
    ∙ ap (λ p. ordering_then (slice_cmp nat_cmp p (y ∷ take n text)) more) (sym (padded-cons n x a))

-- the side on which what a text has more lies
abbrev side_of : Bool → Ordering → Bool
side_of behind Less = false
side_of behind Equal = behind
side_of behind Greater = true

side_of-blanks : (behind : Bool) (text : List ℕ) → side_of_blanks behind text ≡ side_of behind (blanks_order text)
side_of-blanks behind [] = refl
side_of-blanks behind (b ∷ text) = by (b == 32) (nat_lt 32 b) refl refl (side_of-blanks behind text)
  where
    by : (same above : Bool) → (b == 32) ≡ same → nat_lt 32 b ≡ above → side_of_blanks behind text ≡ side_of behind (blanks_order text)
        → (if same then side_of_blanks behind text else above) ≡ side_of behind (ordering_then (nat_cmp b 32) (blanks_order text))
    by true above e f h = let o : nat_cmp b 32 ≡ Equal = grind (arith, nat_tests, e) in rw o h
    by false true e f h = let o : nat_cmp b 32 ≡ Greater = grind (arith, nat_tests, e, f) in rw o refl
    by false false e f h = let o : nat_cmp b 32 ≡ Less = grind (arith, nat_tests, e, f) in rw o refl

past_more : (behind : Bool) (o p : Ordering) → is_past behind (ordering_then o (ordering_reverse p)) ≡ is_past (side_of behind p) o
past_more true Less Less = refl
past_more true Less Equal = refl
past_more true Less Greater = refl
past_more true Equal Less = refl
past_more true Equal Equal = refl
past_more true Equal Greater = refl
past_more true Greater Less = refl
past_more true Greater Equal = refl
past_more true Greater Greater = refl
past_more false Less Less = refl
past_more false Less Equal = refl
past_more false Less Greater = refl
past_more false Equal Less = refl
past_more false Equal Equal = refl
past_more false Equal Greater = refl
past_more false Greater Less = refl
past_more false Greater Equal = refl
past_more false Greater Greater = refl

-- the place beside a longer text lies beside its front
pub is_past-longer : (behind : Bool) (n : ℕ) (a text : List ℕ) → length a ≤ n → n ≤ length text
    → is_past (side_of_blanks behind (drop n text)) (slice_cmp nat_cmp (padded n a) (take n text)) ≡ is_past behind (text_order a text)
is_past-longer behind n a text la lt =
    ap (λ side. is_past side (slice_cmp nat_cmp (padded n a) (take n text))) (side_of-blanks behind (drop n text))
    ∙ sym (past_more behind (slice_cmp nat_cmp (padded n a) (take n text)) (blanks_order (drop n text)))
    ∙ sym (ap (is_past behind) (text_order_is a text ∙ longer_order n a text la lt))

-- ---- blanks at the end

trimmed-blanks : (k : ℕ) → trimmed (replicate k 32) ≡ []
trimmed-blanks zero = refl
trimmed-blanks (suc k) = ap (before_text 32) (trimmed-blanks k)

pub trimmed-filled : (text : List ℕ) (k : ℕ) → trimmed (text ++ replicate k 32) ≡ trimmed text
trimmed-filled [] k = trimmed-blanks k
trimmed-filled (b ∷ text) k = ap (before_text b) (trimmed-filled text k)

-- texts without blanks at the end that have the same place are the same
pub same_text : (a b : List ℕ) → trimmed a ≡ a → trimmed b ≡ b → text_order a b ≡ Equal → a ≡ b
same_text a b ta tb e =
    let same : padded (length b) a ≡ padded (length a) b = exact_bytes (padded (length b) a) (padded (length a) b) e in
    sym ta ∙ sym (trimmed-filled a (length b - length a)) ∙ ap trimmed same ∙ trimmed-filled b (length a - length b) ∙ tb
