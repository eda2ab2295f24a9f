-- SQL order is total, and so is that of lines.
use Rattle.std.proofs.Common.{◌≡◌, ℕ, zero, suc, ◌+◌, ◌-◌, ◌≤◌, List, [], ◌∷◌, ◌++◌, length, replicate, refl, ap, sym, ◌∙◌, arith, Ordering, Bool, true, false, ℤ, pos}
use Rattle.std.specs.declared.cmp.Ordering.TheVariants.{Less, Equal, Greater}
use Rattle.std.specs.Ordering.{nat_cmp, int_cmp, ordering_then, ordering_reverse}
use Rattle.std.specs.Cmp.{IsTotalOrder, IsStrictWeakOrder}
use Rattle.std.specs.Cmp.Lexicographic.{slice_cmp}
use Rattle.std.proofs.lemmas.Cmp.{nat_list_cmp_total, nat_cmp_total, int_cmp_total, on_total, then_total, tied_itself}
use Rattle.std.proofs.lemmas.List.Sorted.{ranks_by}
use Rattle.std.proofs.lemmas.Map.Lookups.{exact_bytes, exact_signed, exact_unsigned}
use Rattle.mdc_values.specs.declared.value.Value.{Value}
use Rattle.mdc_values.specs.declared.value.Value.TheVariants.{Null, Int, Text, Day}
use Rattle.mdc_values.specs.Order.{padded, text_order}
use Rattle.mdc_values.proofs.OrderLemmas.{blanks_order, bytes_order, bytes_order-nothing, text_order_is}
use Rattle.mdc_ast.specs.declared.definition.KeyPart.{KeyPart}
use Rattle.row_groups.specs.declared.line.Line.{Line}
use Rattle.row_groups.specs.Values.{size_of, sql_order, value_order}
use Rattle.row_groups.specs.Ordering.{behind, front, is_before, parts_order, turned_order}

reverse-then : (o p : Ordering) → ordering_reverse (ordering_then o p) ≡ ordering_then (ordering_reverse o) (ordering_reverse p)
reverse-then Less p = refl
reverse-then Equal p = refl
reverse-then Greater p = refl

padded-longer : (n x : ℕ) (a : List ℕ) → padded (suc n) (x ∷ a) ≡ x ∷ padded n a
padded-longer n x a = let same : suc n - length (x ∷ a) ≡ n - length a = omega arith in rw same refl

padded-blank : (n : ℕ) → padded (suc n) [] ≡ 32 ∷ padded n []
padded-blank n = let same : suc n - length {A = ℕ} [] ≡ suc n = omega arith in let fewer : n - length {A = ℕ} [] ≡ n = omega arith in rw (same, fewer) refl

-- two texts may be padded to any length
pads : (n : ℕ) (a b : List ℕ) → length a ≤ n → length b ≤ n → slice_cmp nat_cmp (padded n a) (padded n b) ≡ bytes_order a b
pads n [] [] la lb = tied_itself nat_list_cmp_total (padded n [])
pads zero [] (y ∷ b) la lb = absurd (omega (arith, lb))
pads zero (x ∷ a) b la lb = absurd (omega (arith, la))
pads (suc n) [] (y ∷ b) la lb =
    let rest = pads n [] b (omega arith) (omega (arith, lb)) in
    ap (λ p. slice_cmp nat_cmp p (padded (suc n) (y ∷ b))) (padded-blank n) ∙ ap (slice_cmp nat_cmp (32 ∷ padded n [])) (padded-longer n y b) ∙ ap (ordering_then (nat_cmp 32 y)) rest
    ∙ ap (λ o. ordering_then o (ordering_reverse (blanks_order b))) (nat_cmp_total.antisymm 32 y) ∙ sym (reverse-then (nat_cmp y 32) (blanks_order b))
pads (suc n) (x ∷ a) [] la lb =
    let rest = pads n a [] (omega (arith, la)) (omega arith) in
    ap (λ p. slice_cmp nat_cmp p (padded (suc n) [])) (padded-longer n x a) ∙ ap (slice_cmp nat_cmp (x ∷ padded n a)) (padded-blank n) ∙ ap (ordering_then (nat_cmp x 32)) (rest ∙ bytes_order-nothing a)
pads (suc n) (x ∷ a) (y ∷ b) la lb =
    let rest = pads n a b (omega (arith, la)) (omega (arith, lb)) in
    ap (λ p. slice_cmp nat_cmp p (padded (suc n) (y ∷ b))) (padded-longer n x a) ∙ ap (slice_cmp nat_cmp (x ∷ padded n a)) (padded-longer n y b) ∙ ap (ordering_then (nat_cmp x y)) rest

pads_text : (n : ℕ) (a b : List ℕ) → length a ≤ n → length b ≤ n → text_order a b ≡ slice_cmp nat_cmp (padded n a) (padded n b)
pads_text n a b la lb = text_order_is a b ∙ sym (pads n a b la lb)

pub text_total : IsTotalOrder text_order
text_total = record {
  antisymm = λ x y. pads_text (length x + length y) x y (omega arith) (omega arith) ∙ nat_list_cmp_total.antisymm (padded (length x + length y) x) (padded (length x + length y) y)
      ∙ ap ordering_reverse (sym (pads_text (length x + length y) y x (omega arith) (omega arith)));
  trans = λ x y z xy yz. pads_text (length x + length y + length z) x z (omega arith) (omega arith)
      ∙ nat_list_cmp_total.trans (padded (length x + length y + length z) x) (padded (length x + length y + length z) y) (padded (length x + length y + length z) z)
      (sym (pads_text (length x + length y + length z) x y (omega arith) (omega arith)) ∙ xy) (sym (pads_text (length x + length y + length z) y z (omega arith) (omega arith)) ∙ yz);
  congr = λ x y z xy. pads_text (length x + length y + length z) x z (omega arith) (omega arith)
      ∙ nat_list_cmp_total.congr (padded (length x + length y + length z) x) (padded (length x + length y + length z) y) (padded (length x + length y + length z) z)
      (sym (pads_text (length x + length y + length z) x y (omega arith) (omega arith)) ∙ xy)
      ∙ sym (pads_text (length x + length y + length z) y z (omega arith) (omega arith));
}

-- an order that answers as a total one does
total_like : {K : Type 0} (R S : K → K → Ordering) → ((x y : K) → R x y ≡ S x y) → IsTotalOrder S → IsTotalOrder R
total_like R S same o = record {
  antisymm = λ x y. same x y ∙ o.antisymm x y ∙ ap ordering_reverse (sym (same y x));
  trans = λ x y z xy yz. same x z ∙ o.trans x y z (sym (same x y) ∙ xy) (sym (same y z) ∙ yz);
  congr = λ x y z xy. same x z ∙ o.congr x y z (sym (same x y) ∙ xy) ∙ sym (same y z);
}

total_flipped : {K : Type 0} (R : K → K → Ordering) → IsTotalOrder R → IsTotalOrder (λ x y. R y x)
total_flipped R o = total_like (λ x y. R y x) (λ x y. ordering_reverse (R x y)) (λ x y. o.antisymm y x) (record {
  antisymm = λ x y. ap ordering_reverse (o.antisymm x y);
  trans = λ x y z xy yz. sym (o.antisymm z x) ∙ o.trans z y x (o.antisymm z y ∙ yz) (o.antisymm y x ∙ xy);
  congr = λ x y z xy. ap ordering_reverse (o.congr x y z (equal (R x y) xy));
})
  where
    equal : (r : Ordering) → ordering_reverse r ≡ Equal → r ≡ Equal
    equal Less e = cc
    equal Equal e = refl
    equal Greater e = cc

-- the kinds in their order, and what a value is as each kind
abbrev kind : Value → ℕ
kind (Int n) = 0
kind (Text t) = 1
kind (Day d) = 2
kind Null = 3

abbrev as_int : Value → ℤ
as_int (Int n) = n
as_int value = pos 0

abbrev as_text : Value → List ℕ
as_text (Text t) = t
as_text value = []

abbrev as_day : Value → ℕ
as_day (Day d) = d
as_day value = 0

abbrev by_kinds : Value → Value → Ordering
by_kinds a b = ordering_then (nat_cmp (kind a) (kind b)) (ordering_then (int_cmp (as_int a) (as_int b)) (ordering_then (text_order (as_text a) (as_text b)) (nat_cmp (as_day a) (as_day b))))

then-equal : (o : Ordering) → ordering_then o Equal ≡ o
then-equal Less = refl
then-equal Equal = refl
then-equal Greater = refl

sql_order_is : (a b : Value) → sql_order a b ≡ by_kinds a b
sql_order_is Null Null = refl
sql_order_is Null (Int n) = refl
sql_order_is Null (Text u) = refl
sql_order_is Null (Day e) = refl
sql_order_is (Int m) Null = refl
sql_order_is (Int m) (Int n) = sym (then-equal (int_cmp m n))
sql_order_is (Int m) (Text u) = refl
sql_order_is (Int m) (Day e) = refl
sql_order_is (Text t) Null = refl
sql_order_is (Text t) (Int n) = refl
sql_order_is (Text t) (Text u) = sym (then-equal (text_order t u))
sql_order_is (Text t) (Day e) = refl
sql_order_is (Day d) Null = refl
sql_order_is (Day d) (Int n) = refl
sql_order_is (Day d) (Text u) = refl
sql_order_is (Day d) (Day e) = refl

pub sql_total : IsTotalOrder sql_order
sql_total = total_like sql_order by_kinds sql_order_is
    (then_total (on_total kind nat_cmp_total) (then_total (on_total as_int int_cmp_total) (then_total (on_total as_text text_total) (on_total as_day nat_cmp_total))))

turned_total : (descending : Bool) → IsTotalOrder (turned_order descending)
turned_total false = sql_total
turned_total true = total_flipped sql_order sql_total

all_tie : {K : Type 0} → IsTotalOrder {K = K} (λ x y. Equal)
all_tie = record { antisymm = λ x y. refl; trans = λ x y z xy yz. cc; congr = λ x y z xy. refl }

pub parts_total : (parts : List KeyPart) → IsTotalOrder (parts_order parts)
parts_total [] = all_tie
parts_total (part ∷ parts) = then_total (on_total front (turned_total part.descending)) (on_total behind (parts_total parts))

pub before_ranks : (parts : List KeyPart) → IsStrictWeakOrder (is_before parts)
before_ranks parts = ranks_by (parts_total parts) (λ (line : Line). line.sorts)

-- ---- SQL order with the sizes of texts tells all values apart

pub value_total : IsTotalOrder value_order
value_total = then_total sql_total (on_total size_of nat_cmp_total)

text_exact : (s t : List ℕ) → ordering_then (text_order s t) (nat_cmp (length s) (length t)) ≡ Equal → s ≡ t
text_exact s t e =
    let sizes : length s ≡ length t = exact_unsigned (length s) (length t) (second (text_order s t) (nat_cmp (length s) (length t)) e) in
    let same : padded (length t) s ≡ padded (length s) t = exact_bytes (padded (length t) s) (padded (length s) t) (first (text_order s t) (nat_cmp (length s) (length t)) e) in
    let none : length t - length s ≡ 0 = omega (arith, sizes) in
    let none' : length s - length t ≡ 0 = omega (arith, sizes) in
    sym (nothing s) ∙ sym (ap (λ n. s ++ replicate n 32) none) ∙ same ∙ ap (λ n. t ++ replicate n 32) none' ∙ nothing t
  where
    nothing : (xs : List ℕ) → xs ++ [] ≡ xs
    nothing [] = refl
    nothing (x ∷ xs) = ap (λ r. x ∷ r) (nothing xs)

    first : (o p : Ordering) → ordering_then o p ≡ Equal → o ≡ Equal
    first Less p e = cc
    first Equal p e = refl
    first Greater p e = cc

    second : (o p : Ordering) → ordering_then o p ≡ Equal → p ≡ Equal
    second Less p e = cc
    second Equal p e = e
    second Greater p e = cc

pub value_exact : (a b : Value) → value_order a b ≡ Equal → a ≡ b
value_exact Null Null e = refl
value_exact Null (Int n) e = cc
value_exact Null (Text u) e = cc
value_exact Null (Day d) e = cc
value_exact (Int m) Null e = cc
value_exact (Int m) (Int n) e = ap Int (exact_signed m n (sym (then-equal (int_cmp m n)) ∙ e))
value_exact (Int m) (Text u) e = cc
value_exact (Int m) (Day d) e = cc
value_exact (Text t) Null e = cc
value_exact (Text t) (Int n) e = cc
value_exact (Text t) (Text u) e = ap Text (text_exact t u e)
value_exact (Text t) (Day d) e = cc
value_exact (Day d) Null e = cc
value_exact (Day d) (Int n) e = cc
value_exact (Day d) (Text u) e = cc
value_exact (Day d) (Day f) e = ap Day (exact_unsigned d f (sym (then-equal (nat_cmp d f)) ∙ e))
