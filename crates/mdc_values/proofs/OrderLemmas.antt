-- The order of padded texts, byte by byte.
use Rattle.std.proofs.Common.{◌≡◌, ℕ, zero, suc, ◌+◌, ◌-◌, ◌<◌, ◌≤◌, List, [], ◌∷◌, ◌++◌, length, take, drop, replicate, get_or, refl, ap, ◌∙◌, arith, Ordering, drop-cons, add-one}
use Rattle.std.specs.Prelude.{◌≢◌}
use Rattle.std.specs.declared.cmp.Ordering.TheVariants.{Less, Equal, Greater}
use Rattle.std.specs.Ordering.{nat_cmp, ordering_then, ordering_reverse}
use Rattle.std.specs.Cmp.Lexicographic.{slice_cmp}
use Rattle.std.proofs.lemmas.Bool.Decides.{nat_tests}
use Rattle.std.proofs.lemmas.Cmp.{nat_list_cmp_total}
use Rattle.std.proofs.lemmas.List.{drop_all, length-drop, take_all}
use Rattle.mdc_values.specs.Order.{order_to_blanks, padded, text_order}

-- the first byte that is no blank decides
abbrev pub blanks_order : List ℕ → Ordering
blanks_order [] = Equal
blanks_order (b ∷ bytes) = ordering_then (nat_cmp b 32) (blanks_order bytes)

-- the first bytes that differ decide, and else what one text has more
abbrev pub bytes_order : List ℕ → List ℕ → Ordering
bytes_order [] b = ordering_reverse (blanks_order b)
bytes_order (x ∷ a) [] = blanks_order (x ∷ a)
bytes_order (x ∷ a) (y ∷ b) = ordering_then (nat_cmp x y) (bytes_order a b)

pub order_to_blanks_is : (text : List ℕ) → order_to_blanks text ≡ blanks_order text
order_to_blanks_is [] = refl
order_to_blanks_is (b ∷ text) = ap (ordering_then (nat_cmp b 32)) (order_to_blanks_is text)

append-nothing : (xs : List ℕ) → xs ++ [] ≡ xs
append-nothing [] = refl
append-nothing (x ∷ xs) = ap (λ r. x ∷ r) (append-nothing xs)

pub bytes_order-nothing : (a : List ℕ) → bytes_order a [] ≡ blanks_order a
bytes_order-nothing [] = refl
bytes_order-nothing (x ∷ a) = refl

-- a text is padded up to no more than it has
padded-enough : (n : ℕ) (a : List ℕ) → n ≤ length a → padded n a ≡ a
padded-enough n a le = let none : n - length a ≡ 0 = omega (arith, le) in rw none (append-nothing a)

padded-nothing : (n : ℕ) → padded n [] ≡ replicate n 32
padded-nothing n = let same : n - length {A = ℕ} [] ≡ n = omega arith in rw same refl

padded-cons : (y x : ℕ) (b a : List ℕ) → padded (length (y ∷ b)) (x ∷ a) ≡ x ∷ padded (length b) a
padded-cons y x b a = let same : length (y ∷ b) - length (x ∷ a) ≡ length b - length a = omega arith in rw same refl

pub text_order_is : (a b : List ℕ) → text_order a b ≡ bytes_order a b
text_order_is [] b =
    rw (padded-nothing (length b), padded-enough 0 b (omega arith)) (nat_list_cmp_total.antisymm (replicate (length b) 32) b ∙ ap ordering_reverse (order_to_blanks_is b))
text_order_is (x ∷ a) [] = rw (padded-enough 0 (x ∷ a) (omega arith), padded-nothing (length (x ∷ a))) (order_to_blanks_is (x ∷ a))
text_order_is (x ∷ a) (y ∷ b) =
    ap (λ p. slice_cmp nat_cmp p (padded (length (x ∷ a)) (y ∷ b))) (padded-cons y x b a)
    ∙ ap (slice_cmp nat_cmp (x ∷ padded (length b) a)) (padded-cons x y a b)
    ∙ ap (ordering_then (nat_cmp x y)) (text_order_is a b)

ordering_then-then : (o p q : Ordering) → ordering_then o (ordering_then p q) ≡ ordering_then (ordering_then o p) q
ordering_then-then Less p q = refl
ordering_then-then Equal p q = refl
ordering_then-then Greater p q = refl

-- what the first n bytes say goes before what the others say
pub bytes_order-split : (n : ℕ) (a b : List ℕ) → n ≤ length a → n ≤ length b → bytes_order a b ≡ ordering_then (slice_cmp nat_cmp (take n a) (take n b)) (bytes_order (drop n a) (drop n b))
bytes_order-split zero a b la lb = refl
bytes_order-split (suc n) [] b la lb = absurd (omega (arith, la))
bytes_order-split (suc n) (x ∷ a) [] la lb = absurd (omega (arith, lb))
bytes_order-split (suc n) (x ∷ a) (y ∷ b) la lb =
    ap (ordering_then (nat_cmp x y)) (bytes_order-split n a b (omega (arith, la)) (omega (arith, lb)))
    ∙ ordering_then-then (nat_cmp x y) (slice_cmp nat_cmp (take n a) (take n b)) (bytes_order (drop n a) (drop n b))

-- blanks at the front say nothing, and another byte says all
pub blanks_order-drop : (i : ℕ) (text : List ℕ) → i < length text → get_or text i 0 ≡ 32 → blanks_order (drop i text) ≡ blanks_order (drop (i + 1) text)
blanks_order-drop i text lt e = rw (drop-cons text i 0, e, add-one) refl

pub blanks_order-other : (i : ℕ) (text : List ℕ) → i < length text → get_or text i 0 ≢ 32 → blanks_order (drop i text) ≡ nat_cmp (get_or text i 0) 32
blanks_order-other i text lt ne = rw (drop-cons text i 0) (then-other (get_or text i 0) (blanks_order (drop (suc i) text)) ne)
  where
    then-other : (b : ℕ) (o : Ordering) → b ≢ 32 → ordering_then (nat_cmp b 32) o ≡ nat_cmp b 32
    then-other b o ne = grind (arith, nat_tests)

-- all that is left behind the first n
pub take_rest : (n : ℕ) (xs : List ℕ) → take (length xs - n) (drop n xs) ≡ drop n xs
take_rest n xs = take_all (length xs - n) (drop n xs) (omega (arith, length-drop n xs))

-- ---- the order of two texts by what they share

pub text_order-longer : (n : ℕ) (a b : List ℕ) → n ≤ length a → n ≡ length b → slice_cmp nat_cmp (take n a) (take n b) ≡ Equal → text_order a b ≡ order_to_blanks (drop n a)
text_order-longer n a b la lb e =
    text_order_is a b ∙ rw (bytes_order-split n a b la (omega (arith, lb)), e, drop_all n b (omega (arith, lb)), order_to_blanks_is (drop n a)) (bytes_order-nothing (drop n a))

pub text_order-shorter : (n : ℕ) (a b : List ℕ) → n ≡ length a → n ≤ length b → slice_cmp nat_cmp (take n a) (take n b) ≡ Equal → text_order a b ≡ ordering_reverse (order_to_blanks (drop n b))
text_order-shorter n a b la lb e =
    text_order_is a b ∙ rw (bytes_order-split n a b (omega (arith, la)) lb, e, drop_all n a (omega (arith, la)), order_to_blanks_is (drop n b)) refl

pub text_order-apart : (n : ℕ) (a b : List ℕ) → n ≤ length a → n ≤ length b → slice_cmp nat_cmp (take n a) (take n b) ≢ Equal → text_order a b ≡ slice_cmp nat_cmp (take n a) (take n b)
text_order-apart n a b la lb ne =
    text_order_is a b ∙ bytes_order-split n a b la lb ∙ first (slice_cmp nat_cmp (take n a) (take n b)) (bytes_order (drop n a) (drop n b)) ne
  where
    first : (o p : Ordering) → o ≢ Equal → ordering_then o p ≡ o
    first Less p ne = refl
    first Equal p ne = absurd (ne refl)
    first Greater p ne = refl
