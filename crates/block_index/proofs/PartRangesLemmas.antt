-- Which entries a walk for a range of one part goes over.
use Rattle.std.proofs.Common.{◌≡◌, ◌≢◌, ◌<◌, ◌≤◌, ◌+◌, ◌-◌, ◌==◌, ℕ, zero, suc, List, [], ◌∷◌, ◌++◌, refl, ap, arith, sym, ◌∙◌, subst, append-nil, get_or, length, take, drop, replicate, ◌⊎◌, inl, inr, Ordering}
use Rattle.std.specs.Prelude.{Bool, true, false, not, ◌&&◌, cond, Option, Some, None, count_by, filter, map, if◌then◌else◌}
use Rattle.std.specs.declared.cmp.Ordering.TheVariants.{Less, Equal, Greater}
use Rattle.std.specs.Ordering.{is_lt, nat_cmp, ordering_then}
use Rattle.std.specs.Cmp.Lexicographic.{slice_cmp}
use Rattle.std.proofs.lemmas.Bool.{cases_eq, ne_eqb}
use Rattle.std.proofs.lemmas.Bool.Decides.{nat_tests}
use Rattle.std.specs.List.{AllByRecursion}
use Rattle.std.proofs.lemmas.List.{drop-replicate, length-drop, length-take-le, take-append-drop, take-replicate}
use Rattle.std.proofs.lemmas.List.Sums.{sum_by-cons}
use Rattle.mdc_words.specs.ByteOrder.{Entry, below}
use Rattle.key_codec.proofs.OrderLemmas.{slice_cmp-append}
use Rattle.key_codec.specs.Spans.{is_in_range, reaches}
use Rattle.entry_tree.specs.Entries.{AreOfWidth}
use Rattle.entry_tree.specs.EntryBounds.{Climbs, IsEntryOf, Rises}
use Rattle.entry_tree.specs.Reading.{entries_from}
use Rattle.entry_tree.proofs.EntryBoundsLemmas.{below_trans}
use Rattle.block_index.specs.PartRanges.{blocks_in_range, ends_walk, entries_until, has_part_in, last_block, start_of_walk, walked}
use Rattle.block_index.specs.declared.part_range.PartRange.{PartRange}
use Rattle.block_index.proofs.TakenLemmas.{IsTakingOf, taking_next_of, taking_none_of}

-- ---- zeros behind a bound

positive : (x : ℕ) → nat_cmp (suc x) 0 ≡ Greater
positive x = grind (arith, nat_tests)

-- nothing that is as long comes before zeros
zeros_least : (n : ℕ) (xs : List ℕ) → n ≤ length xs → is_lt (slice_cmp nat_cmp xs (replicate n 0)) ≡ false
zeros_least zero [] l = refl
zeros_least zero (x ∷ xs) l = refl
zeros_least (suc n) [] l = absurd (omega (arith, l))
zeros_least (suc n) (zero ∷ xs) l = zeros_least n xs (omega (arith, l))
zeros_least (suc n) (suc x ∷ xs) l = ap (λ (o : Ordering). is_lt (ordering_then o (slice_cmp nat_cmp xs (replicate n 0)))) (positive x)

-- nor before nothing
nothing_least : (xs : List ℕ) → is_lt (slice_cmp nat_cmp xs []) ≡ false
nothing_least [] = refl
nothing_least (x ∷ xs) = refl

pub not_below_zeros : (width : ℕ) (x : Entry) → length x ≡ width → below x (replicate width 0) ≡ false
unfolding below
not_below_zeros width x wide = zeros_least width x (omega (arith, wide))

-- zeros that fill a bound up change nothing
pub below_filled : (low x : Entry) (width : ℕ) → length low ≤ width → length x ≡ width → below x (low ++ replicate (width - length low) 0) ≡ below x low
unfolding below
below_filled low x width within wide =
    let front = take (length low) x in
    let back = drop (length low) x in
    let n = width - length low in
    let same : length front ≡ length low = length-take-le (length low) x (omega (arith, within, wide)) in
    let long : n ≤ length back = omega (arith, length-drop (length low) x, wide) in
    let whole : front ++ back ≡ x = take-append-drop (length low) x in
    let filled : slice_cmp nat_cmp x (low ++ replicate n 0) ≡ ordering_then (slice_cmp nat_cmp front low) (slice_cmp nat_cmp back (replicate n 0)) =
    ap (λ v. slice_cmp nat_cmp v (low ++ replicate n 0)) (sym whole) ∙ slice_cmp-append front low back (replicate n 0) same in
    let bare : slice_cmp nat_cmp x low ≡ ordering_then (slice_cmp nat_cmp front low) (slice_cmp nat_cmp back []) =
    ap (λ v. slice_cmp nat_cmp v low) (sym whole) ∙ (ap (slice_cmp nat_cmp (front ++ back)) (sym (append-nil low)) ∙ slice_cmp-append front low back [] same) in
    ap is_lt filled ∙ (go (slice_cmp nat_cmp front low) (slice_cmp nat_cmp back (replicate n 0)) (slice_cmp nat_cmp back []) (zeros_least n back long) (nothing_least back) ∙ sym (ap is_lt bare))
  where
    go : (o p q : Ordering) → is_lt p ≡ false → is_lt q ≡ false → is_lt (ordering_then o p) ≡ is_lt (ordering_then o q)
    go Less p q e f = refl
    go Equal p q e f = e ∙ sym f
    go Greater p q e f = refl

-- ---- lists that are filtered

-- tests that agree on a list pick the same
filter_agree : (p q : Entry → Bool) (xs : List Entry) → ((x : Entry) → IsEntryOf x xs → p x ≡ q x) → filter p xs ≡ filter q xs
filter_agree p q [] same = refl
filter_agree p q (x ∷ xs) same =
    let rest = filter_agree p q xs (λ y i. same y (inr i)) in
    ap (λ b. cond b (x ∷ filter p xs) (filter p xs)) (same x (inl refl)) ∙ ap (λ ys. cond (q x) (x ∷ ys) ys) rest

pub count_agree : (p q : Entry → Bool) (xs : List Entry) → ((x : Entry) → IsEntryOf x xs → p x ≡ q x) → count_by p xs ≡ count_by q xs
count_agree p q [] same = refl
count_agree p q (x ∷ xs) same =
    sum_by-cons (λ y. cond (p y) 1 0) x xs ∙ (ap (λ n. n + count_by p xs) (ap (λ b. cond b 1 0) (same x (inl refl))) ∙ (ap (λ n. cond (q x) 1 0 + n) (count_agree p q xs (λ y i. same y (inr i))) ∙ sym (sum_by-cons (λ y. cond (q y) 1 0) x xs)))

pub length-filter_count : (p : Entry → Bool) (xs : List Entry) → length (filter p xs) ≡ count_by p xs
length-filter_count p [] = refl
length-filter_count p (x ∷ xs) = go (p x) (length-filter_count p xs) ∙ sym (sum_by-cons (λ y. cond (p y) 1 0) x xs)
  where
    go : (b : Bool) → length (filter p xs) ≡ count_by p xs → length (cond b (x ∷ filter p xs) (filter p xs)) ≡ cond b 1 0 + count_by p xs
    go true e = omega (arith, e)
    go false e = omega (arith, e)

filter_both : (p q : Entry → Bool) (xs : List Entry) → filter q (filter p xs) ≡ filter (λ x. p x && q x) xs
filter_both p q [] = refl
filter_both p q (x ∷ xs) = go (p x) (q x) refl (filter_both p q xs)
  where
    go : (a b : Bool) → q x ≡ b → filter q (filter p xs) ≡ filter (λ x. p x && q x) xs
        → filter q (cond a (x ∷ filter p xs) (filter p xs)) ≡ cond (a && q x) (x ∷ filter (λ x. p x && q x) xs) (filter (λ x. p x && q x) xs)
    go true b e rest = ap (λ ys. cond (q x) (x ∷ ys) ys) rest
    go false b e rest = rest

pub in_filter : (p : Entry → Bool) (x : Entry) (xs : List Entry) → IsEntryOf x xs → p x ≡ true → IsEntryOf x (filter p xs)
in_filter p x [] i h = absurd i
in_filter p x (y ∷ ys) i h = go (p y) refl i (in_filter p x ys)
  where
    go : (b : Bool) → p y ≡ b → (x ≡ y) ⊎ IsEntryOf x ys → (IsEntryOf x ys → p x ≡ true → IsEntryOf x (filter p ys)) → IsEntryOf x (cond b (y ∷ filter p ys) (filter p ys))
    go true e (inl same) f = inl same
    go true e (inr j) f = inr (f j h)
    go false e (inl same) f = let wrong : true ≡ false = sym h ∙ (ap p same ∙ e) in absurd cc
    go false e (inr j) f = f j h

pub from_filter : (p : Entry → Bool) (x : Entry) (xs : List Entry) → IsEntryOf x (filter p xs) → IsEntryOf x xs × (p x ≡ true)
from_filter p x [] i = absurd i
from_filter p x (y ∷ ys) i = go (p y) refl i (from_filter p x ys)
  where
    go : (b : Bool) → p y ≡ b → IsEntryOf x (cond b (y ∷ filter p ys) (filter p ys)) → (IsEntryOf x (filter p ys) → IsEntryOf x ys × (p x ≡ true)) → IsEntryOf x (y ∷ ys) × (p x ≡ true)
    go true e (inl same) f = (inl same, ap p same ∙ e)
    go true e (inr j) f = let r = f j in (inr r.0, r.1)
    go false e j f = let r = f j in (inr r.0, r.1)

-- entries from a bound on are those that aren't below it
from_is_filter : (bound : Entry) (xs : List Entry) → entries_from bound xs ≡ filter (λ x. not (below x bound)) xs
from_is_filter bound [] = refl
from_is_filter bound (x ∷ xs) = go (below x bound) (from_is_filter bound xs)
  where
    go : (b : Bool) → entries_from bound xs ≡ filter (λ x. not (below x bound)) xs
        → (if b then entries_from bound xs else x ∷ entries_from bound xs) ≡ cond (not b) (x ∷ filter (λ x. not (below x bound)) xs) (filter (λ x. not (below x bound)) xs)
    go true e = e
    go false e = ap (λ ys. x ∷ ys) e

-- ---- rising lists

-- what lies behind an entry that reaches an end reaches it too
reaches_behind : (high : Option Entry) (x y : Entry) → below x y ≡ true → reaches high x ≡ true → reaches high y ≡ true
reaches_behind None x y l r = r
reaches_behind (Some h) x y l r = go (below y h) refl
  where
    go : (b : Bool) → below y h ≡ b → not b ≡ true
    go true e = let wrong : not true ≡ true = ap not (sym (below_trans x y h l e)) ∙ r in absurd cc
    go false e = refl

none_behind : (high : Option Entry) (x : Entry) (xs : List Entry) → Climbs x None xs → reaches high x ≡ true → filter (λ y. not (reaches high y)) xs ≡ []
none_behind high x [] h r = refl
none_behind high x (y ∷ ys) h r =
    let here = reaches_behind high x y h.0 r in
    ap (λ b. cond (not b) (y ∷ filter (λ y. not (reaches high y)) ys) (filter (λ y. not (reaches high y)) ys)) here ∙ none_behind high y ys h.2 here

module _ (range : PartRange) (first : (range.at == 0) ≡ true) where
  ends_so : (x : Entry) → ends_walk range x ≡ reaches range.high x
  ends_so x = ap (λ b. b && reaches range.high x) first

  until_climbs : (last : Entry) (xs : List Entry) → Climbs last None xs → entries_until range xs ≡ filter (λ x. not (reaches range.high x)) xs
  until_climbs last [] h = refl
  until_climbs last (x ∷ xs) h = ap (λ b. if b then [] else x ∷ entries_until range xs) (ends_so x) ∙ go (reaches range.high x) refl (until_climbs x xs h.2)
    where
      go : (b : Bool) → reaches range.high x ≡ b → entries_until range xs ≡ filter (λ x. not (reaches range.high x)) xs
          → (if b then [] else x ∷ entries_until range xs) ≡ cond (not b) (x ∷ filter (λ x. not (reaches range.high x)) xs) (filter (λ x. not (reaches range.high x)) xs)
      go true e rest = sym (none_behind range.high x xs h.2 e)
      go false e rest = ap (λ ys. x ∷ ys) rest

  until_rises : (xs : List Entry) → Rises None None xs → entries_until range xs ≡ filter (λ x. not (reaches range.high x)) xs
  until_rises [] h = refl
  until_rises (x ∷ xs) h = ap (λ b. if b then [] else x ∷ entries_until range xs) (ends_so x) ∙ go (reaches range.high x) refl (until_climbs x xs h.2)
    where
      go : (b : Bool) → reaches range.high x ≡ b → entries_until range xs ≡ filter (λ x. not (reaches range.high x)) xs
          → (if b then [] else x ∷ entries_until range xs) ≡ cond (not b) (x ∷ filter (λ x. not (reaches range.high x)) xs) (filter (λ x. not (reaches range.high x)) xs)
      go true e rest = sym (none_behind range.high x xs h.2 e)
      go false e rest = ap (λ ys. x ∷ ys) rest

-- a climbing list from a bound on climbs
climbs_lower : (last x : Entry) (xs : List Entry) → below last x ≡ true → Climbs x None xs → Climbs last None xs
climbs_lower last x [] l h = tt
climbs_lower last x (y ∷ ys) l h = (below_trans last x y l h.0, h.1, h.2)

climbs_from : (last bound : Entry) (xs : List Entry) → Climbs last None xs → Climbs last None (entries_from bound xs)
climbs_from last bound [] h = tt
climbs_from last bound (x ∷ xs) h = go (below x bound) (climbs_from x bound xs h.2)
  where
    go : (b : Bool) → Climbs x None (entries_from bound xs) → Climbs last None (if b then entries_from bound xs else x ∷ entries_from bound xs)
    go true r = climbs_lower last x (entries_from bound xs) h.0 r
    go false r = (h.0, h.1, r)

rises_from : (bound : Entry) (xs : List Entry) → Rises None None xs → Rises None None (entries_from bound xs)
rises_from bound [] h = tt
rises_from bound (x ∷ xs) h = go (below x bound) (climbs_from x bound xs h.2)
  where
    rising : (ys : List Entry) → Climbs x None ys → Rises None None ys
    rising [] k = tt
    rising (y ∷ ys) k = (tt, tt, k.2)

    go : (b : Bool) → Climbs x None (entries_from bound xs) → Rises None None (if b then entries_from bound xs else x ∷ entries_from bound xs)
    go true r = rising (entries_from bound xs) r
    go false r = (tt, tt, r)

-- ---- the walk

wide_entry : (width : ℕ) (xs : List Entry) (x : Entry) → AreOfWidth width xs → IsEntryOf x xs → length x ≡ width
wide_entry width [] x wide i = absurd i
wide_entry width (y ∷ ys) x wide (inl same) = ap length same ∙ wide.0
wide_entry width (y ∷ ys) x wide (inr i) = wide_entry width ys x wide.1 i

-- at the first part these are the entries in the range
pub walk_of_first : (width : ℕ) (range : PartRange) (all : List Entry) → range.at ≡ 0 → length range.low ≤ width → AreOfWidth width all → Rises None None all → walked width range all ≡ filter (has_part_in range) all
walk_of_first width range all at within wide rises =
    let first : (range.at == 0) ≡ true = ap (λ n. n == 0) at in
    let start = start_of_walk width range in
    let filled : start ≡ range.low ++ replicate (width - length range.low) 0 = ap (λ b. if b then range.low ++ replicate (width - length range.low) 0 else replicate width 0) first in
    until_rises range first (entries_from start all) (rises_from start all rises)
    ∙ (ap (filter (λ x. not (reaches range.high x))) (from_is_filter start all)
    ∙ (filter_both (λ x. not (below x start)) (λ x. not (reaches range.high x)) all
    ∙ filter_agree (λ x. not (below x start) && not (reaches range.high x)) (has_part_in range) all (λ x i.
    let same : below x start ≡ below x range.low = ap (below x) filled ∙ below_filled range.low x width within (wide_entry width all x wide i) in
    ap (λ b. not b && not (reaches range.high x)) same ∙ ap (λ n. is_in_range range.low range.high (drop n x)) (sym at))))

-- entries from zeros on are all entries
pub from_zeros : (width : ℕ) (xs : List Entry) → AreOfWidth width xs → entries_from (replicate width 0) xs ≡ xs
from_zeros width [] h = refl
from_zeros width (x ∷ xs) h = ap (λ b. if b then entries_from (replicate width 0) xs else x ∷ entries_from (replicate width 0) xs) (not_below_zeros width x h.0) ∙ ap (λ ys. x ∷ ys) (from_zeros width xs h.1)

-- at another part they are all entries
pub walk_of_other : (width : ℕ) (range : PartRange) (all : List Entry) → (range.at == 0) ≡ false → AreOfWidth width all → walked width range all ≡ all
walk_of_other width range all other wide =
    let start = start_of_walk width range in
    let zeros : start ≡ replicate width 0 = ap (λ b. if b then range.low ++ replicate (width - length range.low) 0 else replicate width 0) other in
    until_all (entries_from start all) ∙ (ap (λ v. entries_from v all) zeros ∙ from_zeros width all wide)
  where
    until_all : (xs : List Entry) → entries_until range xs ≡ xs
    until_all [] = refl
    until_all (x ∷ xs) = ap (λ b. if b && reaches range.high x then [] else x ∷ entries_until range xs) other ∙ ap (λ ys. x ∷ ys) (until_all xs)

pub at_cases : (n : ℕ) → (n ≡ 0) ⊎ ((n == 0) ≡ false)
at_cases n = elim (cases_eq n 0) [ inl same ↦ inl same | inr other ↦ inr (ne_eqb n 0 other) ]

-- in either case a walk meets each entry of the list in the range, and no other
module _ (width : ℕ) (range : PartRange) (all : List Entry) (within : length range.low ≤ width) (wide : AreOfWidth width all) (rises : Rises None None all) where
  pub walk_meets : (x : Entry) → IsEntryOf x all → has_part_in range x ≡ true → IsEntryOf x (walked width range all)
  walk_meets x i h = elim (at_cases range.at) [
    | inl at ↦ subst (IsEntryOf x) (sym (walk_of_first width range all at within wide rises)) (in_filter (has_part_in range) x all i h)
    | inr other ↦ subst (IsEntryOf x) (sym (walk_of_other width range all other wide)) i
  ]

  pub walk_within : (x : Entry) → IsEntryOf x (walked width range all) → IsEntryOf x all
  walk_within x i = elim (at_cases range.at) [
    | inl at ↦ (from_filter (has_part_in range) x all (subst (IsEntryOf x) (walk_of_first width range all at within wide rises) i)).0
    | inr other ↦ subst (IsEntryOf x) (walk_of_other width range all other wide) i
  ]

-- ---- where a walk begins

pub starts_at_low : (range : PartRange) (width : ℕ) (out cut : List ℕ) → range.at ≡ 0 → width ≤ length out → length range.low ≤ width → cut ≡ range.low
    → take width (cut ++ drop (length range.low) (replicate (length out) 0)) ≡ start_of_walk width range
starts_at_low range width out cut at room within is =
    let zeros = replicate (width - length range.low) 0 in
    let k = length range.low in
    let start : start_of_walk width range ≡ range.low ++ zeros = ap (λ n. if n == 0 then range.low ++ zeros else replicate width 0) at in
    let rest : drop k (replicate (length out) 0) ≡ replicate (length out - k) 0 = drop-replicate k (length out) 0 in
    let sum : width ≡ k + (width - k) = omega (arith, within) in
    ap (λ c. take width (c ++ drop k (replicate (length out) 0))) is
    ∙ (ap (λ r. take width (range.low ++ r)) rest
    ∙ (ap (λ n. take n (range.low ++ replicate (length out - k) 0)) sum
    ∙ (take-append-add range.low (replicate (length out - k) 0) (width - k) ∙ (ap (λ r. range.low ++ r) (take-replicate (width - k) (length out - k) 0 (omega (arith, room))) ∙ sym start))))
  where
    take-append-add : (xs ys : List ℕ) (n : ℕ) → take (length xs + n) (xs ++ ys) ≡ xs ++ take n ys
    take-append-add [] ys n = ap (λ k. take k ys) (zero_plus n)
      where
        zero_plus : (n : ℕ) → 0 + n ≡ n
        zero_plus n = omega arith
    take-append-add (x ∷ xs) ys n = ap (λ k. take k (x ∷ (xs ++ ys))) (suc_plus (length xs) n) ∙ ap (λ r. x ∷ r) (take-append-add xs ys n)
      where
        suc_plus : (a b : ℕ) → suc a + b ≡ suc (a + b)
        suc_plus a b = omega arith

pub starts_at_zeros : (range : PartRange) (width : ℕ) (out : List ℕ) → range.at ≢ 0 → width ≤ length out → take width (replicate (length out) 0) ≡ start_of_walk width range
starts_at_zeros range width out other room =
    take-replicate width (length out) 0 room ∙ sym (ap (λ b. if b then range.low ++ replicate (width - length range.low) 0 else replicate width 0) (ne_eqb range.at 0 other))

-- ---- the blocks of a leaf

blocks_in_range-push : (range : PartRange) (xs : List Entry) (x : Entry) → blocks_in_range range (xs ++ x ∷ []) ≡ blocks_in_range range xs ++ cond (has_part_in range x) (last_block x ∷ []) []
blocks_in_range-push range [] x = go (has_part_in range x)
  where
    go : (b : Bool) → map last_block (cond b (x ∷ []) []) ≡ cond b (last_block x ∷ []) []
    go true = refl
    go false = refl
blocks_in_range-push range (y ∷ xs) x = go (has_part_in range y) (blocks_in_range-push range xs x)
  where
    last : List ℕ
    last = cond (has_part_in range x) (last_block x ∷ []) []

    go : (b : Bool) → blocks_in_range range (xs ++ x ∷ []) ≡ blocks_in_range range xs ++ last
        → map last_block (cond b (y ∷ filter (has_part_in range) (xs ++ x ∷ [])) (filter (has_part_in range) (xs ++ x ∷ []))) ≡ map last_block (cond b (y ∷ filter (has_part_in range) xs) (filter (has_part_in range) xs)) ++ last
    go true e = ap (λ r. last_block y ∷ r) e
    go false e = e

-- the first i entries of a leaf were gone over, and their blocks in the range were taken
abbrev pub IsTaking : PartRange → List Entry → ℕ → List ℕ → List ℕ → ℕ → ℕ → Type 0
IsTaking range leaf i old blocks before count = IsTakingOf (blocks_in_range range) range leaf i old blocks before count

pub taking_none : (range : PartRange) (leaf : List Entry) (old : List ℕ) (before : ℕ) → IsTaking range leaf 0 old old before before
taking_none range leaf old before = taking_none_of (blocks_in_range range) range leaf old before refl

pub taking_next : (range : PartRange) (leaf : List Entry) (i : ℕ) (old blocks : List ℕ) (before count : ℕ) → IsTaking range leaf i old blocks before count → (x : Entry) → i < length leaf → x ≡ get_or leaf i [] → (blocks_now : List ℕ) → ends_walk range x ≡ false
    → blocks_now ≡ blocks ++ cond (has_part_in range x) (last_block x ∷ []) [] → IsTaking range leaf (i + 1) old blocks_now before (count + 1)
taking_next range leaf i old blocks before count so x within here blocks_now goes_on now =
    taking_next_of so x within here (cond (has_part_in range x) (last_block x ∷ []) []) blocks_now goes_on (blocks_in_range-push range (take i leaf) x) now

-- entries of a width are long enough
pub long_entries : (n width : ℕ) (xs : List Entry) → n ≤ width → AreOfWidth width xs → AllByRecursion (λ entry. n ≤ length entry) xs
long_entries n width [] fits wide = tt
long_entries n width (x ∷ xs) fits wide = (omega (arith, fits, wide.0), long_entries n width xs fits wide.1)

pub long_at : (n : ℕ) (xs : List Entry) (i : ℕ) → AllByRecursion (λ entry. n ≤ length entry) xs → i < length xs → n ≤ length (get_or xs i [])
long_at n [] i all within = absurd (omega (arith, within))
long_at n (x ∷ xs) zero all within = all.0
long_at n (x ∷ xs) (suc i) all within = long_at n xs i all.1 (omega (arith, within))

pub blocks_in_range-append : (range : PartRange) (xs ys : List Entry) → blocks_in_range range (xs ++ ys) ≡ blocks_in_range range xs ++ blocks_in_range range ys
blocks_in_range-append range [] ys = refl
blocks_in_range-append range (x ∷ xs) ys = go (has_part_in range x) (blocks_in_range-append range xs ys)
  where
    go : (b : Bool) → blocks_in_range range (xs ++ ys) ≡ blocks_in_range range xs ++ blocks_in_range range ys
        → map last_block (cond b (x ∷ filter (has_part_in range) (xs ++ ys)) (filter (has_part_in range) (xs ++ ys))) ≡ map last_block (cond b (x ∷ filter (has_part_in range) xs) (filter (has_part_in range) xs)) ++ blocks_in_range range ys
    go true e = ap (λ r. last_block x ∷ r) e
    go false e = e
