-- Rising lists walked along side by side, of whatever is listed.
use Rattle.std.proofs.Common.{◌≡◌, ◌∙◌, ◌⊎◌, inl, inr, ℕ, ◌+◌, ◌<◌, List, [], ◌∷◌, ◌++◌, Bool, true, false, refl, sym, ap, subst, append_assoc, drop, drop-cons, add-one, get_or, length, arith}
use Rattle.std.specs.Prelude.{◌&&◌, ◌||◌}
use Rattle.std.specs.List.{filter, list_any}
use Rattle.std.proofs.Math.Bool.{and_comm, cond}
use Rattle.std.proofs.lemmas.Bool.{false≢true}
use Rattle.std.proofs.lemmas.List.{append-nil}
use Rattle.std.proofs.lemmas.Map.Views.{any-filter_same}
use Rattle.std.proofs.lemmas.List.Folds.{list_any-append}
use Rattle.mdc_values.specs.Rising.{IsRising, LastIsBefore}
use Rattle.block_lists.specs.Walks.{BeginsFrom, BeginsWith, IsLeft, IsLowerHead}

-- it stands in a list
abbrev pub is_in : {X : Type 0} → (X → X → Bool) → List X → X → Bool
is_in same xs z = list_any (λ y. same y z) xs

-- ---- rising lists

rising_last : {X : Type 0} (Before : X → X → Type 0) (xs : List X) (x : X) (ys : List X) → IsRising Before (xs ++ x ∷ ys) → LastIsBefore Before x xs
rising_last Before [] x ys r = tt
rising_last Before (w ∷ []) x ys r = r.0
rising_last Before (w ∷ v ∷ xs) x ys r = rising_last Before (v ∷ xs) x ys r.1

abbrev IsFirstBehind : {X : Type 0} → (X → X → Type 0) → X → List X → Type 0
IsFirstBehind Before x [] = Unit {0}
IsFirstBehind Before x (y ∷ ys) = Before x y

rising_with : {X : Type 0} (Before : X → X → Type 0) (x : X) (ys : List X) → IsRising Before ys → IsFirstBehind Before x ys → IsRising Before (x ∷ ys)
rising_with Before x [] r h = tt
rising_with Before x (y ∷ ys) r h = (h, r)

pub rising_tail : {X : Type 0} (Before : X → X → Type 0) (w : X) (ys : List X) → IsRising Before (w ∷ ys) → IsRising Before ys
rising_tail Before w [] r = tt
rising_tail Before w (y ∷ ys) r = r.1

-- an element goes in between
rising_into : {X : Type 0} (Before : X → X → Type 0) (out : List X) (x : X) (ys : List X) → LastIsBefore Before x out → IsFirstBehind Before x ys → IsRising Before (out ++ ys) → IsRising Before (out ++ x ∷ ys)
rising_into Before [] x ys last h r = rising_with Before x ys r h
rising_into Before (w ∷ []) x ys last h r = (last, rising_with Before x ys (rising_tail Before w ys r) h)
rising_into Before (w ∷ v ∷ out) x ys last h r = (r.0, rising_into Before (v ∷ out) x ys last h r.1)

-- an element is passed over
pub record IsTransitive {X : Type 0} (Before : X → X → Type 0) : Type 0 where
  pub through : (a b c : X) → Before a b → Before b c → Before a c

pub rising_over : {X : Type 0} (Before : X → X → Type 0) → IsTransitive Before → (x w : X) (ys : List X) → IsRising Before (w ∷ x ∷ ys) → IsRising Before (w ∷ ys)
rising_over Before t x w [] r = tt
rising_over Before t x w (y ∷ ys) r = (t.through w x y r.0 r.1.0, r.1.1)

rising_past : {X : Type 0} (Before : X → X → Type 0) → IsTransitive Before → (out : List X) (x : X) (ys : List X) → IsRising Before (out ++ x ∷ ys) → IsRising Before (out ++ ys)
rising_past Before t [] x ys r = rising_tail Before x ys r
rising_past Before t (w ∷ []) x ys r = rising_over Before t x w ys r
rising_past Before t (w ∷ v ∷ out) x ys r = (r.0, rising_past Before t (v ∷ out) x ys r.1)

pub rising_suffix : {X : Type 0} (Before : X → X → Type 0) (out : List X) (ys : List X) → IsRising Before (out ++ ys) → IsRising Before ys
rising_suffix Before [] ys r = r
rising_suffix Before (w ∷ out) ys r = rising_suffix Before out ys (rising_tail Before w (out ++ ys) r)

-- ---- one of two lists

-- What stands in the list that was made and in the two that are left is what stood in the two at first, and what is left goes on behind.
pub record Joins {X : Type 0} (same : X → X → Bool) (Before : X → X → Type 0) (a0 b0 out a b : List X) : Type 0 where
  pub members : (z : X) → (is_in same out z || (is_in same a z || is_in same b z)) ≡ (is_in same a0 z || is_in same b0 z)
  pub a_rises : IsRising Before (out ++ a)
  pub b_rises : IsRising Before (out ++ b)

join_bools : (o s p q p' q' : Bool) → (s || p') ≡ (s || p) → (s || q') ≡ (s || q) → (s ≡ true → (p || q) ≡ true) → ((o || (s || false)) || (p' || q')) ≡ (o || (p || q))
join_bools true s p q p' q' hp hq h = refl
join_bools false true p q p' q' hp hq h = sym (h refl)
join_bools false false p q p' q' hp hq h = ap (λ x. x || q') hp ∙ ap (λ x. p || x) hq

idem : (s p : Bool) → (s || p) ≡ (s || (s || p))
idem true p = refl
idem false p = refl

pub or-left : (p q : Bool) → p ≡ true → (p || q) ≡ true
or-left true q h = refl
or-left false q h = absurd (false≢true h)

pub or-right : (p q : Bool) → q ≡ true → (p || q) ≡ true
or-right true q h = refl
or-right false q h = h

module _ (X : Type 0) (same : X → X → Bool) (Before : X → X → Type 0) where
  left_members : (x : X) (a rest : List X) → IsLeft x a rest → (z : X) → (same x z || is_in same rest z) ≡ (same x z || is_in same a z)
  left_members x [] rest left z = ap (λ r. same x z || is_in same r z) left
  left_members x (y ∷ ys) rest (inl h) z =
      ap (λ r. same x z || is_in same r z) h.1 ∙ idem (same x z) (is_in same ys z) ∙ ap (λ w. same x z || (same w z || is_in same ys z)) (sym h.0)
  left_members x (y ∷ ys) rest (inr h) z = ap (λ r. same x z || is_in same r z) h.1

  left_rises : (x : X) (out a rest : List X) → IsRising Before (out ++ a) → LastIsBefore Before x out → BeginsFrom Before x a → IsLeft x a rest → IsRising Before ((out ++ x ∷ []) ++ rest)
  left_rises x out [] rest r last low left =
      subst (λ l. IsRising Before ((out ++ x ∷ []) ++ l)) (sym left) (rw (append_assoc) (rising_into Before out x [] last tt r))
  left_rises x out (y ∷ ys) rest r last low (inl h) =
      subst (λ l. IsRising Before ((out ++ x ∷ []) ++ l)) (sym h.1) (rw (append_assoc) (subst (λ w. IsRising Before (out ++ w ∷ ys)) h.0 r))
  left_rises x out (y ∷ ys) rest r last (inl e) (inr h) = absurd (h.0 e)
  left_rises x out (y ∷ ys) rest r last (inr low) (inr h) =
      subst (λ l. IsRising Before ((out ++ x ∷ []) ++ l)) (sym h.1) (rw (append_assoc) (rising_into Before out x (y ∷ ys) last low r))

  begun_last : (x : X) (out a : List X) → IsRising Before (out ++ a) → BeginsWith x a → LastIsBefore Before x out
  begun_last x out [] r e = absurd e
  begun_last x out (y ∷ ys) r e = subst (λ w. LastIsBefore Before w out) e (rising_last Before out y ys r)

  begun_in : (x : X) (a : List X) (z : X) → BeginsWith x a → same x z ≡ true → is_in same a z ≡ true
  begun_in x [] z e s = absurd e
  begun_in x (y ∷ ys) z e s = or-left (same y z) (is_in same ys z) (ap (λ w. same w z) e ∙ s)

-- the last so far stands before the next
pub joins_last : {X : Type 0} {same : X → X → Bool} {Before : X → X → Type 0} {a0 b0 out a b : List X} {x : X} → Joins same Before a0 b0 out a b → IsLowerHead Before a b x → LastIsBefore Before x out
joins_last {X} {same} {Before} {a0} {b0} {out} {a} {b} {x} j h = elim h.there [
  | inl e ↦ begun_last X same Before x out a j.a_rises e
  | inr e ↦ begun_last X same Before x out b j.b_rises e
]

-- one element more
pub joins_more : {X : Type 0} {same : X → X → Bool} {Before : X → X → Type 0} {a0 b0 out a b : List X} {x : X} (a' b' : List X)
    → Joins same Before a0 b0 out a b → IsLowerHead Before a b x → IsLeft x a a' → IsLeft x b b' → Joins same Before a0 b0 (out ++ x ∷ []) a' b'
joins_more {X} {same} {Before} {a0} {b0} {out} {a} {b} {x} a' b' j h la lb = record {
  members = λ z.
      ap (λ p. p || (is_in same a' z || is_in same b' z)) (list_any-append (λ y. same y z) out (x ∷ []))
      ∙ join_bools (is_in same out z) (same x z) (is_in same a z) (is_in same b z) (is_in same a' z) (is_in same b' z)
      (left_members X same Before x a a' la z) (left_members X same Before x b b' lb z)
      (λ s. elim h.there [
        | inl e ↦ or-left (is_in same a z) (is_in same b z) (begun_in X same Before x a z e s)
        | inr e ↦ or-right (is_in same a z) (is_in same b z) (begun_in X same Before x b z e s)
      ])
      ∙ j.members z;
  a_rises = left_rises X same Before x out a a' j.a_rises (joins_last j h) h.low_a la;
  b_rises = left_rises X same Before x out b b' j.b_rises (joins_last j h) h.low_b lb;
}

or-none : (p : Bool) → (p || false) ≡ p
or-none true = refl
or-none false = refl

-- nothing is left
pub joins_end : {X : Type 0} {same : X → X → Bool} {Before : X → X → Type 0} {a0 b0 out a b : List X} → Joins same Before a0 b0 out a b → a ≡ [] → b ≡ []
    → (z : X) → is_in same out z ≡ (is_in same a0 z || is_in same b0 z)
joins_end {X} {same} {Before} {a0} {b0} {out} {a} {b} j ea eb z =
    sym (or-none (is_in same out z)) ∙ sym (ap (λ l. is_in same out z || (is_in same l z || is_in same b z)) ea ∙ ap (λ l. is_in same out z || is_in same l z) eb) ∙ j.members z

-- ---- what passes a test

-- What a test and an order have to do with each other.
pub record IsOrder {X : Type 0} (same : X → X → Bool) (Before : X → X → Type 0) : Type 0 where
  pub through : (a b c : X) → Before a b → Before b c → Before a c
  pub itself : (a : X) → same a a ≡ true
  pub alike : (a b : X) → same a b ≡ true → a ≡ b
  pub apart : (a b : X) → Before a b → same b a ≡ false

-- What was made, and behind it what passes of what is left, is what passes of all; what was made and what is left rise.
pub record Keeps {X : Type 0} (Before : X → X → Type 0) (passes : X → Bool) (xs0 out xs : List X) : Type 0 where
  pub kept : out ++ filter passes xs ≡ filter passes xs0
  pub rises : IsRising Before (out ++ xs)

pub keeps_last : {X : Type 0} {Before : X → X → Type 0} {passes : X → Bool} {xs0 out xs : List X} {x : X} → Keeps Before passes xs0 out (x ∷ xs) → LastIsBefore Before x out
keeps_last {X} {Before} {passes} {xs0} {out} {xs} {x} k = rising_last Before out x xs k.rises

pub keeps_taken : {X : Type 0} {Before : X → X → Type 0} {passes : X → Bool} {xs0 out xs : List X} {x : X} → Keeps Before passes xs0 out (x ∷ xs) → passes x ≡ true
    → Keeps Before passes xs0 (out ++ x ∷ []) xs
keeps_taken {X} {Before} {passes} {xs0} {out} {xs} {x} k h = record {
  kept = append_assoc out (x ∷ []) (filter passes xs) ∙ sym (ap (λ b. out ++ cond b (x ∷ filter passes xs) (filter passes xs)) h) ∙ k.kept;
  rises = rw (append_assoc) k.rises;
}

pub keeps_past : {X : Type 0} {same : X → X → Bool} {Before : X → X → Type 0} {passes : X → Bool} {xs0 out xs : List X} {x : X} → IsOrder same Before → Keeps Before passes xs0 out (x ∷ xs) → passes x ≡ false
    → Keeps Before passes xs0 out xs
keeps_past {X} {same} {Before} {passes} {xs0} {out} {xs} {x} o k h = record {
  kept = sym (ap (λ b. out ++ cond b (x ∷ filter passes xs) (filter passes xs)) h) ∙ k.kept;
  rises = rising_past Before (record { through = o.through }) out x xs k.rises;
}

-- nothing is left
pub keeps_end : {X : Type 0} {Before : X → X → Type 0} {passes : X → Bool} {xs0 out xs : List X} → Keeps Before passes xs0 out xs → xs ≡ [] → out ≡ filter passes xs0
keeps_end {X} {Before} {passes} {xs0} {out} {xs} k e = sym (append-nil out) ∙ sym (ap (λ l. out ++ filter passes l) e) ∙ k.kept

-- and has those that stood in the list and pass
pub keeps_members : {X : Type 0} {same : X → X → Bool} {Before : X → X → Type 0} {passes : X → Bool} {xs0 out xs : List X} → IsOrder same Before → Keeps Before passes xs0 out xs → xs ≡ []
    → (z : X) → is_in same out z ≡ (is_in same xs0 z && passes z)
keeps_members {X} {same} {Before} {passes} {xs0} o k e z =
    ap (λ l. is_in same l z) (keeps_end k e) ∙ any-filter_same (λ y. same y z) passes (passes z) (λ y s. ap passes (o.alike y z s)) xs0 ∙ and_comm (passes z) (is_in same xs0 z)

-- ---- a test that is looked up in a list which is walked along

-- of what is left the look says what the test says
pub record Tells {X : Type 0} (same : X → X → Bool) (look test : X → Bool) (xs : List X) : Type 0 where
  pub alike : (z : X) → is_in same xs z ≡ true → look z ≡ test z

-- an element of a rising list stands behind the first
pub behind_first : {X : Type 0} {same : X → X → Bool} {Before : X → X → Type 0} → IsOrder same Before → (x : X) (xs : List X) (z : X) → IsRising Before (x ∷ xs) → is_in same xs z ≡ true → Before x z
behind_first o x [] z r h = absurd (false≢true h)
behind_first {X} {same} {Before} o x (y ∷ ys) z r h = by_first (λ k. behind_first o y ys z r.1 k) (same y z) refl where
  by_first : (is_in same ys z ≡ true → Before y z) → (b : Bool) → same y z ≡ b → Before x z
  by_first more true e = subst (λ w. Before x w) (o.alike y z e) r.0
  by_first more false e = o.through x y z r.0 (more (sym (ap (λ b. b || is_in same ys z) e) ∙ h))

pub tells_first : {X : Type 0} {same : X → X → Bool} {Before : X → X → Type 0} {look test : X → Bool} {x : X} {xs : List X} → IsOrder same Before → Tells same look test (x ∷ xs) → look x ≡ test x
tells_first {X} {same} {Before} {look} {test} {x} {xs} o t = t.alike x (or-left (same x x) (is_in same xs x) (o.itself x))

-- the look moves on to the first
pub tells_more : {X : Type 0} {same : X → X → Bool} {Before : X → X → Type 0} {look test : X → Bool} {x : X} {xs : List X} (out : List X) (look' : X → Bool)
    → IsOrder same Before → IsRising Before (out ++ x ∷ xs) → Tells same look test (x ∷ xs) → ((z : X) → ((x ≡ z) ⊎ Before x z) → look' z ≡ look z) → Tells same look' test (x ∷ xs)
tells_more {X} {same} {Before} {look} {test} {x} {xs} out look' o r t moved = record { alike = λ z h. by_first z (same x z) refl h } where
  by_first : (z : X) (b : Bool) → same x z ≡ b → is_in same (x ∷ xs) z ≡ true → look' z ≡ test z
  by_first z true e h = moved z (inl (o.alike x z e)) ∙ t.alike z h
  by_first z false e h =
      moved z (inr (behind_first o x xs z (rising_suffix Before out (x ∷ xs) r) (sym (ap (λ b. b || is_in same xs z) e) ∙ h))) ∙ t.alike z h

-- and past it
pub tells_past : {X : Type 0} {same : X → X → Bool} {look test : X → Bool} {x : X} {xs : List X} → Tells same look test (x ∷ xs) → Tells same look test xs
tells_past {X} {same} {look} {test} {x} {xs} t = record { alike = λ z h. t.alike z (or-right (same x z) (is_in same xs z) h) }

-- a list that begins from an element has it exactly where it begins with it
pub first_in : {X : Type 0} {same : X → X → Bool} {Before : X → X → Type 0} → IsOrder same Before → (x y : X) (ys : List X) → IsRising Before (y ∷ ys) → Before x y → is_in same (y ∷ ys) x ≡ false
first_in {X} {same} {Before} o x y ys r h = by_in (is_in same (y ∷ ys) x) refl where
  by_in : (b : Bool) → is_in same (y ∷ ys) x ≡ b → is_in same (y ∷ ys) x ≡ false
  by_in false e = e
  by_in true e = absurd (false≢true (sym (o.apart x x (behind_first o x (y ∷ ys) x (h, r) e)) ∙ o.itself x))

-- the first element of a rising list doesn't stand in the rest
pub not_in_rest : {X : Type 0} {same : X → X → Bool} {Before : X → X → Type 0} → IsOrder same Before → (x : X) (xs : List X) → IsRising Before (x ∷ xs) → is_in same xs x ≡ false
not_in_rest o x [] r = refl
not_in_rest o x (y ∷ ys) r = first_in o x y ys r.1 r.0

pub begins_in : {X : Type 0} {same : X → X → Bool} {Before : X → X → Type 0} → IsOrder same Before → (x : X) (ys : List X) → BeginsWith x ys → is_in same ys x ≡ true
begins_in o x [] e = absurd e
begins_in {X} {same} o x (y ∷ ys) e = or-left (same y x) (is_in same ys x) (ap (λ w. same w x) e ∙ o.itself x)

pub begins_not_in : {X : Type 0} {same : X → X → Bool} {Before : X → X → Type 0} → IsOrder same Before → (x : X) (ys : List X) → IsRising Before ys → BeginsFrom Before x ys → (BeginsWith x ys → ⊥) → is_in same ys x ≡ false
begins_not_in o x [] r low other = refl
begins_not_in o x (y ∷ ys) r (inl e) other = absurd (other e)
begins_not_in o x (y ∷ ys) r (inr h) other = first_in o x y ys r h

-- the front of a list that stands before an element isn't it
pub tail_in : {X : Type 0} {same : X → X → Bool} {Before : X → X → Type 0} → IsOrder same Before → (y z : X) (ys : List X) → Before y z → is_in same ys z ≡ is_in same (y ∷ ys) z
tail_in {X} {same} {Before} o y z ys h = by_same (same y z) refl where
  by_same : (b : Bool) → same y z ≡ b → is_in same ys z ≡ (same y z || is_in same ys z)
  by_same false e = sym (ap (λ b. b || is_in same ys z) e)
  by_same true e = absurd (false≢true (sym (o.apart y y (subst (λ w. Before y w) (sym (o.alike y z e)) h)) ∙ o.itself y))

-- ---- a place in a list

pub first_left : {X : Type 0} (xs : List X) (i : ℕ) (d : X) → i < length xs → drop i xs ≡ get_or xs i d ∷ drop (i + 1) xs
first_left xs i d h = rw (add-one) (drop-cons xs i d h)

-- ---- what is left grows shorter

left_shorter : {X : Type 0} (x : X) (a a' : List X) → IsLeft x a a' → (length a' < length a + 1) × (BeginsWith x a → length a' < length a)
left_shorter x [] a' e = (omega (arith, ap length e), λ b. absurd b)
left_shorter x (y ∷ ys) a' (inl h) = (omega (arith, ap length h.1), λ b. omega (arith, ap length h.1))
left_shorter x (y ∷ ys) a' (inr h) = (omega (arith, ap length h.1), λ b. absurd (h.0 b))

pub lefts_shorter : {X : Type 0} {Before : X → X → Type 0} {a b : List X} {x : X} (a' b' : List X) → IsLowerHead Before a b x → IsLeft x a a' → IsLeft x b b' → length a' + length b' < length a + length b
lefts_shorter {X} {Before} {a} {b} {x} a' b' h la lb =
    let sa = left_shorter x a a' la in
    let sb = left_shorter x b b' lb in
    elim h.there [
      | inl e ↦ omega (arith, sa.1 e, sb.0)
      | inr e ↦ omega (arith, sb.1 e, sa.0)
    ]
