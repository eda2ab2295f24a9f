-- The places of cuts among the keys of a column.
use Rattle.std.proofs.Common.{◌≡◌, ℕ, zero, suc, ◌+◌, ◌-◌, ◌<◌, ◌≤◌, List, [], ◌∷◌, ◌++◌, length, take, drop, Bool, true, false, refl, sym, ap, subst, ◌∙◌, arith, Ordering, add-one, inl, inr}
use Rattle.std.specs.Prelude.{◌==◌, ◌≢◌, ℤ, pos, negsuc, min, not, ◌<ℤ◌, IsTrue, Option, Some, None, slice_index, slice_set, if◌then◌else◌, get_or}
use Rattle.std.specs.declared.cmp.Ordering.TheVariants.{Less, Equal, Greater}
use Rattle.std.specs.Ordering.{nat_cmp, int_cmp, ordering_reverse}
use Rattle.std.specs.Cmp.Lexicographic.{slice_cmp}
use Rattle.std.proofs.lemmas.Bool.{cases_eq, cases_lt}
use Rattle.std.proofs.lemmas.Bool.Decides.{nat_tests}
use Rattle.std.proofs.lemmas.List.{append-nil, get_or_default, get_or-take, drop_all, length-map, take_all, length-take}
use Rattle.mdc_values.specs.declared.value.ColType.{ColType}
use Rattle.mdc_values.specs.declared.value.ColType.TheVariants.{Integer, Char}
use Rattle.mdc_values.specs.declared.value.Value.{Value}
use Rattle.mdc_values.specs.declared.value.Value.TheVariants.{Null, Int, Text, Day}
use Rattle.mdc_values.specs.Fitting.{in_integer}
use Rattle.mdc_values.specs.Order.{order, padded, text_order}
use Rattle.mdc_ast.specs.declared.span.Cut.{Cut}
use Rattle.mdc_ast.specs.declared.span.Cut.TheVariants.{First, Last}
use Rattle.key_codec.specs.Edges.{IsEdge, behind_front, front_order, is_past, put_before, side_of_blanks}
use Rattle.key_codec.specs.Keys.{AreBytes, has_key, part_bytes, part_width, sort_bytes, turned}
use Rattle.key_codec.specs.Spans.{IsBoundOf, IsShortBound, is_above, reaches}
use Rattle.key_codec.proofs.OrderLemmas.{AreBytes-append, AreBytes-complement, AreBytes-cons, AreBytes-none, AreBytes-replicate, AreBytes-take, front_order-append, front_order-complement, front_order-none, front_order-whole, reaches-past}
use Rattle.key_codec.proofs.PartLemmas.{AreBytes-part_bytes, length-part_bytes, slice_cmp-part, text_with_key}
use Rattle.key_codec.proofs.TextLemmas.{is_past-longer, length-padded, slice_cmp-padded}

-- ---- the first byte string behind a front

pub behind_front-full : (xs : List ℕ) (n : ℕ) → n < length xs → slice_index xs n ≡ 255 → behind_front (take (suc n) xs) ≡ behind_front (take n xs)
behind_front-full [] n lt e = absurd (omega (arith, lt))
behind_front-full (x ∷ xs) zero lt e = let full : (x == 255) ≡ true = grind (arith, nat_tests, e) in rw full refl
behind_front-full (x ∷ xs) (suc n) lt e = ap (put_before x) (behind_front-full xs n (omega (arith, lt)) e)

pub behind_front-room : (xs : List ℕ) (n : ℕ) → n < length xs → slice_index xs n ≢ 255
    → behind_front (take (suc n) xs) ≡ Some (slice_set (take (suc n) xs) n (slice_index xs n + 1))
behind_front-room [] n lt h = absurd (omega (arith, lt))
behind_front-room (x ∷ xs) zero lt h = let room : (x == 255) ≡ false = grind (arith, nat_tests, h) in rw (room, add-one) refl
behind_front-room (x ∷ xs) (suc n) lt h = ap (put_before x) (behind_front-room xs n (omega (arith, lt)) h)

pub behind_front-short : (front : List ℕ) → IsShortBound (length front) (behind_front front)
behind_front-short [] = tt
behind_front-short (b ∷ front) = go (behind_front front) (behind_front-short front)
  where
    go : (bound : Option (List ℕ)) → IsShortBound (length front) bound → IsShortBound (suc (length front)) (put_before b bound)
    go (Some bytes) short = omega (arith, short)
    go None short = elim (cases_eq b 255) [ inl e ↦ (let t : (b == 255) ≡ true = grind (arith, nat_tests, e) in rw t tt) | inr n ↦ (let f : (b == 255) ≡ false = grind (arith, nat_tests, n) in rw f (omega arith)) ]

-- a bound that is short is so for more bytes too
longer_bound : (n m : ℕ) (bound : Option (List ℕ)) → n ≤ m → IsShortBound n bound → IsShortBound m bound
longer_bound n m None le short = tt
longer_bound n m (Some bytes) le short = omega (arith, le, short)

-- the bound of a place whose front is short is short
pub short_bound : (ty : ColType) (front : List ℕ) (behind : Bool) (bound : Option (List ℕ)) → length front ≤ part_width ty
    → bound ≡ (if behind then behind_front front else Some front) → IsShortBound (part_width ty) bound
short_bound ty front true bound le is = subst (IsShortBound (part_width ty)) (sym is) (longer_bound (length front) (part_width ty) (behind_front front) le (behind_front-short front))
short_bound ty front false bound le is = subst (IsShortBound (part_width ty)) (sym is) le

-- and so is that of the place where all bytes are complemented
pub short_turned_bound : (ty : ColType) (front other : List ℕ) (behind : Bool) (bound : Option (List ℕ)) → length front ≤ part_width ty → other ≡ turned true front
    → bound ≡ (if behind then behind_front other else Some other) → IsShortBound (part_width ty) bound
short_turned_bound ty front other behind bound le turn is =
    short_bound ty other behind bound (omega (arith, le, ap length turn, length-map front (λ byte. 255 - byte))) is

-- the last of the first n bytes that is 255 is passed over
pub behind_front-less : (xs : List ℕ) (n b : ℕ) → 0 < n → n ≤ length xs → b ≡ get_or xs (n - 1) b → b ≡ 255 → behind_front (take n xs) ≡ behind_front xs
    → (n - 1 ≤ length xs) × (behind_front (take (n - 1) xs) ≡ behind_front xs)
behind_front-less xs zero b some le read full same = absurd (omega (arith, some))
behind_front-less xs (suc n) b some le read full same =
    let before : suc n - 1 ≡ n = omega arith in
    let within : n < length xs = omega (arith, le) in
    let at : slice_index xs n ≡ 255 = sym (get_or_default xs n b 0 within) ∙ sym (rw before at read) ∙ full in
    rw before (omega (arith, le), sym (behind_front-full xs n within at) ∙ same)

-- the last that isn't 255 is raised by one, and the others are left out
pub behind_front-raised : (xs cut key : List ℕ) (n b v : ℕ) → (n ≡ 0 → ⊥) → n ≤ length xs → behind_front (take n xs) ≡ behind_front xs → cut ≡ take n xs
    → b ≡ get_or xs (n - 1) b → (b ≡ 255 → ⊥) → v ≡ get_or cut (n - 1) v → key ≡ slice_set cut (n - 1) (v + 1)
    → Some key ≡ behind_front xs
behind_front-raised xs cut key zero b v some le same cut_is read ne value key_is = absurd (some refl)
behind_front-raised xs cut key (suc n) b v some le same cut_is read ne value key_is =
    let before : suc n - 1 ≡ n = omega arith in
    let within : n < length xs = omega (arith, le) in
    let b_is : b ≡ slice_index xs n = rw before at read ∙ get_or_default xs n b 0 within in
    let room : slice_index xs n ≢ 255 = λ e. ne (b_is ∙ e) in
    let inside : n < length (take (suc n) xs) = omega (arith, length-take (suc n) xs, within) in
    let v_is : v ≡ slice_index xs n = (rw (before, cut_is) at value) ∙ get_or_default (take (suc n) xs) n v 0 inside ∙ get_or-take (suc n) xs n 0 (omega arith) in
    let whole : key ≡ slice_set (take (suc n) xs) n (slice_index xs n + 1) = rw (before, cut_is, v_is) at key_is in
    ap Some whole ∙ sym (behind_front-room xs n within room) ∙ same

-- ---- places

pub edge_of_first : (ty : ColType) → IsEdge ty (is_above First) [] false
edge_of_first ty = record { short = omega arith; bytes = AreBytes-none; past = λ value h. refl }

pub edge_of_last : (ty : ColType) → IsEdge ty (is_above Last) [] true
edge_of_last ty = record { short = omega arith; bytes = AreBytes-none; past = λ value h. refl }

pub edge_of_nulls : (ty : ColType) (behind : Bool) → IsEdge ty (λ x. is_past behind (order x Null)) (1 ∷ []) behind
edge_of_nulls ty behind = record { short = omega arith; bytes = AreBytes-cons 1 [] (omega arith) AreBytes-none; past = past }
  where
    past : (value : Value) → IsTrue (has_key ty value) → is_past behind (front_order (part_bytes ty false value) (1 ∷ [])) ≡ is_past behind (order value Null)
    past Null h = ap (is_past behind) (front_order-none (sort_bytes ty Null))
    past (Int n) h = refl
    past (Text text) h = refl
    past (Day day) h = refl

pub edge_of_value : (ty : ColType) (behind : Bool) (other : Value) → IsTrue (has_key ty other)
    → IsEdge ty (λ x. is_past behind (order x other)) (part_bytes ty false other) behind
edge_of_value ty behind other h = record {
  short = omega (arith, length-part_bytes ty false other h);
  bytes = AreBytes-part_bytes ty other h;
  past = λ value g.
      ap (is_past behind) (front_order-whole (part_bytes ty false value) (part_bytes ty false other) (length-part_bytes ty false value g ∙ sym (length-part_bytes ty false other h)) ∙ slice_cmp-part ty value other g h);
}

past_Greater : (behind : Bool) → is_past behind Greater ≡ true
past_Greater true = refl
past_Greater false = refl

past_Less : (behind : Bool) → is_past behind Less ≡ false
past_Less true = refl
past_Less false = refl

above_all : (m n : ℤ) → IsTrue (in_integer m) → n <ℤ negsuc 2147483647 → int_cmp m n ≡ Greater
above_all (pos m) (pos n) h lt = absurd lt.lt
above_all (pos m) (negsuc n) h lt = refl
above_all (negsuc m) (pos n) h lt = absurd lt.lt
above_all (negsuc m) (negsuc n) h lt = grind (arith, nat_tests, h, lt)

below_all : (m n : ℤ) → IsTrue (in_integer m) → pos 2147483647 <ℤ n → int_cmp m n ≡ Less
below_all (pos m) (pos n) h lt = grind (arith, nat_tests, h, lt)
below_all (pos m) (negsuc n) h lt = absurd lt.lt
below_all (negsuc m) (pos n) h lt = refl
below_all (negsuc m) (negsuc n) h lt = absurd lt.lt

-- a number below all of INTEGER
pub edge_below : (behind : Bool) (n : ℤ) → n <ℤ negsuc 2147483647 → IsEdge Integer (λ x. is_past behind (order x (Int n))) [] false
edge_below behind n lt = record { short = omega arith; bytes = AreBytes-none; past = past }
  where
    past : (value : Value) → IsTrue (has_key Integer value) → true ≡ is_past behind (order value (Int n))
    past Null h = sym (past_Greater behind)
    past (Int m) h = sym (ap (is_past behind) (above_all m n h lt) ∙ past_Greater behind)
    past value h = cc

-- a number above all of INTEGER
pub edge_above : (behind : Bool) (n : ℤ) → pos 2147483647 <ℤ n → IsEdge Integer (λ x. is_past behind (order x (Int n))) (1 ∷ []) false
edge_above behind n lt = record { short = omega arith; bytes = AreBytes-cons 1 [] (omega arith) AreBytes-none; past = past }
  where
    past : (value : Value) → IsTrue (has_key Integer value) → is_past false (front_order (part_bytes Integer false value) (1 ∷ [])) ≡ is_past behind (order value (Int n))
    past Null h = sym (past_Greater behind)
    past (Int m) h = sym (ap (is_past behind) (below_all m n h lt) ∙ past_Less behind)
    past value h = cc

-- the place beside a text is that beside the part of it which is no longer than the column
edge_of_shared : (n : ℕ) (behind side : Bool) (text shared : List ℕ) → length shared ≤ n → AreBytes shared
    → ((a : List ℕ) → length a ≤ n → is_past side (slice_cmp nat_cmp (padded n a) (padded n shared)) ≡ is_past behind (text_order a text))
    → IsEdge (Char n) (λ x. is_past behind (order x (Text text))) (0 ∷ padded n shared) side
edge_of_shared n behind side text shared le b agrees = record {
  short = omega (arith, length-padded n shared le);
  bytes = AreBytes-cons 0 (padded n shared) (omega arith) (AreBytes-append shared _ b (AreBytes-replicate (n - length shared) 32 (omega arith)));
  past = past;
}
  where
    past : (value : Value) → IsTrue (has_key (Char n) value) → is_past side (front_order (part_bytes (Char n) false value) (0 ∷ padded n shared)) ≡ is_past behind (order value (Text text))
    past Null h = past_Greater side ∙ sym (past_Greater behind)
    past (Text a) h =
        let la = (text_with_key n a h).0 in
        ap (is_past side) (front_order-whole (padded n a) (padded n shared) (length-padded n a la ∙ sym (length-padded n shared le))) ∙ agrees a la
    past value h = cc

padded-whole : (n : ℕ) (text : List ℕ) → length text ≡ n → padded n text ≡ text
padded-whole n text e = let none : n - length text ≡ 0 = omega (arith, e) in rw none (append-nil text)

pub edge_of_text : (n : ℕ) (behind : Bool) (text : List ℕ) (m : ℕ) → m ≡ min (length text) n → AreBytes text
    → IsEdge (Char n) (λ x. is_past behind (order x (Text text))) (0 ∷ padded n (take m text)) (side_of_blanks behind (drop m text))
edge_of_text n behind text m e b = elim (cases_lt n (length text)) [
  | inl longer ↦
      let same : m ≡ n = omega (arith, e, longer) in
      let whole : length (take n text) ≡ n = omega (arith, length-take n text, longer) in
      let b' : AreBytes (take n text) = AreBytes-take n text b in
      let agrees = λ (a : List ℕ) (la : length a ≤ n).
      ap (λ p. is_past (side_of_blanks behind (drop n text)) (slice_cmp nat_cmp (padded n a) p)) (padded-whole n (take n text) whole) ∙ is_past-longer behind n a text la (omega (arith, longer)) in
      rw same (edge_of_shared n behind (side_of_blanks behind (drop n text)) text (take n text) (omega (arith, whole)) b' agrees)
  | inr shorter ↦
      let same : m ≡ length text = omega (arith, e, shorter) in
      let whole : take m text ≡ text = take_all m text (omega (arith, same)) in
      let none : drop m text ≡ [] = drop_all m text (omega (arith, same)) in
      let agrees = λ (a : List ℕ) (la : length a ≤ n). ap (is_past behind) (slice_cmp-padded n a text la shorter) in
      rw (whole, none) (edge_of_shared n behind behind text text shorter b agrees)
]

-- ---- bounds

past_turned : (behind : Bool) (o : Ordering) → is_past (not behind) (ordering_reverse o) ≡ not (is_past behind o)
past_turned true Less = refl
past_turned true Equal = refl
past_turned true Greater = refl
past_turned false Less = refl
past_turned false Equal = refl
past_turned false Greater = refl

-- the bytes of a front, in what begins with bytes that are as long
bytes_before : (x rest : List ℕ) (n : ℕ) → n ≤ length x → AreBytes x → (k : ℕ) → k < n → slice_index (x ++ rest) k < 256
bytes_before [] rest n le b k lt = absurd (omega (arith, le, lt))
bytes_before (c ∷ x) rest n le b zero lt = b 0
bytes_before (c ∷ x) rest zero le b (suc k) lt = absurd (omega (arith, lt))
bytes_before (c ∷ x) rest (suc n) le b (suc k) lt = bytes_before x rest n (omega (arith, le)) (λ i. b (suc i)) k (omega (arith, lt))

-- the keys that reach the bound of a place are those of the values that it picks
reaches-ascending : (ty : ColType) (picks : Value → Bool) (front : List ℕ) (behind : Bool) → IsEdge ty picks front behind
    → (value : Value) (rest : List ℕ) → IsTrue (has_key ty value)
    → reaches (if behind then behind_front front else Some front) (part_bytes ty false value ++ rest) ≡ picks value
reaches-ascending ty picks front behind edge value rest h =
    let part = part_bytes ty false value in
    let le : length front ≤ length part = omega (arith, edge.short, length-part_bytes ty false value h) in
    reaches-past behind (part ++ rest) front (bytes_before part rest (length front) le (AreBytes-part_bytes ty value h))
    ∙ ap (is_past behind) (front_order-append part front rest le)
    ∙ edge.past value h

reaches-descending : (ty : ColType) (picks : Value → Bool) (front : List ℕ) (behind : Bool) → IsEdge ty picks front behind
    → (value : Value) (rest : List ℕ) → IsTrue (has_key ty value)
    → reaches (if not behind then behind_front (turned true front) else Some (turned true front)) (part_bytes ty true value ++ rest) ≡ not (picks value)
reaches-descending ty picks front behind edge value rest h =
    let part = part_bytes ty false value in
    let le : length front ≤ length part = omega (arith, edge.short, length-part_bytes ty false value h) in
    let long : length (turned true front) ≤ length (part_bytes ty true value) =
    omega (arith, edge.short, length-part_bytes ty true value h, length-map front (λ byte. 255 - byte)) in
    reaches-past (not behind) (part_bytes ty true value ++ rest) (turned true front)
    (bytes_before (part_bytes ty true value) rest (length (turned true front)) long (AreBytes-complement part))
    ∙ ap (is_past (not behind)) (front_order-append (part_bytes ty true value) (turned true front) rest long)
    ∙ ap (is_past (not behind)) (front_order-complement part front le (AreBytes-part_bytes ty value h) edge.bytes)
    ∙ past_turned behind (front_order part front)
    ∙ ap not (edge.past value h)

pub ascending_bound : (ty : ColType) (descending : Bool) (cut : Cut) (front : List ℕ) (behind : Bool) (bound : Option (List ℕ)) → descending ≡ false → IsEdge ty (is_above cut) front behind
    → bound ≡ (if behind then behind_front front else Some front) → IsBoundOf ty descending cut bound
ascending_bound ty descending cut front behind bound turn edge bound_is =
    rw (turn, bound_is) (λ value rest h. reaches-ascending ty (is_above cut) front behind edge value rest h)

pub descending_bound : (ty : ColType) (descending : Bool) (cut : Cut) (front from : List ℕ) (behind past : Bool) (bound : Option (List ℕ)) → descending ≡ true → IsEdge ty (is_above cut) front behind
    → from ≡ turned true front → past ≡ not behind → bound ≡ (if past then behind_front from else Some from) → IsBoundOf ty descending cut bound
descending_bound ty descending cut front from behind past bound turn edge from_is past_is bound_is =
    rw (turn, bound_is, past_is, from_is) (λ value rest h. reaches-descending ty (is_above cut) front behind edge value rest h)
