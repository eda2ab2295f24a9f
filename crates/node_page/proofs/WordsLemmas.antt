-- Byte strings that are compared some bytes at a time, as numbers.
use Rattle.std.proofs.Common.{◌≡◌, ◌≢◌, ◌<◌, ◌≤◌, ◌+◌, ◌*◌, ◌-◌, ℕ, zero, suc, List, [], ◌∷◌, refl, subst, arith, ap, sym, ◌∙◌, length, take, drop, nat_cmp}
use Rattle.std.specs.Ordering.{ordering_then, MatchOrdering}
use Rattle.std.specs.Slice.Scan.{big_endian}
use Rattle.std.specs.declared.cmp.Ordering.{Ordering}
use Rattle.std.specs.declared.cmp.Ordering.TheVariants.{Less, Equal, Greater}
use Rattle.std.specs.Cmp.{ranks}
use Rattle.std.proofs.lemmas.List.{get_or-drop, length-drop, drop_all, drop-drop}
use Rattle.std.specs.Cmp.Lexicographic.{slice_cmp}
use Rattle.node_page.proofs.NodeLemmas.{AreBytes}

-- how two byte strings compare
abbrev pub order : List ℕ → List ℕ → Ordering
order = slice_cmp nat_cmp

is_less : (x y : ℕ) (r : Ordering) → MatchOrdering r (x < y) (x ≡ y) (y < x) → x < y → r ≡ Less
is_less x y Less h l = refl
is_less x y Equal h l = let e : x ≡ y = h in absurd (omega arith)
is_less x y Greater h l = let e : y < x = h in absurd (omega arith)

is_equal : (x y : ℕ) (r : Ordering) → MatchOrdering r (x < y) (x ≡ y) (y < x) → x ≡ y → r ≡ Equal
is_equal x y Less h l = let e : x < y = h in absurd (omega arith)
is_equal x y Equal h l = refl
is_equal x y Greater h l = let e : y < x = h in absurd (omega arith)

is_greater : (x y : ℕ) (r : Ordering) → MatchOrdering r (x < y) (x ≡ y) (y < x) → y < x → r ≡ Greater
is_greater x y Less h l = let e : x < y = h in absurd (omega arith)
is_greater x y Equal h l = let e : x ≡ y = h in absurd (omega arith)
is_greater x y Greater h l = refl

less : (x y : ℕ) → x < y → nat_cmp x y ≡ Less
less x y l = is_less x y (nat_cmp x y) (ranks x y) l

equal : (x y : ℕ) → x ≡ y → nat_cmp x y ≡ Equal
equal x y e = is_equal x y (nat_cmp x y) (ranks x y) e

greater : (x y : ℕ) → y < x → nat_cmp x y ≡ Greater
greater x y l = is_greater x y (nat_cmp x y) (ranks x y) l

-- what is greater in front is greater as a number
rises : (n a b : ℕ) (us vs : List ℕ) → n ≤ length us → n ≤ length vs → AreBytes us → a < b → big_endian a (take n us) < big_endian b (take n vs)
rises zero a b us vs p q h l = l
rises (suc n) a b [] vs p q h l = absurd (omega arith)
rises (suc n) a b (u ∷ us) [] p q h l = absurd (omega arith)
rises (suc n) a b (u ∷ us) (v ∷ vs) p q h l =
    let small : u < 256 = h 0 in
    rises n (a * 256 + u) (b * 256 + v) us vs (omega arith) (omega arith) (λ k. h (suc k)) (omega arith)

-- the first n bytes compare as numbers, and then what is behind them
pub settled : (n a : ℕ) (us vs : List ℕ) → n ≤ length us → n ≤ length vs → AreBytes us → AreBytes vs
    → order us vs ≡ ordering_then (nat_cmp (big_endian a (take n us)) (big_endian a (take n vs))) (order (drop n us) (drop n vs))
settled zero a us vs p q g h = sym (ap (λ r. ordering_then r (order us vs)) (equal a a refl))
settled (suc n) a [] vs p q g h = absurd (omega arith)
settled (suc n) a (u ∷ us) [] p q g h = absurd (omega arith)
settled (suc n) a (u ∷ us) (v ∷ vs) p q g h =
    by (settled n (a * 256 + u) us vs (omega arith) (omega arith) (λ k. g (suc k)) (λ k. h (suc k))) (nat_cmp u v) refl (ranks u v)
  where
    by : order us vs ≡ ordering_then (nat_cmp (big_endian (a * 256 + u) (take n us)) (big_endian (a * 256 + u) (take n vs))) (order (drop n us) (drop n vs))
        → (r : Ordering) → nat_cmp u v ≡ r → MatchOrdering r (u < v) (u ≡ v) (v < u)
        → order (u ∷ us) (v ∷ vs) ≡ ordering_then (nat_cmp (big_endian (a * 256 + u) (take n us)) (big_endian (a * 256 + v) (take n vs))) (order (drop n us) (drop n vs))
    by rest Less e l =
        let under : u < v = l in
        let t = rises n (a * 256 + u) (a * 256 + v) us vs (omega arith) (omega arith) (λ k. g (suc k)) (omega arith) in
        ap (λ r. ordering_then r (order us vs)) e ∙ sym (ap (λ r. ordering_then r (order (drop n us) (drop n vs))) (less (big_endian (a * 256 + u) (take n us)) (big_endian (a * 256 + v) (take n vs)) t))
    by rest Greater e l =
        let over : v < u = l in
        let t = rises n (a * 256 + v) (a * 256 + u) vs us (omega arith) (omega arith) (λ k. h (suc k)) (omega arith) in
        ap (λ r. ordering_then r (order us vs)) e ∙ sym (ap (λ r. ordering_then r (order (drop n us) (drop n vs))) (greater (big_endian (a * 256 + u) (take n us)) (big_endian (a * 256 + v) (take n vs)) t))
    by rest Equal e l =
        let level : u ≡ v = l in
        ap (λ r. ordering_then r (order us vs)) e
        ∙ rest
        ∙ ap (λ z. ordering_then (nat_cmp (big_endian (a * 256 + u) (take n us)) (big_endian (a * 256 + z) (take n vs))) (order (drop n us) (drop n vs))) level

-- where the first m bytes are the same number, what is behind any n of them decides
pub passed : (n m a : ℕ) (us vs : List ℕ) → n ≤ m → m ≤ length us → m ≤ length vs → AreBytes us → AreBytes vs
    → big_endian a (take m us) ≡ big_endian a (take m vs) → order us vs ≡ order (drop n us) (drop n vs)
passed zero m a us vs le p q g h e = refl
passed (suc n) zero a us vs le p q g h e = absurd (omega arith)
passed (suc n) (suc m) a [] vs le p q g h e = absurd (omega arith)
passed (suc n) (suc m) a (u ∷ us) [] le p q g h e = absurd (omega arith)
passed (suc n) (suc m) a (u ∷ us) (v ∷ vs) le p q g h e =
    by (λ same. passed n m (a * 256 + u) us vs (omega arith) (omega arith) (omega arith) (λ k. g (suc k)) (λ k. h (suc k)) same) (nat_cmp u v) refl (ranks u v)
  where
    by : (big_endian (a * 256 + u) (take m us) ≡ big_endian (a * 256 + u) (take m vs) → order us vs ≡ order (drop n us) (drop n vs))
        → (r : Ordering) → nat_cmp u v ≡ r → MatchOrdering r (u < v) (u ≡ v) (v < u) → order (u ∷ us) (v ∷ vs) ≡ order (drop n us) (drop n vs)
    by rest Less d l =
        let under : u < v = l in
        let t = rises m (a * 256 + u) (a * 256 + v) us vs (omega arith) (omega arith) (λ k. g (suc k)) (omega arith) in
        absurd (omega (arith, e))
    by rest Greater d l =
        let over : v < u = l in
        let t = rises m (a * 256 + v) (a * 256 + u) vs us (omega arith) (omega arith) (λ k. h (suc k)) (omega arith) in
        absurd (omega (arith, e))
    by rest Equal d l =
        let level : u ≡ v = l in
        ap (λ r. ordering_then r (order us vs)) d
        ∙ rest
        (e ∙ ap (λ z. big_endian (a * 256 + z) (take m vs)) (sym level))

-- numbers that differ decide
pub decided : (x y : ℕ) (o : Ordering) → x ≢ y → ordering_then (nat_cmp x y) o ≡ nat_cmp x y
decided x y o ne = by (nat_cmp x y) (ranks x y)
  where
    by : (r : Ordering) → MatchOrdering r (x < y) (x ≡ y) (y < x) → ordering_then r o ≡ r
    by Less l = refl
    by Greater l = refl
    by Equal l = absurd (ne l)

-- where nothing is behind them, numbers decide
pub decided_last : (r : Ordering) → ordering_then r Equal ≡ r
decided_last Less = refl
decided_last Equal = refl
decided_last Greater = refl

-- bytes from a place on are bytes
bytes_behind : (i : ℕ) (xs : List ℕ) → AreBytes xs → AreBytes (drop i xs)
bytes_behind i xs g k = subst (λ n. n < 256) (sym (get_or-drop i xs k 0)) (g (i + k))

-- two byte strings, compared n bytes at a time
module _ (n : ℕ) (xs ys : List ℕ) (g : AreBytes xs) (h : AreBytes ys) where
  -- what is from a place on compares as its first bytes do, and then as what is behind them
  at_word : (i x y : ℕ) → i + n ≤ length xs → i + n ≤ length ys → x ≡ big_endian 0 (take n (drop i xs)) → y ≡ big_endian 0 (take n (drop i ys))
      → order (drop i xs) (drop i ys) ≡ ordering_then (nat_cmp x y) (order (drop n (drop i xs)) (drop n (drop i ys)))
  at_word i x y p q ex ey =
      rw (ex, ey) (settled n 0 (drop i xs) (drop i ys) (omega (arith, length-drop i xs)) (omega (arith, length-drop i ys)) (bytes_behind i xs g) (bytes_behind i ys h))

  -- numbers that differ decide
  pub order_by : (i x y : ℕ) → i + n ≤ length xs → i + n ≤ length ys → order xs ys ≡ order (drop i xs) (drop i ys)
      → x ≡ big_endian 0 (take n (drop i xs)) → y ≡ big_endian 0 (take n (drop i ys)) → x ≢ y → nat_cmp x y ≡ order xs ys
  order_by i x y p q e ex ey ne =
      sym (e ∙ at_word i x y p q ex ey ∙ decided x y (order (drop n (drop i xs)) (drop n (drop i ys))) ne)

  -- the last numbers decide
  pub order_at_end : (i x y : ℕ) → i + n ≡ length xs → length xs ≡ length ys → order xs ys ≡ order (drop i xs) (drop i ys)
      → x ≡ big_endian 0 (take n (drop i xs)) → y ≡ big_endian 0 (take n (drop i ys)) → nat_cmp x y ≡ order xs ys
  order_at_end i x y p q e ex ey =
      let none = λ (zs : List ℕ) (l : length zs ≡ i + n). drop_all n (drop i zs) (omega (arith, length-drop i zs)) in
      let rest : order (drop n (drop i xs)) (drop n (drop i ys)) ≡ Equal = rw (none xs (sym p), none ys (omega arith)) refl in
      sym (e ∙ at_word i x y (omega arith) (omega arith) ex ey ∙ ap (ordering_then (nat_cmp x y)) rest ∙ decided_last (nat_cmp x y))

  -- where numbers are the same, what is from a later place on decides
  pub passed_on : (i j x y : ℕ) → i ≤ j → j ≤ i + n → i + n ≤ length xs → i + n ≤ length ys → order xs ys ≡ order (drop i xs) (drop i ys)
      → x ≡ big_endian 0 (take n (drop i xs)) → y ≡ big_endian 0 (take n (drop i ys)) → x ≡ y → order xs ys ≡ order (drop j xs) (drop j ys)
  passed_on i j x y le lt p q e ex ey same =
      let t = passed (j - i) n 0 (drop i xs) (drop i ys) (omega arith) (omega (arith, length-drop i xs)) (omega (arith, length-drop i ys)) (bytes_behind i xs g) (bytes_behind i ys h) (sym ex ∙ same ∙ ey) in
      let there : i + (j - i) ≡ j = omega arith in
      let moved = λ (zs : List ℕ). (drop-drop (j - i) i zs ∙ ap (λ k. drop k zs) there) in
      e ∙ t ∙ rw (moved xs, moved ys) refl
