-- How many blocks rows need, where there are more of them.
use Rattle.std.proofs.Common.{◌≡◌, ◌<◌, ◌≤◌, ◌+◌, ◌*◌, ℕ, zero, suc, Bool, true, false, cond, not, List, [], ◌∷◌, ◌++◌, length, refl, ap, arith, sym, ◌∙◌, ◌⊎◌, inl, inr}
use Rattle.std.specs.Prelude.{count_by, filter, sum_by}
use Rattle.std.specs.Int.{div_ceil}
use Rattle.std.specs.List.{AllByRecursion}
use Rattle.std.specs.Str.{bytes_eq}
use Rattle.std.proofs.lemmas.Bool.{cases_lt}
use Rattle.std.proofs.lemmas.Grind.{div_ceil_times}
use Rattle.std.proofs.lemmas.List.Sums.{sum_by-cons, sum_by-le-sum_by}
use Rattle.std.proofs.lemmas.Slice.Eq.{bytes_eq-Decides}
use Rattle.mdc_words.specs.ByteOrder.{Entry}
use Rattle.mdc_ast.specs.declared.definition.TableDef.{TableDef}
use Rattle.mdc_ast.specs.declared.row.Row.{Row}
use Rattle.mdc_sound.specs.TightPages.{blocks_needed, cells_of_rows, key_of_cell, rows_of_cell}
use Rattle.table_trees.proofs.PlaceCountsLemmas.{one_if}
use Rattle.tight_space.proofs.SpaceCountsLemmas.{mul_mono}

-- ---- rounded up

div_ceil-zero : (n : ℕ) → 0 < n → div_ceil 0 n ≡ 0
div_ceil-zero n some = elim (cases_lt 0 (div_ceil 0 n)) [
  | inr none ↦ omega (arith, none)
  | inl more ↦ (
      let high = (div_ceil_times 0 n some).1 in
      let one : n * 1 ≤ n * div_ceil 0 n = mul_mono n 1 (div_ceil 0 n) more in
      let turned : n * div_ceil 0 n ≡ div_ceil 0 n * n = omega arith in
      let same : n * 1 ≡ n = omega arith in
      absurd (omega (arith, high, one, turned, same)))
]

-- where so many are too few by one at least
ceil_over : (n a k : ℕ) → 0 < n → k * n < a → k + 1 ≤ div_ceil a n
ceil_over n a k some less = elim (cases_lt k (div_ceil a n)) [
  | inl fine ↦ omega (arith, fine)
  | inr few ↦ (
      let low = (div_ceil_times a n some).0 in
      let most : n * div_ceil a n ≤ n * k = mul_mono n (div_ceil a n) k few in
      let turned : n * div_ceil a n ≡ div_ceil a n * n = omega arith in
      let same : n * k ≡ k * n = omega arith in
      absurd (omega (arith, low, most, turned, same, less)))
]

-- a whole block more
ceil_whole : (n a : ℕ) → 0 < n → div_ceil a n + 1 ≤ div_ceil (a + n) n
ceil_whole n a some = go (div_ceil a n) refl
  where
    go : (c : ℕ) → div_ceil a n ≡ c → div_ceil a n + 1 ≤ div_ceil (a + n) n
    go zero e = omega (arith, e, ceil_over n (a + n) 0 some (omega (arith, some)))
    go (suc c) e =
        let high = (div_ceil_times a n some).1 in
        let is : div_ceil a n * n ≡ suc c * n = ap (λ k. k * n) e in
        let product : suc c * n ≡ c * n + n = omega arith in
        omega (arith, e, ceil_over n (a + n) (suc c) some (omega (arith, high, is, product)))

-- a row more than whole blocks
ceil_more : (n a m r : ℕ) → 0 < n → a ≡ m * n → 0 < r → div_ceil a n + 1 ≤ div_ceil (a + r) n
ceil_more n a m r some whole more =
    let over : m + 1 ≤ div_ceil (a + r) n = ceil_over n (a + r) m some (omega (arith, whole, more)) in
    elim (cases_lt m (div_ceil a n)) [
      | inr fine ↦ omega (arith, fine, over)
      | inl less ↦ (
          let high = (div_ceil_times a n some).1 in
          let most : n * (m + 1) ≤ n * div_ceil a n = mul_mono n (m + 1) (div_ceil a n) (omega (arith, less)) in
          let turned : n * div_ceil a n ≡ div_ceil a n * n = omega arith in
          let same : n * (m + 1) ≡ m * n + n = omega arith in
          absurd (omega (arith, high, most, turned, same, whole)))
    ]

-- more is rounded up to no less
pub ceil_mono : (n a b : ℕ) → 0 < n → a ≤ b → div_ceil a n ≤ div_ceil b n
ceil_mono n a b some le = elim (cases_lt (div_ceil b n) (div_ceil a n)) [
  | inr fine ↦ fine
  | inl less ↦ (
      let low = div_ceil_times a n some in
      let high = div_ceil_times b n some in
      let more : n * (div_ceil b n + 1) ≤ n * div_ceil a n = mul_mono n (div_ceil b n + 1) (div_ceil a n) (omega (arith, less)) in
      let product : n * (div_ceil b n + 1) ≡ div_ceil b n * n + n = omega arith in
      let turned : n * div_ceil a n ≡ div_ceil a n * n = omega arith in
      absurd (omega (arith, low.1, high.0, more, product, turned, le)))
]

-- ---- keys

-- how often a key stands in a list
abbrev pub occurs : Entry → List Entry → ℕ
occurs k keys = count_by (λ key. bytes_eq key k) keys

-- no key stands twice
abbrev AllOnce : List Entry → Type 0
AllOnce keys = (k : Entry) → occurs k keys ≤ 1

-- the keys that aren't this one
abbrev other_keys : Entry → List Entry → List Entry
other_keys c keys = filter (λ key. not (bytes_eq key c)) keys

pub same_bytes : (a b : Entry) → bytes_eq a b ≡ true → a ≡ b
same_bytes a b e = (bytes_eq-Decides a b).0 e

pub bytes_same : (a b : Entry) → a ≡ b → bytes_eq a b ≡ true
bytes_same a b e = (bytes_eq-Decides a b).1 e

bytes_turned : (a b : Entry) → bytes_eq a b ≡ false → bytes_eq b a ≡ false
bytes_turned a b e = go (bytes_eq b a) refl
  where
    go : (t : Bool) → bytes_eq b a ≡ t → bytes_eq b a ≡ false
    go false is = is
    go true is = let wrong = bytes_same a b (sym (same_bytes b a is)) in absurd (cc (wrong, e))

occurs-cons : (k key : Entry) (keys : List Entry) → occurs k (key ∷ keys) ≡ cond (bytes_eq key k) 1 0 + occurs k keys
occurs-cons k key keys = sum_by-cons (λ one. cond (bytes_eq one k) 1 0) key keys

-- the key itself isn't among the others, and others stand there as often
occurs_gone : (c : Entry) (keys : List Entry) → occurs c (other_keys c keys) ≡ 0
occurs_gone c [] = refl
occurs_gone c (key ∷ keys) = go (bytes_eq key c) refl (occurs_gone c keys)
  where
    go : (b : Bool) → bytes_eq key c ≡ b → occurs c (other_keys c keys) ≡ 0 → occurs c (cond (not b) (key ∷ other_keys c keys) (other_keys c keys)) ≡ 0
    go true e rest = rest
    go false e rest = omega (arith, rest, occurs-cons c key (other_keys c keys), ap one_if e)

occurs_other : (c k : Entry) (keys : List Entry) → bytes_eq c k ≡ false → occurs k (other_keys c keys) ≡ occurs k keys
occurs_other c k [] apart = refl
occurs_other c k (key ∷ keys) apart = go (bytes_eq key c) refl (occurs_other c k keys apart)
  where
    go : (b : Bool) → bytes_eq key c ≡ b → occurs k (other_keys c keys) ≡ occurs k keys → occurs k (cond (not b) (key ∷ other_keys c keys) (other_keys c keys)) ≡ occurs k (key ∷ keys)
    go true e rest = omega (arith, rest, occurs-cons k key keys, ap (λ (z : Entry). one_if (bytes_eq z k)) (same_bytes key c e), ap one_if apart)
    go false e rest = omega (arith, rest, occurs-cons k key keys, occurs-cons k key (other_keys c keys))

-- each cell's key stands once
cells_once : (def : TableDef) (rows : List Row) → AllOnce (cells_of_rows def rows)
cells_once def [] k = omega arith
cells_once def (row ∷ rows) k = go (bytes_eq (key_of_cell def row) k) refl (cells_once def rows k)
  where
    go : (b : Bool) → bytes_eq (key_of_cell def row) k ≡ b → occurs k (cells_of_rows def rows) ≤ 1 → occurs k (cells_of_rows def (row ∷ rows)) ≤ 1
    go true e rest =
        omega (
          arith,
          occurs-cons k (key_of_cell def row) (other_keys (key_of_cell def row) (cells_of_rows def rows)),
          occurs_gone (key_of_cell def row) (cells_of_rows def rows),
          ap (λ (z : Entry). occurs z (other_keys (key_of_cell def row) (cells_of_rows def rows))) (same_bytes (key_of_cell def row) k e),
          ap one_if e,
        )
    go false e rest =
        omega (
          arith,
          rest,
          occurs-cons k (key_of_cell def row) (other_keys (key_of_cell def row) (cells_of_rows def rows)),
          occurs_other (key_of_cell def row) k (cells_of_rows def rows) e,
          ap one_if e,
        )

pub rows_of_cell-cons : (def : TableDef) (k : Entry) (row : Row) (rows : List Row) → rows_of_cell def k (row ∷ rows) ≡ cond (bytes_eq (key_of_cell def row) k) 1 0 + rows_of_cell def k rows
rows_of_cell-cons def k row rows = sum_by-cons (λ (one : Row). cond (bytes_eq (key_of_cell def one) k) 1 0) row rows

-- and a cell that isn't listed has no row
cells_all : (def : TableDef) (k : Entry) (rows : List Row) → occurs k (cells_of_rows def rows) ≡ 0 → rows_of_cell def k rows ≡ 0
cells_all def k [] none = refl
cells_all def k (row ∷ rows) none = go (bytes_eq (key_of_cell def row) k) refl (cells_all def k rows)
  where
    go : (b : Bool) → bytes_eq (key_of_cell def row) k ≡ b → (occurs k (cells_of_rows def rows) ≡ 0 → rows_of_cell def k rows ≡ 0) → rows_of_cell def k (row ∷ rows) ≡ 0
    go true e rest = absurd (omega (arith, none, occurs-cons k (key_of_cell def row) (other_keys (key_of_cell def row) (cells_of_rows def rows)), ap one_if e))
    go false e rest =
        omega (
          arith,
          rest
              (omega (
                arith,
                none,
                occurs-cons k (key_of_cell def row) (other_keys (key_of_cell def row) (cells_of_rows def rows)),
                occurs_other (key_of_cell def row) k (cells_of_rows def rows) e,
              )),
          rows_of_cell-cons def k row rows,
          ap one_if e,
        )

-- ---- sums over keys

module _ (f : Entry → ℕ) where
  sum_none : (keys : List Entry) → ((k : Entry) → f k ≡ 0) → sum_by f keys ≡ 0
  sum_none [] none = refl
  sum_none (k ∷ keys) none = omega (arith, none k, sum_none keys none, sum_by-cons f k keys)

  -- one key apart
  sum_apart : (c : Entry) (keys : List Entry) → sum_by f keys ≤ occurs c keys * f c + sum_by f (other_keys c keys)
  sum_apart c [] = omega arith
  sum_apart c (key ∷ keys) = go (bytes_eq key c) refl (sum_apart c keys)
    where
      go : (b : Bool) → bytes_eq key c ≡ b → sum_by f keys ≤ occurs c keys * f c + sum_by f (other_keys c keys)
          → sum_by f (key ∷ keys) ≤ occurs c (key ∷ keys) * f c + sum_by f (cond (not b) (key ∷ other_keys c keys) (other_keys c keys))
      go true e rest =
          let count : occurs c (key ∷ keys) ≡ 1 + occurs c keys = occurs-cons c key keys ∙ ap (λ b. cond b 1 0 + occurs c keys) e in
          let product : occurs c (key ∷ keys) * f c ≡ f c + occurs c keys * f c = ap (λ n. n * f c) count ∙ omega arith in
          omega (arith, rest, product, sum_by-cons f key keys, ap f (same_bytes key c e))
      go false e rest =
          let count : occurs c (key ∷ keys) ≡ occurs c keys = occurs-cons c key keys ∙ (ap (λ b. cond b 1 0 + occurs c keys) e ∙ omega arith) in
          omega (arith, rest, ap (λ n. n * f c) count, sum_by-cons f key keys, sum_by-cons f key (other_keys c keys))

  -- none for one key
  abbrev without : Entry → Entry → ℕ
  without c k = cond (bytes_eq k c) 0 (f k)

  sum_without : (c : Entry) (keys : List Entry) → sum_by f keys ≤ occurs c keys * f c + sum_by (without c) keys
  sum_without c [] = omega arith
  sum_without c (key ∷ keys) = go (bytes_eq key c) refl (sum_without c keys)
    where
      go : (b : Bool) → bytes_eq key c ≡ b → sum_by f keys ≤ occurs c keys * f c + sum_by (without c) keys → sum_by f (key ∷ keys) ≤ occurs c (key ∷ keys) * f c + sum_by (without c) (key ∷ keys)
      go true e rest =
          let count : occurs c (key ∷ keys) ≡ 1 + occurs c keys = occurs-cons c key keys ∙ ap (λ b. cond b 1 0 + occurs c keys) e in
          let product : occurs c (key ∷ keys) * f c ≡ f c + occurs c keys * f c = ap (λ n. n * f c) count ∙ omega arith in
          omega (arith, rest, product, sum_by-cons f key keys, sum_by-cons (without c) key keys, ap f (same_bytes key c e))
      go false e rest =
          let count : occurs c (key ∷ keys) ≡ occurs c keys = occurs-cons c key keys ∙ (ap (λ b. cond b 1 0 + occurs c keys) e ∙ omega arith) in
          omega (arith, rest, ap (λ n. n * f c) count, sum_by-cons f key keys, sum_by-cons (without c) key keys, ap (λ b. cond b 0 (f key)) e)

-- keys that stand once give no more than others that cover them
sum_cover : (f g : Entry → ℕ) (keys cells : List Entry) → AllOnce keys → ((k : Entry) → f k ≤ g k) → ((k : Entry) → occurs k cells ≡ 0 → f k ≡ 0) → sum_by f keys ≤ sum_by g cells
sum_cover f g keys [] once le none = omega (arith, sum_none f keys (λ k. none k refl))
sum_cover f g keys (c ∷ cells) once le none =
    let rest = sum_cover (without f c) g keys cells once (λ k. less k (bytes_eq k c) refl) (λ k gone. out k (bytes_eq k c) refl gone) in
    let product : occurs c keys * f c ≤ f c = times_one (occurs c keys) (f c) (once c) in
    omega (arith, sum_without f c keys, product, rest, le c, sum_by-cons g c cells)
  where
    times_one : (n x : ℕ) → n ≤ 1 → n * x ≤ x
    times_one zero x few = omega arith
    times_one (suc zero) x few = omega arith
    times_one (suc (suc n)) x few = absurd (omega (arith, few))

    less : (k : Entry) (b : Bool) → bytes_eq k c ≡ b → without f c k ≤ g k
    less k true e = omega (arith, ap (λ t. cond t 0 (f k)) e)
    less k false e = omega (arith, ap (λ t. cond t 0 (f k)) e, le k)

    out : (k : Entry) (b : Bool) → bytes_eq k c ≡ b → occurs k cells ≡ 0 → without f c k ≡ 0
    out k true e gone = omega (arith, ap (λ t. cond t 0 (f k)) e)
    out k false e gone = omega (arith, ap (λ t. cond t 0 (f k)) e, none k (omega (arith, gone, occurs-cons k c cells, ap one_if (bytes_turned k c e))))

-- ---- blocks that rows need

-- how many blocks of n slots rows need
abbrev pub needed : TableDef → ℕ → List Row → ℕ
needed def n rows = blocks_needed n (record { def = def; rows = rows })

-- rows of which each cell has no more need no more
pub needed_le : (a b : TableDef) (n : ℕ) (xs ys : List Row) → 0 < n → ((k : Entry) → rows_of_cell a k xs ≤ rows_of_cell b k ys) → needed a n xs ≤ needed b n ys
needed_le a b n xs ys some le =
    sum_cover (λ k. div_ceil (rows_of_cell a k xs) n) (λ k. div_ceil (rows_of_cell b k ys) n) (cells_of_rows a xs) (cells_of_rows b ys) (cells_once a xs)
    (λ k. ceil_mono n (rows_of_cell a k xs) (rows_of_cell b k ys) some (le k))
    (λ k gone. (let none : rows_of_cell a k xs ≡ 0 = omega (arith, le k, cells_all b k ys gone) in ap (λ m. div_ceil m n) none ∙ div_ceil-zero n some))

module _ (def : TableDef) (n : ℕ) (some : 0 < n) where
  -- one row more
  one_more : (row : Row) (rows : List Row) → needed def n rows + div_ceil (rows_of_cell def (key_of_cell def row) rows + 1) n ≤ div_ceil (rows_of_cell def (key_of_cell def row) rows) n + needed def n (row ∷ rows)
  one_more row rows =
      let key = key_of_cell def row in
      let others = other_keys key (cells_of_rows def rows) in
      let f : Entry → ℕ = λ k. div_ceil (rows_of_cell def k rows) n in
      let g : Entry → ℕ = λ k. div_ceil (rows_of_cell def k (row ∷ rows)) n in
      let apart = sum_apart f key (cells_of_rows def rows) in
      let product : occurs key (cells_of_rows def rows) * f key ≤ f key = times_one (occurs key (cells_of_rows def rows)) (f key) (cells_once def rows key) in
      let le : sum_by f others ≤ sum_by g others = sum_by-le-sum_by f g others (λ k. ceil_mono n (rows_of_cell def k rows) (rows_of_cell def k (row ∷ rows)) some (omega (arith, rows_of_cell-cons def k row rows))) in
      let here : g key ≡ div_ceil (rows_of_cell def key rows + 1) n =
      (let count : rows_of_cell def key (row ∷ rows) ≡ rows_of_cell def key rows + 1 = omega (arith, rows_of_cell-cons def key row rows, ap one_if (bytes_same key key refl)) in ap (λ m. div_ceil m n) count) in
      omega (arith, apart, product, le, here, sum_by-cons g key others)
    where
      times_one : (k x : ℕ) → k ≤ 1 → k * x ≤ x
      times_one zero x few = omega arith
      times_one (suc zero) x few = omega arith
      times_one (suc (suc k)) x few = absurd (omega (arith, few))

  -- rows of one cell
  cell_count : (key : Entry) (xs rest : List Row) → AllByRecursion (λ row. key_of_cell def row ≡ key) xs → rows_of_cell def key (xs ++ rest) ≡ length xs + rows_of_cell def key rest
  cell_count key [] rest all = omega arith
  cell_count key (x ∷ xs) rest all =
      omega (arith, rows_of_cell-cons def key x (xs ++ rest), ap one_if (bytes_same (key_of_cell def x) key all.0), cell_count key xs rest all.1)

  many_more : (key : Entry) (xs rest : List Row) → AllByRecursion (λ row. key_of_cell def row ≡ key) xs
      → needed def n rest + div_ceil (rows_of_cell def key rest + length xs) n ≤ div_ceil (rows_of_cell def key rest) n + needed def n (xs ++ rest)
  many_more key [] rest all = (let none : rows_of_cell def key rest + 0 ≡ rows_of_cell def key rest = omega arith in omega (arith, ap (λ m. div_ceil m n) none))
  many_more key (x ∷ xs) rest all =
      let one = one_more x (xs ++ rest) in
      let c = rows_of_cell def key rest in
      let before : rows_of_cell def (key_of_cell def x) (xs ++ rest) ≡ c + length xs = ap (λ k. rows_of_cell def k (xs ++ rest)) all.0 ∙ (cell_count key xs rest all.1 ∙ omega arith) in
      let after : c + suc (length xs) ≡ rows_of_cell def (key_of_cell def x) (xs ++ rest) + 1 = omega (arith, before) in
      omega (arith, one, many_more key xs rest all.1, ap (λ m. div_ceil m n) before, ap (λ m. div_ceil m n) after)

  -- a block more, which is full or whose cell has full ones alone besides
  pub block_more : (key : Entry) (xs rest : List Row) → AllByRecursion (λ row. key_of_cell def row ≡ key) xs → 0 < length xs
      → (length xs ≡ n) ⊎ ((m : ℕ) × (rows_of_cell def key rest ≡ m * n)) → needed def n rest + 1 ≤ needed def n (xs ++ rest)
  block_more key xs rest all any kind =
      let more : div_ceil (rows_of_cell def key rest) n + 1 ≤ div_ceil (rows_of_cell def key rest + length xs) n =
      elim kind [
        | inl full ↦ (let same = ap (λ k. div_ceil (rows_of_cell def key rest + k) n) full in omega (arith, same, ceil_whole n (rows_of_cell def key rest) some))
        | inr whole ↦ ceil_more n (rows_of_cell def key rest) whole.0 (length xs) some whole.1 any
      ] in
      omega (arith, more, many_more key xs rest all)
