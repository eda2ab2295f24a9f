-- A list that is made of parts of one length: part j of length c is `take c (drop (j * c) xs)`.
use Rattle.std.proofs.Common.{◌≡◌, ◌<◌, ◌≤◌, ◌+◌, ◌-◌, ◌*◌, ℕ, zero, suc, List, [], ◌∷◌, ◌++◌, length, take, drop, replicate, get_or, set, refl, ap, sym, ◌∙◌, inl, inr, arith, length-append}
use Rattle.std.specs.List.{flat_map, range_with_len}
use Rattle.std.proofs.Math.Nat.{mul-le-mul_right}
use Rattle.std.proofs.Math.Seq.{take-set-lt}
use Rattle.std.proofs.lemmas.Bool.{cases_lt}
use Rattle.std.proofs.lemmas.List.{drop-drop, drop-replicate, drop-set-add, drop-set-lt, drop-take, drop_at, get_or-drop, get_or-take, length-drop, length-take, take-append-drop, take-replicate, take-set-le, take-take, take_at}

module _ {X : Type 0} (c : ℕ) where
  -- part j
  abbrev pub part : ℕ → List X → List X
  part j xs = take c (drop (j * c) xs)

  -- ---- a list from its parts

  pub length-parts : (f : ℕ → List X) (a n : ℕ) → ((i : ℕ) → length (f i) ≡ c) → length (flat_map f (range_with_len a n)) ≡ n * c
  length-parts f a zero each = omega arith
  length-parts f a (suc n) each =
      omega (arith, length-append (f a) (flat_map f (range_with_len (a + 1) n)), each a, length-parts f (a + 1) n each)

  pub part-parts : (f : ℕ → List X) (a n j : ℕ) → ((i : ℕ) → length (f i) ≡ c) → j < n → part j (flat_map f (range_with_len a n)) ≡ f (a + j)
  part-parts f a zero j each below = absurd (omega arith)
  part-parts f a (suc n) zero each below =
      let rest : List X = flat_map f (range_with_len (a + 1) n) in
      let none : zero * c ≡ 0 = omega arith in
      let here : a ≡ a + zero = omega arith in
      ap (λ k. take c (drop k (f a ++ rest))) none ∙ (take_at (f a) rest c (each a) ∙ ap f here)
  part-parts f a (suc n) (suc j) each below =
      let rest : List X = flat_map f (range_with_len (a + 1) n) in
      let more : suc j * c ≡ c + j * c = omega arith in
      let next : a + 1 + j ≡ a + suc j = omega arith in
      ap (λ k. take c (drop k (f a ++ rest))) more
      ∙ (ap (take c) (sym (drop-drop (j * c) c (f a ++ rest)))
      ∙ (ap (λ l. take c (drop (j * c) l)) (drop_at (f a) rest c (each a))
      ∙ (part-parts f (a + 1) n j each (omega arith) ∙ ap f next)))

  pub parts-part : (f : ℕ → List X) (a n : ℕ) (xs : List X) → length xs ≡ n * c → ((j : ℕ) → j < n → f (a + j) ≡ part j xs) → flat_map f (range_with_len a n) ≡ xs
  parts-part f a zero [] long each = refl
  parts-part f a zero (x ∷ xs) long each = absurd (omega arith)
  parts-part f a (suc n) xs long each =
      let here : a + 0 ≡ a = omega arith in
      let none : 0 * c ≡ 0 = omega arith in
      let first : f a ≡ take c xs = ap f (sym here) ∙ (each 0 (omega arith) ∙ ap (λ k. take c (drop k xs)) none) in
      let rest : flat_map f (range_with_len (a + 1) n) ≡ drop c xs =
      parts-part f (a + 1) n (drop c xs) (omega (arith, length-drop c xs, long)) (λ j below.
      let next : a + 1 + j ≡ a + suc j = omega arith in
      let more : c + j * c ≡ suc j * c = omega arith in
      ap f next ∙ (each (suc j) (omega arith) ∙ (ap (λ k. take c (drop k xs)) (sym more) ∙ ap (take c) (sym (drop-drop (j * c) c xs))))) in
      ap (λ l. l ++ flat_map f (range_with_len (a + 1) n)) first ∙ (ap (λ l. take c xs ++ l) rest ∙ take-append-drop c xs)

  -- ---- parts of a list

  -- a part that the list has whole
  pub length-part : (n j : ℕ) (xs : List X) → length xs ≡ n * c → j < n → length (part j xs) ≡ c
  length-part n j xs long below =
      let most : (j + 1) * c ≤ n * c = let next : j + 1 ≤ n = omega arith in mul-le-mul_right c next in
      omega (arith, length-take c (drop (j * c) xs), length-drop (j * c) xs, most, long)

  -- a place in a part
  pub get_or-part : (j k : ℕ) (xs : List X) (d : X) → k < c → get_or (part j xs) k d ≡ get_or xs (j * c + k) d
  get_or-part j k xs d below = get_or-take c (drop (j * c) xs) k d below ∙ get_or-drop (j * c) xs k d

  -- ---- one place changed

  pub part-set : (j k : ℕ) (xs : List X) (y : X) → k < c → part j (set xs (j * c + k) y) ≡ set (part j xs) k y
  part-set j k xs y below = ap (take c) (drop-set-add (j * c) xs k y) ∙ take-set-lt c (drop (j * c) xs) k y below

  pub part-set_other : (i j k : ℕ) (xs : List X) (y : X) → (i ≡ j → ⊥) → k < c → part i (set xs (j * c + k) y) ≡ part i xs
  part-set_other i j k xs y other below = elim (cases_lt i j) [
    | inl before ↦
        let end : (i + 1) * c ≤ j * c = let next : i + 1 ≤ j = omega arith in mul-le-mul_right c next in
        sym (drop-take (i * c) c (set xs (j * c + k) y))
        ∙ (ap (drop (i * c)) (take-set-le (i * c + c) xs (j * c + k) y (omega (arith, end))) ∙ drop-take (i * c) c xs)
    | inr behind ↦
        let end : (j + 1) * c ≤ i * c = let next : j + 1 ≤ i = omega (arith, other) in mul-le-mul_right c next in
        ap (take c) (drop-set-lt (i * c) xs (j * c + k) y (omega (arith, end)))
  ]

  -- ---- all the same

  pub part-replicate : (n j : ℕ) (x : X) → j < n → part j (replicate (n * c) x) ≡ replicate c x
  part-replicate n j x below =
      let most : (j + 1) * c ≤ n * c = let next : j + 1 ≤ n = omega arith in mul-le-mul_right c next in
      ap (take c) (drop-replicate (j * c) (n * c) x) ∙ take-replicate c (n * c - j * c) x (omega (arith, most))

  -- ---- the first parts

  -- one part more
  pub take-parts : (j : ℕ) (xs : List X) → take ((j + 1) * c) xs ≡ take (j * c) xs ++ part j xs
  take-parts j xs =
      let more : (j + 1) * c ≡ j * c + c = omega arith in
      ap (λ k. take k xs) more ∙ (sym (take-append-drop (j * c) (take (j * c + c) xs))
      ∙ (ap (λ l. l ++ drop (j * c) (take (j * c + c) xs)) (take-short (j * c) c xs) ∙ ap (λ l. take (j * c) xs ++ l) (drop-take (j * c) c xs)))
    where
      take-short : (a b : ℕ) (l : List X) → take a (take (a + b) l) ≡ take a l
      take-short a b l = take-take a (a + b) l (omega arith)
