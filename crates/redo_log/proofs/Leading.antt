-- Gates that stand open before the first that doesn't.
use Rattle.std.proofs.Common.{◌≡◌, ◌≢◌, ◌⊎◌, ◌≤◌, ◌<◌, ◌+◌, ◌-◌, ℕ, zero, suc, List, [], ◌∷◌, ◌++◌, length, get_or, take, drop, replicate, min, arith, refl, ap, ◌∙◌, sym, inl, inr, length-append}
use Rattle.std.proofs.lemmas.Bool.{cases_eq, cases_lt, eq-eqb, ne_eqb}
use Rattle.std.proofs.lemmas.List.{length-take, length-drop, get_or-take, get_or-drop, get_or_past, get_or_append_left, get_or-append_right}
use Rattle.redo_log.specs.Layout.{leading, gates_in, records_in, AreGates, HasRecords, NoneFrom}

-- the first gate stands open or it doesn't
leading_cases : (x : ℕ) (xs : List ℕ) → ((x ≡ 79) × (leading (x ∷ xs) ≡ suc (leading xs))) ⊎ ((x ≢ 79) × (leading (x ∷ xs) ≡ 0))
leading_cases x xs = elim (cases_eq x 79) [
  | inl same ↦ inl (same, rw (eq-eqb x 79 same) refl)
  | inr other ↦ inr (other, rw (ne_eqb x 79 other) refl)
]

-- so many, where these stand open and the next doesn't
pub leading_is : (xs : List ℕ) (n : ℕ) → n ≤ length xs → ((k : ℕ) → k < n → get_or xs k 0 ≡ 79) → (n < length xs → get_or xs n 0 ≢ 79) → leading xs ≡ n
leading_is [] n le opened stops = omega arith
leading_is (x ∷ xs) zero le opened stops = rw (ne_eqb x 79 (stops (omega arith))) refl
leading_is (x ∷ xs) (suc n) le opened stops =
    rw (eq-eqb x 79 (opened 0 (omega arith))) (ap suc (leading_is xs n (omega arith) (λ k lt. opened (suc k) (omega arith)) (λ lt. stops (omega arith))))

-- no more than there are
pub leading_most : (xs : List ℕ) → leading xs ≤ length xs
leading_most [] = omega arith
leading_most (x ∷ xs) = let rest = leading_most xs in elim (leading_cases x xs) [ inl here ↦ omega (arith, here.1) | inr gone ↦ omega (arith, gone.1) ]

-- each of them stands open
pub leading_opened : (xs : List ℕ) (k : ℕ) → k < leading xs → get_or xs k 0 ≡ 79
leading_opened [] k lt = absurd (omega arith)
leading_opened (x ∷ xs) zero lt = elim (leading_cases x xs) [ inl here ↦ here.0 | inr gone ↦ absurd (omega (arith, gone.1)) ]
leading_opened (x ∷ xs) (suc k) lt = elim (leading_cases x xs) [ inl here ↦ leading_opened xs k (omega (arith, here.1)) | inr gone ↦ absurd (omega (arith, gone.1)) ]

-- the next doesn't
pub leading_stops : (xs : List ℕ) (n : ℕ) → leading xs ≡ n → n < length xs → get_or xs n 0 ≢ 79
leading_stops [] n is lt = absurd (omega arith)
leading_stops (x ∷ xs) zero is lt = elim (leading_cases x xs) [ inl here ↦ absurd (omega (arith, here.1)) | inr gone ↦ gone.0 ]
leading_stops (x ∷ xs) (suc n) is lt = elim (leading_cases x xs) [ inl here ↦ leading_stops xs n (omega (arith, here.1)) (omega arith) | inr gone ↦ absurd (omega (arith, gone.1)) ]

-- there are at most 32 gates
length-gates : (file : List ℕ) → length (gates_in file) ≤ 32
length-gates file = omega (arith, length-take 32 (drop 2048 file))

-- a gate is its byte in the file
pub gate_at : (file : List ℕ) (k : ℕ) → k < 32 → get_or (gates_in file) k 0 ≡ get_or file (2048 + k) 0
gate_at file k lt = get_or-take 32 (drop 2048 file) k 0 lt ∙ get_or-drop 2048 file k 0

-- the file has the gates of the records that count
gates_reach : (n : ℕ) (file : List ℕ) → HasRecords n file → n ≤ length (gates_in file)
gates_reach zero file has = omega arith
gates_reach (suc m) file has = elim (cases_lt m (length (gates_in file))) [
  | inl there ↦ omega arith
  | inr past ↦ (let none : get_or (gates_in file) m 0 ≡ 0 = get_or_past (gates_in file) m 0 past in
      let opened : get_or (gates_in file) m 0 ≡ 79 = gate_at file m (omega (arith, has.most)) ∙ has.opened m (omega arith) in omega arith)
]

-- so many records count, where their gates are open and the next isn't
pub is_records : {n : ℕ} {file : List ℕ} → HasRecords n file → records_in file ≡ n
is_records {n} {file} has =
    leading_is (gates_in file) n (gates_reach n file has)
    (λ k lt. gate_at file k (omega (arith, has.most)) ∙ has.opened k lt)
    (λ lt. let less : n < 32 = omega (arith, length-gates file) in λ same. has.stops less (sym (gate_at file n less) ∙ same))

-- so many do in each file
pub has_records : (file : List ℕ) → HasRecords (records_in file) file
has_records file = record {
  most = omega (arith, leading_most (gates_in file), length-gates file);
  opened = λ k lt. sym (gate_at file k (omega (arith, leading_most (gates_in file), length-gates file))) ∙ leading_opened (gates_in file) k lt;
  stops = λ lt same. elim (cases_lt (records_in file) (length (gates_in file))) [
    | inl there ↦ leading_stops (gates_in file) (records_in file) refl there (gate_at file (records_in file) lt ∙ same)
    | inr past ↦ (let none : get_or (gates_in file) (records_in file) 0 ≡ 0 = get_or_past (gates_in file) (records_in file) 0 past in
        let opened : get_or (gates_in file) (records_in file) 0 ≡ 79 = gate_at file (records_in file) lt ∙ same in omega arith)
  ];
}

-- so it is by gates that were read
pub has_read : (n : ℕ) (gates file : List ℕ) → AreGates gates file → n ≡ leading gates → HasRecords n file
has_read n gates file are count = record {
  most = omega (arith, leading_most gates, are.size);
  opened = λ k lt. sym (are.each k (omega (arith, leading_most gates, are.size))) ∙ leading_opened gates k (omega arith);
  stops = λ lt same. leading_stops gates n (sym count) (omega (arith, are.size)) (are.each n lt ∙ same);
}

-- where no gate from the nth on is open, and all below it are, n records count
pub none_from_stops : {n : ℕ} {file : List ℕ} → n ≤ 32 → ((k : ℕ) → k < n → get_or file (2048 + k) 0 ≡ 79) → NoneFrom n file → HasRecords n file
none_from_stops {n} {file} most opened none = record { most = most; opened = opened; stops = λ lt. none.shut n (omega arith) lt }

-- zeros are zero
pub zero_at : (n i : ℕ) → ◌≡◌ {A = ℕ} (get_or (replicate n 0) i 0) 0
zero_at zero i = refl
zero_at (suc n) zero = refl
zero_at (suc n) (suc i) = zero_at n i

-- behind the bytes that were read there are zeros
pub zeros_behind : (there : ℕ) (part : List ℕ) (k : ℕ) → length part ≡ there → there ≤ k → get_or (part ++ drop there (replicate 32 0)) k 0 ≡ 0
zeros_behind there part k size high =
    get_or-append_right part (drop there (replicate 32 0)) there k 0 size high ∙ (get_or-drop there (replicate 32 0) (k - there) 0 ∙ zero_at 32 (there + (k - there)))

-- the gates that were read, in a file that may end before them
pub gates_are : (size there : ℕ) (part gates file : List ℕ) → size ≡ length file → there ≡ min (size - 2048) 32 → part ≡ take there (drop 2048 file) → gates ≡ part ++ drop there (replicate 32 0) → AreGates gates file
gates_are size there part gates file size_is there_is part_is is =
    let part_size : length part ≡ there = omega (arith, ap length part_is, length-take there (drop 2048 file), length-drop 2048 file) in
    let rest_size : length (drop there (replicate {A = ℕ} 32 0)) ≡ 32 - there = length-drop there (replicate {A = ℕ} 32 0) in
    record {
      size = omega (arith, ap length is, length-append part (drop there (replicate {A = ℕ} 32 0)));
      each = λ k lt. ap (λ xs. get_or xs k 0) is ∙ elim (cases_lt k there) [
        | inl low ↦ get_or_append_left part (drop there (replicate 32 0)) 0 k (omega arith) ∙ (ap (λ xs. get_or xs k 0) part_is ∙ (get_or-take there (drop 2048 file) k 0 low ∙ get_or-drop 2048 file k 0))
        | inr high ↦ zeros_behind there part k part_size high ∙ sym (get_or_past file (2048 + k) 0 (omega arith))
      ];
    }
