-- The order of the entries of a block map is that of their blocks.
use Rattle.std.proofs.Common.{◌≡◌, ◌<◌, ◌≤◌, ◌%◌, ◌^◌, ℕ, zero, suc, List, [], ◌∷◌, refl, ap, arith, sym, ◌∙◌, subst, length, replicate, inl, inr, Ordering}
use Rattle.std.specs.Prelude.{true, false}
use Rattle.std.specs.declared.cmp.Ordering.TheVariants.{Less, Greater}
use Rattle.std.specs.Ordering.{nat_cmp, is_lt, ordering_then}
use Rattle.std.specs.Cmp.Lexicographic.{slice_cmp}
use Rattle.std.proofs.Math.Nat.{mod-eq_of_lt}
use Rattle.std.proofs.lemmas.Bool.{cases_lt}
use Rattle.std.proofs.lemmas.Bool.Decides.{nat_tests}
use Rattle.byteorder.specs.Endian.{big_bytes}
use Rattle.mdc_words.specs.ByteOrder.{Entry, below}
use Rattle.key_codec.proofs.OrderLemmas.{nat_cmp-same, slice_cmp-append, slice_cmp-big_bytes}
use Rattle.entry_tree.proofs.EntryBoundsLemmas.{not_below}
use Rattle.block_map.specs.MapLines.{IsMapEntry, map_entry, map_line}
use Rattle.block_map.specs.MapRows.{row_entry, state_number}
use Rattle.block_map.specs.declared.row.BlockRow.{BlockRow}
use Rattle.block_map.proofs.MapLinesLemmas.{entry_small}

-- blocks decide before states and rows
entry_order : (a s p b u q : ℕ) → a < 2 ^ 32 → b < 2 ^ 32
    → slice_cmp nat_cmp (map_entry a s p) (map_entry b u q) ≡ ordering_then (nat_cmp a b) (slice_cmp nat_cmp (s ∷ big_bytes 2 p) (u ∷ big_bytes 2 q))
entry_order a s p b u q la lb =
    let rest = slice_cmp nat_cmp (s ∷ big_bytes 2 p) (u ∷ big_bytes 2 q) in
    slice_cmp-append (big_bytes 4 a) (big_bytes 4 b) (s ∷ big_bytes 2 p) (u ∷ big_bytes 2 q) refl
    ∙ ap (λ (o : Ordering). ordering_then o rest) (slice_cmp-big_bytes 4 a b)
    ∙ ap (λ (n : ℕ). ordering_then (nat_cmp n (b % 256 ^ 4)) rest) (mod-eq_of_lt la)
    ∙ ap (λ (n : ℕ). ordering_then (nat_cmp a n) rest) (mod-eq_of_lt lb)

lower : (a b : ℕ) → a < b → nat_cmp a b ≡ Less
lower a b l = grind (arith, nat_tests, l)

-- a lower block comes before
pub before_block : (a s p b u q : ℕ) → a < 2 ^ 32 → b < 2 ^ 32 → a < b → below (map_entry a s p) (map_entry b u q) ≡ true
unfolding below
before_block a s p b u q la lb l =
    ap is_lt (entry_order a s p b u q la lb ∙ ap (λ (o : Ordering). ordering_then o (slice_cmp nat_cmp (s ∷ big_bytes 2 p) (u ∷ big_bytes 2 q))) (lower a b l))

positive : (x : ℕ) → nat_cmp (suc x) 0 ≡ Greater
positive x = grind (arith, nat_tests)

-- nothing that is as long comes before zeros
pub zeros_first : (n : ℕ) (xs : List ℕ) → n ≤ length xs → is_lt (slice_cmp nat_cmp xs (replicate n 0)) ≡ false
zeros_first zero [] l = refl
zeros_first zero (x ∷ xs) l = refl
zeros_first (suc n) [] l = absurd (omega (arith, l))
zeros_first (suc n) (zero ∷ xs) l = zeros_first n xs (omega (arith, l))
zeros_first (suc n) (suc x ∷ xs) l = ap (λ (o : Ordering). is_lt (ordering_then o (slice_cmp nat_cmp xs (replicate n 0)))) (positive x)

-- no entry of a block comes before its lowest one
pub not_before_lowest : (b u q : ℕ) → b < 2 ^ 32 → below (map_entry b u q) (map_entry b 0 0) ≡ false
unfolding below
not_before_lowest b u q l =
    ap is_lt (entry_order b u q b 0 0 l l ∙ ap (λ (o : Ordering). ordering_then o (slice_cmp nat_cmp (u ∷ big_bytes 2 q) (replicate 3 0))) (nat_cmp-same b))
    ∙ zeros_first 3 (u ∷ big_bytes 2 q) (omega arith)

-- nothing comes before the lowest entry of block 0
pub not_before_first : (x : Entry) → length x ≡ 7 → below x (map_entry 0 0 0) ≡ false
unfolding below
not_before_first x e = zeros_first 7 x (omega (arith, e))

-- an entry that is written as what it says comes before the row of a higher block
pub entry_before_row : (x : Entry) (row : BlockRow) → IsMapEntry x → row.block < 2 ^ 32 → (map_line x).block < row.block → below x (row_entry row) ≡ true
entry_before_row x row w small l =
    let line = map_line x in
    subst (λ (e : Entry). below e (row_entry row) ≡ true) (sym w.bytes_are) (before_block line.block line.state line.rows row.block (state_number row.state) row.rows (entry_small x w) small l)

-- so the row that comes before an entry has no higher block
pub row_no_higher : (row : BlockRow) (x : Entry) → IsMapEntry x → row.block < 2 ^ 32 → below (row_entry row) x ≡ true → row.block ≤ (map_line x).block
row_no_higher row x w small h = elim (cases_lt (map_line x).block row.block) [
  | inl l ↦
      let e = not_below (row_entry row) x h in
      let b = entry_before_row x row w small l in
      let wrong : true ≡ false = sym b ∙ e in cc
  | inr l ↦ l
]

-- the same of two rows
pub rows_no_higher : (first second : BlockRow) → first.block < 2 ^ 32 → second.block < 2 ^ 32 → below (row_entry first) (row_entry second) ≡ true → first.block ≤ second.block
rows_no_higher first second a b h = elim (cases_lt second.block first.block) [
  | inl l ↦
      let e = not_below (row_entry first) (row_entry second) h in
      let k = before_block second.block (state_number second.state) second.rows first.block (state_number first.state) first.rows b a l in
      let wrong : true ≡ false = sym k ∙ e in cc
  | inr l ↦ l
]
