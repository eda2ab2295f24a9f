-- What the entries of a block map say.
use Rattle.std.proofs.Common.{◌≡◌, ◌<◌, ◌+◌, ◌*◌, ◌%◌, ◌^◌, ◌==◌, ℕ, zero, suc, List, [], ◌∷◌, ◌++◌, refl, ap, arith, sym, ◌∙◌, subst, length, get_or, drop, map, ◌⊎◌, inl, inr}
use Rattle.std.proofs.Common.{w16, w32}
use Rattle.std.specs.Prelude.{Bool, true, false, cond, Contains}
use Rattle.std.specs.List.{filter}
use Rattle.std.specs.Int.{from_be_bytes}
use Rattle.std.proofs.Math.Nat.{mod-eq_of_lt, mod-lt}
use Rattle.std.proofs.lemmas.List.{get_or-drop}
use Rattle.std.proofs.lemmas.Nat.{be_bytes_2, be_bytes_4}
use Rattle.byteorder.specs.Endian.{big_bytes}
use Rattle.byteorder.specs.Numbers.{big_from-bytes}
use Rattle.mdc_words.specs.ByteOrder.{Entry}
use Rattle.key_codec.proofs.OrderLemmas.{AreBytes-none}
use Rattle.entry_tree.specs.EntryBounds.{IsEntryOf}
use Rattle.block_map.specs.MapLines.{IsMapEntry, MapLine, blocks_in_state, lines_in_state, map_entry, map_line}
use Rattle.block_map.specs.MapRows.{line_of, row_entry, state_number}
use Rattle.block_map.specs.declared.row.BlockRow.{BlockRow}

-- the block that an entry names
pub line_block : (block state rows : ℕ) → (map_line (map_entry block state rows)).block ≡ block % 256 ^ 4
line_block block state rows = big_from-bytes 4 block (state ∷ big_bytes 2 rows)

-- and its state
pub line_state : (block state rows : ℕ) → (map_line (map_entry block state rows)).state ≡ state
line_state block state rows = let e : state * 1 + 0 ≡ state = omega arith in e

-- a row is read back
pub row_block : (row : BlockRow) → row.block < 2 ^ 32 → (map_line (row_entry row)).block ≡ row.block
row_block row small = line_block row.block (state_number row.state) row.rows ∙ mod-eq_of_lt small

pub row_state : (row : BlockRow) → (map_line (row_entry row)).state ≡ state_number row.state
row_state row = line_state row.block (state_number row.state) row.rows

pub row_rows : (row : BlockRow) → row.rows < 2 ^ 16 → (map_line (row_entry row)).rows ≡ row.rows
row_rows row small = big_from-bytes 2 row.rows [] ∙ mod-eq_of_lt small

-- a line of these numbers
abbrev line_with : ℕ → ℕ → ℕ → MapLine
line_with block state rows = record { block = block; state = state; rows = rows }

-- so what its entry says is its line
pub row_line : (row : BlockRow) → row.block < 2 ^ 32 → row.rows < 2 ^ 16 → map_line (row_entry row) ≡ line_of row
row_line row small few =
    ap (λ (b : ℕ). line_with b (map_line (row_entry row)).state (map_line (row_entry row)).rows) (row_block row small)
    ∙ ap (λ (s : ℕ). line_with row.block s (map_line (row_entry row)).rows) (row_state row)
    ∙ ap (λ (r : ℕ). line_with row.block (state_number row.state) r) (row_rows row few)

-- the state of an entry is its fifth byte
pub entry_state : (x : Entry) → (map_line x).state ≡ get_or x 4 0
entry_state x =
    let e : get_or (drop 4 x) 0 0 ≡ get_or x (4 + 0) 0 = get_or-drop 4 x 0 0 in
    let k : get_or (drop 4 x) 0 0 * 1 + 0 ≡ get_or (drop 4 x) 0 0 = omega arith in
    k ∙ e

-- bytes are those of the row that was read from them
pub row_read : (x : Entry) (block state rows : ℕ) → length x ≡ 7 → ((i : ℕ) → get_or x i 0 < 256) → block ≡ from_be_bytes w32 (get_or x 0 0 ∷ get_or x 1 0 ∷ get_or x 2 0 ∷ get_or x 3 0 ∷ [])
    → get_or x 4 0 ≡ state → rows ≡ from_be_bytes w16 (get_or x 5 0 ∷ get_or x 6 0 ∷ []) → x ≡ map_entry block state rows
row_read (a ∷ b ∷ c ∷ d ∷ e ∷ f ∷ g ∷ []) block state rows l are p q r =
    let first : big_bytes 4 block ≡ a ∷ b ∷ c ∷ d ∷ [] = be_bytes_4 (a ∷ b ∷ c ∷ d ∷ []) block refl (λ i. four i) p in
    let last : big_bytes 2 rows ≡ f ∷ g ∷ [] = be_bytes_2 (f ∷ g ∷ []) rows refl (λ i. two i) r in
    sym (ap (λ (h : List ℕ). h ++ state ∷ big_bytes 2 rows) first ∙ ap (λ (h : List ℕ). a ∷ b ∷ c ∷ d ∷ state ∷ h) last ∙ ap (λ (s : ℕ). a ∷ b ∷ c ∷ d ∷ s ∷ f ∷ g ∷ []) (sym q))
  where
    four : (i : ℕ) → get_or (a ∷ b ∷ c ∷ d ∷ []) i 0 < 256
    four zero = are 0
    four (suc zero) = are 1
    four (suc (suc zero)) = are 2
    four (suc (suc (suc zero))) = are 3
    four (suc (suc (suc (suc i)))) = AreBytes-none i

    two : (i : ℕ) → get_or (f ∷ g ∷ []) i 0 < 256
    two zero = are 5
    two (suc zero) = are 6
    two (suc (suc i)) = AreBytes-none i
row_read x block state rows l are p q r = absurd (omega (arith, l))

-- the block of an entry that is written as what it says fits into four bytes
pub entry_small : (x : Entry) → IsMapEntry x → (map_line x).block < 2 ^ 32
entry_small x w =
    let line = map_line x in
    let e : line.block ≡ line.block % 256 ^ 4 = ap (λ (y : Entry). (map_line y).block) w.bytes_are ∙ line_block line.block line.state line.rows in
    let l : line.block % 256 ^ 4 < 256 ^ 4 = mod-lt line.block (omega arith) in
    subst (λ (n : ℕ). n < 256 ^ 4) (sym e) l

-- ---- the lines and the blocks of a state

-- the line of a row is one of its state
pub lines_in_state-row : (n : ℕ) (row : BlockRow) (more : List Entry) → row.block < 2 ^ 32 → row.rows < 2 ^ 16
    → lines_in_state n (row_entry row ∷ more) ≡ cond (state_number row.state == n) (line_of row ∷ lines_in_state n more) (lines_in_state n more)
lines_in_state-row n row more small few = ap (λ (line : MapLine). cond (line.state == n) (line ∷ lines_in_state n more) (lines_in_state n more)) (row_line row small few)

pub in_state-cons : (n : ℕ) (x : Entry) (more : List Entry)
    → blocks_in_state n (x ∷ more) ≡ cond ((map_line x).state == n) ((map_line x).block ∷ blocks_in_state n more) (blocks_in_state n more)
in_state-cons n x more = go ((map_line x).state == n)
  where
    go : (b : Bool) → map (λ (line : MapLine). line.block) (cond b (map_line x ∷ filter (λ line. line.state == n) (map map_line more)) (filter (λ line. line.state == n) (map map_line more)))
        ≡ cond b ((map_line x).block ∷ blocks_in_state n more) (blocks_in_state n more)
    go true = refl
    go false = refl

-- a row of that state, and of another
pub in_state-row : (n : ℕ) (row : BlockRow) (more : List Entry) → row.block < 2 ^ 32
    → blocks_in_state n (row_entry row ∷ more) ≡ cond (state_number row.state == n) (row.block ∷ blocks_in_state n more) (blocks_in_state n more)
in_state-row n row more small =
    in_state-cons n (row_entry row) more
    ∙ ap (λ (s : ℕ). cond (s == n) ((map_line (row_entry row)).block ∷ blocks_in_state n more) (blocks_in_state n more)) (row_state row)
    ∙ ap (λ (b : ℕ). cond (state_number row.state == n) (b ∷ blocks_in_state n more) (blocks_in_state n more)) (row_block row small)

-- the entry of a block that is named with a state
pub record NamesInState (n : ℕ) (entries : List Entry) (block : ℕ) : Type 0 where
  pub entry : Entry
  pub there : IsEntryOf entry entries
  pub state : ((map_line entry).state == n) ≡ true
  pub block_is : (map_line entry).block ≡ block

-- an element of a list with one in front is that one, or one of the rest
pub contains_cases : {X : Type 0} (x y : X) (ys : List X) → Contains (y ∷ ys) x → (y ≡ x) ⊎ Contains ys x
contains_cases x y ys (zero, l, e) = inl e
contains_cases x y ys (suc k, l, e) = inr (k, omega (arith, l), e)

pub named_in_state : (n : ℕ) (entries : List Entry) (block : ℕ) → Contains (blocks_in_state n entries) block → NamesInState n entries block
named_in_state n [] block (k, l, e) = absurd (omega (arith, l))
named_in_state n (x ∷ xs) block h = go ((map_line x).state == n) refl (subst (λ (l : List ℕ). Contains l block) (in_state-cons n x xs) h) (named_in_state n xs block)
  where
    behind : NamesInState n xs block → NamesInState n (x ∷ xs) block
    behind r = record { entry = r.entry; there = inr r.there; state = r.state; block_is = r.block_is }

    here : ((map_line x).state == n) ≡ true → ((map_line x).block ≡ block) ⊎ Contains (blocks_in_state n xs) block → (Contains (blocks_in_state n xs) block → NamesInState n xs block) → NamesInState n (x ∷ xs) block
    here e (inl q) f = record { entry = x; there = inl refl; state = e; block_is = q }
    here e (inr c) f = behind (f c)

    go : (b : Bool) → ((map_line x).state == n) ≡ b → Contains (cond b ((map_line x).block ∷ blocks_in_state n xs) (blocks_in_state n xs)) block
        → (Contains (blocks_in_state n xs) block → NamesInState n xs block) → NamesInState n (x ∷ xs) block
    go true e c f = here e (contains_cases block (map_line x).block (blocks_in_state n xs) c) f
    go false e c f = behind (f c)

-- and the other way round
pub contains_more : {X : Type 0} (x y : X) (ys : List X) → Contains ys x → Contains (y ∷ ys) x
contains_more x y ys (k, l, e) = (suc k, omega (arith, l), e)

pub in_state_named : (n : ℕ) (entries : List Entry) (block : ℕ) → NamesInState n entries block → Contains (blocks_in_state n entries) block
in_state_named n [] block r = absurd r.there
in_state_named n (x ∷ xs) block r = subst (λ (l : List ℕ). Contains l block) (sym (in_state-cons n x xs)) (place r.there (in_state_named n xs block))
  where
    behind : (b : Bool) → Contains (blocks_in_state n xs) block → Contains (cond b ((map_line x).block ∷ blocks_in_state n xs) (blocks_in_state n xs)) block
    behind true c = contains_more block (map_line x).block (blocks_in_state n xs) c
    behind false c = c

    place : (r.entry ≡ x) ⊎ IsEntryOf r.entry xs → (NamesInState n xs block → Contains (blocks_in_state n xs) block)
        → Contains (cond ((map_line x).state == n) ((map_line x).block ∷ blocks_in_state n xs) (blocks_in_state n xs)) block
    place (inl e) more =
        let state : ((map_line x).state == n) ≡ true = subst (λ (y : Entry). ((map_line y).state == n) ≡ true) e r.state in
        let block_is : (map_line x).block ≡ block = subst (λ (y : Entry). (map_line y).block ≡ block) e r.block_is in
        subst (λ (b : Bool). Contains (cond b ((map_line x).block ∷ blocks_in_state n xs) (blocks_in_state n xs)) block) (sym state) (0, omega arith, block_is)
    place (inr i) more = behind ((map_line x).state == n) (more (record { entry = r.entry; there = i; state = r.state; block_is = r.block_is }))

-- the entry of a block that is named
pub named_entry : (entries : List Entry) (block : ℕ) → Contains (map (λ (line : MapLine). line.block) (map map_line entries)) block → (x : Entry) × IsEntryOf x entries × ((map_line x).block ≡ block)
named_entry [] block (k, l, e) = absurd (omega (arith, l))
named_entry (x ∷ xs) block h = go (contains_cases block (map_line x).block (map (λ (line : MapLine). line.block) (map map_line xs)) h) (named_entry xs block)
  where
    go : ((map_line x).block ≡ block) ⊎ Contains (map (λ (line : MapLine). line.block) (map map_line xs)) block
        → (Contains (map (λ (line : MapLine). line.block) (map map_line xs)) block → (y : Entry) × IsEntryOf y xs × ((map_line y).block ≡ block)) → (y : Entry) × IsEntryOf y (x ∷ xs) × ((map_line y).block ≡ block)
    go (inl e) f = (x, inl refl, e)
    go (inr c) f = let r = f c in (r.0, inr r.1, r.2)
