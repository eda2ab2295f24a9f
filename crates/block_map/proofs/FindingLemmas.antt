-- What the lowest entry from a block on says of that block.
use Rattle.std.proofs.Common.{◌≡◌, ◌≢◌, ◌<◌, ◌^◌, ℕ, [], ap, arith, sym, ◌∙◌, subst, inl, inr}
use Rattle.std.specs.Prelude.{true, false, Option, Some, None}
use Rattle.std.proofs.lemmas.Bool.{cases_lt}
use Rattle.mdc_words.specs.ByteOrder.{Entry, below}
use Rattle.entry_tree.specs.EntryBounds.{IsEntryOf}
use Rattle.entry_tree.specs.Forest.{Forest, leaf_entries}
use Rattle.entry_tree.specs.Reading.{IsFirstFrom, IsFirstOr, entries_from}
use Rattle.entry_tree.proofs.ReadingLemmas.{from_entries_from, in_entries_from, least_of}
use Rattle.block_map.specs.BlockMaps.{FindsBlock, IsMapForm, NamesBlock}
use Rattle.block_map.specs.MapLines.{IsMapEntry, map_entry, map_line}
use Rattle.block_map.specs.MapRows.{row_entry, state_number}
use Rattle.block_map.specs.declared.row.BlockRow.{BlockRow}
use Rattle.block_map.proofs.MapFormLemmas.{form_state}
use Rattle.block_map.proofs.MapLinesLemmas.{entry_small, named_entry}
use Rattle.block_map.proofs.MapOrderLemmas.{before_block, entry_before_row, not_before_lowest}

-- an entry that is written as what it says isn't below the lowest one of its block
pub not_below_own : (x : Entry) → IsMapEntry x → below x (map_entry (map_line x).block 0 0) ≡ false
not_below_own x w =
    let line = map_line x in
    subst (λ (v : Entry). below v (map_entry line.block 0 0) ≡ false) (sym w.bytes_are) (not_before_lowest line.block line.state line.rows (entry_small x w))

-- the entry of a block stands at or above the lowest one of that block
block_reached : (t : Forest) (block : ℕ) → NamesBlock block t → (x : Entry) × IsEntryOf x (entries_from (map_entry block 0 0) (leaf_entries t)) × IsMapEntry x × ((map_line x).block ≡ block)
block_reached t block n =
    let r = named_entry (leaf_entries t) block n.1 in
    let w = n.0 r.0 r.1 in
    (r.0, in_entries_from (map_entry block 0 0) r.0 (leaf_entries t) r.1 (subst (λ (b : ℕ). below r.0 (map_entry b 0 0) ≡ false) r.2 (not_below_own r.0 w)), w, r.2)

-- no entry from the lowest one of the block on
pub none_found : (t : Forest) (block : ℕ) → entries_from (map_entry block 0 0) (leaf_entries t) ≡ [] → FindsBlock t block None
none_found t block e n = let r = block_reached t block n in subst (IsEntryOf r.0) e r.1

-- the lowest entry from there on names another block
pub other_found : (t : Forest) (block : ℕ) (first : Entry) (row : BlockRow) → IsFirstFrom (leaf_entries t) (map_entry block 0 0) first → first ≡ row_entry row → row.block < 2 ^ 32
    → row.block ≢ block → FindsBlock t block None
other_found t block first row f e small d n =
    let r = block_reached t block n in
    let at_least = least_of first r.0 (entries_from (map_entry block 0 0) (leaf_entries t)) f.lowest r.1 in
    let reached = (from_entries_from (map_entry block 0 0) first (leaf_entries t) f.there).1 in
    let fits : block < 2 ^ 32 = subst (λ (b : ℕ). b < 2 ^ 32) r.3 (entry_small r.0 r.2) in
    elim (cases_lt row.block block) [
      | inl lower ↦
          let b = before_block row.block (state_number row.state) row.rows block 0 0 small fits lower in
          let wrong : true ≡ false = sym b ∙ ap (λ (v : Entry). below v (map_entry block 0 0)) (sym e) ∙ reached in cc
      | inr higher ↦
          let over : (map_line r.0).block < row.block = omega (arith, higher, d, r.3) in
          let b = entry_before_row r.0 row r.2 small over in
          let wrong : true ≡ false = sym b ∙ ap (below r.0) (sym e) ∙ at_least in cc
    ]

-- the lowest entry from there on names the block
pub row_found : (t : Forest) (block : ℕ) (first : Entry) (row : BlockRow) → IsFirstFrom (leaf_entries t) (map_entry block 0 0) first → first ≡ row_entry row → row.block ≡ block → FindsBlock t block (Some row)
row_found t block first row f e same = (same, subst (λ (v : Entry). IsEntryOf v (leaf_entries t)) e (from_entries_from (map_entry block 0 0) first (leaf_entries t) f.there).0)

-- ---- what the lowest entry from a bound on says, as `first_from` answers it

pub get_none : (t : Forest) (block : ℕ) (bound : Entry) (found : Option Entry) → bound ≡ map_entry block 0 0 → IsFirstOr (leaf_entries t) bound found → found ≡ None → FindsBlock t block None
get_none t block bound None e f n = none_found t block (subst (λ (b : Entry). entries_from b (leaf_entries t) ≡ []) e f)
get_none t block bound (Some first) e f n = cc

pub get_other : (t : Forest) (block : ℕ) (bound first : Entry) (found : Option Entry) (row : BlockRow) → bound ≡ map_entry block 0 0 → IsFirstOr (leaf_entries t) bound found → found ≡ Some first
    → first ≡ row_entry row → row.block < 2 ^ 32 → row.block ≢ block → FindsBlock t block None
get_other t block bound first None row e f n is small d = cc
get_other t block bound first (Some other) row e f n is small d =
    let same : other ≡ first = cc in
    other_found t block other row (subst (λ (b : Entry). IsFirstFrom (leaf_entries t) b other) e f) (same ∙ is) small d

pub get_row : (t : Forest) (block : ℕ) (bound first : Entry) (found : Option Entry) (row : BlockRow) → bound ≡ map_entry block 0 0 → IsFirstOr (leaf_entries t) bound found → found ≡ Some first
    → first ≡ row_entry row → row.block ≡ block → FindsBlock t block (Some row)
get_row t block bound first None row e f n is q = cc
get_row t block bound first (Some other) row e f n is q =
    let same : other ≡ first = cc in
    row_found t block other row (subst (λ (b : Entry). IsFirstFrom (leaf_entries t) b other) e f) (same ∙ is) q

-- an entry whose state isn't one of the three
pub get_broken : (t : Forest) (bound first : Entry) (found : Option Entry) → IsFirstOr (leaf_entries t) bound found → found ≡ Some first → 2 < (map_line first).state → IsMapForm t → ⊥
get_broken t bound first None f n l form = cc
get_broken t bound first (Some other) f n l form =
    let same : other ≡ first = cc in
    let high : 2 < (map_line other).state = subst (λ (v : Entry). 2 < (map_line v).state) (sym same) l in
    omega (arith, high, form_state t other form (from_entries_from bound other (leaf_entries t) f.there).0)
