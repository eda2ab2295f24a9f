-- The rows of a table that stands in parts of its lists.
use Rattle.std.proofs.Common.{◌≡◌, ◌<◌, ◌∙◌, inl, inr, ℕ, List, [], ◌∷◌, Bool, true, ap, arith, length, refl, subst, sym}
use Rattle.std.specs.Prelude.{Contains, None, Some, filter, if◌then◌else◌, nat_lt}
use Rattle.std.proofs.lemmas.Bool.{cases_Bool, false≢true, lt-ltb, ltb-true}
use Rattle.std.proofs.lemmas.List.{length-map}
use Rattle.mdc_values.specs.Rising.{IsLower, IsRising}
use Rattle.mdc_values.specs.declared.rid.Rid.{Rid}
use Rattle.mdc_ast.specs.declared.definition.TableDef.{TableDef}
use Rattle.store_api.specs.declared.pages.Pages.{Ghosts}
use Rattle.store_api.specs.declared.shape.Shape.{Shape}
use Rattle.extent_map.specs.declared.kind.Kind.{Kind}
use Rattle.entry_tree.specs.Forest.{leaf_entries}
use Rattle.block_map.specs.MapLines.{map_line, map_lines, used_blocks}
use Rattle.block_rows.specs.ListedSlots.{rows_in_slots}
use Rattle.mdc_sound.specs.BlockRules.{IsUsedCountSound}
use Rattle.mdc_sound.proofs.BlockRulesLemmas.{each_of}
use Rattle.mdc_sound.proofs.MappedBlocksLemmas.{used_line}
use Rattle.mdc_sound.specs.StandingTable.{StandsTable, TableForests, pages_of}
use Rattle.mdc_sound.specs.TableRows.{PlacedRow, block_slots, rows_in_block, rows_in_table}
use Rattle.mdc_sound.proofs.ElementsLemmas.{contains_entry, contains_flat, flat_contains, from_map, in_map}
use Rattle.mdc_sound.proofs.SlotRowsLemmas.{slot_of_placed}
use Rattle.mdc_sound.proofs.TableSpotRowsLemmas.{used_differ}
use Rattle.mdc_table.specs.TableReading.{rows_if_used}
use Rattle.block_lists.specs.Parts.{blocks_of, in_part, in_parts, in_slots}
use Rattle.block_lists.specs.Places.{has_number}
use Rattle.block_lists.specs.declared.part.Part.{Part}
use Rattle.plan_lists.proofs.ListedLemmas.{in_numbers, number_in}
use Rattle.executor.specs.PartRows.{parts_with_rows, rows_in_part}
use Rattle.executor.specs.RowBlocks.{IsBlockWith, IsCountOf}
use Rattle.executor.proofs.PartRowsLemmas.{block_of_row, in_parts_of, part_with, rising_kept, rows_of_no_block, rows_of_one_block}
use Rattle.executor.proofs.PassingLemmas.{filter_all, filter_same, is_kept, of_kept}

module _ {S : Type 0} {g : Ghosts S} (shape : Shape) (s : S) (def : TableDef) (owners : List Kind) (forests : TableForests) (st : StandsTable g shape s def owners forests) where
  abbrev rows : List PlacedRow
  rows = rows_in_table shape (pages_of g s) def forests.map

  abbrev block_rows : ℕ → List PlacedRow
  block_rows = rows_in_block shape (pages_of g s) def

  -- the rows of a block lie in it
  pub own : (block : ℕ) (placed : PlacedRow) → Contains (block_rows block) placed → placed.rid.block ≡ block
  own block placed there = (slot_of_placed block 0 (block_slots shape (pages_of g s) def block) placed there).1

  -- ---- one part

  -- of a Used block that is listed whole all rows
  pub rows_of_whole : (part : Part) → None ≡ part.slots → Contains (used_blocks forests.map) part.block → rows_in_part rows part ≡ block_rows part.block
  rows_of_whole part whole used =
      rows_of_one_block block_rows own (λ placed. in_slots part.slots placed.rid.slot) part.block (used_blocks forests.map) (used_differ forests.map st.map.once_each) used
      ∙ (filter_same (λ placed. in_slots part.slots placed.rid.slot) (λ placed. true) (block_rows part.block) (λ placed there. ap (λ slots. in_slots slots placed.rid.slot) (sym whole))
      ∙ filter_all (block_rows part.block))

  -- of some slots their rows, where the block is Used
  pub rows_of_listed : (part : Part) (slots : List ℕ) → Some slots ≡ part.slots → rows_in_part rows part ≡ rows_in_slots slots (rows_if_used shape (pages_of g s) def forests.map part.block)
  rows_of_listed part slots some = elim (cases_Bool (has_number (used_blocks forests.map) part.block)) [
    | inl is ↦
        rows_of_one_block block_rows own (λ placed. in_slots part.slots placed.rid.slot) part.block (used_blocks forests.map) (used_differ forests.map st.map.once_each) (number_in (used_blocks forests.map) part.block is)
        ∙ (ap (λ l. filter (λ placed. in_slots l placed.rid.slot) (block_rows part.block)) (sym some) ∙ ap (λ b. rows_in_slots slots (if b then block_rows part.block else [])) (sym is))
    | inr not ↦
        let outside : Contains (used_blocks forests.map) part.block → ⊥ = λ used. false≢true (sym not ∙ in_numbers (used_blocks forests.map) part.block used) in
        rows_of_no_block block_rows own (λ placed. in_slots part.slots placed.rid.slot) part.block (used_blocks forests.map) outside
        ∙ ap (λ b. rows_in_slots slots (if b then block_rows part.block else [])) (sym not)
  ]

  -- ---- all parts

  -- a row of the table lies in its block, which is Used
  pub in_own_block : (placed : PlacedRow) → Contains rows placed → Contains (used_blocks forests.map) placed.rid.block × Contains (block_rows placed.rid.block) placed
  in_own_block placed there =
      let b = flat_contains block_rows (used_blocks forests.map) placed there in
      let is = own b.0 placed b.2 in
      (subst (Contains (used_blocks forests.map)) (sym is) b.1, subst (λ n. Contains (block_rows n) placed) (sym is) b.2)

  some_in : (xs : List PlacedRow) → 0 < length xs → (x : PlacedRow) × Contains xs x
  some_in [] some = absurd (omega (arith, some))
  some_in (x ∷ xs) some = (x, (0, omega arith, refl))

  -- a Used block has a row
  pub used_has_row : (block : ℕ) → Contains (used_blocks forests.map) block → (placed : PlacedRow) × Contains (block_rows block) placed
  used_has_row block used =
      let line = used_line forests.map block used in
      let there = in_map map_line (leaf_entries forests.map) line.entry (contains_entry (leaf_entries forests.map) line.entry line.there) in
      let counts = each_of (IsUsedCountSound shape (pages_of g s) def) (map_lines forests.map) (map_line line.entry) st.used_counts there in
      let some : 0 < length (block_rows (map_line line.entry).block) = omega (arith, counts.some_row line.used, counts.counted line.used) in
      subst (λ n. (placed : PlacedRow) × Contains (block_rows n) placed) line.block_is (some_in (block_rows (map_line line.entry).block) some)

  -- nor is a part without one that lists such a block whole
  pub whole_has_row : (part : Part) → None ≡ part.slots → Contains (used_blocks forests.map) part.block → true ≡ nat_lt 0 (length (rows_in_part rows part))
  whole_has_row part whole used =
      let (placed, (k, low, is)) = used_has_row part.block used in
      sym (lt-ltb 0 (length (rows_in_part rows part)) (omega (arith, low, ap length (rows_of_whole part whole used))))

  module _ (parts : List Part) (rise : IsRising IsLower (blocks_of parts)) (test : Rid → Bool) (stand : (rid : Rid) → in_parts parts rid ≡ test rid) where
    -- it has a row
    abbrev has_row : Part → Bool
    has_row part = nat_lt 0 (length (rows_in_part rows part))

    -- a Used block with a row that passes
    abbrev IsOne : ℕ → Type 0
    IsOne = IsBlockWith shape (pages_of g s) def forests.map (λ placed. test placed.rid ≡ true)

    block_of_part : (block : ℕ) → Contains (blocks_of (parts_with_rows rows parts)) block → IsOne block
    block_of_part block there =
        let (part, kept, is) = from_map (λ (part : Part). part.block) (parts_with_rows rows parts) block there in
        let of = of_kept has_row parts part kept in
        let one = some_in (rows_in_part rows part) (ltb-true 0 (length (rows_in_part rows part)) of.1) in
        let row = of_kept (λ (placed : PlacedRow). in_part part placed.rid) rows one.0 one.1 in
        let at : one.0.rid.block ≡ block = sym (block_of_row part one.0.rid row.1) ∙ is in
        let lies = in_own_block one.0 row.0 in
        record {
          used = subst (Contains (used_blocks forests.map)) at lies.0;
          placed = one.0;
          there = subst (λ n. Contains (block_rows n) one.0) at lies.1;
          has = sym (stand one.0.rid) ∙ in_parts_of parts part one.0.rid of.0 row.1;
        }

    part_of_block : (block : ℕ) → IsOne block → Contains (blocks_of (parts_with_rows rows parts)) block
    part_of_block block one =
        let (part, there, is) = part_with parts one.placed.rid (stand one.placed.rid ∙ one.has) in
        let in_rows = contains_flat block_rows (used_blocks forests.map) block one.placed one.used one.there in
        let kept = is_kept (λ (placed : PlacedRow). in_part part placed.rid) rows one.placed in_rows is in
        let in_parts_kept = is_kept has_row parts part there (lt-ltb 0 (length (rows_in_part rows part)) (omega (arith, kept.1))) in
        let at : part.block ≡ block = block_of_row part one.placed.rid is ∙ own block one.placed one.there in
        subst (Contains (blocks_of (parts_with_rows rows parts))) at (in_map (λ (part : Part). part.block) (parts_with_rows rows parts) part in_parts_kept)

    -- as many blocks have one as parts have a row
    pub counts_parts : IsCountOf IsOne (length (parts_with_rows rows parts))
    counts_parts = record {
      numbers = blocks_of (parts_with_rows rows parts);
      rising = rising_kept has_row parts rise;
      are = λ n. (block_of_part n, part_of_block n);
      counted = sym (length-map (parts_with_rows rows parts) (λ (part : Part). part.block));
    }
