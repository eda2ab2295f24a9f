-- The rows of a table that stands: where they lie, and what its record indexes have of them where these are sound.
use Rattle.std.proofs.Common.{◌≡◌, ◌≢◌, ◌++◌, ℕ, List, [], ◌∷◌, Option, Some, None, length, map, take, set, refl, ap, arith, sym, ◌∙◌, subst, append_assoc, ◌⊎◌, inl, inr}
use Rattle.std.specs.Prelude.{◌↔◌, Bool, true, false, not, Contains, IsTrue, slice_index_or}
use Rattle.std.specs.Bool.{Decides}
use Rattle.std.specs.List.{AllByRecursion, AllZip}
use Rattle.std.specs.Str.{bytes_eq}
use Rattle.std.proofs.Math.Seq.{take-append_seam}
use Rattle.std.proofs.lemmas.List.Sorted.{Contains-permutation, IsPermutation-sym}
use Rattle.std.proofs.lemmas.Option.{same_Some}
use Rattle.std.proofs.lemmas.Slice.Eq.{bytes_eq-Decides}
use Rattle.byteorder.specs.Endian.{big_bytes}
use Rattle.mdc_words.specs.ByteOrder.{Entry}
use Rattle.mdc_values.specs.declared.rid.Rid.{Rid}
use Rattle.mdc_ast.specs.TableLimits.{IsTableDef}
use Rattle.mdc_ast.specs.declared.definition.IndexDef.{IndexDef}
use Rattle.mdc_ast.specs.declared.definition.TableDef.{TableDef}
use Rattle.mdc_ast.specs.declared.row.Row.{Row}
use Rattle.store_api.specs.declared.pages.Pages.{Ghosts}
use Rattle.store_api.specs.declared.shape.Shape.{Shape}
use Rattle.extent_map.specs.declared.kind.Kind.{Kind}
use Rattle.key_codec.specs.Keys.{key_bytes}
use Rattle.entry_tree.specs.EntryBounds.{IsEntryOf}
use Rattle.entry_tree.specs.Forest.{Forest, leaf_entries}
use Rattle.block_map.specs.MapLines.{pending_blocks, used_blocks}
use Rattle.table_trees.specs.TableTrees.{AreIndexParts, record_entry}
use Rattle.mdc_sound.specs.BlockRules.{AreTableIndexesSound, IsSoundIndex, block_in_entry, entry_of_row}
use Rattle.mdc_sound.specs.Placing.{IsRowAt, Spot, left_with, row_at_spot, rows_from_spot, slots_of_spot}
use Rattle.mdc_sound.specs.Placing.Spot.{OtherBlock, PendingBlock, UsedBlock}
use Rattle.mdc_sound.specs.StandingTable.{StandsTable, TableForests, pages_of, spots_of, view_of}
use Rattle.mdc_sound.specs.TableRows.{PlacedRow, block_slots, rows_in_block, rows_in_table}
use Rattle.mdc_sound.proofs.BlockRulesLemmas.{each_of, named_owned}
use Rattle.mdc_sound.proofs.ElementsLemmas.{contains_entry, each_in, flat_contains, from_map}
use Rattle.mdc_sound.proofs.MappedBlocksLemmas.{small_block}
use Rattle.mdc_sound.proofs.PlacingLemmas.{rows_taken}
use Rattle.mdc_sound.proofs.SlotRowsLemmas.{few_slots}
use Rattle.mdc_sound.proofs.TableSpotRowsLemmas.{rows_of_spots, used_differ}
use Rattle.mdc_sound.proofs.TableSpotsLemmas.{pending_of_spot, pending_spot, used_spot}
use Rattle.record_index.specs.FoundRids.{IsRid, rid_in_entry}
use Rattle.record_index.specs.RecordIndexes.{HaveKeysIn}
use Rattle.record_index.specs.SoundRows.{LieApart}
use Rattle.record_index.proofs.IndexesLemmas.{has_indexes}
use Rattle.record_index.proofs.KeysLemmas.{length-row_key}
use Rattle.record_index.proofs.SoundRowsLemmas.{block_named, has_row, lacks_row, row_in_entry}
use Rattle.row_entries.specs.ChosenIndexes.{EachChosen, HasRecordKeys, differ_in, entry_of}
use Rattle.row_entries.specs.RowEntries.{HasRowEntries, HasRowEntriesOnly, LacksRowEntries}
use Rattle.row_entries.specs.SoundEntries.{placed_at}
use Rattle.row_entries.proofs.PlacesApartLemmas.{blocks_apart, in_slot}

-- ---- keys in entries

-- entries that are the same have the same key
same_key : (a b : List ℕ) (r q : Rid) → length a ≡ length b → a ++ big_bytes 4 r.block ++ big_bytes 2 r.slot ≡ b ++ big_bytes 4 q.block ++ big_bytes 2 q.slot → a ≡ b
same_key a b r q wide same = sym (front a r) ∙ (ap (take (length a)) same ∙ (ap (λ n. take n (b ++ big_bytes 4 q.block ++ big_bytes 2 q.slot)) wide ∙ front b q))
  where
    front : (k : List ℕ) (rid : Rid) → take (length k) (k ++ big_bytes 4 rid.block ++ big_bytes 2 rid.slot) ≡ k
    front k rid = ap (take (length k)) (append_assoc k (big_bytes 4 rid.block) (big_bytes 2 rid.slot)) ∙ take-append_seam k (big_bytes 4 rid.block ++ big_bytes 2 rid.slot)

-- keys that differ aren't the same
differ : (a b : List ℕ) → IsTrue (not (bytes_eq a b)) → a ≢ b
differ a b is same = go (bytes_eq a b) is (bytes_eq-Decides a b)
  where
    go : (test : Bool) → IsTrue (not test) → Decides test (a ≡ b) → ⊥
    go true is decides = absurd cc
    go false is decides = let wrong : false ≡ true = decides.1 same in absurd cc

module _ {S : Type 0} (g : Ghosts S) (shape : Shape) (s : S) (def : TableDef) (owners : List Kind) (forests : TableForests) (st : StandsTable g shape s def owners forests) where
  abbrev rows : List PlacedRow
  rows = rows_in_table shape (pages_of g s) def forests.map

  abbrev spots : List Spot
  spots = spots_of g shape s def owners forests

  -- a row of the table lies in its place, which an entry can name
  row_lies : (placed : PlacedRow) → Contains (rows_in_table shape (pages_of g s) def forests.map) placed → IsRid placed.rid × (row_at_spot (spots_of g shape s def owners forests) placed.rid ≡ Some placed.row)
  row_lies placed there =
      let b = flat_contains (rows_in_block shape (pages_of g s) def) (used_blocks forests.map) placed there in
      let slots = block_slots shape (pages_of g s) def b.0 in
      let in_place = in_slot b.0 0 slots placed b.2 in
      let slot_is : placed.rid.slot ≡ in_place.place = omega (arith, in_place.slot_is) in
      let used : Contains (used_blocks forests.map) placed.rid.block = subst (Contains (used_blocks forests.map)) (sym in_place.block_is) b.1 in (
        record {
          block = small_block shape placed.rid.block (named_owned shape owners def forests.map 1 placed.rid.block st.map used).0;
          slot = omega (arith, slot_is, in_place.within, few_slots shape (pages_of g s) def b.0 slots refl);
        },
        ap (λ (spot : Spot). slice_index_or (slots_of_spot spot) placed.rid.slot None) (used_spot shape (pages_of g s) def owners forests.map placed.rid.block OtherBlock st.map used)
            ∙ (ap (λ e. slice_index_or (block_slots shape (pages_of g s) def e) placed.rid.slot None) in_place.block_is ∙ (ap (λ k. slice_index_or slots k None) slot_is ∙ in_place.row_is)),
      )

  -- what lies in a place is a row of the table
  lies_row : (row : Row) (rid : Rid) (slots : List (Option Row)) → IsRowAt (spots_of g shape s def owners forests) rid row slots → Contains (rows_in_table shape (pages_of g s) def forests.map) (placed_at rid row)
  lies_row row rid slots lies =
      let left = set spots rid.block (left_with (set slots rid.slot None)) in
      let taken = rows_taken spots left rid row (record { slots = slots; lies = lies; is_left = refl }) in
      let all = rows_of_spots shape (pages_of g s) def owners forests.map st.map in
      Contains-permutation (rows_from_spot 0 spots) rows (placed_at rid row) (IsPermutation-sym rows (rows_from_spot 0 spots) all)
      (Contains-permutation (placed_at rid row ∷ rows_from_spot 0 left) (rows_from_spot 0 spots) (placed_at rid row) taken (0, omega arith, refl))

  -- and it is that row
  row_at : (row : Row) (rid : Rid) (slots : List (Option Row)) → IsRowAt (spots_of g shape s def owners forests) rid row slots → row_at_spot (spots_of g shape s def owners forests) rid ≡ Some row
  row_at row rid slots lies = ap (λ (spot : Spot). slice_index_or (slots_of_spot spot) rid.slot None) (lies.block OtherBlock) ∙ lies.slot

  -- a block whose spot isn't Pending isn't one of the Pending blocks
  not_pending : (block : ℕ) → slice_index_or (spots_of g shape s def owners forests) block OtherBlock ≢ PendingBlock → Contains (pending_blocks forests.map) block → ⊥
  not_pending block other there = other (pending_spot shape (pages_of g s) def owners forests.map block OtherBlock st.map there)

  -- and one whose spot is Pending is
  pub pending_by_spot : (block : ℕ) → Contains (pending_blocks forests.map) block ↔ (slice_index_or (spots_of g shape s def owners forests) block OtherBlock ≡ PendingBlock)
  pending_by_spot block = (
    λ there. pending_spot shape (pages_of g s) def owners forests.map block OtherBlock st.map there,
    λ is. pending_of_spot shape (pages_of g s) def owners forests.map st.map block is,
  )

  -- ---- no two rows lie in one place

  pub lie_apart : LieApart (rows_in_table shape (pages_of g s) def forests.map)
  lie_apart = record {
    places = each_in (λ (placed : PlacedRow). IsRid placed.rid) rows (λ placed there. (row_lies placed there).0);
    apart = blocks_apart (block_slots shape (pages_of g s) def) (used_blocks forests.map) (used_differ forests.map st.map.once_each);
  }

  -- ---- what sound record indexes have

  module _ (sound : AreTableIndexesSound shape (pages_of g s) (view_of def forests)) where
    pub has_entries : (row : Row) (rid : Rid) (slots : List (Option Row)) → IsRowAt (spots_of g shape s def owners forests) rid row slots → HasRowEntries def row rid owners forests
    has_entries row rid slots lies = go def.indexes forests.indexes sound
      where
        there : Contains (rows_in_table shape (pages_of g s) def forests.map) (placed_at rid row)
        there = lies_row row rid slots lies

        go : (indexes : List IndexDef) (trees : List Forest) → AllZip (IsSoundIndex def rows (pending_blocks forests.map)) indexes trees → EachChosen (λ which t. IsEntryOf (entry_of def row rid which) (leaf_entries t)) (map (λ which. true) indexes) indexes trees
        go [] trees all = tt
        go (which ∷ indexes) [] all = tt
        go (which ∷ indexes) (t ∷ trees) all = (λ is. has_row def rows (pending_blocks forests.map) which t (placed_at rid row) all.0 there, go indexes trees all.1)

    pub lacks_entries : IsTableDef def.number def → (row : Row) (rid : Rid) (others : List Kind) (more : TableForests) → HasRecordKeys def row.values → IsRid rid → row_at_spot (spots_of g shape s def owners forests) rid ≡ None
        → slice_index_or (spots_of g shape s def owners forests) rid.block OtherBlock ≢ PendingBlock → more.indexes ≡ forests.indexes → LacksRowEntries def row rid others more
    lacks_entries defined row rid others more keys is bare other same =
        subst (λ trees. EachChosen (λ which t. IsEntryOf (entry_of def row rid which) (leaf_entries t) → ⊥) (map (λ which. true) def.indexes) def.indexes trees) (sym same)
        (go def.indexes forests.indexes (has_indexes def.number def defined) keys sound)
      where
        apart : AllByRecursion (λ (placed : PlacedRow). IsRid placed.rid × (placed.rid ≢ rid)) (rows_in_table shape (pages_of g s) def forests.map)
        apart = each_in (λ (placed : PlacedRow). IsRid placed.rid × (placed.rid ≢ rid)) rows (λ placed there.
            let here = row_lies placed there in
            (here.0, λ at. let wrong : Some placed.row ≡ None = sym here.1 ∙ (ap (row_at_spot spots) at ∙ bare) in absurd cc))

        go : (indexes : List IndexDef) (trees : List Forest) → AllByRecursion (λ which. AreIndexParts def.columns which.parts) indexes → AllByRecursion (λ which. HaveKeysIn def.columns which.parts row.values) indexes
            → AllZip (IsSoundIndex def rows (pending_blocks forests.map)) indexes trees → EachChosen (λ which t. IsEntryOf (entry_of def row rid which) (leaf_entries t) → ⊥) (map (λ which. true) indexes) indexes trees
        go [] trees parts has all = tt
        go (which ∷ indexes) [] parts has all = tt
        go (which ∷ indexes) (t ∷ trees) parts has all =
            (λ chosen. lacks_row def rows (pending_blocks forests.map) which t row.values rid all.0 parts.0.key has.0 is apart (not_pending rid.block other), go indexes trees parts.1 has.1 all.1)

    pub has_only : IsTableDef def.number def → (was is : Row) (rid : Rid) (slots : List (Option Row)) → HasRecordKeys def was.values → HasRecordKeys def is.values → IsRowAt (spots_of g shape s def owners forests) rid was slots
        → HasRowEntriesOnly def was is rid owners forests
    has_only defined was is rid slots was_keys is_keys lies = record {
      has = go def.indexes forests.indexes sound;
      lacks = none def.indexes forests.indexes (has_indexes def.number def defined) was_keys is_keys sound;
    }
      where
        there : Contains (rows_in_table shape (pages_of g s) def forests.map) (placed_at rid was)
        there = lies_row was rid slots lies

        place : IsRid rid
        place = (row_lies (placed_at rid was) there).0

        used : slice_index_or (spots_of g shape s def owners forests) rid.block OtherBlock ≢ PendingBlock
        used same = let wrong : UsedBlock slots ≡ PendingBlock = sym (lies.block OtherBlock) ∙ same in absurd cc

        go : (indexes : List IndexDef) (trees : List Forest) → AllZip (IsSoundIndex def rows (pending_blocks forests.map)) indexes trees → EachChosen (λ which t. IsEntryOf (entry_of def was rid which) (leaf_entries t)) (map (differ_in def was is) indexes) indexes trees
        go [] trees all = tt
        go (which ∷ indexes) [] all = tt
        go (which ∷ indexes) (t ∷ trees) all = (λ chosen. has_row def rows (pending_blocks forests.map) which t (placed_at rid was) all.0 there, go indexes trees all.1)

        whose : (which : IndexDef) (t : Forest) → IsSoundIndex def rows (pending_blocks forests.map) which t → (x : Entry) → IsEntryOf x (leaf_entries t)
            → Contains (map (entry_of_row def which) rows) x ⊎ Contains (pending_blocks forests.map) (block_in_entry def which.parts x)
        whose which t one x at =
            each_of (λ entry. Contains (map (entry_of_row def which) rows) entry ⊎ Contains (pending_blocks forests.map) (block_in_entry def which.parts entry)) (leaf_entries t) x one.only (contains_entry (leaf_entries t) x at)

        absent : (which : IndexDef) (t : Forest) → AreIndexParts def.columns which.parts → HaveKeysIn def.columns which.parts was.values → HaveKeysIn def.columns which.parts is.values → IsSoundIndex def rows (pending_blocks forests.map) which t
            → IsTrue (differ_in def was is which) → IsEntryOf (entry_of def is rid which) (leaf_entries t) → ⊥
        absent which t parts was_key is_key one differs at = elim (whose which t one (entry_of def is rid which) at) [
          | inl row ↦
              let r = from_map (entry_of_row def which) rows (entry_of def is rid which) row in
              let here = row_lies r.0 r.1 in
              let at_rid : r.0.rid ≡ rid = sym (row_in_entry (key_bytes def.columns which.parts r.0.row.values) r.0.rid here.0) ∙ (ap rid_in_entry r.2 ∙ row_in_entry (key_bytes def.columns which.parts is.values) rid place) in
              let is_was : r.0.row ≡ was = same_Some r.0.row was (sym here.1 ∙ (ap (row_at_spot spots) at_rid ∙ row_at was rid slots lies)) in
              let e : record_entry def.columns which.parts was.values r.0.rid ≡ record_entry def.columns which.parts is.values rid =
              ap (λ (w : Row). record_entry def.columns which.parts w.values r.0.rid) (sym is_was) ∙ r.2 in
              differ (key_bytes def.columns which.parts was.values) (key_bytes def.columns which.parts is.values) differs
              (same_key (key_bytes def.columns which.parts was.values) (key_bytes def.columns which.parts is.values) r.0.rid rid
              (length-row_key def.columns which.parts was.values parts.key.there was_key ∙ sym (length-row_key def.columns which.parts is.values parts.key.there is_key)) e)
          | inr spare ↦ not_pending rid.block used (subst (Contains (pending_blocks forests.map)) (block_named def which is.values rid parts.key is_key place) spare)
        ]

        none : (indexes : List IndexDef) (trees : List Forest) → AllByRecursion (λ which. AreIndexParts def.columns which.parts) indexes → AllByRecursion (λ which. HaveKeysIn def.columns which.parts was.values) indexes
            → AllByRecursion (λ which. HaveKeysIn def.columns which.parts is.values) indexes → AllZip (IsSoundIndex def rows (pending_blocks forests.map)) indexes trees
            → EachChosen (λ which t. IsEntryOf (entry_of def is rid which) (leaf_entries t) → ⊥) (map (differ_in def was is) indexes) indexes trees
        none [] trees parts was_key is_key all = tt
        none (which ∷ indexes) [] parts was_key is_key all = tt
        none (which ∷ indexes) (t ∷ trees) parts was_key is_key all =
            (λ chosen. absent which t parts.0 was_key.0 is_key.0 all.0 chosen, none indexes trees parts.1 was_key.1 is_key.1 all.1)
