-- Blocks that are rolled out one after the other, in the order of the composite index.
use Rattle.std.proofs.Common.{◌≡◌, ◌≢◌, ◌<◌, ◌≤◌, ◌+◌, ◌∙◌, ◌⊎◌, ◌++◌, ℕ, suc, List, [], ◌∷◌, true, false, length, map, set, sym, ap, subst, arith, inl, inr, append_assoc, append-nil, eqb}
use Rattle.std.specs.Prelude.{◌||◌, AllPairs, Contains, IsPermutation, Option, slice_index_or}
use Rattle.std.specs.List.{AllByRecursion, AllZip, IsDistinct, list_any}
use Rattle.std.proofs.lemmas.Bool.{cases_eq, false≢true, ne_eqb}
use Rattle.std.proofs.lemmas.Grind.{flat_map-append}
use Rattle.std.proofs.lemmas.List.{length-append}
use Rattle.std.proofs.lemmas.List.Elements.{Contains-append_cases}
use Rattle.std.proofs.lemmas.List.Sorted.{IsPermutation-append_comm, IsPermutation-append_left, IsPermutation-append_right, IsPermutation-sym, IsPermutation-trans}
use Rattle.std.proofs.lemmas.Map.Steps.{length-le_from_distinct_below}
use Rattle.mdc_ast.specs.declared.definition.IndexDef.{IndexDef}
use Rattle.mdc_ast.specs.declared.definition.TableDef.{TableDef}
use Rattle.mdc_ast.specs.declared.row.Row.{Row}
use Rattle.store_api.specs.declared.pages.Pages.{Ghosts}
use Rattle.store_api.specs.declared.shape.Shape.{Shape}
use Rattle.extent_map.specs.declared.kind.Kind.{Kind}
use Rattle.extent_map.specs.declared.space_notes.SpaceNotes.{SpaceNotes}
use Rattle.entry_tree.specs.Forest.{Forest, leaf_entries}
use Rattle.block_map.proofs.MapLinesLemmas.{contains_more}
use Rattle.block_index.specs.declared.listed_cells.CellBlock.{CellBlock}
use Rattle.mdc_sound.specs.BlockRules.{IsSoundIndex, block_in_entry, entry_of_row}
use Rattle.mdc_sound.specs.Placing.{AfterReturns, Spot, SpotsAfterReturns, rows_from_spot, rows_in_spot}
use Rattle.mdc_sound.specs.Placing.Spot.{FreeBlock, OtherBlock, UsedBlock}
use Rattle.mdc_sound.specs.StandingTable.{StandsTable, TableForests, pages_of, spots_of}
use Rattle.mdc_sound.specs.TableRows.{PlacedRow, rows_from_slot, rows_in_table}
use Rattle.mdc_sound.proofs.BlockRulesLemmas.{each_of}
use Rattle.mdc_sound.proofs.ChangedRowsLemmas.{rows_of_standing}
use Rattle.mdc_sound.proofs.ElementsLemmas.{each_in}
use Rattle.mdc_sound.proofs.MappedBlocksLemmas.{few_extents}
use Rattle.mdc_sound.proofs.PlacingLemmas.{cut_rows, rows_returned}
use Rattle.mdc_sound.proofs.SlotRowsLemmas.{length-rows_from_slot}
use Rattle.mdc_sound.proofs.TableSpotsLemmas.{length-spots}
use Rattle.table_blocks.proofs.SpotChangesLemmas.{returns_change}
use Rattle.mdc_table.proofs.KeptRoomsLemmas.{used_below}
use Rattle.row_entries.specs.SoundEntries.{StayPending}
use Rattle.cell_change.proofs.SpotStepsLemmas.{returns_leave, returns_then, set_both, used_back, used_on}
use Rattle.cell_change.proofs.TableStepsLemmas.{changes_table_then}
use Rattle.rollout.specs.RolledBlocks.{IsBlockOfCell, RollsBlock}
use Rattle.rollout.specs.RolledSome.{RollsSome, freed, rows_of}
use Rattle.rollout.specs.declared.rolling.RolledOut.{RolledOut}
use Rattle.rollout.proofs.ChosenBlocksLemmas.{alone, differ_more}
use Rattle.rollout.proofs.TurnedSpotsLemmas.{turned_more, turned_other}

-- ---- numbers that differ, below a bound

no_equal : (b : ℕ) (blocks : List ℕ) → (Contains blocks b → ⊥) → AllByRecursion (λ c. eqb b c ≡ false) blocks
no_equal b [] out = tt
no_equal b (c ∷ blocks) out = (ne_eqb b c (λ same. out (0, omega arith, sym same)), no_equal b blocks (λ there. out (contains_more b c blocks there)))

distinct : (blocks : List ℕ) → AllPairs (λ a b. a ≢ b) blocks → IsDistinct eqb blocks
unfolding IsDistinct
distinct [] differ = tt
distinct (b ∷ blocks) differ = (
  no_equal b blocks (λ (k, low, at). differ 0 (suc k) b (omega arith) (omega (arith, low)) (sym at)),
  distinct blocks (λ i j d low high. differ (suc i) (suc j) d (omega (arith, low)) (omega (arith, high))),
)

pub few_of : (blocks : List ℕ) (n : ℕ) → AllPairs (λ a b. a ≢ b) blocks → ((b : ℕ) → Contains blocks b → b < n) → length blocks ≤ n
few_of blocks n differ below = length-le_from_distinct_below blocks n (distinct blocks differ) (λ q is. below q (there blocks q is))
  where
    there : (xs : List ℕ) (q : ℕ) → list_any (eqb q) xs ≡ true → Contains xs q
    there [] q is = absurd (false≢true is)
    there (x ∷ xs) q is = elim (cases_eq q x) [
      | inl same ↦ (0, omega arith, sym same)
      | inr other ↦ contains_more q x xs (there xs q (sym (ap (λ b. b || list_any (eqb q) xs) (ne_eqb q x other)) ∙ is))
    ]

-- ---- record indexes

pub more_pending : (def : TableDef) (rows : List PlacedRow) (pending pending_now : List ℕ) → StayPending pending pending_now → (indexes : List IndexDef) (trees : List Forest) → AllZip (IsSoundIndex def rows pending) indexes trees
    → AllZip (IsSoundIndex def rows pending_now) indexes trees
more_pending def rows pending pending_now stay [] [] all = tt
more_pending def rows pending pending_now stay [] (t ∷ trees) all = absurd all
more_pending def rows pending pending_now stay (which ∷ indexes) [] all = absurd all
more_pending def rows pending pending_now stay (which ∷ indexes) (t ∷ trees) all = (
  record {
    has = all.0.has;
    only = each_in (λ x. Contains (map (entry_of_row def which) rows) x ⊎ Contains pending_now (block_in_entry def which.parts x)) (leaf_entries t) (λ x there. elim (each_of (λ x. Contains (map (entry_of_row def which) rows) x ⊎ Contains pending (block_in_entry def which.parts x)) (leaf_entries t) x all.0.only there) [
      | inl row ↦ inl row
      | inr spare ↦ inr (stay (block_in_entry def which.parts x) spare)
    ]);
  },
  more_pending def rows pending pending_now stay indexes trees all.1,
)

exchange : {X : Type 0} (a b c : List X) → IsPermutation (a ++ (b ++ c)) (b ++ (a ++ c))
exchange a b c =
    subst (λ l. IsPermutation l (b ++ (a ++ c))) (append_assoc a b c)
    (subst (λ r. IsPermutation ((a ++ b) ++ c) r) (append_assoc b a c) (IsPermutation-append_left c (a ++ b) (b ++ a) (IsPermutation-append_comm a b)))

module _ {S : Type 0} (g : Ghosts S) (shape : Shape) (def : TableDef) where
  module _ {before noted : SpaceNotes} (old new : S) (block rows : ℕ) (owners : List Kind) (forests : TableForests) (st : StandsTable g shape old def owners forests) (rolls : RollsBlock g shape before noted old new def block rows owners forests) where
    abbrev spots_old : List Spot
    spots_old = spots_of g shape old def owners forests

    abbrev spots_new : List Spot
    spots_new = spots_of g shape new def rolls.owners_now rolls.forests_now

    -- the rows that there were are those of the block and those that are left
    pub rows_left : IsPermutation (rows_from_slot block 0 rolls.slots ++ rows_in_table shape (pages_of g new) def rolls.forests_now.map) (rows_in_table shape (pages_of g old) def forests.map)
    rows_left =
        let mine = rows_from_slot block 0 rolls.slots in
        let were = rows_in_table shape (pages_of g old) def forests.map in
        let are = rows_in_table shape (pages_of g new) def rolls.forests_now.map in
        let cut = cut_rows 0 block block spots_old (UsedBlock rolls.slots) OtherBlock (used_below spots_old block rolls.slots rolls.was) rolls.was (omega arith) in
        let now : IsPermutation are (cut.front ++ cut.back) =
        subst (IsPermutation are) (sym (rows_returned 0 (set spots_old block FreeBlock) spots_new rolls.spots) ∙ cut.set_rows FreeBlock) (rows_of_standing g shape new def rolls.owners_now rolls.forests_now rolls.changes.stands) in
        let then : IsPermutation (cut.front ++ (mine ++ cut.back)) were =
        subst (λ l. IsPermutation l were) cut.rows_are (IsPermutation-sym were (rows_from_spot 0 spots_old) (rows_of_standing g shape old def owners forests st)) in
        IsPermutation-trans (mine ++ are) (mine ++ (cut.front ++ cut.back)) were (IsPermutation-append_right mine are (cut.front ++ cut.back) now)
        (IsPermutation-trans (mine ++ (cut.front ++ cut.back)) (cut.front ++ (mine ++ cut.back)) were (exchange mine cut.front cut.back) then)

-- ---- some blocks

module _ {S : Type 0} (g : Ghosts S) (shape : Shape) (def : TableDef) (old : S) (owners : List Kind) (forests : TableForests) where
  abbrev spots_then : List Spot
  spots_then = spots_of g shape old def owners forests

  abbrev rows_then : List ℕ → List PlacedRow
  rows_then = rows_of spots_then

  module _ {before noted : SpaceNotes} (now : S) (blocks : List ℕ) (rolled : RolledOut) (some : RollsSome g shape before noted old now def blocks rolled owners forests) where
    abbrev spots_now : List Spot
    spots_now = spots_of g shape now def some.owners_now some.forests_now

    -- a Used block that isn't one of them is as it was
    pub spot_on : (block : ℕ) (slots : List (Option Row)) → (Contains blocks block → ⊥) → slice_index_or spots_then block OtherBlock ≡ UsedBlock slots → slice_index_or spots_now block OtherBlock ≡ UsedBlock slots
    spot_on block slots out is = used_on returns_leave (freed blocks spots_then) spots_now some.spots block slots (turned_other FreeBlock blocks spots_then block out ∙ is)

    pub spot_back : (block : ℕ) (slots : List (Option Row)) → (Contains blocks block → ⊥) → slice_index_or spots_now block OtherBlock ≡ UsedBlock slots → slice_index_or spots_then block OtherBlock ≡ UsedBlock slots
    spot_back block slots out is = sym (turned_other FreeBlock blocks spots_then block out) ∙ used_back returns_leave (freed blocks spots_then) spots_now some.spots block slots is

    pub block_on : (one : CellBlock) → (Contains blocks one.block → ⊥) → IsBlockOfCell g shape old def one owners forests → IsBlockOfCell g shape now def one some.owners_now some.forests_now
    block_on one out is = record { slots = is.slots; spot = spot_on one.block is.slots out is.spot; row = is.row; there = is.there; cell = is.cell }

    -- the next one is rolled out
    module _ {noted_now : SpaceNotes} (new : S) (one : CellBlock) (rows : ℕ) (out : Contains blocks one.block → ⊥) (longer : length (pages_of g old) ≤ length (pages_of g now)) (still_longer : length (pages_of g now) ≤ length (pages_of g new))
        (r : RollsBlock g shape noted noted_now now new def one.block rows some.owners_now some.forests_now) where
      slots_then : slice_index_or spots_then one.block OtherBlock ≡ UsedBlock r.slots
      slots_then = spot_back one.block r.slots out r.was

      low : one.block < length spots_then
      low = used_below spots_then one.block r.slots slots_then

      blocks_now : List ℕ
      blocks_now = blocks ++ one.block ∷ []

      once_now : AllPairs (λ a b. a ≢ b) blocks_now
      unfolding blocks_now
      once_now = differ_more blocks one.block some.once out

      within_now : (b : ℕ) → Contains blocks_now b → b < length spots_then
      unfolding blocks_now
      within_now b there = elim (Contains-append_cases blocks (one.block ∷ []) b there) [
        | inl early ↦ some.within b early
        | inr last ↦ subst (λ n. n < length spots_then) (alone b one.block last) low
      ]

      -- so that the counts fit
      pub few_now : length blocks + 1 ≤ 65536
      unfolding blocks_now
      few_now = omega (arith, few_of blocks_now (length spots_then) once_now within_now, length-append blocks (one.block ∷ []), length-spots shape (pages_of g old) def owners forests.map, few_extents shape)

      rows_now_are : rows_then blocks_now ≡ rows_then blocks ++ rows_from_slot one.block 0 r.slots
      unfolding blocks_now
      rows_now_are =
          flat_map-append (λ b. rows_in_spot b (slice_index_or spots_then b OtherBlock)) blocks (one.block ∷ [])
          ∙ ap (λ last. rows_then blocks ++ last) (append-nil (rows_in_spot one.block (slice_index_or spots_then one.block OtherBlock)) ∙ ap (rows_in_spot one.block) slots_then)

      count_now : length (rows_then blocks_now) ≡ length (rows_then blocks) + rows
      count_now = omega (arith, ap length rows_now_are, length-append (rows_then blocks) (rows_from_slot one.block 0 r.slots), length-rows_from_slot one.block 0 r.slots, r.counted)

      pub rolls_more : (rolled_now : RolledOut) → rows < 65536 → rolled_now.rows ≡ rolled.rows + rows → rolled_now.blocks ≡ rolled.blocks + 1
          → RollsSome g shape before noted_now old new def (blocks ++ one.block ∷ []) rolled_now owners forests
      unfolding blocks_now
      rolls_more rolled_now few rows_more blocks_more = record {
        owners_now = r.owners_now;
        forests_now = r.forests_now;
        changes = changes_table_then g shape old now def owners forests some.owners_now some.forests_now some.changes new r.owners_now r.forests_now r.changes (λ e none. sym (some.owned e) ∙ none) longer still_longer;
        owned = λ e. r.owned e ∙ some.owned e;
        pages = λ p is. some.pages p (r.pages p is);
        records = r.records ∙ some.records;
        once = once_now;
        within = within_now;
        spots = subst (λ l. SpotsAfterReturns l (spots_of g shape new def r.owners_now r.forests_now)) (sym (turned_more FreeBlock blocks one.block spots_then))
            (returns_then (set (freed blocks spots_then) one.block FreeBlock) (set spots_now one.block FreeBlock) (spots_of g shape new def r.owners_now r.forests_now)
            (set_both AfterReturns (freed blocks spots_then) spots_now one.block FreeBlock (returns_change.stays FreeBlock) some.spots) r.spots);
        whole = whole_now;
        rows = omega (arith, rows_more, some.rows, count_now);
        count = omega (arith, blocks_more, some.count, length-append blocks (one.block ∷ []));
        few = omega (arith, count_now, few, some.few, length-append blocks (one.block ∷ []));
      }
        where
          whole_now : IsPermutation (rows_then blocks_now ++ rows_in_table shape (pages_of g new) def r.forests_now.map) (rows_in_table shape (pages_of g old) def forests.map)
          whole_now =
              let mine = rows_from_slot one.block 0 r.slots in
              let were = rows_in_table shape (pages_of g now) def some.forests_now.map in
              let are = rows_in_table shape (pages_of g new) def r.forests_now.map in
              let left = rows_left g shape def now new one.block rows some.owners_now some.forests_now some.changes.stands r in
              subst (λ l. IsPermutation l (rows_in_table shape (pages_of g old) def forests.map)) (sym (append_assoc (rows_then blocks) mine are) ∙ ap (λ l. l ++ are) (sym rows_now_are))
              (IsPermutation-trans (rows_then blocks ++ (mine ++ are)) (rows_then blocks ++ were) (rows_in_table shape (pages_of g old) def forests.map)
              (IsPermutation-append_right (rows_then blocks) (mine ++ are) were left) some.whole)
