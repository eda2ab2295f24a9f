-- Which entries a sweep takes from sound record indexes: exactly those of the rows of its blocks.
use Rattle.std.proofs.Common.{◌≡◌, ◌≢◌, ◌⊎◌, ◌∙◌, ◌==◌, ℕ, List, [], ◌∷◌, false, true, length, map, refl, ap, arith, sym, subst, inl, inr}
use Rattle.std.specs.Prelude.{◌||◌, Bool, Contains, filter, not}
use Rattle.std.specs.List.{AllByRecursion, AllZip, list_any}
use Rattle.std.proofs.lemmas.Bool.{cases_eq, eq-eqb, false≢true, ne_eqb}
use Rattle.mdc_words.specs.ByteOrder.{Entry}
use Rattle.mdc_ast.specs.FittingRows.{RowFits}
use Rattle.mdc_ast.specs.TableLimits.{IsGoodIndex, IsTableDef}
use Rattle.mdc_ast.specs.declared.definition.IndexDef.{IndexDef}
use Rattle.mdc_ast.specs.declared.definition.TableDef.{TableDef}
use Rattle.store_api.specs.declared.pages.Pages.{Ghosts}
use Rattle.store_api.specs.declared.shape.Shape.{Shape}
use Rattle.extent_map.specs.declared.kind.Kind.{Kind}
use Rattle.node_page.specs.Entries.{names_block}
use Rattle.entry_tree.specs.EntryBounds.{IsEntryOf}
use Rattle.entry_tree.specs.Forest.{Forest, leaf_entries}
use Rattle.block_map.specs.MapLines.{pending_blocks, used_blocks}
use Rattle.block_map.proofs.MapLinesLemmas.{contains_cases, contains_more}
use Rattle.mdc_sound.specs.BlockRules.{AreBlockRowsSound, IsSoundIndex, block_in_entry, entry_of_row}
use Rattle.mdc_sound.specs.Placing.Spot.{OtherBlock, PendingBlock, UsedBlock}
use Rattle.mdc_sound.specs.StandingTable.{StandsTable, TableForests, pages_of}
use Rattle.mdc_sound.specs.TableRows.{PlacedRow, block_slots, rows_in_block, rows_in_table}
use Rattle.mdc_sound.proofs.BlockRulesLemmas.{each_of}
use Rattle.mdc_sound.proofs.ElementsLemmas.{contains_entry, contains_flat, entry_in, flat_contains, from_map}
use Rattle.mdc_sound.proofs.SlotRowsLemmas.{slot_of_placed}
use Rattle.mdc_sound.proofs.TableSpotsLemmas.{pending_spot, used_spot}
use Rattle.record_index.specs.FoundRids.{IsRid}
use Rattle.record_index.proofs.KeysLemmas.{keys_of_fitting}
use Rattle.record_index.proofs.SoundRowsLemmas.{block_named}
use Rattle.row_entries.proofs.StandingRowsLemmas.{lie_apart}
use Rattle.table_scan.proofs.ScanningLemmas.{filter_first, filter_past}
use Rattle.rollout.specs.LeavingRows.{AreUsedBlocks, rows_in_blocks}
use Rattle.rollout.specs.LostEntries.{EachKept, EachLost, KeepsEntries, KeptFrom, LostFrom}
use Rattle.rollout.specs.SweptIndexes.{AreSwept, SweptTree, key_width_of}

-- ---- tests

pub named_there : (blocks : List ℕ) (n : ℕ) → list_any (λ block. block == n) blocks ≡ true → Contains blocks n
named_there [] n is = absurd (false≢true is)
named_there (b ∷ blocks) n is = elim (cases_eq b n) [
  | inl same ↦ (0, omega arith, same)
  | inr other ↦ contains_more n b blocks (named_there blocks n (sym (ap (λ t. t || list_any (λ block. block == n) blocks) (ne_eqb b n other)) ∙ is))
]

pub there_named : (blocks : List ℕ) (n : ℕ) → Contains blocks n → list_any (λ block. block == n) blocks ≡ true
there_named blocks n there = go (list_any (λ block. block == n) blocks) refl
  where
    eq_is : {x : ℕ} → x ≡ n → (x == n) ≡ true
    eq_is {x} same = eq-eqb x n same

    never : (xs : List ℕ) → list_any (λ block. block == n) xs ≡ false → Contains xs n → ⊥
    never [] is has = omega (arith, has.1)
    never (x ∷ xs) is has = elim (cases_eq x n) [
      | inl same ↦ absurd (false≢true (sym is ∙ ap (λ t. t || list_any (λ block. block == n) xs) (eq_is same)))
      | inr other ↦ elim (contains_cases n x xs has) [
        | inl here ↦ other here
        | inr later ↦ never xs (sym (ap (λ t. t || list_any (λ block. block == n) xs) (ne_eqb x n other)) ∙ is) later
      ]
    ]

    go : (t : Bool) → list_any (λ block. block == n) blocks ≡ t → list_any (λ block. block == n) blocks ≡ true
    go true is = is
    go false is = absurd (never blocks is there)

-- an entry that passes is one of those that there were
pub was_there : (p : Entry → Bool) (xs : List Entry) (y : Entry) → IsEntryOf y (filter p xs) → IsEntryOf y xs × (p y ≡ true)
was_there p [] y at = absurd at
was_there p (x ∷ xs) y at = go (p x) refl (was_there p xs y)
  where
    go : (t : Bool) → p x ≡ t → (IsEntryOf y (filter p xs) → IsEntryOf y xs × (p y ≡ true)) → IsEntryOf y (x ∷ xs) × (p y ≡ true)
    go true is rest = elim (subst (IsEntryOf y) (filter_first p x xs is) at) [
      | inl here ↦ (inl here, ap p here ∙ is)
      | inr later ↦ (let r = rest later in (inr r.0, r.1))
    ]
    go false is rest = let r = rest (subst (IsEntryOf y) (filter_past p x xs is) at) in (inr r.0, r.1)

-- and one of those that passes is left
pub still_there : (p : Entry → Bool) (xs : List Entry) (y : Entry) → IsEntryOf y xs → p y ≡ true → IsEntryOf y (filter p xs)
still_there p [] y at passes = absurd at
still_there p (x ∷ xs) y at passes = go (p x) refl (λ later. still_there p xs y later passes)
  where
    go : (t : Bool) → p x ≡ t → (IsEntryOf y xs → IsEntryOf y (filter p xs)) → IsEntryOf y (filter p (x ∷ xs))
    go true is rest = subst (IsEntryOf y) (sym (filter_first p x xs is)) (elim at [ inl here ↦ inl here | inr later ↦ inr (rest later) ])
    go false is rest = elim at [
      | inl here ↦ absurd (false≢true (sym is ∙ ap p (sym here) ∙ passes))
      | inr later ↦ subst (IsEntryOf y) (sym (filter_past p x xs is)) (rest later)
    ]

-- ---- the rows of some blocks

module _ {S : Type 0} (g : Ghosts S) (shape : Shape) (s : S) (def : TableDef) (defined : IsTableDef def.number def) (owners : List Kind) (forests : TableForests) (st : StandsTable g shape s def owners forests)
    (blocks : List ℕ) (used : AreUsedBlocks blocks owners forests) where
  abbrev pub rows : List PlacedRow
  rows = rows_in_table shape (pages_of g s) def forests.map

  abbrev pub mine : List PlacedRow
  mine = rows_in_blocks shape (pages_of g s) def blocks

  -- they are rows of the table, in these blocks
  pub in_table : (placed : PlacedRow) → Contains mine placed → Contains rows placed × Contains blocks placed.rid.block
  in_table placed there =
      let b = flat_contains (rows_in_block shape (pages_of g s) def) blocks placed there in
      let same : placed.rid.block ≡ b.0 = (slot_of_placed b.0 0 (block_slots shape (pages_of g s) def b.0) placed b.2).1 in
      (contains_flat (rows_in_block shape (pages_of g s) def) (used_blocks forests.map) b.0 placed (used b.0 b.1) b.2, subst (Contains blocks) (sym same) b.1)

  -- and a row of the table that lies in one of them is one of them
  in_blocks : (placed : PlacedRow) → Contains rows placed → Contains blocks placed.rid.block → Contains mine placed
  in_blocks placed there here =
      let b = flat_contains (rows_in_block shape (pages_of g s) def) (used_blocks forests.map) placed there in
      let same : placed.rid.block ≡ b.0 = (slot_of_placed b.0 0 (block_slots shape (pages_of g s) def b.0) placed b.2).1 in
      contains_flat (rows_in_block shape (pages_of g s) def) blocks b.0 placed (subst (Contains blocks) same here) b.2

  row_fits : (placed : PlacedRow) → Contains rows placed → RowFits def placed.row
  row_fits placed there =
      let b = flat_contains (rows_in_block shape (pages_of g s) def) (used_blocks forests.map) placed there in
      each_of (λ (p : PlacedRow). RowFits def p.row) (rows_in_block shape (pages_of g s) def b.0) placed (each_of (AreBlockRowsSound shape (pages_of g s) def) (used_blocks forests.map) b.0 st.rows b.1).rows b.2

  -- none of the blocks is Pending
  not_pending : (block : ℕ) → Contains blocks block → Contains (pending_blocks forests.map) block → ⊥
  not_pending block here there =
      let is_used = used_spot shape (pages_of g s) def owners forests.map block OtherBlock st.map (used block here) in
      let is_pending = pending_spot shape (pages_of g s) def owners forests.map block OtherBlock st.map there in
      let wrong : UsedBlock (block_slots shape (pages_of g s) def block) ≡ PendingBlock = sym is_used ∙ is_pending in
      absurd cc

  module _ (which : IndexDef) (good : IsGoodIndex def.columns which) where
    -- the entry of a row names its block
    names_row : (placed : PlacedRow) → Contains rows placed → block_in_entry def which.parts (entry_of_row def which placed) ≡ placed.rid.block
    names_row placed there =
        block_named def which placed.row.values placed.rid (record { there = good.there; short = good.short }) (keys_of_fitting def.columns which.parts placed.row.values good.there (row_fits placed there).values)
        (each_of (λ (p : PlacedRow). IsRid p.rid) rows placed (lie_apart g shape s def owners forests st).places there)

    -- whether an entry stays
    abbrev stays : Entry → Bool
    stays y = not (names_block blocks (key_width_of def which) y)

    -- that of a row of the blocks names one
    pub names_mine : (placed : PlacedRow) → Contains mine placed → names_block blocks (key_width_of def which) (entry_of_row def which placed) ≡ true
    names_mine placed there =
        let is = in_table placed there in
        there_named blocks (block_in_entry def which.parts (entry_of_row def which placed)) (subst (Contains blocks) (sym (names_row placed is.0)) is.1)

    -- and one that names one is that of a row of them, where the index is sound
    pub row_named : (t : Forest) → IsSoundIndex def rows (pending_blocks forests.map) which t → (y : Entry) → IsEntryOf y (leaf_entries t) → names_block blocks (key_width_of def which) y ≡ true
        → (placed : PlacedRow) × Contains mine placed × (entry_of_row def which placed ≡ y)
    row_named t sound y at is =
        let here = named_there blocks (block_in_entry def which.parts y) is in
        elim (each_of (λ x. Contains (map (entry_of_row def which) rows) x ⊎ Contains (pending_blocks forests.map) (block_in_entry def which.parts x)) (leaf_entries t) y sound.only (contains_entry (leaf_entries t) y at)) [
          | inl row ↦ (
              let r = from_map (entry_of_row def which) rows y row in
              let block : block_in_entry def which.parts y ≡ r.0.rid.block = ap (block_in_entry def which.parts) (sym r.2) ∙ names_row r.0 r.1 in
              (r.0, in_blocks r.0 r.1 (subst (Contains blocks) block here), r.2))
          | inr spare ↦ absurd (not_pending (block_in_entry def which.parts y) here spare)
        ]

    one_swept : (t u : Forest) (removed : ℕ) → SweptTree (key_width_of def which) blocks removed t u → IsSoundIndex def rows (pending_blocks forests.map) which t → LostFrom def mine which t u
    one_swept t u removed swept sound = record {
      had = λ placed there. entry_in (leaf_entries t) (entry_of_row def which placed) (each_of (λ p. Contains (leaf_entries t) (entry_of_row def which p)) rows placed sound.has (in_table placed there).0);
      left = λ y. (
        λ at.
            let was = was_there stays (leaf_entries t) y (subst (IsEntryOf y) swept.leaves at) in (
              was.0,
              λ placed there same. false≢true (sym (ap not (ap (names_block blocks (key_width_of def which)) same ∙ names_mine placed there)) ∙ was.1),
            ),
        λ both. subst (IsEntryOf y) (sym swept.leaves) (still_there stays (leaf_entries t) y both.0 (unnamed y both.0 both.1)),
      );
    }
      where
        unnamed : (y : Entry) → IsEntryOf y (leaf_entries t) → ((placed : PlacedRow) → Contains mine placed → y ≢ entry_of_row def which placed) → not (names_block blocks (key_width_of def which) y) ≡ true
        unnamed y at apart = go (names_block blocks (key_width_of def which) y) refl
          where
            go : (t : Bool) → names_block blocks (key_width_of def which) y ≡ t → not (names_block blocks (key_width_of def which) y) ≡ true
            go false is = ap not is
            go true is = let r = row_named t sound y at is in absurd (apart r.0 r.1 (sym r.2))

    -- whatever the index had, no entry of the rows is left, and all that name none of the blocks are
    one_kept : (t u : Forest) (removed : ℕ) → removed ≡ length mine → SweptTree (key_width_of def which) blocks removed t u → KeptFrom def blocks mine which t u
    one_kept t u removed count swept = record {
      had = λ y at. (was_there stays (leaf_entries t) y (subst (IsEntryOf y) swept.leaves at)).0;
      stay = λ y at unnamed. subst (IsEntryOf y) (sym swept.leaves) (still_there stays (leaf_entries t) y at (ap not unnamed));
      went = λ placed there at.
          let was = was_there stays (leaf_entries t) (entry_of_row def which placed) (subst (IsEntryOf (entry_of_row def which placed)) swept.leaves at) in
          false≢true (sym (ap not (names_mine placed there)) ∙ was.1);
      counted = omega (arith, swept.fewer, count);
    }

  -- so does each index
  each_of_swept : (removed : ℕ) (indexes : List IndexDef) (trees after : List Forest) → AllByRecursion (IsGoodIndex def.columns) indexes → AreSwept def blocks removed (length indexes) indexes trees after
      → AllZip (IsSoundIndex def rows (pending_blocks forests.map)) indexes trees → EachLost def mine indexes trees after
  each_of_swept removed [] [] after good swept sound = subst (EachLost def mine [] []) (sym swept) tt
  each_of_swept removed [] (t ∷ trees) after good swept sound = absurd sound
  each_of_swept removed (which ∷ indexes) [] after good swept sound = absurd sound
  each_of_swept removed (which ∷ indexes) (t ∷ trees) [] good swept sound = absurd swept
  each_of_swept removed (which ∷ indexes) (t ∷ trees) (u ∷ after) good swept sound = (one_swept which good.0 t u removed swept.0 sound.0, each_of_swept removed indexes trees after good.1 swept.1 sound.1)

  pub each_swept : (removed : ℕ) (trees after : List Forest) → AreSwept def blocks removed (length def.indexes) def.indexes trees after → AllZip (IsSoundIndex def rows (pending_blocks forests.map)) def.indexes trees → EachLost def mine def.indexes trees after
  each_swept removed trees after swept sound = each_of_swept removed def.indexes trees after defined.indexes.good swept sound

  each_of_kept : (removed : ℕ) → removed ≡ length mine → (indexes : List IndexDef) (trees after : List Forest) → length trees ≡ length indexes → AllByRecursion (IsGoodIndex def.columns) indexes
      → AreSwept def blocks removed (length indexes) indexes trees after → EachKept def blocks mine indexes trees after
  each_of_kept removed count [] [] after long good swept = subst (EachKept def blocks mine [] []) (sym swept) tt
  each_of_kept removed count [] (t ∷ trees) after long good swept = absurd (omega (arith, long))
  each_of_kept removed count (which ∷ indexes) [] after long good swept = absurd swept
  each_of_kept removed count (which ∷ indexes) (t ∷ trees) [] long good swept = absurd swept
  each_of_kept removed count (which ∷ indexes) (t ∷ trees) (u ∷ after) long good swept =
      (one_kept which good.0 t u removed count swept.0, each_of_kept removed count indexes trees after (omega (arith, long)) good.1 swept.1)

  pub each_kept : (removed : ℕ) → removed ≡ length mine → (trees after : List Forest) → length trees ≡ length def.indexes → AreSwept def blocks removed (length def.indexes) def.indexes trees after → KeepsEntries def blocks trees mine after
  each_kept removed count trees after long swept = each_of_kept removed count def.indexes trees after long defined.indexes.good swept
