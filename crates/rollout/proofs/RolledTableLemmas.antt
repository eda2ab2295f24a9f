-- Once the entries of the rows that qualify left and their blocks were made Free, the rows that are left don't qualify.
use Rattle.std.proofs.Common.{◌≡◌, ◌≢◌, ◌≤◌, ◌<◌, ◌∙◌, ◌++◌, ℕ, zero, suc, List, [], ◌∷◌, Bool, true, false, get_or, length, refl, sym, ap, subst, arith, inl, inr}
use Rattle.std.specs.Prelude.{◌↔◌, AllPairs, Contains, IsPermutation, IsTrue, Option, Some, flat_map, slice_index_or, sum_by}
use Rattle.std.specs.List.{AllByRecursion, AllZip}
use Rattle.std.proofs.lemmas.Bool.{false≢true}
use Rattle.std.proofs.lemmas.List.Concat.{flat_map-cons, length-flat_map}
use Rattle.std.proofs.lemmas.List.Sorted.{IsPermutation-refl, IsPermutation-sym}
use Rattle.std.proofs.lemmas.List.Sums.{sum_by-append}
use Rattle.mdc_words.specs.ByteOrder.{Entry}
use Rattle.mdc_ast.specs.TableLimits.{IsTableDef}
use Rattle.mdc_ast.specs.declared.definition.TableDef.{TableDef}
use Rattle.mdc_ast.specs.declared.predicate.Pred.{Pred}
use Rattle.mdc_ast.specs.declared.row.Row.{Row}
use Rattle.store_api.specs.declared.pages.Pages.{Ghosts}
use Rattle.store_api.specs.declared.shape.Shape.{Shape}
use Rattle.extent_map.specs.declared.kind.Kind.{Kind}
use Rattle.extent_map.specs.declared.space_notes.SpaceNotes.{SpaceNotes}
use Rattle.node_page.specs.Entries.{names_block}
use Rattle.node_page.specs.Node.{number_within}
use Rattle.entry_tree.specs.Forest.{Forest, times}
use Rattle.block_map.specs.MapLines.{pending_blocks, used_blocks}
use Rattle.block_map.proofs.MapLinesLemmas.{contains_more}
use Rattle.block_index.specs.declared.listed_cells.CellBlock.{CellBlock}
use Rattle.free_space.specs.RoomNotes.{no_note}
use Rattle.table_trees.specs.RowCells.{IsCellOf}
use Rattle.table_trees.specs.ToldPages.{PageList}
use Rattle.mdc_sound.specs.Placing.{HasChosenRow, RollsOutSpot, Spot, SpotsAfterReturns, rows_in_spot}
use Rattle.mdc_sound.specs.Placing.Spot.{FreeExtent, IndexExtent, OtherBlock, FreeBlock, PendingBlock, UsedBlock}
use Rattle.mdc_sound.specs.StandingTable.{ChangesTable, RoomNote, StandsTable, TableForests, forests_in_order, pages_of, spots_of}
use Rattle.mdc_sound.specs.TableRows.{PlacedRow, block_slots, rows_in_block, rows_in_table}
use Rattle.mdc_sound.proofs.ElementsLemmas.{contains_flat, each_in, flat_contains}
use Rattle.mdc_sound.proofs.SlotRowsLemmas.{slot_of_placed}
use Rattle.mdc_sound.proofs.TableSpotsLemmas.{used_of_spot, used_spot}
use Rattle.mdc_table.proofs.KeptRoomsLemmas.{rooms_forgotten, used_below}
use Rattle.row_entries.specs.RowEntries.{with_indexes}
use Rattle.row_entries.specs.SoundEntries.{StayPending}
use Rattle.row_entries.proofs.PendingSpotsLemmas.{stay_returned}
use Rattle.row_entries.proofs.StandingRowsLemmas.{lie_apart, pending_by_spot}
use Rattle.cell_change.specs.ExpectedTables.{HasSoundIndexes}
use Rattle.cell_change.proofs.ChangedRowLemmas.{same_returns}
use Rattle.cell_change.proofs.SpotStepsLemmas.{returns_leave, returns_then, used_back, used_on}
use Rattle.cell_change.proofs.TableStepsLemmas.{changes_table_then}
use Rattle.rollout.specs.GoingCells.{JudgesCells, ListsCells, going_numbers}
use Rattle.rollout.specs.LeavingRows.{AreUsedBlocks, LeavesBlocks, rows_in_blocks}
use Rattle.rollout.specs.LostEntries.{KeepsEntries, LosesEntries}
use Rattle.rollout.specs.RolledBlocks.{IsBlockOfCell, RollsOutRows, is_chosen}
use Rattle.rollout.specs.RolledSome.{RollsSome, freed, rows_of}
use Rattle.rollout.specs.declared.rolling.RolledOut.{RolledOut}
use Rattle.table_scan.proofs.ChoosingLemmas.{in_or_not}
use Rattle.rollout.proofs.ChosenBlocksLemmas.{AllChosen, NoneChosen, chosen_listed, listed_chosen}
use Rattle.rollout.proofs.ListedBlocksLemmas.{found_all, found_block}
use Rattle.rollout.proofs.LookedTableLemmas.{looked_table, spots_looked}
use Rattle.rollout.proofs.LosingRowsLemmas.{apart_moved}
use Rattle.rollout.proofs.LostEntriesLemmas.{each_alike, each_kept_alike, none_kept, none_lost, sound_without}
use Rattle.rollout.proofs.RollingBlockLemmas.{sound_all_moved}
use Rattle.rollout.proofs.RollingCellLemmas.{each_of_cell}
use Rattle.rollout.proofs.RollingTableLemmas.{more_pending}
use Rattle.rollout.proofs.SweptCountLemmas.{indexes_long}
use Rattle.rollout.proofs.SweptEntriesLemmas.{named_there, there_named}
use Rattle.rollout.proofs.SweptPartLemmas.{weigh_alike}
use Rattle.rollout.proofs.TurnedSpotsLemmas.{length-turned, turned_after, turned_other, turned_there}

pub zip_from : (R : Spot → Spot → Type 0) (xs ys : List Spot) → length xs ≡ length ys → ((e : ℕ) → e < length xs → R (get_or xs e OtherBlock) (get_or ys e OtherBlock)) → AllZip R xs ys
zip_from R [] [] same each = tt
zip_from R [] (y ∷ ys) same each = absurd (omega (arith, same))
zip_from R (x ∷ xs) [] same each = absurd (omega (arith, same))
zip_from R (x ∷ xs) (y ∷ ys) same each = (each 0 (omega arith), zip_from R xs ys (omega (arith, same)) (λ e low. each (suc e) (omega (arith, low))))

-- a spot with a row that qualifies
pub record HasSuch (chosen : Row → Bool) (spot : Spot) : Type 0 where
  pub slots : List (Option Row)
  pub is : spot ≡ UsedBlock slots
  pub row : Row
  pub there : Contains slots (Some row)
  pub such : IsTrue (chosen row)

pub has_such : (chosen : Row → Bool) (spot : Spot) → HasChosenRow chosen spot → HasSuch chosen spot
has_such chosen FreeExtent has = absurd has
has_such chosen IndexExtent has = absurd has
has_such chosen OtherBlock has = absurd has
has_such chosen FreeBlock has = absurd has
has_such chosen PendingBlock has = absurd has
has_such chosen (UsedBlock slots) has = record { slots = slots; is = refl; row = has.0; there = has.1; such = has.2 }

pub contains_at : (found : List CellBlock) (one : CellBlock) → Contains found one → (k : ℕ) × (k < length found) × (one ≡ get_or found k one)
contains_at [] one there = absurd (omega (arith, there.1))
contains_at (first ∷ found) one (zero, low, at) = (0, omega arith, sym at)
contains_at (first ∷ found) one (suc k, low, at) = let later = contains_at found one (k, omega (arith, low), at) in (suc later.0, omega (arith, later.1), later.2)

-- ---- entries that left, and then blocks

-- The entries of the rows of some blocks left the record indexes, and then the blocks were made Free.
pub record RollsBoth {S : Type 0} (g : Ghosts S) (shape : Shape) (before noted : SpaceNotes) (old now : S) (def : TableDef) (blocks : List ℕ) (rolled : RolledOut) (owners : List Kind) (forests : TableForests) : Type 0 where
  pub owners_now : List Kind
  pub forests_now : TableForests
  pub changes : ChangesTable g shape before noted old now def owners forests owners_now forests_now
  pub pages : (p : ℕ) → 0 < sum_by (times p) (forests_in_order forests_now) → 0 < sum_by (times p) (forests_in_order forests)
  pub once : AllPairs (λ a b. a ≢ b) blocks
  pub within : (b : ℕ) → Contains blocks b → b < length (spots_of g shape old def owners forests)
  pub spots : SpotsAfterReturns (freed blocks (spots_of g shape old def owners forests)) (spots_of g shape now def owners_now forests_now)
  pub kept : KeepsEntries def blocks forests.indexes (rows_of (spots_of g shape old def owners forests) blocks) forests_now.indexes
  pub entries : HasSoundIndexes g shape old def owners forests → LosesEntries def forests.indexes (rows_of (spots_of g shape old def owners forests) blocks) forests_now.indexes
  pub whole : IsPermutation (rows_of (spots_of g shape old def owners forests) blocks ++ rows_in_table shape (pages_of g now) def forests_now.map) (rows_in_table shape (pages_of g old) def forests.map)
  pub rows : rolled.rows ≡ length (rows_of (spots_of g shape old def owners forests) blocks)
  pub count : rolled.blocks ≡ length blocks

-- the rows of blocks whose spots are the same
same_rows_of : (xs ys : List Spot) (blocks : List ℕ) → ((b : ℕ) → Contains blocks b → slice_index_or ys b OtherBlock ≡ slice_index_or xs b OtherBlock) → rows_of ys blocks ≡ rows_of xs blocks
same_rows_of xs ys [] same = refl
same_rows_of xs ys (b ∷ blocks) same =
    flat_map-cons (λ b. rows_in_spot b (slice_index_or ys b OtherBlock)) b blocks
    ∙ (ap (λ (spot : Spot). rows_in_spot b spot ++ rows_of ys blocks) (same b (0, omega arith, refl)) ∙ ap (λ l. rows_in_spot b (slice_index_or xs b OtherBlock) ++ l) (same_rows_of xs ys blocks (λ c there. same c (contains_more c b blocks there))))
    ∙ sym (flat_map-cons (λ b. rows_in_spot b (slice_index_or xs b OtherBlock)) b blocks)

-- the rows of blocks whose spots have these rows
rows_by_block : (spots : List Spot) (rows : ℕ → List PlacedRow) (blocks : List ℕ) → ((b : ℕ) → Contains blocks b → rows_in_spot b (slice_index_or spots b OtherBlock) ≡ rows b) → rows_of spots blocks ≡ flat_map rows blocks
rows_by_block spots rows [] same = refl
rows_by_block spots rows (b ∷ blocks) same =
    flat_map-cons (λ b. rows_in_spot b (slice_index_or spots b OtherBlock)) b blocks
    ∙ (ap (λ l. l ++ rows_of spots blocks) (same b (0, omega arith, refl)) ∙ ap (λ l. rows b ++ l) (rows_by_block spots rows blocks (λ c there. same c (contains_more c b blocks there)))) ∙ sym (flat_map-cons rows b blocks)

-- where blocks are among others, what names none of those names none of these
unnamed_among : (some others : List ℕ) → ((block : ℕ) → Contains some block → Contains others block) → (y : Entry) (n : ℕ) → names_block others n y ≡ false → names_block some n y ≡ false
unnamed_among some others within y n unnamed = go (names_block some n y) refl
  where
    go : (t : Bool) → names_block some n y ≡ t → names_block some n y ≡ false
    go false is = is
    go true is = absurd (false≢true (sym unnamed ∙ there_named others (number_within n 4 y) (within (number_within n 4 y) (named_there some (number_within n 4 y) is))))

module _ {S : Type 0} (g : Ghosts S) (shape : Shape) (def : TableDef) (old mid now : S) {before between noted : SpaceNotes} (sorted blocks : List ℕ) (differ : AllPairs (λ a b. a ≢ b) sorted) (same : (block : ℕ) → Contains sorted block ↔ Contains blocks block) (rolled : RolledOut)
    (owners : List Kind) (forests : TableForests) (st : StandsTable g shape old def owners forests) (used : AreUsedBlocks sorted owners forests)
    (left : LeavesBlocks g shape before between old mid def sorted owners forests)
    (some : RollsSome g shape between noted mid now def blocks rolled left.owners_now (with_indexes forests left.indexes_now)) where
  abbrev spots_old : List Spot
  spots_old = spots_of g shape old def owners forests

  abbrev spots_mid : List Spot
  spots_mid = spots_of g shape mid def left.owners_now (with_indexes forests left.indexes_now)

  old_spot : (b : ℕ) → Contains blocks b → slice_index_or spots_old b OtherBlock ≡ UsedBlock (block_slots shape (pages_of g old) def b)
  old_spot b there = used_spot shape (pages_of g old) def owners forests.map b OtherBlock st.map (used b ((same b).1 there))

  rows_same : rows_of spots_mid blocks ≡ rows_of spots_old blocks
  rows_same = same_rows_of spots_old spots_mid blocks (λ b there.
      used_on returns_leave spots_old spots_mid left.returns b (block_slots shape (pages_of g old) def b) (old_spot b there) ∙ sym (old_spot b there))

  -- the rows of the blocks in the one order and in the other
  rows_alike : (placed : PlacedRow) → Contains (rows_in_blocks shape (pages_of g old) def sorted) placed ↔ Contains (rows_of spots_old blocks) placed
  rows_alike placed = (
    λ there.
        let b = flat_contains (rows_in_block shape (pages_of g old) def) sorted placed there in
        let here = (same b.0).0 b.1 in
        contains_flat (λ b. rows_in_spot b (slice_index_or spots_old b OtherBlock)) blocks b.0 placed here (subst (λ (spot : Spot). Contains (rows_in_spot b.0 spot) placed) (sym (old_spot b.0 here)) b.2),
    λ there.
        let b = flat_contains (λ b. rows_in_spot b (slice_index_or spots_old b OtherBlock)) blocks placed there in
        contains_flat (rows_in_block shape (pages_of g old) def) sorted b.0 placed ((same b.0).1 b.1) (subst (λ (spot : Spot). Contains (rows_in_spot b.0 spot) placed) (old_spot b.0 b.1) b.2),
  )

  -- and they are as many
  rows_as_many : length (rows_in_blocks shape (pages_of g old) def sorted) ≡ length (rows_of spots_old blocks)
  rows_as_many =
      let mine : ℕ → List PlacedRow = rows_in_block shape (pages_of g old) def in
      let are : rows_of spots_old blocks ≡ flat_map mine blocks = rows_by_block spots_old mine blocks (λ b there. ap (rows_in_spot b) (old_spot b there)) in
      length-flat_map mine sorted ∙ weigh_alike (λ b. length (mine b)) sorted blocks differ some.once (λ b there. (same b).1 there) (λ b there. (same b).0 there) ∙ sym (length-flat_map mine blocks) ∙ ap length (sym are)

  pub rolls_both : length (pages_of g old) ≤ length (pages_of g mid) → length (pages_of g mid) ≤ length (pages_of g now) → RollsBoth g shape before noted old now def blocks rolled owners forests
  rolls_both longer still_longer = record {
    owners_now = some.owners_now;
    forests_now = some.forests_now;
    changes = changes_table_then g shape old mid def owners forests left.owners_now (with_indexes forests left.indexes_now) left.table.changes now some.owners_now some.forests_now some.changes (λ e none. sym (left.table.owned e) ∙ none) longer still_longer;
    pages = λ p is.
        let front = forests.map ∷ forests.composite ∷ forests.dims in
        omega (arith, some.pages p is, left.pages p, sum_by-append (times p) front left.indexes_now, sum_by-append (times p) front forests.indexes);
    once = some.once;
    within = λ b there. used_below spots_old b (block_slots shape (pages_of g old) def b) (old_spot b there);
    spots = returns_then (freed blocks spots_old) (freed blocks spots_mid) (spots_of g shape now def some.owners_now some.forests_now) (turned_after FreeBlock blocks spots_old spots_mid left.returns) some.spots;
    kept = subst (λ (trees : List Forest). KeepsEntries def blocks forests.indexes (rows_of spots_old blocks) trees) (sym some.records)
        (each_kept_alike def sorted blocks (unnamed_among sorted blocks (λ b there. (same b).0 there)) (rows_in_blocks shape (pages_of g old) def sorted) (rows_of spots_old blocks) (λ placed there. (rows_alike placed).1 there) rows_as_many
        def.indexes forests.indexes left.indexes_now left.kept);
    entries = λ sound. subst (λ (trees : List Forest). LosesEntries def forests.indexes (rows_of spots_old blocks) trees) (sym some.records)
        (each_alike def (rows_in_blocks shape (pages_of g old) def sorted) (rows_of spots_old blocks) rows_alike def.indexes forests.indexes left.indexes_now (left.lose sound));
    whole = subst (λ l. IsPermutation l (rows_in_table shape (pages_of g old) def forests.map)) (ap (λ l. l ++ rows_in_table shape (pages_of g now) def some.forests_now.map) rows_same)
        (subst (IsPermutation (rows_of spots_mid blocks ++ rows_in_table shape (pages_of g now) def some.forests_now.map)) left.table.rows some.whole);
    rows = some.rows ∙ ap length rows_same;
    count = some.count;
  }

-- no block goes, where calls only looked
pub rolls_nothing : {S : Type 0} (g : Ghosts S) (shape : Shape) (def : TableDef) → IsTableDef def.number def → (old looked : S) {noted : SpaceNotes} (told : (g.state looked).is_told ≡ (g.state old).is_told) (work : (g.state looked).work ≡ (g.state old).work)
    (owners : List Kind) (forests : TableForests) → StandsTable g shape old def owners forests → RollsBoth g shape noted noted old looked def [] (record { rows = 0; blocks = 0 }) owners forests
rolls_nothing g shape def defined old looked told work owners forests st = record {
  owners_now = owners;
  forests_now = forests;
  changes = looked_table g shape old looked def told work owners forests st;
  pages = λ p is. is;
  once = λ i j d low high. absurd (omega (arith, high));
  within = λ b there. absurd (omega (arith, there.1));
  spots = subst (SpotsAfterReturns (spots_of g shape old def owners forests)) (sym (spots_looked g shape old looked def told work owners forests)) (same_returns (spots_of g shape old def owners forests));
  kept = none_kept def [] def.indexes forests.indexes (indexes_long g shape old def defined owners forests st);
  entries = λ sound. none_lost def def.indexes forests.indexes (indexes_long g shape old def defined owners forests st);
  whole = subst (λ (pages : PageList). IsPermutation (rows_in_table shape pages def forests.map) (rows_in_table shape (pages_of g old) def forests.map)) (sym work) (IsPermutation-refl (rows_in_table shape (pages_of g old) def forests.map));
  rows = refl;
  count = refl;
}

-- ---- a rollout

module _ {S : Type 0} (g : Ghosts S) (shape : Shape) (def : TableDef) (defined : IsTableDef def.number def) (pred : Option Pred) (old : S) (owners : List Kind) (forests : TableForests)
    (st : StandsTable g shape old def owners forests) (found : List CellBlock) (listed : ListsCells def found owners forests) (going : List Bool) (judged : JudgesCells def pred found going) where
  abbrev spots_then : List Spot
  spots_then = spots_of g shape old def owners forests

  abbrev blocks : List ℕ
  blocks = going_numbers found going

  is_found : (one : CellBlock) → Contains found one → IsBlockOfCell g shape old def one owners forests
  is_found one there = let at = contains_at found one there in found_block g shape old def owners forests defined st found listed at.0 one at.1 at.2

  of_cell : (one : CellBlock) → Contains found one → (slots : List (Option Row)) → slice_index_or spots_then one.block OtherBlock ≡ UsedBlock slots → (row : Row) → Contains slots (Some row) → IsCellOf def one.cell row.values
  of_cell one there = each_of_cell g shape def defined old one owners forests st (is_found one there)

  -- a block that went was a Used one, with rows that all qualify
  record WasChosen (block : ℕ) : Type 0 where
    slots : List (Option Row)
    spot : slice_index_or spots_then block OtherBlock ≡ UsedBlock slots
    row : Row
    there : Contains slots (Some row)
    all : AllChosen spots_then pred block

  was_chosen : (block : ℕ) → Contains blocks block → WasChosen block
  was_chosen block there =
      let r = chosen_listed spots_then def pred found going judged of_cell block there in
      let is = is_found r.0 r.1 in
      record { slots = is.slots; spot = ap (λ (n : ℕ). slice_index_or spots_then n OtherBlock) (sym r.2) ∙ is.spot; row = is.row; there = is.there; all = r.3 }

  -- and of a Used block that stayed none does
  stayed : (block : ℕ) (slots : List (Option Row)) → slice_index_or spots_then block OtherBlock ≡ UsedBlock slots → (Contains blocks block → ⊥) → NoneChosen spots_then pred block
  stayed block slots spot out =
      let used = used_of_spot shape (pages_of g old) def owners forests.map st.map block slots spot in
      let one = found_all g shape old def owners forests defined st found listed block used.0 in
      elim (listed_chosen spots_then def pred found going judged of_cell one.0 one.1) [
        | inl went ↦ absurd (out (subst (Contains blocks) one.2 went))
        | inr nothing ↦ subst (NoneChosen spots_then pred) one.2 nothing
      ]

  pub is_rolled : (block : ℕ) → Contains blocks block → HasChosenRow (is_chosen pred) (slice_index_or spots_then block OtherBlock)
  is_rolled block there =
      let was = was_chosen block there in
      subst (HasChosenRow (is_chosen pred)) (sym was.spot) (was.row, was.there, was.all was.slots was.spot was.row was.there)

  pub is_among : (block : ℕ) → HasChosenRow (is_chosen pred) (slice_index_or spots_then block OtherBlock) → Contains blocks block
  is_among block has =
      let such = has_such (is_chosen pred) (slice_index_or spots_then block OtherBlock) has in
      elim (in_or_not block blocks) [
        | inl there ↦ there
        | inr out ↦ absurd (false≢true (sym (stayed block such.slots such.is out such.slots such.is such.row such.there) ∙ such.such))
      ]

  rolled_at : (e : ℕ) → e < length spots_then → RollsOutSpot (is_chosen pred) FreeBlock (get_or spots_then e OtherBlock) (get_or (freed blocks spots_then) e OtherBlock)
  rolled_at e low = elim (in_or_not e blocks) [
    | inl there ↦ subst (RollsOutSpot (is_chosen pred) FreeBlock (get_or spots_then e OtherBlock)) (sym (turned_there FreeBlock blocks spots_then e there low)) (RollsOutSpot.goes (is_rolled e there))
    | inr out ↦ subst (RollsOutSpot (is_chosen pred) FreeBlock (get_or spots_then e OtherBlock)) (sym (turned_other FreeBlock blocks spots_then e out)) (RollsOutSpot.stays (λ has. out (is_among e has)))
  ]

  module _ {before noted : SpaceNotes} (now : S) (rolled : RolledOut) (some : RollsBoth g shape before noted old now def (going_numbers found going) rolled owners forests) where
    abbrev spots_now : List Spot
    spots_now = spots_of g shape now def some.owners_now some.forests_now

    -- the rows that went qualify
    gone_qualify : AllByRecursion (λ placed. is_chosen pred placed.row ≡ true) (rows_of spots_then blocks)
    gone_qualify = each_in (λ (placed : PlacedRow). is_chosen pred placed.row ≡ true) (rows_of spots_then blocks) (λ placed there.
        let (block, is_in, here) = flat_contains (λ b. rows_in_spot b (slice_index_or spots_then b OtherBlock)) blocks placed there in
        let was = was_chosen block is_in in
        let slot = slot_of_placed block 0 was.slots placed (subst (λ (spot : Spot). Contains (rows_in_spot block spot) placed) was.spot here) in
        was.all was.slots was.spot placed.row slot.0)

    -- and no row that is left does
    left_dont : AllByRecursion (λ placed. is_chosen pred placed.row ≡ false) (rows_in_table shape (pages_of g now) def some.forests_now.map)
    left_dont = each_in (λ (placed : PlacedRow). is_chosen pred placed.row ≡ false) (rows_in_table shape (pages_of g now) def some.forests_now.map) (λ placed there.
        let (block, used, here) = flat_contains (rows_in_block shape (pages_of g now) def) (used_blocks some.forests_now.map) placed there in
        let slots = block_slots shape (pages_of g now) def block in
        let spot : slice_index_or spots_now block OtherBlock ≡ UsedBlock slots = used_spot shape (pages_of g now) def some.owners_now some.forests_now.map block OtherBlock some.changes.stands.map used in
        let slot = slot_of_placed block 0 slots placed here in
        let out : Contains blocks block → ⊥ = λ went.
        let wrong : FreeBlock ≡ UsedBlock slots = sym (turned_there FreeBlock blocks spots_then block went (some.within block went)) ∙ used_back returns_leave (freed blocks spots_then) spots_now some.spots block slots spot in
        absurd cc in
        let was : slice_index_or spots_then block OtherBlock ≡ UsedBlock slots = sym (turned_other FreeBlock blocks spots_then block out) ∙ used_back returns_leave (freed blocks spots_then) spots_now some.spots block slots spot in
        stayed block slots was out slots was placed.row slot.0)

    -- record indexes that were sound are sound for the rows that are left
    left_sound : HasSoundIndexes g shape old def owners forests → HasSoundIndexes g shape now def some.owners_now some.forests_now
    left_sound sound =
        let gone = rows_of spots_then blocks in
        let were = rows_in_table shape (pages_of g old) def forests.map in
        let are = rows_in_table shape (pages_of g now) def some.forests_now.map in
        let moved = sound_all_moved def were (gone ++ are) (pending_blocks forests.map) (IsPermutation-sym (gone ++ are) were some.whole) def.indexes forests.indexes sound in
        let apart = apart_moved (gone ++ are) were some.whole (lie_apart g shape old def owners forests st) in
        let left = sound_without def gone are (pending_blocks forests.map) apart def.indexes forests.indexes some.forests_now.indexes (some.entries sound) moved in
        more_pending def are (pending_blocks forests.map) (pending_blocks some.forests_now.map) stay def.indexes some.forests_now.indexes left
      where
        stay : StayPending (pending_blocks forests.map) (pending_blocks some.forests_now.map)
        stay e there =
            let is = (pending_by_spot g shape old def owners forests st e).0 there in
            let out : Contains blocks e → ⊥ = λ went. let wrong : UsedBlock (was_chosen e went).slots ≡ PendingBlock = sym (was_chosen e went).spot ∙ is in absurd cc in
            (pending_by_spot g shape now def some.owners_now some.forests_now some.changes.stands e).1
            (stay_returned (freed blocks spots_then) spots_now some.spots e (turned_other FreeBlock blocks spots_then e out ∙ is))

    pub rolls_out : (room_of : Entry → RoomNote) → ((key : Entry) → room_of key ≡ no_note) → RollsOutRows g shape before noted room_of old now def pred rolled owners forests
    rolls_out room_of forgotten = record {
      owners_now = some.owners_now;
      forests_now = some.forests_now;
      changes = some.changes;
      rooms = rooms_forgotten def room_of spots_now forgotten;
      rolls = record { rolled = freed blocks spots_then; each = zip_from (RollsOutSpot (is_chosen pred) FreeBlock) spots_then (freed blocks spots_then) (sym (length-turned FreeBlock blocks spots_then)) rolled_at; returned = some.spots };
      gone = rows_of spots_then blocks;
      entries = some.entries;
      rows = some.whole;
      qualify = gone_qualify;
      others = left_dont;
      sound = left_sound;
      row_count = some.rows;
      blocks = blocks;
      blocks_are = λ block. (is_rolled block, is_among block);
      once = some.once;
      block_count = some.count;
      kept = some.kept;
    }
