-- Spots of a table of which each cell has at most one Used block that isn't full: how many blocks there are, and what a row makes
-- of them that is put.
use Rattle.std.proofs.Common.{◌≡◌, ◌≢◌, ◌<◌, ◌≤◌, ◌+◌, ◌*◌, ℕ, zero, suc, Bool, true, false, cond, Option, Some, None, List, [], ◌∷◌, ◌++◌, length, map, replicate, set, get_or, refl, ap, arith, sym, subst, ◌∙◌, ◌⊎◌, inl, inr}
use Rattle.std.specs.Prelude.{Contains, IsTrue, is_some, slice_index_or, sum_by}
use Rattle.std.specs.List.{AllByRecursion}
use Rattle.std.specs.Str.{bytes_eq}
use Rattle.std.proofs.lemmas.Bool.{cases_eq, cases_lt}
use Rattle.std.proofs.lemmas.List.{get_or-replicate, get_or-set_other, get_or-set_same, get_or_past, length-replicate, length-set, map-append}
use Rattle.std.proofs.lemmas.List.Sums.{count_by-le-length, sum_by-cons, sum_by-set}
use Rattle.std.proofs.lemmas.List.Sorted.{IsPermutation-map, sum_by-IsPermutation}
use Rattle.std.proofs.lemmas.Option.{same_Some}
use Rattle.mdc_words.specs.ByteOrder.{Entry}
use Rattle.mdc_values.specs.declared.rid.Rid.{Rid}
use Rattle.mdc_values.specs.declared.value.Value.{Value}
use Rattle.mdc_ast.specs.Database.{fits_all}
use Rattle.mdc_ast.specs.Truth.{value_at}
use Rattle.mdc_ast.specs.ValidDatabase.{AreSameAtParts}
use Rattle.mdc_ast.specs.declared.definition.TableDef.{TableDef}
use Rattle.mdc_ast.specs.declared.row.Row.{Row}
use Rattle.key_codec.specs.Keys.{ArePartsOf}
use Rattle.key_codec.proofs.KeyLemmas.{same-key_bytes}
use Rattle.row_page.specs.RowPage.{count_rows}
use Rattle.block_map.proofs.MapLinesLemmas.{contains_cases, contains_more}
use Rattle.table_trees.specs.RowCells.{AreOfOneCell, cell_places, cell_values}
use Rattle.table_trees.proofs.PlaceCountsLemmas.{one_if}
use Rattle.table_trees.specs.TableTrees.{cell_parts, rising_parts}
use Rattle.mdc_sound.specs.Placing.{AfterClaims, HasRoomFor, HoldsNowhere, IsEmptySlot, IsFreeExtent, IsLowestAt, PutsRow, Spot, SpotsAfterClaims, begun_with, rows_from_spot, rows_in_spot}
use Rattle.mdc_sound.specs.Placing.Spot.{FreeExtent, IndexExtent, OtherBlock, FreeBlock, PendingBlock, UsedBlock}
use Rattle.mdc_sound.specs.TightPages.{HaveRoomOnce, key_of_cell, rows_of_cell}
use Rattle.mdc_sound.specs.TableRows.{PlacedRow, rows_from_slot}
use Rattle.mdc_sound.proofs.CellKeysLemmas.{cell_key-same}
use Rattle.mdc_sound.proofs.PlacingLemmas.{placed_at, rows_put}
use Rattle.mdc_sound.proofs.SlotRowsLemmas.{count_slot, empty_slot, some_row}
use Rattle.tight_space.proofs.CellBlocksLemmas.{block_more, bytes_same, needed, rows_of_cell-cons, same_bytes}

-- ---- the rows of spots

-- the rows in slots
abbrev pub slot_rows : List (Option Row) → List Row
slot_rows [] = []
slot_rows (None ∷ slots) = slot_rows slots
slot_rows (Some row ∷ slots) = row ∷ slot_rows slots

-- the rows in a spot
abbrev pub spot_rows : Spot → List Row
spot_rows (UsedBlock slots) = slot_rows slots
spot_rows spot = []

-- the rows in spots
abbrev pub all_rows : List Spot → List Row
all_rows [] = []
all_rows (spot ∷ spots) = spot_rows spot ++ all_rows spots

-- one for a Used block
abbrev pub used_by : Spot → ℕ
used_by (UsedBlock slots) = 1
used_by spot = 0

-- how many Used blocks there are
abbrev pub used_count : List Spot → ℕ
used_count spots = sum_by used_by spots

-- ---- spots that are tight

-- a Used block of n slots has a row, and its rows, which fit, are of one cell
pub record IsGoodBlock (def : TableDef) (n : ℕ) (slots : List (Option Row)) : Type 0 where
  pub long : length slots ≡ n
  pub some : 0 < count_rows slots
  pub one : (a b : Row) → Contains slots (Some a) → Contains slots (Some b) → AreOfOneCell def a.values b.values
  pub fits : (a : Row) → Contains slots (Some a) → IsTrue (fits_all def.columns a.values)

-- no block is Free or Pending
abbrev pub IsGoodSpot : TableDef → ℕ → Spot → Type 0
IsGoodSpot def n (UsedBlock slots) = IsGoodBlock def n slots
IsGoodSpot def n FreeBlock = ⊥
IsGoodSpot def n PendingBlock = ⊥
IsGoodSpot def n spot = Unit {0}

-- so is each, and each cell has at most one block that isn't full
pub record AreTightSpots (def : TableDef) (n : ℕ) (spots : List Spot) : Type 0 where
  pub each : AllByRecursion (IsGoodSpot def n) spots
  pub once : HaveRoomOnce def spots

-- ---- cells

same_values : (places : List ℕ) (a b : List Value) → AreSameAtParts (rising_parts places) a b → map (value_at a) places ≡ map (value_at b) places
same_values [] a b same = refl
same_values (place ∷ places) a b same = (let first = same.0 in let rest = same_values places a b same.1 in cc (first, rest))

-- rows that fit and have one key of a cell are of one cell
pub one_cell : (def : TableDef) (a b : Row) → ArePartsOf def.columns (cell_parts def) → IsTrue (fits_all def.columns a.values) → IsTrue (fits_all def.columns b.values) → key_of_cell def a ≡ key_of_cell def b
    → AreOfOneCell def a.values b.values
one_cell def a b parts fits_a fits_b same = same_values (cell_places def) a.values b.values ((same-key_bytes def.columns (cell_parts def) a.values b.values parts fits_a fits_b).0 same)

-- ---- the rows of one block

length-slot_rows : (slots : List (Option Row)) → length (slot_rows slots) ≡ count_rows slots
length-slot_rows [] = refl
length-slot_rows (None ∷ slots) = omega (arith, length-slot_rows slots, count_slot None slots)
length-slot_rows (Some row ∷ slots) = omega (arith, length-slot_rows slots, count_slot (Some row) slots)

-- what holds of each row in slots
each_slot_row : (P : Row → Type 0) (slots : List (Option Row)) → ((a : Row) → Contains slots (Some a) → P a) → AllByRecursion P (slot_rows slots)
each_slot_row P [] all = tt
each_slot_row P (None ∷ slots) all = each_slot_row P slots (λ a there. all a (contains_more (Some a) None slots there))
each_slot_row P (Some row ∷ slots) all = (all row (0, omega arith, refl), each_slot_row P slots (λ a there. all a (contains_more (Some a) (Some row) slots there)))

module _ (def : TableDef) (n : ℕ) where
  -- each row of a block has the key of one of them
  block_keys : (slots : List (Option Row)) (row : Row) → IsGoodBlock def n slots → Contains slots (Some row) → AllByRecursion (λ a. key_of_cell def a ≡ key_of_cell def row) (slot_rows slots)
  block_keys slots row good there = each_slot_row (λ a. key_of_cell def a ≡ key_of_cell def row) slots (λ a in_it. cell_key-same def a.values row.values (good.one a row in_it there))

  counted_all : (key : Entry) (rows rest : List Row) → AllByRecursion (λ a. key_of_cell def a ≡ key) rows → rows_of_cell def key (rows ++ rest) ≡ length rows + rows_of_cell def key rest
  counted_all key [] rest all = omega arith
  counted_all key (x ∷ rows) rest all =
      omega (arith, rows_of_cell-cons def key x (rows ++ rest), ap one_if (bytes_same (key_of_cell def x) key all.0), counted_all key rows rest all.1)

  counted_none : (key other : Entry) (rows rest : List Row) → bytes_eq other key ≡ false → AllByRecursion (λ a. key_of_cell def a ≡ other) rows → rows_of_cell def key (rows ++ rest) ≡ rows_of_cell def key rest
  counted_none key other [] rest apart all = refl
  counted_none key other (x ∷ rows) rest apart all =
      omega (arith, rows_of_cell-cons def key x (rows ++ rest), ap one_if (ap (λ (z : Entry). bytes_eq z key) all.0 ∙ apart), counted_none key other rows rest apart all.1)

  -- where no block has room for a row, those of its cell are full
  module _ (parts : ArePartsOf def.columns (cell_parts def)) where
    full_cells : (spots : List Spot) (row : Row) → IsTrue (fits_all def.columns row.values) → AllByRecursion (IsGoodSpot def n) spots → ((e : ℕ) → HasRoomFor def row (get_or spots e OtherBlock) → ⊥)
        → (m : ℕ) × (rows_of_cell def (key_of_cell def row) (all_rows spots) ≡ m * n)
    full_cells [] row fits each none = (0, omega arith)
    full_cells (FreeExtent ∷ spots) row fits each none = full_cells spots row fits each.1 (λ e. none (suc e))
    full_cells (IndexExtent ∷ spots) row fits each none = full_cells spots row fits each.1 (λ e. none (suc e))
    full_cells (OtherBlock ∷ spots) row fits each none = full_cells spots row fits each.1 (λ e. none (suc e))
    full_cells (FreeBlock ∷ spots) row fits each none = full_cells spots row fits each.1 (λ e. none (suc e))
    full_cells (PendingBlock ∷ spots) row fits each none = full_cells spots row fits each.1 (λ e. none (suc e))
    full_cells (UsedBlock slots ∷ spots) row fits each none = go (bytes_eq (key_of_cell def (some_row slots each.0.some).0) (key_of_cell def row)) refl (full_cells spots row fits each.1 (λ e. none (suc e)))
      where
        go : (b : Bool) → bytes_eq (key_of_cell def (some_row slots each.0.some).0) (key_of_cell def row) ≡ b → (m : ℕ) × (rows_of_cell def (key_of_cell def row) (all_rows spots) ≡ m * n)
            → (m : ℕ) × (rows_of_cell def (key_of_cell def row) (slot_rows slots ++ all_rows spots) ≡ m * n)
        go true e rest =
            let one = some_row slots each.0.some in
            let same = same_bytes (key_of_cell def one.0) (key_of_cell def row) e in
            let keys = subst (λ (k : Entry). AllByRecursion (λ a. key_of_cell def a ≡ k) (slot_rows slots)) same (block_keys slots one.0 each.0 one.1) in
            let full : count_rows slots ≡ n = elim (cases_lt (count_rows slots) (length slots)) [
              | inl fewer ↦ absurd (none 0 ((one.0, one.1, one_cell def one.0 row parts (each.0.fits one.0 one.1) fits same), empty_slot slots fewer))
              | inr most ↦ omega (arith, most, each.0.long, count_by-le-length is_some slots)
            ] in
            let product : suc rest.0 * n ≡ n + rest.0 * n = omega arith in
            (suc rest.0, omega (arith, counted_all (key_of_cell def row) (slot_rows slots) (all_rows spots) keys, length-slot_rows slots, full, rest.1, product))
        go false e rest =
            let one = some_row slots each.0.some in
            (rest.0, counted_none (key_of_cell def row) (key_of_cell def one.0) (slot_rows slots) (all_rows spots) e (block_keys slots one.0 each.0 one.1) ∙ rest.1)

    tail_once : (spot : Spot) (spots : List Spot) → HaveRoomOnce def (spot ∷ spots) → HaveRoomOnce def spots
    tail_once spot spots once row e f a b = (let same = once row (suc e) (suc f) a b in omega (arith, same))

    -- there are no more Used blocks than their rows need
    pub blocks_most : 0 < n → (spots : List Spot) → AllByRecursion (IsGoodSpot def n) spots → HaveRoomOnce def spots → used_count spots ≤ needed def n (all_rows spots)
    blocks_most some [] each once = omega arith
    blocks_most some (FreeExtent ∷ spots) each once = omega (arith, blocks_most some spots each.1 (tail_once FreeExtent spots once), sum_by-cons used_by FreeExtent spots)
    blocks_most some (IndexExtent ∷ spots) each once = omega (arith, blocks_most some spots each.1 (tail_once IndexExtent spots once), sum_by-cons used_by IndexExtent spots)
    blocks_most some (OtherBlock ∷ spots) each once = omega (arith, blocks_most some spots each.1 (tail_once OtherBlock spots once), sum_by-cons used_by OtherBlock spots)
    blocks_most some (FreeBlock ∷ spots) each once = absurd each.0
    blocks_most some (PendingBlock ∷ spots) each once = absurd each.0
    blocks_most some (UsedBlock slots ∷ spots) each once =
        let one = some_row slots each.0.some in
        let kind : (length (slot_rows slots) ≡ n) ⊎ ((m : ℕ) × (rows_of_cell def (key_of_cell def one.0) (all_rows spots) ≡ m * n)) = elim (cases_lt (count_rows slots) (length slots)) [
          | inl fewer ↦ inr (full_cells spots one.0 (each.0.fits one.0 one.1) each.1 (λ e room. (let same = once one.0 0 (suc e) ((one.0, one.1, refl), empty_slot slots fewer) room in omega (arith, same))))
          | inr most ↦ inl (omega (arith, most, each.0.long, count_by-le-length is_some slots, length-slot_rows slots))
        ] in
        omega (
          arith,
          block_more def n some (key_of_cell def one.0) (slot_rows slots) (all_rows spots) (block_keys slots one.0 each.0 one.1) (omega (arith, length-slot_rows slots, each.0.some)) kind,
          blocks_most some spots each.1 (tail_once (UsedBlock slots) spots once),
          sum_by-cons used_by (UsedBlock slots) spots,
        )

-- ---- a row that is put

pub each_at : {X : Type 0} (P : X → Type 0) (xs : List X) (i : ℕ) (d : X) → AllByRecursion P xs → i < length xs → P (get_or xs i d)
each_at P [] i d all low = absurd (omega (arith, low))
each_at P (x ∷ xs) zero d all low = all.0
each_at P (x ∷ xs) (suc i) d all low = each_at P xs i d all.1 (omega (arith, low))

each_set : {X : Type 0} (P : X → Type 0) (xs : List X) (i : ℕ) (y : X) → AllByRecursion P xs → P y → AllByRecursion P (set xs i y)
each_set P [] i y all here = tt
each_set P (x ∷ xs) zero y all here = (here, all.1)
each_set P (x ∷ xs) (suc i) y all here = (all.0, each_set P xs i y all.1 here)

contains_set : {X : Type 0} (xs : List X) (i : ℕ) (y z : X) → Contains (set xs i y) z → (y ≡ z) ⊎ Contains xs z
contains_set [] i y z (k, low, at) = absurd (omega (arith, low))
contains_set (x ∷ xs) zero y z there = elim (contains_cases z y xs there) [ inl here ↦ inl here | inr later ↦ inr (contains_more z x xs later) ]
contains_set (x ∷ xs) (suc i) y z there = elim (contains_cases z x (set xs i y) there) [
  | inl here ↦ inr (0, omega arith, here)
  | inr later ↦ elim (contains_set xs i y z later) [ inl is ↦ inl is | inr old ↦ inr (contains_more z x xs old) ]
]

length-empty : (n : ℕ) (slots : List (Option Row)) → slots ≡ replicate n None → length slots ≡ n
length-empty n slots e = ap length e ∙ length-replicate n None

no_row : (n : ℕ) (a : Row) → Contains (replicate n None) (Some a) → ⊥
no_row n a (k, low, at) = (let none = get_or-replicate n k None (Some a) (omega (arith, low, length-empty n (replicate n None) refl)) in absurd (cc (none, at)))

-- room for a row of the same cell
room_moved : (def : TableDef) (a b : Row) (spot : Spot) → AreOfOneCell def a.values b.values → HasRoomFor def a spot → HasRoomFor def b spot
room_moved def a b FreeExtent same room = absurd room
room_moved def a b IndexExtent same room = absurd room
room_moved def a b OtherBlock same room = absurd room
room_moved def a b FreeBlock same room = absurd room
room_moved def a b PendingBlock same room = absurd room
room_moved def a b (UsedBlock slots) same ((o, there, cell), empty) = ((o, there, cell ∙ same), empty)

within_room : (def : TableDef) (row : Row) (spots : List Spot) (e : ℕ) → HasRoomFor def row (get_or spots e OtherBlock) → e < length spots
within_room def row spots e room = elim (cases_lt e (length spots)) [
  | inl low ↦ low
  | inr past ↦ absurd (subst (HasRoomFor def row) (get_or_past spots e OtherBlock past) room)
]

-- one for a free extent, which becomes a block where a row is put there
abbrev pub fresh_by : Spot → ℕ
fresh_by FreeExtent = 1
fresh_by spot = 0

-- spots that are tight stay so, and a block more is Used where the row went into a free extent
pub record PutsTight (def : TableDef) (n : ℕ) (old new : List Spot) (spot : Spot) : Type 0 where
  pub tight : AreTightSpots def n new
  pub used : used_count new ≡ used_count old + fresh_by spot
  pub no_free_block : spot ≡ FreeBlock → ⊥

module _ (def : TableDef) (n : ℕ) (some : 0 < n) (old : List Spot) (row : Row) (fits : IsTrue (fits_all def.columns row.values)) (tight : AreTightSpots def n old) where
  put_in_cell : (block slot : ℕ) (slots : List (Option Row)) → IsLowestAt (HasRoomFor def row) old block (UsedBlock slots) → IsLowestAt IsEmptySlot slots slot None
      → PutsTight def n old (set old block (UsedBlock (set slots slot (Some row)))) (UsedBlock slots)
  put_in_cell block slot slots lowest empty =
      let good : IsGoodBlock def n slots = subst (IsGoodSpot def n) (lowest.is_it OtherBlock) (each_at (IsGoodSpot def n) old block OtherBlock tight.each lowest.within) in
      let now = UsedBlock (set slots slot (Some row)) in record {
        tight = record {
          each = each_set (IsGoodSpot def n) old block now tight.each (record {
            long = length-set slots slot (Some row) ∙ good.long;
            some = omega (arith, sum_by-set (λ (o : Option Row). cond (is_some o) 1 0) slots slot (Some row) None empty.within, good.some, ap (λ (o : Option Row). one_if (is_some o)) (empty.is_it None));
            one = λ a b in_a in_b. to_row good a in_a ∙ sym (to_row good b in_b);
            fits = λ a in_a. elim (contains_set slots slot (Some row) (Some a) in_a) [
              | inl is ↦ subst (λ (r : Row). IsTrue (fits_all def.columns r.values)) (same_Some row a is) fits
              | inr was ↦ good.fits a was
            ];
          });
          once = λ r e f a b. tight.once r e f (back good r e a) (back good r f b);
        };
        used = omega (arith, sum_by-set used_by old block now OtherBlock lowest.within, ap used_by (lowest.is_it OtherBlock));
        no_free_block = λ wrong. absurd (cc (wrong));
      }
    where
      to_row : IsGoodBlock def n slots → (a : Row) → Contains (set slots slot (Some row)) (Some a) → AreOfOneCell def a.values row.values
      to_row good a there = elim (contains_set slots slot (Some row) (Some a) there) [
        | inl is ↦ ap (λ (r : Row). cell_values def r.values) (sym (same_Some row a is))
        | inr was ↦ good.one a lowest.holds.0.0 was lowest.holds.0.1 ∙ lowest.holds.0.2
      ]

      back : IsGoodBlock def n slots → (r : Row) (e : ℕ) → HasRoomFor def r (get_or (set old block (UsedBlock (set slots slot (Some row)))) e OtherBlock) → HasRoomFor def r (get_or old e OtherBlock)
      back good r e room = elim (cases_eq e block) [
        | inl here ↦ (
            let now : HasRoomFor def r (UsedBlock (set slots slot (Some row))) =
            subst (HasRoomFor def r) (ap (λ (i : ℕ). get_or (set old block (UsedBlock (set slots slot (Some row)))) i OtherBlock) here ∙ get_or-set_same old block (UsedBlock (set slots slot (Some row))) OtherBlock lowest.within) room in
            let was : HasRoomFor def r (UsedBlock slots) = ((lowest.holds.0.0, lowest.holds.0.1, lowest.holds.0.2 ∙ (sym (to_row good now.0.0 now.0.1) ∙ now.0.2)), lowest.holds.1) in
            subst (HasRoomFor def r) (sym (ap (λ (i : ℕ). get_or old i OtherBlock) here ∙ lowest.is_it OtherBlock)) was)
        | inr other ↦ subst (HasRoomFor def r) (get_or-set_other old block e (UsedBlock (set slots slot (Some row))) OtherBlock other) room
      ]

  put_in_extent : (block : ℕ) → HoldsNowhere (HasRoomFor def row) old → IsLowestAt IsFreeExtent old block FreeExtent → PutsTight def n old (set old block (begun_with n row)) FreeExtent
  put_in_extent block none lowest =
      let now = begun_with n row in record {
        tight = record {
          each = each_set (IsGoodSpot def n) old block now tight.each (record {
            long = length-set (replicate n None) 0 (Some row) ∙ length-replicate n None;
            some = omega (
              arith,
              sum_by-set (λ (o : Option Row). cond (is_some o) 1 0) (replicate n None) 0 (Some row) None (omega (arith, some, length-empty n (replicate n None) refl)),
              ap (λ (o : Option Row). one_if (is_some o)) (get_or-replicate n 0 None None some),
            );
            one = λ a b in_a in_b. ap (λ (r : Row). cell_values def r.values) (sym (the_row a in_a) ∙ the_row b in_b);
            fits = λ a in_a. subst (λ (r : Row). IsTrue (fits_all def.columns r.values)) (the_row a in_a) fits;
          });
          once = once_now;
        };
        used = omega (arith, sum_by-set used_by old block now FreeExtent lowest.within, ap used_by (lowest.is_it FreeExtent));
        no_free_block = λ wrong. absurd (cc (wrong));
      }
    where
      the_row : (a : Row) → Contains (set (replicate n None) 0 (Some row)) (Some a) → row ≡ a
      the_row a there = elim (contains_set (replicate n None) 0 (Some row) (Some a) there) [ inl is ↦ same_Some row a is | inr was ↦ absurd (no_row n a was) ]

      here_room : (r : Row) (e : ℕ) → e ≡ block → HasRoomFor def r (get_or (set old block (begun_with n row)) e OtherBlock) → AreOfOneCell def r.values row.values
      here_room r e here room =
          let now : HasRoomFor def r (begun_with n row) = subst (HasRoomFor def r) (ap (λ (i : ℕ). get_or (set old block (begun_with n row)) i OtherBlock) here ∙ get_or-set_same old block (begun_with n row) OtherBlock lowest.within) room in
          sym now.0.2 ∙ ap (λ (x : Row). cell_values def x.values) (sym (the_row now.0.0 now.0.1))

      there_room : (r : Row) (e : ℕ) → e ≢ block → HasRoomFor def r (get_or (set old block (begun_with n row)) e OtherBlock) → HasRoomFor def r (get_or old e OtherBlock)
      there_room r e other room = subst (HasRoomFor def r) (get_or-set_other old block e (begun_with n row) OtherBlock other) room

      apart : (r : Row) (e f : ℕ) → e ≡ block → f ≢ block → HasRoomFor def r (get_or (set old block (begun_with n row)) e OtherBlock) → HasRoomFor def r (get_or (set old block (begun_with n row)) f OtherBlock) → ⊥
      apart r e f here other a b =
          let was = there_room r f other b in
          none f OtherBlock (within_room def r old f was) (room_moved def r row (get_or old f OtherBlock) (here_room r e here a) was)

      once_now : HaveRoomOnce def (set old block (begun_with n row))
      once_now r e f a b = elim (cases_eq e block) [
        | inl here ↦ elim (cases_eq f block) [ inl there ↦ here ∙ sym there | inr other ↦ absurd (apart r e f here other a b) ]
        | inr other ↦ elim (cases_eq f block) [ inl there ↦ absurd (apart r f e there other b a) | inr beside ↦ tight.once r e f (there_room r e other a) (there_room r f beside b) ]
      ]

  pub puts_tight : (new : List Spot) (rid : Rid) → PutsRow def n old row new rid → PutsTight def n old new (slice_index_or old rid.block OtherBlock)
  puts_tight new rid (PutsRow.in_cell block slot slots lowest empty is) =
      subst (λ (spots : List Spot). PutsTight def n old spots (get_or old block OtherBlock)) (sym is)
      (subst (PutsTight def n old (set old block (UsedBlock (set slots slot (Some row))))) (sym (lowest.is_it OtherBlock)) (put_in_cell block slot slots lowest empty))
  puts_tight new rid (PutsRow.in_free_block block none lowest is) = absurd (subst (IsGoodSpot def n) (lowest.is_it OtherBlock) (each_at (IsGoodSpot def n) old block OtherBlock tight.each lowest.within))
  puts_tight new rid (PutsRow.in_free_extent block none no_block lowest is) =
      subst (λ (spots : List Spot). PutsTight def n old spots (get_or old block OtherBlock)) (sym is)
      (subst (PutsTight def n old (set old block (begun_with n row))) (sym (lowest.is_it OtherBlock)) (put_in_extent block none lowest))

-- ---- trees take free extents

claim_cases : (a b : Spot) → AfterClaims a b → (a ≡ b) ⊎ ((a ≡ FreeExtent) × (b ≡ IndexExtent))
claim_cases FreeExtent FreeExtent h = inl refl
claim_cases FreeExtent IndexExtent h = inr (refl, refl)
claim_cases FreeExtent OtherBlock h = inl h
claim_cases FreeExtent FreeBlock h = inl h
claim_cases FreeExtent PendingBlock h = inl h
claim_cases FreeExtent (UsedBlock slots) h = inl h
claim_cases IndexExtent b h = inl h
claim_cases OtherBlock b h = inl h
claim_cases FreeBlock b h = inl h
claim_cases PendingBlock b h = inl h
claim_cases (UsedBlock slots) b h = inl h

module _ (def : TableDef) (n : ℕ) where
  claim_good : (a b : Spot) → AfterClaims a b → IsGoodSpot def n a → IsGoodSpot def n b
  claim_good a b h good = elim (claim_cases a b h) [ inl same ↦ subst (IsGoodSpot def n) same good | inr taken ↦ subst (IsGoodSpot def n) (sym taken.1) tt ]

  claim_room : (row : Row) (a b : Spot) → AfterClaims a b → HasRoomFor def row b → HasRoomFor def row a
  claim_room row a b h room = elim (claim_cases a b h) [ inl same ↦ subst (HasRoomFor def row) (sym same) room | inr taken ↦ absurd (subst (HasRoomFor def row) taken.1 room) ]

  claim_used : (a b : Spot) → AfterClaims a b → used_by b ≡ used_by a
  claim_used a b h = elim (claim_cases a b h) [ inl same ↦ ap used_by (sym same) | inr taken ↦ ap used_by taken.1 ∙ sym (ap used_by taken.0) ]

  claim_rows : (a b : Spot) → AfterClaims a b → spot_rows b ≡ spot_rows a
  claim_rows a b h = elim (claim_cases a b h) [ inl same ↦ ap spot_rows (sym same) | inr taken ↦ ap spot_rows taken.1 ∙ sym (ap spot_rows taken.0) ]

  claims_each : (old new : List Spot) → SpotsAfterClaims old new → AllByRecursion (IsGoodSpot def n) old → AllByRecursion (IsGoodSpot def n) new
  claims_each [] [] h each = tt
  claims_each [] (b ∷ new) h each = absurd h
  claims_each (a ∷ old) [] h each = absurd h
  claims_each (a ∷ old) (b ∷ new) h each = (claim_good a b h.0 each.0, claims_each old new h.1 each.1)

  claims_room : (row : Row) (old new : List Spot) (e : ℕ) → SpotsAfterClaims old new → HasRoomFor def row (get_or new e OtherBlock) → HasRoomFor def row (get_or old e OtherBlock)
  claims_room row [] [] e h room = room
  claims_room row [] (b ∷ new) e h room = absurd h
  claims_room row (a ∷ old) [] e h room = absurd h
  claims_room row (a ∷ old) (b ∷ new) zero h room = claim_room row a b h.0 room
  claims_room row (a ∷ old) (b ∷ new) (suc e) h room = claims_room row old new e h.1 room

  pub claims_used : (old new : List Spot) → SpotsAfterClaims old new → used_count new ≡ used_count old
  claims_used [] [] h = refl
  claims_used [] (b ∷ new) h = absurd h
  claims_used (a ∷ old) [] h = absurd h
  claims_used (a ∷ old) (b ∷ new) h = omega (arith, claim_used a b h.0, claims_used old new h.1, sum_by-cons used_by a old, sum_by-cons used_by b new)

  pub claims_tight : (old new : List Spot) → SpotsAfterClaims old new → AreTightSpots def n old → AreTightSpots def n new
  claims_tight old new h tight = record {
    each = claims_each old new h tight.each;
    once = λ row e f a b. tight.once row e f (claims_room row old new e h a) (claims_room row old new f h b);
  }

  pub claims_rows : (old new : List Spot) → SpotsAfterClaims old new → all_rows new ≡ all_rows old
  claims_rows [] [] h = refl
  claims_rows [] (b ∷ new) h = absurd h
  claims_rows (a ∷ old) [] h = absurd h
  claims_rows (a ∷ old) (b ∷ new) h = (let first = claim_rows a b h.0 in let rest = claims_rows old new h.1 in cc (first, rest))

-- ---- the rows by their places

slot_rows_placed : (block at : ℕ) (slots : List (Option Row)) → map (λ (p : PlacedRow). p.row) (rows_from_slot block at slots) ≡ slot_rows slots
slot_rows_placed block at [] = refl
slot_rows_placed block at (None ∷ slots) = slot_rows_placed block (at + 1) slots
slot_rows_placed block at (Some row ∷ slots) = ap (λ more. row ∷ more) (slot_rows_placed block (at + 1) slots)

spot_rows_placed : (block : ℕ) (spot : Spot) → map (λ (p : PlacedRow). p.row) (rows_in_spot block spot) ≡ spot_rows spot
spot_rows_placed block FreeExtent = refl
spot_rows_placed block IndexExtent = refl
spot_rows_placed block OtherBlock = refl
spot_rows_placed block FreeBlock = refl
spot_rows_placed block PendingBlock = refl
spot_rows_placed block (UsedBlock slots) = slot_rows_placed block 0 slots

pub all_rows_placed : (at : ℕ) (spots : List Spot) → map (λ (p : PlacedRow). p.row) (rows_from_spot at spots) ≡ all_rows spots
all_rows_placed at [] = refl
all_rows_placed at (spot ∷ spots) =
    map-append (λ (p : PlacedRow). p.row) (rows_in_spot at spot) (rows_from_spot (at + 1) spots)
    ∙ (let first = spot_rows_placed at spot in let rest = all_rows_placed (at + 1) spots in cc (first, rest))

-- a row more of its cell
pub put_counts : (def : TableDef) (n : ℕ) (old new : List Spot) (row : Row) (rid : Rid) (k : Entry) → 0 < n → PutsRow def n old row new rid → rows_of_cell def k (all_rows new) ≡ rows_of_cell def k (row ∷ all_rows old)
put_counts def n old new row rid k some puts =
    let perm = IsPermutation-map (λ (p : PlacedRow). p.row) (placed_at rid row ∷ rows_from_spot 0 old) (rows_from_spot 0 new) (rows_put def n old new row rid some puts) in
    let counts = sum_by-IsPermutation (λ (one : Row). cond (bytes_eq (key_of_cell def one) k) 1 0) (row ∷ map (λ (p : PlacedRow). p.row) (rows_from_spot 0 old)) (map (λ (p : PlacedRow). p.row) (rows_from_spot 0 new)) perm in
    sym (ap (rows_of_cell def k) (all_rows_placed 0 new)) ∙ (counts ∙ ap (λ rows. rows_of_cell def k (row ∷ rows)) (all_rows_placed 0 old))
