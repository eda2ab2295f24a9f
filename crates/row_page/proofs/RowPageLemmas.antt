-- Pages of rows.
use Rattle.std.proofs.Common.{◌≡◌, ◌≤◌, ◌<◌, ◌+◌, ◌-◌, ◌*◌, ◌∙◌, ℕ, zero, suc, Bool, true, false, cond, List, [], ◌∷◌, ◌++◌, length, take, drop, replicate, get_or, Option, Some, None, refl, ap, sym, arith}
use Rattle.std.specs.Prelude.{is_some, ◌↔◌}
use Rattle.std.proofs.Math.Nat.{div-mul-le_self, mul-le-mul_left}
use Rattle.std.proofs.lemmas.List.{drop-replicate, drop-take, length-drop, length-take, take-take, take_all}
use Rattle.std.proofs.lemmas.Nat.{le-div}
use Rattle.std.proofs.lemmas.List.FromFn.{sum_by-map-range_with_len_more}
use Rattle.std.proofs.lemmas.List.Sums.{count_by-le-length}
use Rattle.byteorder.specs.Endian.{big_bytes, big_number}
use Rattle.byteorder.specs.Numbers.{big_from-take, big_number-reads_back}
use Rattle.mdc_ast.specs.declared.definition.ColumnDef.{ColumnDef}
use Rattle.mdc_ast.specs.declared.definition.TableDef.{TableDef}
use Rattle.mdc_ast.specs.ValidDatabase.{IsValidDef}
use Rattle.mdc_ast.specs.declared.row.Row.{Row}
use Rattle.mdc_words.specs.Listed.{listed}
use Rattle.mdc_words.proofs.ListedLemmas.{length-listed, get_or-listed}
use Rattle.store_api.specs.StoreState.{zero_page}
use Rattle.row_page.specs.Row.{AreRowColumns, row_in, row_width_of}
use Rattle.row_page.specs.RowPage.{AreRowsWritten, AreSpareBitsBlank, AreSpareBytesBlank, IsHeaded, IsRowPage, StartsAsRowPage, count_rows, is_slot_filled, row_page_head, rows_of, slot_bytes, slot_count, slot_row, slots_end, stated_rows}
use Rattle.row_page.proofs.RowLemmas.{row_width_of-ge}

-- ---- how many slots there are

-- rows are no narrower than their heads
pub slot_count-le : (columns : List ColumnDef) → slot_count columns ≤ 402
slot_count-le columns =
    let wide : 81 ≤ 8 * row_width_of columns + 1 = omega (arith, row_width_of-ge columns) in
    let most : slot_count columns * (8 * row_width_of columns + 1) ≤ 32640 = div-mul-le_self 32640 (8 * row_width_of columns + 1) in
    let less : slot_count columns * 81 ≤ slot_count columns * (8 * row_width_of columns + 1) = mul-le-mul_left (slot_count columns) wide in
    omega arith

-- the slots lie within the page
pub slots_end-le : (columns : List ColumnDef) → slots_end columns ≤ 4096
slots_end-le columns =
    let most : slot_count columns * (8 * row_width_of columns + 1) ≤ 32640 = div-mul-le_self 32640 (8 * row_width_of columns + 1) in
    omega arith

-- ---- how many rows there are

abbrev one_if : Bool → ℕ
one_if b = cond b 1 0

filled_row : (b : Bool) (row : Row) → one_if (is_some (cond b (Some row) None)) ≡ one_if b
filled_row true row = refl
filled_row false row = refl

-- one slot more
pub count_rows-more : (columns : List ColumnDef) (page : List ℕ) (n : ℕ) (b : Bool) → is_slot_filled page n ≡ b
    → count_rows (listed (n + 1) (slot_row columns page)) ≡ count_rows (listed n (slot_row columns page)) + cond b 1 0
count_rows-more columns page n b is =
    sum_by-map-range_with_len_more (λ slot. cond (is_some slot) 1 0) (slot_row columns page) 0 n n (omega arith)
    ∙ ap (λ k. count_rows (listed n (slot_row columns page)) + k) (filled_row (is_slot_filled page n) _ ∙ ap one_if is)

-- at most as many as there are slots
pub count_rows-le : (columns : List ColumnDef) (page : List ℕ) (slots : List (Option Row)) → rows_of columns page ≡ slots → count_rows slots ≤ 402
count_rows-le columns page slots has =
    omega (arith, count_by-le-length is_some slots, ap length has, length-listed (slot_count columns) (slot_row columns page), slot_count-le columns)

-- the head states them
pub stated_in_head : (page : List ℕ) (slots rows : ℕ) → rows ≤ 402 → take 16 page ≡ row_page_head slots rows → stated_rows page ≡ rows
unfolding row_page_head
stated_in_head page slots rows few head =
    let low : big_number 2 (drop 4 (take 16 page)) ≡ stated_rows page =
    ap (big_number 2) (drop-take 4 12 page) ∙ big_from-take 0 2 12 (drop 4 page) (omega arith) in
    let there : big_number 2 (big_bytes 2 rows ++ replicate 10 0) ≡ rows = big_number-reads_back 2 rows (replicate 10 0) (omega arith) in
    sym low ∙ (ap (λ h. big_number 2 (drop 4 h)) head ∙ there)

pub stated_rows-IsRowPage : (columns : List ColumnDef) (page : List ℕ) (slots : List (Option Row)) → IsRowPage columns page slots → stated_rows page ≡ count_rows slots
stated_rows-IsRowPage columns page slots is = stated_in_head page (slot_count columns) (count_rows slots) (count_rows-le columns page slots is.has) is.head

-- ---- what a page is judged by

pub IsRowPage-judged : (columns : List ColumnDef) (page : List ℕ) → IsHeaded columns page × AreRowsWritten columns page × AreSpareBitsBlank columns page × AreSpareBytesBlank columns page → IsRowPage columns page (rows_of columns page)
IsRowPage-judged columns page h = record { has = refl; head = h.0; written = h.1; spare_bits = h.2; spare_bytes = h.3 }

pub judged-IsRowPage : (columns : List ColumnDef) (page : List ℕ) → IsRowPage columns page (rows_of columns page) → IsHeaded columns page × AreRowsWritten columns page × AreSpareBitsBlank columns page × AreSpareBytesBlank columns page
judged-IsRowPage columns page is = (is.head, is.written, is.spare_bits, is.spare_bytes)

-- a row page begins as one
head_starts : (slots rows : ℕ) → take 4 (row_page_head slots rows) ≡ take 4 (row_page_head slots 0)
unfolding row_page_head
head_starts slots rows = refl

pub StartsAsRowPage-IsRowPage : (columns : List ColumnDef) (page : List ℕ) (slots : List (Option Row)) → IsRowPage columns page slots → StartsAsRowPage columns page
StartsAsRowPage-IsRowPage columns page slots is =
    sym (take-take 4 16 page (omega arith)) ∙ (ap (take 4) is.head ∙ head_starts (slot_count columns) (count_rows slots))

-- zeros behind the slots are those of a page of zeros
pub drop-zero_page : (n : ℕ) → drop n zero_page ≡ replicate (4096 - n) 0
unfolding zero_page
drop-zero_page n = drop-replicate n 4096 0

pub spare_blank : (page bytes : List ℕ) (at end : ℕ) → length page ≡ 4096 → at ≡ end → bytes ≡ take (length page - at) (drop at page)
    → (bytes ≡ replicate (length bytes) 0) ↔ (drop end page ≡ drop end zero_page)
spare_blank page bytes at end long is there =
    let same : bytes ≡ drop end page =
    there ∙ (take_all (length page - at) (drop at page) (omega (arith, length-drop at page)) ∙ ap (λ n. drop n page) is) in
    let size : length bytes ≡ 4096 - end = ap length same ∙ (length-drop end page ∙ ap (λ n. n - end) long) in
    let zeros : replicate (length bytes) 0 ≡ drop end zero_page = ap (λ n. replicate n 0) size ∙ sym (drop-zero_page end) in
    ((λ h. sym same ∙ (h ∙ zeros)), (λ h. same ∙ (h ∙ sym zeros)))

-- ---- laws

-- a page has at most one list of slots
pub slots-IsRowPage : (columns : List ColumnDef) (page : List ℕ) (slots others : List (Option Row)) → IsRowPage columns page slots → IsRowPage columns page others → slots ≡ others
slots-IsRowPage columns page slots others is also = sym is.has ∙ also.has

-- a page has as many slots as fit
pub length-IsRowPage : (columns : List ColumnDef) (page : List ℕ) (slots : List (Option Row)) → IsRowPage columns page slots → length slots ≡ slot_count columns
length-IsRowPage columns page slots is = ap length (sym is.has) ∙ length-listed (slot_count columns) (slot_row columns page)

-- what is in a slot
pub get_or-IsRowPage : (columns : List ColumnDef) (page : List ℕ) (slots : List (Option Row)) (slot : ℕ) (d : Option Row) → IsRowPage columns page slots → slot < slot_count columns
    → get_or slots slot d ≡ slot_row columns page slot
get_or-IsRowPage columns page slots slot d is lt = ap (λ s. get_or s slot d) (sym is.has) ∙ get_or-listed (slot_count columns) (slot_row columns page) slot d lt

pub slot_row-filled : (columns : List ColumnDef) (page : List ℕ) (slot : ℕ) → is_slot_filled page slot ≡ true → slot_row columns page slot ≡ Some (row_in columns (slot_bytes columns page slot))
slot_row-filled columns page slot is = ap (λ b. cond b (Some (row_in columns (slot_bytes columns page slot))) None) is

pub slot_row-empty : (columns : List ColumnDef) (page : List ℕ) (slot : ℕ) → is_slot_filled page slot ≡ false → slot_row columns page slot ≡ None
slot_row-empty columns page slot is = ap (λ b. cond b (Some (row_in columns (slot_bytes columns page slot))) None) is

-- the columns of a definition within the limits, and the first of them
pub AreRowColumns-IsValidDef : (place : ℕ) (def : TableDef) → IsValidDef place def → AreRowColumns def.columns
AreRowColumns-IsValidDef place def is = record { few = is.few; narrow = is.narrow }

pub AreRowColumns-take : (n : ℕ) (columns : List ColumnDef) → AreRowColumns columns → AreRowColumns (take n columns)
AreRowColumns-take n columns are = record {
  few = omega (arith, length-take n columns, are.few);
  narrow = omega (arith, narrower n columns, are.narrow);
}
  where
    narrower : (n : ℕ) (columns : List ColumnDef) → row_width_of (take n columns) ≤ row_width_of columns
    narrower zero columns = row_width_of-ge columns
    narrower (suc n) [] = omega arith
    narrower (suc n) (column ∷ columns) = omega (arith, narrower n columns)

-- at least four slots
pub slot_count-ge : (columns : List ColumnDef) → AreRowColumns columns → 4 ≤ slot_count columns
slot_count-ge columns are = le-div 4 32640 (8 * row_width_of columns + 1) (omega arith) (omega (arith, are.narrow))
