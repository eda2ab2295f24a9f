-- A row page after one slot, or all, changed.
use Rattle.std.proofs.Common.{◌≡◌, ◌≤◌, ◌<◌, ◌+◌, ◌-◌, ◌*◌, ◌/◌, ◌%◌, ◌^◌, ◌∙◌, ℕ, zero, suc, Bool, true, false, cond, IsTrue, List, ◌++◌, length, take, drop, replicate, get_or, set, Option, Some, None, refl, ap, sym, subst, inl, inr, arith}
use Rattle.std.specs.Prelude.{is_some, ◌==◌}
use Rattle.std.proofs.Math.Nat.{div-le_self, mul-le-mul_right}
use Rattle.std.proofs.lemmas.Bool.{cases_eq, cases_lt}
use Rattle.std.proofs.lemmas.List.{drop-drop, drop-take, get_or-append_right, get_or-drop, get_or-set_other, get_or-set_same, get_or-take, length-replicate, length-set, length-take, same_lists, take-take, take_at, drop_at}
use Rattle.std.proofs.lemmas.List.Sums.{sum_by-set}
use Rattle.std.proofs.lemmas.Slice.{drop-append-drop, drop-put_mid, take-put_mid_below}
use borrow.Rule.Slice.PartMut.{put_mid}
use Rattle.mdc_ast.specs.declared.definition.ColumnDef.{ColumnDef}
use Rattle.mdc_ast.specs.declared.row.Row.{Row}
use Rattle.mdc_ast.specs.Database.{fits_all}
use Rattle.mdc_words.proofs.ListedLemmas.{length-listed, get_or-listed}
use Rattle.store_api.specs.StoreState.{patched, zero_page}
use Rattle.row_page.specs.Row.{row_bytes, row_in, row_width_of}
use Rattle.row_page.specs.RowPage.{IsRowPage, IsWrittenRow, count_rows, empty_row_page, is_slot_filled, row_page_head, rows_of, slot_bit_bytes, slot_bytes, slot_count, slot_row, slot_start, slots_end, slots_start}
use Rattle.row_page.specs.Slots.{TurnsSlot, one_if}
use Rattle.row_page.proofs.RowLemmas.{length-row_bytes, row_in-row_bytes}
use Rattle.row_page.proofs.RowPageLemmas.{count_rows-le, slots_end-le}

-- ---- where a slot lies

pub slot_start-le : (columns : List ColumnDef) (slot : ℕ) → slot < slot_count columns → slot_start columns slot + row_width_of columns ≤ slots_end columns
slot_start-le columns slot lt =
    let less : (slot + 1) * row_width_of columns ≤ slot_count columns * row_width_of columns = mul-le-mul_right (row_width_of columns) (omega arith) in
    omega arith

slot_start-before : (columns : List ColumnDef) (before slot : ℕ) → before < slot → slot_start columns before + row_width_of columns ≤ slot_start columns slot
slot_start-before columns before slot lt =
    let less : (before + 1) * row_width_of columns ≤ slot * row_width_of columns = mul-le-mul_right (row_width_of columns) (omega arith) in
    omega arith

-- ---- one slot changed

-- the bytes of a slot hold a row, where there is one
abbrev HoldsSlot : List ColumnDef → List ℕ → Option Row → Type 0
HoldsSlot columns bytes None = Unit {0}
HoldsSlot columns bytes (Some row) = (bytes ≡ row_bytes columns row) × (row_in columns (row_bytes columns row) ≡ row)

slot_row-other : (columns : List ColumnDef) (old new : List ℕ) (slot : ℕ) → is_slot_filled new slot ≡ is_slot_filled old slot → slot_bytes columns new slot ≡ slot_bytes columns old slot
    → slot_row columns new slot ≡ slot_row columns old slot
slot_row-other columns old new slot bit bytes =
    ap (λ b. cond b (Some (row_in columns (slot_bytes columns new slot))) None) bit
    ∙ ap (λ bs. cond (is_slot_filled old slot) (Some (row_in columns bs)) None) bytes

slot_row-here : (columns : List ColumnDef) (new : List ℕ) (slot : ℕ) (row : Option Row) → is_slot_filled new slot ≡ is_some row → HoldsSlot columns (slot_bytes columns new slot) row
    → slot_row columns new slot ≡ row
slot_row-here columns new slot None bit holds = ap (λ b. cond b (Some (row_in columns (slot_bytes columns new slot))) None) bit
slot_row-here columns new slot (Some row) bit holds =
    ap (λ b. cond b (Some (row_in columns (slot_bytes columns new slot))) None) bit ∙ ap Some (ap (row_in columns) holds.0 ∙ holds.1)

written_here : (columns : List ColumnDef) (bytes : List ℕ) (row : Option Row) (b : Bool) → b ≡ is_some row → IsTrue b → HoldsSlot columns bytes row → IsWrittenRow columns bytes
written_here columns bytes None b bit filled holds = cc
written_here columns bytes (Some row) b bit filled holds =
    ap (λ bs. row_bytes columns (row_in columns bs)) holds.0 ∙ (ap (row_bytes columns) holds.1 ∙ sym holds.0)

rows_changed : (columns : List ColumnDef) (old new : List ℕ) (slots : List (Option Row)) (slot : ℕ) (row : Option Row) → rows_of columns old ≡ slots → slot < slot_count columns
    → slot_row columns new slot ≡ row → ((t : ℕ) → t < slot_count columns → (t ≡ slot → ⊥) → slot_row columns new t ≡ slot_row columns old t)
    → rows_of columns new ≡ set slots slot row
rows_changed columns old new slots slot row has lt here others =
    let count_new : length (rows_of columns new) ≡ slot_count columns = length-listed (slot_count columns) (slot_row columns new) in
    let count_old : length slots ≡ slot_count columns = ap length (sym has) ∙ length-listed (slot_count columns) (slot_row columns old) in
    same_lists (rows_of columns new) (set slots slot row) (count_new ∙ sym (length-set slots slot row ∙ count_old)) (λ k d below.
    let within : k < slot_count columns = omega (arith, count_new) in
    get_or-listed (slot_count columns) (slot_row columns new) k d within ∙ elim (cases_eq k slot) [
      | inl e ↦
          let inside : slot < length slots = omega (arith, count_old) in
          ap (slot_row columns new) e ∙ (here ∙ (sym (get_or-set_same slots slot row d inside) ∙ ap (λ n. get_or (set slots slot row) n d) (sym e)))
      | inr ne ↦
          others k within ne ∙ (sym (get_or-listed (slot_count columns) (slot_row columns old) k d within)
          ∙ (ap (λ s. get_or s k d) has ∙ sym (get_or-set_other slots slot k row d ne)))
    ])

pub IsRowPage-changed : (columns : List ColumnDef) (old new : List ℕ) (slots : List (Option Row)) (slot : ℕ) (row : Option Row) → IsRowPage columns old slots → slot < slot_count columns
    → is_slot_filled new slot ≡ is_some row
    → ((t : ℕ) → t < 8 * slot_bit_bytes (slot_count columns) → (t ≡ slot → ⊥) → is_slot_filled new t ≡ is_slot_filled old t)
    → ((t : ℕ) → t < slot_count columns → (t ≡ slot → ⊥) → slot_bytes columns new t ≡ slot_bytes columns old t)
    → HoldsSlot columns (slot_bytes columns new slot) row
    → take 16 new ≡ row_page_head (slot_count columns) (count_rows (set slots slot row))
    → drop (slots_end columns) new ≡ drop (slots_end columns) old
    → IsRowPage columns new (set slots slot row)
IsRowPage-changed columns old new slots slot row is lt bit bits bytes holds head behind = record {
  has = rows_changed columns old new slots slot row is.has lt (slot_row-here columns new slot row bit holds)
      (λ t within ne. slot_row-other columns old new t (bits t (omega arith) ne) (bytes t within ne));
  head = head;
  written = λ t within filled. elim (cases_eq t slot) [
    | inl e ↦
        subst (λ n. IsWrittenRow columns (slot_bytes columns new n)) (sym e)
        (written_here columns (slot_bytes columns new slot) row (is_slot_filled new slot) bit (ap (is_slot_filled new) (sym e) ∙ filled) holds)
    | inr ne ↦
        subst (IsWrittenRow columns) (sym (bytes t within ne)) (is.written t within (sym (bits t (omega arith) ne) ∙ filled))
  ];
  spare_bits = λ t past within. bits t within (λ e. omega arith) ∙ is.spare_bits t past within;
  spare_bytes = behind ∙ is.spare_bytes;
}

-- how many rows there are then
count_rows-set : (columns : List ColumnDef) (old : List ℕ) (slots : List (Option Row)) (slot : ℕ) (row : Option Row) → rows_of columns old ≡ slots → slot < slot_count columns
    → count_rows (set slots slot row) ≡ count_rows slots + one_if (is_some row) - one_if (is_slot_filled old slot)
count_rows-set columns old slots slot row has lt =
    let size : length slots ≡ slot_count columns = ap length (sym has) ∙ length-listed (slot_count columns) (slot_row columns old) in
    let was : get_or slots slot None ≡ slot_row columns old slot = ap (λ s. get_or s slot None) (sym has) ∙ get_or-listed (slot_count columns) (slot_row columns old) slot None lt in
    let one : one_if (is_some (get_or slots slot None)) ≡ one_if (is_slot_filled old slot) = ap (λ s. one_if (is_some s)) was ∙ ap one_if (some_if (is_slot_filled old slot) _) in
    let sums = sum_by-set (λ s. one_if (is_some s)) slots slot row None (omega (arith, size)) in
    omega (arith, sums, one)
  where
    some_if : (b : Bool) (r : Row) → is_some (cond b (Some r) None) ≡ b
    some_if true r = refl
    some_if false r = refl

head_turned : (columns : List ColumnDef) (old new : List ℕ) (slots : List (Option Row)) (slot : ℕ) (row : Option Row) → IsRowPage columns old slots → slot < slot_count columns
    → TurnsSlot slot (is_some row) old new → take 16 new ≡ row_page_head (slot_count columns) (count_rows (set slots slot row))
head_turned columns old new slots slot row is lt turns =
    turns.head (slot_count columns) (count_rows slots) (count_rows-le columns old slots is.has) is.head
    ∙ ap (row_page_head (slot_count columns)) (sym (count_rows-set columns old slots slot row is.has lt))

drop_further : (n m : ℕ) (old new : List ℕ) → n ≤ m → drop n new ≡ drop n old → drop m new ≡ drop m old
drop_further n m old new le same =
    let at : n + (m - n) ≡ m = omega arith in
    ap (λ k. drop k new) (sym at) ∙ (sym (drop-drop (m - n) n new) ∙ (ap (drop (m - n)) same ∙ (drop-drop (m - n) n old ∙ ap (λ k. drop k old) at)))

-- the row of a slot taken out
pub IsRowPage-without : (columns : List ColumnDef) (old new : List ℕ) (slots : List (Option Row)) (slot : ℕ) → slot < slot_count columns → TurnsSlot slot false old new
    → IsRowPage columns old slots → IsRowPage columns new (set slots slot None)
IsRowPage-without columns old new slots slot lt turns is =
    IsRowPage-changed columns old new slots slot None is lt turns.bit (λ t within ne. turns.bits t ne)
    (λ t within ne. ap (take (row_width_of columns)) (drop_further (17 + slot / 8) (slot_start columns t) old new (omega arith) turns.behind))
    tt (head_turned columns old new slots slot None is lt turns)
    (drop_further (17 + slot / 8) (slots_end columns) old new (omega arith) turns.behind)

-- ---- bytes written into a slot

get_or-front : (at i : ℕ) (old new : List ℕ) → i < at → take at new ≡ take at old → get_or new i 0 ≡ get_or old i 0
get_or-front at i old new lt same = sym (get_or-take at new i 0 lt) ∙ (ap (λ p. get_or p i 0) same ∙ get_or-take at old i 0 lt)

part_front : (at start size : ℕ) (old new : List ℕ) → start + size ≤ at → take at new ≡ take at old → take size (drop start new) ≡ take size (drop start old)
part_front at start size old new le same =
    let front : take (start + size) new ≡ take (start + size) old =
    sym (take-take (start + size) at new le) ∙ (ap (take (start + size)) same ∙ take-take (start + size) at old le) in
    sym (drop-take start size new) ∙ (ap (drop start) front ∙ drop-take start size old)

part_written : (at size : ℕ) (mid bytes : List ℕ) → at ≤ length mid → length bytes ≡ size → take size (drop at (put_mid at size mid bytes)) ≡ bytes
part_written at size mid bytes le len =
    let front : length (take at mid) ≡ at = omega (arith, length-take at mid) in
    ap (take size) (drop_at (take at mid) (bytes ++ drop size (drop at mid)) at front) ∙ take_at bytes (drop size (drop at mid)) size len

-- a row put into a slot
pub IsRowPage-with : (columns : List ColumnDef) (old mid : List ℕ) (bytes : List ℕ) (at size : ℕ) (slots : List (Option Row)) (slot : ℕ) (row : Row)
    → length mid ≡ 4096 → length columns ≤ 16 → row.number < 2 ^ 64 → IsTrue (fits_all columns row.values)
    → slot < slot_count columns → TurnsSlot slot true old mid → at ≡ slot_start columns slot → size ≡ row_width_of columns → bytes ≡ row_bytes columns row
    → IsRowPage columns old slots → IsRowPage columns (put_mid at size mid bytes) (set slots slot (Some row))
IsRowPage-with columns old mid bytes at size slots slot row long few number fits lt turns is_at is_size are is =
    let new : List ℕ = put_mid at size mid bytes in
    let end : at + size ≤ slots_end columns = omega (arith, slot_start-le columns slot lt) in
    let inside : at ≤ length mid = omega (arith, slots_end-le columns) in
    let len : length bytes ≡ size = ap length are ∙ (length-row_bytes columns row fits ∙ sym is_size) in
    let front : take at new ≡ take at mid = take-put_mid_below at size mid bytes at (omega arith) inside in
    let low : 17 + slot / 8 ≤ slots_start columns = omega arith in
    let behind : (n : ℕ) → at + size ≤ n → drop n new ≡ drop n mid = λ n le. drop-put_mid at size mid bytes n le inside len in
    let bit_of : (t : ℕ) → t < 8 * slot_bit_bytes (slot_count columns) → is_slot_filled new t ≡ is_slot_filled mid t =
    λ t within. ap (λ b. b / 2 ^ (7 - t % 8) % 2 == 1) (get_or-front at (16 + t / 8) mid new (omega arith) front) in
    IsRowPage-changed columns old new slots slot (Some row) is lt
    (bit_of slot (omega arith) ∙ turns.bit)
    (λ t within ne. bit_of t within ∙ turns.bits t ne)
    (λ t within ne.
    let before : slot_bytes columns mid t ≡ slot_bytes columns old t =
    ap (take (row_width_of columns)) (drop_further (17 + slot / 8) (slot_start columns t) old mid (omega arith) turns.behind) in
    elim (cases_lt t slot) [
      | inl less ↦ part_front at (slot_start columns t) (row_width_of columns) mid new (omega (arith, slot_start-before columns t slot less)) front ∙ before
      | inr more ↦
          let above : slot < t = omega (arith, ne) in
          ap (take (row_width_of columns)) (behind (slot_start columns t) (omega (arith, slot_start-before columns slot t above))) ∙ before
    ]) (
      ap (λ n. take (row_width_of columns) (drop n new)) (sym is_at) ∙ (ap (λ n. take n (drop at new)) (sym is_size) ∙ (part_written at size mid bytes inside len ∙ are)),
      row_in-row_bytes columns row few number fits,
    )
    (sym (take-take 16 at new (omega arith)) ∙ (ap (take 16) front ∙ (take-take 16 at mid (omega arith) ∙ head_turned columns old mid slots slot (Some row) is lt turns)))
    (behind (slots_end columns) end ∙ drop_further (17 + slot / 8) (slots_end columns) old mid (omega arith) turns.behind)

-- ---- all slots empty

zeros_at : (n i : ℕ) → get_or (replicate {A = ℕ} n 0) i 0 ≡ 0
zeros_at zero i = refl
zeros_at (suc n) zero = refl
zeros_at (suc n) (suc i) = zeros_at n i

zero_page_at : (i : ℕ) → get_or zero_page i 0 ≡ 0
unfolding zero_page
zero_page_at i = zeros_at 4096 i

no_bit : (bits j : ℕ) → bits ≡ 0 → (bits / 2 ^ j % 2 == 1) ≡ false
no_bit bits j e =
    let none : 0 / 2 ^ j ≡ 0 = omega (arith, div-le_self 0 (2 ^ j)) in
    ap (λ b. b / 2 ^ j % 2 == 1) e ∙ ap (λ q. q % 2 == 1) none

length-row_page_head : (slots rows : ℕ) → length (row_page_head slots rows) ≡ 16
unfolding row_page_head
length-row_page_head slots rows = refl

no_slot : (columns : List ColumnDef) (slot : ℕ) → is_slot_filled (empty_row_page columns) slot ≡ false
no_slot columns slot =
    let at : 16 + (16 + slot / 8 - 16) ≡ 16 + slot / 8 = omega arith in
    no_bit _ (7 - slot % 8)
    (get_or-append_right (row_page_head (slot_count columns) 0) (drop 16 zero_page) 16 (16 + slot / 8) 0 (length-row_page_head (slot_count columns) 0) (omega arith)
    ∙ (get_or-drop 16 zero_page (16 + slot / 8 - 16) 0 ∙ (ap (λ i. get_or zero_page i 0) at ∙ zero_page_at (16 + slot / 8))))

count_none : (n : ℕ) → count_rows (replicate n None) ≡ 0
count_none zero = refl
count_none (suc n) = omega (arith, count_none n)

get_or-replicate : {X : Type 0} (n i : ℕ) (x d : X) → i < n → get_or (replicate n x) i d ≡ x
get_or-replicate zero i x d lt = absurd (omega arith)
get_or-replicate (suc n) zero x d lt = refl
get_or-replicate (suc n) (suc i) x d lt = get_or-replicate n i x d (omega arith)

pub IsRowPage-empty : (columns : List ColumnDef) → IsRowPage columns (empty_row_page columns) (replicate (slot_count columns) None)
IsRowPage-empty columns =
    let count : length (rows_of columns (empty_row_page columns)) ≡ slot_count columns = length-listed (slot_count columns) (slot_row columns (empty_row_page columns)) in
    record {
      has = same_lists (rows_of columns (empty_row_page columns)) (replicate (slot_count columns) None) (count ∙ sym (length-replicate (slot_count columns) None)) (λ k d lt.
          let within : k < slot_count columns = omega (arith, count) in
          get_or-listed (slot_count columns) (slot_row columns (empty_row_page columns)) k d within
          ∙ (ap (λ b. cond b (Some (row_in columns (slot_bytes columns (empty_row_page columns) k))) None) (no_slot columns k)
          ∙ sym (get_or-replicate (slot_count columns) k None d within)));
      head = take_at (row_page_head (slot_count columns) 0) (drop 16 zero_page) 16 (length-row_page_head (slot_count columns) 0)
          ∙ ap (row_page_head (slot_count columns)) (sym (count_none (slot_count columns)));
      written = λ slot lt filled. absurd (cc (no_slot columns slot, filled));
      spare_bits = λ slot past within. no_slot columns slot;
      spare_bytes = drop-append-drop 16 zero_page (row_page_head (slot_count columns) 0) (slots_end columns) (omega arith) (length-row_page_head (slot_count columns) 0);
    }

-- what the code writes for it
pub wiped : (columns : List ColumnDef) (blank head new : List ℕ) (slots : ℕ) → blank ≡ zero_page → slots ≡ slot_count columns → head ≡ row_page_head slots 0 → new ≡ patched 0 head blank → new ≡ empty_row_page columns
wiped columns blank head new slots is count are also =
    let same : head ≡ row_page_head (slot_count columns) 0 = are ∙ ap (λ n. row_page_head n 0) count in
    let size : 0 + length (row_page_head (slot_count columns) 0) ≡ 16 = omega (arith, length-row_page_head (slot_count columns) 0) in
    also ∙ (ap (λ b. patched 0 head b) is ∙ (ap (λ h. patched 0 h zero_page) same
    ∙ ap (λ n. row_page_head (slot_count columns) 0 ++ drop n zero_page) size))
