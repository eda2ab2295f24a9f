-- One slot of a page filled or emptied.
use Rattle.std.proofs.Common.{◌≡◌, ◌≤◌, ◌<◌, ◌+◌, ◌-◌, ◌/◌, ◌%◌, ◌^◌, ◌∙◌, ℕ, Bool, true, false, List, ◌++◌, length, take, drop, get_or, set, min, refl, ap, sym, inl, inr, arith, length-append}
use Rattle.std.specs.Prelude.{◌==◌, slice_index}
use Rattle.std.proofs.lemmas.Bool.{cases_eq}
use Rattle.std.proofs.lemmas.List.{drop-set-lt, get_or-append_right, get_or-drop, get_or-set_other, get_or-set_same, length-set, length-take, take-append-drop, take-set-le}
use Rattle.std.proofs.lemmas.Slice.{drop-append-drop}
use Rattle.byteorder.specs.Endian.{big_bytes}
use Rattle.store_api.specs.StoreState.{patched}
use Rattle.row_page.specs.RowPage.{is_slot_filled, row_page_head, stated_rows}
use Rattle.row_page.specs.Slots.{TurnsSlot, one_if}
use Rattle.row_page.proofs.BitsLemmas.{bit_added-other, bit_added-same, bit_taken-other, bit_taken-same, even_bit, odd_bit}
use Rattle.row_page.proofs.RowPageLemmas.{stated_in_head}

-- ---- the bits

bit_of : (n m : ℕ) → n ≡ m → (n == 1) ≡ (m == 1)
bit_of n m e = ap (λ x. x == 1) e

odd_is : (n : ℕ) → n ≡ 1 → (n == 1) ≡ true
odd_is n e = bit_of n 1 e

even_is : (n : ℕ) → n ≡ 0 → (n == 1) ≡ false
even_is n e = bit_of n 0 e

-- another number of the byte of a slot
same_bit : (page : List ℕ) (slot bits : ℕ) → 16 + slot / 8 < length page
    → is_slot_filled (set page (16 + slot / 8) bits) slot ≡ (bits / 2 ^ (7 - slot % 8) % 2 == 1)
same_bit page slot bits lt = ap (λ b. b / 2 ^ (7 - slot % 8) % 2 == 1) (get_or-set_same page (16 + slot / 8) bits 0 lt)

other_bit : (page : List ℕ) (slot bits other : ℕ) → 16 + slot / 8 < length page → (other ≡ slot → ⊥)
    → ((j : ℕ) → (j ≡ 7 - slot % 8 → ⊥) → bits / 2 ^ j % 2 ≡ slice_index page (16 + slot / 8) / 2 ^ j % 2)
    → is_slot_filled (set page (16 + slot / 8) bits) other ≡ is_slot_filled page other
other_bit page slot bits other lt ne same = elim (cases_eq (other / 8) (slot / 8)) [
  | inl e ↦
      let at : 16 + other / 8 ≡ 16 + slot / 8 = ap (λ n. 16 + n) e in
      let apart : 7 - other % 8 ≡ 7 - slot % 8 → ⊥ = λ j. ne (omega arith) in
      ap (λ n. get_or (set page (16 + slot / 8) bits) n 0 / 2 ^ (7 - other % 8) % 2 == 1) at
      ∙ (ap (λ b. b / 2 ^ (7 - other % 8) % 2 == 1) (get_or-set_same page (16 + slot / 8) bits 0 lt)
      ∙ (bit_of _ _ (same (7 - other % 8) apart) ∙ ap (λ n. get_or page n 0 / 2 ^ (7 - other % 8) % 2 == 1) (sym at)))
  | inr n ↦ ap (λ b. b / 2 ^ (7 - other % 8) % 2 == 1) (get_or-set_other page (16 + slot / 8) (16 + other / 8) bits 0 (λ e. n (omega arith)))
]

-- ---- the count

get_or-patched : (page two : List ℕ) (i : ℕ) → length two ≡ 2 → 6 ≤ i → 6 ≤ length page → get_or (take 4 page ++ two ++ drop 6 page) i 0 ≡ get_or page i 0
get_or-patched page two i len le long =
    let size : length (take 4 page ++ two) ≡ 6 = omega (arith, length-append (take 4 page) two, length-take 4 page) in
    let back : 6 + (i - 6) ≡ i = omega arith in
    get_or-append_right (take 4 page ++ two) (drop 6 page) 6 i 0 size le ∙ (get_or-drop 6 page (i - 6) 0 ∙ ap (λ n. get_or page n 0) back)

drop-patched : (page two : List ℕ) (n : ℕ) → length two ≡ 2 → 6 ≤ n → 6 ≤ length page → drop n (take 4 page ++ two ++ drop 6 page) ≡ drop n page
drop-patched page two n len le long =
    drop-append-drop 6 page (take 4 page ++ two) n le (omega (arith, length-append (take 4 page) two, length-take 4 page))

head_patched : (page : List ℕ) (slots rows more : ℕ) → take 16 page ≡ row_page_head slots rows → take 16 (patched 4 (big_bytes 2 more) page) ≡ row_page_head slots more
unfolding row_page_head
head_patched page slots rows more head =
    let whole : page ≡ row_page_head slots rows ++ drop 16 page = sym (take-append-drop 16 page) ∙ ap (λ h. h ++ drop 16 page) head in
    ap (λ p. take 16 (patched 4 (big_bytes 2 more) p)) whole

-- ---- both

-- nothing was to be turned
pub TurnsSlot-itself : (slot : ℕ) (filled : Bool) (page : List ℕ) → is_slot_filled page slot ≡ filled → TurnsSlot slot filled page page
TurnsSlot-itself slot filled page is = record {
  bit = is;
  bits = λ other ne. refl;
  head = λ slots rows few head.
      let same : rows ≡ rows + one_if filled - one_if (is_slot_filled page slot) = none filled (is_slot_filled page slot) rows is in
      head ∙ ap (row_page_head slots) same;
  behind = refl;
}
  where
    none : (b t : Bool) (n : ℕ) → t ≡ b → n ≡ n + one_if b - one_if t
    none true t n e = rw e (omega arith)
    none false t n e = rw e (omega arith)

turned : (slot : ℕ) (filled : Bool) (page bits new : List ℕ) (byte more : ℕ) → length page ≡ 4096 → slot < 32640
    → bits ≡ set page (16 + slot / 8) byte → new ≡ patched 4 (big_bytes 2 more) bits
    → (byte / 2 ^ (7 - slot % 8) % 2 == 1) ≡ filled
    → ((j : ℕ) → (j ≡ 7 - slot % 8 → ⊥) → byte / 2 ^ j % 2 ≡ slice_index page (16 + slot / 8) / 2 ^ j % 2)
    → ((rows : ℕ) → rows ≤ 402 → stated_rows bits ≡ rows → more ≡ rows + one_if filled - one_if (is_slot_filled page slot))
    → TurnsSlot slot filled page new
turned slot filled page bits new byte more long within is also bit others counts =
    let lt : 16 + slot / 8 < length page = omega arith in
    let size : length bits ≡ 4096 = ap length is ∙ (length-set page (16 + slot / 8) byte ∙ long) in
    let in_new : (k : ℕ) → is_slot_filled new k ≡ is_slot_filled bits k = λ k.
    ap (λ b. b / 2 ^ (7 - k % 8) % 2 == 1) (ap (λ p. get_or p (16 + k / 8) 0) also ∙ get_or-patched bits (big_bytes 2 more) (16 + k / 8) refl (omega arith) (omega arith)) in
    record {
      bit = in_new slot ∙ (ap (λ p. is_slot_filled p slot) is ∙ (same_bit page slot byte lt ∙ bit));
      bits = λ other ne. in_new other ∙ (ap (λ p. is_slot_filled p other) is ∙ other_bit page slot byte other lt ne others);
      head = λ slots rows few head.
          let same : take 16 bits ≡ row_page_head slots rows = ap (take 16) is ∙ (take-set-le 16 page (16 + slot / 8) byte (omega arith) ∙ head) in
          ap (take 16) also ∙ (head_patched bits slots rows more same ∙ ap (row_page_head slots) (counts rows few (stated_in_head bits slots rows few same)));
      behind = ap (drop (17 + slot / 8)) also
          ∙ (drop-patched bits (big_bytes 2 more) (17 + slot / 8) refl (omega arith) (omega arith)
          ∙ (ap (drop (17 + slot / 8)) is ∙ drop-set-lt (17 + slot / 8) page (16 + slot / 8) byte (omega arith)));
    }

pub TurnsSlot-on : (slot : ℕ) (page bits new : List ℕ) (more : ℕ) → length page ≡ 4096 → slot < 32640 → is_slot_filled page slot ≡ false
    → bits ≡ set page (16 + slot / 8) (slice_index page (16 + slot / 8) + 2 ^ (7 - slot % 8)) → new ≡ patched 4 (big_bytes 2 more) bits
    → more ≡ min (stated_rows bits + 1) 65535 → TurnsSlot slot true page new
TurnsSlot-on slot page bits new more long within was is also counted =
    let even : slice_index page (16 + slot / 8) / 2 ^ (7 - slot % 8) % 2 ≡ 0 = even_bit _ was in
    turned slot true page bits new _ more long within is also
    (odd_is _ (bit_added-same (slice_index page (16 + slot / 8)) (7 - slot % 8) even))
    (λ j ne. bit_added-other (slice_index page (16 + slot / 8)) (7 - slot % 8) j ne even)
    (λ rows few there. let none : one_if (is_slot_filled page slot) ≡ 0 = ap one_if was in omega (arith, there, counted, none))

pub TurnsSlot-off : (slot : ℕ) (page bits new : List ℕ) (more : ℕ) → length page ≡ 4096 → slot < 32640 → is_slot_filled page slot ≡ true
    → bits ≡ set page (16 + slot / 8) (slice_index page (16 + slot / 8) - 2 ^ (7 - slot % 8)) → new ≡ patched 4 (big_bytes 2 more) bits
    → more ≡ stated_rows bits - 1 → TurnsSlot slot false page new
TurnsSlot-off slot page bits new more long within was is also counted =
    let odd : slice_index page (16 + slot / 8) / 2 ^ (7 - slot % 8) % 2 ≡ 1 = odd_bit _ was in
    turned slot false page bits new _ more long within is also
    (even_is _ (bit_taken-same (slice_index page (16 + slot / 8)) (7 - slot % 8) odd))
    (λ j ne. bit_taken-other (slice_index page (16 + slot / 8)) (7 - slot % 8) j ne odd)
    (λ rows few there. let one : one_if (is_slot_filled page slot) ≡ 1 = ap one_if was in omega (arith, there, counted, one))
