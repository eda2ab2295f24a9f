-- One slot of a page filled or emptied, but for its bytes.
use Rattle.std.specs.Prelude.{◌≡◌, ◌≤◌, ◌+◌, ◌-◌, ◌/◌, ℕ, Bool, if◌then◌else◌, List, take, drop}
use Rattle.row_page.specs.RowPage.{is_slot_filled, row_page_head}

-- one where there is a row, and zero where there is none
abbrev pub one_if : Bool → ℕ
one_if filled = if filled then 1 else 0

-- The bit of a slot is this one now, and the head counts the row. Nothing else of the page is another.
pub record TurnsSlot (slot : ℕ) (filled : Bool) (old new : List ℕ) : Type 0 where
  pub bit : is_slot_filled new slot ≡ filled
  pub bits : (other : ℕ) → (other ≡ slot → ⊥) → is_slot_filled new other ≡ is_slot_filled old other
  pub head : (slots rows : ℕ) → rows ≤ 402 → take 16 old ≡ row_page_head slots rows
      → take 16 new ≡ row_page_head slots (rows + one_if filled - one_if (is_slot_filled old slot))
  pub behind : drop (17 + slot / 8) new ≡ drop (17 + slot / 8) old
