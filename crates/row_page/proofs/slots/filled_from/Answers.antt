-- The bits of 64 slots are those of a number.
use Rattle.std.proofs.Common.{◌≡◌, ◌<◌, ◌+◌, ◌-◌, ◌/◌, ◌%◌, ◌∙◌, ℕ, List, refl, ap, sym, take, drop, get_or, length, length-drop, arith}
use Rattle.std.specs.Prelude.{◌==◌}
use Rattle.std.specs.Int.{bit_at, bit_not, leading_ones, w64}
use Rattle.std.proofs.lemmas.List.{get_or-drop, take_all}
use Rattle.std.proofs.lemmas.Nat.{leading_le}
use Rattle.byteorder.specs.Endian.{big_number}
use Rattle.row_page.specs.RowPage.{is_slot_filled}
use Rattle.row_page.proofs.BitsLemmas.{big_from-bit, leading_ones-ends, leading_ones-set}
use Rattle.row_page.proofs.ColumnLemmas.{AreBytes}
use Rattle.row_page.proofs.RowLemmas.{AreBytes-drop}
use Rattle.row_page.proofs.slots.filled_from.Goals as goal

-- the bit of a slot, k behind one that begins a byte
in_number : (page : List ℕ) (slot k : ℕ) → AreBytes page → slot % 8 ≡ 0 → k < 64 → is_slot_filled page (slot + k) ≡ (bit_at (big_number 8 (drop (16 + slot / 8) page)) (63 - k) == 1)
in_number page slot k are first lt =
    let at : 16 + (slot + k) / 8 ≡ 16 + slot / 8 + (0 + k / 8) = omega arith in
    let place : 7 - (slot + k) % 8 ≡ 7 - k % 8 = omega arith in
    let byte : get_or (drop (16 + slot / 8) page) (0 + k / 8) 0 ≡ get_or page (16 + (slot + k) / 8) 0 = get_or-drop (16 + slot / 8) page (0 + k / 8) 0 ∙ ap (λ i. get_or page i 0) (sym at) in
    ap (λ j. bit_at (get_or page (16 + (slot + k) / 8) 0) j == 1) place
    ∙ (ap (λ b. bit_at b (7 - k % 8) == 1) (sym byte)
    ∙ ap (λ b. b == 1) (sym (big_from-bit 8 0 k (drop (16 + slot / 8) page) (AreBytes-drop (16 + slot / 8) page are) lt)))

-- the bytes from there on are those of the rest of the page
number_is : (page bytes : List ℕ) (at count number : ℕ) → length page ≡ at + count → bytes ≡ take count (drop at page) → number ≡ big_number 8 bytes → number ≡ big_number 8 (drop at page)
number_is page bytes at count number long is read = read ∙ ap (big_number 8) (is ∙ take_all count (drop at page) (omega (arith, length-drop at page)))

pub returns-clause-filled : goal.returns-clause-filled
returns-clause-filled c = λ k lt.
    let page = c.args.page.now in
    let number = c.read_u64.result in
    let below : k < leading_ones w64 number = omega (arith, lt, c.leading_ones.ensures) in
    let is = number_is page _ (16 + c.args.slot / 8) _ number (omega (arith, c.requires.within)) refl c.read_u64.ensures in
    in_number page c.args.slot k c.fits-page c.requires.first (omega (arith, below, leading_le 64 (bit_not w64 number)))
    ∙ ap (λ b. b == 1) (ap (λ n. bit_at n (63 - k)) (sym is) ∙ leading_ones-set w64 number (omega (arith, c.read_u64.type_inv)) k below)

pub returns-clause-ends : goal.returns-clause-ends
returns-clause-ends c = λ some.
    let page = c.args.page.now in
    let number = c.read_u64.result in
    let count = c.leading_ones.ensures in
    let is = number_is page _ (16 + c.args.slot / 8) _ number (omega (arith, c.requires.within)) refl c.read_u64.ensures in
    in_number page c.args.slot c.leading_ones.result c.fits-page c.requires.first some
    ∙ ap (λ b. b == 1) (ap (λ n. bit_at n (63 - c.leading_ones.result)) (sym is)
    ∙ (ap (λ k. bit_at number (63 - k)) count ∙ leading_ones-ends w64 number (omega (arith, c.read_u64.type_inv)) (omega (arith, some, count))))
