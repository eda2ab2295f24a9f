-- The place of a row as a number.
use Rattle.std.proofs.Common.{◌≡◌, ◌<◌, ◌≤◌, ◌+◌, ◌-◌, ◌*◌, ◌/◌, ◌%◌, ◌^◌, ℕ, List, [], ◌∷◌, ◌++◌, refl, ap, arith, sym, subst, ◌∙◌, inl, inr, drop, length}
use Rattle.std.specs.Int.{byte_at}
use Rattle.std.proofs.lemmas.Bool.{cases_lt}
use Rattle.std.proofs.lemmas.List.{drop-drop, get_or-drop, length-drop}
use Rattle.mdc_words.specs.ByteOrder.{Entry}
use Rattle.byteorder.specs.Endian.{big_bytes, big_number}
use Rattle.mdc_values.specs.Rising.{IsEarlier}
use Rattle.mdc_values.specs.declared.rid.Rid.{Rid}
use Rattle.key_codec.specs.Keys.{AreBytes}
use Rattle.record_index.specs.FoundRids.{IsRid, rid_number, rid_in_entry, rid_of_number}

pub number_small : (rid : Rid) → IsRid rid → rid_number rid < 2 ^ 48
number_small rid is = omega (arith, is.block, is.slot)

-- a number is that of its place
pub number_of_rid : (n : ℕ) → rid_number (rid_of_number n) ≡ n
number_of_rid n = omega arith

pub is_rid : (n : ℕ) → n < 2 ^ 48 → IsRid (rid_of_number n)
is_rid n small = record { block = omega (arith, small); slot = omega arith }

-- and a place is that of its number
pub rid_of_place : (rid : Rid) → IsRid rid → rid_of_number (rid_number rid) ≡ rid
rid_of_place rid is =
    let block : rid_number rid / 65536 ≡ rid.block = omega (arith, is.slot) in
    let slot : rid_number rid % 65536 ≡ rid.slot = omega (arith, is.slot) in
    ap (λ b. record { block = b; slot = rid_number rid % 65536 }) block ∙ ap (λ s. record { block = rid.block; slot = s }) slot

-- lower numbers are earlier places
pub earlier : (a b : ℕ) → a < b → IsEarlier (rid_of_number a) (rid_of_number b)
earlier a b low = elim (cases_lt (a / 65536) (b / 65536)) [
  | inl less ↦ inl less
  | inr not ↦ inr (omega (arith, low, not), omega (arith, low, not))
]

-- its bytes are those of the block, and then those of the slot
pub place_bytes : (rid : Rid) → rid.slot < 65536 → big_bytes 4 rid.block ++ big_bytes 2 rid.slot ≡ big_bytes 6 (rid_number rid)
place_bytes rid low =
    let n = rid_number rid in
    let a : byte_at 3 rid.block ≡ byte_at 5 n = omega (arith, low) in
    let b : byte_at 2 rid.block ≡ byte_at 4 n = omega (arith, low) in
    let c : byte_at 1 rid.block ≡ byte_at 3 n = omega (arith, low) in
    let d : byte_at 0 rid.block ≡ byte_at 2 n = omega (arith, low) in
    let e : byte_at 1 rid.slot ≡ byte_at 1 n = omega (arith, low) in
    let f : byte_at 0 rid.slot ≡ byte_at 0 n = omega (arith, low) in
    rw (a, b, c, d, e, f) refl

-- six bytes as a number are four of a block and two of a slot
number_parts : (xs : List ℕ) → AreBytes xs → length xs ≡ 6 → rid_of_number (big_number 6 xs) ≡ record { block = big_number 4 xs; slot = big_number 2 (drop 4 xs) }
number_parts [] are long = absurd (omega (arith, long))
number_parts (a ∷ []) are long = absurd (omega (arith, long))
number_parts (a ∷ b ∷ []) are long = absurd (omega (arith, long))
number_parts (a ∷ b ∷ c ∷ []) are long = absurd (omega (arith, long))
number_parts (a ∷ b ∷ c ∷ d ∷ []) are long = absurd (omega (arith, long))
number_parts (a ∷ b ∷ c ∷ d ∷ e ∷ []) are long = absurd (omega (arith, long))
number_parts (a ∷ b ∷ c ∷ d ∷ e ∷ f ∷ g ∷ xs) are long = absurd (omega (arith, long))
number_parts (a ∷ b ∷ c ∷ d ∷ e ∷ f ∷ []) are long =
    let t : e < 256 = are 4 in
    let u : f < 256 = are 5 in
    let n = a * 1099511627776 + (b * 4294967296 + (c * 16777216 + (d * 65536 + (e * 256 + (f * 1 + 0))))) in
    let block : n / 65536 ≡ a * 16777216 + (b * 65536 + (c * 256 + (d * 1 + 0))) = omega arith in
    let slot : n % 65536 ≡ e * 256 + (f * 1 + 0) = omega arith in
    ap (λ m. record { block = m; slot = n % 65536 }) block ∙ ap (λ m. record { block = a * 16777216 + (b * 65536 + (c * 256 + (d * 1 + 0))); slot = m }) slot

-- the number of the last six bytes is that of the place that an entry names
pub last_named : (entry : Entry) (back : List ℕ) (n : ℕ) → AreBytes entry → 6 ≤ length entry → back ≡ drop (length entry - 6) entry → n ≡ big_number 6 back → rid_of_number n ≡ rid_in_entry entry
last_named entry back n are long back_is is =
    let at = length entry - 6 in
    let six : length (drop at entry) ≡ 6 = omega (arith, length-drop at entry, long) in
    let bytes : AreBytes (drop at entry) = λ k. subst (λ b. b < 256) (sym (get_or-drop at entry k 0)) (are (at + k)) in
    let behind : drop 4 (drop at entry) ≡ drop (length entry - 2) entry = drop-drop 4 at entry ∙ ap (λ m. drop m entry) (omega (arith, long)) in
    ap rid_of_number (is ∙ ap (big_number 6) back_is) ∙ (number_parts (drop at entry) bytes six ∙ ap (λ xs. record { block = big_number 4 (drop at entry); slot = big_number 2 xs }) behind)
