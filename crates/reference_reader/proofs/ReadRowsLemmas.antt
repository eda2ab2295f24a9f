-- The rows in slots, in pages and in blocks.
use Rattle.std.proofs.Common.{◌≡◌, ◌+◌, ℕ, List, [], ◌∷◌, ◌++◌, Option, Some, None, refl, ap, sym, ◌∙◌, arith, append_assoc, Bool, true, false, cond}
use Rattle.std.specs.Prelude.{map}
use Rattle.std.proofs.lemmas.List.FromFn.{map-range_with_len_more}
use Rattle.mdc_ast.specs.declared.row.Row.{Row}
use Rattle.mdc_words.specs.Listed.{listed}
use Rattle.mdc_sound.specs.TableRows.{rows_from_slot}
use Rattle.reference_reader.specs.ReadTables.{rows_in_slots}

-- slots behind others
pub rows_in_slots-append : (xs ys : List (Option Row)) → rows_in_slots (xs ++ ys) ≡ rows_in_slots xs ++ rows_in_slots ys
rows_in_slots-append [] ys = refl
rows_in_slots-append (None ∷ xs) ys = rows_in_slots-append xs ys
rows_in_slots-append (Some row ∷ xs) ys = ap (λ rows. row ∷ rows) (rows_in_slots-append xs ys)

-- the rows of a block without their places
pub map-rows_from_slot : (block slot : ℕ) (slots : List (Option Row)) → map (λ placed. placed.row) (rows_from_slot block slot slots) ≡ rows_in_slots slots
map-rows_from_slot block slot [] = refl
map-rows_from_slot block slot (None ∷ slots) = map-rows_from_slot block (slot + 1) slots
map-rows_from_slot block slot (Some row ∷ slots) = ap (λ rows. row ∷ rows) (map-rows_from_slot block (slot + 1) slots)

-- one slot more
pub rows_in_slots-more : (n : ℕ) (slot_at : ℕ → Option Row) → rows_in_slots (listed (n + 1) slot_at) ≡ rows_in_slots (listed n slot_at) ++ rows_in_slots (slot_at n ∷ [])
rows_in_slots-more n slot_at =
    ap rows_in_slots (map-range_with_len_more slot_at 0 n n (omega arith)) ∙ rows_in_slots-append (listed n slot_at) (slot_at n ∷ [])

-- rows that came with one slot more
pub rows_pushed : (n : ℕ) (slot_at : ℕ → Option Row) (old now new more : List Row) → now ≡ old ++ rows_in_slots (listed n slot_at) → new ≡ now ++ more
    → rows_in_slots (slot_at n ∷ []) ≡ more → new ≡ old ++ rows_in_slots (listed (n + 1) slot_at)
rows_pushed n slot_at old now new more so_far pushed is =
    pushed ∙ (ap (λ rows. rows ++ more) so_far ∙ (append_assoc old (rows_in_slots (listed n slot_at)) more
    ∙ ap (λ rows. old ++ rows) (ap (λ rows. rows_in_slots (listed n slot_at) ++ rows) (sym is) ∙ sym (rows_in_slots-more n slot_at))))

-- a slot with a row, and an empty one
pub filled_slot : (filled : Bool) (row stored : Row) → filled ≡ true → row ≡ stored → rows_in_slots (cond filled (Some stored) None ∷ []) ≡ row ∷ []
filled_slot true row stored e is = ap (λ r. r ∷ []) (sym is)
filled_slot false row stored e is = cc

pub empty_slot : (filled : Bool) (stored : Row) → filled ≡ false → rows_in_slots (cond filled (Some stored) None ∷ []) ≡ []
empty_slot false stored e = refl
empty_slot true stored e = cc
