-- Rows in some slots: those of slots below a bound and of slots from it on, and one slot more.
use Rattle.std.proofs.Common.{◌≡◌, ◌∙◌, ◌<◌, ◌≤◌, ◌+◌, ℕ, zero, suc, Bool, true, false, cond, List, [], ◌∷◌, ◌++◌, Option, Some, None, drop, get_or, length, length-append, take, refl, ap, sym, inl, inr, arith, subst}
use Rattle.std.specs.Prelude.{◌==◌, ◌||◌, Contains}
use Rattle.std.specs.List.{AllByRecursion, list_any}
use Rattle.std.specs.List.Sorted.{IsNonDecreasingBy}
use Rattle.std.proofs.lemmas.Bool.{cases_lt, eq-eqb, ne_eqb}
use Rattle.std.proofs.lemmas.List.{append-nil, append_assoc, take_more}
use Rattle.std.proofs.lemmas.List.Elements.{Contains-append_cases, Contains-append_left, Contains-append_right}
use Rattle.std.proofs.lemmas.List.Folds.{list_any-append}
use Rattle.mdc_values.specs.Rising.{IsLower, IsRising}
use Rattle.mdc_ast.specs.declared.row.Row.{Row}
use Rattle.mdc_sound.specs.TableRows.{PlacedRow, rows_from_slot}
use Rattle.block_rows.proofs.MetRowsLemmas.{each_append, each_at, each_front}
use Rattle.block_rows.specs.ListedSlots.{AreOnPage, rows_in_slots}

-- ---- lists of slots

-- each lies below a bound
abbrev pub AreBelow : ℕ → List ℕ → Type 0
AreBelow bound slots = AllByRecursion (λ slot. slot < bound) slots

-- each lies there or above
abbrev pub AreFrom : ℕ → List ℕ → Type 0
AreFrom bound slots = AllByRecursion (λ slot. bound ≤ slot) slots

-- whether a slot is among some
abbrev has : List ℕ → ℕ → Bool
has slots n = list_any (λ slot. slot == n) slots

below_wider : (slots : List ℕ) (a b : ℕ) → AreBelow a slots → a ≤ b → AreBelow b slots
below_wider [] a b are le = tt
below_wider (slot ∷ slots) a b are le = (omega (arith, are.0, le), below_wider slots a b are.1 le)

from_wider : (slots : List ℕ) (a b : ℕ) → AreFrom b slots → a ≤ b → AreFrom a slots
from_wider [] a b are le = tt
from_wider (slot ∷ slots) a b are le = (omega (arith, are.0, le), from_wider slots a b are.1 le)

has_none_below : (slots : List ℕ) (n bound : ℕ) → AreBelow bound slots → bound ≤ n → has slots n ≡ false
has_none_below [] n bound are le = refl
has_none_below (slot ∷ slots) n bound are le =
    ap (λ b. b || has slots n) (ne_eqb slot n (λ same. omega (arith, are.0, le, same))) ∙ has_none_below slots n bound are.1 le

has_none_from : (slots : List ℕ) (n bound : ℕ) → AreFrom bound slots → n < bound → has slots n ≡ false
has_none_from [] n bound are lt = refl
has_none_from (slot ∷ slots) n bound are lt =
    ap (λ b. b || has slots n) (ne_eqb slot n (λ same. omega (arith, are.0, lt, same))) ∙ has_none_from slots n bound are.1 lt

-- each of rising slots lies above those before it
above_first : (x : ℕ) (slots : List ℕ) → IsRising IsLower (x ∷ slots) → AreFrom (x + 1) slots
above_first x [] rise = tt
above_first x (y ∷ slots) rise = (omega (arith, rise.0), from_wider slots (x + 1) (y + 1) (above_first y slots rise.1) (omega (arith, rise.0)))

rise_tail : (x : ℕ) (slots : List ℕ) → IsRising IsLower (x ∷ slots) → IsRising IsLower slots
rise_tail x [] rise = tt
rise_tail x (y ∷ slots) rise = rise.1

rise_below : (slots : List ℕ) (i d : ℕ) → IsRising IsLower slots → i < length slots → AreBelow (get_or slots i d) (take i slots)
rise_below [] i d rise low = absurd (omega (arith, low))
rise_below (slot ∷ slots) zero d rise low = tt
rise_below (slot ∷ slots) (suc i) d rise low = (
  omega (arith, each_at (λ s. slot + 1 ≤ s) slots i d (above_first slot slots rise) (omega (arith, low))),
  rise_below slots i d (rise_tail slot slots rise) (omega (arith, low)),
)

rise_through : (slots : List ℕ) (i j d : ℕ) → IsRising IsLower slots → i ≤ j → j < length slots → get_or slots i d ≤ get_or slots j d
rise_through [] i j d rise le low = absurd (omega (arith, low))
rise_through (slot ∷ slots) zero zero d rise le low = omega arith
rise_through (slot ∷ slots) zero (suc j) d rise le low = omega (arith, each_at (λ s. slot + 1 ≤ s) slots j d (above_first slot slots rise) (omega (arith, low)))
rise_through (slot ∷ slots) (suc i) zero d rise le low = absurd (omega (arith, le))
rise_through (slot ∷ slots) (suc i) (suc j) d rise le low = rise_through slots i j d (rise_tail slot slots rise) (omega (arith, le)) (omega (arith, low))

-- so they are sorted
pub rise_sorted : (slots : List ℕ) → IsRising IsLower slots → IsNonDecreasingBy (λ n. n) slots
rise_sorted slots rise = λ i j d le low. rise_through slots i j d rise le low

-- the first of them lie below a bound, the others don't
pub below_taken : (n bound : ℕ) (slots : List ℕ) → ((k d : ℕ) → k < n → get_or slots k d < bound) → AreBelow bound (take n slots)
below_taken zero bound slots each = tt
below_taken (suc n) bound [] each = tt
below_taken (suc n) bound (slot ∷ slots) each = (each 0 slot (omega arith), below_taken n bound slots (λ k d low. each (suc k) d (omega (arith, low))))

pub from_dropped : (n bound : ℕ) (slots : List ℕ) → ((k d : ℕ) → n ≤ k → k < length slots → bound ≤ get_or slots k d) → AreFrom bound (drop n slots)
from_dropped zero bound [] each = tt
from_dropped zero bound (slot ∷ slots) each = (each 0 slot (omega arith) (omega arith), from_dropped zero bound slots (λ k d late low. each (suc k) d (omega arith) (omega (arith, low))))
from_dropped (suc n) bound [] each = tt
from_dropped (suc n) bound (slot ∷ slots) each = from_dropped n bound slots (λ k d late low. each (suc k) d (omega (arith, late)) (omega (arith, low)))

-- ---- rows in slots

-- no row is in slots that are all below its own, or all above it
no_rows_below : (slots : List ℕ) (block base bound : ℕ) (xs : List (Option Row)) → AreBelow bound slots → bound ≤ base → rows_in_slots slots (rows_from_slot block base xs) ≡ []
no_rows_below slots block base bound [] are le = refl
no_rows_below slots block base bound (None ∷ xs) are le = no_rows_below slots block (base + 1) bound xs are (omega (arith, le))
no_rows_below slots block base bound (Some row ∷ xs) are le =
    let placed : PlacedRow = record { rid = record { block = block; slot = base }; row = row } in
    let rest = rows_in_slots slots (rows_from_slot block (base + 1) xs) in
    ap (λ b. cond b (placed ∷ rest) rest) (has_none_below slots base bound are le) ∙ no_rows_below slots block (base + 1) bound xs are (omega (arith, le))

no_rows_from : (slots : List ℕ) (block base bound : ℕ) (xs : List (Option Row)) → AreFrom bound slots → base + length xs ≤ bound → rows_in_slots slots (rows_from_slot block base xs) ≡ []
no_rows_from slots block base bound [] are le = refl
no_rows_from slots block base bound (None ∷ xs) are le = no_rows_from slots block (base + 1) bound xs are (omega (arith, le))
no_rows_from slots block base bound (Some row ∷ xs) are le =
    let placed : PlacedRow = record { rid = record { block = block; slot = base }; row = row } in
    let rest = rows_in_slots slots (rows_from_slot block (base + 1) xs) in
    ap (λ b. cond b (placed ∷ rest) rest) (has_none_from slots base bound are (omega (arith, le))) ∙ no_rows_from slots block (base + 1) bound xs are (omega (arith, le))

-- the rows in slots below a bound, and those in slots from it on
rows_of_both : (front back : List ℕ) (block base bound : ℕ) (xs : List (Option Row)) → AreBelow bound front → AreFrom bound back
    → rows_in_slots (front ++ back) (rows_from_slot block base xs) ≡ rows_in_slots front (rows_from_slot block base xs) ++ rows_in_slots back (rows_from_slot block base xs)
rows_of_both front back block base bound [] below from = refl
rows_of_both front back block base bound (None ∷ xs) below from = rows_of_both front back block (base + 1) bound xs below from
rows_of_both front back block base bound (Some row ∷ xs) below from =
    let placed : PlacedRow = record { rid = record { block = block; slot = base }; row = row } in
    let ours = rows_in_slots front (rows_from_slot block (base + 1) xs) in
    let theirs = rows_in_slots back (rows_from_slot block (base + 1) xs) in
    ap (λ l. cond (has (front ++ back) base) (placed ∷ l) l) (rows_of_both front back block (base + 1) bound xs below from)
    ∙ (ap (λ b. cond b (placed ∷ (ours ++ theirs)) (ours ++ theirs)) (list_any-append (λ slot. slot == base) front back)
    ∙ elim (cases_lt base bound) [
      | inl early ↦ in_front (has front base) (has back base) (has_none_from back base bound from early) placed ours theirs
      | inr late ↦
          in_back (has front base) (has back base) (has_none_below front base bound below late) placed ours theirs (no_rows_below front block (base + 1) bound xs below (omega (arith, late)))
    ])
  where
    in_front : (a b : Bool) → b ≡ false → (r : PlacedRow) (xs ys : List PlacedRow) → cond (a || b) (r ∷ (xs ++ ys)) (xs ++ ys) ≡ cond a (r ∷ xs) xs ++ cond b (r ∷ ys) ys
    in_front true true is r xs ys = absurd cc
    in_front true false is r xs ys = refl
    in_front false true is r xs ys = absurd cc
    in_front false false is r xs ys = refl

    in_back : (a b : Bool) → a ≡ false → (r : PlacedRow) (xs ys : List PlacedRow) → xs ≡ [] → cond (a || b) (r ∷ (xs ++ ys)) (xs ++ ys) ≡ cond a (r ∷ xs) xs ++ cond b (r ∷ ys) ys
    in_back true b is r xs ys none = absurd cc
    in_back false true is r xs ys none = ap (λ l. r ∷ (l ++ ys)) none ∙ sym (ap (λ l. l ++ r ∷ ys) none)
    in_back false false is r xs ys none = refl

-- the row in a slot, if there is one, with its place
abbrev pub row_at : ℕ → ℕ → Option Row → List PlacedRow
row_at block slot None = []
row_at block slot (Some row) = record { rid = record { block = block; slot = slot }; row = row } ∷ []

rows_of_one : (block base k slot : ℕ) (xs : List (Option Row)) → slot ≡ base + k → rows_in_slots (slot ∷ []) (rows_from_slot block base xs) ≡ row_at block slot (get_or xs k None)
rows_of_one block base k slot [] is = refl
rows_of_one block base zero slot (None ∷ xs) is = no_rows_below (slot ∷ []) block (base + 1) (base + 1) xs (omega (arith, is), tt) (omega arith)
rows_of_one block base zero slot (Some row ∷ xs) is =
    let same : slot ≡ base = omega (arith, is) in
    let placed : ℕ → PlacedRow = λ s. record { rid = record { block = block; slot = s }; row = row } in
    let rest = rows_in_slots (slot ∷ []) (rows_from_slot block (base + 1) xs) in
    ap (λ b. cond (b || false) (placed base ∷ rest) rest) (eq-eqb slot base same)
    ∙ (ap (λ l. placed base ∷ l) (no_rows_below (slot ∷ []) block (base + 1) (base + 1) xs (omega (arith, is), tt) (omega arith))
    ∙ ap (λ s. placed s ∷ []) (sym same))
rows_of_one block base (suc k) slot (None ∷ xs) is = rows_of_one block (base + 1) k slot xs (omega (arith, is))
rows_of_one block base (suc k) slot (Some row ∷ xs) is =
    let placed : PlacedRow = record { rid = record { block = block; slot = base }; row = row } in
    let rest = rows_in_slots (slot ∷ []) (rows_from_slot block (base + 1) xs) in
    ap (λ b. cond (b || false) (placed ∷ rest) rest) (ne_eqb slot base (λ same. omega (arith, is, same))) ∙ rows_of_one block (base + 1) k slot xs (omega (arith, is))

-- no row is in no slot
pub rows_of_none : (rows : List PlacedRow) → rows_in_slots [] rows ≡ []
rows_of_none [] = refl
rows_of_none (row ∷ rows) = rows_of_none rows

-- one slot more
pub rows_one_more : (slots : List ℕ) (i slot block base k : ℕ) (xs : List (Option Row)) → IsRising IsLower slots → i < length slots → slot ≡ get_or slots i slot → slot ≡ base + k
    → rows_in_slots (take (i + 1) slots) (rows_from_slot block base xs) ≡ rows_in_slots (take i slots) (rows_from_slot block base xs) ++ row_at block slot (get_or xs k None)
rows_one_more slots i slot block base k xs rise low at is =
    let rows = rows_from_slot block base xs in
    let here : AreBelow slot (take i slots) = subst (λ n. AreBelow n (take i slots)) (sym at) (rise_below slots i slot rise low) in
    ap (λ l. rows_in_slots l rows) (take_more slots i slot low ∙ ap (λ s. take i slots ++ s ∷ []) (sym at))
    ∙ (rows_of_both (take i slots) (slot ∷ []) block base slot xs here (omega arith, tt)
    ∙ ap (λ l. rows_in_slots (take i slots) rows ++ l) (rows_of_one block base k slot xs is))

-- ---- slots with a row

-- one of some rows lies in the slot
abbrev pub HasRowInSlot : List PlacedRow → ℕ → Type 0
HasRowInSlot rows slot = (placed : PlacedRow) × Contains rows placed × (placed.rid.slot ≡ slot)

-- it is among those in the slot
is_in_slot : (slot : ℕ) (rows : List PlacedRow) → HasRowInSlot rows slot → 0 < length (rows_in_slots (slot ∷ []) rows)
is_in_slot slot [] (placed, (k, low, is), at) = absurd (omega (arith, low))
is_in_slot slot (row ∷ rows) (placed, (zero, low, is), at) =
    let rest = rows_in_slots (slot ∷ []) rows in
    let here : slot ≡ row.rid.slot = sym (ap (λ (r : PlacedRow). r.rid.slot) is ∙ at) in
    subst (λ l. 0 < length l) (sym (ap (λ b. cond (b || false) (row ∷ rest) rest) (eq-eqb slot row.rid.slot here))) (omega arith)
is_in_slot slot (row ∷ rows) (placed, (suc k, low, is), at) =
    let rest = rows_in_slots (slot ∷ []) rows in
    more ((slot == row.rid.slot) || false) row rest (is_in_slot slot rows (placed, (k, omega (arith, low), is), at))
  where
    more : (passes : Bool) (first : PlacedRow) (rest : List PlacedRow) → 0 < length rest → 0 < length (cond passes (first ∷ rest) rest)
    more true first rest some = omega arith
    more false first rest some = some

no_more_than_one : (block slot : ℕ) (row : Option Row) → length (row_at block slot row) ≤ 1
no_more_than_one block slot None = omega arith
no_more_than_one block slot (Some row) = omega arith

-- Rising slots that have a row each have as many rows as there are slots.
pub each_has_row : (block : ℕ) (xs : List (Option Row)) (slots : List ℕ) → IsRising IsLower slots → ((slot : ℕ) → Contains slots slot → HasRowInSlot (rows_from_slot block 0 xs) slot)
    → length (rows_in_slots slots (rows_from_slot block 0 xs)) ≡ length slots
each_has_row block xs [] rise each = ap length (rows_of_none (rows_from_slot block 0 xs))
each_has_row block xs (slot ∷ slots) rise each =
    let rows = rows_from_slot block 0 xs in
    let rest = each_has_row block xs slots (rise_tail slot slots rise) (λ other (k, low, is). each other (suc k, omega (arith, low), is)) in
    let both = rows_of_both (slot ∷ []) slots block 0 (slot + 1) xs (omega arith, tt) (above_first slot slots rise) in
    omega (
      arith,
      ap length both,
      length-append (rows_in_slots (slot ∷ []) rows) (rows_in_slots slots rows),
      is_in_slot slot rows (each slot (0, omega arith, refl)),
      ap length (rows_of_one block 0 slot slot xs (omega arith)),
      no_more_than_one block slot (get_or xs slot None),
      rest,
    )

-- ---- the slots of a page

rise_front : (xs ys : List ℕ) → IsRising IsLower (xs ++ ys) → IsRising IsLower xs
rise_front [] ys rise = tt
rise_front (x ∷ []) ys rise = tt
rise_front (x ∷ y ∷ xs) ys rise = (rise.0, rise_front (y ∷ xs) ys rise.1)

rise_back : (xs ys : List ℕ) → IsRising IsLower (xs ++ ys) → IsRising IsLower ys
rise_back [] ys rise = rise
rise_back (x ∷ xs) ys rise = rise_back xs ys (rise_tail x (xs ++ ys) rise)

-- what holds of each holds of one of them
each_there : (P : ℕ → Type 0) (xs : List ℕ) (x : ℕ) → AllByRecursion P xs → Contains xs x → P x
each_there P xs x each (k, low, is) = subst P is (each_at P xs k x each low)

-- a list cut in two, where those below a bound end
pub cut_front : (left here : List ℕ) (n bound next : ℕ) → here ≡ take n left → bound ≡ next → AreBelow bound (take n left) → AreBelow next here
cut_front left here n bound next front is are = subst (λ b. AreBelow b here) is (subst (AreBelow bound) (sym front) are)

pub cut_back : (left behind : List ℕ) (n bound next : ℕ) → behind ≡ drop n left → bound ≡ next → AreFrom bound (drop n left) → AreFrom next behind
cut_back left behind n bound next back is are = subst (λ b. AreFrom b behind) is (subst (AreFrom bound) (sym back) are)

-- Some slots are left of a list, all from a bound on; those before them lie below it.
pub record IsLeftFrom (slots : List ℕ) (bound : ℕ) (left : List ℕ) : Type 0 where
  pub done : List ℕ
  pub is : slots ≡ done ++ left
  pub before : AreBelow bound done
  pub behind : AreFrom bound left
  pub rise : IsRising IsLower left

all_from_zero : (slots : List ℕ) → AreFrom 0 slots
all_from_zero [] = tt
all_from_zero (slot ∷ slots) = (omega arith, all_from_zero slots)

-- all are
pub all_left : (slots : List ℕ) (bound : ℕ) → bound ≡ 0 → IsRising IsLower slots → IsLeftFrom slots bound slots
all_left slots bound none rise = record { done = []; is = refl; before = tt; behind = subst (λ n. AreFrom n slots) (sym none) (all_from_zero slots); rise = rise }

module _ {slots : List ℕ} {bound : ℕ} {left : List ℕ} (so_far : IsLeftFrom slots bound left) (c : ℕ) (here behind : List ℕ) (parts : left ≡ here ++ behind) (below : AreBelow (bound + c) here) where
  both_from : AreFrom bound (here ++ behind)
  both_from = subst (AreFrom bound) parts so_far.behind

  -- the front of them lies on the page
  pub front_on_page : AreOnPage bound c here
  front_on_page = record {
    rise = rise_front here behind (subst (IsRising IsLower) parts so_far.rise);
    behind = each_front (λ slot. bound ≤ slot) here behind both_from;
    before = below;
  }

  module _ (rest : AreFrom (bound + c) behind) where
    -- what is left behind it
    pub next_left : (next : ℕ) → next ≡ bound + c → IsLeftFrom slots next behind
    next_left next is = record {
      done = so_far.done ++ here;
      is = so_far.is ∙ (ap (λ l. so_far.done ++ l) parts ∙ sym (append_assoc so_far.done here behind));
      before = subst (λ n. AreBelow n (so_far.done ++ here)) (sym is) (each_append (λ slot. slot < bound + c) so_far.done here (below_wider so_far.done bound (bound + c) so_far.before (omega arith)) below);
      behind = subst (λ n. AreFrom n behind) (sym is) rest;
      rise = rise_back here behind (subst (IsRising IsLower) parts so_far.rise);
    }

    -- the rows of the page that are in the list are in its front
    pub rows_of_page : (block : ℕ) (xs : List (Option Row)) → length xs ≡ c → rows_in_slots slots (rows_from_slot block bound xs) ≡ rows_in_slots here (rows_from_slot block bound xs)
    rows_of_page block xs long =
        let rows = rows_from_slot block bound xs in
        ap (λ l. rows_in_slots l rows) (so_far.is ∙ ap (λ l. so_far.done ++ l) parts)
        ∙ (rows_of_both so_far.done (here ++ behind) block bound bound xs so_far.before both_from
        ∙ (ap (λ l. l ++ rows_in_slots (here ++ behind) rows) (no_rows_below so_far.done block bound bound xs so_far.before (omega arith))
        ∙ (rows_of_both here behind block bound (bound + c) xs below rest
        ∙ (ap (λ l. rows_in_slots here rows ++ l) (no_rows_from behind block bound (bound + c) xs rest (omega (arith, long))) ∙ append-nil (rows_in_slots here rows)))))

    -- a slot of the list that lies on the page is in its front
    pub slot_on_page : (slot : ℕ) → Contains slots slot → bound ≤ slot → slot < bound + c → Contains here slot
    slot_on_page slot there low high =
        elim (Contains-append_cases so_far.done (here ++ behind) slot (subst (λ l. Contains l slot) (so_far.is ∙ ap (λ l. so_far.done ++ l) parts) there)) [
          | inl before ↦ absurd (omega (arith, low, each_there (λ s. s < bound) so_far.done slot so_far.before before))
          | inr left ↦ elim (Contains-append_cases here behind slot left) [
            | inl is ↦ is
            | inr after ↦ absurd (omega (arith, high, each_there (λ s. bound + c ≤ s) behind slot rest after))
          ]
        ]

  -- the slots of the front are of the list
  pub front_in : (slot : ℕ) → Contains here slot → Contains slots slot
  front_in slot there =
      subst (λ l. Contains l slot) (sym (so_far.is ∙ ap (λ l. so_far.done ++ l) parts))
      (Contains-append_right so_far.done (here ++ behind) slot (Contains-append_left here behind slot there))
