-- The rows of spots, where a row is put, taken out or written over, and where trees take extents or give them back.
use Rattle.std.proofs.Common.{◌≡◌, ◌<◌, ◌+◌, ℕ, zero, suc, List, [], ◌∷◌, ◌++◌, Bool, true, false, cond, Option, Some, None, length, replicate, set, get_or, refl, ap, arith, sym, ◌∙◌, subst, inl, inr}
use Rattle.std.specs.Prelude.{IsPermutation, is_none}
use Rattle.std.specs.List.{AllZip, list_all}
use Rattle.std.proofs.lemmas.Bool.{cases_lt}
use Rattle.std.proofs.lemmas.List.{append_assoc, get_or-set_same, get_or_past, length-set, set-set}
use Rattle.std.proofs.lemmas.List.Sorted.{IsPermutation-append_left, IsPermutation-append_right, IsPermutation-cons, IsPermutation-middle, IsPermutation-refl, IsPermutation-sym, IsPermutation-trans}
use Rattle.mdc_values.specs.declared.rid.Rid.{Rid}
use Rattle.mdc_ast.specs.declared.definition.TableDef.{TableDef}
use Rattle.mdc_ast.specs.declared.row.Row.{Row}
use Rattle.mdc_sound.specs.Placing.{AfterClaims, AfterReturns, IsRowAt, PutsRow, Spot, SpotsAfterClaims, SpotsAfterReturns, TakesRow, begun_with, left_with, rows_from_spot, rows_in_spot}
use Rattle.mdc_sound.specs.Placing.Spot.{FreeExtent, IndexExtent, OtherBlock, FreeBlock, PendingBlock, UsedBlock}
use Rattle.mdc_sound.specs.TableRows.{PlacedRow, rows_from_slot}

-- ---- lists

-- an element in front of the rest goes into the middle
perm_inside : {X : Type 0} (x : X) (front mine back now : List X) → IsPermutation (x ∷ mine) now → IsPermutation (x ∷ (front ++ (mine ++ back))) (front ++ (now ++ back))
perm_inside x front mine back now perm =
    IsPermutation-trans (x ∷ (front ++ (mine ++ back))) (front ++ (x ∷ (mine ++ back))) (front ++ (now ++ back))
    (IsPermutation-sym (front ++ (x ∷ (mine ++ back))) (x ∷ (front ++ (mine ++ back))) (IsPermutation-middle front x (mine ++ back)))
    (IsPermutation-append_right front (x ∷ (mine ++ back)) (now ++ back) (IsPermutation-append_left back (x ∷ mine) now perm))

perm_second : {X : Type 0} (x y : X) (xs now : List X) → IsPermutation (x ∷ xs) now → IsPermutation (x ∷ y ∷ xs) (y ∷ now)
perm_second x y xs now perm =
    IsPermutation-trans (x ∷ y ∷ xs) (y ∷ x ∷ xs) (y ∷ now) (IsPermutation-middle (x ∷ []) y xs) (IsPermutation-cons y (x ∷ xs) now perm)

set_back : {X : Type 0} (xs : List X) (k : ℕ) (y x d : X) → k < length xs → get_or xs k d ≡ x → set (set xs k y) k x ≡ xs
set_back [] k y x d low is = refl
set_back (z ∷ xs) zero y x d low is = ap (λ v. v ∷ xs) (sym is)
set_back (z ∷ xs) (suc k) y x d low is = ap (λ v. z ∷ v) (set_back xs k y x d (omega (arith, low)) is)

-- ---- the rows of slots

-- a row in a place
abbrev pub placed_at : Rid → Row → PlacedRow
placed_at rid row = record { rid = rid; row = row }

abbrev pub place_of : ℕ → ℕ → Rid
place_of block slot = record { block = block; slot = slot }

pub rows_from_slot-none : (block at n : ℕ) → rows_from_slot block at (replicate n None) ≡ []
rows_from_slot-none block at zero = refl
rows_from_slot-none block at (suc n) = rows_from_slot-none block (at + 1) n

-- a row is put into an empty slot
pub put_slot : (block at k slot : ℕ) (slots : List (Option Row)) (row : Row) → k < length slots → get_or slots k None ≡ None → at + k ≡ slot
    → IsPermutation (placed_at (place_of block slot) row ∷ rows_from_slot block at slots) (rows_from_slot block at (set slots k (Some row)))
put_slot block at k slot [] row low empty is = absurd (omega arith)
put_slot block at zero slot (None ∷ slots) row low empty is =
    let same : slot ≡ at = omega (arith, is) in
    subst (λ s. IsPermutation (placed_at (place_of block s) row ∷ rows_from_slot block (at + 1) slots) (placed_at (place_of block at) row ∷ rows_from_slot block (at + 1) slots)) (sym same)
    (IsPermutation-refl (placed_at (place_of block at) row ∷ rows_from_slot block (at + 1) slots))
put_slot block at zero slot (Some other ∷ slots) row low empty is = absurd (cc)
put_slot block at (suc k) slot (None ∷ slots) row low empty is = put_slot block (at + 1) k slot slots row (omega (arith, low)) empty (omega (arith, is))
put_slot block at (suc k) slot (Some other ∷ slots) row low empty is =
    perm_second (placed_at (place_of block slot) row) (placed_at (place_of block at) other) (rows_from_slot block (at + 1) slots) (rows_from_slot block (at + 1) (set slots k (Some row)))
    (put_slot block (at + 1) k slot slots row (omega (arith, low)) empty (omega (arith, is)))

-- a slot with a row is one of those that there are
pub filled_below : (slots : List (Option Row)) (k : ℕ) (row : Row) → get_or slots k None ≡ Some row → k < length slots
filled_below slots k row is = elim (cases_lt k (length slots)) [
  | inl low ↦ low
  | inr past ↦ let wrong = sym (get_or_past slots k None past) ∙ is in absurd (cc)
]

-- a row is taken out of its slot
pub take_slot : (block k : ℕ) (slots : List (Option Row)) (row : Row) → get_or slots k None ≡ Some row
    → IsPermutation (placed_at (place_of block k) row ∷ rows_from_slot block 0 (set slots k None)) (rows_from_slot block 0 slots)
take_slot block k slots row is =
    let low = filled_below slots k row is in
    let empty : get_or (set slots k None) k None ≡ None = get_or-set_same slots k None None low in
    subst (λ all. IsPermutation (placed_at (place_of block k) row ∷ rows_from_slot block 0 (set slots k None)) (rows_from_slot block 0 all)) (set_back slots k None (Some row) None low is)
    (put_slot block 0 k k (set slots k None) row (omega (arith, low, length-set slots k None)) empty (omega arith))

-- a row becomes another in its slot
pub overwrite_slot : (block k : ℕ) (slots : List (Option Row)) (row other : Row) → get_or slots k None ≡ Some row
    → IsPermutation (placed_at (place_of block k) other ∷ rows_from_slot block 0 (set slots k None)) (rows_from_slot block 0 (set slots k (Some other)))
overwrite_slot block k slots row other is =
    let low = filled_below slots k row is in
    subst (λ all. IsPermutation (placed_at (place_of block k) other ∷ rows_from_slot block 0 (set slots k None)) (rows_from_slot block 0 all)) (set-set slots k None (Some other))
    (put_slot block 0 k k (set slots k None) other (omega (arith, low, length-set slots k None)) (get_or-set_same slots k None None low) (omega arith))

-- ---- the rows of spots

-- the rows of spots, before one spot, in it and behind it; where the spot is another one, those before and behind stay
pub record CutsRows (at e n : ℕ) (spots : List Spot) (was : Spot) : Type 0 where
  pub front : List PlacedRow
  pub back : List PlacedRow
  pub rows_are : rows_from_spot at spots ≡ front ++ (rows_in_spot n was ++ back)
  pub set_rows : (spot : Spot) → rows_from_spot at (set spots e spot) ≡ front ++ (rows_in_spot n spot ++ back)

pub cut_rows : (at e n : ℕ) (spots : List Spot) (was d : Spot) → e < length spots → get_or spots e d ≡ was → at + e ≡ n → CutsRows at e n spots was
cut_rows at e n [] was d low is sum = absurd (omega arith)
cut_rows at zero n (first ∷ spots) was d low is sum =
    let here : at ≡ n = omega (arith, sum) in record {
      front = [];
      back = rows_from_spot (at + 1) spots;
      rows_are = ap (λ m. rows_in_spot m first ++ rows_from_spot (at + 1) spots) here ∙ ap (λ s. rows_in_spot n s ++ rows_from_spot (at + 1) spots) is;
      set_rows = λ spot. ap (λ m. rows_in_spot m spot ++ rows_from_spot (at + 1) spots) here;
    }
cut_rows at (suc e) n (first ∷ spots) was d low is sum =
    let rest = cut_rows (at + 1) e n spots was d (omega (arith, low)) is (omega (arith, sum)) in record {
      front = rows_in_spot at first ++ rest.front;
      back = rest.back;
      rows_are = ap (λ more. rows_in_spot at first ++ more) rest.rows_are ∙ sym (append_assoc (rows_in_spot at first) rest.front (rows_in_spot n was ++ rest.back));
      set_rows = λ spot. ap (λ more. rows_in_spot at first ++ more) (rest.set_rows spot) ∙ sym (append_assoc (rows_in_spot at first) rest.front (rows_in_spot n spot ++ rest.back));
    }

-- where a spot has one row more, so have all
pub spot_put : (spots : List Spot) (e : ℕ) (was now : Spot) (placed : PlacedRow) → e < length spots → get_or spots e was ≡ was → IsPermutation (placed ∷ rows_in_spot e was) (rows_in_spot e now)
    → IsPermutation (placed ∷ rows_from_spot 0 spots) (rows_from_spot 0 (set spots e now))
spot_put spots e was now placed low is perm =
    let cut = cut_rows 0 e e spots was was low is (omega arith) in
    subst (λ rows. IsPermutation (placed ∷ rows) (rows_from_spot 0 (set spots e now))) (sym cut.rows_are)
    (subst (λ rows. IsPermutation (placed ∷ (cut.front ++ (rows_in_spot e was ++ cut.back))) rows) (sym (cut.set_rows now)) (perm_inside placed cut.front (rows_in_spot e was) cut.back (rows_in_spot e now) perm))

-- ---- a row is put

begun_row : (block n : ℕ) (row : Row) → 0 < n → rows_in_spot block (begun_with n row) ≡ placed_at (place_of block 0) row ∷ []
begun_row block zero row some = absurd (omega (arith, some))
begun_row block (suc n) row some = ap (λ more. placed_at (place_of block 0) row ∷ more) (rows_from_slot-none block 1 n)

-- the rows are the placed one and those that there were
pub rows_put : (def : TableDef) (n : ℕ) (old new : List Spot) (row : Row) (rid : Rid) → 0 < n → PutsRow def n old row new rid
    → IsPermutation (placed_at rid row ∷ rows_from_spot 0 old) (rows_from_spot 0 new)
rows_put def n old new row rid some (PutsRow.in_cell block slot slots lowest empty is) =
    subst (λ spots. IsPermutation (placed_at (place_of block slot) row ∷ rows_from_spot 0 old) (rows_from_spot 0 spots)) (sym is)
    (spot_put old block (UsedBlock slots) (UsedBlock (set slots slot (Some row))) (placed_at (place_of block slot) row) lowest.within (lowest.is_it (UsedBlock slots))
    (put_slot block 0 slot slot slots row empty.within (empty.is_it None) (omega arith)))
rows_put def n old new row rid some (PutsRow.in_free_block block none lowest is) =
    subst (λ spots. IsPermutation (placed_at (place_of block 0) row ∷ rows_from_spot 0 old) (rows_from_spot 0 spots)) (sym is)
    (spot_put old block FreeBlock (begun_with n row) (placed_at (place_of block 0) row) lowest.within (lowest.is_it FreeBlock)
    (subst (λ rows. IsPermutation (placed_at (place_of block 0) row ∷ []) rows) (sym (begun_row block n row some)) (IsPermutation-refl (placed_at (place_of block 0) row ∷ []))))
rows_put def n old new row rid some (PutsRow.in_free_extent block none no_block lowest is) =
    subst (λ spots. IsPermutation (placed_at (place_of block 0) row ∷ rows_from_spot 0 old) (rows_from_spot 0 spots)) (sym is)
    (spot_put old block FreeExtent (begun_with n row) (placed_at (place_of block 0) row) lowest.within (lowest.is_it FreeExtent)
    (subst (λ rows. IsPermutation (placed_at (place_of block 0) row ∷ []) rows) (sym (begun_row block n row some)) (IsPermutation-refl (placed_at (place_of block 0) row ∷ []))))

-- ---- a row is taken out, or becomes another

all_empty : (block at : ℕ) (slots : List (Option Row)) → list_all is_none slots ≡ true → rows_from_slot block at slots ≡ []
all_empty block at [] all = refl
all_empty block at (None ∷ slots) all = all_empty block (at + 1) slots all
all_empty block at (Some row ∷ slots) all = absurd (cc)

-- what is left has the rows of its slots
pub left_rows : (block : ℕ) (slots : List (Option Row)) → rows_in_spot block (left_with slots) ≡ rows_from_slot block 0 slots
left_rows block slots = go (list_all is_none slots) refl
  where
    go : (all : Bool) → list_all is_none slots ≡ all → rows_in_spot block (cond all FreeBlock (UsedBlock slots)) ≡ rows_from_slot block 0 slots
    go true is = sym (all_empty block 0 slots is)
    go false is = refl

-- the rows that there were are the one that was taken out and those that are left
pub rows_taken : (old new : List Spot) (rid : Rid) (row : Row) → TakesRow old rid row new → IsPermutation (placed_at rid row ∷ rows_from_spot 0 new) (rows_from_spot 0 old)
rows_taken old new rid row takes =
    let lies = takes.lies in
    let left = left_with (set takes.slots rid.slot None) in
    let back : set (set old rid.block left) rid.block (UsedBlock takes.slots) ≡ old = set_back old rid.block left (UsedBlock takes.slots) OtherBlock lies.within (lies.block OtherBlock) in
    let inside : IsPermutation (placed_at rid row ∷ rows_in_spot rid.block left) (rows_in_spot rid.block (UsedBlock takes.slots)) =
    subst (λ rows. IsPermutation (placed_at rid row ∷ rows) (rows_from_slot rid.block 0 takes.slots)) (sym (left_rows rid.block (set takes.slots rid.slot None))) (take_slot rid.block rid.slot takes.slots row lies.slot) in
    subst (λ spots. IsPermutation (placed_at rid row ∷ rows_from_spot 0 spots) (rows_from_spot 0 old)) (sym takes.is_left)
    (subst (λ spots. IsPermutation (placed_at rid row ∷ rows_from_spot 0 (set old rid.block left)) (rows_from_spot 0 spots)) back
    (spot_put (set old rid.block left) rid.block left (UsedBlock takes.slots) (placed_at rid row) (omega (arith, lies.within, length-set old rid.block left)) (get_or-set_same old rid.block left left lies.within) inside))

-- Some rows stay: with the old row they are those that there were, and with the other those that there are.
pub record TurnsRow (old new : List Spot) (rid : Rid) (row other : Row) : Type 0 where
  pub stay : List PlacedRow
  pub were : IsPermutation (placed_at rid row ∷ stay) (rows_from_spot 0 old)
  pub are : IsPermutation (placed_at rid other ∷ stay) (rows_from_spot 0 new)

pub rows_overwritten : (old new : List Spot) (rid : Rid) (row other : Row) (slots : List (Option Row)) → IsRowAt old rid row slots
    → new ≡ set old rid.block (UsedBlock (set slots rid.slot (Some other))) → TurnsRow old new rid row other
rows_overwritten old new rid row other slots lies is =
    let cut = cut_rows 0 rid.block rid.block old (UsedBlock slots) OtherBlock lies.within (lies.block OtherBlock) (omega arith) in
    let rest = rows_from_slot rid.block 0 (set slots rid.slot None) in
    let now = set slots rid.slot (Some other) in record {
      stay = cut.front ++ (rest ++ cut.back);
      were = subst (λ rows. IsPermutation (placed_at rid row ∷ (cut.front ++ (rest ++ cut.back))) rows) (sym cut.rows_are)
          (perm_inside (placed_at rid row) cut.front rest cut.back (rows_from_slot rid.block 0 slots) (take_slot rid.block rid.slot slots row lies.slot));
      are = subst (λ rows. IsPermutation (placed_at rid other ∷ (cut.front ++ (rest ++ cut.back))) rows) (sym (ap (rows_from_spot 0) is ∙ cut.set_rows (UsedBlock now)))
          (perm_inside (placed_at rid other) cut.front rest cut.back (rows_from_slot rid.block 0 now) (overwrite_slot rid.block rid.slot slots row other lies.slot));
    }

-- ---- trees take extents, or give them back

claims_rows : (e : ℕ) (a b : Spot) → AfterClaims a b → rows_in_spot e a ≡ rows_in_spot e b
claims_rows e FreeExtent FreeExtent h = refl
claims_rows e FreeExtent IndexExtent h = refl
claims_rows e FreeExtent OtherBlock h = refl
claims_rows e FreeExtent FreeBlock h = refl
claims_rows e FreeExtent PendingBlock h = refl
claims_rows e FreeExtent (UsedBlock slots) h = absurd (cc)
claims_rows e IndexExtent b h = ap (rows_in_spot e) h
claims_rows e OtherBlock b h = ap (rows_in_spot e) h
claims_rows e FreeBlock b h = ap (rows_in_spot e) h
claims_rows e PendingBlock b h = ap (rows_in_spot e) h
claims_rows e (UsedBlock slots) b h = ap (rows_in_spot e) h

returns_rows : (e : ℕ) (a b : Spot) → AfterReturns a b → rows_in_spot e a ≡ rows_in_spot e b
returns_rows e IndexExtent FreeExtent h = refl
returns_rows e IndexExtent IndexExtent h = refl
returns_rows e IndexExtent OtherBlock h = refl
returns_rows e IndexExtent FreeBlock h = refl
returns_rows e IndexExtent PendingBlock h = refl
returns_rows e IndexExtent (UsedBlock slots) h = absurd (cc)
returns_rows e FreeExtent b h = ap (rows_in_spot e) h
returns_rows e OtherBlock b h = ap (rows_in_spot e) h
returns_rows e FreeBlock b h = ap (rows_in_spot e) h
returns_rows e PendingBlock b h = ap (rows_in_spot e) h
returns_rows e (UsedBlock slots) b h = ap (rows_in_spot e) h

each_rows : (R : Spot → Spot → Type 0) → ((e : ℕ) (a b : Spot) → R a b → rows_in_spot e a ≡ rows_in_spot e b) → (at : ℕ) (old new : List Spot) → AllZip R old new → rows_from_spot at old ≡ rows_from_spot at new
each_rows R same at [] [] all = refl
each_rows R same at [] (b ∷ new) all = absurd all
each_rows R same at (a ∷ old) [] all = absurd all
each_rows R same at (a ∷ old) (b ∷ new) all =
    let first : rows_in_spot at a ≡ rows_in_spot at b = same at a b all.0 in
    let rest : rows_from_spot (at + 1) old ≡ rows_from_spot (at + 1) new = each_rows R same (at + 1) old new all.1 in
    cc (first, rest)

-- the rows stay
pub rows_claimed : (at : ℕ) (old new : List Spot) → SpotsAfterClaims old new → rows_from_spot at old ≡ rows_from_spot at new
rows_claimed = each_rows AfterClaims claims_rows

pub rows_returned : (at : ℕ) (old new : List Spot) → SpotsAfterReturns old new → rows_from_spot at old ≡ rows_from_spot at new
rows_returned = each_rows AfterReturns returns_rows
