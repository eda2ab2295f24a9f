-- Rows that leave the record indexes one after the other: those that are left have their entries still.
use Rattle.std.proofs.Common.{◌≡◌, ◌≢◌, ◌+◌, ◌-◌, zero, suc, List, [], ◌∷◌, ◌++◌, true, get_or, length, map, refl, ap, arith, sym, ◌∙◌, subst, append-nil, append_assoc, length-append, inl, inr}
use Rattle.std.proofs.lemmas.List.{get_or-append_right}
use Rattle.std.specs.Prelude.{AllPairs, Contains, IsPermutation}
use Rattle.std.proofs.lemmas.List.Elements.{All-from_recursion}
use Rattle.std.proofs.lemmas.List.Kept.{AllPairs-cons}
use Rattle.std.proofs.lemmas.List.Sorted.{Contains-permutation, IsPermutation-append_left, IsPermutation-sym, IsPermutation-to_front, IsPermutation-trans}
use Rattle.mdc_ast.specs.declared.definition.IndexDef.{IndexDef}
use Rattle.mdc_ast.specs.declared.definition.TableDef.{TableDef}
use Rattle.key_codec.specs.Keys.{key_bytes}
use Rattle.entry_tree.specs.EntryBounds.{IsEntryOf}
use Rattle.entry_tree.specs.Forest.{Forest, leaf_entries}
use Rattle.block_index.specs.Listing.{LosesEntry}
use Rattle.block_map.proofs.MapLinesLemmas.{contains_cases, contains_more}
use Rattle.mdc_sound.specs.TableRows.{PlacedRow}
use Rattle.mdc_sound.proofs.BlockRulesLemmas.{each_of}
use Rattle.mdc_sound.proofs.ElementsLemmas.{each_in}
use Rattle.table_blocks.proofs.WithEntryLemmas.{with_cases}
use Rattle.record_index.specs.FoundRids.{IsRid, rid_in_entry}
use Rattle.record_index.specs.SoundRows.{LieApart}
use Rattle.record_index.proofs.SoundRowsLemmas.{row_in_entry}
use Rattle.row_entries.specs.ChosenIndexes.{EachChosen, HasEntry, HaveEntries, MoveChosen, all_chosen, entry_of}
use Rattle.row_entries.proofs.PlacesApartLemmas.{elsewhere}
use Rattle.rollout.specs.LeavingRows.{HaveTheirEntries}
use Rattle.rollout.specs.LostEntries.{LosesRows}

-- ---- some rows, and then others

-- rows that leave behind others leave with these
pub loses_then : (def : TableDef) (trees mid after : List Forest) (rows more : List PlacedRow) → LosesRows def trees rows mid → LosesRows def mid more after → LosesRows def trees (rows ++ more) after
loses_then def trees mid _ rows _ first LosesRows.none = subst (λ all. LosesRows def trees all mid) (sym (append-nil rows)) first
loses_then def trees mid after rows more first (LosesRows.one {front = front} {mid = last} placed before moves is) =
    LosesRows.one placed (loses_then def trees mid last rows front first before) moves (ap (λ l. rows ++ l) is ∙ sym (append_assoc rows front (placed ∷ [])))

-- ---- rows that lie apart

in_behind : {X : Type 0} (xs ys : List X) (y : X) → Contains ys y → Contains (xs ++ ys) y
in_behind [] ys y there = there
in_behind (x ∷ xs) ys y there = contains_more y x (xs ++ ys) (in_behind xs ys y there)

in_before : {X : Type 0} (xs ys : List X) (x : X) → Contains xs x → Contains (xs ++ ys) x
in_before [] ys x there = absurd (omega (arith, there.1))
in_before (y ∷ xs) ys x there = elim (contains_cases x y xs there) [ inl here ↦ (0, omega arith, here) | inr later ↦ contains_more x y (xs ++ ys) (in_before xs ys x later) ]

-- one in the midst goes to the front
to_front : {X : Type 0} (front : List X) (y : X) (ys : List X) → IsPermutation (y ∷ (front ++ ys)) (front ++ y ∷ ys)
to_front front y ys =
    subst (IsPermutation (y ∷ (front ++ ys))) (append_assoc front (y ∷ []) ys)
    (IsPermutation-append_left ys (y ∷ front) (front ++ y ∷ []) (IsPermutation-sym (front ++ y ∷ []) (y ∷ front) (IsPermutation-to_front front y)))

-- rows lie apart in any order
pub apart_moved : (rows all : List PlacedRow) → IsPermutation rows all → LieApart all → LieApart rows
apart_moved rows all moved apart = record {
  places = each_in (λ (placed : PlacedRow). IsRid placed.rid) rows (λ placed there. each_of (λ (placed : PlacedRow). IsRid placed.rid) all placed apart.places (Contains-permutation rows all placed moved there));
  apart = go [] rows moved;
}
  where
    go : (front xs : List PlacedRow) → IsPermutation (front ++ xs) all → AllPairs (λ a b. a.rid ≢ b.rid) xs
    go front [] moved = λ i j d low high. absurd (omega (arith, high))
    go front (y ∷ ys) moved =
        let first = IsPermutation-trans (y ∷ (front ++ ys)) (front ++ y ∷ ys) all (to_front front y ys) moved in
        let away = elsewhere y (front ++ ys) all apart first in
        AllPairs-cons (λ (a b : PlacedRow). a.rid ≢ b.rid) y ys
        (All-from_recursion (λ (b : PlacedRow). y.rid ≢ b.rid) ys (each_in (λ (b : PlacedRow). y.rid ≢ b.rid) ys (λ b there same.
        (each_of (λ (p : PlacedRow). IsRid p.rid × (p.rid ≢ y.rid)) (front ++ ys) b away.others (in_behind front ys b there)).1 (sym same))))
        (go (front ++ y ∷ []) ys (subst (λ l. IsPermutation l all) (sym (append_assoc front (y ∷ []) ys)) moved))

-- one of some rows and one of the others lie in two places
pub apart_rows : (rows rest : List PlacedRow) → LieApart (rows ++ rest) → (one other : PlacedRow) → Contains rows one → Contains rest other → one.rid ≢ other.rid
apart_rows [] rest apart one other here there same = absurd (omega (arith, here.1))
apart_rows (x ∷ rows) rest apart one other (zero, low, at) (k, within, is) same =
    let back : length rows + k - length rows ≡ k = omega arith in
    let there : get_or (rows ++ rest) (length rows + k) other ≡ other = get_or-append_right rows rest (length rows) (length rows + k) other refl (omega arith) ∙ ap (λ n. get_or rest n other) back ∙ is in
    apart.apart 0 (suc (length rows + k)) other (omega arith) (omega (arith, within, length-append rows rest)) (ap (λ (p : PlacedRow). p.rid) at ∙ same ∙ ap (λ (p : PlacedRow). p.rid) (sym there))
apart_rows (x ∷ rows) rest apart one other (suc j, low, at) there same =
    apart_rows rows rest (record { places = apart.places.1; apart = λ i j d low high. apart.apart (suc i) (suc j) d (omega (arith, low)) (omega (arith, high)) }) one other (j, omega (arith, low), at) there same

-- ---- what is left

module _ (def : TableDef) (stays went : PlacedRow) (is : IsRid stays.rid) (was : IsRid went.rid) (other : went.rid ≢ stays.rid) where
  -- rows in two places have two entries
  entries_differ : (which : IndexDef) → entry_of def stays.row stays.rid which ≢ entry_of def went.row went.rid which
  entries_differ which same =
      other (sym (row_in_entry (key_bytes def.columns which.parts went.row.values) went.rid was) ∙ (ap rid_in_entry (sym same) ∙ row_in_entry (key_bytes def.columns which.parts stays.row.values) stays.rid is))

  -- so that the entries of the one stay as those of the other go
  entries_stay : (indexes : List IndexDef) (trees after : List Forest) → MoveChosen LosesEntry (entry_of def went.row went.rid) (map (λ which. true) indexes) indexes trees after
      → EachChosen (λ which t. HasEntry def stays.row stays.rid which t) (map (λ which. true) indexes) indexes trees → EachChosen (λ which t. HasEntry def stays.row stays.rid which t) (map (λ which. true) indexes) indexes after
  entries_stay [] trees after moves has = tt
  entries_stay (which ∷ indexes) trees [] moves has = tt
  entries_stay (which ∷ indexes) [] (u ∷ after) moves has = absurd moves
  entries_stay (which ∷ indexes) (t ∷ trees) (u ∷ after) moves has = (
    λ chosen. elim (with_cases (entry_of def stays.row stays.rid which) (entry_of def went.row went.rid which) (leaf_entries u) (subst (IsEntryOf (entry_of def stays.row stays.rid which)) moves.0.was (has.0 chosen))) [
      | inl same ↦ absurd (entries_differ which same)
      | inr stays ↦ stays
    ],
    entries_stay indexes trees after moves.1 has.1,
  )

-- once the rows in front of it have left, a row has its entries still
still_have : (def : TableDef) (trees after : List Forest) (rows rest : List PlacedRow) (placed : PlacedRow) → LosesRows def trees rows after → LieApart (rows ++ rest) → Contains rest placed → HaveEntries def placed.row placed.rid (all_chosen def) trees
    → HaveEntries def placed.row placed.rid (all_chosen def) after
still_have def trees _ _ rest placed LosesRows.none apart there has = has
still_have def trees after rows rest placed (LosesRows.one {front = front} {mid = mid} last before moves split) apart there has =
    let all : rows ++ rest ≡ front ++ last ∷ rest = ap (λ l. l ++ rest) split ∙ append_assoc front (last ∷ []) rest in
    let apart_all = subst LieApart all apart in
    let is_last : Contains rows last = subst (λ l. Contains l last) (sym split) (in_behind front (last ∷ []) last (0, omega arith, refl)) in
    let is_rid = λ (p : PlacedRow) (is : Contains (rows ++ rest) p). each_of (λ (q : PlacedRow). IsRid q.rid) (rows ++ rest) p apart.places is in
    entries_stay def placed last (is_rid placed (in_behind rows rest placed there)) (is_rid last (in_before rows rest last is_last)) (apart_rows rows rest apart last placed is_last there) def.indexes mid after moves
    (still_have def trees mid front (last ∷ rest) placed before apart_all (contains_more placed last rest there) has)

-- the first of the rows that are left has its entries
pub first_has_entries : (def : TableDef) (rows rest : List PlacedRow) (placed : PlacedRow) (trees after : List Forest) → LosesRows def trees rows after → HaveTheirEntries def (rows ++ placed ∷ rest) trees → HaveEntries def placed.row placed.rid (all_chosen def) after
first_has_entries def rows rest placed trees after lose have =
    still_have def trees after rows (placed ∷ rest) placed lose have.apart (0, omega arith, refl) (have.has placed (in_behind rows (placed ∷ rest) placed (0, omega arith, refl)))
