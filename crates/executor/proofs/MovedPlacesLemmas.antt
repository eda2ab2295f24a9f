-- Rows of which no two lie in one place, in another order and as copies.
use Rattle.std.proofs.Common.{◌≡◌, ◌≢◌, ◌≤◌, ◌<◌, ◌==◌, ◌∙◌, List, [], ap, arith, length, subst, sym}
use Rattle.std.specs.Bool.{Decides}
use Rattle.std.specs.Prelude.{AllPairs, Contains, IsPermutation, Option, map}
use Rattle.std.proofs.lemmas.Bool.{and_from, eq-eqb}
use Rattle.std.proofs.lemmas.List.{get_or-map, length-map}
use Rattle.std.proofs.lemmas.List.Sorted.{Contains-permutation, IsPermutation-map, IsPermutation-sym, IsPermutation-trans}
use Rattle.std.proofs.lemmas.Map.Keys.{IsDistinct-IsPermutation}
use Rattle.std.proofs.lemmas.Map.Made.{AllPairs-from_IsDistinct, IsDistinct-from_AllPairs}
use Rattle.mdc_values.specs.declared.rid.Rid.{Rid}
use Rattle.mdc_ast.specs.declared.definition.TableDef.{TableDef}
use Rattle.mdc_ast.specs.declared.predicate.Pred.{Pred}
use Rattle.store_api.specs.declared.pages.Pages.{Ghosts}
use Rattle.store_api.specs.declared.shape.Shape.{Shape}
use Rattle.block_rows.specs.HeldRows.{placed_row, qualifying}
use Rattle.block_rows.specs.declared.hit.Hit.{Hit}
use Rattle.mdc_sound.specs.StandingTable.{TableForests, pages_of}
use Rattle.mdc_sound.specs.TableRows.{PlacedRow, rows_in_table}
use Rattle.block_lists.specs.Places.{same_rid}
use Rattle.plan_lists.proofs.ListedLemmas.{one_rid, same_test}
use Rattle.table_scan.specs.FoundRows.{FindsRows}
use Rattle.executor.specs.Planned.{LieInTable}

-- ---- places

same_decides : (a b : Rid) → Decides (same_rid a b) (a ≡ b)
same_decides a b = (
  one_rid a b,
  λ same. and_from (a.block == b.block) (a.slot == b.slot) (eq-eqb a.block b.block (ap (λ (r : Rid). r.block) same)) (eq-eqb a.slot b.slot (ap (λ (r : Rid). r.slot) same)),
)

same_turned : (a b : Rid) → same_rid a b ≡ same_rid b a
same_turned a b = same_test (same_rid a b) (same_rid b a) (λ is. (same_decides b a).1 (sym (one_rid a b is))) (λ is. (same_decides a b).1 (sym (one_rid b a is)))

-- places that differ do so in any order
rids_moved : (rids others : List Rid) → IsPermutation rids others → AllPairs (λ a b. a ≢ b) rids → AllPairs (λ a b. a ≢ b) others
rids_moved rids others moved differ = AllPairs-from_IsDistinct same_decides others (IsDistinct-IsPermutation same_rid same_turned rids others moved (IsDistinct-from_AllPairs same_decides rids differ))

-- ---- rows

abbrev place_of : PlacedRow → Rid
place_of placed = placed.rid

-- rows that lie apart do so in any order
pub apart_moved : (rows others : List PlacedRow) → IsPermutation rows others → AllPairs (λ a b. a.rid ≢ b.rid) rows → AllPairs (λ a b. a.rid ≢ b.rid) others
apart_moved rows others moved apart i j d low high same =
    rids_moved (map place_of rows) (map place_of others) (IsPermutation-map place_of rows others moved) places i j d.rid low (omega (arith, high, length-map others place_of))
    (get_or-map place_of others i d d.rid (omega (arith, low, high)) ∙ (same ∙ sym (get_or-map place_of others j d d.rid high)))
  where
    places : AllPairs (λ a b. a ≢ b) (map place_of rows)
    places k m rid below within one =
        let some : PlacedRow = record { rid = rid; row = record { number = 0; values = [] } } in
        let here : m < length rows = omega (arith, within, length-map rows place_of) in
        apart k m some below here (sym (get_or-map place_of rows k some rid (omega (arith, below, here))) ∙ (one ∙ get_or-map place_of rows m some rid here))

-- ---- copies

module _ (rows : List PlacedRow) (hits sorted : List Hit) (copies : map placed_row hits ≡ rows) (moved : IsPermutation hits sorted) (in_order : AllPairs (λ a b. a.row.number ≤ b.row.number) sorted) where
  all_moved : IsPermutation rows (map placed_row sorted)
  all_moved = subst (λ those. IsPermutation those (map placed_row sorted)) copies (IsPermutation-map placed_row hits sorted moved)

  module _ {S : Type 0} {g : Ghosts S} (shape : Shape) (s : S) (def : TableDef) (pred : Option Pred) (forests : TableForests) where
    -- of the rows of the table that qualify, brought in order
    pub copies_found : IsPermutation (qualifying pred (rows_in_table shape (pages_of g s) def forests.map)) rows → FindsRows g shape s def pred sorted forests
    copies_found all = record {
      found = IsPermutation-trans (qualifying pred (rows_in_table shape (pages_of g s) def forests.map)) rows (map placed_row sorted) all all_moved;
      in_order = in_order;
    }

    -- of some of them
    pub copies_lie : ((placed : PlacedRow) → Contains rows placed → Contains (qualifying pred (rows_in_table shape (pages_of g s) def forests.map)) placed) → AllPairs (λ a b. a.rid ≢ b.rid) rows
        → LieInTable g shape s def pred sorted forests
    copies_lie lie apart = record {
      lie = λ placed there. lie placed (Contains-permutation (map placed_row sorted) rows placed (IsPermutation-sym rows (map placed_row sorted) all_moved) there);
      apart = λ i j d low high same.
          apart_moved rows (map placed_row sorted) all_moved apart i j (placed_row d) low (omega (arith, high, length-map sorted placed_row))
          (ap place_of (get_or-map placed_row sorted i d (placed_row d) (omega (arith, low, high))) ∙ (same ∙ ap place_of (sym (get_or-map placed_row sorted j d (placed_row d) high))));
      in_order = in_order;
    }
