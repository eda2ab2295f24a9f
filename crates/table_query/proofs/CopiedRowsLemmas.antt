-- Rows that were read are as wide as their columns, and their lines are shown one after the other.
use Rattle.std.proofs.Common.{◌≡◌, ◌≤◌, ◌<◌, ◌+◌, ℕ, List, [], ◌∷◌, ◌++◌, ◌∙◌, length, map, take, get_or, refl, sym, ap, subst, arith, Option}
use Rattle.std.specs.Prelude.{AllPairs, IsPermutation, IsTrue}
use Rattle.std.proofs.lemmas.Bool.Decides.{nat_tests}
use Rattle.std.proofs.lemmas.List.{get_or-map, length-map, map-append, take_more}
use Rattle.std.proofs.lemmas.List.Elements.{All-get_or}
use Rattle.std.proofs.lemmas.List.Sorted.{IsPermutation-map, IsPermutation-sym, IsPermutation-trans}
use Rattle.mdc_ast.specs.declared.bound.BoundOut.{BoundOut}
use Rattle.mdc_ast.specs.declared.bound.BoundOut.TheVariants as out
use Rattle.mdc_ast.specs.declared.definition.ColumnDef.{ColumnDef}
use Rattle.mdc_ast.specs.declared.definition.TableDef.{TableDef}
use Rattle.mdc_ast.specs.declared.predicate.Pred.{Pred}
use Rattle.mdc_ast.specs.declared.row.Row.{Row}
use Rattle.mdc_ast.proofs.TestsLemmas.{and_true, both}
use Rattle.store_api.specs.declared.pages.Pages.{Ghosts}
use Rattle.store_api.specs.declared.shape.Shape.{Shape}
use Rattle.block_rows.specs.HeldRows.{HasReadValues, HaveReadValues, placed_row, qualifying}
use Rattle.block_rows.specs.declared.hit.Hit.{Hit}
use Rattle.mdc_sound.specs.StandingTable.{TableForests, pages_of}
use Rattle.mdc_sound.specs.TableRows.{PlacedRow, rows_in_table}
use Rattle.mdc_table.proofs.ReadValuesLemmas.{read_length}
use Rattle.answer_text.specs.Lines.{are_outs_within, is_out_within}
use Rattle.table_scan.specs.FoundRows.{FindsRows}
use Rattle.table_query.specs.QueryAnswers.{AreQueryRows}
use Rattle.table_query.proofs.GatheredLemmas.{in_order-by_number, sorted_is}

out_wider : (m n : ℕ) (o : BoundOut) → m ≤ n → IsTrue (is_out_within m o) → IsTrue (is_out_within n o)
out_wider m n (out.Column column) le h = grind (arith, nat_tests, h, le)
out_wider m n out.CountAll le h = refl
out_wider m n (out.Count column) le h = grind (arith, nat_tests, h, le)
out_wider m n (out.Sum column) le h = grind (arith, nat_tests, h, le)
out_wider m n (out.Min column) le h = grind (arith, nat_tests, h, le)
out_wider m n (out.Max column) le h = grind (arith, nat_tests, h, le)

pub outs_wider : (m n : ℕ) (outs : List BoundOut) → m ≤ n → IsTrue (are_outs_within m outs) → IsTrue (are_outs_within n outs)
outs_wider m n [] le h = refl
outs_wider m n (o ∷ outs) le h =
    let parts = both (is_out_within m o) (are_outs_within m outs) h in
    and_true (is_out_within n o) (are_outs_within n outs) (out_wider m n o le parts.0) (outs_wider m n outs le parts.1)

-- what is shown is there in the next row that was read
pub outs_in_row : (columns : List ColumnDef) (outs : List BoundOut) (hits : List Hit) (i : ℕ) (hit : Hit) → HaveReadValues columns hits → i < length hits → hit ≡ get_or hits i hit
    → IsTrue (are_outs_within (length columns) outs) → IsTrue (are_outs_within (length hit.row.values) outs)
outs_in_row columns outs hits i hit read low is within =
    let here : HasReadValues columns hit.row = subst (λ (h : Hit). HasReadValues columns h.row) (sym is) (All-get_or (λ (h : Hit). HasReadValues columns h.row) hits i hit low read) in
    outs_wider (length columns) (length hit.row.values) outs (read_length columns hit.row here) within

-- the next row behind those of the hits before
pub rows_more : (hits : List Hit) (i : ℕ) (hit : Hit) → i < length hits → hit ≡ get_or hits i hit → map (λ h. h.row) (take i hits) ++ hit.row ∷ [] ≡ map (λ h. h.row) (take (i + 1) hits)
rows_more hits i hit low is =
    sym (ap (map (λ (h : Hit). h.row)) (take_more hits i hit low ∙ ap (λ (h : Hit). take i hits ++ h ∷ []) (sym is)) ∙ map-append (λ (h : Hit). h.row) (take i hits) (hit ∷ []))

-- ---- rows that were found

rows_of_hits : (hits : List Hit) → map (λ (placed : PlacedRow). placed.row) (map placed_row hits) ≡ map (λ (hit : Hit). hit.row) hits
rows_of_hits [] = refl
rows_of_hits (hit ∷ hits) = ap (λ rest. hit.row ∷ rest) (rows_of_hits hits)

-- their numbers don't fall
in_order_rows : (hits : List Hit) → AllPairs (λ a b. a.row.number ≤ b.row.number) hits → AllPairs (λ (a b : Row). a.number ≤ b.number) (map (λ (hit : Hit). hit.row) hits)
in_order_rows hits up i j d below within =
    let high : j < length hits = omega (arith, within, length-map hits (λ (hit : Hit). hit.row)) in
    let one : Hit = record { rid = record { block = 0; slot = 0 }; row = d } in
    omega (
      arith,
      ap (λ (row : Row). row.number) (get_or-map (λ (hit : Hit). hit.row) hits i one d (omega (arith, below, high))),
      ap (λ (row : Row). row.number) (get_or-map (λ (hit : Hit). hit.row) hits j one d high),
      up i j one below high,
    )

-- they are the rows of the query
pub hits_are : {S : Type 0} (g : Ghosts S) (shape : Shape) (s : S) (def : TableDef) (pred : Option Pred) (hits : List Hit) (forests : TableForests) (rows : List Row) → FindsRows g shape s def pred hits forests
    → AreQueryRows g shape s def pred forests rows → map (λ hit. hit.row) hits ≡ rows
hits_are g shape s def pred hits forests rows finds are =
    let all : List PlacedRow = qualifying pred (rows_in_table shape (pages_of g s) def forests.map) in
    let found : IsPermutation (map (λ (placed : PlacedRow). placed.row) all) (map (λ (hit : Hit). hit.row) hits) =
    subst (IsPermutation (map (λ (placed : PlacedRow). placed.row) all)) (rows_of_hits hits) (IsPermutation-map (λ (placed : PlacedRow). placed.row) all (map placed_row hits) finds.found) in
    sym (in_order-by_number (map (λ (hit : Hit). hit.row) hits) (in_order_rows hits finds.in_order))
    ∙ sorted_is (map (λ (hit : Hit). hit.row) hits) rows
    (IsPermutation-trans (map (λ (hit : Hit). hit.row) hits) (map (λ (placed : PlacedRow). placed.row) all) rows
    (IsPermutation-sym (map (λ (placed : PlacedRow). placed.row) all) (map (λ (hit : Hit). hit.row) hits) found) are.found) are.rise
