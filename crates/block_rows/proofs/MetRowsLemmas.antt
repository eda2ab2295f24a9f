-- Rows that were met: how many, by which cell they are judged, and whether all are of it.
use Rattle.std.proofs.Common.{◌≡◌, ◌<◌, ◌+◌, ℕ, zero, suc, List, [], ◌∷◌, ◌++◌, Bool, true, IsTrue, Option, Some, None, length, get_or, refl, ap, sym, ◌∙◌, arith, length-append, subst}
use Rattle.std.specs.Prelude.{◌↔◌}
use Rattle.std.specs.List.{AllByRecursion}
use Rattle.mdc_values.specs.declared.value.Value.{Value}
use Rattle.mdc_ast.specs.declared.definition.ColumnDef.{ColumnDef}
use Rattle.mdc_ast.specs.declared.row.Cell.{Cell}
use Rattle.mdc_sound.specs.TableRows.{PlacedRow}
use Rattle.row_page.specs.Row.{row_in, row_width_of}
use Rattle.row_page.proofs.RowLemmas.{row_width_of-ge}
use Rattle.block_rows.specs.SeenRows.{AreInCell, HasMet, IsCellSoFar, IsInCell, IsLastRow, IsOfCell, MeetsCell, values_at}
use Rattle.block_rows.specs.declared.met_rows.MetRows.{MetRows}

-- ---- what holds of each

module _ {X : Type 0} (P : X → Type 0) where
  pub each_append : (xs ys : List X) → AllByRecursion P xs → AllByRecursion P ys → AllByRecursion P (xs ++ ys)
  each_append [] ys first second = second
  each_append (x ∷ xs) ys first second = (first.0, each_append xs ys first.1 second)

  pub each_front : (xs ys : List X) → AllByRecursion P (xs ++ ys) → AllByRecursion P xs
  each_front [] ys all = tt
  each_front (x ∷ xs) ys all = (all.0, each_front xs ys all.1)

  each_back : (xs ys : List X) → AllByRecursion P (xs ++ ys) → AllByRecursion P ys
  each_back [] ys all = all
  each_back (x ∷ xs) ys all = each_back xs ys all.1

  pub each_at : (xs : List X) (k : ℕ) (d : X) → AllByRecursion P xs → k < length xs → P (get_or xs k d)
  each_at [] k d all low = absurd (omega (arith, low))
  each_at (x ∷ xs) zero d all low = all.0
  each_at (x ∷ xs) (suc k) d all low = each_at xs k d all.1 (omega (arith, low))

  -- what is the same at each place
  pub each_of_places : (xs : List X) → ((k : ℕ) (d : X) → k < length xs → P (get_or xs k d)) → AllByRecursion P xs
  each_of_places [] each = tt
  each_of_places (x ∷ xs) each = (each 0 x (omega arith), each_of_places xs (λ k d low. each (suc k) d (omega (arith, low))))

-- ---- one row more

module _ (places : List ℕ) where
  -- all are of the cell where those before were, and the row is
  all_more : (cell : Cell) (were are : Bool) (rows : List PlacedRow) (placed : PlacedRow) → (IsTrue are ↔ (IsTrue were × (cell.values ≡ values_at places placed.row.values)))
      → (IsTrue were ↔ AllByRecursion (IsInCell places cell) rows) → IsTrue are ↔ AllByRecursion (IsInCell places cell) (rows ++ placed ∷ [])
  all_more cell were are rows placed now before = (
    (λ are_so. let both = now.0 are_so in each_append (IsInCell places cell) rows (placed ∷ []) (before.0 both.0) (both.1, tt)),
    (λ all. now.1 (before.1 (each_front (IsInCell places cell) rows (placed ∷ []) all), (each_back (IsInCell places cell) rows (placed ∷ []) all).0)),
  )

  so_more : (given first now : Option Cell) (were are : Bool) (rows : List PlacedRow) (placed : PlacedRow) → MeetsCell (values_at places placed.row.values) given first now were are
      → IsCellSoFar places given first were rows → IsCellSoFar places given now are (rows ++ placed ∷ [])
  so_more (Some given) first now were are rows placed meets so = all_more given were are rows placed meets.1 so
  so_more None None now were are rows placed meets so =
      let cell : Cell = record { values = values_at places placed.row.values } in
      let rows_are : rows ++ placed ∷ [] ≡ placed ∷ [] = ap (λ l. l ++ placed ∷ []) so.0 in
      subst (λ n. IsCellSoFar places None n are (rows ++ placed ∷ [])) (sym meets.0) (record {
        first = placed;
        rest = [];
        rows_are = rows_are;
        is_in = refl;
        all = (
          (λ is. subst (AllByRecursion (IsInCell places cell)) (sym rows_are) (refl, tt)),
          (λ all. subst IsTrue (sym meets.1) so.1),
        );
      })
  so_more None (Some first) now were are rows placed meets so =
      subst (λ n. IsCellSoFar places None n are (rows ++ placed ∷ [])) (sym meets.0) (record {
        first = so.first;
        rest = so.rest ++ placed ∷ [];
        rows_are = ap (λ l. l ++ placed ∷ []) so.rows_are;
        is_in = so.is_in;
        all = all_more first were are rows placed meets.1 so.all;
      })

  -- a row more was met
  pub met_more : (given : Option Cell) (met now : MetRows) (rows : List PlacedRow) (placed : PlacedRow) → now.rows ≡ met.rows + 1
      → MeetsCell (values_at places placed.row.values) given met.first now.first met.in_cell now.in_cell → HasMet places given met rows → HasMet places given now (rows ++ placed ∷ [])
  met_more given met now rows placed one meets has = record {
    counted = omega (arith, one, has.counted, length-append rows (placed ∷ []));
    cell = so_more given met.first now.first met.in_cell now.in_cell rows placed meets has.cell;
  }

  -- ---- the last row

  -- a row of the same values as the last one is met by counting it
  pub meets_alike : (columns : List ColumnDef) (given first : Option Cell) (in_cell : Bool) (last : List ℕ) (values : List Value) → IsLastRow columns places given first in_cell last
      → length last ≡ row_width_of columns → values_at places (row_in columns last).values ≡ values → MeetsCell values given first first in_cell in_cell
  meets_alike columns given first in_cell last values is width same = go given first (is width)
    where
      go : (given first : Option Cell) → IsOfCell (values_at places (row_in columns last).values) given first in_cell → MeetsCell values given first first in_cell in_cell
      go (Some given) first of = (refl, ((λ all. (all, of all ∙ same)), (λ both. both.0)))
      go None None of = absurd of
      go None (Some first) of = (refl, ((λ all. (all, of all ∙ same)), (λ both. both.0)))

  of_cell : (values : List Value) (given first now : Option Cell) (were are : Bool) → MeetsCell values given first now were are → IsOfCell values given now are
  of_cell values (Some given) first now were are meets = λ all. (meets.1.0 all).1
  of_cell values None None now were are meets = subst (λ n. IsOfCell values None n are) (sym meets.0) (λ all. refl)
  of_cell values None (Some first) now were are meets = subst (λ n. IsOfCell values None n are) (sym meets.0) (λ all. (meets.1.0 all).1)

  -- a row that was met is the last one
  pub last_met : (columns row_columns : List ColumnDef) (given first now : Option Cell) (were are : Bool) (last row : List ℕ) → row_columns ≡ columns → last ≡ row
      → MeetsCell (values_at places (row_in row_columns row).values) given first now were are → IsLastRow columns places given now are last
  last_met columns row_columns given first now were are last row alike is meets width =
      subst (λ cs. IsOfCell (values_at places (row_in cs last).values) given now are) alike
      (subst (λ bytes. IsOfCell (values_at places (row_in row_columns bytes).values) given now are) (sym is) (of_cell (values_at places (row_in row_columns row).values) given first now were are meets))

  -- no row is as short as nothing
  pub last_none : (columns : List ColumnDef) (given first : Option Cell) (in_cell : Bool) (last : List ℕ) → length last ≡ 0 → IsLastRow columns places given first in_cell last
  last_none columns given first in_cell last none width = absurd (omega (arith, row_width_of-ge columns, none, width))

  -- none was met
  pub met_none : (given : Option Cell) (met : MetRows) → met.rows ≡ 0 → met.first ≡ None → met.in_cell ≡ true → HasMet places given met []
  met_none given met none no_first in_cell = record { counted = none; cell = go given met.first met.in_cell no_first in_cell }
    where
      go : (given first : Option Cell) (in_cell : Bool) → first ≡ None → in_cell ≡ true → IsCellSoFar places given first in_cell []
      go (Some given) first in_cell is are = ((λ so. tt), (λ all. are))
      go None None in_cell is are = (refl, are)
      go None (Some first) in_cell is are = cc

  -- ---- all were met

  -- rows of the cell of the first are of one cell
  one_cell : (cell : Cell) (rows : List PlacedRow) → AllByRecursion (IsInCell places cell) rows → AreInCell places None rows
  one_cell cell rows all i j d below within =
      sym (each_at (IsInCell places cell) rows i d all (omega (arith, below, within))) ∙ each_at (IsInCell places cell) rows j d all within

  -- rows of one cell are of that of the first
  of_first : (cell : Cell) (first : PlacedRow) (rest : List PlacedRow) → IsInCell places cell first → AreInCell places None (first ∷ rest) → AllByRecursion (IsInCell places cell) (first ∷ rest)
  of_first cell first rest is_in one = (
    is_in,
    each_of_places (IsInCell places cell) rest (λ k d low. is_in ∙ one 0 (suc k) d (omega arith) (omega (arith, low))),
  )

  judged : (given first : Option Cell) (in_cell : Bool) (rows : List PlacedRow) → IsCellSoFar places given first in_cell rows → IsTrue in_cell ↔ AreInCell places given rows
  judged (Some given) first in_cell rows so = so
  judged None None in_cell rows so = (
    (λ are. subst (AreInCell places None) (sym so.0) (λ i j d below within. absurd (omega (arith, within)))),
    (λ one. so.1),
  )
  judged None (Some cell) in_cell rows so = (
    (λ are. one_cell cell rows (so.all.0 are)),
    (λ one. so.all.1 (subst (AllByRecursion (IsInCell places cell)) (sym so.rows_are) (of_first cell so.first so.rest so.is_in (subst (AreInCell places None) so.rows_are one)))),
  )

  -- whether all rows are of the given cell, or of one, is known
  pub all_met : (given : Option Cell) (met : MetRows) (rows : List PlacedRow) → HasMet places given met rows → IsTrue met.in_cell ↔ AreInCell places given rows
  all_met given met rows has = judged given met.first met.in_cell rows has.cell
