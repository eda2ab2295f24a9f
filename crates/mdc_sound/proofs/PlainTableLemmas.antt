-- The plain table of a definition and of placed rows: with a row more, with one less, and with another in the place of one.
use Rattle.std.proofs.Common.{◌≡◌, ◌≢◌, ◌<◌, ◌+◌, ℕ, List, [], ◌∷◌, ◌++◌, length, ap, arith, sym, ◌∙◌, subst}
use Rattle.std.specs.Prelude.{AllPairs, Contains, IsPermutation, map}
use Rattle.std.proofs.lemmas.List.{get_or-map, length-map}
use Rattle.std.proofs.lemmas.List.Kept.{AllPairs-filter}
use Rattle.std.proofs.lemmas.List.Sorted.{Contains-permutation, IsPermutation-map, IsPermutation-sym, IsPermutation-trans}
use Rattle.mdc_ast.specs.declared.definition.TableDef.{TableDef}
use Rattle.mdc_ast.specs.declared.row.Row.{Row}
use Rattle.mdc_ast.specs.Database.{PlainTable, appended}
use Rattle.mdc_sound.specs.BlockRules.{AreRowNumbersSound}
use Rattle.mdc_sound.specs.StandsForDatabase.{rootless, with_row, without_row}
use Rattle.mdc_sound.specs.TableRows.{PlacedRow}
use Rattle.mdc_sound.proofs.BlockRulesLemmas.{each_of}
use Rattle.mdc_sound.proofs.ElementsLemmas.{from_map}
use Rattle.mdc_sound.proofs.NextNumberLemmas.{with_next}
use Rattle.mdc_sound.proofs.RisingRowsLemmas.{Differ, perm_last, perm_turned, perm_without, rises_last, rises_turned}
use Rattle.mdc_sound.proofs.RowNumbersLemmas.{numbers_in_order}

-- rows without their places
abbrev pub rows_alone : List PlacedRow → List Row
rows_alone placed = map (λ p. p.row) placed

-- this is the plain table of a definition and of these rows
pub record IsPlainTable (def : TableDef) (placed : List PlacedRow) (table : PlainTable) : Type 0 where
  pub def_is : table.def ≡ rootless def
  pub same_rows : IsPermutation (rows_alone placed) table.rows
  pub rising : AllPairs (λ a b. a.number < b.number) table.rows

-- the same rows in another order
perm_alone : (xs ys : List PlacedRow) → IsPermutation xs ys → IsPermutation (rows_alone xs) (rows_alone ys)
perm_alone xs ys same = IsPermutation-map (λ (p : PlacedRow). p.row) xs ys same

perm_alone_back : (xs ys : List PlacedRow) → IsPermutation xs ys → IsPermutation (rows_alone ys) (rows_alone xs)
perm_alone_back xs ys same = IsPermutation-sym (rows_alone xs) (rows_alone ys) (perm_alone xs ys same)

-- rows of different numbers
differ_alone : (xs : List PlacedRow) → AllPairs (λ a b. a.row.number ≢ b.row.number) xs → Differ (rows_alone xs)
differ_alone xs differ i j d low high e =
    let some : PlacedRow = record { rid = record { block = 0; slot = 0 }; row = d } in
    let within : j < length xs = omega (arith, high, length-map xs (λ (p : PlacedRow). p.row)) in
    let first = ap (λ (r : Row). r.number) (get_or-map (λ (p : PlacedRow). p.row) xs i some d (omega (arith, low, within))) in
    let second = ap (λ (r : Row). r.number) (get_or-map (λ (p : PlacedRow). p.row) xs j some d within) in
    differ i j some low within (sym first ∙ e ∙ second)

module _ (def : TableDef) (were are : List PlacedRow) (numbers : AreRowNumbersSound def were) (table : PlainTable) (is : IsPlainTable def were table) where
  -- a row more, of the next number
  pub plain_with_more : (placed : PlacedRow) → placed.row.number ≡ def.next → IsPermutation (placed ∷ were) are → IsPlainTable (with_next def (def.next + 1)) are (appended (placed.row.values ∷ []) table)
  plain_with_more placed number same =
      let row : Row = record { number = table.def.next; values = placed.row.values } in
      let row_is : placed.row ≡ row = ap (λ (n : ℕ). record { number = n; values = placed.row.values }) (number ∙ sym (ap (λ (d : TableDef). d.next) is.def_is)) in record {
        def_is = ap (λ (d : TableDef). record d { next = d.next + 1 }) is.def_is;
        same_rows = subst (λ (r : Row). IsPermutation (rows_alone are) (table.rows ++ r ∷ [])) row_is
            (IsPermutation-trans (rows_alone are) (placed.row ∷ rows_alone were) (table.rows ++ placed.row ∷ []) (perm_alone_back (placed ∷ were) are same)
            (perm_last (rows_alone were) table.rows placed.row is.same_rows));
        rising = subst (λ (r : Row). AllPairs (λ (a b : Row). a.number < b.number) (table.rows ++ r ∷ [])) row_is (rises_last table.rows placed.row above is.rising);
      }
    where
      above : (z : Row) → Contains table.rows z → z.number < placed.row.number
      above z there =
          let of = from_map (λ (p : PlacedRow). p.row) were z (Contains-permutation table.rows (rows_alone were) z (IsPermutation-sym (rows_alone were) table.rows is.same_rows) there) in
          omega (arith, each_of (λ (p : PlacedRow). p.row.number < def.next) were of.0 numbers.below_next of.1, ap (λ (r : Row). r.number) of.2, number)

  -- the numbers of rows that were these
  differ_then : (some : List PlacedRow) → IsPermutation some were → Differ (rows_alone some)
  differ_then some same = differ_alone some (numbers_in_order def were some (IsPermutation-sym some were same) numbers).differ

  -- a row less
  pub plain_without : (placed : PlacedRow) → IsPermutation (placed ∷ are) were → IsPlainTable def are (without_row placed.row.number table)
  plain_without placed same = record {
    def_is = is.def_is;
    same_rows = perm_without placed.row (rows_alone are) table.rows (differ_then (placed ∷ are) same) is.rising
        (IsPermutation-trans (placed.row ∷ rows_alone are) (rows_alone were) table.rows (perm_alone (placed ∷ are) were same) is.same_rows);
    rising = AllPairs-filter (λ (a b : Row). a.number < b.number) _ table.rows is.rising;
  }

  -- a row that became another of its number
  pub plain_with : (placed other : PlacedRow) (stay : List PlacedRow) → other.row.number ≡ placed.row.number → IsPermutation (placed ∷ stay) were → IsPermutation (other ∷ stay) are
      → IsPlainTable def are (with_row other.row table)
  plain_with placed other stay number then now = record {
    def_is = is.def_is;
    same_rows = IsPermutation-trans (rows_alone are) (other.row ∷ rows_alone stay) _ (perm_alone_back (other ∷ stay) are now)
        (perm_turned placed.row other.row (rows_alone stay) table.rows number (differ_then (placed ∷ stay) then)
        (IsPermutation-trans (placed.row ∷ rows_alone stay) (rows_alone were) table.rows (perm_alone (placed ∷ stay) were then) is.same_rows));
    rising = rises_turned other.row table.rows is.rising;
  }
