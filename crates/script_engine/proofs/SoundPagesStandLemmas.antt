-- Sound pages stand for a database: its tables are those of the view, with their rows put in order.
use Rattle.std.proofs.Common.{◌≢◌, ◌<◌, ◌≤◌, ℕ, zero, suc, List, [], ◌∷◌, Option, Some, None, get_or, refl, ap, arith, sym, ◌∙◌, subst, inl, inr}
use Rattle.std.specs.Prelude.{AllPairs, Contains, IsPermutation}
use Rattle.std.specs.List.{AllByRecursion, AllZip, range_with_len}
use Rattle.std.proofs.lemmas.Bool.{cases_lt}
use Rattle.std.proofs.lemmas.List.Elements.{Contains-get_or}
use Rattle.std.proofs.lemmas.List.Sorted.{Contains-permutation, IsPermutation-append_comm, IsPermutation-append_left, IsPermutation-cons, IsPermutation-refl, IsPermutation-sym, IsPermutation-trans}
use Rattle.mdc_ast.specs.declared.row.Row.{Row}
use Rattle.mdc_ast.specs.Database.{Database, PlainTable}
use Rattle.store_api.specs.declared.shape.Shape.{Shape}
use Rattle.extent_map.specs.declared.kind.Kind.{Kind}
use Rattle.table_trees.specs.TableTrees.{tree_places}
use Rattle.table_trees.specs.ToldPages.{HasTree, PageList}
use Rattle.mdc_sound.specs.BlockRules.{AreRowNumbersSound}
use Rattle.mdc_sound.specs.SoundDatabase.{IsSoundDatabase}
use Rattle.mdc_sound.specs.SpaceRules.{IsTablePlaceSound, tables_there}
use Rattle.mdc_sound.specs.StandsForDatabase.{HoldsPlace, PagesStandFor, rootless}
use Rattle.mdc_sound.specs.TablePages.{DefinesTable}
use Rattle.mdc_sound.specs.TableRows.{PlacedRow, rows_in_table}
use Rattle.mdc_sound.specs.TableViews.{TableView, trees_of_table}
use Rattle.mdc_sound.proofs.ElementsLemmas.{from_map}
use Rattle.mdc_sound.proofs.PlainTableLemmas.{rows_alone}
use Rattle.mdc_sound.proofs.RisingRowsLemmas.{Rise}
use Rattle.mdc_sound.proofs.StandsForLemmas.{above_first, first_or_later, is_first, is_later, rest_rises}

-- ---- rows in order

-- the same rows, by rising number
record InOrder (rows : List Row) : Type 0 where
  pub ordered : List Row
  pub same : IsPermutation rows ordered
  pub rising : Rise ordered

-- a row below all others may stand first
rises_first : (x : Row) (xs : List Row) → ((z : Row) → Contains xs z → x.number < z.number) → Rise xs → Rise (x ∷ xs)
rises_first x xs below rise zero zero d low high = absurd (omega (arith, low))
rises_first x xs below rise zero (suc j) d low high = below (get_or xs j d) (Contains-get_or xs j d (omega (arith, high)))
rises_first x xs below rise (suc i) zero d low high = absurd (omega (arith, low))
rises_first x xs below rise (suc i) (suc j) d low high = rise i j d (omega (arith, low)) (omega (arith, high))

-- a row whose number no other has is put among rows that rise, behind those that are lower
put_among : (x : Row) (ys : List Row) → Rise ys → ((z : Row) → Contains ys z → x.number ≢ z.number) → InOrder (x ∷ ys)
put_among x [] rise apart = record {
  ordered = x ∷ [];
  same = IsPermutation-refl (x ∷ []);
  rising = rises_first x [] (λ z there. absurd (omega (arith, there.1))) rise;
}
put_among x (y ∷ ys) rise apart = elim (cases_lt x.number y.number) [
  | inl below ↦ record {
    ordered = x ∷ y ∷ ys;
    same = IsPermutation-refl (x ∷ y ∷ ys);
    rising = rises_first x (y ∷ ys) (λ z there. elim (first_or_later y z ys there) [
      | inl e ↦ subst (λ (r : Row). x.number < r.number) e below
      | inr later ↦ omega (arith, below, above_first y ys rise z later)
    ]) rise;
  }
  | inr above ↦
      let rest : InOrder (x ∷ ys) = put_among x ys (rest_rises y ys rise) (λ z there. apart z (is_later y z ys there)) in
      let turned : IsPermutation (x ∷ y ∷ ys) (y ∷ x ∷ ys) = IsPermutation-append_left ys (x ∷ y ∷ []) (y ∷ x ∷ []) (IsPermutation-append_comm (x ∷ []) (y ∷ [])) in
      record {
        ordered = y ∷ rest.ordered;
        same = IsPermutation-trans (x ∷ y ∷ ys) (y ∷ x ∷ ys) (y ∷ rest.ordered) turned (IsPermutation-cons y (x ∷ ys) rest.ordered rest.same);
        rising = rises_first y rest.ordered
            (λ z there. elim (first_or_later x z ys (Contains-permutation rest.ordered (x ∷ ys) z (IsPermutation-sym (x ∷ ys) rest.ordered rest.same) there)) [
              | inl e ↦ subst (λ (r : Row). y.number < r.number) e (under y.number x.number above (apart y (is_first y ys)))
              | inr later ↦ above_first y ys rise z later
            ]) rest.rising;
      }
]
  where
    under : (low high : ℕ) → low ≤ high → high ≢ low → low < high
    under low high within differ = elim (cases_lt low high) [
      | inl is ↦ is
      | inr other ↦ absurd (differ (omega (arith, within, other)))
    ]

-- rows whose numbers differ are put in order
put_in_order : (placed : List PlacedRow) → AllPairs (λ a b. a.row.number ≢ b.row.number) placed → InOrder (rows_alone placed)
put_in_order [] differ = record { ordered = []; same = IsPermutation-refl []; rising = λ i j d low high. absurd (omega (arith, high)) }
put_in_order (first ∷ placed) differ =
    let rest : InOrder (rows_alone placed) = put_in_order placed (λ i j d low high. differ (suc i) (suc j) d (omega (arith, low)) (omega (arith, high))) in
    let all : InOrder (first.row ∷ rest.ordered) = put_among first.row rest.ordered rest.rising (λ z there. apart z (Contains-permutation rest.ordered (rows_alone placed) z (IsPermutation-sym (rows_alone placed) rest.ordered rest.same) there)) in
    record {
      ordered = all.ordered;
      same = IsPermutation-trans (first.row ∷ rows_alone placed) (first.row ∷ rest.ordered) all.ordered (IsPermutation-cons first.row (rows_alone placed) rest.ordered rest.same) all.same;
      rising = all.rising;
    }
  where
    apart : (z : Row) → Contains (rows_alone placed) z → first.row.number ≢ z.number
    apart z there e =
        let of = from_map (λ (p : PlacedRow). p.row) placed z there in
        let (k, low, at) = of.1 in
        differ 0 (suc k) of.0 (omega arith) (omega (arith, low)) (e ∙ ap (λ (r : Row). r.number) (sym of.2) ∙ ap (λ (p : PlacedRow). p.row.number) (sym at))

-- ---- a place

-- the plain table, or none, that stands in a place
record StandsThere (shape : Shape) (pages : PageList) (t : ℕ) : Type 0 where
  pub table : Option PlainTable
  pub holds : HoldsPlace shape pages t table

-- a sound table page stands for its definition and its rows
table_stands : (shape : Shape) (pages : PageList) (t : ℕ) (table : TableView) → DefinesTable pages t table.def → AllZip (HasTree pages) (tree_places table.def) (trees_of_table table)
    → AreRowNumbersSound table.def (rows_in_table shape pages table.def table.map) → StandsThere shape pages t
table_stands shape pages t table defines trees numbers =
    let rows : InOrder (rows_alone (rows_in_table shape pages table.def table.map)) = put_in_order (rows_in_table shape pages table.def table.map) numbers.differ in
    record {
      table = Some (record { def = rootless table.def; rows = rows.ordered });
      holds = record {
        def = table.def;
        map_tree = table.map;
        defines = defines;
        has_map = trees.0;
        def_is = refl;
        same_rows = rows.same;
        rising = rows.rising;
      };
    }

-- ---- all places

-- places that are sound, with the trees and the row numbers of their tables, stand for plain tables
places_stand : (shape : Shape) (pages : PageList) (owners : List Kind) (ts : List ℕ) (places : List (Option TableView)) → AllZip (IsTablePlaceSound shape pages owners) ts places
    → AllByRecursion (λ table. AllZip (HasTree pages) (tree_places table.def) (trees_of_table table)) (tables_there places)
    → AllByRecursion (λ table. AreRowNumbersSound table.def (rows_in_table shape pages table.def table.map)) (tables_there places)
    → (db : Database) × AllZip (HoldsPlace shape pages) ts db
places_stand shape pages owners [] [] sound trees numbers = ([], tt)
places_stand shape pages owners [] (place ∷ places) sound trees numbers = absurd sound
places_stand shape pages owners (t ∷ ts) [] sound trees numbers = absurd sound
places_stand shape pages owners (t ∷ ts) (None ∷ places) sound trees numbers =
    let rest = places_stand shape pages owners ts places sound.1 trees numbers in
    (None ∷ rest.0, (sound.0, rest.1))
places_stand shape pages owners (t ∷ ts) (Some table ∷ places) sound trees numbers =
    let first : StandsThere shape pages t = table_stands shape pages t table sound.0.0 trees.0 numbers.0 in
    let rest = places_stand shape pages owners ts places sound.1 trees.1 numbers.1 in
    (first.table ∷ rest.0, (first.holds, rest.1))

-- sound pages stand for a database
pub sound_pages_stand : (shape : Shape) (pages : PageList) → IsSoundDatabase shape pages → (db : Database) × PagesStandFor shape pages db
sound_pages_stand shape pages (view, keeps) =
    places_stand shape pages view.owners (range_with_len 0 16) view.places keeps.first.rule3.each keeps.first.rule4 keeps.rule12.numbers
