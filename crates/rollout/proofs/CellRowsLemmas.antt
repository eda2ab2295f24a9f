-- A row made of a cell, value by value.
use Rattle.std.proofs.Common.{◌≡◌, ◌∙◌, ◌<◌, ◌+◌, ◌==◌, ℕ, zero, suc, List, [], ◌∷◌, true, false, get_or, length, map, replicate, set, refl, sym, ap, arith, subst, inl, inr}
use Rattle.std.specs.Prelude.{◌||◌, Contains, IsTrue, Some, slice_get}
use Rattle.std.specs.List.{AllByRecursion, list_any, flat_map}
use Rattle.std.proofs.lemmas.Bool.{cases_Bool, cases_eq, false≢true, ne_eqb}
use Rattle.std.proofs.lemmas.Bool.Decides.{nat_tests}
use Rattle.std.proofs.lemmas.List.{length-set}
use Rattle.mdc_values.specs.declared.value.ColType.{ColType}
use Rattle.mdc_values.specs.declared.value.ColType.TheVariants as column
use Rattle.mdc_values.specs.declared.value.Value.{Value}
use Rattle.mdc_values.specs.declared.value.Value.TheVariants.{Null}
use Rattle.mdc_ast.specs.Truth.{value_at}
use Rattle.mdc_ast.specs.declared.definition.ColumnDef.{ColumnDef}
use Rattle.mdc_ast.specs.declared.definition.TableDef.{TableDef}
use Rattle.mdc_ast.specs.declared.row.Cell.{Cell}
use Rattle.key_codec.proofs.KeyLemmas.{first_there}
use Rattle.key_codec.specs.Keys.{has_key, type_of_column, type_or_none}
use Rattle.block_index.specs.Cells.{FitPlaces}
use Rattle.block_map.proofs.MapLinesLemmas.{contains_more}
use Rattle.mdc_sound.proofs.ElementsLemmas.{contains_flat}
use Rattle.mdc_ast.specs.TableLimits.{IsTableDef}
use Rattle.mdc_sound.proofs.DefinitionTreesLemmas.{has_block_indexes}
use Rattle.table_trees.proofs.TableTreesLemmas.{AreColumns}
use Rattle.table_trees.specs.RowCells.{AreOfOneCell, cell_places}
use Rattle.table_trees.specs.TableTrees.{rising_parts}
use Rattle.rollout.specs.Applying.{is_dimension}
use Rattle.rollout.specs.CellRows.{HasCellValues, IsRowOfCell}

-- ---- values that fit

-- the value in a place fits its column
pub fits_at : (columns : List ColumnDef) (places : List ℕ) (values : List Value) → FitPlaces columns places values → (k : ℕ) → k < length places → (d : Value) → IsTrue (has_key (type_of_column columns (get_or places k 0)) (get_or values k d))
fits_at columns [] values fit k low d = absurd (omega (arith, low))
fits_at columns (place ∷ places) [] fit k low d = absurd fit
fits_at columns (place ∷ places) (value ∷ values) fit zero low d = fit.0
fits_at columns (place ∷ places) (value ∷ values) fit (suc k) low d = fits_at columns places values fit.1 k (omega (arith, low)) d

-- where each does, they fit
pub fit_from : (columns : List ColumnDef) (places : List ℕ) (values : List Value) → length values ≡ length places
    → ((k : ℕ) → k < length places → IsTrue (has_key (type_of_column columns (get_or places k 0)) (get_or values k Null))) → FitPlaces columns places values
fit_from columns [] values many each = tt
fit_from columns (place ∷ places) [] many each = absurd (omega (arith, many))
fit_from columns (place ∷ places) (value ∷ values) many each =
    (each 0 (omega arith), fit_from columns places values (omega (arith, many)) (λ k low. each (suc k) (omega (arith, low))))

-- one of these places
pub place_below : (count : ℕ) (places : List ℕ) → AllByRecursion (λ place. place < count) places → (k : ℕ) → k < length places → get_or places k 0 < count
place_below count [] there k low = absurd (omega (arith, low))
place_below count (place ∷ places) there zero low = there.0
place_below count (place ∷ places) there (suc k) low = place_below count places there.1 k (omega (arith, low))

-- the value in a place, where the column there is this one
type_at : (columns : List ColumnDef) (places : List ℕ) (n place : ℕ) (one : ColumnDef) → place ≡ get_or places n 0 → slice_get columns place ≡ Some one → type_of_column columns (get_or places n 0) ≡ one.ty
type_at columns places n place one is at = ap (type_of_column columns) (sym is) ∙ ap type_or_none at

any_default : (values : List Value) (k : ℕ) (a b : Value) → k < length values → get_or values k a ≡ get_or values k b
any_default [] k a b low = absurd (omega (arith, low))
any_default (value ∷ values) zero a b low = refl
any_default (value ∷ values) (suc k) a b low = any_default values k a b (omega (arith, low))

module _ (columns : List ColumnDef) (places : List ℕ) (values : List Value) (n place : ℕ) (one : ColumnDef) (value : Value) (low : n < length places) (many : length values ≡ length places)
    (is : place ≡ get_or places n 0) (at : slice_get columns place ≡ Some one) (value_is : value ≡ get_or values n value) where
  pub judged_at : FitPlaces columns places values → IsTrue (has_key one.ty value)
  judged_at fit =
      subst (λ (v : Value). IsTrue (has_key one.ty v)) (sym value_is)
      (subst (λ (ty : ColType). IsTrue (has_key ty (get_or values n value))) (type_at columns places n place one is at) (fits_at columns places values fit n low value))

  pub judged_more : IsTrue (has_key one.ty value) → ((k : ℕ) → k < n → IsTrue (has_key (type_of_column columns (get_or places k 0)) (get_or values k Null)))
      → (k : ℕ) → k < n + 1 → IsTrue (has_key (type_of_column columns (get_or places k 0)) (get_or values k Null))
  judged_more fits so_far k below = elim (cases_eq k n) [
    | inl here ↦
        subst (λ (j : ℕ). IsTrue (has_key (type_of_column columns (get_or places j 0)) (get_or values j Null))) (sym here)
        (subst (λ (ty : ColType). IsTrue (has_key ty (get_or values n Null))) (sym (type_at columns places n place one is at))
        (subst (λ (v : Value). IsTrue (has_key one.ty v)) (value_is ∙ any_default values n value Null (omega (arith, low, many))) fits))
    | inr other ↦ so_far k (omega (arith, below, other))
  ]

-- ---- values that are set

null_fits : (ty : ColType) → IsTrue (has_key ty Null)
null_fits column.Integer = refl
null_fits column.Bigint = refl
null_fits (column.Char n) = refl
null_fits column.Date = refl

value_at-nulls : (n place : ℕ) → value_at (replicate n Null) place ≡ Null
value_at-nulls zero place = refl
value_at-nulls (suc n) zero = refl
value_at-nulls (suc n) (suc place) = value_at-nulls n place

value_at-set_same : (made : List Value) (p : ℕ) (v : Value) → p < length made → value_at (set made p v) p ≡ v
value_at-set_same [] p v low = absurd (omega (arith, low))
value_at-set_same (x ∷ made) zero v low = refl
value_at-set_same (x ∷ made) (suc p) v low = value_at-set_same made p v (omega (arith, low))

value_at-set_other : (made : List Value) (p q : ℕ) (v : Value) → (q ≡ p → ⊥) → value_at (set made p v) q ≡ value_at made q
value_at-set_other [] p q v other = refl
value_at-set_other (x ∷ made) zero zero v other = absurd (other refl)
value_at-set_other (x ∷ made) zero (suc q) v other = refl
value_at-set_other (x ∷ made) (suc p) zero v other = refl
value_at-set_other (x ∷ made) (suc p) (suc q) v other = value_at-set_other made p q v (λ e. other (ap suc e))

value_in_place : (places : List ℕ) (row : List Value) (k : ℕ) → k < length places → get_or (map (value_at row) places) k Null ≡ value_at row (get_or places k 0)
value_in_place [] row k low = absurd (omega (arith, low))
value_in_place (place ∷ places) row zero low = refl
value_in_place (place ∷ places) row (suc k) low = value_in_place places row k (omega (arith, low))

-- The first n values of the cell stand in the row.
pub record HasFirstValues (columns : List ColumnDef) (places : List ℕ) (values made : List Value) (n : ℕ) : Type 0 where
  pub wide : length made ≡ length columns
  pub keys : (place : ℕ) → IsTrue (has_key (type_of_column columns place) (value_at made place))
  pub same : (row : List Value) → values ≡ map (value_at row) places → (k : ℕ) → k < n → value_at made (get_or places k 0) ≡ value_at row (get_or places k 0)

module _ (columns : List ColumnDef) (places : List ℕ) (values : List Value) where
  -- none does yet
  pub first_none : (made : List Value) → made ≡ replicate (length columns) Null → length made ≡ length columns → HasFirstValues columns places values made 0
  first_none made is wide = record {
    wide = wide;
    keys = λ place. subst (λ (v : Value). IsTrue (has_key (type_of_column columns place) v)) (sym (ap (λ m. value_at m place) is ∙ value_at-nulls (length columns) place)) (null_fits (type_of_column columns place));
    same = λ row is k low. absurd (omega (arith, low));
  }

  -- one more
  pub first_more : (made now : List Value) (n : ℕ) (value : Value) → length values ≡ length places → AllByRecursion (λ place. place < length columns) places → FitPlaces columns places values → n < length places
      → value ≡ get_or values n value → now ≡ set made (get_or places n 0) value → length now ≡ length made → HasFirstValues columns places values made n → HasFirstValues columns places values now (n + 1)
  first_more made now n value many there fit low is set_so count so_far = record {
    wide = count ∙ so_far.wide;
    keys = λ place. elim (cases_eq place p) [
      | inl here ↦ subst (λ (q : ℕ). IsTrue (has_key (type_of_column columns q) (value_at now q))) (sym here) (subst (λ (v : Value). IsTrue (has_key (type_of_column columns p) v)) (sym at_p) fits)
      | inr other ↦ subst (λ (v : Value). IsTrue (has_key (type_of_column columns place) v)) (sym (at_other place other)) (so_far.keys place)
    ];
    same = λ row row_is k below. elim (cases_eq (get_or places k 0) p) [
      | inl here ↦
          ap (value_at now) here ∙ at_p ∙ is_null ∙ ap (λ vs. get_or vs n Null) row_is ∙ value_in_place places row n low ∙ ap (value_at row) (sym here)
      | inr other ↦
          at_other (get_or places k 0) other ∙ so_far.same row row_is k (elim (cases_eq k n) [ inl e ↦ absurd (other (ap (λ i. get_or places i 0) e)) | inr apart ↦ omega (arith, below, apart) ])
    ];
  }
    where
      p : ℕ
      p = get_or places n 0

      is_null : value ≡ get_or values n Null
      is_null = is ∙ any_default values n value Null (omega (arith, low, many))

      fits : IsTrue (has_key (type_of_column columns p) value)
      fits = subst (λ (v : Value). IsTrue (has_key (type_of_column columns p) v)) (sym is_null) (fits_at columns places values fit n low Null)

      at_p : value_at now p ≡ value
      at_p = ap (λ m. value_at m p) set_so ∙ value_at-set_same made p value (omega (arith, place_below (length columns) places there n low, so_far.wide))

      at_other : (q : ℕ) → (q ≡ p → ⊥) → value_at now q ≡ value_at made q
      at_other q other = ap (λ m. value_at m q) set_so ∙ value_at-set_other made p q value other

  -- a copy of it was set
  pub first_set : (made now : List Value) (n place : ℕ) (value copy : Value) → length values ≡ length places → AllByRecursion (λ place. place < length columns) places → FitPlaces columns places values → n < length places
      → value ≡ get_or values n value → copy ≡ value → place ≡ get_or places n 0 → now ≡ set made place copy → HasFirstValues columns places values made n → HasFirstValues columns places values now (n + 1)
  first_set made now n place value copy many there fit low is copied place_is set_so so_far =
      let now_is : now ≡ set made (get_or places n 0) value = set_so ∙ (ap (λ (v : Value). set made place v) copied ∙ ap (λ p. set made p value) place_is) in
      first_more made now n value many there fit low is now_is (ap length now_is ∙ length-set made (get_or places n 0) value) so_far

  -- all do
  pub first_all : (made : List Value) (n : ℕ) → length places ≡ n → HasFirstValues columns places values made n → HasCellValues columns places values made
  first_all made n all first = record {
    each = λ place low. (omega (arith, low, first.wide), first.keys place);
    same = λ row row_is k low. first.same row row_is k (omega (arith, low, all));
  }

-- ---- the columns of dimensions

-- each is a column
pub places_there : (def : TableDef) → IsTableDef def.number def → AllByRecursion (λ place. place < length def.columns) (cell_places def)
places_there def defined = go (cell_places def) (has_block_indexes def.number def defined).composite.key.there
  where
    go : (places : List ℕ) → AreColumns def.columns (rising_parts places) → AllByRecursion (λ place. place < length def.columns) places
    go [] there = tt
    go (place ∷ places) there = let split = first_there def.columns (record { column = place; descending = false }) (rising_parts places) there in (grind (arith, nat_tests, split.0), go places split.1)

place_there : (places : List ℕ) (column : ℕ) → list_any (λ place. place == column) places ≡ true → Contains places column
place_there [] column has = absurd (false≢true has)
place_there (place ∷ places) column has = elim (cases_eq place column) [
  | inl here ↦ (0, omega arith, here)
  | inr other ↦ contains_more column place places (place_there places column (sym (ap (λ b. b || list_any (λ place. place == column) places) (ne_eqb place column other)) ∙ has))
]

-- a dimension column is one of the cell
dimension_there : (dims : List (List ℕ)) (column : ℕ) → list_any (λ (dim : List ℕ). list_any (λ place. place == column) dim) dims ≡ true → Contains (flat_map (λ (dim : List ℕ). dim) dims) column
dimension_there dims column has = let found = go dims has in contains_flat (λ (dim : List ℕ). dim) dims found.0 column found.1 found.2
  where
    go : (dims : List (List ℕ)) → list_any (λ (dim : List ℕ). list_any (λ place. place == column) dim) dims ≡ true → (dim : List ℕ) × Contains dims dim × Contains dim column
    go [] has = absurd (false≢true has)
    go (dim ∷ dims) has = elim (cases_Bool (list_any (λ place. place == column) dim)) [
      | inl here ↦ (dim, (0, omega arith, refl), place_there dim column here)
      | inr other ↦ (let later = go dims (sym (ap (λ b. b || list_any (λ (dim : List ℕ). list_any (λ place. place == column) dim) dims) other) ∙ has) in (later.0, contains_more later.0 dim dims later.1, later.2))
    ]

place_of : (places : List ℕ) (column : ℕ) → Contains places column → (k : ℕ) × (k < length places) × (get_or places k 0 ≡ column)
place_of [] column there = absurd (omega (arith, there.1))
place_of (place ∷ places) column (zero, low, at) = (0, omega arith, at)
place_of (place ∷ places) column (suc k, low, at) = let later = place_of places column (k, omega (arith, low), at) in (suc later.0, omega (arith, later.1), later.2)

-- the row that is made of a cell
pub row_is_of_cell : (def : TableDef) (places : List ℕ) (cell : Cell) (made : List Value) (number : ℕ) → places ≡ cell_places def → length cell.values ≡ length places → FitPlaces def.columns places cell.values
    → HasCellValues def.columns places cell.values made → IsRowOfCell def cell (record { number = number; values = made })
row_is_of_cell def places cell made number are many fit has = record {
  fits = record { each = subst (λ ps. FitPlaces def.columns ps cell.values) are fit; many = many ∙ ap length are };
  read = record { each = has.each };
  same = λ values is column dimension.
      let at = place_of places column (subst (λ ps. Contains ps column) (sym are) (dimension_there def.dims column dimension)) in
      ap (value_at made) (sym at.2) ∙ has.same values (is ∙ ap (map (value_at values)) (sym are)) at.0 at.1 ∙ ap (value_at values) at.2;
}

-- rows of one cell have the same value in each dimension column
pub agree_on_dimensions : (def : TableDef) (a b : List Value) → AreOfOneCell def a b → (column : ℕ) → is_dimension def column ≡ true → value_at a column ≡ value_at b column
agree_on_dimensions def a b same column dimension =
    let at = place_of (cell_places def) column (dimension_there def.dims column dimension) in
    ap (value_at a) (sym at.2) ∙ sym (value_in_place (cell_places def) a at.0 at.1) ∙ ap (λ (values : List Value). get_or values at.0 Null) same ∙ value_in_place (cell_places def) b at.0 at.1 ∙ ap (value_at b) at.2
