-- Keys of cells, and how wide their entries are.
use Rattle.std.proofs.Common.{◌≡◌, ℕ, zero, suc, ◌+◌, ◌-◌, ◌<◌, ◌≤◌, List, [], ◌∷◌, ◌++◌, length, get_or, refl, sym, ap, subst, ◌∙◌, arith, add-one, append-nil, append_assoc, take, drop, drop-cons, length-append, inl, inr, true, false}
use Rattle.std.specs.Prelude.{Bool, ◌&&◌, nat_lt, IsTrue, Some, map, slice_get, unwrap_or, zip}
use Rattle.std.specs.List.{AllByRecursion}
use Rattle.std.proofs.lemmas.Bool.{cases_lt}
use Rattle.std.proofs.lemmas.Bool.Decides.{nat_tests}
use Rattle.std.proofs.Math.Seq.{drop-append_seam}
use Rattle.std.proofs.lemmas.List.{drop_all, length-map, length-take, map-append, take_at}
use Rattle.std.proofs.lemmas.Option.{get_or_from_slice_get, same_Some, slice_get_read, slice_get_within}
use Rattle.byteorder.specs.Endian.{big_bytes}
use Rattle.mdc_words.specs.ByteOrder.{Entry}
use Rattle.mdc_values.specs.declared.value.Value.{Value}
use Rattle.mdc_values.specs.declared.value.Value.TheVariants.{Null}
use Rattle.mdc_ast.specs.Truth.{value_at}
use Rattle.mdc_ast.specs.declared.definition.ColumnDef.{ColumnDef}
use Rattle.mdc_ast.specs.declared.definition.TableDef.{TableDef}
use Rattle.mdc_ast.specs.declared.row.Cell.{Cell}
use Rattle.mdc_ast.specs.Database.{fits, fits_all}
use Rattle.key_codec.specs.Keys.{ArePartsOf, has_key, key_bytes, part_bytes, part_width, type_of_column, type_or_none, width_of_parts}
use Rattle.key_codec.proofs.KeyLemmas.{first_there, type_at_part, width_of_parts-cons}
use Rattle.key_codec.proofs.PartLemmas.{has_key-is_of_type, length-part_bytes}
use Rattle.table_trees.specs.TableTrees.{AreIndexParts, HasBlockIndexes, TreePlace, block_entry, block_index_places, cell_parts, composite_place, dimension_place, rising_parts}
use Rattle.table_trees.proofs.TableTreesLemmas.{AreColumns, narrow_enough, places_in}
use Rattle.table_trees.specs.RowCells.{IsCellOf, cell_places, cell_values}
use borrow.Rule.Slice.PartMut.{put_mid}
use Rattle.block_index.specs.Cells.{FitPlaces, FitsCell, HaveKeys, cell_entries, dimension_entries, entry_under, key_of_values}

-- an entry has the bytes of the key and four more
under : (key : List ℕ) (w block : ℕ) → length key ≡ w → length (entry_under key block) ≡ w + 4
under key w block wide = length-append key (big_bytes 4 block) ∙ ap (λ n. n + 4) wide

-- ---- lists of values, cut

-- what fits the columns of two lists of places fits the second behind the first
pub fit_behind : (columns : List ColumnDef) (first second : List ℕ) (values : List Value) → FitPlaces columns (first ++ second) values → FitPlaces columns second (drop (length first) values)
fit_behind columns [] second values fit = fit
fit_behind columns (place ∷ first) second [] fit = absurd fit
fit_behind columns (place ∷ first) second (value ∷ values) fit = fit_behind columns first second values fit.1

pub fit_front : (columns : List ColumnDef) (first second : List ℕ) (values : List Value) → FitPlaces columns (first ++ second) values → FitPlaces columns first values
fit_front columns [] second values fit = tt
fit_front columns (place ∷ first) second [] fit = absurd fit
fit_front columns (place ∷ first) second (value ∷ values) fit = (fit.0, fit_front columns first second values fit.1)

pub enough_values : (columns : List ColumnDef) (places : List ℕ) (values : List Value) → FitPlaces columns places values → length places ≤ length values
enough_values columns [] values fit = omega arith
enough_values columns (place ∷ places) [] fit = absurd fit
enough_values columns (place ∷ places) (value ∷ values) fit = omega (arith, enough_values columns places values fit.1)

pub key_of_values-append : (columns : List ColumnDef) (first second : List ℕ) (values : List Value) → FitPlaces columns (first ++ second) values
    → key_of_values columns (first ++ second) values ≡ key_of_values columns first values ++ key_of_values columns second (drop (length first) values)
key_of_values-append columns [] second values fit = refl
key_of_values-append columns (place ∷ first) second [] fit = absurd fit
key_of_values-append columns (place ∷ first) second (value ∷ values) fit =
    ap (λ rest. part_bytes (type_of_column columns place) false value ++ rest) (key_of_values-append columns first second values fit.1)
    ∙ sym (append_assoc (part_bytes (type_of_column columns place) false value) (key_of_values columns first values) (key_of_values columns second (drop (length first) values)))

pub length-key_of_values : (columns : List ColumnDef) (places : List ℕ) (values : List Value) → AreColumns columns (rising_parts places) → FitPlaces columns places values
    → length (key_of_values columns places values) ≡ width_of_parts columns (rising_parts places)
length-key_of_values columns [] values there fit = refl
length-key_of_values columns (place ∷ places) [] there fit = absurd fit
length-key_of_values columns (place ∷ places) (value ∷ values) there fit =
    let split = first_there columns (record { column = place; descending = false }) (rising_parts places) there in
    let ty = type_of_column columns place in
    let first = length-part_bytes ty false value fit.0 in
    omega (arith, length-append (part_bytes ty false value) (key_of_values columns places values), first, length-key_of_values columns places values split.1 fit.1, width_of_parts-cons columns (record { column = place; descending = false }) (rising_parts places) split.0)

-- ---- a loop that puts one value after another

drop_from : {X : Type 0} (xs : List X) (i : ℕ) (x : X) → slice_get xs i ≡ Some x → drop i xs ≡ x ∷ drop (i + 1) xs
drop_from xs i x e = rw (add-one i) (drop-cons xs i x (slice_get_within xs i x e)) ∙ ap (λ y. y ∷ drop (i + 1) xs) (get_or_from_slice_get xs i x x e)

-- the values that are left, and what the key becomes with them
pub record IsKeyedSo (columns : List ColumnDef) (whole : List ℕ) (places : List ℕ) (values : List Value) (key : List ℕ) : Type 0 where
  pub fit : FitPlaces columns places values
  pub bytes : key ++ key_of_values columns places values ≡ whole

-- the same of the entries in the dimensions' indexes
pub record AreListedSo (columns : List ColumnDef) (block : ℕ) (whole : List Entry) (dims : List (List ℕ)) (values : List Value) (entries : List Entry) : Type 0 where
  pub fit : FitPlaces columns (places_in dims) values
  pub list : entries ++ dimension_entries columns dims values block ≡ whole

module _ (columns : List ColumnDef) (whole : List ℕ) (all : List ℕ) (values : List Value) (i place : ℕ) (key : List ℕ) (is : IsKeyedSo columns whole (drop i all) (drop i values) key)
    (here : slice_get all i ≡ Some place) where
  place_left : drop i all ≡ place ∷ drop (i + 1) all
  place_left = drop_from all i place here

  fits_here : FitPlaces columns (place ∷ drop (i + 1) all) (drop i values)
  fits_here = subst (λ ps. FitPlaces columns ps (drop i values)) place_left is.fit

  -- there is a value for it
  pub value_within : i < length values
  value_within = elim (cases_lt i (length values)) [
    | inl less ↦ less
    | inr past ↦ absurd (subst (λ vs. FitPlaces columns (place ∷ drop (i + 1) all) vs) (drop_all i values past) fits_here)
  ]

  value_left : (value : Value) → slice_get values i ≡ Some value → drop i values ≡ value ∷ drop (i + 1) values
  value_left value e = drop_from values i value e

  fits_both : (value : Value) → slice_get values i ≡ Some value → FitPlaces columns (place ∷ drop (i + 1) all) (value ∷ drop (i + 1) values)
  fits_both value e = subst (λ vs. FitPlaces columns (place ∷ drop (i + 1) all) vs) (value_left value e) fits_here

  -- and the place is that of a column
  pub column_within : AreColumns columns (rising_parts all) → place < length columns
  column_within there = go all i there here
    where
      go : (ps : List ℕ) (k : ℕ) → AreColumns columns (rising_parts ps) → slice_get ps k ≡ Some place → place < length columns
      go [] k h e = absurd cc
      go (p ∷ ps) zero h e =
          let first : IsTrue (nat_lt p (length columns)) = (first_there columns (record { column = p; descending = false }) (rising_parts ps) h).0 in
          subst (λ q. q < length columns) (same_Some p place e) (grind (arith, nat_tests, first))
      go (p ∷ ps) (suc k) h e = go ps k (first_there columns (record { column = p; descending = false }) (rising_parts ps) h).1 e

  pub value_fits : (value : Value) (column : ColumnDef) → slice_get values i ≡ Some value → slice_get columns place ≡ Some column → IsTrue (has_key column.ty value)
  value_fits value column e found = subst (λ ty. IsTrue (has_key ty value)) (ap type_or_none found) (fits_both value e).0

  pub keyed_next : (value : Value) (column : ColumnDef) (key_now : List ℕ) → slice_get values i ≡ Some value → slice_get columns place ≡ Some column → key_now ≡ key ++ part_bytes column.ty false value
      → IsKeyedSo columns whole (drop (i + 1) all) (drop (i + 1) values) key_now
  keyed_next value column key_now e found now = record {
    fit = (fits_both value e).1;
    bytes =
        let rest = key_of_values columns (drop (i + 1) all) (drop (i + 1) values) in
        let part = part_bytes (type_of_column columns place) false value in
        let part_is : part_bytes column.ty false value ≡ part = ap (λ ty. part_bytes ty false value) (sym (ap type_or_none found)) in
        let step : key_of_values columns (drop i all) (drop i values) ≡ part ++ rest =
        ap (λ ps. key_of_values columns ps (drop i values)) place_left ∙ ap (λ vs. key_of_values columns (place ∷ drop (i + 1) all) vs) (value_left value e) in
        ap (λ k. k ++ rest) (now ∙ ap (λ b. key ++ b) part_is) ∙ (append_assoc key part rest ∙ (ap (λ b. key ++ b) (sym step) ∙ is.bytes));
  }

-- ---- a loop over the dimensions

module _ (columns : List ColumnDef) (items : List (List ℕ)) (i : ℕ) (dim : List ℕ) (is : dim ≡ get_or items i dim) (within : i < length items) (values : List Value) (fit : FitPlaces columns (places_in (drop i items)) values) where
  dims_left : drop i items ≡ dim ∷ drop (i + 1) items
  dims_left = rw (add-one i) (drop-cons items i dim within) ∙ ap (λ d. d ∷ drop (i + 1) items) (sym is)

  places_left : places_in (drop i items) ≡ dim ++ places_in (drop (i + 1) items)
  places_left = ap places_in dims_left

  fit_all : FitPlaces columns (dim ++ places_in (drop (i + 1) items)) values
  fit_all = subst (λ ps. FitPlaces columns ps values) places_left fit

  pub dim_fits : FitPlaces columns dim values
  dim_fits = fit_front columns dim (places_in (drop (i + 1) items)) values fit_all

  pub dim_enough : length dim ≤ length values
  dim_enough = enough_values columns dim values dim_fits

  pub rest_fits : FitPlaces columns (places_in (drop (i + 1) items)) (drop (length dim) values)
  rest_fits = fit_behind columns dim (places_in (drop (i + 1) items)) values fit_all

  pub dim_keyed : (whole key key_now : List ℕ) (rest : List Value) → IsKeyedSo columns whole (places_in (drop i items)) values key → key_now ≡ key ++ key_of_values columns dim values → rest ≡ drop (length dim) values
      → IsKeyedSo columns whole (places_in (drop (i + 1) items)) rest key_now
  dim_keyed whole key key_now rest so now rest_is = record {
    fit = subst (λ vs. FitPlaces columns (places_in (drop (i + 1) items)) vs) (sym rest_is) rest_fits;
    bytes =
        let later = key_of_values columns (places_in (drop (i + 1) items)) (drop (length dim) values) in
        let step : key_of_values columns (places_in (drop i items)) values ≡ key_of_values columns dim values ++ later =
        ap (λ ps. key_of_values columns ps values) places_left ∙ key_of_values-append columns dim (places_in (drop (i + 1) items)) values fit_all in
        ap (λ vs. key_now ++ key_of_values columns (places_in (drop (i + 1) items)) vs) rest_is
        ∙ (ap (λ k. k ++ later) now ∙ (append_assoc key (key_of_values columns dim values) later ∙ (ap (λ b. key ++ b) (sym step) ∙ so.bytes)));
  }

  -- the entries that are left, and what the list becomes with them
  pub dim_listed : (block : ℕ) (whole entries entries_now : List Entry) (rest : List Value) → AreListedSo columns block whole (drop i items) values entries → entries_now ≡ entries ++ entry_under (key_of_values columns dim values) block ∷ []
      → rest ≡ drop (length dim) values → AreListedSo columns block whole (drop (i + 1) items) rest entries_now
  dim_listed block whole entries entries_now rest so now rest_is = record {
    fit = subst (λ vs. FitPlaces columns (places_in (drop (i + 1) items)) vs) (sym rest_is) rest_fits;
    list =
        let later = dimension_entries columns (drop (i + 1) items) (drop (length dim) values) block in
        let here = entry_under (key_of_values columns dim values) block in
        let step : dimension_entries columns (drop i items) values block ≡ here ∷ later = ap (λ ds. dimension_entries columns ds values block) dims_left in
        ap (λ vs. entries_now ++ dimension_entries columns (drop (i + 1) items) vs block) rest_is
        ∙ (ap (λ es. es ++ later) now ∙ (append_assoc entries (here ∷ []) later ∙ (ap (λ es. entries ++ es) (sym step) ∙ so.list)));
  }

-- ---- how long keys are

pub key_short : (columns : List ColumnDef) (places : List ℕ) (values : List Value) → ArePartsOf columns (rising_parts places) → FitPlaces columns places values → length (key_of_values columns places values) ≤ 128
key_short columns places values are fit = omega (arith, length-key_of_values columns places values are.there fit, narrow_enough columns (rising_parts places) are)

pub all_at : {X : Type 0} (P : X → Type 0) (xs : List X) (i : ℕ) (x : X) → AllByRecursion P xs → i < length xs → x ≡ get_or xs i x → P x
all_at P [] i x all lt is = absurd (omega arith)
all_at P (y ∷ xs) zero x all lt is = subst P (sym is) all.0
all_at P (y ∷ xs) (suc i) x all lt is = all_at P xs i x all.1 (omega (arith, lt)) is

-- the entries are as wide as their indexes
pub entry_width : (def : TableDef) (values : List Value) (block i : ℕ) (place : TreePlace) (x : Entry) → HasBlockIndexes def → FitsCell def values → slice_get (block_index_places def) i ≡ Some place
    → slice_get (cell_entries def values block) i ≡ Some x → length x ≡ place.width
entry_width def values block zero place x has cell at is =
    ap length (sym (same_Some (entry_under (key_of_values def.columns (cell_places def) values) block) x is))
    ∙ (under (key_of_values def.columns (cell_places def) values) (width_of_parts def.columns (cell_parts def)) block (length-key_of_values def.columns (cell_places def) values has.composite.key.there cell.each)
    ∙ ap (λ q. q.width) (same_Some (composite_place def) place at))
entry_width def values block (suc i) place x has cell at is = go def.dims def.roots.dims values i has.dimensions cell.each at is
  where
    go : (dims : List (List ℕ)) (roots : List ℕ) (values : List Value) (i : ℕ) → AllByRecursion (λ dim. AreIndexParts def.columns (rising_parts dim)) dims → FitPlaces def.columns (places_in dims) values
        → slice_get (map (λ pair. dimension_place def pair.0 pair.1) (zip dims roots)) i ≡ Some place → slice_get (dimension_entries def.columns dims values block) i ≡ Some x → length x ≡ place.width
    go [] roots values i all fit at is = absurd cc
    go (dim ∷ dims) [] values i all fit at is = absurd cc
    go (dim ∷ dims) (root ∷ roots) values zero all fit at is =
        ap length (sym (same_Some (entry_under (key_of_values def.columns dim values) block) x is))
        ∙ (under (key_of_values def.columns dim values) (width_of_parts def.columns (rising_parts dim)) block (length-key_of_values def.columns dim values all.0.key.there (fit_front def.columns dim (places_in dims) values fit))
        ∙ ap (λ q. q.width) (same_Some (dimension_place def dim root) place at))
    go (dim ∷ dims) (root ∷ roots) values (suc i) all fit at is = go dims roots (drop (length dim) values) i all.1 (fit_behind def.columns dim (places_in dims) values fit) at is

pub length-dimension_entries : (columns : List ColumnDef) (dims : List (List ℕ)) (values : List Value) (block : ℕ) → length (dimension_entries columns dims values block) ≡ length dims
length-dimension_entries columns [] values block = refl
length-dimension_entries columns (dim ∷ dims) values block = ap suc (length-dimension_entries columns dims (drop (length dim) values) block)

-- an entry that is lent from a list of them
pub entry_at : (items entries : List Entry) (i : ℕ) (lent x : Entry) → items ≡ entries → i < length items → lent ≡ get_or items i lent → x ≡ lent → slice_get entries i ≡ Some x
entry_at items entries i lent x same within at is = ap (λ xs. slice_get xs i) (sym same) ∙ (slice_get_read items (length items) i lent refl within at ∙ ap Some (sym is))

-- ---- the key of a row

pub key_bytes-places : (columns : List ColumnDef) (first second : List ℕ) (values : List Value)
    → key_bytes columns (rising_parts (first ++ second)) values ≡ key_bytes columns (rising_parts first) values ++ key_bytes columns (rising_parts second) values
key_bytes-places columns [] second values = refl
key_bytes-places columns (place ∷ first) second values =
    let part = part_bytes (type_of_column columns place) false (value_at values place) in
    ap (λ rest. part ++ rest) (key_bytes-places columns first second values) ∙ sym (append_assoc part (key_bytes columns (rising_parts first) values) (key_bytes columns (rising_parts second) values))

keys_front : (columns : List ColumnDef) (first second : List ℕ) (values : List Value) → HaveKeys columns (first ++ second) values → HaveKeys columns first values
keys_front columns [] second values keys = tt
keys_front columns (place ∷ first) second values keys = (keys.0, keys_front columns first second values keys.1)

keys_behind : (columns : List ColumnDef) (first second : List ℕ) (values : List Value) → HaveKeys columns (first ++ second) values → HaveKeys columns second values
keys_behind columns [] second values keys = keys
keys_behind columns (place ∷ first) second values keys = keys_behind columns first second values keys.1

-- the places that are left, and what the key becomes with them
pub record IsRowKeyedSo (columns : List ColumnDef) (values : List Value) (whole : List ℕ) (places : List ℕ) (key : List ℕ) : Type 0 where
  pub keys : HaveKeys columns places values
  pub bytes : key ++ key_bytes columns (rising_parts places) values ≡ whole

module _ (columns : List ColumnDef) (values : List Value) (whole : List ℕ) (items : List ℕ) (i : ℕ) (key : List ℕ) (is : IsRowKeyedSo columns values whole (drop i items) key) (within : i < length items) where
  row_place : ℕ
  row_place = get_or items i 0

  row_left : drop i items ≡ get_or items i 0 ∷ drop (i + 1) items
  row_left = rw (add-one i) (drop-cons items i 0 within)

  row_keys : HaveKeys columns (get_or items i 0 ∷ drop (i + 1) items) values
  row_keys = subst (λ ps. HaveKeys columns ps values) row_left is.keys

  pub row_value_within : get_or items i 0 < length values
  row_value_within = row_keys.0.0

  module _ (column : ColumnDef) (value : Value) (found : slice_get columns (get_or items i 0) ≡ Some column) (there : slice_get values (get_or items i 0) ≡ Some value) where
    is_value : value_at values (get_or items i 0) ≡ value
    is_value = ap (λ o. unwrap_or o Null) there

    pub row_value_fits : IsTrue (has_key column.ty value)
    row_value_fits = subst (λ v. IsTrue (has_key column.ty v)) is_value (subst (λ ty. IsTrue (has_key ty (value_at values (get_or items i 0)))) (ap type_or_none found) row_keys.0.1)

    pub row_keyed_next : (key_now : List ℕ) → key_now ≡ key ++ part_bytes column.ty false value → IsRowKeyedSo columns values whole (drop (i + 1) items) key_now
    row_keyed_next key_now now = record {
      keys = row_keys.1;
      bytes =
          let rest = key_bytes columns (rising_parts (drop (i + 1) items)) values in
          let part = part_bytes (type_of_column columns (get_or items i 0)) false (value_at values (get_or items i 0)) in
          let part_is : part_bytes column.ty false value ≡ part = ap (λ ty. part_bytes ty false value) (sym (ap type_or_none found)) ∙ ap (part_bytes (type_of_column columns (get_or items i 0)) false) (sym is_value) in
          let step : key_bytes columns (rising_parts (drop i items)) values ≡ part ++ rest = ap (λ ps. key_bytes columns (rising_parts ps) values) row_left in
          ap (λ k. k ++ rest) (now ∙ ap (λ b. key ++ b) part_is) ∙ (append_assoc key part rest ∙ (ap (λ b. key ++ b) (sym step) ∙ is.bytes));
    }

    -- it ends within the whole key
    pub row_part_within : length key + part_width column.ty ≤ length whole
    row_part_within =
        let part = part_bytes column.ty false value in
        let next = row_keyed_next (key ++ part) refl in
        omega (arith, length-append key part, length-append (key ++ part) (key_bytes columns (rising_parts (drop (i + 1) items)) values), ap length next.bytes, length-part_bytes column.ty false value row_value_fits)

-- with no place left the key is whole
pub row_key_whole : (columns : List ColumnDef) (values : List Value) (whole : List ℕ) (items : List ℕ) (i : ℕ) (key : List ℕ) → IsRowKeyedSo columns values whole (drop i items) key → length items ≤ i → key ≡ whole
row_key_whole columns values whole items i key is past =
    sym (append-nil key) ∙ ap (λ places. key ++ key_bytes columns (rising_parts places) values) (sym (drop_all i items past)) ∙ is.bytes

-- a part that is put behind the bytes up to a place
pub put_behind : (out new part : List ℕ) (at w : ℕ) → at ≤ length out → length part ≡ w → new ≡ part ++ drop w (take (length out - at) (drop at out)) → take (at + w) (put_mid at (length out - at) out new) ≡ take at out ++ part
put_behind out new part at w within wide is =
    let more = drop w (take (length out - at) (drop at out)) in
    let tail = drop (length out - at) (drop at out) in
    let front : length (take at out ++ part) ≡ at + w = omega (arith, length-append (take at out) part, length-take at out, within, wide) in
    ap (λ n. take (at + w) (take at out ++ (n ++ tail))) is
    ∙ ap (take (at + w)) (ap (λ b. take at out ++ b) (append_assoc part more tail) ∙ sym (append_assoc (take at out) part (more ++ tail)))
    ∙ take_at (take at out ++ part) (more ++ tail) (at + w) front

module _ (columns : List ColumnDef) (values : List Value) (whole : List ℕ) (items : List (List ℕ)) (i : ℕ) (dim : List ℕ) (here : dim ≡ get_or items i dim) (within : i < length items) (key : List ℕ)
    (is : IsRowKeyedSo columns values whole (places_in (drop i items)) key) where
  row_dims_left : places_in (drop i items) ≡ dim ++ places_in (drop (i + 1) items)
  row_dims_left =
      let left : drop i items ≡ dim ∷ drop (i + 1) items = rw (add-one i) (drop-cons items i dim within) ∙ ap (λ d. d ∷ drop (i + 1) items) (sym here) in
      ap places_in left

  row_dims_keys : HaveKeys columns (dim ++ places_in (drop (i + 1) items)) values
  row_dims_keys = subst (λ ps. HaveKeys columns ps values) row_dims_left is.keys

  pub dim_row_keys : HaveKeys columns dim values
  dim_row_keys = keys_front columns dim (places_in (drop (i + 1) items)) values row_dims_keys

  pub dim_row_keyed : (key_now : List ℕ) → key_now ≡ key ++ key_bytes columns (rising_parts dim) values → IsRowKeyedSo columns values whole (places_in (drop (i + 1) items)) key_now
  dim_row_keyed key_now now = record {
    keys = keys_behind columns dim (places_in (drop (i + 1) items)) values row_dims_keys;
    bytes =
        let rest = key_bytes columns (rising_parts (places_in (drop (i + 1) items))) values in
        let part = key_bytes columns (rising_parts dim) values in
        let step : key_bytes columns (rising_parts (places_in (drop i items))) values ≡ part ++ rest =
        ap (λ ps. key_bytes columns (rising_parts ps) values) row_dims_left ∙ key_bytes-places columns dim (places_in (drop (i + 1) items)) values in
        ap (λ k. k ++ rest) now ∙ (append_assoc key part rest ∙ (ap (λ b. key ++ b) (sym step) ∙ is.bytes));
  }

  -- the key of the dimension ends within the whole key
  pub dim_row_within : length key + length (key_bytes columns (rising_parts dim) values) ≤ length whole
  dim_row_within =
      let part = key_bytes columns (rising_parts dim) values in
      let next = dim_row_keyed (key ++ part) refl in
      omega (arith, length-append key part, length-append (key ++ part) (key_bytes columns (rising_parts (places_in (drop (i + 1) items))) values), ap length next.bytes)

-- ---- cells of rows

-- the key of the values that a row has in some places is that of the row
pub key_of_values-row : (columns : List ColumnDef) (places : List ℕ) (values : List Value) → key_of_values columns places (map (value_at values) places) ≡ key_bytes columns (rising_parts places) values
key_of_values-row columns [] values = refl
key_of_values-row columns (place ∷ places) values = ap (λ rest. part_bytes (type_of_column columns place) false (value_at values place) ++ rest) (key_of_values-row columns places values)

-- values behind the last one that is needed change no key
key_of_values-front : (columns : List ColumnDef) (places : List ℕ) (values more : List Value) → length values ≡ length places → key_of_values columns places (values ++ more) ≡ key_of_values columns places values
key_of_values-front columns [] values more same = refl
key_of_values-front columns (place ∷ places) [] more same = absurd cc
key_of_values-front columns (place ∷ places) (value ∷ values) more same = ap (λ rest. part_bytes (type_of_column columns place) false value ++ rest) (key_of_values-front columns places values more (omega (arith, same)))

-- a row with keys in some places has values there that fit
pub fit_row : (columns : List ColumnDef) (places : List ℕ) (values : List Value) → HaveKeys columns places values → FitPlaces columns places (map (value_at values) places)
fit_row columns [] values keys = tt
fit_row columns (place ∷ places) values keys = (keys.0.1, fit_row columns places values keys.1)

pub row_key_short : (columns : List ColumnDef) (places : List ℕ) (values : List Value) → ArePartsOf columns (rising_parts places) → HaveKeys columns places values → length (key_bytes columns (rising_parts places) values) ≤ 128
row_key_short columns places values are keys =
    subst (λ key. length key ≤ 128) (key_of_values-row columns places values) (key_short columns places (map (value_at values) places) are (fit_row columns places values keys))

-- so has a row that fits its columns, in places that are there
pub keys_of_fitting : (columns : List ColumnDef) (places : List ℕ) (values : List Value) → AreColumns columns (rising_parts places) → IsTrue (fits_all columns values) → HaveKeys columns places values
keys_of_fitting columns [] values there fitting = tt
keys_of_fitting columns (place ∷ places) values there fitting =
    let split = first_there columns (record { column = place; descending = false }) (rising_parts places) there in
    let within : place < length columns = grind (arith, nat_tests, split.0) in (
      (omega (arith, within, as_many columns values fitting), has_key-is_of_type (type_of_column columns place) (value_at values place) (type_at_part columns values place split.0 fitting)),
      keys_of_fitting columns places values split.1 fitting,
    )
  where
    as_many : (columns : List ColumnDef) (values : List Value) → IsTrue (fits_all columns values) → length values ≡ length columns
    as_many [] [] h = refl
    as_many [] (value ∷ values) h = cc
    as_many (column ∷ columns) [] h = cc
    as_many (column ∷ columns) (value ∷ values) h = ap suc (as_many columns values (second (fits column value) (fits_all columns values) h))
      where
        second : (a b : Bool) → IsTrue (a && b) → IsTrue b
        second true b h = h
        second false b h = absurd cc

-- the entries of a block under the cell of a row are those under the row
pub dimension_entries-row : (columns : List ColumnDef) (dims : List (List ℕ)) (values : List Value) (block : ℕ)
    → dimension_entries columns dims (map (value_at values) (places_in dims)) block ≡ map (λ dim. block_entry columns (rising_parts dim) values block) dims
dimension_entries-row columns [] values block = refl
dimension_entries-row columns (dim ∷ dims) values block =
    let front = map (value_at values) dim in
    let behind = map (value_at values) (places_in dims) in
    let cut : map (value_at values) (places_in (dim ∷ dims)) ≡ front ++ behind = map-append (value_at values) dim (places_in dims) in
    let rest : drop (length dim) (front ++ behind) ≡ behind = ap (λ n. drop n (front ++ behind)) (sym (length-map dim (value_at values))) ∙ drop-append_seam front behind in
    ap (λ vs. dimension_entries columns (dim ∷ dims) vs block) cut
    ∙ (ap (λ key. entry_under key block ∷ dimension_entries columns dims (drop (length dim) (front ++ behind)) block) (key_of_values-front columns dim front behind (length-map dim (value_at values)) ∙ key_of_values-row columns dim values)
    ∙ ap (λ es. block_entry columns (rising_parts dim) values block ∷ es) (ap (λ vs. dimension_entries columns dims vs block) rest ∙ dimension_entries-row columns dims values block))

pub cell_entries-row : (def : TableDef) (cell : Cell) (values : List Value) (block : ℕ) → IsCellOf def cell values
    → cell_entries def cell.values block ≡ block_entry def.columns (cell_parts def) values block ∷ map (λ dim. block_entry def.columns (rising_parts dim) values block) def.dims
cell_entries-row def cell values block is =
    ap (λ vs. cell_entries def vs block) is
    ∙ (ap (λ key. entry_under key block ∷ dimension_entries def.columns def.dims (cell_values def values) block) (key_of_values-row def.columns (cell_places def) values)
    ∙ ap (λ es. block_entry def.columns (cell_parts def) values block ∷ es) (dimension_entries-row def.columns def.dims values block))

pub fits_cell-row : (def : TableDef) (cell : Cell) (values : List Value) → IsCellOf def cell values → HaveKeys def.columns (cell_places def) values → FitsCell def cell.values
fits_cell-row def cell values is keys = subst (FitsCell def) (sym is) (record { each = fit_row def.columns (cell_places def) values keys; many = length-map (cell_places def) (value_at values) })
