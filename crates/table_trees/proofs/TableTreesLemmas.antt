-- Where the trees of a table are, and how wide their keys.
use Rattle.std.proofs.Common.{◌≡◌, ℕ, zero, suc, ◌+◌, ◌<◌, ◌≤◌, List, [], ◌∷◌, ◌++◌, length, get_or, refl, sym, ap, subst, ◌∙◌, arith, add-one, drop, drop-cons, true, false}
use Rattle.std.specs.Prelude.{Bool, ◌&&◌, nat_lt, IsTrue, Some, flat_map, map, zip, slice_get}
use Rattle.std.proofs.lemmas.Bool.Decides.{nat_tests}
use Rattle.std.proofs.lemmas.List.{map-append}
use Rattle.std.proofs.lemmas.Option.{same_Some}
use Rattle.mdc_ast.specs.declared.definition.ColumnDef.{ColumnDef}
use Rattle.mdc_ast.specs.declared.definition.KeyPart.{KeyPart}
use Rattle.mdc_ast.specs.declared.definition.TableDef.{TableDef}
use Rattle.mdc_ast.specs.Definitions.{are_there, places_of}
use Rattle.key_codec.specs.Keys.{ArePartsOf, part_width, type_of_column, type_or_none, width_of_parts}
use Rattle.key_codec.proofs.KeyLemmas.{first_there, width_of_parts-cons}
use Rattle.table_trees.specs.TableTrees.{AreIndexParts, TreePlace, dimension_place, dimension_places, rising_parts}

-- ---- widths

-- the part of a column that doesn't descend
abbrev rising_part : ℕ → KeyPart
rising_part place = record { column = place; descending = false }

-- columns that are there
abbrev pub AreColumns : List ColumnDef → List KeyPart → Type 0
AreColumns columns parts = IsTrue (are_there columns (places_of parts))

pub width-append : (columns : List ColumnDef) (first second : List KeyPart) → AreColumns columns first → width_of_parts columns (first ++ second) ≡ width_of_parts columns first + width_of_parts columns second
width-append columns [] second there = omega arith
width-append columns (part ∷ first) second there =
    let split = first_there columns part first there in
    omega (arith, width_of_parts-cons columns part (first ++ second) split.0, width_of_parts-cons columns part first split.0, width-append columns first second split.1)

pub columns-append : (columns : List ColumnDef) (first second : List KeyPart) → AreColumns columns (first ++ second) → AreColumns columns first × AreColumns columns second
columns-append columns [] second there = (refl, there)
columns-append columns (part ∷ first) second there =
    let split = first_there columns part (first ++ second) there in
    let rest = columns-append columns first second split.1 in
    (joined (nat_lt part.column (length columns)) (are_there columns (places_of first)) split.0 rest.0, rest.1)
  where
    joined : (a b : Bool) → IsTrue a → IsTrue b → IsTrue (a && b)
    joined true true h k = refl
    joined true false h k = k
    joined false b h k = absurd cc

-- an index has at least one byte of key
pub wide_enough : (columns : List ColumnDef) (parts : List KeyPart) → AreIndexParts columns parts → 1 ≤ width_of_parts columns parts
wide_enough columns [] are = absurd (omega (arith, are.some))
wide_enough columns (part ∷ parts) are = omega (arith, width_of_parts-cons columns part parts (first_there columns part parts are.key.there).0)

pub narrow_enough : (columns : List ColumnDef) (parts : List KeyPart) → ArePartsOf columns parts → width_of_parts columns parts ≤ 128
narrow_enough columns parts are = grind (arith, nat_tests, are.short)

-- ---- a loop over the places of columns

module _ (columns : List ColumnDef) (places items : List ℕ) (i : ℕ) (same : items ≡ places) (there : AreColumns columns (rising_parts places)) (within : i < length items) where
  -- the place, and those behind it
  left : drop i items ≡ get_or items i 0 ∷ drop (i + 1) items
  left = rw (add-one i) (drop-cons items i 0 within)

  there_from : (j : ℕ) (all : List ℕ) → AreColumns columns (rising_parts all) → AreColumns columns (rising_parts (drop j all))
  there_from zero all h = h
  there_from (suc j) [] h = h
  there_from (suc j) (place ∷ all) h = there_from j all (first_there columns (rising_part place) (rising_parts all) h).1

  here : IsTrue (nat_lt (get_or items i 0) (length columns))
  here =
      let from : AreColumns columns (rising_parts (get_or items i 0 ∷ drop (i + 1) items)) =
      subst (λ ps. AreColumns columns (rising_parts ps)) left (there_from i items (subst (λ ps. AreColumns columns (rising_parts ps)) (sym same) there)) in
      (first_there columns (rising_part (get_or items i 0)) (rising_parts (drop (i + 1) items)) from).0

  pub place_within : get_or items i 0 < length columns
  place_within = grind (arith, nat_tests, here)

  pub place_next : (total w : ℕ) (column : ColumnDef) → slice_get columns (get_or items i 0) ≡ Some column → w ≡ part_width column.ty
      → total + width_of_parts columns (rising_parts (drop i items)) ≡ width_of_parts columns (rising_parts places)
      → (total + w) + width_of_parts columns (rising_parts (drop (i + 1) items)) ≡ width_of_parts columns (rising_parts places)
  place_next total w column found wide before =
      let ty_is : type_of_column columns (get_or items i 0) ≡ column.ty = ap type_or_none found in
      let cut : width_of_parts columns (rising_parts (drop i items)) ≡ width_of_parts columns (rising_parts (get_or items i 0 ∷ drop (i + 1) items)) = ap (λ ps. width_of_parts columns (rising_parts ps)) left in
      let step = width_of_parts-cons columns (rising_part (get_or items i 0)) (rising_parts (drop (i + 1) items)) here in
      omega (arith, before, cut, step, ap part_width ty_is, wide)

-- ---- a loop over dimensions

-- the places of the columns of dimensions
abbrev pub places_in : List (List ℕ) → List ℕ
places_in dims = flat_map (λ dim. dim) dims

module _ (columns : List ColumnDef) (dims items : List (List ℕ)) (i : ℕ) (dim : List ℕ) (is : dim ≡ get_or items i dim) (same : items ≡ dims) (are : ArePartsOf columns (rising_parts (places_in dims))) (within : i < length items) where
  dims_left : drop i items ≡ dim ∷ drop (i + 1) items
  dims_left = rw (add-one i) (drop-cons items i dim within ∙ ap (λ d. d ∷ drop (suc i) items) (sym is))

  parts_left : rising_parts (places_in (drop i items)) ≡ rising_parts (dim) ++ rising_parts (places_in (drop (i + 1) items))
  parts_left = ap (λ ds. rising_parts (places_in ds)) dims_left ∙ map-append rising_part (dim) (places_in (drop (i + 1) items))

  -- what is left is a part of the whole
  from : (j : ℕ) (all : List (List ℕ)) → AreColumns columns (rising_parts (places_in all)) → width_of_parts columns (rising_parts (places_in all)) ≤ 128
      → AreColumns columns (rising_parts (places_in (drop j all))) × (width_of_parts columns (rising_parts (places_in (drop j all))) ≤ 128)
  from zero all there narrow = (there, narrow)
  from (suc j) [] there narrow = (there, narrow)
  from (suc j) (first ∷ all) there narrow =
      let cut = map-append rising_part first (places_in all) in
      let split = columns-append columns (rising_parts first) (rising_parts (places_in all)) (subst (AreColumns columns) cut there) in
      from j all split.1 (omega (arith, narrow, ap (width_of_parts columns) cut, width-append columns (rising_parts first) (rising_parts (places_in all)) split.0))

  rest : AreColumns columns (rising_parts (dim) ++ rising_parts (places_in (drop (i + 1) items))) × (width_of_parts columns (rising_parts (dim) ++ rising_parts (places_in (drop (i + 1) items))) ≤ 128)
  rest =
      let r = from i items (subst (λ ds. AreColumns columns (rising_parts (places_in ds))) (sym same) are.there)
      (omega (arith, ap (λ ds. width_of_parts columns (rising_parts (places_in ds))) same, narrow_enough columns (rising_parts (places_in dims)) are)) in
      (subst (AreColumns columns) parts_left r.0, omega (arith, r.1, ap (width_of_parts columns) parts_left))

  pub dim_parts : ArePartsOf columns (rising_parts (dim))
  dim_parts =
      let split = columns-append columns (rising_parts (dim)) (rising_parts (places_in (drop (i + 1) items))) rest.0 in
      let narrow : width_of_parts columns (rising_parts (dim)) ≤ 128 = omega (arith, rest.1, width-append columns (rising_parts (dim)) (rising_parts (places_in (drop (i + 1) items))) split.0) in
      record { there = split.0; short = grind (arith, nat_tests, narrow) }

  pub dim_next : (total w : ℕ) → w ≡ width_of_parts columns (rising_parts (dim)) → total + width_of_parts columns (rising_parts (places_in (drop i items))) ≡ width_of_parts columns (rising_parts (places_in dims))
      → (total + w) + width_of_parts columns (rising_parts (places_in (drop (i + 1) items))) ≡ width_of_parts columns (rising_parts (places_in dims))
  dim_next total w wide before =
      omega (
        arith,
        before,
        wide,
        ap (width_of_parts columns) parts_left,
        width-append columns (rising_parts (dim)) (rising_parts (places_in (drop (i + 1) items)))
            (columns-append columns (rising_parts (dim)) (rising_parts (places_in (drop (i + 1) items))) rest.0).0,
      )

  -- the key of what was gone over is no longer than that of all
  pub dim_few : (total w : ℕ) → w ≡ width_of_parts columns (rising_parts dim) → total + width_of_parts columns (rising_parts (places_in (drop i items))) ≡ width_of_parts columns (rising_parts (places_in dims)) → total + w ≤ 128
  dim_few total w wide before = omega (arith, dim_next total w wide before, narrow_enough columns (rising_parts (places_in dims)) are)

-- ---- the place of a dimension's index

pub dimension_place_at : (def : TableDef) (i : ℕ) (dim : List ℕ) (root : ℕ) → slice_get def.dims i ≡ Some dim → slice_get def.roots.dims i ≡ Some root
    → slice_get (dimension_places def) i ≡ Some (dimension_place def dim root)
dimension_place_at def i dim root = go def.dims def.roots.dims i
  where
    go : (dims : List (List ℕ)) (roots : List ℕ) (i : ℕ) → slice_get dims i ≡ Some dim → slice_get roots i ≡ Some root
        → slice_get (map (λ pair. dimension_place def pair.0 pair.1) (zip dims roots)) i ≡ Some (dimension_place def dim root)
    go [] roots i e f = absurd cc
    go (d ∷ dims) [] i e f = absurd cc
    go (d ∷ dims) (r ∷ roots) zero e f = ap (λ x. Some (dimension_place def x r)) (same_Some d dim e) ∙ ap (λ x. Some (dimension_place def dim x)) (same_Some r root f)
    go (d ∷ dims) (r ∷ roots) (suc i) e f = go dims roots i e f

pub same_tree_place : (one other : TreePlace) → one.root ≡ other.root → one.width ≡ other.width → one ≡ other
same_tree_place one other root width = ap (λ r. record { root = r; width = one.width }) root ∙ ap (λ w. record { root = other.root; width = w }) width
