-- Values of two rows in some places, compared place by place.
use Rattle.std.proofs.Common.{◌≡◌, ◌<◌, ◌≤◌, ◌+◌, ℕ, Bool, true, false, zero, suc, List, [], ◌∷◌, ◌++◌, Some, length, map, drop, get_or, refl, ap, arith, sym, ◌∙◌, subst, add-one, drop-cons}
use Rattle.std.specs.Prelude.{IsTrue, ◌&&◌, nat_le, nat_lt, slice_get, unwrap_or}
use Rattle.std.specs.List.{AllByRecursion, list_all}
use Rattle.std.proofs.lemmas.Bool.Decides.{nat_tests}
use Rattle.std.proofs.Math.ListN.{drop_of_length-le}
use Rattle.std.proofs.lemmas.List.{map-append}
use Rattle.mdc_values.specs.declared.value.Value.{Value}
use Rattle.mdc_values.specs.declared.value.Value.TheVariants.{Null}
use Rattle.mdc_ast.specs.Truth.{value_at}
use Rattle.mdc_ast.specs.declared.definition.ColumnDef.{ColumnDef}
use Rattle.mdc_ast.specs.declared.definition.TableDef.{TableDef}
use Rattle.mdc_ast.specs.Definitions.{are_there, is_short_key}
use Rattle.mdc_ast.specs.TableLimits.{IsTableDef, is_good_dimension}
use Rattle.table_trees.proofs.TableTreesLemmas.{places_in}

second : (a b : Bool) → IsTrue (a && b) → IsTrue b
second true b h = h
second false b h = absurd cc

first : (a b : Bool) → IsTrue (a && b) → IsTrue a
first true b h = refl
first false b h = absurd cc

-- ---- places that are there

places_there : (columns : List ColumnDef) (values : List Value) (places : List ℕ) → length columns ≤ length values → IsTrue (are_there columns places) → AllByRecursion (λ place. place < length values) places
places_there columns values [] many there = tt
places_there columns values (place ∷ places) many there =
    let here : place < length columns = grind (arith, nat_tests, there) in
    (omega (arith, here, many), places_there columns values places many (second (nat_lt place (length columns)) (are_there columns places) there))

good_at : (columns : List ColumnDef) (dims : List (List ℕ)) (i : ℕ) (dim : List ℕ) → IsTrue (list_all (is_good_dimension columns) dims) → i < length dims → dim ≡ get_or dims i dim → IsTrue (are_there columns dim)
good_at columns [] i dim all low at = absurd (omega (arith, low))
good_at columns (d ∷ dims) zero dim all low at =
    let good : IsTrue (is_good_dimension columns d) = first (is_good_dimension columns d) (list_all (is_good_dimension columns) dims) all in
    let there = second (nat_lt 0 (length d) && nat_le (length d) 16) (are_there columns d)
    (first (nat_lt 0 (length d) && nat_le (length d) 16 && are_there columns d) (is_short_key columns d) good) in
    subst (λ ps. IsTrue (are_there columns ps)) (sym at) there
good_at columns (d ∷ dims) (suc i) dim all low at = good_at columns dims i dim (second (is_good_dimension columns d) (list_all (is_good_dimension columns) dims) all) (omega (arith, low)) at

-- the places of each dimension are there in a row with so many values
pub dimension_there : (def : TableDef) (values : List Value) (items : List (List ℕ)) (i : ℕ) (dim : List ℕ) → IsTableDef def.number def → length def.columns ≤ length values
    → items ≡ def.dims → i < length items → dim ≡ get_or items i dim → AllByRecursion (λ place. place < length values) dim
dimension_there def values items i dim is many same low at =
    places_there def.columns values dim many (good_at def.columns items i dim (subst (λ ds. IsTrue (list_all (is_good_dimension def.columns) ds)) (sym same) is.dims.good) low at)

-- ---- what is compared so far

-- values are the same in all places where they are in the rest of these
pub record AreSameBut (a b : List Value) (places rest : List ℕ) : Type 0 where
  pub if_rest : map (value_at a) rest ≡ map (value_at b) rest → map (value_at a) places ≡ map (value_at b) places
  pub if_all : map (value_at a) places ≡ map (value_at b) places → map (value_at a) rest ≡ map (value_at b) rest

pub same_none : (a b : List Value) (places : List ℕ) → AreSameBut a b places places
same_none a b places = record { if_rest = λ same. same; if_all = λ same. same }

pub value_found : (values : List Value) (place : ℕ) (value : Value) → slice_get values place ≡ Some value → value_at values place ≡ value
value_found values place value is = ap (λ found. unwrap_or found Null) is

module _ (a b : List Value) (places items : List ℕ) (i n : ℕ) (low : i < length items) (at : n ≡ get_or items i 0) (so_far : AreSameBut a b places (drop i items)) where
  left : drop i items ≡ n ∷ drop (i + 1) items
  left = rw (add-one i) (drop-cons items i 0 low ∙ ap (λ m. m ∷ drop (suc i) items) (sym at))

  pub same_next : value_at a n ≡ value_at b n → AreSameBut a b places (drop (i + 1) items)
  same_next same = record {
    if_rest = λ rest. so_far.if_rest (subst (λ ps. map (value_at a) ps ≡ map (value_at b) ps) (sym left) (let both : value_at a n ∷ map (value_at a) (drop (i + 1) items) ≡ value_at b n ∷ map (value_at b) (drop (i + 1) items) = cc in both));
    if_all = λ all.
        let both : value_at a n ∷ map (value_at a) (drop (i + 1) items) ≡ value_at b n ∷ map (value_at b) (drop (i + 1) items) = subst (λ ps. map (value_at a) ps ≡ map (value_at b) ps) left (so_far.if_all all) in
        cc;
  }

  pub other_here : (value_at a n ≡ value_at b n → ⊥) → map (value_at a) places ≡ map (value_at b) places → ⊥
  other_here other all =
      let both : value_at a n ∷ map (value_at a) (drop (i + 1) items) ≡ value_at b n ∷ map (value_at b) (drop (i + 1) items) = subst (λ ps. map (value_at a) ps ≡ map (value_at b) ps) left (so_far.if_all all) in
      other cc

-- nothing is left to compare
pub same_all : (a b : List Value) (places items : List ℕ) (i : ℕ) → length items ≤ i → AreSameBut a b places (drop i items) → map (value_at a) places ≡ map (value_at b) places
same_all a b places items i past so_far =
    let none : drop i items ≡ [] = drop_of_length-le items past in
    so_far.if_rest (ap (map (value_at a)) none ∙ sym (ap (map (value_at b)) none))

-- ---- a loop over dimensions

same_parts : (a b : List Value) (places more : List ℕ) → map (value_at a) (places ++ more) ≡ map (value_at b) (places ++ more)
    → (map (value_at a) places ≡ map (value_at b) places) × (map (value_at a) more ≡ map (value_at b) more)
same_parts a b [] more same = (refl, same)
same_parts a b (n ∷ places) more same =
    let here : value_at a n ≡ value_at b n = cc in
    let behind : map (value_at a) (places ++ more) ≡ map (value_at b) (places ++ more) = cc in
    let parts = same_parts a b places more behind in (let both : value_at a n ∷ map (value_at a) places ≡ value_at b n ∷ map (value_at b) places = cc (here, parts.0) in both, parts.1)

module _ (a b : List Value) (places : List ℕ) (items : List (List ℕ)) (i : ℕ) (dim : List ℕ) (low : i < length items) (at : dim ≡ get_or items i dim) (so_far : AreSameBut a b places (places_in (drop i items))) where
  dims_left : places_in (drop i items) ≡ dim ++ places_in (drop (i + 1) items)
  dims_left =
      let cut : drop i items ≡ dim ∷ drop (i + 1) items = rw (add-one i) (drop-cons items i dim low ∙ ap (λ d. d ∷ drop (suc i) items) (sym at)) in
      ap places_in cut

  pub same_next_dim : map (value_at a) dim ≡ map (value_at b) dim → AreSameBut a b places (places_in (drop (i + 1) items))
  same_next_dim same = record {
    if_rest = λ rest. so_far.if_rest (subst (λ ps. map (value_at a) ps ≡ map (value_at b) ps) (sym dims_left)
        (map-append (value_at a) dim (places_in (drop (i + 1) items)) ∙ (ap (λ vs. vs ++ map (value_at a) (places_in (drop (i + 1) items))) same ∙ (ap (λ vs. map (value_at b) dim ++ vs) rest ∙ sym (map-append (value_at b) dim (places_in (drop (i + 1) items)))))));
    if_all = λ all. (same_parts a b dim (places_in (drop (i + 1) items)) (subst (λ ps. map (value_at a) ps ≡ map (value_at b) ps) dims_left (so_far.if_all all))).1;
  }

  pub other_dim : (map (value_at a) dim ≡ map (value_at b) dim → ⊥) → map (value_at a) places ≡ map (value_at b) places → ⊥
  other_dim other all = other (same_parts a b dim (places_in (drop (i + 1) items)) (subst (λ ps. map (value_at a) ps ≡ map (value_at b) ps) dims_left (so_far.if_all all))).0

pub same_all_dims : (a b : List Value) (places : List ℕ) (items : List (List ℕ)) (i : ℕ) → length items ≤ i → AreSameBut a b places (places_in (drop i items)) → map (value_at a) places ≡ map (value_at b) places
same_all_dims a b places items i past so_far =
    let none : places_in (drop i items) ≡ [] = ap places_in (drop_of_length-le items past) in
    so_far.if_rest (ap (map (value_at a)) none ∙ sym (ap (map (value_at b)) none))
