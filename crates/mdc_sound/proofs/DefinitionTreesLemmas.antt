-- The trees of a definition within the limits: its indexes have columns that are there, and short keys.
use Rattle.std.proofs.Common.{◌≡◌, ℕ, suc, ◌<◌, ◌≤◌, List, [], ◌∷◌, ◌++◌, length, refl, sym, ap, subst, arith}
use Rattle.std.specs.Prelude.{◌&&◌, nat_le, nat_lt, IsTrue, flat_map}
use Rattle.std.specs.List.{AllByRecursion, list_all}
use Rattle.std.proofs.lemmas.Bool.Decides.{nat_tests}
use Rattle.mdc_ast.specs.declared.definition.ColumnDef.{ColumnDef}
use Rattle.mdc_ast.specs.declared.definition.IndexDef.{IndexDef}
use Rattle.mdc_ast.specs.declared.definition.TableDef.{TableDef}
use Rattle.mdc_ast.specs.Definitions.{are_there, is_short_key, places_of}
use Rattle.mdc_ast.proofs.TestsLemmas.{and_true, both}
use Rattle.mdc_ast.specs.TableLimits.{IsGoodIndex, IsTableDef, is_good_dimension}
use Rattle.table_trees.specs.TableTrees.{AreIndexParts, HasBlockIndexes, rising_parts}

places_rising : (places : List ℕ) → places_of (rising_parts places) ≡ places
places_rising [] = refl
places_rising (place ∷ places) = ap (λ more. place ∷ more) (places_rising places)

length-rising : (places : List ℕ) → length (rising_parts places) ≡ length places
length-rising [] = refl
length-rising (place ∷ places) = ap suc (length-rising places)

are_there-append : (columns : List ColumnDef) (xs ys : List ℕ) → IsTrue (are_there columns xs) → IsTrue (are_there columns ys) → IsTrue (are_there columns (xs ++ ys))
are_there-append columns [] ys h k = k
are_there-append columns (x ∷ xs) ys h k =
    let parts = both (nat_lt x (length columns)) (are_there columns xs) h in
    and_true (nat_lt x (length columns)) (are_there columns (xs ++ ys)) parts.0 (are_there-append columns xs ys parts.1 k)

-- what the test of a dimension says
pub record IsGoodDimension (columns : List ColumnDef) (dim : List ℕ) : Type 0 where
  pub some : 0 < length dim
  pub there : IsTrue (are_there columns dim)
  pub short : IsTrue (is_short_key columns dim)

good_of : (columns : List ColumnDef) (dim : List ℕ) → IsTrue (is_good_dimension columns dim) → IsGoodDimension columns dim
good_of columns dim h =
    let last = both (nat_lt 0 (length dim) && nat_le (length dim) 16 && are_there columns dim) (is_short_key columns dim) h in
    let middle = both (nat_lt 0 (length dim) && nat_le (length dim) 16) (are_there columns dim) last.0 in
    let first = both (nat_lt 0 (length dim)) (nat_le (length dim) 16) middle.0 in
    record { some = grind (arith, nat_tests, first.0); there = middle.1; short = last.1 }

index_parts_of : (columns : List ColumnDef) (places : List ℕ) → 0 < length places → IsTrue (are_there columns places) → IsTrue (is_short_key columns places)
    → AreIndexParts columns (rising_parts places)
index_parts_of columns places some there short = record {
  some = subst (λ n. 0 < n) (sym (length-rising places)) some;
  key = record {
    there = subst (λ p. IsTrue (are_there columns p)) (sym (places_rising places)) there;
    short = subst (λ p. IsTrue (is_short_key columns p)) (sym (places_rising places)) short;
  };
}

each_dimension : (columns : List ColumnDef) (dims : List (List ℕ)) → IsTrue (list_all (is_good_dimension columns) dims)
    → AllByRecursion (λ dim. AreIndexParts columns (rising_parts dim)) dims
each_dimension columns [] h = tt
each_dimension columns (dim ∷ dims) h =
    let parts = both (is_good_dimension columns dim) (list_all (is_good_dimension columns) dims) h in
    let good = good_of columns dim parts.0 in
    (index_parts_of columns dim good.some good.there good.short, each_dimension columns dims parts.1)

all_there : (columns : List ColumnDef) (dims : List (List ℕ)) → IsTrue (list_all (is_good_dimension columns) dims) → IsTrue (are_there columns (flat_map (λ dim. dim) dims))
all_there columns [] h = refl
all_there columns (dim ∷ dims) h =
    let parts = both (is_good_dimension columns dim) (list_all (is_good_dimension columns) dims) h in
    are_there-append columns dim (flat_map (λ d. d) dims) (good_of columns dim parts.0).there (all_there columns dims parts.1)

some_places : (columns : List ColumnDef) (dims : List (List ℕ)) → 1 ≤ length dims → IsTrue (list_all (is_good_dimension columns) dims) → 0 < length (flat_map (λ dim. dim) dims)
some_places columns [] some h = absurd (omega (arith, some))
some_places columns ([] ∷ dims) some h =
    let parts = both (is_good_dimension columns []) (list_all (is_good_dimension columns) dims) h in
    absurd (omega (arith, (good_of columns [] parts.0).some))
some_places columns ((place ∷ dim) ∷ dims) some h = omega arith

pub has_block_indexes : (t : ℕ) (def : TableDef) → IsTableDef t def → HasBlockIndexes def
has_block_indexes t def is = record {
  composite = index_parts_of def.columns (flat_map (λ dim. dim) def.dims) (some_places def.columns def.dims is.dims.some is.dims.good)
      (all_there def.columns def.dims is.dims.good) is.dims.short;
  dimensions = each_dimension def.columns def.dims is.dims.good;
  one_each = is.roots.one_each;
}

pub index_has_parts : (columns : List ColumnDef) (indexes : List IndexDef) → AllByRecursion (IsGoodIndex columns) indexes → AllByRecursion (λ index. AreIndexParts columns index.parts) indexes
index_has_parts columns [] good = tt
index_has_parts columns (index ∷ indexes) good = (
  record { some = omega (arith, good.0.some_parts); key = record { there = good.0.there; short = good.0.short } },
  index_has_parts columns indexes good.1,
)
