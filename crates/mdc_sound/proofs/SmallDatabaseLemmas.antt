-- The small database keeps all rules, and stands for its tables. Most of it is computed; what ranges over all numbers is computed
-- below a bound.
use Rattle.std.specs.Prelude.{◌≡◌, ◌≢◌, ◌<◌, ◌≤◌, ◌+◌, ◌*◌, ◌==◌, ◌&&◌, ◌||◌, not, nat_le, pos, ℕ, zero, suc, Bool, true, false, List, [], ◌∷◌, drop, length, map, take, None, AllPairs, Contains, IsPermutation, slice_index}
use Rattle.std.specs.List.{AllByRecursion}
use Rattle.std.specs.Str.{bytes_eq}
use Rattle.std.proofs.Common.{refl, arith, sym, ap, subst, ◌∙◌, inl, inr}
use Rattle.std.proofs.lemmas.Bool.{cases_Bool, cases_lt, eqb-true, le-leb, leb-true, not-true}
use Rattle.std.proofs.lemmas.Bool.Decides.{Decides-below_and}
use Rattle.std.proofs.lemmas.List.Sorted.{IsPermutation-cons, IsPermutation-middle, IsPermutation-refl}
use Rattle.std.proofs.lemmas.Slice.Eq.{bytes_eq-Decides}
use Rattle.mdc_words.specs.ByteOrder.{Entry, below}
use Rattle.mdc_ast.specs.declared.definition.ColumnDef.{ColumnDef}
use Rattle.mdc_ast.specs.declared.definition.IndexDef.{IndexDef}
use Rattle.mdc_ast.specs.declared.definition.TableDef.{TableDef}
use Rattle.mdc_ast.specs.declared.row.Row.{Row}
use Rattle.mdc_values.specs.declared.value.Value.TheVariants.{Int}
use Rattle.mdc_sound.specs.StandsForDatabase.{rootless, HoldsTable, PagesStandFor}
use Rattle.store_api.specs.Extents.{first_page_of}
use Rattle.store_api.specs.StoreState.{page_at, zero_page}
use Rattle.extent_map.specs.Kinds.{IsKindOf, is_used_place}
use Rattle.extent_map.specs.Owners.{IsUsedPage, extent_of, owner_of, place_in_extent}
use Rattle.extent_map.specs.declared.kind.Kind.TheVariants.{Free, Block}
use Rattle.extent_map.proofs.LawsOfTheMap.{owner_of-fresh}
use Rattle.node_page.specs.Node.{node_of}
use Rattle.node_page.specs.Node.Node.{LeafNode}
use Rattle.row_page.specs.Row.{column_bytes, column_value, row_bytes, row_in}
use Rattle.row_page.specs.RowPage.{IsRowPage, count_rows, is_slot_filled, row_page_head, rows_of, slot_bit_bytes, slot_bytes, slot_count, slots_end}
use Rattle.entry_tree.specs.EntryBounds.{Rises}
use Rattle.entry_tree.specs.Forest.Forest.{Leaf, Nil}
use Rattle.entry_tree.proofs.ForestLemmas.{once_least, once_other}
use Rattle.block_map.specs.MapLines.{AreMapEntries, IsMapEntry, mapped_blocks}
use Rattle.mdc_ast.specs.TableLimits.{IsTableDef}
use Rattle.table_page.specs.TablePage.{IsTablePageOf}
use Rattle.table_page.proofs.TablePageLemmas.{no_blank_table}
use Rattle.table_trees.specs.TableTrees.{TreePlace}
use Rattle.mdc_sound.specs.BlockRules.{AreBlockRowsSound, AreRowNumbersSound, AreTableBlockIndexesSound, AreTableIndexesSound, IsBlockIndexSound, IsBlockPageSound, IsOfOneCell, IsSoundIndex, IsUniqueSound, IsUsedCountSound}
use Rattle.mdc_ast.specs.ValidDatabase.{AreSameAtParts}
use Rattle.table_trees.specs.RowCells.{AreOfOneCell}
use Rattle.table_trees.specs.ToldPages.{HasTree}
use Rattle.mdc_sound.specs.EmptyDatabase.{few_extents}
use Rattle.mdc_ast.specs.FittingRows.{RowFits}
use Rattle.mdc_sound.specs.SmallDatabase.{cells_t, cells_u, def_t, def_u, lines_t, lines_u, row_five, row_null, row_ten, row_without, rows_t, small_database, small_owners, small_pages, small_view, view_t, view_u}
use Rattle.mdc_sound.specs.SoundDatabase.{IsSoundDatabase, KeepAllRules}
use Rattle.mdc_sound.specs.SpaceRules.{AreRootsInIndexes, AreTablePagesSound, IsBlockMapSound, IsMapPageSound, IsMapSound, IsOwnerThere, IsRootSound, IsTreePageSound, indexes_in, times_in_trees}
use Rattle.mdc_sound.specs.TablePages.{DefinesTable}
use Rattle.mdc_sound.specs.TableRows.{PlacedRow, rows_in_block, rows_in_table}

-- ---- tests that are computed

abbrev passes_below : (ℕ → Bool) → ℕ → Bool
passes_below test zero = true
passes_below test (suc n) = test n && passes_below test n

passes : (test : ℕ → Bool) (n : ℕ) → passes_below test n ≡ true → (k : ℕ) → k < n → test k ≡ true
passes test n all = (Decides-below_and test (λ k. test k ≡ true) (passes_below test) (λ k. (λ x. x, λ x. x)) refl (λ m. refl) n).0 all

if_first : (a b : Bool) → (not a || b) ≡ true → a ≡ true → b ≡ true
if_first true b all is = all
if_first false b all is = absurd (cc)

if_not_first : (a b : Bool) → (a || b) ≡ true → a ≡ false → b ≡ true
if_not_first true b all is = absurd (cc)
if_not_first false b all is = all

-- ---- rules 1 and 2

root_is : IsRootSound few_extents small_pages
root_is = record { count = record { extents = 7; within = omega arith; count = refl }; root = refl }

kinds_are : (e : ℕ) → IsKindOf 2 (owner_of small_owners e)
kinds_are zero = (omega arith, omega arith)
kinds_are (suc zero) = (omega arith, omega arith)
kinds_are (suc (suc zero)) = (omega arith, omega arith)
kinds_are (suc (suc (suc zero))) = (omega arith, omega arith)
kinds_are (suc (suc (suc (suc zero)))) = omega arith
kinds_are (suc (suc (suc (suc (suc zero))))) = omega arith
kinds_are (suc (suc (suc (suc (suc (suc zero)))))) = omega arith
kinds_are (suc (suc (suc (suc (suc (suc (suc e))))))) = subst (IsKindOf 2) (sym (owner_of-fresh 9 e)) tt

owned_within : (e : ℕ) → owner_of small_owners e ≢ Free → first_page_of 16 2 (e + 1) ≤ 32
owned_within zero owned = omega arith
owned_within (suc zero) owned = omega arith
owned_within (suc (suc zero)) owned = omega arith
owned_within (suc (suc (suc zero))) owned = omega arith
owned_within (suc (suc (suc (suc zero)))) owned = omega arith
owned_within (suc (suc (suc (suc (suc zero))))) owned = omega arith
owned_within (suc (suc (suc (suc (suc (suc zero)))))) owned = omega arith
owned_within (suc (suc (suc (suc (suc (suc (suc e))))))) owned = absurd (owned (owner_of-fresh 9 e))

limits_t : IsTableDef 0 def_t
limits_t = record {
  stands = refl;
  name = refl;
  columns = record { some = omega arith; few = omega arith; good = refl; differ = (refl, (refl, tt)); narrow = omega arith };
  dims = record { some = omega arith; few = omega arith; good = refl; apart = (refl, tt); short = refl };
  indexes = record {
    few = omega arith;
    good = (record { name = refl; some_parts = omega arith; few_parts = omega arith; there = refl; apart = (refl, tt); short = refl; root = omega arith }, tt);
    differ = (refl, tt);
  };
  next = omega arith;
  roots = record { map = omega arith; composite = omega arith; one_each = refl; dimensions = (omega arith, tt) };
}

limits_u : IsTableDef 1 def_u
limits_u = record {
  stands = refl;
  name = refl;
  columns = record { some = omega arith; few = omega arith; good = refl; differ = (refl, tt); narrow = omega arith };
  dims = record { some = omega arith; few = omega arith; good = refl; apart = (refl, tt); short = refl };
  indexes = record { few = omega arith; good = tt; differ = tt };
  next = omega arith;
  roots = record { map = omega arith; composite = omega arith; one_each = refl; dimensions = (omega arith, tt) };
}

defines_t : DefinesTable small_pages 0 def_t
defines_t = record { limits = limits_t; printed = refl }

defines_u : DefinesTable small_pages 1 def_u
defines_u = record { limits = limits_u; printed = refl }

owners_there : (e : ℕ) → IsOwnerThere small_pages (owner_of small_owners e)
owners_there zero = tt
owners_there (suc zero) = tt
owners_there (suc (suc zero)) = tt
owners_there (suc (suc (suc zero))) = tt
owners_there (suc (suc (suc (suc zero)))) = (omega arith, λ blank. no_blank_table 0 def_t (subst (λ page. IsTablePageOf 0 def_t page) blank defines_t))
owners_there (suc (suc (suc (suc (suc zero))))) = (omega arith, λ blank. no_blank_table 0 def_t (subst (λ page. IsTablePageOf 0 def_t page) blank defines_t))
owners_there (suc (suc (suc (suc (suc (suc zero)))))) = (omega arith, λ blank. no_blank_table 1 def_u (subst (λ page. IsTablePageOf 1 def_u page) blank defines_u))
owners_there (suc (suc (suc (suc (suc (suc (suc e))))))) = subst (IsOwnerThere small_pages) (sym (owner_of-fresh 9 e)) tt

map_is_sound : IsMapSound few_extents small_pages small_owners
map_is_sound = record { count = refl; each = each_page }
  where
    each_page : (i : ℕ) → i < 1 → IsMapPageSound few_extents small_pages small_owners i
    each_page zero low = record {
      held = record {
        page = record { is_told = refl; within = omega arith; bytes_are = refl };
        kinds = λ e on. kinds_are e;
        there = λ e on owned. owned_within e owned;
      };
      owned = λ e on. owners_there e;
    }
    each_page (suc i) low = absurd (omega (arith, low))

-- ---- rules 3 to 5

roots_t : AreRootsInIndexes few_extents small_owners def_t
roots_t = (
  record { page = record { behind = omega arith; within = omega arith }; index = tt },
  (
    record { page = record { behind = omega arith; within = omega arith }; index = tt },
    (
      record { page = record { behind = omega arith; within = omega arith }; index = tt },
      (record { page = record { behind = omega arith; within = omega arith }; index = tt }, tt),
    ),
  ),
)

roots_u : AreRootsInIndexes few_extents small_owners def_u
roots_u = (
  record { page = record { behind = omega arith; within = omega arith }; index = tt },
  (
    record { page = record { behind = omega arith; within = omega arith }; index = tt },
    (record { page = record { behind = omega arith; within = omega arith }; index = tt }, tt),
  ),
)

-- a relation between the two elements of a list of two
pair_of_two : {X : Type 0} (R : X → X → Type 0) (x y : X) → R x y → AllPairs R (x ∷ y ∷ [])
pair_of_two R x y is zero zero d low high = absurd (omega (arith, low))
pair_of_two R x y is zero (suc zero) d low high = is
pair_of_two R x y is zero (suc (suc j)) d low high = absurd (omega (arith, high))
pair_of_two R x y is (suc i) zero d low high = absurd (omega (arith, low))
pair_of_two R x y is (suc i) (suc zero) d low high = absurd (omega (arith, low))
pair_of_two R x y is (suc i) (suc (suc j)) d low high = absurd (omega (arith, high))

-- and between those of a list of three
pairs_of_three : {X : Type 0} (R : X → X → Type 0) (x y z : X) → R x y → R x z → R y z → AllPairs R (x ∷ y ∷ z ∷ [])
pairs_of_three R x y z first second third zero zero d low high = absurd (omega (arith, low))
pairs_of_three R x y z first second third zero (suc zero) d low high = first
pairs_of_three R x y z first second third zero (suc (suc zero)) d low high = second
pairs_of_three R x y z first second third (suc zero) (suc (suc zero)) d low high = third
pairs_of_three R x y z first second third i (suc (suc (suc j))) d low high = absurd (omega (arith, high))
pairs_of_three R x y z first second third (suc i) zero d low high = absurd (omega (arith, low))
pairs_of_three R x y z first second third (suc i) (suc zero) d low high = absurd (omega (arith, low))
pairs_of_three R x y z first second third (suc (suc i)) (suc (suc zero)) d low high = absurd (omega (arith, low))

no_pairs : {X : Type 0} (R : X → X → Type 0) (xs : List X) → length xs ≤ 1 → AllPairs R xs
no_pairs R xs few i j d low high = absurd (omega (arith, low, high, few))

tables_are : AreTablePagesSound few_extents small_pages small_view
tables_are = record {
  each = ((defines_t, roots_t), ((defines_u, roots_u), (refl, (refl, (refl, (refl, (refl, (refl, (refl, (refl, (refl, (refl, (refl, (refl, (refl, (refl, tt))))))))))))))));
  tables_differ = pair_of_two (λ (a b : TableDef). a.name ≢ b.name) def_t def_u (λ same. let wrong : 84 ≡ 85 = ap (λ name. slice_index name.0 0) same in absurd (omega (arith, wrong)));
  indexes_differ = no_pairs (λ (a b : IndexDef). a.name ≢ b.name) (indexes_in small_view) (omega arith);
}

leaf_is_held : (place : TreePlace) (items : List Entry) → node_of place.width (page_at small_pages place.root) ≡ LeafNode items → Rises None None items → HasTree small_pages place (Leaf place.root items Nil)
leaf_is_held place items node rises = record {
  is_tree = record { head = refl; holds = (node, tt); fits = (tt, rises, refl); distinct = λ n. let once_at_most = once_least n place.root in omega (arith, once_at_most) };
  trim = tt;
}

map_t : HasTree small_pages (record { root = 18; width = 7 }) view_t.map
unfolding node_of zero_page below
map_t = leaf_is_held (record { root = 18; width = 7 }) lines_t refl (tt, tt, (refl, tt, tt))

cell_at_19 : HasTree small_pages (record { root = 19; width = 9 }) view_t.composite
unfolding node_of zero_page below
cell_at_19 = leaf_is_held (record { root = 19; width = 9 }) cells_t refl (tt, tt, (refl, tt, tt))

cell_at_20 : HasTree small_pages (record { root = 20; width = 9 }) (Leaf 20 cells_t Nil)
unfolding node_of zero_page below
cell_at_20 = leaf_is_held (record { root = 20; width = 9 }) cells_t refl (tt, tt, (refl, tt, tt))

index_t : HasTree small_pages (record { root = 21; width = 11 }) (Leaf 21 rows_t Nil)
unfolding node_of zero_page below
index_t = leaf_is_held (record { root = 21; width = 11 }) rows_t refl (tt, tt, (refl, tt, (refl, tt, tt)))

map_u : HasTree small_pages (record { root = 22; width = 7 }) view_u.map
unfolding node_of zero_page below
map_u = leaf_is_held (record { root = 22; width = 7 }) lines_u refl (tt, tt, tt)

cell_at_23 : HasTree small_pages (record { root = 23; width = 9 }) view_u.composite
unfolding node_of zero_page below
cell_at_23 = leaf_is_held (record { root = 23; width = 9 }) cells_u refl (tt, tt, tt)

cell_at_24 : HasTree small_pages (record { root = 24; width = 9 }) (Leaf 24 cells_u Nil)
unfolding node_of zero_page below
cell_at_24 = leaf_is_held (record { root = 24; width = 9 }) cells_u refl (tt, tt, tt)

-- a page behind the first ones is a used one by this test
abbrev is_used : ℕ → Bool
is_used p = nat_le 18 p && is_used_place (place_in_extent few_extents p) (owner_of small_owners (extent_of few_extents p))

both_true : (a b : Bool) → a ≡ true → b ≡ true → (a && b) ≡ true
both_true true true first second = refl
both_true true false first second = absurd (cc)
both_true false b first second = absurd (cc)

second_true : (a b : Bool) → (a && b) ≡ true → b ≡ true
second_true true b all = all
second_true false b all = absurd (cc)

first_true : (a b : Bool) → (a && b) ≡ true → a ≡ true
first_true true b all = refl
first_true false b all = absurd (cc)

used_passes : (p : ℕ) → IsUsedPage few_extents small_owners p → is_used p ≡ true
used_passes p used = both_true (nat_le 18 p) (is_used_place (place_in_extent few_extents p) (owner_of small_owners (extent_of few_extents p))) (le-leb 18 p used.page.behind) used.used

used_by_test : (p : ℕ) → is_used p ≡ true → p < 50 → IsUsedPage few_extents small_owners p
used_by_test p test low =
    let behind : 18 ≤ p = leb-true 18 p (first_true (nat_le 18 p) (is_used_place (place_in_extent few_extents p) (owner_of small_owners (extent_of few_extents p))) test) in
    record { page = record { behind = behind; within = low }; used = second_true (nat_le 18 p) (is_used_place (place_in_extent few_extents p) (owner_of small_owners (extent_of few_extents p))) test }

far_page : (p : ℕ) → 50 ≤ p → IsTreePageSound few_extents small_view p
far_page p far = record {
  used = λ used. absurd (omega (arith, used.page.within, far));
  others = λ unused. omega (
    arith,
    once_other p 18 (λ e. omega (arith, e, far)),
    once_other p 19 (λ e. omega (arith, e, far)),
    once_other p 20 (λ e. omega (arith, e, far)),
    once_other p 21 (λ e. omega (arith, e, far)),
    once_other p 22 (λ e. omega (arith, e, far)),
    once_other p 23 (λ e. omega (arith, e, far)),
    once_other p 24 (λ e. omega (arith, e, far)),
  );
}

used_once : (p : ℕ) → p < 50 → (not (is_used p) || (times_in_trees p small_view == 1)) ≡ true
used_once p low = passes (λ p. not (is_used p) || (times_in_trees p small_view == 1)) 50 refl p low

unused_none : (p : ℕ) → p < 50 → (is_used p || (times_in_trees p small_view == 0)) ≡ true
unused_none p low = passes (λ p. is_used p || (times_in_trees p small_view == 0)) 50 refl p low

not_used : (p : ℕ) → p < 50 → (IsUsedPage few_extents small_owners p → ⊥) → is_used p ≡ false
not_used p low unused = elim (cases_Bool (is_used p)) [ inl is ↦ absurd (unused (used_by_test p is low)) | inr is ↦ is ]

tree_pages_are : (p : ℕ) → IsTreePageSound few_extents small_view p
tree_pages_are p = elim (cases_lt p 50) [
  | inl low ↦ record {
    used = λ used. eqb-true (times_in_trees p small_view) 1 (if_first (is_used p) (times_in_trees p small_view == 1) (used_once p low) (used_passes p used));
    others = λ unused. eqb-true (times_in_trees p small_view) 0 (if_not_first (is_used p) (times_in_trees p small_view == 0) (unused_none p low) (not_used p low unused));
  }
  | inr far ↦ far_page p far
]

-- ---- rule 6

entries_t : AreMapEntries view_t.map
entries_t entry (inl e) = subst IsMapEntry (sym e) (record { bytes_are = refl })
entries_t entry (inr (inl e)) = subst IsMapEntry (sym e) (record { bytes_are = refl })
entries_t entry (inr (inr wrong)) = absurd wrong

entries_u : AreMapEntries view_u.map
entries_u entry (inl e) = subst IsMapEntry (sym e) (record { bytes_are = refl })
entries_u entry (inr wrong) = absurd wrong

named_t : (e : ℕ) → e < 16 → owner_of small_owners e ≡ Block 0 → Contains (4 ∷ 5 ∷ []) e
named_t zero low is = absurd (cc)
named_t (suc zero) low is = absurd (cc)
named_t (suc (suc zero)) low is = absurd (cc)
named_t (suc (suc (suc zero))) low is = absurd (cc)
named_t (suc (suc (suc (suc zero)))) low is = (0, omega arith, refl)
named_t (suc (suc (suc (suc (suc zero))))) low is = (1, omega arith, refl)
named_t (suc (suc (suc (suc (suc (suc zero)))))) low is = let wrong : ◌≡◌ {A = ℕ} 1 0 = cc in absurd (omega (arith, wrong))
named_t (suc (suc (suc (suc (suc (suc (suc e))))))) low is = let wrong = sym (owner_of-fresh 9 e) ∙ is in absurd (cc)

named_u : (e : ℕ) → e < 16 → owner_of small_owners e ≡ Block 1 → Contains (6 ∷ []) e
named_u zero low is = absurd (cc)
named_u (suc zero) low is = absurd (cc)
named_u (suc (suc zero)) low is = absurd (cc)
named_u (suc (suc (suc zero))) low is = absurd (cc)
named_u (suc (suc (suc (suc zero)))) low is = let wrong : ◌≡◌ {A = ℕ} 0 1 = cc in absurd (omega (arith, wrong))
named_u (suc (suc (suc (suc (suc zero))))) low is = let wrong : ◌≡◌ {A = ℕ} 0 1 = cc in absurd (omega (arith, wrong))
named_u (suc (suc (suc (suc (suc (suc zero)))))) low is = (0, omega arith, refl)
named_u (suc (suc (suc (suc (suc (suc (suc e))))))) low is = let wrong = sym (owner_of-fresh 9 e) ∙ is in absurd (cc)

block_map_t : IsBlockMapSound few_extents small_owners def_t view_t.map
block_map_t = record {
  entries = entries_t;
  lines = (record { state = omega arith; within = omega arith; owned = refl }, (record { state = omega arith; within = omega arith; owned = refl }, tt));
  once_each = pair_of_two (λ (a b : ℕ). a ≢ b) 4 5 (λ e. omega (arith, e));
  all_named = named_t;
}

block_map_u : IsBlockMapSound few_extents small_owners def_u view_u.map
block_map_u = record {
  entries = entries_u;
  lines = (record { state = omega arith; within = omega arith; owned = refl }, tt);
  once_each = no_pairs (λ (a b : ℕ). a ≢ b) (mapped_blocks view_u.map) (omega arith);
  all_named = named_u;
}

-- ---- rule 7

-- the bytes of a slot are those of its row, where it is filled
abbrev is_written : List ColumnDef → List ℕ → ℕ → Bool
is_written columns page slot = not (is_slot_filled page slot) || bytes_eq (row_bytes columns (row_in columns (slot_bytes columns page slot))) (slot_bytes columns page slot)

-- a slot behind the last one isn't filled
abbrev is_spare : List ColumnDef → List ℕ → ℕ → Bool
is_spare columns page slot = not (nat_le (slot_count columns) slot) || not (is_slot_filled page slot)

row_page_is : (columns : List ColumnDef) (page : List ℕ) → take 16 page ≡ row_page_head (slot_count columns) (count_rows (rows_of columns page))
    → passes_below (is_written columns page) (slot_count columns) ≡ true → passes_below (is_spare columns page) (8 * slot_bit_bytes (slot_count columns)) ≡ true
    → drop (slots_end columns) page ≡ drop (slots_end columns) zero_page → IsRowPage columns page (rows_of columns page)
row_page_is columns page head written spare blank = record {
  has = refl;
  head = head;
  written = λ slot low filled.
      let test = passes (is_written columns page) (slot_count columns) written slot low in
      (bytes_eq-Decides (row_bytes columns (row_in columns (slot_bytes columns page slot))) (slot_bytes columns page slot)).0
      (if_first (is_slot_filled page slot) (bytes_eq (row_bytes columns (row_in columns (slot_bytes columns page slot))) (slot_bytes columns page slot)) test filled);
  spare_bits = λ slot behind within.
      let test = passes (is_spare columns page) (8 * slot_bit_bytes (slot_count columns)) spare slot within in
      not-true (is_slot_filled page slot) (if_first (nat_le (slot_count columns) slot) (not (is_slot_filled page slot)) test (le-leb (slot_count columns) slot behind));
  spare_bytes = blank;
}

page_26 : IsBlockPageSound few_extents small_pages def_t 4 0
unfolding zero_page row_page_head row_in row_bytes column_value column_bytes
page_26 = row_page_is def_t.columns (page_at small_pages 26) refl refl refl refl

page_27 : IsBlockPageSound few_extents small_pages def_t 4 1
unfolding zero_page row_page_head row_in row_bytes column_value column_bytes
page_27 = row_page_is def_t.columns (page_at small_pages 27) refl refl refl refl

page_28 : IsBlockPageSound few_extents small_pages def_t 5 0
unfolding zero_page row_page_head row_in row_bytes column_value column_bytes
page_28 = row_page_is def_t.columns (page_at small_pages 28) refl refl refl refl

page_29 : IsBlockPageSound few_extents small_pages def_t 5 1
unfolding zero_page row_page_head row_in row_bytes column_value column_bytes
page_29 = row_page_is def_t.columns (page_at small_pages 29) refl refl refl refl

page_30 : IsBlockPageSound few_extents small_pages def_u 6 0
unfolding zero_page row_page_head row_in row_bytes column_value column_bytes
page_30 = row_page_is def_u.columns (page_at small_pages 30) refl refl refl refl

page_31 : IsBlockPageSound few_extents small_pages def_u 6 1
unfolding zero_page row_page_head row_in row_bytes column_value column_bytes
page_31 = row_page_is def_u.columns (page_at small_pages 31) refl refl refl refl

abbrev placed_ten : PlacedRow
placed_ten = record { rid = record { block = 4; slot = 0 }; row = row_ten }

abbrev placed_without : PlacedRow
placed_without = record { rid = record { block = 4; slot = 1 }; row = row_without }

abbrev placed_null : PlacedRow
placed_null = record { rid = record { block = 5; slot = 0 }; row = row_null }

abbrev placed_five : PlacedRow
placed_five = record { rid = record { block = 6; slot = 0 }; row = row_five }

rows_in_4 : rows_in_block few_extents small_pages def_t 4 ≡ placed_ten ∷ placed_without ∷ []
unfolding zero_page row_in column_value
rows_in_4 = refl

rows_in_5 : rows_in_block few_extents small_pages def_t 5 ≡ placed_null ∷ []
unfolding zero_page row_in column_value
rows_in_5 = refl

rows_in_6 : rows_in_block few_extents small_pages def_u 6 ≡ placed_five ∷ []
unfolding zero_page row_in column_value
rows_in_6 = refl

rows_in_t : rows_in_table few_extents small_pages def_t view_t.map ≡ placed_ten ∷ placed_without ∷ placed_null ∷ []
unfolding zero_page row_in column_value
rows_in_t = refl

rows_in_u : rows_in_table few_extents small_pages def_u view_u.map ≡ placed_five ∷ []
unfolding zero_page row_in column_value
rows_in_u = refl

-- two pages, each of its form
two_pages : (def : TableDef) (block : ℕ) → IsBlockPageSound few_extents small_pages def block 0 → IsBlockPageSound few_extents small_pages def block 1
    → (j : ℕ) → j < 2 → IsBlockPageSound few_extents small_pages def block j
two_pages def block first second zero low = first
two_pages def block first second (suc zero) low = second
two_pages def block first second (suc (suc j)) low = absurd (omega (arith, low))

fits_ten : RowFits def_t row_ten
fits_ten = record { values = refl; generated = (tt, (tt, tt)) }

fits_without : RowFits def_t row_without
fits_without = record { values = refl; generated = (tt, (tt, tt)) }

fits_null : RowFits def_t row_null
fits_null = record { values = refl; generated = (tt, (tt, tt)) }

fits_five : RowFits def_u row_five
fits_five = record { values = refl; generated = (tt, tt) }

block_4 : AreBlockRowsSound few_extents small_pages def_t 4
block_4 = record {
  forms = two_pages def_t 4 page_26 page_27;
  rows = subst (AllByRecursion (λ (placed : PlacedRow). RowFits def_t placed.row)) (sym rows_in_4) (fits_ten, (fits_without, tt));
}

block_5 : AreBlockRowsSound few_extents small_pages def_t 5
block_5 = record { forms = two_pages def_t 5 page_28 page_29; rows = subst (AllByRecursion (λ (placed : PlacedRow). RowFits def_t placed.row)) (sym rows_in_5) (fits_null, tt) }

block_6 : AreBlockRowsSound few_extents small_pages def_u 6
block_6 = record { forms = two_pages def_u 6 page_30 page_31; rows = subst (AllByRecursion (λ (placed : PlacedRow). RowFits def_u placed.row)) (sym rows_in_6) (fits_five, tt) }

-- ---- rules 8 to 10

count_4 : IsUsedCountSound few_extents small_pages def_t (record { block = 4; state = 1; rows = 2 })
count_4 = record { some_row = λ used. omega arith; counted = λ used. sym (ap length rows_in_4) }

count_5 : IsUsedCountSound few_extents small_pages def_t (record { block = 5; state = 1; rows = 1 })
count_5 = record { some_row = λ used. omega arith; counted = λ used. sym (ap length rows_in_5) }

count_6 : IsUsedCountSound few_extents small_pages def_u (record { block = 6; state = 1; rows = 1 })
count_6 = record { some_row = λ used. omega arith; counted = λ used. sym (ap length rows_in_6) }

cell_4 : IsOfOneCell few_extents small_pages def_t 4
cell_4 = subst (AllPairs (λ (a b : PlacedRow). AreOfOneCell def_t a.row.values b.row.values)) (sym rows_in_4)
    (pair_of_two (λ (a b : PlacedRow). AreOfOneCell def_t a.row.values b.row.values) placed_ten placed_without refl)

cell_5 : IsOfOneCell few_extents small_pages def_t 5
cell_5 = subst (AllPairs (λ (a b : PlacedRow). AreOfOneCell def_t a.row.values b.row.values)) (sym rows_in_5)
    (no_pairs (λ (a b : PlacedRow). AreOfOneCell def_t a.row.values b.row.values) (placed_null ∷ []) (omega arith))

cell_6 : IsOfOneCell few_extents small_pages def_u 6
cell_6 = subst (AllPairs (λ (a b : PlacedRow). AreOfOneCell def_u a.row.values b.row.values)) (sym rows_in_6)
    (no_pairs (λ (a b : PlacedRow). AreOfOneCell def_u a.row.values b.row.values) (placed_five ∷ []) (omega arith))

cells_of_t : IsBlockIndexSound def_t (placed_ten ∷ placed_without ∷ placed_null ∷ []) (record { column = 0; descending = false } ∷ []) (Leaf 19 cells_t Nil)
cells_of_t = record { has = ((0, omega arith, refl), ((0, omega arith, refl), ((1, omega arith, refl), tt))); only = ((0, omega arith, refl), ((2, omega arith, refl), tt)) }

dim_of_t : IsBlockIndexSound def_t (placed_ten ∷ placed_without ∷ placed_null ∷ []) (record { column = 0; descending = false } ∷ []) (Leaf 20 cells_t Nil)
dim_of_t = record { has = cells_of_t.has; only = cells_of_t.only }

indexes_of_t : AreTableBlockIndexesSound few_extents small_pages view_t
indexes_of_t = record {
  composite = subst (λ rows. IsBlockIndexSound def_t rows (record { column = 0; descending = false } ∷ []) (Leaf 19 cells_t Nil)) (sym rows_in_t) cells_of_t;
  dims = (subst (λ rows. IsBlockIndexSound def_t rows (record { column = 0; descending = false } ∷ []) (Leaf 20 cells_t Nil)) (sym rows_in_t) dim_of_t, tt);
}

cells_of_u : IsBlockIndexSound def_u (placed_five ∷ []) (record { column = 0; descending = false } ∷ []) (Leaf 23 cells_u Nil)
cells_of_u = record { has = ((0, omega arith, refl), tt); only = ((0, omega arith, refl), tt) }

dim_of_u : IsBlockIndexSound def_u (placed_five ∷ []) (record { column = 0; descending = false } ∷ []) (Leaf 24 cells_u Nil)
dim_of_u = record { has = cells_of_u.has; only = cells_of_u.only }

indexes_of_u : AreTableBlockIndexesSound few_extents small_pages view_u
indexes_of_u = record {
  composite = subst (λ rows. IsBlockIndexSound def_u rows (record { column = 0; descending = false } ∷ []) (Leaf 23 cells_u Nil)) (sym rows_in_u) cells_of_u;
  dims = (subst (λ rows. IsBlockIndexSound def_u rows (record { column = 0; descending = false } ∷ []) (Leaf 24 cells_u Nil)) (sym rows_in_u) dim_of_u, tt);
}

-- ---- rules 11 and 12

abbrev index_of_t : IndexDef
index_of_t = record { name = record { 0 = 73 ∷ [] }; unique = true; parts = record { column = 1; descending = false } ∷ []; root = 21 }

rows_by_b : IsSoundIndex def_t (placed_ten ∷ placed_without ∷ placed_null ∷ []) [] index_of_t (Leaf 21 rows_t Nil)
rows_by_b = record {
  has = ((1, omega arith, refl), ((2, omega arith, refl), ((0, omega arith, refl), tt)));
  only = (inl (2, omega arith, refl), (inl (0, omega arith, refl), (inl (1, omega arith, refl), tt)));
}

record_index_t : AreTableIndexesSound few_extents small_pages view_t
record_index_t = (subst (λ rows. IsSoundIndex def_t rows [] index_of_t (Leaf 21 rows_t Nil)) (sym rows_in_t) rows_by_b, tt)

numbers_of_t : AreRowNumbersSound def_t (placed_ten ∷ placed_without ∷ placed_null ∷ [])
numbers_of_t = record {
  below_next = (omega arith, (omega arith, (omega arith, tt)));
  differ = pairs_of_three (λ (a b : PlacedRow). a.row.number ≢ b.row.number) placed_ten placed_without placed_null (λ e. omega (arith, e)) (λ e. omega (arith, e)) (λ e. omega (arith, e));
}

numbers_of_u : AreRowNumbersSound def_u (placed_five ∷ [])
numbers_of_u = record { below_next = (omega arith, tt); differ = no_pairs (λ (a b : PlacedRow). a.row.number ≢ b.row.number) (placed_five ∷ []) (omega arith) }

unique_of_t : IsUniqueSound (placed_ten ∷ placed_without ∷ placed_null ∷ []) index_of_t
unique_of_t unique = pairs_of_three (λ (a b : PlacedRow). AreSameAtParts index_of_t.parts a.row.values b.row.values → ⊥) placed_ten placed_without placed_null
    (λ same. let e = same.0 in absurd (cc)) (λ same. let e : Int (pos 10) ≡ Int (pos 7) = same.0 in let n : ◌≡◌ {A = ℕ} 10 7 = cc in absurd (omega (arith, n))) (λ same. let e = same.0 in absurd (cc))

-- ---- all rules, and what it stands for

keeps_all_rules : KeepAllRules few_extents small_pages small_view
keeps_all_rules = record {
  first = record {
    rule1 = root_is;
    rule2 = map_is_sound;
    rule3 = tables_are;
    rule4 = ((map_t, (cell_at_19, (cell_at_20, (index_t, tt)))), ((map_u, (cell_at_23, (cell_at_24, tt))), tt));
    rule5 = tree_pages_are;
    rule6 = (block_map_t, (block_map_u, tt));
    rule7 = ((block_4, (block_5, tt)), ((block_6, tt), tt));
    rule8 = record {
      used = ((count_4, (count_5, tt)), ((count_6, tt), tt));
      idle = (((λ idle. absurd (idle refl)), ((λ idle. absurd (idle refl)), tt)), (((λ idle. absurd (idle refl)), tt), tt));
    };
    rule9 = ((cell_4, (cell_5, tt)), ((cell_6, tt), tt));
    rule10 = (indexes_of_t, (indexes_of_u, tt));
  };
  rule11 = (record_index_t, (tt, tt));
  rule12 = record {
    numbers = (subst (AreRowNumbersSound def_t) (sym rows_in_t) numbers_of_t, (subst (AreRowNumbersSound def_u) (sym rows_in_u) numbers_of_u, tt));
    unique = ((subst (λ rows. IsUniqueSound rows index_of_t) (sym rows_in_t) unique_of_t, tt), (tt, tt));
  };
}

pub small_is_sound : IsSoundDatabase few_extents small_pages
small_is_sound = (small_view, keeps_all_rules)

stands_t : HoldsTable few_extents small_pages 0 (record { def = rootless def_t; rows = row_ten ∷ row_null ∷ row_without ∷ [] })
stands_t = record {
  def = def_t;
  map_tree = view_t.map;
  defines = defines_t;
  has_map = map_t;
  def_is = refl;
  same_rows = subst (λ rows. IsPermutation (map (λ (placed : PlacedRow). placed.row) rows) (row_ten ∷ row_null ∷ row_without ∷ [])) (sym rows_in_t)
      (IsPermutation-cons row_ten (row_without ∷ row_null ∷ []) (row_null ∷ row_without ∷ []) (IsPermutation-middle (row_without ∷ []) row_null []));
  rising = pairs_of_three (λ (a b : Row). a.number < b.number) row_ten row_null row_without (omega arith) (omega arith) (omega arith);
}

stands_u : HoldsTable few_extents small_pages 1 (record { def = rootless def_u; rows = row_five ∷ [] })
stands_u = record {
  def = def_u;
  map_tree = view_u.map;
  defines = defines_u;
  has_map = map_u;
  def_is = refl;
  same_rows = subst (λ rows. IsPermutation (map (λ (placed : PlacedRow). placed.row) rows) (row_five ∷ [])) (sym rows_in_u) (IsPermutation-refl (row_five ∷ []));
  rising = no_pairs (λ (a b : Row). a.number < b.number) (row_five ∷ []) (omega arith);
}

pub small_stands : PagesStandFor few_extents small_pages small_database
small_stands = (stands_t, (stands_u, (refl, (refl, (refl, (refl, (refl, (refl, (refl, (refl, (refl, (refl, (refl, (refl, (refl, (refl, tt))))))))))))))))
