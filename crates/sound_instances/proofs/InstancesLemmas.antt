-- How a rule is seen to hold on pages that are written out: what ranges over all numbers is computed below a bound, and what ranges
-- over a list by recursion.
use Rattle.std.specs.Prelude.{◌≡◌, ◌≢◌, ◌<◌, ◌≤◌, ◌*◌, ◌^◌, ◌==◌, ◌&&◌, ◌||◌, not, nat_le, nat_lt, ℕ, zero, suc, Bool, true, false, List, [], ◌∷◌, drop, length, take, None, AllPairs, Contains}
use Rattle.std.specs.List.{AllByRecursion, list_any}
use Rattle.std.specs.Str.{bytes_eq}
use Rattle.std.proofs.Common.{refl, arith, sym, subst, inl, inr}
use Rattle.std.proofs.lemmas.Bool.{cases_Bool, cases_lt, eq-eqb, eqb-true, le-leb, leb-true, ltb-true, not-true}
use Rattle.std.proofs.lemmas.Bool.Decides.{Decides-below_and}
use Rattle.std.proofs.lemmas.Cmp.{nat_list_eq_equiv}
use Rattle.std.proofs.lemmas.Map.Views.{list_any-from_Contains}
use Rattle.std.proofs.lemmas.Slice.Eq.{bytes_eq-Decides}
use Rattle.mdc_words.specs.ByteOrder.{Entry}
use Rattle.mdc_ast.specs.declared.definition.ColumnDef.{ColumnDef}
use Rattle.store_api.specs.Extents.{first_count, first_page_of, map_pages}
use Rattle.store_api.specs.StoreState.{page_at, zero_page}
use Rattle.store_api.specs.declared.shape.Shape.{Shape}
use Rattle.extent_map.specs.Kinds.{IsKindOf, is_block_kind, is_free_kind, is_used_place}
use Rattle.extent_map.specs.Owners.{IsUsedPage, extent_of, owner_of, place_in_extent}
use Rattle.extent_map.specs.declared.kind.Kind.{Kind}
use Rattle.extent_map.specs.declared.kind.Kind.TheVariants.{Free, Block, Index}
use Rattle.extent_map.proofs.BitsLemmas.{is_free-Free}
use Rattle.node_page.specs.Node.{node_of}
use Rattle.node_page.specs.Node.Node.{LeafNode}
use Rattle.row_page.specs.Row.{row_bytes, row_in}
use Rattle.row_page.specs.RowPage.{IsRowPage, count_rows, is_slot_filled, row_page_head, rows_of, slot_bit_bytes, slot_bytes, slot_count, slots_end}
use Rattle.entry_tree.specs.EntryBounds.{Rises}
use Rattle.entry_tree.specs.Forest.Forest.{Leaf, Nil}
use Rattle.entry_tree.proofs.ForestLemmas.{once_least}
use Rattle.table_page.proofs.PartsLemmas.{all_at}
use Rattle.table_trees.specs.TableTrees.{TreePlace}
use Rattle.table_trees.specs.ToldPages.{HasTree, PageList}
use Rattle.mdc_sound.specs.SpaceRules.{AreTreePagesSound, DatabaseView, IsMapPageSound, IsMapSound, IsOwnerThere, IsTreePageSound, times_in_trees}
use Rattle.mdc_sound.specs.TablePages.{IsTableThere}

-- ---- tests that are computed

-- each number below n passes the test
abbrev pub passes_below : (ℕ → Bool) → ℕ → Bool
passes_below test zero = true
passes_below test (suc n) = test n && passes_below test n

pub passes : (test : ℕ → Bool) (n : ℕ) → passes_below test n ≡ true → (k : ℕ) → k < n → test k ≡ true
passes test n all = (Decides-below_and test (λ k. test k ≡ true) (passes_below test) (λ k. (λ x. x, λ x. x)) refl (λ m. refl) n).0 all

pub if_first : (a b : Bool) → (not a || b) ≡ true → a ≡ true → b ≡ true
if_first true b all is = all
if_first false b all is = absurd (cc)

pub if_not_first : (a b : Bool) → (a || b) ≡ true → a ≡ false → b ≡ true
if_not_first true b all is = absurd (cc)
if_not_first false b all is = all

pub both_true : (a b : Bool) → a ≡ true → b ≡ true → (a && b) ≡ true
both_true true true first second = refl
both_true true false first second = absurd (cc)
both_true false b first second = absurd (cc)

pub first_true : (a b : Bool) → (a && b) ≡ true → a ≡ true
first_true true b all = refl
first_true false b all = absurd (cc)

pub second_true : (a b : Bool) → (a && b) ≡ true → b ≡ true
second_true true b all = all
second_true false b all = absurd (cc)

-- ---- lists

-- each element has the relation to each later one
abbrev pub EachLater : {X : Type 0} → (X → X → Type 0) → List X → Type 0
EachLater R [] = Unit {0}
EachLater R (x ∷ xs) = AllByRecursion (R x) xs × EachLater R xs

pub each_pair : {X : Type 0} (R : X → X → Type 0) (xs : List X) → EachLater R xs → AllPairs R xs
each_pair R [] all i j d low high = absurd (omega (arith, high))
each_pair R (x ∷ xs) all zero zero d low high = absurd (omega (arith, low))
each_pair R (x ∷ xs) all zero (suc j) d low high = all_at (R x) xs j d all.0 (omega (arith, high))
each_pair R (x ∷ xs) all (suc i) zero d low high = absurd (omega (arith, low))
each_pair R (x ∷ xs) all (suc i) (suc j) d low high = each_pair R xs all.1 i j d (omega (arith, low)) (omega (arith, high))

-- an entry that a test finds in no place isn't one of them
pub not_among : (entries : List Entry) (entry : Entry) → list_any (bytes_eq entry) entries ≡ false → Contains entries entry → ⊥
not_among entries entry none among = let found = list_any-from_Contains nat_list_eq_equiv entry entries among in absurd (cc)

-- ---- extents

-- each extent of the list passes the test, by its number
abbrev pub all_owners : (ℕ → Kind → Bool) → List Kind → Bool
all_owners test [] = true
all_owners test (kind ∷ owners) = test 0 kind && all_owners (λ e. test (suc e)) owners

pub each_owner : (test : ℕ → Kind → Bool) (owners : List Kind) → all_owners test owners ≡ true → ((e : ℕ) → test e Free ≡ true) → (e : ℕ) → test e (owner_of owners e) ≡ true
each_owner test [] all free e = free e
each_owner test (kind ∷ owners) all free zero = first_true (test 0 kind) (all_owners (λ e. test (suc e)) owners) all
each_owner test (kind ∷ owners) all free (suc e) =
    each_owner (λ e. test (suc e)) owners (second_true (test 0 kind) (all_owners (λ e. test (suc e)) owners) all) (λ e. free (suc e)) e

-- the kind is one that an extent of so many pages may have
abbrev pub is_kind : ℕ → Kind → Bool
is_kind extent_pages Free = true
is_kind extent_pages (Block table) = nat_lt table 256
is_kind extent_pages (Index used) = nat_lt 0 used && nat_lt used (2 ^ extent_pages)

pub kind_is : (extent_pages : ℕ) (kind : Kind) → is_kind extent_pages kind ≡ true → IsKindOf extent_pages kind
kind_is extent_pages Free is = tt
kind_is extent_pages (Block table) is = ltb-true table 256 is
kind_is extent_pages (Index used) is = (
  ltb-true 0 used (first_true (nat_lt 0 used) (nat_lt used (2 ^ extent_pages)) is),
  ltb-true used (2 ^ extent_pages) (second_true (nat_lt 0 used) (nat_lt used (2 ^ extent_pages)) is),
)

-- the kind is a block of that table
abbrev pub is_block_of : ℕ → Kind → Bool
is_block_of t Free = false
is_block_of t (Block table) = table == t
is_block_of t (Index used) = false

pub block_is_of : (t : ℕ) (kind : Kind) → kind ≡ Block t → is_block_of t kind ≡ true
block_is_of t kind is = subst (λ kind. is_block_of t kind ≡ true) (sym is) (eq-eqb t t refl)

pub kinds_are : (extent_pages : ℕ) (owners : List Kind) → all_owners (λ e kind. is_kind extent_pages kind) owners ≡ true → (e : ℕ) → IsKindOf extent_pages (owner_of owners e)
kinds_are extent_pages owners all e = kind_is extent_pages (owner_of owners e) (each_owner (λ e kind. is_kind extent_pages kind) owners all (λ e. refl) e)

-- an extent in use is one of the first n
pub in_use_is_below : (n : ℕ) (owners : List Kind) → all_owners (λ e kind. is_free_kind kind || nat_lt e n) owners ≡ true → (e : ℕ) → owner_of owners e ≢ Free → e < n
in_use_is_below n owners all e owned = elim (cases_Bool (is_free_kind (owner_of owners e))) [
  | inl free ↦ absurd (owned (is_free-Free (owner_of owners e) free))
  | inr not_free ↦
      let test = each_owner (λ e kind. is_free_kind kind || nat_lt e n) owners all (λ e. refl) e in
      ltb-true e n (if_not_first (is_free_kind (owner_of owners e)) (nat_lt e n) test not_free)
]

owner_is_there : (pages : PageList) (t : ℕ) → IsTableThere pages t → (kind : Kind) → (not (is_block_kind kind) || is_block_of t kind) ≡ true → IsOwnerThere pages kind
owner_is_there pages t there Free is = tt
owner_is_there pages t there (Block table) is = subst (IsTableThere pages) (sym (eqb-true table t is)) there
owner_is_there pages t there (Index used) is = tt

-- each block is one of table t
abbrev pub are_blocks_of : ℕ → List Kind → Bool
are_blocks_of t owners = all_owners (λ e kind. not (is_block_kind kind) || is_block_of t kind) owners

pub owners_are_there : (pages : PageList) (t : ℕ) (owners : List Kind) → IsTableThere pages t → are_blocks_of t owners ≡ true → (e : ℕ) → IsOwnerThere pages (owner_of owners e)
owners_are_there pages t owners there all e =
    owner_is_there pages t there (owner_of owners e) (each_owner (λ e kind. not (is_block_kind kind) || is_block_of t kind) owners all (λ e. refl) e)

-- a map of one page
pub map_of_one_page : (shape : Shape) (pages : PageList) (owners : List Kind) → length owners ≡ shape.extents → map_pages shape.extents ≡ 1
    → IsMapPageSound shape pages owners 0 → IsMapSound shape pages owners
map_of_one_page shape pages owners count one page = record { count = count; each = each_page }
  where
    each_page : (i : ℕ) → i < map_pages shape.extents → IsMapPageSound shape pages owners i
    each_page zero low = page
    each_page (suc i) low = absurd (omega (arith, low, one))

-- a page behind the first ones is a used one by this test
abbrev is_used : Shape → List Kind → ℕ → Bool
is_used shape owners p = nat_le (first_count shape.extents) p && is_used_place (place_in_extent shape p) (owner_of owners (extent_of shape p))

used_passes : (shape : Shape) (owners : List Kind) (p : ℕ) → IsUsedPage shape owners p → is_used shape owners p ≡ true
used_passes shape owners p used = both_true
    (nat_le (first_count shape.extents) p)
    (is_used_place (place_in_extent shape p) (owner_of owners (extent_of shape p)))
    (le-leb (first_count shape.extents) p used.page.behind)
    used.used

used_by_test : (shape : Shape) (owners : List Kind) (p : ℕ) → is_used shape owners p ≡ true → p < first_page_of shape.extents shape.extent_pages shape.extents → IsUsedPage shape owners p
used_by_test shape owners p test low =
    let behind = first_true (nat_le (first_count shape.extents) p) (is_used_place (place_in_extent shape p) (owner_of owners (extent_of shape p))) test in
    let used = second_true (nat_le (first_count shape.extents) p) (is_used_place (place_in_extent shape p) (owner_of owners (extent_of shape p))) test in
    record { page = record { behind = leb-true (first_count shape.extents) p behind; within = low }; used = used }

-- the page stands in the trees once where it is used, and else never
abbrev pub is_counted : Shape → DatabaseView → ℕ → Bool
is_counted shape view p = (not (is_used shape view.owners p) || (times_in_trees p view == 1)) && (is_used shape view.owners p || (times_in_trees p view == 0))

used_once : (shape : Shape) (view : DatabaseView) (p : ℕ) → is_counted shape view p ≡ true → is_used shape view.owners p ≡ true → times_in_trees p view ≡ 1
used_once shape view p counted used =
    let once = first_true (not (is_used shape view.owners p) || (times_in_trees p view == 1)) (is_used shape view.owners p || (times_in_trees p view == 0)) counted in
    eqb-true (times_in_trees p view) 1 (if_first (is_used shape view.owners p) (times_in_trees p view == 1) once used)

unused_never : (shape : Shape) (view : DatabaseView) (p : ℕ) → is_counted shape view p ≡ true → is_used shape view.owners p ≡ false → times_in_trees p view ≡ 0
unused_never shape view p counted unused =
    let never = second_true (not (is_used shape view.owners p) || (times_in_trees p view == 1)) (is_used shape view.owners p || (times_in_trees p view == 0)) counted in
    eqb-true (times_in_trees p view) 0 (if_not_first (is_used shape view.owners p) (times_in_trees p view == 0) never unused)

-- so it is of a page of an extent that there is
counted_is_sound : (shape : Shape) (view : DatabaseView) (p : ℕ) → is_counted shape view p ≡ true → p < first_page_of shape.extents shape.extent_pages shape.extents
    → IsTreePageSound shape view p
counted_is_sound shape view p counted low = record {
  used = λ used. used_once shape view p counted (used_passes shape view.owners p used);
  others = λ unused. elim (cases_Bool (is_used shape view.owners p)) [
    | inl is ↦ absurd (unused (used_by_test shape view.owners p is low))
    | inr is ↦ unused_never shape view p counted is
  ];
}

-- each page is sound where those of the n pages are counted, and one behind them stands in no tree
pub counted_pages_are_sound : (shape : Shape) (view : DatabaseView) (n : ℕ) → first_page_of shape.extents shape.extent_pages shape.extents ≡ n
    → passes_below (is_counted shape view) n ≡ true → ((p : ℕ) → n ≤ p → times_in_trees p view ≡ 0) → AreTreePagesSound shape view
counted_pages_are_sound shape view n count counted behind p = elim (cases_lt p n) [
  | inl low ↦ counted_is_sound shape view p (passes (is_counted shape view) n counted p low) (omega (arith, low, count))
  | inr far ↦ record { used = λ used. absurd (omega (arith, used.page.within, far, count)); others = λ unused. behind p far }
]

-- ---- pages

-- a page that is a leaf of rising entries is a tree
pub leaf_is_held : (pages : PageList) (place : TreePlace) (items : List Entry) → node_of place.width (page_at pages place.root) ≡ LeafNode items → Rises None None items
    → HasTree pages place (Leaf place.root items Nil)
leaf_is_held pages place items node rises = record {
  is_tree = record { head = refl; holds = (node, tt); fits = (tt, rises, refl); distinct = λ n. let once_at_most = once_least n place.root in omega (arith, once_at_most) };
  trim = tt;
}

-- the bytes of a slot are those of its row, where it is filled
abbrev pub is_written : List ColumnDef → List ℕ → ℕ → Bool
is_written columns page slot = not (is_slot_filled page slot) || bytes_eq (row_bytes columns (row_in columns (slot_bytes columns page slot))) (slot_bytes columns page slot)

-- a slot behind the last one isn't filled
abbrev pub is_spare : List ColumnDef → List ℕ → ℕ → Bool
is_spare columns page slot = not (nat_le (slot_count columns) slot) || not (is_slot_filled page slot)

pub row_page_is : (columns : List ColumnDef) (page : List ℕ) → take 16 page ≡ row_page_head (slot_count columns) (count_rows (rows_of columns page))
    → passes_below (is_written columns page) (slot_count columns) ≡ true → passes_below (is_spare columns page) (8 * slot_bit_bytes (slot_count columns)) ≡ true
    → drop (slots_end columns) page ≡ drop (slots_end columns) zero_page → IsRowPage columns page (rows_of columns page)
row_page_is columns page head written spare blank = record {
  has = refl;
  head = head;
  written = λ slot low filled.
      let test = passes (is_written columns page) (slot_count columns) written slot low in
      (bytes_eq-Decides (row_bytes columns (row_in columns (slot_bytes columns page slot))) (slot_bytes columns page slot)).0
      (if_first (is_slot_filled page slot) (bytes_eq (row_bytes columns (row_in columns (slot_bytes columns page slot))) (slot_bytes columns page slot)) test filled);
  spare_bits = λ slot behind within.
      let test = passes (is_spare columns page) (8 * slot_bit_bytes (slot_count columns)) spare slot within in
      not-true (is_slot_filled page slot) (if_first (nat_le (slot_count columns) slot) (not (is_slot_filled page slot)) test (le-leb (slot_count columns) slot behind));
  spare_bytes = blank;
}
