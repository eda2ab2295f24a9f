-- Pages stand for one database at most.
use Rattle.std.specs.Prelude.{◌≡◌, ◌<◌, ℕ, zero, suc, List, [], ◌∷◌, map, slice_index_or, Option, Some, None, IsPermutation, AllPairs, Contains}
use Rattle.std.specs.List.{AllZip, range_with_len}
use Rattle.std.proofs.Common.{refl, sym, ap, ◌∙◌, subst, arith, inl, inr, ◌⊎◌}
use Rattle.std.proofs.lemmas.List.Sorted.{Contains-permutation, IsPermutation-sym}
use Rattle.mdc_ast.specs.declared.definition.TableDef.{TableDef}
use Rattle.mdc_ast.specs.declared.row.Row.{Row}
use Rattle.mdc_ast.specs.Database.{Database, PlainTable}
use Rattle.store_api.specs.declared.shape.Shape.{Shape}
use Rattle.entry_tree.specs.Forest.{Forest}
use Rattle.entry_tree.specs.HeldTrees.{nodes_in}
use Rattle.entry_tree.proofs.ForestLemmas.{same_forest}
use Rattle.mdc_sound.specs.StandsForDatabase.{HoldsPlace, HoldsTable, PagesStandFor, rootless}
use Rattle.mdc_sound.specs.TablePages.{table_page_at}
use Rattle.table_page.specs.TablePage.{IsTablePageOf}
use Rattle.mdc_sound.specs.TableRows.{rows_in_table}
use Rattle.table_trees.specs.TableTrees.{TreePlace, map_place}
use Rattle.table_trees.specs.ToldPages.{HasTree, PageList, telling}
use Rattle.table_page.proofs.TablePageLemmas.{no_blank_table, one_definition}

-- a place has one tree
pub one_tree_at : (pages : PageList) (place : TreePlace) (t u : Forest) → HasTree pages place t → HasTree pages place u → t ≡ u
one_tree_at pages place t u h k =
    same_forest (nodes_in place.width (telling pages)) t u h.is_tree.holds k.is_tree.holds (h.is_tree.head ∙ sym k.is_tree.head)

-- ---- lists of rows that rise

-- the first row is below all others
pub above_first : (x : Row) (xs : List Row) → AllPairs (λ a b. a.number < b.number) (x ∷ xs) → (z : Row) → Contains xs z → x.number < z.number
above_first x xs pairs z (k, low, at) =
    let below : x.number < (slice_index_or xs k z).number = pairs 0 (suc k) z (omega arith) (omega (arith, low)) in
    subst (λ row. x.number < row.number) at below

pub rest_rises : (x : Row) (xs : List Row) → AllPairs (λ a b. a.number < b.number) (x ∷ xs) → AllPairs (λ a b. a.number < b.number) xs
rest_rises x xs pairs i j d low high = pairs (suc i) (suc j) d (omega (arith, low)) (omega (arith, high))

-- an element is the first, or one of the others
pub first_or_later : (x z : Row) (xs : List Row) → Contains (x ∷ xs) z → (x ≡ z) ⊎ Contains xs z
first_or_later x z xs (zero, low, at) = inl at
first_or_later x z xs (suc k, low, at) = inr (k, omega (arith, low), at)

pub is_first : (x : Row) (xs : List Row) → Contains (x ∷ xs) x
is_first x xs = (0, omega arith, refl)

pub is_later : (x z : Row) (xs : List Row) → Contains xs z → Contains (x ∷ xs) z
is_later x z xs (k, low, at) = (suc k, omega (arith, low), at)

same_first : (x y : Row) (xs ys : List Row) → AllPairs (λ a b. a.number < b.number) (x ∷ xs) → AllPairs (λ a b. a.number < b.number) (y ∷ ys)
    → Contains (y ∷ ys) x → Contains (x ∷ xs) y → x ≡ y
same_first x y xs ys p q x_in y_in = elim (first_or_later y x ys x_in) [
  | inl e ↦ sym e
  | inr x_later ↦ elim (first_or_later x y xs y_in) [
    | inl e ↦ e
    | inr y_later ↦ absurd (omega (arith, above_first x xs p y y_later, above_first y ys q x x_later))
  ]
]

-- an element of the rest is one of the other rest
still_later : (x y z : Row) (xs ys : List Row) → AllPairs (λ a b. a.number < b.number) (x ∷ xs) → x ≡ y → Contains xs z → Contains (y ∷ ys) z → Contains ys z
still_later x y z xs ys p e z_in z_there = elim (first_or_later y z ys z_there) [
  | inl same ↦
      let number : x.number ≡ z.number = ap (λ row. row.number) (e ∙ same) in
      absurd (omega (arith, above_first x xs p z z_in, number))
  | inr later ↦ later
]

same_rising : (xs ys : List Row) → AllPairs (λ a b. a.number < b.number) xs → AllPairs (λ a b. a.number < b.number) ys
    → ((z : Row) → Contains xs z → Contains ys z) → ((z : Row) → Contains ys z → Contains xs z) → xs ≡ ys
same_rising [] [] p q there back = refl
same_rising [] (y ∷ ys) p q there back = let h = back y (is_first y ys) in absurd (omega (arith, h.1))
same_rising (x ∷ xs) [] p q there back = let h = there x (is_first x xs) in absurd (omega (arith, h.1))
same_rising (x ∷ xs) (y ∷ ys) p q there back =
    let e : x ≡ y = same_first x y xs ys p q (there x (is_first x xs)) (back y (is_first y ys)) in
    let rest : xs ≡ ys = same_rising xs ys (rest_rises x xs p) (rest_rises y ys q)
    (λ z z_in. still_later x y z xs ys p e z_in (there z (is_later x z xs z_in)))
    (λ z z_in. still_later y x z ys xs q (sym e) z_in (back z (is_later y z ys z_in))) in
    cc (e, rest)

-- two orders of the same rows that rise are the same
pub one_order : (all xs ys : List Row) → IsPermutation all xs → IsPermutation all ys → AllPairs (λ a b. a.number < b.number) xs
    → AllPairs (λ a b. a.number < b.number) ys → xs ≡ ys
one_order all xs ys p q xs_rise ys_rise =
    same_rising xs ys xs_rise ys_rise
    (λ z z_in. Contains-permutation all ys z q (Contains-permutation xs all z (IsPermutation-sym all xs p) z_in))
    (λ z z_in. Contains-permutation all xs z p (Contains-permutation ys all z (IsPermutation-sym all ys q) z_in))

-- ---- places

table_with : TableDef → List Row → PlainTable
table_with def rows = record { def = def; rows = rows }

table_of : (a b : PlainTable) → a.def ≡ b.def → a.rows ≡ b.rows → a ≡ b
unfolding table_with
table_of a b def rows = ap (λ d. table_with d a.rows) def ∙ ap (λ r. table_with b.def r) rows

one_table : (shape : Shape) (pages : PageList) (t : ℕ) (a b : PlainTable) → HoldsTable shape pages t a → HoldsTable shape pages t b → a ≡ b
one_table shape pages t a b h k =
    let def : h.def ≡ k.def = one_definition t h.def k.def (table_page_at pages t) h.defines k.defines in
    let has : HasTree pages (map_place h.def) k.map_tree = subst (λ d. HasTree pages (map_place d) k.map_tree) (sym def) k.has_map in
    let trees : h.map_tree ≡ k.map_tree = one_tree_at pages (map_place h.def) h.map_tree k.map_tree h.has_map has in
    let rows : rows_in_table shape pages h.def h.map_tree ≡ rows_in_table shape pages k.def k.map_tree =
    ap (λ d. rows_in_table shape pages d h.map_tree) def ∙ ap (λ tree. rows_in_table shape pages k.def tree) trees in
    let same = subst (λ all. IsPermutation (map (λ placed. placed.row) all) a.rows) rows h.same_rows in
    table_of a b (h.def_is ∙ (ap rootless def ∙ sym k.def_is))
    (one_order (map (λ placed. placed.row) (rows_in_table shape pages k.def k.map_tree)) a.rows b.rows same k.same_rows h.rising k.rising)

one_place : (shape : Shape) (pages : PageList) (t : ℕ) (a b : Option PlainTable) → HoldsPlace shape pages t a → HoldsPlace shape pages t b → a ≡ b
one_place shape pages t None None h k = refl
one_place shape pages t None (Some b) h k = absurd (no_blank_table t k.def (subst (λ page. IsTablePageOf t k.def page) h k.defines))
one_place shape pages t (Some a) None h k = absurd (no_blank_table t h.def (subst (λ page. IsTablePageOf t h.def page) k h.defines))
one_place shape pages t (Some a) (Some b) h k = ap Some (one_table shape pages t a b h k)

same_places : (shape : Shape) (pages : PageList) (ts : List ℕ) (a b : Database) → AllZip (HoldsPlace shape pages) ts a → AllZip (HoldsPlace shape pages) ts b → a ≡ b
same_places shape pages [] [] [] h k = refl
same_places shape pages [] [] (y ∷ b) h k = absurd k
same_places shape pages [] (x ∷ a) b h k = absurd h
same_places shape pages (t ∷ ts) [] b h k = absurd h
same_places shape pages (t ∷ ts) (x ∷ a) [] h k = absurd k
same_places shape pages (t ∷ ts) (x ∷ a) (y ∷ b) h k =
    let first : x ≡ y = one_place shape pages t x y h.0 k.0 in
    let rest : a ≡ b = same_places shape pages ts a b h.1 k.1 in
    cc (first, rest)

pub one_database : (shape : Shape) (pages : PageList) (a b : Database) → PagesStandFor shape pages a → PagesStandFor shape pages b → a ≡ b
one_database shape pages a b h k = same_places shape pages (range_with_len 0 16) a b h k
