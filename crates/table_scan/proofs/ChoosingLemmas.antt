-- The blocks that are listed under a cell in which a predicate may hold have all rows that qualify.
use Rattle.std.proofs.Common.{◌≡◌, ◌≢◌, ◌<◌, ◌^◌, ◌==◌, ℕ, not, zero, suc, List, [], ◌∷◌, ◌++◌, Bool, true, false, get_or, length, map, refl, ap, arith, sym, ◌∙◌, subst, inl, inr, ◌⊎◌}
use Rattle.std.specs.Prelude.{AllPairs, Contains, IsPermutation, IsTrue, Some, filter, flat_map}
use Rattle.std.specs.List.{AllByRecursion}
use Rattle.std.proofs.lemmas.Bool.{cases_Bool, cases_eq, eq-eqb, false≢true, ne_eqb}
use Rattle.std.proofs.lemmas.List.Concat.{flat_map-cons}
use Rattle.std.proofs.lemmas.List.Elements.{filter-append}
use Rattle.std.proofs.lemmas.List.Sorted.{IsPermutation-append_right, IsPermutation-refl, IsPermutation-sym, IsPermutation-trans}
use Rattle.mdc_words.specs.ByteOrder.{Entry}
use Rattle.mdc_values.specs.Rising.{IsLower, IsRising}
use Rattle.mdc_values.specs.declared.value.Value.{Value}
use Rattle.mdc_ast.specs.Truth.{value_at, qualifies}
use Rattle.mdc_ast.specs.declared.definition.ColumnDef.{ColumnDef}
use Rattle.mdc_ast.specs.declared.definition.TableDef.{TableDef}
use Rattle.mdc_ast.specs.declared.predicate.Pred.{Pred}
use Rattle.mdc_ast.specs.Database.{fits_all}
use Rattle.cell_filter.specs.Cells.{may_hold}
use Rattle.cell_filter.proofs.MayHoldLemmas.{may_hold_at-true}
use Rattle.store_api.specs.declared.pages.Pages.{Ghosts}
use Rattle.store_api.specs.declared.shape.Shape.{Shape}
use Rattle.extent_map.specs.declared.kind.Kind.{Kind}
use Rattle.key_codec.proofs.KeyLemmas.{first_there, type_at_part}
use Rattle.entry_tree.specs.Forest.{leaf_entries}
use Rattle.block_map.specs.MapLines.{MapLine, map_lines, mapped_blocks, used_blocks}
use Rattle.block_map.proofs.MapLinesLemmas.{contains_cases, contains_more}
use Rattle.block_rows.specs.HeldRows.{qualifying}
use Rattle.table_trees.specs.RowCells.{cell_places, cell_values}
use Rattle.table_trees.specs.TableTrees.{cell_parts, rising_parts}
use Rattle.table_trees.proofs.TableTreesLemmas.{AreColumns}
use Rattle.block_index.specs.Cells.{entry_under}
use Rattle.block_index.specs.ListedCells.{AreCellEntries, AreOfTypes, IsCellEntry}
use Rattle.block_index.specs.declared.listed_cells.CellBlock.{CellBlock}
use Rattle.block_index.proofs.CellsLemmas.{key_of_values-row}
use Rattle.mdc_sound.specs.BlockRules.{AreBlockRowsSound, entry_of_block}
use Rattle.mdc_ast.specs.FittingRows.{RowFits}
use Rattle.mdc_sound.specs.StandingTable.{StandsTable, TableForests, pages_of}
use Rattle.mdc_sound.specs.TableRows.{PlacedRow, block_slots, rows_in_block, rows_in_table}
use Rattle.mdc_sound.proofs.BlockRulesLemmas.{each_of, named_owned}
use Rattle.mdc_sound.proofs.ElementsLemmas.{contains_flat, each_in, flat_contains}
use Rattle.mdc_sound.proofs.SlotRowsLemmas.{slot_of_placed}
use Rattle.table_scan.specs.Choices.{ChoosesBlocks}
use Rattle.table_scan.specs.FoundRows.{HaveQualifying, IsChosenBlock}
use Rattle.table_scan.proofs.ScannedRowsLemmas.{front_behind}
use Rattle.table_scan.proofs.ScanningLemmas.{filter_first, filter_past}

-- ---- lists

-- where no element passes, none is left
filter-none : {X : Type 0} (p : X → Bool) (xs : List X) → ((x : X) → Contains xs x → p x ≡ true → ⊥) → filter p xs ≡ []
filter-none p [] none = refl
filter-none p (x ∷ xs) none = elim (cases_Bool (p x)) [
  | inl passes ↦ absurd (none x (0, omega arith, refl) passes)
  | inr fails ↦ filter_past p x xs fails ∙ filter-none p xs (λ y there. none y (contains_more y x xs there))
]

-- an element that passes is left, and what is left passed
contains-filter : {X : Type 0} (p : X → Bool) (xs : List X) (x : X) → Contains xs x → p x ≡ true → Contains (filter p xs) x
contains-filter p [] x (k, low, at) passes = absurd (omega (arith, low))
contains-filter p (y ∷ xs) x there passes = elim (cases_Bool (p y)) [
  | inl yes_y ↦ elim (contains_cases x y xs there) [
    | inl here ↦ subst (λ all. Contains all x) (sym (filter_first p y xs yes_y)) (0, omega arith, here)
    | inr later ↦ subst (λ all. Contains all x) (sym (filter_first p y xs yes_y)) (contains_more x y (filter p xs) (contains-filter p xs x later passes))
  ]
  | inr no_y ↦ elim (contains_cases x y xs there) [
    | inl here ↦ absurd (false≢true (sym no_y ∙ ap p here ∙ passes))
    | inr later ↦ subst (λ all. Contains all x) (sym (filter_past p y xs no_y)) (contains-filter p xs x later passes)
  ]
]

filter-contains : {X : Type 0} (p : X → Bool) (xs : List X) (x : X) → Contains (filter p xs) x → Contains xs x × (p x ≡ true)
filter-contains p [] x (k, low, at) = absurd (omega (arith, low))
filter-contains p (y ∷ xs) x there = elim (cases_Bool (p y)) [
  | inl yes_y ↦ elim (contains_cases x y (filter p xs) (subst (λ all. Contains all x) (filter_first p y xs yes_y) there)) [
    | inl here ↦ ((0, omega arith, here), sym (ap p here) ∙ yes_y)
    | inr later ↦ (let r = filter-contains p xs x later in (contains_more x y xs r.0, r.1))
  ]
  | inr no_y ↦ (let r = filter-contains p xs x (subst (λ all. Contains all x) (filter_past p y xs no_y) there) in (contains_more x y xs r.0, r.1))
]

contains-map : {X Y : Type 0} (f : X → Y) (xs : List X) (x : X) → Contains xs x → Contains (map f xs) (f x)
contains-map f [] x (k, low, at) = absurd (omega (arith, low))
contains-map f (y ∷ xs) x there = elim (contains_cases x y xs there) [
  | inl here ↦ (0, omega arith, ap f here)
  | inr later ↦ contains_more (f x) (f y) (map f xs) (contains-map f xs x later)
]

map-contains : {X Y : Type 0} (f : X → Y) (xs : List X) (y : Y) → Contains (map f xs) y → (x : X) × Contains xs x × (f x ≡ y)
map-contains f [] y (k, low, at) = absurd (omega (arith, low))
map-contains f (x ∷ xs) y there = elim (contains_cases y (f x) (map f xs) there) [
  | inl here ↦ (x, (0, omega arith, refl), here)
  | inr later ↦ (let r = map-contains f xs y later in (r.0, contains_more r.0 x xs r.1, r.2))
]

-- ---- some of all numbers, where none stands twice

-- no number stands twice
abbrev NoneTwice : List ℕ → Type 0
NoneTwice [] = Unit {0}
NoneTwice (x ∷ xs) = (Contains xs x → ⊥) × NoneTwice xs

-- the first of numbers that rise is below each behind it
below_rest : (u : ℕ) (us : List ℕ) (x : ℕ) → IsRising IsLower (u ∷ us) → Contains us x → u < x
below_rest u [] x rising (k, low, at) = absurd (omega (arith, low))
below_rest u (v ∷ us) x rising there = elim (contains_cases x v us there) [
  | inl here ↦ omega (arith, rising.0, here)
  | inr later ↦ omega (arith, rising.0, below_rest v us x rising.1 later)
]

-- of numbers that rise none stands twice
none_twice-rising : (xs : List ℕ) → IsRising IsLower xs → NoneTwice xs
none_twice-rising [] rising = tt
none_twice-rising (x ∷ []) rising = (λ there. omega (arith, there.1), tt)
none_twice-rising (x ∷ y ∷ xs) rising = (λ there. omega (arith, below_rest x (y ∷ xs) x rising there), none_twice-rising (y ∷ xs) rising.1)

contains_at : (xs : List ℕ) (x k : ℕ) → k < length xs → get_or xs k x ≡ x → get_or xs k 0 ≡ x
contains_at [] x k low at = absurd (omega (arith, low))
contains_at (y ∷ xs) x zero low at = at
contains_at (y ∷ xs) x (suc k) low at = contains_at xs x k (omega (arith, low)) at

-- nor of those that differ pairwise
none_twice-differ : (xs : List ℕ) → AllPairs (λ a b. a ≢ b) xs → NoneTwice xs
none_twice-differ [] differ = tt
none_twice-differ (x ∷ xs) differ = (
  (λ (k, low, at). differ 0 (suc k) 0 (omega arith) (omega (arith, low)) (sym (contains_at xs x k low at))),
  none_twice-differ xs (λ i j d below within. differ (suc i) (suc j) d (omega (arith, below)) (omega (arith, within))),
)

-- nor of some of them
none_twice-kept : {X : Type 0} (f : X → ℕ) (p : X → Bool) (xs : List X) → NoneTwice (map f xs) → NoneTwice (map f (filter p xs))
none_twice-kept f p [] none = tt
none_twice-kept f p (x ∷ xs) none = elim (cases_Bool (p x)) [
  | inl passes ↦ subst (λ all. NoneTwice (map f all)) (sym (filter_first p x xs passes)) (
    (λ there. let r = map-contains f (filter p xs) (f x) there in none.0 (subst (Contains (map f xs)) r.2 (contains-map f xs r.0 (filter-contains p xs r.0 r.1).0))),
    none_twice-kept f p xs none.1,
  )
  | inr fails ↦ subst (λ all. NoneTwice (map f all)) (sym (filter_past p x xs fails)) (none_twice-kept f p xs none.1)
]

-- a number is in a list, or it isn't
pub in_or_not : (x : ℕ) (xs : List ℕ) → Contains xs x ⊎ (Contains xs x → ⊥)
in_or_not x [] = inr (λ there. omega (arith, there.1))
in_or_not x (y ∷ xs) = elim (cases_eq y x) [
  | inl same ↦ inl (0, omega arith, same)
  | inr other ↦ elim (in_or_not x xs) [
    | inl later ↦ inl (contains_more x y xs later)
    | inr out ↦ inr (λ there. elim (contains_cases x y xs there) [ inl here ↦ other here | inr later ↦ out later ])
  ]
]

-- the numbers but one
is_other : ℕ → ℕ → Bool
is_other u x = not (x == u)

is_other-same : (u x : ℕ) → x ≡ u → is_other u x ≡ false
unfolding is_other
is_other-same u x same = ap not (eq-eqb x u same)

is_other-differs : (u x : ℕ) → (x ≡ u → ⊥) → is_other u x ≡ true
unfolding is_other
is_other-differs u x other = ap not (ne_eqb x u other)

-- where one isn't there, all are left
all_left : (u : ℕ) (xs : List ℕ) → (Contains xs u → ⊥) → filter (is_other u) xs ≡ xs
all_left u [] out = refl
all_left u (x ∷ xs) out =
    filter_first (is_other u) x xs (is_other-differs u x (λ same. out (0, omega arith, same))) ∙ ap (λ rest. x ∷ rest) (all_left u xs (λ there. out (contains_more u x xs there)))

none_twice-left : (u : ℕ) (xs : List ℕ) → NoneTwice xs → NoneTwice (filter (is_other u) xs)
none_twice-left u [] none = tt
none_twice-left u (x ∷ xs) none = elim (cases_Bool (is_other u x)) [
  | inl left ↦ subst NoneTwice (sym (filter_first (is_other u) x xs left)) ((λ there. none.0 (filter-contains (is_other u) xs x there).0), none_twice-left u xs none.1)
  | inr gone ↦ subst NoneTwice (sym (filter_past (is_other u) x xs gone)) (none_twice-left u xs none.1)
]

module _ {Y : Type 0} (made : ℕ → List Y) where
  -- what is made of one comes in front
  one_in_front : (u : ℕ) (xs : List ℕ) → NoneTwice xs → Contains xs u → IsPermutation (flat_map made xs) (made u ++ flat_map made (filter (is_other u) xs))
  one_in_front u [] none (k, low, at) = absurd (omega (arith, low))
  one_in_front u (x ∷ xs) none there = elim (cases_eq x u) [
    | inl same ↦
        subst (λ l. IsPermutation (flat_map made (x ∷ xs)) (made u ++ flat_map made l))
        (sym (filter_past (is_other u) x xs (is_other-same u x same) ∙ all_left u xs (λ later. none.0 (subst (Contains xs) (sym same) later))))
        (subst (λ l. IsPermutation (flat_map made (x ∷ xs)) l) (flat_map-cons made x xs ∙ ap (λ v. made v ++ flat_map made xs) same) (IsPermutation-refl (flat_map made (x ∷ xs))))
    | inr other ↦
        (let later : Contains xs u = elim (contains_cases u x xs there) [ inl here ↦ absurd (other here) | inr later ↦ later ] in
        let rest = filter (is_other u) xs in
        subst (λ l. IsPermutation l (made u ++ flat_map made (filter (is_other u) (x ∷ xs)))) (sym (flat_map-cons made x xs))
        (subst (λ l. IsPermutation (made x ++ flat_map made xs) (made u ++ flat_map made l)) (sym (filter_first (is_other u) x xs (is_other-differs u x other)))
        (subst (λ l. IsPermutation (made x ++ flat_map made xs) (made u ++ l)) (sym (flat_map-cons made x rest))
        (IsPermutation-trans (made x ++ flat_map made xs) (made x ++ (made u ++ flat_map made rest)) (made u ++ (made x ++ flat_map made rest))
        (IsPermutation-append_right (made x) (flat_map made xs) (made u ++ flat_map made rest) (one_in_front u xs none.1 later))
        (front_behind (made x) (made u) (flat_map made rest))))))
  ]

  -- what is made of all is what is made of some, where of the others nothing is made
  pub made_of_some : (some all : List ℕ) → NoneTwice some → NoneTwice all → ((x : ℕ) → Contains some x → Contains all x)
      → ((x : ℕ) → Contains all x → (Contains some x → ⊥) → made x ≡ []) → IsPermutation (flat_map made all) (flat_map made some)
  made_of_some [] [] some_once all_once within nothing = IsPermutation-refl []
  made_of_some (x ∷ some) [] some_once all_once within nothing = absurd (omega (arith, (within x (0, omega arith, refl)).1))
  made_of_some some (u ∷ us) some_once all_once within nothing = elim (in_or_not u some) [
    | inl is_in ↦
        (let rest = filter (is_other u) some in
        let same_rest : IsPermutation (flat_map made us) (flat_map made rest) = made_of_some rest us (none_twice-left u some some_once) all_once.1
        (λ x there. let r = filter-contains (is_other u) some x there in elim (contains_cases x u us (within x r.0)) [
          | inl here ↦ absurd (false≢true (sym (is_other-same u x (sym here)) ∙ r.1))
          | inr later ↦ later
        ])
        (λ x there out. nothing x (contains_more x u us there) (λ in_some. out (contains-filter (is_other u) some x in_some (is_other-differs u x (λ same. all_once.0 (subst (Contains us) same there)))))) in
        subst (λ l. IsPermutation l (flat_map made some)) (sym (flat_map-cons made u us))
        (IsPermutation-trans (made u ++ flat_map made us) (made u ++ flat_map made rest) (flat_map made some)
        (IsPermutation-append_right (made u) (flat_map made us) (flat_map made rest) same_rest)
        (IsPermutation-sym (flat_map made some) (made u ++ flat_map made rest) (one_in_front u some some_once is_in))))
    | inr out ↦
        subst (λ l. IsPermutation l (flat_map made some)) (sym (flat_map-cons made u us ∙ ap (λ front. front ++ flat_map made us) (nothing u (0, omega arith, refl) out)))
        (made_of_some some us some_once all_once.1
        (λ x there. elim (contains_cases x u us (within x there)) [
          | inl here ↦ absurd (out (subst (Contains some) (sym here) there))
          | inr later ↦ later
        ])
        (λ x there. nothing x (contains_more x u us there)))
  ]

-- elements that pass are those that pass of each part
filter-flat_map : {X : Type 0} (p : X → Bool) (rows : ℕ → List X) (blocks : List ℕ) → filter p (flat_map rows blocks) ≡ flat_map (λ b. filter p (rows b)) blocks
filter-flat_map p rows [] = refl
filter-flat_map p rows (b ∷ blocks) =
    ap (filter p) (flat_map-cons rows b blocks) ∙ filter-append p (rows b) (flat_map rows blocks) ∙ ap (λ rest. filter p (rows b) ++ rest) (filter-flat_map p rows blocks)
    ∙ sym (flat_map-cons (λ b. filter p (rows b)) b blocks)

-- ---- what the composite index lists

-- the cell of a row, with its block
abbrev cell_of : TableDef → PlacedRow → CellBlock
cell_of def placed = record { cell = record { values = cell_values def placed.row.values }; block = placed.rid.block }

are_of_types : (columns : List ColumnDef) (places : List ℕ) (values : List Value) → AreColumns columns (rising_parts places) → IsTrue (fits_all columns values)
    → AreOfTypes columns places (map (value_at values) places)
are_of_types columns [] values there fitting = tt
are_of_types columns (place ∷ places) values there fitting =
    let split = first_there columns (record { column = place; descending = false }) (rising_parts places) there in
    (type_at_part columns values place split.0 fitting, are_of_types columns places values split.1 fitting)

is_cell_entry : (def : TableDef) (placed : PlacedRow) → AreColumns def.columns (cell_parts def) → IsTrue (fits_all def.columns placed.row.values) → placed.rid.block < 2 ^ 32
    → IsCellEntry def (entry_of_block def (cell_parts def) placed) (cell_of def placed)
is_cell_entry def placed there fitting small = record {
  entry_is = sym (ap (λ key. entry_under key placed.rid.block) (key_of_values-row def.columns (cell_places def) placed.row.values));
  typed = are_of_types def.columns (cell_places def) placed.row.values there fitting;
  small = small;
}

-- the cells of entries each of which is that of a row, one for each; the one that a row has is among them
record AreCellsOfRows (def : TableDef) (rows : List PlacedRow) (entries : List Entry) : Type 0 where
  all : List CellBlock
  are : AreCellEntries def entries all
  each : (one : CellBlock) → Contains all one → (placed : PlacedRow) × Contains rows placed × (cell_of def placed ≡ one)

module _ (def : TableDef) (rows : List PlacedRow) (is_entry : (placed : PlacedRow) → Contains rows placed → IsCellEntry def (entry_of_block def (cell_parts def) placed) (cell_of def placed)) where
  cells_of_rows : (entries : List Entry) → AllByRecursion (Contains (map (entry_of_block def (cell_parts def)) rows)) entries → AreCellsOfRows def rows entries
  cells_of_rows [] only = record { all = []; are = tt; each = λ one there. absurd (omega (arith, there.1)) }
  cells_of_rows (entry ∷ entries) only =
      let rest = cells_of_rows entries only.1 in
      let mine = map-contains (entry_of_block def (cell_parts def)) rows entry only.0 in
      record {
        all = cell_of def mine.0 ∷ rest.all;
        are = (subst (λ e. IsCellEntry def e (cell_of def mine.0)) mine.2 (is_entry mine.0 mine.1), rest.are);
        each = λ one there. elim (contains_cases one (cell_of def mine.0) rest.all there) [
          | inl here ↦ (mine.0, mine.1, here)
          | inr later ↦ rest.each one later
        ];
      }

  -- with the cell of one row for its entry
  cells_with_row : (placed : PlacedRow) → Contains rows placed → (entries : List Entry) → AllByRecursion (Contains (map (entry_of_block def (cell_parts def)) rows)) entries
      → Contains entries (entry_of_block def (cell_parts def) placed) → (all : List CellBlock) × AreCellEntries def entries all × Contains all (cell_of def placed)
  cells_with_row placed there [] only (k, low, at) = absurd (omega (arith, low))
  cells_with_row placed there (entry ∷ entries) only listed = elim (contains_cases (entry_of_block def (cell_parts def) placed) entry entries listed) [
    | inl here ↦ (let rest = cells_of_rows entries only.1 in
        (cell_of def placed ∷ rest.all, (subst (λ e. IsCellEntry def e (cell_of def placed)) (sym here) (is_entry placed there), rest.are), (0, omega arith, refl)))
    | inr later ↦ (let rest = cells_with_row placed there entries only.1 later in
        let mine = map-contains (entry_of_block def (cell_parts def)) rows entry only.0 in
        (cell_of def mine.0 ∷ rest.0, (subst (λ e. IsCellEntry def e (cell_of def mine.0)) mine.2 (is_entry mine.0 mine.1), rest.1), contains_more (cell_of def placed) (cell_of def mine.0) rest.0 rest.2))
  ]

-- ---- all together

module _ {S : Type 0} (g : Ghosts S) (shape : Shape) (s : S) (def : TableDef) (owners : List Kind) (forests : TableForests) (st : StandsTable g shape s def owners forests)
    (there : AreColumns def.columns (cell_parts def)) (small : shape.extents < 2 ^ 32) where
  rows : List PlacedRow
  rows = rows_in_table shape (pages_of g s) def forests.map

  -- the block of a row of the table
  record IsOfUsed (placed : PlacedRow) : Type 0 where
    used : Contains (used_blocks forests.map) placed.rid.block
    within : Contains (rows_in_block shape (pages_of g s) def placed.rid.block) placed

  of_used : (placed : PlacedRow) → Contains rows placed → IsOfUsed placed
  unfolding rows
  of_used placed is_in =
      let (block, used, within) = flat_contains (rows_in_block shape (pages_of g s) def) (used_blocks forests.map) placed is_in in
      let same : placed.rid.block ≡ block = (slot_of_placed block 0 (block_slots shape (pages_of g s) def block) placed within).1 in
      record {
        used = subst (Contains (used_blocks forests.map)) (sym same) used;
        within = subst (λ b. Contains (rows_in_block shape (pages_of g s) def b) placed) (sym same) within;
      }

  row_entry_is : (placed : PlacedRow) → Contains rows placed → IsCellEntry def (entry_of_block def (cell_parts def) placed) (cell_of def placed)
  row_entry_is placed is_in =
      let mine = of_used placed is_in in
      let fit = each_of (λ placed. RowFits def placed.row) (rows_in_block shape (pages_of g s) def placed.rid.block) placed
      (each_of (AreBlockRowsSound shape (pages_of g s) def) (used_blocks forests.map) placed.rid.block st.rows mine.used).rows mine.within in
      is_cell_entry def placed there fit.values (omega (arith, small, (named_owned shape owners def forests.map 1 placed.rid.block st.map mine.used).0))

  -- an entry that was read has the cell of a row of its block
  pub listed_cell : (found : List CellBlock) → ((all : List CellBlock) → AreCellEntries def (leaf_entries forests.composite) all → found ≡ all) → (one : CellBlock) → Contains found one
      → (placed : PlacedRow) × Contains (rows_in_block shape (pages_of g s) def one.block) placed × (one.cell.values ≡ cell_values def placed.row.values)
  unfolding rows
  listed_cell found listed one in_found =
      let all = cells_of_rows def rows row_entry_is (leaf_entries forests.composite) st.indexes.composite.only in
      let (placed, in_rows, is) = all.each one (subst (λ l. Contains l one) (listed all.all all.are) in_found) in
      let mine = of_used placed in_rows in
      (placed, subst (λ b. Contains (rows_in_block shape (pages_of g s) def b) placed) (ap (λ (c : CellBlock). c.block) is) mine.within, sym (ap (λ (c : CellBlock). c.cell.values) is))

  module _ (pred : Pred) (found : List CellBlock) (blocks : List ℕ)
      (listed : (all : List CellBlock) → AreCellEntries def (leaf_entries forests.composite) all → found ≡ all) (chooses : ChoosesBlocks def pred found blocks) where
    may : CellBlock → Bool
    may one = may_hold def one.cell pred

    -- a block that was chosen has a row in whose cell the predicate may hold
    chosen_one : (block : ℕ) → Contains blocks block → IsChosenBlock g shape s def (Some pred) forests block
    unfolding rows may
    chosen_one block is_in =
        let (one, kept, block_is) = map-contains (λ (one : CellBlock). one.block) (filter may found) block ((chooses.same block).1 is_in) in
        let (in_found, holds) = filter-contains may found one kept in
        let all = cells_of_rows def rows row_entry_is (leaf_entries forests.composite) st.indexes.composite.only in
        let (placed, in_rows, is) = all.each one (subst (λ l. Contains l one) (listed all.all all.are) in_found) in
        let mine = of_used placed in_rows in
        let same : placed.rid.block ≡ block = ap (λ (c : CellBlock). c.block) is ∙ block_is in
        record {
          used = subst (Contains (used_blocks forests.map)) same mine.used;
          may = (
            placed,
            subst (λ b. Contains (rows_in_block shape (pages_of g s) def b) placed) same mine.within,
            ap (λ (c : CellBlock). may_hold def c.cell pred) is ∙ holds,
          );
        }

    -- where a row qualifies, its block was chosen
    row_chosen : (placed : PlacedRow) → Contains rows placed → qualifies (Some pred) placed.row.values ≡ true → Contains blocks placed.rid.block
    unfolding rows may
    row_chosen placed is_in qualifies_so =
        let entries = leaf_entries forests.composite in
        let listed_at = each_of (λ placed. Contains entries (entry_of_block def (cell_parts def) placed)) rows placed st.indexes.composite.has is_in in
        let (all, are, is_there) = cells_with_row def rows row_entry_is placed is_in entries st.indexes.composite.only listed_at in
        let in_found : Contains found (cell_of def placed) = subst (λ l. Contains l (cell_of def placed)) (sym (listed all are)) is_there in
        let holds : may (cell_of def placed) ≡ true =
        may_hold_at-true (cell_places def) placed.row.values pred qualifies_so in
        (chooses.same placed.rid.block).0 (contains-map (λ (one : CellBlock). one.block) (filter may found) (cell_of def placed) (contains-filter may found (cell_of def placed) in_found holds))

    -- of a Used block that wasn't chosen no row qualifies
    nothing_else : (block : ℕ) → Contains (used_blocks forests.map) block → (Contains blocks block → ⊥) → qualifying (Some pred) (rows_in_block shape (pages_of g s) def block) ≡ []
    unfolding rows
    nothing_else block used out = filter-none (λ placed. qualifies (Some pred) placed.row.values) (rows_in_block shape (pages_of g s) def block) (λ placed within qualifies_so.
        let same : placed.rid.block ≡ block = (slot_of_placed block 0 (block_slots shape (pages_of g s) def block) placed within).1 in
        out (subst (Contains blocks) same (row_chosen placed (contains_flat (rows_in_block shape (pages_of g s) def) (used_blocks forests.map) block placed used within) qualifies_so)))

    -- all rows that qualify are in the blocks that were chosen
    pub have_qualifying : HaveQualifying g shape s def (Some pred) blocks forests
    have_qualifying =
        let p : PlacedRow → Bool = λ placed. qualifies (Some pred) placed.row.values in
        let rows_at : ℕ → List PlacedRow = rows_in_block shape (pages_of g s) def in
        record {
          chosen = each_in (IsChosenBlock g shape s def (Some pred) forests) blocks chosen_one;
          whole = subst (λ l. IsPermutation l (filter p (flat_map rows_at blocks))) (sym (filter-flat_map p rows_at (used_blocks forests.map)))
              (subst (IsPermutation (flat_map (λ b. filter p (rows_at b)) (used_blocks forests.map))) (sym (filter-flat_map p rows_at blocks))
              (made_of_some (λ b. filter p (rows_at b)) blocks (used_blocks forests.map) (none_twice-rising blocks chooses.rising) used_once
              (λ block is_in. (chosen_one block is_in).used) nothing_else));
        }
      where
        used_once : NoneTwice (used_blocks forests.map)
        used_once = none_twice-kept (λ (line : MapLine). line.block) (λ line. line.state == 1) (map_lines forests.map) (none_twice-differ (mapped_blocks forests.map) st.map.once_each)
