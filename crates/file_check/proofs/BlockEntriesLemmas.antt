-- The block indexes of a table are judged by the first rows of its blocks and by how many entries they have.
use Rattle.std.proofs.Common.{◌≡◌, ◌≢◌, ◌≤◌, ◌<◌, ◌+◌, ◌^◌, ◌∙◌, ℕ, suc, List, [], ◌∷◌, ◌++◌, Option, Some, None, ap, arith, get_or, inl, inr, length, length-append, map, refl, remove, subst, sym, take}
use Rattle.std.specs.Prelude.{◌⊎◌, AllPairs, Contains, IsPermutation, flat_map, slice_get, zip}
use Rattle.std.specs.List.{AllByRecursion}
use Rattle.std.proofs.Math.Nat.{mod-eq_of_lt}
use Rattle.std.proofs.lemmas.Bool.{cases_eq, cases_lt}
use Rattle.std.proofs.lemmas.List.{get_or-map, length-map}
use Rattle.std.proofs.lemmas.List.Elements.{Contains-get_or}
use Rattle.std.proofs.lemmas.List.Sorted.{Contains-permutation, IsPermutation-remove, length_permutation}
use Rattle.std.proofs.lemmas.Option.{same_Some}
use Rattle.byteorder.specs.Endian.{big_bytes, big_number}
use Rattle.byteorder.specs.Numbers.{big_from-bytes}
use Rattle.mdc_words.specs.ByteOrder.{Entry}
use Rattle.key_codec.specs.Keys.{key_bytes, width_of_parts}
use Rattle.mdc_values.specs.declared.value.Value.{Value}
use Rattle.mdc_ast.specs.declared.definition.KeyPart.{KeyPart}
use Rattle.mdc_ast.specs.declared.definition.TableDef.{TableDef}
use Rattle.store_api.specs.Frame.{NoPage}
use Rattle.store_api.specs.RunsOverPages.{RunsOverPages}
use Rattle.store_api.specs.declared.fault.StoreFault.{StoreFault}
use Rattle.store_api.specs.declared.pages.Pages.{Ghosts}
use Rattle.store_api.specs.declared.shape.Shape.{Shape}
use Rattle.store_api.proofs.RunsOverPagesLemmas.{runs_then, runs_wider}
use Rattle.node_page.specs.Node.{number_within}
use Rattle.entry_tree.specs.Forest.{Forest, leaf_entries}
use Rattle.entry_tree.specs.HeldTrees.{BreaksTree}
use Rattle.entry_tree.proofs.LeafFromLemmas.{Fits-entries}
use Rattle.block_map.specs.MapLines.{map_line, map_lines, used_blocks}
use Rattle.block_map.proofs.MapLinesLemmas.{contains_cases, contains_more}
use Rattle.block_map.proofs.RisingEntriesLemmas.{rising_differ}
use Rattle.table_trees.specs.RowCells.{AreOfOneCell}
use Rattle.table_trees.specs.TableTrees.{TreePlace, cell_parts, composite_place, place_of_tree}
use Rattle.table_trees.specs.ToldPages.{HasTree, PageList}
use Rattle.mdc_sound.specs.BlockRules.{IsOfOneCell}
use Rattle.mdc_sound.specs.TableRows.{PlacedRow, block_slots, rows_in_block}
use Rattle.mdc_sound.proofs.BlockRulesLemmas.{each_of}
use Rattle.mdc_sound.proofs.CellKeysLemmas.{cell_key-same, dimension_key-same}
use Rattle.mdc_sound.proofs.ElementsLemmas.{contains_flat, each_in, flat_contains, from_map, in_map}
use Rattle.mdc_sound.proofs.MappedBlocksLemmas.{small_block, used_line}
use Rattle.mdc_sound.proofs.SlotRowsLemmas.{slot_of_placed}
use Rattle.mdc_sound.proofs.StandsForLemmas.{one_tree_at}
use Rattle.mdc_sound.proofs.TableSpotRowsLemmas.{used_differ}
use Rattle.block_rows.specs.HeldRows.{placed_row}
use Rattle.block_rows.specs.declared.hit.Hit.{Hit}
use Rattle.file_check.specs.BlockEntries.{BreaksEntryCount, HasEntry, HasEntryCount, IsBlockEntered, IsFirstEntered, LacksBlock, LacksEntry, LacksFirst}
use Rattle.file_check.specs.BlocksJudged.{IsLineCounted}
use Rattle.file_check.specs.Judging.{BreaksAny, Judges, JudgesEach, lower}
use Rattle.file_check.specs.KnownTables.{StandIndexes, TableHasCells}
use Rattle.file_check.specs.Looking.{AnyPage, Unless}
use Rattle.file_check.specs.TableIndexes.{BreaksPlace, IsPlaceSound, IsSoundTree, JudgesIndexes, PlacedIndex, UnlessTree, entries_of_blocks, entry_of_kind, index_of_dimension, indexes_of_kind, place_of_index}
use Rattle.file_check.specs.declared.table_index.IndexKind.TheVariants.{Blocks}
use Rattle.file_check.specs.declared.table_index.TableIndex.{TableIndex}
use Rattle.file_check.proofs.BlockMapsLemmas.{block_within, line_of_entry}
use Rattle.file_check.proofs.JudgingLemmas.{breaks_any-member, judges_as, judges_both, member-breaks_any}
use Rattle.file_check.proofs.RowEntriesLemmas.{unless_tree}
use Rattle.file_check.proofs.TableJudgingLemmas.{lower-none, member_at, place_next}

-- ---- lists whose members differ

-- the first isn't among the others, and these differ
first_apart : {X : Type 0} (x : X) (xs : List X) (y : X) → AllPairs (λ a b. a ≢ b) (x ∷ xs) → Contains xs y → x ≢ y
first_apart x xs y differ (k, low, at) same = differ 0 (suc k) y (omega arith) (omega (arith, low)) (same ∙ sym at)

others_differ : {X : Type 0} (x : X) (xs : List X) → AllPairs (λ a b. a ≢ b) (x ∷ xs) → AllPairs (λ a b. a ≢ b) xs
others_differ x xs differ i j d low high = differ (suc i) (suc j) d (omega (arith, low)) (omega (arith, high))

module _ {X : Type 0} (x : X) (xs ys : List X) (differ : AllPairs (λ a b. a ≢ b) (x ∷ xs)) (within : (y : X) → Contains (x ∷ xs) y → Contains ys y) where
  -- where the first stands in another list
  abbrev place : ℕ
  place = (within x (0, omega arith, refl)).0

  -- and what that one has besides
  abbrev others : List X
  others = remove ys place

  moved : IsPermutation ys (x ∷ others)
  moved = IsPermutation-remove ys place x (within x (0, omega arith, refl)).1 (sym (within x (0, omega arith, refl)).2)

  count : length ys ≡ suc (length others)
  count = sym (length_permutation ys (x ∷ others) moved)

  split : (y : X) → Contains ys y → (x ≡ y) ⊎ Contains others y
  split y there = contains_cases y x others (Contains-permutation ys (x ∷ others) y moved there)

  rest_within : (y : X) → Contains xs y → Contains others y
  rest_within y there = elim (split y (within y (contains_more y x xs there))) [ inl same ↦ absurd (first_apart x xs y differ there same) | inr c ↦ c ]

-- a list that is within another has no more members
pub no_longer : {X : Type 0} (xs ys : List X) → AllPairs (λ a b. a ≢ b) xs → ((y : X) → Contains xs y → Contains ys y) → length xs ≤ length ys
no_longer [] ys differ within = omega arith
no_longer (x ∷ xs) ys differ within =
    omega (arith, count x xs ys differ within, no_longer xs (others x xs ys differ within) (others_differ x xs differ) (rest_within x xs ys differ within))

-- and where it has as many it has them all
pub has_all : {X : Type 0} (xs ys : List X) → AllPairs (λ a b. a ≢ b) xs → ((y : X) → Contains xs y → Contains ys y) → length ys ≡ length xs → (y : X) → Contains ys y → Contains xs y
has_all [] ys differ within same y (k, low, at) = absurd (omega (arith, low, same))
has_all (x ∷ xs) ys differ within same y there = elim (split x xs ys differ within y there) [
  | inl is ↦ (0, omega arith, is)
  | inr c ↦ contains_more y x xs
      (has_all xs (others x xs ys differ within) (others_differ x xs differ) (rest_within x xs ys differ within) (omega (arith, same, count x xs ys differ within)) y c)
]

-- what can't fail of any can't fail of all
all_stable : {X : Type 0} (P : X → Type 0) (xs : List X) → ((x : X) → Contains xs x → (P x → ⊥) → ⊥) → (AllByRecursion P xs → ⊥) → ⊥
all_stable P [] each none = none tt
all_stable P (x ∷ xs) each none = each x (0, omega arith, refl) (λ here. all_stable P xs (λ y there. each y (contains_more y x xs there)) (λ all. none (here, all)))

-- the same judged in other words, where the other way round can't fail
judges_stable : {P Q : Type 0} {A B : ℕ → Type 0} (found : Option ℕ) → (P → Q) → ((p : ℕ) → A p → B p) → ((p : ℕ) → B p → (A p → ⊥) → ⊥) → Judges P A found → Judges Q B found
judges_stable None holds there back judged = record { holds = holds judged.holds; unbroken = λ p broken. back p broken (judged.unbroken p) }
judges_stable (Some page) holds there back judged = record {
  breaks = there page judged.breaks;
  lowest = λ p broken. elim (cases_lt p page) [ inl under ↦ absurd (back p broken (λ a. omega (arith, under, judged.lowest p a))) | inr over ↦ over ];
}

-- ---- entries

same_ends : (xs ys a b : List ℕ) → length xs ≡ length ys → xs ++ a ≡ ys ++ b → a ≡ b
same_ends [] [] a b l e = e
same_ends [] (y ∷ ys) a b l e = absurd (omega (arith, l))
same_ends (x ∷ xs) [] a b l e = absurd (omega (arith, l))
same_ends (x ∷ xs) (y ∷ ys) a b l e = same_ends xs ys a b (omega (arith, l)) (cc)

-- entries that are the same name one block
same_block : (xs ys : List ℕ) (a b : ℕ) → a < 2 ^ 32 → b < 2 ^ 32 → xs ++ big_bytes 4 a ≡ ys ++ big_bytes 4 b → a ≡ b
same_block xs ys a b la lb e =
    let total = ap length e in
    let fronts : length xs ≡ length ys = omega (arith, total, length-append xs (big_bytes 4 a), length-append ys (big_bytes 4 b)) in
    let ends = same_ends xs ys (big_bytes 4 a) (big_bytes 4 b) fronts e in
    sym (mod-eq_of_lt la) ∙ sym (big_from-bytes 4 a []) ∙ ap (big_number 4) (ap (λ (zs : List ℕ). zs ++ []) ends) ∙ big_from-bytes 4 b [] ∙ mod-eq_of_lt lb

-- no entry stands twice in a tree
tree_differs : (pages : PageList) (at : TreePlace) (tree : Forest) → HasTree pages at tree → AllPairs (λ a b. a ≢ b) (leaf_entries tree)
tree_differs pages at tree has = rising_differ (leaf_entries tree) (Fits-entries None None [] tree has.is_tree.fits)

-- ---- the indexes of blocks

zip_first : {X Y : Type 0} (xs : List X) (ys : List Y) (pair : X × Y) → Contains (zip xs ys) pair → Contains xs pair.0
zip_first [] ys pair (k, low, at) = absurd (omega (arith, low))
zip_first (x ∷ xs) [] pair (k, low, at) = absurd (omega (arith, low))
zip_first {X} {Y} (x ∷ xs) (y ∷ ys) pair there = elim (contains_cases pair (x, y) (zip xs ys) there) [
  | inl is ↦ (0, omega arith, ap (λ (p : X × Y). p.0) is)
  | inr c ↦ contains_more pair.0 x xs (zip_first xs ys pair c)
]

-- rows of one cell have one key in each
same_key : (def : TableDef) (index : PlacedIndex) (a b : List Value) → Contains (indexes_of_kind Blocks def) index → AreOfOneCell def a b → key_bytes def.columns index.parts a ≡ key_bytes def.columns index.parts b
same_key def index a b there one =
    elim (contains_cases index (record { place = composite_place def; parts = cell_parts def }) (map (index_of_dimension def) (zip def.dims def.roots.dims)) there) [
      | inl is ↦ subst (λ (parts : List KeyPart). key_bytes def.columns parts a ≡ key_bytes def.columns parts b) (ap (λ (i : PlacedIndex). i.parts) is) (cell_key-same def a b one)
      | inr c ↦ let pair = from_map (index_of_dimension def) (zip def.dims def.roots.dims) index c in
          subst (λ (parts : List KeyPart). key_bytes def.columns parts a ≡ key_bytes def.columns parts b) (ap (λ (i : PlacedIndex). i.parts) pair.2)
          (dimension_key-same def pair.0.0 a b (zip_first def.dims def.roots.dims pair.0 pair.1) one)
    ]

-- the entry of the first of some rows
abbrev first_entry : TableDef → List KeyPart → List PlacedRow → Entry
first_entry def parts [] = []
first_entry def parts (placed ∷ rows) = entry_of_kind Blocks def parts placed

first_entry_is : (def : TableDef) (parts : List KeyPart) (rows : List PlacedRow) (placed : PlacedRow) → slice_get rows 0 ≡ Some placed → first_entry def parts rows ≡ entry_of_kind Blocks def parts placed
first_entry_is def parts [] placed is = absurd (cc)
first_entry_is def parts (x ∷ rows) placed is = ap (entry_of_kind Blocks def parts) (same_Some x placed is)

first_there : (rows : List PlacedRow) (placed : PlacedRow) → slice_get rows 0 ≡ Some placed → Contains rows placed
first_there [] placed is = absurd (cc)
first_there (x ∷ rows) placed is = (0, omega arith, same_Some x placed is)

some_first : (rows : List PlacedRow) → 0 < length rows → (placed : PlacedRow) × (slice_get rows 0 ≡ Some placed)
some_first [] some = absurd (omega (arith, some))
some_first (x ∷ rows) some = (x, refl)

-- what holds of each two rows, and of each with itself, holds of the first and any
with_first : (R : PlacedRow → PlacedRow → Type 0) (rows : List PlacedRow) (first placed : PlacedRow) → ((x : PlacedRow) → R x x) → AllPairs R rows → slice_get rows 0 ≡ Some first → Contains rows placed → R first placed
with_first R [] first placed itself pairs is there = absurd (cc)
with_first R (x ∷ rows) first placed itself pairs is there = elim (contains_cases placed x rows there) [
  | inl same ↦ subst (λ (y : PlacedRow). R y placed) (same_Some x first is) (subst (R x) same (itself x))
  | inr c ↦ subst (λ (y : PlacedRow). R y placed) (same_Some x first is) (subst (R x) c.2 (pairs 0 (suc c.0) placed (omega arith) (omega (arith, c.1))))
]

-- images of members that differ, where no two members have one image
images_differ : {X Y : Type 0} (f : X → Y) (xs : List X) → ((a b : X) → Contains xs a → Contains xs b → f a ≡ f b → a ≡ b) → AllPairs (λ a b. a ≢ b) xs → AllPairs (λ a b. a ≢ b) (map f xs)
images_differ f [] apart differ i j d low high same = omega (arith, high)
images_differ f (x ∷ xs) apart differ i j d low high same =
    let there : j < length (x ∷ xs) = omega (arith, high, length-map (x ∷ xs) f) in
    let here : i < length (x ∷ xs) = omega (arith, low, there) in
    differ i j x low there
    (apart (get_or (x ∷ xs) i x) (get_or (x ∷ xs) j x) (Contains-get_or (x ∷ xs) i x here) (Contains-get_or (x ∷ xs) j x there)
    (sym (get_or-map f (x ∷ xs) i x d here) ∙ (same ∙ get_or-map f (x ∷ xs) j x d there)))

module _ (shape : Shape) (pages : PageList) (def : TableDef) (map_tree : Forest) (known : TableHasCells shape pages def map_tree) where
  abbrev used : List ℕ
  used = used_blocks map_tree

  abbrev rows_at : ℕ → List PlacedRow
  rows_at = rows_in_block shape pages def

  -- a Used block has a row
  first_row : (block : ℕ) → Contains used block → (placed : PlacedRow) × (slice_get (rows_at block) 0 ≡ Some placed)
  first_row block there =
      let line = used_line map_tree block there in
      let counted = each_of (IsLineCounted shape pages def) (map_lines map_tree) (map_line line.entry) known.counts (line_of_entry (leaf_entries map_tree) line.entry line.there) in
      let some : 0 < (map_line line.entry).rows = counted.used.some_row line.used in
      let count : (map_line line.entry).rows ≡ length (rows_at block) = counted.used.counted line.used ∙ ap (λ b. length (rows_at b)) line.block_is in
      some_first (rows_at block) (omega (arith, some, count))

  block_of_row : (block : ℕ) (placed : PlacedRow) → Contains (rows_at block) placed → placed.rid.block ≡ block
  block_of_row block placed there = (slot_of_placed block 0 (block_slots shape pages def block) placed there).1

  module _ (index : PlacedIndex) (is_index : Contains (indexes_of_kind Blocks def) index) where
    abbrev entry_of : PlacedRow → Entry
    entry_of = entry_of_kind Blocks def index.parts

    abbrev wanted : List Entry
    wanted = entries_of_blocks Blocks shape pages def index.parts used

    abbrev first_at : ℕ → Entry
    first_at block = first_entry def index.parts (rows_at block)

    -- all rows of a block have the entry of the first
    same_entry : (block : ℕ) (placed : PlacedRow) → Contains used block → Contains (rows_at block) placed → first_at block ≡ entry_of placed
    same_entry block placed there at =
        let first = first_row block there in
        let one : AreOfOneCell def first.0.row.values placed.row.values =
        with_first (λ a b. AreOfOneCell def a.row.values b.row.values) (rows_at block) first.0 placed (λ x. refl) (each_of (IsOfOneCell shape pages def) used block known.cells there) first.1 at in
        let blocks : first.0.rid.block ≡ placed.rid.block = block_of_row block first.0 (first_there (rows_at block) first.0 first.1) ∙ sym (block_of_row block placed at) in
        first_entry_is def index.parts (rows_at block) first.0 first.1
        ∙ (ap (λ (key : List ℕ). key ++ big_bytes 4 first.0.rid.block) (same_key def index first.0.row.values placed.row.values is_index one)
        ∙ ap (λ (b : ℕ). key_bytes def.columns index.parts placed.row.values ++ big_bytes 4 b) blocks)

    -- which is wanted
    first_wanted : (block : ℕ) → Contains used block → Contains wanted (first_at block)
    first_wanted block there =
        let first = first_row block there in
        let at = first_there (rows_at block) first.0 first.1 in
        subst (Contains wanted) (sym (first_entry_is def index.parts (rows_at block) first.0 first.1))
        (in_map entry_of (flat_map rows_at used) first.0 (contains_flat rows_at used block first.0 there at))

    -- and each that is wanted is that of a block
    wanted_first : (entry : Entry) → Contains wanted entry → (block : ℕ) × Contains used block × (first_at block ≡ entry)
    wanted_first entry there =
        let placed = from_map entry_of (flat_map rows_at used) entry there in
        let block = flat_contains rows_at used placed.0 placed.1 in
        (block.0, block.1, same_entry block.0 placed.0 block.1 block.2 ∙ placed.2)

    -- blocks that differ have entries that differ
    firsts_differ : AllPairs (λ a b. a ≢ b) (map first_at used)
    firsts_differ = images_differ first_at used apart (used_differ map_tree known.rows.trees.map.form.once_each)
      where
        small : (block : ℕ) → Contains used block → block < 2 ^ 32
        small block there = small_block shape block (block_within shape.extents 1 map_tree block known.rows.trees.map.within there)

        apart : (a b : ℕ) → Contains used a → Contains used b → first_at a ≡ first_at b → a ≡ b
        apart a b at_a at_b same =
            let fa = first_row a at_a in
            let fb = first_row b at_b in
            let block_a = block_of_row a fa.0 (first_there (rows_at a) fa.0 fa.1) in
            let block_b = block_of_row b fb.0 (first_there (rows_at b) fb.0 fb.1) in
            sym block_a
            ∙ (same_block (key_bytes def.columns index.parts fa.0.row.values) (key_bytes def.columns index.parts fb.0.row.values) fa.0.rid.block fb.0.rid.block
            (subst (λ (n : ℕ). n < 2 ^ 32) (sym block_a) (small a at_a)) (subst (λ (n : ℕ). n < 2 ^ 32) (sym block_b) (small b at_b))
            (sym (first_entry_is def index.parts (rows_at a) fa.0 fa.1) ∙ (same ∙ first_entry_is def index.parts (rows_at b) fb.0 fb.1))
            ∙ block_b)

    module _ (tree : Forest) (has : HasTree pages index.place tree) where
      -- an index with these and as many entries is sound
      sound_of : AllByRecursion (λ block. Contains (leaf_entries tree) (first_at block)) used → length (leaf_entries tree) ≡ length used → IsSoundTree Blocks shape pages def map_tree index tree
      sound_of all same = record {
        has = λ entry there.
            let block = wanted_first entry there in
            subst (Contains (leaf_entries tree)) block.2 (listed block.0 block.1);
        only = λ entry there.
            let block = from_map first_at used entry (has_all (map first_at used) (leaf_entries tree) firsts_differ within (same ∙ sym (length-map used first_at)) entry there) in
            inl (subst (Contains wanted) block.2 (first_wanted block.0 block.1));
      }
        where
          listed : (block : ℕ) → Contains used block → Contains (leaf_entries tree) (first_at block)
          listed block there = each_of (λ b. Contains (leaf_entries tree) (first_at b)) used block all there

          within : (entry : Entry) → Contains (map first_at used) entry → Contains (leaf_entries tree) entry
          within entry there = let block = from_map first_at used entry there in subst (Contains (leaf_entries tree)) block.2 (listed block.0 block.1)

      -- and one that is sound has as many
      count_of : IsSoundTree Blocks shape pages def map_tree index tree → length (leaf_entries tree) ≡ length used
      count_of sound =
          let least = no_longer (map first_at used) (leaf_entries tree) firsts_differ within in
          let most = no_longer (leaf_entries tree) (map first_at used) (tree_differs pages index.place tree has) back in
          omega (arith, least, most, length-map used first_at)
        where
          within : (entry : Entry) → Contains (map first_at used) entry → Contains (leaf_entries tree) entry
          within entry there = let block = from_map first_at used entry there in subst (Contains (leaf_entries tree)) block.2 (sound.has (first_at block.0) (first_wanted block.0 block.1))

          one_of : (entry : Entry) → Contains wanted entry ⊎ Contains [] (number_within (width_of_parts def.columns index.parts) 4 entry) → Contains (map first_at used) entry
          one_of entry (inl c) = let block = wanted_first entry c in subst (Contains (map first_at used)) block.2 (in_map first_at used block.0 block.1)
          one_of entry (inr (k, low, at)) = absurd (omega (arith, low))

          back : (entry : Entry) → Contains (leaf_entries tree) entry → Contains (map first_at used) entry
          back entry there = one_of entry (sound.only entry there)

  -- ---- all of them

  abbrev indexes : List PlacedIndex
  indexes = indexes_of_kind Blocks def

  abbrev AnyLacks : ℕ → Type 0
  AnyLacks = BreaksAny (LacksBlock shape pages def) used

  abbrev AnyBreaksCount : ℕ → Type 0
  AnyBreaksCount = BreaksAny (BreaksEntryCount pages (length used)) indexes

  all_sound : AllByRecursion (IsBlockEntered shape pages def) used × AllByRecursion (HasEntryCount pages (length used)) indexes → AllByRecursion (IsPlaceSound Blocks shape pages def map_tree) indexes
  all_sound both = each_in (IsPlaceSound Blocks shape pages def map_tree) indexes (λ index there tree has. sound_of index there tree has
      (each_in (λ block. Contains (leaf_entries tree) (first_entry def index.parts (rows_at block))) used (λ block at. entered index there tree has block at))
      (each_of (HasEntryCount pages (length used)) indexes index both.1 there tree has))
    where
      entered : (index : PlacedIndex) → Contains indexes index → (tree : Forest) → HasTree pages index.place tree → (block : ℕ) → Contains used block → Contains (leaf_entries tree) (first_entry def index.parts (rows_at block))
      entered index there tree has block at =
          let first = first_row block at in
          subst (Contains (leaf_entries tree)) (sym (first_entry_is def index.parts (rows_at block) first.0 first.1))
          (each_of (HasEntry pages def first.0) indexes index (each_of (IsBlockEntered shape pages def) used block both.0 at first.0 first.1) there tree has)

  some_broken : (p : ℕ) → AnyLacks p ⊎ AnyBreaksCount p → BreaksAny (BreaksPlace Blocks shape pages def map_tree) indexes p
  some_broken p (inl lacks) =
      let block = member-breaks_any (LacksBlock shape pages def) used p lacks in
      let first = block.2 in
      let index = member-breaks_any (LacksEntry pages def first.0) indexes p first.2 in
      breaks_any-member (BreaksPlace Blocks shape pages def map_tree) indexes index.0 p index.1 (
        index.2.0,
        λ tree has sound. index.2.1 tree has (sound.has (entry_of_kind Blocks def index.0.parts first.0)
            (in_map (entry_of_kind Blocks def index.0.parts) (flat_map rows_at used) first.0 (contains_flat rows_at used block.0 first.0 block.1 (first_there (rows_at block.0) first.0 first.1)))),
      )
  some_broken p (inr counts) =
      let index = member-breaks_any (BreaksEntryCount pages (length used)) indexes p counts in
      breaks_any-member (BreaksPlace Blocks shape pages def map_tree) indexes index.0 p index.1
      (index.2.0, λ tree has sound. index.2.1 tree has (count_of index.0 index.1 tree has sound))

  none_broken : (p : ℕ) → BreaksAny (BreaksPlace Blocks shape pages def map_tree) indexes p → (AnyLacks p ⊎ AnyBreaksCount p → ⊥) → ⊥
  none_broken p broken none =
      let index = member-breaks_any (BreaksPlace Blocks shape pages def map_tree) indexes p broken in
      let tree = known.rows.trees.indexes Blocks index.0 index.1 in
      go index.0 index.1 index.2.0 index.2.1 tree.0 tree.1 (cases_eq (length (leaf_entries tree.0)) (length used))
    where
      go : (index : PlacedIndex) → Contains indexes index → p ≡ index.place.root → ((tree : Forest) → HasTree pages index.place tree → IsSoundTree Blocks shape pages def map_tree index tree → ⊥)
          → (tree : Forest) → HasTree pages index.place tree → (length (leaf_entries tree) ≡ length used) ⊎ (length (leaf_entries tree) ≢ length used) → ⊥
      go index there root unsound tree has (inr other) =
          none (inr (breaks_any-member (BreaksEntryCount pages (length used)) indexes index p there
          (root, λ t stands same. other (ap (λ (f : Forest). length (leaf_entries f)) (one_tree_at pages index.place tree t has stands) ∙ same))))
      go index there root unsound tree has (inl same) =
          all_stable (λ block. Contains (leaf_entries tree) (first_entry def index.parts (rows_at block))) used
          (λ block at lacks.
          let first = first_row block at in
          none (inl (breaks_any-member (LacksBlock shape pages def) used block p at (
            first.0,
            first.1,
            breaks_any-member (LacksEntry pages def first.0) indexes index p there (
              root,
              λ t stands listed. lacks (subst (λ (f : Forest). Contains (leaf_entries f) (first_entry def index.parts (rows_at block))) (one_tree_at pages index.place t tree stands has)
                  (subst (Contains (leaf_entries t)) (sym (first_entry_is def index.parts (rows_at block) first.0 first.1)) listed)),
            ),
          ))))
          (λ all. unsound tree has (sound_of index there tree has all same))

  -- the block indexes are judged
  pub judges_block_indexes : (lacking other : Option ℕ) → JudgesEach (IsBlockEntered shape pages def) (LacksBlock shape pages def) used lacking
      → JudgesEach (HasEntryCount pages (length used)) (BreaksEntryCount pages (length used)) indexes other → JudgesIndexes Blocks shape pages def map_tree (lower lacking other)
  judges_block_indexes lacking other entered counted =
      judges_stable {P = AllByRecursion (IsBlockEntered shape pages def) used × AllByRecursion (HasEntryCount pages (length used)) indexes} {Q = AllByRecursion (IsPlaceSound Blocks shape pages def map_tree) indexes}
      {A = λ p. AnyLacks p ⊎ AnyBreaksCount p} {B = BreaksAny (BreaksPlace Blocks shape pages def map_tree) indexes}
      (lower lacking other) all_sound some_broken none_broken
      (judges_both (AllByRecursion (IsBlockEntered shape pages def) used) (AllByRecursion (HasEntryCount pages (length used)) indexes) AnyLacks AnyBreaksCount lacking other entered counted)

-- ---- the indexes, one after the other

-- The index in a place is in hand, behind calls that read others.
pub record BlockIndexInHand {S : Type 0} (g : Ghosts S) (def : TableDef) (old now : S) (i : ℕ) (index : TableIndex) : Type 0 where
  pub kind_is : index.kind ≡ Blocks
  pub place_is : slice_get (indexes_of_kind Blocks def) i ≡ Some (place_of_index index)
  pub same : (g.state now).work ≡ (g.state old).work
  pub runs : RunsOverPages g NoPage AnyPage (Unless g old (λ told. StandIndexes Blocks told def)) old now None

module _ {S : Type 0} {g : Ghosts S} {def : TableDef} {old now : S} {i : ℕ} {index : TableIndex} (is : BlockIndexInHand g def old now i index) where
  tree_there : StandIndexes Blocks (g.state old).work def → (tree : Forest) × HasTree (g.state old).work (place_of_tree index.tree) tree
  tree_there stands = stands (place_of_index index) (member_at (indexes_of_kind Blocks def) i (place_of_index index) is.place_is)

  -- it is read
  pub runs_in_index : {new : S} {fault : Option StoreFault} → RunsOverPages g NoPage AnyPage (UnlessTree g now (place_of_tree index.tree)) now new fault
      → RunsOverPages g NoPage AnyPage (Unless g old (λ told. StandIndexes Blocks told def)) old new fault
  runs_in_index run =
      runs_then is.runs run (λ p there mine. mine) (λ p any. any)
      (λ damage unless told stands.
      let tree = tree_there stands in
      unless (is.runs.works.steady.is_told ∙ told) tree.0 (subst (λ (pages : PageList). HasTree pages (place_of_tree index.tree) tree.0) (sym is.same) tree.1))

  -- and read whole
  pub runs_whole : {new : S} {fault : Option StoreFault} → RunsOverPages g NoPage AnyPage (BreaksTree g now index.tree) now new fault
      → RunsOverPages g NoPage AnyPage (Unless g old (λ told. StandIndexes Blocks told def)) old new fault
  runs_whole run = runs_in_index (runs_wider run (λ p there mine. mine) (λ p any. any) (λ damage b. unless_tree now now index.tree damage refl refl b))

  -- what was looked for in it holds of its tree, or doesn't
  module _ (Holds : PlacedIndex → Forest → Type 0) (stands : StandIndexes Blocks (g.state old).work def) where
    abbrev AllHold : PlacedIndex → Type 0
    AllHold x = (tree : Forest) → HasTree (g.state old).work x.place tree → Holds x tree

    abbrev NoneHolds : PlacedIndex → ℕ → Type 0
    NoneHolds x p = (p ≡ x.place.root) × ((tree : Forest) → HasTree (g.state old).work x.place tree → Holds x tree → ⊥)

    pub holds_next : (lowest : Option ℕ) → JudgesEach AllHold NoneHolds (take i (indexes_of_kind Blocks def)) lowest → AllHold (place_of_index index)
        → JudgesEach AllHold NoneHolds (take (i + 1) (indexes_of_kind Blocks def)) lowest
    holds_next lowest before here =
        let tree = tree_there stands in
        subst (JudgesEach AllHold NoneHolds (take (i + 1) (indexes_of_kind Blocks def))) (lower-none lowest)
        (place_next AllHold NoneHolds (indexes_of_kind Blocks def) i (place_of_index index) lowest None is.place_is before (record { holds = here; unbroken = λ p breaks. breaks.1 tree.0 tree.1 (here tree.0 tree.1) }))

    pub breaks_next : (lowest low : Option ℕ) → JudgesEach AllHold NoneHolds (take i (indexes_of_kind Blocks def)) lowest → low ≡ lower lowest (Some index.tree.root)
        → ((tree : Forest) → HasTree (g.state old).work (place_of_tree index.tree) tree → Holds (place_of_index index) tree → ⊥)
        → JudgesEach AllHold NoneHolds (take (i + 1) (indexes_of_kind Blocks def)) low
    breaks_next lowest low before lowered none =
        subst (JudgesEach AllHold NoneHolds (take (i + 1) (indexes_of_kind Blocks def))) (sym lowered)
        (place_next AllHold NoneHolds (indexes_of_kind Blocks def) i (place_of_index index) lowest (Some index.tree.root) is.place_is before
        (record { breaks = (refl, none); lowest = λ p breaks. omega (arith, breaks.0) }))

-- ---- the first row

-- there is none
pub no_first : (pages : PageList) (def : TableDef) (rows : List Hit) → length rows ≡ 0 → Judges (IsFirstEntered pages def (map placed_row rows)) (LacksFirst pages def (map placed_row rows)) None
no_first pages def [] none = record { holds = λ placed is. absurd (cc); unbroken = λ p lacks. (let is = lacks.1 in absurd (cc)) }
no_first pages def (row ∷ rows) none = absurd (omega (arith, none))

-- or it was looked for
pub first_judged : (pages : PageList) (def : TableDef) (rows : List Hit) (first : Hit) (found : Option ℕ) → 0 < length rows → first ≡ get_or rows 0 first
    → JudgesEach (HasEntry pages def (placed_row first)) (LacksEntry pages def (placed_row first)) (indexes_of_kind Blocks def) found
    → Judges (IsFirstEntered pages def (map placed_row rows)) (LacksFirst pages def (map placed_row rows)) found
first_judged pages def [] first found some is judged = absurd (omega (arith, some))
first_judged pages def (row ∷ rows) first found some is judged =
    judges_as {P = AllByRecursion (HasEntry pages def (placed_row first)) (indexes_of_kind Blocks def)} {Q = IsFirstEntered pages def (map placed_row (row ∷ rows))}
    {A = BreaksAny (LacksEntry pages def (placed_row first)) (indexes_of_kind Blocks def)} {B = LacksFirst pages def (map placed_row (row ∷ rows))} found
    (λ all placed at. subst (λ (p : PlacedRow). AllByRecursion (HasEntry pages def p) (indexes_of_kind Blocks def)) (same placed at) all)
    (λ p b. (placed_row first, ap Some (ap placed_row (sym is)), b))
    (λ p b. subst (λ (x : PlacedRow). BreaksAny (LacksEntry pages def x) (indexes_of_kind Blocks def) p) (sym (same b.0 b.1)) b.2) judged
  where
    same : (placed : PlacedRow) → slice_get (map placed_row (row ∷ rows)) 0 ≡ Some placed → placed_row first ≡ placed
    same placed at = ap placed_row is ∙ same_Some (placed_row row) placed at
