-- What a sound and tight table has: its spots are tight, and its trees have no more entries than it has Used blocks or rows.
use Rattle.std.proofs.Common.{◌≡◌, ◌≢◌, ◌<◌, ◌≤◌, ◌==◌, ℕ, zero, suc, Bool, true, false, Some, None, List, [], ◌∷◌, ◌++◌, length, map, replicate, set, get_or, refl, ap, arith, sym, subst, ◌∙◌, ◌⊎◌, inl, inr}
use Rattle.std.specs.Prelude.{AllPairs, Contains, IsTrue, count_by, slice_index_or, sum_by}
use Rattle.std.specs.List.{AllByRecursion}
use Rattle.std.proofs.lemmas.Bool.{cases_eq, cases_lt, ne_eqb}
use Rattle.std.proofs.lemmas.List.{get_or-replicate, get_or-set_other, get_or_past, length-map}
use Rattle.std.proofs.lemmas.List.Sums.{sum_by-cons, sum_by-set}
use Rattle.std.proofs.lemmas.List.Sorted.{length_permutation}
use Rattle.byteorder.specs.Endian.{big_bytes}
use Rattle.mdc_words.specs.ByteOrder.{Entry, below}
use Rattle.mdc_ast.specs.Database.{fits_all}
use Rattle.mdc_ast.specs.FittingRows.{RowFits}
use Rattle.mdc_ast.specs.declared.definition.IndexDef.{IndexDef}
use Rattle.mdc_ast.specs.declared.definition.KeyPart.{KeyPart}
use Rattle.mdc_ast.specs.declared.definition.TableDef.{TableDef}
use Rattle.mdc_ast.specs.declared.row.Row.{Row}
use Rattle.store_api.specs.declared.shape.Shape.{Shape}
use Rattle.extent_map.specs.Owners.{owner_of}
use Rattle.extent_map.specs.declared.kind.Kind.{Kind}
use Rattle.extent_map.specs.declared.kind.Kind.TheVariants.{Free, Block, Index}
use Rattle.key_codec.specs.Keys.{key_bytes}
use Rattle.entry_tree.specs.EntryBounds.{Bound, Climbs, Rises}
use Rattle.entry_tree.specs.Forest.{Forest, leaf_entries}
use Rattle.entry_tree.proofs.EntryBoundsLemmas.{below_itself, below_trans}
use Rattle.entry_tree.proofs.LeafFromLemmas.{Fits-entries}
use Rattle.block_map.specs.MapLines.{MapLine, free_blocks, map_line, map_lines, mapped_blocks, pending_blocks, used_blocks}
use Rattle.block_map.proofs.MapLinesLemmas.{contains_cases, contains_more, named_entry}
use Rattle.table_trees.specs.RowCells.{AreOfOneCell, cell_values}
use Rattle.table_trees.specs.TableTrees.{TreePlace, cell_parts, rising_parts}
use Rattle.table_trees.specs.ToldPages.{HasTree, PageList}
use Rattle.mdc_sound.specs.BlockLines.{mapped_line}
use Rattle.mdc_sound.specs.BlockRules.{AreLineRowsSound, IsBlockIndexSound, IsLineOfOneCell, IsSoundIndex, IsUsedCountSound, block_in_entry, entry_of_block, entry_of_row}
use Rattle.mdc_sound.specs.Placing.{Spot, block_slot_count, rows_from_spot, table_spots}
use Rattle.mdc_sound.specs.Placing.Spot.{OtherBlock, UsedBlock}
use Rattle.mdc_sound.specs.SpaceRules.{IsBlockMapSound, IsMapLineSound}
use Rattle.mdc_sound.specs.TableRows.{PlacedRow, block_slots, rows_from_slot, rows_in_table}
use Rattle.mdc_sound.specs.TightPages.{HaveRoomOnce}
use Rattle.mdc_sound.proofs.BlockRulesLemmas.{each_of, line_at}
use Rattle.mdc_sound.proofs.CellKeysLemmas.{cell_key-same, dimension_key-same}
use Rattle.mdc_sound.proofs.ElementsLemmas.{each_in, flat_contains, from_map}
use Rattle.mdc_sound.proofs.MappedBlocksLemmas.{used_line}
use Rattle.mdc_sound.proofs.SlotRowsLemmas.{length-block_slots, length-rows_from_slot, placed_in_slot, slot_of_placed}
use Rattle.mdc_sound.proofs.TableSpotRowsLemmas.{rows_of_spots}
use Rattle.mdc_sound.proofs.TableSpotsLemmas.ShownSpot.{free_block, free_extent, index_extent, other_block, pending_block, used_block}
use Rattle.mdc_sound.proofs.TableSpotsLemmas.{ShownSpot, first_differs, length-spots, rest_differs, shown, used_spot}
use Rattle.tight_space.proofs.TightSpotsLemmas.{AreTightSpots, IsGoodBlock, IsGoodSpot, all_rows, all_rows_placed, used_by, used_count}
use Rattle.table_trees.proofs.PlaceCountsLemmas.{one_if}

-- ---- as many as there are places

-- no element stands twice
abbrev pub Differ : {X : Type 0} → List X → Type 0
Differ [] = Unit {0}
Differ (x ∷ xs) = (Contains xs x → ⊥) × Differ xs

-- elements that differ, each in a Used block of its own
most_used : {X : Type 0} (R : X → ℕ → Type 0) → ((x y : X) (b : ℕ) → R x b → R y b → x ≡ y) → (xs : List X) (spots : List Spot) → Differ xs
    → ((x : X) → Contains xs x → (b : ℕ) × (used_by (get_or spots b OtherBlock) ≡ 1) × R x b) → length xs ≤ used_count spots
most_used R one [] spots differ each = omega arith
most_used R one (x ∷ xs) spots differ each =
    let (b, used, is) = each x (0, omega arith, refl) in
    let low : b < length spots = elim (cases_lt b (length spots)) [ inl less ↦ less | inr past ↦ absurd (omega (arith, used, ap used_by (get_or_past spots b OtherBlock past))) ] in
    omega (
      arith,
      most_used R one xs (set spots b OtherBlock) differ.1
          (λ y there. (
          let (c, used_c, is_c) = each y (contains_more y x xs there) in
          (c, ap used_by (get_or-set_other spots b c OtherBlock OtherBlock (λ same. differ.0 (subst (Contains xs) (one y x b (subst (R y) same is_c) is) there))) ∙ used_c, is_c))),
      sum_by-set used_by spots b OtherBlock OtherBlock low,
      used,
    )

used_replicate : (n : ℕ) → used_count (replicate n (UsedBlock [])) ≡ n
used_replicate zero = refl
used_replicate (suc n) = omega (arith, used_replicate n, sum_by-cons used_by (UsedBlock []) (replicate n (UsedBlock [])))

-- elements that differ are no more than those among which they are
most_among : {X : Type 0} (xs ys : List X) → Differ xs → ((x : X) → Contains xs x → Contains ys x) → length xs ≤ length ys
most_among xs ys differ there =
    omega (
      arith,
      most_used (λ x b. slice_index_or ys b x ≡ x × (b < length ys)) (λ x y b is_x is_y. sym is_x.0 ∙ (same_default ys b x y is_x.1 ∙ is_y.0)) xs (replicate (length ys) (UsedBlock [])) differ
          (λ x in_xs. (let (b, low, at) = there x in_xs in (b, ap used_by (get_or-replicate (length ys) b (UsedBlock []) OtherBlock low), (at, low)))),
      used_replicate (length ys),
    )
  where
    same_default : {X : Type 0} (ys : List X) (b : ℕ) (d e : X) → b < length ys → slice_index_or ys b d ≡ slice_index_or ys b e
    same_default [] b d e low = absurd (omega (arith, low))
    same_default (y ∷ ys) zero d e low = refl
    same_default (y ∷ ys) (suc b) d e low = same_default ys b d e (omega (arith, low))

-- ---- entries that rise

climbs_apart : (x last : Entry) (high : Bound) (xs : List Entry) → Climbs last high xs → (x ≡ last) ⊎ (below x last ≡ true) → Contains xs x → ⊥
climbs_apart x last high [] h le (k, low, at) = omega (arith, low)
climbs_apart x last high (y ∷ xs) h le there =
    let less : below x y ≡ true = elim le [ inl same ↦ subst (λ (z : Entry). below z y ≡ true) (sym same) h.0 | inr lower ↦ below_trans x last y lower h.0 ] in
    elim (contains_cases x y xs there) [
      | inl same ↦ (let wrong : below x x ≡ true = subst (λ (z : Entry). below x z ≡ true) same less in let fine = below_itself x in cc (wrong, fine))
      | inr later ↦ climbs_apart x y high xs h.2 (inr less) later
    ]

climbs_differ : (last : Entry) (high : Bound) (xs : List Entry) → Climbs last high xs → Differ xs
climbs_differ last high [] h = tt
climbs_differ last high (x ∷ xs) h = (climbs_apart x x high xs h.2 (inl refl), climbs_differ x high xs h.2)

rises_differ : (low high : Bound) (xs : List Entry) → Rises low high xs → Differ xs
rises_differ low high [] h = tt
rises_differ low high (x ∷ xs) h = (climbs_apart x x high xs h.2 (inl refl), climbs_differ x high xs h.2)

tree_differs : (pages : PageList) (place : TreePlace) (t : Forest) → HasTree pages place t → Differ (leaf_entries t)
tree_differs pages place t h = rises_differ None None (leaf_entries t) (Fits-entries None None [] t h.is_tree.fits)

pairs_differ : {X : Type 0} (xs : List X) → AllPairs (λ a b. a ≢ b) xs → Differ xs
pairs_differ [] h = tt
pairs_differ (x ∷ xs) h = (first_differs x xs h, pairs_differ xs (rest_differs x xs h))

-- ---- sums place by place

sums_le : {X Y : Type 0} (f : X → ℕ) (g : Y → ℕ) (xs : List X) (ys : List Y) (d : X) (e : Y) → length xs ≡ length ys → ((i : ℕ) → i < length xs → f (get_or xs i d) ≤ g (get_or ys i e)) → sum_by f xs ≤ sum_by g ys
sums_le f g [] ys d e long le = omega arith
sums_le f g (x ∷ xs) [] d e long le = absurd (omega (arith, long))
sums_le f g (x ∷ xs) (y ∷ ys) d e long le =
    omega (arith, le 0 (omega arith), sums_le f g xs ys d e (omega (arith, long)) (λ i low. le (suc i) (omega (arith, low))), sum_by-cons f x xs, sum_by-cons g y ys)

-- a block of this table
abbrev pub is_own : ℕ → Kind → Bool
is_own t Free = false
is_own t (Block u) = u == t
is_own t (Index used) = false

-- ---- one table

module _ (shape : Shape) (pages : PageList) (def : TableDef) (owners : List Kind) (map_tree : Forest) (long : length owners ≡ shape.extents) (sound : IsBlockMapSound shape owners def map_tree)
    (none_free : free_blocks map_tree ≡ []) (none_pending : pending_blocks map_tree ≡ []) where
  abbrev pub spots : List Spot
  spots = table_spots shape pages def owners map_tree

  not_among : (block : ℕ) (blocks : List ℕ) → blocks ≡ [] → Contains blocks block → ⊥
  not_among block blocks none there = (let wrong = (subst (λ (bs : List ℕ). Contains bs block) none there).1 in omega (arith, wrong))

  -- a block of the table is Used
  own_used : (e : ℕ) → e < shape.extents → owner_of owners e ≡ Block def.number → used_by (slice_index_or spots e OtherBlock) ≡ 1
  own_used e low is = go (shown shape pages def owners map_tree sound e OtherBlock low)
    where
      go : ShownSpot shape pages def owners map_tree e (slice_index_or (table_spots shape pages def owners map_tree) e OtherBlock) → used_by (slice_index_or (table_spots shape pages def owners map_tree) e OtherBlock) ≡ 1
      go (free_extent owner spot) = (let wrong = sym is ∙ owner in absurd (cc))
      go (index_extent used owner spot) = (let wrong = sym is ∙ owner in absurd (cc))
      go (other_block t other owner spot) = (let same : Block def.number ≡ Block t = sym is ∙ owner in let number : def.number ≡ t = cc in absurd (other (sym number)))
      go (free_block there spot) = absurd (not_among e (free_blocks map_tree) none_free there)
      go (used_block there spot) = ap used_by spot
      go (pending_block there spot) = absurd (not_among e (pending_blocks map_tree) none_pending there)

  -- there are as many Used blocks as blocks at least
  pub owned_most : count_by (is_own def.number) owners ≤ used_count spots
  owned_most = sums_le (λ kind. one_if (is_own def.number kind)) used_by owners (table_spots shape pages def owners map_tree) Free OtherBlock (long ∙ sym (length-spots shape pages def owners map_tree)) (λ e low. go e low (owner_of owners e) refl)
    where
      one_most : (b : Bool) → one_if b ≤ 1
      one_most true = omega arith
      one_most false = omega arith

      go : (e : ℕ) → e < length owners → (kind : Kind) → owner_of owners e ≡ kind → one_if (is_own def.number (owner_of owners e)) ≤ used_by (slice_index_or (table_spots shape pages def owners map_tree) e OtherBlock)
      go e low Free is = omega (arith, ap (λ kind. one_if (is_own def.number kind)) is)
      go e low (Index used) is = omega (arith, ap (λ kind. one_if (is_own def.number kind)) is)
      go e low (Block t) is = elim (cases_eq t def.number) [
        | inl same ↦ omega (arith, own_used e (omega (arith, low, long)) (is ∙ ap Block same), one_most (is_own def.number (owner_of owners e)))
        | inr other ↦ omega (arith, ap (λ kind. one_if (is_own def.number kind)) is, ap one_if (ne_eqb t def.number other))
      ]

  -- the block map has no more entries than there are Used blocks
  pub map_most : length (leaf_entries map_tree) ≤ used_count spots
  map_most =
      omega (
        arith,
        most_used (λ block b. block ≡ b) (λ x y b is_x is_y. is_x ∙ sym is_y) (mapped_blocks map_tree) (table_spots shape pages def owners map_tree) (pairs_differ (mapped_blocks map_tree) sound.once_each) named,
        length-map (map_lines map_tree) (λ (line : MapLine). line.block),
        length-map (leaf_entries map_tree) map_line,
      )
    where
      named : (block : ℕ) → Contains (mapped_blocks map_tree) block → (b : ℕ) × (used_by (get_or (table_spots shape pages def owners map_tree) b OtherBlock) ≡ 1) × (block ≡ b)
      named block there =
          let entry = named_entry (leaf_entries map_tree) block there in
          let line = line_at (IsMapLineSound shape owners def) (leaf_entries map_tree) entry.0 sound.lines entry.1 in
          (block, own_used block (subst (λ (b : ℕ). b < shape.extents) entry.2 line.within) (subst (λ (b : ℕ). owner_of owners b ≡ Block def.number) entry.2 line.owned), refl)

  module _ (rows : AllByRecursion (λ block. AreLineRowsSound shape pages def (mapped_line map_tree block)) (used_blocks map_tree))
      (counts : AllByRecursion (IsUsedCountSound shape pages def) (map_lines map_tree)) (cells : AllByRecursion (λ block. IsLineOfOneCell shape pages def (mapped_line map_tree block)) (used_blocks map_tree)) where
    -- a Used block has a row, and its rows, which fit, are of one cell
    one_of_pairs : (block : ℕ) (placed : List PlacedRow) (a b : PlacedRow) → AllPairs (λ x y. AreOfOneCell def x.row.values y.row.values) placed → Contains placed a → Contains placed b → AreOfOneCell def a.row.values b.row.values
    one_of_pairs block placed a b pairs (i, low_i, at_i) (j, low_j, at_j) = elim (cases_eq i j) [
      | inl same ↦ (let is : a ≡ b = sym at_i ∙ (ap (λ (k : ℕ). get_or placed k a) same ∙ (same_get placed j a b low_j ∙ at_j)) in ap (λ (p : PlacedRow). cell_values def p.row.values) is)
      | inr other ↦ elim (cases_lt i j) [
        | inl less ↦ (
            let h = pairs i j a less low_j in
            let is_b : get_or placed j a ≡ b = same_get placed j a b low_j ∙ at_j in
            subst (λ (p : PlacedRow). AreOfOneCell def a.row.values p.row.values) is_b (subst (λ (p : PlacedRow). AreOfOneCell def p.row.values (get_or placed j a).row.values) at_i h))
        | inr more ↦ (
            let h = pairs j i b (omega (arith, more, other)) low_i in
            let is_a : get_or placed i b ≡ a = same_get placed i b a low_i ∙ at_i in
            sym (subst (λ (p : PlacedRow). AreOfOneCell def b.row.values p.row.values) is_a (subst (λ (p : PlacedRow). AreOfOneCell def p.row.values (get_or placed i b).row.values) at_j h)))
      ]
    ]
      where
        same_get : (xs : List PlacedRow) (k : ℕ) (d e : PlacedRow) → k < length xs → get_or xs k d ≡ get_or xs k e
        same_get [] k d e low = absurd (omega (arith, low))
        same_get (x ∷ xs) zero d e low = refl
        same_get (x ∷ xs) (suc k) d e low = same_get xs k d e (omega (arith, low))

    good_block : (block : ℕ) → Contains (used_blocks map_tree) block → IsGoodBlock def (block_slot_count shape def) (block_slots shape pages def block)
    good_block block there =
        let slots = block_slots shape pages def block in
        let line = used_line map_tree block there in
        let count = line_at (IsUsedCountSound shape pages def) (leaf_entries map_tree) line.entry counts line.there in
        let number : (map_line line.entry).rows ≡ length (rows_from_slot block 0 slots) = subst (λ (b : ℕ). (map_line line.entry).rows ≡ length (rows_from_slot b 0 (block_slots shape pages def b))) line.block_is (count.counted line.used) in
        let pairs = each_of (λ b. IsLineOfOneCell shape pages def (mapped_line map_tree b)) (used_blocks map_tree) block cells there in
        let fit = each_of (λ b. AreLineRowsSound shape pages def (mapped_line map_tree b)) (used_blocks map_tree) block rows there in record {
          long = length-block_slots shape pages def block;
          some = omega (arith, count.some_row line.used, number, length-rows_from_slot block 0 slots);
          one = λ a b in_a in_b.
              let p = placed_in_slot block 0 slots a in_a in
              let q = placed_in_slot block 0 slots b in_b in
              subst (λ (r : Row). AreOfOneCell def a.values r.values) q.row_is (subst (λ (r : Row). AreOfOneCell def r.values q.placed.row.values) p.row_is (one_of_pairs block (rows_from_slot block 0 slots) p.placed q.placed pairs p.there q.there));
          fits = λ a in_a.
              let p = placed_in_slot block 0 slots a in_a in
              subst (λ (r : Row). IsTrue (fits_all def.columns r.values)) p.row_is (each_of (λ (placed : PlacedRow). RowFits def placed.row) (rows_from_slot block 0 slots) p.placed fit.rows p.there).values;
        }

    -- the spots are tight
    pub spots_tight : HaveRoomOnce def spots → AreTightSpots def (block_slot_count shape def) spots
    spots_tight once = record { each = each_in (IsGoodSpot def (block_slot_count shape def)) (table_spots shape pages def owners map_tree) good; once = once }
      where
        good : (spot : Spot) → Contains (table_spots shape pages def owners map_tree) spot → IsGoodSpot def (block_slot_count shape def) spot
        good spot (e, low, at) = subst (IsGoodSpot def (block_slot_count shape def)) at (go (shown shape pages def owners map_tree sound e spot (omega (arith, low, length-spots shape pages def owners map_tree))))
          where
            go : ShownSpot shape pages def owners map_tree e (slice_index_or (table_spots shape pages def owners map_tree) e spot) → IsGoodSpot def (block_slot_count shape def) (slice_index_or (table_spots shape pages def owners map_tree) e spot)
            go (free_extent owner is) = subst (IsGoodSpot def (block_slot_count shape def)) (sym is) tt
            go (index_extent used owner is) = subst (IsGoodSpot def (block_slot_count shape def)) (sym is) tt
            go (other_block t other owner is) = subst (IsGoodSpot def (block_slot_count shape def)) (sym is) tt
            go (free_block there is) = absurd (not_among e (free_blocks map_tree) none_free there)
            go (used_block there is) = subst (IsGoodSpot def (block_slot_count shape def)) (sym is) (good_block e there)
            go (pending_block there is) = absurd (not_among e (pending_blocks map_tree) none_pending there)

    -- a block index has an entry a Used block at most
    listed_most : (parts : List KeyPart) (place : TreePlace) (index : Forest) → ((a b : Row) → AreOfOneCell def a.values b.values → key_bytes def.columns parts a.values ≡ key_bytes def.columns parts b.values)
        → HasTree pages place index → IsBlockIndexSound def (rows_in_table shape pages def map_tree) parts index → length (leaf_entries index) ≤ used_count spots
    listed_most parts place index same_key has is = most_used IsOf one (leaf_entries index) (table_spots shape pages def owners map_tree) (tree_differs pages place index has) named
      where
        IsOf : Entry → ℕ → Type 0
        IsOf entry b = (placed : PlacedRow) × Contains (used_blocks map_tree) b × Contains (block_slots shape pages def b) (Some placed.row) × (placed.rid.block ≡ b) × (entry_of_block def parts placed ≡ entry)

        one : (x y : Entry) (b : ℕ) → IsOf x b → IsOf y b → x ≡ y
        one x y b (p, used, in_p, block_p, is_p) (q, also, in_q, block_q, is_q) =
            let key = same_key p.row q.row ((good_block b used).one p.row q.row in_p in_q) in
            sym is_p ∙ (ap (λ (k : Entry). k ++ big_bytes 4 p.rid.block) key ∙ (ap (λ (n : ℕ). key_bytes def.columns parts q.row.values ++ big_bytes 4 n) (block_p ∙ sym block_q) ∙ is_q))

        named : (entry : Entry) → Contains (leaf_entries index) entry → (b : ℕ) × (used_by (get_or (table_spots shape pages def owners map_tree) b OtherBlock) ≡ 1) × IsOf entry b
        named entry there =
            let listed = each_of (Contains (map (entry_of_block def parts) (rows_in_table shape pages def map_tree))) (leaf_entries index) entry is.only there in
            let (placed, among, is_entry) = from_map (entry_of_block def parts) (rows_in_table shape pages def map_tree) entry listed in
            let (block, used, in_block) = flat_contains (λ b. rows_from_slot b 0 (block_slots shape pages def b)) (used_blocks map_tree) placed among in
            let slot = slot_of_placed block 0 (block_slots shape pages def block) placed in_block in
            (block, ap used_by (used_spot shape pages def owners map_tree block OtherBlock sound used), (placed, used, slot.0, slot.1, is_entry))

    pub composite_most : (place : TreePlace) (index : Forest) → HasTree pages place index → IsBlockIndexSound def (rows_in_table shape pages def map_tree) (cell_parts def) index → length (leaf_entries index) ≤ used_count spots
    composite_most place index has is = listed_most (cell_parts def) place index (λ a b one. cell_key-same def a.values b.values one) has is

    pub dimension_most : (dim : List ℕ) (place : TreePlace) (index : Forest) → Contains def.dims dim → HasTree pages place index → IsBlockIndexSound def (rows_in_table shape pages def map_tree) (rising_parts dim) index
        → length (leaf_entries index) ≤ used_count spots
    dimension_most dim place index there has is = listed_most (rising_parts dim) place index (λ a b one. dimension_key-same def dim a.values b.values there one) has is

  -- a record index has no more entries than there are rows
  pub index_most : (index : IndexDef) (place : TreePlace) (tree : Forest) → HasTree pages place tree → IsSoundIndex def (rows_in_table shape pages def map_tree) (pending_blocks map_tree) index tree
      → length (leaf_entries tree) ≤ length (all_rows spots)
  index_most index place tree has is =
      let rows = rows_in_table shape pages def map_tree in
      omega (
        arith,
        most_among (leaf_entries tree) (map (entry_of_row def index) rows) (tree_differs pages place tree has)
            (λ entry there. elim (each_of (λ one. Contains (map (entry_of_row def index) rows) one ⊎ Contains (pending_blocks map_tree) (block_in_entry def index.parts one)) (leaf_entries tree) entry is.only there) [
              | inl among ↦ among
              | inr pending ↦ absurd (not_among (block_in_entry def index.parts entry) (pending_blocks map_tree) none_pending pending)
            ]),
        length-map rows (entry_of_row def index),
        length_permutation rows (rows_from_spot 0 (table_spots shape pages def owners map_tree)) (rows_of_spots shape pages def owners map_tree sound),
        ap length (all_rows_placed 0 (table_spots shape pages def owners map_tree)),
        length-map (rows_from_spot 0 (table_spots shape pages def owners map_tree)) (λ (p : PlacedRow). p.row),
      )
