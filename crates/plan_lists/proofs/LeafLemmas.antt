-- What the indexes of a table that stands list: blocks whose rows have a value in a span, and places of such rows.
use Rattle.std.proofs.Common.{◌≡◌, ◌≢◌, ◌<◌, ℕ, zero, suc, List, [], ◌∷◌, ◌++◌, Bool, true, false, refl, ap, arith, sym, ◌∙◌, subst, inl, inr, length}
use Rattle.std.specs.Prelude.{◌||◌, Contains, IsTrue, Some, map, slice_get, slice_index_or, zip}
use Rattle.std.proofs.Math.Bool.{or-false}
use Rattle.std.proofs.lemmas.List.{length-map}
use Rattle.std.proofs.lemmas.List.Elements.{Contains-append_left}
use Rattle.std.proofs.lemmas.Option.{same_Some}
use Rattle.byteorder.specs.Endian.{big_bytes}
use Rattle.mdc_words.specs.ByteOrder.{Entry}
use Rattle.mdc_values.specs.declared.rid.Rid.{Rid}
use Rattle.mdc_values.specs.declared.value.Value.{Value}
use Rattle.mdc_ast.specs.TableLimits.{IsTableDef}
use Rattle.mdc_ast.specs.Truth.{value_at}
use Rattle.mdc_ast.specs.declared.definition.IndexDef.{IndexDef}
use Rattle.mdc_ast.specs.declared.definition.TableDef.{TableDef}
use Rattle.mdc_ast.specs.declared.span.Span.{Span}
use Rattle.store_api.specs.declared.fault.Damage.{Damage}
use Rattle.store_api.specs.declared.pages.Pages.{Ghosts}
use Rattle.store_api.specs.declared.shape.Shape.{Shape}
use Rattle.extent_map.specs.declared.kind.Kind.{Kind}
use Rattle.key_codec.specs.Keys.{key_bytes}
use Rattle.key_codec.specs.Spans.{first_column, lies_in_span}
use Rattle.entry_tree.specs.Entries.{AreOfWidth}
use Rattle.entry_tree.specs.EntryBounds.{IsEntryOf}
use Rattle.entry_tree.specs.Forest.{Forest, leaf_entries}
use Rattle.entry_tree.specs.declared.tree.Tree.{Tree}
use Rattle.entry_tree.proofs.WidthsLemmas.{tree_wide}
use Rattle.block_map.specs.MapLines.{pending_blocks, used_blocks}
use Rattle.block_map.proofs.MapLinesLemmas.{contains_more}
use Rattle.block_index.specs.Cells.{HaveKeys, entry_under, key_of_values}
use Rattle.block_index.specs.PartRanges.{last_block}
use Rattle.block_index.specs.Reading.{AreBlocksInSpan, AreKeyed, IsListed}
use Rattle.block_index.proofs.CellsLemmas.{fit_row, key_of_values-row, keys_of_fitting}
use Rattle.block_index.proofs.SpansLemmas.{named_under}
use Rattle.table_trees.specs.RowCells.{AreOfOneCell, cell_values}
use Rattle.table_trees.specs.TableTrees.{AreIndexParts, TreePlace, composite_place, dimension_place, dimension_places, map_place, place_of_dimension, place_of_tree, places_of_dimension, record_places, rising_parts, tree_places}
use Rattle.table_trees.specs.TreesBeside.{BreaksTreeAt, HoldsTreeAt}
use Rattle.table_trees.proofs.TreeListsLemmas.{AllZip-front, beside_at}
use Rattle.table_trees.proofs.TreesBesideLemmas.{holds_at}
use Rattle.mdc_sound.specs.BlockRules.{AreTableIndexesSound, IsBlockIndexSound, IsOfOneCell, entry_of_block}
use Rattle.mdc_sound.specs.StandingTable.{BreaksTable, NamesTablePart, StandsTable, TableForests, pages_of, roots_in, view_of}
use Rattle.mdc_sound.specs.TableRows.{PlacedRow, block_slots, rows_in_block, rows_in_table}
use Rattle.mdc_sound.proofs.BlockRulesLemmas.{each_of}
use Rattle.mdc_sound.proofs.CellKeysLemmas.{dimension_key-same}
use Rattle.mdc_sound.proofs.DefinitionTreesLemmas.{has_block_indexes}
use Rattle.mdc_sound.proofs.ElementsLemmas.{contains_entry, each_in, entry_in, flat_contains, from_map, in_map}
use Rattle.mdc_sound.proofs.SlotRowsLemmas.{slot_of_placed}
use Rattle.record_index.specs.FoundRids.{FindsRids, IsRid}
use Rattle.record_index.specs.RecordIndexes.{HaveKeysIn, parts_of_record_index, place_of_record_index}
use Rattle.record_index.specs.SoundRows.{AreEnterable, FindsWantedRows}
use Rattle.record_index.proofs.IndexesLemmas.{has_indexes, index_parts, key_parts, parts_are, place_of_which}
use Rattle.record_index.proofs.KeysLemmas.{keys_of_fitting as record_keys_of_fitting}
use Rattle.record_index.proofs.SoundRowsLemmas.{finds_within}
use Rattle.live_rows.proofs.LookInTableLemmas.{look_breaks}
use Rattle.live_rows.proofs.StandingTwinsLemmas.{index_there, index_tree, lies_in_used, not_both, zip_long}
use Rattle.row_entries.proofs.StandingRowsLemmas.{lie_apart}
use Rattle.block_lists.specs.Lists.{holds, lists_block}
use Rattle.block_lists.specs.Places.{has_number, has_rid}
use Rattle.block_lists.specs.Trees.{each_has_members, tree_holds, tree_lists_block}
use Rattle.block_lists.specs.declared.lists.Lists.{Lists}
use Rattle.block_lists.specs.declared.tree.ListTree.{ListTree}
use Rattle.plan_chooser.specs.PlanRows.{column_of, index_column}
use Rattle.plan_lists.specs.PlanTrees.{HasRowIn, StandsFor}
use Rattle.plan_lists.proofs.ListedLemmas.{either_pair, get_at, get_in, in_numbers, in_rids, number_in, rid_in, same_test}
use Rattle.plan_lists.proofs.SameValueLemmas.{beside_row, entry_lies}

-- ---- the place of a dimension's index

place_each : (def : TableDef) (dims : List (List ℕ)) (roots : List ℕ) → length roots ≡ length dims → length (map (λ pair. dimension_place def pair.0 pair.1) (zip dims roots)) ≡ length dims
place_each def [] roots one_each = refl
place_each def (dim ∷ dims) [] one_each = absurd (omega (arith, one_each))
place_each def (dim ∷ dims) (root ∷ roots) one_each = ap suc (place_each def dims roots (omega (arith, one_each)))

place_at : (def : TableDef) (dims : List (List ℕ)) (roots : List ℕ) (i : ℕ) → length roots ≡ length dims → i < length dims
    → slice_get (map (λ pair. dimension_place def pair.0 pair.1) (zip dims roots)) i ≡ Some (dimension_place def (slice_index_or dims i []) (slice_index_or roots i 0))
place_at def [] roots i one_each l = absurd (omega (arith, l))
place_at def (dim ∷ dims) [] i one_each l = absurd (omega (arith, one_each))
place_at def (dim ∷ dims) (root ∷ roots) zero one_each l = refl
place_at def (dim ∷ dims) (root ∷ roots) (suc i) one_each l = place_at def dims roots i (omega (arith, one_each)) (omega (arith, l))

place_in : (def : TableDef) (dims : List (List ℕ)) (roots : List ℕ) (i : ℕ) → length roots ≡ length dims → i < length dims
    → Contains (map (λ pair. dimension_place def pair.0 pair.1) (zip dims roots)) (dimension_place def (slice_index_or dims i []) (slice_index_or roots i 0))
place_in def [] roots i one_each l = absurd (omega (arith, l))
place_in def (dim ∷ dims) [] i one_each l = absurd (omega (arith, one_each))
place_in def (dim ∷ dims) (root ∷ roots) zero one_each l = (0, omega arith, refl)
place_in def (dim ∷ dims) (root ∷ roots) (suc i) one_each l =
    contains_more (dimension_place def (slice_index_or dims i []) (slice_index_or roots i 0)) (dimension_place def dim root) (map (λ pair. dimension_place def pair.0 pair.1) (zip dims roots))
    (place_in def dims roots i (omega (arith, one_each)) (omega (arith, l)))

-- its root is one of the table's
dimension_root : (def : TableDef) (dim : ℕ) → IsTableDef def.number def → dim < length def.dims → Contains (roots_in (tree_places def)) (place_of_dimension def dim).root
dimension_root def dim defined low =
    let place = place_of_dimension def dim in
    let back = dimension_places def ++ record_places def in
    let front : Contains back place = Contains-append_left (dimension_places def) (record_places def) place (place_in def def.dims def.roots.dims dim defined.roots.one_each low) in
    in_map (λ q. q.root) (tree_places def) place (contains_more place (map_place def) (composite_place def ∷ back) (contains_more place (composite_place def) back front))

-- all rows lie in Used blocks
pub all_used : {S : Type 0} {g : Ghosts S} (shape : Shape) (s : S) (def : TableDef) (owners : List Kind) (forests : TableForests) → StandsTable g shape s def owners forests
    → (placed : PlacedRow) → Contains (rows_in_table shape (pages_of g s) def forests.map) placed → has_number (used_blocks forests.map) placed.rid.block ≡ true
all_used shape s def owners forests st placed there = in_numbers (used_blocks forests.map) placed.rid.block (lies_in_used shape s def owners forests st placed there).used

module _ {S : Type 0} {g : Ghosts S} (shape : Shape) (s : S) (def : TableDef) (defined : IsTableDef def.number def) where
  module _ (owners : List Kind) (forests : TableForests) (st : StandsTable g shape s def owners forests) where
    abbrev rows : List PlacedRow
    rows = rows_in_table shape (pages_of g s) def forests.map

    -- ---- rows

    in_own_block : (placed : PlacedRow) → Contains rows placed → Contains (rows_in_block shape (pages_of g s) def placed.rid.block) placed
    in_own_block placed there =
        let b = flat_contains (rows_in_block shape (pages_of g s) def) (used_blocks forests.map) placed there in
        let at = slot_of_placed b.0 0 (block_slots shape (pages_of g s) def b.0) placed b.2 in
        subst (λ n. Contains (rows_in_block shape (pages_of g s) def n) placed) (sym at.1) b.2

    same_cell : (a b : PlacedRow) → Contains rows a → Contains rows b → a.rid.block ≡ b.rid.block → AreOfOneCell def a.row.values b.row.values
    same_cell a b in_a in_b same =
        let block = a.rid.block in
        let used = (lies_in_used shape s def owners forests st a in_a).used in
        let cells = each_of (IsOfOneCell shape (pages_of g s) def) (used_blocks forests.map) block st.cells used in
        elim (either_pair (λ x y. AreOfOneCell def x.row.values y.row.values) (rows_in_block shape (pages_of g s) def block) a b cells (in_own_block a in_a)
        (subst (λ n. Contains (rows_in_block shape (pages_of g s) def n) b) (sym same) (in_own_block b in_b))) [
          | inl one ↦ ap (λ (p : PlacedRow). cell_values def p.row.values) one
          | inr apart ↦ elim apart [ inl forth ↦ forth | inr back ↦ sym back ]
        ]

    same_row : (a b : PlacedRow) → Contains rows a → Contains rows b → a.rid ≡ b.rid → a ≡ b
    same_row a b in_a in_b same = elim (either_pair (λ x y. x.rid ≢ y.rid) rows a b (lie_apart g shape s def owners forests st).apart in_a in_b) [
      | inl one ↦ one
      | inr apart ↦ elim apart [ inl forth ↦ absurd (forth same) | inr back ↦ absurd (back (sym same)) ]
    ]

    -- ---- the index of a dimension

    module _ (dim column : ℕ) (span : Span) (low : dim < length def.dims) (there : Contains (places_of_dimension def dim) column) where
      abbrev places : List ℕ
      places = places_of_dimension def dim

      dim_in : Contains def.dims (places_of_dimension def dim)
      dim_in = get_in def.dims dim [] low

      parts : AreIndexParts def.columns (rising_parts (places_of_dimension def dim))
      parts = each_of (λ (d : List ℕ). AreIndexParts def.columns (rising_parts d)) def.dims (places_of_dimension def dim) (has_block_indexes def.number def defined).dimensions dim_in

      -- its tree is told, and lists the block of each row
      pub record DimensionTree : Type 0 where
        pub tree : Forest
        pub held : HoldsTreeAt g s (place_of_dimension def dim) tree
        pub is_sound : IsBlockIndexSound def rows (rising_parts places) tree

      pub dimension_tree : DimensionTree
      dimension_tree =
          let Sound : List ℕ → Forest → Type 0 = λ d index. IsBlockIndexSound def rows (rising_parts d) index in
          let one = beside_at Sound def.dims forests.dims dim (places_of_dimension def dim) st.indexes.dims (get_at def.dims dim [] low) in
          let long : length (dimension_places def) ≡ length forests.dims = place_each def def.dims def.roots.dims defined.roots.one_each ∙ zip_long Sound def.dims forests.dims st.indexes.dims in
          let held = AllZip-front (HoldsTreeAt g s) (dimension_places def) (record_places def) forests.dims forests.indexes long st.trees.held.1.1 in
          let other = beside_at (HoldsTreeAt g s) (dimension_places def) forests.dims dim (place_of_dimension def dim) held (place_at def def.dims def.roots.dims dim defined.roots.one_each low) in
          record { tree = one.0; held = subst (HoldsTreeAt g s (place_of_dimension def dim)) (same_Some other.0 one.0 (sym other.1 ∙ one.1)) other.2; is_sound = one.2 }

      abbrev entries : List Entry
      entries = leaf_entries dimension_tree.tree

      abbrev row_values : PlacedRow → List Value
      row_values placed = map (value_at placed.row.values) places

      row_key : (placed : PlacedRow) (block : ℕ) → entry_under (key_of_values def.columns places (row_values placed)) block ≡ entry_under (key_bytes def.columns (rising_parts places) placed.row.values) block
      row_key placed block = ap (λ (k : List ℕ). k ++ big_bytes 4 block) (key_of_values-row def.columns places placed.row.values)

      -- the block of a row is listed under the row's values
      listed : (placed : PlacedRow) → Contains rows placed → IsListed def.columns places entries (row_values placed) placed.rid.block
      listed placed in_rows =
          let lies = lies_in_used shape s def owners forests st placed in_rows in
          let keys : HaveKeys def.columns places placed.row.values = keys_of_fitting def.columns places placed.row.values parts.key.there lies.fits.values in
          let has = each_of (λ (p : PlacedRow). Contains entries (entry_of_block def (rising_parts places) p)) rows placed dimension_tree.is_sound.has in_rows in
          record {
            fit = fit_row def.columns places placed.row.values keys;
            many = length-map places (value_at placed.row.values);
            small = lies.place.block;
            there = entry_in entries (entry_under (key_of_values def.columns places (row_values placed)) placed.rid.block) (subst (Contains entries) (sym (row_key placed placed.rid.block)) has);
          }

      -- the row whose block an entry lists
      whose : (entry : Entry) → IsEntryOf entry entries → (placed : PlacedRow) × Contains rows placed × (entry_of_block def (rising_parts places) placed ≡ entry)
      whose entry is =
          from_map (entry_of_block def (rising_parts places)) rows entry (each_of (Contains (map (entry_of_block def (rising_parts places)) rows)) entries entry dimension_tree.is_sound.only (contains_entry entries entry is))

      keyed : AreKeyed def.columns places entries
      keyed entry is =
          let r = whose entry is in
          record { values = row_values r.0; block = r.0.rid.block; entry_is = sym r.2 ∙ sym (row_key r.0 r.0.rid.block); listed = listed r.0 r.1 }

      -- the row whose block is listed so
      pub record ListsRow (values : List Value) (block : ℕ) : Type 0 where
        pub placed : PlacedRow
        pub in_rows : Contains rows placed
        pub at : placed.rid.block ≡ block
        pub entry : entry_under (key_bytes def.columns (rising_parts places) placed.row.values) block ≡ entry_under (key_of_values def.columns places values) block

      lists_row : (values : List Value) (block : ℕ) → IsListed def.columns places entries values block → ListsRow values block
      lists_row values block l =
          let x = entry_under (key_of_values def.columns places values) block in
          let r = whose x l.there in
          let key = key_bytes def.columns (rising_parts places) r.0.row.values in
          let small = (lies_in_used shape s def owners forests st r.0 r.1).place.block in
          let at : r.0.rid.block ≡ block = sym (named_under key r.0.rid.block small) ∙ (ap last_block r.2 ∙ named_under (key_of_values def.columns places values) block l.small) in
          record { placed = r.0; in_rows = r.1; at = at; entry = ap (entry_under key) (sym at) ∙ r.2 }

      module _ (blocks : List ℕ) (found : AreBlocksInSpan def.columns places column span entries blocks) where
        pub in_span : (placed : PlacedRow) → Contains rows placed → has_number blocks placed.rid.block ≡ lies_in_span span (value_at placed.row.values column)
        in_span placed in_rows = same_test (has_number blocks block) (lies_in_span span (value_at placed.row.values column)) forth back
          where
            block : ℕ
            block = placed.rid.block

            forth : has_number blocks placed.rid.block ≡ true → lies_in_span span (value_at placed.row.values column) ≡ true
            forth h =
                let f = found.only keyed placed.rid.block (number_in blocks placed.rid.block h) in
                let r = lists_row f.0 placed.rid.block f.1 in
                let cell = same_cell placed r.placed in_rows r.in_rows (sym r.at) in
                let key = dimension_key-same def (places_of_dimension def dim) placed.row.values r.placed.row.values dim_in cell in
                let one = row_key placed placed.rid.block ∙ (ap (λ (k : List ℕ). entry_under k placed.rid.block) key ∙ r.entry) in
                ap (lies_in_span span) (sym (beside_row (places_of_dimension def dim) placed.row.values column there))
                ∙ (entry_lies def.columns (places_of_dimension def dim) column span placed.rid.block (row_values placed) f.0 there (listed placed in_rows).fit f.1.fit one ∙ f.2)

            back : lies_in_span span (value_at placed.row.values column) ≡ true → has_number blocks placed.rid.block ≡ true
            back lies =
                in_numbers blocks placed.rid.block (found.all (row_values placed) placed.rid.block (listed placed in_rows) (ap (lies_in_span span) (beside_row (places_of_dimension def dim) placed.row.values column there) ∙ lies))

        pub names_used : (block : ℕ) → has_number blocks block ≡ true → Contains (used_blocks forests.map) block
        names_used block h =
            let f = found.only keyed block (number_in blocks block h) in
            let r = lists_row f.0 block f.1 in
            subst (Contains (used_blocks forests.map)) r.at (lies_in_used shape s def owners forests st r.placed r.in_rows).used

    -- ---- a record index

    module _ (sound : AreTableIndexesSound shape (pages_of g s) (view_of def forests)) (index : ℕ) (span : Span) (which : IndexDef) (is : slice_get def.indexes index ≡ Some which) (tree : Tree)
        (place : place_of_tree tree ≡ place_of_record_index def index) where
      abbrev index_entries : List Entry
      index_entries = leaf_entries (index_tree shape s def owners forests st sound index which is).tree

      enterable : AreEnterable def which rows
      enterable = each_in (λ (placed : PlacedRow). IsRid placed.rid × HaveKeysIn def.columns which.parts placed.row.values) rows (λ placed there.
          let lies = lies_in_used shape s def owners forests st placed there in
          (lies.place, record_keys_of_fitting def.columns which.parts placed.row.values (key_parts def index (has_indexes def.number def defined) which is).there lies.fits.values))

      module _ (rids : List Rid) (old new : ℕ) (found : FindsRids def.columns (parts_of_record_index def index) span index_entries rids old new) where
        wanted : FindsWantedRows rows (pending_blocks forests.map) (λ placed. IsTrue (lies_in_span span (value_at placed.row.values (first_column which.parts)))) rids
        wanted =
            let it = index_tree shape s def owners forests st sound index which is in
            let parts = index_parts def index which (has_indexes def.number def defined) is in
            let wide = subst (λ w. AreOfWidth w (leaf_entries it.tree)) (ap (λ (p : TreePlace). p.width) (place ∙ place_of_which def index which is)) (tree_wide it.tree (holds_at s tree (place_of_record_index def index) it.tree place it.held)) in
            finds_within def rows (pending_blocks forests.map) which it.tree it.is_sound (key_parts def index (has_indexes def.number def defined) which is) enterable span rids old new parts.some wide
            (subst (λ ps. FindsRids def.columns ps span (leaf_entries it.tree) rids old new) (parts_are def index index which refl is) found)

        column_is : index_column def index ≡ first_column which.parts
        column_is = ap column_of is

        pub rids_in_span : (placed : PlacedRow) → Contains rows placed → has_rid rids placed.rid ≡ lies_in_span span (value_at placed.row.values (index_column def index))
        rids_in_span placed there =
            let lies = λ (p : PlacedRow). lies_in_span span (value_at p.row.values (first_column which.parts)) in
            same_test (has_rid rids placed.rid) (lies placed)
            (λ h. elim (wanted.only placed.rid (rid_in rids placed.rid h)) [
              | inl row ↦ ap lies (sym (same_row row.placed placed row.there there row.at)) ∙ row.wanted
              | inr pending ↦ absurd (not_both shape s def owners forests st placed.rid.block (lies_in_used shape s def owners forests st placed there).used pending)
            ])
            (λ h. in_rids rids placed.rid (wanted.all placed there h))
            ∙ ap (λ n. lies_in_span span (value_at placed.row.values n)) (sym column_is)

        pub rids_of_rows : (rid : Rid) → has_rid rids rid ≡ true → Contains (used_blocks forests.map) rid.block → HasRowIn rows rid
        rids_of_rows rid h used = elim (wanted.only rid (rid_in rids rid h)) [
          | inl row ↦ (row.placed, row.there, row.at)
          | inr pending ↦ absurd (not_both shape s def owners forests st rid.block used pending)
        ]

  -- the damage of the index of a dimension is the table's
  pub dimension_breaks : (dim : ℕ) → dim < length def.dims → (damage : Damage) → BreaksTreeAt g s (place_of_dimension def dim) damage → BreaksTable g shape s def damage
  dimension_breaks dim low damage b = record {
    names = NamesTablePart.tree b.rule (subst (Contains (roots_in (tree_places def))) (sym b.page) (dimension_root def dim defined low));
    broken = λ owners forests st.
        let Sound : List ℕ → Forest → Type 0 = λ d index. IsBlockIndexSound def (rows_in_table shape (pages_of g s) def forests.map) (rising_parts d) index in
        let long : length (dimension_places def) ≡ length forests.dims = place_each def def.dims def.roots.dims defined.roots.one_each ∙ zip_long Sound def.dims forests.dims st.indexes.dims in
        let held = AllZip-front (HoldsTreeAt g s) (dimension_places def) (record_places def) forests.dims forests.indexes long st.trees.held.1.1 in
        let other = beside_at (HoldsTreeAt g s) (dimension_places def) forests.dims dim (place_of_dimension def dim) held (place_at def def.dims def.roots.dims dim defined.roots.one_each low) in
        b.broken other.0 other.2;
  }

-- the damage of a record index is the table's
pub record_breaks : {S : Type 0} {g : Ghosts S} (shape : Shape) (s : S) (def : TableDef) → IsTableDef def.number def → (index : ℕ) → index < length def.indexes
    → (damage : Damage) → BreaksTreeAt g s (place_of_record_index def index) damage → BreaksTable g shape s def damage
record_breaks shape s def defined index low damage b = let which = index_there def index low in look_breaks shape s def defined index which.0 which.1 damage (inl b)

-- ---- leaves

module _ {S : Type 0} {g : Ghosts S} (shape : Shape) (s : S) (def : TableDef) where
  module _ (passes : List Value → Bool) (lists : Lists) (leaf : ListTree) (members : IsTrue (each_has_members leaf)) (held : (rid : Rid) → tree_holds leaf rid ≡ holds lists rid)
      (named : (block : ℕ) → tree_lists_block leaf block ≡ lists_block lists block) where
    -- a leaf of blocks
    pub blocks_stand : (blocks : List ℕ) → lists.blocks ≡ blocks → lists.rids ≡ []
        → ((owners : List Kind) (forests : TableForests) → StandsTable g shape s def owners forests → (placed : PlacedRow) → Contains (rows_in_table shape (pages_of g s) def forests.map) placed → has_number blocks placed.rid.block ≡ passes placed.row.values)
        → ((owners : List Kind) (forests : TableForests) → StandsTable g shape s def owners forests → (block : ℕ) → has_number blocks block ≡ true → Contains (used_blocks forests.map) block) → StandsFor g shape s def passes leaf
    blocks_stand blocks are none exact used =
        let says : (rid : Rid) → tree_holds leaf rid ≡ has_number blocks rid.block =
        λ rid. held rid ∙ (ap (λ b. has_number b rid.block || has_rid lists.rids rid) are ∙ (ap (λ r. has_number blocks rid.block || has_rid r rid) none ∙ or-false (has_number blocks rid.block))) in
        let names : (block : ℕ) → tree_lists_block leaf block ≡ has_number blocks block = λ block. named block ∙ ap (λ b. has_number b block) are in
        record {
          members = members;
          rows = λ owners forests st sound. record {
            exact = λ placed there. says placed.rid ∙ exact owners forests st placed there;
            lies = λ rid h other is_used. let wrong : true ≡ false = sym h ∙ (says rid ∙ (sym (names rid.block) ∙ other)) in absurd cc;
          };
          blocks = λ owners forests st block h. used owners forests st block (sym (names block) ∙ h);
        }

    -- a leaf of places
    pub rids_stand : (rids : List Rid) → lists.blocks ≡ [] → lists.rids ≡ rids
        → ((owners : List Kind) (forests : TableForests) → StandsTable g shape s def owners forests → AreTableIndexesSound shape (pages_of g s) (view_of def forests) → (placed : PlacedRow) → Contains (rows_in_table shape (pages_of g s) def forests.map) placed
        → has_rid rids placed.rid ≡ passes placed.row.values)
        → ((owners : List Kind) (forests : TableForests) → StandsTable g shape s def owners forests → AreTableIndexesSound shape (pages_of g s) (view_of def forests) → (rid : Rid) → has_rid rids rid ≡ true → Contains (used_blocks forests.map) rid.block
        → HasRowIn (rows_in_table shape (pages_of g s) def forests.map) rid)
        → StandsFor g shape s def passes leaf
    rids_stand rids none are exact of_rows =
        let says : (rid : Rid) → tree_holds leaf rid ≡ has_rid rids rid = λ rid. held rid ∙ (ap (λ b. has_number b rid.block || has_rid lists.rids rid) none ∙ ap (λ r. has_rid r rid) are) in
        record {
          members = members;
          rows = λ owners forests st sound. record {
            exact = λ placed there. says placed.rid ∙ exact owners forests st sound placed there;
            lies = λ rid h other is_used. of_rows owners forests st sound rid (sym (says rid) ∙ h) is_used;
          };
          blocks = λ owners forests st block h. let wrong : true ≡ false = sym h ∙ (named block ∙ ap (λ b. has_number b block) none) in absurd cc;
        }
