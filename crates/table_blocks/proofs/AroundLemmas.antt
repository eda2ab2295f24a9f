-- Changes of one block compose, and a call on its rows is one.
use Rattle.std.proofs.Common.{◌≡◌, ◌≢◌, ◌<◌, ◌≤◌, ◌+◌, ◌/◌, ◌==◌, ℕ, List, [], ◌∷◌, length, refl, ap, arith, sym, ◌∙◌, subst, inl, inr}
use Rattle.std.specs.Prelude.{AllPairs, Contains, Option, Some, None, sum_by, if◌then◌else◌}
use Rattle.std.specs.List.{AllByRecursion, AllZip}
use Rattle.std.proofs.lemmas.Bool.{cases_eq, ne_eqb}
use Rattle.mdc_ast.specs.declared.definition.KeyPart.{KeyPart}
use Rattle.mdc_ast.specs.declared.definition.TableDef.{TableDef}
use Rattle.mdc_ast.specs.declared.row.Row.{Row}
use Rattle.store_api.specs.Extents.{first_count, first_page_of}
use Rattle.store_api.specs.Frame.{HoldsPage, Touches}
use Rattle.store_api.specs.RunsOverPages.{RunsOverPages}
use Rattle.store_api.specs.StoreState.{page_at}
use Rattle.store_api.specs.declared.fault.Damage.{Damage}
use Rattle.store_api.specs.declared.fault.StoreFault.{StoreFault}
use Rattle.store_api.specs.declared.pages.Pages.{Ghosts}
use Rattle.store_api.specs.declared.shape.Shape.{Shape}
use Rattle.store_api.proofs.RunsOverPagesLemmas.{runs_then}
use Rattle.extent_map.specs.Map.{HoldsMap}
use Rattle.extent_map.specs.Owners.{IsUsedPage, extent_of, owner_of, place_in_extent}
use Rattle.extent_map.specs.declared.kind.Kind.{Kind}
use Rattle.extent_map.specs.declared.kind.Kind.TheVariants.{Free, Block, Index}
use Rattle.extent_map.specs.declared.space_notes.SpaceNotes.{SpaceNotes}
use Rattle.extent_map.proofs.ExtentsLemmas.{extent_of-page, page_of-parts, place_below}
use Rattle.extent_map.proofs.GrowthLemmas.{growth_still}
use Rattle.extent_map.proofs.HoldsMapLemmas.{is_map_page, on_map}
use Rattle.extent_map.proofs.UsedPagesLemmas.{no_space_page}
use Rattle.row_page.specs.RowPage.{IsRowPage, rows_of}
use Rattle.entry_tree.specs.Forest.{Forest, leaf_entries, times}
use Rattle.block_map.specs.MapLines.{MapLine, map_line, map_lines, mapped_state, used_blocks}
use Rattle.block_map.proofs.MapLinesLemmas.{named_in_state}
use Rattle.block_rows.specs.HeldRows.{BreaksExtent, BreaksRows, HoldsRows}
use Rattle.table_trees.specs.TableTrees.{cell_parts, rising_parts, tree_places}
use Rattle.table_trees.specs.TreesBeside.{table_of_block}
use Rattle.table_trees.proofs.KeptOwnersLemmas.{idle_back, keeps_all, used_no_block}
use Rattle.table_trees.proofs.PageCountLemmas.{grows_pages_none, grows_pages_then}
use Rattle.table_trees.proofs.SideBySideLemmas.{changes_none, changes_then, stand_still}
use Rattle.table_trees.specs.RowCells.{AreOfOneCell}
use Rattle.mdc_ast.specs.FittingRows.{RowFits}
use Rattle.mdc_sound.specs.Placing.{Spot, spot_of_kind, spot_of_state}
use Rattle.mdc_sound.specs.Placing.Spot.{OtherBlock}
use Rattle.mdc_sound.specs.StandingTable.{BreaksExpected, IsPageOfBlock, NamesTablePart, StandsTable, TableForests, forests_in_order, pages_of}
use Rattle.mdc_sound.specs.TableRows.{PlacedRow, block_page, rows_in_block}
use Rattle.mdc_sound.proofs.StandingTableLemmas.{block_below}
use Rattle.mdc_sound.proofs.TableRowsLemmas.{KeepsBlockPages, block_slots-kept, rows_in_block-kept}
use Rattle.table_blocks.specs.AroundBlock.{IsIndexAround, IsLineSound, IsOtherRow, StandsAround}
use Rattle.table_blocks.specs.BlockChanges.{BreaksAround, ChangesAround, IsPlaceAround, IsSpaceAround, IsSpotChange, spot_in}
use Rattle.table_blocks.specs.BlockNow.{IsOwnBlock}
use Rattle.table_blocks.specs.BlockSteps.{StepsTo}

-- ---- small facts

not_free : (owners : List Kind) (e t : ℕ) → owner_of owners e ≡ Block t → owner_of owners e ≢ Free
not_free owners e t is free = let wrong = sym is ∙ free in absurd (cc)

block_of_table : (kind : Kind) (t : ℕ) → table_of_block kind ≡ Some t → kind ≡ Block t
block_of_table Free t is = absurd (cc)
block_of_table (Block table) t is = cc
block_of_table (Index used) t is = absurd (cc)

-- a page of a block is no used page of trees
block_page_unused : (shape : Shape) (owners : List Kind) (p t : ℕ) → owner_of owners (extent_of shape p) ≡ Block t → IsUsedPage shape owners p → ⊥
block_page_unused shape owners p t is used =
    let none = used_no_block (place_in_extent shape p) (owner_of owners (extent_of shape p)) used.used in
    let some : table_of_block (owner_of owners (extent_of shape p)) ≡ Some t = ap table_of_block is in
    absurd (cc)

-- notes, for what is said of a change whatever they are
abbrev pub some_notes : SpaceNotes
some_notes = record { free_from = 0; unused_from = 0 }

-- ---- where pages of one block alone are touched

-- a row page of a block, with its bytes
record HasRowPage {S : Type 0} (g : Ghosts S) (s : S) (def : TableDef) (p : ℕ) : Type 0 where
  pub bytes : List ℕ
  pub page : HoldsPage g s p bytes
  pub has : IsRowPage def.columns bytes (rows_of def.columns bytes)

module _ {S : Type 0} {g : Ghosts S} where
  -- an extent that the map shows lies within the pages
  extent_within : (shape : Shape) (s : S) (owners : List Kind) (e : ℕ) → HoldsMap g shape s owners → e < shape.extents → owner_of owners e ≢ Free → first_page_of shape.extents shape.extent_pages (e + 1) ≤ length (pages_of g s)
  extent_within shape s owners e map low owned = (map.pages (e / 512) (on_map shape.extents e low)).there e refl owned

  row_page_at : (shape : Shape) (s : S) (def : TableDef) (block p : ℕ) (slots : List (Option Row)) → HoldsRows g shape s def block slots → IsPageOfBlock shape block p → HasRowPage g s def p
  row_page_at shape s def block p slots holds of =
      let j = place_in_extent shape p in
      let low : j < shape.extent_pages = place_below shape p in
      let at : first_page_of shape.extents shape.extent_pages block + j ≡ p =
      subst (λ e. first_page_of shape.extents shape.extent_pages e + j ≡ p) of.1 (page_of-parts shape p of.0) in
      let end : first_page_of shape.extents shape.extent_pages block + shape.extent_pages ≡ first_page_of shape.extents shape.extent_pages (block + 1) = omega arith in
      record {
        bytes = block_page shape (pages_of g s) block j;
        page = record { is_told = holds.told; within = omega (arith, at, end, low, holds.there); bytes_are = ap (page_at (pages_of g s)) (sym at) };
        has = holds.forms j low;
      }

  module _ (shape : Shape) (old new : S) (def : TableDef) (block : ℕ) (owners : List Kind) (forests : TableForests) (st : StandsAround g shape old def owners forests block) (own : IsOwnBlock shape owners def block)
      (touched : Touches g (IsPageOfBlock shape block) old new) where
    -- the pages of another block are as they were
    other_pages_kept : (e : ℕ) → e ≢ block → e < shape.extents → owner_of owners e ≡ Block def.number → KeepsBlockPages shape (pages_of g old) (pages_of g new) e
    other_pages_kept e other low is = record {
      each = λ j within.
          let p = first_page_of shape.extents shape.extent_pages e + j in
          let end : first_page_of shape.extents shape.extent_pages e + shape.extent_pages ≡ first_page_of shape.extents shape.extent_pages (e + 1) = omega arith in
          let there = extent_within shape old owners e st.trees.map low (not_free owners e def.number is) in
          let was : HoldsPage g old p (page_at (pages_of g old) p) = record { is_told = st.told; within = omega (arith, there, within, end); bytes_are = refl } in
          let now = touched.others p (page_at (pages_of g old) p) (λ mine. other (sym (extent_of-page shape e j within) ∙ mine.1)) was in
          now.bytes_are;
    }

    line_still : (line : MapLine) → line.block ≢ block → IsLineSound shape (pages_of g old) owners def line → IsLineSound shape (pages_of g new) owners def line
    line_still line other was =
        let kept = other_pages_kept line.block other was.mapped.within was.mapped.owned in
        let rows = rows_in_block-kept shape (pages_of g old) (pages_of g new) def line.block kept in
        record {
          mapped = was.mapped;
          used_count = record { some_row = was.used_count.some_row; counted = λ used. was.used_count.counted used ∙ sym (ap length rows) };
          idle_count = was.idle_count;
          rows = λ used.
              let sound = was.rows used in
              record {
                forms = λ j low. subst (λ page. IsRowPage def.columns page (rows_of def.columns page)) (sym (kept.each j low)) (sound.forms j low);
                rows = subst (AllByRecursion (λ (placed : PlacedRow). RowFits def placed.row)) (sym rows) sound.rows;
              };
          cell = λ used. subst (AllPairs (λ (a b : PlacedRow). AreOfOneCell def a.row.values b.row.values)) (sym rows) (was.cell used);
        }

    -- the rows of another Used block
    used_rows_still : (e : ℕ) → e ≢ block → Contains (used_blocks forests.map) e → rows_in_block shape (pages_of g new) def e ≡ rows_in_block shape (pages_of g old) def e
    used_rows_still e other used =
        let named = named_in_state 1 (leaf_entries forests.map) e used in
        let line = st.map.others named.entry named.there (λ same. other (sym named.block_is ∙ same)) in
        rows_in_block-kept shape (pages_of g old) (pages_of g new) def e
        (other_pages_kept e other (subst (λ (n : ℕ). n < shape.extents) named.block_is line.mapped.within) (subst (λ (n : ℕ). owner_of owners n ≡ Block def.number) named.block_is line.mapped.owned))

    row_now : (placed : PlacedRow) → IsOtherRow shape (pages_of g old) def forests.map block placed → IsOtherRow shape (pages_of g new) def forests.map block placed
    row_now placed is = record {
      used = is.used;
      other = is.other;
      there = subst (λ rows. Contains rows placed) (sym (used_rows_still placed.rid.block is.other is.used)) is.there;
    }

    row_was : (placed : PlacedRow) → IsOtherRow shape (pages_of g new) def forests.map block placed → IsOtherRow shape (pages_of g old) def forests.map block placed
    row_was placed is = record {
      used = is.used;
      other = is.other;
      there = subst (λ rows. Contains rows placed) (used_rows_still placed.rid.block is.other is.used) is.there;
    }

    index_still : (parts : List KeyPart) (index : Forest) → IsIndexAround shape (pages_of g old) def forests.map parts block index → IsIndexAround shape (pages_of g new) def forests.map parts block index
    index_still parts index was = record {
      has = λ placed is. was.has placed (row_was placed is);
      only = λ y there other. let o = was.only y there other in (o.0, row_now o.0 o.1, o.2);
    }

    indexes_still : (dims : List (List ℕ)) (indexes : List Forest) → AllZip (λ dim index. IsIndexAround shape (pages_of g old) def forests.map (rising_parts dim) block index) dims indexes
        → AllZip (λ dim index. IsIndexAround shape (pages_of g new) def forests.map (rising_parts dim) block index) dims indexes
    indexes_still [] [] was = tt
    indexes_still [] (index ∷ indexes) was = absurd was
    indexes_still (dim ∷ dims) [] was = absurd was
    indexes_still (dim ∷ dims) (index ∷ indexes) was = (index_still (rising_parts dim) index was.0, indexes_still dims indexes was.1)

    around_still : (g.state new).is_told ≡ (g.state old).is_told → length (g.state new).work ≡ length (g.state old).work → StandsAround g shape new def owners forests block
    around_still told count = record {
      told = told ∙ st.told;
      trees =
          stand_still (IsPageOfBlock shape block) shape old new owners (tree_places def) (forests_in_order forests) st.trees touched told (omega (arith, count))
          (λ p on of. no_space_page shape p of.0 (inr on))
          (λ p l of. block_page_unused shape owners p def.number (ap (owner_of owners) of.1 ∙ own.owned) (st.trees.used p l));
      map = record {
        entries = st.map.entries;
        form = st.map.form;
        others = λ x there other. line_still (map_line x) other (st.map.others x there other);
        all_named = st.map.all_named;
      };
      composite = index_still (cell_parts def) forests.composite st.composite;
      dims = indexes_still def.dims forests.dims st.dims;
    }

    -- what another extent is
    spot_still : (e : ℕ) → e ≢ block → (kind : Kind) → owner_of owners e ≡ kind → spot_of_kind shape (pages_of g new) def forests.map e kind ≡ spot_of_kind shape (pages_of g old) def forests.map e kind
    spot_still e other Free is = refl
    spot_still e other (Index used) is = refl
    spot_still e other (Block t) is = elim (cases_eq t def.number) [
      | inl same ↦
          let own_block = is ∙ ap Block same in
          let slots = block_slots-kept shape (pages_of g old) (pages_of g new) def e (other_pages_kept e other (omega (arith, block_below owners e t is, st.trees.map.count)) own_block) in
          ap (λ slots. if t == def.number then spot_of_state (mapped_state e (map_lines forests.map)) slots else OtherBlock) slots
      | inr differs ↦
          rw (ne_eqb t def.number differs) refl
    ]

-- ---- changes one after the other

module _ {S : Type 0} {g : Ghosts S} {After : Spot → Spot → Type 0} (change : IsSpotChange After) where
  pub around_none : (shape : Shape) (noted : SpaceNotes) (s : S) (def : TableDef) (block : ℕ) (owners : List Kind) (forests : TableForests) → StandsAround g shape s def owners forests block
      → ChangesAround g After shape noted noted s s def block owners forests owners forests
  around_none shape noted s def block owners forests st = record {
    stands = st;
    trees = changes_none shape noted s (tree_places def) owners (forests_in_order forests) st.trees;
    records = refl;
    spots = λ e other. change.stays (spot_in g shape s def owners forests e);
    longer = omega arith;
    grows = grows_pages_none shape s;
  }

  pub around_then : (shape : Shape) (before mid_notes noted : SpaceNotes) (old mid new : S) (def : TableDef) (block : ℕ) (owners owners_mid owners_now : List Kind) (forests forests_mid forests_now : TableForests)
      → ChangesAround g After shape before mid_notes old mid def block owners forests owners_mid forests_mid → ChangesAround g After shape mid_notes noted mid new def block owners_mid forests_mid owners_now forests_now
      → ChangesAround g After shape before noted old new def block owners forests owners_now forests_now
  around_then shape before mid_notes noted old mid new def block owners owners_mid owners_now forests forests_mid forests_now first second = record {
    stands = second.stands;
    trees =
        changes_then shape before mid_notes noted mid new (tree_places def) owners owners_mid owners_now (forests_in_order forests) (forests_in_order forests_mid) (forests_in_order forests_now)
        first.trees second.trees;
    records = second.records ∙ first.records;
    spots = λ e other.
        change.goes_on (spot_in g shape old def owners forests e) (spot_in g shape mid def owners_mid forests_mid e) (spot_in g shape new def owners_now forests_now e)
        (first.spots e other) (second.spots e other);
    longer = omega (arith, first.longer, second.longer);
    grows = grows_pages_then shape old mid new first.longer second.longer first.grows second.grows;
  }

  -- a call that touches pages of the block alone
  pub rows_step : (shape : Shape) (noted : SpaceNotes) (old new : S) (def : TableDef) (block : ℕ) (owners : List Kind) (forests : TableForests) → StandsAround g shape old def owners forests block → IsOwnBlock shape owners def block
      → Touches g (IsPageOfBlock shape block) old new → (g.state new).is_told ≡ (g.state old).is_told → length (g.state new).work ≡ length (g.state old).work
      → ChangesAround g After shape noted noted old new def block owners forests owners forests
  rows_step shape noted old new def block owners forests st own touched told count =
      let stays = around_still shape old new def block owners forests st own touched told count in
      record {
        stands = stays;
        trees = record {
          stand = stays.trees;
          pages = λ p l. inl l;
          kept = keeps_all shape owners (forests_in_order forests);
          notes = λ right. right;
        };
        records = refl;
        spots = λ e other.
            subst (λ spot. After (spot_in g shape old def owners forests e) spot)
            (sym (spot_still shape old new def block owners forests st own touched e other (owner_of owners e) refl)) (change.stays (spot_in g shape old def owners forests e));
        longer = omega (arith, count);
        grows = record {
          stated = growth_still touched (λ mine. let at : first_count shape.extents ≤ 0 = mine.0.behind in absurd (omega (arith, at))) count;
          whole = λ is. record { extents = is.extents; within = is.within; count = count ∙ is.count };
        };
      }

module _ {S : Type 0} {g : Ghosts S} {After : Spot → Spot → Type 0} where
  pub own_still : (shape : Shape) (before noted : SpaceNotes) (old new : S) (def : TableDef) (block : ℕ) (owners owners_now : List Kind) (forests forests_now : TableForests)
      → ChangesAround g After shape before noted old new def block owners forests owners_now forests_now → IsOwnBlock shape owners def block → IsOwnBlock shape owners_now def block
  own_still shape before noted old new def block owners owners_now forests forests_now changes own = record {
    within = own.within;
    owned = block_of_table (owner_of owners_now block) def.number (changes.trees.kept.blocks block ∙ ap table_of_block own.owned);
  }

  -- damage that is met later
  breaks_back : (shape : Shape) (before mid_notes : SpaceNotes) (old mid : S) (def : TableDef) (block : ℕ) (Expected Then : List Kind → TableForests → Type 0)
      → ((owners : List Kind) (forests : TableForests) → StandsAround g shape old def owners forests block → IsOwnBlock shape owners def block → StepsTo g After shape before mid_notes old mid def block Expected Then owners forests)
      → (damage : Damage) → BreaksAround g shape mid def block Then damage → BreaksAround g shape old def block Expected damage
  breaks_back shape before mid_notes old mid def block Expected Then steps damage breaks = record {
    names = breaks.names;
    broken = λ owners forests st own expected.
        let step = steps owners forests st own in
        breaks.broken step.owners_now step.forests_now step.changes.stands
        (own_still shape before mid_notes old mid def block owners step.owners_now forests step.forests_now step.changes own) (step.expects expected);
  }

  -- a run, and one more behind it, where the table stands but for the block in between
  pub runs_around_then : (shape : Shape) (before mid_notes : SpaceNotes) (old mid new : S) (def : TableDef) (block : ℕ) (Expected Then : List Kind → TableForests → Type 0) (fault : Option StoreFault)
      → ((owners : List Kind) (forests : TableForests) → StandsAround g shape old def owners forests block → IsOwnBlock shape owners def block → StepsTo g After shape before mid_notes old mid def block Expected Then owners forests)
      → RunsOverPages g (IsSpaceAround g shape old def block) (IsSpaceAround g shape old def block) (BreaksAround g shape old def block Expected) old mid None
      → RunsOverPages g (IsSpaceAround g shape mid def block) (IsSpaceAround g shape mid def block) (BreaksAround g shape mid def block Then) mid new fault
      → RunsOverPages g (IsSpaceAround g shape old def block) (IsSpaceAround g shape old def block) (BreaksAround g shape old def block Expected) old new fault
  runs_around_then shape before mid_notes old mid new def block Expected Then fault steps first second =
      runs_then first second (λ p there is. space p is) space (breaks_back shape before mid_notes old mid def block Expected Then steps)
    where
      space : (p : ℕ) → IsSpaceAround g shape mid def block p → IsSpaceAround g shape old def block p
      space p is owners forests st own =
          let step = steps owners forests st own in
          let trees = step.changes.trees in
          let own_mid = own_still shape before mid_notes old mid def block owners step.owners_now forests step.forests_now step.changes own in
          elim (is step.owners_now step.forests_now step.changes.stands own_mid) [
            | inl here ↦ elim (trees.pages p here) [ inl was ↦ inl was | inr idle ↦ inr (inr (inr idle)) ]
            | inr rest ↦ elim rest [
              | inl of_block ↦ inr (inl of_block)
              | inr other ↦ elim other [
                | inl on_map ↦ inr (inr (inl on_map))
                | inr idle ↦ elim (idle_back shape owners step.owners_now (forests_in_order forests) (forests_in_order step.forests_now) p trees.kept idle) [
                  | inl was ↦ inl was
                  | inr still ↦ inr (inr (inr still))
                ]
              ]
            ]
          ]

  -- the same where nothing is claimed: no page came to the trees
  pub runs_place_then : (shape : Shape) (before mid_notes : SpaceNotes) (old mid new : S) (def : TableDef) (block : ℕ) (Expected Then : List Kind → TableForests → Type 0) (fault : Option StoreFault)
      → ((owners : List Kind) (forests : TableForests) → StandsAround g shape old def owners forests block → IsOwnBlock shape owners def block
      → (step : StepsTo g After shape before mid_notes old mid def block Expected Then owners forests)
      × ((p : ℕ) → 0 < sum_by (times p) (forests_in_order step.forests_now) → 0 < sum_by (times p) (forests_in_order forests)))
      → RunsOverPages g (IsPlaceAround g shape old def block) (IsPlaceAround g shape old def block) (BreaksAround g shape old def block Expected) old mid None
      → RunsOverPages g (IsPlaceAround g shape mid def block) (IsPlaceAround g shape mid def block) (BreaksAround g shape mid def block Then) mid new fault
      → RunsOverPages g (IsPlaceAround g shape old def block) (IsPlaceAround g shape old def block) (BreaksAround g shape old def block Expected) old new fault
  runs_place_then shape before mid_notes old mid new def block Expected Then fault steps first second =
      runs_then first second (λ p there is. place p is) place (breaks_back shape before mid_notes old mid def block Expected Then (λ owners forests st own. let s = steps owners forests st own in s.0))
    where
      place : (p : ℕ) → IsPlaceAround g shape mid def block p → IsPlaceAround g shape old def block p
      place p is owners forests st own =
          let leads = steps owners forests st own in
          let step = leads.0 in
          let own_mid = own_still shape before mid_notes old mid def block owners step.owners_now forests step.forests_now step.changes own in
          elim (is step.owners_now step.forests_now step.changes.stands own_mid) [
            | inl here ↦ inl (leads.1 p here)
            | inr rest ↦ elim rest [
              | inl of_block ↦ inr (inl of_block)
              | inr on_map ↦ inr (inr on_map)
            ]
          ]

module _ {S : Type 0} {g : Ghosts S} where
  -- the extent of the block lies within the pages
  pub breaks_extent : (shape : Shape) (s : S) (def : TableDef) (block : ℕ) (Expected : List Kind → TableForests → Type 0) (damage : Damage) → BreaksExtent g shape s block damage → block < shape.extents
      → BreaksAround g shape s def block Expected damage
  breaks_extent shape s def block Expected damage breaks low = record {
    names = NamesTablePart.map_page breaks.rule (is_map_page shape block damage.page low breaks.page);
    broken = λ owners forests st own expected. absurd (omega (arith, breaks.past, extent_within shape s owners block st.trees.map own.within (not_free owners block def.number own.owned)));
  }

  -- a call on the rows of the block
  pub breaks_rows : (shape : Shape) (s : S) (def : TableDef) (block : ℕ) (damage : Damage) → BreaksRows g shape s def block damage → block < shape.extents
      → BreaksAround g shape s def block (λ owners forests. (slots : List (Option Row)) × HoldsRows g shape s def block slots) damage
  breaks_rows shape s def block damage (inl past) low = breaks_extent shape s def block (λ owners forests. (slots : List (Option Row)) × HoldsRows g shape s def block slots) damage past low
  breaks_rows shape s def block damage (inr no_page) low = record {
    names = NamesTablePart.row_page block no_page.rule no_page.page;
    broken = λ owners forests st own expected.
        let holds = expected.1 in
        let at = row_page_at shape s def block damage.page expected.0 holds no_page.page in
        no_page.no_rows at.bytes at.page at.has;
  }

  -- what is said of a table that stands but for the block is so of one that stands
  pub breaks_of_table : (shape : Shape) (s : S) (def : TableDef) (block : ℕ) (Expected Whole : List Kind → TableForests → Type 0) (damage : Damage) → BreaksAround g shape s def block Expected damage
      → ((owners : List Kind) (forests : TableForests) → StandsTable g shape s def owners forests → Whole owners forests → StandsAround g shape s def owners forests block × IsOwnBlock shape owners def block × Expected owners forests)
      → BreaksExpected g shape s def Whole damage
  breaks_of_table shape s def block Expected Whole damage breaks opens = record {
    names = breaks.names;
    broken = λ owners forests st whole. let o = opens owners forests st whole in breaks.broken owners forests o.0 o.1 o.2;
  }
