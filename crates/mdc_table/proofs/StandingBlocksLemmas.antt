-- The blocks of a table that stands and the rows in them, and the damage that calls which read them may name.
use Rattle.std.proofs.Common.{◌≡◌, ◌≢◌, ◌<◌, ◌≤◌, ◌+◌, ℕ, List, length, refl, ap, arith, sym, ◌∙◌, subst, ◌⊎◌, inl, inr}
use Rattle.std.specs.Prelude.{Contains, IfOk, Option, None, Result, Ok, Err, slice_index_or}
use Rattle.std.proofs.lemmas.List.{get_or_past}
use Rattle.mdc_values.specs.declared.rid.Rid.{Rid}
use Rattle.mdc_ast.specs.declared.definition.TableDef.{TableDef}
use Rattle.mdc_ast.specs.declared.row.Row.{Row}
use Rattle.store_api.specs.Extents.{first_page_of}
use Rattle.store_api.specs.Frame.{HoldsPage, NoPage}
use Rattle.store_api.specs.RunsOverPages.{RunsOverPages}
use Rattle.store_api.specs.StoreState.{page_at}
use Rattle.store_api.specs.declared.fault.Damage.{Damage}
use Rattle.store_api.specs.declared.fault.StoreFault.{StoreFault}
use Rattle.store_api.specs.declared.pages.Pages.{Ghosts}
use Rattle.store_api.specs.declared.shape.Shape.{Shape}
use Rattle.store_api.proofs.RunsOverPagesLemmas.{runs_then, runs_wider}
use Rattle.extent_map.specs.Owners.{owner_of, place_in_extent}
use Rattle.extent_map.specs.declared.kind.Kind.{Kind}
use Rattle.extent_map.specs.declared.kind.Kind.TheVariants.{Free}
use Rattle.extent_map.proofs.ExtentsLemmas.{page_of-parts, place_below}
use Rattle.extent_map.proofs.HoldsMapLemmas.{is_map_page, map_page_at}
use Rattle.row_page.specs.RowPage.{IsRowPage, rows_of}
use Rattle.entry_tree.specs.HeldTrees.{IsTreePage}
use Rattle.entry_tree.specs.declared.tree.Tree.{Tree}
use Rattle.block_map.specs.BlockMaps.{AnyMap, BreaksMapTree}
use Rattle.block_map.specs.MapLines.{free_blocks, used_blocks}
use Rattle.block_rows.specs.HeldRows.{BreaksRows, HoldsRows}
use Rattle.mdc_sound.specs.BlockRules.{AreBlockRowsSound}
use Rattle.mdc_sound.specs.Placing.{IsRowAt, Spot, block_slot_count, row_at_spot, slots_of_spot}
use Rattle.mdc_sound.specs.Placing.Spot.{FreeBlock, FreeExtent, IndexExtent, OtherBlock, PendingBlock, UsedBlock}
use Rattle.mdc_sound.specs.StandingTable.{BreaksExpected, BreaksTable, IsPageOfBlock, IsTableTreePage, NamesTablePart, StandsTable, TableForests, pages_of, spots_of}
use Rattle.mdc_sound.specs.TableRows.{block_slots}
use Rattle.mdc_sound.proofs.BlockRulesLemmas.{each_of, named_owned}
use Rattle.mdc_sound.proofs.PlacingLemmas.{filled_below}
use Rattle.mdc_sound.proofs.StandingTableLemmas.{stands_same}
use Rattle.mdc_sound.proofs.TableSpotsLemmas.{length-spots, used_of_spot, used_spot}
use Rattle.free_space.proofs.TableRunsLemmas.{breaks_map_of_table, breaks_table_same, map_page_of_table}
use Rattle.mdc_sound.proofs.SlotRowsLemmas.{length-block_slots}
use Rattle.table_trees.specs.TableTrees.{map_place}
use Rattle.table_trees.specs.TreesBeside.{IsTreePageAt}
use Rattle.table_trees.proofs.SideBySideLemmas.{tree_still}
use Rattle.table_trees.specs.ToldPages.{PageList}
use Rattle.store_api.proofs.FrameLemmas.{touches_same}
use Rattle.table_blocks.proofs.SeenSlotsLemmas.{holds_map}
use Rattle.mdc_table.specs.TableReading.{HasUsedBlock, IsRowLook}

-- ---- blocks and their rows

module _ {S : Type 0} {g : Ghosts S} (shape : Shape) (s : S) (def : TableDef) (owners : List Kind) (forests : TableForests) (st : StandsTable g shape s def owners forests) where
  -- the pages of a Used block hold its slots
  pub rows_held : (block : ℕ) → Contains (used_blocks forests.map) block → HoldsRows g shape s def block (block_slots shape (pages_of g s) def block)
  rows_held block used =
      let owned = named_owned shape owners def forests.map 1 block st.map used in
      let taken : owner_of owners block ≢ Free = λ free. let wrong = sym owned.1 ∙ free in absurd (cc) in record {
        told = st.told;
        there = (map_page_at block owned.0 st.trees.map).there block refl taken;
        forms = (each_of (AreBlockRowsSound shape (pages_of g s) def) (used_blocks forests.map) block st.rows used).forms;
        slots_are = refl;
      }

  pub free_within : (block : ℕ) → Contains (free_blocks forests.map) block → block < shape.extents
  free_within block free = (named_owned shape owners def forests.map 0 block st.map free).0

  -- ---- the row in a place

  pub row_of_used : (rid : Rid) → Contains (used_blocks forests.map) rid.block → row_at_spot (spots_of g shape s def owners forests) rid ≡ slice_index_or (block_slots shape (pages_of g s) def rid.block) rid.slot None
  row_of_used rid used = ap (λ (spot : Spot). slice_index_or (slots_of_spot spot) rid.slot None) (used_spot shape (pages_of g s) def owners forests.map rid.block OtherBlock st.map used)

  -- a block that isn't Used has none
  pub no_row_unless_used : (rid : Rid) → (Contains (used_blocks forests.map) rid.block → ⊥) → row_at_spot (spots_of g shape s def owners forests) rid ≡ None
  no_row_unless_used rid unused = go (slice_index_or (spots_of g shape s def owners forests) rid.block OtherBlock) refl
    where
      go : (spot : Spot) → slice_index_or (spots_of g shape s def owners forests) rid.block OtherBlock ≡ spot → slice_index_or (slots_of_spot spot) rid.slot None ≡ None
      go (UsedBlock slots) is = absurd (unused (used_of_spot shape (pages_of g s) def owners forests.map st.map rid.block slots is).0)
      go FreeExtent is = refl
      go IndexExtent is = refl
      go OtherBlock is = refl
      go FreeBlock is = refl
      go PendingBlock is = refl

  -- and there is none where there is no such extent or no such slot
  pub no_row_past : (rid : Rid) → (shape.extents ≤ rid.block) ⊎ (block_slot_count shape def ≤ rid.slot) → row_at_spot (spots_of g shape s def owners forests) rid ≡ None
  no_row_past rid (inl past) =
      ap (λ (spot : Spot). slice_index_or (slots_of_spot spot) rid.slot None)
      (get_or_past (spots_of g shape s def owners forests) rid.block OtherBlock (omega (arith, past, length-spots shape (pages_of g s) def owners forests.map)))
  no_row_past rid (inr past) = go (slice_index_or (spots_of g shape s def owners forests) rid.block OtherBlock) refl
    where
      go : (spot : Spot) → slice_index_or (spots_of g shape s def owners forests) rid.block OtherBlock ≡ spot → slice_index_or (slots_of_spot spot) rid.slot None ≡ None
      go (UsedBlock slots) is =
          let spot = used_of_spot shape (pages_of g s) def owners forests.map st.map rid.block slots is in
          get_or_past slots rid.slot None (omega (arith, past, ap length spot.1, length-block_slots shape (pages_of g s) def rid.block))
      go FreeExtent is = refl
      go IndexExtent is = refl
      go OtherBlock is = refl
      go FreeBlock is = refl
      go PendingBlock is = refl

  -- a block with a row has all its slots
  pub length-slots_at : (rid : Rid) (row : Row) (slots : List (Option Row)) → IsRowAt (spots_of g shape s def owners forests) rid row slots → length slots ≡ block_slot_count shape def
  length-slots_at rid row slots lies =
      let spot = used_of_spot shape (pages_of g s) def owners forests.map st.map rid.block slots (lies.block OtherBlock) in
      omega (arith, ap length spot.1, length-block_slots shape (pages_of g s) def rid.block)

  -- where a row lies there is such an extent and such a slot
  pub lies_within : (rid : Rid) (row : Row) (slots : List (Option Row)) → IsRowAt (spots_of g shape s def owners forests) rid row slots → (rid.block < shape.extents) × (rid.slot < block_slot_count shape def)
  lies_within rid row slots lies = (
    omega (arith, lies.within, length-spots shape (pages_of g s) def owners forests.map),
    omega (arith, filled_below slots rid.slot row lies.slot, length-slots_at rid row slots lies),
  )

-- ---- runs

module _ {S : Type 0} {g : Ghosts S} where
  -- the damage of a block's rows is none where the table stands and the block is Used
  pub breaks_rows_of_used : (shape : Shape) (s : S) (def : TableDef) (block : ℕ) (damage : Damage) → block < shape.extents → BreaksRows g shape s def block damage → BreaksExpected g shape s def (HasUsedBlock block) damage
  breaks_rows_of_used shape s def block damage low (inl b) = record {
    names = NamesTablePart.map_page b.rule (is_map_page shape block damage.page low b.page);
    broken = λ owners forests st has. let rows = rows_held shape s def owners forests st block has.used in omega (arith, rows.there, b.past);
  }
  breaks_rows_of_used shape s def block damage low (inr b) = record {
    names = NamesTablePart.row_page block b.rule b.page;
    broken = λ owners forests st has.
        let rows = rows_held shape s def owners forests st block has.used in
        let p = damage.page in
        let j = place_in_extent shape p in
        let below : j < shape.extent_pages = place_below shape p in
        let at : first_page_of shape.extents shape.extent_pages block + j ≡ p = subst (λ (e : ℕ). first_page_of shape.extents shape.extent_pages e + j ≡ p) b.page.1 (page_of-parts shape p b.page.0) in
        let end : first_page_of shape.extents shape.extent_pages block + shape.extent_pages ≡ first_page_of shape.extents shape.extent_pages (block + 1) = omega arith in
        let within : p < length (g.state s).work = omega (arith, at, end, below, rows.there) in
        let bytes = page_at (g.state s).work p in
        let holds : HoldsPage g s p bytes = record { is_told = rows.told; within = within; bytes_are = refl } in
        b.no_rows bytes holds (subst (λ (q : ℕ). IsRowPage def.columns (page_at (g.state s).work q) (rows_of def.columns (page_at (g.state s).work q))) at (rows.forms j below));
  }

  -- a call on the block map
  pub runs_map : {old new : S} {fault : Option StoreFault} (shape : Shape) (def : TableDef) (tree : Tree) → tree.root ≡ def.roots.map → tree.width ≡ 7
      → RunsOverPages g NoPage (IsTreePage g old tree) (BreaksMapTree g old tree AnyMap) old new fault → RunsOverPages g NoPage (IsTableTreePage g shape old def) (BreaksTable g shape old def) old new fault
  runs_map {old} {new} shape def tree root width run =
      runs_wider run (λ p there none. absurd none) (λ p is. map_page_of_table shape old def tree p root width is)
      (λ damage b.
      let breaks = breaks_map_of_table shape old def tree (λ (owners : List Kind) (forests : TableForests). Unit {0}) damage root width b in
      record { names = breaks.names; broken = λ owners forests st. breaks.broken owners forests st tt })

  -- one of whose pages alone come to hand
  pub runs_on_map : {old new : S} {fault : Option StoreFault} (shape : Shape) (def : TableDef) (tree : Tree) → tree.root ≡ def.roots.map → tree.width ≡ 7
      → RunsOverPages g NoPage (IsTreePage g old tree) (BreaksMapTree g old tree AnyMap) old new fault → RunsOverPages g NoPage (IsTreePageAt g old (map_place def)) (BreaksTable g shape old def) old new fault
  runs_on_map {old} {new} shape def tree root width run =
      runs_wider run (λ p there none. absurd none) (λ p is t held. is t (holds_map old def tree t root width held))
      (λ damage b.
      let breaks = breaks_map_of_table shape old def tree (λ (owners : List Kind) (forests : TableForests). Unit {0}) damage root width b in
      record { names = breaks.names; broken = λ owners forests st. breaks.broken owners forests st tt })

  -- two calls that read it
  pub runs_reading : {old mid new : S} {fault : Option StoreFault} (shape : Shape) (def : TableDef) → (g.state mid).work ≡ (g.state old).work
      → RunsOverPages g NoPage (IsTreePageAt g old (map_place def)) (BreaksTable g shape old def) old mid None
      → RunsOverPages g NoPage (IsTreePageAt g mid (map_place def)) (BreaksTable g shape mid def) mid new fault
      → RunsOverPages g NoPage (IsTreePageAt g old (map_place def)) (BreaksTable g shape old def) old new fault
  runs_reading {old} {mid} {new} shape def same first second =
      let told = first.works.steady.is_told in
      runs_then first second (λ p there none. absurd none)
      (λ p is t held. is t (tree_still (λ (q : ℕ). ⊥) old mid (map_place def) t held (touches_same told same) told (λ q l mine. mine)))
      (λ damage b. breaks_table_same shape old mid def damage told same b)

  -- the same with pages of a block
  pub runs_looking : {old new : S} {fault : Option StoreFault} (shape : Shape) (def : TableDef) (block : ℕ) → RunsOverPages g NoPage (IsTreePageAt g old (map_place def)) (BreaksTable g shape old def) old new fault
      → RunsOverPages g NoPage (IsRowLook g shape old def block) (BreaksTable g shape old def) old new fault
  runs_looking shape def block run = runs_wider run (λ p there none. absurd none) (λ p is. inl is) (λ damage b. b)

  -- a call on the block map, and one on the rows of a block that it showed to be Used
  pub runs_on_rows : {old mid new : S} {fault : Option StoreFault} (shape : Shape) (def : TableDef) (block : ℕ) → (g.state mid).work ≡ (g.state old).work → block < shape.extents
      → ((owners : List Kind) (forests : TableForests) → StandsTable g shape old def owners forests → Contains (used_blocks forests.map) block)
      → RunsOverPages g NoPage (IsTreePageAt g old (map_place def)) (BreaksTable g shape old def) old mid None
      → RunsOverPages g NoPage (IsPageOfBlock shape block) (BreaksRows g shape mid def block) mid new fault
      → RunsOverPages g NoPage (IsRowLook g shape old def block) (BreaksTable g shape old def) old new fault
  runs_on_rows {old} {mid} {new} shape def block same low used first second =
      let told = first.works.steady.is_told in
      runs_then (runs_looking {fault = None} shape def block first) second (λ p there none. absurd none) (λ p is. inr is)
      (λ damage b.
      let breaks = breaks_rows_of_used shape mid def block damage low b in
      record { names = breaks.names; broken = λ owners forests st. breaks.broken owners forests (stands_same shape old mid def owners forests told same st) (record { used = used owners forests st }) })

  -- a block past the extents is none of a table that stands
  pub breaks_past : (shape : Shape) (s : S) (def : TableDef) (block : ℕ) → shape.extents ≤ block → BreaksExpected g shape s def (HasUsedBlock block) (record { page = def.roots.map; rule = 6 })
  breaks_past shape s def block past = record {
    names = NamesTablePart.block_map refl refl;
    broken = λ owners forests st has. omega (arith, past, (named_owned shape owners def forests.map 1 block st.map has.used).0);
  }

  -- the row that was found in a slot of a Used block is the one in its place
  pub row_found : (shape : Shape) (old mid : S) (def : TableDef) (rid : Rid) (result : Result (Option Row) StoreFault) → (g.state mid).is_told ≡ (g.state old).is_told → (g.state mid).work ≡ (g.state old).work
      → ((owners : List Kind) (forests : TableForests) → StandsTable g shape old def owners forests → Contains (used_blocks forests.map) rid.block)
      → IfOk result (λ row. (slots : List (Option Row)) → HoldsRows g shape mid def rid.block slots → row ≡ slice_index_or slots rid.slot None)
      → IfOk result (λ row. (owners : List Kind) (forests : TableForests) → StandsTable g shape old def owners forests → row ≡ row_at_spot (spots_of g shape old def owners forests) rid)
  row_found shape old mid def rid (Ok row) told same used found = λ owners forests st.
      let there = used owners forests st in
      found (block_slots shape (pages_of g mid) def rid.block) (rows_held shape mid def owners forests (stands_same shape old mid def owners forests told same st) rid.block there)
      ∙ ap (λ (pages : PageList). slice_index_or (block_slots shape pages def rid.block) rid.slot None) same
      ∙ sym (row_of_used shape old def owners forests st rid there)
  row_found shape old mid def rid (Err fault) told same used found = tt
