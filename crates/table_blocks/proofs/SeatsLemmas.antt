-- The seat of a row in a block: how it is found, and its line counted.
use Rattle.std.proofs.Common.{◌≡◌, ◌<◌, ◌*◌, ◌+◌, ℕ, List, refl, ap, arith, length, subst, sym, inl, inr}
use Rattle.std.specs.Prelude.{None, Option}
use Rattle.mdc_ast.specs.declared.definition.TableDef.{TableDef}
use Rattle.mdc_ast.specs.declared.row.Row.{Row}
use Rattle.mdc_ast.specs.TableLimits.{IsTableDef}
use Rattle.store_api.specs.Frame.{NoPage}
use Rattle.store_api.specs.RunsOverPages.{RunsOverPages}
use Rattle.store_api.specs.Works.{Steady}
use Rattle.store_api.specs.declared.fault.StoreFault.{StoreFault}
use Rattle.store_api.specs.declared.pages.Pages.{Ghosts}
use Rattle.store_api.specs.declared.shape.Shape.{Shape}
use Rattle.store_api.proofs.RunsOverPagesLemmas.{runs_then, runs_wider}
use Rattle.extent_map.specs.declared.kind.Kind.{Kind}
use Rattle.row_page.specs.RowPage.{slot_count}
use Rattle.entry_tree.specs.Forest.{Forest}
use Rattle.entry_tree.specs.HeldTrees.{HoldsTree, IsTreePage}
use Rattle.entry_tree.specs.declared.tree.Tree.{Tree}
use Rattle.entry_tree.proofs.AmendedLemmas.{holds_back}
use Rattle.block_map.specs.BlockMaps.{AnyMap, BreaksMapTree, HasRow, IsMapForm}
use Rattle.block_map.specs.Counting.{FindsUsedRow, used_row}
use Rattle.block_map.specs.MapChanges.{ChangesRowTo}
use Rattle.block_map.specs.declared.looking.FoundRow.{FoundRow}
use Rattle.block_map.specs.declared.row.BlockRow.{BlockRow}
use Rattle.block_map.proofs.CountingLemmas.{row_found_still}
use Rattle.block_rows.specs.HeldRows.{BreaksRows, HoldsRows}
use Rattle.block_rows.specs.Seats.{IsSeat}
use Rattle.block_rows.proofs.HeldRowsLemmas.{rows_stay}
use Rattle.mdc_sound.specs.Placing.{block_slot_count}
use Rattle.mdc_sound.specs.StandingTable.{BreaksTable, IsBlockOrMapPage, IsPageOfBlock, StandsTable, TableForests}
use Rattle.mdc_sound.proofs.StandingTableLemmas.{stands_same}
use Rattle.table_blocks.specs.Seats.{HasSeat}
use Rattle.table_blocks.proofs.AroundLemmas.{breaks_rows}
use Rattle.table_blocks.proofs.FilledRoomLemmas.{CountsRow}
use Rattle.table_blocks.proofs.FillingLemmas.{opens_counted}
use Rattle.table_blocks.proofs.MapOfTableLemmas.{breaks_map, map_of_table, map_page}
use Rattle.table_blocks.proofs.OpeningLemmas.{around_block, own_of_line}

module _ {S : Type 0} {g : Ghosts S} (shape : Shape) (def : TableDef) (block : ℕ) (defined : IsTableDef def.number def) (low : block < shape.extents) (tree : Tree) (root : tree.root ≡ def.roots.map) (width : tree.width ≡ 7) where
  -- ---- it is looked for

  -- the block map is asked
  pub runs_asking : {old new : S} {fault : Option StoreFault} → RunsOverPages g NoPage (IsTreePage g old tree) (BreaksMapTree g old tree AnyMap) old new fault
      → RunsOverPages g NoPage (IsBlockOrMapPage g shape old def block) (BreaksTable g shape old def) old new fault
  runs_asking {old} run =
      runs_wider run (λ p there none. none) (λ p is. map_page shape old def defined tree root width block p is) (λ damage b. breaks_map shape old def defined tree root width damage b)

  module _ {old mid : S} {line : FoundRow} (found : FindsUsedRow g old mid tree block line) (asked : RunsOverPages g NoPage (IsTreePage g old tree) (BreaksMapTree g old tree AnyMap) old mid None)
      (same : (g.state mid).work ≡ (g.state old).work) (few : line.row.rows < 65535) (fewer : line.row.rows < shape.extent_pages * slot_count def.columns) where
    line_there : (owners : List Kind) (forests : TableForests) → StandsTable g shape old def owners forests → HasRow (used_row block line.row.rows) forests.map
    line_there owners forests st = subst (λ (r : BlockRow). HasRow r forests.map) found.used (found.there forests.map (map_of_table shape old def defined tree root width owners forests st))

    -- then the block, which is the table's own
    pub runs_seeking : {new : S} {fault : Option StoreFault} → RunsOverPages g NoPage (IsPageOfBlock shape block) (BreaksRows g shape mid def block) mid new fault
        → RunsOverPages g NoPage (IsBlockOrMapPage g shape old def block) (BreaksTable g shape old def) old new fault
    runs_seeking {new} run =
        let told = asked.works.steady.is_told in
        let line_used = used_row block line.row.rows in
        runs_then (runs_asking {fault = None} asked) run (λ p there none. none)
        (λ p is owners forests st. inr (inl (record { page = is; own = (own_of_line shape old def owners forests defined st line_used (line_there owners forests st) low).owned })))
        (λ damage b.
        let breaks = breaks_rows shape mid def block damage b low in
        record {
          names = breaks.names;
          broken = λ owners forests st.
              let st_mid = stands_same shape old mid def owners forests told same st in
              let here = (opens_counted shape mid def line_used defined low (omega (arith, few)) refl fewer owners forests st_mid (line_there owners forests st)).here in
              breaks.broken owners forests (around_block shape mid def owners forests defined st_mid block) here.now.own (here.slots, here.now.rows);
        })

    -- it was found
    pub has_seat : {new : S} (row : Row) (slot : ℕ) → Steady g mid new → (g.state new).work ≡ (g.state mid).work → slot < block_slot_count shape def
        → ((slots : List (Option Row)) → HoldsRows g shape mid def block slots → IsSeat def row slots slot) → HasSeat g shape new def tree block row line slot
    has_seat row slot steady still below seats = record {
      used = found.used;
      there = λ t h. found.there t (holds_back asked.works.steady same (holds_back steady still h));
      stands = row_found_still line steady still found.stands;
      few = few;
      fewer = fewer;
      below = below;
      seats = λ slots holds. seats slots (rows_stay g shape def block (sym steady.is_told) (sym still) holds);
    }

  -- ---- its line counts the row

  pub counts_seat : {s mid : S} {row : Row} {line : FoundRow} {slot : ℕ} → HasSeat g shape s def tree block row line slot
      → ((t : Forest) → HoldsTree g s tree t → IsMapForm t → ChangesRowTo g mid tree line.row (used_row line.row.block (line.row.rows + 1)) t)
      → length (g.state mid).work ≡ length (g.state s).work → RunsOverPages g (IsTreePage g s tree) (IsTreePage g s tree) (BreaksMapTree g s tree AnyMap) s mid None
      → CountsRow g shape s mid def block tree line.row.rows
  counts_seat {s} {mid} {row} {line} {slot} has more count run = record {
    defined = defined;
    low = low;
    root = root;
    width = width;
    few = omega (arith, has.few);
    fewer = has.fewer;
    there = λ t h. subst (λ (r : BlockRow). HasRow r t) has.used (has.there t h);
    changes = λ t h form.
        let named : line.row.block ≡ block = ap (λ (r : BlockRow). r.block) has.used in
        subst (λ (b : ℕ). ChangesRowTo g mid tree (used_row block line.row.rows) (used_row b (line.row.rows + 1)) t) named
        (subst (λ (r : BlockRow). ChangesRowTo g mid tree r (used_row line.row.block (line.row.rows + 1)) t) has.used (more t h form));
    count = count;
    run = run;
  }
