-- A Used block of a table that stands, by its line in the block map, which counts the rows in its slots.
use Rattle.std.proofs.Common.{◌≡◌, ◌<◌, ◌^◌, ℕ, List, ap, sym, ◌∙◌}
use Rattle.std.specs.Prelude.{◌==◌, Contains, Option, slice_index_or}
use Rattle.mdc_values.specs.declared.value.Value.{Value}
use Rattle.mdc_ast.specs.declared.definition.TableDef.{TableDef}
use Rattle.mdc_ast.specs.declared.row.Row.{Row}
use Rattle.store_api.specs.declared.pages.Pages.{Ghosts}
use Rattle.store_api.specs.declared.shape.Shape.{Shape}
use Rattle.extent_map.specs.declared.kind.Kind.{Kind}
use Rattle.row_page.specs.RowPage.{count_rows}
use Rattle.entry_tree.specs.Forest.{leaf_entries}
use Rattle.block_map.specs.BlockMaps.{HasRow}
use Rattle.block_map.specs.Counting.{used_row}
use Rattle.block_map.specs.MapLines.{map_line, used_blocks}
use Rattle.block_map.specs.MapRows.{row_entry, state_number}
use Rattle.block_map.specs.declared.row.BlockRow.{BlockRow}
use Rattle.block_map.specs.declared.state.BlockState.TheVariants as state
use Rattle.block_map.proofs.MapFormLemmas.{form_one}
use Rattle.block_map.proofs.MapLinesLemmas.{in_state_named, row_block, row_state}
use Rattle.mdc_ast.specs.TableLimits.{IsTableDef}
use Rattle.mdc_sound.specs.Placing.{Spot}
use Rattle.mdc_sound.specs.Placing.Spot.{OtherBlock, UsedBlock}
use Rattle.mdc_sound.specs.StandingTable.{StandsTable, TableForests, pages_of, spots_of}
use Rattle.mdc_sound.specs.TableRows.{block_slots}
use Rattle.mdc_sound.proofs.MappedBlocksLemmas.{entry_rows, small_block}
use Rattle.mdc_sound.proofs.SlotRowsLemmas.{few_rows}
use Rattle.mdc_sound.proofs.TableSpotsLemmas.{used_of_spot, used_spot}
use Rattle.table_blocks.specs.BlockNow.{IsUsedNow}
use Rattle.table_blocks.proofs.OpeningLemmas.{around_block, used_now}

pub record IsCountedNow {S : Type 0} (g : Ghosts S) (shape : Shape) (s : S) (def : TableDef) (line : BlockRow) (owners : List Kind) (forests : TableForests) : Type 0 where
  pub slots : List (Option Row)
  pub values : List Value
  pub was : (d : Spot) → slice_index_or (spots_of g shape s def owners forests) line.block d ≡ UsedBlock slots
  pub now : IsUsedNow g shape s def owners forests line.block values slots
  pub counted : line.rows ≡ count_rows slots

module _ {S : Type 0} {g : Ghosts S} (shape : Shape) (s : S) (def : TableDef) (line : BlockRow) (defined : IsTableDef def.number def) (low : line.block < shape.extents) (few : line.rows < 2 ^ 16) (owners : List Kind) (forests : TableForests)
    (st : StandsTable g shape s def owners forests) (there : HasRow line forests.map) where
  counted_now : Contains (used_blocks forests.map) line.block → IsCountedNow g shape s def line owners forests
  counted_now used =
      let block = line.block in
      let opened = used_now shape s def owners forests defined st block used in
      let now = opened.1 in
      let small = small_block shape block low in
      let slots = block_slots shape (pages_of g s) def block in
      let many = few_rows shape (pages_of g s) def block slots now.rows.slots_are in
      let same : row_entry line ≡ row_entry (used_row block (count_rows slots)) =
      form_one forests.map (row_entry line) (row_entry (used_row block (count_rows slots))) (around_block shape s def owners forests defined st block).map.form there now.line
      (row_block line small ∙ sym (row_block (used_row block (count_rows slots)) small)) in
      record {
        slots = slots;
        values = opened.0;
        was = λ d. used_spot shape (pages_of g s) def owners forests.map block d st.map used;
        now = now;
        counted = sym (entry_rows line few) ∙ ap (λ x. (map_line x).rows) same ∙ entry_rows (used_row block (count_rows slots)) many;
      }

  -- the line says that the block is Used
  pub used_counted : line.state ≡ state.Used → IsCountedNow g shape s def line owners forests
  used_counted is_used =
      counted_now (in_state_named 1 (leaf_entries forests.map) line.block (record {
        entry = row_entry line;
        there = there;
        state = ap (λ (n : ℕ). n == 1) (row_state line ∙ ap state_number is_used);
        block_is = row_block line (small_block shape line.block low);
      }))

  -- the block has these slots
  pub spot_counted : (slots : List (Option Row)) → slice_index_or (spots_of g shape s def owners forests) line.block OtherBlock ≡ UsedBlock slots → (here : IsCountedNow g shape s def line owners forests) × (slots ≡ here.slots)
  spot_counted slots is =
      let here = counted_now (used_of_spot shape (pages_of g s) def owners forests.map st.map line.block slots is).0 in
      let spots : UsedBlock slots ≡ UsedBlock here.slots = sym is ∙ here.was OtherBlock in
      (here, cc)

  -- the line says how many rows are in them
  pub rows_counted : (slots : List (Option Row)) → slice_index_or (spots_of g shape s def owners forests) line.block OtherBlock ≡ UsedBlock slots → line.rows ≡ count_rows slots
  rows_counted slots is = let counted = spot_counted slots is in counted.0.counted ∙ ap count_rows (sym counted.1)
