-- Runs that read the rows of a block that is listed whole.
use Rattle.std.proofs.Common.{◌≡◌, ◌∙◌, ℕ, List, arith, inl, inr, length, subst}
use Rattle.std.specs.Prelude.{Contains, IsTrue, None, Option}
use Rattle.mdc_ast.specs.declared.definition.TableDef.{TableDef}
use Rattle.mdc_ast.specs.declared.predicate.Pred.{Pred}
use Rattle.store_api.specs.Frame.{NoPage}
use Rattle.store_api.specs.RunsOverPages.{RunsOverPages}
use Rattle.store_api.specs.declared.fault.StoreFault.{StoreFault}
use Rattle.store_api.specs.declared.pages.Pages.{Ghosts}
use Rattle.store_api.specs.declared.shape.Shape.{Shape}
use Rattle.store_api.proofs.RunsOverPagesLemmas.{runs_then, runs_wider}
use Rattle.extent_map.specs.declared.kind.Kind.{Kind}
use Rattle.entry_tree.specs.Forest.{Forest}
use Rattle.block_map.specs.MapLines.{map_lines, used_blocks}
use Rattle.block_rows.specs.CountedRows.{IsCountedPage, counted_rows}
use Rattle.block_rows.specs.Giving.{WasGiven}
use Rattle.block_rows.specs.HeldRows.{qualifying}
use Rattle.block_rows.specs.declared.row_sink.RowSink
use Rattle.block_rows.proofs.CountedRowsLemmas.{counted_whole}
use Rattle.table_trees.specs.TableTrees.{map_place}
use Rattle.table_trees.specs.ToldPages.{PageList}
use Rattle.table_trees.specs.TreesBeside.{HoldsTreeAt, IsTreePageAt}
use Rattle.mdc_sound.specs.StandingTable.{BreaksExpected, BreaksTable, StandsTable, TableForests, pages_of}
use Rattle.mdc_sound.specs.TableRows.{PlacedRow, rows_in_block}
use Rattle.mdc_sound.proofs.StandingTableLemmas.{stands_same}
use Rattle.mdc_table.specs.SeenBlocks.{IsListedSo}
use Rattle.mdc_table.proofs.ListedBlocksLemmas.{rows_as_listed}
use Rattle.mdc_table.specs.TableReading.{HasUsedBlock}
use Rattle.executor.specs.PartRows.{IsPageForPart}
use Rattle.executor.specs.SeenParts.{whole_listed}
use Rattle.executor.proofs.LastRowsLemmas.{counted_before, page_of_counted}

module _ {S : Type 0} {g : Ghosts S} (shape : Shape) (def : TableDef) (block : ℕ) where
  -- a look for the line of a block that is Used where the table stands
  pub line_runs : {old new : S} {fault : Option StoreFault} → ((owners : List Kind) (forests : TableForests) → StandsTable g shape old def owners forests → Contains (used_blocks forests.map) block)
      → RunsOverPages g NoPage (IsTreePageAt g old (map_place def)) (BreaksExpected g shape old def (HasUsedBlock block)) old new fault
      → RunsOverPages g NoPage (IsPageForPart g shape old def block) (BreaksTable g shape old def) old new fault
  line_runs used run =
      runs_wider run (λ p there none. none) (λ p is. inl is) (λ damage b. record { names = b.names; broken = λ owners forests st. b.broken owners forests st (record { used = used owners forests st }) })

  module _ {old mid : S} (same : (g.state mid).work ≡ (g.state old).work) (first : RunsOverPages g NoPage (IsPageForPart g shape old def block) (BreaksTable g shape old def) old mid None)
      (used : (owners : List Kind) (forests : TableForests) → StandsTable g shape old def owners forests → Contains (used_blocks forests.map) block) where
    module _ (rows : ℕ) (line : (t : Forest) → HoldsTreeAt g old (map_place def) t → Contains (map_lines t) (record { block = block; state = 1; rows = rows })) where
      still : (owners : List Kind) (forests : TableForests) → StandsTable g shape old def owners forests → StandsTable g shape mid def owners forests
      still owners forests st = stands_same shape old mid def owners forests first.works.steady.is_told same st

      -- it is listed with these rows
      listed_so : (owners : List Kind) (forests : TableForests) → StandsTable g shape old def owners forests → IsListedSo g shape mid def (whole_listed block rows) owners forests
      listed_so owners forests st = record { line = line forests.map st.trees.held.0; cell = λ cell has. absurd cc }

      -- and has so many
      pub as_many : (owners : List Kind) (forests : TableForests) → StandsTable g shape old def owners forests → length (rows_in_block shape (pages_of g old) def block) ≡ rows
      as_many owners forests st =
          subst (λ (pages : PageList). length (rows_in_block shape pages def block) ≡ rows) same (rows_as_listed shape mid def (whole_listed block rows) owners forests (still owners forests st) (listed_so owners forests st))

      -- and then its rows, as many as its line says
      pub whole_runs : {new : S} {fault : Option StoreFault}
          → RunsOverPages g NoPage (IsCountedPage g shape mid def block rows) (BreaksExpected g shape mid def (IsListedSo g shape mid def (whole_listed block rows))) mid new fault
          → RunsOverPages g NoPage (IsPageForPart g shape old def block) (BreaksTable g shape old def) old new fault
      whole_runs second =
          runs_then first second (λ p low none. none)
          (λ p is. inr (λ owners forests st sound.
          (used owners forests st, page_of_counted shape old def block rows p (as_many owners forests st) (counted_before shape old mid def first.works.steady.is_told same block p rows is))))
          (λ damage b. record { names = b.names; broken = λ owners forests st. b.broken owners forests (still owners forests st) (listed_so owners forests st) })

      -- a sink that was given those that qualify was given all of the block that do
      pub whole_given : {K : Type 0} (sinks : RowSink.Ghosts K) (sink_old sink_new : K) (pred : Option Pred)
          → (IsTrue (g.state mid).is_told → WasGiven sinks sink_old sink_new (qualifying pred (counted_rows shape (pages_of g mid) def block rows)))
          → (owners : List Kind) (forests : TableForests) → StandsTable g shape old def owners forests → WasGiven sinks sink_old sink_new (qualifying pred (rows_in_block shape (pages_of g old) def block))
      whole_given sinks sink_old sink_new pred given owners forests st =
          subst (λ (those : List PlacedRow). WasGiven sinks sink_old sink_new (qualifying pred those)) (counted_whole shape (pages_of g old) def block rows (omega (arith, as_many owners forests st)))
          (subst (λ (pages : PageList). WasGiven sinks sink_old sink_new (qualifying pred (counted_rows shape pages def block rows))) same (given (first.works.steady.is_told ∙ st.told)))
