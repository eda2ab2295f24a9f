-- A scan goes over the blocks that are listed.
use Rattle.std.proofs.Common.{◌≡◌, ◌<◌, ◌≤◌, ◌+◌, ℕ, List, Option, None, Some, IsTrue, length, get_or, take, refl, arith, sym, subst, inr}
use Rattle.std.specs.Prelude.{Contains}
use Rattle.std.proofs.lemmas.List.{length-map}
use Rattle.mdc_ast.specs.declared.definition.TableDef.{TableDef}
use Rattle.mdc_ast.specs.declared.predicate.Pred.{Pred}
use Rattle.mdc_ast.specs.declared.row.Cell.{Cell}
use Rattle.mdc_ast.specs.declared.row.Row.{Row}
use Rattle.store_api.specs.Fetching.{BringsOnce}
use Rattle.store_api.specs.Frame.{NoPage}
use Rattle.store_api.specs.RunsOverPages.{RunsOverPages}
use Rattle.store_api.specs.declared.fault.StoreFault.{StoreFault}
use Rattle.store_api.specs.declared.pages.Pages.{Ghosts}
use Rattle.store_api.specs.declared.shape.Shape.{Shape}
use Rattle.store_api.proofs.RunsOverPagesLemmas.{runs_then}
use Rattle.extent_map.specs.declared.kind.Kind.{Kind}
use Rattle.row_filter.specs.Filtering.{may_filter}
use Rattle.block_rows.specs.Giving.{WasGiven}
use Rattle.block_rows.specs.HeldRows.{HasReadValues, qualifying}
use Rattle.block_rows.specs.declared.row_sink.RowSink
use Rattle.block_rows.proofs.MetRowsLemmas.{each_at}
use Rattle.table_trees.specs.RowCells.{IsCellOf}
use Rattle.table_trees.specs.ToldPages.{PageList}
use Rattle.mdc_sound.specs.StandingTable.{BreaksExpected, BreaksTable, IsPageOfBlock, StandsTable, TableForests, pages_of}
use Rattle.mdc_sound.specs.TableRows.{PlacedRow, rows_in_block}
use Rattle.mdc_sound.proofs.StandingTableLemmas.{stands_same}
use Rattle.mdc_table.specs.SeenBlocks.{HasSeenBlock, IsListedSo}
use Rattle.mdc_table.specs.declared.listed.ListedBlock.{ListedBlock}
use Rattle.table_scan.specs.FoundRows.{GivesRows, HaveQualifying, IsChoicePage, IsChosenRowPage, IsScannedPage, ScansOnce}
use Rattle.table_scan.specs.SeenTable.{AreListedSo, HasCellThatMay, HasScanned, ListsBlocks, blocks_listed}
use Rattle.table_scan.specs.Settled.{IsLeftOf}
use Rattle.table_scan.proofs.BlocksThatMayLemmas.{element_at}
use Rattle.table_scan.proofs.ScanningLemmas.{IsPageBefore, is_chosen, scans_chosen, scans_more}
use Rattle.table_scan.proofs.SettledRowsLemmas.{ScansTo, scans_to_more, scans_whole}

-- these blocks are all that the trees list for a predicate, as they list them
pub record GoesOver {S : Type 0} (g : Ghosts S) (shape : Shape) (s : S) (def : TableDef) (pred : Option Pred) (items : List ListedBlock) : Type 0 where
  pub lists : ListsBlocks g s def pred items
  pub chosen : (owners : List Kind) (forests : TableForests) → StandsTable g shape s def owners forests → HaveQualifying g shape s def pred (blocks_listed items) forests
  pub so : (owners : List Kind) (forests : TableForests) → StandsTable g shape s def owners forests → AreListedSo g shape s def owners forests items

module _ {S : Type 0} {g : Ghosts S} {shape : Shape} {s : S} {def : TableDef} {pred : Option Pred} {items : List ListedBlock} (over : GoesOver g shape s def pred items) where
  -- ---- the next block

  module _ {i : ℕ} {one : ListedBlock} (low : i < length items) (is : one ≡ get_or items i one) where
    block_at : get_or (blocks_listed items) i 0 ≡ one.block
    block_at = element_at (λ (one : ListedBlock). one.block) items i one 0 low is

    block_within : i < length (blocks_listed items)
    block_within = omega (arith, low, length-map items (λ (one : ListedBlock). one.block))

    -- its pages came to hand
    pub once_more : {mid new : S} → ScansOnce g (IsChoicePage g shape s def) (IsPageBefore shape (blocks_listed items) i) s mid → BringsOnce g (IsPageOfBlock shape one.block) mid new
        → ScansOnce g (IsChoicePage g shape s def) (IsPageBefore shape (blocks_listed items) (i + 1)) s new
    once_more {mid} {new} run more =
        scans_more {Early = IsChoicePage g shape s def} shape (blocks_listed items) i over.lists.rising block_within run (subst (λ b. BringsOnce g (IsPageOfBlock shape b) mid new) (sym block_at) more)

    -- the run on them, one of which may be damaged only where the table doesn't stand
    pub runs_more : {mid new : S} {fault : Option StoreFault} → (g.state mid).work ≡ (g.state s).work
        → RunsOverPages g NoPage (IsScannedPage g shape s def pred) (BreaksTable g shape s def) s mid None
        → RunsOverPages g NoPage (IsPageOfBlock shape one.block) (BreaksExpected g shape mid def (IsListedSo g shape mid def one)) mid new fault
        → RunsOverPages g NoPage (IsScannedPage g shape s def pred) (BreaksTable g shape s def) s new fault
    runs_more {mid} same first second =
        let told = first.works.steady.is_told in
        runs_then first second (λ p there none. absurd none)
        (λ p page. inr (λ owners forests st. (get_or (blocks_listed items) i 0, is_chosen shape s def pred (blocks_listed items) forests i (over.chosen owners forests st) block_within, subst (λ b. IsPageOfBlock shape b p) (sym block_at) page)))
        (λ damage b. record { names = b.names; broken = λ owners forests st. b.broken owners forests (stands_same shape s mid def owners forests told same st) (listed_same owners forests same (listed_here owners forests (over.so owners forests st))) })
      where
        listed_here : (owners : List Kind) (forests : TableForests) → AreListedSo g shape s def owners forests items → IsListedSo g shape s def one owners forests
        listed_here owners forests all = subst (λ o. IsListedSo g shape s def o owners forests) (sym is) (each_at (λ o. IsListedSo g shape s def o owners forests) items i one all low)

        listed_same : {mid : S} (owners : List Kind) (forests : TableForests) → (g.state mid).work ≡ (g.state s).work → IsListedSo g shape s def one owners forests → IsListedSo g shape mid def one owners forests
        listed_same owners forests same so = record {
          line = so.line;
          cell = subst (λ pages. (cell : Cell) → one.cell ≡ Some cell → (placed : PlacedRow) × Contains (rows_in_block shape pages def one.block) placed × IsCellOf def cell placed.row.values) (sym same) so.cell;
        }

    -- its rows that qualify were given
    pub gives_more : {K : Type 0} {sinks : RowSink.Ghosts K} (left : Option Pred) (pages : PageList) (old mid now : K) → pages ≡ pages_of g s
        → IsLeftOf def pred left → ((row : Row) → HasReadValues def.columns row → IsTrue (may_filter pred row.values)) → HasSeenBlock shape pages def one
        → WasGiven sinks mid now (qualifying left (rows_in_block shape pages def one.block)) → ScansTo sinks old mid shape (pages_of g s) def pred (take i items) → ScansTo sinks old now shape (pages_of g s) def pred (take (i + 1) items)
    gives_more {K} {sinks} left pages old mid now same are judged seen given so_far =
        let may : HasCellThatMay def pred one = subst (HasCellThatMay def pred) (sym is) (each_at (HasCellThatMay def pred) items i one over.lists.cells low) in
        scans_to_more shape (pages_of g s) def pred left old mid now items i one low is are judged may
        (subst (λ p. HasSeenBlock shape p def one) same seen) (subst (λ p. WasGiven sinks mid now (qualifying left (rows_in_block shape p def one.block))) same given) so_far

  -- ---- all blocks

  -- those whose pages came to hand were chosen
  pub once_chosen : {new : S} (n : ℕ) → n ≤ length items → ScansOnce g (IsChoicePage g shape s def) (IsPageBefore shape (blocks_listed items) n) s new
      → ScansOnce g (IsChoicePage g shape s def) (IsChosenRowPage g shape s def pred) s new
  once_chosen n low run =
      scans_chosen {Early = IsChoicePage g shape s def} shape def pred (blocks_listed items) n (omega (arith, low, length-map items (λ (one : ListedBlock). one.block))) over.chosen run

  -- all were seen
  module _ {K : Type 0} {sinks : RowSink.Ghosts K} {old now : K} (n : ℕ) (high : length items ≤ n) (scans : ScansTo sinks old now shape (pages_of g s) def pred (take n items)) where
    rows_given : ScansTo sinks old now shape (pages_of g s) def pred items
    rows_given = scans_whole shape (pages_of g s) def pred old now items n high scans

    pub has_scanned : HasScanned sinks old now g shape s def pred
    has_scanned = record {
      rows = _;
      seen = record { listed = items; lists = over.lists; seen = rows_given.seen; rows_are = refl };
      given = rows_given.given;
    }

    -- and where the table stands they have its rows that qualify
    pub gives_rows : (owners : List Kind) (forests : TableForests) → StandsTable g shape s def owners forests → GivesRows sinks old now g shape s def pred forests
    gives_rows owners forests st = record { rows = _; found = (over.chosen owners forests st).whole; given = rows_given.given }
