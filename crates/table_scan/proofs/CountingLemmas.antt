-- Where cells settle which rows qualify, the lines of the blocks that are listed say how many.
use Rattle.std.proofs.Common.{◌≡◌, ◌∙◌, ℕ, IsTrue, List, [], ◌∷◌, ◌++◌, Bool, true, false, length, length-append, sum_by, refl, ap, arith, sym, Option, None, Some}
use Rattle.std.specs.Prelude.{Contains, filter, flat_map}
use Rattle.std.specs.List.{AllByRecursion}
use Rattle.std.proofs.lemmas.List.Elements.{filter-append}
use Rattle.std.proofs.lemmas.List.Sorted.{length_permutation}
use Rattle.std.proofs.lemmas.List.Sums.{sum_by-cons}
use Rattle.mdc_values.specs.declared.value.Value.{Value}
use Rattle.mdc_ast.specs.declared.definition.TableDef.{TableDef}
use Rattle.mdc_ast.specs.declared.predicate.Pred.{Pred}
use Rattle.mdc_ast.specs.declared.row.Row.{Row}
use Rattle.mdc_ast.specs.FittingRows.{RowFits}
use Rattle.mdc_ast.specs.Truth.{qualifies}
use Rattle.cell_filter.specs.Cells.{may_hold_at}
use Rattle.row_filter.specs.Filtering.{may_filter}
use Rattle.store_api.specs.declared.pages.Pages.{Ghosts}
use Rattle.store_api.specs.declared.shape.Shape.{Shape}
use Rattle.extent_map.specs.declared.kind.Kind.{Kind}
use Rattle.block_map.specs.MapLines.{map_lines, used_blocks}
use Rattle.block_map.proofs.MapLinesLemmas.{contains_more}
use Rattle.block_rows.specs.HeldRows.{HasReadValues, qualifying}
use Rattle.table_trees.specs.RowCells.{cell_places, cell_values}
use Rattle.mdc_sound.specs.BlockRules.{AreBlockRowsSound, IsOfOneCell, IsUsedCountSound}
use Rattle.mdc_sound.specs.StandingTable.{StandsTable, TableForests, pages_of}
use Rattle.mdc_sound.specs.TableRows.{PlacedRow, rows_in_block, rows_in_table}
use Rattle.mdc_sound.proofs.BlockRulesLemmas.{each_of}
use Rattle.mdc_table.specs.SeenBlocks.{IsListedSo, used_line_of}
use Rattle.mdc_table.specs.declared.listed.ListedBlock.{ListedBlock}
use Rattle.mdc_table.proofs.ListedBlocksLemmas.{same_of_any, used_of_listed}
use Rattle.mdc_table.proofs.ReadValuesLemmas.{read_of_fitting}
use Rattle.table_scan.specs.SeenTable.{AreListedSo, HasCellThatMay, blocks_listed}
use Rattle.table_scan.specs.Settled.{IsSettledIfAny, MayHoldIfAny}
use Rattle.table_scan.proofs.ScannedBlocksLemmas.{GoesOver}
use Rattle.table_scan.proofs.ScanningLemmas.{filter_first}

-- where all elements pass, all are left
filter_all : {X : Type 0} (p : X → Bool) (xs : List X) → ((x : X) → Contains xs x → p x ≡ true) → filter p xs ≡ xs
filter_all p [] passes = refl
filter_all p (x ∷ xs) passes = filter_first p x xs (passes x (0, omega arith, refl)) ∙ ap (λ rest. x ∷ rest) (filter_all p xs (λ y there. passes y (contains_more y x xs there)))

-- a row qualifies in whose cell a predicate may hold that is settled
settled_qualifies : (def : TableDef) (pred : Option Pred) (values : List Value) → IsSettledIfAny def pred → IsTrue (may_filter pred values) → MayHoldIfAny def pred values → qualifies pred values ≡ true
settled_qualifies def None values settled judged may = refl
settled_qualifies def (Some pred) values settled judged may = sym (settled values judged false) ∙ may

module _ {S : Type 0} {g : Ghosts S} (shape : Shape) (s : S) (def : TableDef) (owners : List Kind) (forests : TableForests) (st : StandsTable g shape s def owners forests) where
  rows_at : ℕ → List PlacedRow
  rows_at = rows_in_block shape (pages_of g s) def

  module _ (one : ListedBlock) (so : IsListedSo g shape s def one owners forests) where
    is_used : Contains (used_blocks forests.map) one.block
    is_used = used_of_listed forests.map (used_line_of one) refl so.line

    -- a predicate may hold in the cell of each row of a block that is listed
    may_of_listed : (pred : Option Pred) → HasCellThatMay def pred one → (placed : PlacedRow) → Contains (rows_at one.block) placed → MayHoldIfAny def pred placed.row.values
    unfolding rows_at
    may_of_listed None may placed within = tt
    may_of_listed (Some pred) may placed within =
        let (cell, is, holds) = may in
        let (first, there, its) = so.cell cell is in
        let one_cell : IsOfOneCell shape (pages_of g s) def one.block = each_of (IsOfOneCell shape (pages_of g s) def) (used_blocks forests.map) one.block st.cells is_used in
        let same : cell_values def first.row.values ≡ cell_values def placed.row.values =
        same_of_any (λ (placed : PlacedRow). cell_values def placed.row.values) (rows_at one.block) one_cell first placed there within in
        ap (λ values. may_hold_at (cell_places def) values pred) (sym (its ∙ same)) ∙ holds

    -- each has a value in each column
    is_read : (placed : PlacedRow) → Contains (rows_at one.block) placed → HasReadValues def.columns placed.row
    unfolding rows_at
    is_read placed within =
        let sound = each_of (AreBlockRowsSound shape (pages_of g s) def) (used_blocks forests.map) one.block st.rows is_used in
        read_of_fitting def.columns placed.row (each_of (λ placed. RowFits def placed.row) (rows_at one.block) placed sound.rows within).values

    -- so many rows it has as its line says
    counted : one.rows ≡ length (rows_at one.block)
    unfolding rows_at
    counted = (each_of (IsUsedCountSound shape (pages_of g s) def) (map_lines forests.map) (used_line_of one) st.used_counts so.line).counted refl

  module _ (pred : Option Pred) (settled : IsSettledIfAny def pred) (judged : (row : Row) → HasReadValues def.columns row → IsTrue (may_filter pred row.values)) where
    -- all of which qualify
    all_qualify : (one : ListedBlock) → IsListedSo g shape s def one owners forests → HasCellThatMay def pred one → qualifying pred (rows_at one.block) ≡ rows_at one.block
    all_qualify one so may =
        filter_all (λ placed. qualifies pred placed.row.values) (rows_at one.block)
        (λ placed within. settled_qualifies def pred placed.row.values settled (judged placed.row (is_read one so placed within)) (may_of_listed one so pred may placed within))

    of_lines : (items : List ListedBlock) → AreListedSo g shape s def owners forests items → AllByRecursion (HasCellThatMay def pred) items
        → sum_by (λ one. one.rows) items ≡ length (qualifying pred (flat_map rows_at (blocks_listed items)))
    of_lines [] so may = refl
    of_lines (one ∷ items) so may =
        let here = qualifying pred (rows_at one.block) in
        let rest = qualifying pred (flat_map rows_at (blocks_listed items)) in
        let parts : qualifying pred (rows_at one.block ++ flat_map rows_at (blocks_listed items)) ≡ here ++ rest =
        filter-append (λ placed. qualifies pred placed.row.values) (rows_at one.block) (flat_map rows_at (blocks_listed items)) in
        let own : one.rows ≡ length here = counted one so.0 ∙ sym (ap length (all_qualify one so.0 may.0)) in
        sum_by-cons (λ (one : ListedBlock). one.rows) one items ∙ omega (arith, own, of_lines items so.1 may.1, length-append here rest) ∙ sym (ap length parts)

    -- so the lines say how many rows of the table do
    pub counts_qualifying : (items : List ListedBlock) → GoesOver g shape s def pred items
        → sum_by (λ one. one.rows) items ≡ length (qualifying pred (rows_in_table shape (pages_of g s) def forests.map))
    unfolding rows_at
    counts_qualifying items over =
        of_lines items (over.so owners forests st) over.lists.cells
        ∙ length_permutation (qualifying pred (rows_in_table shape (pages_of g s) def forests.map)) (qualifying pred (flat_map rows_at (blocks_listed items))) (over.chosen owners forests st).whole
