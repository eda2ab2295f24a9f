-- A sink that judges the rows of blocks before it hands them on to another one.
use Rattle.std.specs.Prelude.{◌≡◌, ℕ, List, length, IsTrue, Option, Some}
use Rattle.mdc_ast.specs.TableLimits.{IsTableDef}
use Rattle.mdc_ast.specs.declared.definition.ColumnDef.{ColumnDef}
use Rattle.mdc_ast.specs.declared.definition.TableDef.{TableDef}
use Rattle.mdc_ast.specs.declared.predicate.Pred.{Pred}
use Rattle.mdc_ast.specs.declared.row.Row.{Row}
use Rattle.row_filter.specs.Filtering.{may_filter}
use Rattle.block_rows.specs.Giving.{WasGiven}
use Rattle.block_rows.specs.HeldRows.{HasReadValues}
use Rattle.block_rows.specs.declared.row_sink.RowSink
use Rattle.mdc_sound.specs.TableRows.{PlacedRow}
use Rattle.table_scan.specs.Settled.{IsLeftOf}
use Rattle.executor.specs.Begun.{Begun}
use Rattle.executor.specs.Settling.{settled, verdict_of}
use Rattle.executor.specs.declared.settled_rows.SettledRows.{SettledRows}

-- ---- a block

-- what a block is begun with by such a sink
abbrev pub begun_by : {K B : Type 0} → SettledRows K B → Begun K
begun_by rows = record { name = rows.sink.ghost_name; sink = rows.sink.now; def = rows.def.now; pred = rows.pred.now; left = rows.left.now.pred.now }

-- it still lends by that reference, and judges by that
pub record IsAsBegun {K B : Type 0} (begun : Begun K) (rows : SettledRows K B) : Type 0 where
  pub name : rows.sink.ghost_name ≡ begun.name
  pub def : rows.def.now ≡ begun.def
  pub pred : rows.pred.now ≡ begun.pred
  pub left : rows.left.now.pred.now ≡ begun.left

-- it takes rows of these columns: the sink that it lends does, and what is left may be judged on each row that was read
pub record TakesSettled {K B : Type 0} (sinks : RowSink.Ghosts K) (begun : Option (Begun K)) (columns : List ColumnDef) (rows : SettledRows K B) : Type 0 where
  pub columns_are : columns ≡ rows.def.now.columns
  pub defined : IsTableDef rows.def.now.number rows.def.now
  pub fits : sinks.is_for columns rows.sink.now
  pub wide : length columns ≡ length rows.left.now.values
  pub judged : (row : Row) → HasReadValues columns row → IsTrue (may_filter rows.left.now.pred.now row.values)
  pub as_begun : (first : Begun K) → begun ≡ Some first → IsAsBegun first rows

-- it was given these rows of a block: it knows the verdict of their cell, and has handed on those that are taken
pub record HasSettledSince {K B : Type 0} (sinks : RowSink.Ghosts K) (begun : Begun K) (those : List PlacedRow) (rows : SettledRows K B) : Type 0 where
  pub verdict : rows.verdict ≡ verdict_of begun.def begun.pred those
  pub given : WasGiven sinks begun.sink rows.sink.now (settled begun.def begun.pred begun.left those)

abbrev pub HasSettled : {K B : Type 0} → RowSink.Ghosts K → Option (Begun K) → List PlacedRow → SettledRows K B → Type 0
HasSettled {K = K} sinks begun those rows = (first : Begun K) → begun ≡ Some first → HasSettledSince sinks first those rows

-- ---- a walk

-- it lends a sink for rows of a table by this reference, and judges them by a predicate and by what is left of it
pub record IsSettling {K B : Type 0} (sinks : RowSink.Ghosts K) (def : TableDef) (pred : Option Pred) (name : ℕ) (rows : SettledRows K B) : Type 0 where
  pub def_is : rows.def.now ≡ def
  pub pred_is : rows.pred.now ≡ pred
  pub name_is : rows.sink.ghost_name ≡ name
  pub fits : sinks.is_for def.columns rows.sink.now
  pub wide : length def.columns ≡ length rows.left.now.values
  pub left : IsLeftOf def pred rows.left.now.pred.now
