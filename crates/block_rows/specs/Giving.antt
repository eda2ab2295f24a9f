-- Rows that a sink was given.
use Rattle.std.specs.Prelude.{◌++◌, List}
use Rattle.mdc_sound.specs.TableRows.{PlacedRow}
use Rattle.block_rows.specs.declared.row_sink.RowSink.{Ghosts}

-- behind those that it was given before, a sink was given these rows, one behind the other
abbrev pub WasGiven : {K : Type 0} → Ghosts K → K → K → List PlacedRow → Type 0
WasGiven g old new rows = (before : List PlacedRow) → g.has before old → g.has (before ++ rows) new
