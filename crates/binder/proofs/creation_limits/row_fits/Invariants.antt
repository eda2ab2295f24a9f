use Rattle.std.proofs.Common.{◌≡◌, ◌+◌, drop}
use Rattle.mdc_ast.specs.Definitions.{row_width}
use Rattle.statement_meaning.specs.Judged.{text_types}
use Rattle.binder.proofs.creation_limits.row_fits.Given as goal

abbrev pub invariant-loop-column : goal.invariant-loop-column
invariant-loop-column l = row_width (text_types l.columns) + l.room ≡ row_width (text_types (drop l.column-index l.columns)) + 990
