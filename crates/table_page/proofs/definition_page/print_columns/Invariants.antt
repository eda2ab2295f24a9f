use Rattle.std.proofs.Common.{◌≡◌, ◌+◌, ◌*◌, take}
use Rattle.std.specs.Prelude.{flat_map}
use Rattle.table_page.specs.TablePage.{printed_column}
use Rattle.table_page.specs.Printing.{PrintsBytes}
use Rattle.table_page.proofs.definition_page.print_columns.Given as goal

-- the first ones are printed, one behind the other
abbrev pub invariant-loop-column : goal.invariant-loop-column
invariant-loop-column l = record {
  place : l.at ≡ 54 + 31 * l.column-index;
  printed : PrintsBytes 54 l.at (flat_map (printed_column) (take l.column-index l.columns)) l.fn.page l.page;
}
