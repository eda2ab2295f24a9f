use Rattle.std.proofs.Common.{◌≡◌, ◌+◌, ◌*◌, take}
use Rattle.std.specs.Prelude.{flat_map}
use Rattle.table_page.specs.TablePage.{printed_index}
use Rattle.table_page.specs.Printing.{PrintsBytes}
use Rattle.table_page.proofs.definition_page.print_indexes.Given as goal

-- the first ones are printed, one behind the other
abbrev pub invariant-loop-index : goal.invariant-loop-index
invariant-loop-index l = record {
  place : l.at ≡ 618 + 56 * l.index-index;
  printed : PrintsBytes 618 l.at (flat_map (printed_index) (take l.index-index l.indexes)) l.fn.page l.page;
}
