use Rattle.std.proofs.Common.{◌≡◌, ◌+◌, ◌*◌, take}
use Rattle.std.specs.Prelude.{flat_map}
use Rattle.table_page.specs.TablePage.{printed_part}
use Rattle.table_page.specs.Printing.{PrintsBytes}
use Rattle.table_page.proofs.entry_printing.print_parts.Given as goal

-- the first ones are printed, one behind the other
abbrev pub invariant-loop-part : goal.invariant-loop-part
invariant-loop-part l = record {
  place : l.to ≡ l.fn.at + 2 * l.part-index;
  printed : PrintsBytes l.fn.at l.to (flat_map (printed_part) (take l.part-index l.parts)) l.fn.page l.page;
}
