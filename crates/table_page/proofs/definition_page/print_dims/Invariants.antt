use Rattle.std.proofs.Common.{◌≡◌, ◌+◌, ◌*◌, take}
use Rattle.std.specs.Prelude.{flat_map}
use Rattle.table_page.specs.TablePage.{printed_dimension}
use Rattle.table_page.specs.Printing.{PrintsBytes}
use Rattle.table_page.proofs.definition_page.print_dims.Given as goal

-- the first ones are printed, one behind the other
abbrev pub invariant-loop-dim : goal.invariant-loop-dim
invariant-loop-dim l = record {
  place : l.at ≡ 550 + 17 * l.dim-index;
  printed : PrintsBytes 550 l.at (flat_map (printed_dimension) (take l.dim-index l.dims)) l.fn.page l.page;
}
