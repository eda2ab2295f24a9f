use Rattle.std.proofs.Common.{◌≡◌, ◌+◌, ◌*◌, take}
use Rattle.std.specs.Prelude.{flat_map}
use Rattle.byteorder.specs.Endian.{big_bytes}
use Rattle.table_page.specs.Printing.{PrintsBytes}
use Rattle.table_page.proofs.definition_page.print_roots.Given as goal

-- the first ones are printed, one behind the other
abbrev pub invariant-loop-root : goal.invariant-loop-root
invariant-loop-root l = record {
  place : l.at ≡ 38 + 4 * l.root-index;
  printed : PrintsBytes 38 l.at (flat_map (big_bytes 4) (take l.root-index l.roots)) l.fn.page l.page;
}
