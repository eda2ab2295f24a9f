-- The parts stand one behind the other.
use Rattle.table_page.proofs.PrintingLemmas.{PrintsBytes-none, prints_then}
use Rattle.table_page.proofs.definition_page.print_head.Goals as goal

pub returns : goal.returns
returns c =
    prints_then c.print_bytes.ensures (prints_then c.print_name.ensures (prints_then c.print_counts.ensures (prints_then c.print_long.ensures
    (prints_then c.print_short.ensures (prints_then c.print_short-2.ensures (PrintsBytes-none 38 c.print_short-2.new.page))))))
