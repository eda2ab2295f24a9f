use Rattle.std.proofs.Common.{◌≡◌, ◌*◌}
use Rattle.table_page.specs.ReadingBack.{part_in_page}
use Rattle.mdc_words.specs.Listed.{listed}
use Rattle.node_page.specs.Node.{bytes_in}
use Rattle.table_page.proofs.entry_reading.read_parts.Given as goal

-- the first ones are read
abbrev pub invariant-loop-i : goal.invariant-loop-i
invariant-loop-i l = l.parts ≡ listed l.i (λ k. part_in_page (bytes_in (2 * k) 2 l.bytes))
