use Rattle.std.proofs.Common.{◌≡◌, ◌*◌}
use Rattle.table_page.specs.ReadingBack.{index_in_page}
use Rattle.mdc_words.specs.Listed.{listed}
use Rattle.node_page.specs.Node.{bytes_in}
use Rattle.table_page.proofs.definition_reading.read_indexes.Given as goal

-- the first ones are read
abbrev pub invariant-loop-i : goal.invariant-loop-i
invariant-loop-i l = l.indexes ≡ listed l.i (λ k. index_in_page (bytes_in (56 * k) 56 l.bytes))
