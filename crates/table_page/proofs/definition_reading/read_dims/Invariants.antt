use Rattle.std.proofs.Common.{◌≡◌, ◌*◌}
use Rattle.table_page.specs.ReadingBack.{dimension_in_page}
use Rattle.mdc_words.specs.Listed.{listed}
use Rattle.node_page.specs.Node.{bytes_in}
use Rattle.table_page.proofs.definition_reading.read_dims.Given as goal

-- the first ones are read
abbrev pub invariant-loop-i : goal.invariant-loop-i
invariant-loop-i l = l.dims ≡ listed l.i (λ k. dimension_in_page (bytes_in (17 * k) 17 l.bytes))
