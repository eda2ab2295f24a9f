use Rattle.std.proofs.Common.{◌≡◌, ◌*◌}
use Rattle.byteorder.specs.Endian.{big_number}
use Rattle.mdc_words.specs.Listed.{listed}
use Rattle.node_page.specs.Node.{bytes_in}
use Rattle.table_page.proofs.definition_reading.read_dim_roots.Given as goal

-- the first ones are read
abbrev pub invariant-loop-i : goal.invariant-loop-i
invariant-loop-i l = l.roots ≡ listed l.i (λ k. (big_number 4) (bytes_in (4 * k) 4 l.bytes))
