use Rattle.std.proofs.Common.{◌==◌, ap, arith, sym}
use Rattle.std.specs.Prelude.{if◌then◌else◌}
use Rattle.std.proofs.lemmas.Nat.Bits.{bit_at_above}
use Rattle.file_check.proofs.tree_pages.due_in_index.Goals as goal

pub returns-then-place-ge-MOST_PAGES : goal.returns-then-place-ge-MOST_PAGES
returns-then-place-ge-MOST_PAGES c = sym (ap (λ n. if n == 1 then 1 else 0) (bit_at_above c.args.used 32 c.args.place (omega (arith, c.ranges.used.fits)) c.if-place-ge-MOST_PAGES.true))
