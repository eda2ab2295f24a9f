-- The bytes from there on are those of the rest of the page.
use Rattle.std.proofs.Common.{ap, ◌∙◌, arith, drop, length-drop}
use Rattle.std.proofs.lemmas.List.{take_all}
use Rattle.byteorder.specs.Endian.{big_number}
use Rattle.row_page.proofs.slots.rows_stated.Goals as goal

pub returns : goal.returns
returns c = c.read_u16.ensures ∙ ap (big_number 2) (take_all 4092 (drop 4 c.args.page.now) (omega (arith, length-drop 4 c.args.page.now)))
