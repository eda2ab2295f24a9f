-- The bytes from there on are those of the rest of the row.
use Rattle.std.proofs.Common.{◌-◌, ap, ◌∙◌, arith, drop, length, length-drop}
use Rattle.std.proofs.lemmas.List.{take_all}
use Rattle.byteorder.specs.Endian.{big_number}
use Rattle.row_page.proofs.row_view.RowView.nulls.Goals as goal

pub returns : goal.returns
returns c = c.read_u16.ensures ∙ ap (big_number 2) (take_all (length c.args.self.now.bytes.now - 8) (drop 8 c.args.self.now.bytes.now) (omega (arith, length-drop 8 c.args.self.now.bytes.now)))
