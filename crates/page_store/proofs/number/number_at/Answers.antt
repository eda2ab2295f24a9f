-- The bytes from there on are those of the rest of the page.
use Rattle.std.proofs.Common.{◌-◌, ap, ◌∙◌, arith, drop, length-drop}
use Rattle.std.proofs.lemmas.List.{take_all}
use Rattle.byteorder.specs.Endian.{big_number}
use Rattle.page_store.proofs.number.number_at.Goals as goal

pub returns : goal.returns
returns c = c.read_u32.ensures ∙ ap (big_number 4) (take_all (4096 - c.args.place) (drop c.args.place c.args.page.now) (omega (arith, length-drop c.args.place c.args.page.now)))
