use Rattle.std.proofs.Common.{◌∙◌}
use Rattle.key_codec.proofs.ReadLemmas.{text_told}
use Rattle.key_codec.proofs.reading.read_part.Goals as goal

pub returns-in_ok-of-in-Char : goal.returns-in_ok-of-in-Char
returns-in_ok-of-in-Char c = λ written rest typed key_is.
    text_told c.args.ty c.in-Char.n c.args.key.now c.in_ok-of-in-Char.field-0 written rest c.in-Char.is (c.in_ok-of-in-Char.ensures ∙ c.trim.ensures) c.if-key-ne-PRESENT.false typed key_is
