use Rattle.std.proofs.Common.{◌∙◌, ◌∷◌, ap, arith}
use Rattle.mdc_values.specs.Order.{padded}
use Rattle.key_codec.proofs.PutLemmas.{length_behind_first, put_behind_first}
use Rattle.key_codec.proofs.part.put_text.Goals as goal

pub returns : goal.returns
returns c =
    put_behind_first c.args.part.now c.put_padded.new.out 0 (omega (arith, c.requires))
    ∙ ap (λ rest. 0 ∷ rest) c.put_padded.ensures
    ∙ ap (λ n. 0 ∷ padded n c.args.text.now) (length_behind_first c.args.part.now 0 (omega (arith, c.requires)))
