use Rattle.std.proofs.Common.{◌∙◌, ap, arith, ◌∷◌}
use Rattle.key_codec.specs.Keys.{null_byte}
use Rattle.key_codec.proofs.PutLemmas.{put_behind_first}
use Rattle.key_codec.proofs.part.put_ascending.Goals as goal

pub returns : goal.returns
returns c =
    put_behind_first c.args.part.now c.put_value.new.out c.null_byte.result (omega (arith, c.requires.room))
    ∙ ap (λ b. b ∷ c.put_value.new.out) c.null_byte.ensures
    ∙ ap (λ rest. null_byte c.args.value.now ∷ rest) c.put_value.ensures
