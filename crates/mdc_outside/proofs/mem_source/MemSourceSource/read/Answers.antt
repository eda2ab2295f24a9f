use Rattle.std.proofs.Common.{refl, take, drop, ◌∙◌, ap}
use Rattle.mdc_outside.proofs.Pieces.{piece_off}
use Rattle.mdc_outside.proofs.mem_source.MemSourceSource.read.Goals as goal

pub returns-clause-given : goal.returns-clause-given
returns-clause-given c =
    let rest = c.split_at.ensures.back ∙ ap (λ bytes. drop c.args.self.now.at bytes) c.as_slice.ensures.value in
    (_, piece_off c.args.self.now.bytes.items _ _ _ (c.copy_front-count.ensures.copied ∙ ap (λ bytes. take c.copy_front-count.result bytes) rest), refl)
