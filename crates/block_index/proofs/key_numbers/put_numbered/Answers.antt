use Rattle.std.proofs.Common.{◌++◌, ap, drop, length, take, ◌∙◌}
use Rattle.std.proofs.Math.Seq.{take-append_seam}
use Rattle.block_index.proofs.NumberedLemmas.{numbered_in_front}
use Rattle.block_index.proofs.key_numbers.put_numbered.Goals as goal

pub returns : goal.returns
returns c =
    let n = length c.args.key.now in
    let rest = drop n c.args.out.now in
    numbered_in_front c.args.width c.args.key.now (take n (c.copy_from_slice.new.self ++ rest)) c.write_uint.new.buf _ _ c.args.number (ap (λ s. take n (s ++ rest)) c.copy_from_slice.ensures.after ∙ take-append_seam c.args.key.now rest)
    c.write_uint.ensures
