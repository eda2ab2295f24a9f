use Rattle.std.proofs.Common.{◌++◌, ap, drop, length, replicate, take, ◌∙◌}
use Rattle.block_index.proofs.PartRangesLemmas.{starts_at_low}
use Rattle.block_index.proofs.part_range.PartRange.put_start.Goals as goal

pub returns : goal.returns
returns c =
    ap (λ xs. take c.args.width (c.copy_from_slice.new.self ++ drop (length c.bytes-low.result.now) xs)) (c.fill.ensures.after (λ y e. e))
    ∙ (ap (λ xs. take c.args.width (c.copy_from_slice.new.self ++ drop (length xs) (replicate (length c.args.out.now) 0))) c.bytes-low.ensures
    ∙ starts_at_low c.args.self.now c.args.width c.args.out.now c.copy_from_slice.new.self c.if-self-ne0.false c.requires.room c.requires.within (c.copy_from_slice.ensures.after ∙ c.bytes-low.ensures))
