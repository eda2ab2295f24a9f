use Rattle.std.proofs.Common.{ap, arith, subst, sym, ◌∙◌}
use Rattle.key_codec.specs.Keys.{ArePartsOf, part_width, type_of_column}
use Rattle.key_codec.specs.Spans.{first_column}
use Rattle.block_index.proofs.SpansLemmas.{offset_within, one_part, range_of_column}
use Rattle.block_index.proofs.part_range.PartRange.of.Goals as goal

pub key_range-requires-clause-parts : goal.key_range-requires-clause-parts
key_range-requires-clause-parts c = subst (ArePartsOf c.args.columns.now) (sym (c.from_vec-parts.ensures ∙ c.in_ok-vec.ensures.items)) (one_part c.args.columns.now c.args.places.now c.args.column c.requires.parts c.requires.there)

pub returns-in-Ok-clause-values : goal.returns-in-Ok-clause-values
returns-in-Ok-clause-values c =
    range_of_column c.args.columns.now c.from_vec-parts.result c.args.column c.args.span.now c.in-Ok.low c.in-Ok.high (c.from_vec-parts.ensures ∙ c.in_ok-vec.ensures.items) c.in-Ok.ensures.values

pub returns-in-Ok-clause-within : goal.returns-in-Ok-clause-within
returns-in-Ok-clause-within c =
    omega (
      arith,
      c.in-Ok.ensures.low,
      ap (λ ps. part_width (type_of_column c.args.columns.now (first_column ps))) (c.from_vec-parts.ensures ∙ c.in_ok-vec.ensures.items),
      c.part_offset-at.ensures,
      offset_within c.args.columns.now c.args.places.now c.args.column c.requires.parts.there c.requires.there,
    )
