use Rattle.std.specs.Prelude.{◌≡◌}
use Rattle.std.proofs.Common.{subst}
use Rattle.mdc_values.specs.declared.value.ColType.{ColType}
use Rattle.key_codec.specs.Keys.{part_width, type_of_column}
use Rattle.key_codec.specs.Spans.{IsShortBound, first_column}
use Rattle.key_codec.proofs.RangeLemmas.{column_of_first, range_of_ascending_parts, range_of_descending_parts, range_of_rows, type_of_first}
use Rattle.key_codec.proofs.range.key_range.Goals as goal

pub type_of-ty-requires : goal.type_of-ty-requires
type_of-ty-requires c = column_of_first c.args.columns.now c.args.parts.now c.at-part.result.now c.at-part.ensures c.requires.parts

pub returns-then-part : goal.returns-then-part
returns-then-part c =
    let range = range_of_descending_parts c.args.columns.now c.args.parts.now c.at-part.result.now c.type_of-ty.result c.args.span.now
    c.in_ok-above_low.above_low c.in_ok-above_high.above_high c.between.result.0 c.between.result.1
    c.at-part.ensures c.type_of-ty.ensures c.if-part.true c.in_ok-above_low.ensures.bound c.in_ok-above_high.ensures.bound c.between.ensures.between in
    let typed : c.type_of-ty.result ≡ type_of_column c.args.columns.now (first_column c.args.parts.now) =
    type_of_first c.args.columns.now c.args.parts.now c.at-part.result.now c.type_of-ty.result c.at-part.ensures c.type_of-ty.ensures in
    let width = part_width (type_of_column c.args.columns.now (first_column c.args.parts.now)) in
    record {
      values = range;
      low = c.between.ensures.low width (subst (λ (ty : ColType). IsShortBound (part_width ty) c.in_ok-above_high.above_high) typed c.in_ok-above_high.ensures.short);
      high = c.between.ensures.high width (subst (λ (ty : ColType). IsShortBound (part_width ty) c.in_ok-above_low.above_low) typed c.in_ok-above_low.ensures.short);
      rows = range_of_rows c.args.columns.now c.args.parts.now c.args.span.now c.between.result.0 c.between.result.1 c.requires.some c.requires.parts range;
    }

pub returns : goal.returns
returns c =
    let range = range_of_ascending_parts c.args.columns.now c.args.parts.now c.at-part.result.now c.type_of-ty.result c.args.span.now
    c.in_ok-above_low.above_low c.in_ok-above_high.above_high c.between-2.result.0 c.between-2.result.1
    c.at-part.ensures c.type_of-ty.ensures c.if-part.false c.in_ok-above_low.ensures.bound c.in_ok-above_high.ensures.bound c.between-2.ensures.between in
    let typed : c.type_of-ty.result ≡ type_of_column c.args.columns.now (first_column c.args.parts.now) =
    type_of_first c.args.columns.now c.args.parts.now c.at-part.result.now c.type_of-ty.result c.at-part.ensures c.type_of-ty.ensures in
    let width = part_width (type_of_column c.args.columns.now (first_column c.args.parts.now)) in
    record {
      values = range;
      low = c.between-2.ensures.low width (subst (λ (ty : ColType). IsShortBound (part_width ty) c.in_ok-above_low.above_low) typed c.in_ok-above_low.ensures.short);
      high = c.between-2.ensures.high width (subst (λ (ty : ColType). IsShortBound (part_width ty) c.in_ok-above_high.above_high) typed c.in_ok-above_high.ensures.short);
      rows = range_of_rows c.args.columns.now c.args.parts.now c.args.span.now c.between-2.result.0 c.between-2.result.1 c.requires.some c.requires.parts range;
    }
