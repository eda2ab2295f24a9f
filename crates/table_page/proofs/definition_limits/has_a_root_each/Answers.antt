-- As many roots as dimensions, each a number of 32 bits.
use Rattle.std.proofs.Common.{◌<◌, ◌∙◌, length, ap, arith, subst, sym}
use Rattle.std.specs.List.{AllByRecursion}
use Rattle.table_page.proofs.definition_limits.has_a_root_each.Goals as goal

pub returns : goal.returns
returns c = (
  (λ h. record {
    map = omega arith;
    composite = omega arith;
    one_each = sym (ap length c.as_slice.ensures) ∙ c.are_as_many.ensures.count.0 h;
    dimensions = subst (AllByRecursion (λ root. root < 4294967296)) c.as_slice.ensures c.are_as_many.ensures.fit;
  }),
  (λ are. c.are_as_many.ensures.count.1 (ap length c.as_slice.ensures ∙ are.one_each)),
)
