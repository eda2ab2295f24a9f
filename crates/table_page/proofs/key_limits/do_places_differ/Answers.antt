-- A place is looked for among those behind it.
use Rattle.std.proofs.Common.{◌∙◌, ℕ, Bool, List, refl, sym}
use Rattle.std.specs.List.{list_any}
use Rattle.std.specs.Prelude.{◌==◌}
use Rattle.mdc_ast.specs.Definitions.{AllPlacesDiffer}
use Rattle.table_page.proofs.DifferingLemmas.{SaysNoneTwice, none_twice-all, none_twice-more, none_twice-not}
use Rattle.table_page.proofs.key_limits.do_places_differ.Goals as goal

abbrev again : ℕ → List ℕ → Bool
again place places = list_any (λ other. other == place) places

says : SaysNoneTwice AllPlacesDiffer again
says = record { empty = tt; opened = λ place places all. all; made = λ place places once all. (once, all) }

pub loop-i-init : goal.loop-i-init
loop-i-init c = ((λ h. h), (λ h. h))

pub returns-then-is_place_among : goal.returns-then-is_place_among
returns-then-is_place_among c = (
  (λ h. absurd (cc)),
  λ all. absurd (none_twice-not AllPlacesDiffer again says c.args.places.now c.loop-i.i _ 0 c.loop-i-test.true refl (sym c.is_place_among.ensures ∙ c.if-is_place_among.true) c.loop-i.invariant.1 all),
)

pub loop-i-preserved : goal.loop-i-preserved
loop-i-preserved c =
    none_twice-more AllPlacesDiffer again says c.args.places.now c.loop-i.i _ 0 c.loop-i-test.true refl (sym c.is_place_among.ensures ∙ c.if-is_place_among.false) c.loop-i.invariant

pub returns : goal.returns
returns c = ((λ _. none_twice-all AllPlacesDiffer again says c.args.places.now c.loop-i.i c.loop-i-test.false c.loop-i.invariant), (λ _. refl))
