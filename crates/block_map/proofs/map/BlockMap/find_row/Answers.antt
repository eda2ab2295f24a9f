use Rattle.std.proofs.Common.{◌<◌, arith, ap, sym, subst, ◌∙◌}
use Rattle.mdc_words.specs.ByteOrder.{Entry}
use Rattle.entry_tree.specs.Finding.{IsFoundEntry, found_entry}
use Rattle.block_map.specs.BlockMaps.{AnyMap}
use Rattle.block_map.specs.MapLines.{map_line}
use Rattle.block_map.proofs.FindingLemmas.{get_broken, get_none, get_other, get_row}
use Rattle.block_map.proofs.FoundRowsLemmas.{at_some, lacks_none, lacks_other}
use Rattle.block_map.proofs.MapRunsLemmas.{runs_in_tree, runs_map_broken}
use Rattle.block_map.proofs.map.BlockMap.find_row.Goals as goal

pub returns-in_default-clause-found : goal.returns-in_default-clause-found
returns-in_default-clause-found g c t h =
    get_none t c.args.block c.lowest_entry-bound.result (found_entry c.in_ok-place.field-0) c.lowest_entry-bound.ensures.entry (c.in_ok-place.ensures.first t h) (ap found_entry c.in_default.is)

pub returns-in_default-clause-lacks : goal.returns-in_default-clause-lacks
returns-in_default-clause-lacks g c t h =
    lacks_none t c.args.block c.lowest_entry-bound.result (found_entry c.in_ok-place.field-0) (omega (arith, c.ranges.block.fits)) c.lowest_entry-bound.ensures.entry (c.in_ok-place.ensures.first t h) (ap found_entry c.in_default.is)

pub returns-in_default-of-clause-runs : goal.returns-in_default-of-clause-runs
returns-in_default-of-clause-runs g c =
    runs_map_broken c.args.self.now.tree AnyMap c.damaged.result c.damaged.ensures (runs_in_tree c.args.self.now.tree AnyMap c.in_ok-place.ensures.runs)
    (λ t h form any.
    get_broken t c.lowest_entry-bound.result c.in-Some.place.entry (found_entry c.in_ok-place.field-0) (c.in_ok-place.ensures.first t h) (ap found_entry c.in-Some.is)
    (subst (λ (v : Entry). 2 < (map_line v).state) c.bytes.ensures c.in_default-of.ensures.row) form)

pub returns-then-row-block-clause-found : goal.returns-then-row-block-clause-found
returns-then-row-block-clause-found g c t h =
    get_other t c.args.block c.lowest_entry-bound.result c.in-Some.place.entry (found_entry c.in_ok-place.field-0) c.in-Some-of.row c.lowest_entry-bound.ensures.entry (c.in_ok-place.ensures.first t h) (ap found_entry c.in-Some.is)
    (sym c.bytes.ensures ∙ c.in-Some-of.ensures.row) c.in-Some-of.ensures.small c.if-row-block.true

pub returns-then-row-block-clause-lacks : goal.returns-then-row-block-clause-lacks
returns-then-row-block-clause-lacks g c t h =
    lacks_other t c.args.block c.lowest_entry-bound.result c.in-Some.place.entry (found_entry c.in_ok-place.field-0) c.in-Some-of.row (omega (arith, c.ranges.block.fits)) c.lowest_entry-bound.ensures.entry (c.in_ok-place.ensures.first t h)
    (ap found_entry c.in-Some.is) (sym c.bytes.ensures ∙ c.in-Some-of.ensures.row) c.in-Some-of.ensures.small c.if-row-block.true

pub returns-clause-found : goal.returns-clause-found
returns-clause-found g c t h =
    get_row t c.args.block c.lowest_entry-bound.result c.in-Some.place.entry (found_entry c.in_ok-place.field-0) c.in-Some-of.row c.lowest_entry-bound.ensures.entry (c.in_ok-place.ensures.first t h) (ap found_entry c.in-Some.is)
    (sym c.bytes.ensures ∙ c.in-Some-of.ensures.row) c.if-row-block.false

pub returns-clause-stands : goal.returns-clause-stands
returns-clause-stands g c = record { entry = sym c.bytes.ensures ∙ c.in-Some-of.ensures.row; few = c.in-Some-of.ensures.few; stands = at_some (IsFoundEntry g.P.Pages c.find_from.new.pages c.args.self.now.tree) c.in_ok-place.field-0 c.in-Some.place c.in-Some.is c.in_ok-place.ensures.stands }
