use Rattle.std.proofs.Common.{ap, ◌∙◌, sym, arith, length}
use Rattle.std.proofs.lemmas.Option.{same_Some}
use Rattle.store_api.proofs.RunsOverPagesLemmas.{runs_damage}
use Rattle.extent_map.proofs.DamagesLemmas.{breaks_entry, breaks_end}
use Rattle.extent_map.proofs.HoldsMapLemmas.{owner_read, map_page_at}
use Rattle.extent_map.proofs.changing.kind_of.Goals as goal

pub returns-in_default-clause-runs : goal.returns-in_default-clause-runs
returns-in_default-clause-runs g c = runs_damage c.in_ok-bring_map_page.ensures.runs (breaks_entry c.args.e _ c.requires.below c.wrong_entry.ensures (λ owners told.
    c.in_default.not-Some _ (owner_read c.args.e c.page.result.now _ c.kind_in.result told c.in_ok-bring_map_page.ensures.hand c.page.ensures c.kind_in.ensures.known)))

pub returns-then-end_of-count-clause-runs : goal.returns-then-end_of-count-clause-runs
returns-then-end_of-count-clause-runs g c = runs_damage c.in_ok-bring_map_page.ensures.runs (breaks_end c.args.e _ c.requires.below c.wrong_entry-then-end_of-count.ensures
    (λ owners told free.
    let found = owner_read c.args.e c.page.result.now _ c.kind_in.result told c.in_ok-bring_map_page.ensures.hand c.page.ensures c.kind_in.ensures.known in
    c.is_owned.ensures.0 c.if-is_owned.true (same_Some _ _ (sym c.in-Some.is ∙ found) ∙ free))
    (omega (arith, ap length c.bring_map_page.ensures.same)))

pub returns-clause-value : goal.returns-clause-value
returns-clause-value g c = λ owners is.
    let found = owner_read c.args.e c.page.result.now _ c.kind_in.result (map_page_at c.args.e c.requires.below is) c.in_ok-bring_map_page.ensures.hand c.page.ensures c.kind_in.ensures.known in
    same_Some _ _ (sym c.in-Some.is ∙ found)

pub returns-clause-shown : goal.returns-clause-shown
returns-clause-shown g c = λ owners told.
    let found = owner_read c.args.e c.page.result.now _ c.kind_in.result told c.in_ok-bring_map_page.ensures.hand c.page.ensures c.kind_in.ensures.known in
    same_Some _ _ (sym found ∙ c.in-Some.is)
