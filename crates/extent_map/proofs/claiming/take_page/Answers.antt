use Rattle.std.proofs.Common.{◌+◌, ◌∙◌, sym, ap, arith, subst, is_some}
use Rattle.store_api.specs.Frame.{PatchesPage}
use Rattle.store_api.proofs.RunsOverPagesLemmas.{runs_none, runs_damage}
use Rattle.extent_map.specs.Kinds.{kind_bytes, lowest_unused_place, with_used_place}
use Rattle.extent_map.specs.Map.{map_page_of, entry_place}
use Rattle.extent_map.proofs.BitsLemmas.{is_kind-with_place, lowest_unused_below}
use Rattle.extent_map.proofs.MapFormLemmas.{forms_same, forms_set}
use Rattle.extent_map.proofs.ClaimsLemmas.{takes_page}
use Rattle.extent_map.proofs.DamagesLemmas.{breaks_end}
use Rattle.extent_map.proofs.claiming.take_page.Goals as goal

pub returns-then-end_of-count-clause-runs : goal.returns-then-end_of-count-clause-runs
returns-then-end_of-count-clause-runs g c = runs_damage runs_none (breaks_end c.args.e _ c.requires.found.within c.wrong_entry.ensures
    (λ owners told free.
    let some = c.requires.found.is_it in
    let none = ap (λ kind. is_some (lowest_unused_place c.args.shape.extent_pages kind)) (sym (c.requires.shown owners told) ∙ free) in
    cc)
    (omega arith))

pub returns-clause-takes : goal.returns-clause-takes
returns-clause-takes g c =
    takes_page c.args.e (c.first_page.result + c.unwrap-place.result) c.unwrap-place.result c.requires.found.within c.requires.found.kind
    (sym c.lowest_unused_place.ensures ∙ c.unwrap-place.ensures) (ap (λ n. n + c.unwrap-place.result) c.first_page.ensures) (omega arith) c.requires.there
    (subst (λ kind. PatchesPage g.P.Pages (map_page_of c.args.e) (entry_place c.args.e) (kind_bytes kind) c.args.pages.now c.set_kind.new.pages) c.with_place.ensures c.in_ok-set_kind.ensures.sets)
    c.set_kind.ensures.count c.in_ok-set_kind.ensures.runs

pub returns-clause-forms : goal.returns-clause-forms
returns-clause-forms g c =
    let lowest = sym c.lowest_unused_place.ensures ∙ c.unwrap-place.ensures in
    let kind = with_used_place c.unwrap-place.result c.args.kind in
    forms_set c.args.e kind (is_kind-with_place c.args.shape.extent_pages c.unwrap-place.result c.args.kind (lowest_unused_below c.args.shape.extent_pages c.unwrap-place.result c.args.kind lowest) c.requires.found.kind)
    (λ owned. omega (arith, c.set_kind.ensures.count)) (omega (arith, c.set_kind.ensures.count))
    (subst (λ kind. PatchesPage g.P.Pages (map_page_of c.args.e) (entry_place c.args.e) (kind_bytes kind) c.args.pages.now c.set_kind.new.pages) c.with_place.ensures c.in_ok-set_kind.ensures.sets)
    c.set_kind.ensures.runs.touches

pub returns-in_err-set_kind-clause-forms : goal.returns-in_err-set_kind-clause-forms
returns-in_err-set_kind-clause-forms g c = forms_same c.set_kind.ensures.runs.works.steady.is_told c.in_err-set_kind.ensures.kept
