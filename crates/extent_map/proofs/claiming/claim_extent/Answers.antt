use Rattle.std.proofs.Common.{◌<◌, ◌∙◌, None, IfSome, inl, inr, subst, ap, arith, length, max}
use Rattle.store_api.specs.Frame.{NoPage}
use Rattle.store_api.specs.RunsOverPages.{RunsOverPages}
use Rattle.store_api.proofs.RunsOverPagesLemmas.{runs_more, runs_wider, runs_exit}
use Rattle.extent_map.specs.Damages.{BreaksSpace}
use Rattle.extent_map.specs.Map.{IsSpacePage, BringsZeros, map_page_of}
use Rattle.extent_map.specs.Searches.{IsFound, FindsWanted}
use Rattle.extent_map.specs.declared.finding.Wanted.TheVariants.{FreeExtent}
use Rattle.extent_map.proofs.ClaimsLemmas.{on_err, claims_extent, changes_count_after, changes_count_then}
use Rattle.extent_map.proofs.GrowthLemmas.{zeros_none, zeros_then}
use Rattle.extent_map.proofs.MapFormLemmas.{forms_same, forms_set, forms_still, forms_then}
use Rattle.extent_map.proofs.HoldsMapLemmas.{is_map_page, holds_map_run, holds_map_same}
use Rattle.extent_map.proofs.claiming.claim_extent.Goals as goal

pub returns-in_err-found-clause-kept : goal.returns-in_err-found-clause-kept
returns-in_err-found-clause-kept g c = on_err c.from_residual.result (λ owners is. holds_map_same c.find.ensures.runs.works.steady.is_told c.find.ensures.same is)

pub returns-in_err-grow_to-clause-kept : goal.returns-in_err-grow_to-clause-kept
returns-in_err-grow_to-clause-kept g c = on_err c.from_residual-in_err-grow_to.result (λ owners is.
    holds_map_run c.grow_to.ensures.runs (λ p on root. omega (arith, on.0, root)) (holds_map_same c.find.ensures.runs.works.steady.is_told c.find.ensures.same is))

pub returns-in_err-grow_to-clause-root : goal.returns-in_err-grow_to-clause-root
returns-in_err-grow_to-clause-root g c = changes_count_after c.find.ensures.runs.works.steady.is_told c.find.ensures.same c.grow_to.ensures.root

pub returns-in_err-set_kind-clause-kept : goal.returns-in_err-set_kind-clause-kept
returns-in_err-set_kind-clause-kept g c = on_err c.from_residual-in_err-set_kind.result (λ owners is.
    holds_map_same c.set_kind.ensures.runs.works.steady.is_told c.in_err-set_kind.ensures.kept
    (holds_map_run c.grow_to.ensures.runs (λ p on root. omega (arith, on.0, root)) (holds_map_same c.find.ensures.runs.works.steady.is_told c.find.ensures.same is)))

pub returns-in_err-set_kind-clause-root : goal.returns-in_err-set_kind-clause-root
returns-in_err-set_kind-clause-root g c = changes_count_then (changes_count_after c.find.ensures.runs.works.steady.is_told c.find.ensures.same c.grow_to.ensures.root)
    c.set_kind.ensures.runs.touches (omega arith) c.set_kind.ensures.count

pub returns-clause-root : goal.returns-clause-root
returns-clause-root g c = changes_count_then (changes_count_after c.find.ensures.runs.works.steady.is_told c.find.ensures.same c.grow_to.ensures.root)
    c.set_kind.ensures.runs.touches (omega arith) c.set_kind.ensures.count

pub returns-in_err-grow_to-clause-runs : goal.returns-in_err-grow_to-clause-runs
returns-in_err-grow_to-clause-runs g c =
    let shape = c.args.shape in
    let start : RunsOverPages g.P.Pages (IsSpacePage shape) (IsSpacePage shape) (BreaksSpace g.P.Pages shape c.args.pages.now) c.args.pages.now c.find.new.pages None =
    runs_wider c.in_ok-found.ensures.runs (λ p there none. absurd none) (λ p on. inr on) (λ damage breaks. breaks) in
    runs_exit c.from_residual-in_err-grow_to.result c.from_residual-in_err-grow_to.ensures.1 (runs_more start c.in_err-grow_to.ensures.runs (λ p there is. inl is) (λ p is. inl is))

pub returns-in_err-set_kind-clause-runs : goal.returns-in_err-set_kind-clause-runs
returns-in_err-set_kind-clause-runs g c =
    let shape = c.args.shape in
    let start : RunsOverPages g.P.Pages (IsSpacePage shape) (IsSpacePage shape) (BreaksSpace g.P.Pages shape c.args.pages.now) c.args.pages.now c.find.new.pages None =
    runs_wider c.in_ok-found.ensures.runs (λ p there none. absurd none) (λ p on. inr on) (λ damage breaks. breaks) in
    let grown = runs_more start c.in_ok-grow_to.ensures.runs (λ p there is. inl is) (λ p is. inl is) in
    let found = subst (λ f. IfSome f (IsFound FreeExtent shape.extent_pages c.args.from shape.extents)) c.in-Some.is c.in_ok-found.ensures.fits in
    runs_exit c.from_residual-in_err-set_kind.result c.from_residual-in_err-set_kind.ensures.1
    (runs_more grown c.in_err-set_kind.ensures.runs (λ p there is. inr (is_map_page shape c.in-Some.e p found.within is)) (λ p is. inr (is_map_page shape c.in-Some.e p found.within is)))

pub returns-clause-runs : goal.returns-clause-runs
returns-clause-runs g c =
    let shape = c.args.shape in
    let start : RunsOverPages g.P.Pages (IsSpacePage shape) (IsSpacePage shape) (BreaksSpace g.P.Pages shape c.args.pages.now) c.args.pages.now c.find.new.pages None =
    runs_wider c.in_ok-found.ensures.runs (λ p there none. absurd none) (λ p on. inr on) (λ damage breaks. breaks) in
    let grown = runs_more start c.in_ok-grow_to.ensures.runs (λ p there is. inl is) (λ p is. inl is) in
    let found = subst (λ f. IfSome f (IsFound FreeExtent shape.extent_pages c.args.from shape.extents)) c.in-Some.is c.in_ok-found.ensures.fits in
    runs_more grown c.in_ok-set_kind.ensures.runs (λ p there is. inr (is_map_page shape c.in-Some.e p found.within is)) (λ p is. inr (is_map_page shape c.in-Some.e p found.within is))

pub returns-clause-claims : goal.returns-clause-claims
returns-clause-claims g c =
    let shape = c.args.shape in
    let ok = c.in_ok-found.ensures in
    let found = subst (λ f. IfSome f (IsFound FreeExtent shape.extent_pages c.args.from shape.extents)) c.in-Some.is ok.fits in
    let there = subst (λ f. IfSome f (λ at. map_page_of at.0 < length (g.P.Pages.state c.args.pages.now).work)) c.in-Some.is ok.there in
    claims_extent c.args.from c.in-Some.e found (λ owners told. subst (λ f. FindsWanted FreeExtent shape.extent_pages owners c.args.from shape.extents f) c.in-Some.is (ok.found owners told))
    c.requires.kind there ok.runs.works.steady.is_told ok.same
    (c.in_ok-grow_to.ensures.count ∙ ap (max (length (g.P.Pages.state c.find.new.pages).work)) c.end_of.ensures.end) c.in_ok-grow_to.ensures.counted c.in_ok-grow_to.ensures.stated c.in_ok-grow_to.ensures.runs
    c.in_ok-set_kind.ensures.sets c.set_kind.ensures.count c.in_ok-set_kind.ensures.runs

pub returns-in_err-grow_to-clause-forms : goal.returns-in_err-grow_to-clause-forms
returns-in_err-grow_to-clause-forms g c =
    forms_then (forms_same c.find.ensures.runs.works.steady.is_told c.find.ensures.same)
    (forms_still c.grow_to.ensures.runs.touches (λ p on root. omega (arith, on.0, root)) c.grow_to.ensures.runs.works.no_shorter)

pub returns-in_err-set_kind-clause-forms : goal.returns-in_err-set_kind-clause-forms
returns-in_err-set_kind-clause-forms g c =
    forms_then (forms_same c.find.ensures.runs.works.steady.is_told c.find.ensures.same)
    (forms_then (forms_still c.grow_to.ensures.runs.touches (λ p on root. omega (arith, on.0, root)) c.grow_to.ensures.runs.works.no_shorter)
    (forms_same c.set_kind.ensures.runs.works.steady.is_told c.in_err-set_kind.ensures.kept))

pub returns-clause-zeros : goal.returns-clause-zeros
returns-clause-zeros g c =
    let there = subst (λ f. IfSome f (λ at. map_page_of at.0 < length (g.P.Pages.state c.args.pages.now).work)) c.in-Some.is c.in_ok-found.ensures.there in
    let same = c.find.ensures.runs.works.no_shorter in
    let grown : BringsZeros g.P.Pages NoPage c.args.pages.now c.grow_to.new.pages =
    zeros_then c.find.ensures.runs.works.steady.is_told same (zeros_none (omega (arith, ap length c.find.ensures.same))) c.grow_to.ensures.runs.touches
    (λ p behind root. omega (arith, behind, root, there)) c.grow_to.ensures.zeros in
    zeros_then (c.grow_to.ensures.runs.works.steady.is_told ∙ c.find.ensures.runs.works.steady.is_told) (omega (arith, same, c.grow_to.ensures.runs.works.no_shorter)) grown c.set_kind.ensures.runs.touches
    (λ p behind map. omega (arith, behind, map, there)) (zeros_none (omega (arith, c.set_kind.ensures.count)))

pub returns-clause-forms : goal.returns-clause-forms
returns-clause-forms g c =
    let forms = forms_then (forms_same c.find.ensures.runs.works.steady.is_told c.find.ensures.same)
    (forms_still c.grow_to.ensures.runs.touches (λ p on root. omega (arith, on.0, root)) c.grow_to.ensures.runs.works.no_shorter) in
    forms_then forms (forms_set c.in-Some.e c.args.kind c.requires.kind (λ owned. omega (arith, c.in_ok-grow_to.ensures.count, c.end_of.ensures.end, c.set_kind.ensures.count)) (omega (arith, c.set_kind.ensures.count))
    c.in_ok-set_kind.ensures.sets c.set_kind.ensures.runs.touches)
