use Rattle.std.proofs.Common.{◌≡◌, ◌<◌, ◌+◌, ◌∙◌, List, None, IfSome, IfNone, ap, inl, inr, length, max, refl, subst, sym, arith, ℕ}
use Rattle.store_api.specs.Extents.{first_page_of}
use Rattle.store_api.specs.RunsOverPages.{RunsOverPages}
use Rattle.store_api.proofs.RunsOverPagesLemmas.{runs_then, runs_wider, runs_exit_as}
use Rattle.extent_map.specs.Claims.{ClaimsExtent, HasNoneFrom}
use Rattle.extent_map.specs.Damages.{BreaksSpace, store_part_of}
use Rattle.extent_map.specs.Map.{HoldsMap, IsSpacePage}
use Rattle.extent_map.specs.Owners.{IsExtentPage, extent_of}
use Rattle.extent_map.specs.Searches.{IsFound, FindsWanted}
use Rattle.extent_map.specs.declared.finding.Wanted.TheVariants.{UnusedPage}
use Rattle.extent_map.specs.declared.kind.Kind.{Kind}
use Rattle.extent_map.specs.declared.kind.Kind.TheVariants.{Index}
use Rattle.extent_map.proofs.BitsLemmas.{lowest_unused_below}
use Rattle.extent_map.proofs.ClaimsLemmas.{on_err, changes_count_after, changes_count_still, counted_same}
use Rattle.extent_map.proofs.DamagesLemmas.{breaks_space_same}
use Rattle.extent_map.proofs.ExtentsLemmas.{extent_limits, extent_of-page, is_extent_page}
use Rattle.extent_map.proofs.GrowthLemmas.{growth_same, growth_still, growth_then, zeros_after, zeros_none}
use Rattle.extent_map.proofs.MapFormLemmas.{forms_same, forms_then}
use Rattle.extent_map.proofs.HoldsMapLemmas.{is_map_page, holds_map_same}
use Rattle.extent_map.proofs.IndexPagesLemmas.{are_kinds, taken_unused, taken_lowest, taken_list, taken_notes, begun_claimable, begun_lowest, begun_list, begun_notes, has_no_free, has_no_unused, full_notes, none_behind}
use Rattle.extent_map.proofs.space_notes.SpaceNotes.claim_index_page.Goals as goal

pub returns-in_err-found-clause-kept : goal.returns-in_err-found-clause-kept
returns-in_err-found-clause-kept g c = on_err c.from_residual.result (λ owners is. holds_map_same c.find.ensures.runs.works.steady.is_told c.find.ensures.same is)

pub returns-in_err-p-clause-kept : goal.returns-in_err-p-clause-kept
returns-in_err-p-clause-kept g c = on_err c.from_residual-in_err-p.result (λ owners is.
    holds_map_same c.take_page.ensures.runs.works.steady.is_told c.in_err-p.ensures.kept (holds_map_same c.find.ensures.runs.works.steady.is_told c.find.ensures.same is))

pub returns-in_err-p-clause-runs : goal.returns-in_err-p-clause-runs
returns-in_err-p-clause-runs g c =
    let shape = c.args.shape in
    let start : RunsOverPages g.P.Pages (IsSpacePage shape) (IsSpacePage shape) (BreaksSpace g.P.Pages shape c.args.pages.now) c.args.pages.now c.find.new.pages None =
    runs_wider c.in_ok-found.ensures.runs (λ p there none. absurd none) (λ p on. inr on) (λ damage breaks. breaks) in
    let found = subst (λ f. IfSome f (IsFound UnusedPage shape.extent_pages c.args.self.now.unused_from c.whole_extents-to.result)) c.in-Some.is c.in_ok-found.ensures.fits in
    let below : c.in-Some.e < shape.extents = omega (arith, found.within, c.whole_extents-to.ensures.within) in
    runs_exit_as store_part_of c.from_residual-in_err-p.result c.from_residual-in_err-p.ensures.1
    (runs_then start c.in_err-p.ensures.runs (λ p there is. inr (is_map_page shape c.in-Some.e p below is)) (λ p is. inr (is_map_page shape c.in-Some.e p below is)) (λ damage breaks. breaks_space_same damage c.find.ensures.runs.works.steady.is_told c.find.ensures.same breaks))

pub returns-in-Some-clause-runs : goal.returns-in-Some-clause-runs
returns-in-Some-clause-runs g c =
    let shape = c.args.shape in
    let start : RunsOverPages g.P.Pages (IsSpacePage shape) (IsSpacePage shape) (BreaksSpace g.P.Pages shape c.args.pages.now) c.args.pages.now c.find.new.pages None =
    runs_wider c.in_ok-found.ensures.runs (λ p there none. absurd none) (λ p on. inr on) (λ damage breaks. breaks) in
    let found = subst (λ f. IfSome f (IsFound UnusedPage shape.extent_pages c.args.self.now.unused_from c.whole_extents-to.result)) c.in-Some.is c.in_ok-found.ensures.fits in
    let below : c.in-Some.e < shape.extents = omega (arith, found.within, c.whole_extents-to.ensures.within) in
    runs_then start c.in_ok-p.ensures.runs (λ p there is. inr (is_map_page shape c.in-Some.e p below is)) (λ p is. inr (is_map_page shape c.in-Some.e p below is)) (λ damage breaks. breaks_space_same damage c.find.ensures.runs.works.steady.is_told c.find.ensures.same breaks)

pub returns-in-Some-clause-root : goal.returns-in-Some-clause-root
returns-in-Some-clause-root g c = changes_count_still c.find.ensures.runs.works.steady.is_told c.find.ensures.same c.take_page.ensures.runs.touches (omega arith)

pub returns-in-Some-clause-unused : goal.returns-in-Some-clause-unused
returns-in-Some-clause-unused g c = λ owners is.
    let shape = c.args.shape in
    let found = subst (λ f. IfSome f (IsFound UnusedPage shape.extent_pages c.args.self.now.unused_from c.whole_extents-to.result)) c.in-Some.is c.in_ok-found.ensures.fits in
    let below : c.in-Some.e < shape.extents = omega (arith, found.within, c.whole_extents-to.ensures.within) in
    let finds = subst (λ f. FindsWanted UnusedPage shape.extent_pages owners c.args.self.now.unused_from c.whole_extents-to.result f) c.in-Some.is (c.in_ok-found.ensures.found owners is) in
    let takes = c.in_ok-p.ensures.takes in
    let unused = taken_unused shape owners c.in_ok-p.p c.in-Some.e takes.place c.in-Some.kind below found.kind takes.lowest takes.page finds.0 in
    record { page = unused.page; claimable = inl unused }

pub returns-in-Some-clause-lowest : goal.returns-in-Some-clause-lowest
returns-in-Some-clause-lowest g c = λ owners is notes.
    let shape = c.args.shape in
    let found = subst (λ f. IfSome f (IsFound UnusedPage shape.extent_pages c.args.self.now.unused_from c.whole_extents-to.result)) c.in-Some.is c.in_ok-found.ensures.fits in
    let below : c.in-Some.e < shape.extents = omega (arith, found.within, c.whole_extents-to.ensures.within) in
    let finds = subst (λ f. FindsWanted UnusedPage shape.extent_pages owners c.args.self.now.unused_from c.whole_extents-to.result f) c.in-Some.is (c.in_ok-found.ensures.found owners is) in
    let takes = c.in_ok-p.ensures.takes in
    inl (taken_lowest shape c.args.self.now owners c.in_ok-p.p c.in-Some.e takes.place c.in-Some.kind below found.kind takes.lowest takes.page finds.0 (are_kinds owners is) notes finds.1)

pub returns-in-Some-clause-claims : goal.returns-in-Some-clause-claims
returns-in-Some-clause-claims g c = λ owners is.
    let shape = c.args.shape in
    let finds = subst (λ f. FindsWanted UnusedPage shape.extent_pages owners c.args.self.now.unused_from c.whole_extents-to.result f) c.in-Some.is (c.in_ok-found.ensures.found owners is) in
    let takes = c.in_ok-p.ensures.takes in
    let less = lowest_unused_below shape.extent_pages takes.place c.in-Some.kind takes.lowest in
    subst (λ list. HoldsMap g.P.Pages shape c.take_page.new.pages list)
    (taken_list shape owners c.in_ok-p.p c.in-Some.e takes.place c.in-Some.kind less takes.page finds.0)
    (takes.holds owners (holds_map_same c.find.ensures.runs.works.steady.is_told c.find.ensures.same is))

pub returns-in-Some-clause-notes : goal.returns-in-Some-clause-notes
returns-in-Some-clause-notes g c = λ owners is notes.
    let shape = c.args.shape in
    let finds = subst (λ f. FindsWanted UnusedPage shape.extent_pages owners c.args.self.now.unused_from c.whole_extents-to.result f) c.in-Some.is (c.in_ok-found.ensures.found owners is) in
    let takes = c.in_ok-p.ensures.takes in
    let less = lowest_unused_below shape.extent_pages takes.place c.in-Some.kind takes.lowest in
    taken_notes shape c.args.self.now owners _ c.in_ok-p.p c.in-Some.e takes.place c.in-Some.kind (taken_list shape owners c.in_ok-p.p c.in-Some.e takes.place c.in-Some.kind less takes.page finds.0)
    refl refl (are_kinds owners is) notes finds.1

pub returns-in_err-e-clause-kept : goal.returns-in_err-e-clause-kept
returns-in_err-e-clause-kept g c = on_err c.from_residual-in_err-e.result (λ owners is. c.in_err-e.ensures.kept owners (holds_map_same c.find.ensures.runs.works.steady.is_told c.find.ensures.same is))

pub returns-in_err-e-clause-root : goal.returns-in_err-e-clause-root
returns-in_err-e-clause-root g c = changes_count_after c.find.ensures.runs.works.steady.is_told c.find.ensures.same c.in_err-e.ensures.root

pub returns-in_err-e-clause-runs : goal.returns-in_err-e-clause-runs
returns-in_err-e-clause-runs g c =
    let shape = c.args.shape in
    let start : RunsOverPages g.P.Pages (IsSpacePage shape) (IsSpacePage shape) (BreaksSpace g.P.Pages shape c.args.pages.now) c.args.pages.now c.find.new.pages None =
    runs_wider c.in_ok-found.ensures.runs (λ p there none. absurd none) (λ p on. inr on) (λ damage breaks. breaks) in
    runs_exit_as store_part_of c.from_residual-in_err-e.result c.from_residual-in_err-e.ensures.1 (runs_then start c.in_err-e.ensures.runs (λ p there is. is) (λ p is. is) (λ damage breaks. breaks_space_same damage c.find.ensures.runs.works.steady.is_told c.find.ensures.same breaks))

pub returns-in_default-2-clause-runs : goal.returns-in_default-2-clause-runs
returns-in_default-2-clause-runs g c =
    let shape = c.args.shape in
    let start : RunsOverPages g.P.Pages (IsSpacePage shape) (IsSpacePage shape) (BreaksSpace g.P.Pages shape c.args.pages.now) c.args.pages.now c.find.new.pages None =
    runs_wider c.in_ok-found.ensures.runs (λ p there none. absurd none) (λ p on. inr on) (λ damage breaks. breaks) in
    runs_then start c.in_ok-e.ensures.runs (λ p there is. is) (λ p is. is) (λ damage breaks. breaks_space_same damage c.find.ensures.runs.works.steady.is_told c.find.ensures.same breaks)

pub returns-in_default-2-clause-kept : goal.returns-in_default-2-clause-kept
returns-in_default-2-clause-kept g c = λ owners is.
    let same = subst (λ f. IfNone f ((g.P.Pages.state c.claim_extent.new.pages).work ≡ (g.P.Pages.state c.find.new.pages).work)) c.in_default-2.is c.in_ok-e.ensures.none_same in
    holds_map_same c.in_ok-e.ensures.runs.works.steady.is_told same (holds_map_same c.find.ensures.runs.works.steady.is_told c.find.ensures.same is)

pub returns-in_default-2-clause-only_full : goal.returns-in_default-2-clause-only_full
returns-in_default-2-clause-only_full g c = λ owners is notes.
    let shape = c.args.shape in
    let at = holds_map_same c.find.ensures.runs.works.steady.is_told c.find.ensures.same is in
    let nones = none_behind owners c.args.self.now.unused_from c.whole_extents-to.result is (λ e after below. omega (arith, c.whole_extents-to.ensures.behind e after below, c.count.ensures))
    (subst (λ f. FindsWanted UnusedPage shape.extent_pages owners c.args.self.now.unused_from c.whole_extents-to.result f) c.in_default.is (c.in_ok-found.ensures.found owners is)) in
    let frees = subst (λ f. IfNone f ((owners : List Kind) → HoldsMap g.P.Pages shape c.find.new.pages owners → HasNoneFrom shape owners c.args.self.now.free_from shape.extents)) c.in_default-2.is c.in_ok-e.ensures.none owners at in
    (has_no_free shape c.args.self.now owners is.count notes frees, has_no_unused shape c.args.self.now owners (are_kinds owners is) notes nones)

pub returns-in_default-2-clause-kept_notes : goal.returns-in_default-2-clause-kept_notes
returns-in_default-2-clause-kept_notes g c = λ owners is notes.
    let shape = c.args.shape in
    let at = holds_map_same c.find.ensures.runs.works.steady.is_told c.find.ensures.same is in
    let nones = none_behind owners c.args.self.now.unused_from c.whole_extents-to.result is (λ e after below. omega (arith, c.whole_extents-to.ensures.behind e after below, c.count.ensures))
    (subst (λ f. FindsWanted UnusedPage shape.extent_pages owners c.args.self.now.unused_from c.whole_extents-to.result f) c.in_default.is (c.in_ok-found.ensures.found owners is)) in
    let frees = subst (λ f. IfNone f ((owners : List Kind) → HoldsMap g.P.Pages shape c.find.new.pages owners → HasNoneFrom shape owners c.args.self.now.free_from shape.extents)) c.in_default-2.is c.in_ok-e.ensures.none owners at in
    full_notes shape c.args.self.now owners _ refl refl is.count (are_kinds owners is) notes nones frees

pub returns-clause-unused : goal.returns-clause-unused
returns-clause-unused g c = λ owners is.
    let shape = c.args.shape in
    let at = holds_map_same c.find.ensures.runs.works.steady.is_told c.find.ensures.same is in
    let claim = subst (λ f. IfSome f (λ e. ClaimsExtent g.P.Pages shape c.args.self.now.free_from (Index 1) c.find.new.pages c.claim_extent.new.pages e)) c.in-Some-2.is c.in_ok-e.ensures.claims in
    begun_claimable shape owners c.first_page.result c.in-Some-2.e claim.within c.first_page.ensures (claim.free owners at)

pub returns-clause-lowest : goal.returns-clause-lowest
returns-clause-lowest g c = λ owners is notes.
    let shape = c.args.shape in
    let at = holds_map_same c.find.ensures.runs.works.steady.is_told c.find.ensures.same is in
    let nones = none_behind owners c.args.self.now.unused_from c.whole_extents-to.result is (λ e after below. omega (arith, c.whole_extents-to.ensures.behind e after below, c.count.ensures))
    (subst (λ f. FindsWanted UnusedPage shape.extent_pages owners c.args.self.now.unused_from c.whole_extents-to.result f) c.in_default.is (c.in_ok-found.ensures.found owners is)) in
    let claim = subst (λ f. IfSome f (λ e. ClaimsExtent g.P.Pages shape c.args.self.now.free_from (Index 1) c.find.new.pages c.claim_extent.new.pages e)) c.in-Some-2.is c.in_ok-e.ensures.claims in
    begun_lowest shape c.args.self.now owners c.first_page.result c.in-Some-2.e claim.within is.count c.first_page.ensures (claim.free owners at) (are_kinds owners is) notes nones (claim.passed owners at)

pub returns-clause-claims : goal.returns-clause-claims
returns-clause-claims g c = λ owners is.
    let shape = c.args.shape in
    let at = holds_map_same c.find.ensures.runs.works.steady.is_told c.find.ensures.same is in
    let claim = subst (λ f. IfSome f (λ e. ClaimsExtent g.P.Pages shape c.args.self.now.free_from (Index 1) c.find.new.pages c.claim_extent.new.pages e)) c.in-Some-2.is c.in_ok-e.ensures.claims in
    subst (λ list. HoldsMap g.P.Pages shape c.claim_extent.new.pages list)
    (begun_list shape owners c.first_page.result c.in-Some-2.e c.first_page.ensures (claim.free owners at)) (claim.holds owners at)

pub returns-clause-notes : goal.returns-clause-notes
returns-clause-notes g c = λ owners is notes.
    let shape = c.args.shape in
    let at = holds_map_same c.find.ensures.runs.works.steady.is_told c.find.ensures.same is in
    let nones = none_behind owners c.args.self.now.unused_from c.whole_extents-to.result is (λ e after below. omega (arith, c.whole_extents-to.ensures.behind e after below, c.count.ensures))
    (subst (λ f. FindsWanted UnusedPage shape.extent_pages owners c.args.self.now.unused_from c.whole_extents-to.result f) c.in_default.is (c.in_ok-found.ensures.found owners is)) in
    let claim = subst (λ f. IfSome f (λ e. ClaimsExtent g.P.Pages shape c.args.self.now.free_from (Index 1) c.find.new.pages c.claim_extent.new.pages e)) c.in-Some-2.is c.in_ok-e.ensures.claims in
    begun_notes shape c.args.self.now owners _ c.first_page.result c.in-Some-2.e (begun_list shape owners c.first_page.result c.in-Some-2.e c.first_page.ensures (claim.free owners at))
    refl refl claim.within (are_kinds owners is) notes nones (claim.passed owners at)

pub returns-clause-root : goal.returns-clause-root
returns-clause-root g c = changes_count_after c.find.ensures.runs.works.steady.is_told c.find.ensures.same c.in_ok-e.ensures.root

pub returns-clause-runs : goal.returns-clause-runs
returns-clause-runs g c =
    let shape = c.args.shape in
    let start : RunsOverPages g.P.Pages (IsSpacePage shape) (IsSpacePage shape) (BreaksSpace g.P.Pages shape c.args.pages.now) c.args.pages.now c.find.new.pages None =
    runs_wider c.in_ok-found.ensures.runs (λ p there none. absurd none) (λ p on. inr on) (λ damage breaks. breaks) in
    runs_then start c.in_ok-e.ensures.runs (λ p there is. is) (λ p is. is) (λ damage breaks. breaks_space_same damage c.find.ensures.runs.works.steady.is_told c.find.ensures.same breaks)

pub returns-in-Some-clause-forms : goal.returns-in-Some-clause-forms
returns-in-Some-clause-forms g c = forms_then (forms_same c.find.ensures.runs.works.steady.is_told c.find.ensures.same) c.take_page.ensures.forms

pub returns-in_default-2-clause-forms : goal.returns-in_default-2-clause-forms
returns-in_default-2-clause-forms g c = forms_then (forms_same c.find.ensures.runs.works.steady.is_told c.find.ensures.same) c.claim_extent.ensures.forms

pub returns-clause-stated : goal.returns-clause-stated
returns-clause-stated g c =
    let shape = c.args.shape in
    let claim = subst (λ f. IfSome f (λ e. ClaimsExtent g.P.Pages shape c.args.self.now.free_from (Index 1) c.find.new.pages c.claim_extent.new.pages e)) c.in-Some-2.is c.in_ok-e.ensures.claims in
    growth_then c.find.ensures.runs.works.no_shorter c.claim_extent.ensures.runs.works.no_shorter (growth_same c.find.ensures.runs.works.steady.is_told c.find.ensures.same) claim.stated

pub returns-clause-forms : goal.returns-clause-forms
returns-clause-forms g c = forms_then (forms_same c.find.ensures.runs.works.steady.is_told c.find.ensures.same) c.claim_extent.ensures.forms

pub returns-in-Some-clause-within : goal.returns-in-Some-clause-within
returns-in-Some-clause-within g c =
    let shape = c.args.shape in
    let takes = c.in_ok-p.ensures.takes in
    let less = lowest_unused_below shape.extent_pages takes.place c.in-Some.kind takes.lowest in
    let found = subst (λ f. IfSome f (IsFound UnusedPage shape.extent_pages c.args.self.now.unused_from c.whole_extents-to.result)) c.in-Some.is c.in_ok-found.ensures.fits in
    let below : c.in-Some.e < shape.extents = omega (arith, found.within, c.whole_extents-to.ensures.within) in
    subst (IsExtentPage shape) (sym takes.page) (is_extent_page shape c.in-Some.e takes.place below less)

pub returns-in-Some-clause-there : goal.returns-in-Some-clause-there
returns-in-Some-clause-there g c =
    let shape = c.args.shape in
    let takes = c.in_ok-p.ensures.takes in
    let less = lowest_unused_below shape.extent_pages takes.place c.in-Some.kind takes.lowest in
    omega (arith, less, takes.page, takes.there, takes.count)

pub returns-in-Some-clause-count : goal.returns-in-Some-clause-count
returns-in-Some-clause-count g c =
    let shape = c.args.shape in
    let takes = c.in_ok-p.ensures.takes in
    let less = lowest_unused_below shape.extent_pages takes.place c.in-Some.kind takes.lowest in
    let there : extent_of shape c.in_ok-p.p ≡ c.in-Some.e = subst (λ (q : ℕ). extent_of shape q ≡ c.in-Some.e) (sym takes.page) (extent_of-page shape c.in-Some.e takes.place less) in
    subst (λ (e : ℕ). length (g.P.Pages.state c.take_page.new.pages).work ≡ max (length (g.P.Pages.state c.args.pages.now).work) (first_page_of shape.extents shape.extent_pages (e + 1))) (sym there)
    (omega (arith, takes.count, takes.there, ap length c.find.ensures.same))

pub returns-in-Some-clause-counted : goal.returns-in-Some-clause-counted
returns-in-Some-clause-counted g c = λ counted. c.in_ok-p.ensures.takes.counted (counted_same c.find.ensures.runs.works.steady.is_told c.find.ensures.same counted)

pub returns-in-Some-clause-stated : goal.returns-in-Some-clause-stated
returns-in-Some-clause-stated g c =
    growth_then c.find.ensures.runs.works.no_shorter c.take_page.ensures.runs.works.no_shorter (growth_same c.find.ensures.runs.works.steady.is_told c.find.ensures.same) (growth_still c.take_page.ensures.runs.touches (omega arith) c.in_ok-p.ensures.takes.count)

pub returns-in-Some-clause-zeros : goal.returns-in-Some-clause-zeros
returns-in-Some-clause-zeros g c = zeros_none (omega (arith, c.in_ok-p.ensures.takes.count, ap length c.find.ensures.same))

pub returns-clause-within : goal.returns-clause-within
returns-clause-within g c =
    let shape = c.args.shape in
    let claim = subst (λ f. IfSome f (λ e. ClaimsExtent g.P.Pages shape c.args.self.now.free_from (Index 1) c.find.new.pages c.claim_extent.new.pages e)) c.in-Some-2.is c.in_ok-e.ensures.claims in
    let some = (extent_limits shape).0 in
    let at : c.first_page.result ≡ first_page_of shape.extents shape.extent_pages c.in-Some-2.e + 0 = omega (arith, c.first_page.ensures) in
    subst (IsExtentPage shape) (sym at) (is_extent_page shape c.in-Some-2.e 0 claim.within (omega (arith, some)))

pub returns-clause-there : goal.returns-clause-there
returns-clause-there g c =
    let shape = c.args.shape in
    let claim = subst (λ f. IfSome f (λ e. ClaimsExtent g.P.Pages shape c.args.self.now.free_from (Index 1) c.find.new.pages c.claim_extent.new.pages e)) c.in-Some-2.is c.in_ok-e.ensures.claims in
    let some = (extent_limits shape).0 in omega (arith, some, claim.count, c.first_page.ensures)

pub returns-clause-count : goal.returns-clause-count
returns-clause-count g c =
    let shape = c.args.shape in
    let claim = subst (λ f. IfSome f (λ e. ClaimsExtent g.P.Pages shape c.args.self.now.free_from (Index 1) c.find.new.pages c.claim_extent.new.pages e)) c.in-Some-2.is c.in_ok-e.ensures.claims in
    let some = (extent_limits shape).0 in
    let at : c.first_page.result ≡ first_page_of shape.extents shape.extent_pages c.in-Some-2.e + 0 = omega (arith, c.first_page.ensures) in
    let there : extent_of shape c.first_page.result ≡ c.in-Some-2.e = subst (λ (q : ℕ). extent_of shape q ≡ c.in-Some-2.e) (sym at) (extent_of-page shape c.in-Some-2.e 0 (omega (arith, some))) in
    subst (λ (e : ℕ). length (g.P.Pages.state c.claim_extent.new.pages).work ≡ max (length (g.P.Pages.state c.args.pages.now).work) (first_page_of shape.extents shape.extent_pages (e + 1))) (sym there)
    (omega (arith, claim.count, ap length c.find.ensures.same))

pub returns-clause-counted : goal.returns-clause-counted
returns-clause-counted g c =
    let shape = c.args.shape in
    let claim = subst (λ f. IfSome f (λ e. ClaimsExtent g.P.Pages shape c.args.self.now.free_from (Index 1) c.find.new.pages c.claim_extent.new.pages e)) c.in-Some-2.is c.in_ok-e.ensures.claims in
    λ counted. claim.counted (counted_same c.find.ensures.runs.works.steady.is_told c.find.ensures.same counted)

pub returns-clause-zeros : goal.returns-clause-zeros
returns-clause-zeros g c = zeros_after c.find.ensures.runs.works.steady.is_told c.find.ensures.same c.claim_extent.ensures.zeros

pub returns-in_err-p-clause-zeros : goal.returns-in_err-p-clause-zeros
returns-in_err-p-clause-zeros g c = zeros_none (omega (arith, ap length c.in_err-p.ensures.kept, ap length c.find.ensures.same))

pub returns-in_err-p-clause-root : goal.returns-in_err-p-clause-root
returns-in_err-p-clause-root g c = changes_count_still c.find.ensures.runs.works.steady.is_told c.find.ensures.same c.take_page.ensures.runs.touches (omega arith)

pub returns-in_err-e-clause-zeros : goal.returns-in_err-e-clause-zeros
returns-in_err-e-clause-zeros g c = zeros_after c.find.ensures.runs.works.steady.is_told c.find.ensures.same c.claim_extent.ensures.zeros

pub returns-in_default-2-clause-zeros : goal.returns-in_default-2-clause-zeros
returns-in_default-2-clause-zeros g c = zeros_after c.find.ensures.runs.works.steady.is_told c.find.ensures.same c.claim_extent.ensures.zeros

pub returns-in_default-2-clause-root : goal.returns-in_default-2-clause-root
returns-in_default-2-clause-root g c = changes_count_after c.find.ensures.runs.works.steady.is_told c.find.ensures.same c.in_ok-e.ensures.root

pub returns-in_default-2-clause-full : goal.returns-in_default-2-clause-full
returns-in_default-2-clause-full g c =
    (refl, subst (λ f. IfNone f ((g.P.Pages.state c.claim_extent.new.pages).work ≡ (g.P.Pages.state c.find.new.pages).work)) c.in_default-2.is c.in_ok-e.ensures.none_same ∙ c.find.ensures.same)
