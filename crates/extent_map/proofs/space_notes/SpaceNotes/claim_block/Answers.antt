use Rattle.std.proofs.Common.{◌≡◌, IfSome, IfNone, refl, subst}
use Rattle.extent_map.specs.Claims.{ClaimsExtent}
use Rattle.extent_map.specs.declared.kind.Kind.TheVariants.{Block}
use Rattle.extent_map.proofs.HoldsMapLemmas.{holds_map_same}
use Rattle.extent_map.proofs.OwnersLemmas.{right_notes-block}
use Rattle.extent_map.proofs.space_notes.SpaceNotes.claim_block.Goals as goal

pub returns-in_default-clause-kept : goal.returns-in_default-clause-kept
returns-in_default-clause-kept g c = λ owners is.
    let same = subst (λ f. IfNone f ((g.P.Pages.state c.claim_extent.new.pages).work ≡ (g.P.Pages.state c.args.pages.now).work)) c.in_default.is c.in_ok-e.ensures.none_same in
    holds_map_same c.in_ok-e.ensures.runs.works.steady.is_told same is

pub returns-clause-claims : goal.returns-clause-claims
returns-clause-claims g c = λ owners is.
    let claim = subst (λ f. IfSome f (λ e. ClaimsExtent g.P.Pages c.args.shape c.args.self.now.free_from (Block c.args.table) c.args.pages.now c.claim_extent.new.pages e)) c.in-Some.is c.in_ok-e.ensures.claims in
    claim.holds owners is

pub returns-clause-notes : goal.returns-clause-notes
returns-clause-notes g c = λ owners is notes.
    let claim = subst (λ f. IfSome f (λ e. ClaimsExtent g.P.Pages c.args.shape c.args.self.now.free_from (Block c.args.table) c.args.pages.now c.claim_extent.new.pages e)) c.in-Some.is c.in_ok-e.ensures.claims in
    right_notes-block c.args.shape c.args.self.now _ owners c.in-Some.e c.args.table refl refl (claim.passed owners is) notes
