-- Pages that are claimed one after the other.
use Rattle.std.proofs.Common.{◌≡◌, ◌<◌, ◌≤◌, ◌+◌, ℕ, List, [], ◌∷◌, ◌++◌, max, length, refl, ap, arith, sym, ◌∙◌, subst, Result, Ok, Err, IsErrAnd, IfErr}
use Rattle.store_api.specs.Extents.{first_page_of}
use Rattle.store_api.specs.declared.fault.Damage.{Damage}
use Rattle.store_api.specs.declared.pages.Pages.{Ghosts}
use Rattle.store_api.specs.Frame.{Touches, IsCounted}
use Rattle.store_api.specs.declared.shape.Shape.{Shape}
use Rattle.store_api.proofs.FrameLemmas.{counted_still}
use Rattle.extent_map.proofs.ClaimsLemmas.{counted_same}
use Rattle.extent_map.proofs.GrowthLemmas.{growth_same, growth_still, growth_then}
use Rattle.extent_map.proofs.MapFormLemmas.{breaks_space_before}
use Rattle.extent_map.specs.Damages.{IfFull, BreaksSpace}
use Rattle.extent_map.specs.Map.{HoldsMap, StatesGrowth, KeepsMapForm}
use Rattle.extent_map.specs.Owners.{count_with, IsClaimable, IsLowestClaimable, HasNoFree, HasNoUnused, AreRightNotes, extent_of, with_used_page}
use Rattle.extent_map.specs.declared.fault.SpaceFault.{SpaceFault}
use Rattle.extent_map.specs.declared.fault.SpaceFault.TheVariants.{Full, Store}
use Rattle.extent_map.specs.declared.kind.Kind.{Kind}
use Rattle.extent_map.specs.declared.space_notes.SpaceNotes.{SpaceNotes}
use Rattle.entry_tree.specs.Standing.{with_pages, ClaimsPages, MeetsFull, GrowsWith}
use Rattle.entry_tree.proofs.UsedPagesLemmas.{with_pages-push, AreClaims-push, AreLowestClaims-push}

-- a fact on the fault that a `?` passed on
pub if_err_by : {X E : Type 0} (r : Result X E) (e : E) (P : E → Type 0) → IsErrAnd r (λ d. d ≡ e) → P e → IfErr r P
if_err_by (Ok x) e P is p = tt
if_err_by (Err d) e P is p = subst P (sym is) p

-- how many pages there are with one claim more
count_with-push : (shape : Shape) (n : ℕ) (claimed : List ℕ) (p : ℕ) → count_with shape n (claimed ++ p ∷ []) ≡ max (count_with shape n claimed) (first_page_of shape.extents shape.extent_pages (extent_of shape p + 1))
count_with-push shape n [] p = refl
count_with-push shape n (q ∷ claimed) p = count_with-push shape (max n (first_page_of shape.extents shape.extent_pages (extent_of shape q + 1))) claimed p

module _ {S : Type 0} {g : Ghosts S} where
  -- none was claimed
  pub claims_none : (shape : Shape) (noted : SpaceNotes) (s : S) (owners : List Kind) → HoldsMap g shape s owners → ClaimsPages g shape noted noted s owners []
  claims_none shape noted s owners h = record { map = h; claims = tt; lowest = λ r. tt; notes = λ r. r }

  -- one page more was claimed
  pub claims_more : (shape : Shape) (before noted next : SpaceNotes) (mid new : S) (owners : List Kind) (claimed : List ℕ) (p : ℕ) → ClaimsPages g shape before noted mid owners claimed
      → ((owners : List Kind) → HoldsMap g shape mid owners → IsClaimable shape owners p)
      → ((owners : List Kind) → HoldsMap g shape mid owners → AreRightNotes shape noted owners → IsLowestClaimable shape owners p)
      → ((owners : List Kind) → HoldsMap g shape mid owners → HoldsMap g shape new (with_used_page shape owners p))
      → ((owners : List Kind) → HoldsMap g shape mid owners → AreRightNotes shape noted owners → AreRightNotes shape next (with_used_page shape owners p))
      → ClaimsPages g shape before next new owners (claimed ++ p ∷ [])
  claims_more shape before noted next mid new owners claimed p c unused lowest claims notes =
      let same : with_used_page shape (with_pages shape owners claimed) p ≡ with_pages shape owners (claimed ++ p ∷ []) =
      sym (with_pages-push shape owners claimed p) in
      record {
        map = subst (λ (o : List Kind). HoldsMap g shape new o) same (claims (with_pages shape owners claimed) c.map);
        claims = AreClaims-push shape owners claimed p c.claims (unused (with_pages shape owners claimed) c.map);
        lowest = λ r. AreLowestClaims-push shape owners claimed p (c.lowest r) (lowest (with_pages shape owners claimed) c.map (c.notes r));
        notes = λ r. subst (λ (o : List Kind). AreRightNotes shape next o) same (notes (with_pages shape owners claimed) c.map (c.notes r));
      }

  -- how many pages there are, and page 0, once none was claimed, and one more
  pub grows_none : (shape : Shape) (s : S) → GrowsWith g shape s s []
  grows_none shape s = record { count = refl; counted = λ c. c; stated = growth_same refl refl }

  pub grows_more : (shape : Shape) (old mid new : S) (claimed : List ℕ) (p : ℕ) → length (g.state old).work ≤ length (g.state mid).work → length (g.state mid).work ≤ length (g.state new).work
      → GrowsWith g shape old mid claimed → length (g.state new).work ≡ max (length (g.state mid).work) (first_page_of shape.extents shape.extent_pages (extent_of shape p + 1))
      → (IsCounted g mid → IsCounted g new) → StatesGrowth g mid new → GrowsWith g shape old new (claimed ++ p ∷ [])
  grows_more shape old mid new claimed p longer still_longer grows count counted stated =
      let end : ℕ = first_page_of shape.extents shape.extent_pages (extent_of shape p + 1) in
      let same : first_page_of shape.extents shape.extent_pages (extent_of shape p + 1) ≡ end = refl in
      record {
        count = count ∙ (ap (λ (v : ℕ). max (length (g.state mid).work) v) same ∙ (ap (λ (v : ℕ). max v end) grows.count ∙ sym (count_with-push shape (length (g.state old).work) claimed p)));
        counted = λ was. counted (grows.counted was);
        stated = growth_then longer still_longer grows.stated stated;
      }

  -- the same after calls that left the work
  pub grows_same : (shape : Shape) (old mid new : S) (claimed : List ℕ) → length (g.state old).work ≤ length (g.state mid).work → (g.state new).is_told ≡ (g.state mid).is_told → (g.state new).work ≡ (g.state mid).work
      → GrowsWith g shape old mid claimed → GrowsWith g shape old new claimed
  grows_same shape old mid new claimed longer told same grows = record {
    count = ap length same ∙ grows.count;
    counted = λ was. counted_same told same (grows.counted was);
    stated = growth_then longer (omega (arith, ap length same)) grows.stated (growth_same told same);
  }

  -- and after writes that leave the count and page 0
  pub grows_still : {Wrote : ℕ → Type 0} (shape : Shape) (old mid new : S) (claimed : List ℕ) → length (g.state old).work ≤ length (g.state mid).work → (g.state new).is_told ≡ (g.state mid).is_told → 0 < length (g.state mid).work
      → length (g.state new).work ≡ length (g.state mid).work → Touches g Wrote mid new → (Wrote 0 → ⊥) → GrowsWith g shape old mid claimed → GrowsWith g shape old new claimed
  grows_still shape old mid new claimed longer told some same written apart grows = record {
    count = same ∙ grows.count;
    counted = λ was. counted_still told written apart some same (grows.counted was);
    stated = growth_then longer (omega (arith, same)) grows.stated (growth_still written apart same);
  }

  -- a claim met a full map
  pub claims_full : (shape : Shape) (before noted next : SpaceNotes) (old mid new : S) (n : ℕ) (claimed : List ℕ) (fault : SpaceFault) → length claimed < n
      → length (g.state old).work ≤ length (g.state mid).work → (g.state new).is_told ≡ (g.state mid).is_told
      → ((owners : List Kind) → HoldsMap g shape old owners → ClaimsPages g shape before noted mid owners claimed) → GrowsWith g shape old mid claimed
      → IfFull fault (λ cap. (cap ≡ shape.extents) × ((g.state new).work ≡ (g.state mid).work))
      → IfFull fault (λ cap. (owners : List Kind) → HoldsMap g shape mid owners → AreRightNotes shape noted owners → HasNoFree owners × HasNoUnused shape owners)
      → ((owners : List Kind) → HoldsMap g shape mid owners → HoldsMap g shape new owners)
      → ((owners : List Kind) → HoldsMap g shape mid owners → AreRightNotes shape noted owners → AreRightNotes shape next owners)
      → IfFull fault (λ cap. (cap ≡ shape.extents) × ((owners : List Kind) → HoldsMap g shape old owners → MeetsFull g shape before next old new owners n))
  claims_full shape before noted next old mid new n claimed (Full cap) l longer told claims grows full none kept notes = (
    full.0,
    λ owners h.
        let c = claims owners h in
        record {
          claimed = claimed;
          fewer = l;
          claims = record {
            map = kept (with_pages shape owners claimed) c.map;
            claims = c.claims;
            lowest = c.lowest;
            notes = λ r. notes (with_pages shape owners claimed) c.map (c.notes r);
          };
          grows = grows_same shape old mid new claimed longer told full.1 grows;
          full = λ r.
              let q = none (with_pages shape owners claimed) c.map (c.notes r) in
              record { no_free = q.0; no_unused = q.1 };
        },
  )
  claims_full shape before noted next old mid new n claimed (Store fault) l longer told claims grows full none kept notes = tt

  -- the damage that a later claim names was there before
  pub claim_breaks : (shape : Shape) (old mid : S) (damage : Damage) → KeepsMapForm g shape old mid → length (g.state old).work ≤ length (g.state mid).work
      → BreaksSpace g shape mid damage → BreaksSpace g shape old damage
  claim_breaks shape old mid damage forms longer breaks = breaks_space_before damage forms longer (breaks)
