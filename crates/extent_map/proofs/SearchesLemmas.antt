-- What a search of one page of the map shows of the owners that are told there.
use Rattle.std.proofs.Common.{◌≡◌, ◌≤◌, ◌+◌, ◌*◌, ◌/◌, ℕ, List, Option, Some, None, is_some, IfSome, true, false, ap, sym, subst, ◌∙◌, arith, inl, inr}
use Rattle.std.proofs.lemmas.Bool.{cases_lt}
use Rattle.std.proofs.lemmas.Option.{same_Some}
use Rattle.store_api.specs.Frame.{HoldsPage}
use Rattle.store_api.specs.declared.pages.Pages.{Ghosts}
use Rattle.store_api.specs.declared.shape.Shape.{Shape}
use Rattle.extent_map.specs.Map.{HoldsMapPage, map_page, map_page_of, entry_of}
use Rattle.extent_map.specs.Owners.{owner_of}
use Rattle.extent_map.specs.Searches.{ShowsKinds, IsMalformed, NoneWanted, FindsWanted, IsFound, ShowsOwner}
use Rattle.extent_map.specs.declared.finding.Wanted.{Wanted}
use Rattle.extent_map.specs.declared.kind.Kind.{Kind}
use Rattle.extent_map.proofs.HoldsMapLemmas.{map_page_same}
use Rattle.extent_map.proofs.MapLemmas.{entry_of-map_page}

none_wanted_behind : (wanted : Wanted) (n : ℕ) (owners : List Kind) (from next end : ℕ) → NoneWanted wanted n owners from next → NoneWanted wanted n owners next end → NoneWanted wanted n owners from end
none_wanted_behind wanted n owners from next end first second = λ e low high. elim (cases_lt e next) [ inl before ↦ first e low before | inr after ↦ second e after high ]

module _ {S : Type 0} {g : Ghosts S} where
  -- the page at hand is the one that is told
  page_read : {shape : Shape} {s : S} {owners : List Kind} (i : ℕ) (page : List ℕ) (hand : Option (List ℕ)) → HoldsMapPage g shape s owners i
      → ((bytes : List ℕ) → HoldsPage g s (17 + i) bytes → hand ≡ Some bytes) → hand ≡ Some page → map_page owners i ≡ page
  page_read {owners = owners} i page hand told shown lent = same_Some _ _ (sym (shown (map_page owners i) told.page) ∙ lent)

  -- it shows each extent as what it is told to be
  pub shows_kinds : {shape : Shape} {s : S} {owners : List Kind} (from to : ℕ) (page : List ℕ) (hand : Option (List ℕ)) → to ≤ 512 * (from / 512 + 1)
      → HoldsMapPage g shape s owners (from / 512) → ((bytes : List ℕ) → HoldsPage g s (map_page_of from) bytes → hand ≡ Some bytes) → hand ≡ Some page
      → ShowsKinds shape.extent_pages page owners from to
  shows_kinds {owners = owners} from to page hand one_page told shown lent = λ e low high.
      let on : e / 512 ≡ from / 512 = omega (arith, one_page, low, high) in
      (told.kinds e on, ap (λ bytes. entry_of bytes e) (sym (page_read (from / 512) page hand told shown lent)) ∙ entry_of-map_page owners (from / 512) e on)

  -- an extent that it doesn't show as any kind has none that is told
  pub none_shown : {shape : Shape} {s : S} {owners : List Kind} (from to e : ℕ) (page : List ℕ) (hand : Option (List ℕ)) → to ≤ 512 * (from / 512 + 1)
      → IsMalformed shape.extent_pages page from to e → ((bytes : List ℕ) → HoldsPage g s (map_page_of from) bytes → hand ≡ Some bytes) → hand ≡ Some page
      → HoldsMapPage g shape s owners (e / 512) → ⊥
  none_shown {shape = shape} {s = s} {owners = owners} from to e page hand one_page malformed shown lent told =
      let low = malformed.behind in
      let high = malformed.within in
      let on : e / 512 ≡ from / 512 = omega (arith, one_page, low, high) in
      let here : HoldsMapPage g shape s owners (from / 512) = subst (λ i. HoldsMapPage g shape s owners i) on told in
      let shows = shows_kinds from to page hand one_page here shown lent e low high in
      malformed.none (owner_of owners e) shows.0 shows.1

  -- what was found is what its page shows
  pub finds_shown : (shape : Shape) (s : S) (wanted : Wanted) (from to : ℕ) (found : Option (ℕ × Kind)) → to ≤ 512 * (from / 512 + 1) → IfSome found (IsFound wanted shape.extent_pages from to)
      → ((owners : List Kind) → HoldsMapPage g shape s owners (from / 512) → FindsWanted wanted shape.extent_pages owners from to found)
      → IfSome found (λ at. ShowsOwner g shape s at.0 at.1)
  finds_shown shape s wanted from to None one_page fits finds = tt
  finds_shown shape s wanted from to (Some at) one_page fits finds = λ owners told.
      let on : at.0 / 512 ≡ from / 512 = omega (arith, one_page, fits.behind, fits.within) in
      (finds owners (subst (λ i. HoldsMapPage g shape s owners i) on told)).0

-- the same where the work was the same
pub shown_same : {S : Type 0} (g : Ghosts S) (shape : Shape) (old new : S) (found : Option (ℕ × Kind)) → (g.state new).is_told ≡ (g.state old).is_told → (g.state new).work ≡ (g.state old).work
    → IfSome found (λ at. ShowsOwner g shape new at.0 at.1) → IfSome found (λ at. ShowsOwner g shape old at.0 at.1)
shown_same g shape old new None told same shown = tt
shown_same g shape old new (Some at) told same shown = λ owners is. shown owners (map_page_same told same is)

-- what was found behind extents of which none was wanted
pub finds_behind : (wanted : Wanted) (n : ℕ) (owners : List Kind) (from next end to : ℕ) (found : Option (ℕ × Kind)) → is_some found ≡ true
    → NoneWanted wanted n owners from next → FindsWanted wanted n owners next end found → FindsWanted wanted n owners from to found
finds_behind wanted n owners from next end to None is none finds = absurd (cc)
finds_behind wanted n owners from next end to (Some at) is none finds = (finds.0, none_wanted_behind wanted n owners from next at.0 none finds.1)

-- none was wanted, and none behind
pub none_found : (wanted : Wanted) (n : ℕ) (owners : List Kind) (from next end : ℕ) (found : Option (ℕ × Kind)) → is_some found ≡ false
    → NoneWanted wanted n owners from next → FindsWanted wanted n owners next end found → NoneWanted wanted n owners from end
none_found wanted n owners from next end None is none finds = none_wanted_behind wanted n owners from next end none finds
none_found wanted n owners from next end (Some at) is none finds = absurd (cc)
