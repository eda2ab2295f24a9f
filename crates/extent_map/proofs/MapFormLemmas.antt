-- Pages of the map that keep their form, page by page, whatever they say then; and so no damage is found later that wasn't
-- there before.
use Rattle.std.proofs.Common.{◌≡◌, ◌≢◌, ◌<◌, ◌≤◌, ◌+◌, ◌-◌, ◌*◌, ℕ, suc, List, ◌++◌, length, replicate, set, Result, Ok, Err, OnOk, OnErr, inl, inr, refl, sym, subst, ◌∙◌, arith, length-append}
use Rattle.std.proofs.Math.ListN.{get_or-eq_default}
use Rattle.std.proofs.lemmas.Bool.{cases_lt}
use Rattle.std.proofs.lemmas.List.{length-replicate, get_or_append_left, get_or-append_right}
use Rattle.store_api.specs.Extents.{first_page_of}
use Rattle.store_api.specs.Frame.{HoldsPage, PatchesPage, Touches, OnlyPage}
use Rattle.store_api.specs.declared.fault.Damage.{Damage}
use Rattle.store_api.specs.declared.fault.StoreFault.{StoreFault}
use Rattle.store_api.specs.declared.pages.Pages.{Ghosts}
use Rattle.store_api.specs.declared.shape.Shape.{Shape}
use Rattle.extent_map.specs.Damages.{BreaksSpace}
use Rattle.extent_map.specs.Kinds.{kind_bytes, IsKindOf}
use Rattle.extent_map.specs.Map.{HoldsMapPage, IsMapPage, KeepsMapForm, map_page, map_page_of, entry_place}
use Rattle.extent_map.specs.Owners.{owner_of}
use Rattle.extent_map.specs.declared.kind.Kind.{Kind}
use Rattle.extent_map.specs.declared.kind.Kind.TheVariants.{Free}
use Rattle.extent_map.proofs.HoldsMapLemmas.{map_page_same, map_page_becomes}
use Rattle.extent_map.proofs.LawsOfTheMap.{owner_of-fresh}
use Rattle.extent_map.proofs.MapLemmas.{map_entries_same}

-- free extents behind a list say nothing more
owner_of-padded : (owners : List Kind) (n x : ℕ) → owner_of (owners ++ replicate n Free) x ≡ owner_of owners x
owner_of-padded owners n x = elim (cases_lt x (length owners)) [
  | inl low ↦ get_or_append_left owners (replicate n Free) Free x low
  | inr high ↦ get_or-append_right owners (replicate n Free) (length owners) x Free refl high ∙ owner_of-fresh n (x - length owners) ∙ sym (get_or-eq_default owners Free {n = x} high)
]

map_page_alike : (one other : List Kind) (i : ℕ) → ((x : ℕ) → owner_of one x ≡ owner_of other x) → map_page one i ≡ map_page other i
unfolding map_page
map_page_alike one other i same = map_entries_same one other (512 * i) 512 (λ x low high. same x)

module _ {S : Type 0} {g : Ghosts S} where
  told_alike : {shape : Shape} {s : S} {i : ℕ} (one other : List Kind) → ((x : ℕ) → owner_of one x ≡ owner_of other x) → HoldsMapPage g shape s one i → HoldsMapPage g shape s other i
  told_alike {shape = shape} {s = s} {i = i} one other same is = record {
    page = subst (λ bytes. HoldsPage g s (17 + i) bytes) (map_page_alike one other i same) is.page;
    kinds = λ e on. subst (λ k. IsKindOf shape.extent_pages k) (same e) (is.kinds e on);
    there = λ e on used. is.there e on (λ free. used (sym (same e) ∙ free));
  }

  pub forms_same : {shape : Shape} {old new : S} → (g.state new).is_told ≡ (g.state old).is_told → (g.state new).work ≡ (g.state old).work → KeepsMapForm g shape old new
  forms_same told same = record { forms = λ i owners within is. (owners, map_page_same told same is) }

  -- a run that touches no page of the map
  pub forms_still : {shape : Shape} {Mine : ℕ → Type 0} {old new : S} → Touches g Mine old new → ((p : ℕ) → IsMapPage shape p → Mine p → ⊥)
      → length (g.state old).work ≤ length (g.state new).work → KeepsMapForm g shape old new
  forms_still run apart longer = record {
    forms = λ i owners within is. (
      owners,
      record {
        page = run.others (17 + i) (map_page owners i) (apart (17 + i) (omega arith, omega (arith, within))) is.page;
        kinds = is.kinds;
        there = λ e on used. omega (arith, is.there e on used, longer);
      },
    );
  }

  -- one extent becomes another kind
  pub forms_set : {shape : Shape} {old new : S} (e : ℕ) (kind : Kind) → IsKindOf shape.extent_pages kind
      → (kind ≢ Free → first_page_of shape.extents shape.extent_pages (e + 1) ≤ length (g.state new).work) → length (g.state old).work ≤ length (g.state new).work
      → PatchesPage g (map_page_of e) (entry_place e) (kind_bytes kind) old new → Touches g (OnlyPage (map_page_of e)) old new → KeepsMapForm g shape old new
  forms_set e kind is_kind lies longer patches run = record {
    forms = λ i owners within is.
        let padded = owners ++ replicate (suc e) Free in
        let inside : e < length padded = omega (arith, length-append owners (replicate (suc e) Free), length-replicate (suc e) Free) in
        (set padded e kind, map_page_becomes e kind inside is_kind lies longer patches run (told_alike owners padded (λ x. sym (owner_of-padded owners (suc e) x)) is));
  }

  -- the same of a call that may have failed, and then changed nothing
  pub forms_set_result : {shape : Shape} {old new : S} (r : Result (Unit {0}) StoreFault) (e : ℕ) (kind : Kind) → IsKindOf shape.extent_pages kind
      → (kind ≢ Free → first_page_of shape.extents shape.extent_pages (e + 1) ≤ length (g.state new).work) → length (g.state old).work ≤ length (g.state new).work → (g.state new).is_told ≡ (g.state old).is_told
      → OnOk r (PatchesPage g (map_page_of e) (entry_place e) (kind_bytes kind) old new) → OnErr r ((g.state new).work ≡ (g.state old).work)
      → Touches g (OnlyPage (map_page_of e)) old new → KeepsMapForm g shape old new
  forms_set_result (Ok x) e kind is_kind lies longer told patches same run = forms_set e kind is_kind lies longer patches run
  forms_set_result (Err fault) e kind is_kind lies longer told patches same run = forms_same told same

  pub forms_then : {shape : Shape} {old middle new : S} → KeepsMapForm g shape old middle → KeepsMapForm g shape middle new → KeepsMapForm g shape old new
  forms_then first second = record {
    forms = λ i owners within is.
        let was = first.forms i owners within is in
        second.forms i was.0 within was.1;
  }

  -- what breaks a rule later broke it before
  pub breaks_space_before : {shape : Shape} {old new : S} (damage : Damage) → KeepsMapForm g shape old new → length (g.state old).work ≤ length (g.state new).work
      → BreaksSpace g shape new damage → BreaksSpace g shape old damage
  breaks_space_before damage run longer breaks = elim breaks [
    | inl count ↦ inl (record { page = count.page; rule = count.rule; short = omega (arith, count.short, longer) })
    | inr map ↦ inr (
      map.0,
      record {
        page = map.1.page;
        on_map = map.1.on_map;
        rule = map.1.rule;
        none_told = λ owners is meets. let now = run.forms map.0 owners map.1.on_map is in map.1.none_told now.0 now.1 tt;
      },
    )
  ]
