use Rattle.std.proofs.Common.{◌≡◌, ◌/◌, ℕ, length, ◌∙◌, None, inl, inr, sym, ap, subst, arith}
use Rattle.store_api.specs.Frame.{OnlyPage, PatchesPage}
use Rattle.store_api.specs.RunsOverPages.{RunsOverPages}
use Rattle.store_api.proofs.RunsOverPagesLemmas.{runs_damage, runs_exit, runs_more, runs_wider}
use Rattle.extent_map.specs.Damages.{BreaksUsedPage}
use Rattle.extent_map.specs.Kinds.{without_place, kind_bytes}
use Rattle.extent_map.specs.Map.{HoldsMap, HoldsMapPage, map_page_of, entry_place}
use Rattle.extent_map.specs.Owners.{extent_of, owner_of}
use Rattle.extent_map.proofs.BitsLemmas.{is_kind-without_place}
use Rattle.extent_map.proofs.ExtentsLemmas.{used_by_parts, without_page-parts}
use Rattle.extent_map.proofs.MapFormLemmas.{forms_same, forms_set, forms_then}
use Rattle.extent_map.proofs.OwnersLemmas.{right_notes-set}
use Rattle.extent_map.proofs.HoldsMapLemmas.{holds_map_same, holds_map_set}
use Rattle.extent_map.proofs.space_notes.SpaceNotes.give_index_page.Goals as goal

pub returns-then-not-is_used_place-clause-runs : goal.returns-then-not-is_used_place-clause-runs
returns-then-not-is_used_place-clause-runs g c =
    let shape = c.args.shape in
    let on = map_page_of (extent_of shape c.args.p) in
    let at = ap map_page_of c.extent_of-e.ensures.value in
    let start : RunsOverPages g.P.Pages (OnlyPage on) (OnlyPage on) (BreaksUsedPage g.P.Pages shape c.args.pages.now c.args.p) c.args.pages.now c.kind_of.new.pages None =
    runs_wider c.in_ok-kind.ensures.runs (λ p there none. absurd none) (λ p is. is ∙ at) (λ damage breaks. inl breaks) in
    runs_damage start (inr (record {
      page = c.unused_page.ensures.0;
      rule = c.unused_page.ensures.1;
      not_used = λ owners told used.
          let here = subst (λ x. HoldsMapPage g.P.Pages shape c.args.pages.now owners (x / 512)) (sym c.extent_of-e.ensures.value) told in
          let yes = used_by_parts shape owners c.args.p c.extent_of-e.result c.place_of-place.result c.in_ok-kind.kind c.extent_of-e.ensures.value c.place_of-place.ensures.value (c.in_ok-kind.ensures.shown owners here) used in
          let no = c.if-not-is_used_place.true in
          let is = c.is_used_place.ensures in
          cc;
    }))

pub returns-in_err-set_kind-clause-runs : goal.returns-in_err-set_kind-clause-runs
returns-in_err-set_kind-clause-runs g c =
    let shape = c.args.shape in
    let on = map_page_of (extent_of shape c.args.p) in
    let at = ap map_page_of c.extent_of-e.ensures.value in
    let start : RunsOverPages g.P.Pages (OnlyPage on) (OnlyPage on) (BreaksUsedPage g.P.Pages shape c.args.pages.now c.args.p) c.args.pages.now c.kind_of.new.pages None =
    runs_wider c.in_ok-kind.ensures.runs (λ p there none. absurd none) (λ p is. is ∙ at) (λ damage breaks. inl breaks) in
    runs_exit c.from_residual-in_err-set_kind.result c.from_residual-in_err-set_kind.ensures.1 (runs_more start c.in_err-set_kind.ensures.runs (λ p there is. is ∙ at) (λ p is. is ∙ at))

pub returns-clause-runs : goal.returns-clause-runs
returns-clause-runs g c =
    let shape = c.args.shape in
    let on = map_page_of (extent_of shape c.args.p) in
    let at = ap map_page_of c.extent_of-e.ensures.value in
    let start : RunsOverPages g.P.Pages (OnlyPage on) (OnlyPage on) (BreaksUsedPage g.P.Pages shape c.args.pages.now c.args.p) c.args.pages.now c.kind_of.new.pages None =
    runs_wider c.in_ok-kind.ensures.runs (λ p there none. absurd none) (λ p is. is ∙ at) (λ damage breaks. inl breaks) in
    runs_more start c.in_ok-set_kind.ensures.runs (λ p there is. is ∙ at) (λ p is. is ∙ at)

pub returns-clause-gives : goal.returns-clause-gives
returns-clause-gives g c = λ owners is.
    let shape = c.args.shape in
    let e = c.extent_of-e.result in
    let j = c.place_of-place.result in
    let kind = c.in_ok-kind.kind in
    let patches = subst (λ k. PatchesPage g.P.Pages (map_page_of e) (entry_place e) (kind_bytes k) c.kind_of.new.pages c.set_kind.new.pages) c.without_place.ensures c.in_ok-set_kind.ensures.sets in
    let held = holds_map_set e (without_place j kind) c.extent_of-e.ensures.below (is_kind-without_place shape.extent_pages j kind c.in_ok-kind.ensures.form)
    (λ owned. omega (arith, c.in_ok-kind.ensures.there (λ free. owned (ap (without_place j) free)), c.set_kind.ensures.count, ap length c.kind_of.ensures.same))
    (omega (arith, c.set_kind.ensures.count)) patches c.set_kind.ensures.runs.touches
    (holds_map_same c.kind_of.ensures.runs.works.steady.is_told c.kind_of.ensures.same is) in
    subst (λ list. HoldsMap g.P.Pages shape c.set_kind.new.pages list)
    (without_page-parts shape owners c.args.p e j kind c.extent_of-e.ensures.value c.place_of-place.ensures.value (c.in_ok-kind.ensures.value owners is)) held

pub returns-clause-forms : goal.returns-clause-forms
returns-clause-forms g c =
    let shape = c.args.shape in
    let e = c.extent_of-e.result in
    let j = c.place_of-place.result in
    let kind = c.in_ok-kind.kind in
    let patches = subst (λ k. PatchesPage g.P.Pages (map_page_of e) (entry_place e) (kind_bytes k) c.kind_of.new.pages c.set_kind.new.pages) c.without_place.ensures c.in_ok-set_kind.ensures.sets in
    forms_then (forms_same c.kind_of.ensures.runs.works.steady.is_told c.kind_of.ensures.same)
    (forms_set e (without_place j kind) (is_kind-without_place shape.extent_pages j kind c.in_ok-kind.ensures.form)
    (λ owned. omega (arith, c.in_ok-kind.ensures.there (λ free. owned (ap (without_place j) free)), c.set_kind.ensures.count, ap length c.kind_of.ensures.same))
    (omega (arith, c.set_kind.ensures.count)) patches c.set_kind.ensures.runs.touches)

pub returns-clause-notes : goal.returns-clause-notes
returns-clause-notes g c = λ owners is notes.
    let shape = c.args.shape in
    right_notes-set c.args.shape _ owners (extent_of shape c.args.p) _ (λ below. absurd (omega (arith, below, c.min-self.ensures, c.extent_of-e.ensures.value))) (λ below. absurd (omega (arith, below, c.min-self-2.ensures, c.extent_of-e.ensures.value)))
    (λ i below within other. notes.free i (omega (arith, below, c.min-self.ensures)) within) (λ i j below less other. notes.unused i j (omega (arith, below, c.min-self-2.ensures)) less)

pub returns-clause-used : goal.returns-clause-used
returns-clause-used g c = λ owners is. record {
  page = c.requires.page;
  used =
      let here = subst (λ (e : ℕ). c.in_ok-kind.kind ≡ owner_of owners e) c.extent_of-e.ensures.value (c.in_ok-kind.ensures.value owners is) in
      let place = c.place_of-place.ensures.value in
      let is_used = c.is_used_place.ensures in
      let so = c.if-not-is_used_place.false in
      cc;
}
