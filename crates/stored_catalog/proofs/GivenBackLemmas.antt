-- What stays where space is only given back.
use Rattle.std.proofs.Common.{◌≡◌, ◌∙◌, ℕ, [], arith, length, refl, sym, inl, inr}
use Rattle.std.specs.Prelude.{IsTrue}
use Rattle.std.proofs.lemmas.Bool.{cases_lt}
use Rattle.std.proofs.lemmas.List.{get_or_past}
use Rattle.store_api.specs.Frame.{Touches}
use Rattle.store_api.specs.StoreState.{page_at}
use Rattle.store_api.specs.declared.pages.Pages.{Ghosts}
use Rattle.mdc_sound.specs.StandingTable.{pages_of}

-- a page that no call touched is as it was, also where there is none
pub page_stays : {S : Type 0} (g : Ghosts S) (Mine : ℕ → Type 0) (old new : S) (p : ℕ) → IsTrue (g.state old).is_told → Touches g Mine old new → length (pages_of g new) ≡ length (pages_of g old) → (Mine p → ⊥)
    → page_at (pages_of g new) p ≡ page_at (pages_of g old) p
page_stays g Mine old new p told touches count off = elim (cases_lt p (length (pages_of g old))) [
  | inl within ↦ (touches.others p (page_at (pages_of g old) p) off (record { is_told = told; within = within; bytes_are = refl })).bytes_are
  | inr past ↦ get_or_past (pages_of g new) p [] (omega (arith, past, count)) ∙ sym (get_or_past (pages_of g old) p [] past)
]
