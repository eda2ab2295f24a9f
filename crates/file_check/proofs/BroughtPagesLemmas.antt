-- A page that was brought to hand and lent.
use Rattle.std.specs.Prelude.{◌≡◌, ◌<◌, ℕ, IsTrue, List, length, Option, Some}
use Rattle.std.proofs.Common.{refl, sym, ◌∙◌}
use Rattle.std.proofs.lemmas.Option.{same_Some}
use Rattle.store_api.specs.Frame.{HoldsPage}
use Rattle.store_api.specs.StoreState.{page_at}
use Rattle.store_api.specs.declared.pages.Pages.{Ghosts}

-- what is lent is the page that is told
pub brought_page : {S : Type 0} (g : Ghosts S) (s : S) (p : ℕ) (hand : Option (List ℕ)) (page : List ℕ) → IsTrue (g.state s).is_told → p < length (g.state s).work
    → ((bytes : List ℕ) → HoldsPage g s p bytes → hand ≡ Some bytes) → hand ≡ Some page → page_at (g.state s).work p ≡ page
brought_page g s p hand page told low shown lent =
    let bytes = page_at (g.state s).work p in
    same_Some bytes page (sym (shown bytes (record { is_told = told; within = low; bytes_are = refl })) ∙ lent)
