-- The extents, one after the other.
use Rattle.std.proofs.Common.{◌≡◌, ◌<◌, ◌+◌, ℕ, List, [], ◌∷◌, ◌++◌, ap, sym, ◌∙◌, length, take, None, Option}
use Rattle.std.proofs.lemmas.List.{take_more}
use Rattle.store_api.specs.Frame.{NoPage, OnlyPage}
use Rattle.store_api.specs.RunsOverPages.{RunsOverPages}
use Rattle.store_api.specs.declared.fault.StoreFault.{StoreFault}
use Rattle.store_api.specs.declared.pages.Pages.{Ghosts}
use Rattle.store_api.specs.declared.shape.Shape.{Shape}
use Rattle.store_api.proofs.RunsOverPagesLemmas.{runs_then}
use Rattle.extent_map.specs.Damages.{BreaksSpace}
use Rattle.extent_map.specs.Owners.{owner_of}
use Rattle.extent_map.specs.declared.kind.Kind.{Kind}
use Rattle.extent_map.specs.declared.kind.Kind.TheVariants.{Free}
use Rattle.extent_map.proofs.DamagesLemmas.{breaks_space_same}
use Rattle.file_check.specs.Looking.{AnyPage}

-- a run that reads the extent map alone
abbrev pub ReadsMap : {S : Type 0} → Ghosts S → Shape → S → S → Option StoreFault → Type 0
ReadsMap g shape old new fault = RunsOverPages g NoPage AnyPage (BreaksSpace g shape old) old new fault

-- one extent more
pub reads_kind : {S : Type 0} (g : Ghosts S) (shape : Shape) (old mid new : S) (p : ℕ) (fault : Option StoreFault) → ReadsMap g shape old mid None → (g.state mid).work ≡ (g.state old).work
    → RunsOverPages g NoPage (OnlyPage p) (BreaksSpace g shape mid) mid new fault → ReadsMap g shape old new fault
reads_kind g shape old mid new p fault first same second =
    runs_then first second (λ q there none. absurd none) (λ q is. tt) (λ damage is. breaks_space_same damage first.works.steady.is_told same is)

pub kinds_next : (owners kinds next : List Kind) (kind : Kind) (e : ℕ) → e < length owners → kinds ≡ take e owners → kind ≡ owner_of owners e → next ≡ kinds ++ kind ∷ [] → next ≡ take (e + 1) owners
kinds_next owners kinds next kind e below so_far is push = push ∙ ap (λ ks. ks ++ kind ∷ []) so_far ∙ ap (λ k. take e owners ++ k ∷ []) is ∙ sym (take_more owners e Free below)
