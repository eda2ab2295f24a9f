-- A run that ends with damage.
use Rattle.std.proofs.Common.{◌≡◌, sym, subst}
use Rattle.std.specs.Prelude.{ℕ, Some, None}
use Rattle.store_api.specs.RunsOverPages.{RunsOverPages}
use Rattle.store_api.specs.declared.fault.Damage.{Damage}
use Rattle.store_api.specs.declared.fault.StoreFault.{StoreFault}
use Rattle.store_api.specs.declared.fault.StoreFault.TheVariants.{Damaged}
use Rattle.store_api.specs.declared.pages.Pages.{Ghosts}
use Rattle.store_api.proofs.RunsOverPagesLemmas.{runs_damage}

-- a run that meets damage
pub runs_broken : {S : Type 0} {g : Ghosts S} {Mine Kinds : ℕ → Type 0} {Breaks : Damage → Type 0} {old new : S} {damage : Damage} (fault : StoreFault) → fault ≡ Damaged damage → RunsOverPages g Mine Kinds Breaks old new None
    → Breaks damage → RunsOverPages g Mine Kinds Breaks old new (Some fault)
runs_broken {S} {g} {Mine} {Kinds} {Breaks} {old} {new} {damage} fault is run breaks = subst (λ (f : StoreFault). RunsOverPages g Mine Kinds Breaks old new (Some f)) (sym is) (runs_damage run breaks)
