-- Runs of calls that name no damage where the pages are told and hold what they should, and how they end.
use Rattle.std.proofs.Common.{◌≡◌, ◌∙◌, ℕ, Option, Some, None, subst, sym}
use Rattle.std.specs.Prelude.{IsTrue}
use Rattle.store_api.specs.Frame.{NoPage}
use Rattle.store_api.specs.RunsOverPages.{RunsOverPages}
use Rattle.store_api.specs.Causes.{NoDamage}
use Rattle.store_api.specs.declared.fault.Damage.{Damage}
use Rattle.store_api.specs.declared.fault.StoreFault.{StoreFault}
use Rattle.store_api.specs.declared.fault.StoreFault.TheVariants.{Damaged, Memory}
use Rattle.store_api.specs.declared.pages.Pages.{Ghosts}
use Rattle.store_api.proofs.RunsOverPagesLemmas.{runs_damage, runs_memory, runs_on, runs_then, runs_wider}
use Rattle.table_trees.specs.ToldPages.{PageList}
use Rattle.file_check.specs.Looking.{AnyPage, Unless}

module _ {S : Type 0} {g : Ghosts S} where
  -- one call more, where the pages are as they were
  pub runs_unless : (Holds : PageList → Type 0) {Kind : ℕ → Type 0} {old mid new : S} {fault : Option StoreFault} → (g.state mid).work ≡ (g.state old).work
      → RunsOverPages g NoPage AnyPage (Unless g old Holds) old mid None → RunsOverPages g NoPage Kind (Unless g mid Holds) mid new fault
      → RunsOverPages g NoPage AnyPage (Unless g old Holds) old new fault
  runs_unless Holds same first second =
      runs_then first second (λ p there mine. mine) (λ p kind. tt) (λ damage breaks told holds. breaks (first.works.steady.is_told ∙ told) (subst Holds (sym same) holds))

  -- the same, where what it rests on follows from what is known
  pub runs_known : {First : Damage → Type 0} {old mid new : S} {fault : Option StoreFault} (Known Next : PageList → Type 0) → RunsOverPages g NoPage AnyPage First old mid None
      → (g.state mid).work ≡ (g.state old).work → (IsTrue (g.state old).is_told → Known (g.state old).work → Next (g.state old).work)
      → RunsOverPages g NoPage AnyPage (Unless g mid Next) mid new fault → RunsOverPages g NoPage AnyPage (Unless g old Known) old new fault
  runs_known Known Next first same now second =
      runs_then (runs_on first) second (λ p there mine. mine) (λ p is. is)
      (λ damage none told known. none (first.works.steady.is_told ∙ told) (subst Next (sym same) (now told known)))

  -- calls that name no damage at all
  pub runs_undamaged : (Holds : PageList → Type 0) {Kind : ℕ → Type 0} {old new : S} {fault : Option StoreFault}
      → RunsOverPages g NoPage Kind NoDamage old new fault → RunsOverPages g NoPage AnyPage (Unless g old Holds) old new fault
  runs_undamaged Holds run = runs_wider run (λ p there mine. mine) (λ p kind. tt) (λ damage breaks. absurd breaks)

  -- no memory after a run
  pub runs_to_memory : {Mine Kind : ℕ → Type 0} {Breaks : Damage → Type 0} {old new : S} (fault : StoreFault) → fault ≡ Memory → RunsOverPages g Mine Kind Breaks old new None → RunsOverPages g Mine Kind Breaks old new (Some fault)
  runs_to_memory {Mine} {Kind} {Breaks} {old} {new} fault is run = subst (λ f. RunsOverPages g Mine Kind Breaks old new (Some f)) (sym is) (runs_memory run)

  -- damage after a run
  pub runs_to_damage : {Mine Kind : ℕ → Type 0} {Breaks : Damage → Type 0} {old new : S} (damage : Damage) (fault : StoreFault) → fault ≡ Damaged damage → RunsOverPages g Mine Kind Breaks old new None
      → Breaks damage → RunsOverPages g Mine Kind Breaks old new (Some fault)
  runs_to_damage {Mine} {Kind} {Breaks} {old} {new} damage fault is run breaks =
      subst (λ (f : StoreFault). RunsOverPages g Mine Kind Breaks old new (Some f)) (sym is) (runs_damage run breaks)
