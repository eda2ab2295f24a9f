-- What a judge of keys answers: the refusal for the index in which keys clash, or a fault, which never says that the file is full.
use Rattle.std.proofs.Common.{◌≡◌, ℕ, List, Option, Some, None, ap, subst, sym}
use Rattle.std.specs.Prelude.{Err, IfErr, Ok, Result, option_map}
use Rattle.mdc_ast.specs.declared.name.Name.{Name}
use Rattle.statement_meaning.specs.Cause.{Cause, DuplicateKey, refusal_of}
use Rattle.binder.specs.Saying.{first_of}
use Rattle.store_api.specs.Causes.{store_fault_in}
use Rattle.store_api.specs.RunsOverPages.{RunsOverPages}
use Rattle.store_api.specs.declared.fault.Damage.{Damage}
use Rattle.store_api.specs.declared.fault.StoreFault.TheVariants.{Memory}
use Rattle.store_api.specs.declared.pages.Pages.{Ghosts}
use Rattle.store_api.proofs.RunsOverPagesLemmas.{runs_memory}
use Rattle.extent_map.specs.Damages.{IfFull, store_part_of}
use Rattle.extent_map.specs.declared.fault.SpaceFault.{SpaceFault}
use Rattle.extent_map.specs.declared.fault.SpaceFault.TheVariants.{Full, Store}
use Rattle.script_engine.specs.Inserting.{first_refusal}

-- the refusal for what is said first of keys is that for the index that was found
pub clash_said : {X : Type 0} (name_of : X → Name) (causes : List Cause) (found : Option X) → first_of causes ≡ option_map (λ x. DuplicateKey (name_of x)) found
    → first_refusal causes ≡ option_map (λ x. refusal_of (DuplicateKey (name_of x))) found
clash_said name_of causes None first = ap (option_map refusal_of) first
clash_said name_of causes (Some x) first = ap (option_map refusal_of) first

-- where a fault never says full, nothing follows of its number
pub never_full : (fault : SpaceFault) (P : ℕ → Type 0) → IfFull fault (λ cap. ⊥) → IfFull fault P
never_full (Full cap) P none = absurd none
never_full (Store fault) P none = tt

-- want of memory never says full
pub memory_not_full : {X : Type 0} (result : Result X SpaceFault) → IfErr result (λ fault. fault ≡ Store Memory) → IfErr result (λ fault. IfFull fault (λ cap. ⊥))
memory_not_full (Ok x) is = tt
memory_not_full (Err fault) is = subst (λ (f : SpaceFault). IfFull f (λ cap. ⊥)) (sym is) tt

-- a run behind which memory may be wanting
pub runs_or_memory : {S X : Type 0} {g : Ghosts S} {Mine Kind : ℕ → Type 0} {Breaks : Damage → Type 0} {old new : S} (result : Result X SpaceFault) → IfErr result (λ fault. fault ≡ Store Memory)
    → RunsOverPages g Mine Kind Breaks old new None → RunsOverPages g Mine Kind Breaks old new (store_fault_in store_part_of result)
runs_or_memory (Ok x) is run = run
runs_or_memory {g = g} {Mine = Mine} {Kind = Kind} {Breaks = Breaks} {old = old} {new = new} (Err fault) is run =
    subst (λ (f : SpaceFault). RunsOverPages g Mine Kind Breaks old new (store_part_of f)) (sym is) (runs_memory run)
