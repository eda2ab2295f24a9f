-- What a command makes of its file beside its pages.
use Rattle.std.proofs.Common.{◌≡◌, ◌⊎◌, Bool, Err, IsErrOf, IsTrue, List, None, Option, Result, Some, ap, inl, inr, ℕ, ◌∙◌}
use Rattle.mdc_outside.specs.Disk.{Becomes, File, opened}
use Rattle.page_file.proofs.LeavesLemmas.{one_file}
use Rattle.page_store.proofs.GrowingLemmas.{grew_itself}
use Rattle.page_store.specs.Growing.{GrewByCalls}
use Rattle.page_store.specs.declared.fault.OpenFault.{OpenFault}
use Rattle.page_store.specs.declared.fault.OpenFault.TheVariants.{Device, Exists}

-- by another fact that tells of the failure
pub grew_as : {One Other : Type 0} (before : File) (bytes : List ℕ) → (One → Other) → GrewByCalls One before bytes → GrewByCalls Other before bytes
grew_as before bytes fails (inl grew) = inl (record {
  front = grew.front;
  size = elim grew.size [
    | inl low ↦ inl low
    | inr ends ↦ inr (record { count = ends.count; few = ends.few; its = λ whole. ends.its (λ one. whole (fails one)); size = ends.size })
  ];
})
grew_as before bytes fails (inr (failed, could)) = inr (fails failed, could)

-- an attach that failed changes no byte
pub grew_attached : {Failed : Type 0} (old new : Option File) (make : Bool) → Becomes old (λ old new. (new ≡ old) ⊎ (IsTrue make × (new ≡ opened old))) new
    → (before after : File) → old ≡ Some before → new ≡ Some after → GrewByCalls Failed before after.bytes
grew_attached None new make becomes before after is now = absurd (cc)
grew_attached (Some file) new make (there, there_is, change) before after is now =
    let same : file ≡ before = cc in
    let bytes : there.bytes ≡ file.bytes = elim change [ inl e ↦ ap (λ (f : File). f.bytes) e | inr e ↦ ap (λ (f : File). f.bytes) e.1 ] in
    grew_itself before after.bytes (ap (λ (f : File). f.bytes) (one_file now there_is) ∙ (bytes ∙ ap (λ (f : File). f.bytes) same))

-- a making that was refused for a byte of the file didn't fail
pub refused_not_failed : {T : Type 0} (result : Result T OpenFault) (fault : OpenFault) → result ≡ Err fault → fault ≡ Exists → IsErrOf result Device → ⊥
refused_not_failed result fault is exists failed = cc
