-- What an opening makes of a file beside its pages.
use Rattle.std.proofs.Common.{◌≡◌, ◌≢◌, ◌⊎◌, List, Option, Some, ap, inl, inr, subst, sym, ℕ, ◌∙◌}
use Rattle.mdc_outside.specs.Disk.{File}
use Rattle.mdc_outside.specs.declared.disk.Disk as disk
use Rattle.page_file.specs.Bound.{LeavesOf}
use Rattle.page_file.proofs.LeavesLemmas.{one_file}
use Rattle.page_store.proofs.GrowingLemmas.{grew_itself, grew_standing}
use Rattle.page_store.specs.Bound.{OpensOf}
use Rattle.page_store.specs.Faults.{MayComeFirst}
use Rattle.page_store.specs.Growing.{GrewByCalls}
use Rattle.page_store.specs.Opened.{CouldBeLeft, file_bytes}
use Rattle.page_store.specs.Opening.{StandsAs}
use Rattle.page_store.specs.declared.fault.OpenFault.{OpenFault}
use Rattle.page_store.specs.declared.fault.OpenFault.TheVariants.{Device}

-- files that read alike have the same bytes
one_reading : {told new : Option File} (before after : File) → file_bytes new ≡ file_bytes told → told ≡ Some before → new ≡ Some after → after.bytes ≡ before.bytes
one_reading before after same is now = let shown : Some after.bytes ≡ Some before.bytes = sym (ap file_bytes now) ∙ (same ∙ ap file_bytes is) in cc

module _ {D : Type 0} (d : disk.Ghosts D) where
  -- a file that was opened, and then only read
  pub grew_opened : {Failed : Type 0} (old opened new : D) → OpensOf d old opened → file_bytes (d.file new) ≡ file_bytes (d.file opened)
      → (before after : File) → d.file old ≡ Some before → d.file new ≡ Some after → GrewByCalls Failed before after.bytes
  grew_opened old opened new opens same before after is now =
      let there = opens.told before is in
      let bytes : after.bytes ≡ there.0.bytes = one_reading there.0 after same there.1 now in
      grew_standing before after.bytes (subst (λ (xs : List ℕ). StandsAs before.bytes xs) (sym bytes) there.2)

  -- a file whose opening was refused
  pub grew_unopened : {Failed : Type 0} (old new : D) (fault : OpenFault) → (fault ≡ Device → Failed) → (fault ≢ Device → file_bytes (d.file new) ≡ file_bytes (d.file old))
      → OpensOf d old new ⊎ (MayComeFirst fault × LeavesOf d CouldBeLeft old new) → (before after : File) → d.file old ≡ Some before → d.file new ≡ Some after → GrewByCalls Failed before after.bytes
  grew_unopened old new fault failed untouched (inl opens) before after is now =
      let there = opens.told before is in
      grew_standing before after.bytes (subst (λ (f : File). StandsAs before.bytes f.bytes) (one_file there.1 now) there.2)
  grew_unopened old new fault failed untouched (inr (inl device, leaves)) before after is now =
      let there = leaves.told before is in
      inr (failed device, subst (λ (f : File). CouldBeLeft before f.bytes) (one_file there.1 now) there.2)
  grew_unopened old new fault failed untouched (inr (inr memory, leaves)) before after is now =
      grew_itself before after.bytes (one_reading before after (untouched (λ device. cc)) is now)
