-- Well files: they are opened, and what a crash within a run leaves is well too.
use Rattle.std.proofs.Common.{◌≡◌, ◌⊎◌, ℕ, Bool, true, List, Option, Some, sym, ◌∙◌, ap, subst, inl, inr}
use Rattle.mdc_ast.specs.declared.reply.Outcome.{Outcome}
use Rattle.mdc_ast.specs.Reading.{Item}
use Rattle.mdc_outside.specs.Disk.{File, IsImage, all_synced}
use Rattle.store_api.specs.declared.pages.Pages.{Ghosts}
use Rattle.store_api.specs.declared.shape.Shape.{Shape}
use Rattle.table_trees.specs.ToldPages.{PageList}
use Rattle.mdc_sound.specs.SoundDatabase.{KeepAllRules}
use Rattle.stored_catalog.specs.StoredDefinitions.{AreStored}
use Rattle.page_store.proofs.Crashes.{only_itself}
use Rattle.page_store.specs.Opened.{IsJustOpened}
use Rattle.page_store.specs.Opening.{IsServed, Refuses}
use Rattle.page_store.specs.Standing.{pages_in}
use Rattle.page_store.specs.declared.fault.OpenFault.{OpenFault}
use Rattle.script_engine.specs.Held.{HeldPages}
use Rattle.script_engine.specs.Opening.{IsSoundStore}
use Rattle.file_verdict.specs.SoundFile.{IsSoundFile}
use Rattle.file_verdict.proofs.SoundFilesLemmas.{refused_served, sound_is_served}
use Rattle.session.specs.script.Going.{Stage}
use Rattle.session.specs.script.Leaving.{AreServedPages}
use Rattle.session.specs.declared.stop.Stop.{Stop}
use Rattle.session.specs.declared.stop.Stop.TheVariants as why
use Rattle.session.specs.file.Ending.{StopsOpening}
use Rattle.session.specs.file.Leaving.{LeftByRun}
use Rattle.session.specs.file.Well.{AreWell, IsWell}

-- ---- a well file is served

-- a well file is sound
pub sound_of_well : (bytes : List ℕ) → IsWell bytes → IsSoundFile bytes
sound_of_well bytes well = record { formed = well.formed; shape = well.shape; states = well.states; sound = well.served.sound }

pub well_is_served : (bytes : List ℕ) → IsWell bytes → IsServed bytes
well_is_served bytes well = sound_is_served bytes (sound_of_well bytes well)

-- so its opening is refused for a fault of the disk or for want of memory alone
pub stop_of_well : (fault : OpenFault) (stop : Stop) (bytes : List ℕ) → IsServed bytes → Refuses fault bytes → StopsOpening fault stop
    → (stop ≡ why.Device) ⊎ (stop ≡ why.Memory)
stop_of_well fault stop bytes served refuses stops = elim (refused_served fault bytes served refuses) [
  | inl device ↦ inl (subst (λ (f : OpenFault). StopsOpening f stop) device stops)
  | inr memory ↦ inr (subst (λ (f : OpenFault). StopsOpening f stop) memory stops)
]

-- ---- what stands for the pages of a well file

-- a store that was just opened on a well file tells sound pages
pub sound_opened : {S : Type 0} (g : Ghosts S) (s : S) (bytes : List ℕ) (is_told : Bool) (tape : Option (List ℕ)) (shape : Shape) (attaches : Option (List (List ℕ × Bool))) (fetched : Option (List ℕ)) (well : IsWell bytes) → is_told ≡ true → IsJustOpened is_told tape shape attaches fetched (g.state s)
    → (g.state s).base ≡ pages_in bytes → IsSoundStore g well.shape s
sound_opened g s bytes is_told tape shape attaches fetched well tells just base =
    let work : (g.state s).work ≡ pages_in bytes = ap (λ state. state.work) just ∙ base in
    record {
      told = ap (λ state. state.is_told) just ∙ tells;
      sound = (well.served.sound.0, subst (λ (pages : PageList). KeepAllRules well.shape pages well.served.sound.0) (sym work) well.served.sound.1);
      defs = well.served.defs;
      stored = subst (λ (pages : PageList). AreStored pages well.served.defs) (sym work) well.served.stored;
      valid = well.served.valid;
      committed = base ∙ sym work;
    }

-- ---- what a crash leaves

-- the pages of an image that a crash within a run leaves are those that the run left
pub pages_left : (shape : Shape) (held : HeldPages) (stages : List Stage) (outcomes : List Outcome) (in_hand : List Item) (said image heard : List ℕ) → (run : LeftByRun shape held stages outcomes in_hand said image heard)
    → pages_in image ≡ run.left.pages
pages_left shape held stages outcomes in_hand said image heard run = let both : Some (pages_in image) ≡ Some run.left.pages = run.left.reopens in cc

-- what a crash within a run leaves is well
pub well_left : (shape : Shape) (held : HeldPages) (stages : List Stage) (outcomes : List Outcome) (in_hand : List Item) (said image heard : List ℕ) → LeftByRun shape held stages outcomes in_hand said image heard → IsWell image
well_left shape held stages outcomes in_hand said image heard run =
    let same = pages_left shape held stages outcomes in_hand said image heard run in
    record { formed = run.formed; shape = shape; states = run.states_extents; served = subst (λ (pages : PageList). AreServedPages shape pages) (sym same) run.left.served }

-- a file of which all is on the disk is left as it is
pub synced_image : (file : File) (image : List ℕ) → file.since ≡ all_synced file.bytes → IsImage file.since image → image ≡ file.bytes
synced_image file image synced left = only_itself file.bytes image (subst (λ since. IsImage since image) synced left)

-- so it is well where its bytes are
pub synced_well : (file : File) → file.since ≡ all_synced file.bytes → IsWell file.bytes → AreWell file
synced_well file synced well image left = subst IsWell (sym (synced_image file image synced left)) well
