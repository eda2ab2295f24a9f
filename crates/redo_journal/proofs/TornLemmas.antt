-- What the calls of a journal tear lies in its gate, its header, and behind the log.
use Rattle.std.proofs.Common.{◌≡◌, ◌<◌, ◌≤◌, ℕ, Bool, List, [], ◌∷◌, Option, IfSome, inl, arith, refl, subst}
use Rattle.std.specs.Option.{ForSome}
use Rattle.mdc_outside.specs.Disk.{File, Since, IsImage, IsInNone, IsSound, all_synced, torn}
use Rattle.mdc_outside.specs.Moments.{Beside}
use Rattle.page_file.specs.Layout.{IsReady, FrontStays, home_start}
use Rattle.page_file.specs.Leaving.{Leaves}
use Rattle.page_file.specs.Runs.{Runs, IsWithin}
use Rattle.page_file.proofs.FrontLemmas.{front_left}
use Rattle.page_file.proofs.LeavesLemmas.{runs_leave, sound_image}
use Rattle.redo_journal.specs.Images.{Numbered}
use Rattle.redo_journal.specs.Layout.{torn_home, torn_journal}
use Rattle.page_file.specs.declared.layout.TheConstants.{GATE}

-- the home pages that are torn change no byte on the disk
pub torn_home-synced : (images : Numbered) (since : Since) → (torn_home images since).synced ≡ since.synced
torn_home-synced [] since = refl
torn_home-synced (image ∷ images) since = torn_home-synced images (torn (home_start image.0) 4096 since)

-- a place before them is in none of them
none_of_torn_home : (i : ℕ) (images : Numbered) (since : Since) → i < home_start 0 → IsInNone i since.ranges → IsInNone i (torn_home images since).ranges
none_of_torn_home i [] since low none = none
none_of_torn_home i (image ∷ images) since low none = none_of_torn_home i images (torn (home_start image.0) 4096 since) low (inl (omega arith), none)

-- an image while a gate is torn
pub front_torn_gate : (bytes image : List ℕ) → IsImage (torn GATE 1 (all_synced bytes)) image → FrontStays bytes image
front_torn_gate bytes image left = front_left bytes image (torn GATE 1 (all_synced bytes)) refl (λ i low other. (other.0, tt)) left

-- an image while a journal is written behind the log
pub front_torn_journal : (start n : ℕ) (bytes image : List ℕ) → 66 ≤ start → IsImage (torn_journal start n (all_synced bytes)) image → FrontStays bytes image
front_torn_journal start n bytes image behind left =
    front_left bytes image (torn_journal start n (all_synced bytes)) refl (λ i low other. (inl (omega arith), (other.1, tt))) left

-- an image while home pages are written
pub front_torn_home : (images : Numbered) (bytes image : List ℕ) → IsImage (torn_home images (all_synced bytes)) image → FrontStays bytes image
front_torn_home images bytes image left =
    front_left bytes image (torn_home images (all_synced bytes)) (torn_home-synced images (all_synced bytes)) (λ i low other. none_of_torn_home i images (all_synced bytes) low tt) left

module _ {D : Type 0} {file : D → Option File} {aside : D → Beside} {attaches : D → Option (List (List ℕ × Bool))} {is_attached : D → Bool} {clock : D → ℕ} {moment : D → ℕ → List ℕ → List ℕ → Type 0} where
  -- a run from a file that is all on the disk, which tears nothing of the front
  pub runs_leave_front : (allowed : Since → Since) {old new : D}
      → ((bytes image : List ℕ) → IsImage (allowed (all_synced bytes)) image → FrontStays bytes image)
      → ((disk : D) → IfSome (file disk) IsSound)
      → ForSome (file old) IsReady
      → Runs file aside attaches is_attached clock moment IsWithin allowed old new
      → Leaves file aside attaches is_attached clock moment (λ before. FrontStays before.bytes) old new
  runs_leave_front allowed {old} {new} front sound ready run = runs_leave run (λ after is. sound_image (file new) after (sound new) is)
      (λ before image is left. front before.bytes image (let torn_so = subst (λ (since : Since). IsImage (allowed since) image) (ready before is).synced left in torn_so))
