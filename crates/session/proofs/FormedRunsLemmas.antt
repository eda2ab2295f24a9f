-- Whatever the pages of a file are, what a crash within a run leaves of it is formed.
use Rattle.std.proofs.Common.{◌≡◌, ◌⊎◌, ◌≤◌, ℕ, List, Option, Some, None, refl, inl, inr}
use Rattle.mdc_words.specs.Time.{OverTime, ReachesBack}
use Rattle.mdc_outside.specs.Disk.{File}
use Rattle.mdc_outside.specs.declared.disk.Disk as disk
use Rattle.store_api.specs.Moments.{Outcomes}
use Rattle.store_api.specs.declared.pages.Pages as pages
use Rattle.table_trees.specs.ToldPages.{PageList}
use Rattle.page_file.specs.Bound.{LeavesOf}
use Rattle.page_file.specs.Layout.{file_page}
use Rattle.page_store.specs.Bound.{OpensOf}
use Rattle.page_store.specs.FileStore.{IsLeft}
use Rattle.page_store.specs.Opened.{CouldBeLeft, LeavesBaseSince, StandsSince}
use Rattle.page_store.specs.Opening.{StandsAs}
use Rattle.page_store.specs.Shape.{extents_in, extent_pages_in}
use Rattle.page_store.specs.Standing.{FrontAgrees, IsFormed, pages_in}
use Rattle.store_api.specs.declared.shape.Shape.{Shape}
use Rattle.file_verdict.specs.Resting.{ComesToRest, LeavesSince, StaysFormed}
use Rattle.file_verdict.proofs.JudgingLemmas.{formed_left}
use Rattle.file_verdict.proofs.RestingLemmas.{TellsNow, each_since, rests_on_file, rests_refused}
use Rattle.file_verdict.proofs.SoundFilesLemmas.{formed_along, formed_standing}
use Rattle.session.specs.script.Leaving.{ReopensAlways}
use Rattle.session.specs.file.Leaving.{AreFormed, StopsUnrested}
use Rattle.session.specs.file.Running.{LeavesFormed}

-- no image reopens to nothing
never_none : (heard : List ℕ) → ReopensAlways None heard → ⊥
never_none heard (pages, none) = cc

-- an image of a store at its end is formed, or the store left a file that doesn't reopen as it was opened
pub left_formed : {S : Type 0} {clock : S → ℕ} {left : S → ℕ → Outcomes} (shape : Shape) (file at_end : List ℕ) (old last : S) (t : ℕ) (image heard : List ℕ) → OverTime clock left ReopensAlways old last → t ≤ clock old
    → shape.extents ≡ extents_in (file_page file 1) → shape.extent_pages ≡ extent_pages_in (file_page file 1) → FrontAgrees file at_end → IsLeft shape at_end (left last t) image heard → StaysFormed file image ⊎ left old t None heard
left_formed shape file at_end old last t image heard time early extents extent_pages agrees (inl (is, was)) = inl (formed_left shape file at_end image extents extent_pages agrees is)
left_formed shape file at_end old last t image heard time early extents extent_pages agrees (inr none) = elim (time.only t None heard early none) [ inl was ↦ inr was | inr within ↦ absurd (never_none heard within) ]

module _ {D : Type 0} (d : disk.Ghosts D) where
  -- where a store was opened on a file
  pub formed_on_file : {S : Type 0} (g : pages.Ghosts S) (store : S) (before after : File) (said : List ℕ) (old opened new : D) → IsFormed before.bytes → StandsAs before.bytes after.bytes → LeavesFormed g d after.bytes store new
      → (origin : D) × StandsSince d.clock d.moment before said old origin opened → g.clock store ≡ d.clock opened → d.clock opened ≤ d.clock new
      → ((t : ℕ) (left : Option PageList) (heard : List ℕ) → g.left store t left heard → (image : List ℕ) × d.moment opened t image heard)
      → LeavesBaseSince (d.moment opened) (g.left store) before.bytes said → ComesToRest d before said (λ image tape. StaysFormed before.bytes image) old new
  formed_on_file g store before after said old opened new formed same leaves crash same_clock later by_host rests =
      let first = formed_standing before.bytes after.bytes (pages_in before.bytes) formed (same.1 formed) in
      rests_on_file d g store before said (λ image tape. StaysFormed before.bytes image) old opened new
      (λ t image heard early now. elim (leaves.since t early image heard now) [
        | inl is ↦ inl (formed_along before.bytes after.bytes image first is)
        | inr none ↦ inr (record { pages = None; left = none; kind = λ is told. absurd (never_none heard (pages_in before.bytes, is)) })
      ]) crash same_clock later by_host rests

  -- where its opening was refused, and nothing was taken
  pub formed_refused : (before : File) (said : List ℕ) (script : Option (List ℕ)) (old new : D) (First : Type 0) → IsFormed before.bytes → d.file old ≡ Some before → (d.beside old).tape ≡ Some said
      → OpensOf d old new ⊎ (First × LeavesOf d CouldBeLeft old new) → ComesToRest d before said (λ image tape. StaysFormed before.bytes image) old new ⊎ StopsUnrested d before said script script old new
  formed_refused before said script old new First formed is told leaves =
      elim (rests_refused d before said (λ image tape. StaysFormed before.bytes image) old new First First (λ image heard stands same. formed_standing before.bytes image (pages_in before.bytes) formed (stands.1 formed)) (λ first. first) is told leaves) [
        | inl rest ↦ inl rest
        | inr stopped ↦ inr (stopped.1, refl)
      ]

  -- a run that came to its origin or took nothing came to its origin or stopped before
  pub rests_or_before : (before : File) (said : List ℕ) {Left : List ℕ → List ℕ → Type 0} {script left : Option (List ℕ)} {old new : D} → ComesToRest d before said Left old new ⊎ StopsUnrested d before said script left old new
      → LeavesSince d before said Left old new
  rests_or_before before said (inl rest) = inl rest
  rests_or_before before said (inr stopped) = inr stopped.0

  -- after a run each image is formed, where each was before
  pub formed_after : (before after : File) (said heard : List ℕ) (old new : D) → TellsNow d old → TellsNow d new → ReachesBack d.clock d.moment new → d.file old ≡ Some before → (d.beside old).tape ≡ Some said
      → d.file new ≡ Some after → (d.beside new).tape ≡ Some heard → AreFormed before → LeavesSince d before said (λ image tape. StaysFormed before.bytes image) old new → AreFormed after
  formed_after before after said heard old new now_old now_new back is told is_after heard_after formed leaves =
      each_since d IsFormed before after said heard old new (λ image tape. StaysFormed before.bytes image) now_old now_new back is told is_after heard_after (λ image tape is. is.formed) formed leaves
