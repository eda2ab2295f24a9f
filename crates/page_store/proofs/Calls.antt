-- What the calls of a commit leave, from the clauses of the journal's calls.
use Rattle.std.proofs.Common.{◌≡◌, ℕ, Bool, IsTrue, IsFalse, List, [], ◌∷◌, Option, Some, None, Result, Ok, Err, OnOk, arith, sym, subst, ◌∙◌, inr, refl}
use Rattle.std.specs.Option.{ForSome, option_map}
use Rattle.std.specs.List.{All}
use Rattle.mdc_outside.specs.Disk.{File, Since, IsImage, all_synced, torn, written, settled}
use Rattle.mdc_outside.specs.Moments.{Beside}
use Rattle.redo_journal.specs.Images.{Numbered, AreRising}
use Rattle.page_file.specs.Layout.{home_page, IsReady}
use Rattle.redo_journal.specs.Layout.{is_open, journal_of, torn_journal, torn_home, HoldsJournal, HoldsHome}
use Rattle.page_file.specs.Runs.{Runs, IsWithin}
use Rattle.page_file.specs.Leaving.{Leaves}
use Rattle.page_store.specs.Standing.{pages_in, IsFormed, Stands}
use Rattle.page_store.specs.Commit.{BothFiles, StandsStill, StandsEither, IsReadyFor, IsCounting, IsClosed, IsCommitted, IsJournaled, HomeStays, RestsWith, pages_with}
use Rattle.page_file.proofs.LeavesLemmas.{runs_leave, leaves_then, one_file, told_before}
use Rattle.page_store.proofs.Crashes.{while_home, while_closed}
use Rattle.page_store.proofs.Committing.{journaled_written, journaled_opened, stands_through, stands_same}
use Rattle.page_file.specs.declared.layout.TheConstants.{GATE}

-- after the gate was written, all is on the disk
pub synced_gate : (told : Option File) (state : List ℕ) (new : Option File) (after : File) → new ≡ option_map (λ file. settled (written GATE state file)) told → new ≡ Some after → after.since ≡ all_synced after.bytes
synced_gate None state new after is now = absurd (cc)
synced_gate (Some told) state new after is now = let same : settled (written GATE state told) ≡ after = cc in subst (λ (f : File). f.since ≡ all_synced f.bytes) same refl

-- after the gate was closed
pub closed_at_rest : {T E : Type 0} (result : Result T E) (told new : Option File)
    → OnOk result (new ≡ option_map (λ file. settled (written GATE (0 ∷ []) file)) told) → OnOk result (ForSome new (λ f. IsFalse (is_open f.bytes)))
    → OnOk result (ForSome new IsClosed)
closed_at_rest (Err e) told new written_gate gate = gate
closed_at_rest (Ok done) told new written_gate gate = λ after now. record { synced = synced_gate told (0 ∷ []) new after written_gate now; closed = gate after now }

-- what stands still behind an open gate stands for the pages with the images
pub stands_with : (images : Numbered) (before half : File) (image : List ℕ) → Stands before.bytes (pages_with images before.bytes) half.bytes → StandsStill half image
    → Stands before.bytes (pages_with images before.bytes) image
stands_with images before half image counts still =
    stands_through before.bytes half.bytes image (pages_with images before.bytes) counts.birth counts.front
    (stands_same half.bytes image (pages_in half.bytes) (pages_with images before.bytes) counts.pages still)

module _ {D : Type 0} {file : D → Option File} {aside : D → Beside} {attaches : D → Option (List (List ℕ × Bool))} {is_attached : D → Bool} {clock : D → ℕ} {moment : D → ℕ → List ℕ → List ℕ → Type 0} where
  -- the file that a run left is an image that the run allows
  pub left_within : {allowed : Since → Since} {old new : D} (before after : File) → ((f : File) → file new ≡ Some f → IsImage f.since f.bytes)
      → Runs file aside attaches is_attached clock moment IsWithin allowed old new → file old ≡ Some before → file new ≡ Some after
      → IsImage (allowed before.since) after.bytes
  left_within {allowed} {old} {new} before after as_read run is now =
      let told = run.told before is in
      let same : told.0 ≡ after = one_file told.1 now in
      told.2 after.bytes (let within : IsImage told.0.since after.bytes = subst (λ (f : File). IsImage f.since after.bytes) (sym same) (as_read after now) in within)

  -- while the journal is written
  pub journal_leaves : (start n : ℕ) (images : Numbered) {old new : D} → ((f : File) → file new ≡ Some f → IsImage f.since f.bytes)
      → ForSome (file old) (IsReadyFor start images)
      → Runs file aside attaches is_attached clock moment IsWithin (torn_journal start n) old new
      → Leaves file aside attaches is_attached clock moment (λ before. IsJournaled images before.bytes) old new
  journal_leaves start n images as_read ready run = runs_leave run as_read (λ before image is left. (journaled_written start n images before image (ready before is) left).2)

  -- what each image is that a crash leaves while the gate is opened
  pub gate_leaves : (start n : ℕ) (images : Numbered) {old middle : D} → ((f : File) → file middle ≡ Some f → IsImage f.since f.bytes) → AreRising images
      → ForSome (file old) (IsReadyFor start images)
      → Runs file aside attaches is_attached clock moment IsWithin (torn_journal start n) old middle → ForSome (file middle) (HoldsJournal start images)
      → (before half : File) (image : List ℕ) → file old ≡ Some before → file middle ≡ Some half → IsImage (torn GATE 1 half.since) image
      → IsJournaled images before.bytes image
      × (IsTrue (is_open image) → (journal_of image ≡ images) × Stands before.bytes (pages_with images before.bytes) image)
  gate_leaves start n images as_read rising ready run holds before half image is is_half left =
      let written_so = journaled_written start n images before half.bytes (ready before is) (left_within before half as_read run is is_half) in
      journaled_opened start images before half image rising (ready before is) written_so.0 written_so.2 written_so.1 (holds half is_half) left

  -- while the journal is written and its gate is opened
  pub opened_leaves : (start n : ℕ) (images : Numbered) {old middle new : D} → ((f : File) → file middle ≡ Some f → IsImage f.since f.bytes) → ((f : File) → file new ≡ Some f → IsImage f.since f.bytes)
      → AreRising images → ForSome (file old) (IsReadyFor start images)
      → Runs file aside attaches is_attached clock moment IsWithin (torn_journal start n) old middle → ForSome (file middle) (HoldsJournal start images)
      → Runs file aside attaches is_attached clock moment IsWithin (torn GATE 1) middle new
      → Leaves file aside attaches is_attached clock moment (λ before. IsJournaled images before.bytes) old new
  opened_leaves start n images {old} {middle} {new} as_half as_read rising ready first holds second =
      let Gate : File → List ℕ → Type 0 = λ half image. (before : File) → file old ≡ Some before → IsJournaled images before.bytes image in
      let gate : Leaves file aside attaches is_attached clock moment Gate middle new =
      runs_leave second as_read (λ half image is_half left before is. (gate_leaves start n images as_half rising ready first holds before half image is is_half left).0) in
      leaves_then (journal_leaves start n images as_half ready first) gate (λ before image is journaled. journaled) (λ before half image is is_half journaled opened. opened before is)

  -- then the journal counts
  pub opened_counts : {T E : Type 0} (result : Result T E) (start n : ℕ) (images : Numbered) {old middle new : D}
      → ((f : File) → file middle ≡ Some f → IsImage f.since f.bytes) → ((f : File) → file new ≡ Some f → IsImage f.since f.bytes)
      → AreRising images → ForSome (file old) (IsReadyFor start images)
      → Runs file aside attaches is_attached clock moment IsWithin (torn_journal start n) old middle → ForSome (file middle) (HoldsJournal start images)
      → Runs file aside attaches is_attached clock moment IsWithin (torn GATE 1) middle new
      → OnOk result (file new ≡ option_map (λ file. settled (written GATE (79 ∷ []) file)) (file middle)) → OnOk result (ForSome (file new) (λ f. IsTrue (is_open f.bytes)))
      → OnOk result (BothFiles (file old) (file new) (λ before after. IsCounting images after × Stands before.bytes (pages_with images before.bytes) after.bytes))
  opened_counts (Err e) start n images as_half as_read rising ready first holds second written_gate gate = gate
  opened_counts (Ok done) start n images {old} {middle} {new} as_half as_read rising ready first holds second written_gate gate = record {
    holds = λ before after is now.
        let half = first.told before is in
        let opened = gate_leaves start n images as_half rising ready first holds before half.0 after.bytes is half.1 (left_within half.0 after as_read second half.1 now) in
        let counts = opened.1 (gate after now) in (
          record { synced = synced_gate (file middle) (79 ∷ []) (file new) after written_gate now; gate = gate after now; journal = counts.0 },
          counts.1,
        );
  }

  -- while the images are written home
  pub home_leaves : (images : Numbered) {old new : D} → ((f : File) → file new ≡ Some f → IsImage f.since f.bytes)
      → ForSome (file old) (IsCounting images) → ForSome (file old) (λ f. IsFormed f.bytes)
      → Runs file aside attaches is_attached clock moment IsWithin (torn_home images) old new
      → Leaves file aside attaches is_attached clock moment (λ before image. IsTrue (is_open image) × (journal_of image ≡ images) × StandsStill before image) old new
  home_leaves images as_read counts formed run = runs_leave run as_read (λ before image is left.
      let counting = counts before is in
      let at_first : IsImage (torn_home images (all_synced before.bytes)) image = subst (λ since. IsImage (torn_home images since) image) counting.synced left in
      let torn_images : IsImage (torn_home (journal_of before.bytes) (all_synced before.bytes)) image = subst (λ xs. IsImage (torn_home xs (all_synced before.bytes)) image) (sym counting.journal) at_first in
      let home = while_home before.bytes image (formed before is) counting.gate torn_images in
      (home.0, home.1 ∙ counting.journal, home.2))

  -- while the gate is closed behind them
  pub closed_leaves : (images : Numbered) {old middle new : D} → ((f : File) → file middle ≡ Some f → IsImage f.since f.bytes) → ((f : File) → file new ≡ Some f → IsImage f.since f.bytes)
      → ForSome (file old) (IsCounting images) → ForSome (file old) (λ f. IsFormed f.bytes)
      → Runs file aside attaches is_attached clock moment IsWithin (torn_home images) old middle → ForSome (file middle) (HoldsHome images)
      → Runs file aside attaches is_attached clock moment IsWithin (torn GATE 1) middle new
      → Leaves file aside attaches is_attached clock moment StandsStill old new
  closed_leaves images {old} {middle} {new} as_half as_read counts formed first holds second =
      let home = home_leaves images as_half counts formed first in
      let Gate : File → List ℕ → Type 0 = λ half image. (before : File) → file old ≡ Some before → StandsStill before image in
      let gate : Leaves file aside attaches is_attached clock moment Gate middle new =
      runs_leave second as_read (λ half image is_half left before is.
      let kept = home.told before is in
      let same : kept.0 ≡ half = one_file kept.1 is_half in
      let stands = subst (λ (f : File). IsTrue (is_open f.bytes) × (journal_of f.bytes ≡ images) × StandsStill before f.bytes) same kept.2 in
      let at_home = holds half is_half in
      let torn_gate : IsImage (torn GATE 1 (all_synced half.bytes)) image = subst (λ since. IsImage (torn GATE 1 since) image) at_home.settled left in
      let in_place : All (λ listed. home_page half.bytes listed.0 ≡ listed.1) (journal_of half.bytes) = subst (λ (xs : Numbered). All (λ listed. home_page half.bytes listed.0 ≡ listed.1) xs) (sym stands.1) at_home.home in
      stands_through before.bytes half.bytes image (pages_in before.bytes) stands.2.birth stands.2.front
      (stands_same half.bytes image (pages_in half.bytes) (pages_in before.bytes) stands.2.pages (while_closed half.bytes image stands.2.formed stands.0 in_place torn_gate))) in
      leaves_then home gate (λ before image is stands. stands.2) (λ before half image is is_half stands closed. closed before is)

  -- a file that counts and is formed can have its gate closed
  pub ready_to_close : (images : Numbered) {old middle : D}
      → Leaves file aside attaches is_attached clock moment (λ before image. IsTrue (is_open image) × (journal_of image ≡ images) × StandsStill before image) old middle
      → ForSome (file middle) (HoldsHome images) → ForSome (file middle) IsReady
  ready_to_close images {old} {middle} home holds half is_half =
      let before = told_before home half is_half in
      let kept = home.told before.0 before.1 in
      let same : kept.0 ≡ half = one_file kept.1 is_half in
      let formed = subst (λ (f : File). IsFormed f.bytes) same kept.2.2.formed in
      record { long = omega (arith, formed.whole); synced = (holds half is_half).settled }

  -- where the journal counts, so it does in each told file
  pub counts_there : (images : Numbered) {Kind : File → List ℕ → Type 0} {old new : D} → Leaves file aside attaches is_attached clock moment Kind old new
      → BothFiles (file old) (file new) (λ before after. IsCounting images after × Stands before.bytes (pages_with images before.bytes) after.bytes)
      → ForSome (file new) (λ after. IsCounting images after × IsFormed after.bytes)
  counts_there images leaves both after now =
      let before = told_before leaves after now in
      let counts = both.holds before.0 after before.1 now in
      (counts.0, counts.1.formed)

  -- a commit, whole or up to the journal
  pub commit_leaves : (images : Numbered) {old middle new : D} → Leaves file aside attaches is_attached clock moment (λ before. IsJournaled images before.bytes) old middle
      → BothFiles (file old) (file middle) (λ before after. IsCounting images after × Stands before.bytes (pages_with images before.bytes) after.bytes)
      → Leaves file aside attaches is_attached clock moment StandsStill middle new
      → Leaves file aside attaches is_attached clock moment (StandsEither images) old new
  commit_leaves images first counts second = leaves_then first second (λ before image is journaled. journaled.stands)
      (λ before half image is is_half journaled still. inr (stands_with images before half image (counts.holds before half is is_half).1 still))

  -- what a crash leaves behind an open gate
  pub rests_with : (images : Numbered) {old middle new : D}
      → BothFiles (file old) (file middle) (λ before after. IsCounting images after × Stands before.bytes (pages_with images before.bytes) after.bytes)
      → Leaves file aside attaches is_attached clock moment (λ before. IsJournaled images before.bytes) old middle
      → Leaves file aside attaches is_attached clock moment StandsStill middle new
      → BothFiles (file old) (file new) (RestsWith images)
  rests_with images counts first second = record {
    holds = λ before after is now image left.
        let half = first.told before is in
        let told = second.told half.0 half.1 in
        let same : told.0 ≡ after = one_file told.1 now in
        stands_with images before half.0 image (counts.holds before half.0 is half.1).1 (told.3 image (subst (λ (f : File). IsImage f.since image) (sym same) left));
  }

  -- up to the gate the home pages stay
  pub journaled_stays : (images : Numbered) {old new : D} → Leaves file aside attaches is_attached clock moment (λ before. IsJournaled images before.bytes) old new
      → BothFiles (file old) (file new) (λ before after. HomeStays before.bytes after.bytes)
  journaled_stays images leaves = record {
    holds = λ before after is now.
        let told = leaves.told before is in
        let same : told.0 ≡ after = one_file told.1 now in
        subst (λ (f : File). HomeStays before.bytes f.bytes) same told.2.stays;
  }

  -- after a commit
  pub committed_with : (images : Numbered) {old middle new : D}
      → BothFiles (file old) (file middle) (λ before after. IsCounting images after × Stands before.bytes (pages_with images before.bytes) after.bytes)
      → Leaves file aside attaches is_attached clock moment (λ before. IsJournaled images before.bytes) old middle
      → Leaves file aside attaches is_attached clock moment StandsStill middle new
      → ForSome (file new) IsClosed → BothFiles (file old) (file new) (IsCommitted images)
  committed_with images counts first second closed = record {
    holds = λ before after is now.
        let half = first.told before is in
        let told = second.told half.0 half.1 in
        let same : told.0 ≡ after = one_file told.1 now in
        let still : StandsStill half.0 after.bytes = subst (λ (f : File). StandsStill half.0 f.bytes) same told.2 in
        (closed after now, stands_with images before half.0 after.bytes (counts.holds before half.0 is half.1).1 still);
  }
