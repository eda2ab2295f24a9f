-- What a store has in memory, through a commit.
use Rattle.std.proofs.Common.{◌≡◌, ◌⊎◌, ◌+◌, ℕ, Bool, IsTrue, true, false, List, [], length, replicate, Option, Some, None, Result, Err, IsErrOf, arith, sym, ap, subst, ◌∙◌, inl, inr, refl}
use Rattle.std.specs.Option.{ForSome, option_map, is_some}
use Rattle.std.proofs.lemmas.List.{length-replicate}
use Rattle.store_api.specs.StoreState.{StoreState}
use Rattle.store_api.specs.Calls.{Commits, Ends}
use Rattle.mdc_outside.specs.Disk.{File, IsImage}
use Rattle.mdc_outside.specs.Moments.{Beside}
use Rattle.redo_journal.specs.Images.{Numbered}
use Rattle.page_file.specs.Layout.{home_page}
use Rattle.page_store.specs.declared.desk.Desk.{Desk}
use Rattle.page_store.specs.declared.write_through.Halt.{Halt}
use Rattle.page_store.specs.declared.write_through.Halt.TheVariants.{BeforeHome, BehindGate}
use Rattle.page_file.specs.Leaving.{Leaves}
use Rattle.mdc_words.specs.Listed.{listed}
use Rattle.page_store.specs.Standing.{pages_in, IsFormedAs, Stands}
use Rattle.page_store.specs.Shape.{extents_in, extent_pages_in}
use Rattle.page_store.specs.Changes.{nothing, Changed, HoldsBelow, image_in, laid_over, unchanged}
use Rattle.page_store.specs.Cached.{renewed}
use Rattle.page_store.specs.Commit.{BothFiles, IsReadyFor, IsCommitted, StandsEither, HomeStays, RestsWith, pages_with}
use Rattle.page_store.specs.Desk.{IsKept, IsPrepared, Does, StandsForEither, CommitLeaves, RestsEither, base_in, base_of, work_of, state_of}
use Rattle.page_file.proofs.LeavesLemmas.{one_file}
use Rattle.page_file.proofs.LeavesLemmas.{told_before}
use Rattle.page_store.proofs.Cached.{renewed_home}
use Rattle.page_store.proofs.Commits.{MakesWork, made_by, ready_for, pages_at_rest, rest_after, work_after, home_after}
use Rattle.page_store.proofs.LaidOver.{laid_over-again, laid_over-unchanged, length-laid_over}
use Rattle.mdc_words.proofs.ListedLemmas.{listed_same}

-- the desk once its work is the base
abbrev pub settled : Numbered → Desk → Desk
settled images desk = record desk {
  base = length desk.changes.now;
  changes = nothing (length desk.changes.now);
  cache = renewed images desk.cache;
  hand = None;
  prepared = false;
}

-- the desk once a commit has failed
abbrev pub halted : Halt → Desk → Desk
halted halt desk = record desk { hand = None; prepared = false; halt = Some halt }

-- a file is told after a run just where it was told before
pub record KeepsTold (told left : Option File) : Type 0 where
  pub untold : told ≡ None → left ≡ None
  pub forth : (before : File) → told ≡ Some before → (after : File) × (left ≡ Some after)
  pub back : (after : File) → left ≡ Some after → (before : File) × (told ≡ Some before)

-- what a run leaves is told where the file was
pub leaves_told : {D : Type 0} {file : D → Option File} {aside : D → Beside} {attaches : D → Option (List (List ℕ × Bool))} {is_attached : D → Bool} {clock : D → ℕ} {moment : D → ℕ → List ℕ → List ℕ → Type 0} {Kind : File → List ℕ → Type 0} {old new : D}
    → Leaves file aside attaches is_attached clock moment Kind old new → KeepsTold (file old) (file new)
leaves_told leaves = record {
  untold = leaves.untold;
  forth = λ before is. let after = leaves.told before is in (after.0, after.1);
  back = λ after now. told_before leaves after now;
}

-- each image that a crash leaves after it is of its kind
pub left_image : {D : Type 0} {file : D → Option File} {aside : D → Beside} {attaches : D → Option (List (List ℕ × Bool))} {is_attached : D → Bool} {clock : D → ℕ} {moment : D → ℕ → List ℕ → List ℕ → Type 0} {Kind : File → List ℕ → Type 0} {old new : D}
    → Leaves file aside attaches is_attached clock moment Kind old new
    → (before after : File) (image : List ℕ) → file old ≡ Some before → file new ≡ Some after → IsImage after.since image → Kind before image
left_image leaves before after image is now left =
    let told = leaves.told before is in
    let same : told.0 ≡ after = one_file told.1 now in
    told.3 image (subst (λ (f : File). IsImage f.since image) (sym same) left)

-- both are told, or neither is
both_told : (told left : Option File) → KeepsTold told left → ((told ≡ None) × (left ≡ None)) ⊎ ((before : File) × (after : File) × (told ≡ Some before) × (left ≡ Some after))
both_told told left keeps = go told refl where
  go : (some : Option File) → told ≡ some → ((told ≡ None) × (left ≡ None)) ⊎ ((before : File) × (after : File) × (told ≡ Some before) × (left ≡ Some after))
  go None none = inl (none, keeps.untold none)
  go (Some before) is = let after = keeps.forth before is in inr (before, after.0, is, after.1)

-- what is known of the files after a commit that failed
abbrev pub FailsBy : Numbered → Halt → File → File → Type 0
FailsBy images BeforeHome before after = HomeStays before.bytes after.bytes
FailsBy images BehindGate before after = RestsWith images before after

-- it is what the call says of its error
pub fails_by : {T : Type 0} (result : Result T Halt) (halt : Halt) (images : Numbered) (told left : Option File) → result ≡ Err halt
    → (IsErrOf result BeforeHome → BothFiles told left (λ before after. HomeStays before.bytes after.bytes)) → (IsErrOf result BehindGate → BothFiles told left (RestsWith images))
    → BothFiles told left (FailsBy images halt)
fails_by result BeforeHome images told left is stays counts = record { holds = (stays (subst (λ r. IsErrOf r BeforeHome) (sym is) refl)).holds }
fails_by result BehindGate images told left is stays counts = record { holds = (counts (subst (λ r. IsErrOf r BehindGate) (sym is) refl)).holds }

-- states that are the same but in parts that are equal
same_state : (s : StoreState) (told_a told_b : Bool) (base_a base_b work_a work_b : List (List ℕ)) (marked_a marked_b : Option (List (List ℕ)))
    → told_a ≡ told_b → base_a ≡ base_b → work_a ≡ work_b → marked_a ≡ marked_b
    → record s { is_told = told_a; base = base_a; work = work_a; marked = marked_a } ≡ record s { is_told = told_b; base = base_b; work = work_b; marked = marked_b }
same_state s told_a told_b base_a base_b work_a work_b marked_a marked_b told base work marked = cc

-- a desk whose parts are as after a commit
pub settled_as : (images pages : Numbered) (desk : Desk) (count : ℕ) (changes : Changed) (cache : Numbered) → count ≡ length desk.changes.now
    → changes ≡ nothing (length desk.changes.now) → cache ≡ renewed pages desk.cache → pages ≡ images
    → settled images desk ≡ record desk { base = count; changes = changes; cache = cache; hand = None; prepared = false }
settled_as images pages desk count changes cache is_count is_changes is_cache same = rw (is_changes, is_cache, same, is_count) refl

module _ (desk : Desk) (told : Option File) (images : Numbered) (kept : IsKept desk told) (going : desk.halt ≡ None) (ready : IsTrue desk.prepared) (same : images ≡ desk.changes.pages) where
  -- the images are those of the work
  prepared : IsPrepared desk told
  prepared = kept.ready ready

  holds : HoldsBelow (length desk.changes.now) (image_in desk.base desk.changes.now) images
  holds = subst (HoldsBelow (length desk.changes.now) (image_in desk.base desk.changes.now)) (sym same) prepared.holds

  -- what the images make is the work
  made : (file : File) → told ≡ Some file → MakesWork desk.base desk.changes.now images file.bytes
  made file is = made_by desk.base desk.changes.now images file.bytes (omega (arith, kept.some, kept.count.0)) holds (prepared.counted file is)

  -- the file is ready for the images
  pub ready_desk : (count : ℕ) → count ≡ length desk.changes.now → ForSome told (IsReadyFor (66 + count) images)
  ready_desk count is_count file is =
      subst (λ n. IsReadyFor (66 + n) images file) (sym is_count)
      (ready_for desk.shape.extents desk.shape.extent_pages desk.base desk.changes.now images file (kept.at_rest file is) (omega (arith, kept.some)) kept.count.0 holds (made file is))

  -- the base is the home pages
  base_is : (file : File) → base_of (Some file) desk ≡ listed desk.base (home_page file.bytes)
  base_is file = ap (λ h. base_in h desk.base file.bytes) going

  -- and the work the changes laid over them
  work_is : (file : File) → work_of (Some file) desk desk.changes.now ≡ laid_over desk.changes.now (listed desk.base (home_page file.bytes))
  work_is file = ap (laid_over desk.changes.now) (base_is file)

  -- the file stands for the base
  stands_base : (file : File) → told ≡ Some file → pages_in file.bytes ≡ base_of (Some file) desk
  stands_base file is = pages_at_rest desk.shape.extents desk.shape.extent_pages desk.base file (kept.at_rest file is) ∙ sym (base_is file)

  -- with the images it stands for the work
  stands_work : (file : File) → told ≡ Some file → pages_with images file.bytes ≡ work_of (Some file) desk desk.changes.now
  stands_work file is = (made file is).pages ∙ sym (work_is file)

  -- an image with the birth page of the file states the shape of the desk
  shaped : (file : File) (image : List ℕ) {all : List (List ℕ)} → told ≡ Some file → Stands file.bytes all image → IsFormedAs desk.shape image
  shaped file image is stands =
      let rest = kept.at_rest file is in
      record { formed = stands.formed; extents = ap extents_in stands.birth ∙ rest.states_extents; extent_pages = ap extent_pages_in stands.birth ∙ rest.states_extent_pages }

  -- what a crash leaves stands for the base or for the work, and the rest of the file stays
  pub stands_either : (file : File) (image : List ℕ) → told ≡ Some file → StandsEither images file image → CommitLeaves desk file image
  stands_either file image is (inl stands) = ((shaped file image is stands, inl (stands.pages ∙ stands_base file is)), stands.front)
  stands_either file image is (inr stands) = ((shaped file image is stands, inr (stands.pages ∙ stands_work file is)), stands.front)

  -- after a commit that failed, the base is as it was, or it is the work
  base_left : (halt : Halt) (before after : File) → told ≡ Some before → FailsBy images halt before after → IsImage after.since after.bytes
      → (base_in (Some halt) desk.base after.bytes ≡ base_of (Some before) desk) ⊎ (base_in (Some halt) desk.base after.bytes ≡ work_of (Some before) desk desk.changes.now)
  base_left BeforeHome before after is stays as_read =
      let rest = kept.at_rest before is in
      inl (listed_same desk.base (home_page after.bytes) (home_page before.bytes) (λ p lt. stays p (omega (arith, rest.states_pages))) ∙ sym (base_is before))
  base_left BehindGate before after is counts as_read = inr ((counts after.bytes as_read).pages ∙ stands_work before is)

  -- in either case the work is as it was
  work_over : (base : List (List ℕ)) (before : File) → (base ≡ base_of (Some before) desk) ⊎ (base ≡ work_of (Some before) desk desk.changes.now)
      → laid_over desk.changes.now base ≡ work_of (Some before) desk desk.changes.now
  work_over base before (inl same) = ap (laid_over desk.changes.now) same
  work_over base before (inr work) = ap (laid_over desk.changes.now) work ∙ laid_over-again desk.changes.now (base_of (Some before) desk)

  -- what a crash leaves after a commit that failed stands for the base or for the work
  rests_by : (halt : Halt) (before after : File) → told ≡ Some before → FailsBy images halt before after → IsImage after.since after.bytes
      → (image : List ℕ) → IsImage after.since image → StandsEither images before image → StandsForEither (halted halt desk) after image
  rests_by BeforeHome before after is stays as_read image left (inl stands) =
      let rest = kept.at_rest before is in
      let same : listed desk.base (home_page after.bytes) ≡ listed desk.base (home_page before.bytes) =
      listed_same desk.base (home_page after.bytes) (home_page before.bytes) (λ p lt. stays p (omega (arith, rest.states_pages))) in
      (shaped before image is stands, inl (stands.pages ∙ (stands_base before is ∙ (base_is before ∙ sym same))))
  rests_by BeforeHome before after is stays as_read image left (inr stands) =
      let rest = kept.at_rest before is in
      let same : listed desk.base (home_page after.bytes) ≡ listed desk.base (home_page before.bytes) =
      listed_same desk.base (home_page after.bytes) (home_page before.bytes) (λ p lt. stays p (omega (arith, rest.states_pages))) in
      (shaped before image is stands, inr (stands.pages ∙ ((made before is).pages ∙ ap (laid_over desk.changes.now) (sym same))))
  rests_by BehindGate before after is counts as_read image left stands =
      let now = counts image left in
      (shaped before image is now, inl (now.pages ∙ sym (counts after.bytes as_read).pages))

  module _ (left : Option File) (keeps : KeepsTold told left) where
    -- what a crash leaves from now on
    pub rests_either : (halt : Halt) → BothFiles told left (FailsBy images halt) → ((f : File) → left ≡ Some f → IsImage f.since f.bytes)
        → ((before after : File) (image : List ℕ) → told ≡ Some before → left ≡ Some after → IsImage after.since image → StandsEither images before image)
        → ForSome left (RestsEither (halted halt desk))
    rests_either halt fails as_read stands after now image left_image =
        let before = keeps.back after now in
        rests_by halt before.0 after before.1 (fails.holds before.0 after before.1 now) (as_read after now) image left_image (stands before.0 after image before.1 now left_image)

    -- a file is told as it was
    told_same : is_some left ≡ is_some told
    told_same = elim (both_told told left keeps) [
      | inl neither ↦ ap is_some neither.1 ∙ sym (ap is_some neither.0)
      | inr files ↦ ap is_some files.3 ∙ sym (ap is_some files.2)
    ]

    -- the base and the work after a commit that failed
    ended_pages : (halt : Halt) → BothFiles told left (FailsBy images halt) → ((f : File) → left ≡ Some f → IsImage f.since f.bytes)
        → ((base_of left (halted halt desk) ≡ base_of told desk) ⊎ (base_of left (halted halt desk) ≡ work_of told desk desk.changes.now))
        × (work_of left (halted halt desk) desk.changes.now ≡ work_of told desk desk.changes.now)
    ended_pages halt fails as_read = elim (both_told told left keeps) [
      | inl neither ↦ rw (neither.0, neither.1) (inl refl, refl)
      | inr files ↦
          (let base = base_left halt files.0 files.1 files.2 (fails.holds files.0 files.1 files.2 files.3) (as_read files.1 files.3) in
          rw (files.2, files.3) (base, work_over (base_in (Some halt) desk.base files.1.bytes) files.0 base))
    ]

    -- a commit that failed ends the store
    pub ends : (halt : Halt) → BothFiles told left (FailsBy images halt) → ((f : File) → left ≡ Some f → IsImage f.since f.bytes)
        → Does Ends told desk left (halted halt desk)
    ends halt fails as_read tape beside =
        let pages = ended_pages halt fails as_read in
        let unmarked : (over : Desk) (some : Option File) → option_map (work_of some over) desk.changes.marked ≡ None = λ over some. ap (option_map (work_of some over)) prepared.unmarked in (
          base_of left (halted halt desk),
          pages.0,
          same_state (record (state_of told tape beside desk) { hand = None; prepared = false; ended = true; file = option_map (λ (f : File). f.bytes) left }) (is_some left) (is_some told)
              (base_of left (halted halt desk)) (base_of left (halted halt desk)) (work_of left (halted halt desk) desk.changes.now) (work_of told desk desk.changes.now)
              (option_map (work_of left (halted halt desk)) desk.changes.marked) (option_map (work_of told desk) desk.changes.marked)
              told_same refl pages.1 (unmarked (halted halt desk) left ∙ sym (unmarked desk told)),
        )

    -- the base and the work after a commit
    committed_pages : BothFiles told left (IsCommitted images)
        → (base_of left (settled images desk) ≡ work_of told desk desk.changes.now)
        × (work_of left (settled images desk) (unchanged (length desk.changes.now)) ≡ work_of told desk desk.changes.now)
    committed_pages both = elim (both_told told left keeps) [
      | inl neither ↦ rw (neither.0, neither.1) (refl, ap (λ n. replicate n []) (length-replicate {A = Option (List ℕ)} (length desk.changes.now) None))
      | inr files ↦
          (let home = work_after desk.shape.extents desk.shape.extent_pages desk.base desk.changes.now images files.0 files.1 (kept.at_rest files.0 files.2) (made files.0 files.2) (both.holds files.0 files.1 files.2 files.3) in
          let base : base_of (Some files.1) (settled images desk) ≡ work_of (Some files.0) desk desk.changes.now =
          ap (λ h. base_in h (length desk.changes.now) files.1.bytes) going ∙ (home ∙ sym (work_is files.0)) in
          let size : length (work_of (Some files.0) desk desk.changes.now) ≡ length desk.changes.now = length-laid_over desk.changes.now (base_of (Some files.0) desk) in
          let work : laid_over (unchanged (length desk.changes.now)) (base_of (Some files.1) (settled images desk)) ≡ work_of (Some files.0) desk desk.changes.now =
          ap (laid_over (unchanged (length desk.changes.now))) base
          ∙ (ap (λ n. laid_over (unchanged n) (work_of (Some files.0) desk desk.changes.now)) (sym size) ∙ laid_over-unchanged (work_of (Some files.0) desk desk.changes.now)) in
          rw (files.2, files.3) (base, work))
    ]

    -- a commit makes the work the base
    pub commits : BothFiles told left (IsCommitted images) → Does Commits told desk left (settled images desk)
    commits both tape beside =
        let pages = committed_pages both in
        same_state (record (state_of told tape beside desk) { hand = None; prepared = false; file = option_map (λ (f : File). f.bytes) left }) (is_some left) (is_some told)
        (base_of left (settled images desk)) (work_of told desk desk.changes.now) (work_of left (settled images desk) (unchanged (length desk.changes.now))) (work_of told desk desk.changes.now)
        None None told_same pages.0 pages.1 refl

    -- what is in memory fits the file after a commit
    pub kept_after : BothFiles told left (IsCommitted images) → IsKept (settled images desk) left
    kept_after both = record {
      at_rest = λ after now.
          let before = keeps.back after now in
          rest_after desk.shape.extents desk.shape.extent_pages desk.base desk.changes.now images before.0 after (kept.at_rest before.0 before.1) (made before.0 before.1) (both.holds before.0 after before.1 now);
      clean = λ after now.
          let before = keeps.back after now in
          renewed_home images desk.cache before.0.bytes after.bytes desk.base (length desk.changes.now) (kept.clean before.0 before.1) kept.count.0
          (home_after desk.shape.extents desk.shape.extent_pages desk.base desk.changes.now images before.0 after (kept.at_rest before.0 before.1) (made before.0 before.1) (both.holds before.0 after before.1 now));
      some = omega (arith, kept.some, kept.count.0);
      based = refl;
      count = (omega (arith, length-replicate {A = Option (List ℕ)} (length desk.changes.now) None), omega (arith, length-replicate {A = Option (List ℕ)} (length desk.changes.now) None, kept.count.1));
      marked = λ changes is. absurd (cc);
      hand = λ some. absurd (cc);
      ready = λ is. absurd (cc);
    }
