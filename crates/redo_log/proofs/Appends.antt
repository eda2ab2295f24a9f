-- A record is written, and its gate is opened.
use Rattle.std.proofs.Common.{◌≡◌, ◌⊎◌, ◌≤◌, ◌<◌, ◌+◌, ℕ, suc, Bool, IsFalse, List, [], ◌∷◌, ◌++◌, Option, Some, None, IfSome, Result, Ok, Err, OnOk, length, get_or, take, drop, unwrap_or, arith, refl, ap, sym, subst, ◌∙◌, inl, inr, if◌then◌else◌}
use Rattle.std.specs.Prelude.{IsSome}
use Rattle.std.specs.Option.{option_or, option_map, ForSome}
use Rattle.std.proofs.lemmas.Bool.{cases_lt}
use Rattle.mdc_words.specs.Listed.{listed}
use Rattle.mdc_words.proofs.ListedLemmas.{listed_same}
use Rattle.store_api.specs.StoreState.{stated_in}
use Rattle.mdc_outside.specs.Disk.{File, Since, IsImage, IsSound, all_synced, torn, written, settled}
use Rattle.mdc_outside.specs.Moments.{Beside}
use Rattle.page_file.specs.Layout.{IsReady, home_page, page_start}
use Rattle.page_file.specs.Leaving.{Leaves}
use Rattle.page_file.specs.Runs.{Runs, IsWithin}
use Rattle.page_file.proofs.BetweenLemmas.{mapped}
use Rattle.page_file.proofs.LeavesLemmas.{runs_leave, leaves_then, sound_image}
use Rattle.redo_journal.specs.Images.{Numbered, AreRising}
use Rattle.redo_journal.specs.Layout.{is_open, journal_of, index_pages}
use Rattle.redo_journal.proofs.GateLemmas.{overwritten_byte}
use Rattle.redo_log.specs.Layout.{header_at, number_in, start_at, end_at, log_end, record_at, newest, need_of, torn_record, NoneFrom}
use Rattle.redo_log.specs.Appending.{page_over, count_over, pages_over, HasIndex, HoldsRecord, IsTaken, IsAdded, StandsEither}
use Rattle.redo_log.specs.Log.{IsLogged, BothFiles}
use Rattle.redo_log.specs.Standing.{image_of, journaled, page_by, count_by, pages_by, IsFormedBy, Stands}
use Rattle.redo_log.proofs.Adding.{Adds, formed_more}
use Rattle.redo_log.proofs.Keeps.{StandsBy, log_within, log_end_same, newest_same, stands_through}
use Rattle.redo_log.proofs.Overlays.{image_of-append}
use Rattle.redo_log.proofs.Steps.{while_recorded, while_opened, gate_opened, gates_index, gates_pages, torn_gates}

-- an image after a record was written, whose gate isn't open yet
pub record IsRecorded (n : ℕ) (bytes image : List ℕ) : Type 0 where
  pub by : StandsBy n bytes image
  pub none : NoneFrom n image

-- the first image, or else what is under it
laid : (a b c : Option (List ℕ)) (home : List ℕ) → a ≡ None → unwrap_or (option_or a (option_or b c)) home ≡ unwrap_or b (unwrap_or (option_or a c) home)
laid None None c home is = refl
laid None (Some x) c home is = refl
laid (Some x) b c home is = absurd (cc)

-- what an image hides makes no difference
hidden : (a : Option (List ℕ)) (x y : List ℕ) → IsSome a → unwrap_or a x ≡ unwrap_or a y
hidden None x y some = absurd (cc)
hidden (Some page) x y some = refl

-- where the journal is closed, it has no images
no_journal : (bytes : List ℕ) → IsFalse (is_open bytes) → journaled bytes ≡ []
no_journal bytes shut = ap (λ b. if b then journal_of bytes else []) shut

-- With one record more a page is its image, or else what it was.
page_more : (n : ℕ) (images : Numbered) (half : List ℕ) (p : ℕ) → IsFalse (is_open half) → record_at n half ≡ images
    → page_by (suc n) half p ≡ unwrap_or (image_of images p) (page_by n half p)
page_more n images half p shut is =
    let none : image_of (journaled half) p ≡ None = ap (λ xs. image_of xs p) (no_journal half shut) in
    ap (λ x. unwrap_or x (home_page half p)) (image_of-append (journaled half) (newest (suc n) half) p)
    ∙ (ap (λ x. unwrap_or (option_or (image_of (journaled half) p) x) (home_page half p)) (image_of-append (record_at n half) (newest n half) p)
    ∙ (laid (image_of (journaled half) p) (image_of (record_at n half) p) (image_of (newest n half) p) (home_page half p) none
    ∙ (ap (λ x. unwrap_or (image_of (record_at n half) p) (unwrap_or x (home_page half p))) (sym (image_of-append (journaled half) (newest n half) p))
    ∙ ap (λ xs. unwrap_or (image_of xs p) (page_by n half p)) is)))

-- The file holds a record behind those that count: with it, it stands for its images laid over what the file stood for.
pub record Recorded (n : ℕ) (images : Numbered) (bytes half : List ℕ) : Type 0 where
  pub adds : Adds n images half
  pub pages : pages_by (suc n) half ≡ pages_over n images bytes
  pub ends : end_at n half ≡ log_end n bytes + need_of (length images)

pub recorded : (n : ℕ) (images : Numbered) (bytes half : List ℕ) → IsFormedBy n bytes → IsFalse (is_open bytes) → IsTaken n images bytes → IsRecorded n bytes half
    → AreRising images → record_at n half ≡ images → number_in (header_at n) half ≡ length images → start_at n half ≡ log_end n bytes
    → log_end n bytes + need_of (length images) ≤ 66 → page_start (log_end n bytes + need_of (length images)) ≤ length half
    → Recorded n images bytes half
recorded n images bytes half formed shut taken is rising holds number start room within =
    let shut_too : IsFalse (is_open half) = is.by.keeps.gate ∙ shut in
    let page : (p : ℕ) → page_by (suc n) half p ≡ unwrap_or (image_of images p) (page_by n half p) = λ p. page_more n images half p shut_too holds in
    let over : (p : ℕ) → p < count_over n images bytes → page_by (suc n) half p ≡ page_over n images bytes p = λ p lt. page p ∙ elim (cases_lt p (count_by n bytes)) [
      | inl old ↦ ap (λ x. unwrap_or (image_of images p) x) (is.by.same p old)
      | inr new ↦ hidden (image_of images p) (page_by n half p) (page_by n bytes p) (taken.grown p new lt)
    ] in
    let count : count_by (suc n) half ≡ count_over n images bytes = ap stated_in (over 0 (omega (arith, formed.some, taken.no_less))) in
    let count_old : count_by n half ≡ count_by n bytes = ap stated_in (is.by.same 0 formed.some) in
    let end : log_end n half ≡ log_end n bytes = log_end_same n bytes half is.by.keeps in
    let ends : end_at n half ≡ log_end n bytes + need_of (length images) =
    ap (λ s. s + index_pages (number_in (header_at n) half) + number_in (header_at n) half) start ∙ (ap (λ m. log_end n bytes + index_pages m + m) number ∙ omega arith) in
    record {
      adds = record {
        record_is = holds;
        start = start ∙ sym end;
        in_log = omega (arith, ends);
        in_file = omega (arith, ends);
        rising = rising;
        named = λ k d lt. omega (arith, taken.named k d lt);
        no_less = omega (arith, taken.no_less);
        grown = λ p le lt. taken.grown p (omega arith) (omega arith);
      };
      pages = ap (λ (m : ℕ). listed m (page_by (suc n) half)) count ∙ listed_same (count_over n images bytes) (page_by (suc n) half) (page_over n images bytes) over;
      ends = ends;
    }

-- Then its gate is opened: the file stands for what it stood for, or for that with the images.
pub after_gate : (n : ℕ) (images : Numbered) (bytes half image : List ℕ) → IsFalse (is_open bytes) → IsRecorded n bytes half → n < 32 → Recorded n images bytes half
    → IsImage (torn (2048 + n) 1 (all_synced half)) image
    → Stands bytes (pages_by n bytes) image ⊎ (Stands bytes (pages_over n images bytes) image × StandsBy (suc n) half image × NoneFrom (suc n) image)
after_gate n images bytes half image shut is few written left =
    let more = formed_more n images half is.by.formed (is.by.keeps.gate ∙ shut) written.adds in
    elim (while_opened n half image is.by.formed is.by.has is.none few more left) [
      | inl old ↦ inl (stands_through is.by.stands (subst (λ (all : List (List ℕ)). Stands half all image) is.by.pages old.stands))
      | inr new ↦ inr (stands_through is.by.stands (subst (λ (all : List (List ℕ)). Stands half all image) written.pages new.0.stands), new.0, new.1)
    ]

-- what the file is where it is told, and its images
pub told_file : {A : Type 0} {x y : A} {o : Option A} → o ≡ Some x → o ≡ Some y → x ≡ y
told_file {A} {x} {y} {o} a b = let both : Some x ≡ Some y = sym a ∙ b in cc

module _ {D : Type 0} {file : D → Option File} {aside : D → Beside} {attaches : D → Option (List (List ℕ × Bool))} {is_attached : D → Bool} {clock : D → ℕ} {moment : D → ℕ → List ℕ → List ℕ → Type 0} where
  -- a file as it reads after a run is an image that the run may leave
  pub final_image : (allowed : Since → Since) {old new : D} {before after : File} → ((disk : D) → IfSome (file disk) IsSound)
      → Runs file aside attaches is_attached clock moment IsWithin allowed old new → file old ≡ Some before → file new ≡ Some after → IsImage (allowed before.since) after.bytes
  final_image allowed {old} {new} {before} {after} sound run is is_after =
      let to = run.told before is in
      subst (λ (f : File). IsImage (allowed before.since) f.bytes) (told_file to.1 is_after) (to.2 to.0.bytes (sound_image (file new) to.0 (sound new) to.1))

  -- while the record is written
  pub record_leaves : (n end : ℕ) (images : Numbered) {old new : D} → ((disk : D) → IfSome (file disk) IsSound)
      → ForSome (file old) (IsLogged n) → ForSome (file old) (λ f. log_end n f.bytes ≡ end) → ForSome (file old) (λ f. IsFalse (is_open f.bytes))
      → n < 32 → end + need_of (length images) ≤ 66
      → Runs file aside attaches is_attached clock moment IsWithin (torn_record n end (length images)) old new
      → Leaves file aside attaches is_attached clock moment (λ before image. IsRecorded n before.bytes image) old new
  record_leaves n end images {old} {new} sound logged ends shut few room run = runs_leave run (λ after is. sound_image (file new) after (sound new) is)
      (λ before image is left.
      let was = logged before is in
      let same : log_end n before.bytes ≡ end = ends before is in
      let torn_so : IsImage (torn_record n end (length images) (all_synced before.bytes)) image = subst (λ (s : Since). IsImage (torn_record n end (length images) s) image) was.synced left in
      let torn_there : IsImage (torn_record n (log_end n before.bytes) (length images) (all_synced before.bytes)) image = subst (λ (e : ℕ). IsImage (torn_record n e (length images) (all_synced before.bytes)) image) (sym same) torn_so in
      let found = while_recorded n (length images) before.bytes image was.formed was.has was.none few (shut before is) (omega arith) torn_there in
      record { by = found.0; none = found.1 })

  -- while the record's gate is opened too
  pub added_leaves : (n end : ℕ) (images : Numbered) {old middle new : D} → ((disk : D) → IfSome (file disk) IsSound)
      → ForSome (file old) (IsLogged n) → ForSome (file old) (λ f. log_end n f.bytes ≡ end) → ForSome (file old) (λ f. IsFalse (is_open f.bytes))
      → ForSome (file old) (λ f. IsTaken n images f.bytes) → n < 32 → end + need_of (length images) ≤ 66 → AreRising images
      → Leaves file aside attaches is_attached clock moment (λ before image. IsRecorded n before.bytes image) old middle
      → ForSome (file middle) (HoldsRecord n end images)
      → Runs file aside attaches is_attached clock moment IsWithin (torn (2048 + n) 1) middle new
      → Leaves file aside attaches is_attached clock moment (StandsEither n images) old new
  added_leaves n end images {old} {middle} {new} sound logged ends shut taken few room rising first holds run =
      leaves_then first
      (runs_leave {Kind = λ half image. IsImage (torn (2048 + n) 1 (all_synced half.bytes)) image} run (λ after is. sound_image (file new) after (sound new) is)
      (λ half image is left. subst (λ (s : Since). IsImage (torn (2048 + n) 1 s) image) (holds half is).settled left))
      (λ before image is recorded_so. record { either = inl recorded_so.by.stands; stays = recorded_so.by.same })
      (λ before half image is is_half recorded_so left. both before half image is is_half recorded_so left)
    where
      both : (before half : File) (image : List ℕ) → file old ≡ Some before → file middle ≡ Some half → IsRecorded n before.bytes half.bytes
          → IsImage (torn (2048 + n) 1 (all_synced half.bytes)) image → StandsEither n images before image
      both before half image is is_half recorded_so left =
          let held = holds half is_half in
          let same : log_end n before.bytes ≡ end = ends before is in
          let written = recorded n images before.bytes half.bytes (logged before is).formed (shut before is) (taken before is) recorded_so rising held.images_are held.number (held.starts ∙ sym same)
          (omega arith) (omega (arith, held.within)) in
          record {
            either = elim (after_gate n images before.bytes half.bytes image (shut before is) recorded_so few written left) [ inl still ↦ inl still | inr new ↦ inr new.0 ];
            stays = λ p lt. gates_pages n half.bytes image (torn_gates (2048 + n) 1 half.bytes image recorded_so.by.formed.long (omega arith) (omega arith) left).0 recorded_so.by.formed (omega arith) p ∙ recorded_so.by.same p lt;
          }

  -- once the gate is on the disk, the record counts
  pub is_added : {T E : Type 0} (result : Result T E) (n end : ℕ) (images : Numbered) {old middle new : D} → ((disk : D) → IfSome (file disk) IsSound)
      → ForSome (file old) (IsLogged n) → ForSome (file old) (λ f. log_end n f.bytes ≡ end) → ForSome (file old) (λ f. IsFalse (is_open f.bytes))
      → ForSome (file old) (λ f. IsTaken n images f.bytes) → n < 32 → end + need_of (length images) ≤ 66 → AreRising images
      → Leaves file aside attaches is_attached clock moment (λ before image. IsRecorded n before.bytes image) old middle
      → ForSome (file middle) (HoldsRecord n end images)
      → Runs file aside attaches is_attached clock moment IsWithin (torn (2048 + n) 1) middle new
      → OnOk result (file new ≡ option_map (λ f. settled (written (2048 + n) (79 ∷ []) f)) (file middle))
      → OnOk result (BothFiles (file old) (file new) (IsAdded n images))
  is_added (Ok done) n end images {old} {middle} {new} sound logged ends shut taken few room rising first holds run opened = record {
    holds = λ before after is is_after.
        let there = first.told before is in
        let half : File = there.0 in
        let is_half : file middle ≡ Some there.0 = there.1 in
        let recorded_so : IsRecorded n before.bytes there.0.bytes = there.2 in
        let held = holds there.0 is_half in
        let same : log_end n before.bytes ≡ end = ends before is in
        let low : 2 ≤ end = omega (arith, same, (log_within n before.bytes (logged before is).formed).0) in
        let written_so = recorded n images before.bytes there.0.bytes (logged before is).formed (shut before is) (taken before is) recorded_so rising held.images_are held.number (held.starts ∙ sym same)
        (omega arith) (omega (arith, held.within)) in
        let now : after ≡ settled (written (2048 + n) (79 ∷ []) there.0) = mapped (λ f. settled (written (2048 + n) (79 ∷ []) f)) (file middle) (file new) there.0 after opened is_half is_after in
        let bytes : after.bytes ≡ take (2048 + n) there.0.bytes ++ (79 ∷ []) ++ drop (2048 + n + 1) there.0.bytes = ap (λ f. f.bytes) now in
        let long : page_start 2 ≤ length there.0.bytes = recorded_so.by.formed.long in
        let gate : get_or after.bytes (2048 + n) 0 ≡ 79 = ap (λ xs. get_or xs (2048 + n) 0) bytes ∙ overwritten_byte (2048 + n) 79 there.0.bytes (omega arith) in
        let synced : after.since ≡ all_synced after.bytes = ap (λ f. f.since) now ∙ ap (λ xs. all_synced xs) (sym bytes) in
        let left : IsImage (torn (2048 + n) 1 (all_synced there.0.bytes)) after.bytes =
        subst (λ (s : Since). IsImage (torn (2048 + n) 1 s) after.bytes) held.settled (final_image (torn (2048 + n) 1) sound run is_half is_after) in
        let more = gate_opened n there.0.bytes after.bytes recorded_so.by.has recorded_so.none few (formed_more n images there.0.bytes recorded_so.by.formed (recorded_so.by.keeps.gate ∙ shut before is) written_so.adds) left gate in
        record {
          logged = record { synced = synced; has = more.0.has; none = more.1; formed = more.0.formed };
          ends = log_end_same (suc n) there.0.bytes after.bytes more.0.keeps ∙ written_so.ends;
          stands = stands_through recorded_so.by.stands (subst (λ (all : List (List ℕ)). Stands there.0.bytes all after.bytes) written_so.pages more.0.stands);
          record_is = (more.0.keeps.log n (omega arith)).images ∙ held.images_are;
          index = subst (λ (e : ℕ). HasIndex e images after.bytes) (sym same) (gates_index end images there.0.bytes after.bytes (torn_gates (2048 + n) 1 there.0.bytes after.bytes long (omega arith) (omega arith) left).0 low held.index);
          older = newest_same n there.0.bytes after.bytes (λ k lt. more.0.keeps.log k (omega arith)) ∙ newest_same n before.bytes there.0.bytes recorded_so.by.keeps.log;
          journal = more.0.keeps.gate ∙ recorded_so.by.keeps.gate;
        };
  }
  is_added (Err e) n end images {old} {middle} {new} sound logged ends shut taken few room rising first holds run opened = opened

-- a file with a log is ready
pub ready_for_record : (n : ℕ) (told : Option File) → ForSome told (IsLogged n) → ForSome told IsReady
ready_for_record n told logged = λ f is. record { long = (logged f is).formed.long; synced = (logged f is).synced }

-- the log ends within the file
pub reaches_end : (n end : ℕ) (told : Option File) → ForSome told (IsLogged n) → ForSome told (λ f. log_end n f.bytes ≡ end) → ForSome told (λ f. page_start end ≤ length f.bytes)
reaches_end n end told logged ends = λ f is. subst (λ (e : ℕ). page_start e ≤ length f.bytes) (ends f is) (log_within n f.bytes (logged f is).formed).2

-- a file with a record is ready
pub ready_for_gate : (n end : ℕ) (images : Numbered) (told : Option File) → 2 ≤ end → ForSome told (HoldsRecord n end images) → ForSome told IsReady
ready_for_gate n end images told low holds = λ f is. record { long = omega (arith, (holds f is).within); synced = (holds f is).settled }
