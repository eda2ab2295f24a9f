-- The records are brought home, and the first gate is closed, and then the others.
use Rattle.std.proofs.Common.{min, ◌≡◌, ◌≤◌, ◌<◌, ◌+◌, ◌*◌, ℕ, zero, suc, Bool, List, [], ◌∷◌, Option, Some, IfSome, Result, Ok, Err, OnOk, length, get_or, drop, nat_eq, arith, refl, ap, sym, subst, ◌∙◌, inl, inr}
use Rattle.std.specs.Option.{option_map, ForSome}
use Rattle.std.specs.List.{All}
use Rattle.std.proofs.lemmas.Bool.{cases_eq}
use Rattle.std.proofs.lemmas.List.{length-take-le, length-drop, ext_get_or}
use Rattle.std.proofs.lemmas.List.Elements.{All-nil, All-cons}
use Rattle.mdc_outside.specs.Disk.{File, Since, IsImage, IsSound, all_synced, torn, written, settled, overwritten}
use Rattle.mdc_outside.specs.Moments.{Beside}
use Rattle.page_file.specs.Layout.{IsReady, home_page, page_start}
use Rattle.page_file.specs.Leaving.{Leaves}
use Rattle.page_file.specs.Runs.{Runs, IsWithin}
use Rattle.page_file.proofs.BetweenLemmas.{mapped}
use Rattle.page_file.proofs.LeavesLemmas.{runs_leave, leaves_then, leaves_itself, told_before, sound_image}
use Rattle.redo_journal.specs.Images.{Numbered}
use Rattle.redo_journal.specs.Layout.{entries, index_pages, is_open, torn_home, HoldsHome}
use Rattle.redo_journal.proofs.GateLemmas.{overwritten_byte}
use Rattle.redo_log.specs.Appending.{StandsEither}
use Rattle.redo_log.specs.Checkpointing.{AreOverlay, IsClosed, IsStill, LeavesStrays, StandsStill}
use Rattle.redo_log.specs.Layout.{header_at, number_in, start_at, record_at, newest, records_in, HasRecords, IsLaid}
use Rattle.redo_log.specs.Log.{IsLogged, BothFiles}
use Rattle.redo_log.specs.Standing.{image_of, page_by, pages_by, IsFormedBy, Stands}
use Rattle.redo_log.proofs.Appends.{told_file, final_image}
use Rattle.redo_log.proofs.Checkpoints.{IsHomed, while_homed, while_first_closed}
use Rattle.redo_log.proofs.Keeps.{StandsBy, newest_same, stands_through}
use Rattle.redo_log.proofs.Leading.{is_records}
use Rattle.redo_log.proofs.Overlays.{image_of-one, newest_all, whole_home, value_of}

-- all is on the disk, and n records count, whatever the gates behind the first that isn't open
pub record IsCounting (n : ℕ) (file : File) : Type 0 where
  pub synced : file.since ≡ all_synced file.bytes
  pub has : HasRecords n file.bytes
  pub formed : IsFormedBy n file.bytes

-- each entry has a whole page, where the pages are there
full_entries : (m : ℕ) (index pages : List ℕ) → 4096 * m ≤ length pages → All (λ image. length image.1 ≡ 4096) (entries m index pages)
full_entries zero index pages le = All-nil (λ image. length image.1 ≡ 4096)
full_entries (suc m) index pages le =
    All-cons (λ (image : ℕ × List ℕ). length image.1 ≡ 4096) _ _ (length-take-le 4096 pages (omega arith)) (full_entries m (drop 4 index) (drop 4096 pages) (omega (arith, length-drop 4096 pages)))

-- so has each image of a record
full_record : (k : ℕ) (bytes : List ℕ) → IsLaid k bytes → All (λ image. length image.1 ≡ 4096) (record_at k bytes)
full_record k bytes is =
    let m : ℕ = number_in (header_at k) bytes in
    let from : ℕ = page_start (start_at k bytes + index_pages m) in
    full_entries m (drop (page_start (start_at k bytes)) bytes) (drop from bytes) (omega (arith, length-drop from bytes, is.in_file))

-- Where the images of the records stand in their home pages, the records are home.
pub is_homed : (n : ℕ) (images : Numbered) (bytes half : List ℕ) → IsFormedBy n bytes → AreOverlay n bytes images → StandsBy n bytes half
    → All (λ image. home_page half image.0 ≡ image.1) images → IsHomed n half
is_homed n images bytes half formed over by home =
    let newest_is : newest n half ≡ newest n bytes = newest_same n bytes half by.keeps.log in
    let full : All (λ image. length image.1 ≡ 4096) (newest n bytes) = newest_all (λ image. length image.1 ≡ 4096) n bytes (λ k lt. full_record k bytes (formed.laid k lt)) in
    let at : (p : ℕ) (page : List ℕ) → image_of (newest n half) p ≡ Some page → home_page half p ≡ page = λ p page is.
    image_of-one (λ image. home_page half image.0 ≡ image.1) images p page home (over p ∙ (ap (λ xs. image_of xs p) (sym newest_is) ∙ is)) in
    record {
      home = at;
      whole = λ p some.
          let there = value_of (image_of (newest n half) p) some in
          whole_home p half there.0 (at p there.0 there.1) (image_of-one (λ image. length image.1 ≡ 4096) (newest n bytes) p there.0 full (ap (λ xs. image_of xs p) (sym newest_is) ∙ there.1));
    }

-- as many records count as the image's gates say
pub counts_again : {n : ℕ} {bytes image : List ℕ} {all : List (List ℕ)} → Stands bytes all image → HasRecords n image
    → IsFormedBy n image × (pages_by n image ≡ all)
counts_again {n} {bytes} {image} {all} stands has =
    let is : records_in image ≡ n = is_records has in
    (subst (λ (m : ℕ). IsFormedBy m image) is stands.formed, ap (λ (m : ℕ). pages_by m image) (sym is) ∙ stands.pages)

-- No record counts any more, the first gate is closed, and the file stands for what it stood for.
pub record IsEmptied (n : ℕ) (before after : File) : Type 0 where
  pub counting : IsCounting 0 after
  pub gate : get_or after.bytes 2048 0 ≡ 0
  pub stands : Stands before.bytes (pages_by n before.bytes) after.bytes
  pub pages : pages_by 0 after.bytes ≡ pages_by n before.bytes
  pub journal : is_open after.bytes ≡ is_open before.bytes

-- a file whose records count stands for itself
pub stands_itself : (n : ℕ) (bytes : List ℕ) → IsFormedBy n bytes → HasRecords n bytes → Stands bytes (pages_by n bytes) bytes
stands_itself n bytes formed has =
    let is : records_in bytes ≡ n = is_records has in
    record {
      formed = subst (λ (m : ℕ). IsFormedBy m bytes) (sym is) formed;
      pages = ap (λ (m : ℕ). pages_by m bytes) is;
      front = record { no_shorter = omega arith; same = λ i lt low place. refl };
    }

-- where all is on the disk, a crash leaves what the file holds
pub only_itself : (bytes image : List ℕ) → IsImage (all_synced bytes) image → bytes ≡ image
only_itself bytes image left =
    sym (ext_get_or 0 image bytes (omega (arith, left.no_shorter, left.no_longer)) (λ i lt. left.kept i (omega (arith, left.no_longer, lt)) tt))

-- so it stands for that
pub rests_still : (n : ℕ) (before : File) (image : List ℕ) → IsCounting n before → IsImage before.since image → Stands before.bytes (pages_by n before.bytes) image
rests_still n before image counting left =
    subst (λ (xs : List ℕ). Stands before.bytes (pages_by n before.bytes) xs) (only_itself before.bytes image (subst (λ (s : Since). IsImage s image) counting.synced left))
    (stands_itself n before.bytes counting.formed counting.has)

-- a file with a log counts its records
pub logged_counts : (n : ℕ) (file : File) → IsLogged n file → IsCounting n file
logged_counts n file logged = record { synced = logged.synced; has = logged.has; formed = logged.formed }

module _ {D : Type 0} {file : D → Option File} {aside : D → Beside} {attaches : D → Option (List (List ℕ × Bool))} {is_attached : D → Bool} {clock : D → ℕ} {moment : D → ℕ → List ℕ → List ℕ → Type 0} where
  -- while the records are brought home
  pub home_leaves : (n : ℕ) (images : Numbered) {old new : D} → ((disk : D) → IfSome (file disk) IsSound) → ForSome (file old) (IsCounting n)
      → ForSome (file old) (λ f. AreOverlay n f.bytes images)
      → Runs file aside attaches is_attached clock moment IsWithin (torn_home images) old new
      → Leaves file aside attaches is_attached clock moment (λ before image. StandsBy n before.bytes image) old new
  home_leaves n images {old} {new} sound counting over run = runs_leave run (λ after is. sound_image (file new) after (sound new) is)
      (λ before image is left.
      let was = counting before is in
      while_homed n images before.bytes image was.formed was.has (over before is) (subst (λ (s : Since). IsImage (torn_home images s) image) was.synced left))

  -- while the first gate is closed behind that
  pub first_leaves : (n : ℕ) (images : Numbered) {old middle new : D} → ((disk : D) → IfSome (file disk) IsSound) → ForSome (file old) (IsCounting n)
      → ForSome (file old) (λ f. AreOverlay n f.bytes images) → 0 < n
      → Leaves file aside attaches is_attached clock moment (λ before image. StandsBy n before.bytes image) old middle
      → ForSome (file middle) (HoldsHome images)
      → Runs file aside attaches is_attached clock moment IsWithin (torn 2048 1) middle new
      → Leaves file aside attaches is_attached clock moment (StandsStill n) old new
  first_leaves n images {old} {middle} {new} sound counting over some first holds run =
      leaves_then first
      (runs_leave {Kind = λ half image. IsImage (torn 2048 1 (all_synced half.bytes)) image} run (λ after is. sound_image (file new) after (sound new) is)
      (λ half image is left. subst (λ (s : Since). IsImage (torn 2048 1 s) image) (holds half is).settled left))
      (λ before image is by. by.stands)
      (λ before half image is is_half by left.
      let was = counting before is in
      let homed = is_homed n images before.bytes half.bytes was.formed (over before is) by (holds half is_half).home in
      stands_through by.stands (elim (while_first_closed n half.bytes image by.formed by.has some homed left) [
        | inl still ↦ subst (λ (all : List (List ℕ)). Stands half.bytes all image) by.pages still.stands
        | inr closed ↦ subst (λ (all : List (List ℕ)). Stands half.bytes all image) by.pages closed.1
      ]))

  -- once it is closed
  pub first_closed : (n : ℕ) (images : Numbered) {old middle new : D} → ((disk : D) → IfSome (file disk) IsSound) → ForSome (file old) (IsCounting n)
      → ForSome (file old) (λ f. AreOverlay n f.bytes images) → 0 < n
      → Leaves file aside attaches is_attached clock moment (λ before image. StandsBy n before.bytes image) old middle
      → ForSome (file middle) (HoldsHome images)
      → Runs file aside attaches is_attached clock moment IsWithin (torn 2048 1) middle new
      → file new ≡ option_map (λ f. settled (written 2048 (0 ∷ []) f)) (file middle)
      → BothFiles (file old) (file new) (IsEmptied n)
  first_closed n images {old} {middle} {new} sound counting over some first holds run closed = record {
    holds = λ before after is is_after.
        let still = first_leaves n images sound counting over some first holds run in
        let there = first.told before is in
        let end = still.told before is in
        let stands : Stands before.bytes (pages_by n before.bytes) after.bytes = subst (λ (f : File). Stands before.bytes (pages_by n before.bytes) f.bytes) (told_file end.1 is_after) end.2 in
        let long : page_start 2 ≤ length there.0.bytes = there.2.formed.long in
        let now : after ≡ settled (written 2048 (0 ∷ []) there.0) = mapped (λ f. settled (written 2048 (0 ∷ []) f)) (file middle) (file new) there.0 after closed there.1 is_after in
        let bytes : after.bytes ≡ overwritten 2048 (0 ∷ []) there.0.bytes = ap (λ f. f.bytes) now in
        let gate : get_or after.bytes 2048 0 ≡ 0 = ap (λ xs. get_or xs 2048 0) bytes ∙ overwritten_byte 2048 0 there.0.bytes (omega arith) in
        let has : HasRecords 0 after.bytes = record { most = omega arith; opened = λ k lt. absurd (omega arith); stops = λ lt opened. omega arith } in
        let left : IsImage (torn 2048 1 (all_synced there.0.bytes)) after.bytes =
        subst (λ (s : Since). IsImage (torn 2048 1 s) after.bytes) (holds there.0 there.1).settled (final_image (torn 2048 1) sound run there.1 is_after) in
        let homed = is_homed n images before.bytes there.0.bytes (counting before is).formed (over before is) there.2 (holds there.0 there.1).home in
        let gate_same : is_open after.bytes ≡ is_open there.0.bytes = elim (while_first_closed n there.0.bytes after.bytes there.2.formed there.2.has some homed left) [
          | inl by ↦ by.keeps.gate
          | inr by ↦ by.0.keeps.gate
        ] in
        let again = counts_again stands has in
        record {
          counting = record { synced = ap (λ f. f.since) now ∙ ap (λ xs. all_synced xs) (sym bytes); has = has; formed = again.0 };
          gate = gate;
          stands = stands;
          pages = again.1;
          journal = gate_same ∙ there.2.keeps.gate;
        };
  }

  -- while the other gates are closed behind that
  pub checkpoint_leaves : (n : ℕ) {old middle new : D}
      → Leaves file aside attaches is_attached clock moment (StandsStill n) old middle
      → BothFiles (file old) (file middle) (IsEmptied n)
      → Leaves file aside attaches is_attached clock moment (LeavesStrays 0) middle new
      → Leaves file aside attaches is_attached clock moment (StandsStill n) old new
  checkpoint_leaves n {old} {middle} {new} first emptied second = leaves_then first second (λ before image is left. left)
      (λ before half image is is_half left more.
      let was = emptied.holds before half is is_half in
      stands_through was.stands (subst (λ (all : List (List ℕ)). Stands half.bytes all image) was.pages (more.stands was.counting.formed)))

  -- once they are closed
  pub checkpointed : {T E : Type 0} (result : Result T E) (n : ℕ) {old middle : D} (new : D)
      → Leaves file aside attaches is_attached clock moment (StandsStill n) old middle
      → BothFiles (file old) (file middle) (IsEmptied n)
      → OnOk result (BothFiles (file middle) (file new) (IsClosed 0))
      → OnOk result (BothFiles (file old) (file new) (IsStill n))
  checkpointed (Ok done) n {old} {middle} new first emptied second = record {
    holds = λ before after is is_after.
        let there = first.told before is in
        let was = emptied.holds before there.0 is there.1 in
        let closing = second.holds there.0 after there.1 is_after in
        let now = closing.settled in
        let stands : Stands there.0.bytes (pages_by 0 there.0.bytes) after.bytes = now.left.stands was.counting.formed in
        let long : page_start 2 ≤ length there.0.bytes = was.counting.formed.long in
        record {
          logged = record { synced = now.synced; has = now.left.has; none = now.none; formed = (counts_again stands now.left.has).0 };
          stands = stands_through was.stands (subst (λ (all : List (List ℕ)). Stands there.0.bytes all after.bytes) was.pages stands);
          closed = λ some. record {
            zero = λ k from lt. elim (cases_eq k 0) [
              | inl same ↦ ap (λ m. get_or after.bytes (2048 + m) 0) same ∙ (now.left.only.same 2048 (omega arith) (inl (omega arith)) ∙ was.gate)
              | inr other ↦ closing.closed.zero k (omega arith) lt
            ];
          };
          journal = ap (λ b. nat_eq b 79) (now.left.only.same 512 (omega arith) (inl (omega arith))) ∙ was.journal;
        };
  }
  checkpointed (Err e) n {old} {middle} new first emptied second = second

  -- a file that was brought home is ready
  pub ready_homed : (n : ℕ) (images : Numbered) {old new : D}
      → Leaves file aside attaches is_attached clock moment (λ before image. StandsBy n before.bytes image) old new
      → ForSome (file new) (HoldsHome images) → ForSome (file new) IsReady
  ready_homed n images {old} {new} leaves holds = λ f is.
      let before = told_before leaves f is in
      let there = leaves.told before.0 before.1 in
      record { long = subst (λ (x : File). page_start 2 ≤ length x.bytes) (told_file there.1 is) there.2.formed.long; synced = (holds f is).settled }

  -- a file that was emptied counts no record
  pub counts_none : (n : ℕ) {Kind : File → List ℕ → Type 0} {old new : D} → Leaves file aside attaches is_attached clock moment Kind old new
      → BothFiles (file old) (file new) (IsEmptied n) → ForSome (file new) (IsCounting 0)
  counts_none n {Kind} {old} {new} leaves emptied = λ f is. let before = told_before leaves f is in (emptied.holds before.0 f before.1 is).counting

  -- where nothing is called
  pub still_leaves : (n : ℕ) (images : Numbered) (disk : D) → ((disk : D) → IfSome (file disk) IsSound) → ForSome (file disk) (IsLogged n)
      → Leaves file aside attaches is_attached clock moment (StandsEither n images) disk disk
  still_leaves n images disk sound logged = leaves_itself (λ before is. sound_image (file disk) before (sound disk) is)
      (λ before image is left.
      let same : before.bytes ≡ image = only_itself before.bytes image (subst (λ (s : Since). IsImage s image) (logged before is).synced left) in
      record {
        either = inl (rests_still n before image (logged_counts n before (logged before is)) left);
        stays = λ p lt. ap (λ xs. page_by n xs p) (sym same);
      })

-- a file whose records count is ready
pub ready_again : (n : ℕ) (told : Option File) → ForSome told (IsCounting n) → ForSome told IsReady
ready_again n told counting = λ f is. record { long = (counting f is).formed.long; synced = (counting f is).synced }

-- and all of it is on the disk
pub synced_again : (n : ℕ) (told : Option File) → ForSome told (IsCounting n) → ForSome told (λ f. f.since ≡ all_synced f.bytes)
synced_again n told counting = λ f is. (counting f is).synced

-- and it has all of its gates
pub gates_whole : (told : Option File) → ForSome told (IsCounting 0) → ForSome told (λ f. 2080 ≡ min (length f.bytes) 2080)
gates_whole told counting = λ f is. omega (arith, (counting f is).formed.long)

-- a file with a log counts its records
pub counts_logged : (n : ℕ) (told : Option File) → ForSome told (IsLogged n) → ForSome told (IsCounting n)
counts_logged n told logged = λ f is. logged_counts n f (logged f is)

-- in a file that was emptied the first gate isn't open
pub has_none : (told : Option File) → ForSome told (IsCounting 0) → ForSome told (λ f. HasRecords 0 f.bytes)
has_none told counting = λ f is. (counting f is).has
