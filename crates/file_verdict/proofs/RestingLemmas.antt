-- What a crash leaves of a file that is opened, since the origin of the opening and since any earlier time.
use Rattle.std.proofs.Common.{◌≡◌, ◌⊎◌, ◌≤◌, ◌↔◌, ℕ, List, [], Option, Some, refl, sym, inl, inr, arith, append-nil}
use Rattle.mdc_words.specs.Time.{OverTime, ReachesBack}
use Rattle.mdc_outside.specs.Disk.{File, IsImage}
use Rattle.mdc_outside.specs.Moments.{IsMoment, WhereTold}
use Rattle.mdc_outside.specs.declared.disk.Disk as disk
use Rattle.mdc_outside.proofs.MomentLemmas.{where_told}
use Rattle.store_api.specs.declared.pages.Pages as pages
use Rattle.table_trees.specs.ToldPages.{PageList}
use Rattle.page_file.specs.Bound.{LeavesOf}
use Rattle.page_file.specs.Leaving.{LeavesImage}
use Rattle.page_store.specs.Bound.{OpensOf}
use Rattle.page_store.specs.Opened.{CouldBeLeft, LeavesBaseSince, StandsSince}
use Rattle.page_store.specs.Opening.{StandsAs}
use Rattle.page_store.specs.Standing.{pages_in}
use Rattle.file_verdict.specs.Resting.{ComesToRest, LeavesSince, WasTold}

-- A store left pages since a time, with this tape. Where they are those of the file, and the tape is as it was said, an image is of the
-- kind.
pub record IsLeftByStore {S : Type 0} (g : pages.Ghosts S) (store : S) (file said : List ℕ) (Kind : List ℕ → List ℕ → Type 0) (t : ℕ) (image heard : List ℕ) : Type 0 where
  pub pages : Option PageList
  pub left : g.left store t pages heard
  pub kind : pages ≡ Some (pages_in file) → heard ≡ said → Kind image heard

module _ {D : Type 0} (d : disk.Ghosts D) where
  -- a host tells that of its file and its tape what a crash now leaves
  abbrev pub TellsNow : D → Type 0
  TellsNow host = WhereTold (d.file host) (d.beside host).tape (λ file said. (image tape : List ℕ) → d.moment host (d.clock host) image tape ↔ IsMoment file.since said [] image tape)

  -- since the origin of an opening a crash leaves what stands for the pages of the file
  pub since_origin : (before : File) (said : List ℕ) (old origin new : D) → StandsSince d.clock d.moment before said old origin new → (image heard : List ℕ) → d.moment new (d.clock origin) image heard
      → StandsAs before.bytes image × (heard ≡ said)
  since_origin before said old origin new stands image heard now = elim (stands.since.only (d.clock origin) image heard (omega arith) now) [
    | inl was ↦ stands.at_origin.only_rest image heard was
    | inr within ↦ within
  ]

  -- since a time before an opening a crash leaves what was said as it began, or could be left before
  pub said_by_opening : (before : File) (said : List ℕ) (old origin new : D) → StandsSince d.clock d.moment before said old origin new
      → (t : ℕ) (image heard : List ℕ) → t ≤ d.clock old → d.moment new t image heard → WasTold d t said old heard
  said_by_opening before said old origin new stands t image heard early now = elim (stands.since.only t image heard (omega (arith, early, stands.until.later)) now) [
    | inl at_origin ↦ elim (stands.until.only t image heard early at_origin) [ inl at_start ↦ inr (image, at_start) | inr could ↦ inl could.1 ]
    | inr within ↦ inl within.1
  ]

  -- ---- a store was opened

  -- Where each image that its host leaves is of a kind, or of the kind where the store left the pages of the file, a run on the store
  -- that was opened comes to rest.
  pub rests_on_file : {S : Type 0} (g : pages.Ghosts S) (store : S) (before : File) (said : List ℕ) (Kind : List ℕ → List ℕ → Type 0) (old opened new : D)
      → ((t : ℕ) (image heard : List ℕ) → t ≤ g.clock store → d.moment new t image heard → Kind image heard ⊎ IsLeftByStore g store before.bytes said Kind t image heard)
      → (origin : D) × StandsSince d.clock d.moment before said old origin opened → g.clock store ≡ d.clock opened → d.clock opened ≤ d.clock new
      → ((t : ℕ) (left : Option PageList) (heard : List ℕ) → g.left store t left heard → (image : List ℕ) × d.moment opened t image heard)
      → LeavesBaseSince (d.moment opened) (g.left store) before.bytes said → ComesToRest d before said Kind old new
  rests_on_file g store before said Kind old opened new leaves (origin, stands) same_clock later by_host rests = record {
    origin = origin;
    until = stands.until;
    later = omega (arith, stands.since.later, later);
    since = λ image heard now. elim (leaves (d.clock origin) image heard (omega (arith, stands.since.later, same_clock)) now) [
      | inl kind ↦ kind
      | inr was ↦ let rest = rests (d.clock origin) (since_origin before said old origin opened stands) was.pages heard was.left in was.kind rest.0 rest.1
    ];
    behind = λ t image heard early now. elim (leaves t image heard (omega (arith, early, stands.until.later, stands.since.later, same_clock)) now) [
      | inl kind ↦ inl kind
      | inr was ↦ let at_opening = by_host t was.pages heard was.left in inr (said_by_opening before said old origin opened stands t at_opening.0 heard early at_opening.1)
    ];
  }

  -- ---- none was opened

  -- nothing was told meanwhile, and the file is told still
  pub kept_beside : (old new : D) (First : Type 0) → OpensOf d old new ⊎ (First × LeavesOf d CouldBeLeft old new) → d.beside new ≡ d.beside old
  kept_beside old new First (inl opens) = opens.beside
  kept_beside old new First (inr leaves) = leaves.1.beside

  pub stays_file : (old new : D) (First : Type 0) → OpensOf d old new ⊎ (First × LeavesOf d CouldBeLeft old new) → (was : File) → d.file old ≡ Some was → (is : File) × (d.file new ≡ Some is)
  stays_file old new First (inl opens) was is = let after = opens.told was is in (after.0, after.1)
  stays_file old new First (inr leaves) was is = let after = leaves.1.told was is in (after.0, after.1)

  pub stays_attached : (old new : D) (First : Type 0) → OpensOf d old new ⊎ (First × LeavesOf d CouldBeLeft old new) → d.attaches new ≡ d.attaches old
  stays_attached old new First (inl opens) = opens.listed
  stays_attached old new First (inr leaves) = leaves.1.listed

  pub goes_on : (old new : D) (First : Type 0) → OpensOf d old new ⊎ (First × LeavesOf d CouldBeLeft old new) → d.clock old ≤ d.clock new
  goes_on old new First (inl opens) = opens.later
  goes_on old new First (inr leaves) = leaves.1.later

  -- A crash within an opening that was refused leaves what stands for the pages of the file, since its origin. Where it came to none, it
  -- leaves what could be left before, and something is known of the refusal.
  pub rests_refused : (before : File) (said : List ℕ) (Kind : List ℕ → List ℕ → Type 0) (old new : D) (First Known : Type 0) → ((image heard : List ℕ) → StandsAs before.bytes image → heard ≡ said → Kind image heard)
      → (First → Known) → d.file old ≡ Some before → (d.beside old).tape ≡ Some said → OpensOf d old new ⊎ (First × LeavesOf d CouldBeLeft old new)
      → ComesToRest d before said Kind old new ⊎ (Known × OverTime d.clock d.moment (LeavesImage (CouldBeLeft before) said) old new)
  rests_refused before said Kind old new First Known kind known is told (inl opens) =
      let crash = opens.crash before said is told in
      inl (record {
        origin = crash.0;
        until = crash.1.until;
        later = crash.1.since.later;
        since = λ image heard now. let rest = since_origin before said old crash.0 new crash.1 image heard now in kind image heard rest.0 rest.1;
        behind = λ t image heard early now. inr (said_by_opening before said old crash.0 new crash.1 t image heard early now);
      })
  rests_refused before said Kind old new First Known kind known is told (inr leaves) = inr (known leaves.0, leaves.1.crash before said is told)

  -- a run of which something is known where it came to no origin leaves so much
  pub leaves_since : (before : File) (said : List ℕ) (Kind : List ℕ → List ℕ → Type 0) (old new : D) {Known : Type 0}
      → ComesToRest d before said Kind old new ⊎ (Known × OverTime d.clock d.moment (LeavesImage (CouldBeLeft before) said) old new) → LeavesSince d before said Kind old new
  leaves_since before said Kind old new (inl rest) = inl rest
  leaves_since before said Kind old new (inr stopped) = inr stopped.1

  -- ---- each image is of a kind

  -- an image that may be left now was left since an earlier time
  pub image_since : (host : D) (after : File) (heard : List ℕ) (t : ℕ) (image : List ℕ) → TellsNow host → ReachesBack d.clock d.moment host → d.file host ≡ Some after → (d.beside host).tape ≡ Some heard
      → t ≤ d.clock host → IsImage after.since image → d.moment host t image heard
  image_since host after heard t image now back is told early left =
      let tells = where_told (d.file host) (d.beside host).tape after heard (λ file said. (image tape : List ℕ) → d.moment host (d.clock host) image tape ↔ IsMoment file.since said [] image tape) is told now in
      back t (d.clock host) image heard early (omega arith) ((tells image heard).1 (record { left = left; said = ([], [], refl, sym (append-nil heard)) }))

  -- so behind a run that came to rest it is one that the run leaves, with all that was said
  pub left_at_rest : (before after : File) (said heard : List ℕ) (old new : D) (Left : List ℕ → List ℕ → Type 0) → TellsNow new → ReachesBack d.clock d.moment new
      → d.file new ≡ Some after → (d.beside new).tape ≡ Some heard → ComesToRest d before said Left old new → (image : List ℕ) → IsImage after.since image → Left image heard
  left_at_rest before after said heard old new Left now_new back is_after heard_after rest image left =
      rest.since image heard (image_since new after heard (d.clock rest.origin) image now_new back is_after heard_after rest.later left)

  -- an image that could be left after a run is one that the run leaves, with all that was said; or it could be left before it
  pub left_at_end : (before after : File) (said heard : List ℕ) (old new : D) (Left : List ℕ → List ℕ → Type 0) → TellsNow old → TellsNow new → ReachesBack d.clock d.moment new → d.file old ≡ Some before → (d.beside old).tape ≡ Some said
      → d.file new ≡ Some after → (d.beside new).tape ≡ Some heard → LeavesSince d before said Left old new → (image : List ℕ) → IsImage after.since image → Left image heard ⊎ IsImage before.since image
  left_at_end before after said heard old new Left now_old now_new back is told is_after heard_after (inl rest) image left =
      inl (left_at_rest before after said heard old new Left now_new back is_after heard_after rest image left)
  left_at_end before after said heard old new Left now_old now_new back is told is_after heard_after (inr run) image left =
      let was = image_since new after heard (d.clock old) image now_new back is_after heard_after run.later left in
      let tells = where_told (d.file old) (d.beside old).tape before said (λ file said. (image tape : List ℕ) → d.moment old (d.clock old) image tape ↔ IsMoment file.since said [] image tape) is told now_old in
      inr (elim (run.only (d.clock old) image heard (omega arith) was) [
        | inl now ↦ ((tells image heard).0 now).left
        | inr could ↦ could.0
      ])

  -- where each image was of a kind, and a run leaves such ones, each is so after it
  pub each_since : (Kind : List ℕ → Type 0) (before after : File) (said heard : List ℕ) (old new : D) (Left : List ℕ → List ℕ → Type 0) → TellsNow old → TellsNow new → ReachesBack d.clock d.moment new → d.file old ≡ Some before → (d.beside old).tape ≡ Some said
      → d.file new ≡ Some after → (d.beside new).tape ≡ Some heard → ((image tape : List ℕ) → Left image tape → Kind image) → ((image : List ℕ) → IsImage before.since image → Kind image)
      → LeavesSince d before said Left old new → (image : List ℕ) → IsImage after.since image → Kind image
  each_since Kind before after said heard old new Left now_old now_new back is told is_after heard_after each were leaves image left =
      elim (left_at_end before after said heard old new Left now_old now_new back is told is_after heard_after leaves image left) [ inl by_run ↦ each image heard by_run | inr could ↦ were image could ]
