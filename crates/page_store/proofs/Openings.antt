-- What opening a database leaves, from the clauses of its sync and of its repair.
use Rattle.std.proofs.Common.{◌≡◌, ◌≤◌, ℕ, Bool, true, false, List, [], length, Option, Some, None, is_some, Result, Ok, Err, OnOk, IfErr, IsErrAnd, IfSome, arith, refl, sym, ap, subst, ◌∙◌, inl, inr}
use Rattle.std.specs.Option.{ForSome, option_map}
use Rattle.std.proofs.lemmas.List.{length-replicate}
use Rattle.mdc_outside.specs.Disk.{File, IsSound, settled}
use Rattle.std.proofs.Common.{◌↔◌}
use Rattle.mdc_words.proofs.TimeLemmas.{over_time_wider}
use Rattle.mdc_outside.specs.Moments.{Beside, IsMoment, WhereTold}
use Rattle.page_file.specs.Runs.{Runs, IsWithin, IsCovered}
use Rattle.page_file.proofs.RunsLemmas.{cases_Option, runs_then, runs_within}
use Rattle.page_store.specs.declared.desk.Desk.{Desk}
use Rattle.store_api.specs.declared.shape.Shape.{Shape}
use Rattle.page_file.specs.Leaving.{Leaves}
use Rattle.page_store.specs.FileStore.{beside_of, left_of}
use Rattle.page_store.specs.Shape.{extents_in, extent_pages_in}
use Rattle.mdc_words.specs.Listed.{listed}
use Rattle.page_store.specs.Standing.{pages_in, Stands, IsFormedAs, Reopens}
use Rattle.page_store.specs.Desk.{IsKept, base_of, base_in, work_of, state_of}
use Rattle.page_store.specs.Opening.{IsServed, IsAtRest, StandsAs}
use Rattle.page_store.specs.Opened.{CouldBeLeft, Opens, LeavesBaseSince, IsEmptyDesk, IsJustOpened, file_bytes}
use Rattle.page_store.proofs.Commits.{pages_at_rest}
use Rattle.page_store.proofs.Desks.{unchanged_work}
use Rattle.page_store.proofs.FrontAgreesLemmas.{front_agrees_stays, front_agrees_then, front_agrees_back}
use Rattle.page_store.proofs.Judged.{served_formed}
use Rattle.page_store.proofs.Repairs.{itself_stands}
use Rattle.mdc_outside.proofs.MomentLemmas.{where_told}
use Rattle.page_file.proofs.LeavesLemmas.{nothing_said, runs_leave, sound_image}

-- what holds whatever a call answered
pub on_ok : {T E : Type 0} (result : Result T E) {P : Type 0} → P → OnOk result P
on_ok (Ok x) holds = holds
on_ok (Err e) holds = tt

-- the same of each fault
pub if_err : {T E : Type 0} (result : Result T E) {P : E → Type 0} → ((fault : E) → P fault) → IfErr result P
if_err (Ok x) each = tt
if_err (Err e) each = each e

-- the same where there is one fault alone
pub if_err_as : {T E : Type 0} (result : Result T E) (fault : E) (P : E → Type 0) → IsErrAnd result (λ given. given ≡ fault) → P fault → IfErr result P
if_err_as (Ok x) fault P is holds = tt
if_err_as (Err e) fault P is holds = subst P (sym is) holds

-- a sync changes no byte
pub settled_bytes : (old new : Option File) → new ≡ option_map settled old → file_bytes new ≡ file_bytes old
settled_bytes None new is = ap file_bytes is
settled_bytes (Some file) new is = ap file_bytes is

-- a file that was told is told after a sync
pub settled_told : {old new : Option File} (before : File) → new ≡ option_map settled old → old ≡ Some before → new ≡ Some (settled before)
settled_told before is told = is ∙ ap (option_map settled) told

module _ {D : Type 0} {file : D → Option File} {aside : D → Beside} {attaches : D → Option (List (List ℕ × Bool))} {is_attached : D → Bool} {clock : D → ℕ} {moment : D → ℕ → List ℕ → List ℕ → Type 0} where
  -- a sync, and then a run that keeps what the file stands for
  pub opens : {old middle new : D} → file middle ≡ option_map settled (file old)
      → Runs file aside attaches is_attached clock moment IsWithin (λ since. since) old middle
      → WhereTold (file middle) (aside middle).tape (λ f said. (image tape : List ℕ) → moment middle (clock middle) image tape ↔ IsMoment f.since said [] image tape)
      → Leaves file aside attaches is_attached clock moment (λ before image. StandsAs before.bytes image) middle new
      → Opens file aside attaches is_attached clock moment old new
  opens {old} {middle} {new} synced run only_now leaves = record {
    untold = λ none. leaves.untold (run.untold none);
    told = λ before is. leaves.told (settled before) (settled_told before synced is);
    crash = λ before said is tape. (
      middle,
      record {
        until = over_time_wider (run.crash before said is tape) (λ image heard moment.
            (moment.left, nothing_said moment.said.0 moment.said.1 said heard moment.said.2 moment.said.3));
        at_origin = record {
          only_rest = λ image heard now.
              let then = ap (λ b. b.tape) run.beside ∙ tape in
              let Now : File → List ℕ → Type 0 = λ f s. (image tape : List ℕ) → moment middle (clock middle) image tape ↔ IsMoment f.since s [] image tape in
              let left = (where_told (file middle) (aside middle).tape (settled before) said Now (settled_told before synced is) then only_now image heard).0 now in
              (itself_stands (settled before) image refl left.left, nothing_said left.said.0 left.said.1 said heard left.said.2 left.said.3);
        };
        since = leaves.crash (settled before) said (settled_told before synced is) (ap (λ b. b.tape) run.beside ∙ tape);
      },
    );
    later = omega (arith, run.later, leaves.later);
    attached = leaves.attached ∙ run.attached;
    listed = leaves.listed ∙ run.listed;
    beside = leaves.beside ∙ run.beside;
  }

  -- a sync, and then a run that only reads
  pub read_leaves : {old middle new : D}
      → Runs file aside attaches is_attached clock moment IsWithin (λ since. since) old middle
      → Runs file aside attaches is_attached clock moment IsCovered (λ since. since) middle new
      → IfSome (file new) IsSound
      → Leaves file aside attaches is_attached clock moment CouldBeLeft old new
  read_leaves {old} {middle} {new} synced read sound =
      let both : Runs file aside attaches is_attached clock moment IsWithin (λ since. since) old new =
      runs_then synced (runs_within read) (λ before half is_before is_half within. within) (λ before half after is_before is_half is_after within later image left. within image (later image left)) in
      runs_leave both (λ f is. sound_image (file new) f sound is) (λ before image is left. left)

  -- the file that was served stands for what it rests with
  pub served_base : {old new : D} (desk : Desk) → Opens file aside attaches is_attached clock moment old new
      → ForSome (file new) (IsAtRest desk.shape.extents desk.shape.extent_pages desk.base) → desk.halt ≡ None
      → (before : File) → file old ≡ Some before → IsServed before.bytes → base_of (file new) desk ≡ pages_in before.bytes
  served_base desk opened rests going before is served =
      let after = opened.told before is in
      let stands = after.2.1 (served_formed before.bytes served) in
      ap (λ told. base_of told desk) after.1
      ∙ (ap (λ halt. base_in halt desk.base after.0.bytes) going
      ∙ (sym (pages_at_rest desk.shape.extents desk.shape.extent_pages desk.base after.0 (rests after.0 after.1)) ∙ stands.pages))

  -- a file is told as before
  pub still_told : {old new : D} → Opens file aside attaches is_attached clock moment old new → is_some (file new) ≡ is_some (file old)
  still_told {old} {new} opened = elim (cases_Option (file old)) [
    | inl none ↦ ap is_some (opened.untold none) ∙ sym (ap is_some none)
    | inr some ↦ ap is_some (opened.told some.0 some.1).1 ∙ sym (ap is_some some.1)
  ]

-- the desk has the shape and the count that the file rests with
pub rests_with : {told : Option File} {shape : Shape} {count : ℕ} (desk : Desk) → desk.shape ≡ shape → desk.base ≡ count
    → ForSome told (IsAtRest shape.extents shape.extent_pages count) → ForSome told (IsAtRest desk.shape.extents desk.shape.extent_pages desk.base)
rests_with desk shape base rests = λ file is. rw (shape, base) (rests file is)

-- an empty desk fits a file at rest
pub empty_kept : (told : Option File) (desk : Desk) → IsEmptyDesk desk → ForSome told (IsAtRest desk.shape.extents desk.shape.extent_pages desk.base)
    → 18 ≤ desk.base → desk.base ≤ 262289 → IsKept desk told
empty_kept told desk empty rests some few =
    let size : length desk.changes.now ≡ desk.base = ap (λ changes. length changes.now) empty.changes ∙ length-replicate desk.base None in
    record {
      at_rest = rests;
      clean = λ file is. rw empty.cache (λ k entry lt. absurd (omega arith));
      some = some;
      based = ap (λ changes. changes.base) empty.changes;
      count = (omega arith, omega arith);
      marked = λ changes is. (let none = ap (λ changes. changes.marked) empty.changes in absurd (cc));
      hand = λ there. (let none : false ≡ true = rw empty.hand at there in absurd (cc));
      ready = λ is. (let none = empty.prepared in absurd (cc));
    }

-- what a store with an empty desk is seen as
pub just_opened : (told : Option File) (tape : Option (List ℕ)) (attaches : Option (List (List ℕ × Bool))) (desk : Desk) → IsEmptyDesk desk
    → IsJustOpened (is_some told) tape desk.shape attaches None (state_of told tape (beside_of desk.shape attaches) desk)
just_opened told tape attaches desk empty =
    let work : work_of told desk desk.changes.now ≡ base_of told desk = ap (λ changes. work_of told desk changes.now) empty.changes ∙ unchanged_work told desk empty.halt in
    let marked : desk.changes.marked ≡ None = ap (λ changes. changes.marked) empty.changes in
    let hand = empty.hand in
    let unready = empty.prepared in
    let halt = empty.halt in
    rw (work, marked, hand, unready, halt) refl

-- the same by what the host told before
pub shown_as_before : (told : Option File) (tape before : Option (List ℕ)) (attaches listed : Option (List (List ℕ × Bool))) (is_told : Bool) (desk : Desk) → IsEmptyDesk desk
    → is_some told ≡ is_told → tape ≡ before → attaches ≡ listed → IsJustOpened is_told before desk.shape listed None (state_of told tape (beside_of desk.shape attaches) desk)
shown_as_before told tape before attaches listed is_told desk empty same_told same_tape same_attaches = just_opened told tape attaches desk empty ∙ rw (same_told, same_tape, same_attaches) refl

-- a file that a store serves states its shape
pub states_shape : (told : Option File) (desk : Desk) (before after : File) → told ≡ Some after → IsKept desk told → IsServed before.bytes → StandsAs before.bytes after.bytes
    → IsFormedAs desk.shape before.bytes
states_shape told desk before after is kept served stands =
    let formed = served_formed before.bytes served in
    let birth = (stands.1 formed).birth in
    let rest = kept.at_rest after is in
    record {
      formed = formed;
      extents = ap extents_in (sym birth) ∙ rest.states_extents;
      extent_pages = ap extent_pages_in (sym birth) ∙ rest.states_extent_pages;
    }

-- what stands as a file of the store's shape reopens to its pages, also once the file is another that does
pub stands_reopens : (shape : Shape) (file half image : List ℕ) (pages : Option (List (List ℕ))) → IsFormedAs shape file → Stands file (pages_in file) half → Stands file (pages_in file) image
    → Reopens shape half image pages → pages ≡ Some (pages_in file)
stands_reopens shape file half image None formed now stands none =
    absurd (none (record {
      formed = record { formed = stands.formed; extents = ap extents_in stands.birth ∙ formed.extents; extent_pages = ap extent_pages_in stands.birth ∙ formed.extent_pages };
      front = front_agrees_then (front_agrees_back (front_agrees_stays formed.formed now.front)) (front_agrees_stays formed.formed stands.front);
    }))
stands_reopens shape file half image (Some all) formed now stands some = ap (λ pages. Some pages) (some.1 ∙ stands.pages)

-- so the store leaves these pages alone, since the host leaves only what stands as the file
pub leaves_base_since : (shape : Shape) (told : Option File) (tape : Option (List ℕ)) (moment : ℕ → List ℕ → List ℕ → Type 0) (file said : List ℕ) → IsFormedAs shape file
    → ((after : File) → told ≡ Some after → StandsAs file after.bytes)
    → LeavesBaseSince moment (left_of shape told tape moment) file said
leaves_base_since shape told tape moment file said formed now t only pages heard left =
    let image = only left.4 heard left.5 in
    (stands_reopens shape file left.0.bytes left.4 pages formed ((now left.0 left.1).1 formed.formed) (image.0.1 formed.formed) left.6, image.1)
