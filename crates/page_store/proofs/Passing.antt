-- How the moments of a host are those of the store that owns it.
use Rattle.std.proofs.Common.{◌≡◌, ◌⊎◌, ℕ, Bool, List, [], true, false, IsSome, Option, Some, None, Result, Ok, Err, OnOk, OnErr, IfSome, is_some, inl, inr, arith, sym, ap, subst, ◌∙◌}
use Rattle.std.proofs.Common.{◌↔◌}
use Rattle.std.specs.Option.{ForSome}
use Rattle.store_api.specs.StoreState.{StoreState}
use Rattle.store_api.specs.StoreState as store
use Rattle.mdc_words.specs.Time.{OverTime, RestsAt}
use Rattle.store_api.specs.Moments.{Outcomes, OnlyBase, BaseOrWork, AtRest}
use Rattle.mdc_outside.specs.Disk.{File, IsImage}
use Rattle.mdc_outside.specs.Moments.{Beside, IsMoment, WhereTold}
use Rattle.page_store.specs.declared.desk.Desk.{Desk}
use Rattle.mdc_words.specs.Listed.{listed}
use Rattle.page_store.specs.Standing.{pages_in, page_of, FrontAgrees, IsStoreImage, Reopens}
use Rattle.page_file.specs.Layout.{home_page}
use Rattle.page_file.specs.Leaving.{Leaves}
use Rattle.page_store.specs.Desk.{IsKept, StandsForEither, CommitLeaves, RestsEither, state_of, base_of, base_in, work_of}
use Rattle.page_store.specs.FileStore.{HeldStore, beside_of, left_of}
use Rattle.page_file.proofs.LeavesLemmas.{nothing_said}
use Rattle.mdc_outside.proofs.MomentLemmas.{where_told}
use Rattle.page_store.proofs.FrontAgreesLemmas.{front_agrees_itself, front_agrees_back, front_agrees_stays, reopens_as, agrees_same}
use Rattle.mdc_words.proofs.ListedLemmas.{listed_same}
use Rattle.page_store.proofs.Pages.{page_of-closed}
use Rattle.page_store.proofs.Crashes.{only_itself}
use Rattle.page_file.proofs.LeavesLemmas.{told_before}

-- the bytes told are those of the tape
pub if_said : (tape : Option (List ℕ)) (said : List ℕ) → tape ≡ Some said → IfSome tape (λ bytes. said ≡ bytes)
if_said None said is = absurd (cc)
if_said (Some bytes) said is = cc

-- a file at rest reopens to the base
pub kept_reopens : (told : Option File) (desk : Desk) (file : File) (image : List ℕ) (pages : Option (List (List ℕ))) → IsKept desk told → desk.halt ≡ None → told ≡ Some file
    → IsImage file.since image → Reopens desk.shape file.bytes image pages → pages ≡ Some (base_of told desk)
kept_reopens told desk file image pages kept going is left reopens =
    let rest = kept.at_rest file is in
    let itself : image ≡ file.bytes = only_itself file.bytes image (subst (λ since. IsImage since image) rest.synced left) in
    let base : pages_in file.bytes ≡ base_of told desk =
    ap (λ n. listed n (page_of file.bytes)) rest.states_pages
    ∙ (listed_same desk.base (page_of file.bytes) (home_page file.bytes) (λ p lt. page_of-closed file.bytes p rest.closed)
    ∙ (ap (λ halt. base_in halt desk.base file.bytes) (sym going) ∙ ap (λ t. base_of t desk) (sym is))) in
    go pages (subst (λ xs. Reopens desk.shape file.bytes xs pages) itself reopens) base (record { formed = record { formed = rest.formed; extents = rest.states_extents; extent_pages = rest.states_extent_pages }; front = front_agrees_itself file.bytes }) where
      go : (pages : Option (List (List ℕ))) → Reopens desk.shape file.bytes file.bytes pages → pages_in file.bytes ≡ base_of told desk → IsStoreImage desk.shape file.bytes file.bytes → pages ≡ Some (base_of told desk)
      go None none base formed = absurd (none formed)
      go (Some all) some base formed = ap (λ ps. Some ps) (some.1 ∙ base)

-- an image of the base or of the work reopens to it
pub either_reopens : (told : Option File) (desk : Desk) (file : File) (image : List ℕ) (pages : Option (List (List ℕ))) → told ≡ Some file
    → StandsForEither desk file image → FrontAgrees file.bytes image → Reopens desk.shape file.bytes image pages → (pages ≡ Some (base_of told desk)) ⊎ (pages ≡ Some (work_of told desk desk.changes.now))
either_reopens told desk file image None is stands front reopens = absurd (reopens (record { formed = stands.0; front = front }))
either_reopens told desk file image (Some all) is stands front reopens = elim stands.1 [
  | inl base ↦ inl (ap (λ ps. Some ps) (reopens.1 ∙ (base ∙ ap (λ t. base_of t desk) (sym is))))
  | inr work ↦ inr (ap (λ ps. Some ps) (reopens.1 ∙ (work ∙ ap (λ t. work_of t desk desk.changes.now) (sym is))))
]

-- where a commit has failed, the base or the work is left
pub rests_with_either : (state : StoreState) (pages : Option (List (List ℕ))) (heard : List ℕ) → state.ended ≡ true → BaseOrWork state pages heard → AtRest state pages heard
rests_with_either state pages heard ended either = rw ended either

-- where no commit has failed, the base alone is left between two calls
pub rests_with_base : (state : StoreState) (pages : Option (List (List ℕ))) (heard : List ℕ) → state.ended ≡ false → OnlyBase state pages heard → AtRest state pages heard
rests_with_base state pages heard going only = rw going only

-- what a commit leaves agrees with the file
pub commit_agrees : (told : Option File) (desk : Desk) → IsKept desk told → (before : File) (image : List ℕ) → told ≡ Some before → CommitLeaves desk before image → FrontAgrees before.bytes image
commit_agrees told desk kept before image is leaves = front_agrees_stays (kept.at_rest before is).formed leaves.1

-- what is left after a commit, done or failed
pub commit_rests : {T E : Type 0} (result : Result T E) (told : Option File) (tape : Option (List ℕ)) (beside : store.Beside) (desk : Desk)
    → OnOk result (desk.halt ≡ None) → OnOk result (IsKept desk told) → OnErr result (IsSome desk.halt) → OnErr result (ForSome told (RestsEither desk))
    → ((after : File) (image : List ℕ) → told ≡ Some after → IsImage after.since image → FrontAgrees after.bytes image)
    → (after : File) (said image : List ℕ) (pages : Option (List (List ℕ))) → told ≡ Some after → tape ≡ Some said → IsImage after.since image → Reopens desk.shape after.bytes image pages
    → AtRest (state_of told tape beside desk) pages said
commit_rests (Ok done) told tape beside desk going kept halted rests fronts after said image pages is heard left reopens =
    rests_with_base (state_of told tape beside desk) pages said (ap (λ halt. is_some halt) going)
    (kept_reopens told desk after image pages kept going is left reopens, if_said tape said heard)
commit_rests (Err e) told tape beside desk going kept halted rests fronts after said image pages is heard left reopens =
    rests_with_either (state_of told tape beside desk) pages said halted
    (either_reopens told desk after image pages is (rests after is image left) (fronts after image is left) reopens, if_said tape said heard)

module _ {H L : Type 0} {file : H → Option File} {aside : H → Beside} {attaches : H → Option (List (List ℕ × Bool))} {is_attached : H → Bool} {clock : H → ℕ} {moment : H → ℕ → List ℕ → List ℕ → Type 0} where
  -- time goes on over a call of the store as over its calls of the host
  pub passes : {Kind : File → List ℕ → Type 0} (Within : Outcomes) (old new : HeldStore H L)
      → Leaves file aside attaches is_attached clock moment Kind old.host new.host
      → new.desk.shape ≡ old.desk.shape
      → ((before after : File) → file old.host ≡ Some before → file new.host ≡ Some after → FrontAgrees before.bytes after.bytes)
      → ((before : File) (said image : List ℕ) (pages : Option (List (List ℕ))) → file old.host ≡ Some before → (aside old.host).tape ≡ Some said → Kind before image → Reopens old.desk.shape before.bytes image pages → Within pages said)
      → OverTime (λ (s : HeldStore H L). clock s.host) (λ (s : HeldStore H L). left_of s.desk.shape (file s.host) (aside s.host).tape (moment s.host)) Within old new
  passes {Kind} Within old new leaves shape agrees within = record {
    later = leaves.later;
    keeps = λ t pages heard early left.
        let after = leaves.told left.0 left.1 in
        let tape : (aside new.host).tape ≡ Some left.2 = ap (λ b. b.tape) leaves.beside ∙ left.3 in
        (after.0, after.1, left.2, tape, left.4, (leaves.crash left.0 left.2 left.1 left.3).keeps t left.4 heard early left.5, reopens_as (sym shape) (agrees left.0 after.0 left.1 after.1) left.4 pages left.6);
    only = λ t pages heard early left.
        let before = told_before leaves left.0 left.1 in
        let tape : (aside old.host).tape ≡ Some left.2 = ap (λ b. b.tape) (sym leaves.beside) ∙ left.3 in
        elim ((leaves.crash before.0 left.2 before.1 tape).only t left.4 heard early left.5) [
          | inl past ↦ inl (before.0, before.1, left.2, tape, left.4, past, reopens_as shape (front_agrees_back (agrees before.0 left.0 before.1 left.1)) left.4 pages left.6)
          | inr since ↦ inr (subst (λ (bytes : List ℕ). Within pages bytes) (sym since.1) (within before.0 left.2 left.4 pages before.1 tape since.0 (reopens_as shape (front_agrees_back (agrees before.0 left.0 before.1 left.1)) left.4 pages left.6)))
        ];
  }

  -- a call that tears nothing of a file at rest leaves the base alone
  pub keeps_base : (old new : HeldStore H L)
      → Leaves file aside attaches is_attached clock moment (λ before image. IsImage before.since image) old.host new.host
      → file new.host ≡ file old.host → IsKept old.desk (file old.host) → old.desk.halt ≡ None → new.desk.shape ≡ old.desk.shape
      → OverTime (λ (s : HeldStore H L). clock s.host) (λ (s : HeldStore H L). left_of s.desk.shape (file s.host) (aside s.host).tape (moment s.host))
      (OnlyBase (state_of (file old.host) (aside old.host).tape (beside_of old.desk.shape (attaches old.host)) old.desk)) old new
  keeps_base old new leaves same kept going shape =
      passes (OnlyBase (state_of (file old.host) (aside old.host).tape (beside_of old.desk.shape (attaches old.host)) old.desk)) old new leaves shape (agrees_same same)
      (λ before said image pages is tape left reopens. (kept_reopens (file old.host) old.desk before image pages kept going is left reopens, if_said (aside old.host).tape said tape))

-- a call that makes no call of the host leaves what was left
pub stays : {H L : Type 0} (file : H → Option File) (aside : H → Beside) (clock : H → ℕ) (moment : H → ℕ → List ℕ → List ℕ → Type 0) (Within : Outcomes) (host : H) (desk new : Desk) {log : L}
    → new.shape ≡ desk.shape
    → OverTime (λ (s : HeldStore H L). clock s.host) (λ (s : HeldStore H L). left_of s.desk.shape (file s.host) (aside s.host).tape (moment s.host)) Within (record { host = host; desk = desk; log = log }) (record { host = host; desk = new; log = log })
stays file aside clock moment Within host desk new shape = record {
  later = omega arith;
  keeps = λ t pages heard early left. (left.0, left.1, left.2, left.3, left.4, left.5, reopens_as (sym shape) (front_agrees_itself left.0.bytes) left.4 pages left.6);
  only = λ t pages heard early left. inl (left.0, left.1, left.2, left.3, left.4, left.5, reopens_as shape (front_agrees_itself left.0.bytes) left.4 pages left.6);
}

-- what is left at rest, by what the file leaves
pub rests : {H L : Type 0} (file : H → Option File) (aside : H → Beside) (attaches : H → Option (List (List ℕ × Bool))) (clock : H → ℕ) (moment : H → ℕ → List ℕ → List ℕ → Type 0) (held : HeldStore H L)
    → WhereTold (file held.host) (aside held.host).tape (λ f said. (image tape : List ℕ) → moment held.host (clock held.host) image tape ↔ IsMoment f.since said [] image tape)
    → ((after : File) (said image : List ℕ) (pages : Option (List (List ℕ))) → file held.host ≡ Some after → (aside held.host).tape ≡ Some said → IsImage after.since image → Reopens held.desk.shape after.bytes image pages
    → AtRest (state_of (file held.host) (aside held.host).tape (beside_of held.desk.shape (attaches held.host)) held.desk) pages said)
    → RestsAt (λ (s : HeldStore H L). clock s.host) (λ (s : HeldStore H L). left_of s.desk.shape (file s.host) (aside s.host).tape (moment s.host))
    (AtRest (state_of (file held.host) (aside held.host).tape (beside_of held.desk.shape (attaches held.host)) held.desk)) held
rests file aside attaches clock moment held only_now at_rest = record {
  only_rest = λ pages heard left.
      let Now : File → List ℕ → Type 0 = λ f s. (image tape : List ℕ) → moment held.host (clock held.host) image tape ↔ IsMoment f.since s [] image tape in
      let now = (where_told (file held.host) (aside held.host).tape left.0 left.2 Now left.1 left.3 only_now left.4 heard).0 left.5 in
      let said : heard ≡ left.2 = nothing_said now.said.0 now.said.1 left.2 heard now.said.2 now.said.3 in
      subst (λ (bytes : List ℕ). AtRest (state_of (file held.host) (aside held.host).tape (beside_of held.desk.shape (attaches held.host)) held.desk) pages bytes) (sym said) (at_rest left.0 left.2 left.4 pages left.1 left.3 now.left left.6);
}

-- a store that fits a file at rest leaves its base
pub rests_kept : {H L : Type 0} (file : H → Option File) (aside : H → Beside) (attaches : H → Option (List (List ℕ × Bool))) (clock : H → ℕ) (moment : H → ℕ → List ℕ → List ℕ → Type 0) (held : HeldStore H L)
    → WhereTold (file held.host) (aside held.host).tape (λ f said. (image tape : List ℕ) → moment held.host (clock held.host) image tape ↔ IsMoment f.since said [] image tape)
    → IsKept held.desk (file held.host) → held.desk.halt ≡ None
    → RestsAt (λ (s : HeldStore H L). clock s.host) (λ (s : HeldStore H L). left_of s.desk.shape (file s.host) (aside s.host).tape (moment s.host))
    (AtRest (state_of (file held.host) (aside held.host).tape (beside_of held.desk.shape (attaches held.host)) held.desk)) held
rests_kept file aside attaches clock moment held only_now kept going = rests file aside attaches clock moment held only_now (λ after said image pages is tape left reopens.
    rests_with_base (state_of (file held.host) (aside held.host).tape (beside_of held.desk.shape (attaches held.host)) held.desk) pages said (ap (λ halt. is_some halt) going)
    (kept_reopens (file held.host) held.desk after image pages kept going is left reopens, if_said (aside held.host).tape said tape))
