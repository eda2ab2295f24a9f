-- The verdict on a file from that on its pages, and what the judge leaves of it.
use mathlib.Core.Bool.{Bool-set}
use Rattle.std.proofs.Common.{◌≡◌, ◌⊎◌, ◌≤◌, ℕ, List, Option, Some, None, IfSome, IfOk, Result, Ok, Err, refl, sym, ◌∙◌, ap, subst, inl, inr}
use Rattle.std.specs.Prelude.{IsTrue}
use Rattle.mdc_words.specs.Faults.{CountsFault}
use Rattle.mdc_words.proofs.FaultsLemmas.{counts_fault_as}
use Rattle.mdc_outside.specs.declared.disk.Disk as disk
use Rattle.mdc_outside.specs.Moments.{Beside}
use Rattle.store_api.specs.Causes.{fault_of_pages}
use Rattle.store_api.specs.Extents.{is_shape}
use Rattle.store_api.specs.Works.{Steady}
use Rattle.store_api.specs.declared.fault.PageFault.{PageFault}
use Rattle.store_api.specs.declared.fault.PageFault.TheVariants as page
use Rattle.store_api.specs.declared.fault.StoreFault.TheVariants as fault
use Rattle.store_api.specs.declared.pages.Pages as pages
use Rattle.store_api.specs.declared.shape.Shape.{Shape}
use Rattle.table_trees.specs.ToldPages.{PageList}
use Rattle.mdc_sound.specs.Breaks.{BreaksRule}
use Rattle.mdc_sound.specs.SoundDatabase.{IsSoundDatabase}
use Rattle.page_file.specs.Layout.{file_page}
use Rattle.page_store.proofs.FrontAgreesLemmas.{front_agrees_then}
use Rattle.page_store.proofs.Judged.{served_formed}
use Rattle.page_store.specs.FileStore.{IsLeft}
use Rattle.page_store.specs.Opening.{IsServed}
use Rattle.page_store.specs.Shape.{extents_in, extent_pages_in}
use Rattle.page_store.specs.Standing.{FrontAgrees, IsFormed, IsStoreImage, Stands, pages_in}
use Rattle.file_check.specs.Verdicts.{IsVerdictOf}
use Rattle.file_check.specs.declared.verdict.Verdict.{Verdict}
use Rattle.file_check.specs.declared.verdict.Verdict.TheVariants.{Broken, Sound}
use Rattle.file_verdict.specs.Resting.{LeavesBase, StandsAsBefore, StaysFormed}
use Rattle.file_verdict.specs.SoundFile.{IsSoundFile, StatesExtents}
use Rattle.file_verdict.specs.Verdict.{IsAnswerOnSound, IsNoVerdict, IsVerdictOn, IsVerdictOnPages, verdict_of_check}
use Rattle.file_verdict.specs.declared.unjudged.Unjudged.{Unjudged}
use Rattle.file_verdict.specs.declared.unjudged.Unjudged.TheVariants.{Device, Memory, NotMdc, Unmade, Version}
use Rattle.file_verdict.proofs.RestingLemmas.{IsLeftByStore}
use Rattle.file_verdict.proofs.SoundFilesLemmas.{formed_along, formed_standing}

-- ---- the verdict

-- what a check found of pages is the verdict on them
pub found_on_pages : (shape : Shape) (pages : PageList) (found : Result Verdict PageFault) (verdict : Result Verdict Unjudged) → verdict ≡ verdict_of_check found → IfOk found (IsVerdictOf shape pages)
    → IsVerdictOnPages shape pages verdict
found_on_pages shape pages found verdict is of = subst (IsVerdictOnPages shape pages) (sym is) (by_found found of)
  where
    by_found : (found : Result Verdict PageFault) → IfOk found (IsVerdictOf shape pages) → IsVerdictOnPages shape pages (verdict_of_check found)
    by_found (Ok verdict) of = of
    by_found (Err page.Device) of = tt
    by_found (Err page.Memory) of = tt

-- a fault of the disk is counted of the check where it is of the verdict
pub found_counted : (found : Result Verdict PageFault) (verdict : Result Verdict Unjudged) (before now last : ℕ) → verdict ≡ verdict_of_check found → last ≡ now
    → CountsFault (fault_of_pages found ≡ Some fault.Device) before now → CountsFault (verdict ≡ Err Device) before last
found_counted found verdict before now last is same counts =
    subst (λ (n : ℕ). CountsFault (verdict ≡ Err Device) before n) (sym same) (counts_fault_as (λ e. one_way found (sym is ∙ e)) (λ e. is ∙ other_way found e) counts)
  where
    one_way : (found : Result Verdict PageFault) → verdict_of_check found ≡ Err Device → fault_of_pages found ≡ Some fault.Device
    one_way (Ok verdict) e = absurd (cc)
    one_way (Err page.Device) e = refl
    one_way (Err page.Memory) e = absurd (cc)

    other_way : (found : Result Verdict PageFault) → fault_of_pages found ≡ Some fault.Device → verdict_of_check found ≡ Err Device
    other_way (Ok verdict) e = absurd (cc)
    other_way (Err page.Device) e = refl
    other_way (Err page.Memory) e = absurd (cc)

-- the verdict on the pages of a file that can be served is that on the file
pub verdict_on_file : (bytes : List ℕ) (shape : Shape) (verdict : Result Verdict Unjudged) → IsServed bytes → StatesExtents bytes shape → IsVerdictOnPages shape (pages_in bytes) verdict → IsVerdictOn bytes verdict
verdict_on_file bytes shape (Ok Sound) served states is = record { formed = served_formed bytes served; shape = shape; states = states; sound = is.sound }
verdict_on_file bytes shape (Ok (Broken damage)) served states is = inr (record { served = served; shape = shape; states = states; first = is })
verdict_on_file bytes shape (Err Device) served states is = tt
verdict_on_file bytes shape (Err Memory) served states is = tt
verdict_on_file bytes shape (Err Unmade) served states is = absurd is
verdict_on_file bytes shape (Err NotMdc) served states is = absurd is
verdict_on_file bytes shape (Err (Version version)) served states is = absurd is

-- a shape by its numbers
abbrev shape_of : (extents extent_pages : ℕ) → IsTrue (is_shape extents extent_pages) → Shape
shape_of extents extent_pages within = record { extents = extents; extent_pages = extent_pages; within = within }

-- two shapes of the same numbers are the same
pub same_shape : (one other : Shape) → one.extents ≡ other.extents → one.extent_pages ≡ other.extent_pages → one ≡ other
same_shape one other extents extent_pages =
    subst (λ (e : ℕ). (x : IsTrue (is_shape e other.extent_pages)) → one ≡ shape_of e other.extent_pages x) extents
    (subst (λ (n : ℕ). (x : IsTrue (is_shape one.extents n)) → one ≡ shape_of one.extents n x) extent_pages
    (λ x. ap (shape_of one.extents one.extent_pages) (Bool-set _ _ one.within x))) other.within

-- one file states one shape
pub stated_alike : (bytes : List ℕ) (first second : Shape) → StatesExtents bytes first → StatesExtents bytes second → first ≡ second
stated_alike bytes first second one other = same_shape first second (sym one.extents ∙ other.extents) (sym one.extent_pages ∙ other.extent_pages)

-- pages of a sound file have no verdict but that they are sound
pub answer_on_sound : ((shape : Shape) (pages : PageList) (rule page : ℕ) → IsSoundDatabase shape pages → BreaksRule shape pages rule page → ⊥) → (bytes : List ℕ) (shape : Shape) (verdict : Result Verdict Unjudged)
    → StatesExtents bytes shape → IsVerdictOnPages shape (pages_in bytes) verdict → IsSoundFile bytes → IsAnswerOnSound verdict
answer_on_sound unbroken bytes shape (Ok Sound) states is sound = tt
answer_on_sound unbroken bytes shape (Ok (Broken damage)) states is sound =
    let same = stated_alike bytes sound.shape shape sound.states states in
    unbroken shape (pages_in bytes) damage.rule damage.page (subst (λ (of : Shape). IsSoundDatabase of (pages_in bytes)) same sound.sound) is.breaks
answer_on_sound unbroken bytes shape (Err Device) states is sound = tt
answer_on_sound unbroken bytes shape (Err Memory) states is sound = tt
answer_on_sound unbroken bytes shape (Err Unmade) states is sound = is
answer_on_sound unbroken bytes shape (Err NotMdc) states is sound = is
answer_on_sound unbroken bytes shape (Err (Version version)) states is sound = is

-- where there is no verdict, that may be answered of a sound file
pub no_verdict_on_sound : (answer : Result Verdict Unjudged) → IsNoVerdict answer → IsAnswerOnSound answer
no_verdict_on_sound (Ok Sound) none = tt
no_verdict_on_sound (Ok (Broken damage)) none = none
no_verdict_on_sound (Err Device) none = tt
no_verdict_on_sound (Err Memory) none = tt
no_verdict_on_sound (Err Unmade) none = none
no_verdict_on_sound (Err NotMdc) none = none
no_verdict_on_sound (Err (Version version)) none = none

-- ---- what is left

-- all beside a disk is its tape and its count
pub same_beside : (one other : Beside) → one.tape ≡ other.tape → one.say_faults ≡ other.say_faults → one ≡ other
same_beside one other tape faults = rw (sym tape, sym faults) refl

-- an image of a store's file is formed as the file is
pub formed_left : (shape : Shape) (file at_end image : List ℕ) → shape.extents ≡ extents_in (file_page file 1) → shape.extent_pages ≡ extent_pages_in (file_page file 1) → FrontAgrees file at_end → IsStoreImage shape at_end image → StaysFormed file image
formed_left shape file at_end image extents extent_pages agrees is = record { formed = is.formed.formed; front = front_agrees_then agrees is.front; extents = is.formed.extents ∙ extents; extent_pages = is.formed.extent_pages ∙ extent_pages }

-- an image of a store at its end, by what the store left as it was opened
pub left_base : {S : Type 0} (g : pages.Ghosts S) (shape : Shape) (file at_end said : List ℕ) (old last : S) (t : ℕ) (image heard : List ℕ)
    → Steady g old last → t ≤ g.clock old → (g.state old).told ≡ Some said → shape.extents ≡ extents_in (file_page file 1) → shape.extent_pages ≡ extent_pages_in (file_page file 1)
    → FrontAgrees file at_end → IsLeft shape at_end (g.left last t) image heard
    → (StaysFormed file image × (g.left old t (Some (pages_in image)) heard ⊎ ((pages_in image ≡ (g.state old).base) × (heard ≡ said)))) ⊎ g.left old t None heard
left_base g shape file at_end said old last t image heard steady early told extents extent_pages agrees (inl (is, was)) = inl (
  formed_left shape file at_end image extents extent_pages agrees is,
  elim (steady.time.only t (Some (pages_in image)) heard early was) [
    | inl before ↦ inl before
    | inr within ↦ inr ((let same = within.0 in cc), subst (λ (o : Option (List ℕ)). IfSome o (λ bytes. heard ≡ bytes)) told within.1)
  ],
)
left_base g shape file at_end said old last t image heard steady early told extents extent_pages agrees (inr none) = elim (steady.time.only t None heard early none) [
  | inl before ↦ inr before
  | inr within ↦ absurd (let never = within.0 in cc)
]

-- what stands for the pages of what an opening made of a file stands for the file as before
as_before : (before after image : List ℕ) → IsFormed before → Stands before (pages_in before) after → StaysFormed after image → pages_in image ≡ pages_in before → StandsAsBefore before image
as_before before after image whole stands is same = record { stays = formed_along before after image (formed_standing before after (pages_in before) whole stands) is; pages = same }

-- so does all that is left of a host whose file was opened and judged
pub judged_left : {S D : Type 0} (g : pages.Ghosts S) (d : disk.Ghosts D) (store : S) (new : D) (before after said : List ℕ) → IsFormed before → Stands before (pages_in before) after → (g.state store).base ≡ pages_in before
    → LeavesBase g d after said store new → (t : ℕ) (image heard : List ℕ) → t ≤ g.clock store → d.moment new t image heard
    → (StandsAsBefore before image × (heard ≡ said)) ⊎ IsLeftByStore g store before said (λ image heard. StandsAsBefore before image × (heard ≡ said)) t image heard
judged_left g d store new before after said whole stands base leaves t image heard early now = elim (leaves.since t early image heard now) [
  | inl formed ↦ elim formed.1 [
    | inl was ↦ inr (record {
      pages = Some (pages_in image);
      left = was;
      kind = λ same tape. (as_before before after image whole stands formed.0 (let pages = same in cc), tape);
    })
    | inr here ↦ inl (as_before before after image whole stands formed.0 (here.0 ∙ base), here.1)
  ]
  | inr none ↦ inr (record { pages = None; left = none; kind = λ same tape. absurd (let never = same in cc) })
]
