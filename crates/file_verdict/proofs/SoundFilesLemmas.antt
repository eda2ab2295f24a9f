-- Sound files: they are opened, and what stands for the same pages is sound too.
use Rattle.std.proofs.Common.{◌≡◌, ◌⊎◌, ◌≤◌, ◌<◌, ◌+◌, ◌*◌, ℕ, List, [], length, take, drop, refl, sym, ◌∙◌, ap, subst, inl, inr, arith, length-drop}
use Rattle.byteorder.specs.Endian.{big_number}
use Rattle.mdc_words.proofs.ListedLemmas.{get_or-listed, length-listed}
use Rattle.store_api.specs.Extents.{first_count}
use Rattle.store_api.specs.StoreState.{zero_page}
use Rattle.store_api.specs.declared.shape.Shape.{Shape}
use Rattle.table_trees.specs.ToldPages.{PageList}
use Rattle.mdc_sound.specs.SoundDatabase.{IsSoundDatabase}
use Rattle.mdc_sound.specs.SpaceRules.{stated_root}
use Rattle.page_file.specs.Layout.{file_page, page_start}
use Rattle.page_store.proofs.FreshBytes.{length-zero_page}
use Rattle.page_store.proofs.FrontAgreesLemmas.{front_agrees_stays, front_agrees_then}
use Rattle.page_store.specs.Opening.{IsServed, Refuses}
use Rattle.page_store.specs.Shape.{extent_pages_in, extents_in}
use Rattle.page_store.specs.Standing.{IsFormed, Stands, count_of, page_of, pages_in}
use Rattle.page_store.specs.declared.fault.OpenFault.{OpenFault}
use Rattle.page_store.specs.declared.fault.OpenFault.TheVariants as opening
use Rattle.file_verdict.specs.Resting.{StandsAsBefore, StaysFormed}
use Rattle.file_verdict.specs.SoundFile.{IsSoundFile, StatesExtents}

-- ---- a sound file is served

-- the version that a root page states
abbrev version_of_page : List ℕ → ℕ
version_of_page page = big_number 4 (drop 4 page)

root_size : (count : ℕ) (page : List ℕ) → page ≡ stated_root count → length page ≡ 4096
root_size count page is = ap length is ∙ omega (arith, length-zero_page, length-drop 12 zero_page)

root_version : (count : ℕ) (page : List ℕ) → page ≡ stated_root count → version_of_page page ≡ 1
root_version count page is = ap version_of_page is

-- page 0 of a sound file is a sound root page
root_of_sound : (bytes : List ℕ) → IsSoundFile bytes → page_of bytes 0 ≡ stated_root (length (pages_in bytes))
root_of_sound bytes file =
    let root = file.sound.1.first.rule1 in
    let some : 0 < count_of bytes = omega (arith, root.count.count, length-listed (count_of bytes) (page_of bytes)) in
    sym (get_or-listed (count_of bytes) (page_of bytes) 0 [] some) ∙ root.root

pub sound_is_served : (bytes : List ℕ) → IsSoundFile bytes → IsServed bytes
sound_is_served bytes file =
    let formed = file.formed in
    let count = file.sound.1.first.rule1.count in
    let page = root_of_sound bytes file in
    let long : page_start 2 ≤ length bytes = omega (arith, formed.whole) in
    let within : count.extents ≤ extents_in (file_page bytes 1) = subst (λ n. count.extents ≤ n) (sym file.states.extents) count.within in
    let counts : count_of bytes ≡ first_count (extents_in (file_page bytes 1)) + count.extents * extent_pages_in (file_page bytes 1) =
    sym (length-listed (count_of bytes) (page_of bytes)) ∙ (count.count
    ∙ (ap (λ n. first_count n + count.extents * file.shape.extent_pages) (sym file.states.extents)
    ∙ ap (λ n. first_count (extents_in (file_page bytes 1)) + count.extents * n) (sym file.states.extent_pages))) in (
      (long, formed.made),
      formed.birth,
      record { journal = formed.journal; root = record { size = root_size (length (pages_in bytes)) (page_of bytes 0) page; begins = ap (take 4) page; counts = (count.extents, within, counts) } },
      formed.whole,
      root_version (length (pages_in bytes)) (page_of bytes 0) page,
    )

-- the opening of a file that can be served is refused for a fault of the disk or for want of memory alone
pub refused_served : (fault : OpenFault) (bytes : List ℕ) → IsServed bytes → Refuses fault bytes → (fault ≡ opening.Device) ⊎ (fault ≡ opening.Memory)
refused_served opening.Exists bytes served refuses = absurd refuses
refused_served opening.Unmade bytes served (inl short) = absurd (omega (arith, short, served.0.0))
refused_served opening.Unmade bytes served (inr unmade) = let made = served.0.1 in cc
refused_served opening.NotMdc bytes served refuses = absurd (refuses.1 served.1)
refused_served (opening.Version version) bytes served refuses = absurd (refuses.5 (refuses.4 ∙ served.4))
refused_served opening.Device bytes served refuses = inl refl
refused_served (opening.Damaged damage) bytes served (made, birth, inl unread) = absurd (unread.0 served.2)
refused_served (opening.Damaged damage) bytes served (made, birth, inr short) = absurd (short.1 served.3)
refused_served opening.Memory bytes served refuses = inr refl

-- ---- what stands for the pages of a file

-- an image that a formed file stands for states its extents
pub states_standing : (bytes image : List ℕ) (all : List (List ℕ)) (shape : Shape) → Stands bytes all image → StatesExtents bytes shape → StatesExtents image shape
states_standing bytes image all shape stands states = record { extents = ap extents_in stands.birth ∙ states.extents; extent_pages = ap extent_pages_in stands.birth ∙ states.extent_pages }

-- and the other way
pub states_stood : (bytes image : List ℕ) (all : List (List ℕ)) (shape : Shape) → Stands bytes all image → StatesExtents image shape → StatesExtents bytes shape
states_stood bytes image all shape stands states = record { extents = ap extents_in (sym stands.birth) ∙ states.extents; extent_pages = ap extent_pages_in (sym stands.birth) ∙ states.extent_pages }

-- and is formed as the file is
pub formed_standing : (file image : List ℕ) (all : PageList) → IsFormed file → Stands file all image → StaysFormed file image
formed_standing file image all formed stands = record { formed = stands.formed; front = front_agrees_stays formed stands.front; extents = ap extents_in stands.birth; extent_pages = ap extent_pages_in stands.birth }

-- so is an image that is formed as such a one is
pub formed_along : (file middle image : List ℕ) → StaysFormed file middle → StaysFormed middle image → StaysFormed file image
formed_along file middle image first then = record { formed = then.formed; front = front_agrees_then first.front then.front; extents = then.extents ∙ first.extents; extent_pages = then.extent_pages ∙ first.extent_pages }

-- what a file stands for stands for it as before
pub stands_before : (file image : List ℕ) → IsFormed file → Stands file (pages_in file) image → StandsAsBefore file image
stands_before file image formed stands = record { stays = formed_standing file image (pages_in file) formed stands; pages = stands.pages }

-- what stands for the pages of a file states its extents
pub states_as_before : (file image : List ℕ) (shape : Shape) → StandsAsBefore file image → StatesExtents file shape → StatesExtents image shape
states_as_before file image shape stands states = record { extents = stands.stays.extents ∙ states.extents; extent_pages = stands.stays.extent_pages ∙ states.extent_pages }

-- what stands for the pages of a sound file is sound
pub sound_standing : (file image : List ℕ) → StandsAsBefore file image → IsSoundFile file → IsSoundFile image
sound_standing file image stands sound = record {
  formed = stands.stays.formed;
  shape = sound.shape;
  states = states_as_before file image sound.shape stands sound.states;
  sound = subst (λ (pages : PageList). IsSoundDatabase sound.shape pages) (sym stands.pages) sound.sound;
}
