-- What was read of a file says whether it can be served.
use Rattle.std.proofs.Common.{◌≡◌, ◌≢◌, ◌≤◌, ◌<◌, ◌-◌, ◌/◌, ℕ, IsTrue, IsFalse, List, Option, Some, None, length, drop, arith, refl, sym, ap, ◌∙◌, subst, inl, inr}
use Rattle.std.specs.List.{All}
use Rattle.byteorder.specs.Endian.{big_number}
use Rattle.redo_journal.specs.Images.{Numbered}
use Rattle.mdc_outside.specs.Disk.{File, all_synced}
use Rattle.redo_journal.specs.Faults.{IsDamaged}
use Rattle.page_file.specs.Layout.{file_page, home_start}
use Rattle.redo_journal.specs.Layout.{is_open, IsJournal}
use Rattle.redo_journal.specs.declared.replaying.ReplayFault.{ReplayFault}
use Rattle.redo_journal.specs.declared.replaying.ReplayFault.TheVariants as replay
use Rattle.store_api.specs.StoreState.{stated_in}
use Rattle.page_store.specs.declared.fault.OpenFault.TheVariants.{Version, Damaged}
use Rattle.page_store.specs.declared.journal.Journal.{Journal}
use Rattle.page_store.specs.declared.recovery.Opened.{Opened}
use Rattle.page_store.specs.Faults.{open_fault_of}
use Rattle.page_store.specs.Shape.{IsBirth, extents_in, extent_pages_in}
use Rattle.page_store.specs.Standing.{page_of, count_of, IsFitting, IsFormed}
use Rattle.page_store.specs.Opening.{IsMade, IsRoot, IsRead, IsWhole, IsServed, IsAtRest, IsOther, Refuses}
use Rattle.page_store.specs.Reading.{IsJournalIn, IsBehind, States, WasRead}

-- page 0 as it was read, in the file
root_in_file : {bytes extents pages : ℕ} {journal : Option Journal} {root file : List ℕ} → WasRead bytes extents pages journal root file
    → IsRoot extents pages root → IsRoot (extents_in (file_page file 1)) (extent_pages_in (file_page file 1)) (page_of file 0)
root_in_file {bytes} {extents} {pages} {journal} {root} {file} read is =
    let first = subst (λ (n : ℕ). IsRoot n pages root) read.states_extents is in
    let second = subst (λ (n : ℕ). IsRoot (extents_in (file_page file 1)) n root) read.states_extent_pages first in
    subst (λ (page : List ℕ). IsRoot (extents_in (file_page file 1)) (extent_pages_in (file_page file 1)) page) read.root_is second

-- page 0 of the file, as it was read
root_as_read : {bytes extents pages : ℕ} {journal : Option Journal} {root file : List ℕ} → WasRead bytes extents pages journal root file
    → IsRoot (extents_in (file_page file 1)) (extent_pages_in (file_page file 1)) (page_of file 0) → IsRoot extents pages root
root_as_read {bytes} {extents} {pages} {journal} {root} {file} read is =
    let first = subst (λ (n : ℕ). IsRoot n (extent_pages_in (file_page file 1)) (page_of file 0)) (sym read.states_extents) is in
    let second = subst (λ (n : ℕ). IsRoot extents n (page_of file 0)) (sym read.states_extent_pages) first in
    subst (λ (page : List ℕ). IsRoot extents pages page) (sym read.root_is) second

-- the count that was read is the file's
pub count_is : {bytes extents pages : ℕ} {journal : Option Journal} {root file : List ℕ} (count : ℕ) → WasRead bytes extents pages journal root file
    → count ≡ stated_in root → count_of file ≡ count
count_is count read is = ap stated_in (sym read.root_is) ∙ sym is

-- a journal that lies behind all pages and names them alone fits
journal_fits : (journal : Option Journal) (count : ℕ) (file : List ℕ) → IsJournalIn journal file → count_of file ≡ count → IsBehind journal count → IsTrue (is_open file) → IsFitting file
journal_fits None count file counting same behind gate = absurd (cc)
journal_fits (Some journal) count file counting same behind gate = record {
  behind = omega (arith, behind.0, counting.3, same);
  journal = counting.1;
  named = subst (λ (images : Numbered). All (λ image. image.0 < count_of file) images) counting.2 (subst (λ (n : ℕ). All (λ image. image.0 < n) journal.images) (sym same) behind.1);
}

-- a journal that fits lies behind all pages and names them alone
behind_all : (journal : Option Journal) (count : ℕ) (file : List ℕ) → IsJournalIn journal file → count_of file ≡ count → (IsTrue (is_open file) → IsFitting file) → IsBehind journal count
behind_all None count file counting same fitting = tt
behind_all (Some journal) count file counting same fitting =
    let fit = fitting counting.0 in (
      omega (arith, fit.behind, counting.3, same),
      subst (λ (n : ℕ). All (λ image. image.0 < n) journal.images) same (subst (λ (images : Numbered). All (λ image. image.0 < count_of file) images) (sym counting.2) fit.named),
    )

-- a file that was read with a journal that fits and a page 0 of its form
is_read : {bytes extents pages : ℕ} {journal : Option Journal} {root file : List ℕ} (count : ℕ) → WasRead bytes extents pages journal root file
    → IsRoot extents pages root → count ≡ stated_in root → IsBehind journal count → IsRead file
is_read {bytes} {extents} {pages} {journal} {root} {file} count read is counts behind = record {
  journal = journal_fits journal count file read.counting (count_is count read counts) behind;
  root = root_in_file read is;
}

-- page 0 hasn't its form
pub no_root : {bytes extents pages : ℕ} {journal : Option Journal} {root file : List ℕ} → WasRead bytes extents pages journal root file
    → (IsRoot extents pages root → ⊥) → Refuses (Damaged (record { page = 0; rule = 1 })) file
no_root read none = (read.made, read.birth, inl ((λ is. none (root_as_read read is.root)), refl))

-- the journal doesn't lie behind all pages, or names others
pub not_behind : {bytes extents pages : ℕ} {journal : Option Journal} {root file : List ℕ} (count : ℕ) → WasRead bytes extents pages journal root file
    → count ≡ stated_in root → (IsBehind journal count → ⊥) → Refuses (Damaged (record { page = 0; rule = 1 })) file
not_behind {bytes} {extents} {pages} {journal} {root} {file} count read counts none =
    (read.made, read.birth, inl ((λ is. none (behind_all journal count file read.counting (count_is count read counts) is.journal)), refl))

-- a page is missing
pub page_missing : {bytes extents pages : ℕ} {journal : Option Journal} {root file : List ℕ} (count page : ℕ) → WasRead bytes extents pages journal root file
    → IsRoot extents pages root → count ≡ stated_in root → IsBehind journal count → bytes < home_start count → page ≡ bytes / 4096 - 66
    → Refuses (Damaged (record { page = page; rule = 1 })) file
page_missing {bytes} {extents} {pages} {journal} {root} {file} count page read is counts behind short at =
    let same = count_is count read counts in
    let first : page ≡ length file / 4096 - 66 = at ∙ ap (λ n. n / 4096 - 66) read.size in
    (read.made, read.birth, inr (is_read count read is counts behind, (λ whole. omega (arith, whole, same, read.size)), ap (λ p. record { page = p; rule = 1 }) first))

-- no page is missing
pub is_whole : {bytes extents pages : ℕ} {journal : Option Journal} {root file : List ℕ} (count : ℕ) → WasRead bytes extents pages journal root file
    → count ≡ stated_in root → home_start count ≤ bytes → IsWhole file
is_whole count read counts long = omega (arith, count_is count read counts, read.size)

-- the file is of another version
pub other_version : {bytes extents pages : ℕ} {journal : Option Journal} {root file : List ℕ} (count version : ℕ) → WasRead bytes extents pages journal root file
    → IsRoot extents pages root → count ≡ stated_in root → IsBehind journal count → home_start count ≤ bytes
    → version ≡ big_number 4 (drop 4 root) → version ≢ 1 → Refuses (Version version) file
other_version count version read is counts behind long states other =
    (read.made, read.birth, is_read count read is counts behind, is_whole count read counts long, states ∙ ap (λ page. big_number 4 (drop 4 page)) read.root_is, other)

-- the file can be served
pub can_serve : {bytes extents pages : ℕ} {journal : Option Journal} {root file : List ℕ} (count version : ℕ) → WasRead bytes extents pages journal root file
    → IsRoot extents pages root → count ≡ stated_in root → IsBehind journal count → home_start count ≤ bytes
    → version ≡ big_number 4 (drop 4 root) → version ≡ 1 → IsServed file × (count_of file ≡ count)
can_serve count version read is counts behind long states one =
    ((read.made, read.birth, is_read count read is counts behind, is_whole count read counts long, ap (λ page. big_number 4 (drop 4 page)) (sym read.root_is) ∙ (sym states ∙ one)), count_is count read counts)

-- what was read, put together
pub was_read : (bytes extents pages : ℕ) (journal : Option Journal) (birth root file : List ℕ) → IsMade file × (birth ≡ file_page file 1)
    → IsBirth birth × (extents ≡ extents_in birth) × (pages ≡ extent_pages_in birth) → bytes ≡ length file → IsJournalIn journal file → root ≡ page_of file 0
    → WasRead bytes extents pages journal root file
was_read bytes extents pages journal birth root file made shape size counting is = record {
  made = made.0;
  birth = subst (λ (page : List ℕ). IsBirth page) made.1 shape.0;
  size = size;
  states_extents = shape.1 ∙ ap extents_in made.1;
  states_extent_pages = shape.2 ∙ ap extent_pages_in made.1;
  counting = counting;
  root_is = is;
}

-- the file isn't a database's
pub is_other : (birth file : List ℕ) → IsMade file × (birth ≡ file_page file 1) → (IsBirth birth → ⊥) → IsOther file
is_other birth file made none = (made.0, λ is. none (subst (λ (page : List ℕ). IsBirth page) (sym made.1) is))

-- page 0 isn't whole
pub root_missing : (extents pages : ℕ) (birth file : List ℕ) → IsMade file × (birth ≡ file_page file 1) → IsBirth birth × (extents ≡ extents_in birth) × (pages ≡ extent_pages_in birth)
    → length (page_of file 0) ≢ 4096 → Refuses (Damaged (record { page = 0; rule = 1 })) file
root_missing extents pages birth file made shape cut = (made.0, subst (λ (page : List ℕ). IsBirth page) made.1 shape.0, inl ((λ is. cut is.root.size), refl))

-- the replay failed
pub replay_refused : (fault : ReplayFault) (extents pages : ℕ) (birth file : List ℕ) → IsMade file × (birth ≡ file_page file 1) → IsBirth birth × (extents ≡ extents_in birth) × (pages ≡ extent_pages_in birth)
    → (IsDamaged fault → (fault ≡ replay.Damaged (record { page = 0; rule = 1 })) × IsTrue (is_open file) × ¬ IsJournal file) → Refuses (open_fault_of fault) file
replay_refused replay.Device extents pages birth file made shape damaged = tt
replay_refused (replay.Damaged damage) extents pages birth file made shape damaged =
    let broken = damaged tt in
    let zero : damage ≡ record { page = 0; rule = 1 } = cc (broken.0) in
    (made.0, subst (λ (page : List ℕ). IsBirth page) made.1 shape.0, inl ((λ is. broken.2 (is.journal broken.1).journal), zero))
replay_refused replay.Memory extents pages birth file made shape damaged = tt

-- a file that can be served is formed
pub served_formed : (file : List ℕ) → IsServed file → IsFormed file
served_formed file served = record { made = served.0.1; birth = served.1; journal = served.2.journal; whole = served.3 }

-- a file without a journal rests
pub found_at_rest : (opened : Opened) (file : File) → file.since ≡ all_synced file.bytes → IsFalse (is_open file.bytes) → IsServed file.bytes → States opened file.bytes
    → IsAtRest opened.shape.extents opened.shape.extent_pages opened.count file
found_at_rest opened file synced closed served states = record {
  synced = synced;
  closed = closed;
  formed = served_formed file.bytes served;
  states_pages = sym states.count;
  states_extents = sym states.extents;
  states_extent_pages = sym states.extent_pages;
}

-- a file that rests with what it stated before states what was found
pub rests_as_found : (opened : Opened) (before : List ℕ) (file : File) → States opened before
    → IsAtRest (extents_in (file_page before 1)) (extent_pages_in (file_page before 1)) (count_of before) file → IsAtRest opened.shape.extents opened.shape.extent_pages opened.count file
rests_as_found opened before file states rest = record {
  synced = rest.synced;
  closed = rest.closed;
  formed = rest.formed;
  states_pages = rest.states_pages ∙ sym states.count;
  states_extents = rest.states_extents ∙ sym states.extents;
  states_extent_pages = rest.states_extent_pages ∙ sym states.extent_pages;
}
