-- What a page that was lent leaves of a desk.
use Rattle.std.proofs.Common.{◌≡◌, ◌<◌, ℕ, List, Option, Some, None, IsTrue, false, is_some, IsSome, length, set, get_or, arith, refl, sym, ◌∙◌, subst}
use Rattle.std.specs.Prelude.{Result, Err, IsErrOf}
use Rattle.mdc_words.specs.Faults.{CountsFault}
use Rattle.mdc_words.proofs.FaultsLemmas.{counts_fault_as}
use Rattle.store_api.specs.declared.fault.PageFault.{PageFault}
use Rattle.store_api.specs.declared.fault.PageFault.TheVariants.{Device}
use Rattle.store_api.specs.StoreState.{StoreState, page_at}
use Rattle.store_api.specs.Calls.{Writes, LosesReadiness}
use Rattle.mdc_outside.specs.Disk.{File}
use Rattle.page_store.specs.declared.desk.Desk.{Desk}
use Rattle.page_store.specs.Changes.{image_in}
use Rattle.page_store.specs.Desk.{IsKept, Does, work_of}
use Rattle.page_store.specs.LentWork.{SameDesk}
use Rattle.page_store.proofs.Desks.{written_work, image_page}

-- the work with the page as its borrower left it
pub edits_does : (told : Option File) (desk new : Desk) (p : ℕ) (page : List ℕ) → SameDesk desk new → new.changes.now ≡ set desk.changes.now p (Some page) → desk.hand ≡ None → desk.prepared ≡ false → Does (Writes p page) told desk told new
edits_does None desk new p page same now hand unready tape attaches =
    let put = written_work None desk p page in
    rw (now, same.changes.marked, same.base, same.hand, same.prepared, same.halt, hand, unready, put) refl
edits_does (Some file) desk new p page same now hand unready tape attaches =
    let put = written_work (Some file) desk p page in
    rw (now, same.changes.marked, same.base, same.hand, same.prepared, same.halt, hand, unready, put) refl

-- the work as it was
pub keeps_does : (told : Option File) (desk new : Desk) → SameDesk desk new → new.changes.now ≡ desk.changes.now → desk.hand ≡ None → desk.prepared ≡ false → Does LosesReadiness told desk told new
keeps_does None desk new same now hand unready tape attaches =
    rw (now, same.changes.marked, same.base, same.hand, same.prepared, same.halt, hand, unready) refl
keeps_does (Some file) desk new same now hand unready tape attaches =
    rw (now, same.changes.marked, same.base, same.hand, same.prepared, same.halt, hand, unready) refl

-- what is in memory still fits the file
pub kept_same : (told : Option File) (desk new : Desk) → IsKept desk told → SameDesk desk new → desk.hand ≡ None → desk.prepared ≡ false → IsKept new told
kept_same told desk new kept same hand unready = record {
  at_rest = rw (same.shape, same.base) kept.at_rest;
  clean = rw (same.base, same.cache) kept.clean;
  some = omega (arith, same.base, kept.some);
  based = same.changes.base ∙ (kept.based ∙ sym same.base);
  count = (omega (arith, kept.count.0, same.changes.size, same.base), omega (arith, kept.count.1, same.changes.size));
  marked = λ before is. let was = kept.marked before (sym same.changes.marked ∙ is) in (omega (arith, was.0, same.base), omega (arith, was.1, same.changes.size));
  hand = λ some. let none : new.hand ≡ None = same.hand ∙ hand in let wrong = subst IsSome none some in absurd (cc);
  ready = λ is. let none : new.prepared ≡ false = same.prepared ∙ unready in absurd (cc);
}

-- a call that takes readiness away, and then a write
pub lost_writes : (s mid new : StoreState) (p : ℕ) (page : List ℕ) → LosesReadiness s mid → Writes p page mid new → Writes p page s new
lost_writes s mid new p page lost written = rw lost at written

-- or then nothing
pub lost_twice : (s mid new : StoreState) → LosesReadiness s mid → LosesReadiness mid new → LosesReadiness s new
lost_twice s mid new lost again = rw lost at again

-- the page that lies among the changes is the page of the work
pub changed_page : (told : Option File) (desk : Desk) (p : ℕ) (page : List ℕ) → desk.halt ≡ None → p < length desk.changes.now → get_or desk.changes.now p None ≡ Some page
    → IsTrue (is_some told) → page ≡ page_at (work_of told desk desk.changes.now) p
changed_page told desk p page going lt is shown =
    let image : image_in desk.base desk.changes.now p ≡ Some page = rw is refl in
    image_page told desk p page going lt image shown

-- a fault is the same whatever the call would have answered without it
fault_same : (T U : Type 0) (fault : PageFault) → IsErrOf {T = T} (Err fault) Device → IsErrOf {T = U} (Err fault) Device
fault_same T U fault is = let same : fault ≡ Device = cc in subst (λ (f : PageFault). IsErrOf {T = U} (Err f) Device) (sym same) refl

-- the count of a fault that is passed on
pub counts_passed : {T U : Type 0} (result : Result T PageFault) (fault : PageFault) (before now : ℕ) → result ≡ Err fault → CountsFault (IsErrOf result Device) before now
    → CountsFault (IsErrOf {T = U} (Err fault) Device) before now
counts_passed {T} {U} result fault before now is counts =
    counts_fault_as (λ (passed : IsErrOf {T = U} (Err fault) Device). subst (λ r. IsErrOf r Device) (sym is) (fault_same U T fault passed))
    (λ (first : IsErrOf result Device). fault_same T U fault (subst (λ r. IsErrOf r Device) is first)) counts
