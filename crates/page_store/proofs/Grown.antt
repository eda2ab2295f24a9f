-- What has become of a store's file since it was opened.
use Rattle.std.proofs.Common.{◌≡◌, ◌≤◌, ◌+◌, ◌*◌, ℕ, Bool, IsTrue, IsSome, is_some, false, List, length, max, Option, Some, None, Result, Ok, Err, OnOk, OnErr, IfSome, arith, refl, sym, ap, subst, ◌∙◌}
use Rattle.std.specs.Option.{ForSome, option_map}
use Rattle.mdc_outside.specs.Disk.{File}
use Rattle.mdc_outside.specs.Moments.{Beside}
use Rattle.page_file.specs.Growing.{GrewFrom, index_pages}
use Rattle.page_file.specs.Layout.{FrontStays}
use Rattle.page_file.specs.Leaving.{Leaves}
use Rattle.page_file.proofs.GrowingLemmas.{grew_not, grew_then}
use Rattle.page_file.proofs.LeavesLemmas.{one_file, told_before}
use Rattle.page_store.specs.declared.desk.Desk.{Desk}
use Rattle.page_store.specs.declared.write_through.Halt.{Halt}
use Rattle.page_store.specs.Commit.{ReachesTo}
use Rattle.page_store.specs.Desk.{CommitLeaves, IsKept}
use Rattle.page_store.specs.FileStore.{GrewWhere, HasGrown}
use Rattle.page_store.specs.Opened.{Opens, file_bytes, opened_bytes}
use Rattle.page_store.specs.Opening.{IsServed}
use Rattle.page_store.specs.Standing.{count_of}
use Rattle.page_store.proofs.BroughtLemmas.{opened_length}
use Rattle.page_store.proofs.Commits.{few_images}
use Rattle.page_store.proofs.Judged.{served_formed}
use Rattle.page_store.proofs.Wholes.{is_none}

-- how many pages a file has, by the desk that fits it
counted : (told : Option File) (desk : Desk) (file : File) → IsKept desk told → told ≡ Some file → count_of file.bytes ≡ desk.base
counted told desk file kept is = (kept.at_rest file is).states_pages

-- a file as it was opened
opened_grown : (before after : File) → FrontStays before.bytes after.bytes → length after.bytes ≡ length before.bytes → (first : List ℕ) → before.bytes ≡ first → (n : ℕ) → GrewFrom first n after.bytes
opened_grown before after front size first is n =
    let grew : GrewFrom before.bytes n after.bytes = grew_not before.bytes after.bytes n front (omega (arith, size)) in
    subst (λ (xs : List ℕ). GrewFrom xs n after.bytes) is grew

-- a commit that was done asked for as many pages as the file then has
done_count : {T E : Type 0} (result : Result T E) (halt : Option Halt) (base work : ℕ) → OnOk result (base ≡ work) → OnErr result (IsSome halt) → halt ≡ None → work ≡ base
done_count (Ok x) halt base work done halted going = sym done
done_count (Err e) halt base work done halted going = absurd (let some : IsSome halt = halted in let none : is_some halt ≡ false = ap is_some going in cc)

module _ {D : Type 0} {file : D → Option File} {aside : D → Beside} {attaches : D → Option (List (List ℕ × Bool))} {is_attached : D → Bool} {clock : D → ℕ} {moment : D → ℕ → List ℕ → List ℕ → Type 0} where
  -- since its opening a file has its front and its length
  pub grown_at_opening : {old new : D} (first : Option (List ℕ)) (desk : Desk) → IfSome first (λ bytes. ForSome (file old) (λ f. f.bytes ≡ bytes))
      → Opens file aside attaches is_attached clock moment old new → file_bytes (file new) ≡ option_map opened_bytes (file_bytes (file old))
      → ForSome (file old) (λ f. IsServed f.bytes) → IsKept desk (file new) → HasGrown first (file new) desk.halt
  grown_at_opening {old} {new} None desk picked opens writes served kept = picked
  grown_at_opening {old} {new} (Some first) desk picked opens writes served kept = λ after now. go after now (file old) refl where
    go : (after : File) → file new ≡ Some after → (told : Option File) → file old ≡ told → GrewWhere (desk.halt ≡ None) first after.bytes
    go after now None none = absurd (let gone = opens.untold none in cc)
    go after now (Some before) is =
        let there = opens.told before is in
        let same : there.0 ≡ after = one_file there.1 now in
        let front : FrontStays before.bytes after.bytes = subst (λ (f : File). FrontStays before.bytes f.bytes) same there.2.0 in
        let shown : Some after.bytes ≡ Some (opened_bytes before.bytes) = sym (ap file_bytes now) ∙ (writes ∙ ap (λ t. option_map opened_bytes (file_bytes t)) is) in
        let bytes : after.bytes ≡ opened_bytes before.bytes = cc in
        let size : length after.bytes ≡ length before.bytes = ap length bytes ∙ opened_length before.bytes (served_formed before.bytes (served before is)) in
        let base = counted (file new) desk after kept now in
        (count_of after.bytes, omega (arith, base, kept.count.0, kept.count.1), λ going. refl, opened_grown before after front size first (picked before is) (count_of after.bytes))

  -- and a commit makes it no longer than its pages and one journal
  pub grown_by_commit : {T E : Type 0} {old new : D} (result : Result T E) (first : Option (List ℕ)) (desk next : Desk) → IsKept desk (file old) → desk.halt ≡ None → IsTrue desk.prepared
      → OnOk result (next.base ≡ length desk.changes.now) → OnErr result (IsSome next.halt) → (next.halt ≡ None → IsKept next (file new))
      → Leaves file aside attaches is_attached clock moment (CommitLeaves desk) old new
      → Leaves file aside attaches is_attached clock moment (ReachesTo (66 + length desk.changes.now) (length desk.changes.pages)) old new
      → HasGrown first (file old) desk.halt → HasGrown first (file new) next.halt
  grown_by_commit {T} {E} {old} {new} result None desk next kept going prepared done halted still leaves reach grew = grew
  grown_by_commit {T} {E} {old} {new} result (Some first) desk next kept going prepared done halted still leaves reach grew = λ after now.
      let before = told_before leaves after now in
      let stood = leaves.told before.0 before.1 in
      let same : stood.0 ≡ after = one_file stood.1 now in
      let front : FrontStays before.0.bytes after.bytes = subst (λ (f : File). FrontStays before.0.bytes f.bytes) same stood.2.1 in
      let reached = reach.told before.0 before.1 in
      let same_end : reached.0 ≡ after = one_file reached.1 now in
      let size : length after.bytes ≤ max (length before.0.bytes) (4096 * (66 + length desk.changes.now + index_pages (length desk.changes.pages) + length desk.changes.pages)) =
      subst (λ (f : File). length f.bytes ≤ max (length before.0.bytes) (4096 * (66 + length desk.changes.now + index_pages (length desk.changes.pages) + length desk.changes.pages))) same_end reached.2 in
      let ready = kept.ready prepared in
      let few = few_images desk.changes.pages (length desk.changes.now) ready.rising ready.holds.below in
      let so = grew before.0 before.1 in
      let base = counted (file old) desk before.0 kept before.1 in
      let more : so.0 ≤ length desk.changes.now = omega (arith, so.2 going, base, kept.count.0) in (
        length desk.changes.now,
        kept.count.1,
        (λ on. done_count result next.halt next.base (length desk.changes.now) done halted on ∙ sym (counted (file new) next after (still on) now)),
        grew_then first before.0.bytes after.bytes so.0 (length desk.changes.now) (length desk.changes.pages) so.3 front more few size,
      )

-- what a store knows of its file, by what it is seen as
pub grown_closed : (first : Option (List ℕ)) (told : Option File) (halt : Option Halt) → HasGrown first told halt → IfSome first (λ bytes. ForSome told (λ file. GrewWhere (is_some halt ≡ false) bytes file.bytes))
grown_closed None told halt grew = grew
grown_closed (Some bytes) told halt grew = λ file is. let so = grew file is in (so.0, so.1, λ on. so.2 (is_none halt on), so.3)
