-- What a store in a file knows of its desk and its host.
use Rattle.std.proofs.Common.{◌≡◌, ℕ, Bool, false, IsTrue, is_some, List, [], length, Option, Some, None, refl, sym, ap, subst, ◌∙◌}
use Rattle.std.specs.Option.{ForSome}
use Rattle.store_api.specs.StoreState.{stated_count}
use Rattle.std.proofs.lemmas.List.{length-replicate}
use Rattle.mdc_outside.specs.Disk.{File}
use Rattle.page_store.specs.declared.desk.Desk.{Desk}
use Rattle.page_store.specs.Changes.{Overlay}
use Rattle.page_store.specs.Desk.{IsKept, work_of, base_of, base_in}
use Rattle.page_store.specs.declared.write_through.Halt.{Halt}
use Rattle.page_store.specs.FileStore.{HeldStore, FitsFile, HasGrown}
use Rattle.page_store.specs.Standing.{IsFormed, pages_in}
use Rattle.page_store.proofs.Commits.{pages_at_rest}
use Rattle.page_store.proofs.Desks.{length-base_in}
use Rattle.page_store.proofs.LaidOver.{length-laid_over}

-- where none is there
pub is_none : {X : Type 0} (x : Option X) → is_some x ≡ false → x ≡ None
is_none None none = refl
is_none (Some x) none = absurd (cc)

-- no commit has failed, by what the store is seen as
pub still_going : {H L : Type 0} (host : H) (desk : Desk) {log : L} (held : HeldStore H L) → record { host = host; desk = desk; log = log } ≡ held → is_some held.desk.halt ≡ false → desk.halt ≡ None
still_going host desk held is going = is_none desk.halt (ap (λ h. is_some h.desk.halt) is ∙ going)

-- how many pages the work has
pub length-work_of : (told : Option File) (desk : Desk) (changes : Overlay) → length (work_of told desk changes) ≡ length changes
length-work_of None desk changes = length-replicate {A = List ℕ} (length changes) []
length-work_of (Some file) desk changes = length-laid_over changes (base_in desk.halt desk.base file.bytes)

-- how many pages the base has
pub length-base_of : (told : Option File) (desk : Desk) → desk.halt ≡ None → length (base_of told desk) ≡ desk.base
length-base_of None desk going = length-replicate {A = List ℕ} desk.base []
length-base_of (Some file) desk going = length-base_in desk.halt desk.base file.bytes going

-- how many pages the work has, by what the store is seen as
pub held_pages : {H L : Type 0} (file : H → Option File) (host : H) (desk : Desk) {log : L} (held : HeldStore H L) → record { host = host; desk = desk; log = log } ≡ held
    → length (work_of (file held.host) held.desk held.desk.changes.now) ≡ length desk.changes.now
held_pages file host desk held is = length-work_of (file held.host) held.desk held.desk.changes.now ∙ sym (ap (λ h. length h.desk.changes.now) is)

-- the same file has grown so far still
pub still_grown : (first : Option (List ℕ)) (told : Option File) (old new : Option Halt) → old ≡ None → HasGrown first told old → HasGrown first told new
still_grown None told old new going grew = grew
still_grown (Some bytes) told old new going grew = λ file is. let so = grew file is in (so.0, so.1, λ still. so.2 going, so.3)

-- the store is whole again, where its file is as it was
pub whole_again : (first : Option (List ℕ)) (is_attached : Bool) (before told : Option File) (desk new : Desk) → IsTrue is_attached → IsKept new told → told ≡ before → desk.halt ≡ None → HasGrown first before desk.halt
    → FitsFile first is_attached told new
whole_again first is_attached before told desk new attached kept same going grew = record {
  attached = attached;
  kept = λ still. kept;
  grew = still_grown first told desk.halt new.halt going (subst (λ (t : Option File). HasGrown first t desk.halt) (sym same) grew);
}

-- where pages are told, page 0 states how many there are
pub counted_there : {H L : Type 0} (file : H → Option File) (host : H) (desk : Desk) {log : L} (held : HeldStore H L) → record { host = host; desk = desk; log = log } ≡ held
    → (IsTrue (is_some (file held.host)) → stated_count (work_of (file held.host) held.desk held.desk.changes.now) ≡ length (work_of (file held.host) held.desk held.desk.changes.now))
    → ForSome (file host) (λ f. stated_count (work_of (file host) desk desk.changes.now) ≡ length desk.changes.now)
counted_there {H} {L} file host desk held is counted f told =
    let here : IsTrue (is_some (file host)) → stated_count (work_of (file host) desk desk.changes.now) ≡ length (work_of (file host) desk desk.changes.now) =
    subst (λ (h : HeldStore H L). IsTrue (is_some (file h.host)) → stated_count (work_of (file h.host) h.desk h.desk.changes.now) ≡ length (work_of (file h.host) h.desk h.desk.changes.now)) (sym is) counted in
    here (ap is_some told) ∙ length-work_of (file host) desk desk.changes.now

-- the file of a store in which no commit has failed holds its base
pub holds_base : (told : Option File) (desk : Desk) → IsKept desk told → desk.halt ≡ None → ForSome told (λ f. IsFormed f.bytes × (pages_in f.bytes ≡ base_of told desk))
holds_base told desk kept going = λ f is.
    let rest = kept.at_rest f is in
    (rest.formed, pages_at_rest desk.shape.extents desk.shape.extent_pages desk.base f rest ∙ (ap (λ halt. base_in halt desk.base f.bytes) (sym going) ∙ ap (λ t. base_of t desk) (sym is)))
