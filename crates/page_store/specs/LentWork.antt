-- A page of the work that is lent to be changed, by what is in memory of it.
use Rattle.std.specs.Prelude.{◌≡◌, ℕ, List, Some, Result, IsOk, OnErr, slice_set}
use Rattle.std.specs.Borrow.{follows_so, name_if_ok, MutBor, Fml, Array, u8}
use Rattle.store_api.specs.declared.fault.PageFault.{PageFault}
use Rattle.dirty_pages.specs.LentChange.{SameFrame}
use Rattle.page_store.specs.declared.desk.Desk.{Desk}
use Rattle.page_store.specs.contracts.desk.Desk.{the_row}

-- but for the bytes of the changes all is as it was
pub record SameDesk (old new : Desk) : Type 0 where
  pub changes : SameFrame old.changes new.changes
  pub shape : new.shape ≡ old.shape
  pub base : new.base ≡ old.base
  pub cache : new.cache ≡ old.cache
  pub hand : new.hand ≡ old.hand
  pub prepared : new.prepared ≡ old.prepared
  pub halt : new.halt ≡ old.halt

-- the desk ends with page p as the borrower leaves it, and as it was where no page was lent
abbrev pub LendsWork : ℕ → MutBor Desk → Result (MutBor (List ℕ)) PageFault → Fml
LendsWork p s r =
    follows_so the_row (Array u8 4096) s.ghost_name (name_if_ok (λ x. x.ghost_name) r)
    (λ w n. SameDesk s.now n × (IsOk r → n.changes.now ≡ slice_set s.now.changes.now p (Some w)))
    (λ n. SameDesk s.now n × OnErr r (n.changes.now ≡ s.now.changes.now))
