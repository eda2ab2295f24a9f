-- A page with a change that is lent to be changed.
use Rattle.std.specs.Prelude.{◌≡◌, ℕ, List, Some, Result, IsOk, OnErr, length, slice_set}
use Rattle.std.specs.Borrow.{follows_so, name_if_ok, MutBor, Fml, Array, u8}
use Rattle.store_api.specs.declared.fault.PageFault.{PageFault}
use Rattle.dirty_pages.specs.Changes.{Changed}
use Rattle.dirty_pages.specs.contracts.changes.Changes.{the_row}

-- no page is more or less, and the mark stands
pub record SameFrame (old new : Changed) : Type 0 where
  pub size : length new.now ≡ length old.now
  pub marked : new.marked ≡ old.marked
  pub kept : new.kept ≡ old.kept
  pub base : new.base ≡ old.base

-- the changes end with page p as the borrower leaves it, and as they were where no page was lent
abbrev pub LendsChange : ℕ → MutBor Changed → Result (MutBor (List ℕ)) PageFault → Fml
LendsChange p s r =
    follows_so the_row (Array u8 4096) s.ghost_name (name_if_ok (λ x. x.ghost_name) r)
    (λ w n. SameFrame s.now n × (IsOk r → n.now ≡ slice_set s.now.now p (Some w)))
    (λ n. SameFrame s.now n × OnErr r (n.now ≡ s.now.now))
