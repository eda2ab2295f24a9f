-- What the store in memory keeps for going back: the pages that were written over.
use Rattle.std.specs.Prelude.{ℕ, zero, suc, ◌≤◌, Bool, true, List, [], ◌∷◌, take, drop, slice_set, Option, Some, None, nat_lt}
use Rattle.store_api.specs.declared.history.Change.{Change}
use Rattle.store_api.specs.declared.history.Mark.{Mark}
use Rattle.store_api.specs.declared.mem_store.Hand.{Hand}
use Rattle.store_api.specs.declared.mem_store.Hand.TheVariants.{Work, History}
use Rattle.store_api.specs.StoreState.{page_at}

-- the pages before the changes, of which the first is the oldest
abbrev pub undone : List Change → List (List ℕ) → List (List ℕ)
undone [] pages = pages
undone (change ∷ changes) pages = slice_set (undone changes pages) change.page change.was

-- the pages as they were at a mark
abbrev pub at_mark : Mark → List Change → List (List ℕ) → List (List ℕ)
at_mark mark changes pages = undone (drop mark.changes changes) (take mark.count pages)

-- the pages as they were at the mark, where there is one
abbrev pub marked_pages : Option Mark → List Change → List (List ℕ) → Option (List (List ℕ))
marked_pages None changes pages = None
marked_pages (Some mark) changes pages = Some (at_mark mark changes pages)

-- a mark lies behind the base, and not behind what there is
pub record IsMarkWithin (base changes pages : ℕ) (mark : Mark) : Type 0 where
  pub behind_base : base ≤ mark.count
  pub changes_there : mark.changes ≤ changes
  pub pages_there : mark.count ≤ pages

-- what was written over by a change
abbrev pub was_at : List Change → ℕ → List ℕ
was_at [] i = []
was_at (change ∷ changes) zero = change.was
was_at (change ∷ changes) (suc i) = was_at changes i

-- the page that is at hand
abbrev pub hand_page : Option Hand → List Change → List (List ℕ) → Option (List ℕ)
hand_page None changes pages = None
hand_page (Some (Work at)) changes pages = Some (page_at pages at)
hand_page (Some (History at)) changes pages = Some (was_at changes at)

-- the page at hand is there
abbrev pub is_hand_within : Option Hand → ℕ → ℕ → Bool
is_hand_within None changes pages = true
is_hand_within (Some (Work at)) changes pages = nat_lt at pages
is_hand_within (Some (History at)) changes pages = nat_lt at changes
