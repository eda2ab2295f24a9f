-- What each call of a store does. All that a definition doesn't name stays.
use Rattle.std.specs.Prelude.{◌≡◌, ◌⊎◌, ℕ, IsTrue, true, false, List, [], ◌∷◌, ◌++◌, Option, Some, None, unwrap_or, replicate, slice_set}
use Rattle.mdc_words.specs.Fronts.{IsFrontOf}
use Rattle.store_api.specs.StoreState.{StoreState, page_at, zero_page, seen}

-- the list with one more item, where it is told
abbrev pub noted : {A : Type 0} → A → Option (List A) → Option (List A)
noted item None = None
noted item (Some items) = Some (items ++ item ∷ [])

-- the bytes with a piece more, where they are told
abbrev pub continued : List ℕ → Option (List ℕ) → Option (List ℕ)
continued piece None = None
continued piece (Some bytes) = Some (bytes ++ piece)

-- page p came to hand, which is this one where it is told
abbrev pub Brings : ℕ → List ℕ → StoreState → StoreState → Type 0
Brings p told old new =
    (page : List ℕ) × (IsTrue old.is_told → page ≡ told) × (new ≡ record old { hand = Some page; fetched = noted p old.fetched })

-- page p of the work came to hand
abbrev pub Fetches : ℕ → StoreState → StoreState → Type 0
Fetches p old new = Brings p (page_at old.work p) old new

-- page p of the base came to hand
abbrev pub FetchesCommitted : ℕ → StoreState → StoreState → Type 0
FetchesCommitted p old new = Brings p (page_at old.base p) old new

-- no page is at hand
abbrev pub LosesHand : StoreState → StoreState → Type 0
LosesHand old new = new ≡ record old { hand = None }

-- page p of the work is these bytes, and these are the pages that came to hand so far
abbrev pub Puts : Option (List ℕ) → ℕ → List ℕ → StoreState → StoreState → Type 0
Puts fetched p bytes old new =
    new ≡ record old { work = seen old.is_told (slice_set old.work p bytes); hand = None; prepared = false; fetched = fetched }

-- page p of the work is these bytes
abbrev pub Writes : ℕ → List ℕ → StoreState → StoreState → Type 0
Writes p bytes old new = Puts old.fetched p bytes old new

-- page p of the work, which came to its borrower's hands, is these bytes
abbrev pub Edits : ℕ → List ℕ → StoreState → StoreState → Type 0
Edits p bytes old new = Puts (noted p old.fetched) p bytes old new

-- the work has n pages of zeros more at its end
abbrev pub Grows : ℕ → StoreState → StoreState → Type 0
Grows n old new = new ≡ record old { work = seen old.is_told (old.work ++ replicate n zero_page); hand = None; prepared = false }

-- the work is as it was, and no longer ready for `commit`
abbrev pub LosesReadiness : StoreState → StoreState → Type 0
LosesReadiness old new = new ≡ record old { hand = None; prepared = false }

-- the work is marked
abbrev pub Marks : StoreState → StoreState → Type 0
Marks old new = new ≡ record old { marked = Some old.work; hand = None; prepared = false }

-- the mark is dropped, and the work stays
abbrev pub Keeps : StoreState → StoreState → Type 0
Keeps old new = new ≡ record old { marked = None; hand = None }

-- the work is that of the mark, which is dropped
abbrev pub Undoes : StoreState → StoreState → Type 0
Undoes old new = new ≡ record old { work = unwrap_or old.marked old.work; marked = None; hand = None; prepared = false }

-- the work is ready for `commit`
abbrev pub Prepares : StoreState → StoreState → Type 0
Prepares old new = new ≡ record old { hand = None; prepared = true }

-- the work is the new base, and the file may be another
abbrev pub Commits : StoreState → StoreState → Type 0
Commits old new = new ≡ record old { base = old.work; marked = None; hand = None; prepared = false; file = new.file }

-- The store takes no further call. Its base is what it was, or the work, and the file may be another.
abbrev pub Ends : StoreState → StoreState → Type 0
Ends old new =
    (base : List (List ℕ)) × ((base ≡ old.base) ⊎ (base ≡ old.work))
    × (new ≡ record old { base = base; hand = None; prepared = false; ended = true; file = new.file })

-- the work is the base again, and no mark is open
abbrev pub RollsBack : StoreState → StoreState → Type 0
RollsBack old new = new ≡ record old { work = old.base; marked = None; hand = None; prepared = false }

-- a piece more is told
abbrev pub Tells : List ℕ → StoreState → StoreState → Type 0
Tells piece old new = new ≡ record old { told = continued piece old.told; hand = None }

-- a front of the piece more is told
abbrev pub TellsPart : List ℕ → StoreState → StoreState → Type 0
TellsPart piece old new = (part : List ℕ) × IsFrontOf part piece × Tells part old new
