-- What `Changes` is seen as.
use Rattle.std.specs.Prelude.{◌≡◌, ◌⊎◌, ◌++◌, ◌∷◌, [], false, ◌≤◌, ◌+◌, ◌-◌, ℕ, Bool, true, ◌||◌, List, Option, Some, None, IsSome, is_some, take, length, nat_eq, nat_le, if◌then◌else◌}
use Rattle.mdc_words.specs.Listed.{listed}
use Rattle.std.specs.Map.{lookup}
use Rattle.std.specs.Option.{option_map, option_or, ForSome}
use Rattle.store_api.specs.StoreState.{zero_page}
use Rattle.dirty_pages.specs.Table.{Numbered, LiesAt}
use Rattle.dirty_pages.specs.Changes.{Changed, changed_in}
use Rattle.dirty_pages.specs.declared.changes.Mark.{Mark}
use Rattle.dirty_pages.specs.declared.changes.Changes.TheInside.{Inside}

-- what was written, or else zeros where the page was grown
abbrev pub or_grown : ℕ → (ℕ → Option (List ℕ)) → ℕ → Option (List ℕ)
or_grown base f p = option_or (f p) (if nat_le base p then Some zero_page else None)

-- what was written over a page
abbrev pub written_over : Numbered → ℕ → Option (List ℕ)
written_over pages p = lookup (nat_eq p) pages

-- what had been written over a page at the mark: as it was saved, or else as it is
abbrev pub written_before : Numbered → Numbered → ℕ → Option (List ℕ)
written_before saved pages p = option_or (written_over saved p) (written_over pages p)

-- the changes now and at the mark
abbrev pub changed_of : Inside → Changed
changed_of it = record {
  base = it.base;
  now = listed it.count (or_grown it.base (written_over it.table));
  marked = option_map (λ mark. listed mark.count (or_grown it.base (written_before it.saved (take mark.written it.table)))) it.mark;
  kept = it.below + (it.count - it.base);
  pages = it.table;
}

-- what was written stands below the count, and how much of it below the base is counted
pub record FitsCounts (base count below : ℕ) (f : ℕ → Option (List ℕ)) : Type 0 where
  pub grown : base ≤ count
  pub within : (p : ℕ) → count ≤ p → f p ≡ None
  pub counted : below ≡ changed_in (listed base f)

-- the mark fits the changes, and what is saved had been written before it
pub record FitsMark (base count below : ℕ) (table saved : Numbered) (mark : Mark) : Type 0 where
  pub fewer : mark.written ≤ length table
  pub no_more : mark.count ≤ count
  pub no_more_below : mark.below ≤ below
  pub before : FitsCounts base mark.count mark.below (written_over (take mark.written table))
  pub over : (p : ℕ) → IsSome (written_over saved p) → IsSome (written_over (take mark.written table) p)

-- the counts fit, and so does the mark
pub record IsConsistent (it : Inside) : Type 0 where
  pub counts : FitsCounts it.base it.count it.below (written_over it.table)
  pub mark : ForSome it.mark (FitsMark it.base it.count it.below it.table it.saved)

-- a page may be written over in its place: what it was at the mark is saved, or it wasn't written then
abbrev pub is_free_in : Option Mark → Numbered → ℕ → ℕ → Bool
is_free_in None saved p place = true
is_free_in (Some mark) saved p place = nat_le mark.written place || is_some (written_over saved p)

-- a page was saved that was to be, or none
abbrev pub Saves : Option Mark → Numbered → ℕ → Numbered → Numbered → Type 0
Saves mark table p saved saved_new =
    (saved_new ≡ saved) ⊎ ((place : ℕ) × (lies : LiesAt table p place) × (is_free_in mark saved p place ≡ false) × (saved_new ≡ saved ++ (p, lies.page) ∷ []))
