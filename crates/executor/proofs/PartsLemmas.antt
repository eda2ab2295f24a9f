-- Parts of a table's lists are gone over, one after the other.
use Rattle.std.proofs.Common.{◌≡◌, ◌≤◌, ◌+◌, ◌∙◌, ℕ, List, [], ◌∷◌, Bool, true, false, ap, arith, inl, inr, length, refl, subst, sym}
use Rattle.std.specs.Prelude.{All, Contains, MatchOption, None, Option, Some, filter, nat_lt}
use Rattle.std.specs.Int.{from_bool}
use Rattle.std.proofs.lemmas.Bool.{cases_Bool}
use Rattle.std.proofs.lemmas.List.Elements.{All-head, All-tail}
use Rattle.mdc_values.specs.Rising.{IsLower, IsRising}
use Rattle.mdc_ast.specs.declared.definition.TableDef.{TableDef}
use Rattle.mdc_ast.specs.declared.predicate.Pred.{Pred}
use Rattle.store_api.specs.Frame.{NoPage}
use Rattle.store_api.specs.RunsOverPages.{RunsOverPages}
use Rattle.store_api.specs.declared.fault.StoreFault.{StoreFault}
use Rattle.store_api.specs.declared.pages.Pages.{Ghosts}
use Rattle.store_api.specs.declared.shape.Shape.{Shape}
use Rattle.store_api.proofs.RunsOverPagesLemmas.{runs_then}
use Rattle.extent_map.specs.declared.kind.Kind.{Kind}
use Rattle.block_map.proofs.MapLinesLemmas.{contains_more}
use Rattle.block_rows.specs.Giving.{WasGiven}
use Rattle.block_rows.specs.HeldRows.{qualifying}
use Rattle.block_rows.specs.declared.row_sink.RowSink
use Rattle.block_rows.proofs.GivingLemmas.{given_more_qualifying, given_none}
use Rattle.table_trees.specs.TableTrees.{map_place}
use Rattle.mdc_sound.specs.StandingTable.{BreaksExpected, StandsTable, TableForests, pages_of}
use Rattle.mdc_sound.specs.TableRows.{PlacedRow, rows_in_table}
use Rattle.mdc_sound.proofs.StandingTableLemmas.{stands_same}
use Rattle.live_rows.proofs.LookRunsLemmas.{at_still}
use Rattle.block_lists.specs.Parts.{AreSlots, blocks_of}
use Rattle.block_lists.specs.declared.part.Part.{Part}
use Rattle.block_lists.proofs.WalkLemmas.{rising_tail}
use Rattle.table_scan.proofs.ScanningLemmas.{filter_first, filter_past}
use Rattle.row_entries.specs.SoundEntries.{HasSoundIndexes}
use Rattle.executor.specs.PartRows.{IsPageForPart, IsPartsPage, parts_with_rows, rows_in_part, rows_in_parts}
use Rattle.executor.proofs.PlanPagesLemmas.{indexes_still, used_page_before}

-- ---- what is left

-- these parts, of rising blocks, are left of all
pub record AreLeft (all left : List Part) : Type 0 where
  pub there : (part : Part) → Contains left part → Contains all part
  pub rise : IsRising IsLower (blocks_of left)
  pub slots : All (λ part. AreSlots part.slots) left

-- a number is no higher than the block of the first, if there is one
abbrev pub IsWithinFirst : ℕ → List Part → Type 0
IsWithinFirst n [] = Unit {0}
IsWithinFirst n (part ∷ parts) = n ≤ part.block

pub none_yet : (parts : List Part) → IsWithinFirst 0 parts
none_yet [] = tt
none_yet (part ∷ parts) = omega arith

-- the part that a cursor gives is the first that is left
pub next_is : {old now : List Part} (given : Option Part) (part : Part) → given ≡ Some part → MatchOption given ((old ≡ []) × (now ≡ [])) (λ next. old ≡ next ∷ now) → old ≡ part ∷ now
next_is {old} {now} given part is gives = subst (λ one. MatchOption one ((old ≡ []) × (now ≡ [])) (λ next. old ≡ next ∷ now)) is gives

-- none is left where it gives none
pub none_left : {old : List Part} (now : List Part) (given : Option Part) → given ≡ None → MatchOption given ((old ≡ []) × (now ≡ [])) (λ next. old ≡ next ∷ now) → old ≡ []
none_left {old} now given none gives = (subst (λ one. MatchOption one ((old ≡ []) × (now ≡ [])) (λ next. old ≡ next ∷ now)) none gives).0

-- one part has a row, or none
pub one_at_most : (n : ℕ) (some : Bool) (more : ℕ) → more ≡ from_bool some → n + more ≤ n + 1
one_at_most n true more is = omega (arith, is)
one_at_most n false more is = omega (arith, is)

module _ {all old : List Part} {part : Part} {now : List Part} (is : old ≡ part ∷ now) (left : AreLeft all old) where
  of_all : AreLeft all (part ∷ now)
  of_all = subst (AreLeft all) is left

  pub left_first : Contains all part
  left_first = of_all.there part (0, omega arith, refl)

  pub left_slots : AreSlots part.slots
  left_slots = All-head (λ part. AreSlots part.slots) part now of_all.slots

  pub left_more : AreLeft all now
  left_more = record {
    there = λ other there. of_all.there other (contains_more other part now there);
    rise = rising_tail IsLower part.block (blocks_of now) of_all.rise;
    slots = All-tail (λ part. AreSlots part.slots) part now of_all.slots;
  }

  module _ (n : ℕ) (within : IsWithinFirst n old) where
    pub first_bound : n ≤ part.block
    first_bound = subst (IsWithinFirst n) is within

    -- one more than it is no higher than that of the next
    pub within_more : (m : ℕ) → m ≤ n + 1 → IsWithinFirst m now
    within_more m low = next now of_all.rise
      where
        next : (parts : List Part) → IsRising IsLower (blocks_of (part ∷ parts)) → IsWithinFirst m parts
        next [] rise = tt
        next (other ∷ parts) rise = omega (arith, low, first_bound, rise.0)

-- ---- what was given

-- A sink was given the rows of so far, and so many parts had one: with those of the parts that are left it has the rows of all that qualify.
pub record AreGivenSoFar {K : Type 0} (sinks : RowSink.Ghosts K) (old now : K) (pred : Option Pred) (rows : List PlacedRow) (all left : List Part) (blocks : ℕ) : Type 0 where
  pub whole : (end : K) → WasGiven sinks now end (qualifying pred (rows_in_parts rows left)) → WasGiven sinks old end (qualifying pred (rows_in_parts rows all))
  pub counted : blocks + length (parts_with_rows rows left) ≡ length (parts_with_rows rows all)

module _ {K : Type 0} (sinks : RowSink.Ghosts K) (old : K) (pred : Option Pred) (rows : List PlacedRow) (all : List Part) where
  -- nothing yet
  pub given_none_yet : AreGivenSoFar sinks old old pred rows all all 0
  given_none_yet = record { whole = λ end given. given; counted = omega arith }

  -- the next part as well
  given_next : {left : List Part} (part : Part) (now : List Part) → left ≡ part ∷ now → (mid new : K) (blocks blocks_now : ℕ) (some : Bool) → WasGiven sinks mid new (qualifying pred (rows_in_part rows part))
      → some ≡ nat_lt 0 (length (rows_in_part rows part)) → blocks_now ≡ blocks + from_bool some → AreGivenSoFar sinks old mid pred rows all left blocks → AreGivenSoFar sinks old new pred rows all now blocks_now
  given_next part now is mid new blocks blocks_now some given says counts so_far =
      let so : AreGivenSoFar sinks old mid pred rows all (part ∷ now) blocks = subst (λ left. AreGivenSoFar sinks old mid pred rows all left blocks) is so_far in
      record {
        whole = λ end rest. so.whole end (given_more_qualifying sinks pred mid new end (rows_in_part rows part) (rows_in_parts rows now) given rest);
        counted = count counts so.counted;
      }
    where
      has_row : Part → Bool
      has_row part = nat_lt 0 (length (rows_in_part rows part))

      count : blocks_now ≡ blocks + from_bool some → blocks + length (filter has_row (part ∷ now)) ≡ length (parts_with_rows rows all) → blocks_now + length (filter has_row now) ≡ length (parts_with_rows rows all)
      count more before = elim (cases_Bool some) [
        | inl is_some ↦ omega (arith, before, more ∙ ap (λ b. blocks + from_bool b) is_some, ap length (filter_first has_row part now (sym says ∙ is_some)))
        | inr is_none ↦ omega (arith, before, more ∙ ap (λ b. blocks + from_bool b) is_none, ap length (filter_past has_row part now (sym says ∙ is_none)))
      ]

  -- all of them
  pub given_all : {left : List Part} → left ≡ [] → (now : K) (blocks : ℕ) → AreGivenSoFar sinks old now pred rows all left blocks
      → WasGiven sinks old now (qualifying pred (rows_in_parts rows all)) × (blocks ≡ length (parts_with_rows rows all))
  given_all none now blocks so_far =
      let so : AreGivenSoFar sinks old now pred rows all [] blocks = subst (λ left. AreGivenSoFar sinks old now pred rows all left blocks) none so_far in
      (so.whole now (given_none sinks now), omega (arith, so.counted))

-- what was read of a part midway, is so of the pages at the start
module _ {S : Type 0} {g : Ghosts S} (shape : Shape) (old mid : S) (def : TableDef) (told : (g.state mid).is_told ≡ (g.state old).is_told) (same : (g.state mid).work ≡ (g.state old).work)
    {K : Type 0} (sinks : RowSink.Ghosts K) (sink : K) (pred : Option Pred) (all : List Part) where
  pub given_more_parts : {left : List Part} (part : Part) (now : List Part) → left ≡ part ∷ now → (sink_mid sink_new : K) (blocks blocks_now : ℕ) (some : Bool)
      → ((owners : List Kind) (forests : TableForests) → StandsTable g shape mid def owners forests → WasGiven sinks sink_mid sink_new (qualifying pred (rows_in_part (rows_in_table shape (pages_of g mid) def forests.map) part)))
      → ((owners : List Kind) (forests : TableForests) → StandsTable g shape mid def owners forests → some ≡ nat_lt 0 (length (rows_in_part (rows_in_table shape (pages_of g mid) def forests.map) part)))
      → blocks_now ≡ blocks + from_bool some
      → ((owners : List Kind) (forests : TableForests) → StandsTable g shape old def owners forests → AreGivenSoFar sinks sink sink_mid pred (rows_in_table shape (pages_of g old) def forests.map) all left blocks)
      → (owners : List Kind) (forests : TableForests) → StandsTable g shape old def owners forests → AreGivenSoFar sinks sink sink_new pred (rows_in_table shape (pages_of g old) def forests.map) all now blocks_now
  given_more_parts part now is sink_mid sink_new blocks blocks_now some given says counts so_far owners forests st =
      let still = stands_same shape old mid def owners forests told same st in
      given_next sinks sink pred (rows_in_table shape (pages_of g old) def forests.map) all part now is sink_mid sink_new blocks blocks_now some
      (subst (λ pages. WasGiven sinks sink_mid sink_new (qualifying pred (rows_in_part (rows_in_table shape pages def forests.map) part))) same (given owners forests still))
      (subst (λ pages. some ≡ nat_lt 0 (length (rows_in_part (rows_in_table shape pages def forests.map) part))) same (says owners forests still))
      counts (so_far owners forests st)

-- ---- the pages that come to hand

module _ {S : Type 0} {g : Ghosts S} (shape : Shape) (def : TableDef) (all : List Part) (part : Part) (there : Contains all part) where
  pub parts_more : {old mid new : S} {fault : Option StoreFault} → (g.state mid).work ≡ (g.state old).work
      → RunsOverPages g NoPage (IsPartsPage g shape old def all) (BreaksExpected g shape old def (HasSoundIndexes g shape old def)) old mid None
      → RunsOverPages g NoPage (IsPageForPart g shape mid def part.block) (BreaksExpected g shape mid def (HasSoundIndexes g shape mid def)) mid new fault
      → RunsOverPages g NoPage (IsPartsPage g shape old def all) (BreaksExpected g shape old def (HasSoundIndexes g shape old def)) old new fault
  parts_more {old} {mid} same first second =
      runs_then first second (λ p low none. none) page
      (λ damage b. record {
        names = b.names;
        broken = λ owners forests st sound. b.broken owners forests (stands_same shape old mid def owners forests first.works.steady.is_told same st) (indexes_still g shape old mid def forests same sound);
      })
    where
      page : (p : ℕ) → IsPageForPart g shape mid def part.block p → IsPartsPage g shape old def all p
      page p (inl map) = inl (λ t held. map t (at_still old mid (map_place def) t first.works.steady same held))
      page p (inr is) = inr (record { part = part; there = there; page = used_page_before g old mid first.works.steady.is_told same shape def part.block p is })
