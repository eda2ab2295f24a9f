-- What a scan has found and brought to hand so far.
use Rattle.std.proofs.Common.{◌≡◌, ◌<◌, ◌≤◌, ◌+◌, ℕ, zero, suc, List, [], ◌∷◌, Bool, true, false, length, get_or, refl, inl, inr, ap, arith, sym, ◌∙◌, subst}
use Rattle.std.specs.Prelude.{Contains, IsPermutation, Option, None, filter, flat_map, map}
use Rattle.std.proofs.lemmas.Bool.{cases_Bool}
use Rattle.std.proofs.lemmas.List.Elements.{Contains-get_or}
use Rattle.std.proofs.lemmas.List.Sorted.{IsPermutation-refl}
use Rattle.mdc_values.specs.Rising.{IsLower, IsRising}
use Rattle.store_api.specs.Fetching.{BringsOnce, BringsOnly}
use Rattle.store_api.specs.declared.pages.Pages.{Ghosts}
use Rattle.store_api.proofs.FetchingLemmas.{once_none, once_then, once_wider}
use Rattle.extent_map.specs.declared.kind.Kind.{Kind}
use Rattle.mdc_ast.specs.declared.definition.TableDef.{TableDef}
use Rattle.mdc_ast.specs.declared.predicate.Pred.{Pred}
use Rattle.store_api.specs.Frame.{NoPage}
use Rattle.store_api.specs.RunsOverPages.{RunsOverPages}
use Rattle.store_api.specs.declared.fault.StoreFault.{StoreFault}
use Rattle.store_api.specs.declared.shape.Shape.{Shape}
use Rattle.store_api.proofs.RunsOverPagesLemmas.{runs_wider}
use Rattle.block_map.specs.MapLines.{used_blocks}
use Rattle.block_rows.specs.HeldRows.{qualifying}
use Rattle.mdc_sound.specs.StandingTable.{BreaksTable, IsPageOfBlock, StandsTable, TableForests, pages_of}
use Rattle.mdc_sound.specs.StandingTable.NamesTablePart.{tree}
use Rattle.mdc_sound.specs.TableRows.{rows_in_block, rows_in_table}
use Rattle.mdc_sound.proofs.BlockRulesLemmas.{each_of}
use Rattle.mdc_sound.proofs.ElementsLemmas.{each_in}
use Rattle.table_trees.specs.TableTrees.{composite_place, map_place}
use Rattle.table_trees.specs.TreesBeside.{BreaksTreeAt, IsTreePageAt}
use Rattle.table_scan.specs.FoundRows.{HaveQualifying, IsChoicePage, IsChosenBlock, IsChosenRowPage, IsScannedPage, ScansOnce}

-- ---- the elements of a list that pass a test, one after the other

module _ {X : Type 0} (p : X → Bool) where
  pub filter_first : (x : X) (xs : List X) → p x ≡ true → filter p (x ∷ xs) ≡ x ∷ filter p xs
  filter_first x xs is = rw is refl

  pub filter_past : (x : X) (xs : List X) → p x ≡ false → filter p (x ∷ xs) ≡ filter p xs
  filter_past x xs is = rw is refl

-- a map of the elements that pass, where the test is one of what they are mapped to
pub map_kept : {X Y : Type 0} (f : X → Y) (q : Y → Bool) (xs : List X) → map f (filter (λ x. q (f x)) xs) ≡ filter q (map f xs)
map_kept f q [] = refl
map_kept f q (x ∷ xs) = elim (cases_Bool (q (f x))) [
  | inl passes ↦ ap (map f) (filter_first (λ x. q (f x)) x xs passes) ∙ ap (λ rest. f x ∷ rest) (map_kept f q xs) ∙ sym (filter_first q (f x) (map f xs) passes)
  | inr fails ↦ ap (map f) (filter_past (λ x. q (f x)) x xs fails) ∙ map_kept f q xs ∙ sym (filter_past q (f x) (map f xs) fails)
]

-- ---- blocks that were chosen

-- a block that was chosen, at its place
pub is_chosen : {S : Type 0} {g : Ghosts S} (shape : Shape) (s : S) (def : TableDef) (pred : Option Pred) (items : List ℕ) (forests : TableForests) (i : ℕ)
    → HaveQualifying g shape s def pred items forests → i < length items → IsChosenBlock g shape s def pred forests (get_or items i 0)
is_chosen {S} {g} shape s def pred items forests i have low = each_of (IsChosenBlock g shape s def pred forests) items (get_or items i 0) have.chosen (Contains-get_or items i 0 low)

-- ---- the pages that came to hand

-- the first of numbers that rise is below all behind it
first_below : (x : ℕ) (xs : List ℕ) (j : ℕ) → IsRising IsLower (x ∷ xs) → j < length xs → x < get_or xs j 0
first_below x [] j rising within = absurd (omega (arith, within))
first_below x (y ∷ xs) zero rising within = rising.0
first_below x (y ∷ xs) (suc j) rising within = omega (arith, rising.0, first_below y xs j rising.1 (omega (arith, within)))

rest_rises : (x : ℕ) (xs : List ℕ) → IsRising IsLower (x ∷ xs) → IsRising IsLower xs
rest_rises x [] rising = tt
rest_rises x (y ∷ xs) rising = rising.1

-- so each is below all behind it
pub rises_to : (xs : List ℕ) (i j : ℕ) → IsRising IsLower xs → i < j → j < length xs → get_or xs i 0 < get_or xs j 0
rises_to [] i j rising below within = absurd (omega (arith, within))
rises_to (x ∷ xs) i zero rising below within = absurd (omega (arith, below))
rises_to (x ∷ xs) zero (suc j) rising below within = first_below x xs j rising (omega (arith, within))
rises_to (x ∷ xs) (suc i) (suc j) rising below within = rises_to xs i j (rest_rises x xs rising) (omega (arith, below)) (omega (arith, within))

-- and none is below its place
pub above_place : (xs : List ℕ) (i : ℕ) → IsRising IsLower xs → i < length xs → i ≤ get_or xs i 0
above_place xs zero rising within = omega arith
above_place xs (suc i) rising within = omega (arith, above_place xs i rising (omega (arith, within)), rises_to xs i (suc i) rising (omega arith) within)

-- a page of one of the first blocks of a list
abbrev pub IsPageBefore : Shape → List ℕ → ℕ → ℕ → Type 0
IsPageBefore shape blocks n p = (i : ℕ) × (i < n) × IsPageOfBlock shape (get_or blocks i 0) p

-- it isn't one of the next block
pub page_apart : (shape : Shape) (blocks : List ℕ) (n p : ℕ) → IsRising IsLower blocks → n < length blocks → IsPageBefore shape blocks n p → IsPageOfBlock shape (get_or blocks n 0) p → ⊥
page_apart shape blocks n p rising within (i, below, early) late = omega (arith, rises_to blocks i n rising below within, early.1, late.1)

module _ {S : Type 0} {g : Ghosts S} where
  -- no page of the later kind came to hand yet
  pub scans_none : {Early Late : ℕ → Type 0} {old new : S} → BringsOnly g Early old new → ScansOnce g Early Late old new
  scans_none {Early} {Late} {old} {new} run = record { between = new; looks = run; reads = once_none }

  -- pages of the next block came to hand, each once
  pub scans_more : {Early : ℕ → Type 0} {old mid new : S} (shape : Shape) (blocks : List ℕ) (n : ℕ) → IsRising IsLower blocks → n < length blocks
      → ScansOnce g Early (IsPageBefore shape blocks n) old mid → BringsOnce g (IsPageOfBlock shape (get_or blocks n 0)) mid new → ScansOnce g Early (IsPageBefore shape blocks (n + 1)) old new
  scans_more shape blocks n rising within run more = record {
    between = run.between;
    looks = run.looks;
    reads = once_then run.reads more (λ p early late. page_apart shape blocks n p rising within early late) (λ p early. (early.0, omega (arith, early.1), early.2)) (λ p late. (n, omega arith, late));
  }

  -- where they are those of blocks that were chosen
  pub scans_chosen : {Early : ℕ → Type 0} {old new s : S} (shape : Shape) (def : TableDef) (pred : Option Pred) (blocks : List ℕ) (n : ℕ) → n ≤ length blocks
      → ((owners : List Kind) (forests : TableForests) → StandsTable g shape s def owners forests → HaveQualifying g shape s def pred blocks forests)
      → ScansOnce g Early (IsPageBefore shape blocks n) old new → ScansOnce g Early (IsChosenRowPage g shape s def pred) old new
  scans_chosen {s = s} shape def pred blocks n within are run = record {
    between = run.between;
    looks = run.looks;
    reads = once_wider run.reads (λ p (i, below, is) owners forests st. (get_or blocks i 0, is_chosen shape s def pred blocks forests i (are owners forests st) (omega (arith, below, within)), is));
  }

-- ---- the runs on pages

module _ {S : Type 0} {g : Ghosts S} (shape : Shape) (def : TableDef) where
  -- the run that chooses the blocks
  pub runs_choice : {pred : Option Pred} {old new : S} {fault : Option StoreFault} → RunsOverPages g NoPage (IsChoicePage g shape old def) (BreaksTable g shape old def) old new fault
      → RunsOverPages g NoPage (IsScannedPage g shape old def pred) (BreaksTable g shape old def) old new fault
  runs_choice run = runs_wider run (λ p there none. absurd none) (λ p is. inl is) (λ damage b. b)

  -- the runs that list the Used blocks, and the cells
  pub runs_used : {old new : S} {fault : Option StoreFault} → RunsOverPages g NoPage (IsTreePageAt g old (map_place def)) (BreaksTable g shape old def) old new fault
      → RunsOverPages g NoPage (IsChoicePage g shape old def) (BreaksTable g shape old def) old new fault
  runs_used run = runs_wider run (λ p there none. absurd none) (λ p is owners forests st. inl (is forests.map st.trees.held.0)) (λ damage b. b)

  pub runs_cells : {old new : S} {fault : Option StoreFault} → RunsOverPages g NoPage (IsTreePageAt g old (composite_place def)) (BreaksTreeAt g old (composite_place def)) old new fault
      → RunsOverPages g NoPage (IsChoicePage g shape old def) (BreaksTable g shape old def) old new fault
  runs_cells {old} run = runs_wider run (λ p there none. absurd none) (λ p is owners forests st. inr (is forests.composite st.trees.held.1.0))
      (λ damage b. record { names = tree b.rule (1, omega arith, sym b.page); broken = λ owners forests st. b.broken forests.composite st.trees.held.1.0 })

  -- without a predicate all Used blocks are chosen
  pub all_chosen : (s : S) (blocks : List ℕ) (forests : TableForests) → blocks ≡ used_blocks forests.map → HaveQualifying g shape s def None blocks forests
  all_chosen s blocks forests are = record {
    chosen = each_in (IsChosenBlock g shape s def None forests) blocks (λ block is_in. record { used = subst (λ l. Contains l block) are is_in; may = tt });
    whole = subst (λ l. IsPermutation (qualifying None (rows_in_table shape (pages_of g s) def forests.map)) (qualifying None (flat_map (rows_in_block shape (pages_of g s) def) l))) (sym are)
        (IsPermutation-refl (qualifying None (rows_in_table shape (pages_of g s) def forests.map)));
  }
