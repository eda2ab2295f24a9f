-- Twins among rows that stay and rows that come: row by row, and index by index.
use Rattle.std.proofs.Common.{◌≡◌, ◌<◌, ◌≤◌, ◌+◌, ℕ, zero, suc, List, [], ◌∷◌, ◌++◌, map, Bool, true, false, length, take, drop, get_or, refl, sym, ap, arith, ◌∙◌}
use Rattle.std.specs.Prelude.{◌||◌, ◌&&◌, Contains, IsTrue, None, Some, filter, flat_map}
use Rattle.std.specs.List.{list_any}
use Rattle.std.proofs.Math.Seq.{take-length}
use Rattle.std.proofs.lemmas.List.{map-append, take_more}
use Rattle.std.proofs.lemmas.List.Folds.{list_any-append}
use Rattle.mdc_values.specs.declared.value.Value.{Value}
use Rattle.mdc_ast.specs.declared.definition.IndexDef.{IndexDef}
use Rattle.mdc_ast.specs.declared.definition.KeyPart.{KeyPart}
use Rattle.mdc_sound.proofs.BlockRulesLemmas.{each_of}
use Rattle.mdc_sound.proofs.ElementsLemmas.{in_map}
use Rattle.statement_meaning.specs.Cause.{DuplicateKey, cause_if}
use Rattle.statement_meaning.specs.Doing.{twin_causes}
use Rattle.statement_meaning.specs.Keys.{has_twin, have_twins}
use Rattle.binder.specs.Saying.{first_of}
use Rattle.binder.proofs.FirstLemmas.{first_of-end, first_of-here, first_of-next}
use Rattle.unique_keys.specs.Clashes.{HaveOwnKeys}
use Rattle.unique_keys.proofs.MovedTwinsLemmas.{clash_of_both}
use Rattle.unique_keys.proofs.StayingLemmas.{in_filter}

-- ---- rows that come, one after the other

module _ {B : Type 0} (now : B → List Value) (test : List Value → Bool) where
  or_back : (a b : Bool) → b ≡ true → (a || b) ≡ true
  or_back true b e = refl
  or_back false b e = e

  -- one of them passes a test
  pub any_here : (rows : List B) (i : ℕ) (row : B) → i < length rows → row ≡ get_or rows i row → test (now row) ≡ true → list_any test (map now rows) ≡ true
  any_here [] i row low at passes = absurd (omega (arith, low))
  any_here (first ∷ rows) zero row low at passes = ap (λ b. b || list_any test (map now rows)) (ap (λ r. test (now r)) (sym at) ∙ passes)
  any_here (first ∷ rows) (suc i) row low at passes = or_back (test (now first)) (list_any test (map now rows)) (any_here rows i row (omega (arith, low)) at passes)

  -- none of those so far does, and the next doesn't
  pub none_yet : (rows : List B) (i : ℕ) (row : B) → i < length rows → row ≡ get_or rows i row → list_any test (map now (take i rows)) ≡ false → test (now row) ≡ false
      → list_any test (map now (take (i + 1) rows)) ≡ false
  none_yet rows i row low at none fails =
      ap (λ rs. list_any test (map now rs)) (take_more rows i row low ∙ ap (λ r. take i rows ++ r ∷ []) (sym at))
      ∙ (ap (list_any test) (map-append now (take i rows) (row ∷ [])) ∙ (list_any-append test (map now (take i rows)) (now row ∷ []) ∙ rw (none, fails) refl))

  -- none of all does
  pub all_looked : (rows : List B) (i : ℕ) → i ≡ length rows → list_any test (map now (take i rows)) ≡ false → list_any test (map now rows) ≡ false
  all_looked rows i whole none = ap (λ rs. list_any test (map now rs)) (sym (ap (λ n. take n rows) whole ∙ take-length rows)) ∙ none

-- ---- one index

-- a row alone has no twin
pub none_among_few : {B : Type 0} (now : B → List Value) (parts : List KeyPart) (rows : List B) → length rows < 2 → false ≡ have_twins parts (map now rows)
none_among_few now parts [] few = refl
none_among_few now parts (row ∷ []) few = refl
none_among_few now parts (row ∷ other ∷ rows) few = absurd (omega (arith, few))

module _ (parts : List KeyPart) (stay come : List (List Value)) (own : have_twins parts stay ≡ false) where
  -- two of the rows that come have equal keys
  pub clash_among : true ≡ have_twins parts come → have_twins parts (stay ++ come) ≡ true
  clash_among twins = clash_of_both parts stay come own ∙ go (list_any (has_twin parts stay) come) (have_twins parts come) (sym twins)
    where
      go : (a b : Bool) → b ≡ true → (a || b) ≡ true
      go true b e = refl
      go false b e = e

  -- they haven't: then one of them has the key of one that stays, or there are no equal keys
  pub clash_alone : (found : Bool) → false ≡ have_twins parts come → list_any (has_twin parts stay) come ≡ found → have_twins parts (stay ++ come) ≡ found
  clash_alone found none twin = clash_of_both parts stay come own ∙ go (list_any (has_twin parts stay) come) (have_twins parts come) (sym none) ∙ twin
    where
      go : (a b : Bool) → b ≡ false → (a || b) ≡ a
      go true b e = refl
      go false b e = e

-- ---- index by index

-- the index at a place has keys of its own
pub own_here : (indexes : List IndexDef) (rows : List (List Value)) (i : ℕ) (index : IndexDef) → i < length indexes → index ≡ get_or indexes i index → HaveOwnKeys indexes rows → IsTrue index.unique
    → have_twins index.parts rows ≡ false
own_here indexes rows i index low at own unique = each_of (λ (which : IndexDef). IsTrue which.unique → have_twins which.parts rows ≡ false) indexes index own (i, low, sym at) unique

-- it is one of those whose name may be said
pub named_here : (indexes : List IndexDef) (i : ℕ) (index : IndexDef) → i < length indexes → index ≡ get_or indexes i index → IsTrue index.unique
    → Contains (map (λ which. which.name) (filter (λ which. which.unique) indexes)) index.name
named_here indexes i index low at unique =
    in_map (λ (which : IndexDef). which.name) (filter (λ (which : IndexDef). which.unique) indexes) index (in_filter (λ (which : IndexDef). which.unique) indexes index (i, low, sym at) unique)

module _ (rows : List (List Value)) (indexes : List IndexDef) (i : ℕ) (index : IndexDef) (low : i < length indexes) (at : index ≡ get_or indexes i index)
    (so_far : first_of (flat_map (twin_causes rows) indexes) ≡ first_of (flat_map (twin_causes rows) (drop i indexes))) where
  says_nothing : (unique twins : Bool) → index.unique ≡ unique → have_twins index.parts rows ≡ twins → (unique && twins) ≡ false → first_of (twin_causes rows index) ≡ None
  says_nothing unique twins is have none =
      ap (λ b. first_of (cause_if (b && have_twins index.parts rows) (DuplicateKey index.name))) is ∙ (ap (λ b. first_of (cause_if (unique && b) (DuplicateKey index.name))) have ∙ ap (λ b. first_of (cause_if b (DuplicateKey index.name))) none)

  -- it isn't UNIQUE
  pub passed_over : index.unique ≡ false → first_of (flat_map (twin_causes rows) indexes) ≡ first_of (flat_map (twin_causes rows) (drop (i + 1) indexes))
  passed_over plain = so_far ∙ first_of-next (twin_causes rows) indexes i index low at (says_nothing false (have_twins index.parts rows) plain refl refl)

  -- no two rows have equal keys in it
  pub no_clash : index.unique ≡ true → have_twins index.parts rows ≡ false → first_of (flat_map (twin_causes rows) indexes) ≡ first_of (flat_map (twin_causes rows) (drop (i + 1) indexes))
  no_clash unique none = so_far ∙ first_of-next (twin_causes rows) indexes i index low at (says_nothing true false unique none refl)

  -- two have
  pub clash_here : index.unique ≡ true → have_twins index.parts rows ≡ true → first_of (flat_map (twin_causes rows) indexes) ≡ Some (DuplicateKey index.name)
  clash_here unique twins =
      so_far ∙ first_of-here (twin_causes rows) indexes i index (DuplicateKey index.name) low at (ap (λ b. first_of (cause_if (b && have_twins index.parts rows) (DuplicateKey index.name))) unique
      ∙ ap (λ b. first_of (cause_if b (DuplicateKey index.name))) twins)

-- none of them
pub no_clash_at_all : (rows : List (List Value)) (indexes : List IndexDef) (i : ℕ) → length indexes ≤ i → first_of (flat_map (twin_causes rows) indexes) ≡ first_of (flat_map (twin_causes rows) (drop i indexes))
    → first_of (flat_map (twin_causes rows) indexes) ≡ None
no_clash_at_all rows indexes i end so_far = so_far ∙ first_of-end (twin_causes rows) indexes i end
