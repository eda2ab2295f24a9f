-- Chosen indexes, the first of which have been gone over.
use Rattle.std.proofs.Common.{◌≡◌, ◌≤◌, ℕ, zero, suc, List, [], ◌∷◌, ◌++◌, length, set, refl, ap, arith, sym, ◌∙◌, subst}
use Rattle.std.specs.Prelude.{Bool, true, false, Some, slice_get, sum_by}
use Rattle.std.specs.List.{AllZip}
use Rattle.std.proofs.lemmas.List.Sums.{sum_by-cons}
use Rattle.std.proofs.lemmas.Option.{same_Some}
use Rattle.mdc_words.specs.ByteOrder.{Entry}
use Rattle.mdc_ast.specs.declared.definition.IndexDef.{IndexDef}
use Rattle.entry_tree.specs.Forest.{Forest}
use Rattle.row_entries.specs.ChosenIndexes.{EachChosen, MoveChosen, chosen_indexes}

-- ---- the first of them

-- which of the first n are chosen; no other is
abbrev pub first_chosen : ℕ → List Bool → List Bool
first_chosen n [] = []
first_chosen zero (is_chosen ∷ chosen) = false ∷ first_chosen zero chosen
first_chosen (suc n) (is_chosen ∷ chosen) = is_chosen ∷ first_chosen n chosen

pub first_all : (n : ℕ) (chosen : List Bool) → length chosen ≡ n → first_chosen n chosen ≡ chosen
first_all n [] all = refl
first_all zero (b ∷ chosen) all = absurd (omega (arith, all))
first_all (suc n) (b ∷ chosen) all = ap (λ bs. b ∷ bs) (first_all n chosen (omega (arith, all)))

-- one that isn't chosen changes nothing
pub first_skipped : (n : ℕ) (chosen : List Bool) → slice_get chosen n ≡ Some false → first_chosen (suc n) chosen ≡ first_chosen n chosen
first_skipped n [] at = refl
first_skipped zero (b ∷ chosen) at = ap (λ is. is ∷ first_chosen zero chosen) (same_Some b false at)
first_skipped (suc n) (b ∷ chosen) at = ap (λ bs. b ∷ bs) (first_skipped n chosen at)

-- none is chosen before the first
pub none_chosen : (chosen : List Bool) (indexes : List IndexDef) → chosen_indexes (first_chosen zero chosen) indexes ≡ []
none_chosen [] indexes = refl
none_chosen (b ∷ chosen) [] = refl
none_chosen (b ∷ chosen) (which ∷ indexes) = none_chosen chosen indexes

-- one that is chosen comes last
pub chosen_next : (n : ℕ) (chosen : List Bool) (indexes : List IndexDef) (which : IndexDef) → slice_get chosen n ≡ Some true → slice_get indexes n ≡ Some which
    → chosen_indexes (first_chosen (suc n) chosen) indexes ≡ chosen_indexes (first_chosen n chosen) indexes ++ (which ∷ [])
chosen_next n [] indexes which at is = absurd cc
chosen_next n (b ∷ chosen) [] which at is = absurd cc
chosen_next zero (true ∷ chosen) (x ∷ indexes) which at is =
    ap (λ xs. x ∷ xs) (none_chosen chosen indexes) ∙ (ap (λ y. y ∷ []) (same_Some x which is) ∙ ap (λ xs. xs ++ (which ∷ [])) (sym (none_chosen chosen indexes)))
chosen_next zero (false ∷ chosen) (x ∷ indexes) which at is = absurd cc
chosen_next (suc n) (true ∷ chosen) (x ∷ indexes) which at is = ap (λ xs. x ∷ xs) (chosen_next n chosen indexes which at is)
chosen_next (suc n) (false ∷ chosen) (x ∷ indexes) which at is = chosen_next n chosen indexes which at is

-- all of them are the first ones, and then others
pub chosen_cut : (n : ℕ) (chosen : List Bool) (indexes : List IndexDef) → (rest : List IndexDef) × (chosen_indexes chosen indexes ≡ chosen_indexes (first_chosen n chosen) indexes ++ rest)
chosen_cut n [] indexes = ([], refl)
chosen_cut n (true ∷ chosen) [] = ([], first n)
  where
    first : (n : ℕ) → [] ≡ chosen_indexes (first_chosen n (true ∷ chosen)) [] ++ []
    first zero = refl
    first (suc n) = refl
chosen_cut n (false ∷ chosen) [] = ([], first n)
  where
    first : (n : ℕ) → [] ≡ chosen_indexes (first_chosen n (false ∷ chosen)) [] ++ []
    first zero = refl
    first (suc n) = refl
chosen_cut zero (b ∷ chosen) (x ∷ indexes) = (chosen_indexes (b ∷ chosen) (x ∷ indexes), ap (λ xs. xs ++ chosen_indexes (b ∷ chosen) (x ∷ indexes)) (sym (none_chosen chosen indexes)))
chosen_cut (suc n) (true ∷ chosen) (x ∷ indexes) = let rest = chosen_cut n chosen indexes in (rest.0, ap (λ xs. x ∷ xs) rest.1)
chosen_cut (suc n) (false ∷ chosen) (x ∷ indexes) = chosen_cut n chosen indexes

-- ---- what holds of each

pub each_at : (P : IndexDef → Forest → Type 0) (n : ℕ) (chosen : List Bool) (indexes : List IndexDef) (trees : List Forest) (which : IndexDef) (t : Forest) → EachChosen P chosen indexes trees
    → slice_get chosen n ≡ Some true → slice_get indexes n ≡ Some which → slice_get trees n ≡ Some t → P which t
each_at P n [] indexes trees which t each at is there = absurd cc
each_at P n (b ∷ chosen) [] trees which t each at is there = absurd cc
each_at P n (b ∷ chosen) (x ∷ indexes) [] which t each at is there = absurd cc
each_at P zero (b ∷ chosen) (x ∷ indexes) (u ∷ trees) which t each at is there =
    subst (λ w. P w t) (same_Some x which is) (subst (P x) (same_Some u t there) (each.0 (same_Some b true at)))
each_at P (suc n) (b ∷ chosen) (x ∷ indexes) (u ∷ trees) which t each at is there = each_at P n chosen indexes trees which t each.1 at is there

-- so it is
pub each_chosen : (P : IndexDef → Forest → Type 0) (chosen : List Bool) (indexes : List IndexDef) (trees : List Forest)
    → ((n : ℕ) (which : IndexDef) (t : Forest) → slice_get chosen n ≡ Some true → slice_get indexes n ≡ Some which → slice_get trees n ≡ Some t → P which t) → EachChosen P chosen indexes trees
each_chosen P [] indexes trees each = tt
each_chosen P (b ∷ chosen) [] trees each = tt
each_chosen P (b ∷ chosen) (x ∷ indexes) [] each = tt
each_chosen P (b ∷ chosen) (x ∷ indexes) (t ∷ trees) each =
    (λ is. each zero x t (ap Some is) refl refl, each_chosen P chosen indexes trees (λ n which u at is there. each (suc n) which u at is there))

-- ---- trees that gained or lost an entry

module _ (Moves : Entry → Forest → Forest → Type 0) (entry_in : IndexDef → Entry) where
  -- none did before the first
  pub none_moved : (chosen : List Bool) (indexes : List IndexDef) (trees : List Forest) → length chosen ≡ length indexes → length trees ≡ length indexes → MoveChosen Moves entry_in (first_chosen zero chosen) indexes trees trees
  none_moved [] [] [] all one_each = tt
  none_moved [] [] (t ∷ trees) all one_each = absurd (omega (arith, one_each))
  none_moved [] (x ∷ indexes) trees all one_each = absurd (omega (arith, all))
  none_moved (b ∷ chosen) [] trees all one_each = absurd (omega (arith, all))
  none_moved (b ∷ chosen) (x ∷ indexes) [] all one_each = absurd (omega (arith, one_each))
  none_moved (b ∷ chosen) (x ∷ indexes) (t ∷ trees) all one_each = (refl, none_moved chosen indexes trees (omega (arith, all)) (omega (arith, one_each)))

  -- one more did
  pub one_moved : (n : ℕ) (chosen : List Bool) (indexes : List IndexDef) (trees after : List Forest) (which : IndexDef) (t u : Forest) → slice_get chosen n ≡ Some true → slice_get indexes n ≡ Some which → slice_get after n ≡ Some t
      → Moves (entry_in which) t u → MoveChosen Moves entry_in (first_chosen n chosen) indexes trees after → MoveChosen Moves entry_in (first_chosen (suc n) chosen) indexes trees (set after n u)
  one_moved n [] indexes trees after which t u at is there moves first = absurd cc
  one_moved n (b ∷ chosen) [] trees after which t u at is there moves first = absurd cc
  one_moved n (b ∷ chosen) (x ∷ indexes) trees [] which t u at is there moves first = absurd cc
  one_moved zero (true ∷ chosen) (x ∷ indexes) [] (a ∷ after) which t u at is there moves first = absurd first
  one_moved zero (true ∷ chosen) (x ∷ indexes) (s ∷ trees) (a ∷ after) which t u at is there moves first =
      (subst (λ w. Moves (entry_in w) s u) (sym (same_Some x which is)) (subst (λ v. Moves (entry_in which) v u) (sym (same_Some a t there) ∙ first.0) moves), first.1)
  one_moved zero (false ∷ chosen) (x ∷ indexes) trees (a ∷ after) which t u at is there moves first = absurd cc
  one_moved (suc n) (true ∷ chosen) (x ∷ indexes) [] (a ∷ after) which t u at is there moves first = absurd first
  one_moved (suc n) (true ∷ chosen) (x ∷ indexes) (s ∷ trees) (a ∷ after) which t u at is there moves first = (first.0, one_moved n chosen indexes trees after which t u at is there moves first.1)
  one_moved (suc n) (false ∷ chosen) (x ∷ indexes) [] (a ∷ after) which t u at is there moves first = absurd first
  one_moved (suc n) (false ∷ chosen) (x ∷ indexes) (s ∷ trees) (a ∷ after) which t u at is there moves first = (first.0, one_moved n chosen indexes trees after which t u at is there moves first.1)

  -- the one that comes next has the tree that it had
  pub next_still : (n : ℕ) (chosen : List Bool) (indexes : List IndexDef) (trees after : List Forest) (t : Forest) → MoveChosen Moves entry_in (first_chosen n chosen) indexes trees after → slice_get after n ≡ Some t → slice_get trees n ≡ Some t
  next_still n [] [] [] [] t first there = there
  next_still n [] [] [] (a ∷ after) t first there = absurd first
  next_still n [] [] (s ∷ trees) after t first there = absurd first
  next_still n [] (x ∷ indexes) trees after t first there = absurd first
  next_still zero (b ∷ chosen) [] [] [] t first there = there
  next_still zero (b ∷ chosen) [] [] (a ∷ after) t first there = absurd first
  next_still zero (b ∷ chosen) [] (s ∷ trees) after t first there = absurd first
  next_still zero (b ∷ chosen) (x ∷ indexes) [] after t first there = absurd first
  next_still zero (b ∷ chosen) (x ∷ indexes) (s ∷ trees) [] t first there = absurd first
  next_still zero (b ∷ chosen) (x ∷ indexes) (s ∷ trees) (a ∷ after) t first there = ap Some (sym first.0) ∙ there
  next_still (suc n) (true ∷ chosen) [] [] [] t first there = there
  next_still (suc n) (true ∷ chosen) [] [] (a ∷ after) t first there = absurd first
  next_still (suc n) (true ∷ chosen) [] (s ∷ trees) after t first there = absurd first
  next_still (suc n) (true ∷ chosen) (x ∷ indexes) [] after t first there = absurd first
  next_still (suc n) (true ∷ chosen) (x ∷ indexes) (s ∷ trees) [] t first there = absurd first
  next_still (suc n) (true ∷ chosen) (x ∷ indexes) (s ∷ trees) (a ∷ after) t first there = next_still n chosen indexes trees after t first.1 there
  next_still (suc n) (false ∷ chosen) [] [] [] t first there = there
  next_still (suc n) (false ∷ chosen) [] [] (a ∷ after) t first there = absurd first
  next_still (suc n) (false ∷ chosen) [] (s ∷ trees) after t first there = absurd first
  next_still (suc n) (false ∷ chosen) (x ∷ indexes) [] after t first there = absurd first
  next_still (suc n) (false ∷ chosen) (x ∷ indexes) (s ∷ trees) [] t first there = absurd first
  next_still (suc n) (false ∷ chosen) (x ∷ indexes) (s ∷ trees) (a ∷ after) t first there = next_still n chosen indexes trees after t first.1 there

  -- a chosen tree came of one that stood in its place
  pub moved_back : (n : ℕ) (chosen : List Bool) (indexes : List IndexDef) (trees after : List Forest) (which : IndexDef) (u : Forest) → slice_get chosen n ≡ Some true → slice_get indexes n ≡ Some which → slice_get after n ≡ Some u
      → MoveChosen Moves entry_in chosen indexes trees after → (t : Forest) × (slice_get trees n ≡ Some t) × Moves (entry_in which) t u
  moved_back n [] indexes trees after which u at is there moves = absurd cc
  moved_back n (b ∷ chosen) [] trees after which u at is there moves = absurd cc
  moved_back n (b ∷ chosen) (x ∷ indexes) trees [] which u at is there moves = absurd cc
  moved_back n (true ∷ chosen) (x ∷ indexes) [] (v ∷ after) which u at is there moves = absurd moves
  moved_back n (false ∷ chosen) (x ∷ indexes) [] (v ∷ after) which u at is there moves = absurd moves
  moved_back zero (true ∷ chosen) (x ∷ indexes) (t ∷ trees) (v ∷ after) which u at is there moves =
      (t, refl, subst (λ w. Moves (entry_in w) t u) (same_Some x which is) (subst (λ a. Moves (entry_in x) t a) (same_Some v u there) moves.0))
  moved_back zero (false ∷ chosen) (x ∷ indexes) (t ∷ trees) (v ∷ after) which u at is there moves = absurd cc
  moved_back (suc n) (true ∷ chosen) (x ∷ indexes) (t ∷ trees) (v ∷ after) which u at is there moves = moved_back n chosen indexes trees after which u at is there moves.1
  moved_back (suc n) (false ∷ chosen) (x ∷ indexes) (t ∷ trees) (v ∷ after) which u at is there moves = moved_back n chosen indexes trees after which u at is there moves.1

-- ---- what follows of each

-- what one move gives, all give
pub moves_as : (Moves As : Entry → Forest → Forest → Type 0) (entry_in : IndexDef → Entry) (chosen : List Bool) (indexes : List IndexDef) (trees after : List Forest) → ((x : Entry) (t u : Forest) → Moves x t u → As x t u)
    → MoveChosen Moves entry_in chosen indexes trees after → MoveChosen As entry_in chosen indexes trees after
moves_as Moves As entry_in [] [] [] [] turn moves = tt
moves_as Moves As entry_in [] [] [] (u ∷ after) turn moves = absurd moves
moves_as Moves As entry_in [] [] (t ∷ trees) after turn moves = absurd moves
moves_as Moves As entry_in [] (x ∷ indexes) trees after turn moves = absurd moves
moves_as Moves As entry_in (true ∷ chosen) [] [] [] turn moves = tt
moves_as Moves As entry_in (true ∷ chosen) [] [] (u ∷ after) turn moves = absurd moves
moves_as Moves As entry_in (true ∷ chosen) [] (t ∷ trees) after turn moves = absurd moves
moves_as Moves As entry_in (true ∷ chosen) (x ∷ indexes) [] after turn moves = absurd moves
moves_as Moves As entry_in (true ∷ chosen) (x ∷ indexes) (t ∷ trees) [] turn moves = absurd moves
moves_as Moves As entry_in (true ∷ chosen) (x ∷ indexes) (t ∷ trees) (u ∷ after) turn moves = (turn (entry_in x) t u moves.0, moves_as Moves As entry_in chosen indexes trees after turn moves.1)
moves_as Moves As entry_in (false ∷ chosen) [] [] [] turn moves = tt
moves_as Moves As entry_in (false ∷ chosen) [] [] (u ∷ after) turn moves = absurd moves
moves_as Moves As entry_in (false ∷ chosen) [] (t ∷ trees) after turn moves = absurd moves
moves_as Moves As entry_in (false ∷ chosen) (x ∷ indexes) [] after turn moves = absurd moves
moves_as Moves As entry_in (false ∷ chosen) (x ∷ indexes) (t ∷ trees) [] turn moves = absurd moves
moves_as Moves As entry_in (false ∷ chosen) (x ∷ indexes) (t ∷ trees) (u ∷ after) turn moves = (moves.0, moves_as Moves As entry_in chosen indexes trees after turn moves.1)

-- ---- trees that moved, tree by tree

-- what holds of a tree that moved and of one that didn't holds of each
pub moved_each : (Moves : Entry → Forest → Forest → Type 0) (P : Forest → Forest → Type 0) (entry_in : IndexDef → Entry) (chosen : List Bool) (indexes : List IndexDef) (trees after : List Forest) → ((t : Forest) → P t t)
    → ((x : Entry) (t u : Forest) → Moves x t u → P t u) → MoveChosen Moves entry_in chosen indexes trees after → AllZip P trees after
moved_each Moves P entry_in [] [] [] [] same turn moves = tt
moved_each Moves P entry_in [] [] [] (u ∷ after) same turn moves = absurd moves
moved_each Moves P entry_in [] [] (t ∷ trees) after same turn moves = absurd moves
moved_each Moves P entry_in [] (x ∷ indexes) trees after same turn moves = absurd moves
moved_each Moves P entry_in (true ∷ chosen) [] [] [] same turn moves = tt
moved_each Moves P entry_in (true ∷ chosen) [] [] (u ∷ after) same turn moves = absurd moves
moved_each Moves P entry_in (true ∷ chosen) [] (t ∷ trees) after same turn moves = absurd moves
moved_each Moves P entry_in (true ∷ chosen) (x ∷ indexes) [] after same turn moves = absurd moves
moved_each Moves P entry_in (true ∷ chosen) (x ∷ indexes) (t ∷ trees) [] same turn moves = absurd moves
moved_each Moves P entry_in (true ∷ chosen) (x ∷ indexes) (t ∷ trees) (u ∷ after) same turn moves = (turn (entry_in x) t u moves.0, moved_each Moves P entry_in chosen indexes trees after same turn moves.1)
moved_each Moves P entry_in (false ∷ chosen) [] [] [] same turn moves = tt
moved_each Moves P entry_in (false ∷ chosen) [] [] (u ∷ after) same turn moves = absurd moves
moved_each Moves P entry_in (false ∷ chosen) [] (t ∷ trees) after same turn moves = absurd moves
moved_each Moves P entry_in (false ∷ chosen) (x ∷ indexes) [] after same turn moves = absurd moves
moved_each Moves P entry_in (false ∷ chosen) (x ∷ indexes) (t ∷ trees) [] same turn moves = absurd moves
moved_each Moves P entry_in (false ∷ chosen) (x ∷ indexes) (t ∷ trees) (u ∷ after) same turn moves = (subst (P t) (sym moves.0) (same t), moved_each Moves P entry_in chosen indexes trees after same turn moves.1)

-- sums over trees none of which counts less afterwards, or none more
pub sums_rise : (f : Forest → ℕ) (trees after : List Forest) → AllZip (λ t u. f t ≤ f u) trees after → sum_by f trees ≤ sum_by f after
sums_rise f [] [] all = omega arith
sums_rise f [] (u ∷ after) all = absurd all
sums_rise f (t ∷ trees) [] all = absurd all
sums_rise f (t ∷ trees) (u ∷ after) all = omega (arith, all.0, sums_rise f trees after all.1, sum_by-cons f t trees, sum_by-cons f u after)

pub sums_fall : (f : Forest → ℕ) (trees after : List Forest) → AllZip (λ t u. f u ≤ f t) trees after → sum_by f after ≤ sum_by f trees
sums_fall f [] [] all = omega arith
sums_fall f [] (u ∷ after) all = absurd all
sums_fall f (t ∷ trees) [] all = absurd all
sums_fall f (t ∷ trees) (u ∷ after) all = omega (arith, all.0, sums_fall f trees after all.1, sum_by-cons f t trees, sum_by-cons f u after)
