-- Trees at places that were judged one after the other.
use Rattle.std.proofs.Common.{◌≡◌, ◌≤◌, ◌+◌, ℕ, zero, suc, List, [], ◌∷◌, ◌++◌, take, refl, ap, arith, sym, ◌∙◌, subst, inl, inr, ◌⊎◌, append-nil}
use Rattle.std.specs.Prelude.{Option, None, Some, slice_get, flat_map}
use Rattle.std.proofs.lemmas.List.Sums.{sum_by-append, sum_by-cons}
use Rattle.std.proofs.lemmas.Option.{same_Some}
use Rattle.std.proofs.lemmas.List.Concat.{flat_map-cons}
use Rattle.std.proofs.lemmas.Grind.{flat_map-append}
use Rattle.mdc_ast.specs.declared.definition.TableDef.{TableDef}
use Rattle.mdc_ast.specs.Definitions.{Definitions}
use Rattle.entry_tree.specs.Forest.{Forest, times}
use Rattle.table_trees.specs.TableTrees.{TreePlace}
use Rattle.table_trees.specs.ToldPages.{HasTree, PageList}
use Rattle.table_trees.proofs.TreeListsLemmas.{AllZip-both}
use Rattle.file_check.specs.Judging.{BreaksAny, lower}
use Rattle.file_check.specs.TreeMarks.{StandsCounted}
use Rattle.file_check.specs.TreesJudged.{JudgesPlaces, LacksTree, StandAllCounted, all_places, places_of_def}
use Rattle.file_check.specs.declared.tree_marks.TreeMarks.{TreeMarks}
use Rattle.file_check.proofs.JudgingLemmas.{judges_as, judges_both}

any_both : {X : Type 0} (B : X → ℕ → Type 0) (xs ys : List X) (p : ℕ) → BreaksAny B xs p ⊎ BreaksAny B ys p → BreaksAny B (xs ++ ys) p
any_both B [] ys p (inl b) = absurd b
any_both B [] ys p (inr b) = b
any_both B (x ∷ xs) ys p (inl (inl b)) = inl b
any_both B (x ∷ xs) ys p (inl (inr b)) = inr (any_both B xs ys p (inl b))
any_both B (x ∷ xs) ys p (inr b) = inr (any_both B xs ys p (inr b))

any_parts : {X : Type 0} (B : X → ℕ → Type 0) (xs ys : List X) (p : ℕ) → BreaksAny B (xs ++ ys) p → BreaksAny B xs p ⊎ BreaksAny B ys p
any_parts B [] ys p b = inr b
any_parts B (x ∷ xs) ys p (inl b) = inl (inl b)
any_parts {X} B (x ∷ xs) ys p (inr b) = go (any_parts B xs ys p b)
  where
    go : BreaksAny B xs p ⊎ BreaksAny B ys p → (B x p ⊎ BreaksAny B xs p) ⊎ BreaksAny B ys p
    go (inl c) = inl (inr c)
    go (inr c) = inr c

module _ (pages : PageList) where
  -- no place
  pub judges_no_place : (marks : TreeMarks) → JudgesPlaces pages [] marks marks None
  judges_no_place marks = record { holds = record { trees = []; stand = tt; counted = λ p. omega arith }; unbroken = λ p b. b }

  -- one place
  pub judges_standing : (place : TreePlace) (old new : TreeMarks) → StandsCounted pages place old new → JudgesPlaces pages (place ∷ []) old new None
  judges_standing place old new h = record {
    holds = record {
      trees = h.tree ∷ [];
      stand = (h.stands, tt);
      counted = λ p. omega (arith, h.counted p, sum_by-cons (times p) h.tree []);
    };
    unbroken = λ p b. not_broken p b;
  }
    where
      not_broken : (p : ℕ) → BreaksAny (LacksTree pages) (place ∷ []) p → ⊥
      not_broken p (inl b) = b.1 h.tree h.stands
      not_broken p (inr b) = b

  pub judges_lacking : (place : TreePlace) (old new : TreeMarks) → ((t : Forest) → HasTree pages place t → ⊥) → JudgesPlaces pages (place ∷ []) old new (Some place.root)
  judges_lacking place old new lacks = record { breaks = inl (refl, lacks); lowest = λ p b. low p b }
    where
      low : (p : ℕ) → BreaksAny (LacksTree pages) (place ∷ []) p → place.root ≤ p
      low p (inl b) = omega (arith, b.0)
      low p (inr b) = absurd b

  -- more places
  pub judges_more : (xs ys : List TreePlace) (start mid now : TreeMarks) (found here : Option ℕ) → JudgesPlaces pages xs start mid found → JudgesPlaces pages ys mid now here
      → JudgesPlaces pages (xs ++ ys) start now (lower found here)
  judges_more xs ys start mid now found here first second =
      judges_as {P = StandAllCounted pages xs start mid × StandAllCounted pages ys mid now} {Q = StandAllCounted pages (xs ++ ys) start now}
      {A = λ p. BreaksAny (LacksTree pages) xs p ⊎ BreaksAny (LacksTree pages) ys p} {B = BreaksAny (LacksTree pages) (xs ++ ys)} (lower found here)
      (λ both. record {
        trees = both.0.trees ++ both.1.trees;
        stand = AllZip-both (HasTree pages) xs ys both.0.trees both.1.trees both.0.stand both.1.stand;
        counted = λ p. omega (arith, both.0.counted p, both.1.counted p, sum_by-append (times p) both.0.trees both.1.trees);
      })
      (any_both (LacksTree pages) xs ys) (any_parts (LacksTree pages) xs ys)
      (judges_both (StandAllCounted pages xs start mid) (StandAllCounted pages ys mid now) (BreaksAny (LacksTree pages) xs) (BreaksAny (LacksTree pages) ys) found here first second)

take_suc : {X : Type 0} (xs : List X) (i : ℕ) (x : X) → slice_get xs i ≡ Some x → take (suc i) xs ≡ take i xs ++ x ∷ []
take_suc [] i x e = absurd (cc)
take_suc (y ∷ xs) zero x e = ap (λ v. v ∷ []) (same_Some y x e)
take_suc (y ∷ xs) (suc i) x e = ap (λ v. y ∷ v) (take_suc xs i x e)

take_one_more : {X : Type 0} (xs : List X) (i : ℕ) (x : X) → slice_get xs i ≡ Some x → take (i + 1) xs ≡ take i xs ++ x ∷ []
take_one_more xs i x e = let next : i + 1 ≡ suc i = omega arith in ap (λ n. take n xs) next ∙ take_suc xs i x e

-- one of the places more
pub judges_next_place : (pages : PageList) (places : List TreePlace) (i : ℕ) (place : TreePlace) (start mid now : TreeMarks) (found here : Option ℕ) → slice_get places i ≡ Some place
    → JudgesPlaces pages (take i places) start mid found → JudgesPlaces pages (place ∷ []) mid now here → JudgesPlaces pages (take (i + 1) places) start now (lower found here)
judges_next_place pages places i place start mid now found here at first second =
    subst (λ (ps : List TreePlace). JudgesPlaces pages ps start now (lower found here)) (sym (take_one_more places i place at))
    (judges_more pages (take i places) (place ∷ []) start mid now found here first second)

-- one of the tables more
pub judges_next_table : (pages : PageList) (defs : Definitions) (i : ℕ) (def : Option TableDef) (start mid now : TreeMarks) (found here : Option ℕ) → slice_get defs i ≡ Some def
    → JudgesPlaces pages (all_places (take i defs)) start mid found → JudgesPlaces pages (places_of_def def) mid now here → JudgesPlaces pages (all_places (take (i + 1) defs)) start now (lower found here)
judges_next_table pages defs i def start mid now found here at first second =
    let whole : all_places (take (i + 1) defs) ≡ all_places (take i defs) ++ places_of_def def =
    ap (flat_map places_of_def) (take_one_more defs i def at) ∙ flat_map-append places_of_def (take i defs) (def ∷ []) ∙ ap (λ (ps : List TreePlace). all_places (take i defs) ++ ps) (one_def def) in
    subst (λ (ps : List TreePlace). JudgesPlaces pages ps start now (lower found here)) (sym whole)
    (judges_more pages (all_places (take i defs)) (places_of_def def) start mid now found here first second)
  where
    one_def : (d : Option TableDef) → flat_map places_of_def (d ∷ []) ≡ places_of_def d
    one_def d = flat_map-cons places_of_def d [] ∙ append-nil (places_of_def d)
