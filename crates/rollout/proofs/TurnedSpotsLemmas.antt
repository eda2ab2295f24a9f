-- Spots some of which become another one.
use Rattle.std.proofs.Common.{◌≡◌, ◌<◌, ◌∙◌, ◌++◌, ℕ, List, [], ◌∷◌, get_or, length, set, refl, sym, ap, arith, inl, inr}
use Rattle.std.specs.Prelude.{Contains}
use Rattle.std.proofs.lemmas.Bool.{cases_eq}
use Rattle.std.proofs.lemmas.List.{get_or-set_other, get_or-set_same, length-set}
use Rattle.block_map.proofs.MapLinesLemmas.{contains_cases, contains_more}
use Rattle.mdc_sound.specs.Placing.{AfterReturns, Spot, SpotsAfterReturns}
use Rattle.mdc_sound.specs.Placing.Spot.{OtherBlock}
use Rattle.table_blocks.proofs.SpotChangesLemmas.{returns_change}
use Rattle.cell_change.proofs.SpotStepsLemmas.{set_both}
use Rattle.rollout.specs.RolledSome.{turned}

module _ (spot : Spot) where
  pub turned_more : (blocks : List ℕ) (block : ℕ) (spots : List Spot) → turned spot (blocks ++ block ∷ []) spots ≡ set (turned spot blocks spots) block spot
  turned_more [] block spots = refl
  turned_more (b ∷ blocks) block spots = turned_more blocks block (set spots b spot)

  pub length-turned : (blocks : List ℕ) (spots : List Spot) → length (turned spot blocks spots) ≡ length spots
  length-turned [] spots = refl
  length-turned (b ∷ blocks) spots = length-turned blocks (set spots b spot) ∙ length-set spots b spot

  -- one that isn't among them stays
  pub turned_other : (blocks : List ℕ) (spots : List Spot) (e : ℕ) → (Contains blocks e → ⊥) → get_or (turned spot blocks spots) e OtherBlock ≡ get_or spots e OtherBlock
  turned_other [] spots e out = refl
  turned_other (b ∷ blocks) spots e out =
      turned_other blocks (set spots b spot) e (λ there. out (contains_more e b blocks there)) ∙ get_or-set_other spots b e spot OtherBlock (λ same. out (0, omega arith, sym same))

  turned_still : (blocks : List ℕ) (spots : List Spot) (e : ℕ) → e < length spots → get_or spots e OtherBlock ≡ spot → get_or (turned spot blocks spots) e OtherBlock ≡ spot
  turned_still [] spots e low is = is
  turned_still (b ∷ blocks) spots e low is = turned_still blocks (set spots b spot) e (omega (arith, low, length-set spots b spot)) (elim (cases_eq e b) [
    | inl same ↦ ap (λ i. get_or (set spots b spot) i OtherBlock) same ∙ get_or-set_same spots b spot OtherBlock (omega (arith, low, same))
    | inr other ↦ get_or-set_other spots b e spot OtherBlock other ∙ is
  ])

  -- and one that is is turned
  pub turned_there : (blocks : List ℕ) (spots : List Spot) (e : ℕ) → Contains blocks e → e < length spots → get_or (turned spot blocks spots) e OtherBlock ≡ spot
  turned_there [] spots e there low = absurd (omega (arith, there.1))
  turned_there (b ∷ blocks) spots e there low = elim (contains_cases e b blocks there) [
    | inl here ↦ turned_still blocks (set spots b spot) e (omega (arith, low, length-set spots b spot)) (ap (λ i. get_or (set spots b spot) i OtherBlock) (sym here) ∙ get_or-set_same spots b spot OtherBlock (omega (arith, low, here)))
    | inr later ↦ turned_there blocks (set spots b spot) e later (omega (arith, low, length-set spots b spot))
  ]

-- what trees give back of spots they give back of those of which the same are turned
pub turned_after : (spot : Spot) (blocks : List ℕ) (old new : List Spot) → SpotsAfterReturns old new → SpotsAfterReturns (turned spot blocks old) (turned spot blocks new)
turned_after spot [] old new after = after
turned_after spot (b ∷ blocks) old new after = turned_after spot blocks (set old b spot) (set new b spot) (set_both AfterReturns old new b spot (returns_change.stays spot) after)
