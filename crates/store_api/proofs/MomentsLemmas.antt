-- What a crash leaves within a run that ends with a commit, and within a run that tells bytes.
use Rattle.std.proofs.Common.{◌≡◌, ℕ, List, ◌++◌, Option, Some, IfSome, inl, inr, ap, sym, subst, ◌∙◌, append_assoc}
use Rattle.mdc_words.specs.Time.{OverTime}
use Rattle.mdc_words.proofs.TimeLemmas.{over_time_then, over_time_wider}
use Rattle.store_api.specs.StoreState.{StoreState}
use Rattle.store_api.specs.Calls.{continued}
use Rattle.store_api.specs.Moments.{BaseOrWork, BaseOrNow, BaseWithFront}
use Rattle.store_api.specs.Works.{Steady}
use Rattle.store_api.specs.declared.pages.Pages.{Ghosts}
use Rattle.store_api.proofs.FetchingLemmas.{continued_then}

module _ {S : Type 0} {g : Ghosts S} where
  -- no commit was begun
  pub base_or_now-steady : {old new : S} → Steady g old new → OverTime g.clock g.left (BaseOrNow (g.state old) (g.state new)) old new
  base_or_now-steady run = over_time_wider run.time (λ pages told only. (inl only.0, only.1))

  -- The last call is a commit. Whether it succeeds or not, the work stays.
  pub base_or_now-commit : {old middle new : S} → Steady g old middle → (g.state new).work ≡ (g.state middle).work
      → OverTime g.clock g.left (BaseOrWork (g.state middle)) middle new → OverTime g.clock g.left (BaseOrNow (g.state old) (g.state new)) old new
  base_or_now-commit {old} {middle} {new} before work commit = over_time_then
      (over_time_wider before.time (λ pages told only. (inl only.0, only.1)))
      (over_time_wider commit (λ pages told either. (
        elim either.0 [ inl base ↦ inl (base ∙ ap Some before.base) | inr now ↦ inr (now ∙ ap Some (sym work)) ],
        subst (λ o. IfSome o (λ bytes. told ≡ bytes)) before.told either.1,
      )))

-- a front of the first piece is a front of both
pub base_with_front-first : (piece more : List ℕ) (s : StoreState) (pages : Option (List (List ℕ))) (told : List ℕ) → BaseWithFront piece s pages told → BaseWithFront (piece ++ more) s pages told
base_with_front-first piece more s pages told (base, part, (rest, whole), said) =
    (base, part, (rest ++ more, ap (λ bytes. bytes ++ more) whole ∙ append_assoc part rest more), said)

-- a front of the second piece, behind the first, is a front of both
pub base_with_front-second : (piece more : List ℕ) (old middle : StoreState) (pages : Option (List (List ℕ))) (told : List ℕ) → middle.base ≡ old.base → middle.told ≡ continued piece old.told
    → BaseWithFront more middle pages told → BaseWithFront (piece ++ more) old pages told
base_with_front-second piece more old middle pages told same known (base, part, (rest, whole), said) = (
  base ∙ ap Some same,
  piece ++ part,
  (rest, ap (λ bytes. piece ++ bytes) whole ∙ sym (append_assoc piece part rest)),
  subst (λ o. IfSome o (λ bytes. told ≡ bytes)) (ap (continued part) known ∙ continued_then piece part old.told) said,
)
