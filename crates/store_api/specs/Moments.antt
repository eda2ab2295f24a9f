-- What a crash may leave: the pages to which the file then reopens, with the bytes that were told.
use Rattle.std.specs.Prelude.{◌≡◌, ◌⊎◌, List, ℕ, Option, Some, MatchBool, IfSome}
use Rattle.mdc_words.specs.Fronts.{IsFrontOf}
use Rattle.store_api.specs.StoreState.{StoreState}
use Rattle.store_api.specs.Calls.{continued}

-- the pages to which a file reopens, or nothing where it doesn't reopen, and the bytes told with it
abbrev pub Outcomes : Type 1
Outcomes = Option (List (List ℕ)) → List ℕ → Type 0

-- the base, with the bytes told so far, where they are told
abbrev pub OnlyBase : StoreState → Outcomes
OnlyBase s pages told = (pages ≡ Some s.base) × IfSome s.told (λ bytes. told ≡ bytes)

-- the base or the work, with the bytes told so far, where they are told
abbrev pub BaseOrWork : StoreState → Outcomes
BaseOrWork s pages told = ((pages ≡ Some s.base) ⊎ (pages ≡ Some s.work)) × IfSome s.told (λ bytes. told ≡ bytes)

-- the base, with the bytes told so far and a front of the piece
abbrev pub BaseWithFront : List ℕ → StoreState → Outcomes
BaseWithFront piece s pages told =
    (pages ≡ Some s.base) × (part : List ℕ) × IsFrontOf part piece × IfSome (continued part s.told) (λ bytes. told ≡ bytes)

-- between two calls: the base, and after a commit that failed the base or the work
abbrev pub AtRest : StoreState → Outcomes
AtRest s pages told = MatchBool s.ended (BaseOrWork s pages told) (OnlyBase s pages told)

-- the base before, or the work after, with the bytes told before, where they are told
abbrev pub BaseOrNow : StoreState → StoreState → Outcomes
BaseOrNow old new pages told = ((pages ≡ Some old.base) ⊎ (pages ≡ Some new.work)) × IfSome old.told (λ bytes. told ≡ bytes)
