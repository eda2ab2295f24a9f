-- Where a list of tokens goes wrong.
use Rattle.std.specs.Prelude.{◌≡◌, List, [], ◌∷◌, ◌++◌}
use Rattle.mdc_ast.specs.Tokens.{Token}
use Rattle.mdc_ast.specs.Phrases.{Phrase}

-- some spelling begins with these tokens
abbrev pub Viable : {X : Type 0} → Phrase X → List Token → Type 0
Viable {X} A tokens = (more : List Token) × (x : X) × A (tokens ++ more) x []

-- no spelling goes on with the first token of the rest; where there is none, the front is no spelling
abbrev pub NoneGoesOn : {X : Type 0} → Phrase X → List Token → List Token → Type 0
NoneGoesOn {X} A front [] = (x : X) → A front x [] → ⊥
NoneGoesOn A front (t ∷ rest) = Viable A (front ++ t ∷ []) → ⊥

-- the tokens go wrong where the rest begins: Inner goes on up to there, and Outer doesn't go on there
pub record FailsAt {X : Type 0} (Inner Outer : Phrase X) (tokens rest : List Token) : Type 0 where
  pub front : List Token
  pub is : tokens ≡ front ++ rest
  pub viable : Viable Inner front
  pub none : NoneGoesOn Outer front rest

-- the first token of the rest is too much for Inner and not for Outer
pub record TooMuchAt {X : Type 0} (Inner Outer : Phrase X) (tokens rest : List Token) : Type 0 where
  pub front : List Token
  pub first : Token
  pub behind : List Token
  pub is : tokens ≡ front ++ first ∷ behind
  pub rest_is : rest ≡ first ∷ behind
  pub viable : Viable Inner front
  pub too_much : Viable Inner (front ++ first ∷ []) → ⊥
  pub goes_on : Viable Outer (front ++ first ∷ [])
