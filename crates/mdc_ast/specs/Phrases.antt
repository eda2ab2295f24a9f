-- How phrases are spelled: the tokens, what they say, and the tokens behind them.
use Rattle.std.specs.Prelude.{◌≡◌, ◌⊎◌, List, [], ◌∷◌, IsTrue, Option, Some, None}
use Rattle.mdc_ast.specs.Tokens.{Token}
use Rattle.mdc_ast.specs.Classes.{Class, fits, opening, closing, comma}

-- which tokens spell something, what they say, and which tokens are left behind them
abbrev pub Phrase : Type 0 → Type 1
Phrase X = List Token → X → List Token → Type 0

-- nothing, which says x
abbrev pub Nothing : {X : Type 0} → X → Phrase X
Nothing x tokens y rest = (x ≡ y) × (tokens ≡ rest)

-- a token of this class, which says f of it
abbrev pub One : {X : Type 0} → Class → (Token → X) → Phrase X
One c f tokens x rest = (t : Token) × IsTrue (fits c t.kind) × (f t ≡ x) × (tokens ≡ t ∷ rest)

-- a token of this class, and then what A spells
abbrev pub Then : {X : Type 0} → Class → Phrase X → Phrase X
Then c A tokens x rest = (t : Token) × (mid : List Token) × IsTrue (fits c t.kind) × A mid x rest × (tokens ≡ t ∷ mid)

-- one behind the other
abbrev pub Both : {X Y : Type 0} → Phrase X → Phrase Y → Phrase (X × Y)
Both A B tokens pair rest = (mid : List Token) × A tokens pair.0 mid × B mid pair.1 rest

-- what A says, seen by f
abbrev pub Map : {X Y : Type 0} → (X → Y) → Phrase X → Phrase Y
Map {X} f A tokens y rest = (x : X) × A tokens x rest × (f x ≡ y)

-- what A or B spells; tokens that both spell may say two things
abbrev pub Either : {X : Type 0} → Phrase X → Phrase X → Phrase X
Either A B tokens x rest = A tokens x rest ⊎ B tokens x rest

-- any number of them
abbrev pub Many : {X : Type 0} → Phrase X → Phrase (List X)
Many A tokens [] rest = tokens ≡ rest
Many A tokens (x ∷ xs) rest = (mid : List Token) × A tokens x mid × Many A mid xs rest

-- A, and then a token of this class
abbrev pub Closed : {X : Type 0} → Phrase X → Class → Phrase X
Closed {X} A c = Map (λ (p : X × Unit {0}). p.0) (Both A (Then c (Nothing tt)))

-- nothing or A
abbrev pub Perhaps : {X : Type 0} → Phrase X → Phrase (Option X)
Perhaps A = Either (Map Some A) (Nothing None)

-- the first of a list before the others
abbrev pub front_of : {X : Type 0} → X × List X → List X
front_of p = p.0 ∷ p.1

-- A { c A }
abbrev pub Separated : {X : Type 0} → Class → Phrase X → Phrase (List X)
Separated c A = Map front_of (Both A (Many (Then c A)))

-- ( A { , A } )
abbrev pub Listed : {X : Type 0} → Phrase X → Phrase (List X)
Listed A = Then opening (Closed (Separated comma A) closing)
