-- Rules of a grammar as data, and what they spell.
use Rattle.std.specs.Prelude.{List, Option}
use Rattle.mdc_ast.specs.Tokens.{Token}
use Rattle.mdc_ast.specs.Classes.{Class}
use Rattle.mdc_ast.specs.Phrases.{Phrase, Nothing, One, Then, Both, Map, Either, Closed, Perhaps, Separated, Listed}

-- a production of the grammar as data, so that spelling and reading are told of one and the same rule
pub data Rule : Type 0 → Type 1 where
  nothing : {X : Type 0} → X → Rule X
  token : {X : Type 0} → Class → (Token → X) → Rule X
  behind : {X : Type 0} → Class → Rule X → Rule X
  pair : {X Y : Type 0} → Rule X → Rule Y → Rule (X × Y)
  seen : {X Y : Type 0} → (X → Y) → Rule X → Rule Y
  choice : {X : Type 0} → Rule X → Rule X → Rule X
  -- a word that may be a name too, and what stands behind it, or the other
  forked : {X : Type 0} → Class → Rule X → Rule X → Rule X
  perhaps : {X : Type 0} → Rule X → Rule (Option X)
  closed : {X : Type 0} → Rule X → Class → Rule X
  separated : {X : Type 0} → Class → Rule X → Rule (List X)
  listed : {X : Type 0} → Rule X → Rule (List X)
  -- it begins with no more than these and goes on with no more than those
  stated : {X : Type 0} → List Class → List Class → Rule X → Rule X

-- what a rule spells; what is stated of its first classes changes nothing
abbrev pub Spelled : {X : Type 0} → Rule X → Phrase X
Spelled (nothing x) = Nothing x
Spelled (token c f) = One c f
Spelled (behind c g) = Then c (Spelled g)
Spelled (pair g h) = Both (Spelled g) (Spelled h)
Spelled (seen f g) = Map f (Spelled g)
Spelled (choice g h) = Either (Spelled g) (Spelled h)
Spelled (forked w g h) = Either (Then w (Spelled g)) (Spelled h)
Spelled (perhaps g) = Perhaps (Spelled g)
Spelled (closed g c) = Closed (Spelled g) c
Spelled (separated c g) = Separated c (Spelled g)
Spelled (listed g) = Listed (Spelled g)
Spelled (stated s m g) = Spelled g
