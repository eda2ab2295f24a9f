-- How phrases are read from left to right: what is read and the tokens behind it, or the tokens from the first that doesn't fit.
use Rattle.std.specs.Prelude.{ℕ, zero, suc, List, [], ◌∷◌, length, Bool, false, Some, None, if◌then◌else◌, ◌&&◌, Result, Ok, Err}
use Rattle.mdc_ast.specs.Tokens.{Token}
use Rattle.mdc_ast.specs.Classes.{Class, fits, opening, closing, comma}
use Rattle.mdc_ast.specs.Phrases.{front_of}
use Rattle.mdc_ast.specs.Rules.{Rule, nothing, token, behind, pair, seen, choice, forked, perhaps, closed, separated, listed, stated}
use Rattle.sql_reader.specs.LookAhead.{among, starts}

-- what stands at the front and the tokens behind it, or else the tokens from the first that doesn't fit
abbrev pub Reader : Type 0 → Type 0
Reader X = List Token → Result (X × List Token) (List Token)

infixl 10 ◌>>=◌
-- goes on with what the first step gave, and stops where that stopped
abbrev pub ◌>>=◌ : {A B E : Type 0} → Result A E → (A → Result B E) → Result B E
(Ok x) >>= f = f x
(Err e) >>= f = Err e

-- says x, and takes no token
abbrev pub read_as : {X : Type 0} → X → Reader X
read_as x tokens = Ok (x, tokens)

-- a token of this class, seen by f
abbrev pub one : {X : Type 0} → Class → (Token → X) → Reader X
one c f [] = Err []
one c f (t ∷ rest) = if fits c t.kind then Ok (f t, rest) else Err (t ∷ rest)

-- what is behind a token of this class
abbrev pub skip : Class → List Token → Result (List Token) (List Token)
skip c [] = Err []
skip c (t ∷ rest) = if fits c t.kind then Ok rest else Err (t ∷ rest)

-- a, behind a token of this class, which itself says nothing
abbrev pub then_read : {X : Type 0} → Class → Reader X → Reader X
then_read c a tokens = skip c tokens >>= a

-- a and then b, behind the tokens that a took
abbrev pub both : {X Y : Type 0} → Reader X → Reader Y → Reader (X × Y)
both a b tokens = a tokens >>= λ p. b p.1 >>= λ q. Ok ((p.0, q.0), q.1)

-- the same tokens as a, and what f makes of what they say
abbrev pub map_read : {X Y : Type 0} → (X → Y) → Reader X → Reader Y
map_read f a tokens = a tokens >>= λ p. Ok (f p.0, p.1)

-- the first token is of one of these classes
abbrev pub begins : List Class → List Token → Bool
begins cs [] = false
begins cs (t ∷ rest) = among cs t.kind

-- a where the first token is one of these
abbrev pub either : {X : Type 0} → List Class → Reader X → Reader X → Reader X
either cs a b tokens = if begins cs tokens then a tokens else b tokens

-- as many as begin with one of these
abbrev pub many_at : {X : Type 0} → List Class → Reader X → ℕ → Reader (List X)
many_at cs a zero tokens = Ok ([], tokens)
many_at cs a (suc n) tokens =
    if begins cs tokens then (a tokens >>= λ p. many_at cs a n p.1 >>= λ q. Ok (p.0 ∷ q.0, q.1)) else Ok ([], tokens)

-- the same in as many rounds as there are tokens, which is enough where each takes one
abbrev pub many : {X : Type 0} → List Class → Reader X → Reader (List X)
many cs a tokens = many_at cs a (length tokens) tokens

-- a token of the one class stands first, and one of these behind it
abbrev pub forks : Class → List Class → List Token → Bool
forks w cs [] = false
forks w cs (t ∷ rest) = fits w t.kind && begins cs rest

-- what is behind the first token
abbrev pub behind_first : List Token → List Token
behind_first [] = []
behind_first (t ∷ rest) = rest

-- the token of this class that may be a name, and a behind it, where a can begin there; else b
abbrev pub fork : {X : Type 0} → Class → List Class → Reader X → Reader X → Reader X
fork w cs a b tokens = if forks w cs tokens then a (behind_first tokens) else b tokens

-- a, and behind it a token of this class, which itself says nothing
abbrev pub closed_at : {X : Type 0} → Reader X → Class → Reader X
closed_at {X} a c = map_read (λ (p : X × Unit {0}). p.0) (both a (then_read c (read_as tt)))

-- one or more of a, with a token of this class between each two
unfoldable pub separated_at : {X : Type 0} → Class → Reader X → Reader (List X)
separated_at c a = map_read front_of (both a (many (c ∷ []) (then_read c a)))

-- one or more of a between parentheses, with commas between each two
unfoldable pub listed_at : {X : Type 0} → Reader X → Reader (List X)
listed_at a = then_read opening (closed_at (separated_at comma a) closing)

-- how a rule is read
abbrev pub read : {X : Type 0} → Rule X → Reader X
read (nothing x) = read_as x
read (token c f) = one c f
read (behind c g) = then_read c (read g)
read (pair g h) = both (read g) (read h)
read (seen f g) = map_read f (read g)
read (choice g h) = either (starts g) (read g) (read h)
read (forked w g h) = fork w (starts g) (read g) (read h)
read (perhaps g) = either (starts g) (map_read Some (read g)) (read_as None)
read (closed g c) = closed_at (read g) c
read (separated c g) = separated_at c (read g)
read (listed g) = listed_at (read g)
read (stated s m g) = read g
