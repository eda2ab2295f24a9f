-- What one token tells of a rule: where it can begin and go on, and the test that one token is enough to read it.
use Rattle.std.specs.Prelude.{List, [], ◌∷◌, ◌++◌, Bool, true, false, not, ◌||◌, ◌&&◌}
use Rattle.std.specs.Str.{bytes_eq}
use Rattle.mdc_ast.specs.Tokens.{Kind}
use Rattle.mdc_ast.specs.Classes.{Class, W, S, AnyName, AnyNumber, AnyText, is_name, fits, opening, closing, comma}
use Rattle.mdc_ast.specs.Rules.{Rule, nothing, token, behind, pair, seen, choice, forked, perhaps, closed, separated, listed, stated}

-- some token may be of both classes
abbrev pub overlap : Class → Class → Bool
overlap (W v) (W w) = bytes_eq v w
overlap (W v) (S b) = false
overlap (W v) AnyName = is_name v
overlap (W v) AnyNumber = false
overlap (W v) AnyText = false
overlap (S a) (W w) = false
overlap (S a) (S b) = bytes_eq a b
overlap (S a) AnyName = false
overlap (S a) AnyNumber = false
overlap (S a) AnyText = false
overlap AnyName (W w) = is_name w
overlap AnyName (S b) = false
overlap AnyName AnyName = true
overlap AnyName AnyNumber = false
overlap AnyName AnyText = false
overlap AnyNumber (W w) = false
overlap AnyNumber (S b) = false
overlap AnyNumber AnyName = false
overlap AnyNumber AnyNumber = true
overlap AnyNumber AnyText = false
overlap AnyText (W w) = false
overlap AnyText (S b) = false
overlap AnyText AnyName = false
overlap AnyText AnyNumber = false
overlap AnyText AnyText = true

-- the token is of one of these classes
abbrev pub among : List Class → Kind → Bool
among [] kind = false
among (c ∷ cs) kind = fits c kind || among cs kind

-- some token may be of the class and of one of these
abbrev pub crosses : Class → List Class → Bool
crosses c [] = false
crosses c (d ∷ ds) = overlap c d || crosses c ds

-- no token is of a class of each
abbrev pub apart : List Class → List Class → Bool
apart [] ds = true
apart (c ∷ cs) ds = not (crosses c ds) && apart cs ds

-- each token of the first class is of the second
abbrev pub within : Class → Class → Bool
within (W v) (W w) = bytes_eq v w
within (W v) (S b) = false
within (W v) AnyName = is_name v
within (W v) AnyNumber = false
within (W v) AnyText = false
within (S a) (W w) = false
within (S a) (S b) = bytes_eq a b
within (S a) AnyName = false
within (S a) AnyNumber = false
within (S a) AnyText = false
within AnyName (W w) = false
within AnyName (S b) = false
within AnyName AnyName = true
within AnyName AnyNumber = false
within AnyName AnyText = false
within AnyNumber (W w) = false
within AnyNumber (S b) = false
within AnyNumber AnyName = false
within AnyNumber AnyNumber = true
within AnyNumber AnyText = false
within AnyText (W w) = false
within AnyText (S b) = false
within AnyText AnyName = false
within AnyText AnyNumber = false
within AnyText AnyText = true

-- one of these classes has every token of the class
abbrev pub inside : Class → List Class → Bool
inside c [] = false
inside c (d ∷ ds) = within c d || inside c ds

-- each class of the first list is within one of the second
abbrev pub covered : List Class → List Class → Bool
covered [] ds = true
covered (c ∷ cs) ds = inside c ds && covered cs ds

-- the rule spells no tokens too
abbrev pub empty : {X : Type 0} → Rule X → Bool
empty (nothing x) = true
empty (token c f) = false
empty (behind c g) = false
empty (pair g h) = empty g && empty h
empty (seen f g) = empty g
empty (choice g h) = empty h
empty (forked w g h) = false
empty (perhaps g) = true
empty (closed g c) = false
empty (separated c g) = false
empty (listed g) = false
empty (stated s m g) = false

-- the base classes, and the extra ones too where the flag says that the part between may spell no token
abbrev pub joined : Bool → List Class → List Class → List Class
joined true extra base = extra ++ base
joined false extra base = base

-- what the rule begins with
abbrev pub starts : {X : Type 0} → Rule X → List Class
starts (nothing x) = []
starts (token c f) = c ∷ []
starts (behind c g) = c ∷ []
starts (pair g h) = joined (empty g) (starts h) (starts g)
starts (seen f g) = starts g
starts (choice g h) = starts g ++ starts h
starts (forked w g h) = w ∷ starts h
starts (perhaps g) = starts g ++ []
starts (closed g c) = starts g
starts (separated c g) = starts g
starts (listed g) = opening ∷ []
starts (stated s m g) = s

-- what goes on where the rule could have ended
abbrev pub more : {X : Type 0} → Rule X → List Class
more (nothing x) = []
more (token c f) = []
more (behind c g) = more g
more (pair g h) = joined (empty h) (more g) (more h)
more (seen f g) = more g
more (choice g h) = more g ++ joined (empty h) (starts g) (more h)
more (forked w g h) = (starts g ++ more g) ++ more h
more (perhaps g) = more g ++ (starts g ++ [])
more (closed g c) = []
more (separated c g) = more g ++ ((c ∷ []) ++ more g)
more (listed g) = []
more (stated s m g) = m

-- at a token of w, what g reads ends or stops behind it where one of these classes stands
abbrev pub lands : {X : Type 0} → Class → List Class → Rule X → Bool
lands w sa (token c f) = within w c
lands w sa (pair g h) = lands w sa g && apart (starts h) sa
lands w sa (seen f g) = lands w sa g
lands w sa (forked v g h) = apart (w ∷ []) (v ∷ []) && lands w sa h
lands w sa g = false

-- one token of look-ahead is enough
abbrev pub good : {X : Type 0} → Rule X → Bool
good (nothing x) = true
good (token c f) = true
good (behind c g) = good g
good (pair g h) = good g && (good h && apart (more g) (starts h))
good (seen f g) = good g
good (choice g h) = (good g && not (empty g)) && (good h && apart (starts g) (starts h))
good (forked w g h) = (good g && not (empty g)) && ((good h && not (empty h)) && lands w (starts g) h)
good (perhaps g) = good g && not (empty g)
good (closed g c) = (good g && not (empty g)) && apart (more g) (c ∷ [])
good (separated c g) = (good g && not (empty g)) && apart (more g) (c ∷ [])
good (listed g) = (good g && not (empty g)) && (apart (more g) (comma ∷ []) && apart (more g ++ ((comma ∷ []) ++ more g)) (closing ∷ []))
good (stated s m g) = (good g && not (empty g)) && (covered (starts g) s && covered (more g) m)
