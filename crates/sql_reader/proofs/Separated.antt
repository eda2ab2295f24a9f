-- Phrases that a token closes, and lists, are read exactly as they are spelled.
use Rattle.std.proofs.Common.{◌≡◌, true, false, List, [], ◌∷◌, ◌++◌}
use Rattle.mdc_ast.specs.Classes.{Class, opening, closing, comma}
use Rattle.mdc_ast.specs.Phrases.{Phrase, front_of, Closed, Separated, Listed}
use Rattle.sql_reader.specs.LookAhead.{apart}
use Rattle.sql_reader.specs.Readers.{Reader, closed_at, separated_at, listed_at}
use Rattle.sql_reader.proofs.Exact.{Exact, done-exact, map-exact, then-exact, both-exact, many-exact}

-- A and a closing token
pub closed-exact : {X : Type 0} {A : Phrase X} {a : Reader X} {sa ma : List Class} (c : Class) → Exact A a sa ma false → apart ma (c ∷ []) ≡ true
    → Exact (Closed A c) (closed_at a c) sa [] false
closed-exact {X} c p ll = map-exact (λ (p : X × Unit {0}). p.0) (both-exact p (then-exact c (done-exact tt)) ll)

pub separated-exact : {X : Type 0} {A : Phrase X} {a : Reader X} {sa ma : List Class} (c : Class) → Exact A a sa ma false → apart ma (c ∷ []) ≡ true
    → Exact (Separated c A) (separated_at c a) sa (ma ++ ((c ∷ []) ++ ma)) false
unfolding separated_at
separated-exact c p ll = map-exact front_of (both-exact p (many-exact (then-exact c p) ll) ll)

pub listed-exact : {X : Type 0} {A : Phrase X} {a : Reader X} {sa ma : List Class} → Exact A a sa ma false → apart ma (comma ∷ []) ≡ true → apart (ma ++ ((comma ∷ []) ++ ma)) (closing ∷ []) ≡ true
    → Exact (Listed A) (listed_at a) (opening ∷ []) [] false
unfolding listed_at
listed-exact p ll lc = then-exact opening (closed-exact closing (separated-exact comma p ll) lc)
