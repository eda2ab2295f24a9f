-- Lists of causes that are empty: so are their parts.
use Rattle.std.proofs.Common.{◌≡◌, List, [], ◌∷◌, ◌++◌, Bool, true, false, refl, subst}
use Rattle.std.specs.Prelude.{flat_map, not, Option, Some, None, is_none}
use Rattle.statement_meaning.specs.Cause.{Cause, cause_if}
use Rattle.statement_meaning.specs.Judging.{of_some}
use Rattle.mdc_ast.proofs.TestsLemmas.{some_is}

-- where nothing is said by two lists, nothing is said by either
pub none_of_both : {X : Type 0} (a b : List X) → a ++ b ≡ [] → (a ≡ []) × (b ≡ [])
none_of_both [] b e = (refl, e)
none_of_both (x ∷ a) b e = cc

pub none_if : (b : Bool) (cause : Cause) → cause_if b cause ≡ [] → b ≡ false
none_if true cause e = cc
none_if false cause e = refl

pub none_if_not : (b : Bool) (cause : Cause) → cause_if (not b) cause ≡ [] → b ≡ true
none_if_not true cause e = refl
none_if_not false cause e = cc

pub none_of_each : {X Y : Type 0} (f : X → List Y) (x : X) (xs : List X) → flat_map f (x ∷ xs) ≡ [] → (f x ≡ []) × (flat_map f xs ≡ [])
none_of_each f x xs e = none_of_both (f x) (flat_map f xs) e

pub is_there : {X : Type 0} (o : Option X) (cause : Cause) → cause_if (is_none o) cause ≡ [] → (x : X) × (o ≡ Some x)
is_there None cause e = cc
is_there (Some x) cause e = (x, refl)

pub none_of_some : {X : Type 0} (o : Option X) (x : X) (judge : X → List Cause) → o ≡ Some x → of_some o judge ≡ [] → judge x ≡ []
none_of_some None x judge is e = cc
none_of_some (Some y) x judge is e = subst (λ z. judge z ≡ []) (some_is y x is) e
