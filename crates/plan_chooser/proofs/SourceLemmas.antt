-- The first place in a list at which a test passes.
use Rattle.std.proofs.Common.{◌≡◌, ◌∙◌, ℕ, ◌+◌, ◌<◌, List, [], ◌∷◌, Bool, true, false, Some, None, refl, sym, ap, drop, length, arith, cond}
use Rattle.std.specs.Prelude.{position, ◌||◌}
use Rattle.std.specs.List.{list_any, position_or_len}
use Rattle.std.proofs.lemmas.Bool.{lt-ltb, false≢true}

-- it isn't among the first
pub record IsLater {X : Type 0} (p : X → Bool) (xs : List X) (i : ℕ) : Type 0 where
  pub later : position_or_len p xs ≡ i + position_or_len p (drop i xs)

first_below : {X : Type 0} (p : X → Bool) (xs : List X) → list_any p xs ≡ true → position_or_len p xs < length xs
first_below p [] h = absurd (false≢true h)
first_below {X} p (x ∷ xs) h = by_first (p x) refl (first_below p xs) where
  by_first : (b : Bool) → p x ≡ b → (list_any p xs ≡ true → position_or_len p xs < length xs) → position_or_len p (x ∷ xs) < length (x ∷ xs)
  by_first true e more = rw e (omega arith)
  by_first false e more =
      let k : position_or_len p xs < length xs = more (sym (ap (λ b. b || list_any p xs) e) ∙ h) in
      rw e (omega (arith, k))

-- where one passes there is a first
pub position_there : {X : Type 0} (p : X → Bool) (xs : List X) → list_any p xs ≡ true → position p xs ≡ Some (position_or_len p xs)
position_there p xs h = ap (λ b. cond b (Some (position_or_len p xs)) None) (lt-ltb (position_or_len p xs) (length xs) (first_below p xs h))
