-- Numbers in their order.
use Rattle.std.proofs.Common.{◌≡◌, ◌∙◌, ◌≤◌, ◌⊎◌, inl, inr, ◌==◌, ℕ, List, [], ◌∷◌, ◌++◌, arith, sym, refl}
use Rattle.std.proofs.lemmas.Bool.{eq-eqb, ne_eqb, eqb-true}
use Rattle.mdc_values.specs.Rising.{IsLower, IsRising}
use Rattle.block_lists.specs.Places.{has_number}
use Rattle.block_lists.specs.Walks.{BeginsFrom, BeginsWith}
use Rattle.block_lists.proofs.WalkLemmas.{IsOrder, Keeps, Tells, begins_in, begins_not_in, keeps_past, keeps_taken, tells_first, tells_more, tells_past}

-- numbers and their order
pub numbers_order : IsOrder (λ m n. m == n) IsLower
numbers_order = record {
  through = λ a b c h k. omega arith;
  itself = λ a. eq-eqb a a refl;
  alike = λ a b h. eqb-true a b h;
  apart = λ a b h. ne_eqb b a (λ e. omega arith);
}

-- Numbers that two lists share, so far: what was made, and what is left of the one and of the other.
pub record CommonGoes (b0 a0 b out a : List ℕ) : Type 0 where
  pub rises : IsRising IsLower b
  pub keeps : Keeps IsLower (has_number b0) a0 out a
  pub tells : Tells (λ m n. m == n) (has_number b) (has_number b0) a

pub not_below : (x z : ℕ) → ((x ≡ z) ⊎ IsLower x z) → x ≤ z
not_below x z (inl e) = omega (arith, e)
not_below x z (inr h) = omega arith

pub common_moved : {b0 a0 b out : List ℕ} {x : ℕ} {a : List ℕ} (b' : List ℕ) → CommonGoes b0 a0 b out (x ∷ a) → IsRising IsLower b' → ((n : ℕ) → x ≤ n → has_number b' n ≡ has_number b n) → CommonGoes b0 a0 b' out (x ∷ a)
common_moved {b0} {a0} {b} {out} {x} {a} b' g r same = record {
  rises = r;
  keeps = g.keeps;
  tells = tells_more out (has_number b') numbers_order g.keeps.rises g.tells (λ z h. same z (not_below x z h));
}

pub common_taken : {b0 a0 b out : List ℕ} {x : ℕ} {a : List ℕ} → CommonGoes b0 a0 b out (x ∷ a) → BeginsWith x b → CommonGoes b0 a0 b (out ++ x ∷ []) a
common_taken {b0} {a0} {b} {out} {x} {a} g h = record {
  rises = g.rises;
  keeps = keeps_taken g.keeps (sym (tells_first numbers_order g.tells) ∙ begins_in numbers_order x b h);
  tells = tells_past g.tells;
}

pub common_past : {b0 a0 b out : List ℕ} {x : ℕ} {a : List ℕ} → CommonGoes b0 a0 b out (x ∷ a) → BeginsFrom IsLower x b → (BeginsWith x b → ⊥) → CommonGoes b0 a0 b out a
common_past {b0} {a0} {b} {out} {x} {a} g low h = record {
  rises = g.rises;
  keeps = keeps_past numbers_order g.keeps (sym (tells_first numbers_order g.tells) ∙ begins_not_in numbers_order x b g.rises low h);
  tells = tells_past g.tells;
}
