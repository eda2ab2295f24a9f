-- Words among others, of which only those of their own length count.
use Rattle.std.proofs.Common.{◌≡◌, ℕ, inl, inr, eqb, Bool, true, false, ◌||◌, List, [], ◌∷◌, ap, arith, length, map, refl, sym, ◌∙◌}
use Rattle.std.specs.Prelude.{◌==◌, ◌&&◌, filter}
use Rattle.std.specs.List.{list_all, list_any}
use Rattle.std.specs.Str.{bytes_eq}
use Rattle.std.proofs.lemmas.Bool.{cases_Bool}
use Rattle.std.proofs.lemmas.Bool.Decides.{nat_tests}
use Rattle.mdc_ast.specs.Tokens.{upper}
use Rattle.sql_reader.proofs.Folding.{folded_lengths}

same_eqb : (a b : ℕ) → a ≡ b → eqb a b ≡ true
same_eqb a b e = grind (arith, nat_tests)

not_both : (b : Bool) → b ≡ true → b ≡ false → ⊥
not_both true e f = cc
not_both false e f = cc

first_true : (p q : Bool) → (p && q) ≡ true → (p ≡ true) × (q ≡ true)
first_true true true e = (refl, refl)
first_true true false e = absurd cc
first_true false q e = absurd cc

-- a word is only one of those that have its length
pub list_any-of_length : (word : List ℕ) (n : ℕ) (xs : List (List ℕ)) → length word ≡ n → list_any (bytes_eq (map upper word)) xs ≡ list_any (bytes_eq (map upper word)) (filter (λ x. length x == n) xs)
list_any-of_length word n [] e = refl
list_any-of_length word n (x ∷ xs) e =
    elim (cases_Bool (length x == n)) [
      | inl same ↦ rw same (ap (λ rest. bytes_eq (map upper word) x || rest) (list_any-of_length word n xs e))
      | inr other ↦ rw (other, ← folded_lengths word x (λ q. not_both (length x == n) (same_eqb (length x) n (sym q ∙ e)) other)) (list_any-of_length word n xs e)
    ]

-- a word is none of those that pass a test of their length which it doesn't pass
pub list_any-none : (test : ℕ → Bool) (word : List ℕ) (xs : List (List ℕ)) → list_all (λ x. test (length x)) xs ≡ true → test (length word) ≡ false → false ≡ list_any (bytes_eq (map upper word)) xs
list_any-none test word [] all fails = refl
list_any-none test word (x ∷ xs) all fails =
    let both = first_true (test (length x)) (list_all (λ y. test (length y)) xs) all in
    rw (← folded_lengths word x (λ q. not_both (test (length x)) both.0 (ap test (sym q) ∙ fails))) (list_any-none test word xs both.1 fails)
