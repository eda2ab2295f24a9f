-- Words compared without their case.
use Rattle.std.proofs.Common.{◌≡◌, ◌≢◌, ℕ, zero, suc, ◌+◌, ◌<◌, ◌≤◌, eq-eqb, Bool, true, false, cond, List, [], ◌∷◌, ◌++◌, append_assoc, length, get_or, map, drop, refl, sym, ap, ◌∙◌, arith}
use Rattle.std.specs.Prelude.{◌==◌, ◌&&◌}
use Rattle.std.specs.Char.{to_ascii_uppercase}
use Rattle.std.specs.Str.{bytes_eq}
use Rattle.std.proofs.lemmas.Bool.Decides.{nat_tests}
use Rattle.std.proofs.lemmas.Bool.{ne_eqb}
use Rattle.std.proofs.lemmas.List.{append-nil, at_drop_more, drop_all, length-map}
use Rattle.sql_reader.specs.Token.{undoubled}
use Rattle.std.proofs.lemmas.Slice.Eq.{bytes_eq-Decides}
use Rattle.sql_reader.proofs.Looking.{not_is_false}
use Rattle.mdc_ast.specs.Tokens.{upper}

-- words from a place on are the same where the bytes there and the words behind them are
folded_at : (i : ℕ) (word wanted : List ℕ) → i < length word → length word ≡ length wanted
    → bytes_eq (map upper (drop i word)) (drop i wanted) ≡ ((upper (get_or word i 0) == get_or wanted i 0) && bytes_eq (map upper (drop (i + 1) word)) (drop (i + 1) wanted))
folded_at i [] wanted lt e = absurd (omega arith)
folded_at i (x ∷ xs) [] lt e = absurd (omega arith)
folded_at zero (x ∷ xs) (y ∷ ys) lt e = refl
folded_at (suc i) (x ∷ xs) (y ∷ ys) lt e = let k : suc i + 1 ≡ suc (i + 1) = omega arith in rw k (folded_at i xs ys (omega arith) (omega arith))

-- one byte differs
pub folded_differs : (i : ℕ) (word wanted : List ℕ) (b : ℕ) (whole : Bool) → i < length word → length word ≡ length wanted → b ≡ upper (get_or word i 0) → b ≢ get_or wanted i 0
    → bytes_eq (map upper (drop i word)) (drop i wanted) ≡ whole → false ≡ whole
folded_differs i word wanted b whole lt same is other h =
    let fails : (upper (get_or word i 0) == get_or wanted i 0) ≡ false = ne_eqb (upper (get_or word i 0)) (get_or wanted i 0) (λ e. other (is ∙ e)) in
    sym (sym h ∙ folded_at i word wanted lt same ∙ ap (λ t. t && bytes_eq (map upper (drop (i + 1) word)) (drop (i + 1) wanted)) fails)

-- one byte more is the same
pub folded_more : (i : ℕ) (word wanted : List ℕ) (b : ℕ) (whole : Bool) → i < length word → length word ≡ length wanted → b ≡ upper (get_or word i 0) → b ≡ get_or wanted i 0
    → bytes_eq (map upper (drop i word)) (drop i wanted) ≡ whole → bytes_eq (map upper (drop (i + 1) word)) (drop (i + 1) wanted) ≡ whole
folded_more i word wanted b whole lt same is found h =
    let passes : (upper (get_or word i 0) == get_or wanted i 0) ≡ true = eq-eqb (upper (get_or word i 0)) (get_or wanted i 0) (sym is ∙ found) in
    sym (folded_at i word wanted lt same ∙ ap (λ t. t && bytes_eq (map upper (drop (i + 1) word)) (drop (i + 1) wanted)) passes) ∙ h

-- no bytes are left
pub folded_all : (word wanted : List ℕ) (i : ℕ) (whole : Bool) → length word ≤ i → length word ≡ length wanted → bytes_eq (map upper (drop i word)) (drop i wanted) ≡ whole → true ≡ whole
folded_all word wanted i whole le same h =
    let none : drop i word ≡ [] = drop_all i word le in
    let empty : drop i wanted ≡ [] = drop_all i wanted (omega (arith, le, same)) in
    sym (ap (λ l. bytes_eq (map upper l) (drop i wanted)) none ∙ ap (λ l. bytes_eq [] l) empty) ∙ h

-- words of other lengths differ
pub folded_lengths : (word wanted : List ℕ) → (length word ≡ length wanted → ⊥) → false ≡ bytes_eq (map upper word) wanted
folded_lengths word wanted other = sym (not_is_false (bytes_eq (map upper word) wanted) (λ h. other (sym (length-map word upper) ∙ ap length ((bytes_eq-Decides (map upper word) wanted).0 h))))

-- a letter is folded as ASCII has it
pub upper_is : (b u : ℕ) → u ≡ to_ascii_uppercase b → u ≡ upper b
upper_is b u e = e ∙ (grind (arith, nat_tests))

-- TEXTS

-- one byte of a text, and the rest
undoubled_at : (behind : Bool) (i : ℕ) (text : List ℕ) → i < length text
    → undoubled behind (drop i text) ≡ cond behind (undoubled false (drop (i + 1) text)) (get_or text i 0 ∷ undoubled (get_or text i 0 == 39) (drop (i + 1) text))
undoubled_at behind i text lt = at_drop_more (undoubled behind) text i 0 lt ∙ by_flag behind
  where
    by_flag : (f : Bool) → undoubled f (get_or text i 0 ∷ drop (i + 1) text) ≡ cond f (undoubled false (drop (i + 1) text)) (get_or text i 0 ∷ undoubled (get_or text i 0 == 39) (drop (i + 1) text))
    by_flag true = refl
    by_flag false = refl

-- the second of two quotes is left out
pub undoubled_skips : (behind : Bool) (i : ℕ) (text out whole : List ℕ) → i < length text → behind ≡ true → out ++ undoubled behind (drop i text) ≡ whole → out ++ undoubled false (drop (i + 1) text) ≡ whole
undoubled_skips behind i text out whole lt flag h =
    ap (λ l. out ++ l) (sym (undoubled_at behind i text lt ∙ ap (λ f. cond f (undoubled false (drop (i + 1) text)) (get_or text i 0 ∷ undoubled (get_or text i 0 == 39) (drop (i + 1) text))) flag)) ∙ h

-- any other byte stands
pub undoubled_takes : (behind : Bool) (i : ℕ) (text out whole : List ℕ) → i < length text → behind ≡ false → out ++ undoubled behind (drop i text) ≡ whole
    → (out ++ get_or text i 0 ∷ []) ++ undoubled (get_or text i 0 == 39) (drop (i + 1) text) ≡ whole
undoubled_takes behind i text out whole lt flag h =
    append_assoc out (get_or text i 0 ∷ []) (undoubled (get_or text i 0 == 39) (drop (i + 1) text))
    ∙ ap (λ l. out ++ l) (sym (undoubled_at behind i text lt ∙ ap (λ f. cond f (undoubled false (drop (i + 1) text)) (get_or text i 0 ∷ undoubled (get_or text i 0 == 39) (drop (i + 1) text))) flag)) ∙ h

-- no byte is left
pub undoubled_all : (behind : Bool) (i : ℕ) (text out whole : List ℕ) → length text ≤ i → out ++ undoubled behind (drop i text) ≡ whole → out ≡ whole
undoubled_all behind i text out whole le h =
    let none : undoubled behind (drop i text) ≡ [] = ap (undoubled behind) (drop_all i text le) ∙ by_flag behind in
    sym (append-nil out) ∙ ap (λ l. out ++ l) (sym none) ∙ h
  where
    by_flag : (f : Bool) → undoubled f [] ≡ []
    by_flag true = refl
    by_flag false = refl
