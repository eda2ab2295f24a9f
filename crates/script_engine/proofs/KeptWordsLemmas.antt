-- The words among a statement's tokens are in upper case, as a name is kept.
use Rattle.std.proofs.Common.{◌≡◌, ◌-◌, ℕ, List, [], ◌∷◌, Some, None, refl, sym, subst, inl, inr, map, arith}
use Rattle.std.specs.Prelude.{IsTrue, ◌&&◌, false, not, Option}
use Rattle.std.specs.List.{list_all}
use Rattle.std.proofs.lemmas.Bool.{cases_Bool}
use Rattle.std.proofs.lemmas.Bool.Decides.{nat_tests}
use Rattle.mdc_ast.specs.Cutting.{Passes}
use Rattle.mdc_ast.specs.Tokens.{Front, Kind, Number, Stray, Symbol, Text, Token, Tokens, Word, is_letter, is_lower, is_word_byte, upper}
use Rattle.mdc_ast.specs.Tokens as tokens
use Rattle.mdc_ast.proofs.TestsLemmas.{and_true}
use Rattle.mdc_ast.specs.TableLimits.{is_kept_word}

-- a token's word is kept so
abbrev pub IsKeptWord : Kind → Type 0
IsKeptWord (Word word) = IsTrue (is_kept_word word)
IsKeptWord (Number n) = Unit {0}
IsKeptWord (Text text) = Unit {0}
IsKeptWord (Symbol bytes) = Unit {0}
IsKeptWord Stray = Unit {0}

-- each of the tokens' words is
abbrev pub AreKept : List Token → Type 0
AreKept [] = Unit {0}
AreKept (t ∷ tokens) = IsKeptWord t.kind × AreKept tokens

abbrev IsKeptWordIn : Option Kind → Type 0
IsKeptWordIn None = Unit {0}
IsKeptWordIn (Some kind) = IsKeptWord kind

-- ---- a byte in upper case

letter_of_lower : (b u : ℕ) → IsTrue (is_lower b) → u ≡ b - 32 → IsTrue (is_letter u)
letter_of_lower b u h e = grind (arith, nat_tests, h, e)

flat_of_lower : (b u : ℕ) → IsTrue (is_lower b) → u ≡ b - 32 → is_lower u ≡ false
flat_of_lower b u h e = grind (arith, nat_tests, h, e)

upper_of_lower : (b : ℕ) → IsTrue (is_lower b) → upper b ≡ b - 32
upper_of_lower b h = rw h refl

upper_of_other : (b : ℕ) → is_lower b ≡ false → upper b ≡ b
upper_of_other b h = rw h refl

upper_flat : (b : ℕ) → is_lower (upper b) ≡ false
upper_flat b = elim (cases_Bool (is_lower b)) [
  | inl lower ↦ flat_of_lower b (upper b) lower (upper_of_lower b lower)
  | inr other ↦ subst (λ u. is_lower u ≡ false) (sym (upper_of_other b other)) other
]

upper_letter : (b : ℕ) → IsTrue (is_letter b) → IsTrue (is_letter (upper b))
upper_letter b h = elim (cases_Bool (is_lower b)) [
  | inl lower ↦ letter_of_lower b (upper b) lower (upper_of_lower b lower)
  | inr other ↦ subst (λ u. IsTrue (is_letter u)) (sym (upper_of_other b other)) h
]

letter_in_word : (b : ℕ) → IsTrue (is_letter b) → IsTrue (is_word_byte b)
letter_in_word b h = rw h refl

upper_in_word : (b : ℕ) → IsTrue (is_word_byte b) → IsTrue (is_word_byte (upper b))
upper_in_word b h = elim (cases_Bool (is_lower b)) [
  | inl lower ↦ letter_in_word (upper b) (letter_of_lower b (upper b) lower (upper_of_lower b lower))
  | inr other ↦ subst (λ u. IsTrue (is_word_byte u)) (sym (upper_of_other b other)) h
]

-- ---- words

word_kept : (more : List ℕ) → Passes is_word_byte more → IsTrue (list_all is_word_byte (map upper more))
word_kept [] passes = refl
word_kept (b ∷ more) passes = and_true _ _ (upper_in_word b passes.0) (word_kept more passes.1)

none_lower : (word : List ℕ) → IsTrue (list_all (λ c. not (is_lower c)) (map upper word))
none_lower [] = refl
none_lower (b ∷ word) = and_true _ _ (rw (upper_flat b) refl) (none_lower word)

kept_word : (b : ℕ) (more : List ℕ) → IsTrue (is_letter b) → Passes is_word_byte more → IsTrue (is_kept_word (map upper (b ∷ more)))
kept_word b more letter passes =
    let front : IsTrue (is_letter (upper b) && list_all is_word_byte (map upper more)) = and_true _ _ (upper_letter b letter) (word_kept more passes) in
    and_true _ _ front (none_lower (b ∷ more))

-- ---- tokens

front_kept : (bytes : List ℕ) (found : Option Kind) (rest : List ℕ) → Front bytes found rest → IsKeptWordIn found
front_kept bytes found rest (tokens.Front.blank h) = tt
front_kept bytes found rest (tokens.Front.comment inside r h g lacks e) = tt
front_kept bytes found rest (tokens.Front.open_comment h g lacks) = tt
front_kept bytes found rest (tokens.Front.word {b = b} more r letter passes stops e) = kept_word b more letter passes
front_kept bytes found rest (tokens.Front.number more r h passes stops e) = tt
front_kept bytes found rest (tokens.Front.text h quoted) = tt
front_kept bytes found rest (tokens.Front.open_text h unquoted) = tt
front_kept bytes found rest (tokens.Front.symbol h alone) = tt
front_kept bytes found rest (tokens.Front.pair h) = tt
front_kept bytes found rest (tokens.Front.stray h none) = tt

-- the words of bytes' tokens are kept so
pub tokens_kept : (bytes : List ℕ) (all : List Token) → Tokens bytes all → AreKept all
tokens_kept bytes all tokens.Tokens.nothing = tt
tokens_kept bytes all (tokens.Tokens.gap {rest = rest} front others) = tokens_kept rest all others
tokens_kept bytes all (tokens.Tokens.token {bytes = b} {rest = rest} {tokens = more} {kind = kind} front left others) = (front_kept b (Some kind) rest front, tokens_kept rest more others)
