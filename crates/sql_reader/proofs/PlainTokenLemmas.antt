-- Statements whose tokens are words, numbers and symbols have no strange byte.
use Rattle.std.proofs.Common.{◌≡◌, ◌≢◌, ℕ, List, [], ◌∷◌, ◌++◌, Bool, true, false, Option, Some, None, refl, sym, ap, subst, arith}
use Rattle.std.specs.Prelude.{IsTrue, IfSome, ◌==◌, ◌&&◌, ◌||◌}
use Rattle.std.specs.List.{list_all}
use Rattle.std.proofs.lemmas.Bool.Decides.{nat_tests}
use Rattle.mdc_ast.specs.Cutting.{Passes, BeginsNoComment, is_blank}
use Rattle.mdc_ast.specs.Tokens as tokens
use Rattle.mdc_ast.specs.Tokens.{FirstStrange, Kind, StandsAlone, Token, Tokens, is_letter, is_pair, is_plain, is_symbol, is_word_byte}
use Rattle.mdc_values.specs.Calendar.{is_digit}
use Rattle.sql_reader.specs.Strange.{is_plain_kind}
use Rattle.sql_reader.specs.Token.{grammar_kind, tokens_of}
use Rattle.sql_reader.specs.declared.token.Token.{Token as Lexed}

not_both : (b c : ℕ) → ((b == 45) && (c == 45)) ≡ false → b ≡ 45 → c ≡ 45 → ⊥
not_both b c other one two = grind (arith, nat_tests)

letter_plain : (b : ℕ) → IsTrue (is_word_byte b) → IsTrue (is_plain b) × (b ≢ 39) × (b ≢ 45)
letter_plain b h = (grind (arith, nat_tests), grind (arith, nat_tests), grind (arith, nat_tests))

symbol_plain : (b : ℕ) → IsTrue (is_symbol b) → IsTrue (is_plain b) × (b ≢ 39)
symbol_plain b h = (grind (arith, nat_tests), grind (arith, nat_tests))

pair_plain : (b c : ℕ) → IsTrue (is_pair b c) → (IsTrue (is_plain b) × (b ≢ 39) × (b ≢ 45)) × (IsTrue (is_plain c) × (c ≢ 39) × (c ≢ 45))
pair_plain b c h = ((grind (arith, nat_tests), grind (arith, nat_tests), grind (arith, nat_tests)), (grind (arith, nat_tests), grind (arith, nat_tests), grind (arith, nat_tests)))

blank_plain : (b : ℕ) → IsTrue (is_blank b) → IsTrue (is_plain b) × (b ≢ 39) × (b ≢ 45)
blank_plain b h = (grind (arith, nat_tests), grind (arith, nat_tests), grind (arith, nat_tests))

digit_plain : (b : ℕ) → IsTrue (is_digit b) → IsTrue (is_word_byte b)
digit_plain b h = grind (arith, nat_tests)

letter_in_word : (b : ℕ) → IsTrue (is_letter b) → IsTrue (is_word_byte b)
letter_in_word b h = grind (arith, nat_tests)

-- a plain byte that is no quote and no dash
one_plain : (b : ℕ) (rest : List ℕ) → IsTrue (is_plain b) × (b ≢ 39) × (b ≢ 45) → FirstStrange false rest None → FirstStrange false (b ∷ rest) None
one_plain b rest (plain, other, single) h = FirstStrange.outside plain other (λ dash begins. single dash) h

-- bytes of words are plain
word_plain : (test : ℕ → Bool) → ((b : ℕ) → IsTrue (test b) → IsTrue (is_word_byte b)) → (front rest bytes : List ℕ) → Passes test front → bytes ≡ front ++ rest → FirstStrange false rest None → FirstStrange false bytes None
word_plain test within [] rest bytes passes e h = subst (λ l. FirstStrange false l None) (sym e) h
word_plain test within (b ∷ front) rest bytes passes e h =
    subst (λ l. FirstStrange false l None) (sym e) (one_plain b (front ++ rest) (letter_plain b (within b passes.0)) (word_plain test within front rest (front ++ rest) passes.1 refl h))

-- a symbol that stands alone begins no comment
alone_no_comment : (b : ℕ) (rest : List ℕ) → StandsAlone b rest → BeginsNoComment b rest
alone_no_comment b [] alone dash begins = begins
alone_no_comment b (c ∷ rest) alone dash begins = not_both b c (other_of (is_pair b c) ((b == 45) && (c == 45)) alone) dash begins
  where
    other_of : (p q : Bool) → (p || q) ≡ false → q ≡ false
    other_of true q e = absurd (cc)
    other_of false q e = e

-- what stands before bytes with no strange one, where it is a gap or a plain token
front_plain : (bytes : List ℕ) (kind : Option Kind) (rest : List ℕ) → tokens.Front bytes kind rest → IfSome kind (λ k. is_plain_kind k ≡ true) → FirstStrange false rest None → FirstStrange false bytes None
front_plain bytes kind rest (tokens.Front.blank {b = b} {rest = r} h) plain f = one_plain b r (blank_plain b h) f
front_plain bytes kind rest (tokens.Front.comment inside r h g lacks e) plain f = FirstStrange.comment inside r h g lacks e f
front_plain bytes kind rest (tokens.Front.open_comment h g lacks) plain f = FirstStrange.open_comment h g lacks
front_plain bytes kind rest (tokens.Front.word {b = b} {bytes = behind} more r h passes stops e) plain f =
    one_plain b behind (letter_plain b (letter_in_word b h)) (word_plain is_word_byte (λ x p. p) more r behind passes e f)
front_plain bytes kind rest (tokens.Front.number {b = b} {bytes = behind} more r h passes stops e) plain f =
    one_plain b behind (letter_plain b (digit_plain b h)) (word_plain is_digit digit_plain more r behind passes e f)
front_plain bytes kind rest (tokens.Front.text h quoted) plain f = absurd (cc)
front_plain bytes kind rest (tokens.Front.open_text h unquoted) plain f = absurd (cc)
front_plain bytes kind rest (tokens.Front.symbol {b = b} {rest = r} h alone) plain f = let is = symbol_plain b h in FirstStrange.outside is.0 is.1 (alone_no_comment b r alone) f
front_plain bytes kind rest (tokens.Front.pair {b = b} {c = c} {rest = r} h) plain f = let both = pair_plain b c h in one_plain b (c ∷ r) both.0 (one_plain c r both.1 f)
front_plain bytes kind rest (tokens.Front.stray blank h) plain f = absurd (cc)

-- where all tokens are plain, no byte is strange
pub plain_tokens : (bytes : List ℕ) (all : List Token) → Tokens bytes all → list_all (λ t. is_plain_kind t.kind) all ≡ true → FirstStrange false bytes None
plain_tokens bytes all tokens.Tokens.nothing plain = FirstStrange.nothing
plain_tokens bytes all (tokens.Tokens.gap {rest = r} front t) plain = front_plain bytes None r front tt (plain_tokens r all t plain)
plain_tokens bytes all (tokens.Tokens.token {rest = r} {tokens = ts} {kind = k} front e t) plain =
    let both = both_true (is_plain_kind k) (list_all (λ t. is_plain_kind t.kind) ts) plain in
    front_plain bytes (Some k) r front both.0 (plain_tokens r ts t both.1)
  where
    both_true : (p q : Bool) → (p && q) ≡ true → (p ≡ true) × (q ≡ true)
    both_true true true e = (refl, refl)
    both_true true false e = absurd (cc)
    both_true false q e = absurd (cc)

-- the tokens that the code has are plain where those of the grammar are
pub plain_lexed : (lexed : List Lexed) → list_all (λ t. is_plain_kind (grammar_kind t.kind)) lexed ≡ list_all (λ t. is_plain_kind t.kind) (tokens_of lexed)
plain_lexed [] = refl
plain_lexed (t ∷ lexed) = ap (λ p. is_plain_kind (grammar_kind t.kind) && p) (plain_lexed lexed)
