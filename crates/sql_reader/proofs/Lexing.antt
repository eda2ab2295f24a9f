-- What stands at the front of bytes is found so, and nothing else is.
use Rattle.std.proofs.Common.{◌≡◌, ℕ, zero, suc, ◌+◌, ◌<◌, ◌≤◌, List, [], ◌∷◌, ◌++◌, length, length-append, get_or, map, take, drop, Bool, true, false, cond, ◌⊎◌, Option, Some, None, refl, sym, ap, subst, ◌∙◌, append_assoc, inl, inr, arith}
use Rattle.std.specs.Prelude.{IsTrue, ◌==◌, ◌||◌, ◌&&◌}
use Rattle.std.proofs.lemmas.Bool.{cases_Bool, cases_eq, eqb-true, ne_eqb}
use Rattle.std.proofs.lemmas.Bool.Decides.{nat_tests}
use Rattle.mdc_ast.specs.Cutting.{Passes, is_blank}
use Rattle.mdc_ast.specs.Tokens.{Kind, Word, Number, Text, Symbol, Token, Tokens, Quoted, Unquoted, Stops, StandsAlone, is_letter, is_symbol, is_pair, is_word_byte, begins_token, upper, kept_number}
use Rattle.mdc_values.specs.Calendar.{is_digit}
use Rattle.mdc_ast.specs.Tokens as tokens
use Rattle.sql_reader.specs.declared.token.Token.{Token as Lexed}
use Rattle.sql_reader.specs.Front.{Found, PutsFront, after_line, class_at, closes_before, closing_at, next_quote, front_at, front_by, front_len, symbol_front, text_before, token_told}
use Rattle.sql_reader.specs.declared.lexer.Class.TheVariants as class
use Rattle.sql_reader.specs.Digits.{EndsNumber, IsLongestFront}
use Rattle.std.specs.Prelude.{IfSome}
use Rattle.std.proofs.lemmas.List.{append-nil, at_drop_more, drop_all}
use Rattle.sql_reader.specs.Token.{undoubled}
use Rattle.sql_reader.proofs.Fronts.{one_front, longest_by_len, line_ends, after_line-feed, after_line-open, tail, tail-cons}

-- RANGES

-- blanks lie before all other bytes of tokens
blank_range : (b : ℕ) → IsTrue (is_blank b) → b < 33
blank_range b h = grind (arith, nat_tests)

letter_range : (b : ℕ) → IsTrue (is_letter b) → 65 ≤ b
letter_range b h = grind (arith, nat_tests)

digit_range : (b : ℕ) → IsTrue (is_digit b) → (48 ≤ b) × (b < 58)
digit_range b h = (grind (arith, nat_tests), grind (arith, nat_tests))

no_blank : (b : ℕ) → 33 ≤ b → is_blank b ≡ false
no_blank b h = grind (arith, nat_tests)

no_letter : (b : ℕ) → b < 65 → is_letter b ≡ false
no_letter b h = grind (arith, nat_tests)

-- a symbol is nothing else
symbol_alone : (b : ℕ) → IsTrue (is_symbol b) → (is_blank b ≡ false) × (is_letter b ≡ false) × (is_digit b ≡ false) × ((b == 39) ≡ false)
symbol_alone b h = (grind (arith, nat_tests), grind (arith, nat_tests), grind (arith, nat_tests), grind (arith, nat_tests))

-- a pair begins with a symbol
pair_symbol : (b c : ℕ) → IsTrue (is_pair b c) → IsTrue (is_symbol b)
pair_symbol b c h = grind (arith, nat_tests)

dashes_both : (b c : ℕ) → ((b == 45) && (c == 45)) ≡ true → (b ≡ 45) × (c ≡ 45)
dashes_both b c h = (grind (arith, nat_tests), grind (arith, nat_tests))

-- what begins nothing is of no class
stray_class : (b : ℕ) → begins_token b ≡ false → (is_letter b ≡ false) × (is_digit b ≡ false) × ((b == 39) ≡ false) × (is_symbol b ≡ false)
stray_class b h = (grind (arith, nat_tests), grind (arith, nat_tests), grind (arith, nat_tests), grind (arith, nat_tests))

class_stray : (b : ℕ) → is_letter b ≡ false → is_digit b ≡ false → (b == 39) ≡ false → is_symbol b ≡ false → begins_token b ≡ false
class_stray b l d q s = grind (arith, nat_tests)

-- TEXTS

-- a quote that no second one follows closes
closes : (place j : ℕ) (rest : List ℕ) → Stops (λ b. b == 39) rest → closing_at (Some place) j rest ≡ Some place
closes place j [] stops = refl
closes place j (b ∷ rest) stops = rw stops refl

-- a text closes where it is said to
closed_text : (bytes text rest : List ℕ) → Quoted bytes text rest → (i : ℕ) → (n : ℕ) × (closing_at None i bytes ≡ Some (i + n)) × (text ≡ undoubled false (take n bytes)) × (rest ≡ drop (suc n) bytes)
closed_text bytes text rest (Quoted.end {quote = q} {rest = r} h stops) i =
    let place : i ≡ i + 0 = omega arith in
    (0, rw h (closes i (i + 1) r stops ∙ ap Some place), refl, refl)
closed_text bytes text rest (Quoted.doubled {quote = q} {other = o} {bytes = more} {text = inside} h g quoted) i =
    let behind = closed_text more inside rest quoted (i + 1 + 1) in
    let place : i + 1 + 1 + behind.0 ≡ i + suc (suc behind.0) = omega arith in
    (suc (suc behind.0), rw (h, g) (behind.1 ∙ ap Some place), rw h (ap (λ l. 39 ∷ l) behind.2), behind.3)
closed_text bytes text rest (Quoted.byte {b = b} {bytes = more} {text = inside} other quoted) i =
    let behind = closed_text more inside rest quoted (i + 1) in
    let place : i + 1 + behind.0 ≡ i + suc behind.0 = omega arith in
    (suc behind.0, rw (ne_eqb b 39 other) (behind.1 ∙ ap Some place), rw (ne_eqb b 39 other) (ap (λ l. b ∷ l) behind.2), behind.3)

-- a text that isn't closed closes nowhere
open_text : (bytes : List ℕ) → Unquoted bytes → (i : ℕ) → closing_at None i bytes ≡ None
open_text bytes Unquoted.end i = refl
open_text bytes (Unquoted.doubled {bytes = more} h g unquoted) i = rw (h, g) (open_text more unquoted (i + 1 + 1))
open_text bytes (Unquoted.byte {b = b} {bytes = more} other unquoted) i = rw (ne_eqb b 39 other) (open_text more unquoted (i + 1))

-- bytes behind a quote close its text or they don't
text_cases : (bytes : List ℕ) → ((text rest : List ℕ) × Quoted bytes text rest) ⊎ Unquoted bytes
text_cases [] = inr Unquoted.end
text_cases (b ∷ []) = elim (cases_eq b 39) [
  | inl quote ↦ inl ([], [], Quoted.end quote tt)
  | inr other ↦ inr (Unquoted.byte other Unquoted.end)
]
text_cases (b ∷ c ∷ bytes) = elim (cases_eq b 39) [
  | inl quote ↦ elim (cases_eq c 39) [
    | inl second ↦ elim (text_cases bytes) [
      | inl found ↦ inl (39 ∷ found.0, found.1, Quoted.doubled quote second found.2)
      | inr unquoted ↦ inr (Unquoted.doubled quote second unquoted)
    ]
    | inr other ↦ inl ([], c ∷ bytes, Quoted.end quote (ne_eqb c 39 other))
  ]
  | inr other ↦ elim (text_cases (c ∷ bytes)) [
    | inl found ↦ inl (b ∷ found.0, found.1, Quoted.byte other found.2)
    | inr unquoted ↦ inr (Unquoted.byte other unquoted)
  ]
]

quoted_shorter : (bytes text rest : List ℕ) → Quoted bytes text rest → length rest < length bytes
quoted_shorter bytes text rest (Quoted.end h stops) = omega arith
quoted_shorter bytes text rest (Quoted.doubled {bytes = more} {text = inside} h g quoted) = omega (arith, quoted_shorter more inside rest quoted)
quoted_shorter bytes text rest (Quoted.byte {bytes = more} {text = inside} other quoted) = omega (arith, quoted_shorter more inside rest quoted)

-- FRONTS

at_blank : (b : ℕ) → IsTrue (is_blank b) → class_at b ≡ class.Blank
at_blank b h = rw h refl

at_letter : (b : ℕ) → IsTrue (is_letter b) → class_at b ≡ class.Letter
at_letter b h = let le = letter_range b h in rw (no_blank b (omega (arith, le)), h) refl

at_digit : (b : ℕ) → IsTrue (is_digit b) → class_at b ≡ class.Digit
at_digit b h = let range = digit_range b h in rw (no_blank b (omega (arith, range.0)), no_letter b (omega (arith, range.1)), h) refl

at_symbol : (b : ℕ) → IsTrue (is_symbol b) → class_at b ≡ class.Symbol
at_symbol b h = let other = symbol_alone b h in rw (other.0, other.1, other.2, other.3, h) refl

at_stray : (b : ℕ) → is_blank b ≡ false → begins_token b ≡ false → class_at b ≡ class.Unknown
at_stray b blank h = let other = stray_class b h in rw (blank, other.0, other.1, other.2, other.3) refl

abbrev cut_at : (ℕ → Bool) → (List ℕ → Kind) → List ℕ → Found
cut_at test kind bytes = (Some (kind (take (front_len test bytes) bytes)), drop (front_len test bytes) bytes)

-- the longest front is the one that is said
longest_is : (test : ℕ → Bool) (kind : List ℕ → Kind) (bytes front rest : List ℕ) → bytes ≡ front ++ rest → Passes test front → Stops test rest → cut_at test kind bytes ≡ (Some (kind front), rest)
longest_is test kind bytes front rest e passes stops =
    let longest = longest_by_len test bytes in
    let same = one_front test _ _ front rest longest.passes longest.stops passes stops (sym longest.whole ∙ e) in
    let first : (Some (kind (take (front_len test bytes) bytes)), drop (front_len test bytes) bytes) ≡ (Some (kind front), drop (front_len test bytes) bytes) = ap (λ (f : List ℕ). let o : Found = (Some (kind f), drop (front_len test bytes) bytes) in o) same.0 in
    first ∙ ap (λ (r : List ℕ). let o : Found = (Some (kind front), r) in o) same.1

letter_in_word : (b : ℕ) → IsTrue (is_letter b) → IsTrue (is_word_byte b)
letter_in_word b h = rw h refl

or_false : (a b : Bool) → (a || b) ≡ false → (a ≡ false) × (b ≡ false)
or_false true b h = absurd cc
or_false false b h = (refl, h)

alone_front : (b : ℕ) (rest : List ℕ) → StandsAlone b rest → symbol_front b rest ≡ (Some (Symbol (b ∷ [])), rest)
alone_front b [] h = refl
alone_front b (c ∷ rest) h = let parts = or_false (is_pair b c) ((b == 45) && (c == 45)) h in rw (parts.0, parts.1) refl

-- what stands at the front is found
pub front_only : (bytes : List ℕ) (kind : Option Kind) (rest : List ℕ) → tokens.Front bytes kind rest → front_at bytes ≡ (kind, rest)
front_only bytes kind rest (tokens.Front.blank {b = b} {rest = r} h) = ap (λ c. front_by c b r) (at_blank b h)
front_only bytes kind rest (tokens.Front.comment {b = b} {c = c} {bytes = more} inside r h g lacks e) =
    rw (h, g, e) (ap (λ (l : List ℕ). let o : Found = (None, l) in o) (after_line-feed inside r lacks))
front_only bytes kind rest (tokens.Front.open_comment {b = b} {c = c} {inside = more} h g lacks) =
    rw (h, g) (ap (λ (l : List ℕ). let o : Found = (None, l) in o) (after_line-open more lacks))
front_only bytes kind rest (tokens.Front.word {b = b} {bytes = behind} more r h passes stops e) =
    ap (λ c. front_by c b behind) (at_letter b h)
    ∙ longest_is is_word_byte (λ f. Word (map upper f)) (b ∷ behind) (b ∷ more) r (ap (λ l. b ∷ l) e) (letter_in_word b h, passes) stops
front_only bytes kind rest (tokens.Front.number {b = b} {bytes = behind} more r h passes stops e) =
    ap (λ c. front_by c b behind) (at_digit b h)
    ∙ longest_is is_digit (λ f. Number (kept_number f)) (b ∷ behind) (b ∷ more) r (ap (λ l. b ∷ l) e) (h, passes) stops
front_only bytes kind rest (tokens.Front.text {b = b} {bytes = behind} {inside = inside} {rest = r} h quoted) =
    let found = closed_text behind inside r quoted 0 in
    let place : closing_at None 0 behind ≡ Some found.0 = found.1 ∙ (let k : 0 + found.0 ≡ found.0 = omega arith in ap Some k) in
    let next : found.0 + 1 ≡ suc found.0 = omega arith in
    rw h (ap (text_before behind) place ∙ ap (λ (k : ℕ). let o : Found = (Some (Text (undoubled false (take found.0 behind))), drop k behind) in o) next
    ∙ sym (ap (λ (l : List ℕ). let o : Found = (Some (Text l), r) in o) found.2 ∙ ap (λ (l : List ℕ). let o : Found = (Some (Text (undoubled false (take found.0 behind))), l) in o) found.3))
front_only bytes kind rest (tokens.Front.open_text {b = b} {bytes = behind} h unquoted) = rw h (ap (text_before behind) (open_text behind unquoted 0))
front_only bytes kind rest (tokens.Front.symbol {b = b} {rest = r} h alone) = ap (λ c. front_by c b r) (at_symbol b h) ∙ alone_front b r alone
front_only bytes kind rest (tokens.Front.pair {b = b} {c = c} {rest = r} h) = ap (λ k. front_by k b (c ∷ r)) (at_symbol b (pair_symbol b c h)) ∙ rw h refl
front_only bytes kind rest (tokens.Front.stray {b = b} {rest = r} blank h) = ap (λ c. front_by c b r) (at_stray b blank h)

-- the longest front has the first byte that passes
first_byte : (test : ℕ → Bool) (b : ℕ) (behind front rest : List ℕ) → IsTrue (test b) → IsLongestFront test (b ∷ behind) front rest
    → (more : List ℕ) × (behind ≡ more ++ rest) × Passes test more
first_byte test b behind [] rest h longest =
    let stops : test b ≡ false = subst (Stops test) (sym longest.whole) longest.stops in
    absurd (cc)
first_byte test b behind (c ∷ more) rest h longest =
    let whole : b ∷ behind ≡ c ∷ (more ++ rest) = longest.whole in
    let head : b ≡ c = cc in
    (more, cc, longest.passes.1)

abbrev Begun : List ℕ → Type 0
Begun bytes = (kind : Option Kind) × (rest : List ℕ) × tokens.Front bytes kind rest

begun_symbol : (b : ℕ) (behind : List ℕ) → IsTrue (is_symbol b) → Begun (b ∷ behind)
begun_symbol b [] h = (_, _, tokens.Front.symbol {rest = []} h tt)
begun_symbol b (c ∷ bytes) h =
    elim (cases_Bool (is_pair b c)) [
      | inl pairs ↦ (_, _, tokens.Front.pair pairs)
      | inr unpaired ↦ elim (cases_Bool ((b == 45) && (c == 45))) [
        | inl dashes ↦ (
            let both = dashes_both b c dashes in
            elim (line_ends bytes) [
              | inl ended ↦ (_, _, tokens.Front.comment ended.0 (after_line bytes) both.0 both.1 ended.1 ended.2)
              | inr unended ↦ (_, _, tokens.Front.open_comment both.0 both.1 unended.0)
            ])
        | inr other ↦ (_, _, tokens.Front.symbol {rest = c ∷ bytes} h (rw unpaired other))
      ]
    ]

begun : (b : ℕ) (behind : List ℕ) → Begun (b ∷ behind)
begun b behind =
    elim (cases_Bool (is_blank b)) [
      | inl blank ↦ (_, _, tokens.Front.blank blank)
      | inr no_blank ↦ elim (cases_Bool (is_letter b)) [
        | inl letter ↦ (
            let longest = longest_by_len is_word_byte (b ∷ behind) in
            let first = first_byte is_word_byte b behind _ _ (letter_in_word b letter) longest in
            (_, _, tokens.Front.word first.0 _ letter first.2 longest.stops first.1))
        | inr no_letter ↦ elim (cases_Bool (is_digit b)) [
          | inl digit ↦ (
              let longest = longest_by_len is_digit (b ∷ behind) in
              let first = first_byte is_digit b behind _ _ digit longest in
              (_, _, tokens.Front.number first.0 _ digit first.2 longest.stops first.1))
          | inr no_digit ↦ elim (cases_Bool (b == 39)) [
            | inl quote ↦ elim (text_cases behind) [
              | inl found ↦ (_, _, tokens.Front.text (eqb-true b 39 quote) found.2)
              | inr unquoted ↦ (_, _, tokens.Front.open_text (eqb-true b 39 quote) unquoted)
            ]
            | inr no_quote ↦ elim (cases_Bool (is_symbol b)) [
              | inl symbol ↦ begun_symbol b behind symbol
              | inr no_symbol ↦ (_, _, tokens.Front.stray {rest = behind} no_blank (class_stray b no_letter no_digit no_quote no_symbol))
            ]
          ]
        ]
      ]
    ]

-- what is found stands at the front
pub front_is : (b : ℕ) (behind : List ℕ) → tokens.Front (b ∷ behind) (front_at (b ∷ behind)).0 (front_at (b ∷ behind)).1
front_is b behind =
    let found = begun b behind in
    subst (λ (f : Found). tokens.Front (b ∷ behind) f.0 f.1) (sym (front_only (b ∷ behind) found.0 found.1 found.2)) found.2

-- less is left behind a front
pub front_shorter : (bytes : List ℕ) (kind : Option Kind) (rest : List ℕ) → tokens.Front bytes kind rest → length rest < length bytes
front_shorter bytes kind rest (tokens.Front.blank h) = omega arith
front_shorter bytes kind rest (tokens.Front.comment inside r h g lacks e) = omega (arith, ap length e, length-append inside (10 ∷ r))
front_shorter bytes kind rest (tokens.Front.open_comment h g lacks) = omega arith
front_shorter bytes kind rest (tokens.Front.word more r h passes stops e) = omega (arith, ap length e, length-append more r)
front_shorter bytes kind rest (tokens.Front.number more r h passes stops e) = omega (arith, ap length e, length-append more r)
front_shorter bytes kind rest (tokens.Front.text {bytes = behind} {inside = inside} {rest = r} h quoted) = omega (arith, quoted_shorter behind inside r quoted)
front_shorter bytes kind rest (tokens.Front.open_text h unquoted) = omega arith
front_shorter bytes kind rest (tokens.Front.symbol h alone) = omega arith
front_shorter bytes kind rest (tokens.Front.pair h) = omega arith
front_shorter bytes kind rest (tokens.Front.stray blank h) = omega arith

-- TOKENS

tokens_within : (n : ℕ) (bytes : List ℕ) → length bytes ≤ n → (all : List Token) × Tokens bytes all
tokens_within n [] le = ([], tokens.Tokens.nothing)
tokens_within zero (b ∷ bytes) le = absurd (omega arith)
tokens_within (suc n) (b ∷ bytes) le =
    let found = begun b bytes in
    let less = front_shorter (b ∷ bytes) found.0 found.1 found.2 in
    let behind = tokens_within n found.1 (omega (arith, le, less)) in
    by_kind found.0 found.1 found.2 behind.0 behind.1
  where
    by_kind : (kind : Option Kind) (rest : List ℕ) → tokens.Front (b ∷ bytes) kind rest → (all : List Token) → Tokens rest all → (all : List Token) × Tokens (b ∷ bytes) all
    by_kind None rest front all t = (all, tokens.Tokens.gap front t)
    by_kind (Some kind) rest front all t = (record { kind = kind; left = length (b ∷ bytes) } ∷ all, tokens.Tokens.token front refl t)

-- bytes are tokens
pub tokens_of_bytes : (bytes : List ℕ) → (all : List Token) × Tokens bytes all
tokens_of_bytes bytes = tokens_within (length bytes) bytes (omega arith)

one_front_of : (bytes : List ℕ) (kind other : Option Kind) (rest behind : List ℕ) → tokens.Front bytes kind rest → tokens.Front bytes other behind → (kind ≡ other) × (rest ≡ behind)
one_front_of bytes kind other rest behind f g =
    let same = sym (front_only bytes kind rest f) ∙ front_only bytes other behind g in
    (ap (λ (o : Found). o.0) same, ap (λ (o : Found). o.1) same)

one_within : (n : ℕ) (bytes : List ℕ) (first second : List Token) → length bytes ≤ n → Tokens bytes first → Tokens bytes second → first ≡ second
one_within n bytes first second le tokens.Tokens.nothing tokens.Tokens.nothing = refl
one_within n bytes first second le tokens.Tokens.nothing (tokens.Tokens.gap f t) = absurd (let less = front_shorter [] _ _ f in omega (arith, less))
one_within n bytes first second le tokens.Tokens.nothing (tokens.Tokens.token f e t) = absurd (let less = front_shorter [] _ _ f in omega (arith, less))
one_within n bytes first second le (tokens.Tokens.gap f t) tokens.Tokens.nothing = absurd (let less = front_shorter [] _ _ f in omega (arith, less))
one_within n bytes first second le (tokens.Tokens.token f e t) tokens.Tokens.nothing = absurd (let less = front_shorter [] _ _ f in omega (arith, less))
one_within zero bytes first second le (tokens.Tokens.gap f t) u = absurd (let less = front_shorter bytes _ _ f in omega (arith, less, le))
one_within zero bytes first second le (tokens.Tokens.token f e t) u = absurd (let less = front_shorter bytes _ _ f in omega (arith, less, le))
one_within (suc n) bytes first second le (tokens.Tokens.gap {rest = r} f t) (tokens.Tokens.gap {rest = q} g u) =
    let same = one_front_of bytes None None r q f g in
    one_within n q first second (omega (arith, le, front_shorter bytes None q g)) (subst (λ l. Tokens l first) same.1 t) u
one_within (suc n) bytes first second le (tokens.Tokens.gap {rest = r} f t) (tokens.Tokens.token {rest = q} {kind = k} g e u) = absurd (let same = (one_front_of bytes None (Some k) r q f g).0 in cc)
one_within (suc n) bytes first second le (tokens.Tokens.token {rest = q} {kind = k} g e u) (tokens.Tokens.gap {rest = r} f t) = absurd (let same = (one_front_of bytes (Some k) None q r g f).0 in cc)
one_within (suc n) bytes first second le (tokens.Tokens.token {rest = r} {tokens = ts} {kind = k} {n = i} f e t) (tokens.Tokens.token {rest = q} {tokens = us} {kind = j} {n = m} g h u) =
    let same = one_front_of bytes (Some k) (Some j) r q f g in
    let kinds : k ≡ j = (let o = same.0 in cc) in
    let behind : ts ≡ us = one_within n q ts us (omega (arith, le, front_shorter bytes (Some j) q g)) (subst (λ l. Tokens l ts) same.1 t) u in
    let left : i ≡ m = e ∙ sym h in
    cc

-- bytes are one list of tokens
pub one_lexing : (bytes : List ℕ) (first second : List Token) → Tokens bytes first → Tokens bytes second → first ≡ second
one_lexing bytes first second t u = one_within (length bytes) bytes first second (omega arith) t u

-- THE CODE

-- what is found stands there, and then what is behind it
pub lexed_more : (bytes : List ℕ) (found : Found) → 1 ≤ length bytes → found ≡ front_at bytes → (more : List Token) → Tokens found.1 more → Tokens bytes (token_told found.0 (length bytes) ++ more)
lexed_more [] found some e more t = absurd (omega arith)
lexed_more (b ∷ behind) found some e more t = by_kind found.0 (subst (λ (f : Found). tokens.Front (b ∷ behind) f.0 f.1) (sym e) (front_is b behind))
  where
    by_kind : (kind : Option Kind) → tokens.Front (b ∷ behind) kind found.1 → Tokens (b ∷ behind) (token_told kind (length (b ∷ behind)) ++ more)
    by_kind None front = tokens.Tokens.gap front t
    by_kind (Some kind) front = tokens.Tokens.token front refl t

-- the loop goes on
pub lexed_step : (statement bytes : List ℕ) (found : Found) (before after : List Token) → 1 ≤ length bytes → found ≡ front_at bytes → after ≡ before ++ token_told found.0 (length bytes)
    → ((more : List Token) → Tokens bytes more → Tokens statement (before ++ more)) → (more : List Token) → Tokens found.1 more → Tokens statement (after ++ more)
lexed_step statement bytes found before after some e kept goes more t =
    let next = goes (token_told found.0 (length bytes) ++ more) (lexed_more bytes found some e more t) in
    subst (Tokens statement) (sym (ap (λ l. l ++ more) kept ∙ append_assoc before (token_told found.0 (length bytes)) more)) next

-- a blank is passed
pub lexed_blank : (statement bytes : List ℕ) (before : List Token) → 1 ≤ length bytes → is_blank (get_or bytes 0 0) ≡ true
    → ((more : List Token) → Tokens bytes more → Tokens statement (before ++ more)) → (more : List Token) → Tokens (tail bytes) more → Tokens statement (before ++ more)
lexed_blank statement [] before some blank goes more t = absurd (omega arith)
lexed_blank statement (b ∷ behind) before some blank goes more t =
    lexed_step statement (b ∷ behind) (None, behind) before before some (sym (ap (λ c. front_by c b behind) (at_blank b blank))) (sym (append-nil before)) goes more
    (subst (λ l. Tokens l more) (tail-cons b behind) t)

-- the loop ends
pub lexed_all : (statement bytes : List ℕ) (before : List Token) → length bytes < 1 → ((more : List Token) → Tokens bytes more → Tokens statement (before ++ more)) → Tokens statement before
lexed_all statement [] before none goes = subst (Tokens statement) (append-nil before) (goes [] tokens.Tokens.nothing)
lexed_all statement (b ∷ bytes) before none goes = absurd (omega arith)

-- less is left
pub lexed_shorter : (bytes : List ℕ) (found : Found) → 1 ≤ length bytes → found ≡ front_at bytes → length found.1 < length bytes
lexed_shorter [] found some e = absurd (omega arith)
lexed_shorter (b ∷ behind) found some e =
    let less = front_shorter (b ∷ behind) _ _ (front_is b behind) in omega (arith, less, ap (λ (f : Found). length f.1) e)

-- the digits at the front are the longest front of them
pub number_found : (bytes : List ℕ) (value : ℕ) (rest : List ℕ) → EndsNumber 0 bytes value rest → (Some (Number value), rest) ≡ cut_at is_digit (λ f. Number (kept_number f)) bytes
number_found bytes value rest ends =
    ap (λ (v : ℕ). let o : Found = (Some (Number v), rest) in o) ends.value
    ∙ sym (longest_is is_digit (λ f. Number (kept_number f)) bytes ends.digits rest ends.longest.whole ends.longest.passes ends.longest.stops)

-- PLACES OF QUOTES

-- a quote before this byte closes the text
pub closes_here : (quote : Option ℕ) (i : ℕ) (bytes : List ℕ) (whole : Option ℕ) → i < length bytes → closes_before quote (get_or bytes i 0) ≡ true → closing_at quote i (drop i bytes) ≡ whole → quote ≡ whole
closes_here quote i bytes whole lt stops h =
    sym (at_drop_more (closing_at quote i) bytes i 0 lt ∙ ap (λ t. cond t quote (closing_at (next_quote quote i (get_or bytes i 0)) (i + 1) (drop (i + 1) bytes))) stops) ∙ h

-- the text goes on
pub closes_later : (quote : Option ℕ) (i : ℕ) (bytes : List ℕ) (whole : Option ℕ) → i < length bytes → closes_before quote (get_or bytes i 0) ≡ false → closing_at quote i (drop i bytes) ≡ whole
    → closing_at (next_quote quote i (get_or bytes i 0)) (i + 1) (drop (i + 1) bytes) ≡ whole
closes_later quote i bytes whole lt goes h =
    sym (at_drop_more (closing_at quote i) bytes i 0 lt ∙ ap (λ t. cond t quote (closing_at (next_quote quote i (get_or bytes i 0)) (i + 1) (drop (i + 1) bytes))) goes) ∙ h

-- the bytes end
pub closes_at_end : (quote : Option ℕ) (i : ℕ) (bytes : List ℕ) (whole : Option ℕ) → length bytes ≤ i → closing_at quote i (drop i bytes) ≡ whole → quote ≡ whole
closes_at_end quote i bytes whole le h = sym (ap (closing_at quote i) (drop_all i bytes le)) ∙ h

pub next_within : (quote : Option ℕ) (i n b : ℕ) → i < n → IfSome (next_quote quote i b) (λ q. q < n)
next_within (Some place) i n b lt = tt
next_within None i n b lt = by_test (b == 39)
  where
    by_test : (t : Bool) → IfSome (cond t (Some i) None) (λ q. q < n)
    by_test true = lt
    by_test false = tt

-- what a digit begins is put last
pub digit_put : (bytes : List ℕ) (value : ℕ) (rest : List ℕ) (old new : List Lexed) (behind : List ℕ) → 1 ≤ length bytes → class_at (get_or bytes 0 0) ≡ class.Digit → EndsNumber 0 bytes value rest
    → PutsFront old new (length bytes) (Some (Number value), rest) behind → PutsFront old new (length bytes) (front_at bytes) behind
digit_put [] value rest old new behind some at ends puts = absurd (omega arith)
digit_put (b ∷ more) value rest old new behind some at ends puts =
    subst (λ (f : Found). PutsFront old new (length (b ∷ more)) f behind) (number_found (b ∷ more) value rest ends ∙ sym (ap (λ c. front_by c b more) at)) puts
