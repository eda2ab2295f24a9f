-- What bytes begin with, as it is found from left to right.
use Rattle.std.specs.Prelude.{◌≡◌, ℕ, ◌+◌, ◌++◌, List, [], ◌∷◌, length, map, take, drop, Bool, false, not, ◌==◌, ◌&&◌, if◌then◌else◌, Option, Some, None, position, unwrap_or}
use Rattle.mdc_ast.specs.Cutting.{is_blank}
use Rattle.mdc_ast.specs.Tokens.{Kind, Word, Number, Text, Symbol, Stray, Token, is_letter, is_symbol, is_pair, is_word_byte, upper, kept_number}
use Rattle.mdc_values.specs.Calendar.{is_digit}
use Rattle.sql_reader.specs.Token.{bytes_of, tokens_of, undoubled}
use Rattle.sql_reader.specs.declared.token.Symbol.{Symbol as Mark}
use Rattle.sql_reader.specs.declared.token.Token.{Token as Lexed}
use Rattle.sql_reader.specs.declared.lexer.Class.{Class}
use Rattle.sql_reader.specs.declared.lexer.Class.TheVariants as class

-- what stands at the front, none for a blank or a comment, and the bytes behind it
abbrev pub Found : Type 0
Found = Option Kind × List ℕ

-- the token of this kind from the byte on that has so many from it on, if there is one
abbrev pub token_told : Option Kind → ℕ → List Token
token_told None left = []
token_told (Some kind) left = record { kind = kind; left = left } ∷ []

-- what was found in bytes, of which there are so many, is put last, and the rest is what is behind it
abbrev pub PutsFront : List Lexed → List Lexed → ℕ → Found → List ℕ → Type 0
PutsFront old new left found rest = (tokens_of new ≡ tokens_of old ++ token_told found.0 left) × (rest ≡ found.1)

-- the bytes of the symbol that was found, none where none was
abbrev pub shown_symbol : Option Mark → Option (List ℕ)
shown_symbol None = None
shown_symbol (Some symbol) = Some (bytes_of symbol)

-- how many bytes pass the test from the first byte on
abbrev pub front_len : (ℕ → Bool) → List ℕ → ℕ
front_len test bytes = unwrap_or (position (λ b. not (test b)) bytes) (length bytes)

-- what is behind the next line feed
abbrev pub after_line : List ℕ → List ℕ
after_line [] = []
after_line (b ∷ bytes) = if b == 10 then bytes else after_line bytes

-- a quote that stands before this byte closes a text, for the byte isn't a second one
abbrev pub closes_before : Option ℕ → ℕ → Bool
closes_before None b = false
closes_before (Some place) b = not (b == 39)

-- the place of a quote behind which a second one may stand, behind this byte
abbrev pub next_quote : Option ℕ → ℕ → ℕ → Option ℕ
next_quote None i b = if b == 39 then Some i else None
next_quote (Some place) i b = None

-- The place of the quote that closes a text, counted on from i. The option is the place of a quote that stands before,
-- which closes the text where no second one follows.
abbrev pub closing_at : Option ℕ → ℕ → List ℕ → Option ℕ
closing_at quote i [] = quote
closing_at quote i (b ∷ bytes) = if closes_before quote b then quote else closing_at (next_quote quote i b) (i + 1) bytes

-- what a quote and the bytes behind it begin with, where its text closes there
abbrev pub text_before : List ℕ → Option ℕ → Found
text_before bytes None = (Some Stray, [])
text_before bytes (Some n) = (Some (Text (undoubled false (take n bytes))), drop (n + 1) bytes)

-- what the byte of a symbol and the bytes behind it begin with
abbrev pub symbol_front : ℕ → List ℕ → Found
symbol_front b [] = (Some (Symbol (b ∷ [])), [])
symbol_front b (c ∷ rest) =
    if is_pair b c then (Some (Symbol (b ∷ c ∷ [])), rest)
    else (if (b == 45) && (c == 45) then (None, after_line rest) else (Some (Symbol (b ∷ [])), c ∷ rest))

-- what a byte can begin
abbrev pub class_at : ℕ → Class
class_at b =
    if is_blank b then class.Blank
    else (if is_letter b then class.Letter
    else (if is_digit b then class.Digit
    else (if b == 39 then class.Quote
    else (if is_symbol b then class.Symbol else class.Unknown))))

-- the class that a mark of the table stands for
abbrev pub class_marked : ℕ → Class
class_marked mark =
    if mark == 48 then class.Letter
    else (if mark == 49 then class.Digit
    else (if mark == 51 then class.Symbol
    else (if mark == 52 then class.Quote
    else (if mark == 53 then class.Blank else class.Unknown))))

-- what a byte of this class and the bytes behind it begin with
abbrev pub front_by : Class → ℕ → List ℕ → Found
front_by class.Blank b behind = (None, behind)
front_by class.Letter b behind = (Some (Word (map upper (take (front_len is_word_byte (b ∷ behind)) (b ∷ behind)))), drop (front_len is_word_byte (b ∷ behind)) (b ∷ behind))
front_by class.Digit b behind = (Some (Number (kept_number (take (front_len is_digit (b ∷ behind)) (b ∷ behind)))), drop (front_len is_digit (b ∷ behind)) (b ∷ behind))
front_by class.Quote b behind = text_before behind (closing_at None 0 behind)
front_by class.Symbol b behind = symbol_front b behind
front_by class.Unknown b behind = (Some Stray, behind)

-- what bytes begin with
abbrev pub front_at : List ℕ → Found
front_at [] = (None, [])
front_at (b ∷ behind) = front_by (class_at b) b behind
