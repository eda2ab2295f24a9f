-- How the bytes of a statement are tokens (docs/GRAMMAR.md, "Tokens").
use Rattle.std.specs.Prelude.{◌≡◌, ◌≢◌, ℕ, ◌+◌, ◌-◌, ◌*◌, min, map, List, [], ◌∷◌, ◌++◌, length, Bool, true, false, not, ◌==◌, ◌||◌, ◌&&◌, nat_le, if◌then◌else◌, IsTrue, Option, Some, None}
use Rattle.mdc_ast.specs.Cutting.{Lacks, Passes, BeginsNoComment, is_blank}
use Rattle.mdc_values.specs.Calendar.{is_digit}

-- What a token is: a word folded to upper case, a number, which stands as 2^64 - 1 where it is greater, a text without
-- its quotes, in which two quotes stand as one, or the bytes of a symbol. A byte that begins none of them is astray, and
-- so is a text that isn't closed.
pub data Kind : Type 0 where
  Word : List ℕ → Kind
  Number : ℕ → Kind
  Text : List ℕ → Kind
  Symbol : List ℕ → Kind
  Stray : Kind

-- a token, and how many bytes of the statement there are from its first one on
pub record Token : Type 0 where
  pub kind : Kind
  pub left : ℕ

-- a to z
abbrev pub is_lower : ℕ → Bool
is_lower b = nat_le 97 b && nat_le b 122

-- a to z, or A to Z
abbrev pub is_letter : ℕ → Bool
is_letter b = is_lower b || (nat_le 65 b && nat_le b 90)

-- a letter, a digit or `_`
abbrev pub is_word_byte : ℕ → Bool
is_word_byte b = is_letter b || is_digit b || (b == 95)

-- ( ) * + , - / < = >
abbrev pub is_symbol : ℕ → Bool
is_symbol b = (nat_le 40 b && nat_le b 45) || (b == 47) || (nat_le 60 b && nat_le b 62)

-- <> <= >=
abbrev pub is_pair : ℕ → ℕ → Bool
is_pair b c = ((b == 60) && ((c == 61) || (c == 62))) || ((b == 62) && (c == 61))

-- a byte that a symbol of two bytes or a comment doesn't begin with, where these bytes follow
abbrev pub StandsAlone : ℕ → List ℕ → Type 0
StandsAlone b [] = Unit {0}
StandsAlone b (c ∷ bytes) = (is_pair b c || ((b == 45) && (c == 45))) ≡ false

-- a byte with which a word, a number, a symbol or a text begins
abbrev pub begins_token : ℕ → Bool
begins_token b = is_letter b || is_digit b || is_symbol b || (b == 39)

-- a small letter as a capital one, and any other byte as it is
abbrev pub upper : ℕ → ℕ
upper b = if is_lower b then b - 32 else b

-- the number that digits write behind one that stands before them
abbrev pub number_behind : ℕ → List ℕ → ℕ
number_behind n [] = n
number_behind n (digit ∷ digits) = number_behind (10 * n + (digit - 48)) digits

-- the number that a token keeps
abbrev pub kept_number : List ℕ → ℕ
kept_number digits = min (number_behind 0 digits) 18446744073709551615

-- the first byte, if there is one, doesn't pass
abbrev pub Stops : (ℕ → Bool) → List ℕ → Type 0
Stops test [] = Unit {0}
Stops test (b ∷ bytes) = test b ≡ false

-- the bytes behind an opening quote, the text that they say, and the bytes behind its closing quote
pub data Quoted : List ℕ → List ℕ → List ℕ → Type 0 where
  end : {quote : ℕ} {rest : List ℕ} → quote ≡ 39 → Stops (λ b. b == 39) rest → Quoted (quote ∷ rest) [] rest
  doubled : {quote other : ℕ} {bytes text rest : List ℕ} → quote ≡ 39 → other ≡ 39 → Quoted bytes text rest → Quoted (quote ∷ other ∷ bytes) (39 ∷ text) rest
  byte : {b : ℕ} {bytes text rest : List ℕ} → b ≢ 39 → Quoted bytes text rest → Quoted (b ∷ bytes) (b ∷ text) rest

-- the bytes behind an opening quote have no closing one
pub data Unquoted : List ℕ → Type 0 where
  end : Unquoted []
  doubled : {quote other : ℕ} {bytes : List ℕ} → quote ≡ 39 → other ≡ 39 → Unquoted bytes → Unquoted (quote ∷ other ∷ bytes)
  byte : {b : ℕ} {bytes : List ℕ} → b ≢ 39 → Unquoted bytes → Unquoted (b ∷ bytes)

-- What bytes begin with, and the bytes behind it: a token, or a blank or a comment, which say nothing. Words and numbers
-- are as long as they can be, and the longest symbol is taken.
pub data Front : List ℕ → Option Kind → List ℕ → Type 0 where
  blank : {b : ℕ} {rest : List ℕ} → IsTrue (is_blank b) → Front (b ∷ rest) None rest
  comment : {b c : ℕ} {bytes : List ℕ} (inside rest : List ℕ) → b ≡ 45 → c ≡ 45 → Lacks 10 inside → bytes ≡ inside ++ 10 ∷ rest → Front (b ∷ c ∷ bytes) None rest
  open_comment : {b c : ℕ} {inside : List ℕ} → b ≡ 45 → c ≡ 45 → Lacks 10 inside → Front (b ∷ c ∷ inside) None []
  word : {b : ℕ} {bytes : List ℕ} (more rest : List ℕ) → IsTrue (is_letter b) → Passes is_word_byte more → Stops is_word_byte rest → bytes ≡ more ++ rest → Front (b ∷ bytes) (Some (Word (map upper (b ∷ more)))) rest
  number : {b : ℕ} {bytes : List ℕ} (more rest : List ℕ) → IsTrue (is_digit b) → Passes is_digit more → Stops is_digit rest → bytes ≡ more ++ rest → Front (b ∷ bytes) (Some (Number (kept_number (b ∷ more)))) rest
  text : {b : ℕ} {bytes inside rest : List ℕ} → b ≡ 39 → Quoted bytes inside rest → Front (b ∷ bytes) (Some (Text inside)) rest
  open_text : {b : ℕ} {bytes : List ℕ} → b ≡ 39 → Unquoted bytes → Front (b ∷ bytes) (Some Stray) []
  symbol : {b : ℕ} {rest : List ℕ} → IsTrue (is_symbol b) → StandsAlone b rest → Front (b ∷ rest) (Some (Symbol (b ∷ []))) rest
  pair : {b c : ℕ} {rest : List ℕ} → IsTrue (is_pair b c) → Front (b ∷ c ∷ rest) (Some (Symbol (b ∷ c ∷ []))) rest
  stray : {b : ℕ} {rest : List ℕ} → is_blank b ≡ false → begins_token b ≡ false → Front (b ∷ rest) (Some Stray) rest

-- the bytes of a statement are these tokens
pub data Tokens : List ℕ → List Token → Type 0 where
  nothing : Tokens [] []
  gap : {bytes rest : List ℕ} {tokens : List Token} → Front bytes None rest → Tokens rest tokens → Tokens bytes tokens
  token : {bytes rest : List ℕ} {tokens : List Token} {kind : Kind} {n : ℕ} → Front bytes (Some kind) rest → n ≡ length bytes → Tokens rest tokens → Tokens bytes (record { kind = kind; left = n } ∷ tokens)

-- the bytes that a statement may have outside comments: blanks, and those from 33 to 126
abbrev pub is_plain : ℕ → Bool
is_plain b = is_blank b || (nat_le 33 b && nat_le b 126)

-- The bytes from the first that a statement may not have outside comments, if there is one. The flag says whether a text
-- is open, in which nothing begins a comment.
pub data FirstStrange : Bool → List ℕ → Option (List ℕ) → Type 0 where
  nothing : {in_text : Bool} → FirstStrange in_text [] None
  strange : {in_text : Bool} {b : ℕ} {rest : List ℕ} → is_plain b ≡ false → FirstStrange in_text (b ∷ rest) (Some (b ∷ rest))
  quote : {in_text : Bool} {b : ℕ} {rest : List ℕ} {found : Option (List ℕ)} → b ≡ 39 → FirstStrange (not in_text) rest found → FirstStrange in_text (b ∷ rest) found
  inside : {b : ℕ} {rest : List ℕ} {found : Option (List ℕ)} → IsTrue (is_plain b) → b ≢ 39 → FirstStrange true rest found → FirstStrange true (b ∷ rest) found
  outside : {b : ℕ} {rest : List ℕ} {found : Option (List ℕ)} → IsTrue (is_plain b) → b ≢ 39 → BeginsNoComment b rest → FirstStrange false rest found → FirstStrange false (b ∷ rest) found
  comment : {b c : ℕ} {bytes : List ℕ} {found : Option (List ℕ)} (inside rest : List ℕ) → b ≡ 45 → c ≡ 45 → Lacks 10 inside → bytes ≡ inside ++ 10 ∷ rest → FirstStrange false rest found → FirstStrange false (b ∷ c ∷ bytes) found
  open_comment : {b c : ℕ} {inside : List ℕ} → b ≡ 45 → c ≡ 45 → Lacks 10 inside → FirstStrange false (b ∷ c ∷ inside) None
