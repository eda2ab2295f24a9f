-- What a statement may want of a token (docs/GRAMMAR.md, "Tokens").
use Rattle.std.specs.Prelude.{ℕ, List, [], ◌∷◌, Bool, true, false, not, codes}
use Rattle.std.specs.List.{list_any}
use Rattle.std.specs.Str.{bytes_eq}
use Rattle.mdc_ast.specs.declared.name.Name.{Name}
use Rattle.mdc_ast.specs.Tokens.{Kind, Word, Number, Text, Symbol, Stray, Token}

-- the words that are no names
abbrev pub reserved : List (List ℕ)
reserved =
    codes "AND" ∷ codes "AS" ∷ codes "BETWEEN" ∷ codes "BY" ∷ codes "CREATE" ∷ codes "DEFAULT" ∷ codes "DELETE"
    ∷ codes "DROP" ∷ codes "FETCH" ∷ codes "FROM" ∷ codes "GROUP" ∷ codes "IN" ∷ codes "INSERT" ∷ codes "INTO"
    ∷ codes "IS" ∷ codes "NOT" ∷ codes "NULL" ∷ codes "ON" ∷ codes "OR" ∷ codes "ORDER" ∷ codes "ORGANIZE"
    ∷ codes "SELECT" ∷ codes "SET" ∷ codes "UPDATE" ∷ codes "VALUES" ∷ codes "WHERE" ∷ []

-- the word may name a table, a column or an index, for it isn't reserved
abbrev pub is_name : List ℕ → Bool
is_name word = not (list_any (bytes_eq word) reserved)

-- a class of tokens: one word, one symbol, all names, all numbers, all texts
pub data Class : Type 0 where
  W : List ℕ → Class
  S : List ℕ → Class
  AnyName : Class
  AnyNumber : Class
  AnyText : Class

-- a token of that kind is of the class
abbrev pub fits : Class → Kind → Bool
fits (W word) (Word other) = bytes_eq other word
fits (W word) (Number n) = false
fits (W word) (Text text) = false
fits (W word) (Symbol bytes) = false
fits (W word) Stray = false
fits (S symbol) (Word other) = false
fits (S symbol) (Number n) = false
fits (S symbol) (Text text) = false
fits (S symbol) (Symbol bytes) = bytes_eq bytes symbol
fits (S symbol) Stray = false
fits AnyName (Word other) = is_name other
fits AnyName (Number n) = false
fits AnyName (Text text) = false
fits AnyName (Symbol bytes) = false
fits AnyName Stray = false
fits AnyNumber (Word other) = false
fits AnyNumber (Number n) = true
fits AnyNumber (Text text) = false
fits AnyNumber (Symbol bytes) = false
fits AnyNumber Stray = false
fits AnyText (Word other) = false
fits AnyText (Number n) = false
fits AnyText (Text text) = true
fits AnyText (Symbol bytes) = false
fits AnyText Stray = false

-- `(`, which each production closes again
abbrev pub opening : Class
opening = S (codes "(")

-- `)`, with which each production closes what it opened
abbrev pub closing : Class
closing = S (codes ")")

-- `,` between two of a list
abbrev pub comma : Class
comma = S (codes ",")

-- what a token of a class says

-- a word's bytes, in upper case; nothing else has any
abbrev pub word_in : Kind → List ℕ
word_in (Word word) = word
word_in (Number n) = []
word_in (Text text) = []
word_in (Symbol bytes) = []
word_in Stray = []

-- a number, which is 2^64 - 1 at most; anything else has 0
abbrev pub kind_number : Kind → ℕ
kind_number (Word word) = 0
kind_number (Number n) = n
kind_number (Text text) = 0
kind_number (Symbol bytes) = 0
kind_number Stray = 0

-- a text without its quotes; nothing else has one
abbrev pub text_of : Kind → List ℕ
text_of (Word word) = []
text_of (Number n) = []
text_of (Text text) = text
text_of (Symbol bytes) = []
text_of Stray = []

-- the name that a word is
abbrev pub name_in : Token → Name
name_in t = record { 0 = word_in t.kind }

-- the number that a token of digits says
abbrev pub number_in : Token → ℕ
number_in t = kind_number t.kind

-- the bytes that a text says
abbrev pub text_in : Token → List ℕ
text_in t = text_of t.kind
