-- Tokens as the grammar sees them.
use Rattle.std.specs.Prelude.{ℕ, List, [], ◌∷◌, Bool, true, false, ◌==◌, map, codes}
use Rattle.mdc_ast.specs.Tokens as ast
use Rattle.mdc_ast.specs.Tokens.{upper}
use Rattle.sql_reader.specs.declared.token.Symbol.{Symbol}
use Rattle.sql_reader.specs.declared.token.Symbol.TheVariants.{Opening, Closing, Comma, Star, Plus, Minus, Slash, Equal, Unequal, Less, AtMost, Greater, AtLeast}
use Rattle.sql_reader.specs.declared.token.Kind.{Kind}
use Rattle.sql_reader.specs.declared.token.Kind.TheVariants as kind
use Rattle.sql_reader.specs.declared.token.Token.{Token}

-- how a symbol is written
abbrev pub bytes_of : Symbol → List ℕ
bytes_of Opening = codes "("
bytes_of Closing = codes ")"
bytes_of Comma = codes ","
bytes_of Star = codes "*"
bytes_of Plus = codes "+"
bytes_of Minus = codes "-"
bytes_of Slash = codes "/"
bytes_of Equal = codes "="
bytes_of Unequal = codes "<>"
bytes_of Less = codes "<"
bytes_of AtMost = codes "<="
bytes_of Greater = codes ">"
bytes_of AtLeast = codes ">="

-- the bytes of a text with one quote for two; the flag says that a quote stands before, whose second is left out
abbrev pub undoubled : Bool → List ℕ → List ℕ
undoubled behind_quote [] = []
undoubled true (b ∷ bytes) = undoubled false bytes
undoubled false (b ∷ bytes) = b ∷ undoubled (b == 39) bytes

-- a word is folded to upper case, a text has one quote for two, and a symbol is its bytes
abbrev pub grammar_kind : Kind → ast.Kind
grammar_kind (kind.Word word) = ast.Word (map upper word.now)
grammar_kind (kind.Number number) = ast.Number number
grammar_kind (kind.Text text) = ast.Text (undoubled false text.now)
grammar_kind (kind.Symbol symbol) = ast.Symbol (bytes_of symbol)
grammar_kind kind.Stray = ast.Stray

-- the kind that the grammar knows, at the same byte of the statement
abbrev pub token_of : Token → ast.Token
token_of token = record { kind = grammar_kind token.kind; left = token.left }

-- token by token, none left out
abbrev pub tokens_of : List Token → List ast.Token
tokens_of tokens = map token_of tokens
