-- What is told of tokens.
use Rattle.std.specs.Prelude.{◌≡◌, suc, ℕ, List, []}
use Rattle.mdc_ast.specs.Tokens.{Token}
use Rattle.mdc_ast.specs.Grammar.{Spells, SpellsIn}
use Rattle.mdc_ast.specs.Places.{FailsAt, TooMuchAt}
use Rattle.mdc_ast.specs.Reading.{bytes_left}
use Rattle.sql_reader.specs.declared.parser.Parsed.{Parsed}
use Rattle.sql_reader.specs.declared.parser.Parsed.TheVariants.{Spelled, Fails, TooDeep}

-- A statement within the limit. Else the first token with which no statement goes on, or one that nests too deep.
abbrev pub IsParsed : ℕ → List Token → Parsed → Type 0
IsParsed limit tokens (Spelled stmt) = SpellsIn limit tokens stmt []
IsParsed limit tokens (Fails left) = (rest : List Token) × FailsAt (SpellsIn limit) Spells tokens rest × (bytes_left rest ≡ left)
IsParsed limit tokens TooDeep = (rest : List Token) × TooMuchAt (SpellsIn limit) (SpellsIn (suc limit)) tokens rest
