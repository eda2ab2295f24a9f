-- What is told of a statement's tokens, as an item.
use Rattle.std.specs.Prelude.{ℕ, List}
use Rattle.mdc_ast.specs.Reading.{Item, Statement, Refused, syntax_at, too_deep, place_of}
use Rattle.sql_reader.specs.declared.parser.Parsed.{Parsed}
use Rattle.sql_reader.specs.declared.parser.Parsed.TheVariants.{Spelled, Fails, TooDeep}

-- the statement, or refusal 10 with the place of the token that fails, or 26 where a predicate nests too deep
abbrev pub item_told : List ℕ → Parsed → Item
item_told statement (Spelled stmt) = Statement stmt
item_told statement (Fails left) = Refused (syntax_at (place_of statement left))
item_told statement TooDeep = Refused too_deep
