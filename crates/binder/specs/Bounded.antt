-- What binding needs of a CREATE TABLE.
use Rattle.std.specs.Prelude.{Bool, true, nat_le}
use Rattle.mdc_ast.specs.declared.statement.TypeText.{TypeText}
use Rattle.mdc_ast.specs.declared.statement.TypeText.TheVariants as type

-- CHAR(n) has n up to 254
abbrev pub is_short_char : TypeText → Bool
is_short_char (type.Char n) = nat_le n 254
is_short_char type.Integer = true
is_short_char type.Bigint = true
is_short_char type.Date = true
