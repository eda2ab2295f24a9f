use Rattle.std.proofs.Common.{sym, arith}
use Rattle.sql_reader.proofs.Lexing.{digit_put}
use Rattle.sql_reader.proofs.lexer.take.Goals as goal

pub returns-in-Digit : goal.returns-in-Digit
returns-in-Digit c = digit_put c.args.bytes.now c.number_of-number.result.0 c.number_of-number.result.1.now _ _ _ (omega (arith, c.requires.some)) (sym c.in-Digit.ensures) c.number_of-number.ensures c.put-in-Digit.ensures
