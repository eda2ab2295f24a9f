use Rattle.sql_reader.specs.Token.{tokens_of}
use Rattle.sql_reader.proofs.Answers.{is_spelled, is_longer}
use Rattle.sql_reader.proofs.parser.parse.Goals as goal

pub returns-then-is_empty : goal.returns-then-is_empty
returns-then-is_empty c = is_spelled c.args.limit (tokens_of c.args.tokens.now) c.statement.new.cursor.tokens.now c.in-Ok.stmt c.is_empty.result c.in-Ok.ensures c.is_empty.ensures c.if-is_empty.true

pub returns-else-is_empty : goal.returns-else-is_empty
returns-else-is_empty c = is_longer c.args.limit (tokens_of c.args.tokens.now) c.statement.new.cursor.tokens.now c.in-Ok.stmt c.left.result c.is_empty.result c.in-Ok.ensures c.is_empty.ensures c.if-is_empty.false c.left.ensures
