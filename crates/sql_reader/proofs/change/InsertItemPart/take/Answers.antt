use Rattle.sql_reader.specs.Token.{tokens_of}
use Rattle.sql_reader.proofs.NumberLemmas.{value_rule-number}
use Rattle.sql_reader.proofs.change.InsertItemPart.take.Goals as goal

pub returns-in-Some : goal.returns-in-Some
returns-in-Some c = value_rule-number (tokens_of c.args.cursor.now.tokens.now) c.in-Some.size (tokens_of c.takes_number.new.self.tokens.now) c.in-Some.ensures.found
