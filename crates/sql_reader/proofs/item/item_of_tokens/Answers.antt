use Rattle.sql_reader.specs.Token.{tokens_of}
use Rattle.sql_reader.proofs.Telling.{parsed_item}
use Rattle.sql_reader.proofs.item.item_of_tokens.Goals as goal

pub returns : goal.returns
returns c = parsed_item c.args.statement.now (tokens_of c.args.tokens.now) c.in_ok-parsed.parsed _ c.requires.few c.requires.plain c.requires.lexed c.in_ok-parsed.ensures c.told.ensures
