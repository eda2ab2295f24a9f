use Rattle.std.proofs.Common.{sym, ◌∙◌}
use Rattle.sql_reader.specs.Token.{tokens_of}
use Rattle.sql_reader.proofs.PlainTokenLemmas.{plain_lexed, plain_tokens}
use Rattle.sql_reader.proofs.strange.first_strange.Goals as goal

pub returns-then-are_plain : goal.returns-then-are_plain
returns-then-are_plain c = plain_tokens c.args.statement.now (tokens_of c.args.tokens.now) c.requires (sym (plain_lexed c.args.tokens.now) ∙ sym c.are_plain.ensures ∙ c.if-are_plain.true)
