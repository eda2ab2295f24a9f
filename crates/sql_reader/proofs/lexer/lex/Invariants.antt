use Rattle.std.proofs.Common.{List, ◌++◌, length}
use Rattle.mdc_ast.specs.Tokens.{Token, Tokens}
use Rattle.sql_reader.specs.Token.{tokens_of}
use Rattle.sql_reader.proofs.lexer.lex.Given as goal

-- what the rest is, the statement goes on to be
abbrev pub invariant-loop-rest : goal.invariant-loop-rest
invariant-loop-rest l = (more : List Token) → Tokens l.rest more → Tokens l.fn.statement (tokens_of l.tokens.items ++ more)

abbrev pub decreases-loop-rest : goal.decreases-loop-rest
decreases-loop-rest l = length l.rest
