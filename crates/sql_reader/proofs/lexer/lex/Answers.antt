use Rattle.std.proofs.Common.{◌<◌, ◌++◌, length, refl, sym, ap, subst, ◌∙◌}
use Rattle.mdc_ast.specs.Tokens.{Tokens}
use Rattle.sql_reader.specs.Front.{front_at, token_told}
use Rattle.sql_reader.specs.Token.{tokens_of}
use Rattle.sql_reader.proofs.Lexing.{lexed_all, lexed_blank, lexed_shorter, lexed_step}
use Rattle.sql_reader.proofs.lexer.lex.Goals as goal

pub loop-rest-smaller : goal.loop-rest-smaller
loop-rest-smaller c =
    subst (λ l. length l < length c.loop-rest.rest.now) (sym c.take-rest.ensures.1) (lexed_shorter c.loop-rest.rest.now (front_at c.loop-rest.rest.now) c.in-len1-up.len_at_least refl)

pub loop-rest-preserved-then-is_gap : goal.loop-rest-preserved-then-is_gap
loop-rest-preserved-then-is_gap c = lexed_blank c.args.statement.now c.loop-rest.rest.now (tokens_of c.loop-rest.tokens.items) c.in-len1-up.len_at_least (sym c.is_gap.ensures ∙ c.if-is_gap.true) c.loop-rest.invariant

pub loop-rest-preserved : goal.loop-rest-preserved
loop-rest-preserved c = λ more t.
    lexed_step c.args.statement.now c.loop-rest.rest.now (front_at c.loop-rest.rest.now) (tokens_of c.loop-rest.tokens.items) (tokens_of c.take-rest.new.tokens.items) c.in-len1-up.len_at_least refl
    (c.take-rest.ensures.0 ∙ ap (λ l. tokens_of l ++ token_told (front_at c.loop-rest.rest.now).0 (length c.loop-rest.rest.now)) c.reserve.ensures.items)
    c.loop-rest.invariant more (subst (λ l. Tokens l more) c.take-rest.ensures.1 t)

pub returns : goal.returns
returns c = lexed_all c.args.statement.now c.loop-rest.rest.now (tokens_of c.loop-rest.tokens.items) c.in_default.len_below c.loop-rest.invariant
