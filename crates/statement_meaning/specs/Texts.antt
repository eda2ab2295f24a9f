-- The texts of replies and refusals (docs/SQL.md, "Replies").
use Rattle.std.specs.Prelude.{ℕ, List, ◌++◌, flat_map, codes}
use Rattle.std.specs.Fmt.{decimal}
use Rattle.mdc_ast.specs.declared.reply.Outcome.{Outcome}
use Rattle.mdc_ast.specs.declared.reply.Outcome.TheVariants as outcome
use Rattle.mdc_ast.specs.declared.reply.Reply.{Reply}
use Rattle.mdc_ast.specs.declared.reply.Reply.TheVariants as reply
use Rattle.statement_meaning.specs.Cause.{refusal_line}

-- the text of a reply
abbrev pub reply_text : Reply → List ℕ
reply_text reply.Done = codes "OK\n"
reply_text (reply.Inserted rows) = decimal rows ++ codes " ROWS INSERTED\n"
reply_text (reply.Updated rows) = decimal rows ++ codes " ROWS UPDATED\n"
reply_text (reply.Deleted rows) = decimal rows ++ codes " ROWS DELETED\n"
reply_text (reply.Lines lines) = lines

-- the text of an outcome
abbrev pub outcome_text : Outcome → List ℕ
outcome_text (outcome.Done reply) = reply_text reply
outcome_text (outcome.Refused refusal) = refusal_line refusal

-- the texts of outcomes, one behind the other
abbrev pub texts : List Outcome → List ℕ
texts outcomes = flat_map outcome_text outcomes
