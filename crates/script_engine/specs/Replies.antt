-- What a statement that is done is answered, whatever the pages are.
use Rattle.std.specs.Prelude.{◌≡◌, ℕ, List, length}
use Rattle.mdc_ast.specs.declared.bound.Bound.{Bound}
use Rattle.mdc_ast.specs.declared.bound.Bound.TheVariants as bound
use Rattle.mdc_ast.specs.declared.reply.Outcome.{Outcome}
use Rattle.mdc_ast.specs.declared.reply.Outcome.TheVariants as said
use Rattle.mdc_ast.specs.declared.reply.Reply.{Reply}
use Rattle.mdc_ast.specs.declared.reply.Reply.TheVariants as replied
use Rattle.mdc_ast.specs.declared.statement.Stmt.{Stmt}
use Rattle.mdc_ast.specs.declared.statement.Stmt.TheVariants as statement

-- lines
abbrev pub IsLines : Reply → Type 0
IsLines reply = (text : List ℕ) × (reply ≡ replied.Lines text)

-- an INSERT tells that as many rows went in as it has tuples, an UPDATE and a DELETE how many were changed or went, a query, EXPLAIN and
-- LIST BLOCKS have lines, and any other statement is done
abbrev pub IsReplyOf : Stmt → Reply → Type 0
IsReplyOf (statement.Insert name listed tuples) reply = reply ≡ replied.Inserted (length tuples)
IsReplyOf (statement.Update name sets pred) reply = (count : ℕ) × (reply ≡ replied.Updated count)
IsReplyOf (statement.Delete name pred) reply = (count : ℕ) × (reply ≡ replied.Deleted count)
IsReplyOf (statement.Query select) reply = IsLines reply
IsReplyOf (statement.Explain select) reply = IsLines reply
IsReplyOf (statement.ListBlocks name) reply = IsLines reply
IsReplyOf stmt reply = reply ≡ replied.Done

-- the same of a bound one
abbrev pub IsReplyToBound : Bound → Reply → Type 0
IsReplyToBound (bound.Insert place tuples) reply = reply ≡ replied.Inserted (length tuples)
IsReplyToBound (bound.Update place sets pred) reply = (count : ℕ) × (reply ≡ replied.Updated count)
IsReplyToBound (bound.Delete place pred) reply = (count : ℕ) × (reply ≡ replied.Deleted count)
IsReplyToBound (bound.Query select) reply = IsLines reply
IsReplyToBound statement reply = reply ≡ replied.Done

-- an outcome is of that kind, or a refusal
abbrev pub IsDoneAs : (Reply → Type 0) → Outcome → Type 0
IsDoneAs Is (said.Done reply) = Is reply
IsDoneAs Is (said.Refused refusal) = Unit {0}
