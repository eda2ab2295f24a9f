use Rattle.sql_reader.proofs.Telling.{long_item, strange_item}
use Rattle.sql_reader.proofs.item.item_of_bytes.Goals as goal

pub returns-then-statement-gt-STATEMENT_LIMIT : goal.returns-then-statement-gt-STATEMENT_LIMIT
returns-then-statement-gt-STATEMENT_LIMIT c = long_item c.args.statement.now c.too_long.result c.if-statement-gt-STATEMENT_LIMIT.true c.too_long.ensures

pub returns-in-Some : goal.returns-in-Some
returns-in-Some c = strange_item c.args.statement.now c.in-Some.strange c.place_of-place.result c.strange_at.result c.if-statement-gt-STATEMENT_LIMIT.false c.in-Some.ensures c.place_of-place.ensures c.strange_at.ensures
