-- What a reader gives, as an item of the script.
use Rattle.mdc_ast.specs.Reading.{Item, Statement, Refused}
use Rattle.sql_reader.specs.declared.statements.Read.{Read}
use Rattle.sql_reader.specs.declared.statements.Read.TheVariants as read

-- the same statement, or the same refusal
abbrev pub item_of : Read → Item
item_of (read.Stmt stmt) = Statement stmt
item_of (read.Refused refusal) = Refused refusal
