-- What is known of the statements of a script that is read from its beginning.
use Rattle.sql_reader.specs.declared.statements.Read.{Read}
use Rattle.sql_reader.specs.declared.statements.Read.TheVariants as read
use Rattle.script_engine.specs.Held.{IsWritten}

-- a statement that was given is written so in a script
abbrev pub IsReadWritten : Read → Type 0
IsReadWritten (read.Stmt stmt) = IsWritten stmt
IsReadWritten (read.Refused refusal) = Unit {0}
