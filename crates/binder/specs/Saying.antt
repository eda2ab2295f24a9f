-- What is said first against a statement.
use Rattle.std.specs.Prelude.{List, [], ◌∷◌, Option, Some, None, Result, Ok, Err}
use Rattle.binder.specs.declared.objection.Objection.{Objection}
use Rattle.binder.specs.declared.objection.Objection.TheVariants as said
use Rattle.statement_meaning.specs.Cause.{Cause, TableExists, NoTable, NoColumn, ColumnTwice, IndexExists, NoIndex, Limit, NotGrouped, WrongType, OutOfRange, TextTooLong, NoDate, WrongCount, GivenGenerated}
use Rattle.statement_meaning.specs.Judged.{fetch_name}

-- the first of these causes, if there is one
abbrev pub first_of : List Cause → Option Cause
first_of [] = None
first_of (cause ∷ causes) = Some cause

-- the cause that an objection stands for
abbrev pub objected : Objection → Cause
objected (said.TableExists name) = TableExists name.now
objected (said.NoTable name) = NoTable name.now
objected (said.NoColumn name) = NoColumn name.now
objected (said.ColumnTwice name) = ColumnTwice name.now
objected (said.IndexExists name) = IndexExists name.now
objected (said.NoIndex name) = NoIndex name.now
objected (said.Limit n) = Limit n
objected (said.NotGrouped name) = NotGrouped name.now
objected (said.WrongType name) = WrongType name.now
objected (said.OutOfRange name) = OutOfRange name.now
objected (said.TextTooLong name) = TextTooLong name.now
objected (said.NoDate name) = NoDate name.now
objected said.FetchOutOfRange = OutOfRange fetch_name
objected said.WrongCount = WrongCount
objected (said.GivenGenerated name) = GivenGenerated name.now

-- the cause that was said, if one was
abbrev pub said_by : {X : Type 0} → Result X Objection → Option Cause
said_by (Ok x) = None
said_by (Err objection) = Some (objected objection)
