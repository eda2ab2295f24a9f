use Rattle.std.proofs.Common.{refl}
use Rattle.sql_reader.proofs.Scanning.{no_bytes}
use Rattle.sql_reader.proofs.Standings.{starts}
use Rattle.sql_reader.proofs.statements.Statements.new.Goals as goal

pub returns-clause-at : goal.returns-clause-at
returns-clause-at c = starts _ c.new.ensures.items (no_bytes c.new.result.items 0) refl refl refl refl
