use Rattle.std.proofs.Common.{◌+◌, refl}
use Rattle.std.proofs.lemmas.List.{drop-drop}
use Rattle.sql_reader.proofs.Scanning.{no_bytes}
use Rattle.sql_reader.proofs.statements.Statements.pass.Goals as goal

pub returns : goal.returns
returns c =
    rw (← c.self.view_is, no_bytes c.self.inside.held.items (c.self.inside.scanned + 1), ← drop-drop 1 c.self.inside.scanned c.self.inside.held.items) refl
