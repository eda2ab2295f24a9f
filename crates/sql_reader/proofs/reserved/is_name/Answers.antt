use Rattle.std.proofs.Common.{ap}
use Rattle.std.specs.Prelude.{not}
use Rattle.sql_reader.proofs.reserved.is_name.Goals as goal

pub returns : goal.returns
returns c = ap not c.is_reserved.ensures
