use Rattle.sql_reader.proofs.WorkedLemmas.{says}
use Rattle.sql_reader.proofs.laws.worked_reading.Goals as goal

pub returns : goal.returns
returns c = says
