use Rattle.script_engine_tests.proofs.WrittenLemmas.{first_reading}
use Rattle.script_engine_tests.proofs.written.reader.Goals as goal

pub returns : goal.returns
returns c = first_reading _ c.in_ok-statements.ensures.held c.in_ok-statements.ensures.at
