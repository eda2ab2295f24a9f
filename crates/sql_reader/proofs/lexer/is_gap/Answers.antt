use Rattle.std.proofs.Common.{arith}
use Rattle.sql_reader.proofs.ClassesLemmas.{blank-CLASSES}
use Rattle.sql_reader.proofs.lexer.is_gap.Goals as goal

pub returns : goal.returns
returns c = blank-CLASSES c.args.byte (omega arith)
