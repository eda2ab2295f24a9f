use Rattle.std.proofs.Common.{arith}
use Rattle.sql_reader.proofs.ClassesLemmas.{word-CLASSES}
use Rattle.sql_reader.proofs.lexer.is_word_byte.Goals as goal

pub returns : goal.returns
returns c = word-CLASSES c.args.byte (omega arith)
