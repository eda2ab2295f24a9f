use Rattle.std.proofs.Common.{◌∙◌, arith}
use Rattle.sql_reader.proofs.ClassesLemmas.{class_marked-CLASSES}
use Rattle.sql_reader.proofs.lexer.class_of.Goals as goal

pub returns : goal.returns
returns c = c.class_marked.ensures ∙ class_marked-CLASSES c.args.byte (omega arith)
