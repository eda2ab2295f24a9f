use Rattle.std.proofs.Common.{◌≡◌, ◌-◌}
use Rattle.mdc_ast.specs.Classes.{comma}
use Rattle.sql_reader.specs.Readers.{separated_at}
use Rattle.sql_reader.specs.Token.{tokens_of}
use Rattle.sql_reader.proofs.Loops.{collected, push, left_at}
use Rattle.sql_reader.proofs.cursor.Cursor.separated.Given as goal

abbrev pub invariant-loop : goal.invariant-loop
invariant-loop g l =
    collected push l.parts (left_at comma push g.P.Part.part_at (l.end - l.counter) (tokens_of l.self.tokens.now)) ≡ separated_at comma g.P.Part.part_at (tokens_of l.fn.self.tokens.now)
