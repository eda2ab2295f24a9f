use Rattle.std.proofs.Common.{Err}
use Rattle.std.specs.Prelude.{Ok}
use Rattle.sql_reader.specs.Token.{tokens_of}
use Rattle.sql_reader.proofs.Answers.{one_more, is_too_deep_ok, is_too_deep_err, is_stopped}
use Rattle.sql_reader.proofs.parser.judge.Goals.{in-Ok, in-Err-NotSpelled+then-deeper-stopped, in-Err-NotSpelled+else-deeper-stopped, in-Err-Memory}
use Rattle.sql_reader.proofs.parser.judge.Goals as goal

pub returns : goal.returns
returns c =
    let m = c.args.limit in
    let tokens = tokens_of c.args.tokens.now in
    let rest = c.args.stopped.tokens.now in
    let less = c.statement.new.cursor.tokens.now in
    elim c.match-statement.branch [
      | in-Ok w ↦
          let h = one_more m tokens (Ok (w.in-Ok.field-0, tokens_of less)) w.in-Ok.ensures in
          rw w.result-is (is_too_deep_ok m tokens (tokens_of rest) (tokens_of less) w.in-Ok.field-0 c.requires.stops h)
      | in-Err-NotSpelled+then-deeper-stopped w ↦
          let h = one_more m tokens (Err (tokens_of less)) (rw w.in-Err-NotSpelled.field-0-is at w.in-Err-NotSpelled.ensures) in
          rw w.result-is (is_too_deep_err m tokens rest less c.requires.stops h w.if-deeper-stopped.true)
      | in-Err-NotSpelled+else-deeper-stopped w ↦
          let h = one_more m tokens (Err (tokens_of less)) (rw w.in-Err-NotSpelled.field-0-is at w.in-Err-NotSpelled.ensures) in
          rw w.result-is (is_stopped m tokens rest less c.left-left.result c.requires.stops h w.if-deeper-stopped.false c.left-left.ensures)
      | in-Err-Memory w ↦ rw w.result-is tt
    ]
