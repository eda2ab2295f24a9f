use Rattle.std.proofs.Common.{length, refl}
use Rattle.std.proofs.lemmas.Result.{err_from_is_err_and}
use Rattle.mdc_ast.specs.Classes.{comma}
use Rattle.sql_reader.specs.Readers.{separated_at}
use Rattle.sql_reader.specs.Token.{tokens_of}
use Rattle.sql_reader.proofs.Loops.{push, list_starts, list_stops, goes_on, length-tokens_of}
use Rattle.sql_reader.proofs.cursor.Cursor.separated.Goals as goal

pub returns-in_err-first : goal.returns-in_err-first
returns-in_err-first g c =
    let p = err_from_is_err_and c.from_residual.result c.from_residual.ensures.1 in
    rw (p.1, p.2) (list_stops comma g.P.Part.part_at (tokens_of c.args.self.now.tokens.now) (tokens_of c.take.new.cursor.tokens.now) c.in_err-first.field-0.0 c.in_err-first.ensures)

pub loop-init : goal.loop-init
loop-init g c = rw (c.in_ok-push.ensures.ok, c.new-parts.ensures) (list_starts comma g.P.Part.part_at (tokens_of c.args.self.now.tokens.now) (tokens_of c.take.new.cursor.tokens.now) (length c.take.new.cursor.tokens.now) c.in_ok-first.first (length-tokens_of c.take.new.cursor.tokens.now) c.in_ok-first.ensures)

pub loop-preserved : goal.loop-preserved
loop-preserved g c =
    let found = c.if-not-takes_comma.ensures.found refl in
    rw c.in_ok-push-2.ensures.ok (goes_on comma push g.P.Part.part_at c.loop.parts c.in_ok-part.part (length c.take.new.cursor.tokens.now) c.loop.counter (tokens_of c.loop.self.tokens.now) (tokens_of c.takes_comma.new.self.tokens.now) (tokens_of c.take-in-loop.new.cursor.tokens.now)
    (separated_at comma g.P.Part.part_at (tokens_of c.args.self.now.tokens.now)) c.loop-test.true found.0 found.1 c.in_ok-part.ensures c.loop.invariant)
