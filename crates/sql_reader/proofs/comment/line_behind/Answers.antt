use Rattle.std.proofs.Common.{◌≡◌, ◌≢◌, ◌∷◌, sym, subst}
use Rattle.mdc_ast.specs.Cutting.{Lacks}
use Rattle.sql_reader.specs.Trim.{StandsBehindLine}
use Rattle.sql_reader.proofs.Trimming.{line_more}
use Rattle.sql_reader.proofs.comment.line_behind.Goals as goal

pub loop-byte-preserved : goal.loop-byte-preserved
loop-byte-preserved c =
    let other : c.in-Some.byte.now ≢ 10 = c.if-byte-eq10.false in
    let is : c.loop-byte.rest.now ≡ c.in-Some.byte.now ∷ c.in-Some.behind.now = c.in-Some.ensures.cases.0 in (
      λ behind stands. c.loop-byte.invariant.0 behind (subst (λ l. StandsBehindLine l behind) (sym is) (line_more c.in-Some.byte.now c.in-Some.behind.now behind other stands)),
      λ lacks. c.loop-byte.invariant.1 (subst (Lacks 10) (sym is) (other, lacks)),
    )
