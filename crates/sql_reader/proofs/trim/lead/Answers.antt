use Rattle.std.proofs.Common.{◌≡◌, true}
use Rattle.mdc_ast.specs.Cutting.{is_blank}
use Rattle.sql_reader.specs.Trim.{IsComment}
use Rattle.sql_reader.proofs.Trimming.{behind_blank_stands, behind_comment_stands, stands_then, suffix_comment, suffix_more}
use Rattle.sql_reader.proofs.trim.lead.Goals as goal

pub loop-first-preserved-then-is_blank : goal.loop-first-preserved-then-is_blank
loop-first-preserved-then-is_blank c =
    let blank : is_blank c.in-Some.first.now ≡ true = cc in (
      suffix_more _ c.loop-first.rest.now c.loop-first.invariant.0.0 c.in-Some.first.now c.in-Some.behind.now c.loop-first.invariant.0.1 c.in-Some.ensures.cases.0,
      stands_then _ c.loop-first.rest.now c.in-Some.behind.now c.loop-first.invariant.1 (behind_blank_stands c.loop-first.rest.now c.in-Some.first.now c.in-Some.behind.now c.in-Some.ensures.cases.0 blank),
    )

pub loop-first-preserved : goal.loop-first-preserved
loop-first-preserved c =
    let begins : c.begins_comment.result ≡ true = cc in
    let is : IsComment c.loop-first.rest.now = c.begins_comment.ensures.0 begins in (
      suffix_comment _ c.loop-first.rest.now c.loop-first.invariant.0.0 c.in-Some-line_behind.behind.now c.loop-first.invariant.0.1 is c.in-Some-line_behind.ensures.found,
      stands_then _ c.loop-first.rest.now c.in-Some-line_behind.behind.now c.loop-first.invariant.1 (behind_comment_stands c.loop-first.rest.now c.in-Some-line_behind.behind.now is c.in-Some-line_behind.ensures.found),
    )
