use Rattle.std.proofs.Common.{◌≡◌, ◌∙◌, true, false, [], sym}
use Rattle.sql_reader.specs.Trim.{IsComment}
use Rattle.sql_reader.proofs.Trimming.{lead_none, lead_trims, stands_whole}
use Rattle.sql_reader.proofs.trim.trim.Goals as goal

pub returns-then-begins_comment : goal.returns-then-begins_comment
returns-then-begins_comment c =
    let is : IsComment c.lead-lead.result.now = c.begins_comment.ensures.0 c.if-begins_comment.true in
    stands_whole c.args.piece.now c.lead-lead.result.now [] c.lead-lead.ensures.stands (lead_none c.lead-lead.result.now c.lead-lead.ensures.lead is)

pub returns : goal.returns
returns c =
    stands_whole c.args.piece.now c.lead-lead.result.now c.lead-lead.result.now c.lead-lead.ensures.stands
    (lead_trims c.lead-lead.result.now c.lead-lead.ensures.lead (λ is. let e : true ≡ false = sym (c.begins_comment.ensures.1 is) ∙ c.if-begins_comment.false in cc))
