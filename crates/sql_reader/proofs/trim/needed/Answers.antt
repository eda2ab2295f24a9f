use Rattle.std.proofs.Common.{◌≡◌, ◌<◌, ◌∙◌, length, true, false, sym, subst, arith}
use Rattle.sql_reader.specs.Standing.{BeginsStatement, StandsFor}
use Rattle.sql_reader.specs.Trim.{IsComment}
use Rattle.sql_reader.proofs.Trimming.{dashes_stand, lead_begins, lead_open, stands_then, suffix_fits, suffix_rest, suffix_slice}
use Rattle.sql_reader.proofs.trim.needed.Goals as goal

pub returns-then-begins_comment-clause-stands : goal.returns-then-begins_comment-clause-stands
returns-then-begins_comment-clause-stands c =
    let lead = c.lead-lead.ensures in
    let is : IsComment c.lead-lead.result.now = c.begins_comment.ensures.0 c.if-begins_comment.true in
    subst (StandsFor c.args.piece.now) (sym (suffix_slice c.args.piece.now lead.suffix.0 c.lead-lead.result.now 2 lead.suffix.1))
    (stands_then c.args.piece.now c.lead-lead.result.now _ lead.stands (dashes_stand c.lead-lead.result.now (lead_open c.lead-lead.result.now lead.lead is)))

pub returns-clause-begins : goal.returns-clause-begins
returns-clause-begins c long =
    let lead = c.lead-lead.ensures in
    let fits = suffix_fits c.args.piece.now lead.suffix.0 c.lead-lead.result.now lead.suffix.1 in
    let two : 2 < length c.lead-lead.result.now = omega (arith, long, fits) in
    subst BeginsStatement (sym (suffix_rest c.args.piece.now lead.suffix.0 c.lead-lead.result.now lead.suffix.1))
    (lead_begins c.lead-lead.result.now lead.lead (λ is. let e : true ≡ false = sym (c.begins_comment.ensures.1 is) ∙ c.if-begins_comment.false in cc) two)
