use Rattle.std.proofs.Common.{◌++◌, None, Some, ap, append-nil, sym, ◌∙◌}
use Rattle.answer_text.proofs.RefusalTexts.{line_kept, refusal_line-parts}
use Rattle.answer_text.proofs.refusals.refusal_by.Goals as goal

pub returns-clause-ok : goal.returns-clause-ok
returns-clause-ok c =
    line_kept c.kept_if_written.result c.push_line-written.result c.args.out.now.items c.push_line-written.new.out.items c.kept_if_written.new.out.items
    c.args.refusal.now c.in-Some.parts.now
    (refusal_line-parts c.args.wordings.now c.args.refusal.now (Some c.in-Some.parts.now) c.requires c.in-Some.ensures)
    c.kept_if_written.ensures.same c.kept_if_written.ensures.ok c.push_line-written.ensures.ok

pub returns-in_default-clause-ok : goal.returns-in_default-clause-ok
returns-in_default-clause-ok c =
    let none = refusal_line-parts c.args.wordings.now c.args.refusal.now None c.requires c.in_default.ensures in
    sym (ap (λ line. c.args.out.now.items ++ line) none ∙ append-nil c.args.out.now.items)
