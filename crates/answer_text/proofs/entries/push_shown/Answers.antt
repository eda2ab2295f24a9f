use Rattle.std.proofs.Common.{arith, rules}
use Rattle.std.proofs.lemmas.Result.{on_ok_weaker}
use Rattle.statement_meaning.specs.Queries.{shown_text}
use Rattle.answer_text.proofs.LineTexts.{line_whole}
use Rattle.answer_text.proofs.entries.push_shown.Goals as goal

pub returns-clause-ok : goal.returns-clause-ok
returns-clause-ok c =
    on_ok_weaker c.append-2.result
    (line_whole shown_text c.args.shows.now c.in-Some.others.now c.in-Some.first.now c.loop-shown.shown-index c.args.out.now.items
    c.append_shown.new.out.items c.loop-shown.out.items c.append-2.new.out.items (search rules) c.in_ok-append_shown.ensures.ok
    (omega arith) c.loop-shown.invariant)
    c.append-2.ensures.ok
