use Rattle.std.proofs.Common.{ap, sym, ◌∙◌}
use Rattle.sql_reader.specs.Front.{after_line}
use Rattle.sql_reader.proofs.Fronts.{after_line-feed, after_line-open}
use Rattle.sql_reader.proofs.comment.after_line.Goals as goal

pub returns-in-Some : goal.returns-in-Some
returns-in-Some c =
    let line = c.in-Some.ensures.found in
    sym (ap after_line line.2 ∙ after_line-feed line.0 c.in-Some.behind.now line.1)

pub returns-in-None : goal.returns-in-None
returns-in-None c = sym (after_line-open c.args.bytes.now c.in-None.ensures.none)
