use Rattle.std.proofs.Common.{arith, ap, length, length-append, map}
use Rattle.statement_meaning.specs.Queries.{line}
use Rattle.answer_text.specs.Lines.{entry}
use Rattle.answer_text.proofs.LineTexts.{length-line}
use Rattle.answer_text.proofs.lines.Lines.add.Goals as goal

pub invariant_of-self-2 : goal.invariant_of-self-2
invariant_of-self-2 c =
    let added = line (map (entry c.args.values.now) c.as_slice.result.now) in
    omega (arith, ap length c.in_ok-append_entries.ensures.ok, length-append c.self.inside.text.items added, length-line (map (entry c.args.values.now) c.as_slice.result.now))
