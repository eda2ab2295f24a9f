use Rattle.std.proofs.Common.{ap, sym, ◌∙◌}
use Rattle.std.specs.Prelude.{flat_map}
use Rattle.statement_meaning.specs.Judging.{fit_compared}
use Rattle.binder.specs.Classes.{literal_causes}
use Rattle.binder.specs.Saying.{first_of}
use Rattle.binder.proofs.PredLemmas.{within_causes}
use Rattle.binder.proofs.filtering.judge_test.Goals as goal

pub returns-in-Within : goal.returns-in-Within
returns-in-Within c =
    ap first_of (within_causes c.args.class c.args.columns.now c.args.atom.now c.args.column.now c.in-Within.literals c.in-Within.is)
    ∙ ap (λ literals. first_of (flat_map (λ literal. literal_causes c.args.class c.args.atom.now.column (fit_compared c.args.column.now.ty literal)) literals)) (sym c.as_slice.ensures)
    ∙ c.judge_literals.ensures
