-- What is read of a part has the truth that it has of the row.
use Rattle.std.proofs.Common.{◌∙◌, sym, ap}
use Rattle.mdc_ast.specs.Truth.{is_true}
use Rattle.row_page.specs.Row.{row_in}
use Rattle.row_filter.proofs.JudgingLemmas.{may_judge-read, truth-read}
use Rattle.row_filter.proofs.ReadingLemmas.{length-row_in}
use Rattle.row_filter.proofs.judging.holds.Goals as goal

pub is_true-requires : goal.is_true-requires
is_true-requires c =
    may_judge-read (row_in c.args.row.now.columns.now c.args.row.now.bytes.now).values c.args.values.now c.read_part.new.values c.args.part.now
    (c.read_part.ensures.wide ∙ sym (length-row_in c.args.row.now.columns.now c.args.row.now.bytes.now ∙ c.requires.wide)) c.in_ok-read_part-in_default.ensures.read c.requires.judged

pub returns-in_ok-read_part-in_default-clause-met : goal.returns-in_ok-read_part-in_default-clause-met
returns-in_ok-read_part-in_default-clause-met c =
    c.is_true.ensures
    ∙ ap is_true (truth-read (row_in c.args.row.now.columns.now c.args.row.now.bytes.now).values c.args.values.now c.read_part.new.values c.args.part.now
    (c.read_part.ensures.wide ∙ sym (length-row_in c.args.row.now.columns.now c.args.row.now.bytes.now ∙ c.requires.wide)) c.in_ok-read_part-in_default.ensures.read)
