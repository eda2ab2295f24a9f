-- What is read of the column that a test compares with has the truth that it has of the row.
use Rattle.std.proofs.Common.{◌∙◌, sym, subst}
use Rattle.std.specs.Prelude.{IsTrue}
use Rattle.row_page.specs.Row.{row_in}
use Rattle.row_filter.proofs.NamingLemmas.{may_test-same, test_truth-same}
use Rattle.row_filter.proofs.ReadingLemmas.{length-row_in}
use Rattle.row_filter.proofs.judging.truth_in_row.Goals as goal

pub truth_of_test-requires : goal.truth_of_test-requires
truth_of_test-requires c =
    subst IsTrue
    (sym (may_test-same c.read_right.new.values (row_in c.args.row.now.columns.now c.args.row.now.bytes.now).values c.args.value.now c.args.test.now
    (c.read_right.ensures.wide ∙ sym (length-row_in c.args.row.now.columns.now c.args.row.now.bytes.now ∙ c.requires.wide)) c.in_ok-read_right-in_default.ensures.read.there))
    c.requires.judged

pub returns-in_ok-read_right-in_default-clause-truth : goal.returns-in_ok-read_right-in_default-clause-truth
returns-in_ok-read_right-in_default-clause-truth c =
    c.truth_of_test.ensures
    ∙ test_truth-same c.read_right.new.values (row_in c.args.row.now.columns.now c.args.row.now.bytes.now).values c.args.value.now c.args.test.now c.in_ok-read_right-in_default.ensures.read.there
