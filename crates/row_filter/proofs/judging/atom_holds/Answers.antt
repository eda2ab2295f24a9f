-- The columns that a test names are there, and the value that is read of its own has the truth that the row has.
use Rattle.std.proofs.Common.{◌∙◌, ◌<◌, length, ap, subst}
use Rattle.std.specs.List.{All}
use Rattle.std.proofs.lemmas.List.Elements.{All-head, All-tail}
use Rattle.mdc_ast.specs.Truth.{is_true, negated_if}
use Rattle.row_page.specs.Row.{row_in}
use Rattle.row_filter.specs.Naming.{named_in_test}
use Rattle.row_filter.proofs.JudgingLemmas.{may_test-found, test_truth-found}
use Rattle.row_filter.proofs.ReadingLemmas.{atom_there-row_in}
use Rattle.row_filter.proofs.judging.atom_holds.Goals as goal

pub value-requires : goal.value-requires
value-requires c =
    All-head (λ place. place < length c.args.row.now.columns.now) c.args.atom.now.column (named_in_test c.args.atom.now.test)
    (atom_there-row_in c.args.row.now.columns.now c.args.row.now.bytes.now c.args.atom.now c.requires.judged)

pub truth_in_row-requires-clause-there : goal.truth_in_row-requires-clause-there
truth_in_row-requires-clause-there c =
    subst (λ width. All (λ place. place < width) (named_in_test c.args.atom.now.test)) c.requires.wide
    (All-tail (λ place. place < length c.args.row.now.columns.now) c.args.atom.now.column (named_in_test c.args.atom.now.test)
    (atom_there-row_in c.args.row.now.columns.now c.args.row.now.bytes.now c.args.atom.now c.requires.judged))

pub truth_in_row-requires-clause-judged : goal.truth_in_row-requires-clause-judged
truth_in_row-requires-clause-judged c =
    may_test-found (row_in c.args.row.now.columns.now c.args.row.now.bytes.now).values c.args.atom.now c.in_ok-value.value c.in_ok-value.ensures.ok c.requires.judged

pub returns-clause-met : goal.returns-clause-met
returns-clause-met c =
    c.is_true_if.ensures
    ∙ ap (λ t. is_true (negated_if c.args.atom.now.negated t)) (c.in_ok-truth.ensures.truth
    ∙ test_truth-found (row_in c.args.row.now.columns.now c.args.row.now.bytes.now).values c.args.atom.now c.in_ok-value.value c.in_ok-value.ensures.ok)
