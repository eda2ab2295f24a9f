use Rattle.std.proofs.Common.{◌≡◌, ◌++◌, ◌∙◌, ap, map, length, subst}
use Rattle.std.specs.Prelude.{codes, flat_map}
use Rattle.std.specs.Fmt.{decimal}
use Rattle.mdc_ast.specs.declared.name.Name.{Name}
use Rattle.row_groups.specs.Answers.{IsFault}
use Rattle.row_groups.specs.Shape.{shape_of}
use Rattle.row_groups.specs.declared.line.Line.{Line}
use Rattle.statement_meaning.specs.Cause.{Overflow}
use Rattle.statement_meaning.specs.Queries.{line, shown_text}
use Rattle.answer_text.proofs.QueryLinesLemmas.{answer_gives, outgrown_says, overflow_says, rising_differ}
use Rattle.answer_text.proofs.grouped.grouped_text.Goals as goal

pub returns-in-Ok : goal.returns-in-Ok
returns-in-Ok c = λ select rows named are rise.
    answer_gives c.args.columns.now (shape_of select) rows c.in-Ok.lines c.args.text.items c.in_ok-text_of_lines-in-Ok.field-0 rise
    (c.in-Ok.ensures (shape_of select) rows are (rising_differ rows rise)) named
    (c.in_ok-text_of_lines-in-Ok.ensures
    ∙ ap (λ lines. c.args.text.items ++ flat_map (λ (one : Line). line (map shown_text one.shows)) lines ++ decimal (length lines) ++ codes " ROWS\n") c.as_slice.ensures)

pub returns-in-Err-Overflow : goal.returns-in-Err-Overflow
returns-in-Err-Overflow c = λ select rows named are rise.
    overflow_says c.args.columns.now (shape_of select) rows c.in-Err-Overflow.column c.in_ok-name_at-in-Err-Overflow.field-0 rise
    (subst (IsFault (shape_of select) rows) c.in-Err-Overflow.field-0-is (c.in-Err-Overflow.ensures (shape_of select) rows are (rising_differ rows rise))) c.in_ok-name_at-in-Err-Overflow.ensures
