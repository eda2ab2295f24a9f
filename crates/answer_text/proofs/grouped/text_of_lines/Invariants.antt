use Rattle.std.proofs.Common.{◌≡◌, ◌++◌, map, take}
use Rattle.std.specs.Prelude.{flat_map}
use Rattle.row_groups.specs.declared.line.Line.{Line}
use Rattle.statement_meaning.specs.Queries.{line, shown_text}
use Rattle.answer_text.proofs.grouped.text_of_lines.Given as goal

abbrev pub invariant-loop-line : goal.invariant-loop-line
invariant-loop-line l = l.text.items ≡ l.initial.text.items ++ flat_map (λ (one : Line). line (map shown_text one.shows)) (take l.line-index l.lines)
