use Rattle.std.proofs.Common.{◌≡◌, [], drop, take}
use Rattle.mdc_ast.specs.Definitions.{column_names}
use Rattle.statement_meaning.specs.Judged.{part_names}
use Rattle.statement_meaning.specs.Judging.{listed_names}
use Rattle.binder.specs.Saying.{first_of}
use Rattle.binder.proofs.indexing.judge_parts.Given as goal

abbrev pub invariant-loop-place : goal.invariant-loop-place
invariant-loop-place l =
    first_of (listed_names (column_names l.columns) [] (part_names l.parts))
    ≡ first_of (listed_names (column_names l.columns) (take l.place (part_names l.parts)) (drop l.place (part_names l.parts)))
