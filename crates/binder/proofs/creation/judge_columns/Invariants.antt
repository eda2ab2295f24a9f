use Rattle.std.proofs.Common.{◌≡◌, [], drop, take}
use Rattle.statement_meaning.specs.Judged.{text_names, twice_named}
use Rattle.binder.specs.Knowing.{Knows}
use Rattle.binder.specs.Saying.{first_of}
use Rattle.binder.proofs.creation.judge_columns.Given as goal

abbrev pub invariant-loop-column : goal.invariant-loop-column
invariant-loop-column l =
    Knows l.known (text_names (take l.column-index l.columns))
    × (first_of (twice_named [] l.columns) ≡ first_of (twice_named (text_names (take l.column-index l.columns)) (drop l.column-index l.columns)))
