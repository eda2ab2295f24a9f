use Rattle.std.proofs.Common.{◌≡◌, drop}
use Rattle.statement_meaning.specs.Judged.{text_named}
use Rattle.binder.proofs.column_texts.text_named.Given as goal

abbrev pub invariant-loop-column : goal.invariant-loop-column
invariant-loop-column l = text_named l.columns l.name ≡ text_named (drop l.column-index l.columns) l.name
