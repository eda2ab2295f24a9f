use Rattle.std.proofs.Common.{◌≡◌, drop}
use Rattle.mdc_ast.specs.Definitions.{is_among}
use Rattle.statement_meaning.specs.Judged.{part_names}
use Rattle.binder.proofs.indexing.is_among.Given as goal

abbrev pub invariant-loop-part : goal.invariant-loop-part
invariant-loop-part l = is_among l.name (part_names l.parts) ≡ is_among l.name (part_names (drop l.part-index l.parts))
