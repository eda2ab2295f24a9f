use Rattle.std.proofs.Common.{drop}
use Rattle.file_check.proofs.RowKeysLemmas.{IsKeySoFar}
use Rattle.file_check.proofs.row_keys.key_of_row.Given as goal

-- the parts so far are there
abbrev pub invariant-loop-part : goal.invariant-loop-part
invariant-loop-part l = IsKeySoFar l.columns l.parts l.row.values (drop l.part-index l.part-items) l.key.items
