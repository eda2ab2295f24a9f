use Rattle.std.proofs.Common.{◌≡◌, ◌++◌, take}
use Rattle.key_codec.specs.Keys.{key_bytes}
use Rattle.file_check.proofs.row_entries.push_key.Given as goal

-- the first parts came behind what was there
abbrev pub invariant-loop-part : goal.invariant-loop-part
invariant-loop-part l = l.key.items ≡ l.fn.key.items ++ key_bytes l.columns (take l.part-index l.part-items) l.row.values
