use Rattle.std.proofs.Common.{◌-◌, ◌⊎◌, ℕ, List, take}
use Rattle.std.specs.Prelude.{Contains}
use Rattle.node_page.specs.Node.{number_within}
use Rattle.file_check.specs.TableIndexes.{bytes_behind_key, noted_entries}
use Rattle.file_check.proofs.record_indexes.has_no_others.Given as goal

-- each entry so far was noted, or names a spare block
abbrev pub invariant-loop-i : goal.invariant-loop-i
invariant-loop-i l =
    (entry : List ℕ) → Contains (take l.i l.entries) entry
    → Contains (noted_entries l.noted) entry ⊎ Contains l.spare (number_within (l.index.tree.width - bytes_behind_key l.index.kind) 4 entry)
