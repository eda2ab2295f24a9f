use Rattle.std.specs.Prelude.{ℕ, ◌≤◌, ◌<◌}
use Rattle.file_check.specs.MapPagesJudged.{IsEntrySound, kind_on}
use Rattle.file_check.proofs.map_pages.are_entries_sound.Given as goal

abbrev pub invariant-loop-e : goal.invariant-loop-e
invariant-loop-e l = (x : ℕ) → l.first ≤ x → x < l.e → IsEntrySound l.fn.shape l.count l.tables x (kind_on l.fn.shape l.page x)
