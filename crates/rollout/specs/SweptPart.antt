-- When the record indexes are swept: where the rows that go are a large part of the table's, as the lines of its Used blocks count them.
use Rattle.std.specs.Prelude.{ℕ, Bool, ◌*◌, ◌==◌, List, cond, nat_le, sum_by}
use Rattle.std.specs.List.{list_any}
use Rattle.block_map.specs.MapLines.{MapLine}

-- how many rows a line counts, where its block is one of some
abbrev pub rows_if_among : List ℕ → MapLine → ℕ
rows_if_among blocks line = cond (list_any (λ block. block == line.block) blocks) line.rows 0

-- how many rows the lines of some blocks count
abbrev pub rows_among : List MapLine → List ℕ → ℕ
rows_among lines blocks = sum_by (rows_if_among blocks) lines

-- how many all lines count
abbrev pub all_rows : List MapLine → ℕ
all_rows lines = sum_by (λ line. line.rows) lines

-- Whether the rows of some blocks leave the record indexes by a sweep: they are one row in 12 or more.
abbrev pub goes_by_sweep : List MapLine → List ℕ → Bool
goes_by_sweep lines blocks = nat_le (all_rows lines) (rows_among lines blocks * 12)
