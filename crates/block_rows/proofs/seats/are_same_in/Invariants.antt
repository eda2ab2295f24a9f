use Rattle.std.proofs.Common.{◌≡◌, take}
use Rattle.row_page.specs.Row.{row_in}
use Rattle.block_rows.specs.SeenRows.{values_at}
use Rattle.block_rows.proofs.seats.are_same_in.Given as goal

-- the values in the places so far are the same
abbrev pub invariant-loop-place : goal.invariant-loop-place
invariant-loop-place l = record { same : values_at (take l.place-index l.places) (row_in l.first.columns.now l.first.bytes.now).values ≡ values_at (take l.place-index l.places) l.row.values }
