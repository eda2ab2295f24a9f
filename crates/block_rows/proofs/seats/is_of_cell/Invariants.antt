use Rattle.std.proofs.Common.{◌≡◌, take}
use Rattle.std.specs.Prelude.{flat_map}
use Rattle.row_page.specs.Row.{row_in}
use Rattle.block_rows.specs.SeenRows.{values_at}
use Rattle.block_rows.proofs.seats.is_of_cell.Given as goal

-- the values in the dimensions so far are the same
abbrev pub invariant-loop-dim : goal.invariant-loop-dim
invariant-loop-dim l = record {
  same : values_at (flat_map (λ dim. dim) (take l.dim-index l.def.dims)) (row_in l.first.columns.now l.first.bytes.now).values ≡ values_at (flat_map (λ dim. dim) (take l.dim-index l.def.dims)) l.row.values;
}
