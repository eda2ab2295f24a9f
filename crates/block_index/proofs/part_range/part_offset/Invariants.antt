use Rattle.std.proofs.Common.{◌≡◌, ◌+◌, drop}
use Rattle.block_index.specs.PartRanges.{offset_of}
use Rattle.block_index.proofs.part_range.part_offset.Given as goal

abbrev pub invariant-loop-place : goal.invariant-loop-place
invariant-loop-place l = l.at + offset_of l.columns (drop l.place-index l.place-items) l.column ≡ offset_of l.columns l.places l.column
