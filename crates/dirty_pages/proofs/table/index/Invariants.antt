use Rattle.std.proofs.Common.{◌≡◌, ◌<◌, ℕ, List, Some, slice_get, vec_len}
use Rattle.dirty_pages.specs.Table.{unboxed}
use Rattle.dirty_pages.proofs.table.index.Given as goal

-- the pages before this one have their places in the index
abbrev pub invariant-loop-i : goal.invariant-loop-i
invariant-loop-i l = record {
  size : vec_len l.places ≡ vec_len l.initial.places;
  placed : (k : ℕ) (page : ℕ × List ℕ) → k < l.i → slice_get (unboxed l.pages) k ≡ Some page → slice_get l.places.items page.0 ≡ Some k;
}
