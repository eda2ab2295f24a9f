-- Byte strings and their order (docs/FORMAT.md, "Keys"): the first byte that differs decides, and a first part comes before the whole.
use Rattle.std.specs.Prelude.{ℕ, Bool, List}
use Rattle.std.specs.Ordering.{nat_cmp, is_lt}
use Rattle.std.specs.Cmp.Lexicographic.{slice_cmp}

-- an entry of a tree, and a key
abbrev pub Entry : Type 0
Entry = List ℕ

-- whether a byte string comes before another
unfoldable pub below : Entry → Entry → Bool
below x y = is_lt (slice_cmp nat_cmp x y)
