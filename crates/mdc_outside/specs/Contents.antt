-- The bytes that a host in memory holds.
use Rattle.std.specs.Prelude.{ℕ, List, [], Option, Some, None, Vec}
use Rattle.std.specs.declared.alloc.Global.{Global}

-- the file's bytes: those that were changed, or else those of the first file
abbrev pub contents_of : Option (List ℕ) → Option (Vec ℕ Global) → List ℕ
contents_of first (Some bytes) = bytes.items
contents_of None None = []
contents_of (Some bytes) None = bytes
