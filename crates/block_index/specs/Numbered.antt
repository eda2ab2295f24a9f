-- Entries that are a key and a number of some bytes behind it, and which of those numbers an index has under a key.
use Rattle.std.specs.Prelude.{◌<◌, ◌≤◌, ◌^◌, ◌++◌, ℕ, List, Option, Some, None}
use Rattle.byteorder.specs.Endian.{big_bytes}
use Rattle.mdc_words.specs.ByteOrder.{Entry}
use Rattle.entry_tree.specs.EntryBounds.{IsEntryOf}

-- a key, and a number in so many bytes behind it
abbrev pub numbered : ℕ → List ℕ → ℕ → Entry
numbered width key number = key ++ big_bytes width number

-- the lowest number of so many bytes, from a number on, that an index has under a key
pub record IsLowestNumber (width : ℕ) (key : List ℕ) (entries : List Entry) (from number : ℕ) : Type 0 where
  pub there : IsEntryOf (numbered width key number) entries
  pub reached : from ≤ number
  pub lowest : (other : ℕ) → other < 256 ^ width → IsEntryOf (numbered width key other) entries → from ≤ other → number ≤ other

-- the same, or that there is none
abbrev pub FindsNumber : ℕ → List ℕ → List Entry → ℕ → Option ℕ → Type 0
FindsNumber width key entries from None = (other : ℕ) → other < 256 ^ width → IsEntryOf (numbered width key other) entries → from ≤ other → ⊥
FindsNumber width key entries from (Some number) = IsLowestNumber width key entries from number
