-- Bounds on entries, and lists of entries that rise between two of them.
use Rattle.std.specs.Prelude.{◌≡◌, ◌<◌, ◌≤◌, ℕ, length, slice_index_or as get_or, true, false, List, [], ◌∷◌, Some, None, Option, ⊤, ◌⊎◌, if◌then◌else◌}
use Rattle.mdc_words.specs.ByteOrder.{Entry, below}

-- a bound, or none, which holds of all
abbrev pub Bound : Type 0
Bound = Option Entry

-- an entry is at or above a low bound
abbrev pub AtLeast : Bound → Entry → Type 0
AtLeast None x = ⊤
AtLeast (Some s) x = below x s ≡ false

-- an entry is strictly below a high bound
abbrev pub Under : Bound → Entry → Type 0
Under None x = ⊤
Under (Some s) x = below x s ≡ true

-- the low bound is strictly below the high one
abbrev pub Room : Bound → Bound → Type 0
Room None high = ⊤
Room (Some s) None = ⊤
Room (Some s) (Some t) = below s t ≡ true

-- the entries rise, above the last one and below a bound
abbrev pub Climbs : Entry → Bound → List Entry → Type 0
Climbs last high [] = ⊤
Climbs last high (x ∷ xs) = (below last x ≡ true) × Under high x × Climbs x high xs

-- the entries rise between two bounds
abbrev pub Rises : Bound → Bound → List Entry → Type 0
Rises low high [] = ⊤
Rises low high (x ∷ xs) = AtLeast low x × Under high x × Climbs x high xs

-- the rising list with an entry more, where it belongs
abbrev pub with_entry : Entry → List Entry → List Entry
with_entry x [] = x ∷ []
with_entry x (y ∷ ys) = if below y x then y ∷ with_entry x ys else x ∷ y ∷ ys

-- the entry is one of the list
abbrev pub IsEntryOf : Entry → List Entry → Type 0
IsEntryOf x [] = ⊥
IsEntryOf x (y ∷ ys) = (x ≡ y) ⊎ IsEntryOf x ys

-- x belongs at place i of a leaf: the entries before it are below x, and those from there on aren't
pub record IsLeafPlace (items : List Entry) (x : Entry) (i : ℕ) : Type 0 where
  pub within : i ≤ length items
  pub before : (k : ℕ) → k < i → below (get_or items k []) x ≡ true
  pub after : i < length items → below (get_or items i []) x ≡ false
