-- What a walk over the leaves of a tree is given.
use Rattle.std.specs.Prelude.{◌≡◌, ℕ, List, [], ◌∷◌, ◌++◌, length, drop, Option, Some, None, ⊤, if◌then◌else◌}
use Rattle.mdc_words.specs.ByteOrder.{Entry, below}
use Rattle.entry_tree.specs.EntryBounds.{Bound, AtLeast, Under, IsEntryOf, IsLeafPlace}
use Rattle.entry_tree.specs.Forest.{Forest}
use Rattle.entry_tree.specs.Forest.Forest.{Leaf, Nil}
use Rattle.entry_tree.specs.TreePlaces.{AreMatched, Frame, plug, low_of, high_of}

-- each entry is at or above a low bound
abbrev pub AreAtLeast : Bound → List Entry → Type 0
AreAtLeast low [] = ⊤
AreAtLeast low (x ∷ xs) = AtLeast low x × AreAtLeast low xs

-- each entry is strictly below a high bound
abbrev pub AreUnder : Bound → List Entry → Type 0
AreUnder high [] = ⊤
AreUnder high (x ∷ xs) = Under high x × AreUnder high xs

-- the entries at or above a bound
abbrev pub entries_from : Entry → List Entry → List Entry
entries_from bound [] = []
entries_from bound (x ∷ xs) = if below x bound then entries_from bound xs else x ∷ entries_from bound xs

-- The rest begins at this bound: it lies above all that is given, and at or below each entry of the rest. There is a bound
-- exactly where there is a rest.
abbrev pub RestBegins : List Entry → Bound → List Entry → Type 0
RestBegins given None rest = rest ≡ []
RestBegins given (Some next) [] = ⊥
RestBegins given (Some next) (x ∷ rest) = AreUnder (Some next) given × AreAtLeast (Some next) (x ∷ rest)

-- Of all entries, those given are the first ones from a bound on, at least one where one is there, and `next` is where the
-- rest begins.
pub record IsLeafFrom (all : List Entry) (bound : Entry) (given : List Entry) (next : Bound) : Type 0 where
  pub rest : List Entry
  pub whole : entries_from bound all ≡ given ++ rest
  pub some : given ≡ [] → rest ≡ []
  pub begins : RestBegins given next rest

-- what the leaf of a bound gives: its entries from the place of the bound on, and its high bound
pub record IsReadAt (t : Forest) (bound : Entry) (given : List Entry) (next : Bound) : Type 0 where
  pub above : List Frame
  pub page : ℕ
  pub items : List Entry
  pub at : ℕ
  pub whole : t ≡ plug above (Leaf page items Nil)
  pub matched : AreMatched above
  pub low : AtLeast (low_of None above) bound
  pub high : Under (high_of None above) bound
  pub next_is : high_of None above ≡ next
  pub spot : IsLeafPlace items bound at
  pub given_is : given ≡ drop at items

-- a bound, if there is one, has this width
abbrev pub BoundFits : ℕ → Bound → Type 0
BoundFits width None = ⊤
BoundFits width (Some s) = length s ≡ width

-- the lowest entry from a bound on
pub record IsFirstFrom (all : List Entry) (bound first : Entry) : Type 0 where
  pub there : IsEntryOf first (entries_from bound all)
  pub lowest : AreAtLeast (Some first) (entries_from bound all)

-- the same, or that there is none
abbrev pub IsFirstOr : List Entry → Entry → Option Entry → Type 0
IsFirstOr all bound None = entries_from bound all ≡ []
IsFirstOr all bound (Some first) = IsFirstFrom all bound first

-- the first of a list
abbrev pub first_entry : List Entry → Option Entry
first_entry [] = None
first_entry (x ∷ xs) = Some x

-- the same of the leaf of a bound: the first entry that it gives, if it gives one, and its high bound
pub record IsFirstRead (t : Forest) (bound : Entry) (first : Option Entry) (next : Bound) : Type 0 where
  pub given : List Entry
  pub read : IsReadAt t bound given next
  pub first_is : first ≡ first_entry given
