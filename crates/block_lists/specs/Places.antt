-- Which rows lists of blocks and of places stand for. A place is a block and a slot, whatever numbers these are.
use Rattle.std.specs.Prelude.{◌≡◌, ◌==◌, ◌&&◌, ◌||◌, ℕ, List, Bool, true, false}
use Rattle.std.specs.List.{list_any}
use Rattle.mdc_values.specs.declared.rid.Rid.{Rid}

-- a number stands in a list
abbrev pub has_number : List ℕ → ℕ → Bool
has_number numbers n = list_any (λ m. m == n) numbers

-- two places are the same
abbrev pub same_rid : Rid → Rid → Bool
same_rid a b = (a.block == b.block) && (a.slot == b.slot)

-- a place stands in a list
abbrev pub has_rid : List Rid → Rid → Bool
has_rid rids rid = list_any (λ other. same_rid other rid) rids

-- no place of the one list lies in a block of the other
abbrev pub AreApart : List ℕ → List Rid → Type 0
AreApart blocks rids = (rid : Rid) → has_rid rids rid ≡ true → has_number blocks rid.block ≡ false

-- the lists stand for the row in a place: its block is listed, or the place is
abbrev pub holds_in : List ℕ → List Rid → Rid → Bool
holds_in blocks rids rid = has_number blocks rid.block || has_rid rids rid

-- a place of the list lies in the block
abbrev pub in_block : List Rid → ℕ → Bool
in_block rids block = list_any (λ rid. rid.block == block) rids
