-- The parts of lists: their blocks, one after another, each whole or with some of its slots.
use Rattle.std.specs.Prelude.{◌≡◌, ◌≤◌, ◌<◌, ◌==◌, ◌&&◌, ℕ, nat_lt, if◌then◌else◌, List, [], ◌∷◌, ◌++◌, All, length, drop, map, Bool, true, Option, Some, None}
use Rattle.std.specs.List.{list_any}
use Rattle.std.specs.Option.{option_map}
use Rattle.mdc_values.specs.Rising.{IsLower, IsRising}
use Rattle.mdc_values.specs.declared.rid.Rid.{Rid}
use Rattle.block_lists.specs.Walks.{BeginsInBlock}
use Rattle.block_lists.specs.declared.part.Part.{Part}

-- a whole block
abbrev pub whole_block : ℕ → Part
whole_block block = record { block = block; slots = None }

-- a block with some of its slots
abbrev pub some_slots : ℕ → List ℕ → Part
some_slots block slots = record { block = block; slots = Some slots }

-- a slot is among these: each slot of a whole block
abbrev pub in_slots : Option (List ℕ) → ℕ → Bool
in_slots None slot = true
in_slots (Some slots) slot = list_any (λ s. s == slot) slots

-- the row in a place is in a part
abbrev pub in_part : Part → Rid → Bool
in_part part rid = (part.block == rid.block) && in_slots part.slots rid.slot

-- the row in a place is in one of the parts
abbrev pub in_parts : List Part → Rid → Bool
in_parts parts rid = list_any (λ part. in_part part rid) parts

-- the blocks of parts, one after another
abbrev pub blocks_of : List Part → List ℕ
blocks_of parts = map (λ part. part.block) parts

-- all slots, or some slots, which rise
abbrev pub AreSlots : Option (List ℕ) → Type 0
AreSlots None = Unit {0}
AreSlots (Some slots) = (0 < length slots) × IsRising IsLower slots

-- Parts of rising blocks, none of them without a row, that stand together for the rows of a test.
pub record StandForRows (parts : List Part) (test : Rid → Bool) : Type 0 where
  pub rows : (rid : Rid) → in_parts parts rid ≡ test rid
  pub rise : IsRising IsLower (blocks_of parts)
  pub slots : All (λ part. AreSlots part.slots) parts

-- a slot more: in the first part, if that is of its block, and else before it
abbrev pub with_slot : Rid → List Part → List Part
with_slot rid [] = some_slots rid.block (rid.slot ∷ []) ∷ []
with_slot rid (part ∷ parts) =
    if rid.block == part.block
    then record { block = part.block; slots = option_map (λ slots. rid.slot ∷ slots) part.slots } ∷ parts
    else some_slots rid.block (rid.slot ∷ []) ∷ part ∷ parts

-- the parts of places of rows
abbrev pub parts_of_rids : List Rid → List Part
parts_of_rids [] = []
parts_of_rids (rid ∷ rids) = with_slot rid (parts_of_rids rids)

-- a whole block more, before the first part of a higher block
abbrev pub with_block : ℕ → List Part → List Part
with_block block [] = whole_block block ∷ []
with_block block (part ∷ parts) = if nat_lt block part.block then whole_block block ∷ part ∷ parts else part ∷ with_block block parts

-- the parts of blocks and of places of rows
abbrev pub parts_of : List ℕ → List Rid → List Part
parts_of [] rids = parts_of_rids rids
parts_of (block ∷ blocks) rids = with_block block (parts_of blocks rids)

-- the place of a slot of a block
abbrev pub rid_at : ℕ → ℕ → Rid
rid_at block slot = record { block = block; slot = slot }

-- how many listed blocks a part takes up, by its slots
abbrev pub blocks_in : Option (List ℕ) → ℕ
blocks_in None = 1
blocks_in (Some slots) = 0

-- how many listed places a part takes up, by its slots
abbrev pub rids_in : Option (List ℕ) → ℕ
rids_in None = 0
rids_in (Some slots) = length slots

-- The part of a block with the slots of the places with which a list begins.
pub record IsSlotsPart (block : ℕ) (rids : List Rid) (part : Part) : Type 0 where
  pub slots : List ℕ
  pub rest : List Rid
  pub is : part ≡ some_slots block slots
  pub all : rids ≡ map (rid_at block) slots ++ rest
  pub other : BeginsInBlock block rest → ⊥

-- The first part of blocks and of places, and behind it the parts of what it leaves of them.
pub record IsFirstPart (blocks : List ℕ) (rids : List Rid) (part : Part) : Type 0 where
  pub first : parts_of blocks rids ≡ part ∷ parts_of (drop (blocks_in part.slots) blocks) (drop (rids_in part.slots) rids)
  pub blocks_there : blocks_in part.slots ≤ length blocks
  pub rids_there : rids_in part.slots ≤ length rids
