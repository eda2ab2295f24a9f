-- What lists stand for, and their intersections and unions.
use Rattle.std.specs.Prelude.{◌≡◌, ◌&&◌, ◌||◌, ℕ, List, Bool}
use Rattle.std.specs.List.{list_all, list_any}
use Rattle.mdc_values.specs.Rising.{IsEarlier, IsLower, IsRising}
use Rattle.mdc_values.specs.declared.rid.Rid.{Rid}
use Rattle.block_lists.specs.declared.lists.Lists.{Lists}
use Rattle.block_lists.specs.Places.{AreApart, has_number, holds_in, in_block}

-- the lists stand for the row in a place
abbrev pub holds : Lists → Rid → Bool
holds lists = holds_in lists.blocks lists.rids

-- the lists name a block whole
abbrev pub lists_block : Lists → ℕ → Bool
lists_block lists = has_number lists.blocks

-- the block is listed, or a listed row lies in it
abbrev pub touches : Lists → ℕ → Bool
touches lists block = has_number lists.blocks block || in_block lists.rids block

-- The lists of what both stand for: exactly the rows of both, and whole the blocks that both name whole.
pub record IsBoth (a b both : Lists) : Type 0 where
  pub rows : (rid : Rid) → holds both rid ≡ (holds a rid && holds b rid)
  pub blocks : (block : ℕ) → lists_block both block ≡ (lists_block a block && lists_block b block)

-- The lists of what one of them stands for: exactly the rows of either, and whole the blocks that one names whole.
pub record IsEither (a b either : Lists) : Type 0 where
  pub rows : (rid : Rid) → holds either rid ≡ (holds a rid || holds b rid)
  pub blocks : (block : ℕ) → lists_block either block ≡ (lists_block a block || lists_block b block)

-- The lists of what all members stand for.
pub record IsAll (members : List Lists) (all : Lists) : Type 0 where
  pub rows : (rid : Rid) → holds all rid ≡ list_all (λ lists. holds lists rid) members
  pub blocks : (block : ℕ) → lists_block all block ≡ list_all (λ lists. lists_block lists block) members

-- The lists of what one of the members stands for.
pub record IsAny (members : List Lists) (any : Lists) : Type 0 where
  pub rows : (rid : Rid) → holds any rid ≡ list_any (λ lists. holds lists rid) members
  pub blocks : (block : ℕ) → lists_block any block ≡ list_any (λ lists. lists_block lists block) members

-- What is known of every `Lists`: its blocks rise, its places rise, and none of these lies in one of those.
pub record AreLists (blocks : List ℕ) (rids : List Rid) : Type 0 where
  pub blocks_rise : IsRising IsLower blocks
  pub rids_rise : IsRising IsEarlier rids
  pub apart : AreApart blocks rids
