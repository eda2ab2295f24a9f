-- The blocks of a table that neither of two calls changed keep their pages.
use Rattle.std.proofs.Common.{◌≡◌, ◌⊎◌, ℕ, List, None, Some, refl, ap, sym, ◌∙◌, inl, inr}
use Rattle.std.proofs.lemmas.Bool.{cases_eq}
use Rattle.mdc_ast.specs.declared.definition.TableDef.{TableDef}
use Rattle.store_api.specs.declared.pages.Pages.{Ghosts}
use Rattle.store_api.specs.declared.shape.Shape.{Shape}
use Rattle.extent_map.specs.Owners.{extent_of, owner_of}
use Rattle.extent_map.specs.declared.kind.Kind.{Kind}
use Rattle.extent_map.specs.declared.kind.Kind.TheVariants.{Free, Block, Index}
use Rattle.extent_map.specs.declared.space_notes.SpaceNotes.{SpaceNotes}
use Rattle.table_trees.specs.TreesBeside.{table_of_block}
use Rattle.mdc_sound.specs.StandingTable.{ChangesTable, IsBlockPageOf, KeepsBlocksBut, TableForests}

-- an extent that is a block of a table
pub block_of_table : (kind : Kind) (t : ℕ) → table_of_block kind ≡ Some t → kind ≡ Block t
block_of_table Free t is = absurd cc
block_of_table (Index used) t is = absurd cc
block_of_table (Block u) t is = cc

module _ {S : Type 0} {g : Ghosts S} {shape : Shape} {def : TableDef} where
  -- fewer blocks changed than may have
  pub keeps_as : {old new : S} {owners : List Kind} {May More : ℕ → Type 0} → KeepsBlocksBut g shape old new def owners May → ((block : ℕ) → May block → More block) → KeepsBlocksBut g shape old new def owners More
  keeps_as keeps more = record { stay = λ p of not. keeps.stay p of (λ may. not (more (extent_of shape p) may)) }

  module _ {before mid : SpaceNotes} {old middle : S} {owners owners_mid : List Kind} {forests forests_mid : TableForests} (changes : ChangesTable g shape before mid old middle def owners forests owners_mid forests_mid)
      (no_block : (e : ℕ) → table_of_block (owner_of owners_mid e) ≡ None → table_of_block (owner_of owners e) ≡ None) where
    -- a block of the table is one after a call that gives none up
    block_then : (e : ℕ) → owner_of owners e ≡ Block def.number → owner_of owners_mid e ≡ Block def.number
    block_then e is = go (owner_of owners_mid e) refl
      where
        no_longer : table_of_block (owner_of owners_mid e) ≡ None → ⊥
        no_longer none =
            let wrong : Some def.number ≡ None = sym (ap table_of_block is) ∙ no_block e none in
            absurd cc

        go : (kind : Kind) → owner_of owners_mid e ≡ kind → owner_of owners_mid e ≡ Block def.number
        go Free now = absurd (no_longer (ap table_of_block now))
        go (Index used) now = absurd (no_longer (ap table_of_block now))
        go (Block t) now = elim (cases_eq t def.number) [
          | inl same ↦ now ∙ ap Block same
          | inr other ↦
              let was : Block t ≡ Block def.number = sym (changes.no_others_blocks e t other now) ∙ is in
              let same : t ≡ def.number = cc in
              absurd (other same)
        ]

    -- what neither call changed stays
    pub keeps_then : {new : S} {May More : ℕ → Type 0} → KeepsBlocksBut g shape old middle def owners May → KeepsBlocksBut g shape middle new def owners_mid More
        → KeepsBlocksBut g shape old new def owners (λ block. May block ⊎ More block)
    keeps_then first second = record {
      stay = λ p of not.
          let now : IsBlockPageOf shape owners_mid def.number p = record { page = of.page; block = block_then (extent_of shape p) of.block } in
          second.stay p now (λ is. not (inr is)) ∙ first.stay p of (λ is. not (inl is));
    }
