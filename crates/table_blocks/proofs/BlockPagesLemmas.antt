-- The pages of a table that a call on one of its blocks touches.
use Rattle.std.proofs.Common.{ℕ, List, inl, inr}
use Rattle.mdc_ast.specs.declared.definition.TableDef.{TableDef}
use Rattle.store_api.specs.declared.pages.Pages.{Ghosts}
use Rattle.store_api.specs.declared.shape.Shape.{Shape}
use Rattle.extent_map.specs.declared.kind.Kind.{Kind}
use Rattle.mdc_sound.specs.StandingTable.{IsBlockOrMapPage, StandsTable, TableForests}
use Rattle.table_blocks.specs.AroundBlock.{StandsAround}
use Rattle.table_blocks.specs.BlockChanges.{IsPlaceAround}
use Rattle.table_blocks.specs.BlockNow.{IsOwnBlock}

module _ {S : Type 0} {g : Ghosts S} where
  -- what is said of a table that stands but for the block is so of one that stands
  pub place_of_block : (shape : Shape) (s : S) (def : TableDef) (block p : ℕ)
      → ((owners : List Kind) (forests : TableForests) → StandsTable g shape s def owners forests → StandsAround g shape s def owners forests block × IsOwnBlock shape owners def block)
      → IsPlaceAround g shape s def block p → IsBlockOrMapPage g shape s def block p
  place_of_block shape s def block p opens is owners forests st =
      let o = opens owners forests st in
      elim (is owners forests o.0 o.1) [ inl here ↦ inl here | inr rest ↦ elim rest [ inl of_block ↦ inr (inl (record { page = of_block; own = o.1.owned })) | inr on_map ↦ inr (inr on_map) ] ]
