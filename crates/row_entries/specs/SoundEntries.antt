-- Record indexes that are sound for some rows of a table and some Pending blocks, and what rows may become.
use Rattle.std.specs.Prelude.{◌≡◌, ℕ, List, Contains, slice_index_or}
use Rattle.std.specs.List.{AllZip}
use Rattle.mdc_values.specs.declared.rid.Rid.{Rid}
use Rattle.mdc_ast.specs.declared.definition.TableDef.{TableDef}
use Rattle.mdc_ast.specs.declared.row.Row.{Row}
use Rattle.store_api.specs.declared.pages.Pages.{Ghosts}
use Rattle.store_api.specs.declared.shape.Shape.{Shape}
use Rattle.extent_map.specs.declared.kind.Kind.{Kind}
use Rattle.entry_tree.specs.Forest.{Forest}
use Rattle.mdc_sound.specs.BlockRules.{AreTableIndexesSound, IsSoundIndex}
use Rattle.mdc_sound.specs.Placing.{Spot}
use Rattle.mdc_sound.specs.Placing.Spot.{OtherBlock, PendingBlock}
use Rattle.mdc_sound.specs.StandingTable.{TableForests, pages_of, view_of}
use Rattle.mdc_sound.specs.TableRows.{PlacedRow}

-- each record index is sound for these rows and these Pending blocks; rule 11 says it of all rows and all Pending blocks
abbrev pub AreIndexesSound : TableDef → List PlacedRow → List ℕ → List Forest → Type 0
AreIndexesSound def rows pending trees = AllZip (IsSoundIndex def rows pending) def.indexes trees

-- each record index of a table in a store has the entries of its rows, and no other but of Pending blocks
abbrev pub HasSoundIndexes : {S : Type 0} → Ghosts S → Shape → S → TableDef → List Kind → TableForests → Type 0
HasSoundIndexes g shape s def owners forests = AreTableIndexesSound shape (pages_of g s) (view_of def forests)

-- a row in a place
abbrev pub placed_at : Rid → Row → PlacedRow
placed_at rid row = record { rid = rid; row = row }

-- each block that was Pending still is
abbrev pub StayPending : List ℕ → List ℕ → Type 0
StayPending pending pending_now = (block : ℕ) → Contains pending block → Contains pending_now block

-- the same of spots
abbrev pub StayPendingSpots : List Spot → List Spot → Type 0
StayPendingSpots old new = (block : ℕ) → slice_index_or old block OtherBlock ≡ PendingBlock → slice_index_or new block OtherBlock ≡ PendingBlock
