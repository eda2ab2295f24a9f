-- When the pages of a store and what is kept of them in memory are ready for a statement.
use Rattle.std.specs.Prelude.{◌≡◌, true, ℕ, IsTrue, List, Some, OnErr, Result, flat_map}
use Rattle.mdc_ast.specs.declared.definition.TableDef.{TableDef}
use Rattle.mdc_ast.specs.ValidDatabase.{AllDefsDiffer, AreValidDefs, index_names}
use Rattle.mdc_ast.specs.Definitions.{AllNamesDiffer, Definitions, def_at}
use Rattle.statement_meaning.specs.Built.{are_built}
use Rattle.store_api.specs.declared.fault.Damage.{Damage}
use Rattle.store_api.specs.declared.pages.Pages.{Ghosts}
use Rattle.store_api.specs.declared.shape.Shape.{Shape}
use Rattle.extent_map.specs.Owners.{AreRightNotes}
use Rattle.extent_map.specs.declared.kind.Kind.{Kind}
use Rattle.mdc_sound.specs.SoundDatabase.{KeepAllRules}
use Rattle.mdc_sound.specs.SpaceRules.{DatabaseView}
use Rattle.mdc_sound.specs.StandingTable.{IsReadyTable, StandsTable, TableForests, pages_of}
use Rattle.row_entries.specs.SoundEntries.{HasSoundIndexes}
use Rattle.stored_catalog.specs.StoredDefinitions.{AreStored, AreWithinLimits}
use Rattle.script_engine.specs.NotedRooms.{rooms_at}
use Rattle.script_engine.specs.declared.tables.Tables.{Tables}

-- no two tables are of one name, and no two record indexes
abbrev pub DoNamesDiffer : Definitions → Type 0
DoNamesDiffer defs = AllDefsDiffer defs × AllNamesDiffer (flat_map index_names defs)

-- the definitions may be written to their pages, and are of forms that are built: no generated columns
pub record AreServed (defs : Definitions) : Type 0 where
  pub limits : AreWithinLimits defs
  pub valid : AreValidDefs defs
  pub built : are_built defs ≡ true

-- The pages are told and sound, the catalog is that of their table pages, and the notes in memory are right: of the extents, and
-- of where the rows of each table find room.
pub record IsReady {S : Type 0} (g : Ghosts S) (s : S) (tables : Tables) : Type 0 where
  pub told : IsTrue (g.state s).is_told
  pub view : DatabaseView
  pub sound : KeepAllRules tables.shape (pages_of g s) view
  pub stored : AreStored (pages_of g s) tables.catalog
  pub notes : AreRightNotes tables.shape tables.notes view.owners
  pub rooms : (table : ℕ) (def : TableDef) → def_at tables.catalog table ≡ Some def
      → (forests : TableForests) × IsReadyTable g tables.shape tables.notes (rooms_at tables.rooms table) s def view.owners forests

-- what may be named as damage: the pages weren't ready
abbrev pub BreaksDatabase : {S : Type 0} → Ghosts S → S → Tables → Damage → Type 0
BreaksDatabase g s tables damage = IsReady g s tables → ⊥

-- the table wasn't told to stand with sound record indexes
abbrev pub IsNoSoundTable : {S : Type 0} → Ghosts S → Shape → S → TableDef → Damage → Type 0
IsNoSoundTable g shape s def damage = (owners : List Kind) (forests : TableForests) → StandsTable g shape s def owners forests → HasSoundIndexes g shape s def owners forests → ⊥

-- A statement left the shape of the database, what the run is set to, and definitions of built forms; after a fault they are those that there were.
pub record KeepsServed {X E : Type 0} (result : Result X E) (old new : Tables) : Type 0 where
  pub shape : new.shape ≡ old.shape
  pub settings : new.settings ≡ old.settings
  pub served : AreServed new.catalog
  pub kept : OnErr result (new.catalog ≡ old.catalog)
