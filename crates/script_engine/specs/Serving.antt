-- An engine between two calls.
use Rattle.std.specs.Prelude.{◌≡◌, true, false, None}
use Rattle.mdc_ast.specs.Definitions.{Definitions}
use Rattle.statement_meaning.specs.Built.{AreBuiltDefs}
use Rattle.store_api.specs.declared.pages.Pages.{Ghosts}
use Rattle.stored_catalog.specs.StoredDefinitions.{AreStored}
use Rattle.mdc_sound.specs.SoundDatabase.{KeepAllRules}
use Rattle.mdc_sound.specs.SpaceRules.{DatabaseView}
use Rattle.script_engine.specs.Held.{HeldPages}
use Rattle.script_engine.specs.Ready.{AreServed, IsReady}
use Rattle.script_engine.specs.declared.engine.Engine.{Engine}

-- what an engine holds
abbrev pub held_by : {S : Type 0} → Ghosts S → Engine S → HeldPages
held_by g engine = record {
  base = (g.state engine.store).base;
  work = (g.state engine.store).work;
  defs = engine.tables.catalog;
  open_ = engine.is_open;
  settings = engine.tables.settings;
  pass = engine.pass;
}

-- The engine may take a call: its store takes calls, no mark is open, and definitions of built forms are served.
pub record MayCall {S : Type 0} (g : Ghosts S) (engine : Engine S) : Type 0 where
  pub going : (g.state engine.store).ended ≡ false
  pub unmarked : (g.state engine.store).marked ≡ None
  pub served : engine.served ≡ true → AreServed engine.tables.catalog

-- The engine is told to be sound: its tables are of built forms, the pages are ready for a statement, those of the last commit are
-- sound and of built forms too, and where no transaction is open they are the same.
pub record IsReadyEngine {S : Type 0} (g : Ghosts S) (engine : Engine S) : Type 0 where
  pub served : engine.served ≡ true
  pub work : IsReady g engine.store engine.tables
  pub base_view : DatabaseView
  pub base_sound : KeepAllRules engine.tables.shape (g.state engine.store).base base_view
  pub base_defs : Definitions
  pub base_stored : AreStored (g.state engine.store).base base_defs
  pub base_valid : AreBuiltDefs base_defs
  pub closed : engine.is_open ≡ false → (g.state engine.store).base ≡ (g.state engine.store).work
