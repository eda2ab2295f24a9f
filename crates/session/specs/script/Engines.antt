-- The engines on which a session is told.
use Rattle.std.specs.Prelude.{◌≡◌, Bool}
use Rattle.store_api.specs.declared.pages.Pages.{Ghosts}
use Rattle.store_api.specs.declared.shape.Shape.{Shape}
use Rattle.script_engine.specs.OnAnyPages.{IsGoingEngine}
use Rattle.script_engine.specs.Serving.{IsReadyEngine}
use Rattle.script_engine.specs.declared.engine.Engine.{Engine}

-- a sound engine of this shape
pub record IsSoundEngine {S : Type 0} (g : Ghosts S) (shape : Shape) (engine : Engine S) : Type 0 where
  pub ready : IsReadyEngine g engine
  pub is_shape : engine.tables.shape ≡ shape

-- an engine of this shape, on pages that are told or not
pub record IsAnyEngine {S : Type 0} (g : Ghosts S) (told : Bool) (shape : Shape) (engine : Engine S) : Type 0 where
  pub going : IsGoingEngine g engine
  pub is_told : (g.state engine.store).is_told ≡ told
  pub is_shape : engine.tables.shape ≡ shape
