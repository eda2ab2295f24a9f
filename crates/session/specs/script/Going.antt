-- A run of a script's items over pages: what is held once each was met, and behind the steps after it.
use Rattle.std.specs.Prelude.{◌≡◌, ℕ, zero, suc, List, [], ◌∷◌}
use Rattle.mdc_ast.specs.declared.reply.Outcome.{Outcome}
use Rattle.mdc_ast.specs.declared.reply.Outcome.TheVariants as said
use Rattle.mdc_ast.specs.declared.refusal.Refusal.{Refusal}
use Rattle.mdc_ast.specs.Reading.{Item, Statement}
use Rattle.mdc_ast.specs.Reading as reading
use Rattle.store_api.specs.declared.shape.Shape.{Shape}
use Rattle.mdc_sound.specs.SoundDatabase.{IsSoundDatabase}
use Rattle.stored_catalog.specs.StoredDefinitions.{AreStored}
use Rattle.script_engine.specs.Held.{HeldPages, StepsOnPages}
use Rattle.script_engine.specs.Resting.{IsHeldWithin, RestsOnPages, held_behind}

-- what one item may do to what is held: a statement steps, and what can't be read is refused and changes nothing
abbrev pub MeetsOnPages : Shape → HeldPages → Item → Outcome → HeldPages → Type 0
MeetsOnPages shape old (Statement stmt) outcome new = StepsOnPages shape old stmt outcome new
MeetsOnPages shape old (reading.Refused refusal) outcome new = (outcome ≡ said.Refused refusal) × (new ≡ old)

-- a stage of a run: what is held once an item was met, and behind each step that is taken after it
pub record Stage : Type 0 where
  pub met : HeldPages
  pub rests : List HeldPages

-- what is held, with no item met and no step taken
abbrev pub still : HeldPages → Stage
still held = record { met = held; rests = [] }

-- what is held at the end of a stage
abbrev pub end_of : Stage → HeldPages
end_of stage = held_behind stage.met stage.rests

-- it is held within a stage: once its item was met, or behind a step after it
abbrev pub IsHeldIn : Stage → HeldPages → Type 0
IsHeldIn stage held = IsHeldWithin stage.met stage.rests held

-- An item was met, and steps were taken after it: it did what it may, and a refusal changed nothing. Before it and once it was met
-- the pages are sound, and the definitions that are held are theirs; each step keeps that.
pub record MeetsItem (shape : Shape) (old : HeldPages) (item : Item) (outcome : Outcome) (stage : Stage) : Type 0 where
  pub meets : MeetsOnPages shape old item outcome stage.met
  pub refused : (refusal : Refusal) → outcome ≡ said.Refused refusal → stage.met ≡ old
  pub was_sound : IsSoundDatabase shape old.work
  pub was_stored : AreStored old.work old.defs
  pub sound : IsSoundDatabase shape stage.met.work
  pub stored : AreStored stage.met.work stage.met.defs
  pub rests : RestsOnPages shape stage.met stage.rests

-- The items have these outcomes, and are met in these stages, each from the end of the one before.
pub data Goes (Met : HeldPages → Item → Outcome → Stage → Type 0) : HeldPages → List Item → List Outcome → List Stage → Type 0 where
  nothing : {held : HeldPages} → Goes Met held [] [] []
  one : {held : HeldPages} {stage : Stage} {item : Item} {outcome : Outcome} {items : List Item} {outcomes : List Outcome} {stages : List Stage}
      → Met held item outcome stage → Goes Met (end_of stage) items outcomes stages → Goes Met held (item ∷ items) (outcome ∷ outcomes) (stage ∷ stages)

-- so they go over sound pages
abbrev pub GoesOnPages : Shape → HeldPages → List Item → List Outcome → List Stage → Type 0
GoesOnPages shape = Goes (MeetsItem shape)

-- the stage after so many items, or after the last one
abbrev pub stage_after : Stage → List Stage → ℕ → Stage
stage_after stage [] n = stage
stage_after stage (next ∷ stages) zero = stage
stage_after stage (next ∷ stages) (suc n) = stage_after next stages n

-- what is held after all items
abbrev pub held_last : HeldPages → List Stage → HeldPages
held_last held [] = held
held_last held (stage ∷ stages) = held_last (end_of stage) stages
