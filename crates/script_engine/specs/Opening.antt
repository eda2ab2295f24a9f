-- Which pages an engine may be opened on, and which catalogs it serves.
use Rattle.std.specs.Prelude.{◌≡◌, IsTrue}
use Rattle.mdc_words.specs.Time.{OverTime}
use Rattle.mdc_ast.specs.Definitions.{Definitions}
use Rattle.statement_meaning.specs.Built.{AreBuiltDefs}
use Rattle.store_api.specs.Moments.{OnlyBase}
use Rattle.store_api.specs.declared.pages.Pages.{Ghosts}
use Rattle.store_api.specs.declared.shape.Shape.{Shape}
use Rattle.mdc_sound.specs.SoundDatabase.{IsSoundDatabase}
use Rattle.mdc_sound.specs.StandingTable.{pages_of}
use Rattle.stored_catalog.specs.StoredDefinitions.{AreStored}

-- A store tells a sound database of tables of built forms, all of which is committed.
pub record IsSoundStore {S : Type 0} (g : Ghosts S) (shape : Shape) (s : S) : Type 0 where
  pub told : IsTrue (g.state s).is_told
  pub sound : IsSoundDatabase shape (pages_of g s)
  pub defs : Definitions
  pub stored : AreStored (pages_of g s) defs
  pub valid : AreBuiltDefs defs
  pub committed : (g.state s).base ≡ (g.state s).work

-- The pages of a store and all else that its calls speak of are as they were, but for the page at hand.
pub record KeepsPages {S : Type 0} (g : Ghosts S) (old new : S) : Type 0 where
  pub is_told : (g.state new).is_told ≡ (g.state old).is_told
  pub base : (g.state new).base ≡ (g.state old).base
  pub work : (g.state new).work ≡ (g.state old).work
  pub told : (g.state new).told ≡ (g.state old).told
  pub beside : (g.state new).beside ≡ (g.state old).beside
  pub say_faults : g.say_faults new ≡ g.say_faults old
  pub time : OverTime g.clock g.left (OnlyBase (g.state old)) old new
