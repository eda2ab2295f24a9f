-- What going back to the pages of the last commit leaves of a store and of what is kept of it in memory.
use Rattle.std.specs.Prelude.{◌≡◌, Bool, IsTrue, IfOk, OnOk, IsErrOf, List, Result, None}
use Rattle.mdc_words.specs.Faults.{CountsFault}
use Rattle.store_api.specs.Fetching.{BringsOnly}
use Rattle.store_api.specs.Works.{Steady}
use Rattle.store_api.specs.declared.fault.StoreFault.{StoreFault}
use Rattle.store_api.specs.declared.fault.StoreFault.TheVariants.{Device}
use Rattle.store_api.specs.declared.pages.Pages.{Ghosts}
use Rattle.extent_map.specs.Owners.{AreRightNotes}
use Rattle.extent_map.specs.declared.kind.Kind.{Kind}
use Rattle.statement_rows.specs.RowsOfStatement.{AnyPage}
use Rattle.stored_catalog.specs.StoredDefinitions.{AreStored, AreWithinLimits}
use Rattle.script_engine.specs.NotedRooms.{AreForgotten}
use Rattle.statement_meaning.specs.Built.{are_built}
use Rattle.script_engine.specs.Ready.{DoNamesDiffer}
use Rattle.script_engine.specs.declared.tables.Tables.{Tables}

-- The work is the base, the catalog is that of its table pages, nothing is noted, and it is answered whether all tables are of
-- built forms.
pub record Reloads {S : Type 0} (g : Ghosts S) (result : Result Bool StoreFault) (old new : S) (before now : Tables) : Type 0 where
  pub steady : Steady g old new
  pub work : (g.state new).work ≡ (g.state old).base
  pub unmarked : (g.state new).marked ≡ None
  pub shape : now.shape ≡ before.shape
  pub settings : now.settings ≡ before.settings
  pub brings : BringsOnly g AnyPage old new
  pub notes : (owners : List Kind) → AreRightNotes now.shape now.notes owners
  pub rooms : AreForgotten now.rooms
  pub stored : OnOk result (IsTrue (g.state old).is_told → AreStored (g.state old).base now.catalog)
  pub limits : OnOk result (AreWithinLimits now.catalog)
  pub names : OnOk result (DoNamesDiffer now.catalog)
  pub built : IfOk result (λ served. served ≡ are_built now.catalog)
  pub device : CountsFault (IsErrOf result Device) (g.disk_faults old) (g.disk_faults new)
