-- Which pages a statement changes, whatever the pages are.
use Rattle.std.specs.Prelude.{◌≡◌, ◌⊎◌, ℕ, Bool, true, false, IsTrue, Some}
use Rattle.mdc_ast.specs.declared.bound.Bound.{Bound}
use Rattle.mdc_ast.specs.declared.bound.Bound.TheVariants as bound
use Rattle.mdc_ast.specs.declared.definition.TableDef.{TableDef}
use Rattle.mdc_ast.specs.declared.statement.Stmt.{Stmt}
use Rattle.mdc_ast.specs.Definitions.{Definitions, def_at}
use Rattle.statement_meaning.specs.Binding.{bound_of}
use Rattle.statement_meaning.specs.declared.settings.Settings.{Settings}
use Rattle.store_api.specs.Frame.{Touches}
use Rattle.store_api.specs.declared.pages.Pages.{Ghosts}
use Rattle.store_api.specs.declared.shape.Shape.{Shape}
use Rattle.table_blocks.specs.BlockChanges.{IsTreeOrMapPageOfTable}
use Rattle.mdc_sound.specs.StandingTable.{IsTableSpace, pages_of}
use Rattle.stored_catalog.specs.StoredDefinitions.{AreStored}
use Rattle.stored_catalog.specs.TreeRuns.{IsAddingPage, IsDroppingPage, IsMakingPage}
use Rattle.script_engine.specs.Doing.{goes_by_blocks}
use Rattle.script_engine.specs.declared.tables.Tables.{Tables}

-- where the table was told to stand: by blocks a page of its trees or of the extent map, and by rows one of its blocks too, or an idle one
abbrev pub IsDeletedPage : {S : Type 0} → Ghosts S → Shape → S → TableDef → Bool → ℕ → Type 0
IsDeletedPage g shape s def true p = IsTreeOrMapPageOfTable g shape s def p
IsDeletedPage g shape s def false p = IsTableSpace g shape s def p

-- CREATE TABLE and CREATE INDEX change the table's page, those of the extent map with page 0, and idle ones; DROP TABLE and DROP INDEX
-- the table's page and those of the extent map; a DELETE and REORG TABLE pages of the table, where it stands. Of an INSERT and
-- an UPDATE nothing is said.
abbrev pub TouchesForStatement : {S : Type 0} → Ghosts S → Shape → S → S → Definitions → Settings → Bound → Type 0
TouchesForStatement g shape old new defs settings (bound.CreateTable def) = Touches g (IsAddingPage g shape old defs) old new
TouchesForStatement g shape old new defs settings (bound.CreateIndex place index) = Touches g (IsMakingPage g shape old place) old new
TouchesForStatement g shape old new defs settings (bound.DropTable place) = Touches g (IsDroppingPage shape place) old new
TouchesForStatement g shape old new defs settings (bound.DropIndex place index) = Touches g (IsDroppingPage shape place) old new
TouchesForStatement g shape old new defs settings (bound.Delete place pred) =
    (def : TableDef) → def_at defs place ≡ Some def → Touches g (IsDeletedPage g shape old def (goes_by_blocks settings.rollout pred def)) old new
TouchesForStatement g shape old new defs settings (bound.Reclaim place) = (def : TableDef) → def_at defs place ≡ Some def → Touches g (IsTreeOrMapPageOfTable g shape old def) old new
TouchesForStatement g shape old new defs settings statement = Unit {0}

-- a statement changed only these pages, by the definitions that were held, or by those of the pages
pub record TouchesAsHeld {S : Type 0} (g : Ghosts S) (stmt : Stmt) (old new : S) (before : Tables) : Type 0 where
  pub defs : Definitions
  pub are : (defs ≡ before.catalog) ⊎ (IsTrue (g.state old).is_told → AreStored (pages_of g old) defs)
  pub touches : TouchesForStatement g before.shape old new defs before.settings (bound_of defs stmt)
