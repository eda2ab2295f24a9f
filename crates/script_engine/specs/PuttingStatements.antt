-- The statements that only put, and what they owe to tight pages.
use Rattle.std.specs.Prelude.{◌≡◌, ◌<◌, ℕ, Some}
use Rattle.mdc_ast.specs.Database.{Database, defs_of}
use Rattle.mdc_ast.specs.Definitions.{empty_place}
use Rattle.mdc_ast.specs.declared.bound.Bound.{Bound}
use Rattle.mdc_ast.specs.declared.bound.Bound.TheVariants as bound
use Rattle.mdc_ast.specs.declared.reply.Outcome.{Outcome}
use Rattle.mdc_ast.specs.declared.reply.Outcome.TheVariants as said
use Rattle.mdc_ast.specs.declared.statement.Stmt.{Stmt}
use Rattle.mdc_ast.specs.declared.statement.Stmt.TheVariants as stmt
use Rattle.statement_meaning.specs.Step.{step}
use Rattle.store_api.specs.declared.shape.Shape.{Shape}
use Rattle.table_trees.specs.ToldPages.{PageList}
use Rattle.mdc_sound.specs.SoundDatabase.{KeepAllRules}
use Rattle.mdc_sound.specs.SpaceRules.{DatabaseView}
use Rattle.mdc_sound.specs.StandsForDatabase.{PagesStandFor}
use Rattle.mdc_sound.specs.TightPages.{AreTightPages, need}

-- ---- which they are

-- a CREATE TABLE for which a place is empty, a CREATE INDEX or an INSERT
abbrev pub OnlyPuts : Database → Bound → Type 0
OnlyPuts db (bound.CreateTable def) = (place : ℕ) × (empty_place (defs_of db) ≡ Some place)
OnlyPuts db (bound.CreateIndex place index) = Unit {0}
OnlyPuts db (bound.Insert place tuples) = Unit {0}
OnlyPuts db statement = ⊥

-- the same of a statement's text
abbrev pub OnlyPutsByText : Stmt → Type 0
OnlyPutsByText (stmt.CreateTable name columns dims) = Unit {0}
OnlyPutsByText (stmt.CreateIndex name unique table parts) = Unit {0}
OnlyPutsByText (stmt.Insert name listed tuples) = Unit {0}
OnlyPutsByText statement = ⊥

-- ---- on tight pages

-- the pages are those of a sound database, and tight
pub record IsTightDatabase (shape : Shape) (pages : PageList) : Type 0 where
  pub view : DatabaseView
  pub sound : KeepAllRules shape pages view
  pub tight : AreTightPages shape pages view

-- one that only puts would make a database on tight pages that needs more extents than there are
abbrev pub NeedsMoreExtents : Shape → PageList → Stmt → Type 0
NeedsMoreExtents shape pages stmt =
    OnlyPutsByText stmt → IsTightDatabase shape pages → (db : Database) → PagesStandFor shape pages db → shape.extents < need shape (step db stmt).0

-- one that only puts, and is done, leaves tight pages
abbrev pub LeavesTight : Shape → PageList → PageList → Stmt → Outcome → Type 0
LeavesTight shape old new stmt outcome =
    OnlyPutsByText stmt → (reply : _) → outcome ≡ said.Done reply → IsTightDatabase shape old → IsTightDatabase shape new
