-- What a statement is to the engine, and what hangs on that alone.
use Rattle.std.specs.Prelude.{Bool, true, false}
use Rattle.mdc_ast.specs.declared.name.Name.{Name}
use Rattle.mdc_ast.specs.declared.statement.Select.{Select}
use Rattle.mdc_ast.specs.declared.statement.Stmt.{Stmt}
use Rattle.mdc_ast.specs.declared.statement.Stmt.TheVariants as statement
use Rattle.statement_meaning.specs.Built.{is_built_mode, is_built_step}
use Rattle.statement_meaning.specs.declared.settings.Settings.{Settings}
use Rattle.script_engine.specs.declared.class.Class.{Class}
use Rattle.script_engine.specs.declared.class.Class.TheVariants as class
use Rattle.script_engine.specs.declared.class.Setting.{Setting}
use Rattle.script_engine.specs.declared.class.Setting.TheVariants as setting

-- what a statement is to the engine: BEGIN, COMMIT, ROLLBACK, one that sets what the run is set to, LIST BLOCKS of a table of that
-- name, EXPLAIN, a query, one that may change tables, indexes or rows, or one whose form isn't built
pub data Role : Type 0 where
  Begins : Role
  Commits : Role
  GoesBack : Role
  Sets : Setting → Role
  Lists : Name → Role
  Explains : Select → Role
  Queries : Role
  Changes : Role
  IsUnbuilt : Role

-- what each statement is
abbrev pub role_of : Stmt → Role
role_of statement.Begin = Begins
role_of statement.Commit = Commits
role_of statement.Rollback = GoesBack
role_of (statement.SetPlan mode) = Sets (setting.Plan mode)
role_of (statement.SetRollout mode) = Sets (setting.Rollout mode)
role_of (statement.ListBlocks name) = Lists name
role_of (statement.Explain select) = Explains select
role_of (statement.Query select) = Queries
role_of (statement.CreateTable name columns dims) = Changes
role_of (statement.CreateIndex name unique table parts) = Changes
role_of (statement.DropTable name) = Changes
role_of (statement.DropIndex name) = Changes
role_of (statement.Insert name listed tuples) = Changes
role_of (statement.Update name sets pred) = Changes
role_of (statement.Delete name pred) = Changes
role_of (statement.Reclaim name) = Changes
role_of stmt = IsUnbuilt

-- what the class of a statement says that it is
abbrev pub role_in : Class → Role
role_in class.Begin = Begins
role_in class.Commit = Commits
role_in class.Rollback = GoesBack
role_in (class.Set setting) = Sets setting
role_in (class.List name) = Lists name.now
role_in (class.Explain select) = Explains select.now
role_in class.Query = Queries
role_in class.Change = Changes
role_in class.Unbuilt = IsUnbuilt

-- it opens or ends a transaction
abbrev pub is_control : Role → Bool
is_control Begins = true
is_control Commits = true
is_control GoesBack = true
is_control role = false

-- it goes back to the pages of the last commit
abbrev pub is_going_back : Role → Bool
is_going_back GoesBack = true
is_going_back role = false

-- it is tried on the pages: it neither opens nor ends a transaction, nor sets what the run is set to
abbrev pub is_tried : Role → Bool
is_tried Begins = false
is_tried Commits = false
is_tried GoesBack = false
is_tried (Sets setting) = false
is_tried role = true

-- it tells how many blocks a table has in each state
abbrev pub is_listing : Role → Bool
is_listing (Lists name) = true
is_listing role = false

-- it is EXPLAIN
abbrev pub is_explain : Role → Bool
is_explain (Explains select) = true
is_explain role = false

-- lists of rows may leave its reply to the pages
abbrev pub tells_pages : Role → Bool
tells_pages (Lists name) = true
tells_pages (Explains select) = true
tells_pages role = false

-- it changes nothing, in a transaction or outside of one
abbrev pub only_reads : Role → Bool
only_reads (Lists name) = true
only_reads (Explains select) = true
only_reads Queries = true
only_reads role = false

-- ---- settings

-- what is set is built: of the rollout modes, those that are
abbrev pub is_built_setting : Setting → Bool
is_built_setting (setting.Plan mode) = true
is_built_setting (setting.Rollout mode) = is_built_mode mode

-- these settings, with this one set
abbrev pub set_on : Setting → Settings → Settings
set_on (setting.Plan mode) settings = record settings { plan = mode }
set_on (setting.Rollout mode) settings = record settings { rollout = mode }

-- ---- forms

-- its form is built: a database steps by it, or, where it turns a session alone, always
abbrev pub is_built_as : Role → Bool → Bool
is_built_as Queries steps = steps
is_built_as Changes steps = steps
is_built_as IsUnbuilt steps = steps
is_built_as (Sets setting) steps = is_built_setting setting
is_built_as role steps = true

-- a statement's form is built
abbrev pub is_built_form : Stmt → Bool
is_built_form stmt = is_built_as (role_of stmt) (is_built_step stmt)
