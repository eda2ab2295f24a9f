-- Unique keys of a table whose rows were changed: those of the plain table are those of its rows on pages.
use Rattle.std.proofs.Common.{◌≡◌, ◌<◌, ◌+◌, ◌∙◌, ℕ, Bool, List, [], ◌∷◌, ap, arith, map, subst, sym}
use Rattle.std.specs.Prelude.{Option, Some, None, filter, option_and_then, slice_get}
use Rattle.std.specs.List.{AllByRecursion}
use Rattle.mdc_ast.specs.declared.bound.Bound.{Bound}
use Rattle.mdc_ast.specs.declared.definition.IndexDef.{IndexDef}
use Rattle.mdc_ast.specs.declared.definition.TableDef.{TableDef}
use Rattle.mdc_ast.specs.declared.row.Row.{Row}
use Rattle.mdc_ast.specs.Database.{Database, PlainTable, changed_at, table_at}
use Rattle.mdc_ast.specs.ValidDatabase.{IsUniqueIn}
use Rattle.statement_meaning.specs.Doing.{duplicate_causes, effect, key_causes, keyed_place}
use Rattle.statement_meaning.specs.Judging.{of_some}
use Rattle.statement_meaning.proofs.CausesLemmas.{none_of_some}
use Rattle.statement_meaning.proofs.DatabaseLemmas.{table_at-changed}
use Rattle.statement_meaning.proofs.KeysLemmas.{all_are_unique, unique_among_fewer}
use Rattle.store_api.specs.declared.shape.Shape.{Shape}
use Rattle.table_trees.specs.ToldPages.{PageList}
use Rattle.mdc_sound.specs.BlockRules.{AreTableKeysSound}
use Rattle.mdc_sound.specs.SoundDatabase.{IsSoundBetweenChanges, KeepAllRules, with_table_page}
use Rattle.mdc_sound.specs.SpaceRules.{DatabaseView}
use Rattle.mdc_sound.specs.StandsForDatabase.{HoldsPlace, HoldsTable, PagesStandFor, rootless_index}
use Rattle.mdc_sound.specs.TableRows.{rows_in_table}
use Rattle.mdc_sound.proofs.ChangedDatabaseLemmas.{table_of_view}
use Rattle.mdc_sound.proofs.SpaceRulesLemmas.{range_at, same_table, there_at}
use Rattle.unique_keys.proofs.UniqueRowsLemmas.{keys_of_placed, keys_of_plain}

-- ---- the plain table in a place

-- the table in a place
table_there : (db : Database) (place : ℕ) (table : PlainTable) → table_at db place ≡ Some table → slice_get db place ≡ Some (Some table)
table_there db place table is = go (slice_get db place) is
  where
    go : (found : Option (Option PlainTable)) → option_and_then (λ t. t) found ≡ Some table → found ≡ Some (Some table)
    go None none = absurd (cc)
    go (Some found) some = ap Some some

-- is one that the table page of that place holds
pub table_held : (shape : Shape) (pages : PageList) (db : Database) (place : ℕ) (table : PlainTable) → PagesStandFor shape pages db → table_at db place ≡ Some table
    → (place < 16) × HoldsTable shape pages place table
table_held shape pages db place table stands at =
    let here : 0 + place ≡ place = omega arith in
    let found = range_at (HoldsPlace shape pages) 0 16 db place (Some table) stands (table_there db place table at) in
    (found.0, subst (λ t. HoldsTable shape pages t table) here found.1)

-- ---- a change that keeps UNIQUE indexes

-- once the change is made, the plain table in a place keeps its UNIQUE indexes
abbrev pub KeepsKeys : Shape → PageList → ℕ → (PlainTable → PlainTable) → Type 0
KeepsKeys shape pages place change =
    (db : Database) → PagesStandFor shape pages db → (table : PlainTable) → table_at db place ≡ Some table → AllByRecursion (IsUniqueIn (change table).rows) (change table).def.indexes

-- so does what a statement does, where nothing is said of keys
pub keeps_by_causes : (shape : Shape) (pages : PageList) (place : ℕ) (change : PlainTable → PlainTable) (statement : Bound) → keyed_place statement ≡ Some place
    → ((db : Database) → PagesStandFor shape pages db → changed_at db place change ≡ (effect db statement).0)
    → ((db : Database) → PagesStandFor shape pages db → key_causes db statement ≡ []) → KeepsKeys shape pages place change
keeps_by_causes shape pages place change statement keyed does unsaid db stands table at =
    let said : of_some (table_at (effect db statement).0 place) duplicate_causes ≡ [] =
    none_of_some (keyed_place statement) place (λ (t : ℕ). of_some (table_at (effect db statement).0 t) duplicate_causes) keyed (unsaid db stands) in
    let after : table_at (effect db statement).0 place ≡ Some (change table) = ap (λ (d : Database). table_at d place) (sym (does db stands)) ∙ table_at-changed db place table change at in
    all_are_unique (change table).rows (change table).def.indexes (none_of_some (table_at (effect db statement).0 place) (change table) duplicate_causes after said)

-- ---- sound pages

module _ (rows : List Row) where
  -- nothing that is said of keys looks at roots
  rooted_too : (indexes : List IndexDef) → AllByRecursion (IsUniqueIn rows) (map rootless_index indexes) → AllByRecursion (IsUniqueIn rows) indexes
  rooted_too [] all = tt
  rooted_too (index ∷ indexes) all = (all.0, rooted_too indexes all.1)

  rootless_too : (indexes : List IndexDef) → AllByRecursion (IsUniqueIn rows) indexes → AllByRecursion (IsUniqueIn rows) (map rootless_index indexes)
  rootless_too [] all = tt
  rootless_too (index ∷ indexes) all = (all.0, rootless_too indexes all.1)

-- a table of sound pages keeps its UNIQUE indexes
pub keys_before : (shape : Shape) (pages : PageList) (view : DatabaseView) → KeepAllRules shape pages view → (db : Database) → PagesStandFor shape pages db → (place : ℕ) (table : PlainTable) → table_at db place ≡ Some table
    → AllByRecursion (IsUniqueIn table.rows) table.def.indexes
keys_before shape pages view keeps db stands place table at =
    let held = table_held shape pages db place table stands at in
    let found = table_of_view shape pages view keeps.first place held.0 table held.1 in
    subst (λ (d : TableDef). AllByRecursion (IsUniqueIn table.rows) d.indexes) (sym found.2.def_is)
    (rootless_too table.rows found.0.def.indexes
    (keys_of_placed (rows_in_table shape pages found.0.def found.0.map) table.rows found.0.def.indexes found.2.same_rows
    (there_at (AreTableKeysSound shape pages) view.places place found.0 found.1 keeps.rule12.unique)))

-- so does one of which some rows alone are left
pub keeps_fewer : (shape : Shape) (pages : PageList) (view : DatabaseView) (place : ℕ) (change : PlainTable → PlainTable) (stays : Row → Bool) → KeepAllRules shape pages view
    → ((db : Database) → PagesStandFor shape pages db → (table : PlainTable) → table_at db place ≡ Some table → change table ≡ record table { rows = filter stays table.rows }) → KeepsKeys shape pages place change
keeps_fewer shape pages view place change stays keeps fewer db stands table at =
    subst (λ (now : PlainTable). AllByRecursion (IsUniqueIn now.rows) now.def.indexes) (sym (fewer db stands table at))
    (unique_among_fewer stays table.rows table.def.indexes (keys_before shape pages view keeps db stands place table at))

-- and rule 12 holds of a table that was changed, where the plain table keeps its UNIQUE indexes
pub keys_after : (shape : Shape) (def : TableDef) (pages : PageList) (between : IsSoundBetweenChanges shape def pages) (db : Database) → PagesStandFor shape (with_table_page def pages) db
    → (table : PlainTable) → table_at db def.number ≡ Some table → AllByRecursion (IsUniqueIn table.rows) table.def.indexes → AreTableKeysSound shape (with_table_page def pages) between.sound.table
keys_after shape def pages between db stands table at unique =
    let last : PageList = with_table_page def pages in
    let held = table_held shape last db def.number table stands at in
    let found = table_of_view shape last between.sound.view between.sound.first def.number held.0 table held.1 in
    subst (AreTableKeysSound shape last) (same_table found.0 between.sound.table (sym found.1 ∙ between.sound.there))
    (keys_of_plain (rows_in_table shape last found.0.def found.0.map) table.rows found.0.def.indexes found.2.same_rows
    (rooted_too table.rows found.0.def.indexes (subst (λ (d : TableDef). AllByRecursion (IsUniqueIn table.rows) d.indexes) found.2.def_is unique)))
