-- Each statement keeps what holds of every database.
use Rattle.std.proofs.Common.{◌≡◌, ℕ, ◌+◌, ◌<◌, ◌≤◌, List, [], ◌∷◌, ◌++◌, length, map, Bool, true, false, refl, sym, ap, subst, ◌∙◌, arith}
use Rattle.std.specs.Prelude.{◌&&◌, not, nat_lt, flat_map, remove, if◌then◌else◌, Option, Some, None, is_some, option_and_then}
use Rattle.std.specs.List.{AllByRecursion}
use Rattle.std.proofs.lemmas.Bool.Decides.{nat_tests}
use Rattle.std.proofs.lemmas.List.{length-append}
use Rattle.std.proofs.lemmas.List.Edits.{length-remove}
use Rattle.mdc_values.specs.declared.value.Value.{Value}
use Rattle.mdc_ast.specs.declared.bound.Bound.{Bound}
use Rattle.mdc_ast.specs.declared.bound.Bound.TheVariants as bound
use Rattle.mdc_ast.specs.declared.definition.ColumnDef.{ColumnDef}
use Rattle.mdc_ast.specs.declared.definition.IndexDef.{IndexDef}
use Rattle.mdc_ast.specs.declared.definition.TableDef.{TableDef}
use Rattle.mdc_ast.specs.declared.name.Name.{Name}
use Rattle.mdc_ast.specs.declared.predicate.Pred.{Pred}
use Rattle.mdc_ast.specs.declared.predicate.PredText.{PredText}
use Rattle.mdc_ast.specs.declared.reply.Reply.{Reply}
use Rattle.mdc_ast.specs.declared.row.Row.{Row}
use Rattle.mdc_ast.specs.declared.statement.ColumnText.{ColumnText}
use Rattle.mdc_ast.specs.declared.statement.InsertItem.{InsertItem}
use Rattle.mdc_ast.specs.declared.statement.KeyText.{KeyText}
use Rattle.mdc_ast.specs.declared.statement.SetText.{SetText}
use Rattle.mdc_ast.specs.declared.statement.Stmt.{Stmt}
use Rattle.mdc_ast.specs.declared.statement.Stmt.TheVariants as stmt
use Rattle.statement_meaning.specs.Binding.{bound_drop_index, bound_index, bound_of, bound_on, bound_set, bound_table, bound_tuple, bound_where, columns_of, on_place}
use Rattle.statement_meaning.specs.Cause.{Cause, IndexExists, NotBuilt, TableExists, cause_if, refusal_of}
use Rattle.mdc_ast.specs.Database.{Database, PlainTable, changed_at, defs_of, table_at, appended}
use Rattle.mdc_ast.specs.ValidDatabase.{IsUniqueIn, IsValid, IsValidDef, IsValidIndex, index_names}
use Rattle.mdc_ast.specs.FittingRows.{RowFits}
use Rattle.mdc_ast.specs.Definitions.{Definitions, def_at, def_named, empty_place, index_place_of, place_of}
use Rattle.statement_meaning.specs.Doing.{causes_of_rows, changed_row, changed_table, duplicate_causes, effect, entered, indexed_table, key_causes, left_table, null_causes, number_causes, unindexed_table, used_up, value_causes}
use Rattle.mdc_ast.specs.Truth.{qualifies}
use Rattle.statement_meaning.specs.Judged.{create_judged, index_judged, judged_of, sets_judged, set_columns, set_types, targets}
use Rattle.statement_meaning.specs.Judging.{Judged, in_order, on_defined, on_table, then_judged, where_judged}
use Rattle.statement_meaning.specs.Step.{Refused, faults, step, step_by}
use Rattle.statement_meaning.specs.Built.{IsBuiltDatabase, are_built, has_no_generated, is_built_step}
use Rattle.statement_meaning.proofs.BuiltLemmas.{is_valid_table, values_fit}
use Rattle.statement_meaning.proofs.CausesLemmas.{none_if, none_of_both, none_of_some}
use Rattle.statement_meaning.proofs.CreateLemmas.{created_is_valid, none_made}
use Rattle.statement_meaning.proofs.DatabaseLemmas.{IsValidAt, changed_at_keeps, changed_at-none, changed_names_keep, def_at-defs_of, def_of, def_there, is_valid_at, table_at-changed, with_place_keeps}
use Rattle.statement_meaning.proofs.IndexLemmas.{MayHaveIndex, created_index}
use Rattle.statement_meaning.proofs.IndexNamesLemmas.{IsIndexAt, all_kept, found_index, free_name, names_left, names_with_index, removed_thinner}
use Rattle.statement_meaning.proofs.KeysLemmas.{all-last, all-remove, all_are_unique, unique_among_fewer}
use Rattle.mdc_ast.proofs.DefinitionsLemmas.{emptied_too, none_named}
use Rattle.mdc_ast.proofs.TestsLemmas.{some_is}
use Rattle.statement_meaning.proofs.RowsLemmas.{all-append, all-filter, numbered_fit, rises-append, rises-filter, rises-map}
use Rattle.statement_meaning.proofs.UpdateLemmas.{AreSettable, all_changed_fit, number-changed_row}

-- ---- what nothing is said against

-- nothing is said by any class
pub record IsFaultless (j : Judged) : Type 0 where
  pub names : j.names ≡ []
  pub columns : j.columns ≡ []
  pub types : j.types ≡ []
  pub limits : j.limits ≡ []
  pub values : j.values ≡ []

pub is_faultless : (j : Judged) → in_order j ≡ [] → IsFaultless j
is_faultless j e =
    let values = none_of_both (j.names ++ j.columns ++ j.types ++ j.limits) j.values e in
    let limits = none_of_both (j.names ++ j.columns ++ j.types) j.limits values.0 in
    let types = none_of_both (j.names ++ j.columns) j.types limits.0 in
    let columns = none_of_both j.names j.columns types.0 in
    record { names = columns.0; columns = columns.1; types = types.1; limits = limits.1; values = values.1 }

-- nothing is said of the rows, class by class
record IsFaultlessOnRows (db : Database) (statement : Bound) : Type 0 where
  pub values : value_causes db statement ≡ []
  pub keys : key_causes db statement ≡ []
  pub numbers : number_causes db statement ≡ []

none_of_each_class : (db : Database) (statement : Bound) → causes_of_rows db statement ≡ [] → IsFaultlessOnRows db statement
none_of_each_class db statement e =
    let front = none_of_both (value_causes db statement ++ key_causes db statement) (number_causes db statement) e in
    let parts = none_of_both (value_causes db statement) (key_causes db statement) front.0 in
    record { values = parts.0; keys = parts.1; numbers = front.1 }

-- ---- the rows of one table

few_numbers : (next count : ℕ) → used_up next count ≡ [] → next + count < 18446744073709551616
few_numbers next count e = below (next + count) (none_if _ _ e)
  where
    below : (n : ℕ) → nat_lt 18446744073709551615 n ≡ false → n < 18446744073709551616
    below n is = grind (arith, nat_tests, is)

insert_at : (db : Database) (place : ℕ) (table : PlainTable) (names : List Name) (tuples : List (List InsertItem)) → IsBuiltDatabase db → table_at db place ≡ Some table → causes_of_rows db (bound.Insert place (map (bound_tuple table.def.columns names) tuples)) ≡ [] → IsBuiltDatabase (changed_at db place (appended (map (bound_tuple table.def.columns names) tuples)))
insert_at db place table names tuples valid at e =
    let rows : List (List Value) = map (bound_tuple table.def.columns names) tuples in
    let causes = none_of_each_class db (bound.Insert place rows) e in
    let nulls : flat_map (null_causes table.def.columns) rows ≡ [] = none_of_some (table_at db place) table _ at causes.values in
    let numbers : used_up table.def.next (length rows) ≡ [] = none_of_some (table_at db place) table _ at causes.numbers in
    let keys : duplicate_causes (appended rows table) ≡ [] =
    none_of_some (table_at (changed_at db place (appended rows)) place) (appended rows table) duplicate_causes (table_at-changed db place table (appended rows) at) causes.keys in
    let here : IsValidAt db place table = is_valid_at db place table valid at in
    changed_at_keeps db place table (appended rows) valid at refl (all_kept (index_names (Some table.def))) here.built
    (record {
      stands = here.def.stands;
      short = here.def.short;
      few = here.def.few;
      short_names = here.def.short_names;
      good_types = here.def.good_types;
      names_differ = here.def.names_differ;
      narrow = here.def.narrow;
      few_dims = here.def.few_dims;
      dims_there = here.def.dims_there;
      dims_apart = here.def.dims_apart;
      short_keys = here.def.short_keys;
      short_composite = here.def.short_composite;
      sources = here.def.sources;
      few_indexes = here.def.few_indexes;
      indexes = here.def.indexes;
      few_rows = few_numbers table.def.next (length rows) numbers;
    })
    (is_valid_table (appended rows table) here.built
    (rises-append 0 table.rows table.def.next rows here.rows.rising)
    (all-append _ table.rows _ (values_fit table.def table.rows here.rows.fitting) (numbered_fit table.def.columns names tuples table.def.next nulls))
    (all_are_unique (appended rows table).rows table.def.indexes keys))

update_at : (db : Database) (place : ℕ) (table : PlainTable) (sets : List SetText) (pred : Option Pred) → IsBuiltDatabase db → table_at db place ≡ Some table → AreSettable table.def.columns [] sets → causes_of_rows db (bound.Update place (map (bound_set table.def.columns) sets) pred) ≡ [] → IsBuiltDatabase (changed_at db place (changed_table (map (bound_set table.def.columns) sets) pred))
update_at db place table sets pred valid at settable e =
    let sets' = map (bound_set table.def.columns) sets in
    let causes = none_of_each_class db (bound.Update place sets' pred) e in
    let keys : duplicate_causes (changed_table sets' pred table) ≡ [] =
    none_of_some (table_at (changed_at db place (changed_table sets' pred)) place) (changed_table sets' pred table) duplicate_causes (table_at-changed db place table (changed_table sets' pred) at) causes.keys in
    let here : IsValidAt db place table = is_valid_at db place table valid at in
    changed_at_keeps db place table (changed_table sets' pred) valid at refl (all_kept (index_names (Some table.def))) here.built here.def
    (is_valid_table (changed_table sets' pred table) here.built
    (rises-map (changed_row sets' pred) 0 table.rows table.def.next (number-changed_row sets' pred) here.rows.rising)
    (all_changed_fit table.def.columns sets pred table.rows settable (none_of_some (table_at db place) table _ at causes.values) (values_fit table.def table.rows here.rows.fitting))
    (all_are_unique (changed_table sets' pred table).rows table.def.indexes keys))

delete_at : (db : Database) (place : ℕ) (table : PlainTable) (pred : Option Pred) → IsBuiltDatabase db → table_at db place ≡ Some table → IsBuiltDatabase (changed_at db place (left_table pred))
delete_at db place table pred valid at =
    let here : IsValidAt db place table = is_valid_at db place table valid at in
    changed_at_keeps db place table (left_table pred) valid at refl (all_kept (index_names (Some table.def))) here.built here.def
    (is_valid_table (left_table pred table) here.built
    (rises-filter (λ row. not (qualifies pred row.values)) 0 table.rows table.def.next here.rows.rising)
    (all-filter _ (λ row. not (qualifies pred row.values)) table.rows (values_fit table.def table.rows here.rows.fitting))
    (unique_among_fewer (λ row. not (qualifies pred row.values)) table.rows table.def.indexes here.rows.unique))

-- ---- the record indexes of one table

-- a definition with other record indexes
pub with_indexes_valid : (place : ℕ) (def : TableDef) (indexes : List IndexDef) → IsValidDef place def → length indexes ≤ 8 → AllByRecursion (IsValidIndex def.columns) indexes → IsValidDef place (record def { indexes = indexes })
with_indexes_valid place def indexes is few valid = record {
  stands = is.stands;
  short = is.short;
  few = is.few;
  short_names = is.short_names;
  good_types = is.good_types;
  names_differ = is.names_differ;
  narrow = is.narrow;
  few_dims = is.few_dims;
  dims_there = is.dims_there;
  dims_apart = is.dims_apart;
  short_keys = is.short_keys;
  short_composite = is.short_composite;
  sources = is.sources;
  few_indexes = few;
  indexes = valid;
  few_rows = is.few_rows;
}

-- what a row asks of a definition is the same with other record indexes
still_fits : (def : TableDef) (indexes : List IndexDef) (rows : List Row) → AllByRecursion (RowFits def) rows → AllByRecursion (RowFits (record def { indexes = indexes })) rows
still_fits def indexes [] fit = tt
still_fits def indexes (row ∷ rows) fit = (record { values = fit.0.values; generated = fit.0.generated }, still_fits def indexes rows fit.1)

index_at : (db : Database) (place : ℕ) (table : PlainTable) (index : IndexDef) → IsBuiltDatabase db → table_at db place ≡ Some table → MayHaveIndex table.def index → index_place_of (defs_of db) index.name ≡ None
    → causes_of_rows db (bound.CreateIndex place index) ≡ [] → IsBuiltDatabase (changed_at db place (indexed_table index))
index_at db place table index valid at may free e =
    let causes = none_of_each_class db (bound.CreateIndex place index) e in
    let keys : duplicate_causes (indexed_table index table) ≡ [] =
    none_of_some (table_at (changed_at db place (indexed_table index)) place) (indexed_table index table) duplicate_causes (table_at-changed db place table (indexed_table index) at) causes.keys in
    let here : IsValidAt db place table = is_valid_at db place table valid at in
    let more : List IndexDef = table.def.indexes ++ index ∷ [] in
    changed_names_keep db place table (indexed_table index) valid at refl here.built
    (with_indexes_valid place table.def more here.def (rw (length-append table.def.indexes (index ∷ [])) (omega (arith, may.few))) (all-last (IsValidIndex table.def.columns) table.def.indexes index here.def.indexes may.valid))
    (record { rising = here.rows.rising; fitting = still_fits table.def more table.rows here.rows.fitting; unique = all_are_unique table.rows more keys })
    (names_with_index (defs_of db) place table.def index (def_there db place table at) valid.valid.defs.index_names_differ (free_name (defs_of db) index.name free))

unindex_at : (db : Database) (place : ℕ) (table : PlainTable) (index : ℕ) → IsBuiltDatabase db → table_at db place ≡ Some table → index < length table.def.indexes → IsBuiltDatabase (changed_at db place (unindexed_table index))
unindex_at db place table index valid at low =
    let here : IsValidAt db place table = is_valid_at db place table valid at in
    let fewer : List IndexDef = remove table.def.indexes index in
    changed_at_keeps db place table (unindexed_table index) valid at refl (removed_thinner table.def.indexes index) here.built
    (with_indexes_valid place table.def fewer here.def (fewer_than table.def.indexes index low here.def.few_indexes) (all-remove (IsValidIndex table.def.columns) table.def.indexes index here.def.indexes))
    (record { rising = here.rows.rising; fitting = still_fits table.def fewer table.rows here.rows.fitting; unique = all-remove (IsUniqueIn table.rows) table.def.indexes index here.rows.unique })
  where
    fewer_than : (indexes : List IndexDef) (index : ℕ) → index < length indexes → length indexes ≤ 8 → length (remove indexes index) ≤ 8
    fewer_than indexes index low few = omega (arith, length-remove indexes index low, few)

-- ---- where a table is

-- the table of a name: it is at a place, or there is none
pub data IsFound : Database → Name → Type 0 where
  missing : {db : Database} {name : Name} → place_of (defs_of db) name ≡ None → IsFound db name
  nowhere : {db : Database} {name : Name} (place : ℕ) → place_of (defs_of db) name ≡ Some place → table_at db place ≡ None → IsFound db name
  there : {db : Database} {name : Name} (place : ℕ) (table : PlainTable) → place_of (defs_of db) name ≡ Some place → table_at db place ≡ Some table → def_named (defs_of db) name ≡ Some table.def → IsFound db name

pub is_found : (db : Database) (name : Name) → IsFound db name
is_found db name = by_place (place_of (defs_of db) name) refl
  where
    by_table : (place : ℕ) (table : Option PlainTable) → place_of (defs_of db) name ≡ Some place → table_at db place ≡ table → IsFound db name
    by_table place None is at = nowhere place is at
    by_table place (Some table) is at = there place table is at (ap (option_and_then (def_at (defs_of db))) is ∙ def_at-defs_of db place ∙ ap def_of at)

    by_place : (found : Option ℕ) → place_of (defs_of db) name ≡ found → IsFound db name
    by_place None is = missing is
    by_place (Some place) is = by_table place (table_at db place) is refl

-- a statement on a table that is there is bound by its place and columns
pub bound_on-there : (defs : Definitions) (name : Name) (place : ℕ) (def : TableDef) (bind : ℕ → List ColumnDef → Bound) → place_of defs name ≡ Some place → def_named defs name ≡ Some def → bound_on defs name bind ≡ bind place def.columns
bound_on-there defs name place def bind is named = ap (λ found. on_place (place_of defs name) (columns_of found) bind) named ∙ ap (λ found. on_place found def.columns bind) is

-- and judged by its columns
pub on_table-there : (name : Name) (found : Option TableDef) (def : TableDef) (judge : List ColumnDef → Judged) → found ≡ Some def → on_table name found judge ≡ judge def.columns
on_table-there name found def judge named = rw named refl

-- ---- the statements

insert_keeps : (db : Database) (name : Name) (listed : Option (List Name)) (tuples : List (List InsertItem)) → IsBuiltDatabase db → in_order (judged_of (defs_of db) (stmt.Insert name listed tuples)) ++ causes_of_rows db (bound_of (defs_of db) (stmt.Insert name listed tuples)) ≡ [] → IsBuiltDatabase (effect db (bound_of (defs_of db) (stmt.Insert name listed tuples))).0
insert_keeps db name listed tuples valid e = by_found (is_found db name)
  where
    by_found : IsFound db name → IsBuiltDatabase (effect db (bound_of (defs_of db) (stmt.Insert name listed tuples))).0
    by_found (missing is) = rw is valid
    by_found (nowhere place is at) = rw (is, changed_at-none db place (appended _) at) valid
    by_found (there place table is at named) =
        let bind : ℕ → List ColumnDef → Bound = λ place columns. bound.Insert place (map (bound_tuple columns (targets columns listed)) tuples) in
        let there : bound_on (defs_of db) name bind ≡ bind place table.def.columns = bound_on-there (defs_of db) name place table.def bind is named in
        let said = none_of_both (in_order (judged_of (defs_of db) (stmt.Insert name listed tuples))) (causes_of_rows db (bound_on (defs_of db) name bind)) e in
        subst (λ b. IsBuiltDatabase (effect db b).0) (sym there) (insert_at db place table (targets table.def.columns listed) tuples valid at (subst (λ b. causes_of_rows db b ≡ []) there said.1))

settable : (sets : List SetText) (columns : List ColumnDef) (text : Option PredText) → IsFaultless (then_judged (sets_judged sets columns) (where_judged columns text)) → AreSettable columns [] sets
settable sets columns text faultless = record {
  there = (none_of_both (set_columns columns [] sets) _ faultless.columns).0;
  typed = (none_of_both (flat_map (set_types columns) sets) _ faultless.types).0;
}

update_keeps : (db : Database) (name : Name) (sets : List SetText) (text : Option PredText) → IsBuiltDatabase db → in_order (judged_of (defs_of db) (stmt.Update name sets text)) ++ causes_of_rows db (bound_of (defs_of db) (stmt.Update name sets text)) ≡ [] → IsBuiltDatabase (effect db (bound_of (defs_of db) (stmt.Update name sets text))).0
update_keeps db name sets text valid e = by_found (is_found db name)
  where
    by_found : IsFound db name → IsBuiltDatabase (effect db (bound_of (defs_of db) (stmt.Update name sets text))).0
    by_found (missing is) = rw is valid
    by_found (nowhere place is at) = rw (is, changed_at-none db place (changed_table _ _) at) valid
    by_found (there place table is at named) =
        let bind : ℕ → List ColumnDef → Bound = λ place columns. bound.Update place (map (bound_set columns) sets) (bound_where columns text) in
        let judge : List ColumnDef → Judged = λ columns. then_judged (sets_judged sets columns) (where_judged columns text) in
        let there : bound_on (defs_of db) name bind ≡ bind place table.def.columns = bound_on-there (defs_of db) name place table.def bind is named in
        let said = none_of_both (in_order (judged_of (defs_of db) (stmt.Update name sets text))) (causes_of_rows db (bound_on (defs_of db) name bind)) e in
        let faultless : IsFaultless (judge table.def.columns) = is_faultless (judge table.def.columns) (subst (λ j. in_order j ≡ []) (on_table-there name (def_named (defs_of db) name) table.def judge named) said.0) in
        subst (λ b. IsBuiltDatabase (effect db b).0) (sym there) (update_at db place table sets (bound_where table.def.columns text) valid at (settable sets table.def.columns text faultless) (subst (λ b. causes_of_rows db b ≡ []) there said.1))

delete_keeps : (db : Database) (name : Name) (text : Option PredText) → IsBuiltDatabase db → IsBuiltDatabase (effect db (bound_of (defs_of db) (stmt.Delete name text))).0
delete_keeps db name text valid = by_found (is_found db name)
  where
    by_found : IsFound db name → IsBuiltDatabase (effect db (bound_of (defs_of db) (stmt.Delete name text))).0
    by_found (missing is) = rw is valid
    by_found (nowhere place is at) = rw (is, changed_at-none db place (left_table _) at) valid
    by_found (there place table is at named) =
        let bind : ℕ → List ColumnDef → Bound = λ place columns. bound.Delete place (bound_where columns text) in
        subst (λ b. IsBuiltDatabase (effect db b).0) (sym (bound_on-there (defs_of db) name place table.def bind is named)) (delete_at db place table (bound_where table.def.columns text) valid at)

query_keeps : (db : Database) (name : Name) (bind : ℕ → List ColumnDef → Bound) → ((place : ℕ) (columns : List ColumnDef) → (effect db (bind place columns)).0 ≡ db) → IsBuiltDatabase db → IsBuiltDatabase (effect db (bound_on (defs_of db) name bind)).0
query_keeps db name bind same valid = by_place (place_of (defs_of db) name) (columns_of (def_named (defs_of db) name))
  where
    by_place : (found : Option ℕ) (columns : List ColumnDef) → IsBuiltDatabase (effect db (on_place found columns bind)).0
    by_place None columns = valid
    by_place (Some place) columns = rw (same place columns) valid

drop_keeps : (db : Database) (name : Name) → IsBuiltDatabase db → IsBuiltDatabase (effect db (bound_of (defs_of db) (stmt.DropTable name))).0
drop_keeps db name valid = by_place (place_of (defs_of db) name)
  where
    by_place : (found : Option ℕ) → IsBuiltDatabase (effect db (on_place found (columns_of (def_named (defs_of db) name)) (λ place columns. bound.DropTable place))).0
    by_place None = valid
    by_place (Some place) = with_place_keeps db place None valid refl tt tt tt (names_left (defs_of db) place None refl valid.valid.defs.index_names_differ)

-- and judged by its definition
on_defined-there : (name : Name) (found : Option TableDef) (def : TableDef) (judge : TableDef → Judged) → found ≡ Some def → on_defined name found judge ≡ judge def
on_defined-there name found def judge named = rw named refl

create_index_keeps : (db : Database) (name : Name) (unique : Bool) (table : Name) (parts : List KeyText) → IsBuiltDatabase db
    → in_order (judged_of (defs_of db) (stmt.CreateIndex name unique table parts)) ++ causes_of_rows db (bound_of (defs_of db) (stmt.CreateIndex name unique table parts)) ≡ []
    → IsBuiltDatabase (effect db (bound_of (defs_of db) (stmt.CreateIndex name unique table parts))).0
create_index_keeps db name unique table parts valid e = by_found (is_found db table)
  where
    none_has : (found : Option (ℕ × ℕ)) → cause_if (is_some found) (IndexExists name) ≡ [] → found ≡ None
    none_has None h = refl
    none_has (Some place) h = cc

    by_found : IsFound db table → IsBuiltDatabase (effect db (bound_of (defs_of db) (stmt.CreateIndex name unique table parts))).0
    by_found (missing is) = rw is valid
    by_found (nowhere place is at) = rw (is, changed_at-none db place (indexed_table _) at) valid
    by_found (there place found is at named) =
        let bind : ℕ → List ColumnDef → Bound = λ place columns. bound.CreateIndex place (bound_index columns name unique parts) in
        let judge : TableDef → Judged = index_judged (defs_of db) name parts in
        let there : bound_on (defs_of db) table bind ≡ bind place found.def.columns = bound_on-there (defs_of db) table place found.def bind is named in
        let said = none_of_both (in_order (judged_of (defs_of db) (stmt.CreateIndex name unique table parts))) (causes_of_rows db (bound_on (defs_of db) table bind)) e in
        let faultless : IsFaultless (judge found.def) = is_faultless (judge found.def) (subst (λ j. in_order j ≡ []) (on_defined-there table (def_named (defs_of db) table) found.def judge named) said.0) in
        subst (λ b. IsBuiltDatabase (effect db b).0) (sym there)
        (index_at db place found (bound_index found.def.columns name unique parts) valid at (created_index (defs_of db) name unique parts found.def faultless.columns faultless.limits)
        (none_has (index_place_of (defs_of db) name) faultless.names) (subst (λ b. causes_of_rows db b ≡ []) there said.1))

drop_index_keeps : (db : Database) (name : Name) → IsBuiltDatabase db → IsBuiltDatabase (effect db (bound_of (defs_of db) (stmt.DropIndex name))).0
drop_index_keeps db name valid = by_place (index_place_of (defs_of db) name) refl
  where
    by_table : (place index : ℕ) (found : Option PlainTable) → table_at db place ≡ found → IsIndexAt (defs_of db) place index → IsBuiltDatabase (changed_at db place (unindexed_table index))
    by_table place index None at is = rw (changed_at-none db place (unindexed_table index) at) valid
    by_table place index (Some table) at is =
        let same : is.def ≡ table.def = some_is is.def table.def (sym is.at ∙ def_there db place table at) in
        unindex_at db place table index valid at (subst (λ (d : TableDef). index < length d.indexes) same is.within)

    by_place : (found : Option (ℕ × ℕ)) → index_place_of (defs_of db) name ≡ found → IsBuiltDatabase (effect db (bound_drop_index found)).0
    by_place None is = valid
    by_place (Some (place, index)) is = by_table place index (table_at db place) refl (found_index (defs_of db) name place index is)

create_keeps : (db : Database) (name : Name) (columns : List ColumnText) (dims : List (List Name)) → IsBuiltDatabase db → in_order (judged_of (defs_of db) (stmt.CreateTable name columns dims)) ≡ [] → IsBuiltDatabase (effect db (bound_of (defs_of db) (stmt.CreateTable name columns dims))).0
create_keeps db name columns dims valid e = by_place (empty_place (defs_of db))
  where
    faultless : IsFaultless (create_judged (defs_of db) name columns dims)
    faultless = is_faultless (create_judged (defs_of db) name columns dims) e

    free : (o : Option ℕ) → cause_if (is_some o) (TableExists name) ≡ [] → o ≡ None
    free None h = refl
    free (Some place) h = cc

    by_place : (found : Option ℕ) → IsBuiltDatabase (entered db found (bound_table name columns dims))
    by_place None = valid
    by_place (Some place) = with_place_keeps db place (Some (record { def = record (bound_table name columns dims) { number = place }; rows = [] })) valid
        (none_made columns)
        (created_is_valid (defs_of db) name columns dims place faultless.columns faultless.limits)
        (record { rising = omega arith; fitting = tt; unique = tt })
        (emptied_too name (defs_of db) place (none_named name (defs_of db) 0 (free (place_of (defs_of db) name) faultless.names)))
        (names_left (defs_of db) place (Some (record (bound_table name columns dims) { number = place })) refl valid.valid.defs.index_names_differ)

-- ---- the step

keeps_by : (db : Database) (causes : List Cause) (done : Database × Reply) → IsBuiltDatabase db → (causes ≡ [] → IsBuiltDatabase done.0) → IsBuiltDatabase (step_by db causes done).0
keeps_by db [] done valid keeps = keeps refl
keeps_by db (first ∷ causes) done valid keeps = valid

-- a valid database of built forms stays one, whatever a statement does
pub step_keeps_built : (db : Database) (statement : Stmt) → IsBuiltDatabase db → IsBuiltDatabase (step db statement).0
step_keeps_built db statement valid = keeps_by db (faults db statement) (effect db (bound_of (defs_of db) statement)) valid (by_form statement)
  where
    built : (b : Bool) (causes : List Cause) → (if b && are_built (defs_of db) then causes else NotBuilt ∷ []) ≡ [] → causes ≡ []
    built true causes e = sym (ap (λ c. if c then causes else NotBuilt ∷ []) valid.built) ∙ e
    built false causes e = cc

    by_form : (s : Stmt) → faults db s ≡ [] → IsBuiltDatabase (effect db (bound_of (defs_of db) s)).0
    by_form (stmt.CreateTable name columns dims) e = create_keeps db name columns dims valid (none_of_both (in_order (judged_of (defs_of db) (stmt.CreateTable name columns dims))) _ (built (has_no_generated columns) _ e)).0
    by_form (stmt.CreateIndex name unique table parts) e = create_index_keeps db name unique table parts valid (built true _ e)
    by_form (stmt.DropIndex name) e = drop_index_keeps db name valid
    by_form (stmt.DropTable name) e = drop_keeps db name valid
    by_form (stmt.Insert name listed tuples) e = insert_keeps db name listed tuples valid (built true _ e)
    by_form (stmt.Update name sets text) e = update_keeps db name sets text valid (built true _ e)
    by_form (stmt.Delete name text) e = delete_keeps db name text valid
    by_form (stmt.Query select) e = query_keeps db select.table _ (λ place columns. refl) valid
    by_form (stmt.Explain select) e = query_keeps db select.table _ (λ place columns. refl) valid
    by_form (stmt.Reclaim name) e = query_keeps db name _ (λ place columns. refl) valid
    by_form s e = valid

-- and where a table is of a form that isn't built nothing is done
pub unbuilt_stays : (db : Database) (statement : Stmt) → are_built (defs_of db) ≡ false → step db statement ≡ (db, Refused (refusal_of NotBuilt))
unbuilt_stays db statement unbuilt = ap (λ causes. step_by db causes (effect db (bound_of (defs_of db) statement))) (by_test (is_built_step statement))
  where
    by_test : (b : Bool) → (if b && are_built (defs_of db) then in_order (judged_of (defs_of db) statement) ++ causes_of_rows db (bound_of (defs_of db) statement) else NotBuilt ∷ []) ≡ NotBuilt ∷ []
    by_test true = ap (λ c. if c then in_order (judged_of (defs_of db) statement) ++ causes_of_rows db (bound_of (defs_of db) statement) else NotBuilt ∷ []) unbuilt
    by_test false = refl

-- so a valid database stays valid, whatever a statement does
pub step_keeps : (db : Database) (statement : Stmt) → IsValid db → IsValid (step db statement).0
step_keeps db statement valid = by_built (are_built (defs_of db)) refl
  where
    by_built : (b : Bool) → are_built (defs_of db) ≡ b → IsValid (step db statement).0
    by_built true built = (step_keeps_built db statement (record { valid = valid; built = built })).valid
    by_built false unbuilt = subst IsValid (sym (ap (λ end_. end_.0) (unbuilt_stays db statement unbuilt))) valid
