-- What nothing is said against may be done on the definitions that it is bound on, whatever rows there are.
use Rattle.std.proofs.Common.{◌≡◌, ◌+◌, ℕ, List, [], ◌∷◌, ◌++◌, refl, sym, ap, subst, length, map}
use Rattle.std.specs.Prelude.{true, Option, Some, None, IsTrue, IsSome, flat_map, is_none, is_some, option_and_then}
use Rattle.std.specs.List.{AllByRecursion, list_all}
use Rattle.std.proofs.lemmas.List.{length-map}
use Rattle.mdc_values.specs.declared.value.Value.{Value}
use Rattle.mdc_ast.specs.declared.bound.Bound.{Bound}
use Rattle.mdc_ast.specs.declared.definition.ColumnDef.{ColumnDef}
use Rattle.mdc_ast.specs.declared.definition.TableDef.{TableDef}
use Rattle.mdc_ast.specs.declared.name.Name.{Name}
use Rattle.mdc_ast.specs.declared.predicate.PredText.{PredText}
use Rattle.mdc_ast.specs.declared.row.Row.{Row}
use Rattle.mdc_ast.specs.declared.statement.InsertItem.{InsertItem}
use Rattle.mdc_ast.specs.declared.statement.Select.{Select}
use Rattle.mdc_ast.specs.declared.statement.SetText.{SetText}
use Rattle.mdc_ast.specs.declared.statement.Stmt.{Stmt}
use Rattle.mdc_ast.specs.declared.statement.Stmt.TheVariants as stmt
use Rattle.statement_meaning.specs.Binding.{bound_drop_index, bound_index, bound_of, bound_on, bound_set, bound_tuple, bound_where, columns_of, given_for, on_place, shown}
use Rattle.statement_meaning.specs.Cause.{Cause, IndexExists, Limit, TableExists, cause_if}
use Rattle.mdc_ast.specs.Database.{fits_all, numbered}
use Rattle.mdc_ast.specs.ValidDatabase.{AreValidDefs}
use Rattle.mdc_ast.specs.Definitions.{Definitions, def_at, def_named, empty_place, index_place_of, place_of}
use Rattle.statement_meaning.specs.Doing.{null_causes, set_causes, set_on}
use Rattle.statement_meaning.specs.Judged.{column_limits, create_judged, index_judged, insert_judged, judged_of, list_judged, long_name, query_judged, set_columns, set_types, sets_judged, shown_columns, tail_judged, targets}
use Rattle.statement_meaning.specs.Judging.{Judged, atom_columns, atom_types, atoms_of, in_order, no_fault, on_defined, then_judged, where_judged}
use Rattle.statement_meaning.specs.Built.{is_built_step}
use Rattle.statement_meaning.proofs.BindingLemmas.{AreBound}
use Rattle.statement_meaning.proofs.CausesLemmas.{is_there, none_of_both}
use Rattle.statement_meaning.proofs.IndexLemmas.{MayHaveIndex, created_index}
use Rattle.statement_meaning.proofs.IndexNamesLemmas.{IsIndexAt, found_index}
use Rattle.statement_meaning.proofs.KeepingLemmas.{IsFaultless, is_faultless}
use Rattle.statement_meaning.proofs.RowsLemmas.{numbered_fit}
use Rattle.mdc_ast.proofs.TestsLemmas.{and_true}
use Rattle.statement_meaning.proofs.UpdateLemmas.{AreSettable, all_changed_fit}
use Rattle.row_checks.proofs.BoundPlaces.{sets_within, shown_within}
use Rattle.row_checks.proofs.Each.{same_number}
use Rattle.row_checks.proofs.KindsLemmas.{may_filter-bound_where}
use Rattle.row_checks.specs.Executing.{are_tuples_wide}
use Rattle.row_checks.specs.Served.{IsDefined, IsServed, MayJudge, MayLoseIndex, MayPut, MaySet, MayShowRows}

-- ---- INSERT

tuples_wide : (columns : List ColumnDef) (names : List Name) (tuples : List (List InsertItem)) → IsTrue (are_tuples_wide (length columns) (map (bound_tuple columns names) tuples))
tuples_wide columns names [] = refl
tuples_wide columns names (items ∷ tuples) = and_true _ _ (same_number (length (bound_tuple columns names items)) (length columns) (length-map columns (λ (column : ColumnDef). given_for column names items))) (tuples_wide columns names tuples)

-- where rows of these values fit, the values do
fit_unnumbered : (columns : List ColumnDef) (tuples : List (List Value)) (n : ℕ) → AllByRecursion (λ row. IsTrue (fits_all columns row.values)) (numbered n tuples) → IsTrue (list_all (fits_all columns) tuples)
fit_unnumbered columns [] n fit = refl
fit_unnumbered columns (values ∷ tuples) n fit = and_true (fits_all columns values) _ fit.0 (fit_unnumbered columns tuples (n + 1) fit.1)

may_put : (def : TableDef) (names : List Name) (tuples : List (List InsertItem)) → MayPut (map (bound_tuple def.columns names) tuples) def
may_put def names tuples = record {
  wide = tuples_wide def.columns names tuples;
  fit = λ nulls. fit_unnumbered def.columns (map (bound_tuple def.columns names) tuples) 0 (numbered_fit def.columns names tuples 0 nulls);
}

-- ---- UPDATE

-- a row that fits and that nothing is said against fits once it is set
set_row_fits : (columns : List ColumnDef) (sets : List SetText) (values : List Value) → AreSettable columns [] sets → IsTrue (fits_all columns values)
    → flat_map (set_causes columns values) (map (bound_set columns) sets) ++ null_causes columns (set_on values (map (bound_set columns) sets) values) ≡ []
    → IsTrue (fits_all columns (set_on values (map (bound_set columns) sets) values))
set_row_fits columns sets values settable fit none =
    let row : Row = record { number = 0; values = values } in
    (all_changed_fit columns sets None (row ∷ []) settable (ap (λ causes. causes ++ []) none) (fit, tt)).0

may_judge_where : (def : TableDef) (text : Option PredText) → AreBound def.columns (atoms_of text) → MayJudge (bound_where def.columns text) def
may_judge_where def text bound = record { judged = λ values kinds. may_filter-bound_where def.columns values text bound kinds }

may_set : (def : TableDef) (sets : List SetText) (text : Option PredText) → IsFaultless (then_judged (sets_judged sets def.columns) (where_judged def.columns text)) → MaySet (map (bound_set def.columns) sets) (bound_where def.columns text) def
may_set def sets text faultless =
    let columns = none_of_both (set_columns def.columns [] sets) (flat_map (atom_columns def.columns) (atoms_of text)) faultless.columns in
    let types = none_of_both (flat_map (set_types def.columns) sets) (flat_map (atom_types def.columns) (atoms_of text)) faultless.types in
    let settable : AreSettable def.columns [] sets = record { there = columns.0; typed = types.0 } in
    record {
      judge = may_judge_where def text (record { there = columns.1; typed = types.1 });
      within = sets_within def.columns [] sets columns.0;
      fit = λ values fit none. set_row_fits def.columns sets values settable fit none;
    }

-- ---- queries

may_show : (def : TableDef) (select : Select) → IsFaultless (query_judged select def.columns) → MayShowRows (shown def.columns select.list) (bound_where def.columns select.pred) def
may_show def select faultless =
    let where_ = where_judged def.columns select.pred in
    let front = none_of_both (shown_columns def.columns select.list ++ where_.columns) (tail_judged select def.columns).columns faultless.columns in
    let columns = none_of_both (shown_columns def.columns select.list) where_.columns front.0 in
    let types = none_of_both ((list_judged select def.columns).types ++ where_.types) (tail_judged select def.columns).types faultless.types in
    record {
      judge = may_judge_where def select.pred (record { there = columns.1; typed = (none_of_both (list_judged select def.columns).types where_.types types.0).1 });
      shown = shown_within def.columns select.list columns.0;
    }

-- ---- statements

defined_as : (found : Option TableDef) (def : TableDef) (P : TableDef → Type 0) → found ≡ Some def → P def → IsDefined found P
defined_as found def P at h = subst (λ found. IsDefined found P) (sym at) h

-- a statement on a table: it is defined, and nothing is said against the statement on its columns
served_on : (defs : Definitions) (name : Name) (bind : ℕ → List ColumnDef → Bound) (judge : TableDef → Judged) → in_order (on_defined name (def_named defs name) judge) ≡ [] →
    ((place : ℕ) (def : TableDef) → def_at defs place ≡ Some def → IsFaultless (judge def) → IsServed defs (bind place def.columns)) →
    IsServed defs (bound_on defs name bind)
served_on defs name bind judge said serve = by_place (place_of defs name) said
  where
    by_def : (place : ℕ) (found : Option TableDef) → def_at defs place ≡ found → in_order (on_defined name found judge) ≡ [] → IsServed defs (bind place (columns_of found))
    by_def place None at none = absurd cc
    by_def place (Some def) at none = serve place def at (is_faultless (judge def) none)

    by_place : (found : Option ℕ) → in_order (on_defined name (option_and_then (def_at defs) found) judge) ≡ [] → IsServed defs (on_place found (columns_of (option_and_then (def_at defs) found)) bind)
    by_place None none = tt
    by_place (Some place) none = by_def place (def_at defs place) refl none

none_found : (found : Option ℕ) (cause : Cause) → cause_if (is_some found) cause ≡ [] → found ≡ None
none_found None cause e = refl
none_found (Some place) cause e = absurd cc

no_index : (found : Option (ℕ × ℕ)) (cause : Cause) → cause_if (is_some found) cause ≡ [] → found ≡ None
no_index None cause e = refl
no_index (Some place) cause e = absurd cc

-- what nothing is said against may be done, once it is bound
pub serves : (defs : Definitions) (statement : Stmt) → in_order (judged_of defs statement) ≡ [] → IsServed defs (bound_of defs statement)
serves defs (stmt.CreateTable name columns dims) said =
    let faultless : IsFaultless (create_judged defs name columns dims) = is_faultless (create_judged defs name columns dims) said in
    let dimless = none_of_both (long_name name ++ cause_if (is_none (empty_place defs)) (Limit 16) ++ column_limits 0 columns columns) _ faultless.limits in
    let columnless = none_of_both (long_name name ++ cause_if (is_none (empty_place defs)) (Limit 16)) _ dimless.0 in
    let room = none_of_both (long_name name) (cause_if (is_none (empty_place defs)) (Limit 16)) columnless.0 in
    (subst IsSome (sym (is_there (empty_place defs) (Limit 16) room.1).1) refl, none_found (place_of defs name) (TableExists name) faultless.names)
serves defs (stmt.CreateIndex name unique table parts) said =
    served_on defs table _ (index_judged defs name parts) said
    (λ place def at faultless.
    let may : MayHaveIndex def (bound_index def.columns name unique parts) = created_index defs name unique parts def faultless.columns faultless.limits in
    (defined_as (def_at defs place) def _ at (record { few = may.few; valid = may.valid }), no_index (index_place_of defs name) (IndexExists name) faultless.names))
serves defs (stmt.DropIndex name) said = served_drop (index_place_of defs name) refl
  where
    served_drop : (found : Option (ℕ × ℕ)) → index_place_of defs name ≡ found → IsServed defs (bound_drop_index found)
    served_drop None is = tt
    served_drop (Some (table, index)) is =
        let there : IsIndexAt defs table index = found_index defs name table index is in
        defined_as (def_at defs table) there.def (MayLoseIndex index) there.at (record { within = there.within })
serves defs (stmt.DropTable name) said = served_on defs name _ (λ def. no_fault) said (λ place def at faultless. subst IsSome (sym at) refl)
serves defs (stmt.Insert name listed tuples) said =
    served_on defs name _ (λ def. insert_judged listed tuples def.columns) said
    (λ place def at faultless. defined_as (def_at defs place) def _ at (may_put def (targets def.columns listed) tuples))
serves defs (stmt.Update name sets text) said =
    served_on defs name _ (λ def. then_judged (sets_judged sets def.columns) (where_judged def.columns text)) said
    (λ place def at faultless. defined_as (def_at defs place) def _ at (may_set def sets text faultless))
serves defs (stmt.Delete name text) said =
    served_on defs name _ (λ def. where_judged def.columns text) said
    (λ place def at faultless. defined_as (def_at defs place) def _ at (may_judge_where def text (record { there = faultless.columns; typed = faultless.types })))
serves defs (stmt.Query select) said =
    served_on defs select.table _ (λ def. query_judged select def.columns) said
    (λ place def at faultless. defined_as (def_at defs place) def _ at (may_show def select faultless))
serves defs (stmt.Explain select) said =
    served_on defs select.table _ (λ def. query_judged select def.columns) said
    (λ place def at faultless. defined_as (def_at defs place) def _ at (may_show def select faultless).judge)
serves defs (stmt.Reclaim name) said = served_on defs name _ (λ def. no_fault) said (λ place def at faultless. subst IsSome (sym at) refl)
serves defs statement said = tt

-- so it may on valid definitions, where its form is built
pub served : (defs : Definitions) (stmt : Stmt) → AreValidDefs defs → is_built_step stmt ≡ true → in_order (judged_of defs stmt) ≡ [] → IsServed defs (bound_of defs stmt)
served defs statement valid built said = serves defs statement said
