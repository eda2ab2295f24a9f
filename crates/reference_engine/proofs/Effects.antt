-- What statements do, by rows that are taken out of a table and put back.
use Rattle.std.proofs.Common.{◌≡◌, ◌+◌, ◌<◌, ◌≤◌, ℕ, List, [], ◌∷◌, ◌++◌, ◌∙◌, refl, sym, ap, length, map, arith}
use Rattle.std.specs.Prelude.{Bool, true, Option, Some, option_map, filter, not, flat_map, nat_lt, false, ◌&&◌}
use Rattle.std.proofs.lemmas.Bool.Decides.{nat_tests}
use Rattle.std.proofs.lemmas.List.{append-nil, map-append}
use Rattle.std.proofs.lemmas.Grind.{flat_map-append}
use Rattle.mdc_values.specs.declared.value.Value.{Value}
use Rattle.mdc_ast.specs.declared.bound.Bound.{Bound}
use Rattle.mdc_ast.specs.declared.bound.Bound.TheVariants as bound
use Rattle.mdc_ast.specs.declared.bound.BoundSet.{BoundSet}
use Rattle.mdc_ast.specs.declared.definition.IndexDef.{IndexDef}
use Rattle.mdc_ast.specs.declared.predicate.Pred.{Pred}
use Rattle.mdc_ast.specs.declared.refusal.Refusal.{Refusal}
use Rattle.mdc_ast.specs.declared.reply.Reply.{Reply}
use Rattle.mdc_ast.specs.declared.reply.Reply.TheVariants.{Done, Inserted, Updated, Deleted}
use Rattle.mdc_ast.specs.declared.row.Row.{Row}
use Rattle.statement_meaning.specs.Cause.{Cause, DuplicateKey, NumbersUsedUp, cause_if, refusal_of}
use Rattle.mdc_ast.specs.Database.{Database, PlainTable, changed_at, table_at, appended, numbered, with_place}
use Rattle.statement_meaning.specs.Doing.{causes_of_rows, changed_causes, changed_row, changed_table, duplicate_causes, effect, hits, indexed_table, key_causes, left_table, null_causes, number_causes, twin_causes, used_up, value_causes}
use Rattle.statement_meaning.specs.Keys.{have_twins}
use Rattle.row_groups.specs.Numbers.{values_of}
use Rattle.mdc_ast.specs.Truth.{qualifies}
use Rattle.statement_meaning.proofs.DatabaseLemmas.{IsValidAt, changed_at-with_place, is_valid_at, table_at-changed}
use Rattle.statement_meaning.specs.Built.{IsBuiltDatabase}
use Rattle.statement_meaning.proofs.BuiltLemmas.{values_fit}
use Rattle.statement_meaning.specs.Judging.{of_some}
use Rattle.statement_meaning.specs.Step.{Answer, Refused, Replied, step_by}
use Rattle.binder.specs.Saying.{first_of}
use Rattle.binder.proofs.FirstLemmas.{first_of-front}
use Rattle.mdc_ast.proofs.TestsLemmas.{some_is}
use Rattle.reference_engine.proofs.ChangedTables.{AreRowsOf, are_rows_of, put_and_numbered, put_back}
use Rattle.row_checks.specs.Executing.{done}
use Rattle.row_checks.proofs.UniqueLemmas.{unique_says_nothing}
use Rattle.reference_engine.specs.Tables.{with_next, with_rows}

same_end : (a b : Database) (reply said : Reply) → a ≡ b → reply ≡ said → ◌≡◌ {A = Database × Answer} (a, Replied reply) (b, Replied said)
same_end a b reply said e f = cc

-- the rows that qualify, where the rows of the table are known
hits_are : (db : Database) (place : ℕ) (pred : Option Pred) (rows : List Row) → AreRowsOf db place rows → hits pred (table_at db place) ≡ filter (λ row. qualifies pred row.values) rows
hits_are db place pred rows known = ap (hits pred) known.is ∙ ap (filter (λ (row : Row). qualifies pred row.values)) known.rows_are

-- a DELETE: the rows that are left are put back
pub delete_is : (db without new : Database) (place : ℕ) (pred : Option Pred) (taken left : List Row) (count : ℕ) →
    option_map (λ table. table.rows) (table_at db place) ≡ Some taken → without ≡ changed_at db place (with_rows []) → new ≡ changed_at without place (with_rows left) →
    left ≡ filter (λ row. not (qualifies pred row.values)) taken → count ≡ length (filter (λ row. qualifies pred row.values) taken) →
    done db (bound.Delete place pred) ≡ (new, Replied (Deleted count))
delete_is db without new place pred taken left count rows took put stays gone =
    let known : AreRowsOf db place taken = are_rows_of db place taken rows in
    let table : PlainTable = known.table in
    let same : left_table pred table ≡ with_rows left table = ap (λ r. with_rows (filter (λ (row : Row). not (qualifies pred row.values)) r) table) known.rows_are ∙ ap (λ r. with_rows r table) (sym stays) in
    same_end _ new _ (Deleted count)
    (put_back db without new place table left (left_table pred) known.is took put same)
    (ap (λ r. Deleted (length r)) (hits_are db place pred taken known) ∙ ap Deleted (sym gone))

-- ---- what is said by the rows

-- nothing is said in any class
pub none_in_each : (db : Database) (statement : Bound) → value_causes db statement ≡ [] → key_causes db statement ≡ [] → number_causes db statement ≡ [] → causes_of_rows db statement ≡ []
none_in_each db statement values keys numbers =
    ap (λ said. said ++ key_causes db statement ++ number_causes db statement) values ∙ ap (λ said. said ++ number_causes db statement) keys ∙ numbers

refused_first : (db : Database) (causes : List Cause) (cause : Cause) (does : Database × Reply) (refusal : Refusal) → first_of causes ≡ Some cause → refusal ≡ refusal_of cause
    → ◌≡◌ {A = Database × Answer} (step_by db causes does) (db, Refused refusal)
refused_first db [] cause does refusal e is = absurd (cc e)
refused_first db (first ∷ causes) cause does refusal e is =
    ap (λ r. (db, Refused r)) (ap refusal_of (some_is first cause e) ∙ sym is)

-- a statement that is refused for its values
pub refused_by_values : (db : Database) (statement : Bound) (cause : Cause) (refusal : Refusal) → first_of (value_causes db statement) ≡ Some cause → refusal ≡ refusal_of cause
    → ◌≡◌ {A = Database × Answer} (done db statement) (db, Refused refusal)
refused_by_values db statement cause refusal e is =
    refused_first db (causes_of_rows db statement) cause (effect db statement) refusal
    (first_of-front (value_causes db statement ++ key_causes db statement) (number_causes db statement) cause (first_of-front (value_causes db statement) (key_causes db statement) cause e)) is

-- one that is refused for its keys
pub refused_by_keys : (db : Database) (statement : Bound) (cause : Cause) (refusal : Refusal) → value_causes db statement ≡ [] → first_of (key_causes db statement) ≡ Some cause → refusal ≡ refusal_of cause
    → ◌≡◌ {A = Database × Answer} (done db statement) (db, Refused refusal)
refused_by_keys db statement cause refusal values e is =
    refused_first db (causes_of_rows db statement) cause (effect db statement) refusal
    (first_of-front (value_causes db statement ++ key_causes db statement) (number_causes db statement) cause (ap (λ said. first_of (said ++ key_causes db statement)) values ∙ e)) is

-- and one that is refused for its row numbers
pub refused_by_numbers : (db : Database) (statement : Bound) (cause : Cause) (refusal : Refusal) → value_causes db statement ≡ [] → key_causes db statement ≡ [] → first_of (number_causes db statement) ≡ Some cause
    → refusal ≡ refusal_of cause → ◌≡◌ {A = Database × Answer} (done db statement) (db, Refused refusal)
refused_by_numbers db statement cause refusal values keys e is =
    refused_first db (causes_of_rows db statement) cause (effect db statement) refusal
    (ap (λ said. first_of (said ++ key_causes db statement ++ number_causes db statement)) values ∙ ap (λ said. first_of (said ++ number_causes db statement)) keys ∙ e) is

-- ---- keys

-- what is said of the keys, where the table is known
pub keys_of_changed : (db : Database) (place : ℕ) (table : PlainTable) (change : PlainTable → PlainTable) → table_at db place ≡ Some table
    → of_some (table_at (changed_at db place change) place) duplicate_causes ≡ duplicate_causes (change table)
keys_of_changed db place table change at = ap (λ found. of_some found duplicate_causes) (table_at-changed db place table change at)

values_of-numbered : (n : ℕ) (tuples : List (List Value)) → values_of (numbered n tuples) ≡ tuples
values_of-numbered n [] = refl
values_of-numbered n (values ∷ tuples) = ap (λ rest. values ∷ rest) (values_of-numbered (n + 1) tuples)

-- the values of a table's rows with new ones behind them
pub values_of-appended : (table : PlainTable) (tuples : List (List Value)) → values_of (appended tuples table).rows ≡ values_of table.rows ++ tuples
values_of-appended table tuples = map-append (λ (row : Row). row.values) table.rows (numbered table.def.next tuples) ∙ ap (λ more. values_of table.rows ++ more) (values_of-numbered table.def.next tuples)

-- the keys of an INSERT
pub keys_of_insert : (db : Database) (place : ℕ) (table : PlainTable) (tuples : List (List Value)) → table_at db place ≡ Some table
    → key_causes db (bound.Insert place tuples) ≡ flat_map (twin_causes (values_of table.rows ++ tuples)) table.def.indexes
keys_of_insert db place table tuples at =
    keys_of_changed db place table (appended tuples) at ∙ ap (λ rows. flat_map (twin_causes rows) table.def.indexes) (values_of-appended table tuples)

-- the keys of an UPDATE
pub keys_of_update : (db : Database) (place : ℕ) (table : PlainTable) (sets : List BoundSet) (pred : Option Pred) (changed : List Row) → table_at db place ≡ Some table → changed ≡ map (changed_row sets pred) table.rows
    → key_causes db (bound.Update place sets pred) ≡ flat_map (twin_causes (values_of changed ++ [])) table.def.indexes
keys_of_update db place table sets pred changed at is =
    keys_of_changed db place table (changed_table sets pred) at
    ∙ ap (λ rows. flat_map (twin_causes rows) table.def.indexes) (ap values_of (sym is) ∙ sym (append-nil (values_of changed)))

-- an UPDATE that nothing is said against: the table has the changed rows
pub update_is : (db new : Database) (place : ℕ) (sets : List BoundSet) (pred : Option Pred) (table : PlainTable) (changed : List Row) (count : ℕ) → table_at db place ≡ Some table
    → flat_map (changed_causes table.def.columns sets pred) table.rows ≡ [] → flat_map (twin_causes (values_of changed ++ [])) table.def.indexes ≡ [] → new ≡ changed_at db place (with_rows changed) → changed ≡ map (changed_row sets pred) table.rows
    → count ≡ length (filter (λ row. qualifies pred row.values) table.rows) → done db (bound.Update place sets pred) ≡ (new, Replied (Updated count))
update_is db new place sets pred table changed count at none keys put changes counts =
    let same : changed_table sets pred table ≡ with_rows changed table = ap (λ r. with_rows r table) (sym changes) in
    let no_values : value_causes db (bound.Update place sets pred) ≡ [] = ap (λ found. of_some found (λ (table : PlainTable). flat_map (changed_causes table.def.columns sets pred) table.rows)) at ∙ none in
    let faultless : causes_of_rows db (bound.Update place sets pred) ≡ [] =
    none_in_each db (bound.Update place sets pred) no_values (keys_of_update db place table sets pred changed at changes ∙ keys) refl in
    let made : changed_at db place (changed_table sets pred) ≡ new =
    changed_at-with_place db place table (changed_table sets pred) at
    ∙ (ap (λ t. with_place db place (Some t)) same ∙ (sym (changed_at-with_place db place table (with_rows changed) at) ∙ sym put)) in
    ap (λ causes. step_by db causes (effect db (bound.Update place sets pred))) faultless
    ∙ same_end _ new _ (Updated count) made (ap (λ found. Updated (length (hits pred found))) at ∙ ap Updated (sym counts))

-- numbers below 2^64 aren't used up
pub not_used_up : (next count : ℕ) → next + count < 18446744073709551616 → used_up next count ≡ []
not_used_up next count lt = ap (λ b. cause_if b (NumbersUsedUp next)) (enough (next + count) lt)
  where
    enough : (n : ℕ) → n < 18446744073709551616 → nat_lt 18446744073709551615 n ≡ false
    enough n lt = grind (arith, nat_tests, lt)

-- an INSERT that nothing is said against: the rows are put back with the new ones behind them
pub insert_is : (db without rowed new : Database) (place : ℕ) (tuples : List (List Value)) (table : PlainTable) (taken all : List Row) (after count : ℕ) →
    table_at db place ≡ Some table → flat_map (null_causes table.def.columns) tuples ≡ [] → flat_map (twin_causes (values_of table.rows ++ tuples)) table.def.indexes ≡ [] → used_up table.def.next (length tuples) ≡ [] →
    option_map (λ table. table.rows) (table_at db place) ≡ Some taken → without ≡ changed_at db place (with_rows []) → rowed ≡ changed_at without place (with_rows all) → new ≡ changed_at rowed place (with_next after) →
    all ≡ taken ++ numbered table.def.next tuples → after ≡ table.def.next + length tuples → count ≡ length tuples →
    done db (bound.Insert place tuples) ≡ (new, Replied (Inserted count))
insert_is db without rowed new place tuples table taken all after count at nulls keys numbers rows took put number alls afters counts =
    let known : AreRowsOf db place taken = are_rows_of db place taken rows in
    let its : table.rows ≡ taken = ap (λ (t : PlainTable). t.rows) (some_is table known.table (sym at ∙ known.is)) ∙ known.rows_are in
    let same : appended tuples table ≡ with_next after (with_rows all table) =
    ap (λ r. with_next (table.def.next + length tuples) (with_rows (r ++ numbered table.def.next tuples) table)) its
    ∙ ap (λ r. with_next (table.def.next + length tuples) (with_rows r table)) (sym alls)
    ∙ ap (λ n. with_next n (with_rows all table)) (sym afters) in
    let no_values : of_some (table_at db place) (λ table. flat_map (null_causes table.def.columns) tuples) ≡ [] = ap (λ found. of_some found (λ (table : PlainTable). flat_map (null_causes table.def.columns) tuples)) at ∙ nulls in
    let no_numbers : of_some (table_at db place) (λ table. used_up table.def.next (length tuples)) ≡ [] = ap (λ found. of_some found (λ (table : PlainTable). used_up table.def.next (length tuples))) at ∙ numbers in
    let faultless : causes_of_rows db (bound.Insert place tuples) ≡ [] =
    none_in_each db (bound.Insert place tuples) no_values (keys_of_insert db place table tuples at ∙ keys) no_numbers in
    ap (λ causes. step_by db causes (effect db (bound.Insert place tuples))) faultless
    ∙ same_end _ new _ (Inserted count)
    (put_and_numbered db without rowed new place table all after (appended tuples) at took put number same)
    (ap Inserted (sym counts))

-- an INSERT whose values are right, and which is refused for its keys
pub insert_clashes : (db : Database) (place : ℕ) (table : PlainTable) (tuples : List (List Value)) (cause : Cause) (refusal : Refusal) → table_at db place ≡ Some table → flat_map (null_causes table.def.columns) tuples ≡ []
    → first_of (flat_map (twin_causes (values_of table.rows ++ tuples)) table.def.indexes) ≡ Some cause → refusal ≡ refusal_of cause
    → ◌≡◌ {A = Database × Answer} (done db (bound.Insert place tuples)) (db, Refused refusal)
insert_clashes db place table tuples cause refusal at nulls clash is =
    refused_by_keys db (bound.Insert place tuples) cause refusal (ap (λ found. of_some found (λ (table : PlainTable). flat_map (null_causes table.def.columns) tuples)) at ∙ nulls)
    (ap first_of (keys_of_insert db place table tuples at) ∙ clash) is

-- and one whose keys are right too, which is refused for its row numbers
pub insert_used_up : (db : Database) (place : ℕ) (table : PlainTable) (tuples : List (List Value)) (refusal : Refusal) → table_at db place ≡ Some table → flat_map (null_causes table.def.columns) tuples ≡ []
    → flat_map (twin_causes (values_of table.rows ++ tuples)) table.def.indexes ≡ [] → 18446744073709551616 ≤ table.def.next + length tuples → refusal ≡ refusal_of (NumbersUsedUp table.def.next)
    → ◌≡◌ {A = Database × Answer} (done db (bound.Insert place tuples)) (db, Refused refusal)
insert_used_up db place table tuples refusal at nulls keys over is =
    refused_by_numbers db (bound.Insert place tuples) (NumbersUsedUp table.def.next) refusal (ap (λ found. of_some found (λ (table : PlainTable). flat_map (null_causes table.def.columns) tuples)) at ∙ nulls)
    (keys_of_insert db place table tuples at ∙ keys)
    (ap (λ found. first_of (of_some found (λ (table : PlainTable). used_up table.def.next (length tuples)))) at ∙ ap (λ b. first_of (cause_if b (NumbersUsedUp table.def.next))) (past (table.def.next + length tuples) over)) is
  where
    past : (n : ℕ) → 18446744073709551616 ≤ n → nat_lt 18446744073709551615 n ≡ true
    past n le = grind (arith, nat_tests, le)

-- an UPDATE whose values are right, and which is refused for its keys
pub update_clashes : (db : Database) (place : ℕ) (sets : List BoundSet) (pred : Option Pred) (table : PlainTable) (changed : List Row) (cause : Cause) (refusal : Refusal) → table_at db place ≡ Some table
    → flat_map (changed_causes table.def.columns sets pred) table.rows ≡ [] → first_of (flat_map (twin_causes (values_of changed ++ [])) table.def.indexes) ≡ Some cause → changed ≡ map (changed_row sets pred) table.rows
    → refusal ≡ refusal_of cause → ◌≡◌ {A = Database × Answer} (done db (bound.Update place sets pred)) (db, Refused refusal)
update_clashes db place sets pred table changed cause refusal at none clash changes is =
    refused_by_keys db (bound.Update place sets pred) cause refusal (ap (λ found. of_some found (λ (table : PlainTable). flat_map (changed_causes table.def.columns sets pred) table.rows)) at ∙ none)
    (ap first_of (keys_of_update db place table sets pred changed at changes) ∙ clash) is

-- ---- record indexes

-- what is said of the keys under a CREATE INDEX is said of the new index alone
keys_of_create : (db : Database) (place : ℕ) (table : PlainTable) (index : IndexDef) → IsBuiltDatabase db → table_at db place ≡ Some table
    → key_causes db (bound.CreateIndex place index) ≡ twin_causes (values_of table.rows) index
keys_of_create db place table index valid at =
    let here : IsValidAt db place table = is_valid_at db place table valid at in
    let old : flat_map (twin_causes (values_of table.rows)) table.def.indexes ≡ [] =
    unique_says_nothing table.def.columns table.rows table.def.indexes (values_fit table.def table.rows here.rows.fitting) here.rows.unique in
    keys_of_changed db place table (indexed_table index) at ∙ flat_map-append (twin_causes (values_of table.rows)) table.def.indexes (index ∷ [])
    ∙ ap (λ said. said ++ (twin_causes (values_of table.rows) index ++ [])) old ∙ append-nil (twin_causes (values_of table.rows) index)

-- a CREATE INDEX that is refused for the keys of rows that are there
pub create_index_clashes : (db : Database) (place : ℕ) (table : PlainTable) (index : IndexDef) (clashes : Bool) (refusal : Refusal) → IsBuiltDatabase db → table_at db place ≡ Some table
    → clashes ≡ (index.unique && have_twins index.parts (values_of table.rows)) → clashes ≡ true → refusal ≡ refusal_of (DuplicateKey index.name)
    → ◌≡◌ {A = Database × Answer} (done db (bound.CreateIndex place index)) (db, Refused refusal)
create_index_clashes db place table index clashes refusal valid at says is refused =
    refused_by_keys db (bound.CreateIndex place index) (DuplicateKey index.name) refusal refl
    (ap first_of (keys_of_create db place table index valid at) ∙ ap (λ b. first_of (cause_if b (DuplicateKey index.name))) (sym says ∙ is)) refused

-- and one that is done
pub create_index_is : (db new : Database) (place : ℕ) (table : PlainTable) (index : IndexDef) (clashes : Bool) → IsBuiltDatabase db → table_at db place ≡ Some table
    → clashes ≡ (index.unique && have_twins index.parts (values_of table.rows)) → clashes ≡ false → new ≡ changed_at db place (indexed_table index)
    → ◌≡◌ {A = Database × Answer} (done db (bound.CreateIndex place index)) (new, Replied Done)
create_index_is db new place table index clashes valid at says is put =
    let faultless : causes_of_rows db (bound.CreateIndex place index) ≡ [] =
    none_in_each db (bound.CreateIndex place index) refl
    (keys_of_create db place table index valid at ∙ ap (λ b. cause_if b (DuplicateKey index.name)) (sym says ∙ is)) refl in
    ap (λ causes. step_by db causes (effect db (bound.CreateIndex place index))) faultless ∙ same_end _ new _ Done (sym put) refl
