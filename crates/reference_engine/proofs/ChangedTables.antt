-- A table of a database that is changed more than once.
use Rattle.std.proofs.Common.{◌≡◌, ℕ, zero, suc, List, [], ◌∷◌, ◌∙◌, refl, sym, ap, subst}
use Rattle.std.specs.Prelude.{Option, Some, None, option_map, IsSome, IfSome, Result, Ok, Err, OnErr}
use Rattle.mdc_ast.specs.declared.row.Row.{Row}
use Rattle.mdc_ast.specs.Database.{Database, PlainTable, changed_at, table_at, with_place}
use Rattle.statement_meaning.specs.Built.{IsBuiltDatabase}
use Rattle.statement_meaning.proofs.DatabaseLemmas.{changed_at-with_place, is_valid_at}
use Rattle.mdc_ast.proofs.TestsLemmas.{some_is}
use Rattle.row_checks.specs.Executing.{IsThere}
use Rattle.reference_engine.specs.Tables.{with_next, with_rows}

-- what holds anyhow holds after an error
pub on_err : {V E : Type 0} (result : Result V E) (P : Type 0) → P → OnErr result P
on_err (Ok v) P h = tt
on_err (Err e) P h = h

-- tables that an error leaves are of built forms where they were
pub still_built : {V E : Type 0} (result : Result V E) (db new : Database) → OnErr result (new ≡ db) → IsBuiltDatabase db → OnErr result (IsBuiltDatabase new)
still_built (Ok v) db new same valid = tt
still_built (Err e) db new same valid = subst IsBuiltDatabase (sym same) valid

-- ---- a table that is there

-- it is there
pub is_there-some : (found : Option PlainTable) (P : PlainTable → Type 0) → IsThere found P → IsSome found
is_there-some None P h = absurd h
is_there-some (Some table) P h = refl

-- ---- changes

pub table_at-changed_at : (db : Database) (place : ℕ) (change : PlainTable → PlainTable) → table_at (changed_at db place change) place ≡ option_map change (table_at db place)
table_at-changed_at [] place change = refl
table_at-changed_at (None ∷ db) zero change = refl
table_at-changed_at (Some table ∷ db) zero change = refl
table_at-changed_at (table ∷ db) (suc place) change = table_at-changed_at db place change

changed_at-twice : (db : Database) (place : ℕ) (first second : PlainTable → PlainTable) → changed_at (changed_at db place first) place second ≡ changed_at db place (λ table. second (first table))
changed_at-twice [] place first second = refl
changed_at-twice (None ∷ db) zero first second = refl
changed_at-twice (Some table ∷ db) zero first second = refl
changed_at-twice (table ∷ db) (suc place) first second = ap (λ rest. table ∷ rest) (changed_at-twice db place first second)

-- a table stays where it is changed
pub still_there : (db new : Database) (place : ℕ) (change : PlainTable → PlainTable) → new ≡ changed_at db place change → IsSome (table_at db place) → IsSome (table_at new place)
still_there db new place change e h =
    subst IsSome (sym (ap (λ d. table_at d place) e ∙ table_at-changed_at db place change)) (mapped (table_at db place) h)
  where
    mapped : (found : Option PlainTable) → IsSome found → IsSome (option_map change found)
    mapped None h = h
    mapped (Some table) h = refl

-- and keeps its number
pub still_numbered : (db new : Database) (place : ℕ) (change : PlainTable → PlainTable) → new ≡ changed_at db place change → ((table : PlainTable) → (change table).def.number ≡ table.def.number) →
    IfSome (table_at db place) (λ table. table.def.number ≡ place) → IfSome (table_at new place) (λ table. table.def.number ≡ place)
still_numbered db new place change e same h =
    subst (λ found. IfSome found (λ (table : PlainTable). table.def.number ≡ place)) (sym (ap (λ d. table_at d place) e ∙ table_at-changed_at db place change)) (mapped (table_at db place) h)
  where
    mapped : (found : Option PlainTable) → IfSome found (λ table. table.def.number ≡ place) → IfSome (option_map change found) (λ table. table.def.number ≡ place)
    mapped None h = h
    mapped (Some table) h = same table ∙ h

-- a valid table has the number of its place
pub valid_number : (db : Database) (place : ℕ) → IsBuiltDatabase db → IfSome (table_at db place) (λ table. table.def.number ≡ place)
valid_number db place valid = by_table (table_at db place) refl
  where
    by_table : (found : Option PlainTable) → table_at db place ≡ found → IfSome found (λ table. table.def.number ≡ place)
    by_table None at = tt
    by_table (Some table) at = (is_valid_at db place table valid at).def.stands

-- ---- rows that are taken out and put back

-- the rows that were taken are those of the table
pub record AreRowsOf (db : Database) (place : ℕ) (rows : List Row) : Type 0 where
  pub table : PlainTable
  pub is : table_at db place ≡ Some table
  pub rows_are : table.rows ≡ rows

pub are_rows_of : (db : Database) (place : ℕ) (rows : List Row) → option_map (λ table. table.rows) (table_at db place) ≡ Some rows → AreRowsOf db place rows
are_rows_of db place rows e = by_table (table_at db place) refl e
  where
    by_table : (found : Option PlainTable) → table_at db place ≡ found → option_map (λ table. table.rows) found ≡ Some rows → AreRowsOf db place rows
    by_table None at e = cc
    by_table (Some table) at e = record { table = table; is = at; rows_are = some_is table.rows rows e }

-- the rows of a table that is known
pub same_rows : (db : Database) (place : ℕ) (table : PlainTable) (rows : List Row) → table_at db place ≡ Some table → option_map (λ table. table.rows) (table_at db place) ≡ Some rows → table.rows ≡ rows
same_rows db place table rows at e = some_is table.rows rows (sym (ap (option_map (λ (table : PlainTable). table.rows)) at) ∙ e)

-- a change of the whole table is the rows put back
pub put_back : (db without new : Database) (place : ℕ) (table : PlainTable) (rows : List Row) (change : PlainTable → PlainTable) → table_at db place ≡ Some table →
    without ≡ changed_at db place (with_rows []) → new ≡ changed_at without place (with_rows rows) → change table ≡ with_rows rows table → changed_at db place change ≡ new
put_back db without new place table rows change at left put same =
    changed_at-with_place db place table change at
    ∙ ap (λ t. with_place db place (Some t)) same
    ∙ sym (changed_at-with_place db place table (λ table. with_rows rows (with_rows [] table)) at)
    ∙ sym (changed_at-twice db place (with_rows []) (with_rows rows))
    ∙ ap (λ d. changed_at d place (with_rows rows)) (sym left)
    ∙ sym put

-- and numbered on
pub put_and_numbered : (db without rowed new : Database) (place : ℕ) (table : PlainTable) (rows : List Row) (next : ℕ) (change : PlainTable → PlainTable) → table_at db place ≡ Some table →
    without ≡ changed_at db place (with_rows []) → rowed ≡ changed_at without place (with_rows rows) → new ≡ changed_at rowed place (with_next next) →
    change table ≡ with_next next (with_rows rows table) → changed_at db place change ≡ new
put_and_numbered db without rowed new place table rows next change at left put number same =
    changed_at-with_place db place table change at
    ∙ ap (λ t. with_place db place (Some t)) same
    ∙ sym (changed_at-with_place db place table (λ table. with_next next (with_rows rows table)) at)
    ∙ sym (changed_at-twice db place (with_rows rows) (with_next next))
    ∙ ap (λ d. changed_at d place (with_next next)) (put_back db without rowed place table rows (with_rows rows) at left put refl)
    ∙ sym number

-- a change that makes a table of itself
pub changed_at-same : (db : Database) (place : ℕ) → changed_at db place (λ table. table) ≡ db
changed_at-same [] place = refl
changed_at-same (None ∷ db) zero = refl
changed_at-same (Some table ∷ db) zero = refl
changed_at-same (table ∷ db) (suc place) = ap (λ rest. table ∷ rest) (changed_at-same db place)

-- the rows that were taken out are put back as they were
pub put_back_same : (db without new : Database) (place : ℕ) (taken rows : List Row) → option_map (λ table. table.rows) (table_at db place) ≡ Some taken → without ≡ changed_at db place (with_rows [])
    → new ≡ changed_at without place (with_rows rows) → rows ≡ taken → new ≡ db
put_back_same db without new place taken rows took left put same =
    let known : AreRowsOf db place taken = are_rows_of db place taken took in
    let its : known.table ≡ with_rows rows known.table = ap (λ r. with_rows r known.table) (known.rows_are ∙ sym same) in
    sym (put_back db without new place known.table rows (λ table. table) known.is left put its) ∙ changed_at-same db place
