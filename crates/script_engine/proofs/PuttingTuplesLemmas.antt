-- The tuples of an INSERT: what is said against them by the rows, and those against which nothing is said, which fit and have numbers.
use Rattle.std.proofs.Common.{◌≡◌, ◌<◌, ◌+◌, ℕ, zero, suc, List, [], ◌∷◌, ◌++◌, ◌∙◌, refl, sym, ap, subst, length, arith}
use Rattle.std.specs.Prelude.{Option, Some, None, flat_map, nat_lt, false, is_none, IsTrue, IfSome, Result, Ok, Err, OnOk, OnErr, slice_set}
use Rattle.std.specs.List.{AllByRecursion, list_all}
use Rattle.std.proofs.lemmas.Bool.Decides.{nat_tests}
use Rattle.std.proofs.lemmas.List.{map-append, set-set}
use Rattle.std.proofs.lemmas.Option.{same_Some}
use Rattle.mdc_values.specs.declared.value.Value.{Value}
use Rattle.mdc_ast.specs.declared.bound.Bound.TheVariants as bound
use Rattle.mdc_ast.specs.declared.definition.ColumnDef.{ColumnDef}
use Rattle.mdc_ast.specs.declared.definition.TableDef.{TableDef}
use Rattle.mdc_ast.specs.declared.refusal.Refusal.{Refusal}
use Rattle.mdc_ast.specs.declared.reply.Reply.{Reply}
use Rattle.mdc_ast.specs.declared.row.Row.{Row}
use Rattle.statement_meaning.specs.Cause.{Cause, NumbersUsedUp}
use Rattle.mdc_ast.specs.Database.{Database, PlainTable, appended, changed_at, fits_all, table_at, numbered}
use Rattle.mdc_ast.specs.Definitions.{Definitions, def_at, with_def, without_def}
use Rattle.row_groups.specs.Numbers.{values_of}
use Rattle.statement_meaning.specs.Doing.{causes_of_rows, duplicate_causes, null_causes, twin_causes, used_up}
use Rattle.statement_meaning.specs.Judging.{of_some}
use Rattle.statement_meaning.specs.Step.{Refused, step_by}
use Rattle.statement_meaning.proofs.CausesLemmas.{none_if, none_of_both}
use Rattle.statement_meaning.proofs.DatabaseLemmas.{table_at-changed}
use Rattle.mdc_ast.proofs.TestsLemmas.{both}
use Rattle.statement_meaning.proofs.BuiltLemmas.{none_generated}
use Rattle.mdc_ast.specs.FittingRows.{RowFits}
use Rattle.mdc_sound.specs.StandsForDatabase.{rootless}
use Rattle.row_checks.specs.Served.{IsDefined, MayPut}
use Rattle.script_engine.specs.Inserting.{first_refusal, numbered_on, tuple_causes}
use Rattle.script_engine.proofs.ReadyKeysLemmas.{rootless_twins}

-- ---- what is said

-- what nothing is said against has no null where there may be none
pub no_nulls : (def : TableDef) (tuples : List (List Value)) → tuple_causes def tuples ≡ [] → flat_map (null_causes def.columns) tuples ≡ []
no_nulls def tuples none = (none_of_both (flat_map (null_causes def.columns) tuples) (used_up def.next (length tuples)) none).0

-- and its numbers are below 2^64
pub numbers_left : (def : TableDef) (tuples : List (List Value)) → tuple_causes def tuples ≡ [] → def.next + length tuples < 18446744073709551616
numbers_left def tuples none =
    few (def.next + length tuples) (none_if (nat_lt 18446744073709551615 (def.next + length tuples)) (NumbersUsedUp def.next)
    (none_of_both (flat_map (null_causes def.columns) tuples) (used_up def.next (length tuples)) none).1)
  where
    few : (n : ℕ) → nat_lt 18446744073709551615 n ≡ false → n < 18446744073709551616
    few n not_more = grind (arith, nat_tests, not_more)

-- tuples without such a null, and with numbers left, have nothing said against them
pub nothing_said : (def : TableDef) (tuples : List (List Value)) → flat_map (null_causes def.columns) tuples ≡ [] → used_up def.next (length tuples) ≡ [] → tuple_causes def tuples ≡ []
nothing_said def tuples no_nulls numbers = ap (λ front. front ++ used_up def.next (length tuples)) no_nulls ∙ numbers

values_of-numbered : (from : ℕ) (tuples : List (List Value)) → values_of (numbered from tuples) ≡ tuples
values_of-numbered from [] = refl
values_of-numbered from (values ∷ tuples) = ap (λ more. values ∷ more) (values_of-numbered (from + 1) tuples)

-- the values of a table's rows with new ones behind them
values_of-appended : (table : PlainTable) (tuples : List (List Value)) → values_of (appended tuples table).rows ≡ values_of table.rows ++ tuples
values_of-appended table tuples =
    map-append (λ (row : Row). row.values) table.rows (numbered table.def.next tuples) ∙ ap (λ more. values_of table.rows ++ more) (values_of-numbered table.def.next tuples)

-- the rows of a plain table of this definition say of nulls and of row numbers the same, and of keys what these rows and the tuples say
pub said_by_rows : (db : Database) (place : ℕ) (table : PlainTable) (def : TableDef) (tuples : List (List Value)) → table_at db place ≡ Some table → table.def ≡ rootless def
    → causes_of_rows db (bound.Insert place tuples) ≡ flat_map (null_causes def.columns) tuples ++ flat_map (twin_causes (values_of table.rows ++ tuples)) def.indexes ++ used_up def.next (length tuples)
said_by_rows db place table def tuples at is =
    let with_keys : List Cause → List Cause = λ keys. flat_map (null_causes def.columns) tuples ++ keys ++ used_up def.next (length tuples) in
    ap (λ found. of_some found (λ (t : PlainTable). flat_map (null_causes t.def.columns) tuples) ++ of_some (table_at (changed_at db place (appended tuples)) place) duplicate_causes
    ++ of_some found (λ (t : PlainTable). used_up t.def.next (length tuples))) at
    ∙ (ap (λ (d : TableDef). flat_map (null_causes d.columns) tuples ++ of_some (table_at (changed_at db place (appended tuples)) place) duplicate_causes ++ used_up d.next (length tuples)) is
    ∙ ap with_keys
    (ap (λ found. of_some found duplicate_causes) (table_at-changed db place table (appended tuples) at)
    ∙ (ap (λ rows. flat_map (twin_causes rows) table.def.indexes) (values_of-appended table tuples)
    ∙ (ap (λ (d : TableDef). flat_map (twin_causes (values_of table.rows ++ tuples)) d.indexes) is ∙ rootless_twins (values_of table.rows ++ tuples) def.indexes))))

-- a statement is refused for what is said first
pub refused_for_first : (db : Database) (causes : List Cause) (done : Database × Reply) (refusal : Refusal) → first_refusal causes ≡ Some refusal → step_by db causes done ≡ (db, Refused refusal)
refused_for_first db [] (new, reply) refusal first = absurd cc
refused_for_first db (cause ∷ causes) done refusal first = ap (λ r. (db, Refused r)) (same_Some _ refusal first)

-- nothing is said first where nothing is said
pub none_said : (causes : List Cause) → first_refusal causes ≡ None → causes ≡ []
none_said [] none = refl
none_said (cause ∷ causes) none = absurd cc

-- what is said in front is said first
pub refused_in_front : (causes more : List Cause) (refusal : Refusal) → first_refusal causes ≡ Some refusal → first_refusal (causes ++ more) ≡ Some refusal
refused_in_front [] more refusal first = absurd cc
refused_in_front (cause ∷ causes) more refusal first = first

-- ---- what fits

-- tuples that fit do so one by one
pub each_fits : (columns : List ColumnDef) (tuples : List (List Value)) → IsTrue (list_all (fits_all columns) tuples) → AllByRecursion (λ values. IsTrue (fits_all columns values)) tuples
each_fits columns [] fit = tt
each_fits columns (values ∷ tuples) fit = let parts = both (fits_all columns values) (list_all (fits_all columns) tuples) fit in (parts.0, each_fits columns tuples parts.1)

-- rows of values that fit the columns fit the definition
pub rows_fit : (def : TableDef) (from : ℕ) (tuples : List (List Value)) → IsTrue (list_all (λ (column : ColumnDef). is_none column.made) def.columns) → IsTrue (list_all (fits_all def.columns) tuples)
    → AllByRecursion (RowFits def) (numbered from tuples)
rows_fit def from [] none fit = tt
rows_fit def from (values ∷ tuples) none fit =
    let parts = both (fits_all def.columns values) (list_all (fits_all def.columns) tuples) fit in
    (record { values = parts.0; generated = none_generated values def.columns values none }, rows_fit def (from + 1) tuples none parts.1)

-- what may be put into a table that is there
pub may_put : (found : Option TableDef) (def : TableDef) (tuples : List (List Value)) → found ≡ Some def → IsDefined found (MayPut tuples) → MayPut tuples def
may_put found def tuples at may = subst (λ f. IsDefined f (MayPut tuples)) at may

-- so there is one
pub there_is : (found : Option TableDef) (P : TableDef → Type 0) → IsDefined found P → (def : TableDef) × (found ≡ Some def)
there_is None P defined = absurd defined
there_is (Some def) P defined = (def, refl)

-- and so what is said of it
pub of_that : (found : Option TableDef) (def : TableDef) (P : TableDef → Type 0) → found ≡ Some def → IfSome found P → P def
of_that found def P at is = subst (λ f. IfSome f P) at is

-- tuples against which nothing is said make rows that fit
pub tuples_fit : (def : TableDef) (tuples : List (List Value)) → IsTrue (list_all (λ (column : ColumnDef). is_none column.made) def.columns) → MayPut tuples def → tuple_causes def tuples ≡ []
    → AllByRecursion (RowFits def) (numbered def.next tuples)
tuples_fit def tuples made may none = rows_fit def def.next tuples made (may.fit (no_nulls def tuples none))

-- ---- the definition, which was taken out and is put back whatever came

-- a place that is emptied and filled again is only filled
pub emptied_and_put : (defs : Definitions) (place : ℕ) (def : TableDef) → with_def (without_def defs place) place def ≡ with_def defs place def
emptied_and_put [] place def = refl
emptied_and_put (first ∷ defs) zero def = refl
emptied_and_put (first ∷ defs) (suc place) def = set-set (first ∷ defs) (suc place) None _

-- what is put where it stands changes nothing
pub put_where_it_stands : (defs : Definitions) (place : ℕ) (def : TableDef) → def_at defs place ≡ Some def → slice_set defs place (Some def) ≡ defs
put_where_it_stands [] place def at = refl
put_where_it_stands (None ∷ defs) zero def at = absurd cc
put_where_it_stands (Some first ∷ defs) zero def at = ap (λ d. d ∷ defs) (sym at)
put_where_it_stands (first ∷ defs) (suc place) def at = ap (λ rest. first ∷ rest) (put_where_it_stands defs place def at)

-- under its own number a definition is itself
pub own_number : (place : ℕ) (def : TableDef) → def.number ≡ place → record def { number = place } ≡ def
own_number place def number = ap (λ n. record def { number = n }) (sym number)

module _ {X E : Type 0} (result : Result X E) (found def_now : TableDef) (count : ℕ) (next : OnOk result (def_now ≡ numbered_on found count)) where
  -- it keeps its number
  pub number_stays : OnErr result (def_now ≡ found) → def_now.number ≡ found.number
  number_stays kept = go result next kept
    where
      go : (r : Result X E) → OnOk r (def_now ≡ numbered_on found count) → OnErr r (def_now ≡ found) → def_now.number ≡ found.number
      go (Ok x) is kept = ap (λ (d : TableDef). d.number) is
      go (Err e) is kept = ap (λ (d : TableDef). d.number) kept

  -- what holds of the definition and the one that it became holds of the one that stood there
  pub becomes : (P : TableDef → TableDef → Type 0) (def : TableDef) → found ≡ def → OnOk result (P found def_now) → OnOk result (P def (numbered_on def count))
  becomes P def same all = go result next all
    where
      go : (r : Result X E) → OnOk r (def_now ≡ numbered_on found count) → OnOk r (P found def_now) → OnOk r (P def (numbered_on def count))
      go (Ok x) is holds = subst (λ d. P d (numbered_on d count)) same (subst (P found) is holds)
      go (Err e) is holds = tt

  module _ (defs left final : Definitions) (place : ℕ) (emptied : left ≡ without_def defs place) (put : final ≡ with_def left place def_now) where
    over : final ≡ with_def defs place def_now
    over = put ∙ (ap (λ d. with_def d place def_now) emptied ∙ emptied_and_put defs place def_now)

    -- where the rows went in, it stands there with its next number
    pub numbers_on : (def : TableDef) → found ≡ def → OnOk result (final ≡ with_def defs place (numbered_on def count))
    numbers_on def same = go result next
      where
        go : (r : Result X E) → OnOk r (def_now ≡ numbered_on found count) → OnOk r (final ≡ with_def defs place (numbered_on def count))
        go (Ok x) is = over ∙ ap (with_def defs place) (is ∙ ap (λ d. numbered_on d count) same)
        go (Err e) is = tt

    -- and after a fault all is as it was
    pub defs_stay : OnErr result (def_now ≡ found) → def_at defs place ≡ Some found → found.number ≡ place → OnErr result (final ≡ defs)
    defs_stay kept at number = go result kept
      where
        go : (r : Result X E) → OnErr r (def_now ≡ found) → OnErr r (final ≡ defs)
        go (Ok x) is = tt
        go (Err e) is = over ∙ (ap (with_def defs place) is ∙ (ap (λ d. slice_set defs place (Some d)) (own_number place found number) ∙ put_where_it_stands defs place found at))
