-- The database that definitions and rows stand for, and what becomes of it as a place of either is changed.
use Rattle.std.proofs.Common.{◌≡◌, ◌≢◌, ◌<◌, ◌+◌, ℕ, zero, suc, List, [], ◌∷◌, ◌⊎◌, inl, inr, ◌∙◌, refl, sym, ap, subst, length, set, get_or, replicate, arith, length-set}
use Rattle.std.specs.Prelude.{Option, Some, None, option_map, option_and_then, is_none, unwrap_or, IsSome, IfSome}
use Rattle.std.specs.List.{position_from}
use Rattle.std.proofs.lemmas.List.{set-set}
use Rattle.std.proofs.lemmas.Option.{slice_get_read}
use Rattle.mdc_ast.specs.declared.definition.TableDef.{TableDef}
use Rattle.mdc_ast.specs.declared.row.Row.{Row}
use Rattle.mdc_ast.specs.Database.{Database, PlainTable, changed_at, defs_of, table_at, with_place}
use Rattle.mdc_ast.specs.Definitions.{Definitions, def_at, empty_place, with_def}
use Rattle.statement_meaning.specs.Doing.{entered}
use Rattle.statement_meaning.proofs.DatabaseLemmas.{changed_at-with_place}
use Rattle.row_checks.specs.Executing.{IsThere, MayDropIndex}
use Rattle.reference_engine.proofs.ChangedTables.{changed_at-same}
use Rattle.mdc_words.proofs.PlacesLemmas.{slice_get-set_same, slice_get-set_other}
use Rattle.reference_engine.specs.Tables.{AreTables, rows_in, table_with, tables_of, with_rows}

-- ---- what it is

pub defs_of-tables_of : (defs : Definitions) (rows : List (List Row)) → defs_of (tables_of defs rows) ≡ defs
defs_of-tables_of [] rows = refl
defs_of-tables_of (None ∷ defs) [] = ap (λ rest. None ∷ rest) (defs_of-tables_of defs [])
defs_of-tables_of (Some def ∷ defs) [] = ap (λ rest. Some def ∷ rest) (defs_of-tables_of defs [])
defs_of-tables_of (None ∷ defs) (first ∷ rows) = ap (λ rest. None ∷ rest) (defs_of-tables_of defs rows)
defs_of-tables_of (Some def ∷ defs) (first ∷ rows) = ap (λ rest. Some def ∷ rest) (defs_of-tables_of defs rows)

pub table_at-tables_of : (defs : Definitions) (rows : List (List Row)) (place : ℕ) → table_at (tables_of defs rows) place ≡ option_map (table_with (rows_in rows place)) (def_at defs place)
table_at-tables_of [] rows place = refl
table_at-tables_of (None ∷ defs) [] zero = refl
table_at-tables_of (Some def ∷ defs) [] zero = refl
table_at-tables_of (def ∷ defs) [] (suc place) = table_at-tables_of defs [] place
table_at-tables_of (None ∷ defs) (first ∷ rows) zero = refl
table_at-tables_of (Some def ∷ defs) (first ∷ rows) zero = refl
table_at-tables_of (def ∷ defs) (first ∷ rows) (suc place) = table_at-tables_of defs rows place

-- a place has another definition, and other rows
pub tables_of-set : (defs : Definitions) (rows : List (List Row)) (place : ℕ) (def : Option TableDef) (new : List Row) → length defs ≡ length rows →
    tables_of (set defs place def) (set rows place new) ≡ with_place (tables_of defs rows) place (option_map (table_with new) def)
tables_of-set [] rows place def new e = refl
tables_of-set (first ∷ defs) [] place def new e = absurd (omega arith)
tables_of-set (first ∷ defs) (others ∷ rows) zero def new e = refl
tables_of-set (first ∷ defs) (others ∷ rows) (suc place) def new e =
    let same : length defs ≡ length rows = omega arith in
    ap (λ rest. option_map (table_with others) first ∷ rest) (tables_of-set defs rows place def new same)

-- the definition alone
pub tables_of-set_def : (defs : Definitions) (rows : List (List Row)) (place : ℕ) (def : Option TableDef) → length defs ≡ length rows →
    tables_of (set defs place def) rows ≡ with_place (tables_of defs rows) place (option_map (table_with (rows_in rows place)) def)
tables_of-set_def [] rows place def e = refl
tables_of-set_def (first ∷ defs) [] place def e = absurd (omega arith)
tables_of-set_def (first ∷ defs) (others ∷ rows) zero def e = refl
tables_of-set_def (first ∷ defs) (others ∷ rows) (suc place) def e =
    let same : length defs ≡ length rows = omega arith in
    ap (λ rest. option_map (table_with others) first ∷ rest) (tables_of-set_def defs rows place def same)

-- the rows alone
pub tables_of-set_rows : (defs : Definitions) (rows : List (List Row)) (place : ℕ) (new : List Row) → length defs ≡ length rows →
    tables_of defs (set rows place new) ≡ changed_at (tables_of defs rows) place (with_rows new)
tables_of-set_rows [] rows place new e = refl
tables_of-set_rows (first ∷ defs) [] place new e = absurd (omega arith)
tables_of-set_rows (None ∷ defs) (others ∷ rows) zero new e = refl
tables_of-set_rows (Some def ∷ defs) (others ∷ rows) zero new e = refl
tables_of-set_rows (first ∷ defs) (others ∷ rows) (suc place) new e =
    let same : length defs ≡ length rows = omega arith in
    ap (λ rest. option_map (table_with others) first ∷ rest) (tables_of-set_rows defs rows place new same)

-- ---- a place with a table

-- a table is there, and its place is one of the 16
pub record IsPlaced (defs : Definitions) (rows : List (List Row)) (place : ℕ) : Type 0 where
  pub def : TableDef
  pub is : def_at defs place ≡ Some def
  pub within : place < 16
  pub has_rows : place < length rows

is_some : (defs : Definitions) (place : ℕ) (found : Option TableDef) (rows : List Row) → def_at defs place ≡ found → IsSome (option_map (table_with rows) found) → (def : TableDef) × (def_at defs place ≡ Some def)
is_some defs place None rows e h = cc
is_some defs place (Some def) rows e h = (def, e)

pub def_at-within : (defs : Definitions) (place : ℕ) (def : TableDef) → def_at defs place ≡ Some def → place < length defs
def_at-within [] place def e = cc
def_at-within (first ∷ defs) zero def e = omega arith
def_at-within (first ∷ defs) (suc place) def e =
    let below : place < length defs = def_at-within defs place def e in
    omega arith

pub is_placed : (defs : Definitions) (rows : List (List Row)) (db : Database) (place : ℕ) → tables_of defs rows ≡ db → AreTables defs rows → IsSome (table_at db place) → IsPlaced defs rows place
is_placed defs rows db place e are h =
    let there : IsSome (option_map (table_with (rows_in rows place)) (def_at defs place)) = subst IsSome (ap (λ d. table_at d place) (sym e) ∙ table_at-tables_of defs rows place) h in
    let found : (def : TableDef) × (def_at defs place ≡ Some def) = is_some defs place (def_at defs place) (rows_in rows place) refl there in
    let below : place < length defs = def_at-within defs place found.0 found.1 in
    record { def = found.0; is = found.1; within = omega (arith, are.places); has_rows = omega (arith, are.places, are.rooms) }

-- so it isn't empty
pub not_empty : (defs : Definitions) (rows : List (List Row)) (place : ℕ) → IsPlaced defs rows place → def_at defs place ≡ None → ⊥
not_empty defs rows place placed e = cc (placed.is)

-- the rows in a place, read there
pub rows_in-read : (rows : List (List Row)) (place : ℕ) (found : List Row) → place < length rows → found ≡ get_or rows place found → rows_in rows place ≡ found
rows_in-read rows place found lt e = ap (λ o. unwrap_or o []) (slice_get_read rows (length rows) place found refl lt e)

-- the table that is lent
pub table_is : (defs : Definitions) (rows : List (List Row)) (db : Database) (place : ℕ) (def : TableDef) (found : List Row) → tables_of defs rows ≡ db → def_at defs place ≡ Some def →
    place < length rows → found ≡ get_or rows place found → table_at db place ≡ Some (record { def = def; rows = found })
table_is defs rows db place def found e is lt read =
    ap (λ d. table_at d place) (sym e) ∙ table_at-tables_of defs rows place ∙ ap (option_map (table_with (rows_in rows place))) is
    ∙ ap (λ r. Some (table_with r def)) (rows_in-read rows place found lt read)

-- its definition has the number that is required
pub number_known : (defs : Definitions) (rows : List (List Row)) (db : Database) (place : ℕ) (def : TableDef) → tables_of defs rows ≡ db → def_at defs place ≡ Some def →
    IfSome (table_at db place) (λ table. table.def.number ≡ place) → def.number ≡ place
number_known defs rows db place def e is h =
    let there : table_at db place ≡ Some (table_with (rows_in rows place) def) =
    ap (λ d. table_at d place) (sym e) ∙ table_at-tables_of defs rows place ∙ ap (option_map (table_with (rows_in rows place))) is in
    subst (λ o. IfSome o (λ (table : PlainTable). table.def.number ≡ place)) there h

-- ---- what stays true of the places

pub def_at-other : (defs : Definitions) (place : ℕ) (def : Option TableDef) (other : ℕ) → other ≢ place → def_at (set defs place def) other ≡ def_at defs other
def_at-other defs place def other ne = ap (option_and_then (λ def. def)) (slice_get-set_other defs place def other ne)

pub def_at-same : (defs : Definitions) (place : ℕ) (def : Option TableDef) → place < length defs → def_at (set defs place def) place ≡ def
def_at-same defs place def lt = ap (option_and_then (λ def. def)) (slice_get-set_same defs place def lt)

pub rows_in-other : (rows : List (List Row)) (place : ℕ) (new : List Row) (other : ℕ) → other ≢ place → rows_in (set rows place new) other ≡ rows_in rows other
rows_in-other rows place new other ne = ap (λ o. unwrap_or o []) (slice_get-set_other rows place new other ne)

rows_in-same : (rows : List (List Row)) (place : ℕ) (new : List Row) → place < length rows → rows_in (set rows place new) place ≡ new
rows_in-same rows place new lt = ap (λ o. unwrap_or o []) (slice_get-set_same rows place new lt)

pub same_or_other : (a b : ℕ) → (a ≡ b) ⊎ (a ≢ b)
same_or_other zero zero = inl refl
same_or_other zero (suc b) = inr (λ e. cc)
same_or_other (suc a) zero = inr (λ e. cc)
same_or_other (suc a) (suc b) = elim (same_or_other a b) [ inl e ↦ inl (ap suc e) | inr ne ↦ inr (λ e. ne (omega arith)) ]

-- a definition in a place
pub are_tables-set_def : (defs : Definitions) (rows : List (List Row)) (place : ℕ) (def : TableDef) → AreTables defs rows → place < 16 → AreTables (set defs place (Some def)) rows
are_tables-set_def defs rows place def are lt = record {
  places = length-set defs place (Some def) ∙ are.places;
  rooms = are.rooms;
  cleared = λ other empty. elim (same_or_other other place) [
    | inl e ↦
        let there : place < length defs = omega (arith, are.places) in
        let is : def_at (set defs place (Some def)) place ≡ None = ap (def_at (set defs place (Some def))) (sym e) ∙ empty in
        absurd (cc (is, def_at-same defs place (Some def) there))
    | inr ne ↦ are.cleared other (sym (def_at-other defs place (Some def) other ne) ∙ empty)
  ];
}

-- a place emptied
pub are_tables-leave : (defs : Definitions) (rows : List (List Row)) (place : ℕ) → AreTables defs rows → place < 16 → AreTables (set defs place None) (set rows place [])
are_tables-leave defs rows place are lt = record {
  places = length-set defs place None ∙ are.places;
  rooms = length-set rows place [] ∙ are.rooms;
  cleared = λ other empty. elim (same_or_other other place) [
    | inl e ↦
        let there : place < length rows = omega (arith, are.rooms) in
        ap (rows_in (set rows place [])) e ∙ rows_in-same rows place [] there
    | inr ne ↦ rows_in-other rows place [] other ne ∙ are.cleared other (sym (def_at-other defs place None other ne) ∙ empty)
  ];
}

-- other rows of a table
pub are_tables-set_rows : (defs : Definitions) (rows : List (List Row)) (place : ℕ) (new : List Row) → AreTables defs rows → IsPlaced defs rows place → AreTables defs (set rows place new)
are_tables-set_rows defs rows place new are placed = record {
  places = are.places;
  rooms = length-set rows place new ∙ are.rooms;
  cleared = λ other empty. elim (same_or_other other place) [
    | inl e ↦ absurd (not_empty defs rows place placed (ap (def_at defs) (sym e) ∙ empty))
    | inr ne ↦ rows_in-other rows place new other ne ∙ are.cleared other empty
  ];
}

-- no tables at all
pub are_tables-empty : (rows : List (List Row)) → rows ≡ replicate 16 [] → AreTables (replicate 16 None) rows
are_tables-empty rows e = record { places = refl; rooms = ap length e; cleared = λ place empty. ap (λ r. rows_in r place) e ∙ none place 16 }
  where
    none : (place n : ℕ) → rows_in (replicate n []) place ≡ []
    none place zero = refl
    none zero (suc n) = refl
    none (suc place) (suc n) = none place n

-- ---- the calls

equal : {defs : Definitions} {rows : List (List Row)} → AreTables defs rows → length defs ≡ length rows
equal are = are.places ∙ sym are.rooms

-- the lowest empty place is one of them, and is empty
empty_at : (from : ℕ) (defs : Definitions) (n : ℕ) → position_from is_none from defs ≡ Some n → (i : ℕ) × (n ≡ from + i) × (i < length defs) × (def_at defs i ≡ None)
empty_at from [] n e = cc
empty_at from (None ∷ defs) n e =
    let same : from ≡ n = cc in
    (0, omega arith, omega arith, refl)
empty_at from (Some def ∷ defs) n e =
    let rest : (i : ℕ) × (n ≡ from + 1 + i) × (i < length defs) × (def_at defs i ≡ None) = empty_at (from + 1) defs n e in
    (suc rest.0, omega arith, omega arith, rest.3)

pub record IsFree (defs : Definitions) (place : ℕ) : Type 0 where
  pub within : place < length defs
  pub free : def_at defs place ≡ None

pub is_free : (defs : Definitions) (place : ℕ) → empty_place defs ≡ Some place → IsFree defs place
is_free defs place e =
    let at : (i : ℕ) × (place ≡ 0 + i) × (i < length defs) × (def_at defs i ≡ None) = empty_at 0 defs place e in
    let same : at.0 ≡ place = omega arith in
    record { within = omega arith; free = ap (def_at defs) (sym same) ∙ at.3 }

-- a table enters the lowest empty place
pub enter_is : (defs new : Definitions) (rows : List (List Row)) (db : Database) (place : ℕ) (def : TableDef) → tables_of defs rows ≡ db → AreTables defs rows → empty_place defs ≡ Some place → new ≡ with_def defs place def →
    tables_of new rows ≡ entered db (empty_place (defs_of db)) def
enter_is defs new rows db place def e are lowest is =
    let free : IsFree defs place = is_free defs place lowest in
    let numbered : TableDef = record def { number = place } in
    let where_ : Some place ≡ empty_place (defs_of db) = sym lowest ∙ ap empty_place (sym (defs_of-tables_of defs rows) ∙ ap defs_of e) in
    ap (λ d. tables_of d rows) is
    ∙ tables_of-set_def defs rows place (Some numbered) (equal are)
    ∙ ap (λ r. with_place (tables_of defs rows) place (Some (table_with r numbered))) (are.cleared place free.free)
    ∙ ap (λ d. with_place d place (Some (table_with [] numbered))) e
    ∙ ap (λ o. entered db o def) where_

-- a table goes
pub leave_is : (defs new : Definitions) (rows : List (List Row)) (none : List Row) (db : Database) (place : ℕ) → tables_of defs rows ≡ db → AreTables defs rows → new ≡ set defs place None → none ≡ [] →
    tables_of new (set rows place none) ≡ with_place db place None
leave_is defs new rows none db place e are is empty = ap (λ d. tables_of d (set rows place none)) is ∙ ap (λ r. tables_of (set defs place None) (set rows place r)) empty ∙ tables_of-set defs rows place None [] (equal are) ∙ ap (λ d. with_place d place None) e

-- a table has other rows
pub put_is : (defs : Definitions) (rows : List (List Row)) (db : Database) (place : ℕ) (new given : List Row) → tables_of defs rows ≡ db → AreTables defs rows → new ≡ given →
    tables_of defs (set rows place new) ≡ changed_at db place (with_rows given)
put_is defs rows db place new given e are same = ap (λ r. tables_of defs (set rows place r)) same ∙ tables_of-set_rows defs rows place given (equal are) ∙ ap (λ d. changed_at d place (with_rows given)) e

-- the rows that a table has
pub rows_taken : (defs : Definitions) (rows : List (List Row)) (db : Database) (place : ℕ) (found : List Row) → tables_of defs rows ≡ db → IsPlaced defs rows place → found ≡ get_or rows place found →
    option_map (λ table. table.rows) (table_at db place) ≡ Some found
rows_taken defs rows db place found e placed read =
    ap (option_map (λ (table : PlainTable). table.rows)) (table_is defs rows db place placed.def found e placed.is placed.has_rows read)

-- a table has another definition, under the same number
pub redefined_is : (defs left new : Definitions) (rows : List (List Row)) (db : Database) (place : ℕ) (def after : TableDef) (change : PlainTable → PlainTable) → tables_of defs rows ≡ db → AreTables defs rows →
    def_at defs place ≡ Some def → after.number ≡ place → change (table_with (rows_in rows place) def) ≡ table_with (rows_in rows place) after → left ≡ set defs place None → new ≡ with_def left place after →
    tables_of new rows ≡ changed_at db place change
redefined_is defs left new rows db place def after change e are is numbered changes taken put =
    let table : PlainTable = table_with (rows_in rows place) def in
    let there : table_at (tables_of defs rows) place ≡ Some table = table_at-tables_of defs rows place ∙ ap (option_map (table_with (rows_in rows place))) is in
    let whole : new ≡ set defs place (Some after) =
    put ∙ ap (λ d. with_def d place after) taken ∙ set-set defs place None (Some (record after { number = place }))
    ∙ ap (λ n. set defs place (Some (record after { number = n }))) (sym numbered) in
    ap (λ d. tables_of d rows) whole
    ∙ tables_of-set_def defs rows place (Some after) (equal are)
    ∙ ap (λ t. with_place (tables_of defs rows) place (Some t)) (sym changes)
    ∙ sym (changed_at-with_place (tables_of defs rows) place table change there)
    ∙ ap (λ d. changed_at d place change) e

-- a definition that is put back as it was
pub redefined_same : (defs left new : Definitions) (rows : List (List Row)) (db : Database) (place : ℕ) (def after : TableDef) → tables_of defs rows ≡ db → AreTables defs rows →
    def_at defs place ≡ Some def → after.number ≡ place → def ≡ after → left ≡ set defs place None → new ≡ with_def left place after → tables_of new rows ≡ db
redefined_same defs left new rows db place def after e are is numbered same taken put =
    redefined_is defs left new rows db place def after (λ table. table) e are is numbered (ap (table_with (rows_in rows place)) same) taken put ∙ changed_at-same db place

-- a record index of a table that is there
pub index_there : (defs : Definitions) (rows : List (List Row)) (db : Database) (place index : ℕ) (def : TableDef) → tables_of defs rows ≡ db → def_at defs place ≡ Some def → IsThere (table_at db place) (MayDropIndex index) → index < length def.indexes
index_there defs rows db place index def e is h =
    let there : table_at db place ≡ Some (table_with (rows_in rows place) def) =
    ap (λ d. table_at d place) (sym e) ∙ table_at-tables_of defs rows place ∙ ap (option_map (table_with (rows_in rows place))) is in
    let may : MayDropIndex index (table_with (rows_in rows place) def) = subst (λ found. IsThere found (MayDropIndex index)) there h in
    may.within

-- and it keeps its place
pub are_tables-number : (defs left new : Definitions) (rows : List (List Row)) (place : ℕ) (def : TableDef) → AreTables defs rows → place < 16 → left ≡ set defs place None → new ≡ with_def left place def → AreTables new rows
are_tables-number defs left new rows place def are lt taken put =
    let whole : new ≡ set defs place (Some (record def { number = place })) =
    put ∙ ap (λ d. with_def d place def) taken ∙ set-set defs place None (Some (record def { number = place })) in
    subst (λ d. AreTables d rows) (sym whole) (are_tables-set_def defs rows place (record def { number = place }) are lt)
