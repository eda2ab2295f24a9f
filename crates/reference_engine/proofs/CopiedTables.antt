-- Tables that are made once more, place by place.
use Rattle.std.proofs.Common.{◌≡◌, ◌<◌, ◌+◌, ℕ, zero, suc, List, [], ◌∷◌, ◌++◌, ◌∙◌, inl, inr, refl, sym, ap, subst, length, length-set, take, drop, map, set, get_or, replicate, arith, add-one}
use Rattle.std.specs.Prelude.{Option, Some, None, IsSome, MatchOption, false, is_some, option_map, true}
use Rattle.std.proofs.lemmas.Option.{same_Some}
use Rattle.mdc_ast.specs.declared.definition.TableDef.{TableDef}
use Rattle.mdc_ast.specs.declared.row.Row.{Row}
use Rattle.mdc_ast.specs.Database.{Database, PlainTable, table_at, with_place}
use Rattle.mdc_ast.specs.Definitions.{Definitions, def_at, with_def}
use Rattle.reference_engine.specs.Tables.{AreTables, rows_in, table_with, tables_of}
use Rattle.reference_engine.proofs.TablesLemmas.{def_at-other, def_at-same, is_placed, rows_in-other, same_or_other, table_at-tables_of, table_is, tables_of-set}

-- ---- the first places of a database, and none behind them

none_of : Option PlainTable → Option PlainTable
none_of table = None

pub filled : ℕ → Database → Database
filled i db = take i db ++ map none_of (drop i db)

-- at the start there are none
none_all : (db : Database) → map none_of db ≡ replicate (length db) None
unfolding none_of
none_all [] = refl
none_all (table ∷ db) = ap (λ rest. None ∷ rest) (none_all db)

pub filled_none : (db : Database) → length db ≡ 16 → replicate 16 None ≡ filled 0 db
unfolding filled
filled_none db long = sym (none_all db ∙ ap (λ n. replicate n None) long)

-- the next place has none
pub filled_next : (db : Database) (i : ℕ) → i < length db → table_at (filled i db) i ≡ None
unfolding filled none_of
filled_next [] i lt = absurd (omega (arith, lt))
filled_next (table ∷ db) zero lt = refl
filled_next (table ∷ db) (suc i) lt = filled_next db i (omega (arith, lt))

-- and then has its table
filled_step : (db : Database) (i : ℕ) → i < length db → set (filled i db) i (table_at db i) ≡ filled (suc i) db
unfolding filled none_of
filled_step [] i lt = absurd (omega (arith, lt))
filled_step (None ∷ db) zero lt = refl
filled_step (Some table ∷ db) zero lt = refl
filled_step (table ∷ db) (suc i) lt = ap (λ rest. table ∷ rest) (filled_step db i (omega (arith, lt)))

pub filled_more : (db copy new : Database) (i : ℕ) → i < length db → copy ≡ filled i db → new ≡ with_place copy i (table_at db i) → new ≡ filled (i + 1) db
filled_more db copy new i lt is put = put ∙ (ap (λ c. with_place c i (table_at db i)) is ∙ (filled_step db i lt ∙ ap (λ n. filled n db) (sym (add-one i))))

-- at the end it is the database
take_all : (n : ℕ) (db : Database) → length db ≡ n → filled n db ≡ db
unfolding filled none_of
take_all zero [] long = refl
take_all zero (table ∷ db) long = absurd (omega (arith, long))
take_all (suc n) [] long = absurd (omega (arith, long))
take_all (suc n) (table ∷ db) long = ap (λ rest. table ∷ rest) (take_all n db (omega (arith, long)))

pub filled_all : (db copy : Database) (i : ℕ) → length db ≡ 16 → i ≡ 16 → copy ≡ filled i db → copy ≡ db
filled_all db copy i long full is = is ∙ (ap (λ n. filled n db) full ∙ take_all 16 db long)

-- nothing put into a place that has nothing
pub with_none : (db : Database) (place : ℕ) → table_at db place ≡ None → with_place db place None ≡ db
with_none [] place none = refl
with_none (None ∷ db) zero none = refl
with_none (Some table ∷ db) zero none = absurd (cc)
with_none (table ∷ db) (suc place) none = ap (λ rest. table ∷ rest) (with_none db place none)

-- ---- a table put into a place

pub length-tables_of : (defs : Definitions) (rows : List (List Row)) → length (tables_of defs rows) ≡ length defs
length-tables_of [] rows = refl
length-tables_of (def ∷ defs) [] = ap suc (length-tables_of defs [])
length-tables_of (def ∷ defs) (first ∷ rows) = ap suc (length-tables_of defs rows)

-- it is one of the places
pub are_tables-put : (defs new : Definitions) (rows : List (List Row)) (place : ℕ) (def : TableDef) (its : List Row) → AreTables defs rows → place < 16 → new ≡ with_def defs place def
    → AreTables new (set rows place its)
are_tables-put defs new rows place def its are lt put = record {
  places = ap length put ∙ (length-set defs place (Some (record def { number = place })) ∙ are.places);
  rooms = length-set rows place its ∙ are.rooms;
  cleared = λ other empty. elim (same_or_other other place) [
    | inl e ↦
        let there : place < length defs = omega (arith, are.places) in
        let is : def_at (set defs place (Some (record def { number = place }))) place ≡ None = ap (λ d. def_at d place) (sym put) ∙ (ap (def_at new) (sym e) ∙ empty) in
        absurd (cc (is, def_at-same defs place (Some (record def { number = place })) there))
    | inr ne ↦
        rows_in-other rows place its other ne
        ∙ are.cleared other (sym (def_at-other defs place (Some (record def { number = place })) other ne) ∙ (ap (λ d. def_at d other) (sym put) ∙ empty))
  ];
}

-- and the database has it there
pub put_table_is : (defs new : Definitions) (rows : List (List Row)) (db : Database) (place : ℕ) (def : TableDef) (its : List Row) → tables_of defs rows ≡ db → AreTables defs rows → def.number ≡ place
    → new ≡ with_def defs place def → tables_of new (set rows place its) ≡ with_place db place (Some (record { def = def; rows = its }))
put_table_is defs new rows db place def its is are number put =
    let numbered : record def { number = place } ≡ def = ap (λ n. record def { number = n }) (sym number) in
    ap (λ d. tables_of d (set rows place its)) put
    ∙ (tables_of-set defs rows place (Some (record def { number = place })) its (are.places ∙ sym are.rooms)
    ∙ (ap (λ d. with_place (tables_of defs rows) place (Some (table_with its d))) numbered ∙ ap (λ d. with_place d place (Some (table_with its def))) is))

-- ---- a table read at a place, to be put once more

read_none : {T : Type 0} (found : Option T) (P : Type 0) (Q : T → Type 0) → is_some found ≡ false → MatchOption found P Q → P
read_none None P Q none says = says
read_none (Some one) P Q none says = absurd (cc)

read_some : {T : Type 0} (found : Option T) (P : Type 0) (Q : T → Type 0) → is_some found ≡ true → MatchOption found P Q → (one : T) × Q one
read_some None P Q some says = absurd (cc)
read_some (Some one) P Q some says = (one, says)

module _ (defs : Definitions) (rows : List (List Row)) (db : Database) (place : ℕ) (is : tables_of defs rows ≡ db) where
  at_place : (found : Option TableDef) → def_at defs place ≡ found → table_at db place ≡ option_map (table_with (rows_in rows place)) found
  at_place found at = ap (λ d. table_at d place) (sym is) ∙ (table_at-tables_of defs rows place ∙ ap (option_map (table_with (rows_in rows place))) at)

  -- nothing is there, and nothing is put
  pub nothing_put : {T : Type 0} (now : T → TableDef) (found : Option T) (into : Database) → MatchOption found (def_at defs place ≡ None) (λ def. def_at defs place ≡ Some (now def))
      → is_some found ≡ false → table_at into place ≡ None → into ≡ with_place into place (table_at db place)
  nothing_put now found into says none empty =
      sym (ap (with_place into place) (at_place None (read_none found (def_at defs place ≡ None) (λ def. def_at defs place ≡ Some (now def)) none says)) ∙ with_none into place empty)

  -- a table is there
  pub has_table : {T : Type 0} (now : T → TableDef) (found : Option T) → MatchOption found (def_at defs place ≡ None) (λ def. def_at defs place ≡ Some (now def))
      → is_some found ≡ true → IsSome (table_at db place)
  has_table now found says some =
      let one = read_some found (def_at defs place ≡ None) (λ def. def_at defs place ≡ Some (now def)) some says in
      subst IsSome (sym (at_place (Some (now one.0)) one.1)) refl

  -- and is the one that is put
  pub is_copied : (def copy : TableDef) (lent found its : List Row) → AreTables defs rows → table_at db place ≡ Some (record { def = def; rows = lent }) → found ≡ get_or rows place found
      → copy ≡ def → its ≡ found → Some (record { def = copy; rows = its }) ≡ table_at db place
  is_copied def copy lent found its are at read same_def same_rows =
      let placed = is_placed defs rows db place is are (subst IsSome (sym at) refl) in
      let there = table_is defs rows db place placed.def found is placed.is placed.has_rows read in
      let one = same_Some _ _ (sym there ∙ at) in
      let its_def : copy ≡ placed.def = same_def ∙ sym (ap (λ (t : PlainTable). t.def) one) in
      ap (λ d. Some (record { def = d; rows = its })) its_def ∙ (ap (λ r. Some (record { def = placed.def; rows = r })) same_rows ∙ sym there)
