-- What is said first against the tuples of an INSERT on ready pages: of nulls, then of keys, and then of row numbers.
use Rattle.std.proofs.Common.{◌≡◌, ◌∙◌, ◌++◌, ℕ, List, [], ap, length, map, subst, Option, Some, None}
use Rattle.std.specs.Prelude.{IsPermutation, flat_map, option_map}
use Rattle.std.proofs.lemmas.List.Sorted.{IsPermutation-map}
use Rattle.std.proofs.lemmas.Simd.{map-map}
use Rattle.mdc_values.specs.declared.value.Value.{Value}
use Rattle.mdc_ast.specs.declared.bound.Bound.TheVariants as bound
use Rattle.mdc_ast.specs.declared.definition.TableDef.{TableDef}
use Rattle.mdc_ast.specs.declared.refusal.Refusal.{Refusal}
use Rattle.mdc_ast.specs.declared.row.Row.{Row}
use Rattle.mdc_ast.specs.Database.{Database}
use Rattle.mdc_ast.specs.Definitions.{def_at}
use Rattle.row_groups.specs.Numbers.{values_of}
use Rattle.statement_meaning.specs.Cause.{Cause, refusal_of}
use Rattle.statement_meaning.specs.Doing.{causes_of_rows, null_causes, twin_causes, used_up}
use Rattle.binder.specs.Saying.{first_of}
use Rattle.binder.proofs.FirstLemmas.{first_of-front, first_of-nothing}
use Rattle.store_api.specs.declared.pages.Pages.{Ghosts}
use Rattle.store_api.specs.declared.shape.Shape.{Shape}
use Rattle.extent_map.specs.declared.kind.Kind.{Kind}
use Rattle.mdc_sound.specs.BlockRules.{AreTableIndexesSound, AreTableKeysSound}
use Rattle.mdc_sound.specs.StandingTable.{StandsTable, TableForests, pages_of, view_of}
use Rattle.mdc_sound.specs.StandsForDatabase.{PagesStandFor}
use Rattle.mdc_sound.specs.TableRows.{PlacedRow, rows_in_table}
use Rattle.unique_keys.specs.Clashes.{AreStaying}
use Rattle.unique_keys.proofs.StayingLemmas.{all_stay}
use Rattle.script_engine.specs.Inserting.{IsSaidFirst, first_refusal, tuple_causes}
use Rattle.script_engine.specs.Ready.{AreServed, IsReady}
use Rattle.script_engine.specs.declared.tables.Tables.{Tables}
use Rattle.script_engine.proofs.PuttingTuplesLemmas.{none_said, nothing_said, refused_in_front, said_by_rows}
use Rattle.script_engine.proofs.ReadyKeysLemmas.{stands_with_keys}
use Rattle.script_engine.proofs.ScannedTablesLemmas.{plain_of}
use Rattle.script_engine.proofs.StoredDefsLemmas.{stored_defs, stored_table}

-- this is the refusal for equal keys of rows that stay and of tuples behind them, wherever the table stands and is sound
abbrev pub AreKeysJudged : {S : Type 0} → Ghosts S → S → TableDef → List (List Value) → Option Refusal → Type 0
AreKeysJudged g s def tuples refusal =
    (shape : Shape) (owners : List Kind) (forests : TableForests) → StandsTable g shape s def owners forests
    → AreTableIndexesSound shape (pages_of g s) (view_of def forests) → AreTableKeysSound shape (pages_of g s) (view_of def forests)
    → (stay : List (List Value)) → AreStaying (rows_in_table shape (pages_of g s) def forests.map) [] stay → first_refusal (flat_map (twin_causes (stay ++ tuples)) def.indexes) ≡ refusal

module _ {S : Type 0} (g : Ghosts S) (s : S) (tables : Tables) (place : ℕ) (def : TableDef) (tuples : List (List Value)) (served : AreServed tables.catalog) (at : def_at tables.catalog place ≡ Some def) where
  abbrev nulls : List Cause
  nulls = flat_map (null_causes def.columns) tuples

  abbrev numbers : List Cause
  numbers = used_up def.next (length tuples)

  -- of keys, where these rows stay
  abbrev keys : List (List Value) → List Cause
  keys stay = flat_map (twin_causes (stay ++ tuples)) def.indexes

  -- all that the rows say, which stay
  record AreSaid (causes : List Cause) : Type 0 where
    pub stay : List (List Value)
    pub are : causes ≡ nulls ++ keys stay ++ numbers
    pub twins : (refusal : Option Refusal) → AreKeysJudged g s def tuples refusal → first_refusal (keys stay) ≡ refusal

  all_said : IsReady g s tables → (db : Database) → PagesStandFor tables.shape (pages_of g s) db → AreSaid (causes_of_rows db (bound.Insert place tuples))
  all_said ready db stands =
      let table = stored_table db tables.catalog place def (stored_defs tables.shape (pages_of g s) tables.catalog db ready.stored stands) at in
      let st = stands_with_keys g s tables place def served ready at in
      let plain = plain_of g tables.shape s def st.owners st.forests st.stands tables.catalog place db table.0 ready.stored at stands table.1 in
      let rows : List PlacedRow = rows_in_table tables.shape (pages_of g s) def st.forests.map in
      let values : IsPermutation (map (λ one. one.row.values) rows) (values_of table.0.rows) =
      subst (λ (all : List (List Value)). IsPermutation all (values_of table.0.rows)) (map-map (λ (row : Row). row.values) (λ (one : PlacedRow). one.row) rows)
      (IsPermutation-map (λ (row : Row). row.values) (map (λ (one : PlacedRow). one.row) rows) table.0.rows plain.same_rows) in record {
        stay = values_of table.0.rows;
        are = said_by_rows db place table.0 def tuples table.1 table.2.def_is;
        twins = λ refusal judged. judged tables.shape st.owners st.forests st.stands st.indexes st.keys (values_of table.0.rows) (all_stay rows (values_of table.0.rows) values);
      }

  -- a null is said first
  pub nulls_first : (cause : Cause) → first_of nulls ≡ Some cause → IsSaidFirst g s tables (bound.Insert place tuples) (Some (refusal_of cause))
  nulls_first cause first ready db stands =
      let said = all_said ready db stands in
      ap first_refusal said.are ∙ ap (option_map refusal_of) (first_of-front (nulls ++ keys said.stay) numbers cause (first_of-front nulls (keys said.stay) cause first))

  module _ (none : first_of nulls ≡ None) where
    -- where there is none, equal keys
    pub keys_first : (refusal : Refusal) → AreKeysJudged g s def tuples (Some refusal) → IsSaidFirst g s tables (bound.Insert place tuples) (Some refusal)
    keys_first refusal judged ready db stands =
        let said = all_said ready db stands in
        ap first_refusal said.are
        ∙ refused_in_front (nulls ++ keys said.stay) numbers refusal (ap (λ front. first_refusal (front ++ keys said.stay)) (first_of-nothing nulls none) ∙ said.twins (Some refusal) judged)

    -- and where there are none either, the numbers
    pub numbers_first : (refusal : Option Refusal) → AreKeysJudged g s def tuples None → first_refusal numbers ≡ refusal → IsSaidFirst g s tables (bound.Insert place tuples) refusal
    numbers_first refusal judged first ready db stands =
        let said = all_said ready db stands in
        ap first_refusal said.are
        ∙ (ap (λ front. first_refusal (front ++ keys said.stay ++ numbers)) (first_of-nothing nulls none)
        ∙ (ap (λ front. first_refusal (front ++ numbers)) (none_said (keys said.stay) (said.twins None judged)) ∙ first))

    -- so nothing is said of the tuples alone
    pub nothing_of_tuples : first_refusal numbers ≡ None → tuple_causes def tuples ≡ []
    nothing_of_tuples first = nothing_said def tuples (first_of-nothing nulls none) (none_said numbers first)
