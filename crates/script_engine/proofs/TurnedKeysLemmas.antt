-- What an UPDATE does to the keys of its table: what is said of the rows that come beside those that stay is what is said of the
-- keys of the plain table.
use Rattle.std.proofs.Common.{◌≡◌, ◌∙◌, ◌++◌, ◌↔◌, ℕ, Bool, List, [], ◌∷◌, map, not, refl, sym, ap, subst, Option, Some, None, false, true}
use Rattle.std.specs.Prelude.{Contains, IsPermutation, IsTrue, filter, flat_map, option_map, ◌&&◌}
use Rattle.std.specs.List.{AllByRecursion, list_any}
use Rattle.std.proofs.lemmas.List.Sorted.{Contains-permutation, IsPermutation-map, IsPermutation-sym}
use Rattle.std.proofs.lemmas.Simd.{map-map}
use Rattle.mdc_values.specs.declared.rid.Rid.{Rid}
use Rattle.mdc_values.specs.declared.value.Value.{Value}
use Rattle.mdc_ast.specs.declared.bound.Bound.TheVariants as bound
use Rattle.mdc_ast.specs.declared.bound.BoundSet.{BoundSet}
use Rattle.mdc_ast.specs.declared.definition.IndexDef.{IndexDef}
use Rattle.mdc_ast.specs.declared.definition.TableDef.{TableDef}
use Rattle.mdc_ast.specs.declared.name.Name.{Name}
use Rattle.mdc_ast.specs.declared.predicate.Pred.{Pred}
use Rattle.mdc_ast.specs.declared.refusal.Refusal.{Refusal}
use Rattle.mdc_ast.specs.declared.row.Row.{Row}
use Rattle.mdc_ast.specs.Database.{Database, PlainTable, fits_all, table_at}
use Rattle.mdc_ast.specs.Definitions.{def_at}
use Rattle.mdc_ast.specs.Truth.{qualifies}
use Rattle.row_groups.specs.Numbers.{values_of}
use Rattle.statement_meaning.specs.Cause.{DuplicateKey, cause_if, refusal_of}
use Rattle.statement_meaning.specs.Doing.{changed_row, changed_table, duplicate_causes, key_causes, twin_causes}
use Rattle.statement_meaning.specs.Judging.{of_some}
use Rattle.statement_meaning.proofs.DatabaseLemmas.{table_at-changed}
use Rattle.binder.specs.Saying.{first_of}
use Rattle.store_api.specs.Frame.{NoPage}
use Rattle.store_api.specs.RunsOverPages.{RunsOverPages}
use Rattle.store_api.specs.declared.fault.Damage.{Damage}
use Rattle.store_api.specs.declared.fault.StoreFault.{StoreFault}
use Rattle.store_api.specs.declared.pages.Pages.{Ghosts}
use Rattle.store_api.specs.declared.shape.Shape.{Shape}
use Rattle.store_api.proofs.RunsOverPagesLemmas.{runs_as}
use Rattle.extent_map.specs.declared.kind.Kind.{Kind}
use Rattle.block_rows.specs.HeldRows.{placed_row}
use Rattle.block_rows.specs.declared.hit.Hit.{Hit}
use Rattle.mdc_sound.specs.BlockRules.{AreTableIndexesSound, AreTableKeysSound}
use Rattle.mdc_sound.specs.StandingTable.{StandsTable, TableForests, pages_of, view_of}
use Rattle.mdc_sound.specs.StandsForDatabase.{PagesStandFor}
use Rattle.mdc_sound.specs.TableRows.{PlacedRow, rows_in_table}
use Rattle.mdc_sound.proofs.ElementsLemmas.{each_in, from_map}
use Rattle.row_checks.proofs.UniqueLemmas.{unique_says_nothing}
use Rattle.row_entries.proofs.StandingRowsLemmas.{lie_apart}
use Rattle.statement_rows.specs.RowsOfStatement.{AnyPage}
use Rattle.statement_rows.specs.Turning.{MayTurn, turned_row}
use Rattle.statement_rows.specs.declared.changing.Turned.{Turned}
use Rattle.table_scan.proofs.ScannedRowsLemmas.{perm_filter}
use Rattle.table_scan.proofs.ScanningLemmas.{map_kept}
use Rattle.unique_keys.specs.Clashes.{AreStaying, BreaksClash, IsClashPage}
use Rattle.unique_keys.proofs.MovedTwinsLemmas.{updated_twins}
use Rattle.unique_keys.proofs.StayingLemmas.{unqualified_stay}
use Rattle.script_engine.specs.Inserting.{first_refusal}
use Rattle.script_engine.specs.Ready.{AreServed, BreaksDatabase, IsReady}
use Rattle.script_engine.specs.SetKeys.{JudgesSet, JudgesTurned, sets_unique}
use Rattle.script_engine.specs.declared.tables.Tables.{Tables}
use Rattle.script_engine.proofs.JudgedKeysLemmas.{clash_said}
use Rattle.script_engine.proofs.KeptKeysLemmas.{keys_before}
use Rattle.script_engine.proofs.ReadyKeysLemmas.{no_unique_says_nothing, rootless_twins, runs_clash, stands_with_keys}
use Rattle.script_engine.proofs.ScannedTablesLemmas.{FindsIfSound, HasHits, found_if_sound, hits_of, hits_qualify, plain_of, ready_still, row_fits, stands_ready}
use Rattle.script_engine.proofs.StoredDefsLemmas.{stored_defs, stored_table}
use Rattle.script_engine.proofs.TurnedRowsLemmas.{turned_hit, turned_news, turned_places}
use Rattle.script_engine.proofs.UnsetKeysLemmas.{rootless_unset, unset_says_nothing}

-- ---- rows that stay

-- the places that are left are those of the rows that qualify
left_places : (pred : Option Pred) (rows : List PlacedRow) (found : List Hit) (items : List Turned) → IsPermutation (filter (λ one. qualifies pred one.row.values) rows) (map placed_row found)
    → map (λ t. (turned_row t).0) items ≡ map placed_row found
    → (rid : Rid) → Contains (map (λ t. t.hit.rid) items) rid ↔ Contains (map (λ one. one.rid) (filter (λ one. qualifies pred one.row.values) rows)) rid
left_places pred rows found items same are rid =
    let place : PlacedRow → Rid = λ one. one.rid in
    let chosen : List PlacedRow = filter (λ (one : PlacedRow). qualifies pred one.row.values) rows in
    let moved : IsPermutation (map place chosen) (map place (map placed_row found)) = IsPermutation-map place chosen (map placed_row found) same in
    let places : map (λ (t : Turned). t.hit.rid) items ≡ map place (map placed_row found) = sym (map-map place (λ (t : Turned). (turned_row t).0) items) ∙ ap (map place) are in (
      λ there. Contains-permutation (map place (map placed_row found)) (map place chosen) rid (IsPermutation-sym (map place chosen) (map place (map placed_row found)) moved)
          (subst (λ (l : List Rid). Contains l rid) places there),
      λ there. subst (λ (l : List Rid). Contains l rid) (sym places) (Contains-permutation (map place chosen) (map place (map placed_row found)) rid moved there),
    )

-- the values of rows that don't qualify, as the plain table has them
staying_values : (pred : Option Pred) (placed : List PlacedRow) (rows : List Row) → IsPermutation (map (λ one. one.row) placed) rows
    → IsPermutation (map (λ one. one.row.values) (filter (λ one. not (qualifies pred one.row.values)) placed)) (values_of (filter (λ row. not (qualifies pred row.values)) rows))
staying_values pred placed rows same =
    let row_of : PlacedRow → Row = λ one. one.row in
    let values : Row → List Value = λ row. row.values in
    let stays : Row → Bool = λ row. not (qualifies pred row.values) in
    let kept : List PlacedRow = filter (λ (one : PlacedRow). stays one.row) placed in
    subst (λ (l : List (List Value)). IsPermutation l (map values (filter stays rows))) (ap (map values) (sym (map_kept row_of stays placed)) ∙ map-map values row_of kept)
    (IsPermutation-map values (filter stays (map row_of placed)) (filter stays rows) (perm_filter stays (map row_of placed) rows same))

-- ---- rows that come

-- rows that may be turned to fit in their values
pub fitting_values : (def : TableDef) (items : List Turned) → AllByRecursion (MayTurn def) items → AllByRecursion (λ values. IsTrue (fits_all def.columns values)) (map (λ t. t.row.values) items)
fitting_values def [] may = tt
fitting_values def (one ∷ items) may = (may.0.fits.values, fitting_values def items may.1)

-- ---- what is said of keys

-- of the rows that an UPDATE leaves: of those that don't qualify with those that the others become
updated_keys : (sets : List BoundSet) (pred : Option Pred) (rows : List Row) (indexes : List IndexDef)
    → flat_map (twin_causes (values_of (map (changed_row sets pred) rows))) indexes
    ≡ flat_map (twin_causes (values_of (filter (λ row. not (qualifies pred row.values)) rows) ++ values_of (map (changed_row sets pred) (filter (λ row. qualifies pred row.values) rows)))) indexes
updated_keys sets pred rows [] = refl
updated_keys sets pred rows (index ∷ indexes) =
    let all : List (List Value) = values_of (map (changed_row sets pred) rows) in
    let stay : List (List Value) = values_of (filter (λ (row : Row). not (qualifies pred row.values)) rows) in
    let come : List (List Value) = values_of (map (changed_row sets pred) (filter (λ (row : Row). qualifies pred row.values) rows)) in
    ap (λ twins. cause_if (index.unique && twins) (DuplicateKey index.name) ++ flat_map (twin_causes all) indexes) (updated_twins index.parts sets pred rows)
    ∙ ap (λ rest. twin_causes (stay ++ come) index ++ rest) (updated_keys sets pred rows indexes)

-- ---- pages that nothing was changed in

-- damage that the judge of keys meets behind a scan
pub runs_judged : {S : Type 0} (g : Ghosts S) (old mid new : S) (before : Tables) (place : ℕ) (def : TableDef) {Early : ℕ → Type 0} {Any : Damage → Type 0} {fault : Option StoreFault} → AreServed before.catalog
    → def_at before.catalog place ≡ Some def → (g.state mid).is_told ≡ (g.state old).is_told → (g.state mid).work ≡ (g.state old).work → RunsOverPages g NoPage Early Any old mid None
    → RunsOverPages g NoPage (IsClashPage g mid def) (BreaksClash g mid def) mid new fault → RunsOverPages g NoPage AnyPage (BreaksDatabase g old before) old new fault
runs_judged g old mid new before place def served at told same scan judge =
    runs_as scan (runs_clash g mid new before place def served at judge) (λ p there none. none) (λ p there none. none) (λ p of. tt) (λ p any. any) (λ damage breaks ready. breaks (ready_still g old mid told same before ready))

-- ---- on ready pages

-- The rows that qualify were found on ready pages, and nothing was changed since.
module _ {S : Type 0} (g : Ghosts S) (old mid : S) (before : Tables) (place : ℕ) (def : TableDef) (pred : Option Pred) (found : List Hit) (served : AreServed before.catalog)
    (at : def_at before.catalog place ≡ Some def) (told : (g.state mid).is_told ≡ (g.state old).is_told) (same : (g.state mid).work ≡ (g.state old).work)
    (finds : FindsIfSound g before.shape old def pred found) (ready : IsReady g old before) where
  -- they qualify
  pub found_qualify : AllByRecursion (λ hit. qualifies pred hit.row.values ≡ true) found
  found_qualify =
      let st = stands_ready g old before place def served ready at in
      hits_qualify g before.shape old def st.owners st.forests st.stands pred found (finds st.owners st.forests st.stands st.indexes)

  -- and are those of the plain table
  pub found_there : (db : Database) → PagesStandFor before.shape (pages_of g old) db → HasHits db place def pred found
  found_there db stands =
      let st = stands_ready g old before place def served ready at in
      let here = stored_table db before.catalog place def (stored_defs before.shape (pages_of g old) before.catalog db ready.stored stands) at in
      hits_of g before.shape old def st.owners st.forests st.stands pred found (finds st.owners st.forests st.stands st.indexes) st.between before.catalog place db here.0 ready.stored at stands here.1

  -- the rows of its plain table fit
  rows_fit_there : (db : Database) → PagesStandFor before.shape (pages_of g old) db → (table : PlainTable) → table_at db place ≡ Some table → AllByRecursion (λ row. IsTrue (fits_all def.columns row.values)) table.rows
  rows_fit_there db stands table is =
      let st = stands_ready g old before place def served ready at in
      let rows : List PlacedRow = rows_in_table before.shape (pages_of g old) def st.forests.map in
      let row_of : PlacedRow → Row = λ one. one.row in
      let plain = plain_of g before.shape old def st.owners st.forests st.stands before.catalog place db table ready.stored at stands is in
      each_in (λ (row : Row). IsTrue (fits_all def.columns row.values)) table.rows (λ row there.
      let from = from_map row_of rows row (Contains-permutation table.rows (map row_of rows) row (IsPermutation-sym (map row_of rows) table.rows plain.same_rows) there) in
      subst (λ (r : Row). IsTrue (fits_all def.columns r.values)) from.2 (row_fits g before.shape old def st.owners st.forests st.stands from.0 from.1).values)

  -- where no column of a UNIQUE index is set, nothing is said of keys
  unset_keys : (sets : List BoundSet) → sets_unique sets def.indexes ≡ false → (db : Database) → PagesStandFor before.shape (pages_of g old) db → key_causes db (bound.Update place sets pred) ≡ []
  unset_keys sets unset db stands =
      let has = found_there db stands in
      let silent : flat_map (twin_causes (values_of has.table.rows)) has.table.def.indexes ≡ [] =
      unique_says_nothing def.columns has.table.rows has.table.def.indexes (rows_fit_there db stands has.table has.at) (keys_before before.shape (pages_of g old) ready.view ready.sound db stands place has.table has.at) in
      let none : sets_unique sets has.table.def.indexes ≡ false = ap (λ (d : TableDef). sets_unique sets d.indexes) has.def_is ∙ rootless_unset sets pred def.indexes ∙ unset in
      ap (λ found. of_some found duplicate_causes) (table_at-changed db place has.table (changed_table sets pred) has.at)
      ∙ unset_says_nothing sets pred has.table.rows has.table.def.indexes none silent

  module _ (sets : List BoundSet) (items : List Turned) (made : map turned_row items ≡ map (turned_hit sets) found) where
    -- what the judge says of them is what is said of the keys of the plain table
    pub turned_keys : (refusal : Option Refusal) → JudgesTurned g mid def items refusal → (db : Database) → PagesStandFor before.shape (pages_of g old) db → first_refusal (key_causes db (bound.Update place sets pred)) ≡ refusal
    turned_keys refusal judges db stands =
        let still = ready_still g old mid told same before ready in
        let st = stands_with_keys g mid before place def served still at in
        let here_too : PagesStandFor before.shape (pages_of g mid) db = subst (λ pages. PagesStandFor before.shape pages db) (sym same) stands in
        let has : HasHits db place def pred found = found_there db stands in
        let rows : List PlacedRow = rows_in_table before.shape (pages_of g mid) def st.forests.map in
        let left : List Row = filter (λ (row : Row). not (qualifies pred row.values)) has.table.rows in
        let turned : List Row = map (changed_row sets pred) (filter (λ (row : Row). qualifies pred row.values) has.table.rows) in
        let hits = found_if_sound g old mid told same before.shape def pred found st.owners st.forests finds st.stands st.indexes in
        let plain = plain_of g before.shape mid def st.owners st.forests st.stands before.catalog place db has.table still.stored at here_too has.at in
        let staying : AreStaying rows (map (λ (t : Turned). t.hit.rid) items) (values_of left) =
        unqualified_stay pred rows (map (λ (t : Turned). t.hit.rid) items) (values_of left) (lie_apart g before.shape mid def st.owners st.forests st.stands)
        (left_places pred rows found items hits.found (turned_places sets items found made)) (staying_values pred rows has.table.rows plain.same_rows) in
        let come : map (λ (t : Turned). t.row.values) items ≡ values_of turned =
        sym (map-map (λ (row : Row). row.values) (λ (t : Turned). t.row) items) ∙ ap (map (λ (row : Row). row.values)) (turned_news sets pred items found made found_qualify ∙ ap (map (changed_row sets pred)) has.are) in
        let said : key_causes db (bound.Update place sets pred) ≡ flat_map (twin_causes (values_of left ++ map (λ (t : Turned). t.row.values) items)) def.indexes =
        ap (λ found. of_some found duplicate_causes) (table_at-changed db place has.table (changed_table sets pred) has.at)
        ∙ updated_keys sets pred has.table.rows has.table.def.indexes
        ∙ ap (λ (d : TableDef). flat_map (twin_causes (values_of left ++ values_of turned)) d.indexes) has.def_is
        ∙ rootless_twins (values_of left ++ values_of turned) def.indexes
        ∙ ap (λ come. flat_map (twin_causes (values_of left ++ come)) def.indexes) (sym come) in
        ap first_refusal said ∙ judges before.shape st.owners st.forests st.stands st.indexes st.keys (values_of left) staying

    -- so it is where it looks at none of them
    pub set_keys : (refusal : Option Refusal) → JudgesSet g mid def sets items refusal → (db : Database) → PagesStandFor before.shape (pages_of g old) db → first_refusal (key_causes db (bound.Update place sets pred)) ≡ refusal
    set_keys refusal judges db stands = by_test (sets_unique sets def.indexes) refl
      where
        by_test : (b : Bool) → sets_unique sets def.indexes ≡ b → first_refusal (key_causes db (bound.Update place sets pred)) ≡ refusal
        by_test true is = turned_keys refusal (judges.0 is) db stands
        by_test false is = ap first_refusal (unset_keys sets is db stands) ∙ sym (judges.1 is)

-- ---- the judge of rows that become others

-- rows that stay, by other lists of the same places
staying_alike : (rows : List PlacedRow) (but left : List Rid) (stay : List (List Value)) → ((rid : Rid) → Contains left rid ↔ Contains but rid) → AreStaying rows but stay → AreStaying rows left stay
staying_alike rows but left stay same is = record {
  stays = is.stays;
  outside = λ one there. (
    λ stays in_left. (is.outside one there).0 stays ((same one.rid).0 in_left),
    λ apart. (is.outside one there).1 (λ in_but. apart ((same one.rid).1 in_but)),
  );
  values = is.values;
}

module _ {S : Type 0} (g : Ghosts S) (s : S) (def : TableDef) (items : List Turned) where
  -- no index is UNIQUE
  pub judged_none : (unique : Bool) → unique ≡ list_any (λ index. index.unique) def.indexes → unique ≡ false → JudgesTurned g s def items None
  judged_none unique is none shape owners forests st indexes keys stay staying =
      ap first_refusal (no_unique_says_nothing (stay ++ map (λ (one : Turned). one.row.values) items) def.indexes (sym is ∙ none))

  -- what first_clash found among the places that are left, with the rows that come
  pub judged_clash : {X : Type 0} (name_of : X → Name) (clash : Option X) (left : List Rid) (come : List (List Value)) (refusal : Option Refusal) → ((rid : Rid) → Contains left rid ↔ Contains (map (λ one. one.hit.rid) items) rid)
      → come ≡ map (λ one. one.row.values) items
      → ((shape : Shape) (owners : List Kind) (forests : TableForests) → StandsTable g shape s def owners forests
      → AreTableIndexesSound shape (pages_of g s) (view_of def forests) → AreTableKeysSound shape (pages_of g s) (view_of def forests)
      → (stay : List (List Value)) → AreStaying (rows_in_table shape (pages_of g s) def forests.map) left stay
      → first_of (flat_map (twin_causes (stay ++ come)) def.indexes) ≡ option_map (λ x. DuplicateKey (name_of x)) clash)
      → refusal ≡ option_map (λ x. refusal_of (DuplicateKey (name_of x))) clash → JudgesTurned g s def items refusal
  judged_clash name_of clash left come refusal same are finds said shape owners forests st indexes keys stay staying =
      clash_said name_of (flat_map (twin_causes (stay ++ map (λ (one : Turned). one.row.values) items)) def.indexes) clash
      (ap (λ values. first_of (flat_map (twin_causes (stay ++ values)) def.indexes)) (sym are)
      ∙ finds shape owners forests st indexes keys stay (staying_alike (rows_in_table shape (pages_of g s) def forests.map) (map (λ (one : Turned). one.hit.rid) items) left stay same staying))
      ∙ sym said
