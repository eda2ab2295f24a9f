-- What the rows that a scan found are on pages where the table stands: they lie in their places by rising number, fit the
-- definition, and are the qualifying rows of the plain table, whichever database the pages stand for.
use Rattle.std.proofs.Common.{◌≡◌, ◌<◌, ℕ, suc, Bool, true, List, [], ◌∷◌, ◌∙◌, map, refl, sym, ap, subst, arith, inl, inr, Option, Some, None}
use Rattle.std.specs.Prelude.{AllPairs, Contains, IsPermutation, IsTrue, filter}
use Rattle.std.specs.List.{AllByRecursion}
use Rattle.std.proofs.lemmas.Bool.{cases_Bool}
use Rattle.std.proofs.lemmas.List.Kept.{AllPairs-filter}
use Rattle.std.proofs.lemmas.List.Sorted.{Contains-permutation, IsPermutation-sym, IsPermutation-trans}
use Rattle.std.proofs.lemmas.Option.{same_Some}
use Rattle.mdc_ast.specs.declared.definition.TableDef.{TableDef}
use Rattle.mdc_ast.specs.declared.predicate.Pred.{Pred}
use Rattle.mdc_ast.specs.Database.{Database, PlainTable, fits_all, table_at}
use Rattle.mdc_ast.specs.Definitions.{Definitions, def_at}
use Rattle.mdc_ast.specs.Truth.{qualifies}
use Rattle.mdc_ast.specs.declared.row.Row.{Row}
use Rattle.store_api.specs.Frame.{NoPage}
use Rattle.store_api.specs.RunsOverPages.{RunsOverPages}
use Rattle.store_api.specs.declared.fault.StoreFault.{StoreFault}
use Rattle.store_api.specs.declared.pages.Pages.{Ghosts}
use Rattle.store_api.specs.declared.shape.Shape.{Shape}
use Rattle.store_api.proofs.RunsOverPagesLemmas.{runs_wider}
use Rattle.extent_map.specs.declared.kind.Kind.{Kind}
use Rattle.block_map.specs.MapLines.{used_blocks}
use Rattle.block_map.proofs.MapLinesLemmas.{contains_cases}
use Rattle.block_rows.specs.HeldRows.{placed_row}
use Rattle.block_rows.specs.declared.hit.Hit.{Hit}
use Rattle.entry_tree.specs.Forest.{Forest}
use Rattle.table_page.proofs.TablePageLemmas.{one_definition}
use Rattle.table_trees.specs.TableTrees.{map_place}
use Rattle.table_trees.specs.ToldPages.{HasTree}
use Rattle.table_trees.proofs.ToldPagesLemmas.{tree_of_told}
use Rattle.mdc_sound.specs.BlockRules.{AreBlockRowsSound, AreTableIndexesSound}
use Rattle.mdc_ast.specs.FittingRows.{RowFits}
use Rattle.mdc_sound.specs.Placing.{rows_from_spot, table_spots}
use Rattle.mdc_sound.specs.SoundDatabase.{IsSoundBetweenChanges, KeepAllRules}
use Rattle.mdc_sound.specs.StandingTable.{AreRightRooms, BreaksExpected, BreaksTable, StandsTable, TableForests, pages_of, spots_of, view_of}
use Rattle.mdc_sound.specs.StandsForDatabase.{HoldsTable, PagesStandFor, rootless}
use Rattle.mdc_sound.specs.TablePages.{DefinesTable, table_page_at}
use Rattle.mdc_sound.specs.TableRows.{PlacedRow, rows_in_block, rows_in_table}
use Rattle.mdc_sound.proofs.BlockRulesLemmas.{each_of}
use Rattle.mdc_sound.proofs.ChangedRowsLemmas.{rows_of_standing}
use Rattle.mdc_sound.proofs.ElementsLemmas.{each_in, flat_contains, in_map}
use Rattle.mdc_sound.proofs.PlainTableLemmas.{IsPlainTable}
use Rattle.mdc_sound.proofs.StandingTableLemmas.{forests_of, stands_of_sound, stands_same}
use Rattle.mdc_sound.proofs.StandsForLemmas.{one_tree_at}
use Rattle.table_blocks.specs.BlockSteps.{HasThisRow}
use Rattle.row_entries.specs.SoundEntries.{HasSoundIndexes}
use Rattle.cell_change.proofs.RowChangesLemmas.{indexes_here, numbers_here}
use Rattle.stored_catalog.specs.StoredDefinitions.{AreStored}
use Rattle.stored_catalog.proofs.LeftDefinitionsLemmas.{stored_at}
use Rattle.statement_rows.specs.RowsOfStatement.{AnyPage, HasTheseRows, LieApart}
use Rattle.row_checks.specs.Served.{IsDefined}
use Rattle.executor.specs.Planned.{LieInTable, QualifyInTable}
use Rattle.executor.proofs.PlanPagesLemmas.{indexes_still}
use Rattle.table_query.specs.QueryAnswers.{AreQueryRows}
use Rattle.table_scan.specs.FoundRows.{FindsRows}
use Rattle.script_engine.specs.Doing.{AreQualifying}
use Rattle.script_engine.specs.NotedRooms.{rooms_at}
use Rattle.script_engine.specs.Ready.{AreServed, BreaksDatabase, IsReady}
use Rattle.script_engine.specs.declared.tables.Tables.{Tables}
use Rattle.script_engine.proofs.BetweenChangesLemmas.{between_of_rules}
use Rattle.table_scan.proofs.ScannedRowsLemmas.{found_hits, found_rows_rise, perm_filter, placed_rise, row_lies}
use Rattle.table_scan.proofs.ScanningLemmas.{map_kept}
use Rattle.script_engine.proofs.KeptKeysLemmas.{table_held}
use Rattle.script_engine.proofs.ReadyTablesLemmas.{served_def}

-- ---- lists

-- an element that passed is one of all
kept_from : {X : Type 0} (p : X → Bool) (xs : List X) (z : X) → Contains (filter p xs) z → Contains xs z × (p z ≡ true)
kept_from p [] z there = absurd (omega (arith, there.1))
kept_from p (x ∷ xs) z there = elim (cases_Bool (p x)) [
  | inl here ↦
      let first : filter p (x ∷ xs) ≡ x ∷ filter p xs = rw here refl in
      elim (contains_cases z x (filter p xs) (subst (λ l. Contains l z) first there)) [
        | inl e ↦ ((0, omega arith, e), ap p (sym e) ∙ here)
        | inr later ↦ let rest = kept_from p xs z later in ((suc rest.0.0, omega (arith, rest.0.1), rest.0.2), rest.1)
      ]
  | inr out ↦
      let past : filter p (x ∷ xs) ≡ filter p xs = rw out refl in
      let rest = kept_from p xs z (subst (λ l. Contains l z) past there) in ((suc rest.0.0, omega (arith, rest.0.1), rest.0.2), rest.1)
]

-- ---- rows that are found

-- where a table stands with sound record indexes, these are its rows that qualify
abbrev pub FindsIfSound : {S : Type 0} → Ghosts S → Shape → S → TableDef → Option Pred → List Hit → Type 0
FindsIfSound g shape s def pred hits =
    (owners : List Kind) (forests : TableForests) → StandsTable g shape s def owners forests → AreTableIndexesSound shape (pages_of g s) (view_of def forests) → FindsRows g shape s def pred hits forests

-- ---- pages that nothing changed

module _ {S : Type 0} (g : Ghosts S) (old new : S) (told : (g.state new).is_told ≡ (g.state old).is_told) (same : (g.state new).work ≡ (g.state old).work) where
  -- they are still ready
  pub ready_still : (tables : Tables) → IsReady g old tables → IsReady g new tables
  ready_still tables ready = record {
    told = subst IsTrue (sym told) ready.told;
    view = ready.view;
    sound = subst (λ pages. KeepAllRules tables.shape pages ready.view) (sym same) ready.sound;
    stored = subst (λ pages. AreStored pages tables.catalog) (sym same) ready.stored;
    notes = ready.notes;
    rooms = λ table def at. let was = ready.rooms table def at in (
      was.0,
      record {
        stands = stands_same tables.shape old new def ready.view.owners was.0 told same was.1.stands;
        notes = was.1.notes;
        rooms = subst (λ pages. AreRightRooms def (rooms_at tables.rooms table) (table_spots tables.shape pages def ready.view.owners was.0.map)) (sym same) was.1.rooms;
      },
    );
  }

  found_same : (shape : Shape) (def : TableDef) (pred : Option Pred) (hits : List Hit) (forests : TableForests) → FindsRows g shape old def pred hits forests → FindsRows g shape new def pred hits forests
  found_same shape def pred hits forests found = record {
    found = subst (λ pages. IsPermutation (filter (λ placed. qualifies pred placed.row.values) (rows_in_table shape pages def forests.map)) (map placed_row hits)) (sym same) found.found;
    in_order = found.in_order;
  }

  -- and the same rows are found
  pub found_still : (shape : Shape) (def : TableDef) (pred : Option Pred) (hits : List Hit) (owners : List Kind) (forests : TableForests)
      → ((owners : List Kind) (forests : TableForests) → StandsTable g shape old def owners forests → FindsRows g shape old def pred hits forests) → StandsTable g shape new def owners forests
      → FindsRows g shape new def pred hits forests
  found_still shape def pred hits owners forests finds st = found_same shape def pred hits forests (finds owners forests (stands_same shape new old def owners forests (sym told) (sym same) st))

  -- also those that are found where record indexes are sound
  pub found_if_sound : (shape : Shape) (def : TableDef) (pred : Option Pred) (hits : List Hit) (owners : List Kind) (forests : TableForests) → FindsIfSound g shape old def pred hits
      → StandsTable g shape new def owners forests → AreTableIndexesSound shape (pages_of g new) (view_of def forests) → FindsRows g shape new def pred hits forests
  found_if_sound shape def pred hits owners forests finds st sound =
      found_same shape def pred hits forests
      (finds owners forests (stands_same shape new old def owners forests (sym told) (sym same) st) (indexes_still g shape new old def forests (sym same) sound))

-- ---- rows of a table that stands

-- a plain table has these hits: they are its rows that qualify, in its order
pub record HasHits (db : Database) (place : ℕ) (def : TableDef) (pred : Option Pred) (hits : List Hit) : Type 0 where
  pub table : PlainTable
  pub at : table_at db place ≡ Some table
  pub def_is : table.def ≡ rootless def
  pub rising : AllPairs (λ a b. a.number < b.number) table.rows
  pub are : map (λ hit. hit.row) hits ≡ filter (λ row. qualifies pred row.values) table.rows

-- a plain table has the rows that a query takes: they are those that qualify
pub record HasQueryRows {S : Type 0} (g : Ghosts S) (shape : Shape) (s : S) (def : TableDef) (forests : TableForests) (db : Database) (place : ℕ) (pred : Option Pred) : Type 0 where
  pub table : PlainTable
  pub at : table_at db place ≡ Some table
  pub def_is : table.def ≡ rootless def
  pub rows : AreQueryRows g shape s def pred forests (filter (λ row. qualifies pred row.values) table.rows)

module _ {S : Type 0} (g : Ghosts S) (shape : Shape) (s : S) (def : TableDef) (owners : List Kind) (forests : TableForests) (st : StandsTable g shape s def owners forests) where
  -- its rows
  abbrev pub rows_here : List PlacedRow
  rows_here = rows_in_table shape (pages_of g s) def forests.map

  -- each fits the definition
  pub row_fits : (placed : PlacedRow) → Contains rows_here placed → RowFits def placed.row
  row_fits placed there =
      let of = flat_contains (rows_in_block shape (pages_of g s) def) (used_blocks forests.map) placed there in
      each_of (λ (p : PlacedRow). RowFits def p.row) (rows_in_block shape (pages_of g s) def of.0) placed
      (each_of (AreBlockRowsSound shape (pages_of g s) def) (used_blocks forests.map) of.0 st.rows of.1).rows of.2

  -- the plain table in its place
  plain_here : (place : ℕ) (table : PlainTable) → DefinesTable (pages_of g s) place def → HoldsTable shape (pages_of g s) place table → IsPlainTable def rows_here table
  plain_here place table defines holds =
      let pages = pages_of g s in
      let same : holds.def ≡ def = one_definition place holds.def def (table_page_at pages place) holds.defines defines in
      let has : HasTree pages (map_place def) holds.map_tree = subst (λ (d : TableDef). HasTree pages (map_place d) holds.map_tree) same holds.has_map in
      let tree : holds.map_tree ≡ forests.map = one_tree_at pages (map_place def) holds.map_tree forests.map has (tree_of_told g s st.told (map_place def) forests.map st.trees.held.0) in
      let rows : rows_in_table shape pages holds.def holds.map_tree ≡ rows_here =
      ap (λ (d : TableDef). rows_in_table shape pages d holds.map_tree) same ∙ ap (λ (t : Forest). rows_in_table shape pages def t) tree in record {
        def_is = holds.def_is ∙ ap rootless same;
        same_rows = subst (λ (all : List PlacedRow). IsPermutation (map (λ (p : PlacedRow). p.row) all) table.rows) rows holds.same_rows;
        rising = holds.rising;
      }

  -- the plain table, whichever database the pages stand for
  pub plain_of : (defs : Definitions) (place : ℕ) (db : Database) (table : PlainTable) → AreStored (pages_of g s) defs → def_at defs place ≡ Some def → PagesStandFor shape (pages_of g s) db
      → table_at db place ≡ Some table → IsPlainTable def rows_here table
  plain_of defs place db table stored at stands is =
      plain_here place table (stored_at (pages_of g s) defs place def stored at) (table_held shape (pages_of g s) db place table stands is).1

  -- the rows that a query takes of it are those of the plain table that qualify
  pub query_rows_of : (pred : Option Pred) (defs : Definitions) (place : ℕ) (db : Database) (table : PlainTable) → AreStored (pages_of g s) defs → def_at defs place ≡ Some def
      → PagesStandFor shape (pages_of g s) db → table_at db place ≡ Some table → HasQueryRows g shape s def forests db place pred
  query_rows_of pred defs place db table stored at stands is =
      let plain = plain_of defs place db table stored at stands is in
      let q : Row → Bool = λ row. qualifies pred row.values in
      let row_of : PlacedRow → Row = λ placed. placed.row in record {
        table = table;
        at = is;
        def_is = plain.def_is;
        rows = record {
          found = subst (λ l. IsPermutation l (filter q table.rows)) (sym (map_kept row_of q rows_here)) (perm_filter q (map row_of rows_here) table.rows plain.same_rows);
          rise = AllPairs-filter (λ (a b : Row). a.number < b.number) q table.rows plain.rising;
        };
      }

  -- rows of it that qualify are rows of it
  qualifying_there : (pred : Option Pred) (placed : PlacedRow) → Contains (filter (λ one. qualifies pred one.row.values) rows_here) placed → Contains rows_here placed × (qualifies pred placed.row.values ≡ true)
  qualifying_there pred placed there = kept_from (λ (one : PlacedRow). qualifies pred one.row.values) rows_here placed there

  -- copies of them fit
  pub lying_fit : (pred : Option Pred) (hits : List Hit) → QualifyInTable g shape s def pred hits forests → AllByRecursion (λ hit. IsTrue (fits_all def.columns hit.row.values)) hits
  lying_fit pred hits lie =
      each_in (λ (hit : Hit). IsTrue (fits_all def.columns hit.row.values)) hits
      (λ hit there. (row_fits (placed_row hit) (qualifying_there pred (placed_row hit) (lie (placed_row hit) (in_map placed_row hits hit there))).0).values)

  -- and lie in their places, apart
  pub lying_apart : (pred : Option Pred) (hits : List Hit) → LieInTable g shape s def pred hits forests → LieApart g shape s def hits owners forests
  lying_apart pred hits lies = record {
    each = each_in (λ (hit : Hit). HasThisRow g shape s def hit.rid hit.row owners forests) hits
        (λ hit there.
        let lies_there = row_lies g shape s def owners forests st (placed_row hit) (qualifying_there pred (placed_row hit) (lies.lie (placed_row hit) (in_map placed_row hits hit there))).0 in
        record { slots = lies_there.0; lies = lies_there.1 });
    apart = lies.apart;
  }

  module _ (pred : Option Pred) (hits : List Hit) (found : FindsRows g shape s def pred hits forests) where
    lie : QualifyInTable g shape s def pred hits forests
    lie placed there =
        let q : PlacedRow → Bool = λ p. qualifies pred p.row.values in
        Contains-permutation (map placed_row hits) (filter q rows_here) placed (IsPermutation-sym (filter q rows_here) (map placed_row hits) found.found) there

    hit_there : (placed : PlacedRow) → Contains (map placed_row hits) placed → Contains rows_here placed × (qualifies pred placed.row.values ≡ true)
    hit_there placed there = qualifying_there pred placed (lie placed there)

    -- the hits fit
    pub hits_fit : AllByRecursion (λ hit. IsTrue (fits_all def.columns hit.row.values)) hits
    hits_fit = lying_fit pred hits lie

    -- they qualify
    pub hits_qualify : AllByRecursion (λ hit. qualifies pred hit.row.values ≡ true) hits
    hits_qualify = each_in (λ (hit : Hit). qualifies pred hit.row.values ≡ true) hits (λ hit there. (hit_there (placed_row hit) (in_map placed_row hits hit there)).1)

    module _ (between : IsSoundBetweenChanges shape def (pages_of g s)) where
      rises : AllPairs (λ a b. a.row.number < b.row.number) hits
      rises = found_rows_rise g shape s def pred hits forests found (numbers_here g shape s def owners forests between st)

      -- they are the qualifying rows of its spots, by rising number
      pub qualifying : AreQualifying (spots_of g shape s def owners forests) pred (map placed_row hits)
      qualifying =
          let q : PlacedRow → Bool = λ p. qualifies pred p.row.values in
          let spots : List PlacedRow = rows_from_spot 0 (spots_of g shape s def owners forests) in record {
            are = IsPermutation-trans (filter q spots) (filter q rows_here) (map placed_row hits)
                (IsPermutation-sym (filter q rows_here) (filter q spots) (perm_filter q rows_here spots (rows_of_standing g shape s def owners forests st))) found.found;
            rising = placed_rise hits rises;
          }

      -- they lie in their places, by rising number
      pub these_rows : HasTheseRows g shape s def (map placed_row hits) owners forests
      these_rows = record {
        each = each_in (λ (placed : PlacedRow). HasThisRow g shape s def placed.rid placed.row owners forests) (map placed_row hits)
            (λ placed there. let lies = row_lies g shape s def owners forests st placed (hit_there placed there).0 in record { slots = lies.0; lies = lies.1 });
        rising = placed_rise hits rises;
      }

      -- and they are those of the plain table, whichever database the pages stand for
      pub hits_of : (defs : Definitions) (place : ℕ) (db : Database) (table : PlainTable) → AreStored (pages_of g s) defs → def_at defs place ≡ Some def → PagesStandFor shape (pages_of g s) db
          → table_at db place ≡ Some table → HasHits db place def pred hits
      hits_of defs place db table stored at stands is =
          let plain = plain_of defs place db table stored at stands is in record {
            table = table;
            at = is;
            def_is = plain.def_is;
            rising = plain.rising;
            are = found_hits g shape s def pred hits forests found table.rows plain.same_rows plain.rising rises;
          }

-- ---- ready pages

-- what holds of a table that is defined
pub is_defined : (found : Option TableDef) (def : TableDef) (P : TableDef → Type 0) → found ≡ Some def → IsDefined found P → P def
is_defined None def P at is = absurd is
is_defined (Some other) def P at is = subst P (same_Some other def at) is

-- a table of ready pages stands, with sound record indexes
pub record StandsReady {S : Type 0} (g : Ghosts S) (shape : Shape) (s : S) (def : TableDef) : Type 0 where
  pub owners : List Kind
  pub forests : TableForests
  pub stands : StandsTable g shape s def owners forests
  pub between : IsSoundBetweenChanges shape def (pages_of g s)
  pub indexes : AreTableIndexesSound shape (pages_of g s) (view_of def forests)

pub stands_ready : {S : Type 0} (g : Ghosts S) (s : S) (tables : Tables) (place : ℕ) (def : TableDef) → AreServed tables.catalog → IsReady g s tables → def_at tables.catalog place ≡ Some def
    → StandsReady g tables.shape s def
stands_ready g s tables place def served ready at =
    let is = served_def tables.catalog place def served at in
    let defines : DefinesTable (pages_of g s) def.number def = subst (λ t. DefinesTable (pages_of g s) t def) (sym is.number) (stored_at (pages_of g s) tables.catalog place def ready.stored at) in
    let between = between_of_rules tables.shape (pages_of g s) ready.view def ready.sound (omega (arith, is.number, is.below)) defines in
    let stands = stands_of_sound g tables.shape s def between.sound ready.told in record {
      owners = between.sound.view.owners;
      forests = forests_of between.sound.table;
      stands = stands;
      between = between;
      indexes = indexes_here g tables.shape s def between.sound.view.owners (forests_of between.sound.table) between stands;
    }

-- looking at its rows by a plan meets damage where they weren't, or where a record index wasn't sound, whichever pages are looked at
pub runs_by_plan : {S : Type 0} (g : Ghosts S) (old new : S) (tables : Tables) (place : ℕ) (def : TableDef) {Looks : ℕ → Type 0} {fault : Option StoreFault} → AreServed tables.catalog
    → def_at tables.catalog place ≡ Some def → RunsOverPages g NoPage Looks (BreaksExpected g tables.shape old def (HasSoundIndexes g tables.shape old def)) old new fault
    → RunsOverPages g NoPage AnyPage (BreaksDatabase g old tables) old new fault
runs_by_plan g old new tables place def served at run =
    runs_wider run (λ p there none. none) (λ p of. tt)
    (λ damage breaks ready. let st = stands_ready g old tables place def served ready at in breaks.broken st.owners st.forests st.stands st.indexes)

-- looking at all of them does so where they weren't
pub runs_scan : {S : Type 0} (g : Ghosts S) (old new : S) (tables : Tables) (place : ℕ) (def : TableDef) {Looks : ℕ → Type 0} {fault : Option StoreFault} → AreServed tables.catalog
    → def_at tables.catalog place ≡ Some def → RunsOverPages g NoPage Looks (BreaksTable g tables.shape old def) old new fault → RunsOverPages g NoPage AnyPage (BreaksDatabase g old tables) old new fault
runs_scan g old new tables place def served at run =
    runs_wider run (λ p there none. none) (λ p of. tt) (λ damage breaks ready. let st = stands_ready g old tables place def served ready at in breaks.broken st.owners st.forests st.stands)
