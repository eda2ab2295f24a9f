-- Bound statements that only put and run full on tight pages.
use Rattle.std.proofs.Common.{◌≡◌, ◌<◌, ◌+◌, ℕ, zero, suc, Option, Some, None, List, [], ◌∷◌, ◌++◌, length, refl, ap, arith, sym, subst}
use Rattle.std.specs.Prelude.{IsTrue, flat_map, is_none, nat_lt, slice_get}
use Rattle.std.specs.List.{AllByRecursion, list_all, position_from}
use Rattle.std.proofs.lemmas.Option.{same_Some}
use Rattle.mdc_values.specs.declared.value.Value.{Value}
use Rattle.mdc_ast.specs.Database.{Database, PlainTable, appended, changed_at, defs_of, fits_all, numbered, with_place}
use Rattle.mdc_ast.specs.Definitions.{Definitions, are_there, def_at, empty_place, is_short_key, places_of}
use Rattle.mdc_ast.specs.FittingRows.{RowFits}
use Rattle.mdc_ast.specs.ValidDatabase.{AreValidFrom, AreValidRows, IsValid, IsValidDef, IsValidIndex}
use Rattle.mdc_ast.specs.declared.bound.Bound.{Bound}
use Rattle.mdc_ast.specs.declared.definition.ColumnDef.{ColumnDef}
use Rattle.mdc_ast.specs.declared.definition.IndexDef.{IndexDef}
use Rattle.mdc_ast.specs.declared.definition.TableDef.{TableDef}
use Rattle.mdc_ast.specs.declared.row.Row.{Row}
use Rattle.mdc_ast.proofs.TestsLemmas.{and_true, both}
use Rattle.statement_meaning.specs.Doing.{effect, entered, indexed_table}
use Rattle.store_api.specs.declared.shape.Shape.{Shape}
use Rattle.key_codec.specs.Keys.{ArePartsOf}
use Rattle.table_trees.specs.TableTrees.{rising_parts}
use Rattle.table_trees.specs.ToldPages.{PageList}
use Rattle.table_page.proofs.TablePageLemmas.{no_blank_table, one_definition}
use Rattle.table_page.specs.TablePage.{IsTablePageOf}
use Rattle.mdc_sound.specs.RunningFull.{CreateRunsFull, IndexRunsFull, InsertRunsFull}
use Rattle.mdc_sound.specs.SoundDatabase.{KeepAllRules}
use Rattle.mdc_sound.specs.SpaceRules.{DatabaseView, IsTablePlaceSound}
use Rattle.mdc_sound.specs.StandsForDatabase.{PagesStandFor}
use Rattle.mdc_sound.specs.TablePages.{DefinesTable, table_page_at}
use Rattle.mdc_sound.specs.TableViews.{TableView}
use Rattle.mdc_sound.specs.TightPages.{AreTightPages, need}
use Rattle.mdc_sound.proofs.SpaceRulesLemmas.{range_at, range_length}
use Rattle.stored_catalog.specs.StoredDefinitions.{AreStored, IsStoredPlace}
use Rattle.stored_catalog.proofs.LeftDefinitionsLemmas.{def_there, stored_at}
use Rattle.script_engine.specs.Doing.{StatementRunsFull}
use Rattle.tight_space.specs.PuttingChanges.{AllFit}
use Rattle.tight_space.proofs.FullStatementsLemmas.{insert_beyond, plain_at, plains}
use Rattle.tight_space.proofs.MadeTreesLemmas.{create_beyond, index_beyond}
use Rattle.script_engine.specs.PuttingStatements.{OnlyPuts}

-- ---- the table of a definition

-- a table that is there, with this definition
pub record IsTableOf (view : DatabaseView) (t : ℕ) (def : TableDef) : Type 0 where
  pub table : TableView
  pub at : slice_get view.places t ≡ Some (Some table)
  pub same : table.def ≡ def

pub place_there : {X : Type 0} (xs : List X) (i : ℕ) → i < length xs → (x : X) × (slice_get xs i ≡ Some x)
place_there [] i low = absurd (omega (arith, low))
place_there (x ∷ xs) zero low = (x, refl)
place_there (x ∷ xs) (suc i) low = place_there xs i (omega (arith, low))

pub table_of : (shape : Shape) (pages : PageList) (view : DatabaseView) (t : ℕ) (def : TableDef) → KeepAllRules shape pages view → t < 16 → DefinesTable pages t def → IsTableOf view t def
table_of shape pages view t def sound low defines =
    let count = range_length (IsTablePlaceSound shape pages view.owners) 0 16 view.places sound.first.rule3.each in
    let place = place_there view.places t (omega (arith, low, count)) in
    go place.0 place.1 (range_at (IsTablePlaceSound shape pages view.owners) 0 16 view.places t place.0 sound.first.rule3.each place.1).1
  where
    go : (place : Option TableView) → slice_get view.places t ≡ Some place → IsTablePlaceSound shape pages view.owners (0 + t) place → IsTableOf view t def
    go None at is = (
        let number : 0 + t ≡ t = omega arith in
        let zero_page = subst (λ (n : ℕ). IsTablePlaceSound shape pages view.owners n None) number is in
        absurd (no_blank_table t def (subst (λ page. IsTablePageOf t def page) zero_page defines)))
    go (Some table) at is = (
        let number : 0 + t ≡ t = omega arith in
        let mine = subst (λ (n : ℕ). IsTablePlaceSound shape pages view.owners n (Some table)) number is in
        record { table = table; at = at; same = one_definition t table.def def (table_page_at pages t) mine.0 defines })

pub table_of_stored : (shape : Shape) (pages : PageList) (view : DatabaseView) (defs : Definitions) (t : ℕ) (def : TableDef) → KeepAllRules shape pages view → AreStored pages defs → def_at defs t ≡ Some def → IsTableOf view t def
table_of_stored shape pages view defs t def sound stored is =
    table_of shape pages view t def sound (range_at (IsStoredPlace pages) 0 16 defs t (Some def) stored (def_there defs t def is)).0 (stored_at pages defs t def stored is)

-- ---- valid databases

valid_at : (db : Database) (t : ℕ) (change : PlainTable → PlainTable) (plain : PlainTable) → slice_get db t ≡ Some (Some plain) → AllByRecursion AreValidRows (changed_at db t change) → AreValidRows (Some (change plain))
valid_at [] t change plain at valid = absurd (cc)
valid_at (None ∷ db) zero change plain at valid = absurd (cc)
valid_at (Some first ∷ db) zero change plain at valid = subst (λ (p : PlainTable). AreValidRows (Some (change p))) (same_Some first plain (same_Some (Some first) (Some plain) at)) valid.0
valid_at (place ∷ db) (suc t) change plain at valid = valid_at db t change plain at valid.1

rows_behind : (P : Row → Type 0) (xs ys : List Row) → AllByRecursion P (xs ++ ys) → AllByRecursion P ys
rows_behind P [] ys all = all
rows_behind P (x ∷ xs) ys all = rows_behind P xs ys all.1

rows_fit : (a b : TableDef) (rows : List Row) → a.columns ≡ b.columns → AllByRecursion (RowFits a) rows → AllFit b rows
rows_fit a b [] same all = tt
rows_fit a b (row ∷ rows) same all = (subst (λ (columns : List ColumnDef). IsTrue (fits_all columns row.values)) same all.0.values, rows_fit a b rows same all.1)

pub last_of : {X : Type 0} (P : X → Type 0) (xs : List X) (x : X) → AllByRecursion P (xs ++ x ∷ []) → P x
last_of P [] x all = all.0
last_of P (y ∷ xs) x all = last_of P xs x all.1

def_valid : (db : Database) (from t : ℕ) (plain : PlainTable) → AreValidFrom from (defs_of db) → slice_get db t ≡ Some (Some plain) → IsValidDef (from + t) plain.def
def_valid [] from t plain valid at = absurd (cc)
def_valid (None ∷ db) from zero plain valid at = absurd (cc)
def_valid (Some first ∷ db) from zero plain valid at =
    let number : from ≡ from + 0 = omega arith in
    subst (λ (n : ℕ). IsValidDef n plain.def) number (subst (λ (p : PlainTable). IsValidDef from p.def) (same_Some first plain (same_Some (Some first) (Some plain) at)) valid.0)
def_valid (place ∷ db) from (suc t) plain valid at =
    let number : (from + 1) + t ≡ from + suc t = omega arith in
    subst (λ (n : ℕ). IsValidDef n plain.def) number (def_valid db (from + 1) t plain valid.1 at)

pub changed_there : (db : Database) (t : ℕ) (change : PlainTable → PlainTable) (plain : PlainTable) → slice_get db t ≡ Some (Some plain) → slice_get (changed_at db t change) t ≡ Some (Some (change plain))
changed_there [] t change plain at = absurd (cc)
changed_there (None ∷ db) zero change plain at = absurd (cc)
changed_there (Some first ∷ db) zero change plain at = ap (λ (p : PlainTable). Some (Some (change p))) (same_Some first plain (same_Some (Some first) (Some plain) at))
changed_there (place ∷ db) (suc t) change plain at = changed_there db t change plain at

pub set_there : (db : Database) (place : ℕ) (new : PlainTable) → slice_get db place ≡ Some None → slice_get (with_place db place (Some new)) place ≡ Some (Some new)
set_there [] place new at = absurd (cc)
set_there (first ∷ db) zero new at = refl
set_there (first ∷ db) (suc place) new at = set_there db place new at

-- the lowest empty place is empty
free_from : (db : Database) (from place : ℕ) → position_from is_none from (defs_of db) ≡ Some place → (k : ℕ) × (from + k ≡ place) × (slice_get db k ≡ Some None)
free_from [] from place at = absurd (cc)
free_from (None ∷ db) from place at = (0, (let is : from ≡ place = same_Some from place at in omega (arith, is)), refl)
free_from (Some first ∷ db) from place at = (let (k, is, free) = free_from db (from + 1) place at in (suc k, omega (arith, is), free))

pub free_place : (db : Database) (place : ℕ) → position_from is_none 0 (defs_of db) ≡ Some place → slice_get db place ≡ Some None
free_place db place at = (let (k, is, free) = free_from db 0 place at in let same : k ≡ place = omega (arith, is) in subst (λ (n : ℕ). slice_get db n ≡ Some None) same free)

-- ---- keys of trees

places_rising : (places : List ℕ) → places_of (rising_parts places) ≡ places
places_rising [] = refl
places_rising (place ∷ places) = ap (λ more. place ∷ more) (places_rising places)

rising_of : (columns : List ColumnDef) (places : List ℕ) → IsTrue (are_there columns places) → IsTrue (is_short_key columns places) → ArePartsOf columns (rising_parts places)
rising_of columns places there short = record {
  there = subst (λ p. IsTrue (are_there columns p)) (sym (places_rising places)) there;
  short = subst (λ p. IsTrue (is_short_key columns p)) (sym (places_rising places)) short;
}

there_both : (columns : List ColumnDef) (xs ys : List ℕ) → IsTrue (are_there columns xs) → IsTrue (are_there columns ys) → IsTrue (are_there columns (xs ++ ys))
there_both columns [] ys front back = back
there_both columns (x ∷ xs) ys front back =
    let parts = both (nat_lt x (length columns)) (are_there columns xs) front in
    and_true (nat_lt x (length columns)) (are_there columns (xs ++ ys)) parts.0 (there_both columns xs ys parts.1 back)

all_there : (columns : List ColumnDef) (dims : List (List ℕ)) → IsTrue (list_all (are_there columns) dims) → IsTrue (are_there columns (flat_map (λ dim. dim) dims))
all_there columns [] all = refl
all_there columns (dim ∷ dims) all =
    let parts = both (are_there columns dim) (list_all (are_there columns) dims) all in
    there_both columns dim (flat_map (λ d. d) dims) parts.0 (all_there columns dims parts.1)

composite_parts : (columns : List ColumnDef) (dims : List (List ℕ)) → IsTrue (list_all (are_there columns) dims) → IsTrue (is_short_key columns (flat_map (λ dim. dim) dims))
    → ArePartsOf columns (rising_parts (flat_map (λ dim. dim) dims))
composite_parts columns dims there short = rising_of columns (flat_map (λ dim. dim) dims) (all_there columns dims there) short

dims_parts : (columns : List ColumnDef) (dims : List (List ℕ)) → IsTrue (list_all (are_there columns) dims) → IsTrue (list_all (is_short_key columns) dims)
    → AllByRecursion (λ dim. ArePartsOf columns (rising_parts dim)) dims
dims_parts columns [] there short = tt
dims_parts columns (dim ∷ dims) there short =
    let here = both (are_there columns dim) (list_all (are_there columns) dims) there in
    let keys = both (is_short_key columns dim) (list_all (is_short_key columns) dims) short in
    (rising_of columns dim here.0 keys.0, dims_parts columns dims here.1 keys.1)

-- ---- statements

module _ (shape : Shape) (pages : PageList) (view : DatabaseView) (sound : KeepAllRules shape pages view) (tight : AreTightPages shape pages view) (defs : Definitions) (stored : AreStored pages defs)
    (db : Database) (stands : PagesStandFor shape pages db) where
  -- the rows of an INSERT fit, where the database that it makes is valid
  pub insert_fits : (t : ℕ) (tuples : List (List Value)) (def : TableDef) → def_at defs t ≡ Some def → IsValid (changed_at db t (appended tuples)) → AllFit def (numbered def.next tuples)
  insert_fits t tuples def is valid =
      let of = table_of_stored shape pages view defs t def sound stored is in
      let plain = plain_at shape pages view.places db t of.table (plains shape pages view sound tight db stands) of.at in
      let rows = (valid_at db t (appended tuples) plain.0 plain.1 valid.tables).fitting in
      let next : plain.0.def.next ≡ of.table.def.next = ap (λ (d : TableDef). d.next) plain.2.def_is in
      let columns : plain.0.def.columns ≡ of.table.def.columns = ap (λ (d : TableDef). d.columns) plain.2.def_is in
      let new = rows_behind (RowFits (appended tuples plain.0).def) plain.0.rows (numbered plain.0.def.next tuples) rows in
      let fit : AllFit of.table.def (numbered of.table.def.next tuples) =
      subst (λ (n : ℕ). AllFit of.table.def (numbered n tuples)) next (rows_fit (appended tuples plain.0).def of.table.def (numbered plain.0.def.next tuples) columns new) in
      subst (λ (d : TableDef). AllFit d (numbered d.next tuples)) of.same fit

  insert_full : (t : ℕ) (tuples : List (List Value)) (def : TableDef) → def_at defs t ≡ Some def → IsValid (changed_at db t (appended tuples)) → InsertRunsFull shape pages def (numbered def.next tuples)
      → shape.extents < need shape (changed_at db t (appended tuples))
  insert_full t tuples def is valid full =
      let of = table_of_stored shape pages view defs t def sound stored is in
      let fit = subst (λ (d : TableDef). AllFit d (numbered d.next tuples)) (sym of.same) (insert_fits t tuples def is valid) in
      insert_beyond shape pages view sound tight t of.table db tuples of.at stands fit (subst (λ (d : TableDef). InsertRunsFull shape pages d (numbered d.next tuples)) (sym of.same) full)

  index_full : (t : ℕ) (index : IndexDef) (def : TableDef) → def_at defs t ≡ Some def → IsValid (changed_at db t (indexed_table index)) → IndexRunsFull shape pages def index → shape.extents < need shape (changed_at db t (indexed_table index))
  index_full t index def is valid full =
      let of = table_of_stored shape pages view defs t def sound stored is in
      let plain = plain_at shape pages view.places db t of.table (plains shape pages view sound tight db stands) of.at in
      let columns : plain.0.def.columns ≡ of.table.def.columns = ap (λ (d : TableDef). d.columns) plain.2.def_is in
      let mine = last_of (IsValidIndex plain.0.def.columns) plain.0.def.indexes index (def_valid (changed_at db t (indexed_table index)) 0 t (indexed_table index plain.0) valid.defs.each (changed_there db t (indexed_table index) plain.0 plain.1)).indexes in
      let parts : ArePartsOf of.table.def.columns index.parts = subst (λ (cs : List ColumnDef). ArePartsOf cs index.parts) columns (record { there = mine.there; short = mine.short_key }) in
      index_beyond shape pages view sound tight db t of.table plain.0 index (indexed_table index) of.at plain.1 plain.2 stands parts (λ one. refl) (subst (λ (d : TableDef). IndexRunsFull shape pages d index) (sym of.same) full)

  create_full : (def : TableDef) (place : ℕ) → empty_place (defs_of db) ≡ Some place → IsValid (entered db (empty_place (defs_of db)) def) → CreateRunsFull shape pages def
      → shape.extents < need shape (entered db (empty_place (defs_of db)) def)
  create_full def place at valid full =
      let free = free_place db place at in
      let new : PlainTable = record { def = record def { number = place }; rows = [] } in
      let entered_is = subst (λ (p : Option ℕ). IsValid (entered db p def)) at valid in
      let is = def_valid (with_place db place (Some new)) 0 place new entered_is.defs.each (set_there db place new free) in
      subst (λ (p : Option ℕ). shape.extents < need shape (entered db p def)) (sym at)
      (create_beyond shape pages view sound tight db place def (record def { number = place }) stands free (composite_parts def.columns def.dims is.dims_there is.short_composite) (dims_parts def.columns def.dims is.dims_there is.short_keys) refl refl full)

  pub full_beyond : (statement : Bound) → IsValid (effect db statement).0 → OnlyPuts db statement → StatementRunsFull shape pages defs statement → shape.extents < need shape (effect db statement).0
  full_beyond statement valid puts (StatementRunsFull.create full) = create_full _ puts.0 puts.1 valid full
  full_beyond statement valid puts (StatementRunsFull.index def is full) = index_full _ _ def is valid full
  full_beyond statement valid puts (StatementRunsFull.insert def is full) = insert_full _ _ def is valid full
  full_beyond statement valid puts (StatementRunsFull.update def spots rows is shows qualify full) = absurd puts
