-- Rows that stay in a table that stands: they fit, have keys of their own, and have a twin of given values where a look finds one.
use Rattle.std.proofs.Common.{◌≡◌, ◌<◌, ℕ, List, [], ◌∷◌, map, false, length, get_or, refl, sym, ap, subst, ◌∙◌}
use Rattle.std.specs.Prelude.{Contains, IsTrue, Option, None, Some, filter}
use Rattle.std.specs.List.{AllByRecursion}
use Rattle.std.specs.Option.{is_some}
use Rattle.std.proofs.lemmas.List.Sorted.{IsPermutation-sym}
use Rattle.mdc_values.specs.declared.rid.Rid.{Rid}
use Rattle.mdc_values.specs.declared.value.Value.{Value}
use Rattle.mdc_ast.specs.Database.{fits_all}
use Rattle.mdc_ast.specs.TableLimits.{IsTableDef}
use Rattle.mdc_ast.specs.declared.definition.ColumnDef.{ColumnDef}
use Rattle.mdc_ast.specs.declared.definition.IndexDef.{IndexDef}
use Rattle.mdc_ast.specs.declared.definition.TableDef.{TableDef}
use Rattle.row_groups.specs.Numbers.{values_of}
use Rattle.statement_meaning.specs.Keys.{has_twin, have_twins}
use Rattle.store_api.specs.declared.pages.Pages.{Ghosts}
use Rattle.key_codec.specs.Keys.{ArePartsOf, key_bytes}
use Rattle.mdc_sound.specs.BlockRules.{AreTableIndexesSound, AreTableKeysSound, IsUniqueSound}
use Rattle.mdc_sound.specs.StandingTable.{pages_of, view_of}
use Rattle.mdc_sound.specs.TableRows.{PlacedRow, rows_in_table}
use Rattle.mdc_sound.proofs.BlockRulesLemmas.{each_of}
use Rattle.mdc_sound.proofs.ElementsLemmas.{each_in, in_map}
use Rattle.mdc_sound.proofs.StandingTableLemmas.{stands_same}
use Rattle.record_index.specs.RecordIndexes.{HaveKeysIn, parts_of_record_index}
use Rattle.record_index.proofs.IndexesLemmas.{has_indexes, key_parts, parts_are}
use Rattle.record_index.proofs.KeysLemmas.{keys_of_fitting}
use Rattle.live_rows.specs.Twins.{FindsTwin}
use Rattle.live_rows.proofs.StandingTwinsLemmas.{index_there, lies_in_used}
use Rattle.unique_keys.specs.Clashes.{AreStaying, HaveOwnKeys, StayInTable}
use Rattle.unique_keys.proofs.MovedTwinsLemmas.{twins_moved}
use Rattle.unique_keys.proofs.StayingLemmas.{each_staying, stays_too}
use Rattle.unique_keys.proofs.TwinKeysLemmas.{no_twin_of_bytes, twin_of_bytes}
use Rattle.unique_keys.proofs.UniqueRowsLemmas.{stay_apart}

-- ---- an index by its number

-- its parts are those of a key
pub parts_of_index : (def : TableDef) (index : ℕ) → IsTableDef def.number def → index < length def.indexes → ArePartsOf def.columns (parts_of_record_index def index)
parts_of_index def index defined there =
    let which = index_there def index there in
    subst (ArePartsOf def.columns) (sym (parts_are def index index which.0 refl which.1)) (key_parts def index (has_indexes def.number def defined) which.0 which.1)

-- values that fit have a key in it
pub has_keys : (def : TableDef) (index : ℕ) (values : List Value) → IsTableDef def.number def → index < length def.indexes → IsTrue (fits_all def.columns values)
    → HaveKeysIn def.columns (parts_of_record_index def index) values
has_keys def index values defined there fit = keys_of_fitting def.columns (parts_of_record_index def index) values (parts_of_index def index defined there).there fit

-- one of some rows fits where all do
pub fits_here : {B : Type 0} (now : B → List Value) (columns : List ColumnDef) (rows : List B) (i : ℕ) (row : B) → i < length rows → row ≡ get_or rows i row
    → AllByRecursion (λ values. IsTrue (fits_all columns values)) (map now rows) → IsTrue (fits_all columns (now row))
fits_here now columns rows i row low at fit = each_of (λ (values : List Value). IsTrue (fits_all columns values)) (map now rows) (now row) fit (in_map now rows row (i, low, sym at))

-- ---- rows that stay

-- they stay where the work does
pub stay_still : {S : Type 0} {g : Ghosts S} (old mid : S) (def : TableDef) (but : List Rid) (stay : List (List Value)) → (g.state mid).is_told ≡ (g.state old).is_told → (g.state mid).work ≡ (g.state old).work
    → StayInTable g old def but stay → StayInTable g mid def but stay
stay_still old mid def but stay told same is = record {
  shape = is.shape;
  owners = is.owners;
  forests = is.forests;
  stands = stands_same is.shape old mid def is.owners is.forests told same is.stands;
  sound = subst (λ pages. AreTableIndexesSound is.shape pages (view_of def is.forests)) (sym same) is.sound;
  staying = subst (λ pages. AreStaying (rows_in_table is.shape pages def is.forests.map) but stay) (sym same) is.staying;
}

values_placed : (rows : List PlacedRow) → map (λ one. one.row.values) rows ≡ values_of (map (λ one. one.row) rows)
values_placed [] = refl
values_placed (one ∷ rows) = ap (λ more. one.row.values ∷ more) (values_placed rows)

module _ {S : Type 0} {g : Ghosts S} (s : S) (def : TableDef) (but : List Rid) (stay : List (List Value)) (is : StayInTable g s def but stay) where
  abbrev rows : List PlacedRow
  rows = rows_in_table is.shape (pages_of g s) def is.forests.map

  row_fits : (one : PlacedRow) → Contains (rows_in_table is.shape (pages_of g s) def is.forests.map) one → IsTrue (fits_all def.columns one.row.values)
  row_fits one there = (lies_in_used is.shape s def is.owners is.forests is.stands one there).fits.values

  -- they fit
  stay_fit : AllByRecursion (λ values. IsTrue (fits_all def.columns values)) stay
  stay_fit = each_staying rows but stay is.staying (λ values. IsTrue (fits_all def.columns values)) (λ one there out. row_fits one there)

  -- no two of them have equal keys in a UNIQUE index
  pub own_keys : AreTableKeysSound is.shape (pages_of g s) (view_of def is.forests) → HaveOwnKeys def.indexes stay
  own_keys keys = go def.indexes keys
    where
      one_index : (index : IndexDef) → IsUniqueSound rows index → IsTrue index.unique → have_twins index.parts stay ≡ false
      one_index index sound unique =
          twins_moved index.parts stay (map (λ (one : PlacedRow). one.row.values) (filter is.staying.stays rows)) (IsPermutation-sym (map (λ (one : PlacedRow). one.row.values) (filter is.staying.stays rows)) stay is.staying.values)
          ∙ (ap (have_twins index.parts) (values_placed (filter is.staying.stays rows))
          ∙ stay_apart def.columns index rows is.staying.stays (each_in (λ (one : PlacedRow). IsTrue (fits_all def.columns one.row.values)) rows row_fits) sound unique)

      go : (indexes : List IndexDef) → AllByRecursion (IsUniqueSound rows) indexes → HaveOwnKeys indexes stay
      go [] all = tt
      go (index ∷ indexes) all = (one_index index all.0, go indexes all.1)

  -- one of them has the key of values that fit exactly where a look finds one
  pub twin_tells : (index : ℕ) (values : List Value) (twin : Option Rid) → IsTableDef def.number def → index < length def.indexes → IsTrue (fits_all def.columns values)
      → FindsTwin def index (rows_in_table is.shape (pages_of g s) def is.forests.map) values but twin → has_twin (parts_of_record_index def index) stay values ≡ is_some twin
  twin_tells index values None defined there fit none =
      let key : List Value → List ℕ = key_bytes def.columns (parts_of_record_index def index) in
      no_twin_of_bytes def.columns (parts_of_record_index def index) stay values fit stay_fit
      (each_staying rows but stay is.staying (λ row. key row ≡ key values → ⊥) (λ one at out same. none one (record { there = at; same_key = same; outside = out })))
  twin_tells index values (Some rid) defined there fit (placed, at, twin) =
      twin_of_bytes def.columns (parts_of_record_index def index) stay values placed.row.values (parts_of_index def index defined there) fit stay_fit
      (stays_too rows but stay is.staying placed twin.there twin.outside) twin.same_key
