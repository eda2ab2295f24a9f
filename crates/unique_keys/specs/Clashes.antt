-- Rows of a table that stay while others go and new ones come.
use Rattle.std.specs.Prelude.{◌≡◌, ◌↔◌, ℕ, Bool, false, IsTrue, List, Contains, IsPermutation, Some, filter, map, slice_get}
use Rattle.std.specs.List.{AllByRecursion}
use Rattle.mdc_values.specs.declared.rid.Rid.{Rid}
use Rattle.mdc_values.specs.declared.value.Value.{Value}
use Rattle.mdc_ast.specs.declared.definition.IndexDef.{IndexDef}
use Rattle.mdc_ast.specs.declared.definition.TableDef.{TableDef}
use Rattle.statement_meaning.specs.Keys.{have_twins}
use Rattle.store_api.specs.declared.fault.Damage.{Damage}
use Rattle.store_api.specs.declared.pages.Pages.{Ghosts}
use Rattle.store_api.specs.declared.shape.Shape.{Shape}
use Rattle.extent_map.specs.declared.kind.Kind.{Kind}
use Rattle.mdc_sound.specs.BlockRules.{AreTableIndexesSound}
use Rattle.mdc_sound.specs.StandingTable.{StandsTable, TableForests, pages_of, view_of}
use Rattle.mdc_sound.specs.TableRows.{PlacedRow, rows_in_table}
use Rattle.live_rows.specs.Twins.{BreaksLook, IsLookPage}

-- ---- rows that stay

-- these are the values of the rows that lie outside some places, in any order
pub record AreStaying (rows : List PlacedRow) (but : List Rid) (stay : List (List Value)) : Type 0 where
  pub stays : PlacedRow → Bool
  pub outside : (one : PlacedRow) → Contains rows one → IsTrue (stays one) ↔ (Contains but one.rid → ⊥)
  pub values : IsPermutation (map (λ one. one.row.values) (filter stays rows)) stay

-- a table stands, its record indexes are sound, and these are the values of its rows outside some places
pub record StayInTable {S : Type 0} (g : Ghosts S) (s : S) (def : TableDef) (but : List Rid) (stay : List (List Value)) : Type 0 where
  pub shape : Shape
  pub owners : List Kind
  pub forests : TableForests
  pub stands : StandsTable g shape s def owners forests
  pub sound : AreTableIndexesSound shape (pages_of g s) (view_of def forests)
  pub staying : AreStaying (rows_in_table shape (pages_of g s) def forests.map) but stay

-- no two of these rows have equal keys in a UNIQUE index
abbrev pub HaveOwnKeys : List IndexDef → List (List Value) → Type 0
HaveOwnKeys indexes rows = AllByRecursion (λ index. IsTrue index.unique → have_twins index.parts rows ≡ false) indexes

-- ---- which pages, and which damage

-- the pages that come to hand: those of a look in a UNIQUE index of the table
abbrev pub IsClashPage : {S : Type 0} → Ghosts S → S → TableDef → ℕ → Type 0
IsClashPage g s def p = (index : ℕ) × (which : IndexDef) × (slice_get def.indexes index ≡ Some which) × IsTrue which.unique × IsLookPage g s def index p

-- what may be named as damage: what such a look may name
abbrev pub BreaksClash : {S : Type 0} → Ghosts S → S → TableDef → Damage → Type 0
BreaksClash g s def damage = (index : ℕ) × (which : IndexDef) × (slice_get def.indexes index ≡ Some which) × IsTrue which.unique × BreaksLook g s def index damage
