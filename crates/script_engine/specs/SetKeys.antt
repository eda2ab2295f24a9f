-- Whether an UPDATE sets a column of a UNIQUE index, and what the judge of keys says of rows that become others.
use Rattle.std.specs.Prelude.{◌≡◌, ◌++◌, ◌&&◌, ◌==◌, ℕ, Bool, List, Option, flat_map, map, false, None, true}
use Rattle.std.specs.List.{list_any}
use Rattle.mdc_values.specs.declared.value.Value.{Value}
use Rattle.mdc_ast.specs.declared.bound.BoundSet.{BoundSet}
use Rattle.mdc_ast.specs.declared.definition.IndexDef.{IndexDef}
use Rattle.mdc_ast.specs.declared.definition.KeyPart.{KeyPart}
use Rattle.mdc_ast.specs.declared.definition.TableDef.{TableDef}
use Rattle.mdc_ast.specs.declared.refusal.Refusal.{Refusal}
use Rattle.statement_meaning.specs.Doing.{twin_causes}
use Rattle.store_api.specs.declared.pages.Pages.{Ghosts}
use Rattle.store_api.specs.declared.shape.Shape.{Shape}
use Rattle.extent_map.specs.declared.kind.Kind.{Kind}
use Rattle.mdc_sound.specs.BlockRules.{AreTableIndexesSound, AreTableKeysSound}
use Rattle.mdc_sound.specs.StandingTable.{StandsTable, TableForests, pages_of, view_of}
use Rattle.mdc_sound.specs.TableRows.{rows_in_table}
use Rattle.statement_rows.specs.declared.changing.Turned.{Turned}
use Rattle.unique_keys.specs.Clashes.{AreStaying}
use Rattle.script_engine.specs.Inserting.{first_refusal}

-- a column is set
abbrev pub is_set : List BoundSet → ℕ → Bool
is_set sets column = list_any (λ set. set.column == column) sets

-- a column of a key is
abbrev pub sets_key : List BoundSet → List KeyPart → Bool
sets_key sets parts = list_any (λ part. is_set sets part.column) parts

-- a column of a UNIQUE index is
abbrev pub sets_unique : List BoundSet → List IndexDef → Bool
sets_unique sets indexes = list_any (λ index. index.unique && sets_key sets index.parts) indexes

-- this is the refusal for equal keys of rows that stay and of those that others become, wherever the table stands and is sound
abbrev pub JudgesTurned : {S : Type 0} → Ghosts S → S → TableDef → List Turned → Option Refusal → Type 0
JudgesTurned g s def items refusal =
    (shape : Shape) (owners : List Kind) (forests : TableForests) → StandsTable g shape s def owners forests
    → AreTableIndexesSound shape (pages_of g s) (view_of def forests) → AreTableKeysSound shape (pages_of g s) (view_of def forests)
    → (stay : List (List Value)) → AreStaying (rows_in_table shape (pages_of g s) def forests.map) (map (λ one. one.hit.rid) items) stay
    → first_refusal (flat_map (twin_causes (stay ++ map (λ one. one.row.values) items)) def.indexes) ≡ refusal

-- the same of rows of which these columns are set: where none of a UNIQUE index is, there is no refusal
abbrev pub JudgesSet : {S : Type 0} → Ghosts S → S → TableDef → List BoundSet → List Turned → Option Refusal → Type 0
JudgesSet g s def sets items refusal = (sets_unique sets def.indexes ≡ true → JudgesTurned g s def items refusal) × (sets_unique sets def.indexes ≡ false → refusal ≡ None)
