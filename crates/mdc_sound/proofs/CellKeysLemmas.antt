-- Keys of rows of one cell.
use Rattle.std.proofs.Common.{◌≡◌, ℕ, List, [], ◌∷◌, refl, arith, subst, ◌⊎◌, inl, inr}
use Rattle.std.specs.Prelude.{Contains, map}
use Rattle.mdc_values.specs.declared.value.Value.{Value}
use Rattle.mdc_ast.specs.Truth.{value_at}
use Rattle.mdc_ast.specs.declared.definition.TableDef.{TableDef}
use Rattle.mdc_ast.specs.ValidDatabase.{AreSameAtParts}
use Rattle.key_codec.specs.Keys.{key_bytes}
use Rattle.key_codec.proofs.KeyLemmas.{key_bytes-same}
use Rattle.block_map.proofs.MapLinesLemmas.{contains_cases, contains_more}
use Rattle.table_trees.specs.RowCells.{AreOfOneCell, cell_places}
use Rattle.table_trees.specs.TableTrees.{cell_parts, rising_parts}
use Rattle.mdc_sound.proofs.ElementsLemmas.{contains_flat}

same_at : (places : List ℕ) (a b : List Value) (place : ℕ) → map (value_at a) places ≡ map (value_at b) places → Contains places place → value_at a place ≡ value_at b place
same_at [] a b place e (k, l, is) = absurd (omega (arith, l))
same_at (first ∷ places) a b place e at = go (contains_cases place first places at) (same_at places a b place (cc))
  where
    go : (first ≡ place) ⊎ Contains places place → (Contains places place → value_at a place ≡ value_at b place) → value_at a place ≡ value_at b place
    go (inl is) more = let here : value_at a first ≡ value_at b first = cc in subst (λ (p : ℕ). value_at a p ≡ value_at b p) is here
    go (inr c) more = more c

same_parts : (places : List ℕ) (a b : List Value) → ((place : ℕ) → Contains places place → value_at a place ≡ value_at b place) → AreSameAtParts (rising_parts places) a b
same_parts [] a b same = tt
same_parts (place ∷ places) a b same = (same place (0, omega arith, refl), same_parts places a b (λ p there. same p (contains_more p place places there)))

-- rows of one cell have one key, and one of each dimension
pub cell_key-same : (def : TableDef) (a b : List Value) → AreOfOneCell def a b → key_bytes def.columns (cell_parts def) a ≡ key_bytes def.columns (cell_parts def) b
cell_key-same def a b one = key_bytes-same def.columns (cell_parts def) a b (same_parts (cell_places def) a b (λ place there. same_at (cell_places def) a b place one there))

pub dimension_key-same : (def : TableDef) (dim : List ℕ) (a b : List Value) → Contains def.dims dim → AreOfOneCell def a b
    → key_bytes def.columns (rising_parts dim) a ≡ key_bytes def.columns (rising_parts dim) b
dimension_key-same def dim a b at one =
    key_bytes-same def.columns (rising_parts dim) a b (same_parts dim a b (λ place there. same_at (cell_places def) a b place one (contains_flat (λ (d : List ℕ). d) def.dims dim place at there)))
