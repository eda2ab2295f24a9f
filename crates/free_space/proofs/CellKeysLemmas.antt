-- Keys of cells: rows of one cell have one key, and rows that fit and have one key are of one cell; and the entries of blocks
-- under them.
use Rattle.std.proofs.Common.{◌≡◌, ◌<◌, ◌^◌, ℕ, List, [], ◌∷◌, ◌++◌, refl, ap, arith, sym, ◌∙◌, length, map}
use Rattle.std.specs.Prelude.{IsTrue}
use Rattle.std.proofs.Math.Nat.{mod-eq_of_lt}
use Rattle.byteorder.specs.Endian.{big_bytes, big_number}
use Rattle.byteorder.specs.Numbers.{big_from-bytes}
use Rattle.mdc_values.specs.declared.value.Value.{Value}
use Rattle.mdc_ast.specs.Truth.{value_at}
use Rattle.mdc_ast.specs.declared.definition.TableDef.{TableDef}
use Rattle.mdc_ast.specs.Database.{fits_all}
use Rattle.mdc_ast.specs.ValidDatabase.{AreSameAtParts}
use Rattle.key_codec.specs.Keys.{ArePartsOf}
use Rattle.key_codec.proofs.KeyLemmas.{same-key_bytes}
use Rattle.table_trees.specs.TableTrees.{cell_parts, rising_parts}
use Rattle.table_trees.specs.RowCells.{AreOfOneCell, cell_places}
use Rattle.mdc_sound.proofs.CellKeysLemmas.{cell_key-same}
use Rattle.free_space.specs.FoundRoom.{cell_key_of}

same_values : (places : List ℕ) (a b : List Value) → AreSameAtParts (rising_parts places) a b → map (value_at a) places ≡ map (value_at b) places
same_values [] a b same = refl
same_values (place ∷ places) a b same = let rest = same_values places a b same.1 in let first = same.0 in cc

pub cell_key_of-same : (def : TableDef) (a b : List Value) → AreOfOneCell def a b → cell_key_of def a ≡ cell_key_of def b
cell_key_of-same def a b one = cell_key-same def a b one

pub one_cell : (def : TableDef) (a b : List Value) → ArePartsOf def.columns (cell_parts def) → IsTrue (fits_all def.columns a) → IsTrue (fits_all def.columns b) → cell_key_of def a ≡ cell_key_of def b
    → AreOfOneCell def a b
one_cell def a b are fa fb same =
    same_values (cell_places def) a b ((same-key_bytes def.columns (cell_parts def) a b are fa fb).0 same)

-- ---- entries

same_fronts : (xs ys a b : List ℕ) → length xs ≡ length ys → xs ++ a ≡ ys ++ b → (xs ≡ ys) × (a ≡ b)
same_fronts [] [] a b l e = (refl, e)
same_fronts [] (y ∷ ys) a b l e = absurd (omega (arith, l))
same_fronts (x ∷ xs) [] a b l e = absurd (omega (arith, l))
same_fronts (x ∷ xs) (y ∷ ys) a b l e = let r = same_fronts xs ys a b (omega (arith, l)) (cc) in let rest = r.0 in (cc, r.1)

-- two blocks with the same bytes are one
same_block : (a b : ℕ) → a < 2 ^ 32 → b < 2 ^ 32 → big_bytes 4 a ≡ big_bytes 4 b → a ≡ b
same_block a b la lb e =
    sym (mod-eq_of_lt la) ∙ sym (big_from-bytes 4 a []) ∙ ap (big_number 4) (ap (λ (xs : List ℕ). xs ++ []) e) ∙ big_from-bytes 4 b [] ∙ mod-eq_of_lt lb

-- entries of blocks under keys of one width
pub same_entry : (key other : List ℕ) (a b : ℕ) → length key ≡ length other → a < 2 ^ 32 → b < 2 ^ 32 → key ++ big_bytes 4 a ≡ other ++ big_bytes 4 b → (key ≡ other) × (a ≡ b)
same_entry key other a b l la lb e = let r = same_fronts key other (big_bytes 4 a) (big_bytes 4 b) l e in (r.0, same_block a b la lb r.1)
