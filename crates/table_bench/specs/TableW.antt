-- The table that is filled: `W (K INTEGER NOT NULL, D INTEGER, R INTEGER, V BIGINT, T CHAR(8), S DATE) ORGANIZE BY (D, (R, T))`.
use Rattle.std.specs.Prelude.{◌≡◌, ◌<◌, ℕ, Bool, true, false, List, [], ◌∷◌, length, slice_index, None}
use Rattle.mdc_values.specs.declared.value.ColType.{ColType}
use Rattle.mdc_values.specs.declared.value.ColType.TheVariants.{Integer, Bigint, Char, Date}
use Rattle.mdc_ast.specs.declared.definition.ColumnDef.{ColumnDef}
use Rattle.mdc_ast.specs.declared.definition.Roots.{Roots}
use Rattle.mdc_ast.specs.declared.definition.TableDef.{TableDef}

-- a column whose name is one letter, and which isn't generated
abbrev pub column_named : ℕ → ColType → Bool → ColumnDef
column_named letter ty not_null = record { name = record { 0 = letter ∷ [] }; ty = ty; not_null = not_null; made = None }

-- K INTEGER NOT NULL, the one column that has no nulls
abbrev pub column_k : ColumnDef
column_k = column_named 75 Integer true

-- D INTEGER, the first dimension
abbrev pub column_d : ColumnDef
column_d = column_named 68 Integer false

-- R INTEGER, in the second dimension
abbrev pub column_r : ColumnDef
column_r = column_named 82 Integer false

-- V BIGINT, in no dimension
abbrev pub column_v : ColumnDef
column_v = column_named 86 Bigint false

-- T CHAR(8), in the second dimension behind R
abbrev pub column_t : ColumnDef
column_t = column_named 84 (Char 8) false

-- S DATE, in no dimension
abbrev pub column_s : ColumnDef
column_s = column_named 83 Date false

-- the six columns in table order
abbrev pub columns_w : List ColumnDef
columns_w = column_k ∷ column_d ∷ column_r ∷ column_v ∷ column_t ∷ column_s ∷ []

-- D, and R with T
abbrev pub dims_w : List (List ℕ)
dims_w = (1 ∷ []) ∷ (2 ∷ 4 ∷ []) ∷ []

-- a root of four bytes for each of its trees
pub record AreRootsOfW (roots : Roots) : Type 0 where
  pub map : roots.map < 4294967296
  pub composite : roots.composite < 4294967296
  pub dimensions : length roots.dims ≡ 2
  pub first : slice_index roots.dims 0 < 4294967296
  pub second : slice_index roots.dims 1 < 4294967296

-- table W in place 0, whatever its roots and its next row number
pub record IsTableW (def : TableDef) : Type 0 where
  pub number : def.number ≡ 0
  pub name : def.name ≡ record { 0 = 87 ∷ [] }
  pub columns : def.columns ≡ columns_w
  pub dims : def.dims ≡ dims_w
  pub indexes : def.indexes ≡ []
  pub next : def.next < 18446744073709551616
  pub roots : AreRootsOfW def.roots
