-- The full file keeps rules 7 to 12: its row pages, counts, cells, indexes, row numbers and unique keys.
use Rattle.std.specs.Prelude.{◌≡◌, ◌≢◌, ◌<◌, ℕ, zero, suc, true, false, pos, List, [], ◌∷◌, length, AllPairs}
use Rattle.std.specs.List.{AllByRecursion}
use Rattle.std.proofs.Common.{refl, arith, sym, ap, subst, inl}
use Rattle.mdc_values.specs.declared.value.Value.TheVariants.{Int}
use Rattle.mdc_ast.specs.FittingRows.{RowFits}
use Rattle.mdc_ast.specs.ValidDatabase.{AreSameAtParts}
use Rattle.mdc_ast.specs.declared.definition.IndexDef.{IndexDef}
use Rattle.mdc_ast.specs.declared.definition.KeyPart.{KeyPart}
use Rattle.mdc_ast.specs.declared.row.Row.{Row}
use Rattle.store_api.specs.StoreState.{page_at, zero_page}
use Rattle.row_page.specs.Row.{column_bytes, column_value, row_bytes, row_in}
use Rattle.row_page.specs.RowPage.{row_page_head}
use Rattle.entry_tree.specs.Forest.Forest.{Leaf, Nil}
use Rattle.table_trees.specs.RowCells.{AreOfOneCell}
use Rattle.mdc_sound.specs.BlockRules.{AreBlockIndexesSound, AreBlockRowsSound, AreCellsSound, AreIdleCountsSound, AreRowNumbersSound, AreRowPagesSound, AreSoundIndexes, AreUsedCountsSound, IsBlockIndexSound, IsBlockPageSound, IsSoundIndex, IsUniqueSound}
use Rattle.mdc_sound.specs.SmallDatabase.{def_t, row_null, row_ten, row_without}
use Rattle.mdc_sound.specs.SoundDatabase.{AreKeysSound}
use Rattle.mdc_sound.specs.TableRows.{PlacedRow, rows_in_block, rows_in_table}
use Rattle.sound_instances.proofs.InstancesLemmas.{each_pair, row_page_is}
use Rattle.tight_instances.specs.FullFile.{four_extents, full_cells, full_pages, full_rows, full_table, full_view}

-- ---- where the rows lie

abbrev pub placed_ten : PlacedRow
placed_ten = record { rid = record { block = 2; slot = 0 }; row = row_ten }

abbrev pub placed_without : PlacedRow
placed_without = record { rid = record { block = 2; slot = 1 }; row = row_without }

abbrev pub placed_null : PlacedRow
placed_null = record { rid = record { block = 3; slot = 0 }; row = row_null }

-- the rows of T, block by block
abbrev pub placed_rows : List PlacedRow
placed_rows = placed_ten ∷ placed_without ∷ placed_null ∷ []

pub rows_in_2 : rows_in_block four_extents full_pages def_t 2 ≡ placed_ten ∷ placed_without ∷ []
unfolding zero_page row_in column_value
rows_in_2 = refl

pub rows_in_3 : rows_in_block four_extents full_pages def_t 3 ≡ placed_null ∷ []
unfolding zero_page row_in column_value
rows_in_3 = refl

pub rows_are : rows_in_table four_extents full_pages def_t full_table.map ≡ placed_rows
unfolding zero_page row_in column_value
rows_are = refl

-- ---- rule 7

page_22 : IsBlockPageSound four_extents full_pages def_t 2 0
unfolding zero_page row_page_head row_in row_bytes column_value column_bytes
page_22 = row_page_is def_t.columns (page_at full_pages 22) refl refl refl refl

page_23 : IsBlockPageSound four_extents full_pages def_t 2 1
unfolding zero_page row_page_head row_in row_bytes column_value column_bytes
page_23 = row_page_is def_t.columns (page_at full_pages 23) refl refl refl refl

page_24 : IsBlockPageSound four_extents full_pages def_t 3 0
unfolding zero_page row_page_head row_in row_bytes column_value column_bytes
page_24 = row_page_is def_t.columns (page_at full_pages 24) refl refl refl refl

page_25 : IsBlockPageSound four_extents full_pages def_t 3 1
unfolding zero_page row_page_head row_in row_bytes column_value column_bytes
page_25 = row_page_is def_t.columns (page_at full_pages 25) refl refl refl refl

-- two pages, each of its form
two_pages : (block : ℕ) → IsBlockPageSound four_extents full_pages def_t block 0 → IsBlockPageSound four_extents full_pages def_t block 1
    → (j : ℕ) → j < 2 → IsBlockPageSound four_extents full_pages def_t block j
two_pages block first second zero low = first
two_pages block first second (suc zero) low = second
two_pages block first second (suc (suc j)) low = absurd (omega (arith, low))

abbrev Fits : List PlacedRow → Type 0
Fits rows = AllByRecursion (λ (placed : PlacedRow). RowFits def_t placed.row) rows

block_2 : AreBlockRowsSound four_extents full_pages def_t 2
block_2 = record {
  forms = two_pages 2 page_22 page_23;
  rows = subst Fits (sym rows_in_2) (record { values = refl; generated = (tt, (tt, tt)) }, (record { values = refl; generated = (tt, (tt, tt)) }, tt));
}

block_3 : AreBlockRowsSound four_extents full_pages def_t 3
block_3 = record { forms = two_pages 3 page_24 page_25; rows = subst Fits (sym rows_in_3) (record { values = refl; generated = (tt, (tt, tt)) }, tt) }

pub row_pages_are : AreRowPagesSound four_extents full_pages full_view
row_pages_are = ((block_2, (block_3, tt)), tt)

-- ---- rules 8 and 9

pub used_counts_are : AreUsedCountsSound four_extents full_pages full_view
used_counts_are = (
  (
    record { some_row = λ used. omega arith; counted = λ used. sym (ap length rows_in_2) },
    (record { some_row = λ used. omega arith; counted = λ used. sym (ap length rows_in_3) }, tt),
  ),
  tt,
)

pub idle_counts_are : AreIdleCountsSound full_view
idle_counts_are = (((λ idle. absurd (idle refl)), ((λ idle. absurd (idle refl)), tt)), tt)

-- two rows of one cell
abbrev IsWith : PlacedRow → PlacedRow → Type 0
IsWith a b = AreOfOneCell def_t a.row.values b.row.values

pub cells_are : AreCellsSound four_extents full_pages full_view
cells_are = (
  (
    subst (AllPairs IsWith) (sym rows_in_2) (each_pair IsWith (placed_ten ∷ placed_without ∷ []) ((refl, tt), (tt, tt))),
    (subst (AllPairs IsWith) (sym rows_in_3) (each_pair IsWith (placed_null ∷ []) (tt, tt)), tt),
  ),
  tt,
)

-- ---- rule 10

-- the parts of both block indexes
abbrev by_a : List KeyPart
by_a = record { column = 0; descending = false } ∷ []

cells_of_t : IsBlockIndexSound def_t placed_rows by_a (Leaf 19 full_cells Nil)
cells_of_t = record { has = ((0, omega arith, refl), ((0, omega arith, refl), ((1, omega arith, refl), tt))); only = ((0, omega arith, refl), ((2, omega arith, refl), tt)) }

dim_of_t : IsBlockIndexSound def_t placed_rows by_a (Leaf 20 full_cells Nil)
dim_of_t = record { has = cells_of_t.has; only = cells_of_t.only }

pub block_indexes_are : AreBlockIndexesSound four_extents full_pages full_view
block_indexes_are = (
  record {
    composite = subst (λ rows. IsBlockIndexSound def_t rows by_a (Leaf 19 full_cells Nil)) (sym rows_are) cells_of_t;
    dims = (subst (λ rows. IsBlockIndexSound def_t rows by_a (Leaf 20 full_cells Nil)) (sym rows_are) dim_of_t, tt);
  },
  tt,
)

-- ---- rules 11 and 12

-- the UNIQUE index on B
abbrev index_i : IndexDef
index_i = record { name = record { 0 = 73 ∷ [] }; unique = true; parts = record { column = 1; descending = false } ∷ []; root = 21 }

rows_by_b : IsSoundIndex def_t placed_rows [] index_i (Leaf 21 full_rows Nil)
rows_by_b = record {
  has = ((1, omega arith, refl), ((2, omega arith, refl), ((0, omega arith, refl), tt)));
  only = (inl (2, omega arith, refl), (inl (0, omega arith, refl), (inl (1, omega arith, refl), tt)));
}

pub record_indexes_are : AreSoundIndexes four_extents full_pages full_view
record_indexes_are = ((subst (λ rows. IsSoundIndex def_t rows [] index_i (Leaf 21 full_rows Nil)) (sym rows_are) rows_by_b, tt), tt)

numbers_are : AreRowNumbersSound def_t placed_rows
numbers_are = record {
  below_next = (omega arith, (omega arith, (omega arith, tt)));
  differ = each_pair (λ (a b : PlacedRow). a.row.number ≢ b.row.number) placed_rows (((λ e. omega (arith, e)), ((λ e. omega (arith, e)), tt)), (((λ e. omega (arith, e)), tt), (tt, tt)));
}

-- the keys of two rows differ
abbrev pub HaveOtherKeys : Row → Row → Type 0
HaveOtherKeys a b = AreSameAtParts index_i.parts a.values b.values → ⊥

pub ten_without : HaveOtherKeys row_ten row_without
ten_without same = let e = same.0 in absurd (cc)

pub ten_null : HaveOtherKeys row_ten row_null
ten_null same = let e : Int (pos 10) ≡ Int (pos 7) = same.0 in let n : ◌≡◌ {A = ℕ} 10 7 = cc in absurd (omega (arith, n))

without_null : HaveOtherKeys row_without row_null
without_null same = let e = same.0 in absurd (cc)

pub null_without : HaveOtherKeys row_null row_without
null_without same = let e = same.0 in absurd (cc)

keys_of_t : IsUniqueSound placed_rows index_i
keys_of_t unique = each_pair (λ (a b : PlacedRow). HaveOtherKeys a.row b.row) placed_rows ((ten_without, (ten_null, tt)), ((without_null, tt), (tt, tt)))

pub keys_are : AreKeysSound four_extents full_pages full_view
keys_are = record {
  numbers = (subst (AreRowNumbersSound def_t) (sym rows_are) numbers_are, tt);
  unique = ((subst (λ rows. IsUniqueSound rows index_i) (sym rows_are) keys_of_t, tt), tt);
}
