-- The worked database keeps rules 7 to 10: its row pages, counts, cells and block indexes.
use Rattle.std.specs.Prelude.{◌≡◌, ◌<◌, ℕ, zero, suc, List, [], ◌∷◌, false, length, AllPairs, map}
use Rattle.std.specs.List.{AllByRecursion}
use Rattle.std.proofs.Common.{refl, arith, sym, ap, subst}
use Rattle.mdc_ast.specs.FittingRows.{RowFits}
use Rattle.mdc_ast.specs.declared.definition.KeyPart.{KeyPart}
use Rattle.store_api.specs.StoreState.{page_at, zero_page}
use Rattle.row_page.specs.Row.{column_bytes, column_value, row_bytes, row_in}
use Rattle.row_page.specs.RowPage.{row_page_head}
use Rattle.entry_tree.specs.Forest.Forest.{Leaf, Nil}
use Rattle.table_trees.specs.RowCells.{AreOfOneCell}
use Rattle.mdc_sound.specs.BlockRules.{AreBlockIndexesSound, AreBlockRowsSound, AreCellsSound, AreIdleCountsSound, AreRowPagesSound, AreTableBlockIndexesSound, AreUsedCountsSound, IsBlockIndexSound, IsBlockPageSound}
use Rattle.mdc_sound.specs.EmptyDatabase.{few_extents}
use Rattle.mdc_sound.specs.TableRows.{PlacedRow, rows_in_block, rows_in_table}
use Rattle.sound_instances.proofs.InstancesLemmas.{each_pair, row_page_is}
use Rattle.sound_instances.specs.WorkedDatabase.{view_news, view_sales, worked_view}
use Rattle.sound_instances.specs.WorkedEntries.{sales_cells, sales_cities, sales_months}
use Rattle.sound_instances.specs.WorkedPages.{worked_pages}
use Rattle.sound_instances.specs.WorkedTables.{def_sales, row_eight, row_four, row_one, row_seven, row_two}

-- ---- rule 7

page_20 : IsBlockPageSound few_extents worked_pages def_sales 1 0
unfolding zero_page row_page_head row_in row_bytes column_value column_bytes
page_20 = row_page_is def_sales.columns (page_at worked_pages 20) refl refl refl refl

page_21 : IsBlockPageSound few_extents worked_pages def_sales 1 1
unfolding zero_page row_page_head row_in row_bytes column_value column_bytes
page_21 = row_page_is def_sales.columns (page_at worked_pages 21) refl refl refl refl

page_34 : IsBlockPageSound few_extents worked_pages def_sales 8 0
unfolding zero_page row_page_head row_in row_bytes column_value column_bytes
page_34 = row_page_is def_sales.columns (page_at worked_pages 34) refl refl refl refl

page_35 : IsBlockPageSound few_extents worked_pages def_sales 8 1
unfolding zero_page row_page_head row_in row_bytes column_value column_bytes
page_35 = row_page_is def_sales.columns (page_at worked_pages 35) refl refl refl refl

page_38 : IsBlockPageSound few_extents worked_pages def_sales 10 0
unfolding zero_page row_page_head row_in row_bytes column_value column_bytes
page_38 = row_page_is def_sales.columns (page_at worked_pages 38) refl refl refl refl

page_39 : IsBlockPageSound few_extents worked_pages def_sales 10 1
unfolding zero_page row_page_head row_in row_bytes column_value column_bytes
page_39 = row_page_is def_sales.columns (page_at worked_pages 39) refl refl refl refl

-- where the rows lie
abbrev pub placed_seven : PlacedRow
placed_seven = record { rid = record { block = 1; slot = 13 }; row = row_seven }

abbrev pub placed_four : PlacedRow
placed_four = record { rid = record { block = 1; slot = 16 }; row = row_four }

abbrev pub placed_one : PlacedRow
placed_one = record { rid = record { block = 8; slot = 2 }; row = row_one }

abbrev pub placed_eight : PlacedRow
placed_eight = record { rid = record { block = 10; slot = 0 }; row = row_eight }

abbrev pub placed_two : PlacedRow
placed_two = record { rid = record { block = 10; slot = 12 }; row = row_two }

-- the rows of SALES, block by block
abbrev pub sales_rows : List PlacedRow
sales_rows = placed_seven ∷ placed_four ∷ placed_one ∷ placed_eight ∷ placed_two ∷ []

rows_in_1 : rows_in_block few_extents worked_pages def_sales 1 ≡ placed_seven ∷ placed_four ∷ []
unfolding zero_page row_in column_value
rows_in_1 = refl

rows_in_8 : rows_in_block few_extents worked_pages def_sales 8 ≡ placed_one ∷ []
unfolding zero_page row_in column_value
rows_in_8 = refl

rows_in_10 : rows_in_block few_extents worked_pages def_sales 10 ≡ placed_eight ∷ placed_two ∷ []
unfolding zero_page row_in column_value
rows_in_10 = refl

pub rows_are : rows_in_table few_extents worked_pages def_sales view_sales.map ≡ sales_rows
unfolding zero_page row_in column_value
rows_are = refl

pub numbers_are : map (λ (placed : PlacedRow). placed.row.number) (rows_in_table few_extents worked_pages def_sales view_sales.map) ≡ 7 ∷ 4 ∷ 1 ∷ 8 ∷ 2 ∷ []
numbers_are = ap (map (λ (placed : PlacedRow). placed.row.number)) rows_are

-- two pages, each of its form
two_pages : (block : ℕ) → IsBlockPageSound few_extents worked_pages def_sales block 0 → IsBlockPageSound few_extents worked_pages def_sales block 1
    → (j : ℕ) → j < 2 → IsBlockPageSound few_extents worked_pages def_sales block j
two_pages block first second zero low = first
two_pages block first second (suc zero) low = second
two_pages block first second (suc (suc j)) low = absurd (omega (arith, low))

pub eight_fits : RowFits def_sales row_eight
eight_fits = record { values = refl; generated = (tt, (refl, (tt, (tt, (refl, (tt, (refl, (refl, (refl, tt))))))))) }

pub seven_fits : RowFits def_sales row_seven
seven_fits = record { values = refl; generated = (tt, (refl, (tt, (tt, (refl, (tt, (refl, (refl, (refl, tt))))))))) }

pub four_fits : RowFits def_sales row_four
four_fits = record { values = refl; generated = (tt, (refl, (tt, (tt, (refl, (tt, (refl, (refl, (refl, tt))))))))) }

pub one_fits : RowFits def_sales row_one
one_fits = record { values = refl; generated = (tt, (refl, (tt, (tt, (refl, (tt, (refl, (refl, (refl, tt))))))))) }

pub two_fits : RowFits def_sales row_two
two_fits = record { values = refl; generated = (tt, (refl, (tt, (tt, (refl, (tt, (refl, (refl, (refl, tt))))))))) }

abbrev Fits : List PlacedRow → Type 0
Fits rows = AllByRecursion (λ (placed : PlacedRow). RowFits def_sales placed.row) rows

block_1 : AreBlockRowsSound few_extents worked_pages def_sales 1
block_1 = record { forms = two_pages 1 page_20 page_21; rows = subst Fits (sym rows_in_1) (seven_fits, (four_fits, tt)) }

block_8 : AreBlockRowsSound few_extents worked_pages def_sales 8
block_8 = record { forms = two_pages 8 page_34 page_35; rows = subst Fits (sym rows_in_8) (one_fits, tt) }

block_10 : AreBlockRowsSound few_extents worked_pages def_sales 10
block_10 = record { forms = two_pages 10 page_38 page_39; rows = subst Fits (sym rows_in_10) (eight_fits, (two_fits, tt)) }

pub row_pages_are : AreRowPagesSound few_extents worked_pages worked_view
row_pages_are = ((block_1, (block_8, (block_10, tt))), (tt, tt))

-- ---- rule 8

pub used_counts_are : AreUsedCountsSound few_extents worked_pages worked_view
used_counts_are = (
  (
    record { some_row = λ used. omega arith; counted = λ used. sym (ap length rows_in_1) },
    (
      record { some_row = λ used. absurd (omega (arith, used)); counted = λ used. absurd (omega (arith, used)) },
      (
        record { some_row = λ used. absurd (omega (arith, used)); counted = λ used. absurd (omega (arith, used)) },
        (
          record { some_row = λ used. omega arith; counted = λ used. sym (ap length rows_in_8) },
          (record { some_row = λ used. omega arith; counted = λ used. sym (ap length rows_in_10) }, tt),
        ),
      ),
    ),
  ),
  (tt, tt),
)

pub idle_counts_are : AreIdleCountsSound worked_view
idle_counts_are = (((λ idle. absurd (idle refl)), ((λ idle. refl), ((λ idle. refl), ((λ idle. absurd (idle refl)), ((λ idle. absurd (idle refl)), tt))))), (tt, tt))

-- ---- rule 9

-- two rows of one cell
abbrev IsWith : PlacedRow → PlacedRow → Type 0
IsWith a b = AreOfOneCell def_sales a.row.values b.row.values

pub cells_are : AreCellsSound few_extents worked_pages worked_view
cells_are = (
  (
    subst (AllPairs IsWith) (sym rows_in_1) (each_pair IsWith (placed_seven ∷ placed_four ∷ []) ((refl, tt), (tt, tt))),
    (
      subst (AllPairs IsWith) (sym rows_in_8) (each_pair IsWith (placed_one ∷ []) (tt, tt)),
      (subst (AllPairs IsWith) (sym rows_in_10) (each_pair IsWith (placed_eight ∷ placed_two ∷ []) ((refl, tt), (tt, tt))), tt),
    ),
  ),
  (tt, tt),
)

-- ---- rule 10

-- the parts of the index of all dimensions, and of each
abbrev by_city : List KeyPart
by_city = record { column = 2; descending = false } ∷ []

abbrev by_month : List KeyPart
by_month = record { column = 1; descending = false } ∷ []

abbrev by_cell : List KeyPart
by_cell = record { column = 2; descending = false } ∷ by_month

cells_of_sales : IsBlockIndexSound def_sales sales_rows by_cell (Leaf 27 sales_cells Nil)
cells_of_sales = record {
  has = ((0, omega arith, refl), ((0, omega arith, refl), ((1, omega arith, refl), ((2, omega arith, refl), ((2, omega arith, refl), tt)))));
  only = ((0, omega arith, refl), ((2, omega arith, refl), ((3, omega arith, refl), tt)));
}

cities_of_sales : IsBlockIndexSound def_sales sales_rows by_city (Leaf 23 sales_cities Nil)
cities_of_sales = record {
  has = ((0, omega arith, refl), ((0, omega arith, refl), ((1, omega arith, refl), ((2, omega arith, refl), ((2, omega arith, refl), tt)))));
  only = ((0, omega arith, refl), ((2, omega arith, refl), ((3, omega arith, refl), tt)));
}

months_of_sales : IsBlockIndexSound def_sales sales_rows by_month (Leaf 19 sales_months Nil)
months_of_sales = record {
  has = ((0, omega arith, refl), ((0, omega arith, refl), ((1, omega arith, refl), ((2, omega arith, refl), ((2, omega arith, refl), tt)))));
  only = ((0, omega arith, refl), ((2, omega arith, refl), ((3, omega arith, refl), tt)));
}

indexes_of_sales : AreTableBlockIndexesSound few_extents worked_pages view_sales
indexes_of_sales = record {
  composite = subst (λ rows. IsBlockIndexSound def_sales rows by_cell (Leaf 27 sales_cells Nil)) (sym rows_are) cells_of_sales;
  dims = (
    subst (λ rows. IsBlockIndexSound def_sales rows by_city (Leaf 23 sales_cities Nil)) (sym rows_are) cities_of_sales,
    (subst (λ rows. IsBlockIndexSound def_sales rows by_month (Leaf 19 sales_months Nil)) (sym rows_are) months_of_sales, tt),
  );
}

indexes_of_news : AreTableBlockIndexesSound few_extents worked_pages view_news
indexes_of_news = record { composite = record { has = tt; only = tt }; dims = (record { has = tt; only = tt }, tt) }

pub block_indexes_are : AreBlockIndexesSound few_extents worked_pages worked_view
block_indexes_are = (indexes_of_sales, (indexes_of_news, tt))
