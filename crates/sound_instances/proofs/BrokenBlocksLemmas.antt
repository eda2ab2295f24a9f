-- One byte of the worked pages breaks each of rules 7 to 9.
use Rattle.std.specs.Prelude.{◌≡◌, ℕ, pos, List, [], ◌∷◌, length, take, AllPairs, Contains, codes, slice_index}
use Rattle.std.proofs.Common.{refl, arith, sym, ap, subst, ◌∙◌}
use Rattle.mdc_words.specs.ByteOrder.{Entry, below}
use Rattle.mdc_values.specs.declared.value.Value.{Value}
use Rattle.mdc_values.specs.declared.value.Value.TheVariants.{Int, Text, Day}
use Rattle.mdc_ast.specs.FittingRows.{RowFits}
use Rattle.store_api.specs.StoreState.{page_at, zero_page}
use Rattle.node_page.specs.Node.{node_of}
use Rattle.row_page.specs.Row.{column_value, row_in}
use Rattle.row_page.specs.RowPage.{count_rows, row_page_head, rows_of}
use Rattle.entry_tree.specs.Forest.Forest.{Leaf, Nil}
use Rattle.block_map.specs.MapLines.{MapLine, map_lines}
use Rattle.table_trees.specs.RowCells.{AreOfOneCell}
use Rattle.table_trees.specs.ToldPages.{HasTree, PageList}
use Rattle.mdc_sound.specs.BlockLines.{HasUsedLine, mapped_line}
use Rattle.mdc_sound.specs.BlockRules.{IsBlockPageSound, IsIdleCountSound, IsOfOneCell, IsUsedCountSound}
use Rattle.mdc_sound.specs.Breaks.{BreaksRule}
use Rattle.mdc_sound.specs.EmptyDatabase.{few_extents}
use Rattle.mdc_sound.specs.TableRows.{PlacedRow, rows_in_block}
use Rattle.sound_instances.proofs.InstancesLemmas.{leaf_is_held}
use Rattle.sound_instances.proofs.WorkedRowsLemmas.{placed_four, placed_seven}
use Rattle.sound_instances.specs.ChangedPages.{with_byte}
use Rattle.sound_instances.specs.WorkedTables.{def_sales}
use Rattle.sound_instances.proofs.ShownSalesLemmas.{old_map, shows, still_defined, still_mapped}

-- ---- rule 7: half of 9 is 5, and a row page states a row more

-- the pages with 5 for the HALF of row 7
abbrev half_pages : PageList
half_pages = with_byte 21 55 5

-- row 7 with this HALF
abbrev placed_half : PlacedRow
placed_half = record {
  rid = record { block = 1; slot = 13 };
  row = record {
    number = 7;
    values =
        Day 20230709 ∷ Int (pos 7) ∷ Text (codes "OS") ∷ Int (pos 9) ∷ Int (pos 5) ∷ Text (codes " X")
        ∷ Int (pos 2023) ∷ Int (pos 202307) ∷ Int (pos 8) ∷ [];
  };
}

rows_with_half : rows_in_block few_extents half_pages def_sales 1 ≡ placed_half ∷ placed_four ∷ []
unfolding zero_page row_in column_value
rows_with_half = refl

mapped_by_21 : (byte at : ℕ) → HasTree (with_byte 21 at byte) (record { root = 18; width = 7 }) old_map
unfolding node_of zero_page
mapped_by_21 byte at = still_mapped (with_byte 21 at byte) refl

five_is_no_half : RowFits def_sales placed_half.row → ⊥
five_is_no_half fits =
    let made : Int (pos 5) ≡ Int (pos 4) = fits.generated.1.1.1.1.0 in
    let wrong : ◌≡◌ {A = ℕ} 5 4 = cc in omega (arith, wrong)

pub breaks_row : BreaksRule few_extents (with_byte 21 55 5) 7 21
breaks_row = BreaksRule.row
    2
    def_sales
    (mapped_line old_map 1)
    placed_half
    (shows half_pages def_sales old_map (λ map_tree. HasUsedLine map_tree (mapped_line old_map 1)) (still_defined half_pages refl) (mapped_by_21 5 55) ((0, omega arith, refl), refl))
    (subst (λ rows. Contains rows placed_half) (sym rows_with_half) (0, omega arith, refl))
    five_is_no_half

-- the pages with three rows stated for the two of block 1
abbrev stated_pages : PageList
stated_pages = with_byte 21 5 3

two_rows : count_rows (rows_of def_sales.columns (page_at stated_pages 21)) ≡ 2
unfolding zero_page
two_rows = refl

not_three : IsBlockPageSound few_extents stated_pages def_sales 1 1 → ⊥
unfolding row_page_head
not_three sound =
    let head : take 16 (page_at stated_pages 21) ≡ row_page_head 13 2 = subst (λ rows. take 16 (page_at stated_pages 21) ≡ row_page_head 13 rows) two_rows sound.head in
    let wrong : 3 ≡ 2 = ap (λ page. slice_index page 5) head in omega (arith, wrong)

pub breaks_row_page : BreaksRule few_extents (with_byte 21 5 3) 7 21
breaks_row_page = BreaksRule.row_page
    2
    def_sales
    (mapped_line old_map 1)
    1
    (shows stated_pages def_sales old_map (λ map_tree. HasUsedLine map_tree (mapped_line old_map 1)) (still_defined stated_pages refl) (mapped_by_21 3 5) ((0, omega arith, refl), refl))
    (omega arith)
    not_three

-- ---- rule 8: a Pending block with a row, and a Used block with a row more

-- the pages with a row counted for block 6
abbrev count_pages : PageList
count_pages = with_byte 18 36 1

-- block 6 with a row
abbrev lines_with_row : List Entry
lines_with_row =
    (0 ∷ 0 ∷ 0 ∷ 1 ∷ 1 ∷ 0 ∷ 2 ∷ [])
    ∷ (0 ∷ 0 ∷ 0 ∷ 5 ∷ 0 ∷ 0 ∷ 0 ∷ [])
    ∷ (0 ∷ 0 ∷ 0 ∷ 6 ∷ 2 ∷ 0 ∷ 1 ∷ [])
    ∷ (0 ∷ 0 ∷ 0 ∷ 8 ∷ 1 ∷ 0 ∷ 1 ∷ [])
    ∷ (0 ∷ 0 ∷ 0 ∷ 10 ∷ 1 ∷ 0 ∷ 2 ∷ []) ∷ []

mapped_with_row : HasTree count_pages (record { root = 18; width = 7 }) (Leaf 18 lines_with_row Nil)
unfolding node_of zero_page below
mapped_with_row = leaf_is_held count_pages (record { root = 18; width = 7 }) lines_with_row refl (tt, tt, (refl, tt, (refl, tt, (refl, tt, (refl, tt, tt)))))

-- what the block map says of it
abbrev line_with_row : MapLine
line_with_row = record { block = 6; state = 2; rows = 1 }

not_idle : IsIdleCountSound line_with_row → ⊥
not_idle idle = let none = idle (λ e. omega (arith, e)) in omega (arith, none)

pub breaks_idle_count : BreaksRule few_extents (with_byte 18 36 1) 8 30
breaks_idle_count = BreaksRule.idle_count
    2
    def_sales
    line_with_row
    (shows count_pages def_sales (Leaf 18 lines_with_row Nil) (λ map_tree. Contains (map_lines map_tree) line_with_row) (still_defined count_pages refl) mapped_with_row (2, omega arith, refl))
    not_idle

-- the pages with three rows counted for the two of block 1
abbrev three_pages : PageList
three_pages = with_byte 18 22 3

-- block 1 with three rows
abbrev lines_with_three : List Entry
lines_with_three =
    (0 ∷ 0 ∷ 0 ∷ 1 ∷ 1 ∷ 0 ∷ 3 ∷ [])
    ∷ (0 ∷ 0 ∷ 0 ∷ 5 ∷ 0 ∷ 0 ∷ 0 ∷ [])
    ∷ (0 ∷ 0 ∷ 0 ∷ 6 ∷ 2 ∷ 0 ∷ 0 ∷ [])
    ∷ (0 ∷ 0 ∷ 0 ∷ 8 ∷ 1 ∷ 0 ∷ 1 ∷ [])
    ∷ (0 ∷ 0 ∷ 0 ∷ 10 ∷ 1 ∷ 0 ∷ 2 ∷ []) ∷ []

mapped_with_three : HasTree three_pages (record { root = 18; width = 7 }) (Leaf 18 lines_with_three Nil)
unfolding node_of zero_page below
mapped_with_three = leaf_is_held three_pages (record { root = 18; width = 7 }) lines_with_three refl (tt, tt, (refl, tt, (refl, tt, (refl, tt, (refl, tt, tt)))))

rows_of_three : rows_in_block few_extents three_pages def_sales 1 ≡ placed_seven ∷ placed_four ∷ []
unfolding zero_page row_in column_value
rows_of_three = refl

-- what the block map says of it
abbrev line_with_three : MapLine
line_with_three = record { block = 1; state = 1; rows = 3 }

not_counted : IsUsedCountSound few_extents three_pages def_sales line_with_three → ⊥
not_counted sound = let same = sound.counted refl ∙ ap length rows_of_three in omega (arith, same)

pub breaks_used_count : BreaksRule few_extents (with_byte 18 22 3) 8 20
breaks_used_count = BreaksRule.used_count
    2
    def_sales
    line_with_three
    (shows three_pages def_sales (Leaf 18 lines_with_three Nil) (λ map_tree. Contains (map_lines map_tree) line_with_three) (still_defined three_pages refl) mapped_with_three (0, omega arith, refl))
    not_counted

-- ---- rule 9: rows of two months in a block

-- the pages with 8 for the MON of row 7
abbrev month_pages : PageList
month_pages = with_byte 21 35 8

-- row 7 with August for its month
abbrev placed_august : PlacedRow
placed_august = record {
  rid = record { block = 1; slot = 13 };
  row = record {
    number = 7;
    values =
        Day 20230709 ∷ Int (pos 8) ∷ Text (codes "OS") ∷ Int (pos 9) ∷ Int (pos 4) ∷ Text (codes " X")
        ∷ Int (pos 2023) ∷ Int (pos 202307) ∷ Int (pos 8) ∷ [];
  };
}

rows_with_august : rows_in_block few_extents month_pages def_sales 1 ≡ placed_august ∷ placed_four ∷ []
unfolding zero_page row_in column_value
rows_with_august = refl

-- the month in the cell of a row
abbrev month_in : List Value → Value
month_in [] = Int (pos 0)
month_in (city ∷ []) = Int (pos 0)
month_in (city ∷ month ∷ more) = month

two_cells : IsOfOneCell few_extents month_pages def_sales 1 → ⊥
two_cells one =
    let same : Text (codes "OS") ∷ Int (pos 8) ∷ [] ≡ Text (codes "OS") ∷ Int (pos 7) ∷ [] =
    subst (λ rows. AllPairs (λ (a b : PlacedRow). AreOfOneCell def_sales a.row.values b.row.values) rows) rows_with_august one 0 1 placed_four (omega arith) (omega arith) in
    let months : Int (pos 8) ≡ Int (pos 7) = ap month_in same in
    let wrong : ◌≡◌ {A = ℕ} 8 7 = cc in omega (arith, wrong)

pub breaks_cell : BreaksRule few_extents (with_byte 21 35 8) 9 20
breaks_cell = BreaksRule.cell
    2
    def_sales
    (mapped_line old_map 1)
    (shows month_pages def_sales old_map (λ map_tree. HasUsedLine map_tree (mapped_line old_map 1)) (still_defined month_pages refl) (mapped_by_21 8 35) ((0, omega arith, refl), refl))
    two_cells
