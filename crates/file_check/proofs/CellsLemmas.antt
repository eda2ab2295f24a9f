-- Rows that were read, compared with the first.
use Rattle.std.proofs.Common.{◌≡◌, ◌≤◌, ◌<◌, ℕ, List, [], ◌∷◌, ap, sym, ◌∙◌, arith, map, length, get_or}
use Rattle.std.proofs.lemmas.List.{get_or-map, length-map}
use Rattle.mdc_values.specs.declared.value.Value.{Value}
use Rattle.mdc_ast.specs.declared.definition.TableDef.{TableDef}
use Rattle.store_api.specs.Extents.{first_page_of}
use Rattle.store_api.specs.declared.shape.Shape.{Shape}
use Rattle.block_rows.specs.HeldRows.{placed_row}
use Rattle.block_rows.specs.declared.hit.Hit.{Hit}
use Rattle.table_trees.specs.RowCells.{AreOfOneCell, cell_values}
use Rattle.table_trees.specs.ToldPages.{PageList}
use Rattle.mdc_sound.specs.BlockRules.{IsOfOneCell}
use Rattle.mdc_sound.specs.TableRows.{PlacedRow}
use Rattle.file_check.specs.BlocksJudged.{BreaksBlockCell, ShareCell}
use Rattle.file_check.specs.Judging.{HoldsUnbroken, IsLowestBreak}

-- some row, where there are any
some_hit : (rows : List Hit) (i : ℕ) → i < length rows → Hit
some_hit [] i low = absurd (omega (arith, low))
some_hit (row ∷ rows) i low = row

-- all rows are of the cell of the first
pub share_cell : (def : TableDef) (rows : List Hit) (n : ℕ) → length rows ≤ n → ((i : ℕ) → i < n → (d : Hit) → AreOfOneCell def (get_or rows 0 d).row.values (get_or rows i d).row.values)
    → ShareCell def (map placed_row rows)
share_cell def rows n past each i j d less low =
    let cell : PlacedRow → List Value = λ placed. cell_values def placed.row.values in
    let within : j < length rows = omega (arith, low, length-map rows placed_row) in
    let e = some_hit rows j within in
    ap cell (get_or-map placed_row rows i e d (omega (arith, less, within)))
    ∙ (sym (each i (omega (arith, less, within, past)) e) ∙ (each j (omega (arith, within, past)) e ∙ sym (ap cell (get_or-map placed_row rows j e d within))))

-- one isn't
pub other_cell : (def : TableDef) (rows : List Hit) (i : ℕ) (d e : Hit) → 0 < i → i < length rows → (AreOfOneCell def (get_or rows 0 d).row.values (get_or rows i e).row.values → ⊥) → ShareCell def (map placed_row rows) → ⊥
other_cell def rows i d e some low differ share =
    let cell : PlacedRow → List Value = λ placed. cell_values def placed.row.values in
    let other : PlacedRow = placed_row d in
    differ (sym (ap cell (get_or-map placed_row rows 0 d other (omega (arith, some, low))))
    ∙ (share 0 i other some (omega (arith, low, length-map rows placed_row)) ∙ ap cell (get_or-map placed_row rows i e other low)))

-- ---- a block, judged

pub judges_shared : (shape : Shape) (pages : PageList) (def : TableDef) (block : ℕ) → IsOfOneCell shape pages def block → HoldsUnbroken (IsOfOneCell shape pages def block) (BreaksBlockCell shape pages def block)
judges_shared shape pages def block holds = record { holds = holds; unbroken = λ p b. b.two holds }

pub judges_apart : (shape : Shape) (pages : PageList) (def : TableDef) (block p : ℕ) → p ≡ first_page_of shape.extents shape.extent_pages block → (IsOfOneCell shape pages def block → ⊥)
    → IsLowestBreak (BreaksBlockCell shape pages def block) p
judges_apart shape pages def block p at two = record { breaks = record { page = at; two = two }; lowest = λ q b. omega (arith, at, b.page) }
