-- A table at which calls only looked: what is made of it afterwards is made of it as it was.
use Rattle.std.proofs.Common.{◌≡◌, ◌≤◌, ◌∙◌, ℕ, List, length, ap, arith}
use Rattle.mdc_ast.specs.declared.definition.TableDef.{TableDef}
use Rattle.store_api.specs.declared.pages.Pages.{Ghosts}
use Rattle.store_api.specs.declared.shape.Shape.{Shape}
use Rattle.extent_map.specs.declared.kind.Kind.{Kind}
use Rattle.extent_map.specs.declared.space_notes.SpaceNotes.{SpaceNotes}
use Rattle.extent_map.proofs.GrowthLemmas.{growth_same}
use Rattle.table_trees.specs.ToldPages.{PageList}
use Rattle.mdc_sound.specs.Placing.{table_spots}
use Rattle.mdc_sound.specs.StandingTable.{ChangesTable, StandsTable, TableForests, spots_of}
use Rattle.mdc_sound.proofs.StandingTableLemmas.{stands_same}
use Rattle.row_entries.specs.RowEntries.{IsTreeOrMapPageOfTable}
use Rattle.cell_change.proofs.TableStepsLemmas.{changes_table_then, same_table}

module _ {S : Type 0} (g : Ghosts S) (shape : Shape) (old looked : S) (def : TableDef) (told : (g.state looked).is_told ≡ (g.state old).is_told) (work : (g.state looked).work ≡ (g.state old).work) where
  -- it stands still
  pub stands_looked : (owners : List Kind) (forests : TableForests) → StandsTable g shape old def owners forests → StandsTable g shape looked def owners forests
  stands_looked owners forests st = stands_same shape old looked def owners forests told work st

  -- and is the same table
  pub looked_table : {noted : SpaceNotes} (owners : List Kind) (forests : TableForests) → StandsTable g shape old def owners forests → ChangesTable g shape noted noted old looked def owners forests owners forests
  looked_table {noted} owners forests st =
      let same : ChangesTable g shape noted noted old old def owners forests owners forests = same_table g shape old def owners forests st in
      record {
        stands = stands_looked owners forests st;
        others_blocks = same.others_blocks;
        no_others_blocks = same.no_others_blocks;
        others_pages = same.others_pages;
        used_pages = same.used_pages;
        pages = same.pages;
        grows = record { stated = growth_same told work; whole = λ is. record { extents = is.extents; within = is.within; count = ap length work ∙ is.count } };
        notes = λ right. right;
      }

  -- its pages are those that it had
  pub page_looked : (p : ℕ) → IsTreeOrMapPageOfTable g shape looked def p → IsTreeOrMapPageOfTable g shape old def p
  page_looked p mine owners forests st = mine owners forests (stands_looked owners forests st)

  pub spots_looked : (owners : List Kind) (forests : TableForests) → spots_of g shape looked def owners forests ≡ spots_of g shape old def owners forests
  spots_looked owners forests = ap (λ (pages : PageList). table_spots shape pages def owners forests.map) work

  -- what is made of it
  pub changes_looked : {before noted : SpaceNotes} (new : S) (owners owners_now : List Kind) (forests forests_now : TableForests) → StandsTable g shape old def owners forests → length (g.state looked).work ≤ length (g.state new).work
      → ChangesTable g shape before noted looked new def owners forests owners_now forests_now → ChangesTable g shape before noted old new def owners forests owners_now forests_now
  changes_looked new owners owners_now forests forests_now st longer second =
      changes_table_then g shape old looked def owners forests owners forests (looked_table owners forests st) new owners_now forests_now second (λ e none. none) (omega (arith, ap length work)) longer
