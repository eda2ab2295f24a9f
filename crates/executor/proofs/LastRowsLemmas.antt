-- Which pages of a block aren't behind its last row.
use Rattle.std.proofs.Common.{◌≡◌, ◌<◌, ◌≤◌, ◌+◌, ◌*◌, ◌/◌, ◌∙◌, ℕ, List, ◌++◌, Option, ap, arith, drop, inl, inr, length, length-append, subst, sym, take}
use Rattle.std.specs.Prelude.{Contains, IsTrue}
use Rattle.std.proofs.Math.Nat.{div-lt_iff_lt-mul}
use Rattle.std.proofs.lemmas.Bool.{cases_lt}
use Rattle.std.proofs.lemmas.List.{length-take, take-append-drop}
use Rattle.std.proofs.lemmas.List.Elements.{Contains-append_cases}
use Rattle.std.proofs.lemmas.Nat.{div-add-mod'}
use Rattle.mdc_ast.specs.declared.definition.TableDef.{TableDef}
use Rattle.mdc_ast.specs.declared.row.Row.{Row}
use Rattle.store_api.specs.declared.pages.Pages.{Ghosts}
use Rattle.store_api.specs.declared.shape.Shape.{Shape}
use Rattle.row_page.specs.RowPage.{slot_count}
use Rattle.block_rows.specs.CountedRows.{IsCountedPage, rows_on_pages}
use Rattle.block_rows.specs.ListedSlots.{IsPageOfSlots}
use Rattle.block_rows.proofs.HeldRowsLemmas.{only_page_of_block}
use Rattle.block_rows.proofs.ListedSlotsLemmas.{HasRowInSlot}
use Rattle.block_rows.proofs.PlacedRowsLemmas.{rows_from_slot-append}
use Rattle.table_trees.specs.ToldPages.{PageList, told_pages}
use Rattle.mdc_sound.specs.StandingTable.{IsPageOfBlock, pages_of}
use Rattle.mdc_sound.specs.TableRows.{PlacedRow, block_slots, rows_from_slot, rows_in_block}
use Rattle.row_entries.proofs.PlacesApartLemmas.{in_slot}
use Rattle.executor.specs.LastRows.{IsPageToLastRow}

-- fewer rows than all lie before a slot that has one
fewer_before : (block n slot : ℕ) (xs : List (Option Row)) → n ≤ slot → HasRowInSlot (rows_from_slot block 0 xs) slot → length (rows_from_slot block 0 (take n xs)) < length (rows_from_slot block 0 xs)
fewer_before block n slot xs low (placed, there, at) = elim (Contains-append_cases front back placed (subst (λ rows. Contains rows placed) both there)) [
  | inl before ↦ let is = in_slot block 0 (take n xs) placed before in absurd (omega (arith, is.within, is.slot_is, at, low, length-take n xs))
  | inr behind ↦ omega (arith, behind.1, ap length both, length-append front back)
]
  where
    front : List PlacedRow
    front = rows_from_slot block 0 (take n xs)

    back : List PlacedRow
    back = rows_from_slot block (0 + length (take n xs)) (drop n xs)

    both : rows_from_slot block 0 xs ≡ front ++ back
    both = ap (rows_from_slot block 0) (sym (take-append-drop n xs)) ∙ rows_from_slot-append block 0 (take n xs) (drop n xs)

-- a page of some slots of a block is one of the block
page_of_slots : (shape : Shape) (def : TableDef) (block : ℕ) (slots : List ℕ) (p : ℕ) → block < shape.extents → IsPageOfSlots shape def block slots p → IsPageOfBlock shape block p
page_of_slots shape def block slots p low is = only_page_of_block shape block p _ low (within _ is.below) is.page
  where
    zero_is : (c : ℕ) → c ≤ 0 → c ≡ 0
    zero_is c low = omega (arith, low)

    within : (c : ℕ) → is.slot < shape.extent_pages * c → is.slot / c < shape.extent_pages
    within c below = elim (cases_lt 0 c) [
      | inl some ↦ (div-lt_iff_lt-mul some).1 below
      | inr none ↦ absurd (omega (arith, subst (λ n. is.slot < shape.extent_pages * n) (zero_is c none) below))
    ]

module _ {S : Type 0} {g : Ghosts S} (shape : Shape) (s : S) (def : TableDef) (block : ℕ) where
  -- nor is one of slots that have a row each
  pub page_of_filled : (slots : List ℕ) (p : ℕ) → block < shape.extents → ((slot : ℕ) → Contains slots slot → HasRowInSlot (rows_in_block shape (pages_of g s) def block) slot)
      → IsPageOfSlots shape def block slots p → IsPageToLastRow g shape s def block p
  page_of_filled slots p low have is = record {
    of_block = page_of_slots shape def block slots p low is;
    few = λ told j at. fewer_before block (j * slot_count def.columns) is.slot (block_slots shape (pages_of g s) def block) (below j (omega (arith, at, is.page))) (have is.slot is.there);
  }
    where
      below : (j : ℕ) → j ≡ is.slot / slot_count def.columns → j * slot_count def.columns ≤ is.slot
      below j page = let parts = div-add-mod' is.slot (slot_count def.columns) in omega (arith, parts, ap (λ n. n * slot_count def.columns) page)

  -- nor one that is read until as many rows were met as there are
  pub page_of_counted : (rows p : ℕ) → length (rows_in_block shape (pages_of g s) def block) ≡ rows → IsCountedPage g shape s def block rows p → IsPageToLastRow g shape s def block p
  page_of_counted rows p as_many page = record { of_block = page.of_block; few = λ told j at. omega (arith, as_many, page.few told j at) }

-- ---- a page as seen from before a call that changed none

module _ {S : Type 0} {g : Ghosts S} (shape : Shape) (old mid : S) (def : TableDef) (told : (g.state mid).is_told ≡ (g.state old).is_told) (same : (g.state mid).work ≡ (g.state old).work) (block p : ℕ) where
  pub counted_before : (rows : ℕ) → IsCountedPage g shape mid def block rows p → IsCountedPage g shape old def block rows p
  counted_before rows page = record {
    of_block = page.of_block;
    few = λ known j at. subst (λ (pages : PageList). length (rows_on_pages shape pages def block j) < rows) same (page.few (told ∙ known) j at);
  }

  pub last_before : IsPageToLastRow g shape mid def block p → IsPageToLastRow g shape old def block p
  last_before page =
      counted_before (length (rows_in_block shape (pages_of g old) def block))
      (subst (λ (pages : PageList). IsCountedPage g shape mid def block (length (rows_in_block shape pages def block)) p) same page)

-- ---- a page as the list of the pages tells it

pub last_told : {S : Type 0} (g : Ghosts S) (s : S) → IsTrue (g.state s).is_told → (shape : Shape) (def : TableDef) (block p : ℕ) → IsPageToLastRow g shape s def block p → IsPageToLastRow told_pages shape (pages_of g s) def block p
last_told g s told shape def block p page = record { of_block = page.of_block; few = λ known j at. page.few told j at }
