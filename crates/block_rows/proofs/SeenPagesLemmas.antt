-- The pages of a block that were seen, one after the other.
use Rattle.std.proofs.Common.{◌≡◌, ◌<◌, ◌≤◌, ◌+◌, ◌*◌, ℕ, List, [], ◌++◌, length, take, Option, ap, sym, ◌∙◌, inl, inr, arith, subst}
use Rattle.std.specs.List.{AllByRecursion}
use Rattle.std.proofs.Math.Nat.{mul-le-mul_right}
use Rattle.std.proofs.lemmas.Bool.{cases_eq}
use Rattle.std.proofs.lemmas.List.{take_all}
use Rattle.mdc_ast.specs.declared.definition.ColumnDef.{ColumnDef}
use Rattle.mdc_ast.specs.declared.definition.TableDef.{TableDef}
use Rattle.mdc_ast.specs.declared.predicate.Pred.{Pred}
use Rattle.mdc_ast.specs.declared.row.Cell.{Cell}
use Rattle.mdc_ast.specs.declared.row.Row.{Row}
use Rattle.store_api.specs.Extents.{first_page_of}
use Rattle.store_api.specs.StoreState.{page_at}
use Rattle.store_api.specs.declared.shape.Shape.{Shape}
use Rattle.row_page.specs.RowPage.{rows_of, slot_count}
use Rattle.table_trees.specs.ToldPages.{PageList}
use Rattle.mdc_sound.specs.TableRows.{block_page, block_slots, rows_from_slot, rows_in_block}
use Rattle.mdc_sound.proofs.SlotRowsLemmas.{length-block_slots}
use Rattle.block_rows.specs.CountedRows.{rows_on_pages}
use Rattle.block_rows.specs.Giving.{WasGiven}
use Rattle.block_rows.specs.HeldRows.{HasReadValues, qualifying}
use Rattle.block_rows.specs.SeenRows.{HasMet, IsSeenPage, SeesPage}
use Rattle.block_rows.specs.declared.met_rows.MetRows.{MetRows}
use Rattle.block_rows.specs.declared.row_sink.RowSink.{Ghosts}
use Rattle.block_rows.proofs.GivingLemmas.{given_more_qualifying, given_none}
use Rattle.block_rows.proofs.HeldRowsLemmas.{part_of_page, parts_within, rows_more}
use Rattle.block_rows.proofs.MetRowsLemmas.{each_append}

-- the first pages of a block were seen: their rows were met, and a sink was given those that qualify
pub record SeesPages {K : Type 0} (sinks : Ghosts K) (shape : Shape) (pages : PageList) (def : TableDef) (block : ℕ) (places : List ℕ) (given : Option Cell) (pred : Option Pred) (n : ℕ) (old new : K) (met_now : MetRows) : Type 0 where
  pub forms : (j : ℕ) → j < n → IsSeenPage def.columns (block_page shape pages block j)
  pub read : AllByRecursion (λ placed. HasReadValues def.columns placed.row) (rows_on_pages shape pages def block n)
  pub given_rows : WasGiven sinks old new (qualifying pred (rows_on_pages shape pages def block n))
  pub met : HasMet places given met_now (rows_on_pages shape pages def block n)

module _ (shape : Shape) (pages : PageList) (def : TableDef) (block : ℕ) where
  -- how many slots a page has, and those of the block
  abbrev c : ℕ
  c = slot_count def.columns

  abbrev slots : List (Option Row)
  slots = block_slots shape pages def block

  pub rows_on_none : rows_on_pages shape pages def block 0 ≡ []
  rows_on_none = let none : 0 * c ≡ 0 = omega arith in ap (λ k. rows_from_slot block 0 (take k slots)) none

  -- the rows of one page more
  pub rows_on_more : (j : ℕ) → j < shape.extent_pages → rows_on_pages shape pages def block (j + 1) ≡ rows_on_pages shape pages def block j ++ rows_from_slot block (j * c) (rows_of def.columns (block_page shape pages block j))
  rows_on_more j less =
      rows_more block c j slots (parts_within shape.extent_pages c j (length slots) (length-block_slots shape pages def block) (omega (arith, less)))
      ∙ ap (λ l. rows_on_pages shape pages def block j ++ rows_from_slot block (j * c) l) (part_of_page shape pages def block j less)

  pub rows_on_all : (j : ℕ) → shape.extent_pages ≤ j → rows_on_pages shape pages def block j ≡ rows_in_block shape pages def block
  rows_on_all j end =
      let all : shape.extent_pages * c ≤ j * c = mul-le-mul_right c end in
      ap (rows_from_slot block 0) (take_all (j * c) slots (omega (arith, length-block_slots shape pages def block, all)))

  module _ {K : Type 0} (sinks : Ghosts K) (places : List ℕ) (given : Option Cell) (pred : Option Pred) where
    -- none was seen
    pub sees_none : (sink : K) (met : MetRows) → HasMet places given met [] → SeesPages sinks shape pages def block places given pred 0 sink sink met
    sees_none sink met none = record {
      forms = λ j less. absurd (omega (arith, less));
      read = subst (AllByRecursion (λ placed. HasReadValues def.columns placed.row)) (sym rows_on_none) tt;
      given_rows = subst (λ rows. WasGiven sinks sink sink (qualifying pred rows)) (sym rows_on_none) (given_none sinks sink);
      met = subst (HasMet places given met) (sym rows_on_none) none;
    }

    -- one page more
    pub sees_more : (columns : List ColumnDef) (p j first : ℕ) (old mid now : K) (met met_now : MetRows) → columns ≡ def.columns → p ≡ first_page_of shape.extents shape.extent_pages block + j → j < shape.extent_pages
        → first ≡ j * slot_count columns → SeesPages sinks shape pages def block places given pred j old mid met → SeesPage sinks columns places given (page_at pages p) block first pred mid now met met_now
        → SeesPages sinks shape pages def block places given pred (j + 1) old now met_now
    sees_more columns p j first old mid now met met_now of at less begins so_far page =
        let first_is : first ≡ j * c = begins ∙ ap (λ k. j * slot_count k) of in
        let here : SeesPage sinks def.columns places given (block_page shape pages block j) block (j * c) pred mid now met met_now =
        subst (λ f. SeesPage sinks def.columns places given (block_page shape pages block j) block f pred mid now met met_now) first_is
        (subst (λ q. SeesPage sinks def.columns places given (page_at pages q) block first pred mid now met met_now) at
        (subst (λ k. SeesPage sinks k places given (page_at pages p) block first pred mid now met met_now) of page)) in
        let more = rows_on_more j less in
        let those = rows_from_slot block (j * c) (rows_of def.columns (block_page shape pages block j)) in
        record {
          forms = λ i before. elim (cases_eq i j) [
            | inl same ↦ subst (λ k. IsSeenPage def.columns (block_page shape pages block k)) (sym same) here.form
            | inr other ↦ so_far.forms i (omega (arith, before, other))
          ];
          read = subst (AllByRecursion (λ placed. HasReadValues def.columns placed.row)) (sym more) (each_append (λ placed. HasReadValues def.columns placed.row) (rows_on_pages shape pages def block j) those so_far.read here.read);
          given_rows = subst (λ rows. WasGiven sinks old now (qualifying pred rows)) (sym more) (given_more_qualifying sinks pred old mid now (rows_on_pages shape pages def block j) those so_far.given_rows here.given_rows);
          met = subst (HasMet places given met_now) (sym more) (here.meets (rows_on_pages shape pages def block j) so_far.met);
        }
