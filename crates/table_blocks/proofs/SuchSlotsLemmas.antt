-- Calls on the rows of a block that is expected to hold slots of which something is so.
use Rattle.std.proofs.Common.{◌<◌, ℕ, List, false, refl, ap}
use Rattle.std.specs.Prelude.{Option, is_some}
use Rattle.mdc_ast.specs.declared.definition.TableDef.{TableDef}
use Rattle.mdc_ast.specs.declared.row.Row.{Row}
use Rattle.store_api.specs.Extents.{first_page_of}
use Rattle.store_api.specs.RunsOverPages.{RunsOverPages}
use Rattle.store_api.specs.declared.fault.StoreFault.{StoreFault}
use Rattle.store_api.specs.declared.pages.Pages.{Ghosts}
use Rattle.store_api.specs.declared.shape.Shape.{Shape}
use Rattle.store_api.proofs.RunsOverPagesLemmas.{runs_wider}
use Rattle.block_rows.specs.HeldRows.{BreaksRows, HoldsRows, IsFilledSlot}
use Rattle.mdc_sound.specs.StandingTable.{IsPageOfBlock, NamesTablePart}
use Rattle.table_blocks.specs.BlockChanges.{BreaksAround}
use Rattle.table_blocks.specs.BlockSteps.{HasFilledSlot, HoldsSuch}
use Rattle.table_blocks.proofs.AroundLemmas.{breaks_rows}

module _ {S : Type 0} {g : Ghosts S} (shape : Shape) (s : S) (def : TableDef) (block : ℕ) where
  -- the damage of a page of the block
  pub runs_such : (IsSuch : List (Option Row) → Type 0) {More : ℕ → Type 0} {fault : Option StoreFault} {new : S} → ((p : ℕ) → More p → IsPageOfBlock shape block p) → block < shape.extents
      → RunsOverPages g More (IsPageOfBlock shape block) (BreaksRows g shape s def block) s new fault
      → RunsOverPages g (IsPageOfBlock shape block) (IsPageOfBlock shape block) (BreaksAround g shape s def block (HoldsSuch IsSuch g shape s def block)) s new fault
  runs_such IsSuch mine low run =
      runs_wider run (λ p there is. mine p is) (λ p is. is)
      (λ damage breaks.
      let b = breaks_rows shape s def block damage breaks low in
      record { names = b.names; broken = λ owners forests st own e. b.broken owners forests st own (e.slots, e.rows) })

  -- the slot is empty
  pub empty_there : (slot : ℕ) → ((slots : List (Option Row)) → HoldsRows g shape s def block slots → IsFilledSlot slots slot false)
      → BreaksAround g shape s def block (HasFilledSlot slot g shape s def block) (record { page = first_page_of shape.extents shape.extent_pages block; rule = 8 })
  empty_there slot found = record {
    names = NamesTablePart.row_count block refl refl;
    broken = λ owners forests st own e. let none = found e.slots e.rows in let some = ap is_some e.such.1 in absurd (cc);
  }
