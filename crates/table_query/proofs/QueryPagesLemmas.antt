-- Runs of a query, by whether it needs rows.
use Rattle.std.proofs.Common.{◌≡◌, Option, false, inl, inr, sym, ◌∙◌}
use Rattle.std.proofs.lemmas.Bool.{false≢true}
use Rattle.mdc_ast.specs.declared.bound.BoundSelect.{BoundSelect}
use Rattle.mdc_ast.specs.declared.definition.TableDef.{TableDef}
use Rattle.mdc_ast.specs.declared.statement.PlanMode.{PlanMode}
use Rattle.store_api.specs.Frame.{NoPage}
use Rattle.store_api.specs.RunsOverPages.{RunsOverPages}
use Rattle.store_api.specs.declared.fault.StoreFault.{StoreFault}
use Rattle.store_api.specs.declared.pages.Pages.{Ghosts}
use Rattle.store_api.specs.declared.shape.Shape.{Shape}
use Rattle.store_api.proofs.RunsOverPagesLemmas.{runs_wider}
use Rattle.mdc_sound.specs.StandingTable.{BreaksExpected, BreaksTable}
use Rattle.row_groups.specs.Lines.{shares_lines}
use Rattle.row_groups.specs.Shape.{shape_of}
use Rattle.table_scan.specs.FoundRows.{IsChoicePage}
use Rattle.executor.specs.Planned.{HasSoundIndexes, IsPlanPage}
use Rattle.table_query.specs.Counted.{counts_rows_alone}
use Rattle.table_query.specs.QueryPages.{IsCountedByCells, IsQueryPage, NeedsRows}

-- it needs rows where each has a line of its own, and where more is shown than how many there are
pub needs_unshared : (def : TableDef) (select : BoundSelect) → shares_lines (shape_of select) ≡ false → NeedsRows def select
needs_unshared def select none shares counts = absurd (false≢true (sym none ∙ shares))

pub needs_uncounted : (def : TableDef) (select : BoundSelect) → counts_rows_alone (shape_of select) ≡ false → NeedsRows def select
needs_uncounted def select none shares counts = absurd (false≢true (sym none ∙ counts))

module _ {S : Type 0} {g : Ghosts S} (shape : Shape) (def : TableDef) (mode : PlanMode) (select : BoundSelect) where
  -- its rows are found by the plan
  pub runs_planned : {old new : S} {fault : Option StoreFault} → NeedsRows def select → RunsOverPages g NoPage (IsPlanPage g shape old def mode select.pred) (BreaksExpected g shape old def (HasSoundIndexes g shape old def)) old new fault
      → RunsOverPages g NoPage (IsQueryPage g shape old def mode select) (BreaksExpected g shape old def (HasSoundIndexes g shape old def)) old new fault
  runs_planned needs run = runs_wider run (λ p there none. none) (λ p of. inr (needs, of)) (λ damage breaks. breaks)

  -- they are counted by their cells
  pub runs_counted : {old new : S} {fault : Option StoreFault} → IsCountedByCells def select → RunsOverPages g NoPage (IsChoicePage g shape old def) (BreaksTable g shape old def) old new fault
      → RunsOverPages g NoPage (IsQueryPage g shape old def mode select) (BreaksExpected g shape old def (HasSoundIndexes g shape old def)) old new fault
  runs_counted counted run =
      runs_wider run (λ p there none. none) (λ p of. inl (counted, of)) (λ damage breaks. record { names = breaks.names; broken = λ owners forests st sound. breaks.broken owners forests st })
