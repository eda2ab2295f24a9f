-- The pages that finding rows by a plan looks at, as seen from before a call that changed no page.
use Rattle.std.proofs.Common.{◌≡◌, ℕ, List, Option, true, inl, inr, subst, sym}
use Rattle.mdc_ast.specs.declared.definition.TableDef.{TableDef}
use Rattle.mdc_ast.specs.declared.predicate.Pred.{Pred}
use Rattle.mdc_ast.specs.declared.statement.PlanMode.{PlanMode}
use Rattle.store_api.specs.declared.pages.Pages.{Ghosts}
use Rattle.store_api.specs.declared.shape.Shape.{Shape}
use Rattle.store_api.proofs.FrameLemmas.{touches_same}
use Rattle.table_trees.specs.TableTrees.{TreePlace, map_place}
use Rattle.table_trees.specs.TreesBeside.{IsTreePageAt}
use Rattle.table_trees.proofs.SideBySideLemmas.{tree_still}
use Rattle.mdc_sound.specs.BlockRules.{AreTableIndexesSound}
use Rattle.mdc_sound.specs.StandingTable.{TableForests, pages_of, view_of}
use Rattle.mdc_sound.specs.TableRows.{PlacedRow}
use Rattle.mdc_sound.proofs.StandingTableLemmas.{stands_same}
use Rattle.plan_chooser.specs.declared.plan.Plan.{Plan}
use Rattle.plan_chooser.specs.PlanRows.{plan_row}
use Rattle.plan_chooser.specs.Rule.{plan_of}
use Rattle.plan_lists.specs.PlanTrees.{IsListPage}
use Rattle.table_scan.specs.FoundRows.{MayHaveRow}
use Rattle.executor.specs.LastRows.{IsRowPageOfUsed}
use Rattle.executor.specs.Planned.{IsChosenPageIfSound, IsFoundPage, IsPlanPage, IsPlannedRowPage}
use Rattle.executor.specs.RowBlocks.{IsBlockWith}
use Rattle.executor.proofs.LastRowsLemmas.{last_before}

-- record indexes that are sound are so behind it
pub indexes_still : {S : Type 0} (g : Ghosts S) (shape : Shape) (old now : S) (def : TableDef) (forests : TableForests) → (g.state now).work ≡ (g.state old).work
    → AreTableIndexesSound shape (pages_of g old) (view_of def forests) → AreTableIndexesSound shape (pages_of g now) (view_of def forests)
indexes_still g shape old now def forests same sound = subst (λ (pages : List (List ℕ)). AreTableIndexesSound shape pages (view_of def forests)) (sym same) sound

module _ {S : Type 0} (g : Ghosts S) (old now : S) (told : (g.state now).is_told ≡ (g.state old).is_told) (same : (g.state now).work ≡ (g.state old).work) where
  tree_page_before : (place : TreePlace) (p : ℕ) → IsTreePageAt g now place p → IsTreePageAt g old place p
  tree_page_before place p of t holds = of t (tree_still (λ q. ⊥) old now place t holds (touches_same told same) told (λ q l mine. mine))

  -- a page of a tree that a plan names
  pub list_page_before : (def : TableDef) (plan : Plan) (p : ℕ) → IsListPage g now def plan p → IsListPage g old def plan p
  list_page_before def plan p (inl of) = inl (tree_page_before (map_place def) p of)
  list_page_before def plan p (inr (place, names, of)) = inr (place, names, tree_page_before place p of)

  module _ (shape : Shape) (def : TableDef) where
    row_page_before : (plan : Plan) (p : ℕ) → IsPlannedRowPage g shape now def plan p → IsPlannedRowPage g shape old def plan p
    row_page_before plan p planned owners forests st sound =
        let (block, is, page) = planned owners forests (stands_same shape old now def owners forests told same st) (indexes_still g shape old now def forests same sound) in (
          block,
          subst (λ (pages : List (List ℕ)). IsBlockWith shape pages def forests.map (λ (placed : PlacedRow). plan_row def placed.row.values plan ≡ true) block) same is,
          last_before shape old now def told same block p page,
        )

    found_page_before : (plan : Plan) (p : ℕ) → IsFoundPage g shape now def plan p → IsFoundPage g shape old def plan p
    found_page_before plan p (inl list) = inl (list_page_before def plan p list)
    found_page_before plan p (inr row) = inr (row_page_before plan p row)

    -- one that finding rows in a mode looks at
    pub plan_page_before : (mode : PlanMode) (pred : Option Pred) (p : ℕ) → IsPlanPage g shape now def mode pred p → IsPlanPage g shape old def mode pred p
    plan_page_before mode pred p page = found_page_before (plan_of def mode pred) p page

    -- one of a block in whose cell a row may qualify
    pub chosen_page_before : (pred : Option Pred) (p : ℕ) → IsChosenPageIfSound g shape now def pred p → IsChosenPageIfSound g shape old def pred p
    chosen_page_before pred p chosen owners forests st sound =
        let (block, is, page) = chosen owners forests (stands_same shape old now def owners forests told same st) (indexes_still g shape old now def forests same sound) in (
          block,
          record { used = is.used; may = subst (λ (pages : List (List ℕ)). MayHaveRow shape pages def pred block) same is.may },
          last_before shape old now def told same block p page,
        )

    -- one up to the last row of a Used block
    pub used_page_before : (block p : ℕ) → IsRowPageOfUsed g shape now def block p → IsRowPageOfUsed g shape old def block p
    used_page_before block p page owners forests st sound =
        let (used, last) = page owners forests (stands_same shape old now def owners forests told same st) (indexes_still g shape old now def forests same sound) in
        (used, last_before shape old now def told same block p last)
