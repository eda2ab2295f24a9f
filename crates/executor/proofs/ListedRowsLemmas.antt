-- The rows of listed slots: each one in a Used block has a row, where the lists stand for a plan and the record indexes are sound.
use Rattle.std.proofs.Common.{◌≡◌, ◌∙◌, ℕ, List, ap, inl, inr, refl, subst, sym}
use Rattle.std.specs.Prelude.{◌==◌, Contains, Option, Some, false, true}
use Rattle.std.proofs.lemmas.Bool.{and_from, eq-eqb}
use Rattle.mdc_values.specs.Rising.{IsLower, IsRising}
use Rattle.mdc_values.specs.declared.rid.Rid.{Rid}
use Rattle.mdc_ast.specs.declared.definition.TableDef.{TableDef}
use Rattle.store_api.specs.Frame.{NoPage}
use Rattle.store_api.specs.RunsOverPages.{RunsOverPages}
use Rattle.store_api.specs.declared.fault.StoreFault.{StoreFault}
use Rattle.store_api.specs.declared.pages.Pages.{Ghosts}
use Rattle.store_api.specs.declared.shape.Shape.{Shape}
use Rattle.store_api.proofs.RunsOverPagesLemmas.{runs_wider}
use Rattle.extent_map.specs.declared.kind.Kind.{Kind}
use Rattle.block_rows.proofs.ListedSlotsLemmas.{HasRowInSlot, each_has_row}
use Rattle.table_trees.specs.ToldPages.{PageList}
use Rattle.mdc_sound.specs.StandingTable.{BreaksExpected, BreaksTable, TableForests, pages_of}
use Rattle.mdc_sound.specs.TableRows.{block_slots, rows_in_block}
use Rattle.mdc_sound.proofs.BlockRulesLemmas.{named_owned}
use Rattle.mdc_sound.proofs.StandingTableLemmas.{stands_same}
use Rattle.mdc_table.specs.UsedSlots.{HasRowsInSlots, IsSlotsPage}
use Rattle.row_entries.specs.SoundEntries.{HasSoundIndexes}
use Rattle.block_lists.specs.Merging.{ArePartsOf}
use Rattle.block_lists.specs.Parts.{in_part, in_slots, rid_at}
use Rattle.block_lists.specs.Trees.{tree_holds, tree_lists_block}
use Rattle.block_lists.specs.declared.part.Part.{Part}
use Rattle.block_lists.specs.declared.tree.ListTree.{ListTree}
use Rattle.plan_chooser.specs.declared.plan.Plan.{Plan}
use Rattle.plan_lists.specs.PlanTrees.{StandsForPlan}
use Rattle.plan_lists.proofs.ListedLemmas.{in_numbers}
use Rattle.executor.specs.PartRows.{HasListedRows, IsPageForPart}
use Rattle.executor.proofs.LastRowsLemmas.{page_of_filled}
use Rattle.executor.proofs.ListedPartsLemmas.{listed_not_whole}
use Rattle.executor.proofs.PartRowsLemmas.{in_parts_of}
use Rattle.executor.proofs.PlanPagesLemmas.{indexes_still}
use Rattle.executor.proofs.StandingPartsLemmas.{in_own_block}

-- ---- listed slots

module _ {S : Type 0} {g : Ghosts S} (shape : Shape) (s : S) (def : TableDef) (plan : Plan) (tree : ListTree) (parts : List Part) (stands : StandsForPlan g shape s def plan tree) (are : ArePartsOf tree parts) where
  -- each listed slot of a Used block has a row
  pub listed_have_rows : (part : Part) → Contains parts part → HasListedRows g shape s def part
  listed_have_rows part there slots some owners forests st sound used slot among =
      let rid : Rid = rid_at part.block slot in
      let in_it : in_part part rid ≡ true =
      and_from (part.block == part.block) (in_slots part.slots slot) (eq-eqb part.block part.block refl) (ap (λ those. in_slots those slot) some ∙ in_numbers slots slot among) in
      let held : tree_holds tree rid ≡ true = sym (are.stand.rows rid) ∙ in_parts_of parts part rid there in_it in
      let (placed, lies, at) = (stands.rows owners forests st sound).lies rid held not_whole used in (
        placed,
        subst (λ n. Contains (rows_in_block shape (pages_of g s) def n) placed) (ap (λ (r : Rid). r.block) at) (in_own_block shape s def owners forests st placed lies).1,
        ap (λ (r : Rid). r.slot) at,
      )
    where
      not_whole : tree_lists_block tree part.block ≡ false
      not_whole = sym (are.of_tree.blocks part.block) ∙ listed_not_whole are.lists.blocks are.lists.rids are.rise_apart part slots (subst (λ l. Contains l part) are.of_lists there) some

-- so it is behind a call that changed no page
pub listed_still : {S : Type 0} {g : Ghosts S} (shape : Shape) (old mid : S) (def : TableDef) (part : Part) → (g.state mid).is_told ≡ (g.state old).is_told → (g.state mid).work ≡ (g.state old).work
    → HasListedRows g shape old def part → HasListedRows g shape mid def part
listed_still {g = g} shape old mid def part told same lies slots some owners forests st sound used slot among =
    subst (λ (pages : PageList). HasRowInSlot (rows_in_block shape pages def part.block) slot) (sym same)
    (lies slots some owners forests (stands_same shape mid old def owners forests (sym told) (sym same) st) (indexes_still g shape mid old def forests (sym same) sound) used slot among)

-- ---- runs

-- a run that names damage only where the table doesn't stand does so where more is expected
pub runs_expected : {S : Type 0} {g : Ghosts S} {Kind_of : ℕ → Type 0} {s new : S} {fault : Option StoreFault} (shape : Shape) (def : TableDef) (Expected : List Kind → TableForests → Type 0)
    → RunsOverPages g NoPage Kind_of (BreaksTable g shape s def) s new fault → RunsOverPages g NoPage Kind_of (BreaksExpected g shape s def Expected) s new fault
runs_expected shape def Expected run =
    runs_wider run (λ p there none. none) (λ p is. is) (λ damage b. record { names = b.names; broken = λ owners forests st has. b.broken owners forests st })

-- a look at the listed slots of a part
pub listed_runs : {S : Type 0} {g : Ghosts S} {s new : S} {fault : Option StoreFault} (shape : Shape) (def : TableDef) (part : Part) (slots : List ℕ) → part.slots ≡ Some slots → IsRising IsLower slots → HasListedRows g shape s def part
    → RunsOverPages g NoPage (IsSlotsPage g shape s def part.block slots) (BreaksExpected g shape s def (HasRowsInSlots g shape s def part.block slots)) s new fault
    → RunsOverPages g NoPage (IsPageForPart g shape s def part.block) (BreaksExpected g shape s def (HasSoundIndexes g shape s def)) s new fault
listed_runs {g = g} {s = s} shape def part slots some rise lies run =
    runs_wider run (λ p there none. none) page
    (λ damage b. record {
      names = b.names;
      broken = λ owners forests st sound. b.broken owners forests st (λ used. each_has_row part.block (block_slots shape (pages_of g s) def part.block) slots rise (lies slots some owners forests st sound used));
    })
  where
    page : (p : ℕ) → IsSlotsPage g shape s def part.block slots p → IsPageForPart g shape s def part.block p
    page p (inl map) = inl map
    page p (inr of) = inr (λ owners forests st sound.
        let (used, is) = of owners forests st in
        (used, page_of_filled shape s def part.block slots p (named_owned shape owners def forests.map 1 part.block st.map used).0 (lies slots some owners forests st sound used) is))
