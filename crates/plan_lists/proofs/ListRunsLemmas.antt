-- Runs that read the lists of a plan, part by part.
use Rattle.std.proofs.Common.{◌≡◌, ℕ, List, ◌⊎◌, inl, inr, sym, subst}
use Rattle.std.specs.Prelude.{Contains, None, Option}
use Rattle.mdc_ast.specs.declared.definition.TableDef.{TableDef}
use Rattle.mdc_ast.specs.declared.span.Span.{Span}
use Rattle.store_api.specs.Frame.{NoPage}
use Rattle.store_api.specs.RunsOverPages.{RunsOverPages}
use Rattle.store_api.specs.Works.{Steady}
use Rattle.store_api.specs.declared.fault.StoreFault.{StoreFault}
use Rattle.store_api.specs.declared.pages.Pages.{Ghosts}
use Rattle.store_api.specs.declared.shape.Shape.{Shape}
use Rattle.store_api.proofs.RunsOverPagesLemmas.{runs_then, runs_wider}
use Rattle.table_trees.specs.TableTrees.{TreePlace, map_place, place_of_dimension}
use Rattle.table_trees.specs.TreesBeside.{IsTreePageAt}
use Rattle.mdc_sound.specs.BlockRules.{AreTableIndexesSound}
use Rattle.mdc_sound.specs.StandingTable.{BreaksTable, view_of}
use Rattle.mdc_sound.specs.TableRows.{rows_in_table}
use Rattle.mdc_sound.proofs.StandingTableLemmas.{stands_same}
use Rattle.record_index.specs.RecordIndexes.{place_of_record_index}
use Rattle.live_rows.proofs.LookRunsLemmas.{at_still}
use Rattle.block_lists.specs.declared.tree.ListTree.{ListTree}
use Rattle.plan_chooser.specs.PlanRows.{plan_row}
use Rattle.plan_chooser.specs.declared.plan.Plan.{Plan}
use Rattle.plan_chooser.specs.declared.plan.Plan.TheVariants as plan
use Rattle.plan_lists.specs.PlanTrees.{HoldsPassing, IsListPage, NamesTree, StandsForPlan}
use Rattle.plan_lists.specs.PlanTrees.NamesTree.{of_all, of_any, of_blocks, of_rids}

-- what a part names, its plan names
names_part : (def : TableDef) (whole : Plan) (parts : List Plan) (part : Plan) (place : TreePlace) → (whole ≡ plan.All parts) ⊎ (whole ≡ plan.Any parts) → Contains parts part → NamesTree def part place → NamesTree def whole place
names_part def whole parts part place (inl e) there names = subst (λ w. NamesTree def w place) (sym e) (of_all parts part place there names)
names_part def whole parts part place (inr e) there names = subst (λ w. NamesTree def w place) (sym e) (of_any parts part place there names)

module _ {S : Type 0} {g : Ghosts S} (shape : Shape) (def : TableDef) (whole : Plan) where
  pub blocks_runs : {old new : S} {fault : Option StoreFault} (dim column : ℕ) (span : Span) → whole ≡ plan.Blocks dim column span
      → RunsOverPages g NoPage (IsTreePageAt g old (place_of_dimension def dim)) (BreaksTable g shape old def) old new fault → RunsOverPages g NoPage (IsListPage g old def whole) (BreaksTable g shape old def) old new fault
  blocks_runs dim column span e run =
      runs_wider run (λ p there none. none) (λ p is. inr (place_of_dimension def dim, subst (λ w. NamesTree def w (place_of_dimension def dim)) (sym e) (of_blocks dim column span), is)) (λ damage b. b)

  pub rids_runs : {old new : S} {fault : Option StoreFault} (index : ℕ) (span : Span) → whole ≡ plan.Rids index span
      → RunsOverPages g NoPage (IsTreePageAt g old (place_of_record_index def index)) (BreaksTable g shape old def) old new fault → RunsOverPages g NoPage (IsListPage g old def whole) (BreaksTable g shape old def) old new fault
  rids_runs index span e run =
      runs_wider run (λ p there none. none) (λ p is. inr (place_of_record_index def index, subst (λ w. NamesTree def w (place_of_record_index def index)) (sym e) (of_rids index span), is)) (λ damage b. b)

  module _ (parts : List Plan) (part : Plan) (is : (whole ≡ plan.All parts) ⊎ (whole ≡ plan.Any parts)) (there : Contains parts part) {old mid : S} (same : (g.state mid).work ≡ (g.state old).work)
      (first : RunsOverPages g NoPage (IsListPage g old def whole) (BreaksTable g shape old def) old mid None) where
    steady : Steady g old mid
    steady = first.works.steady

    pub part_runs : {new : S} {fault : Option StoreFault} → RunsOverPages g NoPage (IsListPage g mid def part) (BreaksTable g shape mid def) mid new fault
        → RunsOverPages g NoPage (IsListPage g old def whole) (BreaksTable g shape old def) old new fault
    part_runs second =
        runs_then first second (λ p low none. none) page
        (λ damage b. record { names = b.names; broken = λ owners forests st. b.broken owners forests (stands_same shape old mid def owners forests steady.is_told same st) })
      where
        page : (p : ℕ) → IsListPage g mid def part p → IsListPage g old def whole p
        page p (inl map) = inl (λ t held. map t (at_still old mid (map_place def) t steady same held))
        page p (inr named) = inr (named.0, names_part def whole parts part named.0 is there named.1, λ t held. named.2 t (at_still old mid named.0 t steady same held))

    -- what was read of a part midway, is so of the pages at the start
    pub part_still : (tree : ListTree) → StandsForPlan g shape mid def part tree → StandsForPlan g shape old def part tree
    part_still tree so = record {
      members = so.members;
      rows = λ owners forests st sound.
          subst (λ pages. HoldsPassing (λ values. plan_row def values part) (rows_in_table shape pages def forests.map) forests.map tree) same
          (so.rows owners forests (stands_same shape old mid def owners forests steady.is_told same st) (subst (λ pages. AreTableIndexesSound shape pages (view_of def forests)) (sym same) sound));
      blocks = λ owners forests st. so.blocks owners forests (stands_same shape old mid def owners forests steady.is_told same st);
    }
