-- The rows of a plan, found part by part in the lists that stand for it.
use Rattle.std.proofs.Common.{◌≡◌, ◌≢◌, ◌∙◌, inl, inr, ℕ, List, Bool, true, ap, length, subst, sym}
use Rattle.std.specs.Prelude.{AllPairs, Contains, IsPermutation, IsTrue, None, Option, filter}
use Rattle.std.proofs.lemmas.Bool.{cases_Bool, or_left}
use Rattle.std.proofs.lemmas.List.Elements.{All-contains}
use Rattle.std.proofs.lemmas.List.Kept.{AllPairs-filter}
use Rattle.mdc_values.specs.Rising.{IsLower, IsRising}
use Rattle.mdc_values.specs.declared.rid.Rid.{Rid}
use Rattle.mdc_ast.specs.Truth.{qualifies}
use Rattle.mdc_ast.specs.declared.definition.TableDef.{TableDef}
use Rattle.mdc_ast.specs.declared.predicate.Pred.{Pred}
use Rattle.mdc_ast.specs.declared.row.Row.{Row}
use Rattle.store_api.specs.Frame.{NoPage}
use Rattle.store_api.specs.RunsOverPages.{RunsOverPages}
use Rattle.store_api.specs.declared.fault.StoreFault.{StoreFault}
use Rattle.store_api.specs.declared.pages.Pages.{Ghosts}
use Rattle.store_api.specs.declared.shape.Shape.{Shape}
use Rattle.store_api.proofs.RunsOverPagesLemmas.{runs_then, runs_wider}
use Rattle.extent_map.specs.declared.kind.Kind.{Kind}
use Rattle.row_filter.specs.Filtering.{may_filter}
use Rattle.block_map.specs.MapLines.{used_blocks}
use Rattle.block_rows.specs.Giving.{WasGiven}
use Rattle.block_rows.specs.HeldRows.{HasReadValues, qualifying}
use Rattle.block_rows.specs.declared.row_sink.RowSink
use Rattle.table_trees.specs.TableTrees.{map_place}
use Rattle.mdc_sound.specs.BlockRules.{AreTableIndexesSound}
use Rattle.mdc_sound.specs.StandingTable.{BreaksExpected, BreaksTable, StandsTable, TableForests, pages_of, view_of}
use Rattle.mdc_sound.specs.TableRows.{PlacedRow, rows_in_block, rows_in_table}
use Rattle.mdc_sound.proofs.ElementsLemmas.{contains_flat, flat_contains}
use Rattle.mdc_sound.proofs.StandingTableLemmas.{stands_same}
use Rattle.mdc_table.proofs.ReadValuesLemmas.{read_of_fitting}
use Rattle.row_entries.specs.SoundEntries.{HasSoundIndexes}
use Rattle.row_entries.proofs.StandingRowsLemmas.{lie_apart}
use Rattle.live_rows.proofs.LookRunsLemmas.{at_still}
use Rattle.live_rows.proofs.StandingTwinsLemmas.{lies_in_used}
use Rattle.block_lists.specs.Merging.{ArePartsOf}
use Rattle.block_lists.specs.Parts.{AreSlots, blocks_of, in_part, in_parts}
use Rattle.block_lists.specs.Places.{has_number, has_rid}
use Rattle.block_lists.specs.Trees.{tree_holds, tree_lists_block}
use Rattle.block_lists.specs.declared.part.Part.{Part}
use Rattle.block_lists.specs.declared.tree.ListTree.{ListTree}
use Rattle.plan_chooser.specs.PlanRows.{plan_row}
use Rattle.plan_chooser.specs.declared.plan.Plan.{Plan}
use Rattle.plan_lists.specs.PlanTrees.{IsListPage, StandsForPlan}
use Rattle.table_scan.specs.FoundRows.{GivesRows}
use Rattle.table_scan.proofs.ScannedRowsLemmas.{perm_filter}
use Rattle.executor.specs.PartRows.{IsPartsPage, parts_with_rows, rows_in_part, rows_in_parts}
use Rattle.executor.specs.Planned.{CountsPlanned, CoversIfAny, GivesSome, IsFoundPage, IsPlannedBlock}
use Rattle.executor.specs.RowBlocks.{IsBlockWith}
use Rattle.executor.proofs.ListedPartsLemmas.{place_in, whole_is_listed}
use Rattle.executor.proofs.MovedPlacesLemmas.{apart_moved}
use Rattle.executor.proofs.PartRowsLemmas.{in_parts_of, rows_part_by_part}
use Rattle.executor.proofs.PassingLemmas.{is_kept, kept_anyway, of_kept}
use Rattle.executor.proofs.PlanPagesLemmas.{indexes_still, used_page_before}
use Rattle.executor.proofs.StandingPartsLemmas.{counts_parts, in_own_block, own, used_has_row}

-- rows of parts are rows of all
parts_lie : (pred : Option Pred) (rows : List PlacedRow) (parts : List Part) (placed : PlacedRow) → Contains (qualifying pred (rows_in_parts rows parts)) placed → Contains (qualifying pred rows) placed
parts_lie pred rows parts placed there =
    let p : PlacedRow → Bool = λ placed. qualifies pred placed.row.values in
    let read = of_kept p (rows_in_parts rows parts) placed there in
    let (part, in_parts_too, within) = flat_contains (rows_in_part rows) parts placed read.0 in
    is_kept p rows placed (of_kept (λ (placed : PlacedRow). in_part part placed.rid) rows placed within).0 read.1

-- no two of those of parts of rising blocks lie in one place, where no two of all do
parts_apart : (pred : Option Pred) (rows : List PlacedRow) (parts : List Part) → IsRising IsLower (blocks_of parts) → AllPairs (λ a b. a.rid ≢ b.rid) rows → AllPairs (λ a b. a.rid ≢ b.rid) (qualifying pred (rows_in_parts rows parts))
parts_apart pred rows parts rise apart =
    let q : PlacedRow → Bool = λ placed. in_parts parts placed.rid in
    AllPairs-filter (λ (a b : PlacedRow). a.rid ≢ b.rid) (λ placed. qualifies pred placed.row.values) (rows_in_parts rows parts)
    (apart_moved (filter q rows) (rows_in_parts rows parts) (rows_part_by_part rows parts rise) (AllPairs-filter (λ (a b : PlacedRow). a.rid ≢ b.rid) q rows apart))

module _ {S : Type 0} {g : Ghosts S} (shape : Shape) (s : S) (def : TableDef) (plan : Plan) (tree : ListTree) (parts : List Part) (stands : StandsForPlan g shape s def plan tree) (are : ArePartsOf tree parts) where
  -- a block that is listed whole is Used
  pub whole_is_used : (part : Part) → Contains parts part → part.slots ≡ None → (owners : List Kind) (forests : TableForests) → StandsTable g shape s def owners forests → Contains (used_blocks forests.map) part.block
  whole_is_used part there whole owners forests st =
      let listed = whole_is_listed are.lists.blocks are.lists.rids part (subst (λ l. Contains l part) are.of_lists there) whole in
      stands.blocks owners forests st part.block (sym (are.of_tree.blocks part.block) ∙ listed)

  -- a sink that was given the rows of the parts that qualify was given some rows of the table, whatever its record indexes say
  pub some_by_parts : (owners : List Kind) (forests : TableForests) → StandsTable g shape s def owners forests → (pred : Option Pred) {K : Type 0} (sinks : RowSink.Ghosts K) (old new : K)
      → WasGiven sinks old new (qualifying pred (rows_in_parts (rows_in_table shape (pages_of g s) def forests.map) parts)) → GivesSome sinks old new g shape s def pred forests
  some_by_parts owners forests st pred sinks old new given =
      let rows = rows_in_table shape (pages_of g s) def forests.map in
      record {
        rows = qualifying pred (rows_in_parts rows parts);
        lie = parts_lie pred rows parts;
        apart = parts_apart pred rows parts are.stand.rise (lie_apart g shape s def owners forests st).apart;
        given = given;
      }

  module _ (owners : List Kind) (forests : TableForests) (st : StandsTable g shape s def owners forests) (sound : AreTableIndexesSound shape (pages_of g s) (view_of def forests)) where
    abbrev rows : List PlacedRow
    rows = rows_in_table shape (pages_of g s) def forests.map

    -- the tree holds the place of a row where the plan has the row
    exact : (placed : PlacedRow) → Contains rows placed → tree_holds tree placed.rid ≡ plan_row def placed.row.values plan
    exact = (stands.rows owners forests st sound).exact

    -- ---- rows

    -- the rows of the parts that qualify are those of the table, where the plan covers the predicate
    finds_by_parts : (pred : Option Pred) → CoversIfAny def plan pred → ((row : Row) → HasReadValues def.columns row → IsTrue (may_filter pred row.values))
        → IsPermutation (qualifying pred rows) (qualifying pred (rows_in_parts rows parts))
    finds_by_parts pred covers judged =
        let p : PlacedRow → Bool = λ placed. qualifies pred placed.row.values in
        let q : PlacedRow → Bool = λ placed. in_parts parts placed.rid in
        let kept = kept_anyway p q rows (λ placed there passes.
        let read = read_of_fitting def.columns placed.row (lies_in_used shape s def owners forests st placed there).fits.values in
        are.stand.rows placed.rid ∙ (exact placed there ∙ covers placed.row.values (judged placed.row read) passes)) in
        subst (λ l. IsPermutation l (qualifying pred (rows_in_parts rows parts))) kept (perm_filter p (filter q rows) (rows_in_parts rows parts) (rows_part_by_part rows parts are.stand.rise))

    -- a sink that was given these was given the rows of the table
    pub gives_by_parts : (pred : Option Pred) → CoversIfAny def plan pred → ((row : Row) → HasReadValues def.columns row → IsTrue (may_filter pred row.values))
        → {K : Type 0} (sinks : RowSink.Ghosts K) (old new : K) → WasGiven sinks old new (qualifying pred (rows_in_parts rows parts)) → GivesRows sinks old new g shape s def pred forests
    gives_by_parts pred covers judged sinks old new given = record { rows = qualifying pred (rows_in_parts rows parts); found = finds_by_parts pred covers judged; given = given }

    -- ---- blocks

    planned_of_held : (block : ℕ) → IsBlockWith shape (pages_of g s) def forests.map (λ placed. tree_holds tree placed.rid ≡ true) block → IsPlannedBlock g shape s def plan forests block
    planned_of_held block one = record {
      used = one.used;
      placed = one.placed;
      there = one.there;
      has = sym (exact one.placed (contains_flat (rows_in_block shape (pages_of g s) def) (used_blocks forests.map) block one.placed one.used one.there)) ∙ one.has;
    }

    held_of_planned : (block : ℕ) → IsPlannedBlock g shape s def plan forests block → IsBlockWith shape (pages_of g s) def forests.map (λ placed. tree_holds tree placed.rid ≡ true) block
    held_of_planned block one = record {
      used = one.used;
      placed = one.placed;
      there = one.there;
      has = exact one.placed (contains_flat (rows_in_block shape (pages_of g s) def) (used_blocks forests.map) block one.placed one.used one.there) ∙ one.has;
    }

    -- the parts with a row are as many as the blocks with a row that the plan has
    pub counts_by_parts : (count : ℕ) → count ≡ length (parts_with_rows rows parts) → CountsPlanned g shape s def plan forests count
    counts_by_parts count is =
        let held = counts_parts shape s def owners forests st parts are.stand.rise (tree_holds tree) are.stand.rows in
        record {
          numbers = held.numbers;
          rising = held.rising;
          are = λ n. ((λ there. planned_of_held n ((held.are n).0 there)), (λ one. (held.are n).1 (held_of_planned n one)));
          counted = is ∙ held.counted;
        }

    -- ---- the block of a part

    -- which has a row of the plan, where it is Used
    pub part_is_planned : (part : Part) → Contains parts part → Contains (used_blocks forests.map) part.block → IsPlannedBlock g shape s def plan forests part.block
    part_is_planned part there used =
        let (rid, at, in_it) = place_in part (All-contains (λ (part : Part). AreSlots part.slots) parts part are.stand.slots there) in
        let held : tree_holds tree rid ≡ true = sym (are.stand.rows rid) ∙ in_parts_of parts part rid there in_it in
        subst (IsPlannedBlock g shape s def plan forests) at (by_listed rid held (subst (Contains (used_blocks forests.map)) (sym at) used))
      where
        by_listed : (rid : Rid) → tree_holds tree rid ≡ true → Contains (used_blocks forests.map) rid.block → IsPlannedBlock g shape s def plan forests rid.block
        by_listed rid held used = elim (cases_Bool (tree_lists_block tree rid.block)) [
          | inl listed ↦
              let (placed, there) = used_has_row shape s def owners forests st rid.block used in
              let at = own shape s def owners forests st rid.block placed there in
              let named = are.of_tree.blocks placed.rid.block ∙ (ap (tree_lists_block tree) at ∙ listed) in
              planned_of_held rid.block (record {
                used = used;
                placed = placed;
                there = there;
                has = sym (are.of_tree.rows placed.rid) ∙ or_left (has_number are.lists.blocks placed.rid.block) (has_rid are.lists.rids placed.rid) named;
              })
          | inr not ↦
              let (placed, there, at) = (stands.rows owners forests st sound).lies rid held not used in
              let block_is : placed.rid.block ≡ rid.block = ap (λ (r : Rid). r.block) at in
              planned_of_held rid.block (record {
                used = used;
                placed = placed;
                there = subst (λ n. Contains (rows_in_block shape (pages_of g s) def n) placed) block_is (in_own_block shape s def owners forests st placed there).1;
                has = ap (tree_holds tree) at ∙ held;
              })
        ]

-- ---- the pages that come to hand

pub tree_runs : {S : Type 0} {g : Ghosts S} (shape : Shape) (def : TableDef) (plan : Plan) {old new : S} {fault : Option StoreFault}
    → RunsOverPages g NoPage (IsListPage g old def plan) (BreaksTable g shape old def) old new fault
    → RunsOverPages g NoPage (IsFoundPage g shape old def plan) (BreaksExpected g shape old def (HasSoundIndexes g shape old def)) old new fault
tree_runs shape def plan run =
    runs_wider run (λ p there none. none) (λ p is. inl is) (λ damage b. record { names = b.names; broken = λ owners forests st sound. b.broken owners forests st })

module _ {S : Type 0} {g : Ghosts S} (shape : Shape) (old mid : S) (def : TableDef) (plan : Plan) (tree : ListTree) (parts : List Part) (stands : StandsForPlan g shape old def plan tree) (are : ArePartsOf tree parts)
    (same : (g.state mid).work ≡ (g.state old).work) (first : RunsOverPages g NoPage (IsListPage g old def plan) (BreaksTable g shape old def) old mid None) where
  -- those of the plan's lists
  pub lists_runs : {new : S} {fault : Option StoreFault} → RunsOverPages g NoPage (IsPartsPage g shape mid def parts) (BreaksExpected g shape mid def (HasSoundIndexes g shape mid def)) mid new fault
      → RunsOverPages g NoPage (IsFoundPage g shape old def plan) (BreaksExpected g shape old def (HasSoundIndexes g shape old def)) old new fault
  lists_runs second =
      runs_then (tree_runs shape def plan first) second (λ p low none. none) page
      (λ damage b. record {
        names = b.names;
        broken = λ owners forests st sound. b.broken owners forests (stands_same shape old mid def owners forests first.works.steady.is_told same st) (indexes_still g shape old mid def forests same sound);
      })
    where
      page : (p : ℕ) → IsPartsPage g shape mid def parts p → IsFoundPage g shape old def plan p
      page p (inl map) = inl (inl (λ t held. map t (at_still old mid (map_place def) t first.works.steady same held)))
      page p (inr of) = inr (λ owners forests st sound.
          let is = used_page_before g old mid first.works.steady.is_told same shape def of.part.block p of.page owners forests st sound in
          (of.part.block, part_is_planned shape old def plan tree parts stands are owners forests st sound of.part of.there is.0, is.1))
