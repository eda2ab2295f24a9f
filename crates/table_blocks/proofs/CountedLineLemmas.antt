-- The line of a Used block counts another number of rows, and then a call changes the rows of the block.
use Rattle.std.proofs.Common.{◌≡◌, ◌<◌, ℕ, List, Option, None, length, refl, arith, sym, subst, inl, inr}
use Rattle.std.specs.Prelude.{sum_by}
use Rattle.std.specs.List.{AllZip}
use Rattle.mdc_values.specs.declared.value.Value.{Value}
use Rattle.mdc_ast.specs.declared.definition.TableDef.{TableDef}
use Rattle.mdc_ast.specs.declared.row.Row.{Row}
use Rattle.store_api.specs.Frame.{Touches}
use Rattle.store_api.specs.RunsOverPages.{RunsOverPages}
use Rattle.store_api.specs.declared.fault.Damage.{Damage}
use Rattle.store_api.specs.declared.fault.StoreFault.{StoreFault}
use Rattle.store_api.specs.declared.pages.Pages.{Ghosts}
use Rattle.store_api.specs.declared.shape.Shape.{Shape}
use Rattle.store_api.proofs.RunsOverPagesLemmas.{runs_on, runs_wider}
use Rattle.extent_map.specs.declared.kind.Kind.{Kind}
use Rattle.extent_map.specs.declared.space_notes.SpaceNotes.{SpaceNotes}
use Rattle.row_page.specs.RowPage.{count_rows}
use Rattle.entry_tree.specs.Forest.{Forest, times}
use Rattle.entry_tree.specs.HeldTrees.{HoldsTree, IsTreePage}
use Rattle.entry_tree.specs.declared.tree.Tree.{Tree}
use Rattle.block_map.specs.BlockMaps.{HasRow, IsMapForm}
use Rattle.block_map.specs.Counting.{used_row}
use Rattle.block_map.specs.MapChanges.{ChangesRowTo}
use Rattle.block_map.specs.declared.row.BlockRow.{BlockRow}
use Rattle.block_rows.specs.HeldRows.{HoldsRows}
use Rattle.mdc_ast.specs.TableLimits.{IsTableDef}
use Rattle.table_trees.specs.TableTrees.{cell_parts, rising_parts}
use Rattle.mdc_sound.specs.Placing.{Spot}
use Rattle.mdc_sound.specs.Placing.Spot.{UsedBlock}
use Rattle.mdc_sound.specs.StandingTable.{BreaksExpected, IsBlockOrMapPage, IsPageOfBlock, StandsTable, TableForests, forests_in_order}
use Rattle.table_blocks.specs.AroundBlock.{StandsAround}
use Rattle.table_blocks.specs.BlockChanges.{BreaksAround, IsPlaceAround, IsSpotChange, TurnsSpot}
use Rattle.table_blocks.specs.BlockNow.{AreOfCell, IsListedIn, IsOwnBlock, IsUsedNow}
use Rattle.table_blocks.specs.BlockSteps.{HoldsSuch, MovesLine, StepsTo}
use Rattle.table_blocks.proofs.AroundLemmas.{around_then, breaks_of_table, own_still, rows_step, runs_place_then, some_notes}
use Rattle.table_blocks.proofs.BlockPagesLemmas.{place_of_block}
use Rattle.table_blocks.proofs.ClosingLemmas.{turns_used}
use Rattle.table_blocks.proofs.LineStepLemmas.{map_around, place_of_map, replaces_line}
use Rattle.table_blocks.proofs.OpeningLemmas.{around_block, own_of_line}

module _ {S : Type 0} {g : Ghosts S} {After : Spot → Spot → Type 0} {Any : Damage → Type 0} (change : IsSpotChange After) (shape : Shape) (old mid : S) (def : TableDef) (line : BlockRow) (rows : ℕ)
    (defined : IsTableDef def.number def) (low : line.block < shape.extents) (tree : Tree) (root : tree.root ≡ def.roots.map) (width : tree.width ≡ 7) (there : (t : Forest) → HoldsTree g old tree t → HasRow line t)
    (changes : (t : Forest) → HoldsTree g old tree t → IsMapForm t → ChangesRowTo g mid tree line (used_row line.block rows) t) (count : length (g.state mid).work ≡ length (g.state old).work)
    (replaced : RunsOverPages g (IsTreePage g old tree) (IsTreePage g old tree) Any old mid None) where
  block_owned : (owners : List Kind) (forests : TableForests) → StandsTable g shape old def owners forests → StandsAround g shape old def owners forests line.block × IsOwnBlock shape owners def line.block
  block_owned owners forests st =
      let around = around_block shape old def owners forests defined st line.block in
      let held = (map_around tree def root width shape old owners forests line.block around).held in
      (around, own_of_line shape old def owners forests defined st line (there forests.map held) low)

  pub moves : (noted : SpaceNotes) (owners : List Kind) (forests : TableForests) → StandsAround g shape old def owners forests line.block → IsOwnBlock shape owners def line.block
      → (moves : MovesLine g After shape noted noted old mid def line.block (used_row line.block rows) owners forests) × (moves.owners_now ≡ owners)
      × ((p : ℕ) → sum_by (times p) (forests_in_order moves.forests_now) ≡ sum_by (times p) (forests_in_order forests))
  moves noted owners forests around own =
      let held = (map_around tree def root width shape old owners forests line.block around).held in
      replaces_line tree def root width change shape noted old mid line.block line (used_row line.block rows) owners forests around own refl refl
      (there forests.map held) (changes forests.map held around.map.form) replaced.touches replaced.works.steady.is_told count

  -- the call behind it expects slots of which this is so
  pub runs_behind : (IsSuch : List (Option Row) → Type 0) (Expected : List Kind → TableForests → Type 0)
      → ((owners : List Kind) (forests : TableForests) → StandsTable g shape old def owners forests → Expected owners forests → HoldsSuch IsSuch g shape old def line.block owners forests) → {fault : Option StoreFault} (new : S)
      → RunsOverPages g (IsPageOfBlock shape line.block) (IsPageOfBlock shape line.block) (BreaksAround g shape mid def line.block (HoldsSuch IsSuch g shape mid def line.block)) mid new fault
      → RunsOverPages g (IsBlockOrMapPage g shape old def line.block) (IsBlockOrMapPage g shape old def line.block) (BreaksExpected g shape old def Expected) old new fault
  runs_behind IsSuch Expected opened {fault} new run =
      let first : RunsOverPages g (IsPlaceAround g shape old def line.block) (IsPlaceAround g shape old def line.block) (BreaksAround g shape old def line.block (HoldsSuch IsSuch g shape old def line.block)) old mid None =
      runs_on (runs_wider replaced (λ p within is. place_of_map tree def root width shape old line.block p is) (λ p is. place_of_map tree def root width shape old line.block p is) (λ damage b. b)) in
      let second : RunsOverPages g (IsPlaceAround g shape mid def line.block) (IsPlaceAround g shape mid def line.block) (BreaksAround g shape mid def line.block (HoldsSuch IsSuch g shape mid def line.block)) mid new fault =
      runs_wider run (λ p within is owners forests st own. inr (inl is)) (λ p is owners forests st own. inr (inl is)) (λ damage b. b) in
      let whole =
      runs_place_then shape some_notes some_notes old mid new def line.block (HoldsSuch IsSuch g shape old def line.block) (HoldsSuch IsSuch g shape mid def line.block) fault steps first second in
      runs_wider whole (λ p within is. place_of_block shape old def line.block p block_owned is) (λ p is. place_of_block shape old def line.block p block_owned is)
      (λ damage breaks. breaks_of_table shape old def line.block (HoldsSuch IsSuch g shape old def line.block) Expected damage breaks
      (λ owners forests st expected. let o = block_owned owners forests st in (o.0, o.1, opened owners forests st expected)))
    where
      steps : (owners : List Kind) (forests : TableForests) → StandsAround g shape old def owners forests line.block → IsOwnBlock shape owners def line.block
          → (step : StepsTo g After shape some_notes some_notes old mid def line.block (HoldsSuch IsSuch g shape old def line.block) (HoldsSuch IsSuch g shape mid def line.block) owners forests)
          × ((p : ℕ) → 0 < sum_by (times p) (forests_in_order step.forests_now) → 0 < sum_by (times p) (forests_in_order forests))
      steps owners forests around own =
          let m = moves some_notes owners forests around own in (
            record {
              owners_now = m.0.owners_now;
              forests_now = m.0.forests_now;
              changes = m.0.changes;
              expects = λ e. record { slots = e.slots; rows = m.0.rows e.slots e.rows; such = e.such };
            },
            λ p some. omega (arith, some, m.2 p),
          )

  -- the rows in between
  pub rows_between : (owners : List Kind) (forests : TableForests) → StandsTable g shape old def owners forests → (slots : List (Option Row)) → HoldsRows g shape old def line.block slots → HoldsRows g shape mid def line.block slots
  rows_between owners forests st slots held = let o = block_owned owners forests st in (moves some_notes owners forests o.0 o.1).0.rows slots held

  -- the block has the rows then that its line counts
  pub turns_behind : (noted : SpaceNotes) (new : S) → Touches g (IsPageOfBlock shape line.block) mid new → (g.state new).is_told ≡ (g.state mid).is_told → length (g.state new).work ≡ length (g.state mid).work
      → (owners : List Kind) (forests : TableForests) → StandsTable g shape old def owners forests → (values : List Value) (slots left : List (Option Row)) → IsUsedNow g shape old def owners forests line.block values slots
      → rows ≡ count_rows left → AreOfCell def values left → HoldsRows g shape new def line.block left
      → (forests_now : TableForests) × TurnsSpot g After shape noted noted old new def line.block (UsedBlock left) owners forests owners forests_now
  turns_behind noted new touched told same_count owners forests st values slots left was counted cell held =
      let around = (block_owned owners forests st).0 in
      let m = moves noted owners forests around was.own in
      let move = m.0 in
      let own = own_still shape noted noted old mid def line.block owners move.owners_now forests move.forests_now move.changes was.own in
      let second = rows_step change shape noted mid new def line.block move.owners_now move.forests_now move.changes.stands own touched told same_count in
      let both = around_then change shape noted noted noted old mid new def line.block owners move.owners_now move.owners_now forests move.forests_now move.forests_now move.changes second in
      let now : IsUsedNow g shape new def move.owners_now move.forests_now line.block values left = record {
        own = own;
        line = subst (λ n. HasRow (used_row line.block n) move.forests_now.map) counted move.line_there;
        rows = held;
        cell = cell;
        listed = record {
          composite = subst (λ t. IsListedIn def (cell_parts def) values line.block t) (sym move.composite) was.listed.composite;
          dims = subst (λ ts. AllZip (λ dim index. IsListedIn def (rising_parts dim) values line.block index) def.dims ts) (sym move.dims) was.listed.dims;
        };
      } in (
        move.forests_now,
        subst (λ owners_now. TurnsSpot g After shape noted noted old new def line.block (UsedBlock left) owners forests owners_now move.forests_now) m.1
            (turns_used change shape noted noted old new def line.block owners move.owners_now forests move.forests_now defined both values left now),
      )
