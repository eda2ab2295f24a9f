-- A block is released: its line in the block map first, and then its entries in the block indexes.
use Rattle.std.proofs.Common.{◌≡◌, ◌≢◌, ◌<◌, ◌^◌, ℕ, List, ◌∷◌, arith, length, refl, subst, sum_by, sym}
use Rattle.std.specs.Prelude.{None, Option}
use Rattle.mdc_values.specs.declared.value.Value.{Value}
use Rattle.mdc_ast.specs.TableLimits.{IsTableDef}
use Rattle.mdc_ast.specs.declared.definition.TableDef.{TableDef}
use Rattle.mdc_ast.specs.declared.row.Cell.{Cell}
use Rattle.store_api.specs.Frame.{Touches}
use Rattle.store_api.specs.RunsOverPages.{RunsOverPages}
use Rattle.store_api.specs.declared.fault.Damage.{Damage}
use Rattle.store_api.specs.declared.fault.StoreFault.{StoreFault}
use Rattle.store_api.specs.declared.pages.Pages.{Ghosts}
use Rattle.store_api.specs.declared.shape.Shape.{Shape}
use Rattle.store_api.proofs.RunsOverPagesLemmas.{runs_wider}
use Rattle.extent_map.specs.declared.kind.Kind.{Kind}
use Rattle.extent_map.specs.declared.space_notes.SpaceNotes.{SpaceNotes}
use Rattle.entry_tree.specs.Forest.{Forest, times}
use Rattle.entry_tree.specs.HeldTrees.{HoldsTree, IsTreePage}
use Rattle.entry_tree.specs.declared.tree.Tree.{Tree}
use Rattle.block_map.specs.BlockMaps.{BreaksMapTree, HasRow, IsMapForm}
use Rattle.block_map.specs.MapChanges.{ChangesRowTo}
use Rattle.block_map.specs.declared.row.BlockRow.{BlockRow}
use Rattle.block_map.specs.declared.state.BlockState.{BlockState}
use Rattle.block_map.specs.declared.state.BlockState.TheVariants.{Used}
use Rattle.block_index.specs.Listing.{BreaksUnlisting, UnlistsBlock}
use Rattle.table_trees.specs.TableTrees.{HasBlockIndexes, block_index_places}
use Rattle.table_trees.specs.TreesBeside.{IsTreesOrMapPage, StandTrees}
use Rattle.mdc_sound.specs.Placing.{AfterReturns}
use Rattle.mdc_sound.specs.StandingTable.{StandsTable, TableForests, forests_in_order}
use Rattle.mdc_sound.proofs.DefinitionTreesLemmas.{has_block_indexes}
use Rattle.table_blocks.specs.AroundBlock.{StandsAround}
use Rattle.table_blocks.specs.BlockChanges.{BreaksAround, IsPlaceAround}
use Rattle.table_blocks.specs.BlockNow.{IsKeyedCell, IsListedUnder, IsOwnBlock, released_line}
use Rattle.table_blocks.specs.BlockSteps.{ExpectsReleasing, MovesLine, ReleasesBlock, TurnsReleased}
use Rattle.table_blocks.proofs.AroundLemmas.{around_then, own_still, runs_place_then}
use Rattle.table_blocks.proofs.ClosingLemmas.{spot_of_released, turns_released}
use Rattle.table_blocks.proofs.IndexStepLemmas.{breaks_unlisting, indexes_around, names_unlisting, place_of_indexes, unlists_entries}
use Rattle.table_blocks.proofs.LineStepLemmas.{breaks_replacing, map_around, place_of_map, replaces_line}
use Rattle.table_blocks.proofs.ListedCellsLemmas.{listed_still}
use Rattle.table_blocks.proofs.OpeningLemmas.{around_block, own_of_small}
use Rattle.table_blocks.proofs.SpotChangesLemmas.{returns_change}

module _ {S : Type 0} {g : Ghosts S} where
  -- a call that expects less
  breaks_more : (shape : Shape) (s : S) (def : TableDef) (block : ℕ) (Expected More : List Kind → TableForests → Type 0) (damage : Damage) → ((owners : List Kind) (forests : TableForests) → More owners forests → Expected owners forests)
      → BreaksAround g shape s def block Expected damage → BreaksAround g shape s def block More damage
  breaks_more shape s def block Expected More damage less breaks = record {
    names = breaks.names;
    broken = λ owners forests st own more. breaks.broken owners forests st own (less owners forests more);
  }

  -- what taking a block out of the indexes may name, where it is listed under this cell
  breaks_under : (def : TableDef) (cell : Cell) (block : ℕ) → block < 2 ^ 32 → HasBlockIndexes def → (shape : Shape) (noted : SpaceNotes) (s : S) (damage : Damage) → BreaksUnlisting g shape noted s def cell.values block damage
      → BreaksAround g shape s def block (λ owners forests. IsListedUnder def forests cell block) damage
  breaks_under def cell block small has shape noted s damage breaks = record {
    names = names_unlisting g def cell.values block shape noted s damage breaks;
    broken = λ owners forests st own under.
        let of_row = breaks_unlisting def cell under.values block small has under.of_cell.cell_is under.of_cell.keys shape noted s damage breaks in
        of_row.broken owners forests st own under.listed;
  }

  module _ (def : TableDef) (defined : IsTableDef def.number def) (tree : Tree) (root : tree.root ≡ def.roots.map) (width : tree.width ≡ 7) (shape : Shape) (noted : SpaceNotes) (old : S) (line : BlockRow) (given : BlockState) (cell : Cell) where
    pub runs_replacing : (mid : S) (fault : Option StoreFault) → RunsOverPages g (IsTreePage g old tree) (IsTreePage g old tree) (BreaksMapTree g old tree (HasRow line)) old mid fault
        → RunsOverPages g (IsPlaceAround g shape old def line.block) (IsPlaceAround g shape old def line.block) (BreaksAround g shape old def line.block (ExpectsReleasing def line cell)) old mid fault
    runs_replacing mid fault run =
        runs_wider run (λ p there at. place_of_map tree def root width shape old line.block p at) (λ p at. place_of_map tree def root width shape old line.block p at)
        (λ damage breaks. breaks_more shape old def line.block (λ owners forests. HasRow line forests.map) (ExpectsReleasing def line cell) damage (λ owners forests expects. expects.line_there)
        (breaks_replacing tree def root width shape old line.block line damage breaks))

    module _ (mid : S) (there : (t : Forest) → HoldsTree g old tree t → HasRow line t) (changes : (t : Forest) → HoldsTree g old tree t → IsMapForm t → ChangesRowTo g mid tree line (released_line given line.block) t)
        (count : length (g.state mid).work ≡ length (g.state old).work) (first : RunsOverPages g (IsTreePage g old tree) (IsTreePage g old tree) (BreaksMapTree g old tree (HasRow line)) old mid None) where
      pub moves_line : (owners : List Kind) (forests : TableForests) → StandsAround g shape old def owners forests line.block → IsOwnBlock shape owners def line.block
          → (moves : MovesLine g AfterReturns shape noted noted old mid def line.block (released_line given line.block) owners forests) × (moves.owners_now ≡ owners)
          × ((p : ℕ) → sum_by (times p) (forests_in_order moves.forests_now) ≡ sum_by (times p) (forests_in_order forests))
      moves_line owners forests st own =
          let held = (map_around tree def root width shape old owners forests line.block st).held in
          replaces_line tree def root width returns_change shape noted old mid line.block line (released_line given line.block) owners forests st own refl refl (there forests.map held) (changes forests.map held st.map.form) first.touches
          first.works.steady.is_told count

      module _ (small : line.block < 2 ^ 32) (idle : given ≢ Used) (now : SpaceNotes) (new : S)
          (unlists : (owners : List Kind) (trees : List Forest) → StandTrees g shape mid owners (block_index_places def) trees → UnlistsBlock g shape noted now new def cell.values line.block owners trees)
          (count_now : length (g.state new).work ≡ length (g.state mid).work) (touched : Touches g (IsTreesOrMapPage g shape mid (block_index_places def)) mid new)
          (told : (g.state new).is_told ≡ (g.state mid).is_told) where
        pub releases_block : (owners : List Kind) (forests : TableForests) (values : List Value) → StandsAround g shape old def owners forests line.block → IsOwnBlock shape owners def line.block → IsKeyedCell def cell values
            → ReleasesBlock g shape noted now old new def line.block given values owners forests
        releases_block owners forests values st own is =
            let has = has_block_indexes def.number def defined in
            let moved = moves_line owners forests st own in
            let m = moved.0 in
            let own_mid = own_still shape noted noted old mid def line.block owners m.owners_now forests m.forests_now m.changes own in
            let stand = indexes_around def line.block has shape mid m.owners_now m.forests_now m.changes.stands in
            let u = unlists_entries def cell values line.block small has is.cell_is is.keys shape noted now mid new m.owners_now m.forests_now m.changes.stands own_mid
            (unlists m.owners_now (m.forests_now.composite ∷ m.forests_now.dims) stand) touched told count_now in
            let both = around_then returns_change shape noted noted now old mid new def line.block owners m.owners_now u.0.owners_now forests m.forests_now u.0.forests_now m.changes u.0.changes in
            let line_now = subst (HasRow (released_line given line.block)) (sym u.0.same_map) m.line_there in
            record {
              owners_now = u.0.owners_now;
              forests_now = u.0.forests_now;
              changes = both;
              line = line_now;
              spot = spot_of_released shape new def u.0.owners_now u.0.forests_now defined given idle line.block both.stands
                  (own_still shape noted now old new def line.block owners u.0.owners_now forests u.0.forests_now both own) line_now;
              pages = λ p some. omega (arith, u.2 p some, moved.2 p);
              unlisted = λ listed. u.1 (listed_still def forests m.forests_now values line.block m.composite m.dims listed);
            }

        pub turns_block : (owners : List Kind) (forests : TableForests) → StandsTable g shape old def owners forests → ExpectsReleasing def line cell owners forests
            → TurnsReleased g shape noted now old new def line.block given owners forests
        turns_block owners forests st expects =
            let own = own_of_small shape old def owners forests defined st line expects.line_there small in
            let released = releases_block owners forests expects.listed.values (around_block shape old def owners forests defined st line.block) own expects.listed.of_cell in
            record {
              owners_now = released.owners_now;
              forests_now = released.forests_now;
              turns = turns_released returns_change shape noted now old new def line.block owners released.owners_now forests released.forests_now defined released.changes given idle (record {
                own = own_still shape noted now old new def line.block owners released.owners_now forests released.forests_now released.changes own;
                line = released.line;
                unlisted = released.unlisted expects.listed.listed;
              });
              owned = released.changes.trees.kept.blocks;
              pages = released.pages;
            }

      pub runs_released : line.block < 2 ^ 32 → (new : S) (fault : Option StoreFault)
          → RunsOverPages g (IsTreesOrMapPage g shape mid (block_index_places def)) (IsTreesOrMapPage g shape mid (block_index_places def)) (BreaksUnlisting g shape noted mid def cell.values line.block) mid new fault
          → RunsOverPages g (IsPlaceAround g shape old def line.block) (IsPlaceAround g shape old def line.block) (BreaksAround g shape old def line.block (ExpectsReleasing def line cell)) old new fault
      runs_released small new fault second =
          let has = has_block_indexes def.number def defined in
          runs_place_then {After = AfterReturns} shape noted noted old mid new def line.block (ExpectsReleasing def line cell) (λ owners forests. IsListedUnder def forests cell line.block) fault
          (λ owners forests st own.
          let m = moves_line owners forests st own in (
            record {
              owners_now = m.0.owners_now;
              forests_now = m.0.forests_now;
              changes = m.0.changes;
              expects = λ expects. record {
                values = expects.listed.values;
                of_cell = expects.listed.of_cell;
                listed = listed_still def forests m.0.forests_now expects.listed.values line.block m.0.composite m.0.dims expects.listed.listed;
              };
            },
            λ p l. omega (arith, l, m.2 p),
          ))
          (runs_replacing mid None first)
          (runs_wider second (λ p there at. place_of_indexes def line.block has shape mid p at) (λ p at. place_of_indexes def line.block has shape mid p at) (breaks_under def cell line.block small has shape noted mid))
