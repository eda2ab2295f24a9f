-- Where a table stands, a block that is released touches and brings to hand pages of the table's trees and of the extent map alone.
use Rattle.std.proofs.Common.{◌≡◌, ◌<◌, ◌^◌, ◌∷◌, [], ◌++◌, ℕ, List, None, length, arith, inl, inr}
use Rattle.std.specs.Prelude.{Option}
use Rattle.std.proofs.lemmas.List.Sums.{sum_by-cons}
use Rattle.mdc_ast.specs.TableLimits.{IsTableDef}
use Rattle.mdc_ast.specs.declared.definition.TableDef.{TableDef}
use Rattle.mdc_ast.specs.declared.row.Cell.{Cell}
use Rattle.store_api.specs.RunsOverPages.{RunsOverPages}
use Rattle.store_api.specs.declared.fault.Damage.{Damage}
use Rattle.store_api.specs.declared.fault.StoreFault.{StoreFault}
use Rattle.store_api.specs.declared.pages.Pages.{Ghosts}
use Rattle.store_api.specs.declared.shape.Shape.{Shape}
use Rattle.store_api.proofs.FetchingLemmas.{only_as, only_wider}
use Rattle.store_api.proofs.FrameLemmas.{touches_as, touches_wider}
use Rattle.store_api.proofs.RunsOverPagesLemmas.{runs_wider}
use Rattle.extent_map.specs.declared.kind.Kind.{Kind}
use Rattle.extent_map.specs.declared.space_notes.SpaceNotes.{SpaceNotes}
use Rattle.entry_tree.specs.Forest.{Forest, times}
use Rattle.entry_tree.specs.HeldTrees.{HoldsTree, IsTreePage}
use Rattle.entry_tree.specs.declared.tree.Tree.{Tree}
use Rattle.block_map.specs.BlockMaps.{BreaksMapTree, HasRow, IsMapForm}
use Rattle.block_map.specs.MapChanges.{ChangesRowTo}
use Rattle.block_map.specs.declared.row.BlockRow.{BlockRow}
use Rattle.block_map.specs.declared.state.BlockState.{BlockState}
use Rattle.block_index.specs.Listing.{BreaksUnlisting}
use Rattle.table_trees.specs.TableTrees.{block_index_places, map_place, record_places}
use Rattle.table_trees.specs.TreesBeside.{IsTreesOrMapPage}
use Rattle.table_trees.proofs.SideBySideLemmas.{part_trees_or_map}
use Rattle.mdc_sound.specs.StandingTable.{BreaksExpected, StandsTable, TableForests, forests_in_order}
use Rattle.table_blocks.specs.AroundBlock.{StandsAround}
use Rattle.table_blocks.specs.BlockChanges.{BreaksAround, IsTreeOrMapPageOfTable}
use Rattle.table_blocks.specs.BlockNow.{IsOwnBlock, released_line}
use Rattle.table_blocks.specs.BlockSteps.{ExpectsReleasing}
use Rattle.table_blocks.proofs.AroundLemmas.{breaks_of_table}
use Rattle.table_blocks.proofs.MapOfTableLemmas.{map_of_table}
use Rattle.table_blocks.proofs.OpeningLemmas.{around_block, own_of_small}
use Rattle.table_blocks.proofs.ReleasingLemmas.{moves_line, runs_released, runs_replacing}

module _ {S : Type 0} {g : Ghosts S} (def : TableDef) (defined : IsTableDef def.number def) (tree : Tree) (root : tree.root ≡ def.roots.map) (width : tree.width ≡ 7) (shape : Shape) (noted : SpaceNotes) (old : S) (line : BlockRow) (given : BlockState)
    (cell : Cell) (small : line.block < 2 ^ 32) where
  map_tree_page : (p : ℕ) → IsTreePage g old tree p → IsTreeOrMapPageOfTable g shape old def p
  map_tree_page p is owners forests st =
      inl (omega (arith, is forests.map (map_of_table shape old def defined tree root width owners forests st), sum_by-cons (times p) forests.map (forests.composite ∷ forests.dims ++ forests.indexes)))

  -- what the table opens to, where it has the line
  opens : (owners : List Kind) (forests : TableForests) → StandsTable g shape old def owners forests → HasRow line forests.map → StandsAround g shape old def owners forests line.block × IsOwnBlock shape owners def line.block
  opens owners forests st there = (around_block shape old def owners forests defined st line.block, own_of_small shape old def owners forests defined st line there small)

  breaks_table : (damage : Damage) → BreaksAround g shape old def line.block (ExpectsReleasing def line cell) damage → BreaksExpected g shape old def (ExpectsReleasing def line cell) damage
  breaks_table damage breaks = breaks_of_table shape old def line.block (ExpectsReleasing def line cell) (ExpectsReleasing def line cell) damage breaks (λ owners forests st expects. let o = opens owners forests st expects.line_there in (o.0, o.1, expects))

  -- its line was to be replaced
  pub runs_replaced : (mid : S) (fault : Option StoreFault) → RunsOverPages g (IsTreePage g old tree) (IsTreePage g old tree) (BreaksMapTree g old tree (HasRow line)) old mid fault
      → RunsOverPages g (IsTreeOrMapPageOfTable g shape old def) (IsTreeOrMapPageOfTable g shape old def) (BreaksExpected g shape old def (ExpectsReleasing def line cell)) old mid fault
  runs_replaced mid fault run = record {
    works = run.works;
    touches = touches_wider run.touches map_tree_page;
    brings = only_wider run.brings map_tree_page;
    cause = (runs_wider (runs_replacing def defined tree root width shape noted old line given cell mid fault run) (λ p there is. is) (λ p is. is) breaks_table).cause;
  }

  -- it was replaced, and the block was to leave the block indexes
  pub runs_unlisted : (mid : S) → ((t : Forest) → HoldsTree g old tree t → HasRow line t) → ((t : Forest) → HoldsTree g old tree t → IsMapForm t → ChangesRowTo g mid tree line (released_line given line.block) t)
      → length (g.state mid).work ≡ length (g.state old).work → RunsOverPages g (IsTreePage g old tree) (IsTreePage g old tree) (BreaksMapTree g old tree (HasRow line)) old mid None
      → (new : S) (fault : Option StoreFault)
      → RunsOverPages g (IsTreesOrMapPage g shape mid (block_index_places def)) (IsTreesOrMapPage g shape mid (block_index_places def)) (BreaksUnlisting g shape noted mid def cell.values line.block) mid new fault
      → RunsOverPages g (IsTreeOrMapPageOfTable g shape old def) (IsTreeOrMapPageOfTable g shape old def) (BreaksExpected g shape old def (ExpectsReleasing def line cell)) old new fault
  runs_unlisted mid there changes count first new fault second =
      let loose = runs_wider (runs_released def defined tree root width shape noted old line given cell mid there changes count first small new fault second) (λ p there is. is) (λ p is. is) breaks_table in
      record {
        works = loose.works;
        touches = touches_as first.touches second.touches (λ p low is. map_tree_page p is) (λ p low is. late p is);
        brings = only_as first.brings second.brings map_tree_page late;
        cause = loose.cause;
      }
    where
      late : (p : ℕ) → IsTreesOrMapPage g shape mid (block_index_places def) p → IsTreeOrMapPageOfTable g shape old def p
      late p at owners forests st =
          let o = opens owners forests st (there forests.map (map_of_table shape old def defined tree root width owners forests st)) in
          let m = moves_line def defined tree root width shape noted old line given cell mid there changes count first owners forests o.0 o.1 in
          elim (part_trees_or_map shape mid (map_place def ∷ []) (block_index_places def) (record_places def) p at m.0.owners_now (forests_in_order m.0.forests_now) m.0.changes.stands.trees) [
            | inl here ↦ inl (omega (arith, here, m.2 p))
            | inr map ↦ inr map
          ]
