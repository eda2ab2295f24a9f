-- The extent of a block comes to another owner, and nothing but the extent map and page 0 is touched: what stays around the block.
use Rattle.std.proofs.Common.{◌≡◌, ◌≢◌, ◌<◌, ℕ, IsTrue, List, [], ◌∷◌, length, set, ap, arith, sym, subst, ◌∙◌, get_or-set_other, get_or-set_same}
use Rattle.std.specs.List.{AllZip}
use Rattle.mdc_ast.specs.declared.definition.KeyPart.{KeyPart}
use Rattle.mdc_ast.specs.declared.definition.TableDef.{TableDef}
use Rattle.store_api.specs.Frame.{Touches}
use Rattle.store_api.specs.declared.pages.Pages.{Ghosts}
use Rattle.store_api.specs.declared.shape.Shape.{Shape}
use Rattle.extent_map.specs.Kinds.{is_used_place}
use Rattle.extent_map.specs.Map.{HoldsMap, IsSpacePage}
use Rattle.extent_map.specs.Owners.{IsUsedPage, extent_of, owner_of, place_in_extent}
use Rattle.extent_map.specs.declared.kind.Kind.{Kind}
use Rattle.extent_map.specs.declared.kind.Kind.TheVariants.{Free, Block}
use Rattle.extent_map.proofs.UsedPagesLemmas.{no_space_page}
use Rattle.entry_tree.specs.Forest.{Forest}
use Rattle.table_trees.specs.TableTrees.{cell_parts, rising_parts, tree_places}
use Rattle.table_trees.specs.TreesBeside.{table_of_block}
use Rattle.table_trees.proofs.SideBySideLemmas.{stand_on}
use Rattle.mdc_sound.specs.StandingTable.{TableForests, forests_in_order, pages_of}
use Rattle.mdc_sound.proofs.StandingTableLemmas.{block_below, block_kept}
use Rattle.mdc_sound.proofs.TableRowsLemmas.{KeepsBlockPages}
use Rattle.table_blocks.specs.AroundBlock.{IsIndexAround, StandsAround}
use Rattle.table_blocks.specs.BlockChanges.{SameSpot, spot_in}
use Rattle.table_blocks.proofs.OtherBlocksLemmas.{map_still, other_row_now, other_row_was, spot_after}
use Rattle.table_blocks.proofs.SpotChangesLemmas.{same_change}

-- ---- owners with another one in a place

module _ (owners : List Kind) (block : ℕ) (kind : Kind) where
  pub owner_here : (e : ℕ) → e ≡ block → block < length owners → owner_of (set owners block kind) e ≡ kind
  owner_here e here low = ap (owner_of (set owners block kind)) here ∙ get_or-set_same owners block kind Free low

  pub owner_there : (e : ℕ) → e ≢ block → owner_of (set owners block kind) e ≡ owner_of owners e
  owner_there e other = get_or-set_other owners block e kind Free other

  -- one that has no used page has none before
  pub used_were : (shape : Shape) → block < length owners → ((j : ℕ) → IsTrue (is_used_place j kind) → ⊥) → (p : ℕ) → IsUsedPage shape (set owners block kind) p → IsUsedPage shape owners p
  used_were shape low none p used =
      let other : extent_of shape p ≢ block = λ here.
      none (place_in_extent shape p) (subst (λ k. IsTrue (is_used_place (place_in_extent shape p) k)) (owner_here (extent_of shape p) here low) used.used) in
      record { page = used.page; used = subst (λ k. IsTrue (is_used_place (place_in_extent shape p) k)) (owner_there (extent_of shape p) other) used.used }

-- neither a free extent nor a block has a used index page
pub free_unused : (j : ℕ) → IsTrue (is_used_place j Free) → ⊥
free_unused j used = absurd cc

pub block_unused : (table j : ℕ) → IsTrue (is_used_place j (Block table)) → ⊥
block_unused table j used = absurd cc

-- ---- around the block

module _ {S : Type 0} {g : Ghosts S} (shape : Shape) (old new : S) (def : TableDef) (block : ℕ) (kind : Kind) (owners : List Kind) (forests : TableForests) (st : StandsAround g shape old def owners forests block)
    (touched : Touches g (IsSpacePage shape) old new) where
  block_stays : (e : ℕ) → owner_of owners e ≡ Block def.number → KeepsBlockPages shape (pages_of g old) (pages_of g new) e
  block_stays e is =
      block_kept (IsSpacePage shape) shape old new owners def.number e st.trees.map st.told touched (λ p of space. no_space_page shape p of.page space)
      (omega (arith, block_below owners e def.number is, st.trees.map.count)) is

  other_table : (e : ℕ) → e ≢ block → table_of_block (owner_of (set owners block kind) e) ≡ table_of_block (owner_of owners e)
  other_table e other = ap table_of_block (owner_there owners block kind e other)

  index_stays : (parts : List KeyPart) (index : Forest) → IsIndexAround shape (pages_of g old) def forests.map parts block index → IsIndexAround shape (pages_of g new) def forests.map parts block index
  index_stays parts index was = record {
    has = λ placed is. was.has placed (other_row_was shape (pages_of g old) (pages_of g new) def owners (set owners block kind) forests.map block (λ e low is. block_stays e is) other_table st.map placed is);
    only = λ y there other.
        let one = was.only y there other in
        (one.0, other_row_now shape (pages_of g old) (pages_of g new) def owners (set owners block kind) forests.map block (λ e low is. block_stays e is) other_table st.map one.0 one.1, one.2);
  }

  dims_stay : (dims : List (List ℕ)) (indexes : List Forest) → AllZip (λ dim index. IsIndexAround shape (pages_of g old) def forests.map (rising_parts dim) block index) dims indexes
      → AllZip (λ dim index. IsIndexAround shape (pages_of g new) def forests.map (rising_parts dim) block index) dims indexes
  dims_stay [] [] was = tt
  dims_stay [] (index ∷ indexes) was = absurd was
  dims_stay (dim ∷ dims) [] was = absurd was
  dims_stay (dim ∷ dims) (index ∷ indexes) was = (index_stays (rising_parts dim) index was.0, dims_stay dims indexes was.1)

  -- another extent is what it was
  pub spot_stays : (e : ℕ) → e ≢ block → spot_in g shape new def (set owners block kind) forests e ≡ spot_in g shape old def owners forests e
  spot_stays e other =
      sym (spot_after {After = SameSpot} same_change g shape old new def owners (set owners block kind) forests.map e (block_stays e) (other_table e other)
      (λ used was now. let wrong = sym was ∙ (sym (owner_there owners block kind e other) ∙ now) in absurd cc) (λ used was now. let wrong = sym was ∙ (sym (owner_there owners block kind e other) ∙ now) in absurd cc))

  pub around_owner : HoldsMap g shape new (set owners block kind) → ((p : ℕ) → IsUsedPage shape owners p → IsUsedPage shape (set owners block kind) p) → (g.state new).is_told ≡ (g.state old).is_told
      → StandsAround g shape new def (set owners block kind) forests block
  around_owner map still told = record {
    told = told ∙ st.told;
    trees = stand_on (IsSpacePage shape) shape old new owners (set owners block kind) (tree_places def) (forests_in_order forests) st.trees map still touched told
        (λ p l space. let used = st.trees.used p l in no_space_page shape p used.page space);
    map = map_still shape (pages_of g old) (pages_of g new) def owners (set owners block kind) forests.map block (λ e low is. block_stays e is) other_table st.map;
    composite = index_stays (cell_parts def) forests.composite st.composite;
    dims = dims_stay def.dims forests.dims st.dims;
  }
