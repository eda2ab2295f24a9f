-- Runs that give the blocks of a table back: which pages they touch, and which damage they name.
use Rattle.std.proofs.Common.{◌≡◌, ◌<◌, ◌≤◌, ◌+◌, ℕ, List, [], ◌∷◌, None, Some, length, take, get_or, ◌≢◌, refl, ap, arith, sym, ◌∙◌, subst, inl, inr, IsTrue}
use Rattle.std.specs.Prelude.{AllPairs, Contains, Option}
use Rattle.std.proofs.lemmas.List.{take_more}
use Rattle.std.proofs.lemmas.List.Elements.{Contains-get_or}
use Rattle.std.proofs.lemmas.List.Sums.{sum_by-cons}
use Rattle.mdc_ast.specs.declared.definition.TableDef.{TableDef}
use Rattle.store_api.specs.Frame.{NoPage, OnlyPage}
use Rattle.store_api.specs.RunsOverPages.{RunsOverPages}
use Rattle.store_api.specs.declared.fault.Damage.{Damage}
use Rattle.store_api.specs.declared.fault.StoreFault.{StoreFault}
use Rattle.store_api.specs.declared.fault.StoreFault.TheVariants.{Damaged}
use Rattle.store_api.specs.declared.pages.Pages.{Ghosts}
use Rattle.store_api.specs.declared.shape.Shape.{Shape}
use Rattle.store_api.proofs.RunsOverPagesLemmas.{runs_damage, runs_then, runs_wider}
use Rattle.extent_map.specs.Damages.{BreaksBlock}
use Rattle.extent_map.specs.Kinds.{is_block_kind}
use Rattle.extent_map.specs.Map.{HoldsMap, IsMapPage, map_page_of}
use Rattle.extent_map.specs.Owners.{AreRightNotes, owner_of, without_block}
use Rattle.extent_map.specs.declared.kind.Kind.{Kind}
use Rattle.extent_map.specs.declared.space_notes.SpaceNotes.{SpaceNotes}
use Rattle.extent_map.proofs.DamagesLemmas.{breaks_block_never}
use Rattle.extent_map.proofs.HoldsMapLemmas.{is_map_page}
use Rattle.entry_tree.specs.Forest.{Forest, times}
use Rattle.entry_tree.specs.HeldTrees.{HoldsTree, IsTreePage}
use Rattle.entry_tree.specs.declared.tree.Tree.{Tree}
use Rattle.block_map.specs.BlockMaps.{AnyMap, BreaksMapTree}
use Rattle.block_map.specs.MapLines.{blocks_of_state}
use Rattle.table_trees.specs.TableTrees.{map_place, place_of_tree, tree_places}
use Rattle.table_trees.specs.TreesBeside.{IsTreesOrMapPage, StandTrees}
use Rattle.table_trees.proofs.TreesBesideLemmas.{holds_at}
use Rattle.mdc_sound.specs.StandingTable.{NamesTablePart}
use Rattle.stored_catalog.specs.TreeRuns.{BreaksGiving, GivesBlocks, StandsToGive, without_blocks}
use Rattle.stored_catalog.proofs.BlocksInMapLemmas.{not_among, state_differs}
use Rattle.stored_catalog.proofs.GivenBlocksLemmas.{gives_more, owner_without}

-- the handle of a table's block map
pub at_map_place : (tree : Tree) (def : TableDef) → tree.root ≡ def.roots.map → tree.width ≡ 7 → place_of_tree tree ≡ map_place def
at_map_place tree def root wide = rw (root, wide) refl

module _ {S : Type 0} (g : Ghosts S) (shape : Shape) (old : S) (def : TableDef) (tree : Tree) (at : place_of_tree tree ≡ map_place def) where
  -- the block map of a table whose trees stand is that tree
  pub first_held : (owners : List Kind) (map_tree : Forest) (rest : List Forest) → StandTrees g shape old owners (tree_places def) (map_tree ∷ rest) → HoldsTree g old tree map_tree
  first_held owners map_tree rest st = holds_at old tree (map_place def) map_tree at st.held.0

  root_is : tree.root ≡ def.roots.map
  root_is = ap (λ place. place.root) at

  page_of_map : (p : ℕ) → IsTreePage g old tree p → IsTreesOrMapPage g shape old (tree_places def) p
  page_of_map p mine owners [] st = absurd st.held
  page_of_map p mine owners (t ∷ rest) st = inl (omega (arith, mine t (first_held owners t rest st), sum_by-cons (times p) t rest))

  breaks_listing : (state : ℕ) (damage : Damage) → BreaksMapTree g old tree AnyMap damage → BreaksGiving g shape old def state damage
  breaks_listing state damage (inl b) = record {
    names = NamesTablePart.tree b.rule (0, omega arith, sym (b.page ∙ root_is));
    broken = λ owners map_tree rest st. b.broken map_tree (first_held owners map_tree rest st.trees);
  }
  breaks_listing state damage (inr b) = record {
    names = NamesTablePart.block_map b.rule (b.page ∙ root_is);
    broken = λ owners map_tree rest st. b.broken map_tree (first_held owners map_tree rest st.trees) st.form tt;
  }

  -- its entries are read
  pub listing_run : {new : S} {fault : Option StoreFault} (state : ℕ) → RunsOverPages g NoPage (IsTreePage g old tree) (BreaksMapTree g old tree AnyMap) old new fault
      → RunsOverPages g (IsMapPage shape) (IsTreesOrMapPage g shape old (tree_places def)) (BreaksGiving g shape old def state) old new fault
  listing_run state run = runs_wider run (λ p there none. absurd none) page_of_map (breaks_listing state)

  -- ---- a block of the list

  module _ (state : ℕ) (mid : S) (items : List ℕ) (i : ℕ) (low : i < length items)
      (listed : (map_tree : Forest) → HoldsTree g old tree map_tree → items ≡ blocks_of_state state map_tree) where
    in_list : (owners : List Kind) (map_tree : Forest) (rest : List Forest) → StandTrees g shape old owners (tree_places def) (map_tree ∷ rest) → Contains (blocks_of_state state map_tree) (get_or items i 0)
    in_list owners map_tree rest st = subst (λ xs. Contains xs (get_or items i 0)) (listed map_tree (first_held owners map_tree rest st)) (Contains-get_or items i 0 low)

    -- which lies past the extents
    pub breaks_past : shape.extents ≤ get_or items i 0 → BreaksGiving g shape old def state (record { page = def.roots.map; rule = 6 })
    breaks_past past = record {
      names = NamesTablePart.block_map refl refl;
      broken = λ owners map_tree rest st. omega (arith, past, (st.blocks (get_or items i 0) (in_list owners map_tree rest st.trees)).0);
    }

    pub past_run : {fault : StoreFault} → fault ≡ Damaged (record { page = def.roots.map; rule = 6 }) → shape.extents ≤ get_or items i 0
        → RunsOverPages g (IsMapPage shape) (IsTreesOrMapPage g shape old (tree_places def)) (BreaksGiving g shape old def state) old mid None
        → RunsOverPages g (IsMapPage shape) (IsTreesOrMapPage g shape old (tree_places def)) (BreaksGiving g shape old def state) old mid (Some fault)
    past_run is past run =
        subst (λ f. RunsOverPages g (IsMapPage shape) (IsTreesOrMapPage g shape old (tree_places def)) (BreaksGiving g shape old def state) old mid (Some f)) (sym is) (runs_damage run (breaks_past past))

    module _ (before noted : SpaceNotes) (gives : (owners : List Kind) → HoldsMap g shape old owners → GivesBlocks g shape before noted mid owners (take i items)) where
      still_block : (owners : List Kind) (map_tree : Forest) (rest : List Forest) → StandsToGive g shape old def state owners map_tree rest
          → IsTrue (is_block_kind (owner_of (without_blocks owners (take i items)) (get_or items i 0)))
      still_block owners map_tree rest st =
          let is = listed map_tree (first_held owners map_tree rest st.trees) in
          let once = subst (λ xs. AllPairs (λ a b. a ≢ b) xs) (sym is) (state_differs map_tree state st.form) in
          subst (λ k. IsTrue (is_block_kind k)) (sym (owner_without owners (take i items) (get_or items i 0) (λ there. not_among items i once low there)))
          (st.blocks (get_or items i 0) (in_list owners map_tree rest st.trees)).1

      names_block : (damage : Damage) → BreaksBlock g shape mid (get_or items i 0) damage → NamesTablePart shape def damage
      names_block damage (inl (inl b)) = NamesTablePart.count b.rule b.page
      names_block damage (inl (inr (k, b))) = NamesTablePart.map_page b.rule (omega (arith, b.page), omega (arith, b.page, b.on_map))
      names_block damage (inr b) = NamesTablePart.map_page b.rule (omega (arith, b.page), omega (arith, b.page, b.on_map))

      breaks_block : (damage : Damage) → BreaksBlock g shape mid (get_or items i 0) damage → BreaksGiving g shape old def state damage
      breaks_block damage b = record {
        names = names_block damage b;
        broken = λ owners map_tree rest st. breaks_block_never (get_or items i 0) damage (gives owners st.trees.map).extents (still_block owners map_tree rest st) b;
      }

      on_map_page : get_or items i 0 < shape.extents → (p : ℕ) → OnlyPage (map_page_of (get_or items i 0)) p → IsMapPage shape p
      on_map_page within p only = is_map_page shape (get_or items i 0) p within only

      -- and which is given back
      pub giving_run : {new : S} {fault : Option StoreFault} → get_or items i 0 < shape.extents
          → RunsOverPages g (IsMapPage shape) (IsTreesOrMapPage g shape old (tree_places def)) (BreaksGiving g shape old def state) old mid None
          → RunsOverPages g (OnlyPage (map_page_of (get_or items i 0))) (OnlyPage (map_page_of (get_or items i 0))) (BreaksBlock g shape mid (get_or items i 0)) mid new fault
          → RunsOverPages g (IsMapPage shape) (IsTreesOrMapPage g shape old (tree_places def)) (BreaksGiving g shape old def state) old new fault
      giving_run within run more = runs_then run more (λ p there only. on_map_page within p only) (λ p only owners trees st. inr (on_map_page within p only)) breaks_block

      pub given_more : (next : SpaceNotes) (new : S) → ((owners : List Kind) → HoldsMap g shape mid owners → IsTrue (is_block_kind (owner_of owners (get_or items i 0))))
          → ((owners : List Kind) → HoldsMap g shape mid owners → HoldsMap g shape new (without_block owners (get_or items i 0)))
          → ((owners : List Kind) → AreRightNotes shape noted owners → AreRightNotes shape next (without_block owners (get_or items i 0)))
          → (owners : List Kind) → HoldsMap g shape old owners → GivesBlocks g shape before next new owners (take (i + 1) items)
      given_more next new block held notes owners map =
          let gave = gives owners map in
          subst (GivesBlocks g shape before next new owners) (sym (take_more items i 0 low))
          (gives_more g shape before noted next mid new owners (take i items) (get_or items i 0) gave (block _ gave.extents) (held _ gave.extents) (notes _))
