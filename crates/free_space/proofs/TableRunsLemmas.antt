-- Runs of calls that read the block map and the composite index of a table that stands, and the damage that they may name.
use Rattle.std.proofs.Common.{◌≡◌, ℕ, List, ◌∷◌, ◌++◌, arith, sym, ◌∙◌, subst, inl, inr}
use Rattle.std.specs.Prelude.{Contains, Option, Some, None}
use Rattle.std.proofs.lemmas.List.Sums.{sum_by-cons}
use Rattle.store_api.specs.Frame.{NoPage}
use Rattle.store_api.specs.RunsOverPages.{RunsOverPages}
use Rattle.store_api.specs.declared.fault.Damage.{Damage}
use Rattle.store_api.specs.declared.fault.StoreFault.{StoreFault}
use Rattle.store_api.specs.declared.fault.StoreFault.TheVariants.{Damaged}
use Rattle.store_api.specs.declared.pages.Pages.{Ghosts}
use Rattle.store_api.specs.declared.shape.Shape.{Shape}
use Rattle.store_api.proofs.RunsOverPagesLemmas.{runs_damage, runs_then, runs_wider}
use Rattle.extent_map.specs.declared.kind.Kind.{Kind}
use Rattle.mdc_ast.specs.declared.definition.TableDef.{TableDef}
use Rattle.entry_tree.specs.Forest.{times}
use Rattle.entry_tree.specs.HeldTrees.{HoldsTree, IsTreePage}
use Rattle.entry_tree.specs.declared.tree.Tree.{Tree}
use Rattle.block_map.specs.BlockMaps.{AnyMap, BreaksMapTree}
use Rattle.block_map.specs.MapLines.{used_blocks}
use Rattle.table_trees.specs.TableTrees.{composite_place, map_place, place_of_tree}
use Rattle.table_trees.specs.TreesBeside.{BreaksTreeAt, HoldsTreeAt, IsTreePageAt}
use Rattle.table_trees.proofs.TableTreesLemmas.{same_tree_place}
use Rattle.mdc_sound.specs.StandingTable.{BreaksExpected, BreaksTable, IsTableTreePage, NamesTablePart, StandsTable, TableForests}
use Rattle.mdc_sound.proofs.MappedBlocksLemmas.{map_form}
use Rattle.mdc_sound.proofs.StandingTableLemmas.{stands_same}

module _ {S : Type 0} {g : Ghosts S} where
  module _ (shape : Shape) (s : S) (def : TableDef) where
    -- the block map is the tree of its handle
    pub holds_block_map : (tree : Tree) (owners : List Kind) (forests : TableForests) → tree.root ≡ def.roots.map → tree.width ≡ 7 → StandsTable g shape s def owners forests → HoldsTree g s tree forests.map
    holds_block_map tree owners forests root width st =
        let at : HoldsTreeAt g s (place_of_tree tree) forests.map = subst (λ place. HoldsTreeAt g s place forests.map) (sym (same_tree_place (place_of_tree tree) (map_place def) root width)) st.trees.held.0 in
        record { is_tree = at.is_tree; trim = at.trim }

    -- its pages, and those of the composite index, are pages of the table's trees
    pub map_page_of_table : (tree : Tree) (p : ℕ) → tree.root ≡ def.roots.map → tree.width ≡ 7 → IsTreePage g s tree p → IsTableTreePage g shape s def p
    map_page_of_table tree p root width is owners forests st =
        omega (arith, is forests.map (holds_block_map tree owners forests root width st), sum_by-cons (times p) forests.map (forests.composite ∷ forests.dims ++ forests.indexes))

    pub index_page_of_table : (p : ℕ) → IsTreePageAt g s (composite_place def) p → IsTableTreePage g shape s def p
    index_page_of_table p is owners forests st =
        omega (arith, is forests.composite st.trees.held.1.0, sum_by-cons (times p) forests.map (forests.composite ∷ forests.dims ++ forests.indexes), sum_by-cons (times p) forests.composite (forests.dims ++ forests.indexes))

    -- what the call on the block map names
    pub breaks_map_of_table : (tree : Tree) (Expected : List Kind → TableForests → Type 0) (damage : Damage) → tree.root ≡ def.roots.map → tree.width ≡ 7 → BreaksMapTree g s tree AnyMap damage → BreaksExpected g shape s def Expected damage
    breaks_map_of_table tree Expected damage root width (inl b) = record {
      names = NamesTablePart.tree b.rule (0, omega arith, sym (b.page ∙ root));
      broken = λ owners forests st expected. b.broken forests.map (holds_block_map tree owners forests root width st);
    }
    breaks_map_of_table tree Expected damage root width (inr b) = record {
      names = NamesTablePart.block_map b.rule (b.page ∙ root);
      broken = λ owners forests st expected. b.broken forests.map (holds_block_map tree owners forests root width st) (map_form shape owners def forests.map st.map) tt;
    }

    -- and that on the composite index
    pub breaks_index_of_table : (damage : Damage) → BreaksTreeAt g s (composite_place def) damage → BreaksTable g shape s def damage
    breaks_index_of_table damage b = record {
      names = NamesTablePart.tree b.rule (1, omega arith, sym b.page);
      broken = λ owners forests st. b.broken forests.composite st.trees.held.1.0;
    }

  -- a call on the block map, that expects a block to be Used
  pub runs_block_map : {old new : S} {fault : Option StoreFault} (shape : Shape) (def : TableDef) (block : ℕ) (tree : Tree) → tree.root ≡ def.roots.map → tree.width ≡ 7
      → RunsOverPages g NoPage (IsTreePage g old tree) (BreaksMapTree g old tree AnyMap) old new fault
      → RunsOverPages g NoPage (IsTableTreePage g shape old def) (BreaksExpected g shape old def (λ owners forests. Contains (used_blocks forests.map) block)) old new fault
  runs_block_map {old} {new} shape def block tree root width run =
      runs_wider run (λ p there none. absurd none) (λ p is. map_page_of_table shape old def tree p root width is)
      (λ damage b. breaks_map_of_table shape old def tree (λ (owners : List Kind) (forests : TableForests). Contains (used_blocks forests.map) block) damage root width b)

  -- a run that meets damage
  pub runs_broken : {Mine Kinds : ℕ → Type 0} {Breaks : Damage → Type 0} {old new : S} {damage : Damage} (fault : StoreFault) → fault ≡ Damaged damage → RunsOverPages g Mine Kinds Breaks old new None → Breaks damage
      → RunsOverPages g Mine Kinds Breaks old new (Some fault)
  runs_broken {Mine} {Kinds} {Breaks} {old} {new} {damage} fault is run breaks = subst (λ (f : StoreFault). RunsOverPages g Mine Kinds Breaks old new (Some f)) (sym is) (runs_damage run breaks)

  -- ---- one call more, where the work stayed

  pub breaks_table_same : (shape : Shape) (old mid : S) (def : TableDef) (damage : Damage) → (g.state mid).is_told ≡ (g.state old).is_told → (g.state mid).work ≡ (g.state old).work
      → BreaksTable g shape mid def damage → BreaksTable g shape old def damage
  breaks_table_same shape old mid def damage told same b = record { names = b.names; broken = λ owners forests st. b.broken owners forests (stands_same shape old mid def owners forests told same st) }

  pub runs_on_index : {old mid new : S} {fault : Option StoreFault} (shape : Shape) (def : TableDef) → RunsOverPages g NoPage (IsTableTreePage g shape old def) (BreaksTable g shape old def) old mid None
      → (g.state mid).work ≡ (g.state old).work → RunsOverPages g NoPage (IsTreePageAt g mid (composite_place def)) (BreaksTreeAt g mid (composite_place def)) mid new fault
      → RunsOverPages g NoPage (IsTableTreePage g shape old def) (BreaksTable g shape old def) old new fault
  runs_on_index {old} {mid} {new} shape def first same second =
      let told = first.works.steady.is_told in
      runs_then first second (λ p there none. absurd none)
      (λ p is owners forests st. index_page_of_table shape mid def p is owners forests (stands_same shape old mid def owners forests told same st))
      (λ damage b. breaks_table_same shape old mid def damage told same (breaks_index_of_table shape mid def damage b))

  -- the call expects a block to be Used, and wherever the table stands it is
  pub runs_on_used : {old mid new : S} {fault : Option StoreFault} (shape : Shape) (def : TableDef) (block : ℕ) → RunsOverPages g NoPage (IsTableTreePage g shape old def) (BreaksTable g shape old def) old mid None
      → (g.state mid).work ≡ (g.state old).work → ((owners : List Kind) (forests : TableForests) → StandsTable g shape old def owners forests → Contains (used_blocks forests.map) block)
      → RunsOverPages g NoPage (IsTableTreePage g shape mid def) (BreaksExpected g shape mid def (λ owners forests. Contains (used_blocks forests.map) block)) mid new fault
      → RunsOverPages g NoPage (IsTableTreePage g shape old def) (BreaksTable g shape old def) old new fault
  runs_on_used {old} {mid} {new} shape def block first same used second =
      let told = first.works.steady.is_told in
      runs_then first second (λ p there none. absurd none) (λ p is owners forests st. is owners forests (stands_same shape old mid def owners forests told same st))
      (λ damage b. record { names = b.names; broken = λ owners forests st. b.broken owners forests (stands_same shape old mid def owners forests told same st) (used owners forests st) })
