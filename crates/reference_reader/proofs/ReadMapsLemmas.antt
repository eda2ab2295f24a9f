-- The block map of a table, and what breaks its rules.
use Rattle.std.proofs.Common.{◌≡◌, ◌≤◌, ◌+◌, ◌==◌, ℕ, zero, suc, List, [], ◌∷◌, refl, sym, subst, ◌∙◌, ap, arith, inl, inr, Bool, true, false, cond}
use Rattle.std.specs.Prelude.{IsTrue, Contains, Option, Some, None, map, filter}
use Rattle.mdc_ast.specs.declared.definition.TableDef.{TableDef}
use Rattle.store_api.specs.Extents.{first_page_of}
use Rattle.store_api.specs.Frame.{NoPage}
use Rattle.store_api.specs.RunsOverPages.{RunsOverPages}
use Rattle.store_api.specs.StoreState.{StoreState}
use Rattle.store_api.specs.declared.fault.Damage.{Damage}
use Rattle.store_api.specs.declared.fault.StoreFault.{StoreFault}
use Rattle.store_api.specs.declared.fault.StoreFault.TheVariants.{Damaged, Memory}
use Rattle.store_api.specs.declared.pages.Pages.{Ghosts}
use Rattle.store_api.specs.declared.shape.Shape.{Shape}
use Rattle.store_api.proofs.RunsOverPagesLemmas.{runs_damage, runs_memory, runs_wider}
use Rattle.entry_tree.specs.Forest.{Forest, IsTree}
use Rattle.entry_tree.specs.HeldTrees.{HoldsTree, IsTreePage, nodes_in}
use Rattle.entry_tree.specs.declared.tree.Tree.{Tree}
use Rattle.block_map.specs.BlockMaps.{AnyMap, BreaksMapTree}
use Rattle.block_map.specs.MapLines.{MapLine, map_lines, used_blocks}
use Rattle.table_trees.specs.TableTrees.{map_place}
use Rattle.table_trees.specs.TreesBeside.{HoldsTreeAt}
use Rattle.table_trees.specs.ToldPages.{HasTree, PageList}
use Rattle.mdc_sound.specs.BlockLines.{mapped_line}
use Rattle.mdc_sound.specs.BlockRules.{IsBlockPageSound}
use Rattle.mdc_sound.specs.Breaks.{BreaksRule}
use Rattle.mdc_sound.proofs.StandsForLemmas.{one_tree_at}
use Rattle.reference_reader.specs.ReadPages.{BreaksBlock, BreaksTableRows, IsMappedTable, IsRowsPage}

-- damage by its rule and its page
pub breaks_named : (shape : Shape) (pages : PageList) (damage : Damage) (rule page : ℕ) → damage.rule ≡ rule → damage.page ≡ page → BreaksRule shape pages rule page → BreaksRule shape pages damage.rule damage.page
breaks_named shape pages damage rule page rule_is page_is breaks =
    subst (λ n. BreaksRule shape pages n damage.page) (sym rule_is) (subst (BreaksRule shape pages rule) (sym page_is) breaks)

contains_later : (x : MapLine) (xs : List MapLine) (y : MapLine) → Contains xs y → Contains (x ∷ xs) y
contains_later x xs y (k, low, at) = (suc k, omega (arith, low), at)

in_filtered : (used : Bool) (line : MapLine) (lines : List MapLine) (block : ℕ) → Contains (map (λ l. l.block) (cond used (line ∷ filter (λ l. l.state == 1) lines) (filter (λ l. l.state == 1) lines))) block
    → (Contains (map (λ l. l.block) (filter (λ l. l.state == 1) lines)) block → (l : MapLine) × Contains lines l × (l.block ≡ block)) → (l : MapLine) × Contains (line ∷ lines) l × (l.block ≡ block)
in_filtered false line lines block there later =
    let found = later there in
    (found.0, contains_later line lines found.0 found.1, found.2)
in_filtered true line lines block (zero, low, at) later = (line, (0, omega arith, refl), at)
in_filtered true line lines block (suc k, low, at) later =
    let found = later (k, omega (arith, low), at) in
    (found.0, contains_later line lines found.0 found.1, found.2)

-- a Used block has an entry
line_of_block : (lines : List MapLine) (block : ℕ) → Contains (map (λ line. line.block) (filter (λ line. line.state == 1) lines)) block
    → (line : MapLine) × Contains lines line × (line.block ≡ block)
line_of_block [] block (k, low, at) = absurd (omega (arith, low))
line_of_block (line ∷ lines) block there = in_filtered (line.state == 1) line lines block there (line_of_block lines block)

-- a Used block that isn't an extent breaks rule 6
pub breaks_past : (shape : Shape) (pages : PageList) (def : TableDef) (map_tree : Forest) (block : ℕ) → IsMappedTable pages def.number def map_tree → Contains (used_blocks map_tree) block → shape.extents ≤ block
    → BreaksRule shape pages 6 def.roots.map
breaks_past shape pages def map_tree block shows there past =
    let (line, inside, is) = line_of_block (map_lines map_tree) block there in
    BreaksRule.map_past def.number def line (record {
      within = shows.within;
      defines = shows.defines;
      map = λ t has. subst (λ (u : Forest). Contains (map_lines u) line) (one_tree_at pages (map_place def) map_tree t shows.has_map has) inside;
    }) (subst (λ n. shape.extents ≤ n) (sym is) past)

-- damage of a Used block, named in a later state that tells the same
pub breaks_used_block : (shape : Shape) (old now : StoreState) (def : TableDef) (block : ℕ) (damage : Damage) → now.is_told ≡ old.is_told → now.work ≡ old.work
    → (IsTrue old.is_told → (map_tree : Forest) → HasTree old.work (map_place def) map_tree → Contains (used_blocks map_tree) block)
    → BreaksBlock shape now def block damage → BreaksTableRows shape old def damage
breaks_used_block shape old now def block damage tells works used b = record {
  broken = λ told map_tree shows.
      breaks_named shape old.work damage 7 (first_page_of shape.extents shape.extent_pages block + b.place) b.rule b.page
      (BreaksRule.row_page def.number def (mapped_line map_tree block) b.place (record {
        within = shows.within;
        defines = shows.defines;
        map = λ t has. (used told t has, ap (λ (u : Forest). mapped_line u block) (sym (one_tree_at old.work (map_place def) map_tree t shows.has_map has)));
      }) b.within
      (λ sound. b.broken (tells ∙ told) (subst (λ pages. IsBlockPageSound shape pages def block b.place) (sym works) sound)));
}

module _ {S : Type 0} {g : Ghosts S} where
  -- a tree at the place of a block map is what the handle of the map names
  pub held_by_handle : (s : S) (tree : Tree) (def : TableDef) (t : Forest) → tree.root ≡ def.roots.map → tree.width ≡ 7 → HoldsTreeAt g s (map_place def) t → HoldsTree g s tree t
  held_by_handle s tree def t root wide h = record {
    is_tree = subst (λ (w : ℕ). IsTree (nodes_in w (g.state s)) tree.root t) (sym wide) (subst (λ (r : ℕ). IsTree (nodes_in 7 (g.state s)) r t) (sym root) h.is_tree);
    trim = h.trim;
  }

  -- the damage of a block map
  breaks_map : (shape : Shape) (s : S) (tree : Tree) (def : TableDef) (damage : Damage) → tree.root ≡ def.roots.map
      → (IsTrue (g.state s).is_told → (t : Forest) → HasTree (g.state s).work (map_place def) t → HoldsTree g s tree t) → BreaksMapTree g s tree AnyMap damage → BreaksTableRows shape (g.state s) def damage
  breaks_map shape s tree def damage root held (inl b) = record { broken = λ told map_tree shows. absurd (b.broken map_tree (held told map_tree shows.has_map)) }
  breaks_map shape s tree def damage root held (inr b) = record {
    broken = λ told map_tree shows.
        breaks_named shape (g.state s).work damage 6 def.roots.map b.rule (b.page ∙ root)
        (BreaksRule.map_form def.number def shows.within shows.defines (λ t has form. b.broken t (held told t has) form tt));
  }

  -- a run that ends with damage, and one behind which memory ran out
  pub runs_to_damage : {Mine Kind : ℕ → Type 0} {Breaks : Damage → Type 0} {old new : S} (damage : Damage) (fault : StoreFault) → fault ≡ Damaged damage → RunsOverPages g Mine Kind Breaks old new None
      → Breaks damage → RunsOverPages g Mine Kind Breaks old new (Some fault)
  runs_to_damage {Mine} {Kind} {Breaks} {old} {new} damage fault is run breaks =
      subst (λ (f : StoreFault). RunsOverPages g Mine Kind Breaks old new (Some f)) (sym is) (runs_damage run breaks)

  pub runs_to_memory : {Mine Kind : ℕ → Type 0} {Breaks : Damage → Type 0} {old new : S} (fault : StoreFault) → fault ≡ Memory → RunsOverPages g Mine Kind Breaks old new None
      → RunsOverPages g Mine Kind Breaks old new (Some fault)
  runs_to_memory {Mine} {Kind} {Breaks} {old} {new} fault is run =
      subst (λ (f : StoreFault). RunsOverPages g Mine Kind Breaks old new (Some f)) (sym is) (runs_memory run)

  -- a run over the block map
  pub runs_over_map : {old new : S} {fault : Option StoreFault} (shape : Shape) (tree : Tree) (def : TableDef) → tree.root ≡ def.roots.map
      → (IsTrue (g.state old).is_told → (t : Forest) → HasTree (g.state old).work (map_place def) t → HoldsTree g old tree t)
      → RunsOverPages g NoPage (IsTreePage g old tree) (BreaksMapTree g old tree AnyMap) old new fault
      → RunsOverPages g NoPage (IsRowsPage shape (g.state old) def) (BreaksTableRows shape (g.state old) def) old new fault
  runs_over_map {old = old} shape tree def root held run =
      runs_wider run (λ p there mine. mine) (λ p is told map_tree has. inl (is map_tree (held told map_tree has))) (λ damage b. breaks_map shape old tree def damage root held b)
