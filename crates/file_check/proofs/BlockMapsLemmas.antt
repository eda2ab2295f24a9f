-- The block map of a table, as its handle reads it, and the lines of it.
use Rattle.std.proofs.Common.{◌≡◌, ◌≤◌, ◌<◌, ℕ, List, [], ◌∷◌, ap, sym, subst, arith, inl, inr, Result, Ok, Err}
use Rattle.std.specs.Prelude.{◌↔◌, Contains, IfOk, IsTrue, get_or, length, map}
use Rattle.std.proofs.lemmas.List.Elements.{Contains-get_or}
use Rattle.std.specs.List.{AllByRecursion}
use Rattle.mdc_ast.specs.declared.definition.TableDef.{TableDef}
use Rattle.store_api.specs.declared.fault.Damage.{Damage}
use Rattle.store_api.specs.declared.pages.Pages.{Ghosts}
use Rattle.store_api.specs.declared.shape.Shape.{Shape}
use Rattle.entry_tree.specs.EntryBounds.{IsEntryOf}
use Rattle.entry_tree.specs.Forest.{Forest, IsTree, leaf_entries}
use Rattle.entry_tree.specs.HeldTrees.{HoldsTree, nodes_in}
use Rattle.entry_tree.specs.declared.tree.Tree.{Tree}
use Rattle.mdc_words.specs.ByteOrder.{Entry}
use Rattle.block_map.specs.BlockMaps.{AnyMap, BreaksMapTree}
use Rattle.block_map.specs.MapLines.{MapLine, blocks_of_state, map_line, map_lines}
use Rattle.block_map.proofs.MapLinesLemmas.{contains_more, named_in_state}
use Rattle.table_trees.specs.TableTrees.{TreePlace, map_place}
use Rattle.table_trees.specs.TreesBeside.{HoldsTreeAt}
use Rattle.table_trees.specs.ToldPages.{HasTree}
use Rattle.mdc_sound.proofs.BlockRulesLemmas.{each_of}
use Rattle.file_check.specs.Known.{HasBlockMap}
use Rattle.file_check.specs.Looking.{Unless}

-- what an entry says is a line
pub line_of_entry : (entries : List Entry) (entry : Entry) → IsEntryOf entry entries → Contains (map map_line entries) (map_line entry)
line_of_entry [] entry there = absurd there
line_of_entry (x ∷ xs) entry (inl is) = (0, omega arith, ap map_line (sym is))
line_of_entry (x ∷ xs) entry (inr there) = contains_more (map_line entry) (map_line x) (map map_line xs) (line_of_entry xs entry there)

-- a block that a list names at a place
pub is_listed : (items blocks : List ℕ) (i : ℕ) → items ≡ blocks → i < length items → Contains blocks (get_or items i 0)
is_listed items blocks i same low = subst (λ xs. Contains xs (get_or items i 0)) same (Contains-get_or items i 0 low)

-- a block of a state is an extent, where all of the map are
pub block_within : (cap state : ℕ) (map_tree : Forest) (block : ℕ) → AllByRecursion (λ line. line.block < cap) (map_lines map_tree) → Contains (blocks_of_state state map_tree) block → block < cap
block_within cap state map_tree block all there =
    let named = named_in_state state (leaf_entries map_tree) block there in
    subst (λ (b : ℕ). b < cap) named.block_is
    (each_of (λ (line : MapLine). line.block < cap) (map_lines map_tree) (map_line named.entry) all (line_of_entry (leaf_entries map_tree) named.entry named.there))

-- no block map that stands names a block that is no extent
pub map_past_none : {S : Type 0} (g : Ghosts S) (shape : Shape) (s : S) (def : TableDef) (state block : ℕ) (damage : Damage)
    → (IsTrue (g.state s).is_told → (t : Forest) → HasTree (g.state s).work (map_place def) t → Contains (blocks_of_state state t) block) → shape.extents ≤ block
    → Unless g s (λ pages. (map_tree : Forest) × HasBlockMap shape pages def map_tree) damage
map_past_none g shape s def state block damage there past told (map_tree, has) =
    omega (arith, past, block_within shape.extents state map_tree block has.within (there told map_tree has.tree))

module _ {S : Type 0} {g : Ghosts S} where
  -- a tree at the place of a block map is what the handle of the map names
  held_by_handle : (s : S) (tree : Tree) (def : TableDef) (t : Forest) → tree.root ≡ def.roots.map → tree.width ≡ 7 → HoldsTreeAt g s (map_place def) t → HoldsTree g s tree t
  held_by_handle s tree def t root wide h = record {
    is_tree = subst (λ (w : ℕ). IsTree (nodes_in w (g.state s)) tree.root t) (sym wide) (subst (λ (r : ℕ). IsTree (nodes_in 7 (g.state s)) r t) (sym root) h.is_tree);
    trim = h.trim;
  }

  pub map_held : (s : S) (tree : Tree) (def : TableDef) → tree.root ≡ def.roots.map → tree.width ≡ 7
      → (IsTrue (g.state s).is_told → (place : TreePlace) (t : Forest) → HoldsTreeAt g s place t ↔ HasTree (g.state s).work place t)
      → IsTrue (g.state s).is_told → (t : Forest) → HasTree (g.state s).work (map_place def) t → HoldsTree g s tree t
  map_held s tree def root wide holds told t has = held_by_handle s tree def t root wide ((holds told (map_place def) t).1 has)

  -- a call on a block map that stands names no damage
  pub map_breaks_none : (shape : Shape) (s : S) (tree : Tree) (def : TableDef) (damage : Damage)
      → (IsTrue (g.state s).is_told → (t : Forest) → HasTree (g.state s).work (map_place def) t → HoldsTree g s tree t) → BreaksMapTree g s tree AnyMap damage
      → Unless g s (λ pages. (map_tree : Forest) × HasBlockMap shape pages def map_tree) damage
  map_breaks_none shape s tree def damage held (inl b) told (map_tree, has) = b.broken map_tree (held told map_tree has.tree)
  map_breaks_none shape s tree def damage held (inr b) told (map_tree, has) = b.broken map_tree (held told map_tree has.tree) has.form tt

  -- what a call finds in the tree of the handle it finds in the block map
  pub finds_told : {X E : Type 0} (s : S) (tree : Tree) (def : TableDef) (Finds : Forest → X → Type 0) (result : Result X E)
      → (IsTrue (g.state s).is_told → (t : Forest) → HasTree (g.state s).work (map_place def) t → HoldsTree g s tree t) → IfOk result (λ x. (t : Forest) → HoldsTree g s tree t → Finds t x)
      → IfOk result (λ x. IsTrue (g.state s).is_told → (t : Forest) → HasTree (g.state s).work (map_place def) t → Finds t x)
  finds_told s tree def Finds (Ok x) held found = λ told t has. found t (held told t has)
  finds_told s tree def Finds (Err e) held found = tt
