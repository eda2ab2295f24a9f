-- One byte of the worked pages breaks each of rules 1 to 6.
use Rattle.std.specs.Prelude.{◌≡◌, ◌≢◌, ◌<◌, ℕ, List, [], ◌∷◌, ◌++◌, Some, slice_get, slice_index}
use Rattle.std.proofs.Common.{refl, arith, sym, ap, subst, ◌∙◌, inr}
use Rattle.mdc_words.specs.ByteOrder.{Entry, below}
use Rattle.mdc_ast.specs.declared.definition.TableDef.{TableDef}
use Rattle.store_api.specs.StoreState.{page_at, zero_page}
use Rattle.extent_map.specs.Kinds.{kind_bytes}
use Rattle.extent_map.specs.Map.{map_entries, map_page}
use Rattle.extent_map.specs.Owners.{owner_of}
use Rattle.extent_map.specs.declared.kind.Kind.{Kind}
use Rattle.extent_map.specs.declared.kind.Kind.TheVariants.{Free, Block, Index}
use Rattle.node_page.specs.Node.{node_of}
use Rattle.node_page.specs.Node.Node.{LeafNode, InnerNode, NoNode}
use Rattle.entry_tree.specs.Forest.{Forest, heads, times}
use Rattle.entry_tree.specs.Forest.Forest.{Leaf, Fork, Nil}
use Rattle.entry_tree.proofs.WayLemmas.{head_times}
use Rattle.block_map.specs.BlockMaps.{IsMapForm}
use Rattle.table_page.specs.TablePage.{table_page}
use Rattle.table_trees.specs.TableTrees.{TreePlace, dimension_place, map_place, record_place, tree_places}
use Rattle.table_trees.specs.ToldPages.{HasTree, PageList}
use Rattle.mdc_sound.specs.Breaks.{BreaksRule, ShowsTree}
use Rattle.mdc_sound.specs.EmptyDatabase.{few_extents}
use Rattle.mdc_sound.specs.TablePages.{DefinesTable}
use Rattle.mdc_sound.proofs.StandsForLemmas.{one_tree_at}
use Rattle.sound_instances.proofs.InstancesLemmas.{leaf_is_held}
use Rattle.sound_instances.proofs.WorkedSpaceLemmas.{limits_of_sales}
use Rattle.sound_instances.specs.ChangedPages.{with_byte}
use Rattle.sound_instances.specs.WorkedTables.{def_sales, index_by_day}
use Rattle.sound_instances.proofs.ShownSalesLemmas.{still_defined}

-- ---- rule 1: the letter S in the place of R

pub breaks_root : BreaksRule few_extents (with_byte 0 0 83) 1 0
breaks_root = BreaksRule.root (λ n whole longer form. let wrong : 83 ≡ 82 = ap (λ page. slice_index page 0) form in absurd (omega (arith, wrong)))

-- ---- rule 2: an extent of a fourth kind

no_such_kind : (kind : Kind) (rest : List ℕ) → slice_index (kind_bytes kind ++ rest) 0 ≢ 3
unfolding kind_bytes
no_such_kind Free rest is = absurd (omega (arith, is))
no_such_kind (Block table) rest is = absurd (omega (arith, is))
no_such_kind (Index used) rest is = absurd (omega (arith, is))

first_kind : (owners : List Kind) → (rest : List ℕ) × (map_page owners 0 ≡ kind_bytes (owner_of owners 0) ++ rest)
unfolding map_page map_entries
first_kind owners = (map_entries owners 1 511, refl)

pub breaks_extents : BreaksRule few_extents (with_byte 17 0 3) 2 17
unfolding map_page map_entries kind_bytes
breaks_extents = BreaksRule.map_page 0 (omega arith) (λ owners sound.
    let form = first_kind owners in
    let marks : 3 ≡ slice_index (kind_bytes (owner_of owners 0) ++ form.0) 0 = ap (λ page. slice_index page 0) (sound.held.page.bytes_are ∙ form.1) in
    no_such_kind (owner_of owners 0) form.0 (sym marks))

-- ---- rule 3: another mark of a table page, and a root that is no page of an extent

pub breaks_table_page : BreaksRule few_extents (with_byte 3 0 85) 3 3
unfolding table_page zero_page
breaks_table_page = BreaksRule.table
    2
    (omega arith)
    (λ blank. let wrong : 85 ≡ 0 = ap (λ page. slice_index page 0) blank in absurd (omega (arith, wrong)))
    (λ def defines. let wrong : 85 ≡ 84 = ap (λ page. slice_index page 0) defines.printed in absurd (omega (arith, wrong)))

-- SALES with a page of the extent map for the root of its block map
abbrev def_outside : TableDef
def_outside = record def_sales { roots = record { map = 17; composite = 27; dims = 23 ∷ 19 ∷ [] } }

defines_outside : DefinesTable (with_byte 3 33 17) 2 def_outside
unfolding table_page zero_page
defines_outside = record {
  limits = record {
    stands = refl;
    name = limits_of_sales.name;
    columns = limits_of_sales.columns;
    dims = limits_of_sales.dims;
    indexes = limits_of_sales.indexes;
    next = limits_of_sales.next;
    roots = record { map = omega arith; composite = omega arith; one_each = refl; dimensions = (omega arith, (omega arith, tt)) };
  };
  printed = refl;
}

pub breaks_root_outside : BreaksRule few_extents (with_byte 3 33 17) 3 3
breaks_root_outside = BreaksRule.root_outside 2 def_outside (map_place def_outside) (omega arith) defines_outside (0, omega arith, refl) (λ page. omega (arith, page.behind))

-- ---- rule 4: another mark of a leaf

no_tree : (pages : PageList) (place : TreePlace) (t : Forest) → node_of place.width (page_at pages place.root) ≡ NoNode → HasTree pages place t → ⊥
no_tree pages place Nil none held = let e = held.is_tree.head in absurd (cc)
no_tree pages place (Leaf page items next) none held =
    let at : page ≡ place.root = ap (λ pages. slice_index pages 0) held.is_tree.head in
    let node : node_of place.width (page_at pages page) ≡ LeafNode items = held.is_tree.holds.0 in
    let moved = subst (λ p. node_of place.width (page_at pages p) ≡ LeafNode items) at node in absurd (cc)
no_tree pages place (Fork page seps kids next) none held =
    let at : page ≡ place.root = ap (λ pages. slice_index pages 0) held.is_tree.head in
    let node = held.is_tree.holds.0 in
    let moved = subst (λ p. node_of place.width (page_at pages p) ≡ InnerNode seps (heads kids)) at node in absurd (cc)

no_node : node_of 20 (page_at (with_byte 36 0 77) 36) ≡ NoNode
unfolding node_of zero_page
no_node = refl

pub breaks_tree : BreaksRule few_extents (with_byte 36 0 77) 4 36
breaks_tree = BreaksRule.tree
    2
    def_sales
    (record_place def_sales index_by_day)
    (omega arith)
    (still_defined (with_byte 36 0 77) refl)
    (5, omega arith, refl)
    (λ t held. no_tree (with_byte 36 0 77) (record { root = 36; width = 20 }) t no_node held)

-- ---- rule 5: one root of two indexes

-- the pages with the root of CITY for that of MON too
abbrev shared_pages : PageList
shared_pages = with_byte 3 45 23

-- SALES with one root for both dimensions
abbrev def_shared : TableDef
def_shared = record def_sales { roots = record { map = 18; composite = 27; dims = 23 ∷ 23 ∷ [] } }

defines_shared : DefinesTable shared_pages 2 def_shared
unfolding table_page zero_page
defines_shared = record {
  limits = record {
    stands = refl;
    name = limits_of_sales.name;
    columns = limits_of_sales.columns;
    dims = limits_of_sales.dims;
    indexes = limits_of_sales.indexes;
    next = limits_of_sales.next;
    roots = record { map = omega arith; composite = omega arith; one_each = refl; dimensions = (omega arith, (omega arith, tt)) };
  };
  printed = refl;
}

-- tree i of SALES has page 23
has_page_23 : (i : ℕ) (place : TreePlace) → place.root ≡ 23 → slice_get (tree_places def_shared) i ≡ Some place → ShowsTree shared_pages 2 i (λ tree. 0 < times 23 tree)
has_page_23 i place root is = record {
  place = place;
  is_place = record { within = omega arith; def = def_shared; defines = defines_shared; is_its = is };
  tree = λ tree held. subst (λ p. 0 < times p tree) root (head_times tree place.root held.is_tree.head);
}

pub breaks_shared_page : BreaksRule few_extents (with_byte 3 45 23) 5 23
breaks_shared_page = BreaksRule.shared
    2
    2
    2
    3
    23
    (has_page_23 2 (dimension_place def_shared (2 ∷ []) 23) refl refl)
    (has_page_23 3 (dimension_place def_shared (1 ∷ []) 23) refl refl)
    (inr (λ e. omega (arith, e)))

-- ---- rule 6: a block of a fourth state

-- the pages with block 5 in state 3
abbrev state_pages : PageList
state_pages = with_byte 18 27 3

-- block 5 in state 3
abbrev lines_with_state : List Entry
lines_with_state =
    (0 ∷ 0 ∷ 0 ∷ 1 ∷ 1 ∷ 0 ∷ 2 ∷ [])
    ∷ (0 ∷ 0 ∷ 0 ∷ 5 ∷ 3 ∷ 0 ∷ 0 ∷ [])
    ∷ (0 ∷ 0 ∷ 0 ∷ 6 ∷ 2 ∷ 0 ∷ 0 ∷ [])
    ∷ (0 ∷ 0 ∷ 0 ∷ 8 ∷ 1 ∷ 0 ∷ 1 ∷ [])
    ∷ (0 ∷ 0 ∷ 0 ∷ 10 ∷ 1 ∷ 0 ∷ 2 ∷ []) ∷ []

mapped_with_state : HasTree state_pages (record { root = 18; width = 7 }) (Leaf 18 lines_with_state Nil)
unfolding node_of zero_page below
mapped_with_state = leaf_is_held state_pages (record { root = 18; width = 7 }) lines_with_state refl (tt, tt, (refl, tt, (refl, tt, (refl, tt, (refl, tt, tt)))))

no_such_state : IsMapForm (Leaf 18 lines_with_state Nil) → ⊥
no_such_state form = let state = form.states.1.0 in omega (arith, state)

pub breaks_block_map : BreaksRule few_extents (with_byte 18 27 3) 6 18
breaks_block_map = BreaksRule.map_form 2 def_sales (omega arith) (still_defined state_pages refl) (λ map_tree held form.
    no_such_state (subst IsMapForm (one_tree_at state_pages (map_place def_sales) map_tree (Leaf 18 lines_with_state Nil) held mapped_with_state) form))
