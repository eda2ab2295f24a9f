-- The blocks that a block map names, in the order in which they are given back: each is the table's, none is there twice, and after
-- them the table has none.
use Rattle.std.proofs.Common.{◌≡◌, ◌≢◌, ◌<◌, ◌≤◌, ◌==◌, ℕ, List, [], ◌∷◌, ◌++◌, length, length-take, refl, ap, arith, sym, ◌∙◌, subst, inl, inr, IsTrue, take, get_or}
use Rattle.std.proofs.lemmas.Bool.Decides.{nat_tests}
use Rattle.std.specs.Prelude.{AllPairs, Contains, filter, map}
use Rattle.std.proofs.lemmas.Bool.{cases_eq, eq-eqb}
use Rattle.std.proofs.lemmas.List.{get_or-map, get_or-take, get_or_default, length-map}
use Rattle.std.specs.List.{AllByRecursion}
use Rattle.std.proofs.lemmas.List.Elements.{Contains-append_cases, Contains-append_left, Contains-append_right}
use Rattle.std.proofs.lemmas.List.Kept.{AllPairs-filter}
use Rattle.mdc_words.specs.ByteOrder.{Entry}
use Rattle.mdc_ast.specs.declared.definition.TableDef.{TableDef}
use Rattle.store_api.specs.Frame.{Touches}
use Rattle.store_api.specs.declared.pages.Pages.{Ghosts}
use Rattle.store_api.specs.declared.shape.Shape.{Shape}
use Rattle.extent_map.specs.Kinds.{is_block_kind}
use Rattle.extent_map.specs.Map.{IsMapPage}
use Rattle.extent_map.specs.Owners.{owner_of}
use Rattle.extent_map.specs.declared.kind.Kind.{Kind}
use Rattle.extent_map.specs.declared.kind.Kind.TheVariants.{Block}
use Rattle.extent_map.specs.declared.space_notes.SpaceNotes.{SpaceNotes}
use Rattle.entry_tree.specs.EntryBounds.{IsEntryOf}
use Rattle.entry_tree.specs.Forest.{Forest, leaf_entries}
use Rattle.block_map.specs.BlockMaps.{IsMapForm}
use Rattle.block_map.specs.MapLines.{MapLine, blocks_of_state, free_blocks, map_line, map_lines, pending_blocks, used_blocks}
use Rattle.block_map.proofs.MapFormLemmas.{form_one, form_state}
use Rattle.block_map.proofs.MapLinesLemmas.{in_state_named, named_entry, named_in_state}
use Rattle.table_trees.specs.TableTrees.{tree_places}
use Rattle.mdc_sound.specs.SpaceRules.{IsBlockMapSound, IsMapLineSound}
use Rattle.mdc_sound.specs.StandingTable.{StandsTable, TableForests, forests_in_order}
use Rattle.mdc_sound.proofs.MappedBlocksLemmas.{map_form}
use Rattle.mdc_sound.proofs.StandingTableLemmas.{block_below}
use Rattle.stored_catalog.specs.AroundTable.{HasNoBlocks}
use Rattle.stored_catalog.specs.TreeRuns.{GivesBlocks, StandsToGive, blocks_in_map, without_blocks}
use Rattle.stored_catalog.proofs.GivenBlocksLemmas.{block_before, no_block_given, owner_without, trees_after_giving}

-- ---- each is in one state

-- a block has one state
pub one_state : (map_tree : Forest) (m n e : ℕ) → IsMapForm map_tree → m ≢ n → Contains (blocks_of_state m map_tree) e → Contains (blocks_of_state n map_tree) e → ⊥
one_state map_tree m n e form apart there other =
    let a = named_in_state m (leaf_entries map_tree) e there in
    let b = named_in_state n (leaf_entries map_tree) e other in
    let same : a.entry ≡ b.entry = form_one map_tree a.entry b.entry form a.there b.there (a.block_is ∙ sym b.block_is) in
    let left : (map_line a.entry).state ≡ m = grind (arith, nat_tests, a.state) in
    let right : (map_line b.entry).state ≡ n = grind (arith, nat_tests, b.state) in
    apart (sym left ∙ (ap (λ x. (map_line x).state) same ∙ right))

-- a block of some state is one that the map names
in_one : (map_tree : Forest) (e : ℕ) → Contains (blocks_in_map map_tree) e → (n : ℕ) × Contains (blocks_of_state n map_tree) e
in_one map_tree e there = elim (Contains-append_cases (free_blocks map_tree ++ used_blocks map_tree) (pending_blocks map_tree) e there) [
  | inl early ↦ elim (Contains-append_cases (free_blocks map_tree) (used_blocks map_tree) e early) [ inl free ↦ (0, free) | inr used ↦ (1, used) ]
  | inr pending ↦ (2, pending)
]

in_all : (map_tree : Forest) (n e : ℕ) → n ≤ 2 → Contains (blocks_of_state n map_tree) e → Contains (blocks_in_map map_tree) e
in_all map_tree n e low there = elim (cases_eq n 2) [
  | inl two ↦ Contains-append_right (free_blocks map_tree ++ used_blocks map_tree) (pending_blocks map_tree) e (subst (λ m. Contains (blocks_of_state m map_tree) e) two there)
  | inr less ↦ Contains-append_left (free_blocks map_tree ++ used_blocks map_tree) (pending_blocks map_tree) e (elim (cases_eq n 0) [
    | inl none ↦ Contains-append_left (free_blocks map_tree) (used_blocks map_tree) e (subst (λ m. Contains (blocks_of_state m map_tree) e) none there)
    | inr some ↦
        let one : n ≡ 1 = omega arith in
        Contains-append_right (free_blocks map_tree) (used_blocks map_tree) e (subst (λ m. Contains (blocks_of_state m map_tree) e) one there)
  ])
]

-- ---- whose they are

line_sound : (shape : Shape) (owners : List Kind) (def : TableDef) (map_tree : Forest) (x : Entry) → IsBlockMapSound shape owners def map_tree → IsEntryOf x (leaf_entries map_tree) → IsMapLineSound shape owners def (map_line x)
line_sound shape owners def map_tree x sound there = go (leaf_entries map_tree) sound.lines there
  where
    go : (entries : List Entry) → AllByRecursion (IsMapLineSound shape owners def) (map map_line entries) → IsEntryOf x entries → IsMapLineSound shape owners def (map_line x)
    go [] all is = absurd is
    go (y ∷ entries) all (inl same) = subst (λ z. IsMapLineSound shape owners def (map_line z)) (sym same) all.0
    go (y ∷ entries) all (inr later) = go entries all.1 later

pub block_owned : (shape : Shape) (owners : List Kind) (def : TableDef) (map_tree : Forest) (n : ℕ) → IsBlockMapSound shape owners def map_tree
    → (e : ℕ) → Contains (blocks_of_state n map_tree) e → (e < shape.extents) × (owner_of owners e ≡ Block def.number)
block_owned shape owners def map_tree n sound e there =
    let a = named_in_state n (leaf_entries map_tree) e there in
    let line = line_sound shape owners def map_tree a.entry sound a.there in
    (subst (λ b. b < shape.extents) a.block_is line.within, subst (λ b. owner_of owners b ≡ Block def.number) a.block_is line.owned)

-- each of them is the table's
pub blocks_owned : (shape : Shape) (owners : List Kind) (def : TableDef) (map_tree : Forest) → IsBlockMapSound shape owners def map_tree
    → (e : ℕ) → Contains (blocks_in_map map_tree) e → (e < shape.extents) × (owner_of owners e ≡ Block def.number)
blocks_owned shape owners def map_tree sound e there = let one = in_one map_tree e there in block_owned shape owners def map_tree one.0 sound e one.1

-- a block of the table is in the map, with one of the three states
pub block_there : (shape : Shape) (owners : List Kind) (def : TableDef) (map_tree : Forest) (e : ℕ) → length owners ≡ shape.extents → IsBlockMapSound shape owners def map_tree
    → owner_of owners e ≡ Block def.number → Contains (blocks_in_map map_tree) e
block_there shape owners def map_tree e count sound is =
    let form = map_form shape owners def map_tree sound in
    let x = named_entry (leaf_entries map_tree) e (sound.all_named e (omega (arith, block_below owners e def.number is, count)) is) in
    in_all map_tree (map_line x.0).state e (form_state map_tree x.0 form x.1)
    (in_state_named (map_line x.0).state (leaf_entries map_tree) e (record { entry = x.0; there = x.1; state = eq-eqb (map_line x.0).state (map_line x.0).state refl; block_is = x.2 }))

-- where all blocks that a block map names were given back, the table has none
pub no_blocks_left : (shape : Shape) (owners : List Kind) (def : TableDef) (map_tree : Forest) → length owners ≡ shape.extents → IsBlockMapSound shape owners def map_tree
    → HasNoBlocks (without_blocks owners (blocks_in_map map_tree)) def.number
no_blocks_left shape owners def map_tree count sound e is =
    no_block_given owners (blocks_in_map map_tree) e def.number (block_there shape owners def map_tree e count sound (block_before owners (blocks_in_map map_tree) e def.number is)) is

-- ---- none is there twice

pairs_of_map : {X Y : Type 0} (f : X → Y) (xs : List X) → AllPairs (λ a b. a ≢ b) (map f xs) → AllPairs (λ a b. f a ≢ f b) xs
pairs_of_map f xs differ i j d low high e =
    differ i j (f d) low (omega (arith, high, length-map xs f)) (get_or-map f xs i d (f d) (omega (arith, low, high)) ∙ e ∙ sym (get_or-map f xs j d (f d) high))

map_of_pairs : {X Y : Type 0} (f : X → Y) (x : X) (xs : List X) → AllPairs (λ a b. f a ≢ f b) xs → AllPairs (λ a b. a ≢ b) (map f xs)
map_of_pairs f x xs differ i j d low high e =
    let within : j < length xs = omega (arith, high, length-map xs f) in
    differ i j x low within (sym (get_or-map f xs i x d (omega (arith, low, within))) ∙ e ∙ get_or-map f xs j x d within)

pub state_differs : (map_tree : Forest) (n : ℕ) → IsMapForm map_tree → AllPairs (λ a b. a ≢ b) (blocks_of_state n map_tree)
state_differs map_tree n form =
    map_of_pairs (λ (line : MapLine). line.block) (record { block = 0; state = 0; rows = 0 }) (filter (λ line. line.state == n) (map_lines map_tree))
    (AllPairs-filter (λ (a b : MapLine). a.block ≢ b.block) (λ line. line.state == n) (map_lines map_tree) (pairs_of_map (λ (line : MapLine). line.block) (map_lines map_tree) form.once_each))

-- an element of a list without doubles isn't among those before it
pub not_among : (xs : List ℕ) (i : ℕ) → AllPairs (λ a b. a ≢ b) xs → i < length xs → Contains (take i xs) (get_or xs i 0) → ⊥
not_among xs i differ low there =
    let k = there.0 in
    let early : k < i = omega (arith, there.1, length-take i xs) in
    let same : get_or (take i xs) k (get_or xs i 0) ≡ get_or xs k (get_or xs i 0) = get_or-take i xs k (get_or xs i 0) early in
    differ k i (get_or xs i 0) early low (sym same ∙ (there.2 ∙ get_or_default xs i 0 (get_or xs i 0) low))

-- ---- giving the blocks of a state back

module _ {S : Type 0} (g : Ghosts S) where
  -- a table that stands may do so, also where blocks of other states were given back before
  pub stands_to_give : (shape : Shape) (before noted : SpaceNotes) (old mid : S) (def : TableDef) (owners : List Kind) (forests : TableForests) (state : ℕ) (given : List ℕ)
      → StandsTable g shape old def owners forests → GivesBlocks g shape before noted mid owners given → (g.state mid).is_told ≡ (g.state old).is_told → Touches g (IsMapPage shape) old mid
      → ((e : ℕ) → Contains (blocks_of_state state forests.map) e → Contains given e → ⊥)
      → StandsToGive g shape mid def state (without_blocks owners given) forests.map (forests.composite ∷ forests.dims ++ forests.indexes)
  stands_to_give shape before noted old mid def owners forests state given st gave told touched apart = record {
    trees = trees_after_giving g shape before noted old mid (tree_places def) (forests_in_order forests) owners given st.trees gave told touched;
    form = map_form shape owners def forests.map st.map;
    blocks = λ e there.
        let own = block_owned shape owners def forests.map state st.map e there in (
          own.0,
          subst (λ k. IsTrue (is_block_kind k)) (sym (owner_without owners given e (apart e there) ∙ own.1)) refl,
        );
  }
