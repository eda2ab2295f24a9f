-- What a pass has come past still names none of its blocks behind a step.
use Rattle.std.proofs.Common.{◌≡◌, ◌<◌, ◌≤◌, ◌∙◌, Global, ℕ, zero, suc, List, [], ◌∷◌, ◌++◌, true, false, length, set, replicate, refl, ap, arith, sym, subst, inl, inr}
use Rattle.std.specs.Prelude.{◌&&◌, Bool, Contains, None, Option, Some, not, slice_get}
use Rattle.std.specs.List.{filter}
use Rattle.std.proofs.lemmas.Bool.{cases_eq, false≢true}
use Rattle.std.proofs.lemmas.List.Elements.{All-contains, All-contains_itself, All-filter, filter_passes}
use Rattle.std.proofs.lemmas.List.Sums.{sum_by-cons}
use Rattle.std.proofs.lemmas.Option.{same_Some}
use Rattle.mdc_words.specs.ByteOrder.{Entry, below}
use Rattle.mdc_words.proofs.PlacesLemmas.{slice_get-set_other, slice_get-set_same}
use Rattle.mdc_ast.specs.declared.definition.TableDef.{TableDef}
use Rattle.store_api.specs.Frame.{NoPage}
use Rattle.store_api.specs.RunsOverPages.{RunsOverPages}
use Rattle.store_api.specs.declared.fault.StoreFault.{StoreFault}
use Rattle.store_api.specs.declared.pages.Pages.{Ghosts}
use Rattle.store_api.specs.declared.shape.Shape.{Shape}
use Rattle.store_api.proofs.RunsOverPagesLemmas.{runs_wider}
use Rattle.extent_map.specs.declared.kind.Kind.{Kind}
use Rattle.node_page.specs.Entries.{names_block}
use Rattle.entry_tree.specs.Entries.{AreOfWidth}
use Rattle.entry_tree.specs.EntryBounds.{Bound}
use Rattle.entry_tree.specs.Forest.{Forest, leaf_entries, times}
use Rattle.entry_tree.specs.HeldTrees.{IsTreePage}
use Rattle.entry_tree.specs.Sweeping.{is_swept, lies_under}
use Rattle.entry_tree.specs.declared.tree.Tree.{Tree}
use Rattle.entry_tree.proofs.WidthsLemmas.{tree_wide}
use Rattle.block_index.proofs.PartRangesLemmas.{not_below_zeros}
use Rattle.table_trees.specs.TableTrees.{TreePlace, place_of_tree}
use Rattle.table_trees.specs.TreesBeside.{StandTrees}
use Rattle.table_trees.proofs.SideBySideLemmas.{tree_among}
use Rattle.table_trees.proofs.TableTreesLemmas.{narrow_enough}
use Rattle.mdc_ast.specs.TableLimits.{IsTableDef}
use Rattle.block_map.specs.BlockMaps.{AnyMap, BreaksMapTree}
use Rattle.mdc_sound.specs.StandingTable.{BreaksTable}
use Rattle.table_blocks.specs.BlockChanges.{IsTreeOrMapPageOfTable}
use Rattle.table_blocks.proofs.MapOfTableLemmas.{breaks_map, map_of_table}
use Rattle.record_index.specs.RecordIndexes.{place_of_record_index}
use Rattle.record_index.proofs.IndexesLemmas.{has_indexes, parts_there, width_is}
use Rattle.record_index.specs.SweptLeaf.{SweepsOneLeaf}
use Rattle.cleaner.specs.Passes.{IsDone, NamesNoneUnder, StepsInTree, bound_from, goes_on, key_width_at}
use Rattle.cleaner.specs.declared.pass.Pass.{Pass}

-- ---- one tree

kept_passes : {X : Type 0} (p : X → Bool) (xs : List X) (z : X) → Contains (filter p xs) z → Contains xs z × (p z ≡ true)
kept_passes p xs z there =
    (All-contains (Contains xs) (filter p xs) z (All-filter p (Contains xs) xs (All-contains_itself xs)) there, All-contains (λ x. p x ≡ true) (filter p xs) z (filter_passes p xs) there)

-- an entry that isn't taken and lies below the next bound names no block, where none below the bound did
left_names : (low under named : Bool) → (low ≡ true → named ≡ false) → under ≡ true → not (not low && under && named) ≡ true → named ≡ false
left_names low under false none on kept = refl
left_names true under true none on kept = none refl
left_names false true true none on kept = absurd (false≢true kept)
left_names false false true none on kept = absurd (false≢true on)

-- below the next bound no entry of the tree names a block, where none below the bound did
swept_under : (bound : Entry) (key_width : ℕ) (blocks : List ℕ) (removed : ℕ) (next : Bound) (was is : Forest) → SweepsOneLeaf bound key_width blocks removed next was is
    → NamesNoneUnder key_width blocks (Some bound) was → NamesNoneUnder key_width blocks next is
swept_under bound key_width blocks removed next was is sweeps none y there under =
    let kept = kept_passes (λ y. not (is_swept bound next key_width blocks y)) (leaf_entries was) y (subst (λ all. Contains all y) sweeps.leaves there) in
    left_names (below y bound) (lies_under next y) (names_block blocks key_width y) (λ low. none y kept.0 low) under kept.1

wide_entry : (width : ℕ) (entries : List Entry) (y : Entry) → AreOfWidth width entries → Contains entries y → length y ≡ width
wide_entry width [] y wide there = absurd (omega (arith, there.1))
wide_entry width (x ∷ entries) y wide (zero, low, at) = ap length (sym at) ∙ wide.0
wide_entry width (x ∷ entries) y wide (suc k, low, at) = wide_entry width entries y wide.1 (k, omega (arith, low), at)

-- no entry lies below the lowest bound
none_lower : (width key_width : ℕ) (blocks : List ℕ) (t : Forest) → AreOfWidth width (leaf_entries t) → NamesNoneUnder key_width blocks (Some (replicate width 0)) t
none_lower width key_width blocks t wide y there low = absurd (false≢true (sym (not_below_zeros width y (wide_entry width (leaf_entries t) y wide there)) ∙ low))

pub there_low : {X : Type 0} (xs : List X) (i : ℕ) (x : X) → slice_get xs i ≡ Some x → i < length xs
there_low [] i x at = absurd cc
there_low (z ∷ xs) zero x at = omega arith
there_low (z ∷ xs) (suc i) x at = omega (arith, there_low xs i x at)

-- ---- the indexes of a table

module _ (def : TableDef) (was : Pass) (trees : List Forest) (tree after : Forest) (there : slice_get trees was.index ≡ Some tree) where
  -- below the bound at which a step begins no entry names a block
  begins_done : AreOfWidth (place_of_record_index def was.index).width (leaf_entries tree) → IsDone def was trees → (bound : Bound) → was.bound ≡ bound
      → NamesNoneUnder (key_width_at def was.index) was.blocks (Some (bound_from def was.index bound)) tree
  begins_done wide done None is = none_lower (place_of_record_index def was.index).width (key_width_at def was.index) was.blocks tree wide
  begins_done wide done (Some bound) is = done.here tree bound there is

  -- the tree of the index is the one that the step made
  stands_there : (n : ℕ) (t : Forest) → n ≡ was.index → slice_get (set trees was.index after) n ≡ Some t → t ≡ after
  stands_there n t same at = same_Some t after (sym at ∙ ap (slice_get (set trees was.index after)) same ∙ slice_get-set_same trees was.index after (there_low trees was.index tree there))

  -- an index before it is as it was
  earlier_done : IsDone def was trees → (n : ℕ) (t : Forest) → n < was.index → slice_get (set trees was.index after) n ≡ Some t → NamesNoneUnder (key_width_at def n) was.blocks None t
  earlier_done done n t low at = done.earlier n t low (sym (slice_get-set_other trees was.index after n (λ e. absurd (omega (arith, low, e)))) ∙ at)

  done_on : (next : Bound) → NamesNoneUnder (key_width_at def was.index) was.blocks next after → IsDone def was trees → IsDone def (goes_on was next) (set trees was.index after)
  done_on None none done = record {
    earlier = λ n t low at. elim (cases_eq n was.index) [
      | inl same ↦ subst (λ i. NamesNoneUnder (key_width_at def i) was.blocks None t) (sym same) (subst (NamesNoneUnder (key_width_at def was.index) was.blocks None) (sym (stands_there n t same at)) none)
      | inr other ↦ earlier_done done n t (omega (arith, low, other)) at
    ];
    here = λ t bound at is. absurd cc;
  }
  done_on (Some next) none done = record {
    earlier = earlier_done done;
    here = λ t bound at is. subst (λ b. NamesNoneUnder (key_width_at def was.index) was.blocks b t) is
        (subst (NamesNoneUnder (key_width_at def was.index) was.blocks (Some next)) (sym (stands_there was.index t refl at)) none);
  }

  -- a step keeps that
  pub steps_done : (is : Pass) (removed : ℕ) → StepsInTree def was is removed tree after → AreOfWidth (place_of_record_index def was.index).width (leaf_entries tree) → IsDone def was trees → IsDone def is (set trees was.index after)
  steps_done is removed steps wide done =
      subst (λ pass. IsDone def pass (set trees was.index after)) (sym steps.on)
      (done_on steps.next
      (swept_under (bound_from def was.index was.bound) (key_width_at def was.index) was.blocks removed steps.next tree after steps.sweeps (begins_done wide done was.bound refl)) done)

-- ---- the width of entries

-- a place whose width a tree can have is one of a tree
abbrev tree_at : Global → (place : TreePlace) → 5 ≤ place.width → place.width ≤ 134 → (tree : Tree) × (place_of_tree tree ≡ place)
tree_at alloc place wide narrow = (record { root = place.root; width = place.width; alloc = alloc; wide = wide; narrow = narrow }, refl)

-- the width of a record index is one
pub index_width : (def : TableDef) (index : ℕ) → IsTableDef def.number def → index < length def.indexes → (5 ≤ (place_of_record_index def index).width) × ((place_of_record_index def index).width ≤ 134)
index_width def index defined there =
    let parts = parts_there def index (has_indexes def.number def defined) there in
    let wide = width_is def index (place_of_record_index def index) there refl in
    let narrow = narrow_enough def.columns _ parts.key in
    (omega (arith, wide), omega (arith, wide, narrow))

-- all entries of a tree among others have the width of its place
pub entries_wide : {S : Type 0} {g : Ghosts S} (alloc : Global) (shape : Shape) (s : S) (owners : List Kind) (places : List TreePlace) (trees : List Forest) (i : ℕ) (place : TreePlace) (t : Forest)
    → (5 ≤ place.width) × (place.width ≤ 134) → StandTrees g shape s owners places trees → slice_get places i ≡ Some place → slice_get trees i ≡ Some t → AreOfWidth place.width (leaf_entries t)
entries_wide alloc shape s owners places trees i place t width st at there =
    let tree = tree_at alloc place width.0 width.1 in
    let one = tree_among shape s owners places trees tree.0 i st (at ∙ ap Some (sym tree.1)) in
    subst (λ u. AreOfWidth place.width (leaf_entries u)) (same_Some one.0 t (sym one.1 ∙ there)) (tree_wide one.0 one.2.held)

-- ---- the blocks that wait

-- the block map of a table was read, and no page changed
pub runs_listed : {S : Type 0} {g : Ghosts S} (shape : Shape) (def : TableDef) (defined : IsTableDef def.number def) (old looked : S) (tree : Tree) → tree.root ≡ def.roots.map → tree.width ≡ 7 → (fault : Option StoreFault)
    → RunsOverPages g NoPage (IsTreePage g old tree) (BreaksMapTree g old tree AnyMap) old looked fault → RunsOverPages g NoPage (IsTreeOrMapPageOfTable g shape old def) (BreaksTable g shape old def) old looked fault
runs_listed shape def defined old looked tree root width fault run =
    runs_wider run (λ p low none. none)
    (λ p is owners forests st. inl (omega (arith, is forests.map (map_of_table shape old def defined tree root width owners forests st), sum_by-cons (times p) forests.map (forests.composite ∷ forests.dims ++ forests.indexes))))
    (breaks_map shape old def defined tree root width)
