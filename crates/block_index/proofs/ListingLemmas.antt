-- Listing a block index by index: what one entry more or less makes of what was done so far.
use Rattle.std.proofs.Common.{◌≡◌, ◌+◌, arith, ℕ, zero, suc, List, [], ◌∷◌, IsTrue, length, set, refl, sym, ◌∙◌, subst}
use Rattle.std.specs.Prelude.{Bool, true, false, MatchBool, Option, Some, None, slice_get}
use Rattle.std.proofs.lemmas.Option.{same_Some}
use Rattle.mdc_words.specs.ByteOrder.{Entry}
use Rattle.mdc_values.specs.declared.value.Value.{Value}
use Rattle.mdc_ast.specs.declared.definition.TableDef.{TableDef}
use Rattle.store_api.specs.Frame.{Touches}
use Rattle.store_api.specs.RunsOverPages.{RunsOverPages}
use Rattle.store_api.specs.declared.fault.StoreFault.{StoreFault}
use Rattle.store_api.specs.declared.pages.Pages.{Ghosts}
use Rattle.store_api.specs.declared.shape.Shape.{Shape}
use Rattle.store_api.proofs.RunsOverPagesLemmas.{runs_none, runs_then}
use Rattle.extent_map.specs.Damages.{IfFull}
use Rattle.extent_map.specs.Owners.{AreRightNotes}
use Rattle.extent_map.specs.declared.fault.SpaceFault.{SpaceFault}
use Rattle.extent_map.specs.declared.fault.SpaceFault.TheVariants.{Full, Store}
use Rattle.extent_map.specs.declared.kind.Kind.{Kind}
use Rattle.extent_map.specs.declared.space_notes.SpaceNotes.{SpaceNotes}
use Rattle.entry_tree.specs.Forest.{Forest}
use Rattle.entry_tree.specs.Pruning.{IsTreeOrMapPage, RemovesEntry, without_pages}
use Rattle.entry_tree.specs.Standing.{AddsEntry, FindsFull, IsTreeSpace, StandsTree, with_pages}
use Rattle.entry_tree.specs.declared.tree.Tree.{Tree}
use Rattle.table_trees.specs.SpaceChanges.{MakesChanges, RunsFull, added_entries, removed_entries}
use Rattle.table_trees.specs.SpaceChanges.SpaceChange.{AddEntry, RemoveEntry}
use Rattle.table_trees.specs.TableTrees.{block_index_places, place_of_tree}
use Rattle.table_trees.specs.TreesBeside.{GrowsPages, IsSpaceOfTrees, IsTreesOrMapPage, StandTrees}
use Rattle.table_trees.proofs.PageCountLemmas.{grows_pages_none, grows_pages_then, grows_pages_with}
use Rattle.table_trees.proofs.SideBySideLemmas.{changes_none, changes_then, place_space, place_trees_or_map, space_back, sum_no_less, sum_no_more, tree_among, trees_or_map_back}
use Rattle.table_trees.proofs.TreesBesideLemmas.{adds_beside, removes_beside, space_of_tree, trees_or_map_of_removal}
use Rattle.block_index.specs.Cells.{cell_entries, index_listings}
use Rattle.block_index.specs.IndexDamage.{BreaksEntering, BreaksLeaving}
use Rattle.block_index.specs.Listing.{BreaksListing, BreaksUnlisting, ChangesFirst, ComesTo, FillsListing, GainsEntry, GainsFirst, LosesEntry, LosesFirst, ListsBlock, MoveFirst, UnlistsBlock}
use Rattle.block_index.proofs.ListingSpaceLemmas.{HaveAdded, HaveRemoved, added_full, added_next, added_none, made_all, removed_next, removed_none}

-- an answer of a call that is a truth value
pub if_false : {B : Type 0} (A : Type 0) (b : Bool) → b ≡ false → MatchBool b A B → B
if_false A true e m = absurd cc
if_false A false e m = m

-- one tree more
move_next : (Moves : Entry → Forest → Forest → Type 0) (n : ℕ) (entries : List Entry) (trees after : List Forest) (x : Entry) (t u : Forest) → slice_get entries n ≡ Some x → slice_get after n ≡ Some t → Moves x t u
    → MoveFirst Moves n entries trees after → MoveFirst Moves (suc n) entries trees (set after n u)
move_next Moves n [] trees after x t u at is moves first = absurd cc
move_next Moves zero (y ∷ entries) trees [] x t u at is moves first = absurd cc
move_next Moves zero (y ∷ entries) trees (a ∷ after) x t u at is moves first =
    subst (λ ts. MoveFirst Moves (suc zero) (y ∷ entries) ts (u ∷ after)) first
    (subst (λ e. Moves e a u) (sym (same_Some y x at)) (subst (λ b. Moves x b u) (sym (same_Some a t is)) moves), refl)
move_next Moves (suc n) (y ∷ entries) [] after x t u at is moves first = absurd first
move_next Moves (suc n) (y ∷ entries) (b ∷ trees) [] x t u at is moves first = absurd first
move_next Moves (suc n) (y ∷ entries) (b ∷ trees) (a ∷ after) x t u at is moves first = (first.0, move_next Moves n entries trees after x t u at is moves first.1)

module _ {S : Type 0} (g : Ghosts S) (shape : Shape) (before : SpaceNotes) (old : S) (def : TableDef) (values : List Value) (block : ℕ) where
  -- the first n indexes were changed, whatever stood before
  abbrev pub HaveChanged : (Entry → Forest → Forest → Type 0) → SpaceNotes → S → ℕ → Type 0
  HaveChanged Moves now mid n = (owners : List Kind) (trees : List Forest) → StandTrees g shape old owners (block_index_places def) trees → ChangesFirst g Moves shape before now mid def values block n owners trees

  abbrev pub HaveGained : SpaceNotes → S → ℕ → Type 0
  HaveGained now mid n = (owners : List Kind) (trees : List Forest) → StandTrees g shape old owners (block_index_places def) trees → GainsFirst g shape before now mid def values block n owners trees

  abbrev pub HaveLost : SpaceNotes → S → ℕ → Type 0
  HaveLost now mid n = (owners : List Kind) (trees : List Forest) → StandTrees g shape old owners (block_index_places def) trees → LosesFirst g shape before now mid def values block n owners trees

  gained_changed : (now : SpaceNotes) (mid : S) (n : ℕ) → HaveGained now mid n → HaveChanged GainsEntry now mid n
  gained_changed now mid n gained owners trees st = (gained owners trees st).first

  lost_changed : (now : SpaceNotes) (mid : S) (n : ℕ) → HaveLost now mid n → HaveChanged LosesEntry now mid n
  lost_changed now mid n lost owners trees st = (lost owners trees st).first

  module _ (now noted : SpaceNotes) (mid new : S) (n : ℕ) (tree : Tree) (x : Entry) (at : slice_get (block_index_places def) n ≡ Some (place_of_tree tree)) (is : slice_get (cell_entries def values block) n ≡ Some x)
      (told : (g.state new).is_told ≡ (g.state mid).is_told) where
    pub gained_next : HaveGained now mid n → Touches g (IsTreeSpace g shape mid tree) mid new → ((owners : List Kind) (t : Forest) → StandsTree g shape mid tree owners t → AddsEntry g shape now noted mid new tree x owners t)
        → HaveGained noted new (suc n)
    gained_next done touched adds owners trees st =
        let d = (done owners trees st).first in
        let one = tree_among shape mid d.owners_now (block_index_places def) d.trees_now tree n d.changes.stand at in
        let a = adds d.owners_now one.0 one.2 in
        record {
          first = record {
            owners_now = with_pages shape d.owners_now a.claimed;
            trees_now = set d.trees_now n a.after;
            changes = changes_then shape before now noted mid new (block_index_places def) owners d.owners_now (with_pages shape d.owners_now a.claimed) trees d.trees_now (set d.trees_now n a.after) d.changes
                (adds_beside shape now noted mid new (block_index_places def) d.trees_now tree n x d.owners_now one.0 at one.1 d.changes.stand touched told one.2 a);
            moves = move_next GainsEntry n (cell_entries def values block) trees d.trees_now x one.0 a.after is one.1 (record { is = a.adds; absent = a.absent }) d.moves;
          };
          pages = λ q. omega (arith, (done owners trees st).pages q, sum_no_less d.trees_now n one.0 a.after one.1 (λ p. omega (arith, a.pages p)) q);
        }

    pub lost_next : HaveLost now mid n → Touches g (IsTreeOrMapPage g shape mid tree) mid new → ((owners : List Kind) (t : Forest) → StandsTree g shape mid tree owners t → RemovesEntry g shape now noted new tree x owners t)
        → HaveLost noted new (suc n)
    lost_next done touched removes owners trees st =
        let d = (done owners trees st).first in
        let one = tree_among shape mid d.owners_now (block_index_places def) d.trees_now tree n d.changes.stand at in
        let r = removes d.owners_now one.0 one.2 in
        record {
          first = record {
            owners_now = without_pages shape d.owners_now r.gone;
            trees_now = set d.trees_now n r.after;
            changes = changes_then shape before now noted mid new (block_index_places def) owners d.owners_now (without_pages shape d.owners_now r.gone) trees d.trees_now (set d.trees_now n r.after) d.changes
                (removes_beside shape now noted mid new (block_index_places def) d.trees_now tree n x d.owners_now one.0 at one.1 d.changes.stand touched told one.2 r);
            moves = move_next LosesEntry n (cell_entries def values block) trees d.trees_now x one.0 r.after is one.1 (record { was = r.takes; absent = r.absent }) d.moves;
          };
          pages = λ q. omega (arith, (done owners trees st).pages q, sum_no_more d.trees_now n one.0 r.after one.1 (λ p. omega (arith, r.pages p)) q);
        }

  -- ---- the whole so far, and one call more

  abbrev Space : ℕ → Type 0
  Space = IsSpaceOfTrees g shape old (block_index_places def)

  abbrev TreesAndMap : ℕ → Type 0
  TreesAndMap = IsTreesOrMapPage g shape old (block_index_places def)

  module _ (now : SpaceNotes) (mid : S) (n : ℕ) (tree : Tree) (x : Entry) (at : slice_get (block_index_places def) n ≡ Some (place_of_tree tree)) (is : slice_get (cell_entries def values block) n ≡ Some x) where
    pub comes_to : (Moves : Entry → Forest → Forest → Type 0) → HaveChanged Moves now mid n → ComesTo g Moves shape before old def values block now mid tree x
    comes_to Moves done = record { n = n; place = at; entry = is; done = done }

    space_so_far : HaveGained now mid n → (p : ℕ) → IsSpaceOfTrees g shape mid (place_of_tree tree ∷ []) p → Space p
    space_so_far done p mine =
        space_back shape before now old mid (block_index_places def) p (λ owners trees st. let d = (done owners trees st).first in (d.owners_now, d.trees_now, d.changes)) (place_space shape mid (block_index_places def) n (place_of_tree tree) p at mine)

    trees_and_map_so_far : HaveLost now mid n → (p : ℕ) → IsTreesOrMapPage g shape mid (place_of_tree tree ∷ []) p → TreesAndMap p
    trees_and_map_so_far done p mine =
        trees_or_map_back shape old mid (block_index_places def) p (λ owners trees st. let d = done owners trees st in (d.first.owners_now, d.first.trees_now, d.first.changes.stand, d.pages))
        (place_trees_or_map shape mid (block_index_places def) n (place_of_tree tree) p at mine)

    module _ (new : S) (fault : Option StoreFault) where
      pub entering_runs : HaveGained now mid n → RunsOverPages g Space Space (BreaksListing g shape before old def values block) old mid None
          → RunsOverPages g (IsTreeSpace g shape mid tree) (IsTreeSpace g shape mid tree) (BreaksEntering g 10 shape mid tree x) mid new fault → RunsOverPages g Space Space (BreaksListing g shape before old def values block) old new fault
      entering_runs done run more =
          runs_then run more (λ p there mine. space_so_far done p (space_of_tree shape mid tree p mine)) (λ p mine. space_so_far done p (space_of_tree shape mid tree p mine))
          (λ damage breaks. record { now = now; mid = mid; tree = tree; x = x; comes = comes_to GainsEntry (gained_changed now mid n done); breaks = breaks })

      pub leaving_runs : HaveLost now mid n → RunsOverPages g TreesAndMap TreesAndMap (BreaksUnlisting g shape before old def values block) old mid None
          → RunsOverPages g (IsTreeOrMapPage g shape mid tree) (IsTreeOrMapPage g shape mid tree) (BreaksLeaving g 10 shape mid tree x) mid new fault
          → RunsOverPages g TreesAndMap TreesAndMap (BreaksUnlisting g shape before old def values block) old new fault
      leaving_runs done run more =
          runs_then run more (λ p there mine. trees_and_map_so_far done p (trees_or_map_of_removal shape mid tree p mine)) (λ p mine. trees_and_map_so_far done p (trees_or_map_of_removal shape mid tree p mine))
          (λ damage breaks. record { now = now; mid = mid; tree = tree; x = x; comes = comes_to LosesEntry (lost_changed now mid n done); breaks = breaks })

-- the loop over the indexes that enters: the first n gained an entry each
pub record IsListing {S : Type 0} (g : Ghosts S) (shape : Shape) (before now : SpaceNotes) (old mid : S) (def : TableDef) (values : List Value) (block n : ℕ) : Type 0 where
  pub done : HaveGained g shape before old def values block now mid n
  pub makes : HaveAdded g shape before old (block_index_places def) (cell_entries def values block) mid n
  pub grows : (owners : List Kind) (trees : List Forest) → StandTrees g shape old owners (block_index_places def) trees → GrowsPages g shape old mid
  pub runs : RunsOverPages g (IsSpaceOfTrees g shape old (block_index_places def)) (IsSpaceOfTrees g shape old (block_index_places def)) (BreaksListing g shape before old def values block) old mid None

-- the loop that takes out: the first n lost an entry each
pub record IsUnlisting {S : Type 0} (g : Ghosts S) (shape : Shape) (before now : SpaceNotes) (old mid : S) (def : TableDef) (values : List Value) (block n : ℕ) : Type 0 where
  pub done : HaveLost g shape before old def values block now mid n
  pub makes : HaveRemoved g shape before old (block_index_places def) (cell_entries def values block) mid n
  pub count : length (g.state mid).work ≡ length (g.state old).work
  pub runs : RunsOverPages g (IsTreesOrMapPage g shape old (block_index_places def)) (IsTreesOrMapPage g shape old (block_index_places def)) (BreaksUnlisting g shape before old def values block) old mid None

pub listing_none : {S : Type 0} (g : Ghosts S) (shape : Shape) (before : SpaceNotes) (old : S) (def : TableDef) (values : List Value) (block : ℕ) → IsListing g shape before before old old def values block zero
listing_none g shape before old def values block = record {
  done = λ owners trees st. record {
    first = record { owners_now = owners; trees_now = trees; changes = changes_none shape before old (block_index_places def) owners trees st; moves = refl };
    pages = λ q. omega arith;
  };
  makes = added_none g shape before old (block_index_places def) (cell_entries def values block);
  grows = λ owners trees st. grows_pages_none shape old;
  runs = runs_none;
}

pub unlisting_none : {S : Type 0} (g : Ghosts S) (shape : Shape) (before : SpaceNotes) (old : S) (def : TableDef) (values : List Value) (block : ℕ) → IsUnlisting g shape before before old old def values block zero
unlisting_none g shape before old def values block = record {
  done = λ owners trees st. record {
    first = record { owners_now = owners; trees_now = trees; changes = changes_none shape before old (block_index_places def) owners trees st; moves = refl };
    pages = λ q. omega arith;
  };
  makes = removed_none g shape before old (block_index_places def) (cell_entries def values block);
  count = refl;
  runs = runs_none;
}

module _ {S : Type 0} {g : Ghosts S} (shape : Shape) (before now noted : SpaceNotes) (old mid new : S) (def : TableDef) (values : List Value) (block n : ℕ) (tree : Tree) (x : Entry) (at : slice_get (block_index_places def) n ≡ Some (place_of_tree tree))
    (is : slice_get (cell_entries def values block) n ≡ Some x) where
  -- one index more
  pub enters_next : IsListing g shape before now old mid def values block n
      → ((owners : List Kind) (t : Forest) → StandsTree g shape mid tree owners t → AddsEntry g shape now noted mid new tree x owners t)
      → RunsOverPages g (IsTreeSpace g shape mid tree) (IsTreeSpace g shape mid tree) (BreaksEntering g 10 shape mid tree x) mid new None
      → IsListing g shape before noted old new def values block (n + 1)
  enters_next so adds more = record {
    done = subst (HaveGained g shape before old def values block noted new) (omega arith)
        (gained_next g shape before old def values block now noted mid new n tree x at is more.works.steady.is_told so.done more.touches adds);
    makes = λ owners trees st told notes.
        let d = (so.done owners trees st).first in
        added_next g shape before old (block_index_places def) (cell_entries def values block) now noted mid new n tree x at is so.runs.works.steady.is_told owners d.owners_now trees d.trees_now d.changes told notes
        (so.makes owners trees st told notes) more.works.steady.is_told more.touches adds;
    grows = λ owners trees st.
        let d = (so.done owners trees st).first in
        let one = tree_among shape mid d.owners_now (block_index_places def) d.trees_now tree n d.changes.stand at in
        let a = adds d.owners_now one.0 one.2 in
        grows_pages_then shape old mid new so.runs.works.no_shorter more.works.no_shorter (so.grows owners trees st) (grows_pages_with shape mid new d.owners_now a.claimed a.claims a.grows);
    runs = entering_runs g shape before old def values block now mid n tree x at is new None so.done so.runs more;
  }

  pub leaves_next : IsUnlisting g shape before now old mid def values block n → length (g.state new).work ≡ length (g.state mid).work
      → ((owners : List Kind) (t : Forest) → StandsTree g shape mid tree owners t → RemovesEntry g shape now noted new tree x owners t)
      → RunsOverPages g (IsTreeOrMapPage g shape mid tree) (IsTreeOrMapPage g shape mid tree) (BreaksLeaving g 10 shape mid tree x) mid new None
      → IsUnlisting g shape before noted old new def values block (n + 1)
  leaves_next so count removes more = record {
    done = subst (HaveLost g shape before old def values block noted new) (omega arith)
        (lost_next g shape before old def values block now noted mid new n tree x at is more.works.steady.is_told so.done more.touches removes);
    makes = λ owners trees st told.
        let d = (so.done owners trees st).first in
        removed_next g shape before old (block_index_places def) (cell_entries def values block) now noted mid new n tree x at is so.runs.works.steady.is_told owners d.owners_now trees d.trees_now d.changes told
        (so.makes owners trees st told) more.works.steady.is_told count more.touches removes;
    count = count ∙ so.count;
    runs = leaving_runs g shape before old def values block now mid n tree x at is new None so.done so.runs more;
  }

  -- an index at which the extents were full
  pub fills_there : (fault : SpaceFault) → IsListing g shape before now old mid def values block n
      → IfFull fault (λ cap. (cap ≡ shape.extents) × ((owners : List Kind) (t : Forest) → StandsTree g shape mid tree owners t → FindsFull g shape now noted mid new tree x owners t))
      → IfFull fault (λ cap. (cap ≡ shape.extents) × FillsListing g shape before noted old new def values block)
  fills_there (Full cap) so full = (full.0, record { now = now; mid = mid; tree = tree; x = x; comes = comes_to g shape before old def values block now mid n tree x at is GainsEntry (gained_changed g shape before old def values block now mid n so.done); full = full.1 })
  fills_there (Store fault) so full = tt

  -- and where the listing runs full
  pub runs_full_there : (fault : SpaceFault) → IsListing g shape before now old mid def values block n
      → IfFull fault (λ cap. (cap ≡ shape.extents) × ((owners : List Kind) (t : Forest) → StandsTree g shape mid tree owners t → FindsFull g shape now noted mid new tree x owners t))
      → IfFull fault (λ cap. (owners : List Kind) (trees : List Forest) → StandTrees g shape old owners (block_index_places def) trees → IsTrue (g.state old).is_told → AreRightNotes shape before owners
      → RunsFull shape (g.state old).work (added_entries (index_listings def values block)))
  runs_full_there (Full cap) so full = λ owners trees st told notes.
      let d = (so.done owners trees st).first in
      added_full g shape before old (block_index_places def) (cell_entries def values block) now noted mid new n tree x at is so.runs.works.steady.is_told owners d.owners_now trees d.trees_now d.changes told notes
      (so.makes owners trees st told notes) full.1
  runs_full_there (Store fault) so full = tt

-- all indexes were changed
module _ {S : Type 0} {g : Ghosts S} (shape : Shape) (before now : SpaceNotes) (old mid : S) (def : TableDef) (values : List Value) (block n : ℕ) (all : n ≡ length (cell_entries def values block)) where
  pub all_listed : IsListing g shape before now old mid def values block n → (owners : List Kind) (trees : List Forest) → StandTrees g shape old owners (block_index_places def) trees → ListsBlock g shape before now mid def values block owners trees
  all_listed so = subst (HaveGained g shape before old def values block now mid) all so.done

  pub all_unlisted : IsUnlisting g shape before now old mid def values block n → (owners : List Kind) (trees : List Forest) → StandTrees g shape old owners (block_index_places def) trees → UnlistsBlock g shape before now mid def values block owners trees
  all_unlisted so = subst (HaveLost g shape before old def values block now mid) all so.done

  -- as changes of space
  pub all_added : IsListing g shape before now old mid def values block n → (owners : List Kind) (trees : List Forest) → StandTrees g shape old owners (block_index_places def) trees → IsTrue (g.state old).is_told → AreRightNotes shape before owners
      → MakesChanges shape (g.state old).work (added_entries (index_listings def values block)) (g.state mid).work
  all_added so owners trees st told notes = made_all (λ listing. AddEntry listing.0 listing.1) shape _ _ (block_index_places def) (cell_entries def values block) n (omega (arith, all)) (so.makes owners trees st told notes)

  pub all_removed : IsUnlisting g shape before now old mid def values block n → (owners : List Kind) (trees : List Forest) → StandTrees g shape old owners (block_index_places def) trees → IsTrue (g.state old).is_told
      → MakesChanges shape (g.state old).work (removed_entries (index_listings def values block)) (g.state mid).work
  all_removed so owners trees st told = made_all (λ listing. RemoveEntry listing.0 listing.1) shape _ _ (block_index_places def) (cell_entries def values block) n (omega (arith, all)) (so.makes owners trees st told)
