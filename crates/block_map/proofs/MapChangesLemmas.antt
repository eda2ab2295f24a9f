-- What calls on the tree of a block map say of the map.
use Rattle.std.proofs.Common.{◌≡◌, ℕ, List, ap, sym, ◌∙◌, subst, take, inl, inr}
use Rattle.std.specs.Prelude.{Bool, true, false, MatchBool, Option, Some, None}
use Rattle.mdc_words.specs.ByteOrder.{Entry}
use Rattle.store_api.specs.Frame.{NoPage}
use Rattle.store_api.specs.RunsOverPages.{RunsOverPages}
use Rattle.store_api.specs.Works.{Steady}
use Rattle.store_api.specs.declared.fault.Damage.{Damage}
use Rattle.store_api.specs.declared.fault.StoreFault.{StoreFault}
use Rattle.store_api.specs.declared.pages.Pages.{Ghosts}
use Rattle.store_api.specs.declared.shape.Shape.{Shape}
use Rattle.store_api.proofs.RunsOverPagesLemmas.{runs_then, runs_wider}
use Rattle.extent_map.specs.declared.kind.Kind.{Kind}
use Rattle.extent_map.specs.declared.space_notes.SpaceNotes.{SpaceNotes}
use Rattle.entry_tree.specs.Amending.{AmendsEntry, IsAmended}
use Rattle.entry_tree.specs.EntryBounds.{IsEntryOf}
use Rattle.entry_tree.specs.Forest.{Forest, leaf_entries}
use Rattle.entry_tree.specs.HeldTrees.{HoldsTree, IsTreePage}
use Rattle.entry_tree.specs.Pruning.{BreaksTreeOrReturn, IsTreeOrMapPage, RemovesEntry}
use Rattle.entry_tree.specs.Standing.{StandsTree}
use Rattle.entry_tree.specs.declared.tree.Tree.{Tree}
use Rattle.entry_tree.proofs.ReadLeafLemmas.{holds_still, tree_page_still}
use Rattle.entry_tree.proofs.RemoveLemmas.{breaks_held, breaks_same, page_same, stands_same, tree_page}
use Rattle.block_map.specs.BlockMaps.{AnyMap, BreaksMapTree, FindsBlock, HasRow, IsMapForm, NamesBlock}
use Rattle.block_map.specs.MapChanges.{BreaksLeaving, ChangesRowTo, LeavesMap, SetsRow}
use Rattle.block_map.specs.MapRows.{row_entry}
use Rattle.block_map.specs.declared.row.BlockRow.{BlockRow}
use Rattle.block_map.proofs.MapFormLemmas.{stands_alone}
use Rattle.block_map.proofs.MapRunsLemmas.{breaks_map_still}

-- two rows of one block begin with the same four bytes
pub same_front : (was is : BlockRow) (x y : Entry) → x ≡ row_entry was → y ≡ row_entry is → was.block ≡ is.block → take 4 x ≡ take 4 y
same_front was is x y e k same =
    ap (take 4) e ∙ ap (λ (b : ℕ). take 4 (row_entry (record is { block = b }))) same ∙ sym (ap (take 4) k)

-- what an answer of `amend` says
pub amended_there : {S : Type 0} (g : Ghosts S) (old new : S) (tree : Tree) (x y : Entry) (t : Forest) (row : BlockRow) (there : Bool) → x ≡ row_entry row → there ≡ true → IsAmended g old new tree x y t there → HasRow row t
amended_there g old new tree x y t row true e k a = subst (λ (v : Entry). IsEntryOf v (leaf_entries t)) e a.0
amended_there g old new tree x y t row false e k a = cc

pub amended_absent : {S : Type 0} (g : Ghosts S) (old new : S) (tree : Tree) (x y : Entry) (t : Forest) (row : BlockRow) (there : Bool) → x ≡ row_entry row → there ≡ false → IsAmended g old new tree x y t there
    → HasRow row t → ⊥
amended_absent g old new tree x y t row true e k a h = cc
amended_absent g old new tree x y t row false e k a h = a.1 (subst (λ (v : Entry). IsEntryOf v (leaf_entries t)) (sym e) h)

pub amended_changes : {S : Type 0} (g : Ghosts S) (old new : S) (tree : Tree) (x y : Entry) (t : Forest) (was is : BlockRow) (there : Bool) → x ≡ row_entry was → y ≡ row_entry is → there ≡ true
    → IsAmended g old new tree x y t there → IsMapForm t → ChangesRowTo g new tree was is t
amended_changes g old new tree x y t was is true e k q a f =
    subst (λ (v : Entry). AmendsEntry g new tree (row_entry was) v t) k (subst (λ (v : Entry). AmendsEntry g new tree v y t) e (a.1 (stands_alone t x f a.0)))
amended_changes g old new tree x y t was is false e k q a f = cc

module _ {S : Type 0} {g : Ghosts S} where
  -- a block is found first, and then its row is replaced
  pub sets_row : (s mid new : S) (tree : Tree) (t : Forest) (was row : BlockRow) → Steady g s mid → (g.state mid).work ≡ (g.state s).work → HoldsTree g s tree t → IsMapForm t
      → FindsBlock t row.block (Some was) → ((u : Forest) → HoldsTree g mid tree u → IsMapForm u → ChangesRowTo g new tree was row u) → SetsRow g new tree row t
  sets_row s mid new tree t was row steady same h f found changes = (was, found.0, found.1, changes t (holds_still steady same h) f)

  pub runs_set : {old mid new : S} {fault : Option StoreFault} (tree : Tree) (block : ℕ) (was : BlockRow) → RunsOverPages g NoPage (IsTreePage g old tree) (BreaksMapTree g old tree AnyMap) old mid None
      → (g.state mid).work ≡ (g.state old).work → ((t : Forest) → HoldsTree g old tree t → FindsBlock t block (Some was))
      → RunsOverPages g (IsTreePage g mid tree) (IsTreePage g mid tree) (BreaksMapTree g mid tree (HasRow was)) mid new fault
      → RunsOverPages g (IsTreePage g old tree) (IsTreePage g old tree) (BreaksMapTree g old tree (NamesBlock block)) old new fault
  runs_set {old} {mid} {new} {fault} tree block was first same found second =
      let steady = first.works.steady in
      let start : RunsOverPages g (IsTreePage g old tree) (IsTreePage g old tree) (BreaksMapTree g old tree (NamesBlock block)) old mid None =
      runs_wider first (λ p there none. absurd none) (λ p is. is) (λ d b. any_named b) in
      runs_then start second (λ p there is. tree_page_still p steady same is) (λ p is. tree_page_still p steady same is)
      (λ d b. breaks_map_still (NamesBlock block) (HasRow was) d steady same (λ t h named. (found t h).1) b)
    where
      any_named : {d : Damage} → BreaksMapTree g old tree AnyMap d → BreaksMapTree g old tree (NamesBlock block) d
      any_named (inl b) = inl b
      any_named (inr b) = inr (record { page = b.page; rule = b.rule; broken = λ t h f n. b.broken t h f tt })

  -- a read of the map, in a call that may name more
  pub reading_breaks : {s : S} {tree : Tree} (Expected : Forest → Type 0) (d : Damage) → BreaksMapTree g s tree AnyMap d → BreaksMapTree g s tree Expected d
  reading_breaks Expected d (inl b) = inl b
  reading_breaks Expected d (inr b) = inr (record { page = b.page; rule = b.rule; broken = λ t h f n. b.broken t h f tt })

  pub leaving_breaks : {shape : Shape} {s : S} {tree : Tree} (block : ℕ) (d : Damage) → BreaksMapTree g s tree AnyMap d → BreaksLeaving g shape s tree block d
  leaving_breaks block d (inl b) = inl (breaks_held b)
  leaving_breaks block d (inr b) = inr (record { page = b.page; rule = b.rule; broken = λ owners t h f n. b.broken t h.held f tt })

  -- the read before a removal
  pub runs_before_leaving : {old mid : S} {fault : Option StoreFault} (shape : Shape) (tree : Tree) (block : ℕ) → RunsOverPages g NoPage (IsTreePage g old tree) (BreaksMapTree g old tree AnyMap) old mid fault
      → RunsOverPages g (IsTreeOrMapPage g shape old tree) (IsTreeOrMapPage g shape old tree) (BreaksLeaving g shape old tree block) old mid fault
  runs_before_leaving shape tree block run = runs_wider run (λ p there none. absurd none) (λ p is. tree_page is) (λ d b. leaving_breaks block d b)

  -- a row is found first, and then taken out
  pub runs_leave : {old mid new : S} {fault : Option StoreFault} (shape : Shape) (tree : Tree) (block : ℕ) → RunsOverPages g NoPage (IsTreePage g old tree) (BreaksMapTree g old tree AnyMap) old mid None
      → (g.state mid).work ≡ (g.state old).work
      → RunsOverPages g (IsTreeOrMapPage g shape mid tree) (IsTreeOrMapPage g shape mid tree) (BreaksTreeOrReturn g shape mid tree) mid new fault
      → RunsOverPages g (IsTreeOrMapPage g shape old tree) (IsTreeOrMapPage g shape old tree) (BreaksLeaving g shape old tree block) old new fault
  runs_leave shape tree block first same second =
      let told = first.works.steady.is_told in
      runs_then (runs_before_leaving shape tree block first) second (λ p there is. page_same told same is) (λ p is. page_same told same is) (λ d b. inl (breaks_same told same b))

  pub leaves_map : (old mid new : S) (shape : Shape) (before noted : SpaceNotes) (tree : Tree) (owners : List Kind) (t : Forest) (block : ℕ) (row : BlockRow) (x : Entry) (there : Bool) → x ≡ row_entry row → there ≡ true
      → (g.state mid).is_told ≡ (g.state old).is_told → (g.state mid).work ≡ (g.state old).work → StandsTree g shape old tree owners t → FindsBlock t block (Some row)
      → ((o : List Kind) (u : Forest) → StandsTree g shape mid tree o u → MatchBool there (RemovesEntry g shape before noted new tree x o u) (IsEntryOf x (leaf_entries u) → ⊥)) → LeavesMap g shape before noted new tree block owners t
  leaves_map old mid new shape before noted tree owners t block row x true e is told same s found removes =
      (row, found.0, subst (λ (v : Entry). RemovesEntry g shape before noted new tree v owners t) e (removes owners t (stands_same told same s)))
  leaves_map old mid new shape before noted tree owners t block row x false e is told same s found removes = cc

  -- a row that was found can be taken out
  pub leaves_none : (old mid new : S) (shape : Shape) (before noted : SpaceNotes) (tree : Tree) (owners : List Kind) (t : Forest) (block : ℕ) (row : BlockRow) (x : Entry) (there : Bool) → x ≡ row_entry row → there ≡ false
      → (g.state mid).is_told ≡ (g.state old).is_told → (g.state mid).work ≡ (g.state old).work → StandsTree g shape old tree owners t → FindsBlock t block (Some row)
      → ((o : List Kind) (u : Forest) → StandsTree g shape mid tree o u → MatchBool there (RemovesEntry g shape before noted new tree x o u) (IsEntryOf x (leaf_entries u) → ⊥)) → ⊥
  leaves_none old mid new shape before noted tree owners t block row x true e is told same s found removes = cc
  leaves_none old mid new shape before noted tree owners t block row x false e is told same s found removes =
      removes owners t (stands_same told same s) (subst (λ (v : Entry). IsEntryOf v (leaf_entries t)) (sym e) found.1)
