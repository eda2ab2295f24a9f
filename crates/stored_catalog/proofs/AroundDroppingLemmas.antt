-- Blocks and trees of one place that are given back change nothing around it.
use Rattle.std.proofs.Common.{◌≡◌, ◌≢◌, ℕ, List, [], ◌∷◌, length, sum_by, ap, arith, sym, ◌∙◌, inl, inr}
use Rattle.std.specs.Prelude.{Contains, IsTrue}
use Rattle.std.specs.List.{AllZip}
use Rattle.std.proofs.lemmas.Bool.{cases_lt}
use Rattle.store_api.specs.Frame.{Touches}
use Rattle.store_api.specs.declared.pages.Pages.{Ghosts}
use Rattle.store_api.specs.declared.shape.Shape.{Shape}
use Rattle.store_api.proofs.FrameLemmas.{touches_wider}
use Rattle.extent_map.specs.Map.{IsMapPage}
use Rattle.extent_map.specs.Owners.{owner_of}
use Rattle.extent_map.specs.declared.kind.Kind.TheVariants.{Block}
use Rattle.extent_map.specs.declared.space_notes.SpaceNotes.{SpaceNotes}
use Rattle.entry_tree.specs.Forest.{Forest, times}
use Rattle.entry_tree.specs.Pruning.{without_pages}
use Rattle.table_trees.specs.TableTrees.{TreePlace}
use Rattle.table_trees.specs.ToldPages.{HasTree}
use Rattle.table_trees.specs.TreesBeside.{HoldsTreeAt, KeepsOwners, StandTrees, table_of_block}
use Rattle.table_trees.proofs.KeptOwnersLemmas.{block_of_table, keeps_returns}
use Rattle.table_trees.proofs.ToldPagesLemmas.{map_of_told, told_of_map, told_of_tree, tree_of_told}
use Rattle.mdc_sound.specs.SpaceRules.{DatabaseView}
use Rattle.mdc_sound.specs.StandingTable.{pages_of}
use Rattle.mdc_sound.proofs.SpaceRulesLemmas.{used_or_not}
use Rattle.stored_catalog.specs.AroundTable.{HasNoBlocks, StandsBut}
use Rattle.stored_catalog.specs.TreeRuns.{FreesTrees, GivesBlocks, without_blocks}
use Rattle.stored_catalog.proofs.AroundTableLemmas.{ChangesAround, root_still, touched_listed}
use Rattle.stored_catalog.proofs.GivenBlocksLemmas.{block_before, owner_without, trees_after_giving, used_before, used_still}

module _ {S : Type 0} (g : Ghosts S) (s : S) (told : IsTrue (g.state s).is_told) where
  trees_of_list : (places : List TreePlace) (trees : List Forest) → AllZip (HasTree (pages_of g s)) places trees → AllZip (HoldsTreeAt g s) places trees
  trees_of_list [] [] h = tt
  trees_of_list [] (t ∷ trees) h = absurd h
  trees_of_list (place ∷ places) [] h = absurd h
  trees_of_list (place ∷ places) (t ∷ trees) h = (told_of_tree g s told place t h.0, trees_of_list places trees h.1)

  pub list_of_trees : (places : List TreePlace) (trees : List Forest) → AllZip (HoldsTreeAt g s) places trees → AllZip (HasTree (pages_of g s)) places trees
  list_of_trees [] [] h = tt
  list_of_trees [] (t ∷ trees) h = absurd h
  list_of_trees (place ∷ places) [] h = absurd h
  list_of_trees (place ∷ places) (t ∷ trees) h = (tree_of_told g s told place t h.0, list_of_trees places trees h.1)

  -- the trees of a place stand side by side
  pub trees_beside : (shape : Shape) (view : DatabaseView) (t : ℕ) (places : List TreePlace) (trees : List Forest) → StandsBut shape (pages_of g s) view t places trees → StandTrees g shape s view.owners places trees
  trees_beside shape view t places trees st = record {
    map = told_of_map g s told shape view.owners st.extents;
    held = trees_of_list places trees st.held;
    used = λ p l. elim (used_or_not shape view.owners p) [ inl used ↦ used | inr off ↦ absurd (omega (arith, l, st.unused p off)) ];
    apart = λ p. elim (used_or_not shape view.owners p) [ inl used ↦ omega (arith, st.used p used) | inr off ↦ omega (arith, st.unused p off) ];
  }

module _ {S : Type 0} (g : Ghosts S) (shape : Shape) (old new : S) (view : DatabaseView) (t : ℕ) (places : List TreePlace) (trees : List Forest) (told : IsTrue (g.state old).is_told)
    (st : StandsBut shape (pages_of g old) view t places trees) (count : length (g.state new).work ≡ length (g.state old).work)
    (same : (g.state new).is_told ≡ (g.state old).is_told) (touched : Touches g (IsMapPage shape) old new) where
  off_root : IsMapPage shape 0 → ⊥
  off_root on = omega (arith, on.0)

  beside : StandTrees g shape old view.owners places trees
  beside = trees_beside g old told shape view t places trees st

  pub given_around : {before noted : SpaceNotes} (given : List ℕ) → ((e : ℕ) → Contains given e → owner_of view.owners e ≡ Block t) → GivesBlocks g shape before noted new view.owners given
      → ChangesAround shape (pages_of g old) (pages_of g new) view.owners t trees (without_blocks view.owners given) places trees
  given_around {before} {noted} given own gives = record {
    root = root_still g (IsMapPage shape) shape old new told st.root count touched off_root;
    extents = map_of_told g new (same ∙ told) shape (without_blocks view.owners given) gives.extents;
    held = list_of_trees g new (same ∙ told) places trees (trees_after_giving g shape before noted old new places trees view.owners given beside gives same touched).held;
    others_blocks = λ e u apart is. owner_without view.owners given e (λ there. not_both e u apart is (own e there)) ∙ is;
    no_others_blocks = λ e u apart is. block_before view.owners given e u is;
    others_pages = λ p used none. used_still shape view.owners given p gives.blocks used;
    used_pages = λ p used. elim (cases_lt 0 (sum_by (times p) trees)) [
      | inl some ↦ inl some
      | inr none ↦ inr (used_before shape view.owners given p used, omega (arith, none))
    ];
    used = λ p l. used_still shape view.owners given p gives.blocks (beside.used p l);
    apart = beside.apart;
    pages = λ p l. inl l;
    touched = touches_wider (touched_listed g (IsMapPage shape) old new told touched) (λ p on. inr (inr (inl (inr on))));
  }
    where
      not_both : (e u : ℕ) → u ≢ t → owner_of view.owners e ≡ Block u → owner_of view.owners e ≡ Block t → ⊥
      not_both e u apart is other = let kinds : Block u ≡ Block t = sym is ∙ other in let both : u ≡ t = cc in apart both

  freed_keeps : {before noted : SpaceNotes} (freed : FreesTrees g shape before noted new view.owners trees) → KeepsOwners shape view.owners trees (without_pages shape view.owners freed.given) []
  freed_keeps freed = keeps_returns shape view.owners freed.given trees [] beside.map.count (λ p l. (beside.used p l).page) (λ p. omega (arith, freed.counts p))

  -- what is a block then was one
  pub block_before_freeing : {before noted : SpaceNotes} (freed : FreesTrees g shape before noted new view.owners trees) (e u : ℕ) → owner_of (without_pages shape view.owners freed.given) e ≡ Block u → owner_of view.owners e ≡ Block u
  block_before_freeing freed e u is = block_of_table _ u (sym ((freed_keeps freed).blocks e) ∙ ap table_of_block is)

  pub freed_around : {before noted : SpaceNotes} (freed : FreesTrees g shape before noted new view.owners trees)
      → ChangesAround shape (pages_of g old) (pages_of g new) view.owners t trees (without_pages shape view.owners freed.given) [] []
  freed_around freed = record {
    root = root_still g (IsMapPage shape) shape old new told st.root count touched off_root;
    extents = map_of_told g new (same ∙ told) shape (without_pages shape view.owners freed.given) freed.extents;
    held = tt;
    others_blocks = λ e u apart is. block_of_table _ u ((freed_keeps freed).blocks e ∙ ap table_of_block is);
    no_others_blocks = λ e u apart is. block_before_freeing freed e u is;
    others_pages = (freed_keeps freed).others;
    used_pages = (freed_keeps freed).used;
    used = λ p l. absurd (omega (arith, l));
    apart = λ p. omega arith;
    pages = λ p l. absurd (omega (arith, l));
    touched = touches_wider (touched_listed g (IsMapPage shape) old new told touched) (λ p on. inr (inr (inl (inr on))));
  }

  -- returns of index pages make no block
  pub no_blocks_freed : {before noted : SpaceNotes} (freed : FreesTrees g shape before noted new view.owners trees) → HasNoBlocks view.owners t → HasNoBlocks (without_pages shape view.owners freed.given) t
  no_blocks_freed freed none e is = none e (block_before_freeing freed e t is)
