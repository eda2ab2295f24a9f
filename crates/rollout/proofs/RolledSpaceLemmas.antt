-- What isn't the table's stays, as blocks of it are rolled out, and pages that differ in rows alone tell the same.
use Rattle.std.proofs.Common.{◌≡◌, ◌<◌, ◌∙◌, ℕ, List, [], ◌∷◌, length, sum_by, sym, ap, subst, arith, inl, inr, true}
use Rattle.std.specs.List.{AllZip}
use Rattle.mdc_ast.specs.declared.definition.TableDef.{TableDef}
use Rattle.store_api.specs.Frame.{Touches}
use Rattle.store_api.specs.declared.pages.Pages.{Ghosts}
use Rattle.store_api.specs.declared.shape.Shape.{Shape}
use Rattle.extent_map.specs.Owners.{IsUsedPage}
use Rattle.extent_map.specs.declared.kind.Kind.{Kind}
use Rattle.extent_map.specs.declared.space_notes.SpaceNotes.{SpaceNotes}
use Rattle.extent_map.proofs.LawsOfTheMap.{one_map}
use Rattle.extent_map.proofs.UsedPagesLemmas.{no_space_page}
use Rattle.entry_tree.specs.Forest.{Forest, times}
use Rattle.table_trees.specs.SpaceChanges.{IsSameSpace, free_extents, used_index_pages}
use Rattle.table_trees.specs.TableTrees.{TreePlace, tree_places}
use Rattle.table_trees.specs.ToldPages.{HasTree, PageList}
use Rattle.table_trees.specs.TreesBeside.{HoldsTreeAt}
use Rattle.table_trees.proofs.ToldPagesLemmas.{map_of_told, tree_of_told}
use Rattle.mdc_sound.specs.StandingTable.{ChangesTable, StandsTable, TableForests, forests_in_order, pages_of}
use Rattle.record_index.specs.SweptLeaf.{TakesNoSpace}
use Rattle.row_entries.specs.RowEntries.{IsTreeOrMapPageOfTable}
use Rattle.rollout.specs.RolledSpace.{RollsInSpace}
use Rattle.table_trees.proofs.TurningTreesLemmas.{used_page_stays}

-- the trees are told
trees_told : {S : Type 0} (g : Ghosts S) (s : S) → (g.state s).is_told ≡ true → (places : List TreePlace) (trees : List Forest) → AllZip (HoldsTreeAt g s) places trees → AllZip (HasTree (pages_of g s)) places trees
trees_told g s told [] [] held = tt
trees_told g s told [] (t ∷ trees) held = absurd held
trees_told g s told (place ∷ places) [] held = absurd held
trees_told g s told (place ∷ places) (t ∷ trees) held = (tree_of_told g s told place t held.0, trees_told g s told places trees held.1)

module _ {S : Type 0} (g : Ghosts S) (shape : Shape) (old new : S) (def : TableDef) (owners : List Kind) (forests : TableForests) (st : StandsTable g shape old def owners forests) where
  -- calls that changed pages of the table's trees and of the extent map alone, and claimed none, took no space of others
  pub rolls_in_space : {before noted : SpaceNotes} (owners_now : List Kind) (forests_now : TableForests) → ChangesTable g shape before noted old new def owners forests owners_now forests_now
      → ((p : ℕ) → 0 < sum_by (times p) (forests_in_order forests_now) → 0 < sum_by (times p) (forests_in_order forests)) → Touches g (IsTreeOrMapPageOfTable g shape old def) old new → (g.state new).is_told ≡ (g.state old).is_told
      → length (g.state new).work ≡ length (g.state old).work → TakesNoSpace shape (pages_of g old) (pages_of g new) → RollsInSpace shape def (pages_of g old) (pages_of g new)
  rolls_in_space owners_now forests_now changes fewer touched told count takes = record {
    takes = takes;
    trees = forests_in_order forests;
    had = trees_told g old st.told (tree_places def) (forests_in_order forests) st.trees.held;
    others = record {
      bytes = λ p used none.
          let was : IsUsedPage shape owners p = subst (λ (o : List Kind). IsUsedPage shape o p) old_same used in
          used_page_stays (IsTreeOrMapPageOfTable g shape old def) shape old new owners p st.trees.map st.told touched was
          (λ mine. elim (mine owners forests st) [ inl tree ↦ omega (arith, tree, none) | inr map ↦ no_space_page shape p was.page (inr map) ]);
      used = λ p used none.
          subst (λ (o : List Kind). IsUsedPage shape o p) (sym new_same) (changes.others_pages p (subst (λ (o : List Kind). IsUsedPage shape o p) old_same used) none);
    };
    no_more = λ p used.
        subst (λ (o : List Kind). IsUsedPage shape o p) (sym old_same)
        (elim (changes.used_pages p (subst (λ (o : List Kind). IsUsedPage shape o p) new_same used)) [ inl tree ↦ st.trees.used p (fewer p tree) | inr other ↦ other.0 ]);
    count = count;
  }
    where
      old_same : takes.old_owners ≡ owners
      old_same = one_map takes.old_map (map_of_told g old st.told shape owners st.trees.map)

      new_same : takes.new_owners ≡ owners_now
      new_same = one_map takes.new_map (map_of_told g new (told ∙ st.told) shape owners_now changes.stands.trees.map)

-- pages that differ in rows alone from those that were left tell the same
pub rolls_in_space_to : (shape : Shape) (def : TableDef) (old mid new : PageList) → RollsInSpace shape def old mid → IsSameSpace shape mid new → RollsInSpace shape def old new
rolls_in_space_to shape def old mid new rolls same = record {
  takes = record {
    old_owners = rolls.takes.old_owners;
    new_owners = same.owners;
    old_map = rolls.takes.old_map;
    new_map = same.has;
    few_extents = omega (arith, rolls.takes.few_extents, ap free_extents is);
    few_pages = omega (arith, rolls.takes.few_pages, ap (used_index_pages shape) is);
  };
  trees = rolls.trees;
  had = rolls.had;
  others = record {
    bytes = λ p used none. same.bytes p (subst (λ (o : List Kind). IsUsedPage shape o p) is (rolls.others.used p used none)) ∙ rolls.others.bytes p used none;
    used = λ p used none. subst (λ (o : List Kind). IsUsedPage shape o p) is (rolls.others.used p used none);
  };
  no_more = λ p used. rolls.no_more p (subst (λ (o : List Kind). IsUsedPage shape o p) (sym is) used);
  count = same.count ∙ rolls.count;
}
  where
    is : rolls.takes.new_owners ≡ same.owners
    is = one_map rolls.takes.new_map same.had
