-- A change of one tree, as its pages see it: the tree turns, and all other index pages stay.
use Rattle.std.proofs.Common.{◌≡◌, ℕ, IsTrue, List, [], ◌∷◌, ap, arith, sym, ◌∙◌, inl, inr}
use Rattle.store_api.specs.Frame.{Touches}
use Rattle.store_api.specs.StoreState.{page_at}
use Rattle.store_api.specs.declared.pages.Pages.{Ghosts}
use Rattle.store_api.specs.declared.shape.Shape.{Shape}
use Rattle.store_api.proofs.FrameLemmas.{holds_here}
use Rattle.extent_map.specs.Map.{HoldsMap}
use Rattle.extent_map.specs.Owners.{IsUsedPage, owner_of}
use Rattle.extent_map.specs.declared.kind.Kind.{Kind}
use Rattle.extent_map.specs.declared.space_notes.SpaceNotes.{SpaceNotes}
use Rattle.extent_map.proofs.UsedPagesLemmas.{no_space_page, used_page_there}
use Rattle.entry_tree.specs.Forest.{Forest}
use Rattle.entry_tree.specs.Standing.{StandsTree}
use Rattle.entry_tree.specs.declared.tree.Tree.{Tree}
use Rattle.entry_tree.proofs.UsedPagesLemmas.{used_not_idle}
use Rattle.table_trees.specs.SpaceChanges.{KeepsBlocks, TurnsTree}
use Rattle.table_trees.specs.TableTrees.{place_of_tree}
use Rattle.table_trees.specs.TreesBeside.{ChangesTrees, IsSpaceOfTrees, table_of_block}
use Rattle.table_trees.proofs.KeptOwnersLemmas.{block_of_table}
use Rattle.table_trees.proofs.ToldPagesLemmas.{tree_of_told}
use Rattle.table_trees.proofs.TreeListsLemmas.{times-one}
use Rattle.table_trees.proofs.TreesBesideLemmas.{one_stands}

-- blocks stay where the table of each extent does
pub keeps_blocks : (old new : List Kind) → ((e : ℕ) → table_of_block (owner_of new e) ≡ table_of_block (owner_of old e)) → KeepsBlocks old new
keeps_blocks old new same t e = (
  λ is. block_of_table (owner_of new e) t (same e ∙ ap table_of_block is),
  λ is. block_of_table (owner_of old e) t (sym (same e) ∙ ap table_of_block is),
)

module _ {S : Type 0} {g : Ghosts S} where
  -- a used page that isn't touched is as it was
  pub used_page_stays : (Mine : ℕ → Type 0) (shape : Shape) (old new : S) (owners : List Kind) (p : ℕ) → HoldsMap g shape old owners → IsTrue (g.state old).is_told → Touches g Mine old new
      → IsUsedPage shape owners p → (Mine p → ⊥) → page_at (g.state new).work p ≡ page_at (g.state old).work p
  used_page_stays Mine shape old new owners p map told touched used apart =
      let now = touched.others p (page_at (g.state old).work p) apart (holds_here p told (used_page_there p map used)) in
      now.bytes_are

  -- the tree turns into what it is now
  pub tree_turns : (shape : Shape) (before noted : SpaceNotes) (old new : S) (tree : Tree) (owners owners_now : List Kind) (t after : Forest) → StandsTree g shape old tree owners t → IsTrue (g.state old).is_told
      → (g.state new).is_told ≡ (g.state old).is_told → Touches g (IsSpaceOfTrees g shape old (place_of_tree tree ∷ [])) old new
      → ChangesTrees g shape before noted new (place_of_tree tree ∷ []) owners (t ∷ []) owners_now (after ∷ [])
      → TurnsTree shape owners owners_now (g.state old).work (g.state new).work (place_of_tree tree) t after
  tree_turns shape before noted old new tree owners owners_now t after st told still touched c =
      let stood = one_stands shape old tree owners t st in
      record {
        had = tree_of_told g old told (place_of_tree tree) t stood.held.0;
        was_used = st.used;
        has = tree_of_told g new (still ∙ told) (place_of_tree tree) after c.stand.held.0;
        used = λ p. (
          λ is. elim (c.kept.used p is) [
            | inl now ↦ inl (omega (arith, now, times-one p after))
            | inr was ↦ inr (was.0, omega (arith, was.1, times-one p t))
          ],
          λ is. elim is [
            | inl now ↦ c.stand.used p (omega (arith, now, times-one p after))
            | inr was ↦ c.kept.others p was.0 (omega (arith, was.1, times-one p t))
          ],
        );
        fresh = λ p l none used. elim (c.pages p (omega (arith, l, times-one p after))) [
          | inl was ↦ absurd (omega (arith, was, none, times-one p t))
          | inr idle ↦ used_not_idle shape owners p used idle
        ];
        others = record {
          bytes = λ p used none. used_page_stays (IsSpaceOfTrees g shape old (place_of_tree tree ∷ [])) shape old new owners p st.map told touched used
              (λ mine. elim (mine owners (t ∷ []) stood) [
                | inl here ↦ omega (arith, here, none, times-one p t)
                | inr (inl space) ↦ no_space_page shape p used.page space
                | inr (inr idle) ↦ used_not_idle shape owners p used idle
              ]);
          used = λ p used none. c.kept.others p used (omega (arith, none, times-one p t));
        };
        blocks = keeps_blocks owners owners_now c.kept.blocks;
      }
