-- What `make` needs, over plain variables.
use Rattle.std.proofs.Common.{◌≡◌, ◌<◌, ◌≤◌, ◌+◌, ℕ, List, [], ◌∷◌, length, max, refl, arith, sym, subst, inl, inr, IsTrue}
use Rattle.std.specs.Prelude.{None}
use Rattle.std.proofs.lemmas.Bool.{cases_eq}
use Rattle.std.proofs.lemmas.Nat.{le-div}
use Rattle.node_page.specs.Node.Node.{LeafNode}
use Rattle.store_api.specs.Extents.{first_page_of}
use Rattle.store_api.specs.Causes.{NoDamage}
use Rattle.store_api.specs.Frame.{IsCounted, NoPage, OnlyPage, Touches}
use Rattle.store_api.specs.RunsOverPages.{RunsOverPages}
use Rattle.store_api.specs.declared.pages.Pages.{Ghosts}
use Rattle.store_api.specs.declared.shape.Shape.{Shape}
use Rattle.extent_map.specs.Map.{HoldsMap, KeepsRoot, StatesGrowth, BringsZeros}
use Rattle.extent_map.specs.Owners.{IsClaimable, IsLowestClaimable, IsUsedPage, IsExtentPage, AreRightNotes, extent_of, with_used_page}
use Rattle.extent_map.specs.declared.kind.Kind.{Kind}
use Rattle.extent_map.specs.declared.space_notes.SpaceNotes.{SpaceNotes}
use Rattle.extent_map.proofs.DamagesLemmas.{holds_first_count}
use Rattle.extent_map.proofs.GrowthLemmas.{growth_keeps, keeps_root_still, zeros_none, zeros_then, zeros_wider}
use Rattle.entry_tree.specs.HeldTrees.{nodes_in}
use Rattle.entry_tree.specs.Standing.{GrowsWith, IsIdlePage, IsMapSpace, MakesTree}
use Rattle.entry_tree.specs.declared.tree.Tree.{Tree}
use Rattle.entry_tree.proofs.ForestLemmas.{once_other, once_least}
use Rattle.entry_tree.proofs.ClaimsLemmas.{grows_still}
use Rattle.entry_tree.proofs.StandingLemmas.{map_stays, extent_not_space}
use Rattle.entry_tree.proofs.UsedPagesLemmas.{claimed_used, claims_idle, extent_below}

-- a page of an extent isn't page 0
root_not_zero : (shape : Shape) (root : ℕ) → IsExtentPage shape root → OnlyPage root 0 → ⊥
root_not_zero shape root page is = let b = page.behind in omega (arith, b, is)

module _ {S : Type 0} {g : Ghosts S} where
  -- a map that is held is told
  pub map_told : (shape : Shape) (s : S) (owners : List Kind) → HoldsMap g shape s owners → 0 < shape.extents → IsTrue (g.state s).is_told
  map_told shape s owners h some =
      let first = h.pages 0 (omega (arith, le-div 1 (shape.extents + 511) 512 (omega arith) (omega arith))) in first.page.is_told

  makes : (shape : Shape) (before noted : SpaceNotes) (old mid new : S) (tree : Tree) (owners : List Kind) → HoldsMap g shape old owners
      → IsClaimable shape owners tree.root → (AreRightNotes shape before owners → IsLowestClaimable shape owners tree.root) → HoldsMap g shape mid (with_used_page shape owners tree.root)
      → (AreRightNotes shape before owners → AreRightNotes shape noted (with_used_page shape owners tree.root))
      → GrowsWith g shape old new (tree.root ∷ []) → BringsZeros g (OnlyPage tree.root) old new
      → RunsOverPages g (OnlyPage tree.root) (OnlyPage tree.root) NoDamage mid new None → (IsTrue (g.state mid).is_told → nodes_in tree.width (g.state new) tree.root ≡ LeafNode []) → MakesTree g shape before noted old new tree owners
  makes shape before noted old mid new tree owners h c lowest map notes grows zeros run made = record {
    stands = record {
      map = map_stays (OnlyPage tree.root) shape mid new (with_used_page shape owners tree.root) map run.touches run.works.no_shorter
          (λ p on is. extent_not_space shape p (subst (IsExtentPage shape) (sym is) c.page) (inr on));
      held = record {
        is_tree = record {
          head = refl;
          holds = (made (map_told shape mid (with_used_page shape owners tree.root) map (omega (arith, extent_below shape tree.root c.page))), tt);
          fits = (tt, tt, refl);
          distinct = λ n. omega (arith, once_least n tree.root);
        };
        trim = tt;
      };
      used = λ p l. (elim (cases_eq p tree.root) [
        | inl e ↦ subst (λ (q : ℕ). IsUsedPage shape (with_used_page shape owners tree.root) q) (sym e) (claimed_used shape owners tree.root h.count c)
        | inr d ↦ absurd (omega (arith, l, once_other p tree.root d))
      ]);
    };
    claimable = c;
    lowest = lowest;
    notes = notes;
    grows = grows;
    zeros = zeros;
  }

  -- the page that was claimed became an empty tree
  pub makes_tree : (shape : Shape) (before noted : SpaceNotes) (old mid new : S) (tree : Tree) (root width : ℕ) (owners : List Kind) → tree.root ≡ root → tree.width ≡ width → HoldsMap g shape old owners
      → IsClaimable shape owners root → (AreRightNotes shape before owners → IsLowestClaimable shape owners root) → HoldsMap g shape mid (with_used_page shape owners root)
      → (AreRightNotes shape before owners → AreRightNotes shape noted (with_used_page shape owners root))
      → (g.state mid).is_told ≡ (g.state old).is_told → length (g.state old).work ≤ length (g.state mid).work → length (g.state new).work ≡ length (g.state mid).work → length (g.state mid).work ≡ max (length (g.state old).work) (first_page_of shape.extents shape.extent_pages (extent_of shape root + 1))
      → (IsCounted g old → IsCounted g mid) → StatesGrowth g old mid → BringsZeros g NoPage old mid
      → RunsOverPages g (OnlyPage root) (OnlyPage root) NoDamage mid new None → (IsTrue (g.state mid).is_told → nodes_in width (g.state new) root ≡ LeafNode []) → MakesTree g shape before noted old new tree owners
  makes_tree shape before noted old mid new tree root width owners at wide h c lowest map notes told longer same count counted stated zeros run made =
      makes shape before noted old mid new tree owners h (subst (IsClaimable shape owners) (sym at) c) (λ r. subst (IsLowestClaimable shape owners) (sym at) (lowest r))
      (subst (λ (p : ℕ). HoldsMap g shape mid (with_used_page shape owners p)) (sym at) map) (λ r. subst (λ (p : ℕ). AreRightNotes shape noted (with_used_page shape owners p)) (sym at) (notes r))
      (subst (λ (p : ℕ). GrowsWith g shape old new (p ∷ [])) (sym at)
      (grows_still shape old mid new (root ∷ []) longer run.works.steady.is_told (omega (arith, longer, holds_first_count shape h)) same run.touches (root_not_zero shape root c.page)
      (record { count = count; counted = counted; stated = stated })))
      (subst (λ (p : ℕ). BringsZeros g (OnlyPage p) old new) (sym at)
      (zeros_then told longer (zeros_wider zeros (λ p behind none. absurd none)) run.touches (λ p behind is. is) (zeros_none (omega (arith, same)))))
      (subst (λ (p : ℕ). RunsOverPages g (OnlyPage p) (OnlyPage p) NoDamage mid new None) (sym at) run)
      (λ told. subst (λ (w : ℕ). nodes_in w (g.state new) tree.root ≡ LeafNode []) (sym wide) (subst (λ (p : ℕ). nodes_in width (g.state new) p ≡ LeafNode []) (sym at) (made told)))

-- what becomes of page 0 where a claim failed, and where the page was made a leaf
pub root_kept_made : {S : Type 0} {g : Ghosts S} (shape : Shape) (old mid new : S) (root : ℕ) → IsExtentPage shape root → length (g.state old).work ≤ length (g.state mid).work → StatesGrowth g old mid → Touches g (OnlyPage root) mid new
    → KeepsRoot g old new
root_kept_made shape old mid new root page longer stated touched = keeps_root_still (growth_keeps longer stated) touched (root_not_zero shape root page)

-- a page that could be claimed was idle
pub root_in_space : {S : Type 0} {g : Ghosts S} (shape : Shape) (old : S) (root p : ℕ) → ((owners : List Kind) → HoldsMap g shape old owners → IsClaimable shape owners root) → OnlyPage root p → IsMapSpace g shape old p
root_in_space {S} {g} shape old root p unused is owners h =
    inr (subst (IsIdlePage shape owners) (sym is) (claims_idle shape owners (root ∷ []) root (unused owners h, tt) (inl refl)))
