-- What a change of one tree leaves of another, and of the blocks.
use Rattle.std.proofs.Common.{◌≡◌, ◌<◌, ◌≤◌, ◌⊎◌, ℕ, List, [], ◌∷◌, ap, sym, ◌∙◌, subst, inl, inr, IsTrue, arith, length, get_or-set_other}
use Rattle.std.proofs.lemmas.Bool.{cases_eq}
use Rattle.store_api.specs.Frame.{Touches}
use Rattle.store_api.specs.declared.pages.Pages.{Ghosts}
use Rattle.store_api.specs.declared.shape.Shape.{Shape}
use Rattle.extent_map.specs.Kinds.{is_unused_place, with_used_place}
use Rattle.extent_map.specs.Map.{HoldsMap, IsSpacePage}
use Rattle.extent_map.specs.Owners.{IsUnusedPage, IsClaimable, owner_of, extent_of, place_in_extent, with_used_page}
use Rattle.extent_map.specs.declared.kind.Kind.{Kind}
use Rattle.extent_map.specs.declared.kind.Kind.TheVariants.{Free, Block}
use Rattle.mdc_words.specs.ByteOrder.{Entry}
use Rattle.entry_tree.specs.Amending.{AmendsEntry}
use Rattle.entry_tree.specs.Forest.{Forest, times}
use Rattle.entry_tree.specs.HeldTrees.{IsTreePage}
use Rattle.entry_tree.specs.Standing.{StandsTree, with_pages, AreClaims, IsIdlePage, IsTreeSpace}
use Rattle.entry_tree.specs.declared.tree.Tree.{Tree}
use Rattle.entry_tree.proofs.StandingLemmas.{map_stays, tree_stays, used_not_space}
use Rattle.entry_tree.proofs.UsedPagesLemmas.{used_after, used_not_idle}

module _ {S : Type 0} {g : Ghosts S} where
  -- another tree has no page that the change may write
  apart_from_space : (shape : Shape) (old : S) (tree other : Tree) (owners : List Kind) (t u : Forest) → StandsTree g shape old tree owners t → StandsTree g shape old other owners u → ((p : ℕ) → 0 < times p u → 0 < times p t → ⊥)
      → (p : ℕ) → 0 < times p u → IsTreeSpace g shape old tree p → ⊥
  apart_from_space shape old tree other owners t u s k apart p l mine = go (mine owners t s)
    where
      go : 0 < times p t ⊎ (IsSpacePage shape p ⊎ IsIdlePage shape owners p) → ⊥
      go (inl here) = apart p l here
      go (inr (inl space)) = used_not_space shape owners p (k.used p l) space
      go (inr (inr idle)) = used_not_idle shape owners p (k.used p l) idle

  -- other trees stay
  pub other_tree_stays : (shape : Shape) (old new : S) (tree other : Tree) (owners : List Kind) (claimed : List ℕ) (t u : Forest) → StandsTree g shape old tree owners t → StandsTree g shape old other owners u
      → ((p : ℕ) → 0 < times p u → 0 < times p t → ⊥) → Touches g (IsTreeSpace g shape old tree) old new → (g.state new).is_told ≡ (g.state old).is_told
      → HoldsMap g shape new (with_pages shape owners claimed) → StandsTree g shape new other (with_pages shape owners claimed) u
  other_tree_stays shape old new tree other owners claimed t u s k apart touched told map = record {
    map = map;
    held = tree_stays (IsTreeSpace g shape old tree) old new other u k.held touched told (apart_from_space shape old tree other owners t u s k apart);
    used = λ p l. (used_after shape owners claimed p (k.used p l));
  }

-- a claim leaves blocks as they are
block_stays : (shape : Shape) (owners : List Kind) (p e table : ℕ) → IsClaimable shape owners p → owner_of owners e ≡ Block table → owner_of (with_used_page shape owners p) e ≡ Block table
block_stays shape owners p e table c is = elim (cases_eq e (extent_of shape p)) [
  | inl same ↦ absurd (no_block c.claimable (ap (owner_of owners) (sym same) ∙ is))
  | inr other ↦ get_or-set_other owners (extent_of shape p) e (with_used_place (place_in_extent shape p) (owner_of owners (extent_of shape p))) Free other ∙ is
]
  where
    no_block : IsUnusedPage shape owners p ⊎ ((owner_of owners (extent_of shape p) ≡ Free) × (place_in_extent shape p ≡ 0)) → owner_of owners (extent_of shape p) ≡ Block table → ⊥
    no_block (inl unused) b = let u = subst (λ (k : Kind). IsTrue (is_unused_place (place_in_extent shape p) k)) b unused.unused in absurd cc
    no_block (inr free) b = let both : Free ≡ Block table = sym free.0 ∙ b in absurd cc

pub blocks_stay : (shape : Shape) (owners : List Kind) (claimed : List ℕ) (e table : ℕ) → AreClaims shape owners claimed → owner_of owners e ≡ Block table → owner_of (with_pages shape owners claimed) e ≡ Block table
blocks_stay shape owners [] e table h is = is
blocks_stay shape owners (p ∷ claimed) e table h is = blocks_stay shape (with_used_page shape owners p) claimed e table h.1 (block_stays shape owners p e table h.0 is)

module _ {S : Type 0} {g : Ghosts S} where
  -- where an entry was replaced by another one, tree and map still stand together, with the same owners
  pub amended_stands : (shape : Shape) (old new : S) (tree : Tree) (x y : Entry) (owners : List Kind) (t : Forest) → StandsTree g shape old tree owners t → Touches g (IsTreePage g old tree) old new
      → length (g.state old).work ≤ length (g.state new).work → (a : AmendsEntry g new tree x y t) → StandsTree g shape new tree owners a.after
  amended_stands shape old new tree x y owners t s touched longer a = record {
    map = map_stays (IsTreePage g old tree) shape old new owners s.map touched longer (λ p on mine. used_not_space shape owners p (s.used p (mine t s.held)) (inr on));
    held = a.held;
    used = λ p l. s.used p (omega (arith, l, a.pages p));
  }
