-- Blocks given back one after the other: whose each extent is then, and what stands beside them.
use Rattle.std.proofs.Common.{◌≡◌, ◌≢◌, ℕ, List, [], ◌∷◌, ◌++◌, length, length-set, set, refl, ap, arith, sym, ◌∙◌, subst, inl, inr, get_or-set_same, get_or-set_other, IsTrue}
use Rattle.std.specs.Prelude.{Contains}
use Rattle.std.proofs.lemmas.Bool.{cases_eq, cases_lt}
use Rattle.std.proofs.lemmas.List.{get_or_past}
use Rattle.store_api.specs.Frame.{Touches}
use Rattle.store_api.specs.declared.pages.Pages.{Ghosts}
use Rattle.store_api.specs.declared.shape.Shape.{Shape}
use Rattle.extent_map.specs.Kinds.{is_block_kind, is_used_place}
use Rattle.extent_map.specs.Map.{HoldsMap, IsMapPage}
use Rattle.extent_map.specs.Owners.{AreRightNotes, IsUsedPage, extent_of, owner_of, place_in_extent, without_block}
use Rattle.extent_map.specs.declared.kind.Kind.{Kind}
use Rattle.extent_map.specs.declared.kind.Kind.TheVariants.{Free, Block}
use Rattle.extent_map.specs.declared.space_notes.SpaceNotes.{SpaceNotes}
use Rattle.extent_map.proofs.UsedPagesLemmas.{no_space_page, used-without_block}
use Rattle.entry_tree.specs.Forest.{Forest}
use Rattle.block_map.proofs.MapLinesLemmas.{contains_cases, contains_more}
use Rattle.table_trees.specs.TableTrees.{TreePlace}
use Rattle.table_trees.specs.TreesBeside.{StandTrees}
use Rattle.table_trees.proofs.SideBySideLemmas.{stand_on}
use Rattle.stored_catalog.specs.TreeRuns.{AreBlocksGiven, GivesBlocks, without_blocks}

-- ---- owners

pub owner_here : (owners : List Kind) (e : ℕ) → owner_of (without_block owners e) e ≡ Free
owner_here owners e = elim (cases_lt e (length owners)) [
  | inl low ↦ get_or-set_same owners e Free Free low
  | inr past ↦ get_or_past (set owners e Free) e Free (omega (arith, length-set owners e Free, past))
]

owner_other : (owners : List Kind) (e i : ℕ) → i ≢ e → owner_of (without_block owners e) i ≡ owner_of owners i
owner_other owners e i other = get_or-set_other owners e i Free Free other

-- what is free stays so
pub free_stays : (owners : List Kind) (given : List ℕ) (e : ℕ) → owner_of owners e ≡ Free → owner_of (without_blocks owners given) e ≡ Free
free_stays owners [] e free = free
free_stays owners (x ∷ given) e free = free_stays (without_block owners x) given e (elim (cases_eq e x) [
  | inl here ↦ ap (owner_of (without_block owners x)) here ∙ owner_here owners x
  | inr other ↦ owner_other owners x e other ∙ free
])

-- each extent is as it was, or it was given back
pub owner_without : (owners : List Kind) (given : List ℕ) (e : ℕ) → (Contains given e → ⊥) → owner_of (without_blocks owners given) e ≡ owner_of owners e
owner_without owners [] e kept = refl
owner_without owners (x ∷ given) e kept =
    owner_without (without_block owners x) given e (λ there. kept (contains_more e x given there)) ∙ owner_other owners x e (λ same. kept (0, omega arith, sym same))

pub owner_given : (owners : List Kind) (given : List ℕ) (e : ℕ) → Contains given e → owner_of (without_blocks owners given) e ≡ Free
owner_given owners [] e there = absurd (omega (arith, there.1))
owner_given owners (x ∷ given) e there = elim (contains_cases e x given there) [
  | inl first ↦ free_stays (without_block owners x) given e (ap (owner_of (without_block owners x)) (sym first) ∙ owner_here owners x)
  | inr later ↦ owner_given (without_block owners x) given e later
]

pub no_block_given : (owners : List Kind) (given : List ℕ) (e t : ℕ) → Contains given e → owner_of (without_blocks owners given) e ≡ Block t → ⊥
no_block_given owners given e t there is = let wrong = sym (owner_given owners given e there) ∙ is in absurd (cc)

-- what is a block now was it before
pub block_before : (owners : List Kind) (given : List ℕ) (e t : ℕ) → owner_of (without_blocks owners given) e ≡ Block t → owner_of owners e ≡ Block t
block_before owners [] e t is = is
block_before owners (x ∷ given) e t is =
    let was = block_before (without_block owners x) given e t is in
    elim (cases_eq e x) [
      | inl here ↦ let wrong = sym (ap (owner_of (without_block owners x)) here ∙ owner_here owners x) ∙ was in absurd (cc)
      | inr other ↦ sym (owner_other owners x e other) ∙ was
    ]

-- blocks given back before others, one after the other
pub without_blocks_then : (owners : List Kind) (first second : List ℕ) → without_blocks owners (first ++ second) ≡ without_blocks (without_blocks owners first) second
without_blocks_then owners [] second = refl
without_blocks_then owners (x ∷ first) second = without_blocks_then (without_block owners x) first second

given_then : (owners : List Kind) (first second : List ℕ) → AreBlocksGiven owners first → AreBlocksGiven (without_blocks owners first) second → AreBlocksGiven owners (first ++ second)
given_then owners [] second one two = two
given_then owners (x ∷ first) second one two = (one.0, given_then (without_block owners x) first second one.1 two)

-- ---- used pages

-- they are the same ones as before
pub used_still : (shape : Shape) (owners : List Kind) (given : List ℕ) (p : ℕ) → AreBlocksGiven owners given → IsUsedPage shape owners p → IsUsedPage shape (without_blocks owners given) p
used_still shape owners [] p blocks used = used
used_still shape owners (x ∷ given) p blocks used = used_still shape (without_block owners x) given p blocks.1 (used-without_block shape owners x p blocks.0 used)

pub used_before : (shape : Shape) (owners : List Kind) (given : List ℕ) (p : ℕ) → IsUsedPage shape (without_blocks owners given) p → IsUsedPage shape owners p
used_before shape owners [] p used = used
used_before shape owners (x ∷ given) p used =
    let was = used_before shape (without_block owners x) given p used in
    record {
      page = was.page;
      used = elim (cases_eq (extent_of shape p) x) [
        | inl here ↦
            let none = subst (λ (k : Kind). IsTrue (is_used_place (place_in_extent shape p) k)) (ap (owner_of (without_block owners x)) here ∙ owner_here owners x) was.used in
            absurd (cc)
        | inr other ↦ subst (λ (k : Kind). IsTrue (is_used_place (place_in_extent shape p) k)) (owner_other owners x (extent_of shape p) other) was.used
      ];
    }

-- ---- runs of returns

module _ {S : Type 0} (g : Ghosts S) where
  pub gives_none : (shape : Shape) (noted : SpaceNotes) (s : S) (owners : List Kind) → HoldsMap g shape s owners → GivesBlocks g shape noted noted s owners []
  gives_none shape noted s owners held = record { extents = held; blocks = tt; notes = λ right. right }

  -- one more
  pub gives_more : (shape : Shape) (before mid noted : SpaceNotes) (middle new : S) (owners : List Kind) (given : List ℕ) (e : ℕ) → GivesBlocks g shape before mid middle owners given
      → IsTrue (is_block_kind (owner_of (without_blocks owners given) e)) → HoldsMap g shape new (without_block (without_blocks owners given) e)
      → (AreRightNotes shape mid (without_blocks owners given) → AreRightNotes shape noted (without_block (without_blocks owners given) e)) → GivesBlocks g shape before noted new owners (given ++ e ∷ [])
  gives_more shape before mid noted middle new owners given e gave block held notes = record {
    extents = subst (HoldsMap g shape new) (sym (without_blocks_then owners given (e ∷ []))) held;
    blocks = given_then owners given (e ∷ []) gave.blocks (block, tt);
    notes = λ right. subst (AreRightNotes shape noted) (sym (without_blocks_then owners given (e ∷ []))) (notes (gave.notes right));
  }

  pub gives_then : (shape : Shape) (before mid noted : SpaceNotes) (middle new : S) (owners : List Kind) (first second : List ℕ) → GivesBlocks g shape before mid middle owners first
      → GivesBlocks g shape mid noted new (without_blocks owners first) second → GivesBlocks g shape before noted new owners (first ++ second)
  gives_then shape before mid noted middle new owners first second gave gives = record {
    extents = subst (HoldsMap g shape new) (sym (without_blocks_then owners first second)) gives.extents;
    blocks = given_then owners first second gave.blocks gives.blocks;
    notes = λ right. subst (AreRightNotes shape noted) (sym (without_blocks_then owners first second)) (gives.notes (gave.notes right));
  }

  -- trees stand as they did
  pub trees_after_giving : (shape : Shape) (before noted : SpaceNotes) (old mid : S) (places : List TreePlace) (trees : List Forest) (owners : List Kind) (given : List ℕ)
      → StandTrees g shape old owners places trees → GivesBlocks g shape before noted mid owners given → (g.state mid).is_told ≡ (g.state old).is_told → Touches g (IsMapPage shape) old mid
      → StandTrees g shape mid (without_blocks owners given) places trees
  trees_after_giving shape before noted old mid places trees owners given st gave told touched =
      stand_on (IsMapPage shape) shape old mid owners (without_blocks owners given) places trees st gave.extents
      (λ p used. used_still shape owners given p gave.blocks used) touched told (λ p l mine. no_space_page shape p (st.used p l).page (inr mine))
