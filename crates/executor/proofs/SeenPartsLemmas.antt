-- What is seen of the parts of a plan's lists, one after the other.
use Rattle.std.proofs.Common.{◌≡◌, ℕ, List, [], ◌∷◌, arith, get_or, inl, inr, subst, sym}
use Rattle.std.specs.Prelude.{All, None, Option, Some}
use Rattle.std.proofs.lemmas.List.Elements.{All-cons}
use Rattle.mdc_ast.specs.declared.definition.TableDef.{TableDef}
use Rattle.store_api.specs.Works.{Steady}
use Rattle.store_api.specs.declared.pages.Pages.{Ghosts}
use Rattle.store_api.specs.declared.shape.Shape.{Shape}
use Rattle.table_trees.specs.TableTrees.{map_place}
use Rattle.live_rows.proofs.LookRunsLemmas.{at_still}
use Rattle.mdc_table.specs.SeenBlocks.{HasSeenCountedBlock}
use Rattle.mdc_table.specs.SeenPlaces.{HasSeenFilled}
use Rattle.block_lists.specs.declared.part.Part.{Part}
use Rattle.executor.specs.SeenParts.{HasSeenOf, HasSeenPart, whole_listed}

-- with those that are left all parts were seen
abbrev pub AreSeenSoFar : {S : Type 0} → Ghosts S → Shape → S → TableDef → List Part → List Part → Type 0
AreSeenSoFar g shape s def all left = All (HasSeenPart g shape s def) left → All (HasSeenPart g shape s def) all

module _ {S : Type 0} {g : Ghosts S} (shape : Shape) (old mid : S) (def : TableDef) (steady : Steady g old mid) (same : (g.state mid).work ≡ (g.state old).work) where
  -- what was seen of a block midway is so of the pages at the start
  of_still : (block : ℕ) (slots : Option (List ℕ)) → HasSeenOf g shape mid def block slots → HasSeenOf g shape old def block slots
  of_still block None seen = record {
    rows = seen.rows;
    line = λ t held. seen.line t (at_still old mid (map_place def) t steady same held);
    some = seen.some;
    seen = subst (λ pages. HasSeenCountedBlock shape pages def (whole_listed block seen.rows)) same seen.seen;
  }
  of_still block (Some slots) (inl (used, seen)) = inl ((λ t held. used t (at_still old mid (map_place def) t steady same held)), subst (λ pages. HasSeenFilled shape pages def block slots) same seen)
  of_still block (Some slots) (inr (inl not)) = inr (inl (record { found = not.found; finds = λ t held. not.finds t (at_still old mid (map_place def) t steady same held); unused = not.unused }))
  of_still block (Some slots) (inr (inr past)) = inr (inr past)

  pub parts_still : (parts : List Part) → All (HasSeenPart g shape mid def) parts → All (HasSeenPart g shape old def) parts
  parts_still parts seen i d low = let part = get_or parts i d in of_still part.block part.slots (seen i d low)

  -- one part more
  pub seen_more : (all : List Part) {left : List Part} (part : Part) (now : List Part) → left ≡ part ∷ now → HasSeenPart g shape mid def part → AreSeenSoFar g shape old def all left → AreSeenSoFar g shape old def all now
  seen_more all part now is seen so_far rest =
      so_far (subst (All (HasSeenPart g shape old def)) (sym is) (All-cons (HasSeenPart g shape old def) part now (of_still part.block part.slots seen) rest))

-- all of them
pub seen_all : {S : Type 0} (g : Ghosts S) (shape : Shape) (s : S) (def : TableDef) (all : List Part) {left : List Part} → left ≡ [] → AreSeenSoFar g shape s def all left → All (HasSeenPart g shape s def) all
seen_all g shape s def all none so_far = so_far (subst (All (HasSeenPart g shape s def)) (sym none) (λ i d low. absurd (omega (arith, low))))
