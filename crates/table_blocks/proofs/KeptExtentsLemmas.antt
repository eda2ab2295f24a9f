-- What calls on trees make of other extents and of the page count, where no page left the trees, or where none came to them.
use Rattle.std.proofs.Common.{◌≡◌, ◌≤◌, ℕ, List, length, refl, arith, inl, inr, ◌∙◌}
use Rattle.std.specs.Prelude.{sum_by}
use Rattle.std.proofs.lemmas.Bool.{cases_lt}
use Rattle.store_api.specs.Frame.{Touches}
use Rattle.store_api.specs.declared.pages.Pages.{Ghosts}
use Rattle.store_api.specs.declared.shape.Shape.{Shape}
use Rattle.extent_map.specs.Map.{HoldsMap}
use Rattle.extent_map.specs.Owners.{IsUsedPage, owner_of}
use Rattle.extent_map.specs.declared.kind.Kind.{Kind}
use Rattle.extent_map.specs.declared.kind.Kind.TheVariants.{Free, Index}
use Rattle.extent_map.specs.declared.space_notes.SpaceNotes.{SpaceNotes}
use Rattle.extent_map.proofs.UsedPagesLemmas.{no_space_page}
use Rattle.entry_tree.specs.Forest.{Forest, times}
use Rattle.table_trees.specs.TableTrees.{TreePlace}
use Rattle.table_trees.specs.TreesBeside.{ChangesTrees, GrowsPages, IsTreesOrMapPage, StandTrees}
use Rattle.table_blocks.proofs.OtherBlocksLemmas.{index_used, not_freed}

module _ {S : Type 0} {g : Ghosts S} (shape : Shape) (before noted : SpaceNotes) (old new : S) (owners owners_now : List Kind) (places : List TreePlace) (trees trees_now : List Forest) (changes : ChangesTrees g shape before noted new places owners trees owners_now trees_now) where
  -- where no page left the trees, no index extent became free
  pub no_less : HoldsMap g shape old owners → ((p : ℕ) → sum_by (times p) trees ≤ sum_by (times p) trees_now) → (e used : ℕ) → owner_of owners e ≡ Index used → owner_of owners_now e ≡ Free → ⊥
  no_less map more e used was now = not_freed shape owners owners_now e (index_used shape old owners e used map was) still now
    where
      still : (p : ℕ) → IsUsedPage shape owners p → IsUsedPage shape owners_now p
      still p used = elim (cases_lt 0 (sum_by (times p) trees)) [
        | inl some ↦ changes.stand.used p (omega (arith, some, more p))
        | inr none ↦ changes.kept.others p used (omega (arith, none))
      ]

  -- where none came to them, no free extent became an index extent
  pub no_more : StandTrees g shape old owners places trees → ((p : ℕ) → sum_by (times p) trees_now ≤ sum_by (times p) trees) → (e used : ℕ) → owner_of owners e ≡ Free → owner_of owners_now e ≡ Index used → ⊥
  no_more stand fewer e used was now = not_freed shape owners_now owners e (index_used shape new owners_now e used changes.stand.map now) still was
    where
      still : (p : ℕ) → IsUsedPage shape owners_now p → IsUsedPage shape owners p
      still p used = elim (changes.kept.used p used) [
        | inl some ↦ stand.used p (omega (arith, some, fewer p))
        | inr stayed ↦ stayed.0
      ]

-- the page count, where no page came and page 0 isn't touched
pub steady_count : {S : Type 0} {g : Ghosts S} (shape : Shape) (old new : S) (Mine : ℕ → Type 0) → Touches g Mine old new → length (g.state new).work ≡ length (g.state old).work → (Mine 0 → ⊥) → GrowsPages g shape old new
steady_count shape old new Mine touched count apart = record {
  stated = record {
    same = λ still bytes holds. touched.others 0 bytes apart holds;
    grown = λ more bytes holds. absurd (omega (arith, more, count));
    whole = λ more bytes holds. absurd (omega (arith, more, count));
  };
  whole = λ is. record { extents = is.extents; within = is.within; count = count ∙ is.count };
}

-- trees that claimed nothing don't touch page 0
pub grows_untouched : {S : Type 0} {g : Ghosts S} (shape : Shape) (old new : S) (owners : List Kind) (places : List TreePlace) (trees : List Forest) → StandTrees g shape old owners places trees
    → Touches g (IsTreesOrMapPage g shape old places) old new → length (g.state new).work ≡ length (g.state old).work → GrowsPages g shape old new
grows_untouched {g = g} shape old new owners places trees st touched count =
    steady_count shape old new (IsTreesOrMapPage g shape old places) touched count
    (λ mine. elim (mine owners trees st) [ inl here ↦ no_space_page shape 0 (st.used 0 here).page (inl refl) | inr map ↦ omega (arith, map.0) ])
