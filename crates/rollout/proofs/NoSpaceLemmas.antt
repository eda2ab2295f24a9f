-- Calls that take no space, one after the other: what changes that take nothing make, and sweeps.
use Rattle.std.proofs.Common.{◌≡◌, ◌<◌, ◌-◌, ◌+◌, ◌/◌, ◌∙◌, ℕ, List, [], ◌∷◌, arith, sym, subst, ap}
use Rattle.std.specs.List.{AllByRecursion, FoldsTo}
use Rattle.std.proofs.Math.Nat.{div-eq_of_lt}
use Rattle.store_api.specs.declared.shape.Shape.{Shape}
use Rattle.extent_map.specs.Map.{HoldsMap}
use Rattle.extent_map.specs.declared.kind.Kind.{Kind}
use Rattle.extent_map.proofs.ExtentsLemmas.{extent_limits}
use Rattle.extent_map.proofs.LawsOfTheMap.{one_map}
use Rattle.table_trees.specs.SpaceChanges.{AsksSpace, IsSameSpace, MakesChange, SpaceChange, extents_for, free_extents, unused_index_pages, used_index_pages}
use Rattle.table_trees.specs.SpaceChanges.SpaceChange.{AddEntry, AmendEntry, ClaimBlock, GiveBlock, MakeTree, RemoveEntry}
use Rattle.table_trees.specs.ToldPages.{PageList, told_pages}
use Rattle.record_index.specs.SweptLeaf.{TakesNoSpace}
use Rattle.rollout.specs.RolledBlocks.{GivesBackSpace, TakesNothing}

module _ (shape : Shape) where
  -- ---- one after the other

  -- pages that are told take nothing of themselves
  pub space_itself : (pages : PageList) (owners : List Kind) → HoldsMap told_pages shape pages owners → TakesNoSpace shape pages pages
  space_itself pages owners map = record { old_owners = owners; new_owners = owners; old_map = map; new_map = map; few_extents = omega arith; few_pages = omega arith }

  pub space_then : (old mid new : PageList) → TakesNoSpace shape old mid → TakesNoSpace shape mid new → TakesNoSpace shape old new
  space_then old mid new first second =
      let same : first.new_owners ≡ second.old_owners = one_map first.new_map second.old_map in
      record {
        old_owners = first.old_owners;
        new_owners = second.new_owners;
        old_map = first.old_map;
        new_map = second.new_map;
        few_extents = omega (arith, first.few_extents, second.few_extents, ap free_extents same);
        few_pages = omega (arith, first.few_pages, second.few_pages, ap (used_index_pages shape) same);
      }

  -- ---- changes that take nothing

  some_pages : 0 < shape.extent_pages
  some_pages = omega (arith, (extent_limits shape).0)

  nothing_asked : (owners : List Kind) → extents_for shape owners 0 ≡ 0
  nothing_asked owners =
      let n = shape.extent_pages in
      let number : 0 - unused_index_pages shape owners + n - 1 ≡ n - 1 = omega arith in
      ap (λ x. x / n) number ∙ div-eq_of_lt {n = n - 1} {m = n} (omega (arith, some_pages))

  asks_none : (owners : List Kind) (pages : PageList) (change : SpaceChange) (blocks n : ℕ) → TakesNothing change → AsksSpace shape owners pages change blocks n → (blocks ≡ 0) × (n ≡ 0)
  asks_none owners pages (RemoveEntry place entry) blocks n takes asks = asks
  asks_none owners pages (AmendEntry place before after) blocks n takes asks = asks
  asks_none owners pages (GiveBlock table block) blocks n takes asks = asks
  asks_none owners pages (ClaimBlock table block) blocks n takes asks = absurd takes
  asks_none owners pages (AddEntry place entry) blocks n takes asks = absurd takes
  asks_none owners pages (MakeTree place) blocks n takes asks = absurd takes

  space_changed : (old new : PageList) (change : SpaceChange) → TakesNothing change → MakesChange shape old change new → TakesNoSpace shape old new
  space_changed old new change takes made =
      let none = asks_none made.old_owners old change made.blocks made.asked takes made.asks in
      record {
        old_owners = made.old_owners;
        new_owners = made.new_owners;
        old_map = made.old_map;
        new_map = made.new_map;
        few_extents = omega (arith, made.few_extents, none.0, ap (extents_for shape made.old_owners) none.1, nothing_asked made.old_owners);
        few_pages = omega (arith, made.few_pages, none.1);
      }

  -- a chain of them takes no space
  pub space_given_back : (old new : PageList) → GivesBackSpace shape old new → TakesNoSpace shape old new
  space_given_back old new gives = go old gives.changes gives.each gives.makes.goes
    where
      same : IsSameSpace shape gives.makes.reached new
      same = gives.makes.same

      last : TakesNoSpace shape gives.makes.reached new
      last = record { old_owners = same.owners; new_owners = same.owners; old_map = same.had; new_map = same.has; few_extents = omega arith; few_pages = omega arith }

      go : (from : PageList) (rest : List SpaceChange) → AllByRecursion TakesNothing rest → FoldsTo (MakesChange shape) from rest gives.makes.reached → TakesNoSpace shape from new
      go from [] takes goes = subst (λ (pages : PageList). TakesNoSpace shape pages new) (sym goes) last
      go from (change ∷ rest) takes goes = space_then from goes.0 new (space_changed from goes.0 change takes.0 goes.1) (go goes.0 rest takes.1 goes.2)
