-- Changes of space one after the other, with rows written between them.
use Rattle.std.proofs.Common.{List, [], ◌∷◌, ◌++◌, refl, ap, sym, subst, ◌∙◌}
use Rattle.std.specs.List.{FoldsTo}
use Rattle.std.proofs.lemmas.List.{append_assoc}
use Rattle.extent_map.specs.Map.{HoldsMap}
use Rattle.store_api.specs.declared.shape.Shape.{Shape}
use Rattle.extent_map.specs.declared.kind.Kind.{Kind}
use Rattle.table_trees.specs.SpaceChanges.{AsksTooMuch, IsSameSpace, MakesChange, MakesChanges, RunsFull, SpaceChange}
use Rattle.table_trees.specs.ToldPages.{PageList, told_pages}
use Rattle.table_trees.proofs.SameSpaceLemmas.{asks_along, effect_from, effect_to, grows_from, grows_to, owners_had, owners_have, used_stay}

-- ---- the same space

pub same_space_itself : (shape : Shape) (pages : PageList) (owners : List Kind) → HoldsMap told_pages shape pages owners → IsSameSpace shape pages pages
same_space_itself shape pages owners map = record { owners = owners; had = map; has = map; bytes = λ p used. refl; count = refl }

pub same_space_back : (shape : Shape) (old new : PageList) → IsSameSpace shape old new → IsSameSpace shape new old
same_space_back shape old new same = record { owners = same.owners; had = same.has; has = same.had; bytes = λ p used. sym (same.bytes p used); count = sym same.count }

pub same_space_then : (shape : Shape) (old mid new : PageList) → IsSameSpace shape old mid → IsSameSpace shape mid new → IsSameSpace shape old new
same_space_then shape old mid new first second = record {
  owners = first.owners;
  had = first.had;
  has = owners_have shape mid new first.owners second first.has;
  bytes = λ p used. used_stay shape mid new first.owners second first.has p used ∙ first.bytes p used;
  count = second.count ∙ first.count;
}

-- ---- one change beside rows

-- rows may be written before a change and after it
pub change_from : (shape : Shape) (old mid new : PageList) (change : SpaceChange) → IsSameSpace shape old mid → MakesChange shape mid change new → MakesChange shape old change new
change_from shape old mid new change same m =
    let had = owners_had shape old mid m.old_owners same m.old_map in
    let stay = used_stay shape old mid m.old_owners same had in
    record {
      old_owners = m.old_owners;
      new_owners = m.new_owners;
      old_map = had;
      new_map = m.new_map;
      blocks = m.blocks;
      asked = m.asked;
      asks = asks_along shape m.old_owners mid old change m.blocks m.asked (λ p used. sym (stay p used)) m.asks;
      effect = effect_from shape m.old_owners m.new_owners old mid new same.count change stay m.effect;
      few_extents = m.few_extents;
      few_pages = m.few_pages;
      grows = grows_from shape m.old_owners m.new_owners old mid new same.count m.grows;
    }

pub change_to : (shape : Shape) (old mid new : PageList) (change : SpaceChange) → MakesChange shape old change mid → IsSameSpace shape mid new → MakesChange shape old change new
change_to shape old mid new change m same = record {
  old_owners = m.old_owners;
  new_owners = m.new_owners;
  old_map = m.old_map;
  new_map = owners_have shape mid new m.new_owners same m.new_map;
  blocks = m.blocks;
  asked = m.asked;
  asks = m.asks;
  effect = effect_to shape m.old_owners m.new_owners old mid new m.old_map.count same.count change (used_stay shape mid new m.new_owners same m.new_map) m.effect;
  few_extents = m.few_extents;
  few_pages = m.few_pages;
  grows = grows_to shape m.old_owners m.new_owners old mid new same.count m.grows;
}

-- and before one that asks for too much
pub asks_from : (shape : Shape) (old mid : PageList) (change : SpaceChange) → IsSameSpace shape old mid → AsksTooMuch shape mid change → AsksTooMuch shape old change
asks_from shape old mid change same a =
    let had = owners_had shape old mid a.owners same a.has_map in
    record {
      owners = a.owners;
      has_map = had;
      blocks = a.blocks;
      asked = a.asked;
      asks = asks_along shape a.owners mid old change a.blocks a.asked (λ p used. sym (used_stay shape old mid a.owners same had p used)) a.asks;
      short = a.short;
    }

-- ---- one after the other

-- none, where rows alone were written
pub no_changes : (shape : Shape) (old new : PageList) → IsSameSpace shape old new → MakesChanges shape old [] new
no_changes shape old new same = record { reached = old; goes = refl; same = same }

-- one
pub one_change : (shape : Shape) (old new : PageList) (change : SpaceChange) → MakesChange shape old change new → MakesChanges shape old (change ∷ []) new
one_change shape old new change m = record { reached = new; goes = (new, m, refl); same = same_space_itself shape new m.new_owners m.new_map }

-- rows alone, before and after
pub changes_from : (shape : Shape) (old mid new : PageList) (changes : List SpaceChange) → IsSameSpace shape old mid → MakesChanges shape mid changes new → MakesChanges shape old changes new
changes_from shape old mid new [] same m =
    record { reached = old; goes = refl; same = same_space_then shape old mid new same (subst (λ (pages : PageList). IsSameSpace shape pages new) (sym m.goes) m.same) }
changes_from shape old mid new (change ∷ changes) same m =
    record { reached = m.reached; goes = (m.goes.0, change_from shape old mid m.goes.0 change same m.goes.1, m.goes.2); same = m.same }

pub changes_to : (shape : Shape) (old mid new : PageList) (changes : List SpaceChange) → MakesChanges shape old changes mid → IsSameSpace shape mid new → MakesChanges shape old changes new
changes_to shape old mid new changes m same = record { reached = m.reached; goes = m.goes; same = same_space_then shape m.reached mid new m.same same }

-- changes one after the other, and then more of them
folds_then : {P A : Type 0} (R : P → A → P → Type 0) (p : P) (xs : List A) (q : P) (ys : List A) (u : P) → FoldsTo R p xs q → FoldsTo R q ys u → FoldsTo R p (xs ++ ys) u
folds_then R p [] q ys u first more = subst (λ v. FoldsTo R v ys u) (sym first) more
folds_then R p (x ∷ xs) q ys u first more = (first.0, first.1, folds_then R first.0 xs q ys u first.2 more)

-- some, and then some more
pub changes_then : (shape : Shape) (old mid new : PageList) (first second : List SpaceChange) → MakesChanges shape old first mid → MakesChanges shape mid second new → MakesChanges shape old (first ++ second) new
changes_then shape old mid new first second m more =
    let next = changes_from shape m.reached mid new second m.same more in
    record { reached = next.reached; goes = folds_then (MakesChange shape) old first m.reached second next.reached m.goes next.goes; same = next.same }

-- ---- full

-- the first change asks for too much
pub asks_full : (shape : Shape) (old : PageList) (change : SpaceChange) (rest : List SpaceChange) → AsksTooMuch shape old change → RunsFull shape old (change ∷ rest)
asks_full shape old change rest asks = record { done = []; next = change; rest = rest; reached = old; split = refl; goes = refl; short = asks }

-- some changes, and then the rest runs full
pub full_then : (shape : Shape) (old mid : PageList) (first rest : List SpaceChange) → MakesChanges shape old first mid → RunsFull shape mid rest → RunsFull shape old (first ++ rest)
full_then shape old mid first rest m full =
    let some = changes_then shape old mid full.reached first full.done m (record { reached = full.reached; goes = full.goes; same = same_space_itself shape full.reached full.short.owners full.short.has_map }) in
    record {
      done = first ++ full.done;
      next = full.next;
      rest = full.rest;
      reached = some.reached;
      split = ap (λ changes. first ++ changes) full.split ∙ sym (append_assoc first full.done (full.next ∷ full.rest));
      goes = some.goes;
      short = asks_from shape some.reached full.reached full.next some.same full.short;
    }

-- what runs full does so with more changes behind it
pub full_before : (shape : Shape) (old : PageList) (changes rest : List SpaceChange) → RunsFull shape old changes → RunsFull shape old (changes ++ rest)
full_before shape old changes rest full = record {
  done = full.done;
  next = full.next;
  rest = full.rest ++ rest;
  reached = full.reached;
  split = ap (λ all. all ++ rest) full.split ∙ append_assoc full.done (full.next ∷ full.rest) rest;
  goes = full.goes;
  short = full.short;
}
