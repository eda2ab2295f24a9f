-- Listing along the indexes as changes of space: those that were made at the first places, one more, and one that asks for too much.
use Rattle.std.proofs.Common.{◌≡◌, ◌≤◌, ◌+◌, arith, ℕ, zero, suc, IsTrue, List, [], ◌∷◌, ◌++◌, length, map, take, drop, refl, ap, sym, ◌∙◌, subst}
use Rattle.std.specs.Prelude.{Some, slice_get, zip}
use Rattle.std.proofs.lemmas.List.{map-append, take_all}
use Rattle.std.proofs.lemmas.Option.{same_Some}
use Rattle.std.proofs.lemmas.Slice.Zip.{length-zip}
use Rattle.mdc_words.specs.ByteOrder.{Entry}
use Rattle.store_api.specs.Frame.{Touches}
use Rattle.store_api.specs.declared.pages.Pages.{Ghosts}
use Rattle.store_api.specs.declared.shape.Shape.{Shape}
use Rattle.extent_map.specs.Owners.{AreRightNotes}
use Rattle.extent_map.specs.declared.kind.Kind.{Kind}
use Rattle.extent_map.specs.declared.space_notes.SpaceNotes.{SpaceNotes}
use Rattle.entry_tree.specs.Forest.{Forest}
use Rattle.entry_tree.specs.Pruning.{IsTreeOrMapPage, RemovesEntry}
use Rattle.entry_tree.specs.Standing.{AddsEntry, FindsFull, IsTreeSpace, StandsTree}
use Rattle.entry_tree.specs.declared.tree.Tree.{Tree}
use Rattle.table_trees.specs.SpaceChanges.{AsksTooMuch, MakesChange, MakesChanges, RunsFull, SpaceChange, added_entries, removed_entries}
use Rattle.table_trees.specs.SpaceChanges.SpaceChange.{AddEntry, RemoveEntry}
use Rattle.table_trees.specs.TableTrees.{TreePlace, place_of_tree}
use Rattle.table_trees.specs.ToldPages.{PageList}
use Rattle.table_trees.specs.TreesBeside.{ChangesTrees, StandTrees}
use Rattle.table_trees.proofs.SideBySideLemmas.{tree_among}
use Rattle.table_trees.proofs.ToldPagesLemmas.{map_of_told}
use Rattle.table_trees.proofs.TreeListsLemmas.{cut_at}
use Rattle.table_trees.proofs.SpaceChainsLemmas.{asks_full, changes_then, full_then, no_changes, one_change, same_space_itself}
use Rattle.table_trees.proofs.SpaceStepsLemmas.{addition_asks, addition_makes, removal_makes}

-- ---- lists

-- what stands at a place of two lists side by side
slice_get-zip : {A B : Type 0} (xs : List A) (ys : List B) (n : ℕ) (x : A) (y : B) → slice_get xs n ≡ Some x → slice_get ys n ≡ Some y → slice_get (zip xs ys) n ≡ Some (x, y)
slice_get-zip [] ys n x y at is = absurd cc
slice_get-zip (a ∷ xs) [] n x y at is = absurd cc
slice_get-zip (a ∷ xs) (b ∷ ys) zero x y at is = rw (same_Some a x at, same_Some b y is) refl
slice_get-zip (a ∷ xs) (b ∷ ys) (suc n) x y at is = slice_get-zip xs ys n x y at is

-- the first images, and the next one
map-take_next : {A B : Type 0} (f : A → B) (xs : List A) (n : ℕ) (x : A) → slice_get xs n ≡ Some x → map f (take (suc n) xs) ≡ map f (take n xs) ++ (f x ∷ [])
map-take_next f [] n x e = absurd cc
map-take_next f (a ∷ xs) zero x e = ap (λ v. f v ∷ []) (same_Some a x e)
map-take_next f (a ∷ xs) (suc n) x e = ap (λ v. f a ∷ v) (map-take_next f xs n x e)

-- all images, cut at one
map-cut_at : {A B : Type 0} (f : A → B) (xs : List A) (n : ℕ) (x : A) → slice_get xs n ≡ Some x → map f xs ≡ map f (take n xs) ++ (f x ∷ map f (drop (suc n) xs))
map-cut_at f xs n x e = ap (map f) (cut_at xs n x e) ∙ map-append f (take n xs) (x ∷ drop (suc n) xs)

-- ---- changes at the places of a list

module _ (change : TreePlace × Entry → SpaceChange) (shape : Shape) (old mid : PageList) (places : List TreePlace) (entries : List Entry) (n : ℕ) where
  -- all were made
  pub made_all : length entries ≤ n → MakesChanges shape old (map change (take n (zip places entries))) mid → MakesChanges shape old (map change (zip places entries)) mid
  made_all all makes = subst (λ ls. MakesChanges shape old (map change ls) mid) (take_all n (zip places entries) (omega (arith, all, length-zip places entries))) makes

  module _ (place : TreePlace) (x : Entry) (at : slice_get places n ≡ Some place) (is : slice_get entries n ≡ Some x) (makes : MakesChanges shape old (map change (take n (zip places entries))) mid) where
    -- one more was made
    made_next : (new : PageList) → MakesChange shape mid (change (place, x)) new → MakesChanges shape old (map change (take (n + 1) (zip places entries))) new
    made_next new more =
        let same : n + 1 ≡ suc n = omega arith in
        rw same (subst (λ cs. MakesChanges shape old cs new) (sym (map-take_next change (zip places entries) n (place, x) (slice_get-zip places entries n place x at is)))
        (changes_then shape old mid new _ _ makes (one_change shape mid new _ more)))

    -- the next one asks for too much
    asked_next : AsksTooMuch shape mid (change (place, x)) → RunsFull shape old (map change (zip places entries))
    asked_next asks =
        subst (RunsFull shape old) (sym (map-cut_at change (zip places entries) n (place, x) (slice_get-zip places entries n place x at is)))
        (full_then shape old mid _ _ makes (asks_full shape mid _ _ asks))

-- ---- entries that come to the trees at these places, or leave them

module _ {S : Type 0} (g : Ghosts S) (shape : Shape) (before : SpaceNotes) (old : S) (places : List TreePlace) (entries : List Entry) where
  -- the entries of the first n came, whatever stood before
  abbrev pub HaveAdded : S → ℕ → Type 0
  HaveAdded mid n = (owners : List Kind) (trees : List Forest) → StandTrees g shape old owners places trees → IsTrue (g.state old).is_told → AreRightNotes shape before owners
      → MakesChanges shape (g.state old).work (added_entries (take n (zip places entries))) (g.state mid).work

  -- they left
  abbrev pub HaveRemoved : S → ℕ → Type 0
  HaveRemoved mid n = (owners : List Kind) (trees : List Forest) → StandTrees g shape old owners places trees → IsTrue (g.state old).is_told
      → MakesChanges shape (g.state old).work (removed_entries (take n (zip places entries))) (g.state mid).work

  -- none, before the first
  pub added_none : HaveAdded old zero
  added_none owners trees st told notes = no_changes shape _ _ (same_space_itself shape _ owners (map_of_told g old told shape owners st.map))

  pub removed_none : HaveRemoved old zero
  removed_none owners trees st told = no_changes shape _ _ (same_space_itself shape _ owners (map_of_told g old told shape owners st.map))

  module _ (now noted : SpaceNotes) (mid new : S) (n : ℕ) (tree : Tree) (x : Entry) (at : slice_get places n ≡ Some (place_of_tree tree)) (is : slice_get entries n ≡ Some x) (still : (g.state mid).is_told ≡ (g.state old).is_told)
      (owners owners_now : List Kind) (trees trees_now : List Forest) (changes : ChangesTrees g shape before now mid places owners trees owners_now trees_now) (told : IsTrue (g.state old).is_told) where
    -- one more came
    pub added_next : AreRightNotes shape before owners → MakesChanges shape (g.state old).work (added_entries (take n (zip places entries))) (g.state mid).work → (g.state new).is_told ≡ (g.state mid).is_told
        → Touches g (IsTreeSpace g shape mid tree) mid new → ((owners : List Kind) (t : Forest) → StandsTree g shape mid tree owners t → AddsEntry g shape now noted mid new tree x owners t)
        → MakesChanges shape (g.state old).work (added_entries (take (n + 1) (zip places entries))) (g.state new).work
    added_next notes makes same touched adds =
        let one = tree_among shape mid owners_now places trees_now tree n changes.stand at in
        made_next (λ listing. AddEntry listing.0 listing.1) shape _ _ places entries n (place_of_tree tree) x at is makes _
        (addition_makes shape now noted mid new tree x owners_now one.0 one.2 (still ∙ told) same (changes.notes notes) touched (adds owners_now one.0 one.2))

    -- one more left
    pub removed_next : MakesChanges shape (g.state old).work (removed_entries (take n (zip places entries))) (g.state mid).work → (g.state new).is_told ≡ (g.state mid).is_told
        → length (g.state new).work ≡ length (g.state mid).work → Touches g (IsTreeOrMapPage g shape mid tree) mid new → ((owners : List Kind) (t : Forest) → StandsTree g shape mid tree owners t → RemovesEntry g shape now noted new tree x owners t)
        → MakesChanges shape (g.state old).work (removed_entries (take (n + 1) (zip places entries))) (g.state new).work
    removed_next makes same count touched removes =
        let one = tree_among shape mid owners_now places trees_now tree n changes.stand at in
        made_next (λ listing. RemoveEntry listing.0 listing.1) shape _ _ places entries n (place_of_tree tree) x at is makes _
        (removal_makes shape now noted mid new tree x owners_now one.0 one.2 (still ∙ told) same count touched (removes owners_now one.0 one.2))

    -- the next one finds no room
    pub added_full : AreRightNotes shape before owners → MakesChanges shape (g.state old).work (added_entries (take n (zip places entries))) (g.state mid).work
        → ((owners : List Kind) (t : Forest) → StandsTree g shape mid tree owners t → FindsFull g shape now noted mid new tree x owners t) → RunsFull shape (g.state old).work (added_entries (zip places entries))
    added_full notes makes full =
        let one = tree_among shape mid owners_now places trees_now tree n changes.stand at in
        asked_next (λ listing. AddEntry listing.0 listing.1) shape _ _ places entries n (place_of_tree tree) x at is makes
        (addition_asks shape now noted mid new tree x owners_now one.0 one.2 (still ∙ told) (changes.notes notes) (full owners_now one.0 one.2))
