-- The lists of a tree, member by member.
use Rattle.std.proofs.Common.{◌≡◌, ◌∙◌, inl, inr, ℕ, ◌+◌, ◌<◌, ◌≤◌, zero, suc, List, [], ◌∷◌, ◌++◌, Bool, true, false, map, refl, sym, ap, subst, take, get_or, length, arith}
use Rattle.std.specs.Prelude.{◌&&◌, ◌||◌, ◌⊎◌, IsTrue, ◌≢◌, nat_lt}
use Rattle.std.specs.List.{list_all, list_any}
use Rattle.std.proofs.Math.Bool.{and-false, or-false}
use Rattle.std.proofs.lemmas.Bool.{and_parts, false≢true, lt-ltb}
use Rattle.std.proofs.lemmas.List.{map-append, take_more, take_all}
use Rattle.std.proofs.lemmas.List.Folds.{list_all-map}
use Rattle.mdc_values.specs.declared.rid.Rid.{Rid}
use Rattle.block_lists.specs.declared.lists.Lists.{Lists}
use Rattle.block_lists.specs.Lists.{IsAll, IsAny, IsEither, holds, lists_block}
use Rattle.block_lists.specs.Places.{has_number, has_rid}
use Rattle.block_lists.specs.declared.tree.ListTree.{ListTree}
use Rattle.block_lists.specs.declared.tree.ListTree.TheFolds.{fold-roll-ListTree}
use Rattle.block_lists.specs.declared.tree.ListTree.TheOpen as layer
use Rattle.block_lists.specs.declared.tree.ListTree.TheVariants as tree
use Rattle.block_lists.specs.declared.tree.ListTree.TheVariants.{rolls-All, rolls-Any, rolls-Leaf}
use Rattle.block_lists.specs.Trees.{IsListsOf, can_be_members, each_has_members, has_some, layer_has_members, layer_says, tree_holds, tree_lists_block, tree_says}

tree_says-Leaf : (says : Lists → Bool) (lists : Lists) → tree_says says (tree.Leaf lists) ≡ says lists
tree_says-Leaf says lists = ap (tree_says says) (sym (rolls-Leaf lists)) ∙ fold-roll-ListTree Bool (layer_says says) (layer.Leaf lists)

tree_says-All : (says : Lists → Bool) (members : List ListTree) → tree_says says (tree.All members) ≡ list_all (λ b. b) (map (tree_says says) members)
tree_says-All says members = ap (tree_says says) (sym (rolls-All members)) ∙ fold-roll-ListTree Bool (layer_says says) (layer.All members)

tree_says-Any : (says : Lists → Bool) (members : List ListTree) → tree_says says (tree.Any members) ≡ list_any (λ b. b) (map (tree_says says) members)
tree_says-Any says members = ap (tree_says says) (sym (rolls-Any members)) ∙ fold-roll-ListTree Bool (layer_says says) (layer.Any members)

members-All : (members : List ListTree) → each_has_members (tree.All members) ≡ can_be_members members
members-All members = ap each_has_members (sym (rolls-All members)) ∙ fold-roll-ListTree Bool layer_has_members (layer.All members)

members-Any : (members : List ListTree) → each_has_members (tree.Any members) ≡ can_be_members members
members-Any members = ap each_has_members (sym (rolls-Any members)) ∙ fold-roll-ListTree Bool layer_has_members (layer.Any members)

list_any-map : {X : Type 0} (p : X → Bool) (xs : List X) → list_any (λ b. b) (map p xs) ≡ list_any p xs
list_any-map p [] = refl
list_any-map p (x ∷ xs) = ap (λ b. p x || b) (list_any-map p xs)

pub all_says : (says : Lists → Bool) (members : List ListTree) → tree_says says (tree.All members) ≡ list_all (tree_says says) members
all_says says members = tree_says-All says members ∙ list_all-map (λ b. b) (tree_says says) members

pub any_says : (says : Lists → Bool) (members : List ListTree) → tree_says says (tree.Any members) ≡ list_any (tree_says says) members
any_says says members = tree_says-Any says members ∙ list_any-map (tree_says says) members

-- ---- a leaf

pub leaf_lists : (whole : ListTree) (leaf none lists : Lists) → whole ≡ tree.Leaf leaf → none.blocks ≡ [] → none.rids ≡ [] → IsEither leaf none lists → IsListsOf whole lists
leaf_lists whole leaf none lists e eb er is = record {
  blocks = λ block.
      is.blocks block ∙ ap (λ b. lists_block leaf block || has_number b block) eb ∙ or-false (lists_block leaf block)
      ∙ sym (ap (λ t. tree_lists_block t block) e ∙ tree_says-Leaf (λ l. lists_block l block) leaf);
  rows = λ rid.
      is.rows rid ∙ ap (λ b. holds leaf rid || (has_number b rid.block || has_rid none.rids rid)) eb ∙ ap (λ r. holds leaf rid || has_rid r rid) er ∙ or-false (holds leaf rid)
      ∙ sym (ap (λ t. tree_holds t rid) e ∙ tree_says-Leaf (λ l. holds l rid) leaf);
}

-- ---- members

-- each of the lists is that of one of the trees, in order
pub record AreListsOf (members : List ListTree) (lists : List Lists) : Type 0 where
  pub rows : (rid : Rid) → map (λ l. holds l rid) lists ≡ map (λ t. tree_holds t rid) members
  pub blocks : (block : ℕ) → map (λ l. lists_block l block) lists ≡ map (λ t. tree_lists_block t block) members

says_more : {A B : Type 0} (f : A → Bool) (g : B → Bool) (xs : List A) (x : A) (ys : List B) (y : B) → map f xs ≡ map g ys → f x ≡ g y → map f (xs ++ x ∷ []) ≡ map g (ys ++ y ∷ [])
says_more f g xs x ys y e same = map-append f xs (x ∷ []) ∙ ap (λ l. l ++ f x ∷ []) e ∙ ap (λ b. map g ys ++ b ∷ []) same ∙ sym (map-append g ys (y ∷ []))

pub lists_more : (items : List ListTree) (i : ℕ) (member : ListTree) (lists : List Lists) (more : Lists) (new : List Lists) → i < length items → member ≡ get_or items i member → new ≡ lists ++ more ∷ []
    → IsListsOf member more → AreListsOf (take i items) lists → AreListsOf (take (i + 1) items) new
lists_more items i member lists more new lt at is of so =
    let taken : take i items ++ member ∷ [] ≡ take (i + 1) items = ap (λ p. take i items ++ p ∷ []) at ∙ sym (take_more items i member lt) in
    let longer : AreListsOf (take i items ++ member ∷ []) (lists ++ more ∷ []) = record {
      rows = λ rid. says_more (λ l. holds l rid) (λ t. tree_holds t rid) lists more (take i items) member (so.rows rid) (of.rows rid);
      blocks = λ block. says_more (λ l. lists_block l block) (λ t. tree_lists_block t block) lists more (take i items) member (so.blocks block) (of.blocks block);
    } in
    subst (λ ms. AreListsOf ms new) taken (subst (AreListsOf (take i items ++ member ∷ [])) (sym is) longer)

module _ (whole : ListTree) (members items : List ListTree) (i : ℕ) (it : items ≡ members) (le : length items ≤ i) (lists : List Lists) (so : AreListsOf (take i items) lists) where
  all_taken : take i items ≡ members
  all_taken = take_all i items le ∙ it

  all_so : AreListsOf members lists
  all_so = subst (λ ms. AreListsOf ms lists) all_taken so

  pub all_lists : (joined : Lists) → whole ≡ tree.All members → IsAll lists joined → IsListsOf whole joined
  all_lists joined e is = record {
    rows = λ rid.
        is.rows rid ∙ sym (list_all-map (λ b. b) (λ l. holds l rid) lists) ∙ ap (list_all (λ b. b)) (all_so.rows rid)
        ∙ sym (ap (λ t. tree_holds t rid) e ∙ tree_says-All (λ l. holds l rid) members);
    blocks = λ block.
        is.blocks block ∙ sym (list_all-map (λ b. b) (λ l. lists_block l block) lists) ∙ ap (list_all (λ b. b)) (all_so.blocks block)
        ∙ sym (ap (λ t. tree_lists_block t block) e ∙ tree_says-All (λ l. lists_block l block) members);
  }

  pub any_lists : (joined : Lists) → whole ≡ tree.Any members → IsAny lists joined → IsListsOf whole joined
  any_lists joined e is = record {
    rows = λ rid.
        is.rows rid ∙ sym (list_any-map (λ l. holds l rid) lists) ∙ ap (list_any (λ b. b)) (all_so.rows rid)
        ∙ sym (ap (λ t. tree_holds t rid) e ∙ tree_says-Any (λ l. holds l rid) members);
    blocks = λ block.
        is.blocks block ∙ sym (list_any-map (λ l. lists_block l block) lists) ∙ ap (list_any (λ b. b)) (all_so.blocks block)
        ∙ sym (ap (λ t. tree_lists_block t block) e ∙ tree_says-Any (λ l. lists_block l block) members);
  }

  -- an All has a member, so there are lists to join
  pub some_lists : whole ≡ tree.All members → IsTrue (each_has_members whole) → lists ≢ []
  some_lists e h none =
      let empty : map (λ t. tree_holds t rid_0) members ≡ [] = sym (all_so.rows rid_0) ∙ ap (map (λ l. holds l rid_0)) none in
      false≢true (sym (ap each_has_members e ∙ members-All members ∙ no_member members empty) ∙ h) where
        rid_0 : Rid
        rid_0 = record { block = 0; slot = 0 }

        no_member : (ms : List ListTree) → map (λ t. tree_holds t rid_0) ms ≡ [] → can_be_members ms ≡ false
        no_member [] e = refl
        no_member (m ∷ ms) e = absurd (omega (arith, ap length e))

-- ---- each member has members

all-at : {X : Type 0} (f : X → Bool) (xs : List X) (i : ℕ) (x : X) → i < length xs → list_all (λ b. b) (map f xs) ≡ true → f (get_or xs i x) ≡ true
all-at f [] i x lt h = absurd (omega (arith, lt))
all-at f (y ∷ xs) zero x lt h = (and_parts (f y) (list_all (λ b. b) (map f xs)) h).0
all-at f (y ∷ xs) (suc i) x lt h = all-at f xs i x (omega (arith, lt)) (and_parts (f y) (list_all (λ b. b) (map f xs)) h).1

module _ (whole : ListTree) (members items : List ListTree) (i : ℕ) (member : ListTree) (it : items ≡ members) (lt : i < length items) (at : member ≡ get_or items i member) where
  member_at : can_be_members members ≡ true → IsTrue (each_has_members member)
  member_at h =
      let both = and_parts (has_some (map each_has_members members)) (list_all (λ b. b) (map each_has_members members)) h in
      ap each_has_members at ∙ all-at each_has_members items i member lt (ap (λ ms. list_all (λ b. b) (map each_has_members ms)) it ∙ both.1)

  pub member_of_all : whole ≡ tree.All members → IsTrue (each_has_members whole) → IsTrue (each_has_members member)
  member_of_all e h = member_at (sym (ap each_has_members e ∙ members-All members) ∙ h)

  pub member_of_any : whole ≡ tree.Any members → IsTrue (each_has_members whole) → IsTrue (each_has_members member)
  member_of_any e h = member_at (sym (ap each_has_members e ∙ members-Any members) ∙ h)

-- ---- whether each member has members

module _ (members items : List ListTree) (i : ℕ) (it : items ≡ members) where
  pub lacks_member : (member : ListTree) → i < length items → member ≡ get_or items i member → each_has_members member ≡ false
      → can_be_members members ≡ false
  lacks_member member lt at lacks = by_all (list_all (λ b. b) (map each_has_members members)) refl where
    by_all : (b : Bool) → list_all (λ b. b) (map each_has_members members) ≡ b → can_be_members members ≡ false
    by_all false e = ap (λ b. has_some (map each_has_members members) && b) e ∙ and-false (has_some (map each_has_members members))
    by_all true e =
        absurd (false≢true (sym lacks ∙ ap each_has_members at ∙ all-at each_has_members items i member lt (ap (λ ms. list_all (λ b. b) (map each_has_members ms)) it ∙ e)))

  pub none_lacks : length items ≤ i → list_all (λ b. b) (map each_has_members (take i items)) ≡ true
      → can_be_members members ≡ nat_lt 0 (length members)
  none_lacks le all =
      let is : list_all (λ b. b) (map each_has_members members) ≡ true = ap (λ ms. list_all (λ b. b) (map each_has_members ms)) (sym (take_all i items le ∙ it)) ∙ all in
      ap (λ b. has_some (map each_has_members members) && b) is ∙ counted members where
        counted : (ms : List ListTree) → (has_some (map each_has_members ms) && true) ≡ nat_lt 0 (length ms)
        counted [] = refl
        counted (m ∷ ms) = sym (lt-ltb 0 (length (m ∷ ms)) (omega arith))

pub whole_members : (whole : ListTree) (members : List ListTree) → ((whole ≡ tree.All members) ⊎ (whole ≡ tree.Any members)) → each_has_members whole ≡ can_be_members members
whole_members whole members (inl e) = ap each_has_members e ∙ members-All members
whole_members whole members (inr e) = ap each_has_members e ∙ members-Any members
