-- The pages of a tree that are still to be given back.
use Rattle.std.proofs.Common.{◌≡◌, ◌≢◌, ◌<◌, ◌≤◌, ◌+◌, ℕ, zero, suc, List, [], ◌∷◌, ◌++◌, refl, ap, arith, sym, ◌∙◌, subst, length, length-append, reverse, take, drop, inl, inr, ◌⊎◌, get_or-set_same, get_or-set_other}
use Rattle.std.specs.Prelude.{Some, None, ⊤, IsTrue}
use Rattle.std.proofs.lemmas.Bool.{cases_eq, cases_lt}
use Rattle.std.proofs.lemmas.List.{get_or_past}
use Rattle.std.proofs.Math.Seq.{drop-append_seam, take-append_seam}
use Rattle.node_page.specs.Node.{Node}
use Rattle.node_page.specs.Node.Node.{InnerNode, LeafNode, NoNode}
use Rattle.store_api.specs.Extents.{first_page_of}
use Rattle.store_api.specs.Frame.{OnlyPage}
use Rattle.store_api.specs.RunsOverPages.{RunsOverPages}
use Rattle.store_api.specs.Works.{Steady}
use Rattle.store_api.specs.declared.fault.Damage.{Damage}
use Rattle.store_api.specs.declared.pages.Pages.{Ghosts}
use Rattle.store_api.specs.declared.shape.Shape.{Shape}
use Rattle.extent_map.specs.Kinds.{is_used_place, without_place}
use Rattle.extent_map.specs.Map.{HoldsMap, map_page_of}
use Rattle.extent_map.specs.Owners.{AreRightNotes, IsExtentPage, IsUsedPage, extent_of, owner_of, place_in_extent, without_page}
use Rattle.extent_map.specs.declared.kind.Kind.{Kind}
use Rattle.extent_map.specs.declared.kind.Kind.TheVariants.{Free}
use Rattle.extent_map.specs.declared.space_notes.SpaceNotes.{SpaceNotes}
use Rattle.extent_map.proofs.BitsLemmas.{used_place-without_place_other}
use Rattle.extent_map.proofs.ExtentsLemmas.{extent_below, extent_limits, page_of-parts, place_below}
use Rattle.extent_map.proofs.HoldsMapLemmas.{holds_map_same, is_map_page}
use Rattle.mdc_words.specs.ByteOrder.{Entry}
use Rattle.entry_tree.specs.EntryBounds.{Bound}
use Rattle.entry_tree.specs.Forest.{EachNode, Fits, Forest, HasNode, HoldsForest, IsPageBelow, heads, once, times, ◌&◌}
use Rattle.entry_tree.specs.Forest.Forest.{Fork, Leaf, Nil}
use Rattle.entry_tree.specs.Freeing.{Continues, FreesTree}
use Rattle.entry_tree.specs.Pruning.{without_pages}
use Rattle.std.proofs.lemmas.List.{reverse-append}
use Rattle.entry_tree.specs.HeldTrees.{nodes_in}
use Rattle.entry_tree.specs.Standing.{StandsTree}
use Rattle.entry_tree.specs.TreeChanges.{times_among}
use Rattle.entry_tree.specs.declared.tree.Tree.{Tree}
use Rattle.entry_tree.proofs.ForestLemmas.{EachNode-and, EachNode-from_and, Fits-count, HoldsForest-agree, heads-and, once_least, once_other, once_same, times-and}
use Rattle.entry_tree.proofs.HeldTreesLemmas.{HoldsForest-below, nodes_kept, nodes_same}
use Rattle.entry_tree.proofs.TreeRowLemmas.{halves_at}
use Rattle.entry_tree.proofs.WayLemmas.{place_times, tree_below}

-- ---- so many pages, none twice and all below a number, are no more than that

abbrev low_among : ℕ → List ℕ → ℕ
low_among zero ps = 0
low_among (suc c) ps = times_among c ps + low_among c ps

low_among-none : (c : ℕ) → low_among c [] ≡ 0
low_among-none zero = refl
low_among-none (suc c) = omega (arith, low_among-none c)

low_among-more : (c p : ℕ) (ps : List ℕ) → low_among c (p ∷ ps) ≡ low_among c (p ∷ []) + low_among c ps
low_among-more zero p ps = refl
low_among-more (suc c) p ps = omega (arith, low_among-more c p ps)

past_it : (c p : ℕ) → c ≤ p → low_among c (p ∷ []) ≡ 0
past_it zero p h = refl
past_it (suc c) p h = let ne : c ≢ p = omega arith in omega (arith, past_it c p (omega arith), once_other c p ne)

before_it : (c p : ℕ) → p < c → low_among c (p ∷ []) ≡ 1
before_it zero p h = absurd (omega arith)
before_it (suc c) p h =
    elim (cases_eq c p) [
      | inl e ↦ omega (arith, past_it c p (omega arith), subst (λ (v : ℕ). once c v ≡ 1) e (once_same c))
      | inr d ↦ omega (arith, before_it c p (omega arith), once_other c p d)
    ]

all_low_among : (c : ℕ) (ps : List ℕ) → ((n : ℕ) → 0 < times_among n ps → n < c) → low_among c ps ≡ length ps
all_low_among c [] h = low_among-none c
all_low_among c (p ∷ ps) h =
    omega (arith, low_among-more c p ps, before_it c p (h p (omega (arith, once_same p))), all_low_among c ps (λ n l. h n (omega arith)))

few_low_among : (c : ℕ) (ps : List ℕ) → ((n : ℕ) → times_among n ps ≤ 1) → low_among c ps ≤ c
few_low_among zero ps d = omega arith
few_low_among (suc c) ps d = omega (arith, few_low_among c ps d, d c)

few_among : (c : ℕ) (ps : List ℕ) → ((n : ℕ) → times_among n ps ≤ 1) → ((n : ℕ) → 0 < times_among n ps → n < c) → length ps ≤ c
few_among c ps d h = omega (arith, all_low_among c ps h, few_low_among c ps d)

-- ---- owners once pages were given back

-- another used page stays used
used_beside : (shape : Shape) (owners : List Kind) (p q : ℕ) → IsUsedPage shape owners p → IsExtentPage shape q → p ≢ q → IsUsedPage shape (without_page shape owners q) p
used_beside shape owners p q u x d = record { page = u.page; used = go (cases_eq (extent_of shape p) (extent_of shape q)) }
  where
    few : shape.extent_pages ≤ 32
    few = (extent_limits shape).1

    kind : Kind
    kind = without_place (place_in_extent shape q) (owner_of owners (extent_of shape q))

    apart : extent_of shape p ≡ extent_of shape q → place_in_extent shape p ≢ place_in_extent shape q
    apart e k = d (sym (page_of-parts shape p u.page) ∙ ap (λ (n : ℕ). first_page_of shape.extents shape.extent_pages n + place_in_extent shape p) e ∙ ap (λ (n : ℕ). first_page_of shape.extents shape.extent_pages (extent_of shape q) + n) k ∙ page_of-parts shape q x)

    go : (extent_of shape p ≡ extent_of shape q) ⊎ (extent_of shape p ≢ extent_of shape q) → IsTrue (is_used_place (place_in_extent shape p) (owner_of (without_page shape owners q) (extent_of shape p)))
    go (inl e) = elim (cases_lt (extent_of shape q) (length owners)) [
      | inl within ↦
          let there : owner_of (without_page shape owners q) (extent_of shape p) ≡ kind =
          ap (λ (k : ℕ). owner_of (without_page shape owners q) k) e ∙ get_or-set_same owners (extent_of shape q) kind Free within in
          let same : is_used_place (place_in_extent shape p) kind ≡ is_used_place (place_in_extent shape p) (owner_of owners (extent_of shape q)) =
          used_place-without_place_other (place_in_extent shape p) (place_in_extent shape q) (owner_of owners (extent_of shape q)) (omega (arith, few, place_below shape p)) (omega (arith, few, place_below shape q)) (apart e) in
          let was : IsTrue (is_used_place (place_in_extent shape p) (owner_of owners (extent_of shape q))) = subst (λ (k : ℕ). IsTrue (is_used_place (place_in_extent shape p) (owner_of owners k))) e u.used in
          subst (λ (k : Kind). IsTrue (is_used_place (place_in_extent shape p) k)) (sym there) (same ∙ was)
      | inr past ↦
          let none : owner_of owners (extent_of shape p) ≡ Free = ap (λ (k : ℕ). owner_of owners k) e ∙ get_or_past owners (extent_of shape q) Free past in
          let wrong : IsTrue (is_used_place (place_in_extent shape p) Free) = subst (λ (k : Kind). IsTrue (is_used_place (place_in_extent shape p) k)) none u.used in cc
    ]
    go (inr n) = subst (λ (k : Kind). IsTrue (is_used_place (place_in_extent shape p) k)) (sym (get_or-set_other owners (extent_of shape q) (extent_of shape p) kind Free n)) u.used

-- the owners once these pages were given back, the last one first
abbrev pub owners_without : Shape → List Kind → List ℕ → List Kind
owners_without shape owners [] = owners
owners_without shape owners (p ∷ given) = without_page shape (owners_without shape owners given) p

without_pages-push : (shape : Shape) (owners : List Kind) (given : List ℕ) (p : ℕ) → without_pages shape owners (given ++ p ∷ []) ≡ without_page shape (without_pages shape owners given) p
without_pages-push shape owners [] p = refl
without_pages-push shape owners (q ∷ given) p = without_pages-push shape (without_page shape owners q) given p

without_pages-reverse : (shape : Shape) (owners : List Kind) (given : List ℕ) → without_pages shape owners (reverse given) ≡ owners_without shape owners given
without_pages-reverse shape owners [] = refl
without_pages-reverse shape owners (p ∷ given) =
    ap (without_pages shape owners) (reverse-append (p ∷ []) given) ∙ (without_pages-push shape owners (reverse given) p ∙ ap (λ (o : List Kind). without_page shape o p) (without_pages-reverse shape owners given))

times_among-push : (n : ℕ) (given : List ℕ) (p : ℕ) → times_among n (given ++ p ∷ []) ≡ times_among n given + once n p
times_among-push n [] p = omega arith
times_among-push n (q ∷ given) p = omega (arith, times_among-push n given p)

times_among-reverse : (n : ℕ) (given : List ℕ) → times_among n (reverse given) ≡ times_among n given
times_among-reverse n [] = refl
times_among-reverse n (p ∷ given) = omega (arith, ap (times_among n) (reverse-append (p ∷ []) given), times_among-push n (reverse given) p, times_among-reverse n given)

-- also after many
used_still : (shape : Shape) (owners : List Kind) (given : List ℕ) (p : ℕ) → IsUsedPage shape owners p → ((q : ℕ) → 0 < times_among q given → IsExtentPage shape q) → times_among p given ≡ 0
    → IsUsedPage shape (owners_without shape owners given) p
used_still shape owners [] p u x z = u
used_still shape owners (q ∷ given) p u x z =
    let off : once p q ≡ 0 = omega arith in
    used_beside shape (owners_without shape owners given) p q (used_still shape owners given p u (λ n l. x n (omega arith)) (omega arith))
    (x q (omega (arith, once_same q))) (λ (e : p ≡ q). let one : once p q ≡ 1 = subst (λ (v : ℕ). once v q ≡ 1) (sym e) (once_same q) in omega arith)

-- ---- the last tree of a row

record SplitLast (t : Forest) (ps : List ℕ) (p : ℕ) : Type 0 where
  pub init : Forest
  pub last : Forest
  pub whole : t ≡ init & last
  pub heads_init : heads init ≡ ps
  pub heads_last : heads last ≡ p ∷ []

split_last : (t : Forest) (ps : List ℕ) (p : ℕ) → heads t ≡ ps ++ p ∷ [] → SplitLast t ps p
split_last t ps p e =
    let h = halves_at t (length ps) (omega (arith, ap length e, length-append ps (p ∷ []))) in
    record {
      init = h.first;
      last = h.second;
      whole = h.whole;
      heads_init = h.ahead ∙ ap (take (length ps)) e ∙ take-append_seam ps (p ∷ []);
      heads_last = h.rest ∙ ap (drop (length ps)) e ∙ drop-append_seam ps (p ∷ []);
    }

-- an inner node has one child more than separators
abbrev IsMatchedNode : ℕ → Node → Type 0
IsMatchedNode page (LeafNode items) = ⊤
IsMatchedNode page (InnerNode seps children) = length children ≡ length seps + 1
IsMatchedNode page NoNode = ⊤

Fits-matched : (low high : Bound) (seps : List Entry) (t : Forest) → Fits low high seps t → EachNode IsMatchedNode t
Fits-matched low high seps Nil h = absurd h
Fits-matched low high [] (Leaf page items next) h = (tt, rw h.2 tt)
Fits-matched low high (s ∷ seps) (Leaf page items next) h = (tt, Fits-matched (Some s) high seps next h.2)
Fits-matched low high [] (Fork page inner kids next) h = (Fits-count low high inner kids h.1, Fits-matched low high inner kids h.1, rw h.2 tt)
Fits-matched low high (s ∷ seps) (Fork page inner kids next) h = (Fits-count low (Some s) inner kids h.1, Fits-matched low (Some s) inner kids h.1, Fits-matched (Some s) high seps next h.2)

no_heads : (t : Forest) → heads t ≡ [] → t ≡ Nil
no_heads Nil e = refl
no_heads (Leaf p items next) e = cc
no_heads (Fork p seps kids next) e = cc

-- what is still to be done of a tree, and what was given back
pub record IsFreeing {S : Type 0} (g : Ghosts S) (shape : Shape) (before noted : SpaceNotes) (now : S) (tree : Tree) (owners : List Kind) (t : Forest) (todo : List ℕ) (steps : ℕ) : Type 0 where
  pub left : Forest
  pub given : List ℕ
  pub heads_are : heads left ≡ todo
  pub holds : HoldsForest (nodes_in tree.width (g.state now)) left
  pub matched : EachNode IsMatchedNode left
  pub counts : (n : ℕ) → times n left + times_among n given ≡ times n t
  pub map : HoldsMap g shape now (owners_without shape owners given)
  pub notes : AreRightNotes shape before owners → AreRightNotes shape noted (owners_without shape owners given)
  pub done : length given ≡ steps

-- the pages of a tree lie below a number where its nodes do
each_below : (c : ℕ) (t : Forest) (n : ℕ) → EachNode (IsPageBelow c) t → 0 < times n t → n < c
each_below c Nil n h k = absurd (omega arith)
each_below c (Leaf p items next) n h k =
    elim (cases_eq n p) [ inl e ↦ omega (arith, e, h.0) | inr d ↦ each_below c next n h.1 (omega (arith, k, once_other n p d)) ]
each_below c (Fork p seps kids next) n h k =
    either (times n kids) refl (each_below c kids n h.1) (each_below c next n h.2)
  where
    either : (m : ℕ) → times n kids ≡ m → (0 < times n kids → n < c) → (0 < times n next → n < c) → n < c
    either zero e a b = elim (cases_eq n p) [ inl q ↦ omega (arith, q, h.0) | inr d ↦ b (omega (arith, k, e, once_other n p d)) ]
    either (suc m) e a b = a (omega (arith, e))

module _ {S : Type 0} {g : Ghosts S} where
  pub freeing_begins : {shape : Shape} {noted : SpaceNotes} {s : S} {tree : Tree} (owners : List Kind) (t : Forest) → StandsTree g shape s tree owners t → IsFreeing g shape noted noted s tree owners t (tree.root ∷ []) 0
  freeing_begins {shape} {noted} {s} {tree} owners t h = record {
    left = t;
    given = [];
    heads_are = h.held.is_tree.head;
    holds = h.held.is_tree.holds;
    matched = Fits-matched None None [] t h.held.is_tree.fits;
    counts = λ n. omega arith;
    map = h.map;
    notes = λ r. r;
    done = refl;
  }

  pub freeing_ends : {shape : Shape} {before noted : SpaceNotes} {now : S} {tree : Tree} (owners : List Kind) (t : Forest) (steps : ℕ) → IsFreeing g shape before noted now tree owners t [] steps → FreesTree g shape before noted now owners t
  freeing_ends {shape} {before} {noted} {now} {tree} owners t steps f = record {
    given = reverse f.given;
    counts = λ n. omega (arith, times_among-reverse n f.given, f.counts n, ap (times n) (no_heads f.left f.heads_are));
    map = subst (HoldsMap g shape now) (sym (without_pages-reverse shape owners f.given)) f.map;
    notes = λ right. subst (AreRightNotes shape noted) (sym (without_pages-reverse shape owners f.given)) (f.notes right);
  }

  -- a page that is to be done is one of the tree, and wasn't given back
  pub freeing_page : {shape : Shape} {before noted : SpaceNotes} {s now : S} {tree : Tree} (owners : List Kind) (t : Forest) (todo : List ℕ) (page steps : ℕ) → StandsTree g shape s tree owners t
      → IsFreeing g shape before noted now tree owners t (todo ++ page ∷ []) steps → 0 < times page t
  freeing_page {shape} {before} {noted} {s} {now} {tree} owners t todo page steps h f =
      let l = split_last f.left todo page f.heads_are in
      omega (arith, f.counts page, ap (times page) l.whole, times-and page l.init l.last, place_times l.last l.last [] page refl l.heads_last)

  freeing_used : {shape : Shape} {before noted : SpaceNotes} {s now : S} {tree : Tree} (owners : List Kind) (t : Forest) (todo : List ℕ) (steps p : ℕ) → StandsTree g shape s tree owners t
      → (f : IsFreeing g shape before noted now tree owners t todo steps) → 0 < times p f.left → IsUsedPage shape (owners_without shape owners f.given) p
  freeing_used {shape} {before} {noted} {s} {now} {tree} owners t todo steps p h f l =
      (used_still shape owners f.given p (h.used p (omega (arith, l, f.counts p)))
      (λ q k. (h.used q (omega (arith, k, f.counts q))).page) (omega (arith, l, f.counts p, h.held.is_tree.distinct p)))

  pub freeing_used_page : {shape : Shape} {before noted : SpaceNotes} {s now : S} {tree : Tree} (owners : List Kind) (t : Forest) (todo : List ℕ) (page steps : ℕ) → StandsTree g shape s tree owners t
      → (f : IsFreeing g shape before noted now tree owners t (todo ++ page ∷ []) steps) → IsUsedPage shape (owners_without shape owners f.given) page
  freeing_used_page {shape} {before} {noted} {s} {now} {tree} owners t todo page steps h f =
      let l = split_last f.left todo page f.heads_are in
      freeing_used owners t (todo ++ page ∷ []) steps page h f
      (omega (arith, ap (times page) l.whole, times-and page l.init l.last, place_times l.last l.last [] page refl l.heads_last))

  -- so it is a node
  pub freeing_node : {shape : Shape} {before noted : SpaceNotes} {now : S} {tree : Tree} (owners : List Kind) (t : Forest) (todo : List ℕ) (page steps : ℕ)
      → IsFreeing g shape before noted now tree owners t (todo ++ page ∷ []) steps
      → ((items : List Entry) → nodes_in tree.width (g.state now) page ≡ LeafNode items → ⊥) → ((seps : List Entry) (children : List ℕ) → nodes_in tree.width (g.state now) page ≡ InnerNode seps children → ⊥) → ⊥
  freeing_node {shape} {before} {noted} {now} {tree} owners t todo page steps f leaf inner =
      let l = split_last f.left todo page f.heads_are in
      go l.last l.heads_last (EachNode-from_and (HasNode (nodes_in tree.width (g.state now))) l.init l.last (subst (HoldsForest (nodes_in tree.width (g.state now))) l.whole f.holds)).1
    where
      go : (last : Forest) → heads last ≡ page ∷ [] → HoldsForest (nodes_in tree.width (g.state now)) last → ⊥
      go Nil e h = cc
      go (Leaf p items next) e h = let same : p ≡ page = cc in leaf items (ap (nodes_in tree.width (g.state now)) (sym same) ∙ h.0)
      go (Fork p seps kids next) e h = let same : p ≡ page = cc in inner seps (heads kids) (ap (nodes_in tree.width (g.state now)) (sym same) ∙ h.0)

  -- no more pages are given back than there are
  pub freeing_few : {shape : Shape} {before noted : SpaceNotes} {s now : S} {tree : Tree} (owners : List Kind) (t : Forest) (todo : List ℕ) (page steps : ℕ) → StandsTree g shape s tree owners t
      → IsFreeing g shape before noted now tree owners t (todo ++ page ∷ []) steps → steps < length (g.state s).work
  freeing_few {shape} {before} {noted} {s} {now} {tree} owners t todo page steps h f =
      let l = split_last f.left todo page f.heads_are in
      let some : 0 < times page f.left = omega (arith, ap (times page) l.whole, times-and page l.init l.last, place_times l.last l.last [] page refl l.heads_last) in
      let few = few_among (length (g.state s).work) (page ∷ f.given)
      (λ n. elim (cases_eq n page) [
        | inl e ↦ let one : 0 < times n f.left = subst (λ (v : ℕ). 0 < times v f.left) (sym e) some in omega (arith, one, f.counts n, h.held.is_tree.distinct n, once_least n page)
        | inr d ↦ omega (arith, f.counts n, h.held.is_tree.distinct n, once_other n page d)
      ])
      (λ n k. below_count n (elim (cases_eq n page) [
        | inl e ↦ let one : 0 < times n f.left = subst (λ (v : ℕ). 0 < times v f.left) (sym e) some in omega (arith, one, f.counts n)
        | inr d ↦ omega (arith, k, f.counts n, once_other n page d)
      ])) in
      omega (arith, few, f.done)
    where
      below_count : (n : ℕ) → 0 < times n t → n < length (g.state s).work
      below_count n k = each_below (length (g.state s).work) t n (tree_below h.held) k

  -- one page more is given back
  pub freeing_goes_on : {shape : Shape} {before noted after : SpaceNotes} {s now mid new : S} {tree : Tree} {Kd : ℕ → Type 0} {Br : Damage → Type 0} (owners : List Kind) (t : Forest) (todo : List ℕ) (page steps : ℕ) (more : List ℕ)
      → StandsTree g shape s tree owners t → IsFreeing g shape before noted now tree owners t (todo ++ page ∷ []) steps
      → Steady g now mid → (g.state mid).work ≡ (g.state now).work → Continues (nodes_in tree.width (g.state now) page) todo more
      → ((os : List Kind) → HoldsMap g shape mid os → HoldsMap g shape new (without_page shape os page))
      → ((os : List Kind) → HoldsMap g shape mid os → AreRightNotes shape noted os → AreRightNotes shape after (without_page shape os page))
      → RunsOverPages g (OnlyPage (map_page_of (extent_of shape page))) Kd Br mid new None
      → IsFreeing g shape before after new tree owners t more (steps + 1)
  freeing_goes_on {shape} {before} {noted} {after} {s} {now} {mid} {new} {tree} {Kd} {Br} owners t todo page steps more h f steady same c gives right run =
      let l = split_last f.left todo page f.heads_are in
      let held = EachNode-from_and (HasNode (nodes_in tree.width (g.state now))) l.init l.last (subst (HoldsForest (nodes_in tree.width (g.state now))) l.whole f.holds) in
      let match = EachNode-from_and IsMatchedNode l.init l.last (subst (EachNode IsMatchedNode) l.whole f.matched) in
      go l.init l.last l.whole l.heads_init l.heads_last held.0 held.1 match.0 match.1
    where
      owners_now : List Kind
      owners_now = owners_without shape owners f.given

      map_mid : HoldsMap g shape mid owners_now
      map_mid = holds_map_same steady.is_told same f.map

      -- a page of the tree isn't on the map
      stays : (n : ℕ) → 0 < times n f.left → nodes_in tree.width (g.state new) n ≡ nodes_in tree.width (g.state now) n
      stays n k =
          let u = freeing_used owners t (todo ++ page ∷ []) steps n h f k in
          let here = freeing_used_page owners t todo page steps h f in
          let m = is_map_page shape (extent_of shape page) (map_page_of (extent_of shape page)) (extent_below shape page here.page) refl in
          nodes_kept g (OnlyPage (map_page_of (extent_of shape page))) mid new tree.width n run.touches run.works.steady.is_told
          (omega (arith, each_below (length (g.state now).work) f.left n (HoldsForest-below tree.width (g.state now) f.left f.holds) k, ap length same))
          (λ (e : n ≡ map_page_of (extent_of shape page)). omega (arith, e, m.1, u.page.behind))
          ∙ nodes_same tree.width (g.state now) (g.state mid) n steady.is_told same

      goes : (left : Forest) → heads left ≡ more → HoldsForest (nodes_in tree.width (g.state now)) left → EachNode IsMatchedNode left → ((n : ℕ) → times n left + once n page ≡ times n f.left)
          → IsFreeing g shape before after new tree owners t more (steps + 1)
      goes left e k m z = record {
        left = left;
        given = page ∷ f.given;
        heads_are = e;
        holds = HoldsForest-agree (nodes_in tree.width (g.state now)) (nodes_in tree.width (g.state new)) left (λ n l. stays n (omega (arith, l, z n))) k;
        matched = m;
        counts = λ n. omega (arith, z n, f.counts n);
        map = gives owners_now map_mid;
        notes = λ r. right owners_now map_mid (f.notes r);
        done = omega (arith, f.done);
      }

      go : (init last : Forest) → f.left ≡ init & last → heads init ≡ todo → heads last ≡ page ∷ [] → HoldsForest (nodes_in tree.width (g.state now)) init → HoldsForest (nodes_in tree.width (g.state now)) last
          → EachNode IsMatchedNode init → EachNode IsMatchedNode last → IsFreeing g shape before after new tree owners t more (steps + 1)
      go init (Leaf p items Nil) w i e hi hl mi ml =
          let same_page : p ≡ page = cc in
          let node : nodes_in tree.width (g.state now) page ≡ LeafNode items = ap (nodes_in tree.width (g.state now)) (sym same_page) ∙ hl.0 in
          let more_is : more ≡ todo = subst (λ (v : Node). Continues v todo more) node c in
          goes init (i ∙ sym more_is) hi mi (λ n. omega (arith, ap (times n) w, times-and n init (Leaf p items Nil), ap (once n) same_page))
      go init (Fork p seps kids Nil) w i e hi hl mi ml =
          let same_page : p ≡ page = cc in
          let node : nodes_in tree.width (g.state now) page ≡ InnerNode seps (heads kids) = ap (nodes_in tree.width (g.state now)) (sym same_page) ∙ hl.0 in
          let more_is : more ≡ todo ++ heads kids = (subst (λ (v : Node). Continues v todo more) node c) ml.0 in
          goes (init & kids) (heads-and init kids ∙ ap (λ (l : List ℕ). l ++ heads kids) i ∙ sym more_is) (EachNode-and (HasNode (nodes_in tree.width (g.state now))) init kids hi hl.1) (EachNode-and IsMatchedNode init kids mi ml.1)
          (λ n. omega (arith, ap (times n) w, times-and n init (Fork p seps kids Nil), times-and n init kids, ap (once n) same_page))
      go init last w i e hi hl mi ml = absurd (omega (arith, ap length e))
